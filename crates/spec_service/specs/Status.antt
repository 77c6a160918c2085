-- The statuses of answers (RFC 9110, section 15).
use Rattle.std.specs.Prelude.{ℕ, List, codes}
use Rattle.spec_service.specs.declared.status.Status.{Status}
use Rattle.spec_service.specs.declared.status.Status.TheVariants as statuses

abbrev pub number_of : Status → ℕ
number_of statuses.Ok = 200
number_of statuses.BadRequest = 400
number_of statuses.NotFound = 404
number_of statuses.MethodNotAllowed = 405
number_of statuses.Conflict = 409
number_of statuses.PayloadTooLarge = 413
number_of statuses.UnprocessableEntity = 422
number_of statuses.InternalServerError = 500
number_of statuses.NotImplemented = 501
number_of statuses.ServiceUnavailable = 503

abbrev pub reason_of : Status → List ℕ
reason_of statuses.Ok = codes "OK"
reason_of statuses.BadRequest = codes "Bad Request"
reason_of statuses.NotFound = codes "Not Found"
reason_of statuses.MethodNotAllowed = codes "Method Not Allowed"
reason_of statuses.Conflict = codes "Conflict"
reason_of statuses.PayloadTooLarge = codes "Payload Too Large"
reason_of statuses.UnprocessableEntity = codes "Unprocessable Entity"
reason_of statuses.InternalServerError = codes "Internal Server Error"
reason_of statuses.NotImplemented = codes "Not Implemented"
reason_of statuses.ServiceUnavailable = codes "Service Unavailable"
