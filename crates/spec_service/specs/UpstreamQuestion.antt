-- What is sent to ask a registry for the schema of an id (Confluent Schema Registry API; RFC 9112, section 3).
use Rattle.std.specs.Prelude.{ℕ, List, [], ◌++◌, codes, decimal, if◌then◌else◌, length, ◌==◌, string_bytes}
use Rattle.spec_service.specs.declared.place.Place.{Place}

-- the field of the credentials and the end of its line; nothing where there are none (RFC 7617, section 2)
abbrev pub authorization_text : List ℕ → List ℕ
authorization_text credentials =
    if length credentials == 0 then [] else codes "authorization: Basic " ++ credentials ++ codes "\r\n"

-- the first line of the request, and its end
abbrev pub request_line_text : List ℕ → ℕ → List ℕ
request_line_text prefix id = codes "GET " ++ prefix ++ codes "/schemas/ids/" ++ decimal id ++ codes " HTTP/1.1\r\n"

-- the request for the schema of an id
abbrev pub question_text : Place → ℕ → List ℕ
question_text place id =
    request_line_text (string_bytes place.prefix) id
    ++ codes "host: " ++ string_bytes place.host
    ++ codes "\r\naccept: " ++ codes "application/vnd.schemaregistry.v1+json"
    ++ codes "\r\nconnection: close\r\n"
    ++ authorization_text (string_bytes place.credentials) ++ codes "\r\n"
