-- The head of an answer (RFC 9112, sections 4 and 5; which fields there are is this project's own).
use Rattle.std.specs.Prelude.{ℕ, List, ◌++◌, codes, decimal}
use Rattle.spec_service.specs.ContentType.{type_name}
use Rattle.spec_service.specs.Status.{number_of, reason_of}
use Rattle.spec_service.specs.declared.content_type.ContentType.{ContentType}
use Rattle.spec_service.specs.declared.status.Status.{Status}

-- the number and the reason of a status line
abbrev pub status_line_of : Status → List ℕ
status_line_of status = decimal (number_of status) ++ codes " " ++ reason_of status

-- the head before a body of n bytes, by the name of its type
abbrev pub head_named : Status → List ℕ → ℕ → List ℕ
head_named status content_type n =
    codes "HTTP/1.1 " ++ status_line_of status
    ++ codes "\r\ncontent-type: " ++ content_type
    ++ codes "\r\ncontent-length: " ++ decimal n
    ++ codes "\r\nconnection: close\r\n\r\n"

-- the head before a body of n bytes
abbrev pub head_of : Status → ContentType → ℕ → List ℕ
head_of status content_type n = head_named status (type_name content_type) n
