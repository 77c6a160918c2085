-- Which answer the bytes from a registry begin with (RFC 9112, sections 4 and 6, as `http1` has them). The limits are
-- this project's own.
use Rattle.std.specs.Prelude.{◌≡◌, ℕ, ◌≤◌, List, length}
use Rattle.httparse.specs.Grammar.{status_code}
use Rattle.http1.specs.declared.conn.Limits.{Limits}
use Rattle.http1.specs.declared.framing.MethodKind.TheVariants.{Other}
use Rattle.http1.specs.Message.{ReadsResponseMessage, Response}
use Rattle.spec_service.specs.declared.upstream_limits.TheConstants.{MOST_CONTENT, MOST_FIELDS, MOST_HEAD}

-- how long a head, the chunk extensions and the trailers may be
abbrev pub limits : Limits
limits = record { max_head_len = MOST_HEAD; max_extensions_len = MOST_HEAD; max_trailers_len = MOST_HEAD }

-- the bytes begin with a response to GET, with this status and this content. It is a final one, and no interim one
-- (1xx, RFC 9110, section 15.2), since nothing asks for those, and it is within the limits.
pub record IsAnswer (received : List ℕ) (status : ℕ) (content : List ℕ) : Type 0 where
  pub response : Response
  pub rest : List ℕ
  pub reads : ReadsResponseMessage limits Other received response rest
  pub status_is : status ≡ status_code response.head
  pub content_is : content ≡ response.body.bytes
  pub is_final : 200 ≤ status
  pub fields : length response.head.fields ≤ MOST_FIELDS
  pub trailers : length response.body.trailers ≤ MOST_FIELDS
  pub size : length content ≤ MOST_CONTENT
