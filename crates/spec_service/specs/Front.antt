-- Which head the bytes of a request begin with, as this server reads one (RFC 9112, sections 2 to 5).
use Rattle.std.specs.Prelude.{ℕ, ◌≤◌, List, length}
use Rattle.httparse.specs.Grammar.{ReadsRequest, RequestHead, print_request}
use Rattle.spec_service.specs.declared.limits.TheConstants.{MOST_FIELDS, MOST_HEAD}

-- a head is within the limits, which are this project's own
pub record IsAllowed (head : RequestHead) : Type 0 where
  pub bytes : length (print_request head) ≤ MOST_HEAD
  pub fields : length head.fields ≤ MOST_FIELDS

-- bytes begin with no head (RFC 9112, sections 2 to 5) within the limits
abbrev pub HasNoHead : List ℕ → Type 0
HasNoHead input = (head : RequestHead) (rest : List ℕ) → ReadsRequest input head rest → IsAllowed head → ⊥
