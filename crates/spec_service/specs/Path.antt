-- The parts of a request's target (RFC 3986, sections 3.3 and 3.4; that a query is passed over is this project's own).
use Rattle.std.specs.Prelude.{ℕ, zero, suc, ◌==◌, List}
use Rattle.std.specs.List.{after_first, before_first}

-- the target up to the first question mark
abbrev pub path_of : List ℕ → List ℕ
path_of target = before_first (λ b. b == 63) target

-- the segment at an index: the text after that number of slashes, up to the next one
abbrev pub segment : ℕ → List ℕ → List ℕ
segment zero path = before_first (λ b. b == 47) path
segment (suc n) path = segment n (after_first (λ b. b == 47) path)
