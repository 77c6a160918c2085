-- Symbols that are missing, one after another.
use Rattle.std.proofs.Common.{◌≡◌, ℕ, suc, ◌+◌, ◌<◌, ◌||◌, add-one, drop, get_or, is_none, length, List, ◌∷◌, map, Option, String, Global, string_bytes, sym, ap, ◌∙◌}
use Rattle.std.proofs.Math.Seq.{drop-cons}
use Rattle.spec_avro.specs.Resolution.{symbol_in}
use Rattle.resolver.specs.NextPairs.{some_missing}

pub missing_here : (theirs : List (List ℕ)) (default : Option ℕ) (symbols : List (String Global)) (i : ℕ) (s : String Global) → i < length symbols → s ≡ get_or symbols i s → some_missing theirs default (map string_bytes (drop i symbols)) ≡ is_none (symbol_in theirs default (string_bytes s)) || some_missing theirs default (map string_bytes (drop (i + 1) symbols))
missing_here theirs default symbols i s lt is = rw add-one (ap (λ (x : List (String Global)). some_missing theirs default (map string_bytes x)) (drop-cons symbols i s lt ∙ ap (λ (x : String Global). x ∷ drop (suc i) symbols) (sym is)))
