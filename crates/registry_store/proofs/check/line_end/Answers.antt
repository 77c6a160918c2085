use Rattle.std.proofs.Common.{◌≡◌, ◌∙◌, ◌∷◌, List, ℕ, Result, Ok, Err, true, take, ap, arith, append-nil}
use Rattle.std.specs.Prelude.{OnOk, is_ok}
use Rattle.std.proofs.lemmas.Bool.{false≢true}
use Rattle.hex.specs.Hex.{encode_lower}
use Rattle.registry_store.specs.Line.{check_of}
use Rattle.registry_store.proofs.check.line_end.Goals as goal

at_ok : {T E P : Type 0} (r : Result T E) → is_ok r ≡ true → OnOk r P → P
at_ok (Ok x) ok p = p
at_ok (Err e) ok p = absurd (false≢true ok)

pub returns : goal.returns
unfolding check_of
returns c =
    let ok : is_ok c.encode_to_slice-written.result ≡ true = grind arith in
    let digits = at_ok c.encode_to_slice-written.result ok c.encode_to_slice-written.ensures.written in
    let copied = c.copy_from_slice.ensures.after in
    let digest = c.digest-digest.ensures in
    ap (λ (x : List ℕ). 32 ∷ x) (append-nil c.copy_from_slice.new.self ∙ copied ∙ digits ∙ ap (λ (x : List ℕ). encode_lower (take 8 x)) digest)
