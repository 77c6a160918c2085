-- Bytes that became a string, or did not.
use Rattle.std.proofs.Common.{◌≡◌, ℕ, Bool, true, false, cond, List, Option, Some, Ok, refl, sym, ap, ◌∙◌}
use Rattle.std.specs.Str.{IsUtf8, is_utf8}
use Rattle.std.proofs.lemmas.Str.{IsUtf8-from_is_utf8, is_utf8-from_IsUtf8}
use Rattle.spec_avro.specs.Datum.{TextDatum}
use Rattle.spec_avro.specs.Node.{Node, TextNode}
use Rattle.spec_avro.specs.declared.mismatch.MismatchKind.TheVariants.{BytesNotText}
use Rattle.spec_avro.specs.Resolution.{bytes_for, mismatch}

pub is_text : (bytes : List ℕ) → IsUtf8 bytes → is_utf8 bytes ≡ true
is_text bytes h = is_utf8-from_IsUtf8 bytes h

by_cases : (bytes : List ℕ) (b : Bool) → is_utf8 bytes ≡ b → (IsUtf8 bytes → ⊥) → is_utf8 bytes ≡ false
by_cases bytes false e not = e
by_cases bytes true e not = absurd (not (IsUtf8-from_is_utf8 bytes e))

pub is_no_text : (bytes : List ℕ) → (IsUtf8 bytes → ⊥) → is_utf8 bytes ≡ false
is_no_text bytes not = by_cases bytes (is_utf8 bytes) refl not

pub text_made : (at : Option Node) (w r : ℕ) (bytes text : List ℕ) → at ≡ Some TextNode → IsUtf8 text → text ≡ bytes → bytes_for at w r bytes ≡ Ok (TextDatum text)
text_made at w r bytes text is utf8 same =
    ap (λ (o : Option Node). bytes_for o w r bytes) is
    ∙ ap (λ (b : List ℕ). cond (is_utf8 b) (Ok (TextDatum b)) (mismatch BytesNotText w r)) (sym same)
    ∙ ap (λ (b : Bool). cond b (Ok (TextDatum text)) (mismatch BytesNotText w r)) (is_text text utf8)
