-- A text that is read is spelled so, one that is spelled is read, and what is decided stays so.
use Rattle.std.proofs.Common.{◌≡◌, ◌≢◌, ℕ, ◌+◌, ◌-◌, ◌≤◌, List, ◌++◌, length, take, drop, Bool, true, false, ap, sym, subst, ◌∙◌, refl, cond, pos, arith, append_assoc}
use Rattle.std.specs.Str.{IsUtf8, is_utf8}
use Rattle.std.proofs.lemmas.List.{drop_at, take_at, length-append}
use Rattle.std.proofs.lemmas.Str.{is_utf8-from_IsUtf8, IsUtf8-from_is_utf8}
use Rattle.spec_avro.specs.declared.malformed.MalformedKind.TheVariants.{BadText}
use Rattle.spec_avro.specs.declared.meter.Meter.{Meter}
use Rattle.avro_bytes.specs.Blob.{content_at}
use Rattle.spec_decoding.specs.Decoding.{Complete, Decoding, Failed, ◌>>=◌}
use Rattle.avro_bytes.specs.Decoding.{Stands}
use Rattle.spec_avro.specs.Defect.{Malformed, Need}
use Rattle.spec_avro.specs.Number.{long_limit}
use Rattle.spec_avro.specs.Text.{IsText}
use Rattle.avro_bytes.specs.Text.{text_at, utf8_only}
use Rattle.avro_bytes.specs.Laws.Binds.{complete_is, then_complete, then_steady}
use Rattle.avro_bytes.specs.Laws.Blobs.{content_again, content_parts, content_steady}
use Rattle.avro_bytes.specs.Laws.Numbers.{number_one_form, pos_is}

not_utf8 : (b : Bool) (content : List ℕ) → is_utf8 content ≡ b → (IsUtf8 content → ⊥) → b ≡ false
not_utf8 true content e bad = absurd (bad (IsUtf8-from_is_utf8 content e))
not_utf8 false content e bad = refl

pub text_complete_is : (bytes content : List ℕ) (at to : ℕ) (m after : Meter) → content_at bytes at m ≡ Complete content to after → IsUtf8 content → text_at bytes at m ≡ Complete content to after
unfolding text_at
text_complete_is bytes content at to m after e text = ap (λ (f : Decoding (List ℕ)). f >>= utf8_only) e ∙ rw (is_utf8-from_IsUtf8 content text) refl

pub text_bad : (bytes content : List ℕ) (at to : ℕ) (m after : Meter) → content_at bytes at m ≡ Complete content to after → (IsUtf8 content → ⊥) → text_at bytes at m ≡ Failed (Malformed BadText (to - length content))
unfolding text_at
text_bad bytes content at to m after e bad = ap (λ (f : Decoding (List ℕ)). f >>= utf8_only) e ∙ rw (not_utf8 (is_utf8 content) content refl bad) refl

utf8_complete : (b : Bool) (content text : List ℕ) (mid to : ℕ) (m after : Meter) → is_utf8 content ≡ b → cond b (Complete content mid m) (Failed (Malformed BadText (mid - length content))) ≡ Complete text to after → IsUtf8 content × (content ≡ text) × (mid ≡ to) × (m ≡ after)
utf8_complete true content text mid to m after t e = let w = complete_is e in (IsUtf8-from_is_utf8 content t, w.0, w.1, w.2)
utf8_complete false content text mid to m after t e = absurd cc

pub text_sound : (all : List ℕ) (at : ℕ) (m : Meter) (text : List ℕ) (to : ℕ) (after : Meter) → text_at all at m ≡ Complete text to after → Stands (IsText text) all at to × (m ≡ after)
unfolding text_at
text_sound all at m text to after e =
    let t = then_complete (content_at all at m) utf8_only text to after e in
    let u = utf8_complete (is_utf8 t.first) t.first text t.mid to t.meter after refl t.next_is in
    let c = content_parts all at m t.first t.mid t.meter t.first_is in
    let made : Stands (IsText t.first) all at t.mid = record {
      bytes = c.len ++ t.first;
      rest = c.rest;
      parts = c.parts ∙ sym (append_assoc c.len t.first c.rest);
      end = omega (arith, c.end, length-append c.len t.first);
      spelled = record { len = c.len; parts = refl; number = c.number; short = c.short; utf8 = u.0 };
    } in
    (subst (λ (v : List ℕ). Stands (IsText v) all at to) u.1 (subst (Stands (IsText t.first) all at) u.2 made), c.same ∙ u.3)

pub text_complete : (before bytes rest text : List ℕ) (m after : Meter) → IsText text bytes → m ≡ after → text_at (before ++ (bytes ++ rest)) (length before) m ≡ Complete text (length before + length bytes) after
text_complete before bytes rest text m after s e =
    let all = before ++ (s.len ++ (text ++ rest)) in
    let same : before ++ (bytes ++ rest) ≡ all = ap (λ (b : List ℕ). before ++ (b ++ rest)) s.parts ∙ ap (λ (b : List ℕ). before ++ b) (append_assoc s.len text rest) in
    let mid = length before + length s.len in
    let both : text_at all (length before) m ≡ Complete text (mid + length text) m = text_complete_is all text (length before) (mid + length text) m m (content_again before s.len text rest m s.number s.short) s.utf8 in
    let end : mid + length text ≡ length before + length bytes = omega (arith, ap length s.parts, length-append s.len text) in
    ap (λ (b : List ℕ). text_at b (length before) m) same ∙ both ∙ ap (λ (k : ℕ). Complete text k m) end ∙ ap (λ (x : Meter). Complete text (length before + length bytes) x) e

pub text_one_form : (a b x y v w : List ℕ) → IsText v a → IsText w b → a ++ x ≡ b ++ y → (a ≡ b) × (v ≡ w)
text_one_form a b x y v w s t e =
    let whole : s.len ++ (v ++ x) ≡ t.len ++ (w ++ y) = sym (append_assoc s.len v x) ∙ ap (λ (k : List ℕ). k ++ x) (sym s.parts) ∙ e ∙ ap (λ (k : List ℕ). k ++ y) t.parts ∙ append_assoc t.len w y in
    let number = number_one_form long_limit s.len t.len (v ++ x) (w ++ y) (pos (length v)) (pos (length w)) s.number t.number whole in
    let len : length v ≡ length w = pos_is number.1 in
    let rest : v ++ x ≡ w ++ y = sym (drop_at s.len (v ++ x) (length s.len) refl) ∙ ap (drop (length s.len)) whole ∙ drop_at t.len (w ++ y) (length s.len) (ap length (sym number.0)) in
    let same : v ≡ w = sym (take_at v x (length v) refl) ∙ ap (take (length v)) rest ∙ take_at w y (length v) (sym len) in
    (s.parts ∙ ap (λ (l : List ℕ). l ++ v) number.0 ∙ ap (λ (k : List ℕ). t.len ++ k) same ∙ sym t.parts, same)

pub text_steady : (all more : List ℕ) (at : ℕ) (m : Meter) → at ≤ length all → text_at all at m ≢ Failed Need → text_at (all ++ more) at m ≡ text_at all at m
unfolding text_at
text_steady all more at m le c =
    then_steady (content_at all at m) (content_at (all ++ more) at m) utf8_only utf8_only (content_steady all more at m le) (λ content mid after e d. refl) c
