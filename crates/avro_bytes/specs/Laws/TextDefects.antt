-- The first fault of a text, both ways: what is reported is there, and what is there is reported.
use Rattle.std.proofs.Common.{◌≡◌, ℕ, ◌+◌, ◌-◌, List, ◌++◌, length, drop, Bool, true, false, cond, refl, sym, ap, ◌∙◌, arith, inl, inr}
use Rattle.std.specs.Str.{IsUtf8, is_utf8}
use Rattle.std.proofs.lemmas.Str.{is_utf8-from_IsUtf8}
use Rattle.spec_avro.specs.declared.malformed.MalformedKind.{MalformedKind}
use Rattle.spec_avro.specs.declared.malformed.MalformedKind.TheVariants.{BadText}
use Rattle.spec_avro.specs.declared.meter.Meter.{Meter}
use Rattle.avro_bytes.specs.Blob.{content_at}
use Rattle.spec_decoding.specs.Decoding.{Complete, Decoding, Failed, ◌>>=◌}
use Rattle.spec_avro.specs.Defect.{Defect, Malformed, Need}
use Rattle.spec_avro.specs.Fault.{FaultyContent, FaultyText, IsBadText}
use Rattle.avro_bytes.specs.Fault.{HasDefect, failing}
use Rattle.avro_bytes.specs.Text.{text_at, utf8_only}
use Rattle.avro_bytes.specs.Laws.Binds.{defect_as, defect_then, failing_then}
use Rattle.avro_bytes.specs.Laws.BlobDefects.{content_defect, content_told}
use Rattle.avro_bytes.specs.Laws.Blobs.{content_again, content_parts}
use Rattle.avro_bytes.specs.Laws.Texts.{text_bad}

abbrev invalid : {V : Type 0} → MalformedKind → ℕ → Decoding V
invalid kind at = Failed (Malformed kind at)

content_in_text : (bytes : List ℕ) (d : Defect) → FaultyContent bytes d → FaultyText bytes d
content_in_text bytes (Malformed kind offset) f = inl f
content_in_text bytes Need f = f

utf8_defect : (b : Bool) (content : List ℕ) (at mid : ℕ) (m : Meter) (P : Defect → Type 0) → is_utf8 content ≡ b → (¬ (IsUtf8 content) → HasDefect (invalid {V = List ℕ} BadText (mid - length content)) at P) → HasDefect (cond b (Complete content mid m) (Failed (Malformed BadText (mid - length content)))) at P
utf8_defect true content at mid m P e bad = tt
utf8_defect false content at mid m P e bad = bad (λ u. let t : is_utf8 content ≡ true = is_utf8-from_IsUtf8 content u in absurd cc)

pub text_defect : (all : List ℕ) (at : ℕ) (m : Meter) → HasDefect (text_at all at m) at (FaultyText (drop at all))
unfolding text_at
text_defect all at m =
    defect_then (content_at all at m) utf8_only at (FaultyText (drop at all))
    (defect_as (content_at all at m) at (FaultyContent (drop at all)) (FaultyText (drop at all)) (content_in_text (drop at all)) (content_defect all at m))
    (λ content mid after e.
    let c = content_parts all at m content mid after e in
    utf8_defect (is_utf8 content) content at mid after (FaultyText (drop at all)) refl (λ u.
    let bad : IsBadText (drop at all) (length c.len) = record { len = c.len; content = content; rest = c.rest; parts = c.parts; number = c.number; short = c.short; bad = u; place = refl } in
    (length c.len, omega (arith, c.end), inr (bad, refl))))

-- ---- and back

content_fault_told : (before bytes : List ℕ) (m : Meter) (d : Defect) → FaultyContent bytes d → text_at (before ++ bytes) (length before) m ≡ failing (length before) d
unfolding text_at
content_fault_told before bytes m d f = ap (λ x. x >>= utf8_only) (content_told before bytes m d f) ∙ failing_then (length before) d utf8_only

pub text_told : (before bytes : List ℕ) (m : Meter) (d : Defect) → FaultyText bytes d → text_at (before ++ bytes) (length before) m ≡ failing (length before) d
text_told before bytes m (Malformed kind offset) (inl f) = content_fault_told before bytes m (Malformed kind offset) f
text_told before bytes m (Malformed kind offset) (inr f) =
    let b = f.0 in
    let all = before ++ bytes in
    let mid = (length before + length b.len) + length b.content in
    let content : content_at all (length before) m ≡ Complete b.content mid m = ap (λ (x : List ℕ). content_at (before ++ x) (length before) m) b.parts ∙ content_again before b.len b.content b.rest m b.number b.short in
    text_bad all b.content (length before) mid m m content b.bad ∙ ap (λ k. Failed (Malformed k (mid - length b.content))) (sym f.1) ∙ ap (λ k. Failed (Malformed kind k)) (let e : mid - length b.content ≡ length before + offset = omega (arith, b.place) in e)
text_told before bytes m Need f = content_fault_told before bytes m Need f
