-- The first fault of a content, both ways: what is reported is there, and what is there is reported.
use Rattle.std.proofs.Common.{◌≡◌, ℕ, ◌+◌, List, ◌++◌, length, drop, ap, subst, ◌∙◌, append_assoc, arith, inl, inr}
use Rattle.std.proofs.lemmas.List.{length-append}
use Rattle.spec_avro.specs.declared.meter.Meter.{Meter}
use Rattle.spec_avro.specs.Blob.{FaultyFixed}
use Rattle.avro_bytes.specs.Blob.{content_at, fixed_at}
use Rattle.spec_decoding.specs.Decoding.{Complete, Decoding, Failed, ◌>>=◌}
use Rattle.spec_avro.specs.Defect.{Defect, Malformed, Need}
use Rattle.spec_avro.specs.Fault.{FaultyContent, FaultyLength, ContentNeedsMore, shifted}
use Rattle.avro_bytes.specs.Fault.{HasDefect, failing}
use Rattle.spec_decoding.specs.LengthDecoding.{length_at}
use Rattle.avro_bytes.specs.Laws.Binds.{defect_after, defect_as, defect_then, failing_then, rest_after}
use Rattle.avro_bytes.specs.Laws.Blobs.{sized_content}
use Rattle.avro_bytes.specs.Laws.Fixeds.{fixed_defect, fixed_told}
use Rattle.avro_bytes.specs.Laws.Lengths.{length_again, length_defect, length_sound, length_told}

length_in_content : (bytes : List ℕ) (d : Defect) → FaultyLength bytes d → FaultyContent bytes d
length_in_content bytes (Malformed kind offset) f = f
length_in_content bytes Need f = inl f

need_in_content : (bytes : List ℕ) (n len : ℕ) (d : Defect) (rest : List ℕ) → ((few : FaultyFixed n rest Need) → ContentNeedsMore bytes) → FaultyFixed n rest d → FaultyContent bytes (shifted len d)
need_in_content bytes n len (Malformed kind offset) rest needs f = absurd f
need_in_content bytes n len Need rest needs f = inr (needs f)

pub content_defect : (all : List ℕ) (at : ℕ) (m : Meter) → HasDefect (content_at all at m) at (FaultyContent (drop at all))
unfolding content_at
content_defect all at m =
    defect_then (length_at all at m) (sized_content all) at (FaultyContent (drop at all))
    (defect_as (length_at all at m) at (FaultyLength (drop at all)) (FaultyContent (drop at all)) (length_in_content (drop at all)) (length_defect all at m))
    (λ n mid after e.
    let s = length_sound all at m n mid after e in
    let here : drop mid all ≡ s.0.rest = rest_after s.0.bytes s.0.rest all at mid s.0.parts s.0.end in
    defect_after (fixed_at n all mid after) at (length s.0.bytes) mid (FaultyFixed n (drop mid all)) (FaultyContent (drop at all)) s.0.end
    (λ d f. need_in_content (drop at all) n (length s.0.bytes) d (drop mid all)
    (λ few. record { len = s.0.bytes; content = s.0.rest; n = n; parts = s.0.parts; number = s.0.spelled.1; short = s.0.spelled.0; few = omega (arith, few, ap length here) }) f)
    (fixed_defect n all mid after))

-- ---- and back

length_first_told : (before bytes : List ℕ) (m : Meter) (d : Defect) → FaultyLength bytes d → content_at (before ++ bytes) (length before) m ≡ failing (length before) d
unfolding content_at
length_first_told before bytes m d f = ap (λ x. x >>= sized_content (before ++ bytes)) (length_told before bytes m d f) ∙ failing_then (length before) d (sized_content (before ++ bytes))

need_told : (before bytes : List ℕ) (m : Meter) → ContentNeedsMore bytes → content_at (before ++ bytes) (length before) m ≡ Failed Need
unfolding content_at
need_told before bytes m c =
    let all = before ++ (c.len ++ c.content) in
    let length_is : length_at all (length before) m ≡ Complete c.n (length before + length c.len) m = length_again before c.len c.content c.n m (c.short, c.number) in
    let place : length (before ++ c.len) ≡ length before + length c.len = length-append before c.len in
    let needs : fixed_at c.n ((before ++ c.len) ++ c.content) (length (before ++ c.len)) m ≡ Failed Need = fixed_told c.n (before ++ c.len) c.content m Need c.few in
    let here : fixed_at c.n all (length before + length c.len) m ≡ Failed Need =
    subst (λ (k : ℕ). fixed_at c.n all k m ≡ Failed Need) place (subst (λ (b : List ℕ). fixed_at c.n b (length (before ++ c.len)) m ≡ Failed Need) (append_assoc before c.len c.content) needs) in
    ap (λ (b : List ℕ). content_at (before ++ b) (length before) m) c.parts ∙ ap (λ (x : Decoding ℕ). x >>= sized_content all) length_is ∙ here

pub content_told : (before bytes : List ℕ) (m : Meter) (d : Defect) → FaultyContent bytes d → content_at (before ++ bytes) (length before) m ≡ failing (length before) d
content_told before bytes m (Malformed kind offset) f = length_first_told before bytes m (Malformed kind offset) f
content_told before bytes m Need (inl f) = length_first_told before bytes m Need f
content_told before bytes m Need (inr c) = need_told before bytes m c
