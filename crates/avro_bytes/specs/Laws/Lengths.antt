-- Lengths: what is read is spelled so, what is spelled is read, and the first fault, both ways.
use Rattle.std.proofs.Common.{◌≡◌, ◌≢◌, ℕ, ◌+◌, ◌≤◌, List, ◌++◌, length, drop, Bool, true, false, cond, ltb, ℤ, pos, negsuc, refl, sym, ap, subst, ◌∙◌, arith, inl, inr, lit<}
use Rattle.std.proofs.lemmas.Bool.{cases_lt, le-ltb, lt-ltb, ltb-false}
use Rattle.spec_avro.specs.declared.malformed.MalformedKind.TheVariants.{BadLength}
use Rattle.spec_avro.specs.declared.limits.TheConstants.{MOST_CONTENT}
use Rattle.spec_avro.specs.declared.meter.Meter.{Meter}
use Rattle.spec_decoding.specs.Decoding.{Complete, Decoding, Failed, ◌>>=◌}
use Rattle.avro_bytes.specs.Decoding.{Stands}
use Rattle.spec_avro.specs.Defect.{Defect, Malformed, Need}
use Rattle.spec_avro.specs.Fault.{FaultyLength, FaultyNumber, IsBadLength, IsLength}
use Rattle.avro_bytes.specs.Fault.{HasDefect, failing}
use Rattle.spec_avro.specs.Length.{SpellsLength}
use Rattle.spec_decoding.specs.LengthDecoding.{length_at, length_of}
use Rattle.spec_avro.specs.Number.{IsNumber, long_limit}
use Rattle.spec_decoding.specs.NumberDecoding.{number_at}
use Rattle.avro_bytes.specs.Laws.Binds.{complete_is, defect_as, defect_then, failing_then, then_complete, then_steady}
use Rattle.avro_bytes.specs.Laws.Defects.{number_defect, number_told}
use Rattle.avro_bytes.specs.Laws.Numbers.{number_again, number_sound, number_steady}

checked : (b : Bool) (k at mid : ℕ) (m : Meter) (n to : ℕ) (after : Meter) → cond b (Failed (Malformed BadLength at)) (Complete k mid m) ≡ Complete n to after → (b ≡ false) × (k ≡ n) × (mid ≡ to) × (m ≡ after)
checked true k at mid m n to after e = absurd cc
checked false k at mid m n to after e = let w = complete_is e in (refl, w.0, w.1, w.2)

pub length_is : (at : ℕ) (z : ℤ) (mid : ℕ) (m : Meter) (n to : ℕ) (after : Meter) → length_of at z mid m ≡ Complete n to after → (n ≤ MOST_CONTENT) × (z ≡ pos n) × (mid ≡ to) × (m ≡ after)
length_is at (pos k) mid m n to after e =
    let w = checked (ltb MOST_CONTENT k) k at mid m n to after e in
    (subst (λ (x : ℕ). x ≤ MOST_CONTENT) w.1 (ltb-false MOST_CONTENT k w.0), ap pos w.1, w.2, w.3)
length_is at (negsuc k) mid m n to after e = absurd cc

pub length_sound : (all : List ℕ) (at : ℕ) (m : Meter) (n to : ℕ) (after : Meter) → length_at all at m ≡ Complete n to after → Stands (SpellsLength n) all at to × (m ≡ after)
unfolding length_at
length_sound all at m n to after e =
    let t = then_complete (number_at long_limit all at m) (length_of at) n to after e in
    let s = number_sound long_limit all at m t.first t.mid t.meter (lit< tt) t.first_is in
    let p = length_is at t.first t.mid t.meter n to after t.next_is in
    let made : Stands (SpellsLength n) all at t.mid = record {
      bytes = s.0.bytes;
      rest = s.0.rest;
      parts = s.0.parts;
      end = s.0.end;
      spelled = (p.0, subst (λ (z : ℤ). IsNumber long_limit z s.0.bytes) p.1 s.0.spelled);
    } in
    (subst (Stands (SpellsLength n) all at) p.2 made, s.1 ∙ p.3)

pub length_again : (before bytes rest : List ℕ) (n : ℕ) (m : Meter) → SpellsLength n bytes → length_at (before ++ (bytes ++ rest)) (length before) m ≡ Complete n (length before + length bytes) m
unfolding length_at
length_again before bytes rest n m s =
    ap (λ (x : Decoding ℤ). x >>= length_of (length before)) (number_again long_limit before bytes rest (pos n) m s.1)
    ∙ rw (le-ltb MOST_CONTENT n s.0) refl

pub length_steady : (all more : List ℕ) (at : ℕ) (m : Meter) → at ≤ length all → length_at all at m ≢ Failed Need → length_at (all ++ more) at m ≡ length_at all at m
unfolding length_at
length_steady all more at m le c = then_steady (number_at long_limit all at m) (number_at long_limit (all ++ more) at m) (length_of at) (length_of at) (number_steady long_limit all more at m le) (λ z mid after e d. refl) c

-- ---- the first fault

number_in_length : (bytes : List ℕ) (d : Defect) → FaultyNumber long_limit bytes d → FaultyLength bytes d
number_in_length bytes (Malformed kind offset) f = inl f
number_in_length bytes Need f = f

number_defects : (all : List ℕ) (at : ℕ) (z : ℤ) (mid : ℕ) (m : Meter) → Stands (IsNumber long_limit z) all at mid → HasDefect (length_of at z mid m) at (FaultyLength (drop at all))
number_defects all at (negsuc k) mid m s =
    let wrong : IsBadLength (drop at all) = record { len = s.bytes; rest = s.rest; n = negsuc k; parts = s.parts; number = s.spelled; bad = λ h. h } in
    (0, omega arith, inr (wrong, refl, refl))
number_defects all at (pos k) mid m s =
    elim (cases_lt MOST_CONTENT k) [
      | inl long ↦ (
          let wrong : IsBadLength (drop at all) = record { len = s.bytes; rest = s.rest; n = pos k; parts = s.parts; number = s.spelled; bad = λ h. absurd (omega arith) } in
          rw (lt-ltb MOST_CONTENT k long) (0, omega arith, inr (wrong, refl, refl)))
      | inr short ↦ rw (le-ltb MOST_CONTENT k short) tt
    ]

pub length_defect : (all : List ℕ) (at : ℕ) (m : Meter) → HasDefect (length_at all at m) at (FaultyLength (drop at all))
unfolding length_at
length_defect all at m =
    defect_then (number_at long_limit all at m) (length_of at) at (FaultyLength (drop at all))
    (defect_as (number_at long_limit all at m) at (FaultyNumber long_limit (drop at all)) (FaultyLength (drop at all)) (number_in_length (drop at all)) (number_defect long_limit all at m (lit< tt)))
    (λ z mid after e. number_defects all at z mid after (number_sound long_limit all at m z mid after (lit< tt) e).0)

bad_is_told : (at : ℕ) (z : ℤ) (mid : ℕ) (m : Meter) → ¬ (IsLength z) → length_of at z mid m ≡ Failed (Malformed BadLength at)
bad_is_told at (negsuc k) mid m wrong = refl
bad_is_told at (pos k) mid m wrong =
    elim (cases_lt MOST_CONTENT k) [
      | inl long ↦ rw (lt-ltb MOST_CONTENT k long) refl
      | inr short ↦ absurd (wrong short)
    ]

pub length_told : (before bytes : List ℕ) (m : Meter) (d : Defect) → FaultyLength bytes d → length_at (before ++ bytes) (length before) m ≡ failing (length before) d
unfolding length_at
length_told before bytes m Need f =
    ap (λ x. x >>= length_of (length before)) (number_told long_limit before bytes m Need f)
length_told before bytes m (Malformed kind offset) (inl f) =
    ap (λ x. x >>= length_of (length before)) (number_told long_limit before bytes m (Malformed kind offset) f) ∙ failing_then (length before) (Malformed kind offset) (length_of (length before))
length_told before bytes m (Malformed kind offset) (inr f) =
    let b = f.0 in
    let all = before ++ bytes in
    let number : number_at long_limit all (length before) m ≡ Complete b.n (length before + length b.len) m = ap (λ (x : List ℕ). number_at long_limit (before ++ x) (length before) m) b.parts ∙ number_again long_limit before b.len b.rest b.n m b.number in
    ap (λ x. x >>= length_of (length before)) number
    ∙ bad_is_told (length before) b.n (length before + length b.len) m b.bad
    ∙ ap (λ k. Failed (Malformed k (length before))) (sym f.1) ∙ ap (λ k. Failed (Malformed kind k)) (let e : length before ≡ length before + offset = omega (arith, f.2) in e)
