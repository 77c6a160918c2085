-- Positions: what is read is spelled so, what is spelled is read, and the first fault, both ways.
use Rattle.std.proofs.Common.{◌≡◌, ◌≢◌, ℕ, ◌+◌, ◌<◌, ◌≤◌, List, ◌++◌, length, drop, Bool, true, false, cond, ltb, ℤ, pos, negsuc, refl, sym, ap, subst, ◌∙◌, arith, inl, inr, lit<}
use Rattle.std.proofs.lemmas.Bool.{lt-ltb, le-ltb, cases_lt, ltb-true}
use Rattle.spec_avro.specs.declared.meter.Meter.{Meter}
use Rattle.spec_avro.specs.declared.malformed.MalformedKind.{MalformedKind}
use Rattle.spec_avro.specs.Number.{IsNumber, int_limit}
use Rattle.spec_decoding.specs.NumberDecoding.{number_at}
use Rattle.avro_bytes.specs.Laws.Binds.{complete_is, defect_as, defect_then, failing_then, then_complete, then_steady}
use Rattle.avro_bytes.specs.Laws.Defects.{number_defect, number_told}
use Rattle.avro_bytes.specs.Laws.Numbers.{number_again, number_one_form, number_sound, number_steady, pos_is}
use Rattle.spec_avro.specs.Position.{IsPosition, IsBadPosition, FaultyPosition, SpellsPosition}
use Rattle.spec_decoding.specs.PositionDecoding.{position_at, position_of}
use Rattle.spec_decoding.specs.Decoding.{Complete, Decoding, Failed, ◌>>=◌}
use Rattle.avro_bytes.specs.Decoding.{Stands}
use Rattle.spec_avro.specs.Defect.{Defect, Malformed, Need}
use Rattle.spec_avro.specs.Fault.{FaultyNumber}
use Rattle.avro_bytes.specs.Fault.{HasDefect, failing}

checked : (b : Bool) (bad : MalformedKind) (k at mid : ℕ) (m : Meter) (n to : ℕ) (after : Meter) → cond b (Complete k mid m) (Failed (Malformed bad at)) ≡ Complete n to after → (b ≡ true) × (k ≡ n) × (mid ≡ to) × (m ≡ after)
checked true bad k at mid m n to after e = let w = complete_is e in (refl, w.0, w.1, w.2)
checked false bad k at mid m n to after e = absurd cc

pub position_is : (bad : MalformedKind) (many at : ℕ) (z : ℤ) (mid : ℕ) (m : Meter) (n to : ℕ) (after : Meter) → position_of bad many at z mid m ≡ Complete n to after → (n < many) × (z ≡ pos n) × (mid ≡ to) × (m ≡ after)
position_is bad many at (pos k) mid m n to after e =
    let w = checked (ltb k many) bad k at mid m n to after e in
    (subst (λ (x : ℕ). x < many) w.1 (ltb-true k many w.0), ap pos w.1, w.2, w.3)
position_is bad many at (negsuc k) mid m n to after e = absurd cc

pub position_sound : (bad : MalformedKind) (many : ℕ) (all : List ℕ) (at : ℕ) (m : Meter) (n to : ℕ) (after : Meter) → position_at bad many all at m ≡ Complete n to after → Stands (SpellsPosition many n) all at to × (m ≡ after)
unfolding position_at
position_sound bad many all at m n to after e =
    let t = then_complete (number_at int_limit all at m) (position_of bad many at) n to after e in
    let s = number_sound int_limit all at m t.first t.mid t.meter (lit< tt) t.first_is in
    let p = position_is bad many at t.first t.mid t.meter n to after t.next_is in
    let made : Stands (SpellsPosition many n) all at t.mid = record {
      bytes = s.0.bytes;
      rest = s.0.rest;
      parts = s.0.parts;
      end = s.0.end;
      spelled = (p.0, subst (λ (z : ℤ). IsNumber int_limit z s.0.bytes) p.1 s.0.spelled);
    } in
    (subst (Stands (SpellsPosition many n) all at) p.2 made, s.1 ∙ p.3)

pub position_again : (bad : MalformedKind) (many : ℕ) (before bytes rest : List ℕ) (n : ℕ) (m : Meter) → SpellsPosition many n bytes → position_at bad many (before ++ (bytes ++ rest)) (length before) m ≡ Complete n (length before + length bytes) m
unfolding position_at
position_again bad many before bytes rest n m s =
    let below : n < many = s.0 in
    ap (λ (x : Decoding ℤ). x >>= position_of bad many (length before)) (number_again int_limit before bytes rest (pos n) m s.1)
    ∙ rw (lt-ltb n many below) refl

pub position_complete : (bad : MalformedKind) (many : ℕ) (before bytes rest : List ℕ) (n : ℕ) (m after : Meter) → SpellsPosition many n bytes → m ≡ after → position_at bad many (before ++ (bytes ++ rest)) (length before) m ≡ Complete n (length before + length bytes) after
position_complete bad many before bytes rest n m after s e = position_again bad many before bytes rest n m s ∙ ap (λ (x : Meter). Complete n (length before + length bytes) x) e

pub position_one_form : (many : ℕ) (a b x y : List ℕ) (n k : ℕ) → SpellsPosition many n a → SpellsPosition many k b → a ++ x ≡ b ++ y → (a ≡ b) × (n ≡ k)
position_one_form many a b x y n k s t e = let f = number_one_form int_limit a b x y (pos n) (pos k) s.1 t.1 e in (f.0, pos_is f.1)

pub position_steady : (bad : MalformedKind) (many : ℕ) (all more : List ℕ) (at : ℕ) (m : Meter) → at ≤ length all → position_at bad many all at m ≢ Failed Need → position_at bad many (all ++ more) at m ≡ position_at bad many all at m
unfolding position_at
position_steady bad many all more at m le c = then_steady (number_at int_limit all at m) (number_at int_limit (all ++ more) at m) (position_of bad many at) (position_of bad many at) (number_steady int_limit all more at m le) (λ z mid after e d. refl) c

-- ---- the first fault

number_in_position : (bad : MalformedKind) (many : ℕ) (bytes : List ℕ) (d : Defect) → FaultyNumber int_limit bytes d → FaultyPosition bad many bytes d
number_in_position bad many bytes (Malformed kind offset) f = inl f
number_in_position bad many bytes Need f = f

number_defects : (bad : MalformedKind) (many : ℕ) (all : List ℕ) (at : ℕ) (z : ℤ) (mid : ℕ) (m : Meter) → Stands (IsNumber int_limit z) all at mid → HasDefect (position_of bad many at z mid m) at (FaultyPosition bad many (drop at all))
number_defects bad many all at (negsuc k) mid m s =
    let wrong : IsBadPosition many (drop at all) = record { position = s.bytes; rest = s.rest; n = negsuc k; parts = s.parts; number = s.spelled; bad = λ h. h } in
    (0, omega arith, inr (wrong, refl, refl))
number_defects bad many all at (pos k) mid m s =
    elim (cases_lt k many) [
      | inl below ↦ rw (lt-ltb k many below) tt
      | inr above ↦ (
          let wrong : IsBadPosition many (drop at all) = record { position = s.bytes; rest = s.rest; n = pos k; parts = s.parts; number = s.spelled; bad = λ h. absurd (omega arith) } in
          rw (le-ltb k many above) (0, omega arith, inr (wrong, refl, refl)))
    ]

pub position_defect : (bad : MalformedKind) (many : ℕ) (all : List ℕ) (at : ℕ) (m : Meter) → HasDefect (position_at bad many all at m) at (FaultyPosition bad many (drop at all))
unfolding position_at
position_defect bad many all at m =
    defect_then (number_at int_limit all at m) (position_of bad many at) at (FaultyPosition bad many (drop at all))
    (defect_as (number_at int_limit all at m) at (FaultyNumber int_limit (drop at all)) (FaultyPosition bad many (drop at all)) (number_in_position bad many (drop at all)) (number_defect int_limit all at m (lit< tt)))
    (λ z mid after e. number_defects bad many all at z mid after (number_sound int_limit all at m z mid after (lit< tt) e).0)

bad_is_told : (bad : MalformedKind) (many at : ℕ) (z : ℤ) (mid : ℕ) (m : Meter) → ¬ (IsPosition many z) → position_of bad many at z mid m ≡ Failed (Malformed bad at)
bad_is_told bad many at (negsuc k) mid m wrong = refl
bad_is_told bad many at (pos k) mid m wrong =
    elim (cases_lt k many) [
      | inl below ↦ absurd (wrong below)
      | inr above ↦ rw (le-ltb k many above) refl
    ]

pub position_told : (bad : MalformedKind) (many : ℕ) (before bytes : List ℕ) (m : Meter) (d : Defect) → FaultyPosition bad many bytes d → position_at bad many (before ++ bytes) (length before) m ≡ failing (length before) d
unfolding position_at
position_told bad many before bytes m Need f =
    ap (λ x. x >>= position_of bad many (length before)) (number_told int_limit before bytes m Need f)
position_told bad many before bytes m (Malformed kind offset) (inl f) =
    ap (λ x. x >>= position_of bad many (length before)) (number_told int_limit before bytes m (Malformed kind offset) f) ∙ failing_then (length before) (Malformed kind offset) (position_of bad many (length before))
position_told bad many before bytes m (Malformed kind offset) (inr f) =
    let b = f.0 in
    let all = before ++ bytes in
    let number : number_at int_limit all (length before) m ≡ Complete b.n (length before + length b.position) m = ap (λ (x : List ℕ). number_at int_limit (before ++ x) (length before) m) b.parts ∙ number_again int_limit before b.position b.rest b.n m b.number in
    ap (λ x. x >>= position_of bad many (length before)) number
    ∙ bad_is_told bad many (length before) b.n (length before + length b.position) m b.bad
    ∙ ap (λ k. Failed (Malformed k (length before))) (sym f.1) ∙ ap (λ k. Failed (Malformed kind k)) (let e : length before ≡ length before + offset = omega (arith, f.2) in e)
