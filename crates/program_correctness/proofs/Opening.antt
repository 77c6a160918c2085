-- A row opens a record, an array or a map as decoding does.
use Rattle.std.proofs.Common.{◌≡◌, ℕ, ◌+◌, ◌*◌, ◌≤◌, true, List, Ok, Err, Result, Some, refl, sym, ap, ◌∙◌, subst, arith}
use Rattle.spec_decoding.specs.declared.fault.Fault.{Fault}
use Rattle.spec_avro.specs.declared.meter.Meter.{Meter}
use Rattle.spec_decoding.specs.Decoding.{Decoding, Complete, ◌>>=◌, inside}
use Rattle.spec_decoding.specs.Opening.{opened_blocks, opened_record}
use Rattle.avro_bytes.specs.Laws.Binds.{complete_is}
use Rattle.avro_bytes.specs.Laws.Meters.{blocks_were_opened, was_opened}
use Rattle.spec_machine.specs.Program.{Program}
use Rattle.spec_machine.specs.State.{Frame, State, meter_of}
use Rattle.spec_machine.specs.Table.{next, opens, pushed}
use Rattle.program_correctness.proofs.Follow.{Follows, reads_then}
use Rattle.program_correctness.proofs.Plain.{plain_row}

abbrev pub opening : ℕ → Result Meter Fault → Decoding ℕ
opening at r = inside r (λ m. Complete at at m)

inside_then : {B : Type 0} (r : Result Meter Fault) (at : ℕ) (f : Meter → Decoding B) → inside r f ≡ (opening at r >>= λ u to m. f m)
inside_then (Ok m) at f = refl
inside_then (Err e) at f = refl

pub opening_is : (r : Result Meter Fault) (at a to : ℕ) (m : Meter) → opening at r ≡ Complete a to m → (r ≡ Ok m) × (to ≡ at)
opening_is (Ok w) at a to m e = let x = complete_is e in (ap Ok x.2, sym x.1)
opening_is (Err e) at a to m h = absurd cc

module _ (P : Program) (p : List ℕ) (L : ℕ) where
  -- what comes after the row that opens
  opens_then : {B : Type 0} (j k : ℕ) (frame : Frame) (s : State) (r : Result Meter Fault) (f : Meter → Decoding B) (Q : B → ℕ → Meter → State → Type 0) → plain_row P p s ≡ opens P p true s r frame
      → ((m : Meter) → r ≡ Ok m → 1 + j + (s.pos + L * s.units) ≤ k + (s.pos + L * m.units)) → ((m : Meter) → r ≡ Ok m → Follows P p L j (next s.pos (pushed frame m s)) (f m) Q) → Follows P p L k s (inside r f) Q
  opens_then j k frame s r f Q row pays inner =
      subst (λ g. Follows P p L k s g Q) (sym (inside_then r s.pos f))
      (reads_then P p L k s (opening s.pos r) (λ u to m. f m) _ Q row
      (λ a to m is.
      let o = opening_is r s.pos a to m is in
      record {
        new = next s.pos (pushed frame m s);
        row_is = ap (λ (k : ℕ). Some (next k (pushed frame m s))) o.1;
        left = j;
        follows = inner m o.0;
        pays = pays m o.0;
      }))

  -- a record is a unit more, which pays for its code where that is no longer than L
  pub record_opens : {B : Type 0} (j : ℕ) (frame : Frame) (s : State) (f : Meter → Decoding B) (Q : B → ℕ → Meter → State → Type 0) → plain_row P p s ≡ opens P p true s (opened_record s.pos (meter_of s)) frame → j + 1 ≤ L
      → ((m : Meter) → opened_record s.pos (meter_of s) ≡ Ok m → Follows P p L j (next s.pos (pushed frame m s)) (f m) Q) → Follows P p L 0 s (inside (opened_record s.pos (meter_of s)) f) Q
  record_opens j frame s f Q row le inner =
      opens_then j 0 frame s (opened_record s.pos (meter_of s)) f Q row
      (λ m o.
      let counted = (was_opened s.pos (meter_of s) m o).counted in
      let paid : L * m.units ≡ L * s.units + L = ap (λ (n : ℕ). L * n) counted ∙ omega arith in
      omega (arith, paid, le))
      inner

  -- an array or a map is no unit more
  pub blocks_open : {B : Type 0} (j : ℕ) (frame : Frame) (s : State) (f : Meter → Decoding B) (Q : B → ℕ → Meter → State → Type 0) → plain_row P p s ≡ opens P p true s (opened_blocks s.pos (meter_of s)) frame
      → ((m : Meter) → opened_blocks s.pos (meter_of s) ≡ Ok m → Follows P p L j (next s.pos (pushed frame m s)) (f m) Q) → Follows P p L (j + 1) s (inside (opened_blocks s.pos (meter_of s)) f) Q
  blocks_open j frame s f Q row inner =
      opens_then j (j + 1) frame s (opened_blocks s.pos (meter_of s)) f Q row
      (λ m o.
      let same = (blocks_were_opened s.pos (meter_of s) m o).same_units in
      let paid : L * m.units ≡ L * s.units = ap (λ (n : ℕ). L * n) same in
      omega (arith, paid))
      inner
