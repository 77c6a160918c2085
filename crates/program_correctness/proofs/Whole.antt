-- A program for a pair of schemas ends with the outcome of its payload, in few enough rows.
use Rattle.std.proofs.Common.{◌≡◌, ℕ, ◌+◌, ◌-◌, ◌*◌, ◌≤◌, Bool, true, false, cond, List, [], ◌∷◌, length, Some, None, Ok, Err, refl, sym, ap, ◌∙◌, subst, arith, slice_get}
use Rattle.std.specs.Prelude.{nat_lt}
use Rattle.spec_avro.specs.declared.malformed.MalformedKind.TheVariants.{Trailing, Truncated}
use Rattle.spec_avro.specs.declared.limits.TheConstants.{MOST_DEPTH, MOST_OUTPUT}
use Rattle.spec_avro.specs.declared.meter.Meter.{Meter}
use Rattle.spec_decoding.specs.Decoding.{Decoding, Complete, Failed}
use Rattle.spec_avro.specs.Defect.{Malformed, Need}
use Rattle.spec_avro.specs.Meter.{start}
use Rattle.avro_bytes.specs.Laws.Binds.{stands_within}
use Rattle.spec_avro.specs.Datum.{Datum}
use Rattle.spec_avro.specs.Node.{Node}
use Rattle.spec_avro.specs.WellFormed.{IsWellFormed}
use Rattle.avro_datum.specs.Decoding.{datum_at}
use Rattle.spec_avro.specs.Spelling.{Spells}
use Rattle.spec_avro.specs.Writing.{written}
use Rattle.avro_datum.specs.Laws.Sound.{datum_sound}
use Rattle.avro_datum.proofs.Payloads.{is_malformed, is_trailing, is_truncated, is_whole}
use Rattle.spec_avro.specs.declared.mismatch.Mismatch.{Mismatch}
use Rattle.spec_avro.specs.Outcome.{Outcome, Done, Mismatched, OutputTooLarge}
use Rattle.spec_avro.specs.Outcome as outcomes
use Rattle.spec_avro.specs.PayloadOutcome.{IsOutcome}
use Rattle.spec_avro.specs.Resolution.{Resolved, resolved}
use Rattle.spec_machine.specs.declared.instr.Instr.TheVariants as op
use Rattle.spec_machine.specs.Program.{Program}
use Rattle.spec_machine.specs.State.{Frame, Out, State, Store, add, start as begin}
use Rattle.spec_machine.specs.Table.{finished, halt, stop}
use Rattle.spec_machine.specs.Statements.{Section, Skip, Write}
use Rattle.program_definition.specs.SkipStands.{SkipRoutine}
use Rattle.program_definition.specs.Stands.{Opening, Routine}
use Rattle.program_correctness.proofs.Effects.{bytes_of}
use Rattle.program_correctness.proofs.Follow.{Comes, Ends, Follows, Takes, end_row, ends_later, ends_on}
use Rattle.program_correctness.proofs.Holding.{Becomes}
use Rattle.program_correctness.proofs.Inside.{takes_inside}
use Rattle.program_correctness.proofs.LookUps.{got, got_below}
use Rattle.program_correctness.proofs.Marks.{stamp}
use Rattle.program_correctness.proofs.Numbers.{lt_true}
use Rattle.isa.specs.Laws.Plain.{lt_false, lt_no}
use Rattle.program_correctness.proofs.Pairs.{all_written}
use Rattle.program_correctness.proofs.Plain.{between, plain_row, row_of_instr}
use Rattle.program_correctness.proofs.Rooms.{IsReady}
use Rattle.program_correctness.proofs.Stores.{store}
use Rattle.program_correctness.proofs.Writing.{Wrote, becomes_ready}

abbrev nothing : Store
nothing = store [] [] None false

no_frames : (frames : List Frame) → length frames ≡ 0 → frames ≡ []
no_frames [] e = refl
no_frames (f ∷ frames) e = absurd (omega arith)

ready_first : IsReady MOST_DEPTH [] nothing
ready_first = record { fit = record { nothing = λ h. absurd cc; few = λ h. lt_no MOST_OUTPUT 0 (omega arith) }; current = refl; has_room = record { room = omega arith; shallow = omega arith; few = omega arith } }

module _ (W R : List Node) (P : Program) (Begins : Section → ℕ → Type 0) (p : List ℕ) (formed : IsWellFormed W)
    (routines : (w r a : ℕ) → Begins (Write w r) a → Routine W R P Begins a w r) (skipped : (w a : ℕ) → Begins (Skip w) a → SkipRoutine W P Begins a w) (opening : Opening W R P Begins) where
  abbrev L : ℕ
  L = length P.code

  abbrev q : ℕ
  q = opening.q

  -- the run comes to its end, which is the outcome
  pub record Finishes : Type 0 where
    pub outcome : Outcome
    pub is_outcome : IsOutcome W R p outcome
    pub last : State
    pub is_end : last.end ≡ Some (Out outcome)
    pub rows : ℕ
    pub taken : Takes P p (length P.code) rows begin last
    pub bound : rows ≤ (last.units + 1) * length P.code + length p

  finishes : (o : Outcome) → IsOutcome W R p o → Ends P p L (q + 1) begin o → Finishes
  finishes o is e =
      let short = got_below P.code q op.Halt opening.halts in
      let none : L * begin.units ≡ 0 = omega arith in
      let inside : e.last.pos ≤ length p = takes_inside P p L e.comes.rows begin e.last e.comes.taken (omega arith) in
      let more : (e.last.units + 1) * L ≡ L * e.last.units + L = omega arith in
      record { outcome = o; is_outcome = is; last = e.last; is_end = e.is_end; rows = e.comes.rows; taken = e.comes.taken; bound = omega (arith, e.comes.bound, short, none, more, inside) }

  -- the row at HALT
  record Halts (to u : ℕ) (t : Store) : Type 0 where
    outcome : Outcome
    is_outcome : IsOutcome W R p outcome
    row : plain_row P p (between q to [] t u) ≡ stop (Out outcome) (between q to [] t u)

  module _ (d : Datum) (to u : ℕ) (m : Meter) (e : datum_at W p 0 0 start ≡ Complete d to m) where
    halt_row : (t : Store) → t.frames ≡ [] → plain_row P p (between q to [] t u) ≡ cond (nat_lt to (length p)) (stop (Out (outcomes.Malformed Trailing to)) (between q to [] t u)) (finished P (between q to [] t u) t.mark t.over)
    halt_row t none = row_of_instr P p (between q to [] t u) op.Halt refl opening.halts ∙ ap (λ (frames : List Frame). halt P p true (between q to [] t u) frames []) none

    trails : (t : Store) → t.frames ≡ [] → nat_lt to (length p) ≡ true → Halts to u t
    trails t none lt = record { outcome = outcomes.Malformed Trailing to; is_outcome = is_trailing W p d to m e (λ same. omega (arith, lt_true to (length p) lt)); row = halt_row t none ∙ rw lt refl }

    module _ (there : nat_lt to (length p) ≡ false) (end : to ≡ length p) where
      -- the row of a store that is known
      known_row : (o : Outcome) (t known : Store) → t.frames ≡ [] → t ≡ known → finished P (between q to [] known u) known.mark known.over ≡ stop (Out o) (between q to [] known u) → plain_row P p (between q to [] t u) ≡ stop (Out o) (between q to [] t u)
      known_row o t known none is row = halt_row t none ∙ rw there (subst (λ (s : Store). finished P (between q to [] s u) s.mark s.over ≡ stop (Out o) (between q to [] s u)) (sym is) row)

      written_out : (f : Datum) → resolved W R 0 0 d ≡ Ok f → (t : Store) → t.frames ≡ [] → t ≡ add (written f) nothing → Halts to u t
      unfolding add
      written_out f r t none is = by_size (nat_lt MOST_OUTPUT (0 + 0 + length (written f))) refl
        where
          by_size : (b : Bool) → nat_lt MOST_OUTPUT (0 + 0 + length (written f)) ≡ b → Halts to u t
          by_size true large = record {
            outcome = OutputTooLarge;
            is_outcome = (d, f, is_whole W p d to m e end, r, omega (arith, lt_true _ _ large));
            row = known_row OutputTooLarge t (store [] [] None true) none (is ∙ rw large refl) refl;
          }
          by_size false small = record {
            outcome = Done (written f);
            is_outcome = (d, f, is_whole W p d to m e end, r, refl, omega (arith, lt_false _ _ small));
            row = known_row (Done (written f)) t (store [] (written f) None false) none (is ∙ rw small refl) refl;
          }

      missed : (why : Mismatch) → resolved W R 0 0 d ≡ Err why → (t : Store) → t.frames ≡ [] → (i : ℕ) (over : Bool) → slice_get P.misses i ≡ Some why → t ≡ stamp i over nothing → Halts to u t
      missed why r t none i over here is = record {
        outcome = Mismatched why;
        is_outcome = (d, is_whole W p d to m e end, r);
        row = known_row (Mismatched why) t (stamp i over nothing) none is (ap (λ (w : Mismatch). stop (Out (Mismatched w)) (between q to [] (stamp i over nothing) u)) (got P.misses i _ why here));
      }

      by_result : (res : Resolved Datum) → resolved W R 0 0 d ≡ res → (t : Store) → t.frames ≡ [] → Becomes P.misses (bytes_of res) nothing t → Halts to u t
      by_result (Ok f) r t none h = written_out f r t none h
      by_result (Err why) r t none h = missed why r t none h.0 h.1 h.2 h.3

    halts : (t : Store) → t.frames ≡ [] → Becomes P.misses (bytes_of (resolved W R 0 0 d)) nothing t → Halts to u t
    halts t none h = by_end (nat_lt to (length p)) refl
      where
        by_end : (b : Bool) → nat_lt to (length p) ≡ b → Halts to u t
        by_end true lt = trails t none lt
        by_end false there =
            let s = datum_sound W p 0 0 start d to m e in
            let le = stands_within (Spells W 0 d) p 0 to (omega arith) s.0 in
            by_result there (omega (arith, le, lt_false _ _ there)) (resolved W R 0 0 d) refl t none h

  by_decoding : (g : Decoding Datum) → datum_at W p 0 0 start ≡ g → Follows P p L (q - 0) begin g (Wrote P p L q [] nothing 0 (λ d. bytes_of (resolved W R 0 0 d))) → Finishes
  by_decoding (Failed (Malformed kind at)) e f = finishes (outcomes.Malformed kind at) (is_malformed W p kind at e) (ends_later P p L (q - 0 + 1) (q + 1) begin (outcomes.Malformed kind at) (omega arith) f)
  by_decoding (Failed Need) e f = finishes (outcomes.Malformed Truncated (length p)) (is_truncated W p e) (ends_later P p L (q - 0 + 1) (q + 1) begin (outcomes.Malformed Truncated (length p)) (omega arith) f)
  by_decoding (Complete d to m) e f =
      let t = f.2.0 in
      let none = no_frames t.frames (becomes_ready P.misses (bytes_of (resolved W R 0 0 d)) MOST_DEPTH [] nothing t ready_first f.2.4).1 in
      let x = halts d to m.units m e t none f.2.4 in
      let c = between q to [] t m.units in
      finishes x.outcome x.is_outcome (ends_on P p L (q - 0) 1 (q + 1) begin c x.outcome (subst (Comes P p L (q - 0) begin) f.2.1 f.1) (ends_later P p L (0 + 1) 1 c x.outcome (omega arith) (end_row P p L 0 c x.outcome x.row)) (omega arith))

  pub whole : Finishes
  whole = by_decoding (datum_at W p 0 0 start) refl (all_written W R P Begins p formed routines skipped MOST_DEPTH 0 0 0 q opening.writes 0 0 [] nothing ready_first)
