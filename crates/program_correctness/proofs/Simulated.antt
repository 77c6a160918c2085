-- The program of a pair of schemas, run alone, ends with the outcome of its payload.
use Rattle.std.proofs.Common.{◌≡◌, ℕ, ◌+◌, ◌*◌, ◌^◌, ◌≤◌, ◌<◌, true, List, ◌++◌, length, Some, sym, ap, ◌∙◌, arith}
use Rattle.std.proofs.Math.Nat.{mul-le-mul_right}
use Rattle.spec_avro.specs.declared.limits.TheConstants.{MOST_UNITS, MOST_PAYLOAD}
use Rattle.spec_avro.specs.Node.{Node}
use Rattle.spec_avro.specs.WellFormed.{IsWellFormed}
use Rattle.spec_machine.specs.declared.limits.TheConstants.{MOST_INSTRS}
use Rattle.isa.specs.Bounds.{IsBounded}
use Rattle.spec_machine.specs.Program.{Program}
use Rattle.spec_machine.specs.State.{End, Out, State, start}
use Rattle.spec_machine.specs.Code.{code_of}
use Rattle.program_definition.specs.Linking.{BeginsIn, ProgramIsInRange, ProgramIsLinked}
use Rattle.spec_machine.specs.Alone.{run_alone}
use Rattle.spec_machine.specs.Simulation.{EachEndIsOutcome, EarlyEndIsOutcome, IsOutcomeOf, IsSimulated}
use Rattle.program_correctness.proofs.Runs.{RowsStay, RowsStayBounded, one_end, rows_bounded, runs_stay, takes_rows}
use Rattle.program_correctness.proofs.SameParts.{counted_as}
use Rattle.program_correctness.proofs.Whole.{Finishes, whole}

few_rows : (rows units instrs bytes : ℕ) → rows ≤ (units + 1) * instrs + bytes → units ≤ MOST_UNITS → instrs ≤ MOST_INSTRS → bytes ≤ MOST_PAYLOAD → rows < 2 ^ 64
few_rows rows units instrs bytes bound few short small =
    let more : units + 1 ≤ MOST_UNITS + 1 = omega (arith, few) in
    let most : (units + 1) * instrs ≤ (MOST_UNITS + 1) * instrs = grind (arith, mul-le-mul_right) in
    omega (arith, bound, most, short, small)

module _ (W R : List Node) (formed : IsWellFormed W) (linked : ProgramIsLinked W R) where
  module _ (P : Program) (is : code_of W R ≡ Some P) (payload : List ℕ) where
    run : Finishes W R P (BeginsIn W R (linked P is).listed) payload formed (linked P is).writes (linked P is).skips (linked P is).opening
    run = whole W R P (BeginsIn W R (linked P is).listed) payload formed (linked P is).writes (linked P is).skips (linked P is).opening

    last : State
    last = counted_as run.rows run.last

    runs : run_alone P payload true run.rows ≡ Some last
    unfolding last
    runs = takes_rows P payload (length P.code) run.rows start run.last run.taken 0 ∙ ap (λ (k : ℕ). Some (counted_as k run.last)) (let same : 0 + run.rows ≡ run.rows = omega arith in same)

    each_end_of : (n : ℕ) (s : State) (end : End) → run_alone P payload true n ≡ Some s → s.end ≡ Some end → IsOutcomeOf W R payload end
    unfolding last
    each_end_of n s end r e =
        let same = one_end P payload true n run.rows start s last end (Out run.outcome) r e runs run.is_end in
        let ends : Some end ≡ Some (Out run.outcome) = sym e ∙ ap (λ (x : State). x.end) same ∙ run.is_end in
        (run.outcome, (let out : end ≡ Out run.outcome = cc in out), run.is_outcome)

  pub simulated : ProgramIsInRange W R → IsBounded start → RowsStayBounded → IsSimulated W R
  unfolding last
  simulated ranged begins stays P payload is small =
      let x = run P is payload in
      let bounded = rows_bounded stays P payload true x.rows start (last P is payload) (runs P is payload) begins in
      record { rows = x.rows; last = last P is payload; outcome = x.outcome; runs = runs P is payload; ends = x.is_end; is_outcome = x.is_outcome; bound = x.bound; few = few_rows x.rows x.last.units (length P.code) (length payload) x.bound bounded.units_few (ranged P is).within.code small }

  pub each_end : EachEndIsOutcome W R
  each_end P payload n s end is r e = each_end_of P is payload n s end r e

  pub early_end : RowsStay → EarlyEndIsOutcome W R
  early_end stays P input more n s end is r e = each_end_of P is (input ++ more) n s end (runs_stay stays P input more true n s r) e
