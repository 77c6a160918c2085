-- The end of a session that runs a pair's program is the outcome of its bytes, or want of memory.
use Rattle.std.proofs.Common.{◌≡◌, ℕ, List, [], Bool, true, false, Option, Some, None, subst, refl, append-nil, if◌then◌else◌}
use Rattle.std.specs.Prelude.{option_map}
use Rattle.std.specs.Option.{option_and_then}
use Rattle.std.proofs.lemmas.Option.{none-some, same_Some}
use Rattle.spec_avro.specs.Node.{Node}
use Rattle.spec_machine.specs.State as state
use Rattle.spec_machine.specs.State.{State}
use Rattle.spec_machine.specs.Program.{Program}
use Rattle.spec_avro.specs.Outcome.{Outcome}
use Rattle.spec_avro.specs.PayloadOutcome.{IsOutcome}
use Rattle.spec_machine.specs.Code.{code_of}
use Rattle.spec_machine.specs.Alone.{run_alone}
use Rattle.spec_machine.specs.Simulation.{EachEndIsOutcome, EarlyEndIsOutcome, IsOutcomeOf}
use Rattle.spec_sessions.specs.Session.{Session, SessionEnd, Out, OutOfMemory, end_in, session_end, state_of}
use Rattle.spec_sessions.specs.Finishing.{IsEnd}

module _ (W R : List Node) (bytes : List ℕ) (s : State) where
  out_of : (o : Outcome) → s.end ≡ Some (state.Out o) → IsOutcomeOf W R bytes (state.Out o) → IsEnd W R bytes (Out o) s
  out_of o is got = (is, subst (λ (z : Outcome). IsOutcome W R bytes z) (let e = got.1 in cc) got.2)

  by_end : (end : Option state.End) (e : SessionEnd) → s.end ≡ end → ((f : state.End) → s.end ≡ Some f → IsOutcomeOf W R bytes f) → option_map session_end end ≡ Some e → IsEnd W R bytes e s
  by_end None e is each m = absurd (none-some _ m)
  by_end (Some (state.Out o)) e is each m = subst (λ (z : SessionEnd). IsEnd W R bytes z s) (same_Some _ _ m) (out_of o is (each (state.Out o) is))
  by_end (Some (state.Trapped t)) e is each m = absurd (let got = (each (state.Trapped t) is).1 in cc)

  by_memory : (b : Bool) (e : SessionEnd) → (b ≡ true → s.end ≡ None) → ((f : state.End) → s.end ≡ Some f → IsOutcomeOf W R bytes f) → (if b then Some OutOfMemory else option_map session_end s.end) ≡ Some e → IsEnd W R bytes e s
  by_memory true e unended each m = subst (λ (z : SessionEnd). IsEnd W R bytes z s) (same_Some _ _ m) (unended refl)
  by_memory false e unended each m = by_end s.end e refl each m

module _ (W R : List Node) (each : EachEndIsOutcome W R) (early : EarlyEndIsOutcome W R) where
  outcome_of_end : (P : Program) (bytes : List ℕ) (closed : Bool) (n : ℕ) (s : State) (end : state.End) → code_of W R ≡ Some P → run_alone P bytes closed n ≡ Some s → s.end ≡ Some end → IsOutcomeOf W R bytes end
  outcome_of_end P bytes true n s end code runs ends = each P bytes n s end code runs ends
  outcome_of_end P bytes false n s end code runs ends = subst (λ (b : List ℕ). IsOutcomeOf W R b end) (append-nil bytes) (early P bytes [] n s end code runs ends)

  pub end_is : (x : Session) (s : State) (e : SessionEnd) → code_of W R ≡ Some x.program → state_of x ≡ Some s → (x.out_of_memory ≡ true → s.end ≡ None) → end_in x ≡ Some e → IsEnd W R x.bytes e s
  end_is x s e code runs unended ends = by_memory W R x.bytes s x.out_of_memory e unended (λ f. outcome_of_end x.program x.bytes x.closed x.count s f code runs)
      (subst (λ (o : Option State). (if x.out_of_memory then Some OutOfMemory else option_map session_end (option_and_then (λ (t : State). t.end) o)) ≡ Some e) runs ends)
