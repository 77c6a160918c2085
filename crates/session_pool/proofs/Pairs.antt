-- A pair of schemas, as a pass keeps it.
use Rattle.std.proofs.Common.{◌≡◌, List, Some, subst, sym}
use Rattle.spec_avro.specs.Node.{Node}
use Rattle.spec_schema.specs.Schema.{Declaration}
use Rattle.spec_machine.specs.Program.{Program}
use Rattle.spec_sessions.specs.ProgramPair.{Pair}
use Rattle.spec_machine.specs.Simulation.{EachEndIsOutcome, EarlyEndIsOutcome}
use Rattle.spec_machine.specs.Code.{code_of}
use Rattle.session_pool.specs.Pass.{LeadsToOutcomes}

abbrev pair_of : Declaration → Declaration → Program → Pair
pair_of w r P = record { writer = w; reader = r; program = P }

pub leads : (W R : List Node) (w r w' r' : Declaration) (P P' : Program) → W ≡ w.nodes → R ≡ r.nodes → w' ≡ w → r' ≡ r → P' ≡ P → code_of w.nodes r.nodes ≡ Some P → EachEndIsOutcome W R → EarlyEndIsOutcome W R
    → LeadsToOutcomes (record { writer = w'; reader = r'; program = P' })
leads W R w r w' r' P P' a b c d e code each early =
    subst (λ (x : Declaration). LeadsToOutcomes (pair_of x r' P')) (sym c)
    (subst (λ (x : Declaration). LeadsToOutcomes (pair_of w x P')) (sym d)
    (subst (λ (x : Program). LeadsToOutcomes (pair_of w r x)) (sym e) (record {
      code = code;
      each_end = subst (λ (x : List Node). EachEndIsOutcome x r.nodes) a (subst (EachEndIsOutcome W) b each);
      early_end = subst (λ (x : List Node). EarlyEndIsOutcome x r.nodes) a (subst (EarlyEndIsOutcome W) b early);
    })))
