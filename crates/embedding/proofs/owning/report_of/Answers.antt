use Rattle.std.proofs.Common.{◌++◌, refl, subst, arith}
use Rattle.std.proofs.lemmas.List.{length-append}
use Rattle.spec_avro.specs.Outcome.{outcome_of}
use Rattle.spec_avro.specs.declared.outcome.Outcome as rust
use Rattle.spec_avro.specs.PayloadOutcome.{IsOutcome}
use Rattle.embedding.proofs.owning.report_of.Goals as goal

pub returns-then-length-room : goal.returns-then-length-room
returns-then-length-room c = λ pair payload is.
    let output = c.in-Done.output.items in (
      c.if-length-room.true,
      c.args.head.now ++ output,
      record {
        output = output;
        is_outcome = subst (λ (o : rust.Outcome). IsOutcome pair.writer pair.reader payload (outcome_of o))
            c.in-Done.is is;
        is_whole = refl;
      },
      omega (arith, length-append c.args.head.now output, c.len.ensures),
    )
