-- The schemas that the answer rests on.
use Rattle.std.proofs.Common.{inl, inr, refl}
use Rattle.gateway_core.proofs.Found.{at_some}
use Rattle.gateway_core.proofs.named.tell_message.Goals as goal

pub returns-in-Ok-clause-told : goal.returns-in-Ok-clause-told
returns-in-Ok-clause-told g c = inr (inr (record {
  writer = c.in-Ok.field-0.pair.writer;
  reader = c.in-Ok.field-0.pair.reader;
  writer_is = refl;
  reader_is = refl;
  tells = c.in-Ok.ensures.told;
}))

pub returns-in-Some-clause-told : goal.returns-in-Some-clause-told
returns-in-Some-clause-told g c =
    let found = at_some _ _ _ c.in-Some.is c.in-Err.ensures.reader in
    inr (inl (record {
      reader = c.in-Some.reader;
      sight_is = refl;
      is_named = (found.0, found.1);
      fault = c.in-Err.field-0.fault;
      why = found.2;
      answer_is = refl;
    }))
