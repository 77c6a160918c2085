-- One more piece was appended, and none is left.
use Rattle.std.proofs.Common.{◌∙◌, sym}
use Rattle.std.proofs.lemmas.Bool.{eqb-true}
use Rattle.std.proofs.lemmas.List.{nil_from_length}
use Rattle.command_io.proofs.Digits.{appended, ended}
use Rattle.command_io.proofs.answer.push_digits.Goals as goal

pub loop-rest-preserved : goal.loop-rest-preserved
loop-rest-preserved c =
    appended _ _ _ _ _ _ _ c.in_ok-push_str.ensures.bytes (c.deref.ensures ∙ c.in_ok-encode.ensures) c.split_at.ensures.by_index.0 c.loop-rest.invariant

pub returns : goal.returns
returns c = ended _ _ _ (nil_from_length _ (eqb-true _ _ (sym c.is_empty.ensures ∙ c.loop-rest-test.false))) c.loop-rest.invariant
