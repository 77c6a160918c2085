-- The law is the lemma `answers_spelled`.
use Rattle.resolver.proofs.Answering.{answers_spelled}
use Rattle.resolver.proofs.laws.answer_is_spelled.Goals as goal

pub returns : goal.returns
returns c = answers_spelled _ _ c.is_well_formed.ensures c.defaults_are_short.ensures c.resolution_is_whole.ensures c.spelled_datum_conforms.ensures.conforms c.spelled_datum_conforms.ensures.writable c.written_form_is_the_shortest_spelling.ensures.spelled
