use Rattle.avro_datum.proofs.ShortestForm as form
use Rattle.avro_datum.proofs.laws.written_form_is_the_shortest_spelling.Goals as goal

pub returns-clause-spelled : goal.returns-clause-spelled
returns-clause-spelled c = form.written_spelled

pub returns-clause-none_shorter : goal.returns-clause-none_shorter
returns-clause-none_shorter c = form.none_shorter
