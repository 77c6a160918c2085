use Rattle.avro_datum.proofs.OfType as of_type
use Rattle.avro_datum.proofs.laws.spelled_datum_conforms.Goals as goal

pub returns-clause-conforms : goal.returns-clause-conforms
returns-clause-conforms c = of_type.conforms

pub returns-clause-writable : goal.returns-clause-writable
returns-clause-writable c = of_type.writable
