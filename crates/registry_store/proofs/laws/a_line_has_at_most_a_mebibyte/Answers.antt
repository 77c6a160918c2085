use Rattle.registry_store.proofs.Lengths.{level_fits, registration_fits}
use Rattle.registry_store.proofs.laws.a_line_has_at_most_a_mebibyte.Goals as goal

pub returns-clause-registration : goal.returns-clause-registration
returns-clause-registration c = registration_fits

pub returns-clause-level : goal.returns-clause-level
returns-clause-level c = level_fits
