use Rattle.avro_loader.proofs.Images.{one_program}
use Rattle.avro_loader.proofs.laws.image_is_of_one_program.Goals as goal

pub returns : goal.returns
returns c P Q bytes = one_program P Q bytes
