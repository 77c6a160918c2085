-- Arrays and maps have no name, and are seen as such whatever they hold.
use Rattle.std.proofs.Common.{◌≡◌, ℕ, refl}
use Rattle.avro_schema_names.specs.Head.{IsUnnamed}
use Rattle.spec_schema.specs.Head.{head_of_node}
use Rattle.avro_schema.specs.Holder.{holder_node}
use Rattle.avro_schema.specs.declared.holder.Holder.{Holder}
use Rattle.avro_schema.specs.declared.holder.Holder.TheVariants as holders

pub holder-unnamed : (holder : Holder) (n : ℕ) → IsUnnamed (head_of_node (holder_node holder n))
holder-unnamed holders.Array n = λ full. refl
holder-unnamed holders.Map n = λ full. refl

pub holder-head : (holder : Holder) (n m : ℕ) → head_of_node (holder_node holder n) ≡ head_of_node (holder_node holder m)
holder-head holders.Array n m = refl
holder-head holders.Map n m = refl
