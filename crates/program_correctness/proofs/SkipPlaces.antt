-- Code that skips goes forward, and each member of a union has its place.
use Rattle.std.proofs.Common.{◌≡◌, ℕ, suc, ◌≤◌, List, length, refl, ap, arith}
use Rattle.spec_avro.specs.Node.{Node, FieldNode}
use Rattle.spec_machine.specs.Program.{Program}
use Rattle.spec_machine.specs.Statements.{Section}
use Rattle.program_definition.specs.SkipStands.{Skips, SkipsFields, SkipsMembers, SkipsPlain, k_array, k_boolean, k_bytes, k_enum, k_field, k_fixed, k_int, k_last, k_long, k_map, k_member, k_no_field, k_no_member, k_null, k_plain, k_record, k_text, k_union}

module _ (W : List Node) (P : Program) (Begins : Section → ℕ → Type 0) where
  mutual
    pub skips_forward : {pc w q : ℕ} → Skips W P Begins pc w q → pc ≤ q
    skips_forward (k_plain n code) = plain_forward code
    skips_forward (k_union members places t n b j code) = omega (arith, members_forward code)

    pub plain_forward : {pc w q : ℕ} → SkipsPlain W P Begins pc w q → pc ≤ q
    plain_forward (k_null n) = omega arith
    plain_forward (k_boolean n a) = omega arith
    plain_forward (k_int n a) = omega arith
    plain_forward (k_long n a) = omega arith
    plain_forward (k_bytes n a) = omega arith
    plain_forward (k_text n a) = omega arith
    plain_forward (k_fixed names size n a) = omega arith
    plain_forward (k_enum names symbols default n a) = omega arith
    plain_forward (k_array item q n a b code j) = omega (arith, skips_forward code)
    plain_forward (k_map value q n a b t code j) = omega (arith, skips_forward code)
    plain_forward (k_record names fields a n begins here) = omega arith

    pub members_forward : {pc e : ℕ} {members places : List ℕ} → SkipsMembers W P Begins pc members places e → pc ≤ e
    members_forward k_no_member = omega arith
    members_forward (k_last u code) = plain_forward code
    members_forward (k_member q u code j others) = omega (arith, plain_forward code, members_forward others)

  pub fields_forward : {pc q : ℕ} {fields : List FieldNode} → SkipsFields W P Begins pc fields q → pc ≤ q
  fields_forward k_no_field = omega arith
  fields_forward (k_field mid code others) = omega (arith, skips_forward code, fields_forward others)

  pub members_placed : {pc e : ℕ} {members places : List ℕ} → SkipsMembers W P Begins pc members places e → length places ≡ length members
  members_placed k_no_member = refl
  members_placed (k_last u code) = refl
  members_placed (k_member q u code j others) = ap suc (members_placed others)
