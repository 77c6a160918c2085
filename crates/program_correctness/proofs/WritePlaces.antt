-- Code that writes goes forward, and each member of a union has its place.
use Rattle.std.proofs.Common.{◌≡◌, ℕ, suc, ◌≤◌, List, length, refl, ap, arith}
use Rattle.spec_avro.specs.Node.{Node}
use Rattle.spec_machine.specs.Program.{Program}
use Rattle.spec_machine.specs.Statements.{Section}
use Rattle.program_definition.specs.Stands.{Straights, Writes, WritesMembers, WritesPlain, s_array, s_boolean, s_bytes, s_bytes_text, s_enum, s_fixed, s_int, s_lacking, s_long, s_map, s_null, s_record, s_text, x_into, x_last, x_member, x_no_member, x_nowhere, x_plain, x_straight, x_union, x_unmatched}
use Rattle.program_correctness.proofs.SkipPlaces.{skips_forward}

module _ (W R : List Node) (P : Program) (Begins : Section → ℕ → Type 0) where
  mutual
    pub writes_forward : (pc w r q : ℕ) → Writes W R P Begins pc w r q → pc ≤ q
    writes_forward pc w r q (x_plain n code) = plain_forward code
    writes_forward pc w r q (x_union members places t n b j code) = omega (arith, members_forward code)

    pub plain_forward : {pc w r q : ℕ} → WritesPlain W R P Begins pc w r q → pc ≤ q
    plain_forward (x_into j member c e h k code) = omega (arith, straight_forward code)
    plain_forward (x_nowhere m e h k code) = omega (arith, skips_forward W P Begins code)
    plain_forward (x_unmatched m e h k code) = omega (arith, skips_forward W P Begins code)
    plain_forward (x_straight e code) = straight_forward code

    pub straight_forward : {pc w r q : ℕ} → Straights W R P Begins pc w r q → pc ≤ q
    straight_forward (s_null n) = omega arith
    straight_forward (s_boolean n h) = omega arith
    straight_forward (s_int n h) = omega arith
    straight_forward (s_long n h) = omega arith
    straight_forward (s_bytes n u h) = omega arith
    straight_forward (s_bytes_text m n k h is) = omega arith
    straight_forward (s_text n h) = omega arith
    straight_forward (s_fixed names size n h) = omega arith
    straight_forward (s_enum names symbols default t es n h k are) = omega arith
    straight_forward (s_array item other q n k a b code c) = omega (arith, writes_forward _ item other q code)
    straight_forward (s_map value other q n k a b t code c) = omega (arith, writes_forward _ value other q code)
    straight_forward (s_lacking names others fs gs g m n k l h is code) = omega (arith, skips_forward W P Begins code)
    straight_forward (s_record names others fs gs a n k l begins h) = omega arith

    pub members_forward : {pc r e : ℕ} {members places : List ℕ} → WritesMembers W R P Begins pc members r places e → pc ≤ e
    members_forward x_no_member = omega arith
    members_forward (x_last u code) = plain_forward code
    members_forward (x_member q u code j others) = omega (arith, plain_forward code, members_forward others)

  pub members_placed : {pc r e : ℕ} {members places : List ℕ} → WritesMembers W R P Begins pc members r places e → length places ≡ length members
  members_placed x_no_member = refl
  members_placed (x_last u code) = refl
  members_placed (x_member q u code j others) = ap suc (members_placed others)
