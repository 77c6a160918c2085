-- A branch, and the parts that it goes to.
use Rattle.std.proofs.Common.{◌≡◌, ◌++◌, ◌∷◌, [], ℕ, zero, suc, ◌+◌, List, length, ap, ◌∙◌, append_assoc, append-nil, arith, length-append, refl}
use Rattle.std.specs.Global.{Vec}
use Rattle.spec_avro.specs.Node.{Node}
use Rattle.spec_machine.specs.declared.instr.Instr.TheVariants as op
use Rattle.spec_machine.specs.Statements.{Statement, Ahead, Branch, begins, branched, one_of}
use Rattle.program_ir.specs.declared.statements.Statement as rust
use Rattle.program_ir.specs.Statements.{jump_statements, statements_in, parts_in}
use Rattle.program_ir.proofs.Appended.{statements_length}

pub jump_is : (far : ℕ) → (far ≡ 0 → ⊥) → Ahead op.Jump far ∷ [] ≡ jump_statements far
jump_is zero some = absurd (some refl)
jump_is (suc far) some = refl

-- how many statements the parts take, with one after each
abbrev pub room : List (Vec rust.Statement) → ℕ
room [] = 0
room (part ∷ parts) = length part.items + 1 + room parts

module _ (W R : List Node) where
  -- all but the jump that the last has not
  room_is : (part : Vec rust.Statement) (parts : List (Vec rust.Statement)) → length (one_of (parts_in W R (part ∷ parts))) + 1 ≡ room (part ∷ parts)
  room_is part [] = omega (arith, statements_length W R part.items)
  room_is part (next ∷ parts) =
      omega (arith, statements_length W R part.items, room_is next parts, length-append (statements_in W R part.items) (Ahead op.Jump (length (one_of (parts_in W R (next ∷ parts))) + 1) ∷ one_of (parts_in W R (next ∷ parts))))

  -- a part, and the jump to where the last ends
  pub part_on : (old mid new : List Statement) (part : Vec rust.Statement) (parts : List (Vec rust.Statement)) (far : ℕ) → mid ≡ old ++ statements_in W R part.items → far ≡ room parts → new ≡ mid ++ jump_statements far → new ++ one_of (parts_in W R parts) ≡ old ++ one_of (parts_in W R (part ∷ parts))
  part_on old mid new part [] far em ef en = append-nil new ∙ en ∙ ap (λ k. mid ++ jump_statements k) ef ∙ append-nil mid ∙ em
  part_on old mid new part (next ∷ parts) far em ef en =
      let rest = one_of (parts_in W R (next ∷ parts)) in
      let e : far ≡ suc (length rest) = omega (arith, ef, room_is next parts) in
      let k : suc (length rest) ≡ length rest + 1 = omega arith in
      ap (λ l. l ++ rest) (en ∙ ap (λ n. mid ++ jump_statements n) e ∙ ap (λ l. l ++ Ahead op.Jump (suc (length rest)) ∷ []) em)
      ∙ append_assoc (old ++ statements_in W R part.items) (Ahead op.Jump (suc (length rest)) ∷ []) rest
      ∙ append_assoc old (statements_in W R part.items) (Ahead op.Jump (suc (length rest)) ∷ rest) ∙ ap (λ n. old ++ (statements_in W R part.items ++ Ahead op.Jump n ∷ rest)) k

  -- the branch, before all parts
  pub branch_put : (old mid : List Statement) (fars : List ℕ) (parts all : List (Vec rust.Statement)) → parts ≡ all → mid ≡ old ++ Branch fars ∷ [] → fars ≡ begins 1 (parts_in W R all) → mid ++ one_of (parts_in W R parts) ≡ old ++ branched (parts_in W R all)
  branch_put old mid fars parts all is em ef =
      ap (λ l. l ++ one_of (parts_in W R parts)) em ∙ append_assoc old (Branch fars ∷ []) (one_of (parts_in W R parts))
      ∙ ap (λ ps. old ++ Branch fars ∷ one_of (parts_in W R ps)) is ∙ ap (λ f. old ++ Branch f ∷ one_of (parts_in W R all)) ef
