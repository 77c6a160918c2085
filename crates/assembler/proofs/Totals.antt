-- How many bytes constants have with one more.
use Rattle.std.proofs.Common.{◌≡◌, ℕ, ◌+◌, ◌-◌, ◌≤◌, ◌<◌, List, [], ◌∷◌, ◌++◌, length, arith, subst, sym}
use Rattle.std.proofs.lemmas.List.{length-append}
use Rattle.spec_machine.specs.declared.limits.TheConstants.{MOST_TABLES}
use Rattle.spec_machine.specs.Lengths.{total_length}
use Rattle.spec_machine.specs.Program.{Program}
use Rattle.assembler.specs.Draft.{IsDraft}

pub total_more : {A : Type 0} (lists : List (List A)) (list : List A) → total_length (lists ++ list ∷ []) ≡ total_length lists + length list
total_more [] list = omega arith
total_more (first ∷ lists) list = omega (arith, total_more lists list)

pub one_constant : (P : Program) (room len : ℕ) (bytes : List ℕ) (new : List (List ℕ)) → IsDraft P room → length P.constants < MOST_TABLES → length bytes ≤ room → len ≡ length bytes
    → new ≡ P.constants ++ bytes ∷ [] → IsDraft (record P { constants = new }) (room - len)
one_constant P room len bytes new d few short is e =
    let made : IsDraft (record P { constants = P.constants ++ bytes ∷ [] }) (room - len) = record {
      bytes = omega (arith, d.bytes, total_more P.constants bytes, short, is);
      code = d.code;
      constants = omega (arith, length-append P.constants (bytes ∷ []), few);
      maps = d.maps;
      jumps = d.jumps;
      misses = d.misses;
    } in
    subst (λ (cs : List (List ℕ)). IsDraft (record P { constants = cs }) (room - len)) (sym e) made
