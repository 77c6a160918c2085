-- Statements after statements, by what a node is.
use Rattle.std.proofs.Common.{◌≡◌, ℕ, zero, suc, ◌-◌, List, [], ◌∷◌, ◌++◌, Some, refl, sym, ap, ◌∙◌, arith, append_assoc}
use Rattle.std.specs.Prelude.{slice_get}
use Rattle.spec_avro.specs.Node.{Node}
use Rattle.spec_machine.specs.declared.instr.Instr.{Instr}
use Rattle.spec_machine.specs.Statements.{Statement, Lost, looped}
use Rattle.spec_machine.specs.Skipping.{skip_node, skip_within}
use Rattle.spec_machine.specs.Writing.{write_node, write_within}
use Rattle.program_ir.specs.declared.statements.Statement as rust
use Rattle.program_ir.specs.Statements.{statements_in}

pub skip_none : (W : List Node) (levels n : ℕ) (old new : List Statement) → levels ≡ 0 → new ≡ old ++ Lost ∷ [] → new ≡ old ++ skip_within W levels n
unfolding skip_within
skip_none W levels n old new z h = h ∙ ap (λ l. old ++ l) (ap (λ k. skip_within W k n) (sym z))

-- the code of a node, with a level less
pub skip_more : (W : List Node) (levels n : ℕ) (node : Node) (old new code : List Statement) → (levels ≡ 0 → ⊥) → slice_get W n ≡ Some node → skip_node (skip_within W (levels - 1)) n (Some node) ≡ code → new ≡ old ++ code → new ≡ old ++ skip_within W levels n
unfolding skip_within
skip_more W zero n node old new code some at is h = absurd (some refl)
skip_more W (suc k) n node old new code some at is h =
    let e : suc k - 1 ≡ k = omega arith in
    h ∙ ap (λ l. old ++ l) (sym is ∙ ap (λ j. skip_node (skip_within W j) n (Some node)) e ∙ ap (skip_node (skip_within W k) n) (sym at))

pub write_none : (W R : List Node) (levels w r : ℕ) (old new : List Statement) → levels ≡ 0 → new ≡ old ++ Lost ∷ [] → new ≡ old ++ write_within W R levels w r
unfolding write_within
write_none W R levels w r old new z h = h ∙ ap (λ l. old ++ l) (ap (λ k. write_within W R k w r) (sym z))

pub write_more : (W R : List Node) (levels w r : ℕ) (node : Node) (old new code : List Statement) → (levels ≡ 0 → ⊥) → slice_get W w ≡ Some node → write_node W R (write_within W R (levels - 1)) w r (Some node) ≡ code → new ≡ old ++ code → new ≡ old ++ write_within W R levels w r
unfolding write_within
write_more W R zero w r node old new code some at is h = absurd (some refl)
write_more W R (suc k) w r node old new code some at is h =
    let e : suc k - 1 ≡ k = omega arith in
    h ∙ ap (λ l. old ++ l) (sym is ∙ ap (λ j. write_node W R (write_within W R j) w r (Some node)) e ∙ ap (write_node W R (write_within W R k) w r) (sym at))

-- an opening statement, and the loop of a body that began empty
pub looped_after : (next : ℕ → Instr) (open' : Statement) (old mid new body code : List Statement) → mid ≡ old ++ open' ∷ [] → body ≡ code → new ≡ mid ++ looped next body → new ≡ old ++ open' ∷ looped next code
looped_after next open' old mid new body code em eb en = en ∙ ap (λ l. l ++ looped next body) em ∙ append_assoc old (open' ∷ []) (looped next body) ∙ ap (λ b. old ++ open' ∷ looped next b) eb

-- what is added to no statements
pub body_is : (W R : List Node) (none : List rust.Statement) (new code : List Statement) → none ≡ [] → new ≡ statements_in W R none ++ code → new ≡ code
body_is W R none new code e h = h ∙ ap (λ l. statements_in W R l ++ code) e

-- what is added to one statement
pub key_then : (W R : List Node) (none : List rust.Statement) (key : Statement) (mid new code : List Statement) → none ≡ [] → mid ≡ statements_in W R none ++ key ∷ [] → new ≡ mid ++ code → new ≡ key ∷ code
key_then W R none key mid new code e em en = en ∙ ap (λ l. l ++ code) (em ∙ ap (λ l. statements_in W R l ++ key ∷ []) e)
