-- The walk over the sections: what a round keeps, and what there is at its end.
use Rattle.std.proofs.Common.{◌≡◌, ℕ, zero, suc, ◌+◌, ◌-◌, ◌<◌, ◌≤◌, List, [], ◌∷◌, ◌++◌, length, take, Some, None, refl, sym, ap, ◌∙◌, arith, length-append}
use Rattle.std.specs.Prelude.{slice_get}
use Rattle.std.proofs.Math.Seq.{take-length}
use Rattle.spec_avro.specs.Node.{Node}
use Rattle.spec_machine.specs.declared.limits.TheConstants.{MOST_INSTRS}
use Rattle.spec_machine.specs.Code.{code_of, statements_of}
use Rattle.spec_machine.specs.Statements.{Section, Main, Statement}
use Rattle.spec_machine.specs.Numbering.{adding, calls_of, named_in, same_section}
use Rattle.spec_machine.specs.Writing.{section}
use Rattle.program_definition.proofs.Going.{Going, done, going_init, going_on, no_room, rounds_left}
use Rattle.program_ir.specs.declared.statements.Statement as rust
use Rattle.program_ir.specs.Statements.{statements_in}
use Rattle.program_compiler.specs.Walking.{AreSectionStatements, start_at}
use Rattle.program_compiler.proofs.Starts.{place_start, starts_next, starts_of}
use Rattle.program_ir.proofs.Appended.{statements_length}

past : (ss : List Section) (i : ℕ) → slice_get ss i ≡ None → length ss ≤ i
past [] i e = omega arith
past (x ∷ ss) zero e = absurd cc
past (x ∷ ss) (suc i) e = let k = past ss i e in omega (arith, k)

module _ (W R : List Node) where
  -- the sections done, as many as there are begins, and their statements
  abbrev pub Walked : List ℕ → List Section → List Statement → Type 0
  Walked starts ss ls = Going (section W R) (length starts) ss ls × (starts ≡ starts_of (section W R) 0 (take (length starts) ss))

  pub walked_init : (starts : List ℕ) (ss : List Section) (statements : List rust.Statement) → starts ≡ [] → ss ≡ Main ∷ [] → statements ≡ [] → Walked starts ss (statements_in W R statements)
  walked_init starts ss statements e1 e2 e3 =
      rw e1 (rw e2 (rw e3 (going_init (section W R), refl)))

  pub walked_on : (starts new_starts : List ℕ) (i at : ℕ) (ss new_ss : List Section) (statements : List rust.Statement) (new_statements : List Statement) (s : Section) → Walked starts ss (statements_in W R statements) → i ≡ length starts → Some s ≡ slice_get ss i → at ≡ length statements → at < MOST_INSTRS → new_starts ≡ starts ++ at ∷ [] → new_ss ≡ adding same_section ss (named_in calls_of (section W R s)) → new_statements ≡ statements_in W R statements ++ section W R s → Walked new_starts new_ss new_statements
  walked_on starts new_starts i at ss new_ss statements new_statements s w count here long lt e1 e2 e3 =
      let at_here : slice_get ss (length starts) ≡ Some s = ap (slice_get ss) (sym count) ∙ sym here in
      let room : length starts < MOST_INSTRS = rounds_left W R (length starts) ss (statements_in W R statements) w.0 (omega (arith, lt, long, statements_length W R statements)) in
      let more : length new_starts ≡ length starts + 1 = ap length e1 ∙ length-append starts (at ∷ []) in
      let from : at ≡ length (statements_of (section W R) (take (length starts) ss)) = long ∙ sym (statements_length W R statements) ∙ ap length w.0.statements in
      rw e2 (rw e3 (rw more (going_on (section W R) (length starts) ss (statements_in W R statements) s w.0 at_here room, e1 ∙ starts_next (section W R) (length starts) at ss s starts at_here w.1 from)))

  pub fewer_left : (starts new_starts : List ℕ) (at : ℕ) (ss : List Section) (statements : List rust.Statement) → Walked starts ss (statements_in W R statements) → at ≡ length statements → at < MOST_INSTRS → new_starts ≡ starts ++ at ∷ [] → MOST_INSTRS - length new_starts < MOST_INSTRS - length starts
  fewer_left starts new_starts at ss statements w long lt e =
      let room : length starts < MOST_INSTRS = rounds_left W R (length starts) ss (statements_in W R statements) w.0 (omega (arith, lt, long, statements_length W R statements)) in
      let more : length new_starts ≡ length starts + 1 = ap length e ∙ length-append starts (at ∷ []) in
      omega (arith, room, more)

  pub too_many : (starts : List ℕ) (i at : ℕ) (ss : List Section) (statements : List rust.Statement) (s : Section) → Walked starts ss (statements_in W R statements) → i ≡ length starts → Some s ≡ slice_get ss i → at ≡ length statements → MOST_INSTRS ≤ at → code_of W R ≡ None
  too_many starts i at ss statements s w count here long le =
      no_room W R (length starts) ss (statements_in W R statements) s w.0 (ap (slice_get ss) (sym count) ∙ sym here) (omega (arith, le, long, statements_length W R statements))

  pub all_walked : (starts : List ℕ) (i : ℕ) (ss : List Section) (statements : List rust.Statement) → Walked starts ss (statements_in W R statements) → i ≡ length starts → None ≡ slice_get ss i → AreSectionStatements W R (record { sections = ss; starts = starts; statements = statements })
  all_walked starts i ss statements w count none_left =
      let over : slice_get ss (length starts) ≡ None = ap (slice_get ss) (sym count) ∙ sym none_left in
      let le : length ss ≤ length starts = past ss (length starts) over in
      let whole : take (length starts) ss ≡ ss = (let e : length starts ≡ length ss = omega (arith, w.0.here, le) in ap (λ n. take n ss) e ∙ take-length ss) in
      let long : length statements ≡ 0 + length (statements_of (section W R) ss) = omega (arith, statements_length W R statements, ap length w.0.statements, ap (λ l. length (statements_of (section W R) l)) whole) in
      let begins : starts ≡ starts_of (section W R) 0 ss = w.1 ∙ ap (starts_of (section W R) 0) whole in
      record {
        starts = λ s. ap (λ l. start_at (record { sections = ss; starts = l; statements = statements }) s) begins ∙ place_start (section W R) [] 0 (length statements) ss s long;
        code = done W R (length starts) ss (statements_in W R statements) w.0 le over;
      }
