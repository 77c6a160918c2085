-- Statements after statements.
use Rattle.std.proofs.Common.{◌≡◌, ◌++◌, ◌∷◌, [], ℕ, get_or, ◌+◌, ◌<◌, List, length, Option, Some, None, IfSome, ap, subst, ◌∙◌, append_assoc}
use Rattle.std.specs.Prelude.{slice_get}
use Rattle.std.proofs.lemmas.List.{length-map, map-append}
use Rattle.std.proofs.lemmas.Option.{slice_get-get_or}
use Rattle.spec_avro.specs.declared.limits.TheConstants.{MOST_FIELDS}
use Rattle.spec_avro.specs.Node.{Node}
use Rattle.spec_machine.specs.declared.instr.Instr.{Instr}
use Rattle.spec_machine.specs.declared.instr.Instr.TheVariants as op
use Rattle.spec_avro.specs.declared.place.Partner.{Partner}
use Rattle.spec_avro.specs.declared.place.Route.{Route}
use Rattle.spec_avro.specs.Options.{given}
use Rattle.spec_machine.specs.Statements.{Statement, Op, Ahead, Back, looped}
use Rattle.program_ir.specs.declared.statements.Statement as rust
use Rattle.program_ir.specs.Statements.{HasSlot, statements_in, statement_of, slot_statements}

pub statements_on : (W R : List Node) (a b : List rust.Statement) → statements_in W R (a ++ b) ≡ statements_in W R a ++ statements_in W R b
statements_on W R a b = map-append (statement_of W R) a b

pub statements_length : (W R : List Node) (ls : List rust.Statement) → length (statements_in W R ls) ≡ length ls
statements_length W R ls = length-map ls (statement_of W R)

-- a loop, put statement by statement
pub loop_on : (next : ℕ → Instr) (before body one two three : List Statement) (len : ℕ) → len ≡ length body → one ≡ before ++ Ahead next (len + 2) ∷ [] → two ≡ one ++ body → three ≡ two ++ Back (len + 1) ∷ [] → three ≡ before ++ looped next body
loop_on next before body one two three len el e1 e2 e3 =
    e3 ∙ ap (λ l. l ++ Back (len + 1) ∷ []) (e2 ∙ ap (λ l. l ++ body) e1 ∙ append_assoc before (Ahead next (len + 2) ∷ []) body)
    ∙ append_assoc before (Ahead next (len + 2) ∷ body) (Back (len + 1) ∷ [])
    ∙ ap (λ k. before ++ Ahead next (k + 2) ∷ (body ++ Back (k + 1) ∷ [])) el

-- one piece after another
pub two : {A : Type 0} (old mid new a b : List A) → mid ≡ old ++ a → new ≡ mid ++ b → new ≡ old ++ (a ++ b)
two old mid new a b ea eb = eb ∙ ap (λ l. l ++ b) ea ∙ append_assoc old a b

-- ---- the slot of a field, by its partner

module _ (routes : List Route) (i : ℕ) (none : Route) (lt : i < length routes) where
  there : slice_get routes i ≡ Some (get_or routes i none)
  there = slice_get-get_or routes i none lt

  pub slot_some : (p : Partner) → (get_or routes i none).partner ≡ Some p → slot_statements (slice_get routes i) ≡ Op (op.Slot p.position) ∷ []
  slot_some p is = ap slot_statements there ∙ ap (λ o. given o [] (λ q. Op (op.Slot q.position) ∷ [])) is

  pub slot_none : (get_or routes i none).partner ≡ None → slot_statements (slice_get routes i) ≡ []
  slot_none is = ap slot_statements there ∙ ap (λ o. given o [] (λ q. Op (op.Slot q.position) ∷ [])) is

  pub slot_fits : (p : Partner) → (get_or routes i none).partner ≡ Some p → IfSome (slice_get routes i) HasSlot → p.position < MOST_FIELDS
  slot_fits p is slot = subst (λ (o : Option Partner). IfSome o (λ q. q.position < MOST_FIELDS)) is (subst (λ (o : Option Route). IfSome o HasSlot) there slot)
