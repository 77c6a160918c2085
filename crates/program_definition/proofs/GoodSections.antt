-- The statements of each section are good.
use Rattle.std.proofs.Common.{◌≡◌, ℕ, suc, ◌+◌, ◌<◌, ◌≤◌, List, [], ◌∷◌, ◌++◌, length, Option, Some, None, IfSome, refl, sym, subst, arith}
use Rattle.std.specs.Prelude.{slice_get}
use Rattle.spec_avro.specs.Node.{Node, FieldNode, RecordNode}
use Rattle.spec_avro.specs.WellFormed.{FieldsBelow, IsWellFormed}
use Rattle.spec_avro.specs.declared.place.Partner.{Partner}
use Rattle.spec_avro.specs.declared.place.Route.{Route}
use Rattle.spec_avro.specs.Options.{given}
use Rattle.resolver.specs.Partners.{AreRoutes}
use Rattle.spec_avro.specs.Partners.{routes}
use Rattle.spec_avro.specs.Resolution.{field_lists}
use Rattle.resolver.proofs.Within.{routes_within}
use Rattle.spec_machine.specs.declared.instr.Instr.TheVariants as op
use Rattle.spec_machine.specs.declared.limits.TheConstants.{MOST_SLOTS}
use Rattle.spec_machine.specs.Statements.{Statement, Lost, Op, Section, Main, Write, Skip}
use Rattle.spec_machine.specs.Skipping.{K, skip_fields, skip_routine}
use Rattle.spec_machine.specs.Writing.{X, default_bytes, defaults_code, field_code, fields_code, put_in, section, write_routine}
use Rattle.program_definition.proofs.Good.{AllGood, IsRoutine, good_then}
use Rattle.program_definition.proofs.GoodSkips.{good_K}
use Rattle.program_definition.proofs.GoodWrites.{good_X}

-- the fields of both
record AreFields (writers readers : ℕ) (p : List FieldNode × List FieldNode) : Type 0 where
  ours : FieldsBelow writers p.0
  theirs : FieldsBelow readers p.1
  few : length p.1 ≤ MOST_SLOTS

module _ (W R : List Node) (formed : IsWellFormed W) (theirs : IsWellFormed R) where
  abbrev Good : List Statement → Type 0
  Good ls = AllGood W R 1 ls

  good_field : (places : ℕ) → places ≤ MOST_SLOTS → (f : Route) → f.node < length W → (o : Option Partner) → IfSome o (λ p. (p.position < places) × (p.node < length R)) → Good (given o (K W f.node) (λ p. Op (op.Slot p.position) ∷ X W R f.node p.node))
  good_field places few f lt None is = good_K W R formed f.node lt
  good_field places few f lt (Some p) is =
      let slot : p.position < MOST_SLOTS = omega (arith, few, is.0) in
      (λ sizes. slot, good_X W R formed theirs f.node p.node lt is.1)

  good_fields : (places : ℕ) → places ≤ MOST_SLOTS → (all : List Route) → AreRoutes (length W) (length R) places all → Good (fields_code W R all)
  good_fields places few [] are = tt
  good_fields places few (f ∷ others) are = good_then W R 1 1 (field_code W R f) (fields_code W R others) (omega arith) (good_field places few f are.0.node f.partner are.0.partner) (good_fields places few others are.1)

  good_put : (j : ℕ) (bytes : List ℕ) → j < MOST_SLOTS → Good (put_in j bytes)
  good_put j [] slot = tt
  good_put j (b ∷ bytes) slot = let some : 0 < length (b ∷ bytes) = omega arith in (λ sizes. slot, (some, tt))

  good_defaults : (all : List Route) (gs : List FieldNode) (j : ℕ) → j + length gs ≤ MOST_SLOTS → Good (defaults_code all j gs)
  good_defaults all [] j few = tt
  good_defaults all (g ∷ gs) j few = good_then W R 1 1 (put_in j (default_bytes all j g)) (defaults_code all (suc j) gs) (omega arith) (good_put j (default_bytes all j g) (omega (arith, few))) (good_defaults all gs (suc j) (omega (arith, few)))

  good_skipped : (fields : List FieldNode) → FieldsBelow (length W) fields → Good (skip_fields W fields)
  good_skipped [] below = tt
  good_skipped (f ∷ fields) below = good_then W R 1 1 (K W f.node) (skip_fields W fields) (omega arith) (good_K W R formed f.node below.0) (good_skipped fields below.1)

  are_fields : (w r : ℕ) (x y : Option Node) → slice_get W w ≡ x → slice_get R r ≡ y → (p : List FieldNode × List FieldNode) → field_lists x y ≡ Some p → AreFields (length W) (length R) p
  are_fields w r (Some (RecordNode names fs)) (Some (RecordNode others gs)) e f p are =
      let same : (fs, gs) ≡ p = cc in
      let mine = formed.each w (RecordNode names fs) e in
      let their = theirs.each r (RecordNode others gs) f in
      subst (AreFields (length W) (length R)) same (record { ours = mine.0; theirs = their.0; few = their.2 })
  are_fields w r _ _ e f p are = absurd cc

  good_routine : (p : List FieldNode × List FieldNode) → AreFields (length W) (length R) p → AllGood W R 0 (write_routine W R p.0 p.1)
  good_routine p are =
      let all = routes p.0 p.1 in
      let ending = Op op.EndRecord ∷ Op op.Return ∷ [] in
      let few = are.few in (
        λ sizes. few,
        good_then W R 1 0 (fields_code W R all) (defaults_code all 0 p.1 ++ ending) (one_after (defaults_code all 0 p.1))
            (good_fields (length p.1) few all (routes_within (length W) (length R) p.0 p.1 are.ours are.theirs))
            (good_then W R 1 0 (defaults_code all 0 p.1) ending (omega arith) (good_defaults all p.1 0 (omega (arith, few))) (λ sizes. tt, (λ sizes. tt, tt))),
      )
    where
      one_after : (a : List Statement) → 1 ≤ length (a ++ Op op.EndRecord ∷ Op op.Return ∷ []) + 0
      one_after [] = omega arith
      one_after (l ∷ a) = omega arith

  pub good_section : (s : Section) → IsRoutine W R s → AllGood W R 0 (section W R s)
  unfolding section
  good_section Main h = good_then W R 1 0 (X W R 0 0) (Op op.Halt ∷ []) (omega arith) (good_X W R formed theirs 0 0 formed.root theirs.root) (λ sizes. tt, tt)
  good_section (Write w r) h =
      subst (λ o. AllGood W R 0 (given o (Lost ∷ []) (λ p. write_routine W R p.0 p.1))) (sym h.1)
      (good_routine h.0 (are_fields w r (slice_get W w) (slice_get R r) refl refl h.0 h.1))
  good_section (Skip w) h =
      subst (λ n. AllGood W R 0 (skip_routine W n)) (sym h.2)
      (λ sizes. tt, good_then W R 1 0 (skip_fields W h.1) (Op op.Leave ∷ Op op.Return ∷ []) (omega arith) (good_skipped h.1 (formed.each w (RecordNode h.0 h.1) h.2).0) (λ sizes. tt, (λ sizes. tt, tt)))
