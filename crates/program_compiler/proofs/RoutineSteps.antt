-- The statements of routines, one field after another.
use Rattle.std.proofs.Common.{◌≡◌, ℕ, zero, suc, ◌+◌, ◌<◌, ◌≤◌, Bool, false, List, [], ◌∷◌, ◌++◌, length, drop, get_or, Option, Some, None, IfSome, option_map, refl, sym, ap, subst, ◌∙◌, arith, append_assoc}
use Rattle.std.specs.Prelude.{slice_get, ◌==◌, if◌then◌else◌}
use Rattle.std.proofs.Math.Seq.{drop-cons}
use Rattle.std.proofs.lemmas.Option.{slice_get-get_or}
use Rattle.avro_types.specs.declared.kind.Field.{Field}
use Rattle.avro_types.specs.declared.kind.Kind.{Kind}
use Rattle.avro_types.specs.declared.kind.Kind.TheVariants as kinds
use Rattle.avro_types.specs.declared.datum.Datum as rust
use Rattle.spec_avro.specs.declared.limits.TheConstants.{MOST_FIELDS}
use Rattle.avro_types.specs.Datum.{datum_of}
use Rattle.spec_avro.specs.Node.{Node, Names, FieldNode, RecordNode}
use Rattle.avro_types.specs.Node.{field_of, fields_of, node_of}
use Rattle.spec_avro.specs.WellFormed.{FieldsBelow, IsWellFormed}
use Rattle.spec_avro.specs.Writing.{written}
use Rattle.spec_machine.specs.declared.instr.Instr.TheVariants as op
use Rattle.spec_avro.specs.declared.place.Partner.{Partner}
use Rattle.spec_avro.specs.declared.place.Route.{Route}
use Rattle.spec_avro.specs.Options.{given}
use Rattle.resolver.specs.Partners.{AreRoutes, IsRoute}
use Rattle.spec_avro.specs.Partners.{has_partner, partner_at, partners, routes, routes_to}
use Rattle.spec_machine.specs.Statements.{Statement, Lost, Op, Put}
use Rattle.spec_machine.specs.Skipping.{K, skip_routine}
use Rattle.spec_machine.specs.Writing.{X, default_bytes, defaults_code, field_code, fields_code, put_in}
use Rattle.spec_avro.specs.Resolution.{field_lists}
use Rattle.program_ir.specs.declared.statements.Constant.TheVariants as constants
use Rattle.program_ir.proofs.Appended.{two}
use Rattle.program_ir.specs.Statements.{HasSlot, bytes_of, default_of, fields_of_record, slot_statements}
use Rattle.program_compiler.specs.Fields.{read_code}

-- ---- both are records

pub reader_is : (w r : Option Node) (fs gs : List FieldNode) → field_lists w r ≡ Some (fs, gs) → (names : Names) × (r ≡ Some (RecordNode names gs))
reader_is (Some (RecordNode n xs)) (Some (RecordNode m ys)) fs gs e = (m, ap (λ l. Some (RecordNode m l)) (ap (λ o. given o ys (λ p. p.1)) e))
reader_is _ _ fs gs e = absurd cc

pub few_fields : (R : List Node) (w : Option Node) (rn : ℕ) (fs gs : List FieldNode) → IsWellFormed R → field_lists w (slice_get R rn) ≡ Some (fs, gs) → length gs ≤ MOST_FIELDS
few_fields R w rn fs gs formed e = let is = reader_is w (slice_get R rn) fs gs e in (formed.each rn (RecordNode is.0 gs) is.1).2

pub same_fields : (R : List Node) (w : Option Node) (rn : ℕ) (fs gs : List FieldNode) → field_lists w (slice_get R rn) ≡ Some (fs, gs) → fields_of_record (slice_get R rn) ≡ gs
same_fields R w rn fs gs e = ap fields_of_record (reader_is w (slice_get R rn) fs gs e).1

-- ---- where fields go

partner_within : (readers places j : ℕ) (rs : List FieldNode) → FieldsBelow readers rs → length rs ≤ places → IfSome (slice_get rs j) (λ g. (j < places) × (g.node < readers))
partner_within readers places j [] b le = tt
partner_within readers places zero (g ∷ rs) b le = (omega (arith, le), b.0)
partner_within readers zero (suc j) (g ∷ rs) b le = absurd (omega (arith, le))
partner_within readers (suc places) (suc j) (g ∷ rs) b le = further (slice_get rs j) (partner_within readers places j rs b.1 (omega (arith, le))) where
  further : (o : Option FieldNode) → IfSome o (λ g. (j < places) × (g.node < readers)) → IfSome o (λ g. (suc j < suc places) × (g.node < readers))
  further None h = tt
  further (Some g) h = (omega (arith, h.0), h.1)

routes_to_within : (writers readers places : ℕ) (rs ws : List FieldNode) (ps : List (Option ℕ)) → FieldsBelow writers ws → FieldsBelow readers rs → length rs ≤ places → AreRoutes writers readers places (routes_to rs ws ps)
routes_to_within writers readers places rs [] ps a b le = tt
routes_to_within writers readers places rs (f ∷ ws) [] a b le = tt
routes_to_within writers readers places rs (f ∷ ws) (p ∷ ps) a b le = (record { node = a.0; partner = here p }, routes_to_within writers readers places rs ws ps a.1 b le) where
  found : (j : ℕ) (o : Option FieldNode) → IfSome o (λ g. (j < places) × (g.node < readers)) → IfSome (option_map (λ g. record { position = j; node = g.node }) o) (λ (p : Partner). (p.position < places) × (p.node < readers))
  found j None h = tt
  found j (Some g) h = h

  here : (p : Option ℕ) → IfSome (given p None (partner_at rs)) (λ p. (p.position < places) × (p.node < readers))
  here None = tt
  here (Some j) = found j (slice_get rs j) (partner_within readers places j rs b le)

pub routes_within : (writers readers places : ℕ) (ws rs : List FieldNode) → FieldsBelow writers ws → FieldsBelow readers rs → length rs ≤ places → AreRoutes writers readers places (routes ws rs)
routes_within writers readers places ws rs a b le = routes_to_within writers readers places rs ws (partners ws rs) a b le

-- ---- fields

module _ (writers readers : ℕ) (rts : List Route) (i : ℕ) (none : Route) (lt : i < length rts) where
  -- the route of the next field, and those of the others
  pub route_here : AreRoutes writers readers MOST_FIELDS (drop i rts) → IsRoute writers readers MOST_FIELDS (get_or rts i none) × AreRoutes writers readers MOST_FIELDS (drop (i + 1) rts)
  route_here left =
      let e : suc i ≡ i + 1 = omega arith in
      let both = subst (AreRoutes writers readers MOST_FIELDS) (drop-cons rts i none lt) left in
      (both.0, subst (λ k. AreRoutes writers readers MOST_FIELDS (drop k rts)) e both.1)

  pub has_slot : IsRoute writers readers MOST_FIELDS (get_or rts i none) → IfSome (slice_get rts i) HasSlot
  has_slot is = subst (λ (o : Option Route). IfSome o HasSlot) (sym (slice_get-get_or rts i none lt)) (position (get_or rts i none).partner is.partner)
    where
      position : (o : Option Partner) → IfSome o (λ p. (p.position < MOST_FIELDS) × (p.node < readers)) → IfSome o (λ p. p.position < MOST_FIELDS)
      position None h = tt
      position (Some p) h = h.0

-- its slot, and what reads it
module _ (W R : List Node) (rts : List Route) (i : ℕ) (none : Route) where
  one_field : (route : Route) → slot_statements (Some route) ++ read_code W R route ≡ field_code W R route
  one_field route = go route.partner
    where
      go : (o : Option Partner) → given o [] (λ p. Op (op.Slot p.position) ∷ []) ++ given o (K W route.node) (λ p. X W R route.node p.node) ≡ given o (K W route.node) (λ p. Op (op.Slot p.position) ∷ X W R route.node p.node)
      go None = refl
      go (Some p) = refl

  pub field_on : (statements mid new whole : List Statement) → i < length rts → mid ≡ statements ++ slot_statements (slice_get rts i) → new ≡ mid ++ read_code W R (get_or rts i none)
      → statements ++ fields_code W R (drop i rts) ≡ whole → new ++ fields_code W R (drop (i + 1) rts) ≡ whole
  field_on statements mid new whole lt em en so_far =
      let e : i + 1 ≡ suc i = omega arith in
      let route = get_or rts i none in
      let slot = em ∙ ap (λ o. statements ++ slot_statements o) (slice_get-get_or rts i none lt) in
      let both = two statements mid new (slot_statements (Some route)) (read_code W R route) slot en ∙ ap (λ l. statements ++ l) (one_field route) in
      ap (λ k. new ++ fields_code W R (drop k rts)) e
      ∙ ap (λ l. l ++ fields_code W R (drop (suc i) rts)) both
      ∙ append_assoc statements (field_code W R route) (fields_code W R (drop (suc i) rts))
      ∙ ap (λ rs. statements ++ fields_code W R rs) (sym (drop-cons rts i none lt))
      ∙ so_far

-- ---- defaults

put_some : (j : ℕ) (b : List ℕ) → (length b == 0) ≡ false → put_in j b ≡ Op (op.Slot j) ∷ Put b ∷ []
put_some j [] e = absurd cc
put_some j (x ∷ b) e = refl

module _ (rts : List Route) (j : ℕ) (f : Field) (old : List Statement) where
  bytes_there : (has : Bool) (d : rust.Datum) → has ≡ has_partner j rts → has ≡ false → f.default ≡ Some d → default_bytes rts j (field_of f) ≡ written (datum_of d)
  bytes_there has d e no' is = ap (λ b. if b then [] else given (field_of f).default [] written) (sym e ∙ no') ∙ ap (λ o. given (option_map datum_of o) [] written) is

  pub some_default : (R : List Node) (reader : ℕ) (has : Bool) (d : rust.Datum) (blank : Bool) (mid new : List Statement) → has ≡ has_partner j rts → has ≡ false → f.default ≡ Some d → blank ≡ (length (written (datum_of d)) == 0) → blank ≡ false
      → slice_get (fields_of_record (slice_get R reader)) j ≡ Some (field_of f) → mid ≡ old ++ Op (op.Slot j) ∷ [] → new ≡ mid ++ Put (bytes_of R (constants.Default reader j)) ∷ [] → new ≡ old ++ put_in j (default_bytes rts j (field_of f))
  some_default R reader has d blank mid new e no' is b t at em en =
      let bytes : bytes_of R (constants.Default reader j) ≡ written (datum_of d) = ap default_of at ∙ ap (λ o. given (option_map datum_of o) [] written) is in
      two old mid new (Op (op.Slot j) ∷ []) (Put (bytes_of R (constants.Default reader j)) ∷ []) em en
      ∙ ap (λ l. old ++ Op (op.Slot j) ∷ Put l ∷ []) bytes
      ∙ ap (λ l. old ++ l) (sym (put_some j (written (datum_of d)) (sym b ∙ t)))
      ∙ ap (λ l. old ++ put_in j l) (sym (bytes_there has d e no' is))

fields_drop : (rs : List Field) (i : ℕ) (f : Field) → i < length rs → f ≡ get_or rs i f → fields_of (drop i rs) ≡ field_of f ∷ fields_of (drop (suc i) rs)
fields_drop rs i f lt e = ap fields_of (drop-cons rs i f lt) ∙ ap (λ x. field_of x ∷ fields_of (drop (suc i) rs)) (sym e)

pub field_at : (rs : List Field) (i : ℕ) (f : Field) → i < length rs → f ≡ get_or rs i f → slice_get (fields_of rs) i ≡ Some (field_of f)
field_at [] i f lt e = absurd (omega (arith, lt))
field_at (x ∷ rs) zero f lt e = ap (λ y. Some (field_of y)) (sym e)
field_at (x ∷ rs) (suc i) f lt e = field_at rs i f (omega (arith, lt)) e

-- one field more
pub default_on : (rts : List Route) (rs : List Field) (i : ℕ) (f : Field) (statements new whole : List Statement) → i < length rs → f ≡ get_or rs i f → new ≡ statements ++ put_in i (default_bytes rts i (field_of f)) → statements ++ defaults_code rts i (fields_of (drop i rs)) ≡ whole → new ++ defaults_code rts (i + 1) (fields_of (drop (i + 1) rs)) ≡ whole
default_on rts rs i f statements new whole lt is h so_far =
    let e : i + 1 ≡ suc i = omega arith in
    ap (λ k. new ++ defaults_code rts k (fields_of (drop k rs))) e
    ∙ ap (λ l. l ++ defaults_code rts (suc i) (fields_of (drop (suc i) rs))) h
    ∙ append_assoc statements (put_in i (default_bytes rts i (field_of f))) (defaults_code rts (suc i) (fields_of (drop (suc i) rs)))
    ∙ ap (λ gs. statements ++ defaults_code rts i gs) (sym (fields_drop rs i f lt is))
    ∙ so_far

-- ---- routines that skip

pub no_record : (W : List Node) (kind : Kind) (at_it : Option Node) (old new : List Statement) → at_it ≡ Some (node_of kind) → ((name aliases fields : _) → kind ≡ kinds.Record name aliases fields → ⊥) → new ≡ old ++ Lost ∷ [] → new ≡ old ++ skip_routine W at_it
no_record W (kinds.Record name aliases fields) at_it old new at no' h = absurd (no' name aliases fields refl)
no_record W _ at_it old new at no' h = h ∙ ap (λ x. old ++ skip_routine W x) (sym at)
