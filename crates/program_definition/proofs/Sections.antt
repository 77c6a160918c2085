-- Sections, where they are placed, are the routines.
use Rattle.std.proofs.Common.{◌≡◌, ℕ, suc, ◌+◌, List, [], ◌∷◌, ◌++◌, length, Option, Some, None, refl, subst, arith, length-append}
use Rattle.std.specs.Prelude.{slice_get}
use Rattle.spec_avro.specs.Node.{Node, FieldNode, RecordNode}
use Rattle.spec_avro.specs.WellFormed.{IsWellFormed}
use Rattle.spec_avro.specs.declared.place.Partner.{Partner}
use Rattle.spec_avro.specs.declared.place.Route.{Route}
use Rattle.spec_avro.specs.Options.{given}
use Rattle.spec_avro.specs.Partners.{routes}
use Rattle.spec_avro.specs.Resolution.{field_lists}
use Rattle.spec_machine.specs.declared.instr.Instr.TheVariants as op
use Rattle.spec_machine.specs.Program.{Program}
use Rattle.spec_machine.specs.Statements.{Section, Statement, Op, Lost, Main, Write, Skip}
use Rattle.spec_machine.specs.Skipping.{K, skip_fields, skip_routine}
use Rattle.spec_machine.specs.Writing.{X, defaults_code, field_code, fields_code, section, write_routine}
use Rattle.program_definition.specs.SkipStands.{Skips, SkipsFields, k_no_field, k_field, SkipRoutine}
use Rattle.program_definition.specs.Stands.{Fields, no_field, dropped, kept, Opening, Routine, Writes}
use Rattle.program_definition.proofs.DefaultsStanding.{defaults_stand}
use Rattle.program_definition.proofs.Numbering.{from_start}
use Rattle.program_definition.proofs.Placed.{Placed, placed_front, placed_back}
use Rattle.program_definition.proofs.SkipStanding.{within_skips}
use Rattle.program_definition.proofs.WriteStanding.{within_writes}

module _ (W R : List Node) (P : Program) (Begins : Section → ℕ → Type 0) (formed : IsWellFormed W) where
  abbrev Here : ℕ → List Statement → Type 0
  Here pc ls = Placed P Begins pc ls

  skips : (pc w : ℕ) → Here pc (K W w) → Skips W P Begins pc w (pc + length (K W w))
  skips pc w h = within_skips W P Begins formed (suc (length W)) pc w h

  writes : (pc w r : ℕ) → Here pc (X W R w r) → Writes W R P Begins pc w r (pc + length (X W R w r))
  writes pc w r h = within_writes W R P Begins formed (suc (length W)) pc w r h

  abbrev FieldsAt : ℕ → List Route → ℕ → Type 0
  FieldsAt pc all q = Fields W R P Begins pc all q

  abbrev coded : Route → Option Partner → List Statement
  coded f o = given o (K W f.node) (λ p. Op (op.Slot p.position) ∷ X W R f.node p.node)

  one_field : (pc e : ℕ) (f : Route) (others : List Route) (o : Option Partner) → f.partner ≡ o → Here pc (coded f o) → FieldsAt (pc + length (coded f o)) others e → FieldsAt pc (f ∷ others) e
  one_field pc e f others None is h rest = dropped (pc + length (K W f.node)) is (skips pc f.node h) rest
  one_field pc e f others (Some p) is h rest =
      let z : pc + length (coded f (Some p)) ≡ pc + 1 + length (X W R f.node p.node) = omega arith in
      kept p (pc + 1 + length (X W R f.node p.node)) is h.0 (writes (pc + 1) f.node p.node h.1) (subst (λ q. FieldsAt q others e) z rest)

  fields_stand : (pc : ℕ) (all : List Route) → Here pc (fields_code W R all) → FieldsAt pc all (pc + length (fields_code W R all))
  fields_stand pc [] h = subst (FieldsAt pc []) (let z : pc ≡ pc + 0 = omega arith in z) no_field
  fields_stand pc (f ∷ others) h =
      let c = field_code W R f in
      let rest = fields_code W R others in
      let z : pc + length c + length rest ≡ pc + length (c ++ rest) = omega (arith, length-append c rest) in
      one_field pc (pc + length (c ++ rest)) f others f.partner refl (placed_front P Begins pc c rest h)
      (subst (FieldsAt (pc + length c) others) z (fields_stand (pc + length c) others (placed_back P Begins pc c rest h)))

  skips_fields : (pc : ℕ) (fs : List FieldNode) → Here pc (skip_fields W fs) → SkipsFields W P Begins pc fs (pc + length (skip_fields W fs))
  skips_fields pc [] h = subst (SkipsFields W P Begins pc []) (let z : pc ≡ pc + 0 = omega arith in z) k_no_field
  skips_fields pc (f ∷ fs) h =
      let c = K W f.node in
      let rest = skip_fields W fs in
      let z : pc + length c + length rest ≡ pc + length (c ++ rest) = omega (arith, length-append c rest) in
      k_field (pc + length c) (skips pc f.node (placed_front P Begins pc c rest h)) (subst (SkipsFields W P Begins (pc + length c) fs) z (skips_fields (pc + length c) fs (placed_back P Begins pc c rest h)))

  routine_stands : (pc w r : ℕ) (x y : Option Node) → slice_get W w ≡ x → slice_get R r ≡ y → Here pc (given (field_lists x y) (Lost ∷ []) (λ p. write_routine W R p.0 p.1)) → Routine W R P Begins pc w r
  routine_stands pc w r (Some (RecordNode names fs)) (Some (RecordNode others gs)) is at h =
      let all = routes fs gs in
      let fields = fields_code W R all in
      let defaults = defaults_code all 0 gs in
      let ends = Op op.EndRecord ∷ Op op.Return ∷ [] in
      let m = pc + 1 + length fields in
      let q = m + length defaults in
      let after = placed_back P Begins (pc + 1) fields (defaults ++ ends) h.1 in
      let last = placed_back P Begins m defaults ends after in
      record {
        names = names;
        others = others;
        fs = fs;
        gs = gs;
        m = m;
        q = q;
        is_writers = is;
        is_readers = at;
        opens = h.0;
        fields = fields_stand (pc + 1) all (placed_front P Begins (pc + 1) fields (defaults ++ ends) h.1);
        defaults = defaults_stand W R P Begins all gs m 0 gs (from_start gs) (placed_front P Begins m defaults ends after);
        closes = last.0;
        returns = last.1.0;
      }
  routine_stands pc w r _ _ is at h = absurd h.0

  skip_routine_stands : (pc w : ℕ) (x : Option Node) → slice_get W w ≡ x → Here pc (skip_routine W x) → SkipRoutine W P Begins pc w
  skip_routine_stands pc w (Some (RecordNode name fs)) is h =
      let fields = skip_fields W fs in
      let ends = Op op.Leave ∷ Op op.Return ∷ [] in
      let last = placed_back P Begins (pc + 1) fields ends h.1 in
      record { names = name; fields = fs; q = pc + 1 + length fields; is = is; opens = h.0; body = skips_fields (pc + 1) fs (placed_front P Begins (pc + 1) fields ends h.1); closes = last.0; returns = last.1.0 }
  skip_routine_stands pc w _ is h = absurd h.0

  pub write_section : (pc w r : ℕ) → Here pc (section W R (Write w r)) → Routine W R P Begins pc w r
  unfolding section
  write_section pc w r h = routine_stands pc w r (slice_get W w) (slice_get R r) refl refl h

  pub skip_section : (pc w : ℕ) → Here pc (section W R (Skip w)) → SkipRoutine W P Begins pc w
  unfolding section
  skip_section pc w h = skip_routine_stands pc w (slice_get W w) refl h

  pub main_section : Here 0 (section W R Main) → Opening W R P Begins
  unfolding section
  main_section h =
      let code = X W R 0 0 in
      let last = placed_back P Begins 0 code (Op op.Halt ∷ []) h in
      record { q = 0 + length code; writes = writes 0 0 0 (placed_front P Begins 0 code (Op op.Halt ∷ []) h); halts = last.0 }
