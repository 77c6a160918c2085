-- Where the statements of defaults are placed, the program has the code of the defaults.
use Rattle.std.proofs.Common.{◌≡◌, ℕ, suc, ◌+◌, ◌<◌, Bool, true, false, cond, List, [], ◌∷◌, ◌++◌, length, Option, Some, None, refl, sym, ap, ◌∙◌, subst, arith, length-append}
use Rattle.std.specs.Prelude.{slice_get}
use Rattle.spec_avro.specs.Writing.{written}
use Rattle.spec_avro.specs.Datum.{Datum}
use Rattle.spec_avro.specs.Node.{Node, FieldNode}
use Rattle.spec_avro.specs.declared.place.Route.{Route}
use Rattle.spec_avro.specs.Options.{given}
use Rattle.spec_avro.specs.Partners.{has_partner}
use Rattle.spec_machine.specs.Program.{Program}
use Rattle.spec_machine.specs.Statements.{Section, Statement}
use Rattle.program_definition.specs.Stands.{Defaults, PutsNothing, no_default, none_put, one_put, partnered}
use Rattle.spec_machine.specs.Writing.{default_bytes, defaults_code, put_in}
use Rattle.program_definition.proofs.Numbering.{AtFrom, first_at, none_at, rest_at}
use Rattle.program_definition.proofs.Placed.{Placed, placed_front, placed_back}

module _ (W R : List Node) (P : Program) (Begins : Section → ℕ → Type 0) (all : List Route) (gs : List FieldNode) where
  abbrev Here : ℕ → List Statement → Type 0
  Here pc ls = Placed P Begins pc ls

  abbrev DefaultsAt : ℕ → ℕ → ℕ → Type 0
  DefaultsAt pc j q = Defaults W R P Begins all gs pc j q

  no_statement : (pc j e : ℕ) → DefaultsAt (pc + 0) (suc j) e → DefaultsAt pc (suc j) e
  no_statement pc j e rest = subst (λ q. DefaultsAt q (suc j) e) (let z : pc + 0 ≡ pc = omega arith in z) rest

  one_written : (pc e j : ℕ) (g : FieldNode) (d : Datum) → slice_get gs j ≡ Some g → has_partner j all ≡ false → g.default ≡ Some d
      → (bytes : List ℕ) → written d ≡ bytes → Here pc (put_in j bytes) → DefaultsAt (pc + length (put_in j bytes)) (suc j) e → DefaultsAt pc j e
  one_written pc e j g d at none is [] b h rest = none_put g at none (subst PutsNothing (sym is) b) (no_statement pc j e rest)
  one_written pc e j g d at none is (x ∷ bytes) b h rest =
      let some : 0 < length (written d) = (let long = ap length b in omega (arith, long)) in
      one_put g d h.1.0.0 at none is some h.0 h.1.0.1 (h.1.0.2 ∙ ap Some (sym b)) (subst (λ q. DefaultsAt q (suc j) e) (let z : pc + 2 ≡ pc + 1 + 1 = omega arith in z) rest)

  one_default : (pc e j : ℕ) (g : FieldNode) → slice_get gs j ≡ Some g → (has : Bool) → has_partner j all ≡ has → (o : Option Datum) → g.default ≡ o
      → Here pc (put_in j (cond has [] (given o [] written))) → DefaultsAt (pc + length (put_in j (cond has [] (given o [] written)))) (suc j) e → DefaultsAt pc j e
  one_default pc e j g at true is o by h rest = partnered g at is (no_statement pc j e rest)
  one_default pc e j g at false is None by h rest = none_put g at is (subst PutsNothing (sym by) tt) (no_statement pc j e rest)
  one_default pc e j g at false is (Some d) by h rest = one_written pc e j g d at is by (written d) refl h rest

  pub defaults_stand : (pc j : ℕ) (others : List FieldNode) → AtFrom j gs others → Here pc (defaults_code all j others) → DefaultsAt pc j (pc + length (defaults_code all j others))
  defaults_stand pc j [] from h = subst (DefaultsAt pc j) (let z : pc ≡ pc + 0 = omega arith in z) (no_default (none_at j gs from))
  defaults_stand pc j (g ∷ others) from h =
      let c = put_in j (default_bytes all j g) in
      let rest = defaults_code all (suc j) others in
      let z : pc + length c + length rest ≡ pc + length (c ++ rest) = omega (arith, length-append c rest) in
      let on = subst (λ n. AtFrom n gs others) (let s : j + 1 ≡ suc j = omega arith in s) (rest_at j gs g others from) in
      one_default pc (pc + length (c ++ rest)) j g (first_at j gs g others from) (has_partner j all) refl g.default refl (placed_front P Begins pc c rest h)
      (subst (DefaultsAt (pc + length c) (suc j)) z (defaults_stand (pc + length c) (suc j) others on (placed_back P Begins pc c rest h)))
