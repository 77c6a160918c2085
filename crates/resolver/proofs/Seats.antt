-- What lies in the slots of a reader's fields: data of their nodes, and one for each field that has a partner.
use Rattle.std.proofs.Common.{◌≡◌, ℕ, zero, suc, ◌+◌, Bool, true, false, cond, ◌&&◌, not, List, [], ◌∷◌, length, slice_get, slice_set, Option, Some, None, IfSome, is_none, Ok, refl, sym, ap, subst, arith}
use Rattle.std.specs.List.{AllByRecursion}
use Rattle.spec_avro.specs.Node.{Node, FieldNode}
use Rattle.spec_avro.specs.Datum.{Datum, Data, no_more, more, how_many}
use Rattle.spec_avro.specs.Conforming.{Conforms, ConformsEach}
use Rattle.spec_avro.specs.declared.place.Partner.{Partner}
use Rattle.spec_avro.specs.declared.place.Route.{Route}
use Rattle.spec_avro.specs.Options.{given}
use Rattle.spec_avro.specs.Partners.{has_partner, partners, routes, routes_to}
use Rattle.resolver.specs.Laws.Fields.{IsOneOf, IsThere, length_partners}
use Rattle.spec_avro.specs.Resolution.{Slots, filled, lacking_from, lacks, no_slots, resolved}

-- the data are of the routes' nodes, one each
abbrev pub AreOf : List Node → List Route → Data → Type 0
AreOf W [] no_more = Unit {0}
AreOf W [] (more d ds) = ⊥
AreOf W (r ∷ routes) no_more = ⊥
AreOf W (r ∷ routes) (more d ds) = Conforms W r.node d × AreOf W routes ds

are_of : (W : List Node) (rs ws : List FieldNode) (ps : List (Option ℕ)) (ds : Data) → length ps ≡ length ws → ConformsEach W ws ds → AreOf W (routes_to rs ws ps) ds
are_of W rs [] ps no_more l c = tt
are_of W rs [] ps (more d ds) l c = absurd c
are_of W rs (f ∷ ws) [] ds l c = absurd (omega (arith, l))
are_of W rs (f ∷ ws) (p ∷ ps) no_more l c = absurd c
are_of W rs (f ∷ ws) (p ∷ ps) (more d ds) l c = (c.0, are_of W rs ws ps ds (omega (arith, l)) c.1)

pub are_many : (W : List Node) (ws : List FieldNode) (ds : Data) → ConformsEach W ws ds → how_many ds ≡ length ws
are_many W [] no_more c = refl
are_many W [] (more d ds) c = absurd c
are_many W (f ∷ ws) no_more c = absurd c
are_many W (f ∷ ws) (more d ds) c = ap suc (are_many W ws ds c.1)

pub fields_are_of : (W : List Node) (ws rs : List FieldNode) (ds : Data) → ConformsEach W ws ds → AreOf W (routes ws rs) ds
fields_are_of W ws rs ds c = are_of W rs ws (partners ws rs) ds (length_partners ws rs) c

-- ---- slots

module _ (R : List Node) where
  -- what lies in a slot is of its field's node
  abbrev pub Seated : List FieldNode → Slots → Type 0
  Seated [] slots = Unit {0}
  Seated (g ∷ gs) [] = ⊥
  Seated (g ∷ gs) (s ∷ slots) = IfSome s (Conforms R g.node) × Seated gs slots

  pub none_seated : (gs : List FieldNode) → Seated gs (no_slots gs)
  none_seated [] = tt
  none_seated (g ∷ gs) = (tt, none_seated gs)

  pub seat : (gs : List FieldNode) (slots : Slots) (j : ℕ) (g : FieldNode) (e : Datum) → slice_get gs j ≡ Some g → Conforms R g.node e → Seated gs slots → Seated gs (slice_set slots j (Some e))
  seat [] slots j g e at c s = absurd cc
  seat (h ∷ gs) [] j g e at c s = absurd s
  seat (h ∷ gs) (o ∷ slots) zero g e at c s = (let same : h ≡ g = cc in subst (λ (x : FieldNode). Conforms R x.node e) (sym same) c, s.1)
  seat (h ∷ gs) (o ∷ slots) (suc j) g e at c s = (s.0, seat gs slots j g e at c s.1)

-- one datum is put where it is of the field's node
pub field_seated : (W R : List Node) (gs : List FieldNode) (r : Route) (d : Datum) (slots : Slots) → Seated R gs slots → ((p : Partner) (e : Datum) → resolved W R r.node p.node d ≡ Ok e → Conforms R p.node e) → (o : Option Partner) → IfSome o (IsOneOf gs) → IfSome o (λ p. (e : Datum) → resolved W R r.node p.node d ≡ Ok e → Seated R gs (slice_set slots p.position (Some e)))
field_seated W R gs r d slots s its None one = tt
field_seated W R gs r d slots s its (Some p) one = λ e k. seat R gs slots p.position one.0 e one.1 (subst (λ (n : ℕ). Conforms R n e) one.2 (its p e k)) s

-- ---- in the end

none_first : (b : Bool) (g : FieldNode) (rest : Option FieldNode) → cond b (Some g) rest ≡ None → (b ≡ false) × (rest ≡ None)
none_first true g rest e = absurd cc
none_first false g rest e = (refl, e)

has_default : (R : List Node) (b : Bool) (o : Option Datum) (node : ℕ) → b ≡ false → (not b && is_none o) ≡ false → IfSome o (Conforms R node) → (d : Datum) × (o ≡ Some d) × Conforms R node d
has_default R true o node h e c = absurd cc
has_default R false None node h e c = absurd cc
has_default R false (Some d) node h e c = (d, refl, c)

-- a field that came, or one that has a default
pub all_filled : (R : List Node) (routes : List Route) (j : ℕ) (gs : List FieldNode) (slots : Slots) → lacking_from routes j gs ≡ None → ((k i : ℕ) → i ≡ j + k → has_partner i routes ≡ true → IsThere k slots) → AllByRecursion (λ g. IfSome g.default (Conforms R g.node)) gs → Seated R gs slots → ConformsEach R gs (filled gs slots)
all_filled R routes j [] slots none came defaults s = tt
all_filled R routes j (g ∷ gs) [] none came defaults s = absurd s
all_filled R routes j (g ∷ gs) (Some e ∷ slots) none came defaults s =
    let p = none_first (lacks routes j g) g (lacking_from routes (suc j) gs) none in
    (s.0, all_filled R routes (suc j) gs slots p.1 (λ k i at has. came (suc k) i (omega (arith, at)) has) defaults.1 s.1)
all_filled R routes j (g ∷ gs) (None ∷ slots) none came defaults s =
    let p = none_first (lacks routes j g) g (lacking_from routes (suc j) gs) none in
    let rest = all_filled R routes (suc j) gs slots p.1 (λ k i at has. came (suc k) i (omega (arith, at)) has) defaults.1 s.1 in
    let d = has_default R (has_partner j routes) g.default g.node (not_there (has_partner j routes) refl) p.0 defaults.0 in
    subst (λ (o : Option Datum). ConformsEach R (g ∷ gs) (given o (filled gs slots) (λ d. more d (filled gs slots)))) (sym d.1) (d.2, rest) where
      not_there : (b : Bool) → has_partner j routes ≡ b → has_partner j routes ≡ false
      not_there true has = let t = came 0 j (omega arith) has in absurd (let clash : Some None ≡ Some (Some t.0) = t.1 in cc)
      not_there false has = has
