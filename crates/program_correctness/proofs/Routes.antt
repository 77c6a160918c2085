-- The routes of a record's fields: each goes to a slot of its own.
use Rattle.std.proofs.Common.{◌≡◌, ℕ, zero, suc, Bool, true, false, ◌==◌, ◌||◌, ◌⊎◌, inl, inr, List, [], ◌∷◌, length, Option, Some, None, IfSome, option_map, refl, sym, ap, ◌∙◌, subst, arith, slice_get, slice_set}
use Rattle.std.proofs.lemmas.Bool.Decides.{nat_tests}
use Rattle.spec_avro.specs.Datum.{Datum}
use Rattle.spec_avro.specs.Node.{FieldNode}
use Rattle.spec_avro.specs.WellFormed.{HaveDistinctNames}
use Rattle.spec_avro.specs.declared.place.Partner.{Partner}
use Rattle.spec_avro.specs.declared.place.Route.{Route}
use Rattle.spec_avro.specs.Options.{given}
use Rattle.spec_avro.specs.Partners.{has_partner, partners, routes, routes_to}
use Rattle.resolver.proofs.Apart.{partners_apart}
use Rattle.resolver.specs.Laws.Fields.{GoTo, IsOneOf, length_partners, routes_go, set_other}
use Rattle.spec_avro.specs.Resolution.{Slots, no_slots}
use Rattle.resolver.specs.Laws.Plain.{either}
use Rattle.std.proofs.lemmas.Bool.{or_right as or_second}

equal_is : (a b : ℕ) → (a == b) ≡ true → a ≡ b
equal_is a b e = grind (arith, nat_tests, e)

equal_same : (a : ℕ) → (a == a) ≡ true
equal_same a = grind (arith, nat_tests)

or_first : (a b : Bool) → a ≡ true → (a || b) ≡ true
or_first true b e = refl
or_first false b e = absurd cc

-- ---- nodes and positions

-- the routes are of these fields, in order
abbrev pub AreOf : List Route → List FieldNode → Type 0
AreOf [] [] = Unit {0}
AreOf [] (f ∷ fs) = ⊥
AreOf (r ∷ routes) [] = ⊥
AreOf (r ∷ routes) (f ∷ fs) = (r.node ≡ f.node) × AreOf routes fs

of_fields : (gs fs : List FieldNode) (ps : List (Option ℕ)) → length ps ≡ length fs → AreOf (routes_to gs fs ps) fs
of_fields gs [] ps l = tt
of_fields gs (f ∷ fs) [] l = absurd (omega (arith, l))
of_fields gs (f ∷ fs) (p ∷ ps) l = (refl, of_fields gs fs ps (omega (arith, l)))

pub routes_of : (fs gs : List FieldNode) → AreOf (routes fs gs) fs
routes_of fs gs = of_fields gs fs (partners fs gs) (length_partners fs gs)

pub routes_to_slots : (fs gs : List FieldNode) → GoTo gs (routes fs gs)
routes_to_slots fs gs = routes_go gs fs (partners fs gs)

pub one_of : (gs : List FieldNode) (r : Route) (p : Partner) → r.partner ≡ Some p → IfSome r.partner (IsOneOf gs) → IsOneOf gs p
one_of gs r p e h = subst (λ (o : Option Partner). IfSome o (IsOneOf gs)) e h

-- ---- no two go to one slot

abbrev pub AreApart : List Route → Type 0
AreApart [] = Unit {0}
AreApart (r ∷ routes) = IfSome r.partner (λ p. has_partner p.position routes ≡ false) × AreApart routes

-- whose partner a position is
goes_back : (gs fs : List FieldNode) (ps : List (Option ℕ)) (j : ℕ) → has_partner j (routes_to gs fs ps) ≡ true → (i : ℕ) × (slice_get ps i ≡ Some (Some j))
goes_back gs [] ps j h = absurd cc
goes_back gs (f ∷ fs) [] j h = absurd cc
goes_back gs (f ∷ fs) (None ∷ ps) j h = let x = goes_back gs fs ps j h in (suc x.0, x.1)
goes_back gs (f ∷ fs) (Some k ∷ ps) j h = by_field (λ later. let x = goes_back gs fs ps j later in (suc x.0, x.1)) (slice_get gs k) h
  where
    by_field : (has_partner j (routes_to gs fs ps) ≡ true → (i : ℕ) × (slice_get (Some k ∷ ps) i ≡ Some (Some j))) → (o : Option FieldNode) → (given (option_map (λ (g : FieldNode). record { position = k; node = g.node }) o) false (λ (p : Partner). p.position == j) || has_partner j (routes_to gs fs ps)) ≡ true → (i : ℕ) × (slice_get (Some k ∷ ps) i ≡ Some (Some j))
    by_field rest None h = rest h
    by_field rest (Some g) h = elim (either (k == j) (has_partner j (routes_to gs fs ps)) h) [ inl e ↦ (0, ap (λ (n : ℕ). Some (Some n)) (equal_is k j e)) | inr later ↦ rest later ]

OncePartner : List (Option ℕ) → Type 0
OncePartner ps = (i k j : ℕ) → slice_get ps i ≡ Some (Some j) → slice_get ps k ≡ Some (Some j) → i ≡ k

apart_to : (gs fs : List FieldNode) (ps : List (Option ℕ)) → OncePartner ps → AreApart (routes_to gs fs ps)
unfolding OncePartner
apart_to gs [] ps once = tt
apart_to gs (f ∷ fs) [] once = tt
apart_to gs (f ∷ fs) (None ∷ ps) once = (tt, apart_to gs fs ps (λ i k j a b. omega (arith, once (suc i) (suc k) j a b)))
apart_to gs (f ∷ fs) (Some n ∷ ps) once = (by_field (slice_get gs n), apart_to gs fs ps (λ i k j a b. omega (arith, once (suc i) (suc k) j a b)))
  where
    by_test : (b : Bool) → has_partner n (routes_to gs fs ps) ≡ b → has_partner n (routes_to gs fs ps) ≡ false
    by_test true h = let x = goes_back gs fs ps n h in absurd (omega (arith, once 0 (suc x.0) n refl x.1))
    by_test false h = h

    by_field : (o : Option FieldNode) → IfSome (option_map (λ (g : FieldNode). record { position = n; node = g.node }) o) (λ (p : Partner). has_partner p.position (routes_to gs fs ps) ≡ false)
    by_field None = tt
    by_field (Some g) = by_test (has_partner n (routes_to gs fs ps)) refl

pub routes_apart : (fs gs : List FieldNode) → HaveDistinctNames fs → AreApart (routes fs gs)
unfolding OncePartner
routes_apart fs gs distinct = apart_to gs fs (partners fs gs) (λ i k j a b. partners_apart fs gs i k j distinct a b)

-- ---- free slots

-- the slots to which these routes go hold nothing
abbrev pub AreFree : List Route → Slots → Type 0
AreFree routes slots = (j : ℕ) → has_partner j routes ≡ true → slice_get slots j ≡ Some None

pub free_here : (r : Route) (routes : List Route) (p : Partner) (slots : Slots) → r.partner ≡ Some p → AreFree (r ∷ routes) slots → slice_get slots p.position ≡ Some None
free_here r routes p slots e free =
    free p.position (or_first (given r.partner false (λ q. q.position == p.position)) (has_partner p.position routes) (ap (λ (o : Option Partner). given o false (λ q. q.position == p.position)) e ∙ equal_same p.position))

pub free_later : (r : Route) (routes : List Route) (slots : Slots) → AreFree (r ∷ routes) slots → AreFree routes slots
free_later r routes slots free j h = free j (or_second (given r.partner false (λ q. q.position == j)) (has_partner j routes) h)

pub still_free : (r : Route) (routes : List Route) (p : Partner) (slots : Slots) (o : Option Datum) → r.partner ≡ Some p → AreApart (r ∷ routes) → AreFree (r ∷ routes) slots → AreFree routes (slice_set slots p.position o)
still_free r routes p slots o e apart free j h =
    set_other slots p.position j o (λ same. clash (ap (λ (n : ℕ). has_partner n routes) same ∙ h) (subst (λ (q : Option Partner). IfSome q (λ p. has_partner p.position routes ≡ false)) e apart.0)) ∙ free_later r routes slots free j h
  where
    clash : {b : Bool} → b ≡ true → b ≡ false → ⊥
    clash a b = absurd cc

empty_at : (gs : List FieldNode) (j : ℕ) (g : FieldNode) → slice_get gs j ≡ Some g → slice_get (no_slots gs) j ≡ Some None
empty_at [] j g e = absurd cc
empty_at (h ∷ gs) zero g e = refl
empty_at (h ∷ gs) (suc j) g e = empty_at gs j g e

pub all_free : (gs : List FieldNode) (routes : List Route) → GoTo gs routes → AreFree routes (no_slots gs)
all_free gs [] go j h = absurd cc
all_free gs (r ∷ routes) go j h = elim (either (given r.partner false (λ q. q.position == j)) (has_partner j routes) h) [ inl e ↦ by_partner r.partner go.0 e | inr later ↦ all_free gs routes go.1 j later ]
  where
    by_partner : (o : Option Partner) → IfSome o (IsOneOf gs) → given o false (λ q. q.position == j) ≡ true → slice_get (no_slots gs) j ≡ Some None
    by_partner None one e = absurd cc
    by_partner (Some p) one e = empty_at gs j one.0 (ap (slice_get gs) (sym (equal_is p.position j e)) ∙ one.1)
