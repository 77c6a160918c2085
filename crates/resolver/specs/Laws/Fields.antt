-- What comes of a record's fields: one after another, and just those that have partners.
use Rattle.std.proofs.Common.{◌≡◌, ℕ, zero, suc, Bool, true, false, ◌==◌, ◌||◌, List, [], ◌∷◌, length, slice_get, slice_set, Option, Some, None, option_map, IfSome, is_some, Ok, Err, refl, sym, ap, subst, ◌∙◌, inl, inr, ◌⊎◌, arith}
use Rattle.std.specs.List.{AllByRecursion}
use Rattle.std.proofs.lemmas.List.{length-map, length-set}
use Rattle.std.proofs.lemmas.Bool.Decides.{nat_tests}
use Rattle.spec_avro.specs.Node.{Node, FieldNode}
use Rattle.spec_avro.specs.Datum.{Datum, Data, no_more, more, how_many}
use Rattle.spec_avro.specs.declared.place.Partner.{Partner}
use Rattle.spec_avro.specs.declared.place.Route.{Route}
use Rattle.spec_avro.specs.Options.{given}
use Rattle.spec_avro.specs.Partners.{by_alias, by_name, field_names, has_partner, partner_at, partners, routes, routes_to, taken_by, with_aliases}
use Rattle.resolver.specs.Steps.{kept, one_field}
use Rattle.spec_avro.specs.Resolution.{Resolved, ◌>>=◌, Slots, no_slots, resolved, resolved_fields}

module _ (W R : List Node) where
  -- what comes of one field, and then of the others
  pub fields_on : (slots : Slots) (r : Route) (routes : List Route) (d : Datum) (ds : Data) → resolved_fields W R slots (r ∷ routes) (more d ds) ≡ one_field W R r d >>= λ o. resolved_fields W R (kept o slots) routes ds
  unfolding resolved
  fields_on slots r routes d ds =
      elim r.partner as (λ o. given o (resolved_fields W R slots routes ds) (λ p. resolved W R r.node p.node d >>= λ e. resolved_fields W R (slice_set slots p.position (Some e)) routes ds) ≡ given o (Ok None) (λ p. resolved W R r.node p.node d >>= λ e. Ok (Some (p.position, e))) >>= λ o. resolved_fields W R (kept o slots) routes ds) [
        | None ↦ refl
        | Some p ↦ then_kept (resolved W R r.node p.node d) p.position
      ] where
        then_kept : (x : Resolved Datum) (j : ℕ) → (x >>= λ e. resolved_fields W R (slice_set slots j (Some e)) routes ds) ≡ (x >>= λ e. Ok (Some (j, e))) >>= λ o. resolved_fields W R (kept o slots) routes ds
        then_kept (Ok e) j = refl
        then_kept (Err m) j = refl

-- ---- routes

-- the partner is one of these fields, and its node is the field's
abbrev pub IsOneOf : List FieldNode → Partner → Type 0
IsOneOf rs p = (g : FieldNode) × (slice_get rs p.position ≡ Some g) × (p.node ≡ g.node)

abbrev pub GoTo : List FieldNode → List Route → Type 0
GoTo rs routes = AllByRecursion (λ r. IfSome r.partner (IsOneOf rs)) routes

pub routes_go : (rs ws : List FieldNode) (ps : List (Option ℕ)) → GoTo rs (routes_to rs ws ps)
routes_go rs [] ps = tt
routes_go rs (f ∷ ws) [] = tt
routes_go rs (f ∷ ws) (None ∷ ps) = (tt, routes_go rs ws ps)
routes_go rs (f ∷ ws) (Some j ∷ ps) = (found (slice_get rs j) refl, routes_go rs ws ps) where
  found : (o : Option FieldNode) → slice_get rs j ≡ o → IfSome (partner_at rs j) (IsOneOf rs)
  found None at = rw at tt
  found (Some g) at = subst (λ (o : Option FieldNode). IfSome (option_map (λ g. record { position = j; node = g.node }) o) (IsOneOf rs)) (sym at) (g, at, refl)

length_taken : (j : ℕ) (o : Option ℕ) (ps : List (Option ℕ)) → length (taken_by j o ps) ≡ length ps
length_taken j None ps = refl
length_taken j (Some i) ps = length-set ps i (Some j)

length_aliases : (names : List (List ℕ)) (ps : List (Option ℕ)) (j : ℕ) (rs : List FieldNode) → length (with_aliases names ps j rs) ≡ length ps
length_aliases names ps j [] = refl
length_aliases names ps j (g ∷ rs) = length_aliases names (taken_by j (by_alias names ps g) ps) (suc j) rs ∙ length_taken j (by_alias names ps g) ps

pub length_partners : (ws rs : List FieldNode) → length (partners ws rs) ≡ length ws
length_partners ws rs = length_aliases (field_names ws) (by_name ws rs) 0 rs ∙ length-map ws _

-- ---- slots

-- something lies in the slot
abbrev pub IsThere : ℕ → Slots → Type 0
IsThere j slots = (e : Datum) × (slice_get slots j ≡ Some (Some e))

still_there : (slots : Slots) (j k : ℕ) (e : Datum) → IsThere j slots → IsThere j (slice_set slots k (Some e))
still_there [] j k e t = absurd (let no : None ≡ Some (Some t.0) = t.1 in cc)
still_there (o ∷ slots) zero zero e t = (e, refl)
still_there (o ∷ slots) (suc j) zero e t = t
still_there (o ∷ slots) zero (suc k) e t = t
still_there (o ∷ slots) (suc j) (suc k) e t = still_there slots j k e t

put_there : (gs : List FieldNode) (slots : Slots) (j : ℕ) (g : FieldNode) (e : Datum) → length slots ≡ length gs → slice_get gs j ≡ Some g → IsThere j (slice_set slots j (Some e))
put_there [] slots j g e l at = absurd cc
put_there (h ∷ gs) [] j g e l at = absurd (omega (arith, l))
put_there (h ∷ gs) (o ∷ slots) zero g e l at = (e, refl)
put_there (h ∷ gs) (o ∷ slots) (suc j) g e l at = put_there gs slots j g e (omega (arith, l)) at

length_routes_to : (rs ws : List FieldNode) (ps : List (Option ℕ)) → length ps ≡ length ws → length (routes_to rs ws ps) ≡ length ws
length_routes_to rs [] ps l = refl
length_routes_to rs (f ∷ ws) [] l = absurd (omega (arith, l))
length_routes_to rs (f ∷ ws) (p ∷ ps) l = ap suc (length_routes_to rs ws ps (omega (arith, l)))

pub length_routes : (ws rs : List FieldNode) → length (routes ws rs) ≡ length ws
length_routes ws rs = length_routes_to rs ws (partners ws rs) (length_partners ws rs)

pub length_no_slots : (gs : List FieldNode) → length (no_slots gs) ≡ length gs
length_no_slots gs = length-map gs _

pub bound_first : {A B : Type 0} (x : Resolved A) (f : A → Resolved B) (b : B) → x >>= f ≡ Ok b → (a : A) × (x ≡ Ok a) × (f a ≡ Ok b)
bound_first (Ok a) f b h = (a, refl, h)
bound_first (Err m) f b h = absurd cc

-- one field, by what is known of the others
module _ (W R : List Node) (r : Route) (d : Datum) (rest : Slots → Resolved Slots) (P : Slots → Type 0) (final : Slots) (others : (slots : Slots) → P slots → rest slots ≡ Ok final → P final) where
  pub one_put : (o : Option Partner) (slots : Slots) → P slots → IfSome o (λ p. (e : Datum) → resolved W R r.node p.node d ≡ Ok e → P (slice_set slots p.position (Some e))) → given o (rest slots) (λ p. resolved W R r.node p.node d >>= λ e. rest (slice_set slots p.position (Some e))) ≡ Ok final → P final
  one_put None slots now put h = others slots now h
  one_put (Some p) slots now put h =
      let made = bound_first (resolved W R r.node p.node d) (λ e. rest (slice_set slots p.position (Some e))) final h in
      others (slice_set slots p.position (Some made.0)) (put made.0 made.1) made.2

-- a field that has a partner came
module _ (W R : List Node) (gs : List FieldNode) where
  stays : (routes : List Route) (ds : Data) (slots final : Slots) (j : ℕ) → IsThere j slots → resolved_fields W R slots routes ds ≡ Ok final → IsThere j final
  unfolding resolved_fields
  stays [] ds slots final j t h = subst (IsThere j) (let same : slots ≡ final = cc in same) t
  stays (r ∷ routes) no_more slots final j t h = subst (IsThere j) (let same : slots ≡ final = cc in same) t
  stays (r ∷ routes) (more d ds) slots final j t h =
      one_put W R r d (λ slots. resolved_fields W R slots routes ds) (IsThere j) final (λ slots t h. stays routes ds slots final j t h) r.partner slots t (by_partner r.partner) h where
        by_partner : (o : Option Partner) → IfSome o (λ p. (e : Datum) → resolved W R r.node p.node d ≡ Ok e → IsThere j (slice_set slots p.position (Some e)))
        by_partner None = tt
        by_partner (Some p) = λ e k. still_there slots j p.position e t

  either : (a b : Bool) → (a || b) ≡ true → (a ≡ true) ⊎ (b ≡ true)
  either true b e = inl refl
  either false b e = inr e

  same_place : (n j : ℕ) → (n == j) ≡ true → n ≡ j
  same_place n j e = grind (arith, nat_tests, e)

  one_came : (r : Route) (d : Datum) (rest : List Route) (ds : Data) (slots final : Slots) (j : ℕ) → length slots ≡ length gs → ((slots : Slots) → length slots ≡ length gs → resolved_fields W R slots rest ds ≡ Ok final → has_partner j rest ≡ true → IsThere j final) → (o : Option Partner) → IfSome o (IsOneOf gs) → (given o false (λ p. p.position == j) ≡ true) ⊎ (has_partner j rest ≡ true) → given o (resolved_fields W R slots rest ds) (λ p. resolved W R r.node p.node d >>= λ e. resolved_fields W R (slice_set slots p.position (Some e)) rest ds) ≡ Ok final → IsThere j final
  one_came r d rest ds slots final j l others None one (inl e) h = absurd cc
  one_came r d rest ds slots final j l others None one (inr later) h = others slots l h later
  one_came r d rest ds slots final j l others (Some p) one (inl e) h =
      let made = bound_first (resolved W R r.node p.node d) (λ e. resolved_fields W R (slice_set slots p.position (Some e)) rest ds) final h in
      let here = put_there gs slots p.position one.0 made.0 l one.1 in
      stays rest ds (slice_set slots p.position (Some made.0)) final j (subst (λ (n : ℕ). IsThere n (slice_set slots p.position (Some made.0))) (same_place p.position j e) here) made.2
  one_came r d rest ds slots final j l others (Some p) one (inr later) h =
      let made = bound_first (resolved W R r.node p.node d) (λ e. resolved_fields W R (slice_set slots p.position (Some e)) rest ds) final h in
      others (slice_set slots p.position (Some made.0)) (length-set slots p.position (Some made.0) ∙ l) made.2 later

  pub came : (rest : List Route) (ds : Data) (slots final : Slots) (j : ℕ) → (how_many ds ≡ length rest) → GoTo gs rest → length slots ≡ length gs → has_partner j rest ≡ true → resolved_fields W R slots rest ds ≡ Ok final → IsThere j final
  unfolding resolved_fields
  came [] ds slots final j of go l has h = absurd cc
  came (r ∷ rest) no_more slots final j of go l has h = absurd (omega (arith, of))
  came (r ∷ rest) (more d ds) slots final j of go l has h =
      one_came r d rest ds slots final j l (λ slots l h later. came rest ds slots final j (omega (arith, of)) go.1 l later h) r.partner go.0 (either (given r.partner false (λ p. p.position == j)) (has_partner j rest) has) h

-- a field that has no partner keeps its slot
other_place : (n j : ℕ) → (n == j) ≡ false → n ≡ j → ⊥
other_place n j e same = grind (arith, nat_tests, e, same)

pub set_other : {X : Type 0} (xs : List X) (i j : ℕ) (x : X) → (i ≡ j → ⊥) → slice_get (slice_set xs i x) j ≡ slice_get xs j
set_other [] i j x h = refl
set_other (y ∷ xs) zero zero x h = absurd (h refl)
set_other (y ∷ xs) zero (suc j) x h = refl
set_other (y ∷ xs) (suc i) zero x h = refl
set_other (y ∷ xs) (suc i) (suc j) x h = set_other xs i j x (λ e. h (ap suc e))

neither : (a b : Bool) → (a || b) ≡ false → (a ≡ false) × (b ≡ false)
neither true b e = absurd cc
neither false b e = (refl, e)

module _ (W R : List Node) where
  one_left : (r : Route) (d : Datum) (rest : List Route) (ds : Data) (slots final : Slots) (j : ℕ) → ((slots : Slots) → resolved_fields W R slots rest ds ≡ Ok final → slice_get final j ≡ slice_get slots j) → (o : Option Partner) → given o false (λ p. p.position == j) ≡ false → given o (resolved_fields W R slots rest ds) (λ p. resolved W R r.node p.node d >>= λ e. resolved_fields W R (slice_set slots p.position (Some e)) rest ds) ≡ Ok final → slice_get final j ≡ slice_get slots j
  one_left r d rest ds slots final j others None other h = others slots h
  one_left r d rest ds slots final j others (Some p) other h =
      let made = bound_first (resolved W R r.node p.node d) (λ e. resolved_fields W R (slice_set slots p.position (Some e)) rest ds) final h in
      others (slice_set slots p.position (Some made.0)) made.2 ∙ set_other slots p.position j (Some made.0) (other_place p.position j other)

  pub left_alone : (rest : List Route) (ds : Data) (slots final : Slots) (j : ℕ) → has_partner j rest ≡ false → resolved_fields W R slots rest ds ≡ Ok final → slice_get final j ≡ slice_get slots j
  unfolding resolved_fields
  left_alone [] ds slots final j none h = ap (λ (l : Slots). slice_get l j) (let same : final ≡ slots = cc in same)
  left_alone (r ∷ rest) no_more slots final j none h = ap (λ (l : Slots). slice_get l j) (let same : final ≡ slots = cc in same)
  left_alone (r ∷ rest) (more d ds) slots final j none h =
      let n = neither (given r.partner false (λ p. p.position == j)) (has_partner j rest) none in
      one_left r d rest ds slots final j (λ slots h. left_alone rest ds slots final j n.1 h) r.partner n.0 h

  -- a slot is filled exactly where its field has a partner
  abbrev pub is_filled : ℕ → Slots → Bool
  is_filled j slots = given (slice_get slots j) false is_some

  empty_at : (gs : List FieldNode) (j : ℕ) → is_filled j (no_slots gs) ≡ false
  empty_at [] j = refl
  empty_at (g ∷ gs) zero = refl
  empty_at (g ∷ gs) (suc j) = empty_at gs j

  pub filled_by_partners : (ws rs : List FieldNode) (ds : Data) (final : Slots) (j : ℕ) → how_many ds ≡ length ws → resolved_fields W R (no_slots rs) (routes ws rs) ds ≡ Ok final → is_filled j final ≡ has_partner j (routes ws rs)
  filled_by_partners ws rs ds final j l h = by_test (has_partner j (routes ws rs)) refl where
    by_test : (b : Bool) → has_partner j (routes ws rs) ≡ b → is_filled j final ≡ has_partner j (routes ws rs)
    by_test true has =
        let t = came W R rs (routes ws rs) ds (no_slots rs) final j (l ∙ sym (length_routes ws rs)) (routes_go rs ws (partners ws rs)) (length_no_slots rs) has h in
        ap (λ (o : Option (Option Datum)). given o false is_some) t.1 ∙ sym has
    by_test false none = ap (λ (o : Option (Option Datum)). given o false is_some) (left_alone (routes ws rs) ds (no_slots rs) final j none h) ∙ empty_at rs j ∙ sym none
