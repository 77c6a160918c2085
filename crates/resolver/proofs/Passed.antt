-- A reader's field passes over an alias only where it is taken.
use Rattle.std.proofs.Common.{◌≡◌, ℕ, zero, suc, ◌+◌, ◌<◌, ◌≤◌, Bool, true, false, cond, List, [], ◌∷◌, map, Option, Some, None, is_none, is_some, refl, sym, ap, subst, ◌∙◌, inl, inr, ◌⊎◌, slice_get, slice_index_or, arith}
use Rattle.std.specs.List.{position_from}
use Rattle.std.specs.Str.{bytes_eq}
use Rattle.std.proofs.lemmas.Slice.Eq.{bytes_eq-Decides}
use Rattle.avro_types.specs.Laws.Placed.{place-some, used-at}
use Rattle.spec_avro.specs.Node.{FieldNode}
use Rattle.spec_avro.specs.Symbols.{is_used, place_of}
use Rattle.spec_avro.specs.Options.{or_else}
use Rattle.spec_avro.specs.Partners.{EarlierAliasesWereTaken, by_alias, by_name, field_names, first_free, if_free, taken_by, with_aliases}
use Rattle.resolver.proofs.Apart.{name_at, one_place, set_cases}
use Rattle.resolver.proofs.Partnering.{all_keep, free_there}
use Rattle.resolver.proofs.Taken.{ArePlaces, by_name_places, first_takes, free_at, only_place, set_there, still}

-- ---- one reader's field

-- the position of a text's first occurrence, counted from q
abbrev place_from : ℕ → List ℕ → List (List ℕ) → Option ℕ
place_from q text texts = position_from (λ other. bytes_eq other text) q texts

no_less : (text : List ℕ) (q : ℕ) (texts : List (List ℕ)) (m : ℕ) → place_from q text texts ≡ Some m → q ≤ m
no_less text q [] m e = absurd cc
no_less text q (s ∷ texts) m e = by_test (bytes_eq s text) e (no_less text (q + 1) texts m) where
  by_test : (b : Bool) → cond b (Some q) (place_from (q + 1) text texts) ≡ Some m → (place_from (q + 1) text texts ≡ Some m → q + 1 ≤ m) → q ≤ m
  by_test true h later = let same : q ≡ m = cc in omega (arith, same)
  by_test false h later = let le = later h in omega (arith, le)

-- a position is taken, whose name comes among the aliases at m or before
record IsTakenEarly (names aliases : List (List ℕ)) (q m : ℕ) (found : Option ℕ) : Type 0 where
  taken : ℕ
  is : found ≡ Some taken
  name : List ℕ
  named : slice_get names taken ≡ Some name
  place : ℕ
  placed : place_from q name aliases ≡ Some place
  early : place ≤ m

module _ (names : List (List ℕ)) (ps : List (Option ℕ)) (i : ℕ) (name : List ℕ) (at : place_of name names ≡ Some i) (free : is_none (slice_index_or ps i None) ≡ true) where
  takes_early : (aliases : List (List ℕ)) (q m : ℕ) → place_from q name aliases ≡ Some m → IsTakenEarly names aliases q m (first_free names ps aliases)
  takes_early [] q m e = absurd cc
  takes_early (a ∷ aliases) q m e = by_first (λ h. takes_early aliases (q + 1) m h) (if_free ps (place_of a names)) refl where
    later : (b : Bool) → bytes_eq a name ≡ b → cond b (Some q) (place_from (q + 1) name aliases) ≡ Some m → if_free ps (place_of a names) ≡ None → place_from (q + 1) name aliases ≡ Some m
    later true is h none = absurd (let clash : Some i ≡ None = sym (first_takes names ps i name at free a is) ∙ none in cc)
    later false is h none = h

    behind : if_free ps (place_of a names) ≡ None → (t : IsTakenEarly names aliases (q + 1) m (first_free names ps aliases)) (b : Bool) → bytes_eq a t.name ≡ b → IsTakenEarly names (a ∷ aliases) q m (or_else (if_free ps (place_of a names)) (first_free names ps aliases))
    behind none t true same = record {
      taken = t.taken;
      is = ap (λ (o : Option ℕ). or_else o (first_free names ps aliases)) none ∙ t.is;
      name = t.name;
      named = t.named;
      place = q;
      placed = ap (λ (b : Bool). cond b (Some q) (place_from (q + 1) t.name aliases)) same;
      early = no_less name q (a ∷ aliases) m e;
    }
    behind none t false same = record {
      taken = t.taken;
      is = ap (λ (o : Option ℕ). or_else o (first_free names ps aliases)) none ∙ t.is;
      name = t.name;
      named = t.named;
      place = t.place;
      placed = ap (λ (b : Bool). cond b (Some q) (place_from (q + 1) t.name aliases)) same ∙ t.placed;
      early = t.early;
    }

    by_first : (place_from (q + 1) name aliases ≡ Some m → IsTakenEarly names aliases (q + 1) m (first_free names ps aliases)) → (o : Option ℕ) → if_free ps (place_of a names) ≡ o → IsTakenEarly names (a ∷ aliases) q m (or_else (if_free ps (place_of a names)) (first_free names ps aliases))
    by_first next None is = let t = next (later (bytes_eq a name) refl e is) in behind is t (bytes_eq a t.name) refl
    by_first next (Some n) is = record {
      taken = n;
      is = ap (λ (o : Option ℕ). or_else o (first_free names ps aliases)) is;
      name = a;
      named = place-some a names n (free_there ps (place_of a names) n is).0;
      place = q;
      placed = ap (λ (b : Bool). cond b (Some q) (place_from (q + 1) a aliases)) ((bytes_eq-Decides a a).1 refl);
      early = no_less name q (a ∷ aliases) m e;
    }

-- ---- all of them

module _ (names others : List (List ℕ)) where
  -- a partner is by name, or one of the reader's first `count` fields
  abbrev AreEarly : ℕ → List (Option ℕ) → Type 0
  AreEarly count ps = (i l : ℕ) (name : List ℕ) → slice_get names i ≡ Some name → slice_get ps i ≡ Some (Some l) → (is_used name others ≡ true) ⊎ (l < count)

  one_early : (count : ℕ) (o : Option ℕ) (ps : List (Option ℕ)) → AreEarly count ps → AreEarly (suc count) (taken_by count o ps)
  one_early count None ps early i l name named e = elim (early i l name named e) [ inl u ↦ inl u | inr lt ↦ inr (omega (arith, lt)) ]
  one_early count (Some n) ps early i l name named e = elim (set_cases ps n i (Some count) (Some l) e) [
    | inl x ↦ (let same : count ≡ l = (let two : Some count ≡ Some l = x.1 in cc) in inr (omega (arith, same)))
    | inr old ↦ elim (early i l name named old) [ inl u ↦ inl u | inr lt ↦ inr (omega (arith, lt)) ]
  ]

module _ (names others : List (List ℕ)) (i : ℕ) (name : List ℕ) (at : place_of name names ≡ Some i) where
  -- the reader's field number last passes over the alias at m, where these are the partners
  abbrev Passes : List (Option ℕ) → ℕ → ℕ → FieldNode → Type 0
  Passes partners last m g = (k n : ℕ) (other : List ℕ) → slice_get names k ≡ Some other → slice_get partners k ≡ Some (Some last) → place_of other g.aliases ≡ Some n → m < n

  abbrev WasTaken : List (Option ℕ) → ℕ → Type 0
  WasTaken partners last = (is_used name others ≡ true) ⊎ ((l : ℕ) × (l < last) × (slice_get partners i ≡ Some (Some l)))

  one_passes : (g : FieldNode) (rs : List FieldNode) (count : ℕ) (ps : List (Option ℕ)) (m : ℕ) → ArePlaces names ps → AreEarly names others count ps → place_of g.name names ≡ None → place_of name g.aliases ≡ Some m → Passes (with_aliases names ps count (g ∷ rs)) count m g → (o : Option ℕ) → slice_get ps i ≡ Some o → WasTaken (with_aliases names ps count (g ∷ rs)) count
  one_passes g rs count ps m places early unnamed placed over (Some l) here = elim (early i l name (place-some name names i at) here) [
    | inl u ↦ inl u
    | inr lt ↦ inr (l, lt, all_keep names (g ∷ rs) count ps i l here)
  ]
  one_passes g rs count ps m places early unnamed placed over None here =
      let t = takes_early names ps i name at (free_at ps i here) g.aliases 0 m placed in
      let takes : by_alias names ps g ≡ Some t.taken = ap (λ (o : Option ℕ). cond (is_some o) None (first_free names ps g.aliases)) unnamed ∙ t.is in
      let there = places t.taken t.name t.named in
      let set : slice_get (taken_by count (by_alias names ps g) ps) t.taken ≡ Some (Some count) = ap (λ (o : Option ℕ). slice_get (taken_by count o ps) t.taken) takes ∙ set_there ps t.taken (Some count) there.0 there.1 in
      let kept = all_keep names rs (suc count) (taken_by count (by_alias names ps g) ps) t.taken count set in
      let lt = over t.taken t.place t.name t.named kept t.placed in
      let le = t.early in
      absurd (omega (arith, lt, le))

  all_pass : (rs : List FieldNode) (count : ℕ) (ps : List (Option ℕ)) (j last m : ℕ) (g : FieldNode) → last ≡ count + j → ArePlaces names ps → AreEarly names others count ps → slice_get rs j ≡ Some g → place_of g.name names ≡ None → place_of name g.aliases ≡ Some m → Passes (with_aliases names ps count rs) last m g → WasTaken (with_aliases names ps count rs) last
  all_pass [] count ps j last m g number places early e unnamed placed over = absurd cc
  all_pass (r ∷ rs) count ps zero last m g number places early e unnamed placed over =
      let same : g ≡ r = cc in
      let here = places i name (place-some name names i at) in
      let this : count ≡ last = omega (arith, number) in
      subst (WasTaken (with_aliases names ps count (r ∷ rs))) this
      (one_passes r rs count ps m places early (subst (λ (x : FieldNode). place_of x.name names ≡ None) same unnamed) (subst (λ (x : FieldNode). place_of name x.aliases ≡ Some m) same placed)
      (subst (λ (x : FieldNode). Passes (with_aliases names ps count (r ∷ rs)) count m x) same (subst (λ (t : ℕ). Passes (with_aliases names ps count (r ∷ rs)) t m g) (sym this) over)) here.0 here.1)
  all_pass (r ∷ rs) count ps (suc j) last m g number places early e unnamed placed over =
      all_pass rs (suc count) (taken_by count (by_alias names ps r) ps) j last m g (omega (arith, number)) (still names i name at count (by_alias names ps r) ps places) (one_early names others count (by_alias names ps r) ps early) e unnamed placed over

named_by : (others : List (List ℕ)) (ws : List FieldNode) (i l : ℕ) (name : List ℕ) → slice_get (field_names ws) i ≡ Some name → slice_get (map (λ f. place_of f.name others) ws) i ≡ Some (Some l) → is_used name others ≡ true
named_by others [] i l name named e = absurd cc
named_by others (w ∷ ws) zero l name named e =
    let same : w.name ≡ name = cc in
    let at : place_of w.name others ≡ Some l = cc in
    subst (λ (x : List ℕ). is_used x others ≡ true) same (used-at w.name others l at)
named_by others (w ∷ ws) (suc i) l name named e = named_by others ws i l name named e

field_there : (ws : List FieldNode) (k : ℕ) (name : List ℕ) → slice_get (field_names ws) k ≡ Some name → (h : FieldNode) × (slice_get ws k ≡ Some h) × (name ≡ h.name)
field_there [] k name e = absurd cc
field_there (w ∷ ws) zero name e = (w, refl, cc)
field_there (w ∷ ws) (suc k) name e = field_there ws k name e

pub earlier_aliases_were_taken : EarlierAliasesWereTaken
earlier_aliases_were_taken ws rs i j m f g distinct here there unnamed placed over =
    let names = field_names ws in
    let stands = name_at ws i f here in
    let at = only_place names i f.name (λ k e. one_place names k i f.name distinct e stands) stands (place_of f.name names) refl in
    let number : j ≡ 0 + j = omega arith in
    all_pass names (field_names rs) i f.name at rs 0 (by_name ws rs) j j m g number (by_name_places (field_names rs) ws) (λ k l name named e. inl (named_by (field_names rs) ws k l name named e)) there unnamed placed
    (λ k n other named e p. let h = field_there ws k other named in over k n h.0 h.1 e (ap (λ (x : List ℕ). place_of x g.aliases) (sym h.2) ∙ p))
