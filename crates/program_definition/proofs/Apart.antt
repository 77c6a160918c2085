-- Sections that are apart are no more than those that there are.
use Rattle.std.proofs.Common.{◌≡◌, suc, ◌≤◌, Bool, true, false, List, [], ◌∷◌, ◌++◌, length, refl, sym, ap, ◌∙◌, arith}
use Rattle.std.specs.Prelude.{if◌then◌else◌}
use Rattle.std.specs.List.{AllByRecursion}
use Rattle.spec_machine.specs.Statements.{Section}
use Rattle.spec_machine.specs.Numbering.{adding, has, same_section}
use Rattle.program_definition.proofs.Numbers.{section_is, section_refl}

abbrev pub IsIn : List Section → Section → Type 0
IsIn ss s = has same_section s ss ≡ true

abbrev pub AreApart : List Section → Type 0
AreApart [] = Unit {0}
AreApart (x ∷ xs) = (has same_section x xs ≡ false) × AreApart xs

other_way : (a b : Section) → same_section a b ≡ false → same_section b a ≡ false
other_way a b h = go (same_section b a) refl
  where
    go : (t : Bool) → same_section b a ≡ t → t ≡ false
    go true e =
        let is = section_is b a e in
        let clash : true ≡ false = sym (section_refl a) ∙ ap (same_section a) (sym is) ∙ h in
        absurd cc
    go false e = refl

less : Section → List Section → List Section
less x [] = []
less x (u ∷ us) = if same_section x u then us else u ∷ less x us

length_less : (x : Section) (us : List Section) → IsIn us x → length us ≡ suc (length (less x us))
unfolding less
length_less x [] h = absurd cc
length_less x (u ∷ us) h = go (same_section x u) (length_less x us) h
  where
    go : (t : Bool) → (IsIn us x → length us ≡ suc (length (less x us))) → (if t then true else has same_section x us) ≡ true → suc (length us) ≡ suc (length (if t then us else u ∷ less x us))
    go true rest h = refl
    go false rest h = ap suc (rest h)

still_in : (x y : Section) (us : List Section) → same_section y x ≡ false → IsIn us y → IsIn (less x us) y
unfolding less
still_in x y [] apart h = absurd cc
still_in x y (u ∷ us) apart h = go (same_section x u) (same_section y u) refl refl (still_in x y us apart) h
  where
    go : (s t : Bool) → same_section x u ≡ s → same_section y u ≡ t → (IsIn us y → IsIn (less x us) y) → (if t then true else has same_section y us) ≡ true → IsIn (if s then us else u ∷ less x us) y
    go true true e f rest h =
        let clash : true ≡ false = sym f ∙ ap (same_section y) (sym (section_is x u e)) ∙ apart in
        absurd cc
    go true false e f rest h = h
    go false true e f rest h = ap (λ b. if b then true else has same_section y (less x us)) f
    go false false e f rest h = ap (λ b. if b then true else has same_section y (less x us)) f ∙ rest h

same_other : (x y : Section) (xs : List Section) → (if same_section x y then true else has same_section x xs) ≡ false → (same_section x y ≡ false) × (has same_section x xs ≡ false)
same_other x y xs h = go (same_section x y) refl h
  where
    go : (t : Bool) → same_section x y ≡ t → (if t then true else has same_section x xs) ≡ false → (same_section x y ≡ false) × (has same_section x xs ≡ false)
    go true e h = absurd cc
    go false e h = (e, h)

all_still_in : (x : Section) (xs us : List Section) → has same_section x xs ≡ false → AllByRecursion (IsIn us) xs → AllByRecursion (IsIn (less x us)) xs
all_still_in x [] us apart h = tt
all_still_in x (y ∷ xs) us apart h =
    let two = same_other x y xs apart in
    (still_in x y us (other_way x y two.0) h.0, all_still_in x xs us two.1 h.1)

pub no_more : (xs us : List Section) → AreApart xs → AllByRecursion (IsIn us) xs → length xs ≤ length us
no_more [] us apart h = omega arith
no_more (x ∷ xs) us apart h =
    let rest = no_more xs (less x us) apart.1 (all_still_in x xs us apart.0 h.1) in
    let long = length_less x us h.0 in
    omega (arith, rest, long)

-- ---- adding keeps them apart

apart_last : (xs : List Section) (a : Section) → AreApart xs → has same_section a xs ≡ false → AreApart (xs ++ a ∷ [])
apart_last [] a h k = (refl, tt)
apart_last (x ∷ xs) a h k =
    let two = same_other a x xs k in
    (not_last x a xs h.0 (other_way a x two.0), apart_last xs a h.1 two.1)
  where
    not_last : (x a : Section) (xs : List Section) → has same_section x xs ≡ false → same_section x a ≡ false → has same_section x (xs ++ a ∷ []) ≡ false
    not_last x a [] h k = ap (λ b. if b then true else false) k
    not_last x a (y ∷ xs) h k =
        let two = same_other x y xs h in
        ap (λ b. if b then true else has same_section x (xs ++ a ∷ [])) two.0 ∙ not_last x a xs two.1 k

pub apart_added : (cs xs : List Section) → AreApart xs → AreApart (adding same_section xs cs)
apart_added [] xs h = h
apart_added (c ∷ cs) xs h = go (has same_section c xs) refl (apart_added cs xs h) (apart_added cs (xs ++ c ∷ []))
  where
    go : (t : Bool) → has same_section c xs ≡ t → AreApart (adding same_section xs cs) → (AreApart (xs ++ c ∷ []) → AreApart (adding same_section (xs ++ c ∷ []) cs)) → AreApart (if t then adding same_section xs cs else adding same_section (xs ++ c ∷ []) cs)
    go true e x y = x
    go false e x y = y (apart_last xs c h e)
