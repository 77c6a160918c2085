-- A test that takes elements one by one, each against those before it, and what it says of them all.
use Rattle.std.proofs.Common.{◌≡◌, ℕ, List, [], ◌∷◌, ◌++◌, Bool, true, false, not, ◌&&◌, refl, sym, ap, ◌∙◌}
use Rattle.std.specs.List.{AllByRecursion, IsDistinct, list_any}
use Rattle.std.specs.Str.{bytes_eq}
use Rattle.std.proofs.lemmas.Slice.Eq.{bytes_eq-Decides}
use Rattle.spec_schema.specs.Head.{Head, NullHead, BooleanHead, IntHead, LongHead, BytesHead, TextHead, ArrayHead, MapHead, UnionHead, Named, is_same_type, is_union_head, are_apart}
use Rattle.spec_avro.specs.Symbols.{are_new}
use Rattle.avro_types.specs.Laws.Booleans.{both, neither, not_true, same_by}

all_map : {K : Type 0} (P Q : K → Type 0) → ((x : K) → P x → Q x) → (xs : List K) → AllByRecursion P xs → AllByRecursion Q xs
all_map P Q f [] h = tt
all_map P Q f (x ∷ xs) h = (f x h.0, all_map P Q f xs h.1)

all_both : {K : Type 0} (P Q : K → Type 0) → (xs : List K) → AllByRecursion P xs → AllByRecursion Q xs → AllByRecursion (λ x. P x × Q x) xs
all_both P Q [] h k = tt
all_both P Q (x ∷ xs) h k = ((h.0, k.0), all_both P Q xs h.1 k.1)

module _ {K : Type 0} (p : K → Bool) (e : K → K → Bool) where
  abbrev pub apart : List K → List K → Bool
  apart before [] = true
  apart before (x ∷ xs) = (p x && not (list_any (λ o. e o x) before)) && apart (before ++ x ∷ []) xs

  -- none of those before is like it
  abbrev Free : List K → K → Type 0
  Free before x = AllByRecursion (λ o. e o x ≡ false) before

  any-free : (before : List K) (x : K) → list_any (λ o. e o x) before ≡ false → Free before x
  any-free [] x h = tt
  any-free (o ∷ before) x h = let k = neither (e o x) _ h in (k.0, any-free before x k.1)

  free-any : (before : List K) (x : K) → Free before x → list_any (λ o. e o x) before ≡ false
  free-any [] x h = refl
  free-any (o ∷ before) x h = rw (h.0, free-any before x h.1) refl

  split : (before : List K) (x y : K) → Free (before ++ x ∷ []) y → Free before y × (e x y ≡ false)
  split [] x y h = (tt, h.0)
  split (o ∷ before) x y h = let k = split before x y h.1 in ((h.0, k.0), k.1)

  join : (before : List K) (x y : K) → Free before y × (e x y ≡ false) → Free (before ++ x ∷ []) y
  join [] x y h = (h.1, tt)
  join (o ∷ before) x y h = (h.0.0, join before x y (h.0.1, h.1))

  abbrev Apart : List K → List K → Type 0
  Apart before xs = AllByRecursion (λ x. p x ≡ true) xs × AllByRecursion (Free before) xs × IsDistinct e xs

  apart_all : (before xs : List K) → apart before xs ≡ true → Apart before xs
  unfolding IsDistinct
  apart_all before [] h = (tt, tt, tt)
  apart_all before (x ∷ xs) h =
      let a = both (p x && not (list_any (λ o. e o x) before)) _ h in
      let b = both (p x) _ a.0 in
      let rest = apart_all (before ++ x ∷ []) xs a.1 in
      let free = any-free before x (not_true _ b.1) in (
        (b.0, rest.0),
        (free, all_map (Free (before ++ x ∷ [])) (Free before) (λ y f. (split before x y f).0) xs rest.1),
        (all_map (Free (before ++ x ∷ [])) (λ y. e x y ≡ false) (λ y f. (split before x y f).1) xs rest.1, rest.2),
      )

  all_apart : (before xs : List K) → Apart before xs → apart before xs ≡ true
  unfolding IsDistinct
  all_apart before [] h = refl
  all_apart before (x ∷ xs) h =
      let frees = all_map (λ y. Free before y × (e x y ≡ false)) (Free (before ++ x ∷ [])) (λ y f. join before x y f) xs (all_both (Free before) (λ y. e x y ≡ false) xs h.1.1 h.2.0) in
      let rest = all_apart (before ++ x ∷ []) xs (h.0.1, frees, h.2.1) in
      rw (h.0.0, free-any before x h.1.0, rest) refl

  free_nil : (xs : List K) → AllByRecursion (Free []) xs
  free_nil [] = tt
  free_nil (x ∷ xs) = (tt, free_nil xs)

  pub all_apart-nil : (xs : List K) → AllByRecursion (λ x. p x ≡ true) xs → IsDistinct e xs → apart [] xs ≡ true
  all_apart-nil xs h k = all_apart [] xs (h, free_nil xs, k)

  pub apart_all-nil : (xs : List K) → apart [] xs ≡ true → AllByRecursion (λ x. p x ≡ true) xs × IsDistinct e xs
  apart_all-nil xs h = let k = apart_all [] xs h in (k.0, k.2)

-- ---- texts

new_is : (before ss : List (List ℕ)) → are_new before ss ≡ apart (λ s. true) bytes_eq before ss
new_is before [] = refl
new_is before (s ∷ ss) = ap (λ b. not (list_any (λ o. bytes_eq o s) before) && b) (new_is (before ++ s ∷ []) ss)

every : (ss : List (List ℕ)) → AllByRecursion (λ s. true ≡ true) ss
every [] = tt
every (s ∷ ss) = (refl, every ss)

pub distinct-new : (ss : List (List ℕ)) → IsDistinct bytes_eq ss → are_new [] ss ≡ true
distinct-new ss d = new_is [] ss ∙ all_apart-nil (λ s. true) bytes_eq ss (every ss) d

pub new-distinct : (ss : List (List ℕ)) → are_new [] ss ≡ true → IsDistinct bytes_eq ss
new-distinct ss e = (apart_all-nil (λ s. true) bytes_eq ss (sym (new_is [] ss) ∙ e)).1

-- ---- types

apart_is : (before hs : List Head) → are_apart before hs ≡ apart (λ h. not (is_union_head h)) (λ o h. is_same_type h o) before hs
apart_is before [] = refl
apart_is before (h ∷ hs) = ap (λ b. (not (is_union_head h) && not (list_any (λ o. is_same_type h o) before)) && b) (apart_is (before ++ h ∷ []) hs)

pub distinct-apart : (hs : List Head) → AllByRecursion (λ h. not (is_union_head h) ≡ true) hs → IsDistinct (λ o h. is_same_type h o) hs → are_apart [] hs ≡ true
distinct-apart hs none d = apart_is [] hs ∙ all_apart-nil (λ h. not (is_union_head h)) (λ o h. is_same_type h o) hs none d

pub apart-distinct : (hs : List Head) → are_apart [] hs ≡ true → AllByRecursion (λ h. not (is_union_head h) ≡ true) hs × IsDistinct (λ o h. is_same_type h o) hs
apart-distinct hs e = apart_all-nil (λ h. not (is_union_head h)) (λ o h. is_same_type h o) hs (sym (apart_is [] hs) ∙ e)

not_false : (b : Bool) → b ≡ false → not b ≡ true
not_false true e = absurd (let no : ⊥ = cc in no)
not_false false e = refl

same_back : (a b : Head) → is_same_type a b ≡ is_same_type b a
same_back (Named a) (Named b) = same_by (bytes_eq b a) (bytes_eq a b) (λ e. (bytes_eq-Decides a b).1 (sym ((bytes_eq-Decides b a).0 e))) (λ e. (bytes_eq-Decides b a).1 (sym ((bytes_eq-Decides a b).0 e)))
same_back NullHead NullHead = refl
same_back BooleanHead BooleanHead = refl
same_back IntHead IntHead = refl
same_back LongHead LongHead = refl
same_back BytesHead BytesHead = refl
same_back TextHead TextHead = refl
same_back ArrayHead ArrayHead = refl
same_back MapHead MapHead = refl
same_back UnionHead UnionHead = refl
same_back _ _ = refl

turned : (hs : List Head) → IsDistinct is_same_type hs → IsDistinct (λ o h. is_same_type h o) hs
unfolding IsDistinct
turned [] d = tt
turned (h ∷ hs) d = (all_map (λ x. is_same_type h x ≡ false) (λ x. is_same_type x h ≡ false) (λ x e. same_back x h ∙ e) hs d.0, turned hs d.1)

turned_back : (hs : List Head) → IsDistinct (λ o h. is_same_type h o) hs → IsDistinct is_same_type hs
unfolding IsDistinct
turned_back [] d = tt
turned_back (h ∷ hs) d = (all_map (λ x. is_same_type x h ≡ false) (λ x. is_same_type h x ≡ false) (λ x e. same_back h x ∙ e) hs d.0, turned_back hs d.1)

pub types-apart : (hs : List Head) → AllByRecursion (λ h. is_union_head h ≡ false) hs → IsDistinct is_same_type hs → are_apart [] hs ≡ true
types-apart hs none d = distinct-apart hs (all_map (λ h. is_union_head h ≡ false) (λ h. not (is_union_head h) ≡ true) (λ h e. not_false (is_union_head h) e) hs none) (turned hs d)

pub apart-types : (hs : List Head) → are_apart [] hs ≡ true → AllByRecursion (λ h. is_union_head h ≡ false) hs × IsDistinct is_same_type hs
apart-types hs e = let k = apart-distinct hs e in (all_map (λ h. not (is_union_head h) ≡ true) (λ h. is_union_head h ≡ false) (λ h f. not_true (is_union_head h) f) hs k.0, turned_back hs k.1)
