-- The members that have names: they are of one type where they are one node.
use Rattle.std.proofs.Common.{◌≡◌, ◌<◌, ℕ, zero, suc, List, [], ◌∷◌, ◌++◌, map, Bool, true, false, not, cond, eqb, ltb, ◌&&◌, ◌||◌, Some, slice_get, refl, sym, ap, ◌∙◌, arith}
use Rattle.std.specs.BTreeMap.{is_at}
use Rattle.std.specs.BTreeSet.{BTreeSet, Updates, contains}
use Rattle.std.specs.declared.cmp.Ordering.TheVariants.{Less, Equal, Greater}
use Rattle.std.specs.List.{list_any}
use Rattle.std.specs.Ordering.{is_eq, nat_cmp}
use Rattle.std.specs.Str.{bytes_eq}
use Rattle.std.proofs.lemmas.Bool.{eqb-true, ltb-true}
use Rattle.std.proofs.lemmas.Bool.Decides.{nat_tests}
use Rattle.std.proofs.lemmas.Slice.Eq.{bytes_eq-Decides}
use Rattle.avro_schema_names.specs.Unnamed.{AreNamedMembers, unnamed_head}
use Rattle.avro_schema_names.specs.declared.unions.Unnamed.{Unnamed}
use Rattle.avro_schema_names.specs.declared.unions.Unnamed.TheVariants as unnamed
use Rattle.spec_schema.specs.Head.{Head, NullHead, BooleanHead, IntHead, LongHead, BytesHead, TextHead, ArrayHead, MapHead, UnionHead, Named, defined_at, defines, is_same_type, is_union_head, head_at}
use Rattle.avro_schema_names.specs.Head.{is_named_head}
use Rattle.avro_schema_names.specs.Index.{AreOnce}
use Rattle.avro_types.specs.Laws.Booleans.{or_false, or_true, same_by, same_number, some_inside}

-- ---- one type

there : (heads : List Head) (n : ℕ) (full : List ℕ) → head_at heads n ≡ Named full → slice_get heads n ≡ Some (Named full)
there [] n full e = absurd (let no : ⊥ = cc in no)
there (h ∷ heads) zero full e = ap Some e
there (h ∷ heads) (suc n) full e = there heads n full e

module _ (heads : List Head) (once : AreOnce heads) (n : ℕ) (full : List ℕ) (here : head_at heads n ≡ Named full) where
  named-same : (m : ℕ) (other : List ℕ) → head_at heads m ≡ Named other → bytes_eq other full ≡ eqb n m
  named-same m other at =
      same_by (bytes_eq other full) (eqb n m)
      (λ t. same_number n m (some_inside n m (sym (once n full (there heads n full here)) ∙ ap (λ s. defined_at s heads) (sym ((bytes_eq-Decides other full).0 t)) ∙ once m other (there heads m other at))))
      (λ t. (bytes_eq-Decides other full).1 (let same : Named full ≡ Named other = sym here ∙ ap (head_at heads) (eqb-true n m t) ∙ at in let is : other ≡ full = cc in is))

  unnamed-other : (m : ℕ) (h : Head) → head_at heads m ≡ h → is_named_head h ≡ false → (b : Bool) → eqb n m ≡ b → false ≡ b
  unnamed-other m h at none false t = refl
  unnamed-other m h at none true t =
      let same : Named full ≡ h = sym here ∙ ap (head_at heads) (eqb-true n m t) ∙ at in
      absurd (let no : ⊥ = let named : true ≡ is_named_head h = ap is_named_head same in cc in no)

  -- it is of the type of another node where it is that node
  same-node : (m : ℕ) (h : Head) → head_at heads m ≡ h → defines full h ≡ eqb n m
  same-node m (Named other) at = named-same m other at
  same-node m NullHead at = unnamed-other m NullHead at refl (eqb n m) refl
  same-node m BooleanHead at = unnamed-other m BooleanHead at refl (eqb n m) refl
  same-node m IntHead at = unnamed-other m IntHead at refl (eqb n m) refl
  same-node m LongHead at = unnamed-other m LongHead at refl (eqb n m) refl
  same-node m BytesHead at = unnamed-other m BytesHead at refl (eqb n m) refl
  same-node m TextHead at = unnamed-other m TextHead at refl (eqb n m) refl
  same-node m ArrayHead at = unnamed-other m ArrayHead at refl (eqb n m) refl
  same-node m MapHead at = unnamed-other m MapHead at refl (eqb n m) refl
  same-node m UnionHead at = unnamed-other m UnionHead at refl (eqb n m) refl

  any-same : (others : List ℕ) → list_any (is_same_type (Named full)) (map (head_at heads) others) ≡ list_any (λ m. eqb n m) others
  any-same [] = refl
  any-same (m ∷ others) = rw (same-node m (head_at heads m) refl, any-same others) refl

  -- so it is apart from others where it is none of them
  apart-named : (named : BTreeSet ℕ) (others : List ℕ) → AreNamedMembers named others heads
      → not (contains nat_cmp named n) ≡ (not (is_union_head (head_at heads n)) && not (list_any (is_same_type (head_at heads n)) (map (head_at heads) others)))
  apart-named named others known = ap not (known n) ∙ rw (here, any-same others) refl

is-named : (h : Head) → is_named_head h ≡ true → (full : List ℕ) × (h ≡ Named full)
is-named (Named full) e = (full, refl)
is-named NullHead e = absurd (let no : ⊥ = cc in no)
is-named BooleanHead e = absurd (let no : ⊥ = cc in no)
is-named IntHead e = absurd (let no : ⊥ = cc in no)
is-named LongHead e = absurd (let no : ⊥ = cc in no)
is-named BytesHead e = absurd (let no : ⊥ = cc in no)
is-named TextHead e = absurd (let no : ⊥ = cc in no)
is-named ArrayHead e = absurd (let no : ⊥ = cc in no)
is-named MapHead e = absurd (let no : ⊥ = cc in no)
is-named UnionHead e = absurd (let no : ⊥ = cc in no)

pub member-apart : (heads : List Head) → AreOnce heads → (n : ℕ) → is_named_head (head_at heads n) ≡ true → (named : BTreeSet ℕ) (others : List ℕ) → AreNamedMembers named others heads
    → not (contains nat_cmp named n) ≡ (not (is_union_head (head_at heads n)) && not (list_any (is_same_type (head_at heads n)) (map (head_at heads) others)))
member-apart heads once n e named others known = let h = is-named (head_at heads n) e in apart-named heads once n h.0 h.1 named others known

-- ---- one member more

at-number : (k q : ℕ) → is_at (nat_cmp k) q ≡ eqb k q
at-number k q = at (ltb k q) refl
  where
    at : (b : Bool) → ltb k q ≡ b → is_eq (cond b Less (cond (eqb k q) Equal Greater)) ≡ eqb k q
    at true t = let lt : k < q = ltb-true k q t in let no : eqb k q ≡ false = grind (arith, nat_tests, lt) in sym no
    at false t = each (eqb k q)
      where
        each : (b : Bool) → is_eq (cond b Equal Greater) ≡ b
        each true = refl
        each false = refl

any-behind : (q n : ℕ) (others : List ℕ) → list_any (λ m. eqb q m) (others ++ n ∷ []) ≡ (list_any (λ m. eqb q m) others || eqb q n)
any-behind q n [] = last (eqb q n)
  where
    last : (b : Bool) → (b || false) ≡ b
    last true = refl
    last false = refl
any-behind q n (m ∷ others) = rw (any-behind q n others) (each (eqb q m))
  where
    each : (b : Bool) → (b || (list_any (λ m. eqb q m) others || eqb q n)) ≡ ((b || list_any (λ m. eqb q m) others) || eqb q n)
    each true = refl
    each false = refl

module _ (heads : List Head) (n : ℕ) (named : BTreeSet ℕ) (others : List ℕ) (known : AreNamedMembers named others heads) where
  pub named-pushed : (new : BTreeSet ℕ) → is_named_head (head_at heads n) ≡ true → Updates nat_cmp named new n true → AreNamedMembers new (others ++ n ∷ []) heads
  named-pushed new e updates q = updates.0 q ∙ ap (λ b. cond b true (contains nat_cmp named q)) (at-number n q) ∙ ap (cond (eqb n q) true) (known q) ∙ rw (any-behind q n others) (at (eqb n q) refl)
    where
      at : (b : Bool) → eqb n q ≡ b → cond b true (is_named_head (head_at heads q) && list_any (λ m. eqb q m) others) ≡ (is_named_head (head_at heads q) && (list_any (λ m. eqb q m) others || eqb q n))
      at true t =
          let one : n ≡ q = eqb-true n q t in
          let is : is_named_head (head_at heads q) ≡ true = ap (λ k. is_named_head (head_at heads k)) (sym one) ∙ e in
          rw (is, same_number q n (sym one), or_true (list_any (λ m. eqb q m) others)) refl
      at false t = let no : eqb q n ≡ false = grind (arith, nat_tests, t) in rw (no, or_false (list_any (λ m. eqb q m) others)) refl

  pub named-kept : is_named_head (head_at heads n) ≡ false → AreNamedMembers named (others ++ n ∷ []) heads
  named-kept e q = known q ∙ rw (any-behind q n others) (at (eqb q n) refl)
    where
      at : (b : Bool) → eqb q n ≡ b → (is_named_head (head_at heads q) && list_any (λ m. eqb q m) others) ≡ (is_named_head (head_at heads q) && (list_any (λ m. eqb q m) others || b))
      at true t =
          let is : is_named_head (head_at heads q) ≡ false = ap (λ k. is_named_head (head_at heads k)) (eqb-true q n t) ∙ e in
          rw is refl
      at false t = ap (λ b. is_named_head (head_at heads q) && b) (sym (or_false (list_any (λ m. eqb q m) others)))

-- ---- types that have no name

pub unnamed-none : (one : Unnamed) → is_named_head (unnamed_head one) ≡ false
unnamed-none unnamed.Null = refl
unnamed-none _ = refl
