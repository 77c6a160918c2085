-- Lists keep what they are while the memory that they lie in grows.
use Rattle.std.proofs.Common.{◌≡◌, ◌-◌, List, [], ◌∷◌, ◌++◌, length, take, drop, refl, ap, ◌∙◌, arith, length-append, length-drop}
use Rattle.std.proofs.Math.Seq.{drop-append_seam, take-length}
use Rattle.std.proofs.lemmas.List.{drop-append-le, take-append-le}
use Rattle.isa.specs.declared.lists.Stretch.{Stretch}
use Rattle.isa.specs.Lists.{IsWithin, AreWithin, items_of, lists_in}

module _ {A : Type 0} (items more : List A) where
  list_kept : (s : Stretch) → IsWithin (length items) s → items_of (items ++ more) s ≡ items_of items s
  list_kept s w = ap (take (s.to - s.from)) (drop-append-le s.from items more (omega (arith, w.order, w.below))) ∙ take-append-le (s.to - s.from) (drop s.from items) more (omega (arith, w.order, w.below, length-drop s.from items))

  pub lists_kept : (ss : List Stretch) → AreWithin items ss → lists_in (items ++ more) ss ≡ lists_in items ss
  lists_kept [] h = refl
  lists_kept (s ∷ ss) h = rw (list_kept s h.0, lists_kept ss h.1) refl

  pub within_kept : (ss : List Stretch) → AreWithin items ss → AreWithin (items ++ more) ss
  within_kept [] h = tt
  within_kept (s ∷ ss) h = (record { order = h.0.order; below = omega (arith, h.0.below, length-append items more) }, within_kept ss h.1)

  -- the list that was put after them
  new_list : (s : Stretch) → s.from ≡ length items → s.to ≡ length (items ++ more) → items_of (items ++ more) s ≡ more
  new_list s f t =
      let len : s.to - s.from ≡ length more = omega (arith, f, t, length-append items more) in
      rw (len, f, drop-append_seam items more) (take-length more)

  new_within : (s : Stretch) → s.from ≡ length items → s.to ≡ length (items ++ more) → IsWithin (length (items ++ more)) s
  new_within s f t = record { order = omega (arith, f, t, length-append items more); below = omega (arith, t) }

lists_more : {A : Type 0} (items : List A) (ss : List Stretch) (s : Stretch) → lists_in items (ss ++ s ∷ []) ≡ lists_in items ss ++ items_of items s ∷ []
lists_more items [] s = refl
lists_more items (t ∷ ss) s = ap (λ x. items_of items t ∷ x) (lists_more items ss s)

-- one list more
pub pushed : {A : Type 0} (items more : List A) (ss : List Stretch) (s : Stretch) → AreWithin items ss → s.from ≡ length items → s.to ≡ length (items ++ more)
    → lists_in (items ++ more) (ss ++ s ∷ []) ≡ lists_in items ss ++ more ∷ []
pushed items more ss s h f t = rw (lists_more (items ++ more) ss s, lists_kept items more ss h, new_list items more s f t) refl
