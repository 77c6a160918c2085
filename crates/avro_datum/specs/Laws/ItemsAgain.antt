-- Items that are spelled in blocks are read one after another, from the first walk on.
use Rattle.std.proofs.Common.{◌≡◌, ℕ, suc, ◌+◌, List, [], ◌∷◌, ◌++◌, length, Option, ℤ, refl, sym, ap, subst, append_assoc, arith}
use Rattle.spec_avro.specs.declared.meter.Meter.{Meter}
use Rattle.spec_decoding.specs.BlockDecoding.{item_at, next_block}
use Rattle.spec_avro.specs.Meter.{Counts}
use Rattle.avro_bytes.specs.Laws.BlocksAgain.{head_again, headed}
use Rattle.spec_avro.specs.Blocks.{IsHead}
use Rattle.spec_avro.specs.ItemFault.{SpellEach, deepest, units_all}
use Rattle.spec_decoding.specs.Decoding.{Complete, Decoding, Failed}
use Rattle.avro_bytes.specs.Decoding.{map_decoding}

-- ---- values after others

pub map_none : {A : Type 0} (x : Decoding (List A)) → map_decoding (λ ws. [] ++ ws) x ≡ x
map_none (Complete ws to m) = refl
map_none (Failed d) = refl

pub map_after : {A : Type 0} (vs ws : List A) (x : Decoding (List A)) → map_decoding (λ us. (vs ++ ws) ++ us) x ≡ map_decoding (λ us. vs ++ us) (map_decoding (λ us. ws ++ us) x)
map_after vs ws (Complete us to m) = ap (λ (l : List _). Complete l to m) (append_assoc vs ws us)
map_after vs ws (Failed d) = refl

-- ---- the head of a block

pub head_again_at : (before head more : List ℕ) (at count : ℕ) (said : Option ℤ) (m : Meter) → at ≡ length before → IsHead (suc count) said head
    → next_block (before ++ (head ++ more)) at m ≡ item_at (headed count at said head) (at + length head) m
head_again_at before head more at count said m e s =
    subst (λ (k : ℕ). next_block (before ++ (head ++ more)) k m ≡ item_at (headed count k said head) (k + length head) m) (sym e) (head_again before head more count said m s)

-- ---- spelled items, in two parts

pub record InTwo {A : Type 0} (Spelled : A → List ℕ → Type 0) (deep units : A → ℕ) (vs : List A) (is js : List (List ℕ)) (m after : Meter) : Type 0 where
  pub front : List A
  pub rest : List A
  pub mid : Meter
  pub all : vs ≡ front ++ rest
  pub first : SpellEach Spelled front is
  pub others : SpellEach Spelled rest js
  pub counts_first : Counts (deepest deep front) (units_all units front) m mid
  pub counts_others : Counts (deepest deep rest) (units_all units rest) mid after

pub in_two : {A : Type 0} (Spelled : A → List ℕ → Type 0) (deep units : A → ℕ) (vs : List A) (is js : List (List ℕ)) (m after : Meter) → SpellEach Spelled vs (is ++ js) → Counts (deepest deep vs) (units_all units vs) m after → InTwo Spelled deep units vs is js m after
in_two Spelled deep units vs [] js m after s t = record {
  front = [];
  rest = vs;
  mid = m;
  all = refl;
  first = tt;
  others = s;
  counts_first = record { deep = omega arith; many = omega arith; same_depth = refl; counted = omega arith };
  counts_others = t;
}
in_two Spelled deep units [] (i ∷ is) js m after s t = absurd s
in_two Spelled deep units (v ∷ vs) (i ∷ is) js m after s t =
    let one : Meter = record { depth = m.depth; units = m.units + (units v + 1) } in
    let p = in_two Spelled deep units vs is js one after s.1 (record { deep = omega (arith, t.deep); many = omega (arith, t.many); same_depth = t.same_depth; counted = omega (arith, t.counted) }) in
    record {
      front = v ∷ p.front;
      rest = p.rest;
      mid = p.mid;
      all = ap (λ (x : List _). v ∷ x) p.all;
      first = (s.0, p.first);
      others = p.others;
      counts_first = record { deep = omega (arith, p.counts_first.deep, t.deep); many = omega (arith, p.counts_first.many, t.many, p.counts_first.counted, p.counts_others.many, p.counts_others.counted, t.counted); same_depth = p.counts_first.same_depth; counted = omega (arith, p.counts_first.counted) };
      counts_others = p.counts_others;
    }
