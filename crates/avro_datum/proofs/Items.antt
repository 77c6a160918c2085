-- Walking over the items of blocks, one after another.
use Rattle.std.proofs.Common.{◌≡◌, ℕ, zero, suc, ◌+◌, ◌-◌, ◌<◌, ◌≤◌, List, [], ◌∷◌, ◌++◌, Option, Some, None, Err, Ok, Result, refl, sym, ap, ◌∙◌, arith, Bool, true, false}
use Rattle.std.proofs.lemmas.List.{append-nil}
use Rattle.spec_avro.specs.declared.meter.Meter.{Meter}
use Rattle.spec_decoding.specs.declared.fault.Fault.{Fault}
use Rattle.spec_decoding.specs.Walk.{Walk, first_walk}
use Rattle.avro_bytes.specs.BlockDecoding.{Walks}
use Rattle.spec_decoding.specs.BlockDecoding.{next_item}
use Rattle.spec_decoding.specs.Opening.{opened_blocks}
use Rattle.avro_datum.specs.ItemDecoding.{Reader, blocks_at, items_at, items_from, steps_left}
use Rattle.avro_datum.specs.Laws.ItemsAgain.{map_after, map_none}
use Rattle.spec_decoding.specs.Decoding.{Complete, Decoding, inside, ◌>>=◌}
use Rattle.avro_bytes.specs.Decoding.{map_decoding}
use Rattle.spec_avro.specs.declared.limits.TheConstants.{MOST_UNITS}
use Rattle.avro_datum.specs.Walking.{Failing}
use Rattle.avro_datum.proofs.Walked.{fails_mapped, fails_then, fails_to_go_on}

-- ---- what the walk answers

pub walks_on : (further : Bool) (next : ℕ) (after : Meter) (old new : Walk) (step : Decoding (Option Walk)) → further ≡ true → Walks (Ok (further, next, after)) old new step → step ≡ Complete (Some new) next after
walks_on true next after old new step e w = w
walks_on false next after old new step e w = absurd cc

pub walks_out : (further : Bool) (next : ℕ) (after : Meter) (old new : Walk) (step : Decoding (Option Walk)) → further ≡ false → Walks (Ok (further, next, after)) old new step → step ≡ Complete None next after
walks_out false next after old new step e w = w
walks_out true next after old new step e w = absurd cc

-- ---- where some items have been passed, which a group holds

module _ {G A : Type 0} (holds : G → List A → Type 0) (reader : Reader A) (bytes : List ℕ) (all : Decoding (List A)) where
  pub record SoFar (walk : Walk) (group : G) (to : ℕ) (m : Meter) : Type 0 where
    pub left : ℕ
    pub enough : MOST_UNITS - m.units < left
    pub front : List A
    pub held : holds group front
    pub same : map_decoding (λ ws. front ++ ws) (items_at left reader bytes walk to m) ≡ all

  module _ (walk : Walk) (group : G) (to : ℕ) (m : Meter) (s : SoFar walk group to m) where
    at_step : (left : ℕ) → s.left ≡ suc left → all ≡ map_decoding (λ ws. s.front ++ ws) (next_item walk bytes to m >>= items_from reader (items_at left reader bytes))
    unfolding items_at
    at_step left l = sym s.same ∙ ap (λ (k : ℕ). map_decoding (λ ws. s.front ++ ws) (items_at k reader bytes walk to m)) l

    some_left : (left : ℕ) → s.left ≡ left → (less : ℕ) × (left ≡ suc less)
    some_left zero e = absurd (omega (arith, s.enough, e))
    some_left (suc less) e = (less, refl)

    pub walk_fails : (L : Type 0) (e : Fault) (old new : Walk) → Walks (Err e) old new (next_item walk bytes to m) → Failing L e all
    walk_fails L e old new w =
        let k = some_left s.left refl in
        let f : Failing L e (next_item walk bytes to m) = fails_to_go_on L e old new (next_item walk bytes to m) w in
        rw (at_step k.0 k.1) (fails_mapped L (λ ws. s.front ++ ws) e (next_item walk bytes to m >>= items_from reader (items_at k.0 reader bytes)) (fails_then L (items_from reader (items_at k.0 reader bytes)) e (next_item walk bytes to m) f))

    pub ends : (next : ℕ) (after : Meter) → next_item walk bytes to m ≡ Complete None next after → all ≡ Complete s.front next after
    ends next after e =
        let k = some_left s.left refl in
        at_step k.0 k.1 ∙ ap (λ (x : Decoding (Option Walk)). map_decoding (λ ws. s.front ++ ws) (x >>= items_from reader (items_at k.0 reader bytes))) e ∙ ap (λ (l : List A). Complete l next after) (append-nil s.front)

    module _ (new : Walk) (next : ℕ) (after : Meter) (step : next_item walk bytes to m ≡ Complete (Some new) next after) where
      at_item : (left : ℕ) → s.left ≡ suc left → all ≡ map_decoding (λ ws. s.front ++ ws) (reader next after >>= λ v to after. map_decoding (λ vs. v ∷ vs) (items_at left reader bytes new to after))
      at_item left l = at_step left l ∙ ap (λ (x : Decoding (Option Walk)). map_decoding (λ ws. s.front ++ ws) (x >>= items_from reader (items_at left reader bytes))) step

      pub item_fails : (L : Type 0) (e : Fault) → Failing L e (reader next after) → Failing L e all
      item_fails L e f =
          let k = some_left s.left refl in
          rw (at_item k.0 k.1) (fails_mapped L (λ ws. s.front ++ ws) e (reader next after >>= λ v to after. map_decoding (λ vs. v ∷ vs) (items_at k.0 reader bytes new to after)) (fails_then L (λ v to after. map_decoding (λ vs. v ∷ vs) (items_at k.0 reader bytes new to after)) e (reader next after) f))

      pub goes_on : (v : A) (end : ℕ) (last : Meter) → reader next after ≡ Complete v end last → m.units < MOST_UNITS → m.units + 1 ≤ last.units → (grown : G) → (holds group s.front → holds grown (s.front ++ v ∷ [])) → SoFar new grown end last
      goes_on v end last e few counted grown h =
          let k = some_left s.left refl in
          record {
            left = k.0;
            enough = omega (arith, s.enough, k.1, few, counted);
            front = s.front ++ v ∷ [];
            held = h s.held;
            same =
                map_after s.front (v ∷ []) (items_at k.0 reader bytes new end last)
                ∙ sym (at_item k.0 k.1 ∙ ap (λ (x : Decoding A). map_decoding (λ ws. s.front ++ ws) (x >>= λ v to after. map_decoding (λ vs. v ∷ vs) (items_at k.0 reader bytes new to after))) e);
          }

-- none of the blocks at an offset, whose walk has begun
pub starts : {G A : Type 0} (holds : G → List A → Type 0) (reader : Reader A) (bytes : List ℕ) (at : ℕ) (m within : Meter) (walk : Walk) (group : G) → opened_blocks at m ≡ Ok within → walk ≡ first_walk at → holds group [] → SoFar holds reader bytes (blocks_at reader bytes at m) walk group at within
starts holds reader bytes at m within walk group o w h = record {
  left = steps_left within;
  enough = omega arith;
  front = [];
  held = h;
  same =
      map_none (items_at (steps_left within) reader bytes walk at within)
      ∙ ap (λ (x : Walk). items_at (steps_left within) reader bytes x at within) w
      ∙ sym (ap (λ (r : Result Meter Fault). inside r (λ within. items_at (steps_left within) reader bytes (first_walk at) at within)) o);
}
