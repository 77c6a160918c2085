-- Arrays: what is read is spelled so, what is spelled is read, and the first fault, both ways.
use Rattle.std.proofs.Common.{◌≡◌, ◌≢◌, ℕ, ◌+◌, ◌-◌, ◌≤◌, max, List, [], ◌∷◌, ◌++◌, length, drop, Some, refl, sym, ap, subst, ◌∙◌, inl, inr, slice_get}
use Rattle.spec_avro.specs.declared.meter.Meter.{Meter}
use Rattle.spec_avro.specs.Meter.{Counts, OpensBlocks}
use Rattle.avro_bytes.specs.Laws.Binds.{defect_map, failing_map}
use Rattle.spec_avro.specs.Node.{Node, ArrayNode}
use Rattle.spec_avro.specs.Datum.{Datum, Data, ArrayDatum, no_more, more}
use Rattle.avro_datum.specs.Decoding.{Decoder, array_of, data_from}
use Rattle.spec_avro.specs.FaultyDatum.{FaultyDatum, faulty_array, faulty_item, refused_array, faulty}
use Rattle.avro_datum.specs.ItemDecoding.{blocks_at}
use Rattle.spec_avro.specs.ItemFault.{Begins, FaultyBlocks, SpellEach, deepest, units_all}
use Rattle.spec_avro.specs.Spelling.{Spells, SpellsItems, depth_of, depth_of_data, units_of, units_of_items}
use Rattle.avro_datum.specs.Laws.Blocks.{SpellBlocks, around_told, blocks_complete, blocks_have_defect, blocks_sound, blocks_steady, within_told}
use Rattle.avro_datum.specs.Laws.Decoders.{Deeper, HasFault, IsComplete, IsSound, IsSteady}
use Rattle.avro_datum.specs.Laws.ItemFaults.{AtFault}
use Rattle.avro_datum.specs.Laws.Parts.{map_steady, mapped, stands_as}
use Rattle.spec_decoding.specs.Decoding.{Complete, Failed}
use Rattle.avro_bytes.specs.Decoding.{Stands, map_decoding}
use Rattle.spec_avro.specs.Defect.{Defect, Need}
use Rattle.avro_bytes.specs.Fault.{HasDefect, failing}
use Rattle.spec_avro.specs.Fault.{shifted}
use Rattle.spec_avro.specs.declared.limits.TheConstants.{MOST_DEPTH}

-- ---- data as a list

abbrev pub list_of : Data → List Datum
list_of no_more = []
list_of (more d ds) = d ∷ list_of ds

from_list : (ds : Data) → data_from (list_of ds) ≡ ds
from_list no_more = refl
from_list (more d ds) = ap (more d) (from_list ds)

spells_items : (nodes : List Node) (inner : ℕ) (ds : List Datum) (items : List (List ℕ)) → SpellEach (Spells nodes inner) ds items → SpellsItems nodes inner (data_from ds) items
spells_items nodes inner [] [] s = tt
spells_items nodes inner (d ∷ ds) (i ∷ items) s = (s.0, spells_items nodes inner ds items s.1)
spells_items nodes inner [] (i ∷ items) s = absurd s
spells_items nodes inner (d ∷ ds) [] s = absurd s

pub spell_each : (nodes : List Node) (inner : ℕ) (ds : Data) (items : List (List ℕ)) → SpellsItems nodes inner ds items → SpellEach (Spells nodes inner) (list_of ds) items
spell_each nodes inner no_more [] s = tt
spell_each nodes inner (more d ds) (i ∷ items) s = (s.0, spell_each nodes inner ds items s.1)
spell_each nodes inner no_more (i ∷ items) s = absurd s
spell_each nodes inner (more d ds) [] s = absurd s

levels_of : (ds : List Datum) → depth_of_data (data_from ds) ≡ deepest depth_of ds
levels_of [] = refl
levels_of (d ∷ ds) = ap (λ (k : ℕ). max (depth_of d) k) (levels_of ds)

units_from : (ds : List Datum) → units_of_items (data_from ds) ≡ units_all units_of ds
units_from [] = refl
units_from (d ∷ ds) = ap (λ (k : ℕ). (units_of d + 1) + k) (units_from ds)

module _ (nodes : List Node) (node inner left : ℕ) (all : List ℕ) (decoder : Decoder) (is : slice_get nodes node ≡ Some (ArrayNode inner)) where
  pub array_sound : Deeper (IsSound nodes all decoder) left → (at : ℕ) (m : Meter) (d : Datum) (to : ℕ) (after : Meter) → left ≡ MOST_DEPTH - m.depth → map_decoding array_of (blocks_at (decoder inner) all at m) ≡ Complete d to after → Stands (Spells nodes node d) all at to × Counts (depth_of d) (units_of d) m after
  array_sound sound at m d to after l e =
      let v = mapped array_of (blocks_at (decoder inner) all at m) d to after e in
      let b = blocks_sound (Spells nodes inner) depth_of units_of left all (decoder inner) (λ less k. sound less k inner) at m v.0 to after l v.1 in
      let counts : Counts (depth_of (array_of v.0)) (units_of (array_of v.0)) m after = rw (levels_of v.0, units_from v.0) b.1 in
      subst (λ (x : Datum). Stands (Spells nodes node x) all at to × Counts (depth_of x) (units_of x) m after) (sym v.2) (stands_as (λ bytes s. (inner, is, s.0, s.1, spells_items nodes inner v.0 s.0 s.2)) b.0, counts)

  pub array_complete : Deeper (IsComplete nodes all decoder) left → (ds : Data) (before bytes rest : List ℕ) (m after : Meter) → left ≡ MOST_DEPTH - m.depth → all ≡ before ++ (bytes ++ rest) → SpellBlocks (Spells nodes inner) depth_of units_of (list_of ds) bytes → Counts (depth_of_data ds + 1) (units_of_items ds) m after
      → map_decoding array_of (blocks_at (decoder inner) all (length before) m) ≡ Complete (ArrayDatum ds) (length before + length bytes) after
  array_complete complete ds before bytes rest m after l e s t =
      let counts : Counts (depth_of_data (data_from (list_of ds)) + 1) (units_of_items (data_from (list_of ds))) m after = subst (λ (x : Data). Counts (depth_of_data x + 1) (units_of_items x) m after) (sym (from_list ds)) t in
      ap (map_decoding array_of) (blocks_complete (Spells nodes inner) depth_of units_of left all (decoder inner) (λ less k. complete less k inner) (list_of ds) before bytes rest m after l e s (rw (levels_of (list_of ds), units_from (list_of ds)) at counts))
      ∙ ap (λ (x : Data). Complete (ArrayDatum x) (length before + length bytes) after) (from_list ds)

  pub array_steady : (others : List ℕ) (further : Decoder) → Deeper (IsSound nodes all decoder) left → Deeper (IsSteady all decoder further) left → (at : ℕ) (m : Meter) → left ≡ MOST_DEPTH - m.depth → at ≤ length all → map_decoding array_of (blocks_at (decoder inner) all at m) ≢ Failed Need
      → map_decoding array_of (blocks_at (further inner) (all ++ others) at m) ≡ map_decoding array_of (blocks_at (decoder inner) all at m)
  array_steady others further sound steady at m l le c =
      map_steady array_of (blocks_at (decoder inner) all at m) (blocks_at (further inner) (all ++ others) at m)
      (blocks_steady (Spells nodes inner) depth_of units_of left all (decoder inner) others (further inner) (λ less k. sound less k inner) (λ less k _. steady less k inner) at m l le) c

  array_fault : (at : ℕ) (m within : Meter) → OpensBlocks m within → (d : Defect) → AtFault (Spells nodes inner) depth_of units_of (FaultyDatum nodes inner) (drop at all) within d → FaultyDatum nodes node (drop at all) m d
  array_fault at m within o d (inl h) = faulty (ArrayNode inner) is (faulty_array within o h)
  array_fault at m within o d (inr h) = faulty (ArrayNode inner) is (faulty_item within h.opened h.front h.rest h.inner o h.begins h.faulty h.where_it_is)

  pub array_defect : Deeper (IsSound nodes all decoder) left → Deeper (HasFault nodes all decoder) left → (at : ℕ) (m : Meter) → left ≡ MOST_DEPTH - m.depth → HasDefect (map_decoding array_of (blocks_at (decoder inner) all at m)) at (FaultyDatum nodes node (drop at all) m)
  array_defect sound fault at m l =
      defect_map array_of (blocks_at (decoder inner) all at m) at (FaultyDatum nodes node (drop at all) m)
      (blocks_have_defect (Spells nodes inner) depth_of units_of left all (decoder inner) (FaultyDatum nodes inner) (FaultyDatum nodes node (drop at all) m) (λ less k. sound less k inner) (λ less k. fault less k inner) at m l
      (λ d r. faulty (ArrayNode inner) is (refused_array r)) (array_fault at m))

  module _ (complete : Deeper (IsComplete nodes all decoder) left) (before bytes : List ℕ) (m within : Meter) (d : Defect) (l : left ≡ MOST_DEPTH - m.depth) (e : all ≡ before ++ bytes) (o : OpensBlocks m within) where
    pub array_told : FaultyBlocks (Spells nodes inner) depth_of units_of bytes within d → map_decoding array_of (blocks_at (decoder inner) all (length before) m) ≡ failing (length before) d
    array_told h =
        ap (map_decoding array_of) (around_told (Spells nodes inner) depth_of units_of left all (decoder inner) (λ less k. complete less k inner) before bytes m within l e o d h) ∙ failing_map (length before) d array_of

    pub item_told : (front rest : List ℕ) (opened : Meter) (further : Defect) → Begins (Spells nodes inner) depth_of units_of bytes within front rest opened → decoder inner (length before + length front) opened ≡ failing (length before + length front) further → d ≡ shifted (length front) further
        → map_decoding array_of (blocks_at (decoder inner) all (length before) m) ≡ failing (length before) d
    item_told front rest opened further h told place =
        ap (map_decoding array_of) (within_told (Spells nodes inner) depth_of units_of left all (decoder inner) (λ less k. complete less k inner) before bytes m within l e o front rest opened further d h told place) ∙ failing_map (length before) d array_of
