-- Maps: what is read is spelled so, what is spelled is read, and the first fault, both ways.
use Rattle.std.proofs.Common.{◌≡◌, ◌≢◌, ℕ, ◌+◌, ◌-◌, ◌≤◌, ◌⊎◌, max, List, [], ◌∷◌, ◌++◌, length, drop, Some, refl, sym, ap, subst, ◌∙◌, append_assoc, arith, inl, inr, slice_get}
use Rattle.std.proofs.lemmas.List.{length-append}
use Rattle.spec_avro.specs.declared.meter.Meter.{Meter}
use Rattle.spec_avro.specs.Meter.{Counts, OpensBlocks}
use Rattle.spec_avro.specs.Text.{IsText}
use Rattle.avro_bytes.specs.Text.{text_at}
use Rattle.avro_bytes.specs.Laws.Binds.{rest_after, defect_as, defect_after, defect_map, defect_then, failing_map, stands_within, then_complete, then_steady}
use Rattle.avro_bytes.specs.Laws.TextDefects.{text_defect}
use Rattle.avro_bytes.specs.Laws.Texts.{text_complete, text_sound, text_steady}
use Rattle.spec_avro.specs.Node.{Node, MapNode}
use Rattle.spec_avro.specs.Datum.{Datum, Pairs, MapDatum, no_pairs, pair}
use Rattle.avro_datum.specs.Decoding.{Decoder, map_of, pair_at, pairs_from}
use Rattle.spec_avro.specs.FaultyDatum.{FaultyDatum, SpellsPair, faulty_key, faulty_map, faulty_value, pair_depth, pair_units, refused_map, faulty}
use Rattle.avro_datum.specs.ItemDecoding.{blocks_at}
use Rattle.spec_avro.specs.ItemFault.{Begins, FaultyBlocks, SpellEach, deepest, units_all}
use Rattle.spec_avro.specs.Spelling.{Spells, SpellsPairs, depth_of, depth_of_pairs, units_of, units_of_pairs}
use Rattle.avro_datum.specs.Laws.Blocks.{SpellBlocks, around_told, blocks_complete, blocks_have_defect, blocks_sound, blocks_steady, within_told}
use Rattle.avro_datum.specs.Laws.Decoders.{Deeper, HasFault, IsComplete, IsSound, IsSteady}
use Rattle.avro_datum.specs.Laws.ItemFaults.{AtFault}
use Rattle.avro_datum.specs.Laws.Items.{ReadsSound}
use Rattle.avro_datum.specs.Laws.ItemsPassed.{ReadsComplete}
use Rattle.avro_datum.specs.Laws.Parts.{joined_stands, map_steady, mapped, stands_as}
use Rattle.spec_decoding.specs.Decoding.{Complete, Decoding, Failed, ◌>>=◌}
use Rattle.avro_bytes.specs.Decoding.{Stands, map_decoding}
use Rattle.spec_avro.specs.Defect.{Defect, Need}
use Rattle.spec_avro.specs.Fault.{FaultyText, shifted}
use Rattle.avro_bytes.specs.Fault.{HasDefect, failing}
use Rattle.spec_avro.specs.declared.limits.TheConstants.{MOST_DEPTH}

-- ---- one pair

module _ (nodes : List Node) (inner left : ℕ) (all : List ℕ) (decoder : Decoder) where
  pub pair_sound : IsSound nodes all decoder left → ReadsSound (SpellsPair nodes inner) pair_depth pair_units left all (pair_at decoder all inner)
  pair_sound sound at m p to after l e =
      let t = then_complete (text_at all at m) (λ key to after. map_decoding (λ d. (key, d)) (decoder inner to after)) p to after e in
      let k = text_sound all at m t.first t.mid t.meter t.first_is in
      let v = mapped (λ d. (t.first, d)) (decoder inner t.mid t.meter) p to after t.next_is in
      let s = sound inner t.mid t.meter v.0 to after (l ∙ ap (λ (x : Meter). MOST_DEPTH - x.depth) k.1) v.1 in
      let made : Stands (SpellsPair nodes inner (t.first, v.0)) all at to = joined_stands (IsText t.first) (Spells nodes inner v.0) all at t.mid to k.0 s.0 in
      let counts : Counts (depth_of v.0) (units_of v.0) m after = subst (λ (x : Meter). Counts (depth_of v.0) (units_of v.0) x after) (sym k.1) s.1 in
      subst (λ (x : List ℕ × Datum). Stands (SpellsPair nodes inner x) all at to × Counts (pair_depth x) (pair_units x) m after) (sym v.2) (made, counts)

  pub pair_complete : IsComplete nodes all decoder left → ReadsComplete (SpellsPair nodes inner) pair_depth pair_units left all (pair_at decoder all inner)
  pair_complete complete p before bytes rest m after l is s t =
      let front = s.0 in
      let value = s.1 in
      let is1 : all ≡ before ++ (s.0 ++ (s.1 ++ rest)) = is ∙ ap (λ (b : List ℕ). before ++ (b ++ rest)) s.2 ∙ ap (λ (b : List ℕ). before ++ b) (append_assoc s.0 s.1 rest) in
      let is2 : all ≡ (before ++ s.0) ++ (s.1 ++ rest) = is1 ∙ sym (append_assoc before s.0 (s.1 ++ rest)) in
      let key : text_at all (length before) m ≡ Complete p.0 (length before + length s.0) m = ap (λ (b : List ℕ). text_at b (length before) m) is1 ∙ text_complete before s.0 (s.1 ++ rest) p.0 m m s.3 refl in
      let place : length (before ++ s.0) ≡ length before + length s.0 = length-append before s.0 in
      let datum : decoder inner (length before + length s.0) m ≡ Complete p.1 ((length before + length s.0) + length s.1) after = subst (λ (k : ℕ). decoder inner k m ≡ Complete p.1 (k + length s.1) after) place (complete inner p.1 (before ++ s.0) s.1 rest m after l is2 s.4 t) in
      let end : (length before + length s.0) + length s.1 ≡ length before + length bytes = omega (arith, ap length s.2, length-append s.0 s.1) in
      ap (λ (x : Decoding (List ℕ)). x >>= λ key to after. map_decoding (λ d. (key, d)) (decoder inner to after)) key
      ∙ ap (map_decoding (λ (d : Datum). (p.0, d))) datum ∙ ap (λ (k : ℕ). Complete (p.0, p.1) k after) end

  pub pair_steady : (others : List ℕ) (further : Decoder) → IsSteady all decoder further left → (at : ℕ) (m : Meter) → left ≡ MOST_DEPTH - m.depth → at ≤ length all → pair_at decoder all inner at m ≢ Failed Need → pair_at further (all ++ others) inner at m ≡ pair_at decoder all inner at m
  pair_steady others further steady at m l le c =
      then_steady (text_at all at m) (text_at (all ++ others) at m) (λ key to after. map_decoding (λ d. (key, d)) (decoder inner to after)) (λ key to after. map_decoding (λ d. (key, d)) (further inner to after))
      (text_steady all others at m le)
      (λ key mid after e d.
      let k = text_sound all at m key mid after e in
      map_steady (λ d. (key, d)) (decoder inner mid after) (further inner mid after) (steady inner mid after (l ∙ ap (λ (x : Meter). MOST_DEPTH - x.depth) k.1) (stands_within (IsText key) all at mid le k.0)) d)
      c

-- the datum after a key is at fault
record IsFaultyValue (nodes : List Node) (inner : ℕ) (bytes : List ℕ) (m : Meter) (d : Defect) : Type 0 where
  key : List ℕ
  spelling : List ℕ
  value : List ℕ
  further : Defect
  parts : bytes ≡ spelling ++ value
  text : IsText key spelling
  faulty : FaultyDatum nodes inner value m further
  place : d ≡ shifted (length spelling) further

abbrev FaultyPair : List Node → ℕ → List ℕ → Meter → Defect → Type 0
FaultyPair nodes inner bytes m d = FaultyText bytes d ⊎ IsFaultyValue nodes inner bytes m d

pair_defect : (nodes : List Node) (inner left : ℕ) (all : List ℕ) (decoder : Decoder) → HasFault nodes all decoder left → (at : ℕ) (m : Meter) → left ≡ MOST_DEPTH - m.depth → HasDefect (pair_at decoder all inner at m) at (FaultyPair nodes inner (drop at all) m)
pair_defect nodes inner left all decoder fault at m l =
    let P = FaultyPair nodes inner (drop at all) m in
    defect_then (text_at all at m) (λ key to after. map_decoding (λ d. (key, d)) (decoder inner to after)) at P
    (defect_as (text_at all at m) at (FaultyText (drop at all)) P (λ d h. inl h) (text_defect all at m))
    (λ key mid after e.
    let k = text_sound all at m key mid after e in
    let here : drop mid all ≡ k.0.rest = rest_after k.0.bytes k.0.rest all at mid k.0.parts k.0.end in
    defect_map (λ d. (key, d)) (decoder inner mid after) at P
    (defect_after (decoder inner mid after) at (length k.0.bytes) mid (FaultyDatum nodes inner (drop mid all) after) P k.0.end
    (λ further h. inr (record { key = key; spelling = k.0.bytes; value = k.0.rest; further = further; parts = k.0.parts; text = k.0.spelled; faulty = subst (λ (x : Meter). FaultyDatum nodes inner k.0.rest x further) (sym k.1) (subst (λ (b : List ℕ). FaultyDatum nodes inner b after further) here h); place = refl }))
    (fault inner mid after (l ∙ ap (λ (x : Meter). MOST_DEPTH - x.depth) k.1))))

-- ---- pairs as a list

abbrev pub list_of : Pairs → List (List ℕ × Datum)
list_of no_pairs = []
list_of (pair key d ps) = (key, d) ∷ list_of ps

from_list : (ps : Pairs) → pairs_from (list_of ps) ≡ ps
from_list no_pairs = refl
from_list (pair key d ps) = ap (pair key d) (from_list ps)

spells_pairs : (nodes : List Node) (inner : ℕ) (ps : List (List ℕ × Datum)) (items : List (List ℕ)) → SpellEach (SpellsPair nodes inner) ps items → SpellsPairs nodes inner (pairs_from ps) items
spells_pairs nodes inner [] [] s = tt
spells_pairs nodes inner (p ∷ ps) (i ∷ items) s = (s.0, spells_pairs nodes inner ps items s.1)
spells_pairs nodes inner [] (i ∷ items) s = absurd s
spells_pairs nodes inner (p ∷ ps) [] s = absurd s

pub spell_pairs : (nodes : List Node) (inner : ℕ) (ps : Pairs) (items : List (List ℕ)) → SpellsPairs nodes inner ps items → SpellEach (SpellsPair nodes inner) (list_of ps) items
spell_pairs nodes inner no_pairs [] s = tt
spell_pairs nodes inner (pair key d ps) (i ∷ items) s = (s.0, spell_pairs nodes inner ps items s.1)
spell_pairs nodes inner no_pairs (i ∷ items) s = absurd s
spell_pairs nodes inner (pair key d ps) [] s = absurd s

levels_of : (ps : List (List ℕ × Datum)) → depth_of_pairs (pairs_from ps) ≡ deepest pair_depth ps
levels_of [] = refl
levels_of (p ∷ ps) = ap (λ (k : ℕ). max (depth_of p.1) k) (levels_of ps)

units_from : (ps : List (List ℕ × Datum)) → units_of_pairs (pairs_from ps) ≡ units_all pair_units ps
units_from [] = refl
units_from (p ∷ ps) = ap (λ (k : ℕ). (units_of p.1 + 1) + k) (units_from ps)

module _ (nodes : List Node) (node inner left : ℕ) (all : List ℕ) (decoder : Decoder) (is : slice_get nodes node ≡ Some (MapNode inner)) where
  pub map_sound : Deeper (IsSound nodes all decoder) left → (at : ℕ) (m : Meter) (d : Datum) (to : ℕ) (after : Meter) → left ≡ MOST_DEPTH - m.depth → map_decoding map_of (blocks_at (pair_at decoder all inner) all at m) ≡ Complete d to after → Stands (Spells nodes node d) all at to × Counts (depth_of d) (units_of d) m after
  map_sound sound at m d to after l e =
      let v = mapped map_of (blocks_at (pair_at decoder all inner) all at m) d to after e in
      let b = blocks_sound (SpellsPair nodes inner) pair_depth pair_units left all (pair_at decoder all inner) (λ less k. pair_sound nodes inner less all decoder (sound less k)) at m v.0 to after l v.1 in
      let counts : Counts (depth_of (map_of v.0)) (units_of (map_of v.0)) m after = rw (levels_of v.0, units_from v.0) b.1 in
      subst (λ (x : Datum). Stands (Spells nodes node x) all at to × Counts (depth_of x) (units_of x) m after) (sym v.2) (stands_as (λ bytes s. (inner, is, s.0, s.1, spells_pairs nodes inner v.0 s.0 s.2)) b.0, counts)

  pub map_complete : Deeper (IsComplete nodes all decoder) left → (ps : Pairs) (before bytes rest : List ℕ) (m after : Meter) → left ≡ MOST_DEPTH - m.depth → all ≡ before ++ (bytes ++ rest) → SpellBlocks (SpellsPair nodes inner) pair_depth pair_units (list_of ps) bytes → Counts (depth_of_pairs ps + 1) (units_of_pairs ps) m after
      → map_decoding map_of (blocks_at (pair_at decoder all inner) all (length before) m) ≡ Complete (MapDatum ps) (length before + length bytes) after
  map_complete complete ps before bytes rest m after l e s t =
      let counts : Counts (depth_of_pairs (pairs_from (list_of ps)) + 1) (units_of_pairs (pairs_from (list_of ps))) m after = subst (λ (x : Pairs). Counts (depth_of_pairs x + 1) (units_of_pairs x) m after) (sym (from_list ps)) t in
      ap (map_decoding map_of) (blocks_complete (SpellsPair nodes inner) pair_depth pair_units left all (pair_at decoder all inner) (λ less k. pair_complete nodes inner less all decoder (complete less k)) (list_of ps) before bytes rest m after l e s (rw (levels_of (list_of ps), units_from (list_of ps)) at counts))
      ∙ ap (λ (x : Pairs). Complete (MapDatum x) (length before + length bytes) after) (from_list ps)

  pub map_is_steady : (others : List ℕ) (further : Decoder) → Deeper (IsSound nodes all decoder) left → Deeper (IsSteady all decoder further) left → (at : ℕ) (m : Meter) → left ≡ MOST_DEPTH - m.depth → at ≤ length all → map_decoding map_of (blocks_at (pair_at decoder all inner) all at m) ≢ Failed Need
      → map_decoding map_of (blocks_at (pair_at further (all ++ others) inner) (all ++ others) at m) ≡ map_decoding map_of (blocks_at (pair_at decoder all inner) all at m)
  map_is_steady others further sound steady at m l le c =
      map_steady map_of (blocks_at (pair_at decoder all inner) all at m) (blocks_at (pair_at further (all ++ others) inner) (all ++ others) at m)
      (blocks_steady (SpellsPair nodes inner) pair_depth pair_units left all (pair_at decoder all inner) others (pair_at further (all ++ others) inner) (λ less k. pair_sound nodes inner less all decoder (sound less k)) (λ less k _. pair_steady nodes inner less all decoder others further (steady less k)) at m l le) c

  map_fault : (at : ℕ) (m within : Meter) → OpensBlocks m within → (d : Defect) → AtFault (SpellsPair nodes inner) pair_depth pair_units (FaultyPair nodes inner) (drop at all) within d → FaultyDatum nodes node (drop at all) m d
  map_fault at m within o d (inl h) = faulty (MapNode inner) is (faulty_map within o h)
  map_fault at m within o d (inr h) = pair_fault h.faulty
    where
      pair_fault : FaultyPair nodes inner h.rest h.opened h.inner → FaultyDatum nodes node (drop at all) m d
      pair_fault (inl f) = faulty (MapNode inner) is (faulty_key within h.opened h.front h.rest h.inner o h.begins f h.where_it_is)
      pair_fault (inr v) = faulty (MapNode inner) is (faulty_value within h.opened h.front h.rest v.key v.spelling v.value v.further o h.begins v.parts v.text v.faulty (h.where_it_is ∙ ap (shifted (length h.front)) v.place))

  pub map_defect : Deeper (IsSound nodes all decoder) left → Deeper (HasFault nodes all decoder) left → (at : ℕ) (m : Meter) → left ≡ MOST_DEPTH - m.depth → HasDefect (map_decoding map_of (blocks_at (pair_at decoder all inner) all at m)) at (FaultyDatum nodes node (drop at all) m)
  map_defect sound fault at m l =
      defect_map map_of (blocks_at (pair_at decoder all inner) all at m) at (FaultyDatum nodes node (drop at all) m)
      (blocks_have_defect (SpellsPair nodes inner) pair_depth pair_units left all (pair_at decoder all inner) (FaultyPair nodes inner) (FaultyDatum nodes node (drop at all) m) (λ less k. pair_sound nodes inner less all decoder (sound less k)) (λ less k. pair_defect nodes inner less all decoder (fault less k)) at m l
      (λ d r. faulty (MapNode inner) is (refused_map r)) (map_fault at m))

  module _ (complete : Deeper (IsComplete nodes all decoder) left) (before bytes : List ℕ) (m within : Meter) (d : Defect) (l : left ≡ MOST_DEPTH - m.depth) (e : all ≡ before ++ bytes) (o : OpensBlocks m within) where
    pub map_told : FaultyBlocks (SpellsPair nodes inner) pair_depth pair_units bytes within d → map_decoding map_of (blocks_at (pair_at decoder all inner) all (length before) m) ≡ failing (length before) d
    map_told h =
        ap (map_decoding map_of) (around_told (SpellsPair nodes inner) pair_depth pair_units left all (pair_at decoder all inner) (λ less k. pair_complete nodes inner less all decoder (complete less k)) before bytes m within l e o d h) ∙ failing_map (length before) d map_of

    pub pair_told : (front rest : List ℕ) (opened : Meter) (further : Defect) → Begins (SpellsPair nodes inner) pair_depth pair_units bytes within front rest opened → pair_at decoder all inner (length before + length front) opened ≡ failing (length before + length front) further → d ≡ shifted (length front) further
        → map_decoding map_of (blocks_at (pair_at decoder all inner) all (length before) m) ≡ failing (length before) d
    pair_told front rest opened further h told place =
        ap (map_decoding map_of) (within_told (SpellsPair nodes inner) pair_depth pair_units left all (pair_at decoder all inner) (λ less k. pair_complete nodes inner less all decoder (complete less k)) before bytes m within l e o front rest opened further d h told place) ∙ failing_map (length before) d map_of
