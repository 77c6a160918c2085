-- Records: what is read is spelled so, what is spelled is read, and what is decided stays so.
use Rattle.std.proofs.Common.{◌≡◌, ◌≢◌, ℕ, ◌+◌, ◌-◌, ◌≤◌, List, [], ◌∷◌, ◌++◌, length, Some, Result, Ok, refl, sym, ap, subst, ◌∙◌, append_assoc, arith, slice_get, suc}
use Rattle.std.proofs.lemmas.List.{length-append}
use Rattle.spec_avro.specs.declared.meter.Meter.{Meter}
use Rattle.spec_decoding.specs.declared.fault.Fault.{Fault}
use Rattle.spec_avro.specs.Meter.{Counts}
use Rattle.spec_decoding.specs.Opening.{opened_record}
use Rattle.avro_bytes.specs.Laws.Binds.{complete_is, stands_within, then_complete, then_steady}
use Rattle.avro_bytes.specs.Laws.Meters.{opened_again, same_meter, was_opened}
use Rattle.spec_avro.specs.Node.{Node, Names, FieldNode, RecordNode}
use Rattle.spec_avro.specs.Datum.{Datum, Data, RecordDatum, no_more, more}
use Rattle.avro_datum.specs.Decoding.{Decoder, closed_record, fields_at, record_at}
use Rattle.spec_avro.specs.Spelling.{Spells, SpellsFields, depth_of, depth_of_data, units_of, units_of_data}
use Rattle.avro_datum.specs.Laws.Decoders.{Deeper, IsComplete, IsSound, IsSteady}
use Rattle.avro_datum.specs.Laws.Parts.{counts_none, counts_nothing, inside_complete, inside_steady, joined_stands, nowhere, stands_as}
use Rattle.spec_decoding.specs.Decoding.{Complete, Decoding, Failed, inside, ◌>>=◌}
use Rattle.avro_bytes.specs.Decoding.{Stands}
use Rattle.spec_avro.specs.Defect.{Need}
use Rattle.spec_avro.specs.declared.limits.TheConstants.{MOST_DEPTH}

-- ---- what is read is spelled

fields_sound : (left : ℕ) (nodes : List Node) (all : List ℕ) (decoder : Decoder) → IsSound nodes all decoder left → (fields : List FieldNode) (at : ℕ) (m : Meter) (ds : Data) (to : ℕ) (after : Meter) → left ≡ MOST_DEPTH - m.depth → fields_at decoder fields at m ≡ Complete ds to after → Stands (SpellsFields nodes fields ds) all at to × Counts (depth_of_data ds) (units_of_data ds) m after
unfolding fields_at
fields_sound left nodes all decoder sound [] at m ds to after l e =
    let w = complete_is e in
    (subst (λ (x : Data). Stands (SpellsFields nodes [] x) all at to) w.0 (subst (Stands (λ bytes. bytes ≡ []) all at) w.1 (nowhere all at)), subst (λ (x : Data). Counts (depth_of_data x) (units_of_data x) m after) w.0 (counts_none m after w.2))
fields_sound left nodes all decoder sound (f ∷ fields) at m ds to after l e =
    let t = then_complete (decoder f.node at m) (λ d mid next. fields_at decoder fields mid next >>= λ ds end last. Complete (more d ds) end last) ds to after e in
    let u = then_complete (fields_at decoder fields t.mid t.meter) (λ ds end last. Complete (more t.first ds) end last) ds to after t.next_is in
    let w = complete_is u.next_is in
    let first = sound f.node at m t.first t.mid t.meter l t.first_is in
    let still : left ≡ MOST_DEPTH - t.meter.depth = l ∙ ap (λ (k : ℕ). MOST_DEPTH - k) (sym first.1.same_depth) in
    let others = fields_sound left nodes all decoder sound fields t.mid t.meter u.first u.mid u.meter still u.first_is in
    let stands : Stands (SpellsFields nodes (f ∷ fields) (more t.first u.first)) all at u.mid = joined_stands (Spells nodes f.node t.first) (SpellsFields nodes fields u.first) all at t.mid u.mid first.0 others.0 in
    let counts : Counts (depth_of_data (more t.first u.first)) (units_of_data (more t.first u.first)) m u.meter = record {
      deep = omega (arith, first.1.deep, others.1.deep, first.1.same_depth);
      many = omega (arith, first.1.many, others.1.many, first.1.counted);
      same_depth = others.1.same_depth ∙ first.1.same_depth;
      counted = omega (arith, first.1.counted, others.1.counted);
    } in (
      subst (λ (x : Data). Stands (SpellsFields nodes (f ∷ fields) x) all at to) w.0 (subst (Stands (SpellsFields nodes (f ∷ fields) (more t.first u.first)) all at) w.1 stands),
      subst (λ (x : Data). Counts (depth_of_data x) (units_of_data x) m after) w.0 (subst (Counts (depth_of_data (more t.first u.first)) (units_of_data (more t.first u.first)) m) w.2 counts),
    )

pub record_sound : (left : ℕ) (nodes : List Node) (all : List ℕ) (decoder : Decoder) (node : ℕ) → Deeper (IsSound nodes all decoder) left → (name : Names) (fields : List FieldNode) (at : ℕ) (m : Meter) (d : Datum) (to : ℕ) (after : Meter) → left ≡ MOST_DEPTH - m.depth → slice_get nodes node ≡ Some (RecordNode name fields) → record_at decoder fields at m ≡ Complete d to after → Stands (Spells nodes node d) all at to × Counts (depth_of d) (units_of d) m after
record_sound left nodes all decoder node sound name fields at m d to after l is e =
    let o = inside_complete (opened_record at m) (λ within. fields_at decoder fields at within >>= closed_record m.depth) d to after e in
    let t = then_complete (fields_at decoder fields at o.0) (closed_record m.depth) d to after o.2 in
    let w = complete_is t.next_is in
    let b = was_opened at m o.0 o.1 in
    let f = fields_sound (MOST_DEPTH - suc m.depth) nodes all decoder (sound (MOST_DEPTH - suc m.depth) (omega (arith, l, b.shallow))) fields at o.0 t.first t.mid t.meter (omega (arith, b.deeper)) t.first_is in (
      subst (λ (x : Datum). Stands (Spells nodes node x) all at to) w.0 (subst (Stands (Spells nodes node (RecordDatum t.first)) all at) w.1 (stands_as (λ bytes s. (name, fields, is, s)) f.0)),
      subst (λ (x : Datum). Counts (depth_of x) (units_of x) m after) w.0 (record {
        deep = omega (arith, f.1.deep, b.shallow, b.deeper);
        many = omega (arith, f.1.many, b.few, b.counted);
        same_depth = sym (ap (λ (x : Meter). x.depth) w.2);
        counted = omega (arith, sym (ap (λ (x : Meter). x.units) w.2), f.1.counted, b.counted);
      }),
    )

-- ---- what is spelled is read

fields_complete : (left : ℕ) (nodes : List Node) (all : List ℕ) (decoder : Decoder) → IsComplete nodes all decoder left → (fields : List FieldNode) (ds : Data) (before bytes rest : List ℕ) (m after : Meter) → left ≡ MOST_DEPTH - m.depth → all ≡ before ++ (bytes ++ rest) → SpellsFields nodes fields ds bytes → Counts (depth_of_data ds) (units_of_data ds) m after → fields_at decoder fields (length before) m ≡ Complete ds (length before + length bytes) after
unfolding fields_at
fields_complete left nodes all decoder complete [] no_more before bytes rest m after l is s t =
    let end : length before ≡ length before + length bytes = omega (arith, ap length s) in
    ap (λ (k : ℕ). Complete no_more k m) end ∙ ap (λ (x : Meter). Complete no_more (length before + length bytes) x) (counts_nothing m after t)
fields_complete left nodes all decoder complete [] (more d ds) before bytes rest m after l is s t = absurd s
fields_complete left nodes all decoder complete (f ∷ fields) no_more before bytes rest m after l is s t = absurd s
fields_complete left nodes all decoder complete (f ∷ fields) (more d ds) before bytes rest m after l is s t =
    let front = s.0 in
    let others = s.1 in
    let mid : Meter = record { depth = m.depth; units = m.units + units_of d } in
    let is1 : all ≡ before ++ (front ++ (others ++ rest)) = is ∙ ap (λ (b : List ℕ). before ++ (b ++ rest)) s.2 ∙ ap (λ (b : List ℕ). before ++ b) (append_assoc front others rest) in
    let is2 : all ≡ (before ++ front) ++ (others ++ rest) = is1 ∙ sym (append_assoc before front (others ++ rest)) in
    let first = complete f.node d before front (others ++ rest) m mid l is1 s.3 (record { deep = omega (arith, t.deep); many = omega (arith, t.many); same_depth = refl; counted = refl }) in
    let next = fields_complete left nodes all decoder complete fields ds (before ++ front) others rest mid after l is2 s.4 (record { deep = omega (arith, t.deep); many = omega (arith, t.many); same_depth = t.same_depth; counted = omega (arith, t.counted) }) in
    let place : length (before ++ front) ≡ length before + length front = length-append before front in
    let end : length (before ++ front) + length others ≡ length before + length bytes = omega (arith, place, ap length s.2, length-append front others) in
    let beyond : fields_at decoder fields (length before + length front) mid ≡ Complete ds (length before + length bytes) after = ap (λ (k : ℕ). fields_at decoder fields k mid) (sym place) ∙ next ∙ ap (λ (k : ℕ). Complete ds k after) end in
    ap (λ (x : Decoding Datum). x >>= λ d to after. fields_at decoder fields to after >>= λ ds end last. Complete (more d ds) end last) first
    ∙ ap (λ (x : Decoding Data). x >>= λ ds end last. Complete (more d ds) end last) beyond

pub record_complete : (left : ℕ) (nodes : List Node) (all : List ℕ) (decoder : Decoder) → Deeper (IsComplete nodes all decoder) left → (fields : List FieldNode) (ds : Data) (before bytes rest : List ℕ) (m after : Meter) → left ≡ MOST_DEPTH - m.depth → all ≡ before ++ (bytes ++ rest) → SpellsFields nodes fields ds bytes → Counts (depth_of_data ds + 1) (units_of_data ds + 1) m after → record_at decoder fields (length before) m ≡ Complete (RecordDatum ds) (length before + length bytes) after
record_complete left nodes all decoder complete fields ds before bytes rest m after l is s t =
    let within : Meter = record { depth = m.depth + 1; units = m.units + 1 } in
    let last : Meter = record { depth = m.depth + 1; units = after.units } in
    let opens : opened_record (length before) m ≡ Ok within = opened_again (length before) m within (record { shallow = omega arith; few = omega (arith, t.many); deeper = refl; counted = refl }) in
    let each = fields_complete (MOST_DEPTH - suc m.depth) nodes all decoder (complete (MOST_DEPTH - suc m.depth) (omega (arith, l, t.deep))) fields ds before bytes rest within last (omega arith) is s (record { deep = omega (arith, t.deep); many = omega (arith, t.many); same_depth = refl; counted = omega (arith, t.counted) }) in
    ap (λ (r : Result Meter Fault). inside r (λ within. fields_at decoder fields (length before) within >>= closed_record m.depth)) opens
    ∙ ap (λ (x : Decoding Data). x >>= closed_record m.depth) each
    ∙ ap (λ (x : Meter). Complete (RecordDatum ds) (length before + length bytes) x) (same_meter (record { depth = m.depth; units = after.units }) after (sym t.same_depth) refl)

-- ---- what is decided stays so

fields_steady : (left : ℕ) (nodes : List Node) (all : List ℕ) (decoder further : Decoder) → IsSound nodes all decoder left → IsSteady all decoder further left → (fields : List FieldNode) (at : ℕ) (m : Meter) → left ≡ MOST_DEPTH - m.depth → at ≤ length all → fields_at decoder fields at m ≢ Failed Need → fields_at further fields at m ≡ fields_at decoder fields at m
unfolding fields_at
fields_steady left nodes all decoder further sound steady [] at m l le c = refl
fields_steady left nodes all decoder further sound steady (f ∷ fields) at m l le c =
    then_steady (decoder f.node at m) (further f.node at m)
    (λ d to after. fields_at decoder fields to after >>= λ ds end last. Complete (more d ds) end last)
    (λ d to after. fields_at further fields to after >>= λ ds end last. Complete (more d ds) end last)
    (steady f.node at m l le)
    (λ d to after e c.
    let s = sound f.node at m d to after l e in
    let still : left ≡ MOST_DEPTH - after.depth = l ∙ ap (λ (k : ℕ). MOST_DEPTH - k) (sym s.1.same_depth) in
    then_steady (fields_at decoder fields to after) (fields_at further fields to after) (λ ds end last. Complete (more d ds) end last) (λ ds end last. Complete (more d ds) end last)
    (fields_steady left nodes all decoder further sound steady fields to after still (stands_within _ all at to le s.0))
    (λ ds end last e c. refl) c)
    c

pub record_steady : (left : ℕ) (nodes : List Node) (all : List ℕ) (decoder further : Decoder) → Deeper (IsSound nodes all decoder) left → Deeper (IsSteady all decoder further) left → (fields : List FieldNode) (at : ℕ) (m : Meter) → left ≡ MOST_DEPTH - m.depth → at ≤ length all → record_at decoder fields at m ≢ Failed Need → record_at further fields at m ≡ record_at decoder fields at m
record_steady left nodes all decoder further sound steady fields at m l le c =
    inside_steady (opened_record at m) (λ within. fields_at decoder fields at within >>= closed_record m.depth) (λ within. fields_at further fields at within >>= closed_record m.depth)
    (λ within o c.
    let b = was_opened at m within o in
    then_steady (fields_at decoder fields at within) (fields_at further fields at within) (closed_record m.depth) (closed_record m.depth)
    (fields_steady (MOST_DEPTH - suc m.depth) nodes all decoder further (sound (MOST_DEPTH - suc m.depth) (omega (arith, l, b.shallow))) (steady (MOST_DEPTH - suc m.depth) (omega (arith, l, b.shallow))) fields at within (omega (arith, b.deeper)) le)
    (λ ds end last e c. refl) c)
    c
