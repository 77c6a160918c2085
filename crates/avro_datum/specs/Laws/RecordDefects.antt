-- The first fault of a record, both ways: what is reported is there, and what is there is reported.
use Rattle.std.proofs.Common.{◌≡◌, ℕ, ◌+◌, ◌-◌, List, [], ◌∷◌, ◌++◌, length, drop, Some, Result, refl, sym, ap, subst, ◌∙◌, append_assoc, arith, slice_get, suc}
use Rattle.std.proofs.lemmas.List.{length-append}
use Rattle.spec_avro.specs.declared.meter.Meter.{Meter}
use Rattle.spec_decoding.specs.declared.fault.Fault.{Fault}
use Rattle.spec_decoding.specs.Decoding.{Decoding, Complete, ◌>>=◌, inside}
use Rattle.spec_avro.specs.Defect.{Defect}
use Rattle.avro_bytes.specs.Fault.{HasDefect, failing}
use Rattle.spec_avro.specs.Meter.{OpensRecord}
use Rattle.avro_bytes.specs.Laws.Binds.{rest_after, defect_as, defect_after, defect_then, failing_shifted, failing_then}
use Rattle.avro_bytes.specs.Laws.Meters.{opened_again, record_defect}
use Rattle.spec_avro.specs.Node.{Node, Names, FieldNode, RecordNode}
use Rattle.spec_avro.specs.Datum.{Datum, Data, more}
use Rattle.avro_datum.specs.Decoding.{Decoder, closed_record, fields_at, record_at}
use Rattle.spec_avro.specs.FaultyDatum.{FaultyDatum, faulty as is_faulty, faulty_record, refused_record, FaultyFields, here as first_faulty, later as later_faulty}
use Rattle.avro_datum.specs.Laws.Decoders.{Deeper, HasFault, IsComplete, IsSound, TellsFault}
use Rattle.spec_avro.specs.declared.limits.TheConstants.{MOST_DEPTH}

-- ---- what is reported is there

fields_defect : (left : ℕ) (nodes : List Node) (all : List ℕ) (decoder : Decoder) → IsSound nodes all decoder left → HasFault nodes all decoder left → (fields : List FieldNode) (at : ℕ) (m : Meter) → left ≡ MOST_DEPTH - m.depth → HasDefect (fields_at decoder fields at m) at (FaultyFields nodes fields (drop at all) m)
unfolding fields_at
fields_defect left nodes all decoder sound faulty [] at m l = tt
fields_defect left nodes all decoder sound faulty (f ∷ fields) at m l =
    let P = FaultyFields nodes (f ∷ fields) (drop at all) m in
    defect_then (decoder f.node at m) (λ d to after. fields_at decoder fields to after >>= λ ds end last. Complete (more d ds) end last) at P
    (defect_as (decoder f.node at m) at (FaultyDatum nodes f.node (drop at all) m) P (λ d h. first_faulty h) (faulty f.node at m l))
    (λ d to after e.
    let s = sound f.node at m d to after l e in
    let still : left ≡ MOST_DEPTH - after.depth = l ∙ ap (λ (k : ℕ). MOST_DEPTH - k) (sym s.1.same_depth) in
    let next : drop to all ≡ s.0.rest = rest_after s.0.bytes s.0.rest all at to s.0.parts s.0.end in
    defect_then (fields_at decoder fields to after) (λ ds end last. Complete (more d ds) end last) at P
    (defect_after (fields_at decoder fields to after) at (length s.0.bytes) to (FaultyFields nodes fields (drop to all) after) P s.0.end
    (λ further h. later_faulty d s.0.bytes s.0.rest after further s.0.parts s.0.spelled s.1 (subst (λ (x : List ℕ). FaultyFields nodes fields x after further) next h) refl)
    (fields_defect left nodes all decoder sound faulty fields to after still))
    (λ ds end last e. tt))

pub record_has_defect : (left : ℕ) (nodes : List Node) (all : List ℕ) (decoder : Decoder) (node : ℕ) → Deeper (IsSound nodes all decoder) left → Deeper (HasFault nodes all decoder) left → (name : Names) (fields : List FieldNode) (at : ℕ) (m : Meter) → left ≡ MOST_DEPTH - m.depth → slice_get nodes node ≡ Some (RecordNode name fields) → HasDefect (record_at decoder fields at m) at (FaultyDatum nodes node (drop at all) m)
record_has_defect left nodes all decoder node sound faulty name fields at m l is =
    let P = FaultyDatum nodes node (drop at all) m in
    record_defect (λ within. fields_at decoder fields at within >>= closed_record m.depth) at m P
    (λ d r. is_faulty (RecordNode name fields) is (refused_record r))
    (λ within o.
    defect_then (fields_at decoder fields at within) (closed_record m.depth) at P
    (defect_as (fields_at decoder fields at within) at (FaultyFields nodes fields (drop at all) within) P (λ d h. is_faulty (RecordNode name fields) is (faulty_record within o h)) (fields_defect (MOST_DEPTH - suc m.depth) nodes all decoder (sound (MOST_DEPTH - suc m.depth) (omega (arith, l, o.shallow))) (faulty (MOST_DEPTH - suc m.depth) (omega (arith, l, o.shallow))) fields at within (omega (arith, o.deeper))))
    (λ ds end last e. tt))

-- ---- what is there is reported

fields_told : (left : ℕ) (nodes : List Node) (all : List ℕ) (decoder : Decoder) → IsComplete nodes all decoder left → TellsFault nodes all decoder left → (fields : List FieldNode) (before bytes : List ℕ) (m : Meter) (d : Defect) → left ≡ MOST_DEPTH - m.depth → all ≡ before ++ bytes → FaultyFields nodes fields bytes m d → fields_at decoder fields (length before) m ≡ failing (length before) d
unfolding fields_at
fields_told left nodes all decoder complete tells [] before bytes m d l is h = elim h [ ]
fields_told left nodes all decoder complete tells (f ∷ fields) before bytes m d l is (first_faulty h) =
    ap (λ (x : Decoding Datum). x >>= λ d to after. fields_at decoder fields to after >>= λ ds end last. Complete (more d ds) end last) (tells f.node before bytes m d l is h)
    ∙ failing_then (length before) d (λ d to after. fields_at decoder fields to after >>= λ ds end last. Complete (more d ds) end last)
fields_told left nodes all decoder complete tells (f ∷ fields) before bytes m d l is (later_faulty datum front rest after further parts spelled counts h same) =
    let is1 : all ≡ before ++ (front ++ rest) = is ∙ ap (λ (b : List ℕ). before ++ b) parts in
    let is2 : all ≡ (before ++ front) ++ rest = is1 ∙ sym (append_assoc before front rest) in
    let place : length (before ++ front) ≡ length before + length front = length-append before front in
    let still : left ≡ MOST_DEPTH - after.depth = l ∙ ap (λ (k : ℕ). MOST_DEPTH - k) (sym counts.same_depth) in
    let one = complete f.node datum before front rest m after l is1 spelled counts in
    let two : fields_at decoder fields (length before + length front) after ≡ failing (length before + length front) further = ap (λ (k : ℕ). fields_at decoder fields k after) (sym place) ∙ fields_told left nodes all decoder complete tells fields (before ++ front) rest after further still is2 h ∙ ap (λ (k : ℕ). failing k further) place in
    ap (λ (x : Decoding Datum). x >>= λ d to after. fields_at decoder fields to after >>= λ ds end last. Complete (more d ds) end last) one
    ∙ ap (λ (x : Decoding Data). x >>= λ ds end last. Complete (more datum ds) end last) two
    ∙ failing_then (length before + length front) further (λ ds end last. Complete (more datum ds) end last)
    ∙ failing_shifted (length before) (length front) further ∙ ap (failing (length before)) (sym same)

pub record_told : (left : ℕ) (nodes : List Node) (all : List ℕ) (decoder : Decoder) → Deeper (IsComplete nodes all decoder) left → Deeper (TellsFault nodes all decoder) left → (fields : List FieldNode) (before bytes : List ℕ) (m within : Meter) (d : Defect) → left ≡ MOST_DEPTH - m.depth → all ≡ before ++ bytes → OpensRecord m within → FaultyFields nodes fields bytes within d → record_at decoder fields (length before) m ≡ failing (length before) d
record_told left nodes all decoder complete tells fields before bytes m within d l is o h =
    ap (λ (r : Result Meter Fault). inside r (λ within. fields_at decoder fields (length before) within >>= closed_record m.depth)) (opened_again (length before) m within o)
    ∙ ap (λ (x : Decoding Data). x >>= closed_record m.depth) (fields_told (MOST_DEPTH - suc m.depth) nodes all decoder (complete (MOST_DEPTH - suc m.depth) (omega (arith, l, o.shallow))) (tells (MOST_DEPTH - suc m.depth) (omega (arith, l, o.shallow))) fields before bytes within d (omega (arith, o.deeper)) is h)
    ∙ failing_then (length before) d (closed_record m.depth)
