-- Code for nodes that match, neither a union, writes what resolution makes of what decoding gives.
use Rattle.std.proofs.Common.{◌≡◌, ℕ, ◌+◌, ◌-◌, ◌<◌, false, List, length, Option, Some, None, Ok, Err, refl, sym, ap, ◌∙◌, subst, arith, slice_get, pos}
use Rattle.std.specs.Str.{is_utf8}
use Rattle.spec_avro.specs.declared.malformed.MalformedKind.TheVariants.{BadEnum}
use Rattle.avro_bytes.specs.Blob.{content_at, fixed_at}
use Rattle.spec_decoding.specs.BooleanDecoding.{boolean_at}
use Rattle.avro_bytes.specs.Decoding.{map_decoding}
use Rattle.spec_avro.specs.Number.{int_limit, long_limit}
use Rattle.spec_decoding.specs.NumberDecoding.{number_at}
use Rattle.spec_decoding.specs.PositionDecoding.{position_at}
use Rattle.spec_avro.specs.Shortest.{shortest}
use Rattle.avro_bytes.specs.Text.{text_at}
use Rattle.spec_avro.specs.Written.{after_length, in_block}
use Rattle.spec_avro.specs.Datum.{Datum, BooleanDatum, BytesDatum, FixedDatum, IntDatum, EnumDatum, LongDatum, TextDatum}
use Rattle.spec_avro.specs.Node.{Node, NullNode, BooleanNode, IntNode, LongNode, BytesNode, TextNode, FixedNode, EnumNode, ArrayNode, MapNode, RecordNode}
use Rattle.spec_avro.specs.WellFormed.{IsWellFormed, is_union}
use Rattle.avro_datum.specs.Decoding.{Decoder, array_of, map_of, pair_at, plain_at, record_at}
use Rattle.avro_datum.specs.ItemDecoding.{Reader, blocks_at}
use Rattle.spec_avro.specs.Writing.{written}
use Rattle.avro_datum.specs.Laws.Decoders.{Deeper}
use Rattle.spec_avro.specs.declared.mismatch.Mismatch.{Mismatch}
use Rattle.spec_avro.specs.declared.mismatch.MismatchKind.TheVariants as kinds
use Rattle.spec_avro.specs.Options.{given}
use Rattle.spec_avro.specs.Resolution.{Resolved, ◌>>=◌, bytes_for, lacking, symbol_for}
use Rattle.resolver.specs.Steps.{inside}
use Rattle.spec_machine.specs.declared.instr.Instr.TheVariants as op
use Rattle.spec_machine.specs.Program.{Program}
use Rattle.spec_machine.specs.State.{Store, miss}
use Rattle.spec_machine.specs.Statements.{Section, Skip, Write, miss as why_not}
use Rattle.program_definition.specs.SkipStands.{SkipRoutine, Skips}
use Rattle.program_definition.specs.Stands.{Routine, Straights, s_array, s_boolean, s_bytes, s_bytes_text, s_enum, s_fixed, s_int, s_lacking, s_long, s_map, s_null, s_record, s_text}
use Rattle.program_correctness.proofs.Buffers.{emptied_length}
use Rattle.program_correctness.proofs.Effects.{array_bytes, bytes_of, effects, item, map_bytes, value}
use Rattle.program_correctness.proofs.Follow.{Follows, follows_so, row_then, stay}
use Rattle.program_correctness.proofs.Leaves.{boolean_writes, bytes_text_write, bytes_write, enum_writes, fixed_writes, int_writes, long_writes, text_writes}
use Rattle.program_correctness.proofs.LookUps.{got_below}
use Rattle.program_correctness.proofs.Marks.{miss_is}
use Rattle.program_correctness.proofs.Parts.{blocks_write, both_write}
use Rattle.program_correctness.proofs.Passing.{Passed}
use Rattle.program_correctness.proofs.Plain.{between, meter, row_of_instr}
use Rattle.program_correctness.proofs.Records.{call_writes}
use Rattle.program_correctness.proofs.Rooms.{room_as}
use Rattle.program_correctness.proofs.SkipPlaces.{skips_forward}
use Rattle.program_correctness.proofs.Skipping.{no_union_passes}
use Rattle.program_correctness.proofs.Standing.{AllSkipped, AllWritten}
use Rattle.program_correctness.proofs.Stores.{add_nothing}
use Rattle.program_correctness.proofs.Values.{checked_bytes, int_bytes, lacking_bytes, plain_bytes, record_read, same_fields, text_bytes}
use Rattle.program_correctness.proofs.WritePlaces.{writes_forward}
use Rattle.program_correctness.proofs.Writing.{Writes, Wrote, writes_map, writes_so}

module _ (W R : List Node) (P : Program) (Begins : Section → ℕ → Type 0) (p : List ℕ) (formed : IsWellFormed W) (routines : (w r a : ℕ) → Begins (Write w r) a → Routine W R P Begins a w r) (skipped : (w a : ℕ) → Begins (Skip w) a → SkipRoutine W P Begins a w) where
  abbrev L : ℕ
  L = length P.code

  abbrev Run : {A : Type 0} → ℕ → ℕ → ℕ → ℕ → Reader A → (A → Resolved (List ℕ)) → Type 0
  Run left k pc q reader effect = Writes P p L left k pc q reader effect

  module _ (decoder : Decoder) (left : ℕ) (skips : Deeper (AllSkipped W P Begins p decoder) left) (writes : Deeper (AllWritten W R P Begins p decoder) left) where
    abbrev Plain : ℕ → Reader Datum
    Plain w at m = plain_at decoder p (slice_get W w) at m

    -- a miss, and the datum passed over
    pub missed : (pc w q i : ℕ) (why : Mismatch) → is_union (slice_get W w) ≡ false → slice_get P.code pc ≡ Some (op.Miss i) → slice_get P.misses i ≡ Some why → Skips W P Begins (pc + 1) w q → Run left (q - pc) pc q (Plain w) (λ d. Err why)
    missed pc w q i why u here is code at units calls s ready =
        let t = miss i s in
        let e = miss_is i s ready.fit in
        let up = skips_forward W P Begins code in
        let depth : length t.frames ≡ length s.frames = ap (λ (x : Store). length x.frames) e ∙ emptied_length s.frames in
        let T = Passed P p L q calls t units in
        let Q = Wrote P p L q calls s units (λ (d : Datum). Err why) in
        let skip = subst (λ (k : ℕ). Follows P p L (q - (pc + 1)) (between (pc + 1) at calls t units) (Plain w at (record { depth = k; units = units })) T) depth (no_union_passes W P Begins p skipped decoder left skips (pc + 1) w q u code at units calls t (room_as left calls s t ready.has_room depth)) in
        row_then P p L (q - (pc + 1)) (q - pc) (between pc at calls s units) (between (pc + 1) at calls t units) (Plain w at (meter s units)) Q
        (row_of_instr P p (between pc at calls s units) (op.Miss i) refl here)
        (follows_so P p L (q - (pc + 1)) (q - (pc + 1)) (between (pc + 1) at calls t units) (Plain w at (meter s units)) T Q (omega arith) skip
        (λ d to m c g h. (t, h.0, h.1 ∙ ap (λ (k : ℕ). record { depth = k; units = m.units }) depth, h.2, (i, s.over, is, e))))
        (omega (arith, up))

    -- at a node that is known
    at_node : (k pc q w : ℕ) (node : Node) (effect : Datum → Resolved (List ℕ)) → slice_get W w ≡ Some node → Run left k pc q (λ at m. plain_at decoder p (Some node) at m) effect → Run left k pc q (Plain w) effect
    at_node k pc q w node effect e runs = subst (λ (o : Option Node). Run left k pc q (λ at m. plain_at decoder p o at m) effect) (sym e) runs

    -- a datum that is made of one value
    of_value : {A : Type 0} (pc q w r : ℕ) (reader : Reader A) (f : A → Datum) (effect : A → Resolved (List ℕ)) → pc < q → ((a : A) → effect a ≡ bytes_of (inside W R w r (f a))) → Run left 1 pc q reader effect → Run left (q - pc) pc q (λ at m. map_decoding f (reader at m)) (λ d. bytes_of (inside W R w r d))
    of_value pc q w r reader f effect lt same runs =
        writes_map P p L left (q - pc) pc q reader f (λ d. bytes_of (inside W R w r d))
        (writes_so P p L left 1 (q - pc) pc q reader effect (λ a. bytes_of (inside W R w r (f a))) (omega (arith, lt)) (λ at to m n a e. same a) runs)

    pub straights : (pc w r q : ℕ) → Straights W R P Begins pc w r q → Run left (q - pc) pc q (Plain w) (λ d. bytes_of (inside W R w r d))
    unfolding inside written
    straights pc w r _ (s_null n) =
        at_node (pc - pc) pc pc w NullNode (λ d. bytes_of (inside W R w r d)) n
        (λ at u calls s ready. (between pc at calls s u, stay P p L (pc - pc) _, (s, refl, refl, omega arith, sym (add_nothing s ready.fit))))
    straights pc w r _ (s_boolean n here) =
        at_node (pc + 1 - pc) pc (pc + 1) w BooleanNode (λ d. bytes_of (inside W R w r d)) n
        (of_value pc (pc + 1) w r (boolean_at p) BooleanDatum _ (omega arith) (λ b. refl) (boolean_writes P p L left pc here))
    straights pc w r _ (s_int n here) =
        at_node (pc + 1 - pc) pc (pc + 1) w IntNode (λ d. bytes_of (inside W R w r d)) n
        (of_value pc (pc + 1) w r (number_at int_limit p) IntDatum _ (omega arith) (λ v. ap Ok (sym (int_bytes (slice_get R r) v))) (int_writes P p L left pc here))
    straights pc w r _ (s_long n here) =
        at_node (pc + 1 - pc) pc (pc + 1) w LongNode (λ d. bytes_of (inside W R w r d)) n
        (of_value pc (pc + 1) w r (number_at long_limit p) LongDatum _ (omega arith) (λ v. refl) (long_writes P p L left pc here))
    straights pc w r _ (s_bytes n other here) =
        at_node (pc + 1 - pc) pc (pc + 1) w BytesNode (λ d. bytes_of (inside W R w r d)) n
        (of_value pc (pc + 1) w r (content_at p) BytesDatum _ (omega arith) (λ b. sym (plain_bytes (slice_get R r) w r b other)) (bytes_write P p L left pc here))
    straights pc w r _ (s_bytes_text i n k here is) =
        at_node (pc + 1 - pc) pc (pc + 1) w BytesNode (λ d. bytes_of (inside W R w r d)) n
        (of_value pc (pc + 1) w r (content_at p) BytesDatum _ (omega arith) (λ b. sym (ap (λ (o : Option Node). bytes_of (bytes_for o w r b)) k ∙ checked_bytes w r b (is_utf8 b)))
        (bytes_text_write P p L left pc i (why_not kinds.BytesNotText w r) here is))
    straights pc w r _ (s_text n here) =
        at_node (pc + 1 - pc) pc (pc + 1) w TextNode (λ d. bytes_of (inside W R w r d)) n
        (of_value pc (pc + 1) w r (text_at p) TextDatum _ (omega arith) (λ text. ap Ok (sym (text_bytes (slice_get R r) text))) (text_writes P p L left pc here))
    straights pc w r _ (s_fixed names size n here) =
        at_node (pc + 1 - pc) pc (pc + 1) w (FixedNode names size) (λ d. bytes_of (inside W R w r d)) n
        (of_value pc (pc + 1) w r (fixed_at size p) FixedDatum _ (omega arith) (λ b. refl) (fixed_writes P p L left pc size here))
    straights pc w r _ (s_enum names symbols default t es n here table are) =
        at_node (pc + 1 - pc) pc (pc + 1) w (EnumNode names symbols default) (λ d. bytes_of (inside W R w r d)) n
        (of_value pc (pc + 1) w r (position_at BadEnum (length symbols) p) EnumDatum (λ i. bytes_of (inside W R w r (EnumDatum i))) (omega arith) (λ i. refl)
        (enum_writes P p L left pc t w r (slice_get R r) symbols es here table are (λ i. bytes_of (inside W R w r (EnumDatum i))) (λ i symbol there. rw (n, there) (by_symbol (symbol_for (slice_get R r) symbol)))))
      where
        by_symbol : (o : Option ℕ) → bytes_of (given o (Err (why_not kinds.NoSymbol w r)) (λ m. Ok (EnumDatum m))) ≡ given o (Err (why_not kinds.NoSymbol w r)) (λ m. Ok (shortest (pos m)))
        by_symbol None = refl
        by_symbol (Some m) = refl
    straights pc w r _ (s_array i j q n k here loops code back) =
        let up = writes_forward W R P Begins (pc + 1 + 1) i j q code in
        at_node (q + 1 - pc) pc (q + 1) w (ArrayNode i) (λ d. bytes_of (inside W R w r d)) n
        (of_value pc (q + 1) w r (blocks_at (decoder i) p) array_of (λ ds. effects (item W R i j) ds >>= λ y. Ok (in_block (length ds) y)) (omega (arith, up)) (λ ds. array_bytes W R i j ds ∙ sym (rw (n, k) refl))
        (blocks_write P p L left (q - (pc + 1 + 1)) pc q (decoder i) (item W R i j) here loops back (omega (arith, up, got_below P.code q (op.Jump (pc + 1)) back)) (λ less e. writes less e (pc + 1 + 1) i j q code)))
    straights pc w r _ (s_map i j q n k here loops keys code back) =
        let up = writes_forward W R P Begins (pc + 1 + 1 + 1) i j q code in
        at_node (q + 1 - pc) pc (q + 1) w (MapNode i) (λ d. bytes_of (inside W R w r d)) n
        (of_value pc (q + 1) w r (blocks_at (pair_at decoder p i) p) map_of (λ ps. effects (value W R i j) ps >>= λ y. Ok (in_block (length ps) y)) (omega (arith, up)) (λ ps. map_bytes W R i j ps ∙ sym (rw (n, k) refl))
        (blocks_write P p L left (1 + (q - (pc + 1 + 1 + 1))) pc q (pair_at decoder p i) (value W R i j) here loops back (omega (arith, up, got_below P.code q (op.Jump (pc + 1)) back))
        (λ less e. both_write P p L less 1 (q - (pc + 1 + 1 + 1)) (pc + 1 + 1) (pc + 1 + 1 + 1) q (text_at p) (decoder i) (λ key. Ok (after_length key)) (item W R i j) (text_writes P p L less (pc + 1 + 1) keys) (writes less e (pc + 1 + 1 + 1) i j q code))))
    straights pc w r q (s_lacking names others fs gs g i n k lacks here is code) =
        writes_so P p L left (q - pc) (q - pc) pc q (Plain w) (λ d. Err (why_not kinds.NoDefault w g.node)) (λ d. bytes_of (inside W R w r d)) (omega arith)
        (λ at to m last v e.
        let x = record_read decoder fs at to m last v (ap (λ (o : Option Node). plain_at decoder p o at m) (sym n) ∙ e) in
        sym (ap (λ (d : Datum). bytes_of (inside W R w r d)) x.1 ∙ lacking_bytes W R w r names others fs gs g x.0 n k lacks))
        (missed pc w q i (why_not kinds.NoDefault w g.node) (ap is_union n) here is code)
    straights pc w r _ (s_record names others fs gs a n k lacks begins here) =
        let routine = routines w r a begins in
        let none : lacking routine.fs routine.gs ≡ None = ap (λ (l : List _). lacking l routine.gs) (same_fields routine.names names routine.fs fs (slice_get W w) routine.is_writers n) ∙ ap (lacking fs) (same_fields routine.others others routine.gs gs (slice_get R r) routine.is_readers k) ∙ lacks in
        let effect : Datum → Resolved (List ℕ) = λ d. bytes_of (inside W R w r d) in
        at_node (pc + 1 - pc) pc (pc + 1) w (RecordNode routine.names routine.fs) effect routine.is_writers
        (writes_so P p L left 1 (pc + 1 - pc) pc (pc + 1) (record_at decoder routine.fs) effect effect (omega arith) (λ at to m n v e. refl)
        (call_writes W R P Begins p (writes_forward W R P Begins) decoder left skips writes pc w r a here routine (formed.each w (RecordNode routine.names routine.fs) routine.is_writers).1 effect (λ ds. sym (rw (routine.is_writers, routine.is_readers, none) refl))))
