-- Code for a pair of nodes writes what resolution makes of what decoding gives, at every depth.
use Rattle.std.proofs.Common.{◌≡◌, ℕ, zero, suc, ◌+◌, ◌-◌, ◌*◌, ◌≤◌, ◌<◌, false, List, ◌∷◌, ◌++◌, length, Option, Some, Ok, Err, refl, sym, ap, ◌∙◌, subst, arith, slice_get, pos}
use Rattle.std.specs.Prelude.{slice_index_or}
use Rattle.spec_avro.specs.declared.meter.Meter.{Meter}
use Rattle.spec_avro.specs.declared.malformed.MalformedKind.TheVariants.{BadBranch}
use Rattle.spec_decoding.specs.Decoding.{Complete, Failed}
use Rattle.avro_bytes.specs.Decoding.{map_decoding}
use Rattle.spec_avro.specs.Defect.{Need}
use Rattle.spec_decoding.specs.PositionDecoding.{position_at}
use Rattle.spec_avro.specs.Shortest.{shortest}
use Rattle.avro_bytes.specs.Laws.Numbers.{number_some}
use Rattle.avro_bytes.specs.Laws.Positions.{position_sound}
use Rattle.spec_avro.specs.Datum.{Datum, UnionDatum}
use Rattle.spec_avro.specs.Node.{Node, UnionNode}
use Rattle.spec_avro.specs.WellFormed.{IsWellFormed, is_union}
use Rattle.avro_datum.specs.Decoding.{Decoder, kind_at, member_at, node_at, plain_at, union_at}
use Rattle.avro_datum.specs.ItemDecoding.{Reader}
use Rattle.avro_datum.specs.Laws.Decoders.{Deeper}
use Rattle.avro_datum.specs.Laws.Kinds.{kind_is_plain, none_deeper, one_deeper}
use Rattle.spec_avro.specs.declared.mismatch.MismatchKind.TheVariants as kinds
use Rattle.resolver.specs.Laws.Placed.{by_place}
use Rattle.spec_avro.specs.Matching.{place}
use Rattle.spec_avro.specs.Resolution.{Resolved, placed, ◌>>=◌, resolved}
use Rattle.resolver.specs.Steps.{inside}
use Rattle.spec_machine.specs.declared.instr.Instr.TheVariants as op
use Rattle.spec_machine.specs.Program.{Program}
use Rattle.spec_machine.specs.State.{State}
use Rattle.spec_machine.specs.Statements.{Section, Skip, Write, miss as why_not}
use Rattle.program_definition.specs.SkipStands.{SkipRoutine}
use Rattle.program_definition.specs.Stands.{Routine, Writes as CodeWrites, WritesMembers, WritesPlain, x_into, x_last, x_member, x_no_member, x_nowhere, x_plain, x_straight, x_union, x_unmatched}
use Rattle.program_correctness.proofs.Effects.{bytes_of}
use Rattle.program_correctness.proofs.Follow.{Follows, cost, follows_map, follows_row, reads_then}
use Rattle.program_correctness.proofs.Holding.{becomes_so}
use Rattle.program_correctness.proofs.Leaves.{put_writes}
use Rattle.program_correctness.proofs.LookUps.{got}
use Rattle.program_correctness.proofs.Plain.{between, meter, plain_row, row_of_instr}
use Rattle.program_correctness.proofs.Skipping.{all_skipped}
use Rattle.program_correctness.proofs.Standing.{AllSkipped, AllWritten}
use Rattle.program_correctness.proofs.Straights.{missed, straights}
use Rattle.program_correctness.proofs.Values.{into_bytes, no_union_read}
use Rattle.program_correctness.proofs.WritePlaces.{members_forward, members_placed, plain_forward, straight_forward}
use Rattle.program_correctness.proofs.Writing.{Writes, Wrote, writes_so}

module _ (W R : List Node) (P : Program) (Begins : Section → ℕ → Type 0) (p : List ℕ) (formed : IsWellFormed W) (routines : (w r a : ℕ) → Begins (Write w r) a → Routine W R P Begins a w r) (skipped : (w a : ℕ) → Begins (Skip w) a → SkipRoutine W P Begins a w) where
  abbrev L : ℕ
  L = length P.code

  abbrev Run : {A : Type 0} → ℕ → ℕ → ℕ → ℕ → Reader A → (A → Resolved (List ℕ)) → Type 0
  Run left k pc q reader effect = Writes P p L left k pc q reader effect

  module _ (decoder : Decoder) (left : ℕ) (skips : Deeper (AllSkipped W P Begins p decoder) left) (writes : Deeper (AllWritten W R P Begins p decoder) left) where
    abbrev Plain : ℕ → Reader Datum
    Plain w at m = plain_at decoder p (slice_get W w) at m

    -- ---- places

    -- the place of what is read
    at_place : (w r at to : ℕ) (m n : Meter) (d : Datum) → is_union (slice_get W w) ≡ false → Plain w at m ≡ Complete d to n → resolved W R w r d ≡ placed (place W R w r) w r (λ node. inside W R w node d)
    at_place w r at to m n d u g = by_place W R w r d (no_union_read decoder p (slice_get W w) at to m n d u g)

    plains : (pc w r q : ℕ) → is_union (slice_get W w) ≡ false → WritesPlain W R P Begins pc w r q → Run left (q - pc) pc q (Plain w) (λ d. bytes_of (resolved W R w r d))
    plains pc w r q u (x_into j member c e here is code) =
        let up = straight_forward W R P Begins code in
        writes_so P p L left (q - (pc + 1) + 1) (q - pc) pc q (Plain w) (λ d. bytes_of (inside W R w member d) >>= λ y. Ok (shortest (pos j) ++ y)) (λ d. bytes_of (resolved W R w r d)) (omega (arith, up))
        (λ at to m n d g. into_bytes j (inside W R w member d) ∙ sym (ap bytes_of (at_place w r at to m n d u g) ∙ rw e refl))
        (put_writes P p L left (q - (pc + 1)) pc q c (shortest (pos j)) (Plain w) (λ d. bytes_of (inside W R w member d)) here is (straights W R P Begins p formed routines skipped decoder left skips writes (pc + 1) w member q code))
    plains pc w r q u (x_nowhere i e here is code) =
        writes_so P p L left (q - pc) (q - pc) pc q (Plain w) (λ d. Err (why_not kinds.NoBranch w r)) (λ d. bytes_of (resolved W R w r d)) (omega arith)
        (λ at to m n d g. sym (ap bytes_of (at_place w r at to m n d u g) ∙ rw e refl))
        (missed W R P Begins p formed routines skipped decoder left skips writes pc w q i (why_not kinds.NoBranch w r) u here is code)
    plains pc w r q u (x_unmatched i e here is code) =
        writes_so P p L left (q - pc) (q - pc) pc q (Plain w) (λ d. Err (why_not kinds.NoMatch w r)) (λ d. bytes_of (resolved W R w r d)) (omega arith)
        (λ at to m n d g. sym (ap bytes_of (at_place w r at to m n d u g) ∙ rw e refl))
        (missed W R P Begins p formed routines skipped decoder left skips writes pc w q i (why_not kinds.NoMatch w r) u here is code)
    plains pc w r q u (x_straight e code) =
        writes_so P p L left (q - pc) (q - pc) pc q (Plain w) (λ d. bytes_of (inside W R w r d)) (λ d. bytes_of (resolved W R w r d)) (omega arith)
        (λ at to m n d g. sym (ap bytes_of (at_place w r at to m n d u g) ∙ rw e refl))
        (straights W R P Begins p formed routines skipped decoder left skips writes pc w r q code)

    -- ---- the writer's union

    -- the branch at a position, whose code begins at a place
    record Member (k at : ℕ) (members : List ℕ) (n r e : ℕ) : Type 0 where
      member : ℕ
      there : slice_get members n ≡ Some member
      runs : Run left k at e (Plain member) (λ d. bytes_of (resolved W R member r d))

    -- a jump after what was written
    jumps_on : (j k pc q e : ℕ) (reader : Reader Datum) (effect : Datum → Resolved (List ℕ)) → slice_get P.code q ≡ Some (op.Jump e) → j + 1 ≤ k → Run left j pc q reader effect → Run left k pc e reader effect
    jumps_on j k pc q e reader effect back le runs at u calls s ready =
        follows_row P p L j k (between pc at calls s u) (reader at (meter s u)) (Wrote P p L q calls s u effect) (Wrote P p L e calls s u effect) le (runs at u calls s ready)
        (λ d to m c h. record {
          new = between e to calls h.0 m.units;
          row_is = ap (plain_row P p) h.1 ∙ row_of_instr P p (between q to calls h.0 m.units) (op.Jump e) refl back;
          is_such = (h.0, refl, h.2, h.3, h.4);
          pays = subst (λ (x : State). 1 + cost P p L x ≤ 1 + (to + L * m.units)) (sym h.1) (omega arith);
        })

    members_write : (pc : ℕ) (members : List ℕ) (r : ℕ) (places : List ℕ) (e : ℕ) → WritesMembers W R P Begins pc members r places e → (n : ℕ) → n < length members → Member (e - pc) (slice_index_or places n 0) members n r e
    members_write pc _ r _ _ x_no_member n lt = absurd (omega arith)
    members_write pc _ r _ e (x_last {member = member} u code) zero lt = record { member = member; there = refl; runs = plains pc member r e u code }
    members_write pc _ r _ e (x_last u code) (suc n) lt = absurd (omega arith)
    members_write pc _ r _ e (x_member {member = member} q u code back others) zero lt = record {
      member = member;
      there = refl;
      runs = jumps_on (q - pc) (e - pc) pc q e (Plain member) (λ d. bytes_of (resolved W R member r d)) back (omega (arith, members_forward W R P Begins others, plain_forward W R P Begins code)) (plains pc member r q u code);
    }
    members_write pc _ r _ e (x_member {other = other} {members = members} {places = places} q u code back others) (suc n) lt =
        let x = members_write (q + 1) (other ∷ members) r places e others n (omega arith) in
        record {
          member = x.member;
          there = x.there;
          runs = writes_so P p L left (e - (q + 1)) (e - pc) (slice_index_or places n 0) e (Plain x.member) (λ d. bytes_of (resolved W R x.member r d)) (λ d. bytes_of (resolved W R x.member r d)) (omega (arith, plain_forward W R P Begins code)) (λ at to m last d h. refl) x.runs;
        }

    by_member : (w r n member : ℕ) (members : List ℕ) (d : Datum) → slice_get W w ≡ Some (UnionNode members) → slice_get members n ≡ Some member → bytes_of (resolved W R member r d) ≡ bytes_of (resolved W R w r (UnionDatum n d))
    unfolding resolved
    by_member w r n member members d is there = sym (rw (is, there) refl)

    union_writes : (pc w r q : ℕ) (members places : List ℕ) (t : ℕ) → slice_get W w ≡ Some (UnionNode members) → slice_get P.code pc ≡ Some (op.Branch t) → slice_get P.jumps t ≡ Some places → WritesMembers W R P Begins (pc + 1) members r places q → Run left (q - pc) pc q (λ at m. union_at Plain p members at m) (λ d. bytes_of (resolved W R w r d))
    union_writes pc w r q members places t is here table code at u calls s ready =
        reads_then P p L (q - pc) c0 (position_at BadBranch (length members) p at (meter s u)) (λ n to m. map_decoding (UnionDatum n) (member_at Plain (slice_get members n) to m)) branches Q
        (row_of_instr P p c0 (op.Branch t) refl here ∙ rw (got P.jumps t _ places table, members_placed W R P Begins code) refl)
        (λ n to m e.
        let b = position_sound BadBranch (length members) p at (meter s u) n to m e in
        let moves : at < to = omega (arith, b.0.end, number_some _ _ b.0.bytes b.0.spelled.1) in
        let up = members_forward W R P Begins code in
        let x = members_write (pc + 1) members r places q code n b.0.spelled.0 in
        let start = between (slice_index_or places n 0) to calls s u in
        record {
          new = start;
          row_is = refl;
          left = q - (pc + 1);
          follows = subst (λ (y : Meter). Follows P p L (q - (pc + 1)) start (map_decoding (UnionDatum n) (member_at Plain (slice_get members n) to y)) Q) b.1
              (subst (λ (o : Option ℕ). Follows P p L (q - (pc + 1)) start (map_decoding (UnionDatum n) (member_at Plain o to (meter s u))) Q) (sym x.there)
              (follows_map P p L (q - (pc + 1)) start (Plain x.member to (meter s u)) (UnionDatum n) (Wrote P p L q calls s u (λ d. bytes_of (resolved W R x.member r d))) Q (x.runs to u calls s ready)
              (λ d end last e h. (h.0, h.1, h.2, h.3, becomes_so P.misses (bytes_of (resolved W R x.member r d)) (bytes_of (resolved W R w r (UnionDatum n d))) s h.0 (by_member w r n x.member members d is x.there) h.4))));
          pays = omega (arith, moves, up);
        })
      where
        c0 : State
        c0 = between pc at calls s u

        branches : ℕ → ℕ → Meter → Option State
        branches n to m = Some (between (slice_index_or places n 0) to calls s u)

        Q : Datum → ℕ → Meter → State → Type 0
        Q = Wrote P p L q calls s u (λ d. bytes_of (resolved W R w r d))

    kind_writes : (pc w r q : ℕ) → CodeWrites W R P Begins pc w r q → Run left (q - pc) pc q (λ at m. kind_at decoder W p (slice_get W w) at m) (λ d. bytes_of (resolved W R w r d))
    kind_writes pc w r q (x_union members places t is here table code) =
        subst (λ (o : Option Node). Run left (q - pc) pc q (λ at m. kind_at decoder W p o at m) (λ d. bytes_of (resolved W R w r d))) (sym is) (union_writes pc w r q members places t is here table code)
    kind_writes pc w r q (x_plain n code) = λ at u calls s ready.
        subst (λ g. Follows P p L (q - pc) (between pc at calls s u) g (Wrote P p L q calls s u (λ d. bytes_of (resolved W R w r d)))) (sym (kind_is_plain decoder W p at (meter s u) (slice_get W w) n)) (plains pc w r q n code at u calls s ready)

  -- at every depth
  pub all_written : (left : ℕ) → AllWritten W R P Begins p (node_at left W p) left
  unfolding node_at
  all_written zero pc w r q code = kind_writes (λ node at m. Failed Need) 0 (none_deeper (AllSkipped W P Begins p (λ node at m. Failed Need))) (none_deeper (AllWritten W R P Begins p (λ node at m. Failed Need))) pc w r q code
  all_written (suc left) pc w r q code = kind_writes (node_at left W p) (suc left) (one_deeper (AllSkipped W P Begins p (node_at left W p)) left (all_skipped W P Begins p skipped left)) (one_deeper (AllWritten W R P Begins p (node_at left W p)) left (all_written left)) pc w r q code
