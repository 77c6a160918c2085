-- The defaults of a record that is written: each goes into the slot of a field that has no partner.
use Rattle.std.proofs.Common.{◌≡◌, ℕ, suc, ◌+◌, ◌-◌, ◌≤◌, List, length, Option, Some, None, Ok, refl, arith, ◌∙◌, slice_get}
use Rattle.spec_avro.specs.Node.{Node, FieldNode}
use Rattle.spec_avro.specs.Writing.{written}
use Rattle.spec_avro.specs.Partners.{routes}
use Rattle.spec_avro.specs.Resolution.{Resolved, ◌>>=◌, Slots}
use Rattle.spec_machine.specs.declared.instr.Instr.TheVariants as op
use Rattle.spec_machine.specs.Lengths.{total_length}
use Rattle.spec_machine.specs.Program.{Program}
use Rattle.spec_machine.specs.State.{Rec, Store, add, add_to_slot}
use Rattle.spec_machine.specs.Statements.{Section}
use Rattle.program_definition.specs.Stands.{Defaults, no_default, none_put, one_put, partnered}
use Rattle.program_correctness.proofs.Buffers.{new_slots, no_bytes, no_bytes_added}
use Rattle.program_correctness.proofs.Follow.{Comes, comes_on, one_row, stay}
use Rattle.program_correctness.proofs.Holding.{holds_more, holds_so}
use Rattle.program_correctness.proofs.LookUps.{got, got_below}
use Rattle.program_correctness.proofs.Plain.{between, plain_row, row_of_instr}
use Rattle.program_correctness.proofs.RecordSlots.{HoldsSlots, record_holds, slot_adds, slot_selected}
use Rattle.program_correctness.proofs.Rooms.{IsDeeper}
use Rattle.program_correctness.proofs.Slots.{Known, mixed, past_default, past_nothing, past_partner}
use Rattle.program_correctness.proofs.Stores.{IsFit}

module _ (W R : List Node) (P : Program) (Begins : Section → ℕ → Type 0) (p : List ℕ) (fs gs : List FieldNode) where
  pub defaults_forward : {pc j q : ℕ} → Defaults W R P Begins (routes fs gs) gs pc j q → pc ≤ q
  defaults_forward (no_default e) = omega arith
  defaults_forward (partnered g at has others) = defaults_forward others
  defaults_forward (none_put g at has none others) = defaults_forward others
  defaults_forward (one_put g d c at has is some slot put table others) = omega (arith, defaults_forward others)

  module _ (left less : ℕ) (calls : List ℕ) (s : Store) (fit : IsFit s) (deeper : IsDeeper left s less) (few : length calls ≤ suc (length s.frames)) where
    -- the defaults below a position are filled in
    abbrev pub HoldsMixed : ℕ → Option ℕ → Resolved Slots → Store → Type 0
    HoldsMixed j cur res t = HoldsSlots P p gs left less calls s fit deeper few cur (res >>= λ slots. Ok (mixed j gs slots)) t

    -- all are
    pub record Filled (pc q a u : ℕ) (res : Resolved Slots) (t : Store) : Type 0 where
      pub last : ℕ
      pub cur : Option ℕ
      pub store : Store
      pub comes : Comes P p (length P.code) (q - pc) (between pc a calls t u) (between q a calls store u)
      pub done : slice_get gs last ≡ None
      pub held : HoldsMixed last cur res store

    pub defaults_write : {pc j q : ℕ} → Defaults W R P Begins (routes fs gs) gs pc j q → (res : Resolved Slots) → Known W R fs gs res → (cur : Option ℕ) (t : Store) (a u : ℕ) → HoldsMixed j cur res t → Filled pc q a u res t
    defaults_write {pc = pc} {j = j} (no_default e) res known cur t a u held = record { last = j; cur = cur; store = t; comes = stay P p (length P.code) (pc - pc) _; done = e; held = held }
    defaults_write {j = j} (partnered g at has others) res known cur t a u held =
        defaults_write others res known cur t a u (holds_so P.misses no_bytes total_length (Rec cur) (new_slots (length gs)) _ _ s t (past_partner W R fs gs res j g known at has) held)
    defaults_write {j = j} (none_put g at has none others) res known cur t a u held =
        defaults_write others res known cur t a u (holds_so P.misses no_bytes total_length (Rec cur) (new_slots (length gs)) _ _ s t (past_nothing W R fs gs res j g known (got_below gs j g at) at has none) held)
    defaults_write {pc = pc} {j = j} {q = q} (one_put g d c at has is some slot put table others) res known cur t a u held =
        let L = length P.code in
        let up = defaults_forward others in
        let below = got_below gs j g at in
        let z = slot_selected P p gs left less calls s fit deeper few j pc a u cur (res >>= λ slots. Ok (mixed j gs slots)) t slot below held in
        let t2 = add (written d) z.store in
        let held2 : HoldsMixed (suc j) (Some j) res t2 = holds_so P.misses no_bytes total_length (Rec (Some j)) (new_slots (length gs)) _ (res >>= λ slots. Ok (mixed (suc j) gs slots)) s t2 (past_default W R fs gs res j g d known below at has is)
        (holds_more P.misses no_bytes total_length (Rec (Some j)) (record_holds (Some j)) (new_slots (length gs)) (add_to_slot j) (λ x c. no_bytes_added j x c) (res >>= λ slots. Ok (mixed j gs slots)) (Ok (written d)) s z.store t2 (slot_adds P p gs left less calls s fit deeper few j below) z.held refl) in
        let rest = defaults_write others res known (Some j) t2 a u held2 in
        let row2 : plain_row P p (between (pc + 1) a calls z.store u) ≡ Some (between (pc + 1 + 1) a calls t2 u) = row_of_instr P p (between (pc + 1) a calls z.store u) (op.Put c) refl put ∙ rw (z.ready.current, got P.constants c _ (written d) table) refl in
        let c0 = between pc a calls t u in
        let c1 = between (pc + 1) a calls z.store u in
        let c2 = between (pc + 1 + 1) a calls t2 u in
        record {
          last = rest.last;
          cur = rest.cur;
          store = rest.store;
          comes = comes_on P p L 1 (q - (pc + 1)) (q - pc) c0 c1 _ (one_row P p L 1 c0 c1 z.row (omega arith)) (comes_on P p L 1 (q - (pc + 1 + 1)) (q - (pc + 1)) c1 c2 _ (one_row P p L 1 c1 c2 row2 (omega arith)) rest.comes (omega (arith, up))) (omega (arith, up));
          done = rest.done;
          held = rest.held;
        }
