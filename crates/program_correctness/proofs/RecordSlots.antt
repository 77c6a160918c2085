-- A record that is written: its slots, one of which is selected.
use Rattle.std.proofs.Common.{◌≡◌, ℕ, suc, ◌+◌, ◌≤◌, ◌<◌, true, List, ◌∷◌, length, Option, Some, refl, sym, ap, ◌∙◌, arith, slice_get}
use Rattle.std.specs.Prelude.{nat_lt}
use Rattle.spec_avro.specs.Blocks.{joined}
use Rattle.spec_avro.specs.Node.{FieldNode}
use Rattle.spec_avro.specs.Resolution.{Resolved}
use Rattle.spec_machine.specs.declared.instr.Instr.TheVariants as op
use Rattle.spec_machine.specs.Lengths.{total_length}
use Rattle.spec_machine.specs.Program.{Program}
use Rattle.spec_machine.specs.State.{Frame, Rec, State, Store, add, add_to_slot, has_current}
use Rattle.spec_machine.specs.Table.{added, close_record, next, select, with_frames}
use Rattle.program_correctness.proofs.Buffers.{new_slots, new_slots_length, no_bytes, no_bytes_length, no_bytes_twice}
use Rattle.program_correctness.proofs.Holding.{Holds, IsHolder, Top, top}
use Rattle.program_correctness.proofs.Numbers.{lt_yes}
use Rattle.program_correctness.proofs.Plain.{between, plain_row, row_of_instr}
use Rattle.program_correctness.proofs.Rooms.{HasRoom, IsDeeper, IsReady}
use Rattle.program_correctness.proofs.Stores.{IsFit, add_to_record, push}

pub record_holds : (cur : Option ℕ) → IsHolder no_bytes total_length (Rec cur)
record_holds cur = record { wiped = λ c. refl; sized = λ c. refl }

as_many : (k : ℕ) (c : List (List ℕ)) → no_bytes c ≡ no_bytes (new_slots k) → length c ≡ k
as_many k c like = sym (no_bytes_length c) ∙ ap length like ∙ no_bytes_length (new_slots k) ∙ new_slots_length k

selected : (j : ℕ) (c : State) (cur : Option ℕ) (slots : List (List ℕ)) (below : List Frame) → c.store.frames ≡ Rec cur slots ∷ below → nat_lt j (length slots) ≡ true → select j c c.store.frames ≡ Some (next c.pos (with_frames (Rec (Some j) slots ∷ below) c))
selected j c cur slots below is lt = ap (select j c) is ∙ rw lt refl

pub record_closed : (c : State) (cur : Option ℕ) (slots : List (List ℕ)) (below : List Frame) → c.store.frames ≡ Rec cur slots ∷ below → has_current below ≡ true → close_record c c.store.frames ≡ Some (next c.pos (added (joined slots) (with_frames below c)))
record_closed c cur slots below is h = ap (close_record c) is ∙ rw h refl

module _ (P : Program) (p : List ℕ) (gs : List FieldNode) (left less : ℕ) (calls : List ℕ) (s : Store) (fit : IsFit s) (deeper : IsDeeper left s less) (few : length calls ≤ suc (length s.frames)) where
  -- the record is on top, with these slots, one of them selected or none
  abbrev pub HoldsSlots : Option ℕ → Resolved (List (List ℕ)) → Store → Type 0
  HoldsSlots cur acc t = Holds P.misses no_bytes total_length (Rec cur) (new_slots (length gs)) acc s t

  pub on_top : (cur : Option ℕ) (acc : Resolved (List (List ℕ))) (t : Store) → HoldsSlots cur acc t → Top P.misses no_bytes total_length (Rec cur) (new_slots (length gs)) acc s t
  on_top cur acc t held = top P.misses no_bytes total_length no_bytes_twice (Rec cur) (record_holds cur) (new_slots (length gs)) acc s t fit held

  pub top_depth : (cur : Option ℕ) (acc : Resolved (List (List ℕ))) (t : Store) → HoldsSlots cur acc t → length t.frames ≡ suc (length s.frames)
  top_depth cur acc t held = let on = on_top cur acc t held in ap length on.is ∙ ap suc on.depth

  pub top_room : (cur : Option ℕ) (acc : Resolved (List (List ℕ))) (t : Store) → HoldsSlots cur acc t → HasRoom less calls t
  top_room cur acc t held = let depth = top_depth cur acc t held in record { room = omega (arith, deeper.inside, depth); shallow = omega (arith, deeper.shallow, depth); few = omega (arith, few, depth) }

  -- at a slot that is selected
  pub record Selected (j pc a u : ℕ) (acc : Resolved (List (List ℕ))) (t : Store) : Type 0 where
    pub store : Store
    pub row : plain_row P p (between pc a calls t u) ≡ Some (between (pc + 1) a calls store u)
    pub held : HoldsSlots (Some j) acc store
    pub ready : IsReady less calls store
    pub depth : length store.frames ≡ suc (length s.frames)

  pub slot_selected : (j pc a u : ℕ) (cur : Option ℕ) (acc : Resolved (List (List ℕ))) (t : Store) → slice_get P.code pc ≡ Some (op.Slot j) → j < length gs → HoldsSlots cur acc t → Selected j pc a u acc t
  slot_selected j pc a u cur acc t here lt held =
      let on = on_top cur acc t held in
      let t1 : Store = record t { frames = Rec (Some j) on.inner ∷ on.below } in
      let inside : nat_lt j (length on.inner) ≡ true = lt_yes j (length on.inner) (omega (arith, lt, as_many (length gs) on.inner on.like)) in
      let held1 : HoldsSlots (Some j) acc t1 = on.refit (Rec (Some j)) (record_holds (Some j)) in
      record {
        store = t1;
        row = row_of_instr P p (between pc a calls t u) (op.Slot j) refl here ∙ selected j (between pc a calls t u) cur on.inner on.below on.is inside;
        held = held1;
        ready = record { fit = (on_top (Some j) acc t1 held1).fits; current = inside; has_room = top_room (Some j) acc t1 held1 };
        depth = ap suc on.depth;
      }

  pub slot_adds : (j : ℕ) → j < length gs → (x : List ℕ) (c : List (List ℕ)) → no_bytes c ≡ no_bytes (new_slots (length gs)) → add x (push (Rec (Some j) c) s) ≡ push (Rec (Some j) (add_to_slot j x c)) s
  slot_adds j lt x c like = add_to_record x j c s (lt_yes j (length c) (omega (arith, lt, as_many (length gs) c like)))
