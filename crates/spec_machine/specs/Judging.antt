-- The first thing that keeps parts from being a program: of what is out of range the first in the order of maps, jump
-- tables, misses and code. This project's own.
use Rattle.std.specs.Prelude.{ℕ, suc, Bool, true, not, ◌&&◌, List, [], ◌∷◌, length, Option, Some, None, option_map, nat_le, nat_lt, ◌==◌, if◌then◌else◌, position, Result, Ok, Err}
use Rattle.std.specs.Option.{option_or}
use Rattle.spec_avro.specs.declared.mismatch.Mismatch.{Mismatch}
use Rattle.spec_machine.specs.declared.entry.Entry.{Entry}
use Rattle.spec_machine.specs.declared.entry.Entry.TheVariants as entries
use Rattle.spec_machine.specs.declared.instr.Instr.{Instr}
use Rattle.spec_machine.specs.declared.instr.Instr.TheVariants as op
use Rattle.spec_machine.specs.declared.limits.TheConstants.{MOST_CONSTANT_BYTES, MOST_ENTRIES, MOST_FIXED, MOST_INSTRS, MOST_NODES, MOST_SLOTS, MOST_SYMBOLS, MOST_TABLES}
use Rattle.spec_machine.specs.declared.program_error.ProgramError.{ProgramError}
use Rattle.spec_machine.specs.declared.program_error.ProgramError.TheVariants as errors
use Rattle.spec_machine.specs.declared.sizes.Sizes.{Sizes}
use Rattle.spec_machine.specs.Program.{Program}
use Rattle.spec_machine.specs.Range.{sizes_of}
use Rattle.spec_machine.specs.Lengths.{total_length}

-- ---- tests of one thing

abbrev pub is_address : Sizes → ℕ → Bool
is_address n a = nat_lt a n.code

abbrev pub entry_is_in_range : Sizes → Entry → Bool
entry_is_in_range n (entries.Position i) = nat_lt i MOST_SYMBOLS
entry_is_in_range n (entries.Miss m) = nat_lt m n.misses

abbrev pub miss_is_in_range : Sizes → Mismatch → Bool
miss_is_in_range n m = nat_lt m.writer_node MOST_NODES && nat_lt m.reader_node MOST_NODES

abbrev pub instr_is_in_range : Sizes → Instr → Bool
instr_is_in_range n (op.BytesText m) = nat_lt m n.misses
instr_is_in_range n (op.Fixed size) = nat_le size MOST_FIXED
instr_is_in_range n (op.Enum t) = nat_lt t n.maps
instr_is_in_range n (op.SkipFixed size) = nat_le size MOST_FIXED
instr_is_in_range n (op.SkipEnum many) = nat_le many MOST_SYMBOLS
instr_is_in_range n (op.Put c) = nat_lt c n.constants
instr_is_in_range n (op.Record k) = nat_le k MOST_SLOTS
instr_is_in_range n (op.Slot j) = nat_lt j MOST_SLOTS
instr_is_in_range n (op.Next a) = is_address n a
instr_is_in_range n (op.SkipNext a) = is_address n a
instr_is_in_range n (op.Branch t) = nat_lt t n.jumps
instr_is_in_range n (op.Miss m) = nat_lt m n.misses
instr_is_in_range n (op.Call a) = is_address n a
instr_is_in_range n (op.Jump a) = is_address n a
instr_is_in_range n _ = true

-- ---- the first that fails

abbrev pub first_out : {A : Type 0} → (A → Bool) → List A → Option ℕ
first_out test xs = position (λ x. not (test x)) xs

abbrev pub at_list : ℕ → Option ℕ → Option (ℕ × ℕ) → Option (ℕ × ℕ)
at_list n (Some i) later = Some (n, i)
at_list n None later = later

-- in which list, counted from `n`, and where in it
abbrev pub first_out_from : {A : Type 0} → (A → Bool) → ℕ → List (List A) → Option (ℕ × ℕ)
first_out_from test n [] = None
first_out_from test n (xs ∷ lists) = at_list n (first_out test xs) (first_out_from test (suc n) lists)

abbrev pub first_out_in : {A : Type 0} → (A → Bool) → List (List A) → Option (ℕ × ℕ)
first_out_in test lists = first_out_from test 0 lists

-- the first that has nothing in it, counted from `n`
abbrev pub first_empty_from : {A : Type 0} → ℕ → List (List A) → Option ℕ
first_empty_from n [] = None
first_empty_from n (list ∷ lists) = if length list == 0 then Some n else first_empty_from (suc n) lists

abbrev pub first_empty : {A : Type 0} → List (List A) → Option ℕ
first_empty lists = first_empty_from 0 lists

-- each has at most `most` items
abbrev pub are_within : {A : Type 0} → ℕ → List (List A) → Bool
are_within most [] = true
are_within most (list ∷ lists) = nat_le (length list) most && are_within most lists

abbrev pub is_within_limits : Program → Bool
is_within_limits P =
    nat_le (length P.code) MOST_INSTRS
    && nat_le (length P.constants) MOST_TABLES && nat_le (total_length P.constants) MOST_CONSTANT_BYTES
    && nat_le (length P.maps) MOST_TABLES && are_within MOST_ENTRIES P.maps
    && nat_le (length P.jumps) MOST_TABLES && are_within MOST_ENTRIES P.jumps
    && nat_le (length P.misses) MOST_TABLES

-- ---- the first of each kind

abbrev pub entry_out_of_range : Sizes → Program → Option ProgramError
entry_out_of_range n P = option_map (λ p. errors.Entry p.0 p.1) (first_out_in (entry_is_in_range n) P.maps)

abbrev pub address_out_of_range : Sizes → Program → Option ProgramError
address_out_of_range n P = option_map (λ p. errors.Address p.0 p.1) (first_out_in (is_address n) P.jumps)

abbrev pub miss_out_of_range : Sizes → Program → Option ProgramError
miss_out_of_range n P = option_map errors.Miss (first_out (miss_is_in_range n) P.misses)

abbrev pub instr_out_of_range : Sizes → Program → Option ProgramError
instr_out_of_range n P = option_map errors.Instr (first_out (instr_is_in_range n) P.code)

abbrev pub first_out_of_range : Program → Option ProgramError
first_out_of_range P =
    let n = sizes_of P in
    option_or (option_or (option_or (entry_out_of_range n P) (address_out_of_range n P)) (miss_out_of_range n P))
    (instr_out_of_range n P)

abbrev pub first_error : Program → Option ProgramError
first_error P =
    if length P.code == 0 then Some errors.NoCode
    else if not (is_within_limits P) then Some errors.TooLarge
    else option_or (option_map errors.EmptyConstant (first_empty P.constants)) (first_out_of_range P)

-- what making a program of parts returns
abbrev pub judged : Program → Result Program ProgramError
judged P = elim (first_error P) [ Some e ↦ Err e | None ↦ Ok P ]
