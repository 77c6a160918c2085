-- The text that a debugger shows of a state. All of this is this project's own.
use Rattle.std.specs.Prelude.{ℕ, Bool, true, false, List, [], ◌∷◌, ◌++◌, codes, reverse, Option, Some, None}
use Rattle.std.specs.List.{flat_map}
use Rattle.spec_avro.specs.Outcome.{Done, Malformed, Mismatched, OutputTooLarge}
use Rattle.spec_machine.specs.State.{Blocks, End, Frame, Out, Rec, Skip, SkipBlocks, State, Trapped}
use Rattle.spec_lines.specs.ShownWords.{bytes, number, moving_content, number_or_none, truth, walk}

-- whether a run goes on, and how it ended
abbrev pub name_of_end : Option End → List ℕ
name_of_end None = codes "running"
name_of_end (Some (Out (Done out))) = codes "done"
name_of_end (Some (Out (Mismatched m))) = codes "mismatch"
name_of_end (Some (Out (Malformed kind at))) = codes "malformed"
name_of_end (Some (Out OutputTooLarge)) = codes "output"
name_of_end (Some (Trapped t)) = codes "trap"

-- how a run ended, where memory may have run out before
abbrev pub name_of_state : Bool → Option End → List ℕ
name_of_state true end = codes "memory"
name_of_state false end = name_of_end end

-- ---- lines

-- how far a run came
abbrev pub places : State → List ℕ
places s =
    codes "count" ++ number s.count ++ codes " pc" ++ number s.pc ++ codes " pos" ++ number s.pos
    ++ codes " units" ++ number s.units

-- the content that is open, the mark, and whether the output is over its limit
abbrev pub told : State → List ℕ
told s =
    codes " part" ++ moving_content s.content ++ codes " mark" ++ number_or_none s.store.mark
    ++ codes " over" ++ truth s.store.over

abbrev pub first_line : State → Bool → List ℕ
first_line s no_memory = places s ++ (told s ++ (codes " state " ++ name_of_state no_memory s.end ++ 10 ∷ []))

abbrev pub out_line : List ℕ → List ℕ
out_line out = codes "out" ++ bytes out ++ 10 ∷ []

abbrev pub call_line : ℕ → List ℕ
call_line address = codes "call" ++ number address ++ 10 ∷ []

abbrev pub frame_line : Frame → List ℕ
frame_line (Rec cur slots) = codes "rec" ++ number_or_none cur ++ flat_map bytes slots ++ 10 ∷ []
frame_line Skip = codes "skip" ++ 10 ∷ []
frame_line (Blocks w items buffer) = codes "blocks" ++ walk w ++ number items ++ bytes buffer ++ 10 ∷ []
frame_line (SkipBlocks w) = codes "sblocks" ++ walk w ++ 10 ∷ []

-- ---- the text: calls and frames the oldest first

abbrev pub shown : State → Bool → List ℕ
shown s no_memory =
    first_line s no_memory ++ (out_line s.store.out
    ++ (flat_map call_line (reverse s.calls) ++ flat_map frame_line (reverse s.store.frames)))
