-- The worked program of the list of longs, run alone. All of this is this project's own.
use Rattle.std.specs.Prelude.{◌≡◌, ℕ, true, false, List, [], ◌∷◌, Some, None}
use Rattle.spec_avro.specs.declared.malformed.MalformedKind.TheVariants.{Truncated}
use Rattle.spec_avro.specs.Outcome.{Done, Malformed}
use Rattle.spec_machine.specs.State.{Out, Rec}
use Rattle.program_definition.specs.Worked.{long_list_program}
use Rattle.spec_machine.specs.Alone.{run_alone}

-- 02 00: 1, and no more
abbrev pub one : List ℕ
one = 2 ∷ 0 ∷ []

-- Eleven rows, of at most 2 * 13 + 2: the last of them sets the end.
abbrev pub ElevenRowsEnd : Type 0
ElevenRowsEnd = run_alone long_list_program one true 11 ≡ Some (record {
  pc = 1;
  pos = 2;
  calls = [];
  store = record { frames = []; out = one; mark = None; over = false };
  content = None;
  units = 1;
  count = 11;
  end = Some (Out (Done one));
})

abbrev pub NoRowIsBehindTheEnd : Type 0
NoRowIsBehindTheEnd = run_alone long_list_program one true 12 ≡ None

-- Before the input has ended HALT waits.
abbrev pub HaltWaits : Type 0
HaltWaits = run_alone long_list_program one false 11 ≡ None

-- Cut after the long, the payload is truncated.
abbrev pub CutIsTruncated : Type 0
CutIsTruncated = run_alone long_list_program (2 ∷ []) true 6 ≡ Some (record {
  pc = 6;
  pos = 1;
  calls = 1 ∷ [];
  store = record { frames = Rec (Some 1) ((2 ∷ []) ∷ [] ∷ []) ∷ []; out = []; mark = None; over = false };
  content = None;
  units = 1;
  count = 6;
  end = Some (Out (Malformed Truncated 1));
})
