-- How runs of a listed program are answered. All of this is this project's own.
use Rattle.std.specs.Prelude.{◌≡◌, ◌≤◌, ◌<◌, ℕ, true, List, length, codes, nat_lt, Option, Some, is_some, MatchBool, MatchOption}
use Rattle.std.specs.List.{concat}
use Rattle.spec_machine.specs.ListingParts.{each_in}
use Rattle.spec_machine.specs.ListingWords.{parts}
use Rattle.spec_machine.specs.Program.{Program}
use Rattle.spec_machine.specs.State.{State}
use Rattle.spec_avro.specs.declared.limits.TheConstants.{MOST_PAYLOAD}
use Rattle.spec_machine.specs.Alone.{run_alone}
use Rattle.spec_lines.specs.Payload.{payload_of}
use Rattle.spec_lines.specs.RunLine.{line_of_run}

-- the bytes of each piece of a line, which bars, 124, part, or None where one of them spells none
abbrev pub pieces_of : List ℕ → Option (List (List ℕ))
pieces_of line = each_in payload_of (parts 124 line)

-- The state in which a run on a whole payload stops, of at most `steps` rows: it is the program run alone, as many rows
-- on as it has counted, and fewer than `steps` only where it has ended.
pub record StopsIn (P : Program) (payload : List ℕ) (steps : ℕ) (s : State) : Type 0 where
  pub alone : run_alone P payload true s.count ≡ Some s
  pub most : s.count ≤ steps
  pub ended : s.count < steps → is_some s.end ≡ true

-- for each program, payload and number of rows there is just one such state
abbrev pub StopInOneState : Type 0
StopInOneState = (P : Program) (payload : List ℕ) (steps : ℕ)
    → (s : State) × StopsIn P payload steps s × ((t : State) → StopsIn P payload steps t → t ≡ s)

-- the answer to a payload: by its size, then by its run
abbrev pub IsRunAnswer : Program → ℕ → List ℕ → List ℕ → Type 0
IsRunAnswer P steps answer payload =
    MatchBool (nat_lt MOST_PAYLOAD (length payload)) (answer ≡ codes "too large")
    ((s : State) × StopsIn P payload steps s × (answer ≡ line_of_run s))

-- the answer to a line: however its payload is cut into pieces, it is their bytes, joined
abbrev pub IsRunLine : Program → ℕ → List ℕ → List ℕ → Type 0
IsRunLine P steps line answer =
    MatchOption (pieces_of line) (answer ≡ codes "bad hex") (λ pieces. IsRunAnswer P steps answer (concat pieces))
