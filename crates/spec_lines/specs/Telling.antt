-- What is answered of a session, and for a refusal. All of this is this project's own.
use Rattle.std.specs.Prelude.{◌≡◌, ℕ, List, [], ◌∷◌, ◌++◌, codes, is_some, Some, if◌then◌else◌}
use Rattle.std.specs.Fmt.{decimal}
use Rattle.spec_lines.specs.RunLine.{line_of_run}
use Rattle.spec_machine.specs.State.{State}
use Rattle.spec_sessions.specs.Session.{Session, state_of}

abbrev pub refused_line : List ℕ → List ℕ
refused_line name = codes "refused " ++ name ++ 10 ∷ []

abbrev pub bad_line : List ℕ
bad_line = codes "bad line" ++ 10 ∷ []

-- how it ended: what ended its run, or want of memory
abbrev pub end_line : Session → State → List ℕ
end_line s state =
    if s.out_of_memory then codes "no memory count " ++ decimal s.count
    else if is_some state.end then line_of_run state
    else codes "pending"

abbrev pub end_text : Session → State → List ℕ
end_text s state = end_line s state ++ 10 ∷ []

-- a text of a session, in the state in which its machine is
abbrev pub Tells : (Session → State → List ℕ) → Session → List ℕ → Type 0
Tells text s answer = (state : State) × (state_of s ≡ Some state) × (answer ≡ text s state)

-- how it ended, in a line
abbrev pub TellsEnd : Session → List ℕ → Type 0
TellsEnd s answer = Tells end_text s answer
