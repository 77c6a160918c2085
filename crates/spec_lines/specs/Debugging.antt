-- What `debug` answers: lines change one session, which has its whole payload from the start. This project's own.
use Rattle.std.specs.Prelude.{◌≡◌, ℕ, false, List, [], length, nat_lt, if◌then◌else◌, Option, Some, None, Result, Ok, Err, IfErr, MatchOption}
use Rattle.spec_lines.specs.Payload.{payload_of}
use Rattle.spec_avro.specs.Node.{Node}
use Rattle.spec_lines.specs.Reading.{debug_line}
use Rattle.spec_lines.specs.declared.debug_line.DebugLine.{DebugLine}
use Rattle.spec_lines.specs.declared.debug_line.DebugLine.TheVariants as lines
use Rattle.spec_machine.specs.Program.{Program}
use Rattle.spec_avro.specs.declared.limits.TheConstants.{MOST_PAYLOAD}
use Rattle.spec_machine.specs.Code.{code_of}
use Rattle.spec_sessions.specs.Changes.{Maybe, Surely, break_refusal, clear_refusal, cleared_at, finished, set_at, with_piece}
use Rattle.spec_sessions.specs.SessionNames.{break_refusal_name, clear_refusal_name}
use Rattle.spec_sessions.specs.Rows.{TakesRows, go_rows, walk_rows}
use Rattle.spec_sessions.specs.Session.{Session, begun, has_break}
use Rattle.spec_sessions.specs.declared.session_refusal.BreakRefusal.{BreakRefusal}
use Rattle.spec_sessions.specs.declared.session_refusal.BreakRefusal.TheVariants.{NoMemory}
use Rattle.spec_sessions.specs.declared.session_refusal.ClearRefusal.{ClearRefusal}
use Rattle.spec_lines.specs.declared.refusal.Refusal.{Refusal}
use Rattle.spec_lines.specs.declared.refusal.Refusal.TheVariants.{BadHex, ProgramTooLarge, TooLarge}
use Rattle.spec_lines.specs.Folding.{AnswersAll}
use Rattle.spec_lines.specs.Telling.{bad_line, refused_line}
use Rattle.spec_lines.specs.ShownSessions.{Lists, Shows}

-- a command that is done answers nothing
abbrev pub done_line : {E : Type 0} → (E → List ℕ) → Result (Unit {0}) E → List ℕ
done_line name (Ok u) = []
done_line name (Err e) = refused_line (name e)

abbrev pub Obeys : DebugLine → List ℕ → Session → Session → Type 0
Obeys (lines.Break a) answer old new =
    (done : Result (Unit {0}) BreakRefusal) × Maybe NoMemory (break_refusal a old) (set_at a old) done old new
    × IfErr done (λ e. e ≡ NoMemory → has_break a old.breaks ≡ false) × (answer ≡ done_line break_refusal_name done)
Obeys (lines.Clear a) answer old new =
    (done : Result (Unit {0}) ClearRefusal) × Surely (clear_refusal a old) (cleared_at a old) done old new
    × (answer ≡ done_line clear_refusal_name done)
Obeys (lines.Step n) answer old new = (rows : ℕ) × TakesRows (walk_rows n old) old rows new × (answer ≡ [])
Obeys (lines.Go n) answer old new = (rows : ℕ) × TakesRows (go_rows n old) old rows new × (answer ≡ [])
Obeys lines.Show answer old new = Shows old answer × (new ≡ old)
Obeys lines.List answer old new = Lists old answer × (new ≡ old)

abbrev pub AnswersCommand : List ℕ → List ℕ → Session → Session → Type 0
AnswersCommand line answer old new =
    MatchOption (debug_line line) ((answer ≡ bad_line) × (new ≡ old)) (λ said. Obeys said answer old new)

-- ---- what is debugged

abbrev pub within_limit : Program → List ℕ → Result (Program × List ℕ) Refusal
within_limit P payload = if nat_lt MOST_PAYLOAD (length payload) then Err TooLarge else Ok (P, payload)

abbrev pub with_payload : Program → Option (List ℕ) → Result (Program × List ℕ) Refusal
with_payload P (Some payload) = within_limit P payload
with_payload P None = Err BadHex

abbrev pub with_line : Option Program → List ℕ → Result (Program × List ℕ) Refusal
with_line (Some P) line = with_payload P (payload_of line)
with_line None line = Err ProgramTooLarge

-- a program and its payload: of a pair of schemas, and a line
abbrev pub debugged : List Node → List Node → List ℕ → Result (Program × List ℕ) Refusal
debugged W R line = with_line (code_of W R) line

-- the session at the first command
abbrev pub given : Program → List ℕ → Session
given P payload = finished (with_piece payload (begun P))

abbrev pub IsDebugged : Program → List ℕ → List (List ℕ) → List ℕ → Type 0
IsDebugged P payload commands output =
    (after : Session) × AnswersAll AnswersCommand commands output (given P payload) after
