-- The answers to payload lines. This project's own.
use Rattle.std.specs.Prelude.{◌≡◌, List, [], ◌∷◌, ◌++◌, ℕ, length, codes, nat_lt, MatchBool, MatchOption}
use Rattle.spec_avro.specs.Node.{Node}
use Rattle.spec_lines.specs.OutcomeLine.{line_of}
use Rattle.spec_lines.specs.Payload.{payload_of}
use Rattle.spec_avro.specs.Outcome.{Outcome}
use Rattle.spec_avro.specs.PayloadOutcome.{IsOutcome}
use Rattle.spec_avro.specs.declared.limits.TheConstants.{MOST_PAYLOAD}

-- the answer to a payload, between a writer's nodes and a reader's: by its size, then by its outcome
abbrev pub IsPayloadAnswer : List Node → List Node → List ℕ → List ℕ → Type 0
IsPayloadAnswer W R answer payload =
    MatchBool (nat_lt MOST_PAYLOAD (length payload)) (answer ≡ codes "too large")
    ((outcome : Outcome) × IsOutcome W R payload outcome × (answer ≡ line_of outcome))

-- the answer to a line
abbrev pub IsAnswer : List Node → List Node → List ℕ → List ℕ → Type 0
IsAnswer W R line answer = MatchOption (payload_of line) (answer ≡ codes "bad hex") (IsPayloadAnswer W R answer)

-- the answers to lines, each ended by an LF
unfoldable pub AreAnswers : (List ℕ → List ℕ → Type 0) → List (List ℕ) → List ℕ → Type 0
AreAnswers IsAnswer [] output = output ≡ []
AreAnswers IsAnswer (line ∷ later) output =
    (answer : List ℕ) × (rest : List ℕ) × IsAnswer line answer × AreAnswers IsAnswer later rest
    × (output ≡ answer ++ 10 ∷ rest)

abbrev pub IsAnswers : List Node → List Node → List (List ℕ) → List ℕ → Type 0
IsAnswers W R = AreAnswers (IsAnswer W R)
