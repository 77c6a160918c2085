-- Each input has just one output: line by line, since each payload has just one outcome, and each run just one state in
-- which it stops.
use Rattle.std.proofs.Common.{◌≡◌, ℕ, Bool, true, false, List, [], ◌∷◌, ◌++◌, length, Option, Some, None, Result, Ok, Err, MatchBool, MatchOption, MatchResult, nat_lt, drop, codes, refl, sym, ap, ◌∙◌}
use Rattle.std.specs.List.{concat}
use Rattle.spec_avro.specs.Node.{Node}
use Rattle.spec_machine.specs.Assembling.{assembled}
use Rattle.spec_machine.specs.Program.{Program}
use Rattle.spec_machine.specs.Code.{code_of}
use Rattle.spec_avro.specs.Outcome.{Outcome}
use Rattle.spec_avro.specs.declared.limits.TheConstants.{MOST_PAYLOAD}
use Rattle.spec_avro.specs.PayloadOutcome.{IsOutcome}
use Rattle.spec_machine.specs.Alone.{EndsAreLast, RowsAreCounted, RunsGoOn}
use Rattle.spec_lines.specs.OutcomeLine.{line_of}
use Rattle.spec_lines.specs.RunLine.{line_of_run}
use Rattle.spec_lines.specs.Answer.{AreAnswers, IsAnswer, IsAnswers, IsPayloadAnswer}
use Rattle.spec_lines.specs.Lines.{lines}
use Rattle.spec_lines.specs.Listed.{listed}
use Rattle.spec_lines.specs.Output.{HasOneOutput, HasOutput, IsCompiled, IsForSchemas, IsRun, IsTranscoded, text_of_program}
use Rattle.spec_lines.specs.Payload.{payload_of}
use Rattle.spec_lines.specs.Refusal.{IsRefused, text_of}
use Rattle.spec_lines.specs.Running.{IsRunAnswer, IsRunLine, StopsIn, pieces_of}
use Rattle.spec_lines.specs.Schemas.{schemas_of}
use Rattle.spec_lines.specs.declared.verb.Verb.TheVariants.{Compile, Debug, Replay, Run, Transcode}
use Rattle.spec_lines.specs.declared.refusal.Refusal.{Refusal}
use Rattle.spec_lines.specs.declared.refusal.Refusal.TheVariants.{BadListing, ProgramTooLarge}
use Rattle.spec_lines.specs.declared.status.Status.{Status}
use Rattle.spec_lines.specs.declared.status.Status.TheVariants.{Answered, Refused}
use Rattle.commands.proofs.Stopping.{one_stop, some_stop}
use Rattle.machine.specs.Laws.Plain.{RowOrEnd}

abbrev SomeOutcome : Type 0
SomeOutcome = (W R : List Node) (payload : List ℕ) → (o : Outcome) × IsOutcome W R payload o

abbrev OneOutcome : Type 0
OneOutcome = (W R : List Node) (payload : List ℕ) (a b : Outcome) → IsOutcome W R payload a → IsOutcome W R payload b → a ≡ b

-- an output and a status that are so
abbrev IsThere : (List ℕ → Status → Type 0) → Type 0
IsThere Is = (output : List ℕ) × (status : Status) × Is output status

-- all outputs and statuses that are so are the same
abbrev IsOne : (List ℕ → Status → Type 0) → Type 0
IsOne Is = (a b : List ℕ) (s t : Status) → Is a s → Is b t → (a ≡ b) × (s ≡ t)

-- ---- what is refused, and what is not

refused_there : (refusal : Refusal) → IsThere (IsRefused refusal)
refused_there refusal = (text_of refusal ++ 10 ∷ [], Refused, (refl, refl))

refused_one : (refusal : Refusal) → IsOne (IsRefused refusal)
refused_one refusal a b s t p q = (p.0 ∙ sym q.0, p.1 ∙ sym q.1)

module _ {A : Type 0} (Is : A → List ℕ → Status → Type 0) where
  or_large_there : ((x : A) → IsThere (Is x)) → (o : Option A) → IsThere (λ output status. MatchOption o (IsRefused ProgramTooLarge output status) (λ x. Is x output status))
  or_large_there there None = refused_there ProgramTooLarge
  or_large_there there (Some x) = there x

  or_large_one : ((x : A) → IsOne (Is x)) → (o : Option A) → IsOne (λ output status. MatchOption o (IsRefused ProgramTooLarge output status) (λ x. Is x output status))
  or_large_one one None = refused_one ProgramTooLarge
  or_large_one one (Some x) = one x

  module _ {E : Type 0} (refusal_of : E → Refusal) where
    or_refused_there : ((x : A) → IsThere (Is x)) → (r : Result A E) → IsThere (λ output status. MatchResult r (λ x. Is x output status) (λ e. IsRefused (refusal_of e) output status))
    or_refused_there there (Ok x) = there x
    or_refused_there there (Err e) = refused_there (refusal_of e)

    or_refused_one : ((x : A) → IsOne (Is x)) → (r : Result A E) → IsOne (λ output status. MatchResult r (λ x. Is x output status) (λ e. IsRefused (refusal_of e) output status))
    or_refused_one one (Ok x) = one x
    or_refused_one one (Err e) = refused_one (refusal_of e)

-- ---- answers to lines

module _ (Answers : List ℕ → List ℕ → Type 0) where
  some_answers : ((line : List ℕ) → (answer : List ℕ) × Answers line answer) → (payloads : List (List ℕ)) → (output : List ℕ) × AreAnswers Answers payloads output
  unfolding AreAnswers
  some_answers some [] = ([], refl)
  some_answers some (line ∷ later) =
      let here = some line in
      let rest = some_answers some later in
      (here.0 ++ 10 ∷ rest.0, (here.0, rest.0, here.1, rest.1, refl))

  one_answers : ((line a b : List ℕ) → Answers line a → Answers line b → a ≡ b) → (payloads : List (List ℕ)) (a b : List ℕ)
      → AreAnswers Answers payloads a → AreAnswers Answers payloads b → a ≡ b
  unfolding AreAnswers
  one_answers one [] a b p q = p ∙ sym q
  one_answers one (line ∷ later) a b p q =
      let here = one line p.0 q.0 p.2 q.2 in
      let rest = one_answers one later p.1 q.1 p.3 q.3 in
      p.4 ∙ ap (λ (x : List ℕ). x ++ 10 ∷ p.1) here ∙ ap (λ (x : List ℕ). q.0 ++ 10 ∷ x) rest ∙ sym q.4

  answered_there : ((line : List ℕ) → (answer : List ℕ) × Answers line answer) → (payloads : List (List ℕ))
      → IsThere (λ output status. AreAnswers Answers payloads output × (status ≡ Answered))
  answered_there some payloads = let o = some_answers some payloads in (o.0, Answered, (o.1, refl))

  answered_one : ((line a b : List ℕ) → Answers line a → Answers line b → a ≡ b) → (payloads : List (List ℕ))
      → IsOne (λ output status. AreAnswers Answers payloads output × (status ≡ Answered))
  answered_one one payloads a b s t p q = (one_answers one payloads a b p.0 q.0, p.1 ∙ sym q.1)

-- what a line spells, and how that is answered
module _ {A : Type 0} (Answers : List ℕ → A → Type 0) where
  some_line : ((x : A) → (answer : List ℕ) × Answers answer x) → (o : Option A) → (answer : List ℕ) × MatchOption o (answer ≡ codes "bad hex") (Answers answer)
  some_line some None = (codes "bad hex", refl)
  some_line some (Some x) = some x

  one_line : ((x : A) (a b : List ℕ) → Answers a x → Answers b x → a ≡ b) → (o : Option A) (a b : List ℕ)
      → MatchOption o (a ≡ codes "bad hex") (Answers a) → MatchOption o (b ≡ codes "bad hex") (Answers b) → a ≡ b
  one_line one None a b p q = p ∙ sym q
  one_line one (Some x) a b p q = one x a b p q

-- by the size of a payload
module _ {A : Type 0} (Is : A → Type 0) (line : A → List ℕ) where
  abbrev SizedAnswer : Bool → List ℕ → Type 0
  SizedAnswer large answer = MatchBool large (answer ≡ codes "too large") ((x : A) × Is x × (answer ≡ line x))

  some_sized : (x : A) × Is x → (large : Bool) → (answer : List ℕ) × SizedAnswer large answer
  some_sized x true = (codes "too large", refl)
  some_sized x false = (line x.0, (x.0, x.1, refl))

  one_sized : ((x y : A) → Is x → Is y → x ≡ y) → (large : Bool) (a b : List ℕ) → SizedAnswer large a → SizedAnswer large b → a ≡ b
  one_sized one true a b p q = p ∙ sym q
  one_sized one false a b p q = p.2 ∙ ap line (one p.0 q.0 p.1 q.1) ∙ sym q.2

abbrev is_large : List ℕ → Bool
is_large payload = nat_lt MOST_PAYLOAD (length payload)

-- ---- there is one

module _ (some : SomeOutcome) (W R : List Node) where
  some_answer : (line : List ℕ) → (answer : List ℕ) × IsAnswer W R line answer
  some_answer line =
      some_line (IsPayloadAnswer W R) (λ payload. some_sized (IsOutcome W R payload) line_of (some W R payload) (is_large payload)) (payload_of line)

  some_transcoded : (later : List (List ℕ)) → IsThere (IsTranscoded W R later)
  some_transcoded later = or_large_there (λ P output status. IsAnswers W R later output × (status ≡ Answered)) (λ P. answered_there (IsAnswer W R) some_answer later) (code_of W R)

some_compiled : (image : Bool) (W R : List Node) (later : List (List ℕ)) → IsThere (IsCompiled image W R later)
some_compiled image W R later =
    or_large_there (λ P output status. (output ≡ text_of_program image P) × (status ≡ Answered)) (λ P. (text_of_program image P, Answered, (refl, refl))) (code_of W R)

some_for_schemas : (IsOutputOf : List Node → List Node → List (List ℕ) → List ℕ → Status → Type 0)
    → ((W R : List Node) (later : List (List ℕ)) → IsThere (IsOutputOf W R later)) → (input : List ℕ) → IsThere (IsForSchemas IsOutputOf input)
some_for_schemas IsOutputOf some input =
    let later = drop 2 (lines input) in
    or_refused_there (λ (pair : List Node × List Node). IsOutputOf pair.0 pair.1 later) (λ refusal. refusal) (λ pair. some pair.0 pair.1 later) (schemas_of (lines input))

module _ (there : RowOrEnd) (counted : RowsAreCounted) (go_on : RunsGoOn) (steps : ℕ) where
  some_run_line : (P : Program) (line : List ℕ) → (answer : List ℕ) × IsRunLine P steps line answer
  some_run_line P line =
      some_line (λ answer pieces. IsRunAnswer P steps answer (concat pieces))
      (λ pieces. let payload = concat pieces in some_sized (StopsIn P payload steps) line_of_run (some_stop P payload there counted go_on steps) (is_large payload)) (pieces_of line)

  some_run : (input : List ℕ) → IsThere (IsRun steps input)
  some_run input =
      let parts = listed input in
      or_refused_there (λ (P : Program) output status. AreAnswers (IsRunLine P steps) parts.1 output × (status ≡ Answered)) BadListing (λ P. answered_there (IsRunLine P steps) (some_run_line P) parts.1) (assembled parts.0)

pub some_output : SomeOutcome → RowOrEnd → RowsAreCounted → RunsGoOn → HasOutput
some_output some there counted go_on Transcode input settled = some_for_schemas IsTranscoded (some_transcoded some) input
some_output some there counted go_on (Compile image) input settled = some_for_schemas (IsCompiled image) (some_compiled image) input
some_output some there counted go_on (Run steps) input settled = some_run there counted go_on steps input
some_output some there counted go_on Debug input settled = elim settled [ ]
some_output some there counted go_on Replay input settled = elim settled [ ]

-- ---- and no other

module _ (one : OneOutcome) (W R : List Node) where
  one_answer : (line a b : List ℕ) → IsAnswer W R line a → IsAnswer W R line b → a ≡ b
  one_answer line =
      one_line (IsPayloadAnswer W R) (λ payload. one_sized (IsOutcome W R payload) line_of (one W R payload) (is_large payload)) (payload_of line)

  one_transcoded : (later : List (List ℕ)) → IsOne (IsTranscoded W R later)
  one_transcoded later = or_large_one (λ P output status. IsAnswers W R later output × (status ≡ Answered)) (λ P. answered_one (IsAnswer W R) one_answer later) (code_of W R)

one_compiled : (image : Bool) (W R : List Node) (later : List (List ℕ)) → IsOne (IsCompiled image W R later)
one_compiled image W R later =
    or_large_one (λ P output status. (output ≡ text_of_program image P) × (status ≡ Answered)) (λ P a b s t p q. (p.0 ∙ sym q.0, p.1 ∙ sym q.1)) (code_of W R)

one_for_schemas : (IsOutputOf : List Node → List Node → List (List ℕ) → List ℕ → Status → Type 0)
    → ((W R : List Node) (later : List (List ℕ)) → IsOne (IsOutputOf W R later)) → (input : List ℕ) → IsOne (IsForSchemas IsOutputOf input)
one_for_schemas IsOutputOf one input =
    let later = drop 2 (lines input) in
    or_refused_one (λ (pair : List Node × List Node). IsOutputOf pair.0 pair.1 later) (λ refusal. refusal) (λ pair. one pair.0 pair.1 later) (schemas_of (lines input))

module _ (last : EndsAreLast) (steps : ℕ) where
  one_run_line : (P : Program) (line a b : List ℕ) → IsRunLine P steps line a → IsRunLine P steps line b → a ≡ b
  one_run_line P line =
      one_line (λ answer pieces. IsRunAnswer P steps answer (concat pieces))
      (λ pieces. let payload = concat pieces in one_sized (StopsIn P payload steps) line_of_run (one_stop P payload last steps) (is_large payload)) (pieces_of line)

  one_run : (input : List ℕ) → IsOne (IsRun steps input)
  one_run input =
      let parts = listed input in
      or_refused_one (λ (P : Program) output status. AreAnswers (IsRunLine P steps) parts.1 output × (status ≡ Answered)) BadListing (λ P. answered_one (IsRunLine P steps) (one_run_line P) parts.1) (assembled parts.0)

pub one_output : OneOutcome → EndsAreLast → HasOneOutput
one_output one last Transcode input a b s t settled = one_for_schemas IsTranscoded (one_transcoded one) input a b s t
one_output one last (Compile image) input a b s t settled = one_for_schemas (IsCompiled image) (one_compiled image) input a b s t
one_output one last (Run steps) input a b s t settled = one_run last steps input a b s t
one_output one last Debug input a b s t settled = elim settled [ ]
one_output one last Replay input a b s t settled = elim settled [ ]
