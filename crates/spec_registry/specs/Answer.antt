-- What an answer is, and the refusals that come before it (our own order; the API has the codes).
use Rattle.std.specs.Prelude.{◌≡◌, ℕ, List, [], ◌∷◌, Bool, true, false, Option, Some, None, Result, Ok, Err, ◌⊎◌}
use Rattle.std.specs.List.{AllByRecursion}
use Rattle.spec_schema.specs.declared.schema_error.SchemaError.{SchemaError}
use Rattle.spec_schema.specs.Schema.{Declaration}
use Rattle.spec_avro.specs.Safety.{IsSafe}
use Rattle.spec_registry.specs.declared.version.Version.{Version}
use Rattle.spec_registry.specs.declared.refusal.Refusal.{Refusal}
use Rattle.spec_registry.specs.declared.refusal.Refusal.TheVariants.{BadSubject, BadVersion, BadSchema, NoSubject, NoVersion}
use Rattle.spec_registry.specs.Reply.{Reply}
use Rattle.spec_registry.specs.Subject.{is_subject, is_version}
use Rattle.spec_registry.specs.Lists.{Entry, version_at}
use Rattle.spec_registry.specs.Accepting.{declaration_of}

-- a writer and a reader
abbrev pub Pair : Type 0
Pair = Declaration × Declaration

-- what is answered: one result; or the first of two where each reader is safe to read all that its writer writes, and
-- else the second
pub data Answer : Type 0 where
  Told : Result Reply Refusal → Answer
  WhereSafe : List Pair → Result Reply Refusal → Result Reply Refusal → Answer

abbrev pub AreSafe : List Pair → Type 0
AreSafe pairs = AllByRecursion (λ p. IsSafe p.0.nodes p.1.nodes) pairs

abbrev pub IsAnswer : Answer → Result Reply Refusal → Type 0
IsAnswer (Told answer) result = result ≡ answer
IsAnswer (WhereSafe pairs one other) result = (AreSafe pairs × (result ≡ one)) ⊎ (¬ (AreSafe pairs) × (result ≡ other))

-- it is a reply, whatever schemas go together
abbrev pub IsReply : Answer → Type 0
IsReply (Told (Ok reply)) = Unit {0}
IsReply answer = ⊥

-- ---- refusals, each before what comes after it

abbrev pub where_true : Bool → Refusal → Answer → Answer
where_true true refusal answer = answer
where_true false refusal answer = Told (Err refusal)

abbrev pub where_some : {A : Type 0} → Option A → Refusal → (A → Answer) → Answer
where_some (Some a) refusal answer = answer a
where_some None refusal answer = Told (Err refusal)

-- a subject has versions, or it is not there
abbrev pub where_versions : List Entry → (List Entry → Answer) → Answer
where_versions [] answer = Told (Err NoSubject)
where_versions (e ∷ es) answer = answer (e ∷ es)

-- the version that is asked for, of a subject that has versions
abbrev pub where_version : List Entry → Version → (Entry → Answer) → Answer
where_version versions version answer =
    where_versions versions (λ vs. where_some (version_at version vs) NoVersion answer)

abbrev pub where_schema : Result Declaration SchemaError → (Declaration → Answer) → Answer
where_schema (Ok schema) answer = answer schema
where_schema (Err e) answer = Told (Err (BadSchema e))

-- the subject is named by the rule, and the text declares a schema
abbrev pub where_declared : List ℕ → List ℕ → (Declaration → Answer) → Answer
where_declared subject text answer =
    where_true (is_subject subject) BadSubject (where_schema (declaration_of text) answer)

-- the subject is named by the rule, and the version may be asked for
abbrev pub where_askable : List ℕ → Version → Answer → Answer
where_askable subject version answer =
    where_true (is_subject subject) BadSubject (where_true (is_version version) BadVersion answer)

-- a subject that is named has to be named by the rule
abbrev pub is_subject_or_none : Option (List ℕ) → Bool
is_subject_or_none None = true
is_subject_or_none (Some subject) = is_subject subject
