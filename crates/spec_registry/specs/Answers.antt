-- What a registry answers, read off its lists, and in which order it refuses (our own order; the API has the codes).
use Rattle.std.specs.Prelude.{◌≡◌, ◌≢◌, ◌≤◌, ℕ, ◌&&◌, ◌||◌, List, [], ◌∷◌, ◌++◌, map, length, nat_le, Bool, true, false, not, is_some, if◌then◌else◌, Option, Some, None, Result, Ok, Err}
use Rattle.std.specs.List.{filter_map, flat_map}
use Rattle.std.specs.FinMap as finite
use Rattle.spec_avro.specs.declared.limits.TheConstants.{MOST_TEXT}
use Rattle.spec_schema.specs.Schema.{Declaration}
use Rattle.spec_registry.specs.declared.limits.TheConstants.{MOST_SCHEMAS, MOST_SUBJECTS, MOST_LEVELS}
use Rattle.spec_registry.specs.declared.version.Version.{Version}
use Rattle.spec_registry.specs.declared.level.Level.{Level}
use Rattle.spec_registry.specs.declared.refusal.Refusal.{Refusal}
use Rattle.spec_registry.specs.declared.refusal.Refusal.TheVariants.{BadSubject, NoSchema, Incompatible, Full, NoMemory}
use Rattle.spec_registry.specs.Comparing.{compared}
use Rattle.spec_registry.specs.Command.{Command, RegisterCommand, SetLevelCommand, LookupCommand, CheckCommand, VersionsCommand, VersionCommand, SubjectsCommand, SchemaCommand, LevelCommand}
use Rattle.spec_registry.specs.Reply.{Reply, IdReply, EntryReply, CompatibleReply, NumbersReply, NamesReply, TextReply, LevelReply}
use Rattle.spec_registry.specs.Level.{is_transitive, new_reads_old, old_reads_new}
use Rattle.spec_registry.specs.Subject.{is_subject, is_version}
use Rattle.spec_registry.specs.Lists.{Entry, Lists, Names, id_of, level_of, subjects_of, subjects_with_level, versions_of, with_text, numbered}
use Rattle.spec_registry.specs.Accepting.{declaration_of, id_for, registry_after}
use Rattle.spec_registry.specs.Answer.{Pair, Answer, Told, WhereSafe, IsAnswer, IsReply, where_true, where_some, where_versions, where_version, where_schema, where_declared, where_askable, is_subject_or_none}

-- ---- which pairs a level names

-- the pairs of a new schema and an older one
abbrev pub pairs_with : Level → Declaration → Declaration → List Pair
pairs_with level new old =
    (if new_reads_old level then (old, new) ∷ [] else []) ++ (if old_reads_new level then (new, old) ∷ [] else [])

-- ---- limits, and that what would pass one is refused as `Full` (our own rule)

-- it is not there, and there are already as many as there may be
abbrev pub is_one_too_many : Bool → ℕ → ℕ → Bool
is_one_too_many is_there count most = not is_there && nat_le most count

-- there is no room for one more name, and this would be one
abbrev pub has_no_room : Names → List ℕ → ℕ → Bool
has_no_room names name most = is_one_too_many (finite.contains_key names name) (finite.len names) most

-- there is no room for one more schema, and this would be one
abbrev pub has_no_id : List Declaration → List ℕ → Bool
has_no_id schemas text = is_one_too_many (is_some (id_of text schemas)) (length schemas) MOST_SCHEMAS

module _ (lists : Lists) where
  abbrev pub schemas_of : List Entry → List Declaration
  schemas_of versions = filter_map (λ e. numbered lists.schemas e.id) versions

  abbrev pub pairs_of : Level → Declaration → List Entry → List Pair
  pairs_of level new versions = flat_map (pairs_with level new) (schemas_of (compared (is_transitive level) versions))

  -- ---- answers

  -- there is no room for one more schema, or for one more subject
  abbrev pub is_full : Declaration → List ℕ → Bool
  is_full schema subject =
      has_no_id lists.schemas schema.text || has_no_room (subjects_of lists.entries) subject MOST_SUBJECTS

  -- `NoSchema` is never answered here, since the id of each version is a schema's (`Holds.ids_known`)
  abbrev pub entry_answer : Entry → Answer
  entry_answer e =
      where_some (numbered lists.schemas e.id) NoSchema (λ s. Told (Ok (EntryReply e.subject e.version e.id s.text)))

  -- the version of a subject that has a schema
  abbrev pub version_answer : List ℕ → Declaration → Answer
  version_answer subject schema = where_versions (versions_of subject lists.entries)
      (λ versions. where_some (with_text schema.text lists.schemas versions) NoSchema entry_answer)

  -- a schema that the subject has answers its id again, whatever its level
  abbrev pub register_answer : List ℕ → List Entry → Declaration → Option Entry → Answer
  register_answer subject versions schema (Some e) = Told (Ok (IdReply e.id))
  register_answer subject versions schema None =
      WhereSafe (pairs_of (level_of (Some subject) lists.levels) schema versions)
      (if is_full schema subject then Err Full else Ok (IdReply (id_for schema lists.schemas)))
      (Err Incompatible)

  abbrev pub registration : List ℕ → Declaration → Answer
  registration subject schema =
      register_answer subject (versions_of subject lists.entries) schema
      (with_text schema.text lists.schemas (versions_of subject lists.entries))

  -- the id of the code is that of the answer, unless memory ran out
  abbrev pub GivesId : List ℕ → Declaration → Result ℕ Refusal → Type 0
  GivesId subject schema (Ok id) = IsAnswer (registration subject schema) (Ok (IdReply id))
  GivesId subject schema (Err refusal) = refusal ≢ NoMemory → IsAnswer (registration subject schema) (Err refusal)

  -- at NONE every schema is compatible (our own rule)
  abbrev pub check_answer : List ℕ → Declaration → Declaration → Answer
  check_answer subject new old =
      WhereSafe (pairs_with (level_of (Some subject) lists.levels) new old) (Ok (CompatibleReply true))
      (Ok (CompatibleReply false))

  -- a new schema compared with the version that is asked for; `NoSchema` is never answered here either
  abbrev pub comparison : List ℕ → Version → Declaration → Answer
  comparison subject version new = where_version (versions_of subject lists.entries) version
      (λ e. where_some (numbered lists.schemas e.id) NoSchema (check_answer subject new))

  abbrev pub set_level_answer : Option (List ℕ) → Level → Answer
  set_level_answer None level = Told (Ok (LevelReply level))
  set_level_answer (Some subject) level =
      if has_no_room (subjects_with_level lists.levels) subject MOST_LEVELS then Told (Err Full)
      else Told (Ok (LevelReply level))

  abbrev pub answer_to : Command → Answer
  answer_to (RegisterCommand subject text) = where_declared subject text (registration subject)
  answer_to (SetLevelCommand subject level) =
      where_true (is_subject_or_none subject) BadSubject (set_level_answer subject level)
  answer_to (LookupCommand subject text) = where_declared subject text (version_answer subject)
  answer_to (CheckCommand subject version text) =
      where_askable subject version (where_schema (declaration_of text) (comparison subject version))
  answer_to (VersionsCommand subject) =
      where_true (is_subject subject) BadSubject (where_versions (versions_of subject lists.entries)
      (λ versions. Told (Ok (NumbersReply (map (λ e. e.version) versions)))))
  answer_to (VersionCommand subject version) =
      where_askable subject version (where_version (versions_of subject lists.entries) version entry_answer)
  answer_to SubjectsCommand = Told (Ok (NamesReply (finite.keys (subjects_of lists.entries))))
  answer_to (SchemaCommand id) = where_some (numbered lists.schemas id) NoSchema (λ s. Told (Ok (TextReply s.text)))
  answer_to (LevelCommand subject) =
      where_true (is_subject_or_none subject) BadSubject (Told (Ok (LevelReply (level_of subject lists.levels))))

  -- where a command may need memory: where it reads the text of a schema, which is short enough, and where it sets or
  -- answers what it was asked
  abbrev pub Grows : Command → Type 0
  Grows (RegisterCommand subject text) = (is_subject subject ≡ true) × (length text ≤ MOST_TEXT)
  Grows (LookupCommand subject text) = (is_subject subject ≡ true) × (length text ≤ MOST_TEXT)
  Grows (CheckCommand subject version text) =
      (is_subject subject ≡ true) × (is_version version ≡ true) × (length text ≤ MOST_TEXT)
  Grows (SetLevelCommand None level) = ⊥
  Grows (LevelCommand subject) = ⊥
  Grows c = IsReply (answer_to c)

-- each of these commands was accepted after those before it
pub data AreAccepted : List Command → Type 0 where
  no_command : AreAccepted []
  one_more : (commands : List Command) (c : Command) (reply : Reply) → AreAccepted commands
      → IsAnswer (answer_to (registry_after commands) c) (Ok reply) → AreAccepted (commands ++ c ∷ [])
