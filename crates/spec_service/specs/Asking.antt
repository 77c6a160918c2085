-- What a request asks, or the first of its faults (Confluent Schema Registry API; which fault comes first is this
-- project's own: the length, the route, the method, the size; then subject, version, body, schema or level).
use Rattle.std.specs.Prelude.{◌≡◌, ◌⊎◌, ℕ, List, length, take, nat_lt, Option, Some, None, Result, Ok, Err, if◌then◌else◌, map, option_map}
use Rattle.std.specs.Option.{ok_or}
use Rattle.httparse.specs.Grammar.{ReadsRequest, RequestHead}
use Rattle.httparse.specs.Spans.{name_and_value}
use Rattle.spec_service.specs.ContentLength.{declared_length}
use Rattle.spec_service.specs.Digits.{number}
use Rattle.spec_service.specs.Front.{HasNoHead, IsAllowed}
use Rattle.spec_registry.specs.Command.{Command, SetLevelCommand, LookupCommand, CheckCommand, VersionsCommand, VersionCommand, SubjectsCommand, LevelCommand}
use Rattle.spec_service.specs.declared.fault.Fault.{Fault}
use Rattle.spec_service.specs.declared.fault.Fault.TheVariants as faults
use Rattle.spec_service.specs.declared.action.Action.{Action}
use Rattle.spec_service.specs.declared.action.Action.TheVariants as actions
use Rattle.spec_service.specs.declared.chosen.Chosen.{Chosen}
use Rattle.spec_service.specs.declared.limits.TheConstants.{MOST_BODY}
use Rattle.spec_service.specs.Action.{action_of}
use Rattle.spec_service.specs.Body.{level_of, text_of, whole_body}
use Rattle.spec_service.specs.Parameters.{id_of, subject_of, version_of}
use Rattle.spec_service.specs.Path.{path_of, segment}
use Rattle.spec_service.specs.Request.{Request, Asks, Registers, AsksSchema, Transcodes}
use Rattle.spec_service.specs.Route.{route_of}
use Rattle.spec_service.specs.Steps.{◌>>=◌}

-- ---- the head

-- how many bytes the body has
abbrev pub length_of : RequestHead → Result ℕ Fault
length_of head = ok_or (option_map number (declared_length (map name_and_value head.fields))) faults.BadRequest

-- what a method asks for at a target
abbrev pub action_at : List ℕ → List ℕ → Result Action Fault
action_at method target =
    ok_or (route_of (path_of target)) faults.NoRoute >>= (λ route. ok_or (action_of route method) faults.NotAllowed)

-- an action, where the body passes no limit
abbrev pub where_small : ℕ → Action → Result Chosen Fault
where_small n action =
    if nat_lt MOST_BODY n then Err faults.TooLarge else Ok (record { action = action; body_length = n })

-- what a head asks for, and how many bytes the body has
abbrev pub chosen : RequestHead → Result Chosen Fault
chosen head =
    length_of head >>= (λ n. ok_or (route_of (path_of head.target)) faults.NoRoute >>= (λ route.
    ok_or (action_of route head.method) faults.NotAllowed >>= where_small n))

-- ---- the path and the body, which is none where it was cut short

-- a command whose request needs no body, which has to be there in whole all the same
abbrev pub question : Option (List ℕ) → Command → Result Request Fault
question body command = whole_body body >>= (λ bytes. Ok (Asks command))

-- a level to be set, for a subject or for those that have none of their own
abbrev pub setting : Option (List ℕ) → Option (List ℕ) → Result Request Fault
setting body subject = level_of body >>= (λ l. Ok (Asks (SetLevelCommand subject l)))

module _ (path : List ℕ) (body : Option (List ℕ)) where
  -- what an action asks for
  abbrev pub asked_for : Action → Result Request Fault
  asked_for actions.ListSubjects = question body SubjectsCommand
  asked_for actions.Lookup =
      subject_of (segment 2 path) >>= (λ s. text_of body >>= (λ t. Ok (Asks (LookupCommand s t))))
  asked_for actions.ListVersions = subject_of (segment 2 path) >>= (λ s. question body (VersionsCommand s))
  asked_for actions.Register = subject_of (segment 2 path) >>= (λ s. text_of body >>= (λ t. Ok (Registers s t)))
  asked_for actions.ShowVersion =
      subject_of (segment 2 path) >>= (λ s. version_of (segment 4 path) >>= (λ v. question body (VersionCommand s v)))
  asked_for actions.ShowSchema = whole_body body >>= (λ bytes. id_of (segment 3 path) >>= (λ id. Ok (AsksSchema id)))
  asked_for actions.Check =
      subject_of (segment 3 path) >>= (λ s. version_of (segment 5 path) >>= (λ v. text_of body >>= (λ t.
      Ok (Asks (CheckCommand s v t)))))
  asked_for actions.ShowLevel = question body (LevelCommand None)
  asked_for actions.SetLevel = setting body None
  asked_for actions.ShowSubjectLevel = subject_of (segment 2 path) >>= (λ s. question body (LevelCommand (Some s)))
  asked_for actions.SetSubjectLevel = subject_of (segment 2 path) >>= (λ s. setting body (Some s))
  asked_for actions.Transcode =
      whole_body body >>= (λ bytes. id_of (segment 2 path) >>= (λ id. Ok (Transcodes id bytes)))

-- ---- a request

-- what a request asks whose method, target and content these are
abbrev pub asked_at : List ℕ → List ℕ → List ℕ → Result Request Fault
asked_at method target content = action_at method target >>= asked_for (path_of target) (Some content)

-- the first n of the bytes, or none where there are fewer
abbrev pub body_in : ℕ → List ℕ → Option (List ℕ)
body_in n rest = if nat_lt (length rest) n then None else Some (take n rest)

-- what a request asks, with all bytes that come after its head
abbrev pub asked : RequestHead → List ℕ → Result Request Fault
asked head rest = chosen head >>= (λ c. asked_for (path_of head.target) (body_in c.body_length rest) c.action)

-- what these bytes ask: what those of a head within the limits do, or a fault where they begin with none
abbrev pub IsAsked : List ℕ → Result Request Fault → Type 0
IsAsked input request =
    (HasNoHead input × (request ≡ Err faults.BadRequest))
    ⊎ ((head : RequestHead) × (rest : List ℕ) × ReadsRequest input head rest × IsAllowed head
    × (request ≡ asked head rest))
