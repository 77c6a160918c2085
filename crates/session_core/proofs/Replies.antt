-- What a registry replies to a command that it accepts.
use Rattle.std.proofs.Common.{◌≡◌, ◌<◌, refl, length, ℕ, Bool, true, false, List, [], ◌∷◌, ◌++◌, Option, Some, None, inl, inr, ap, subst, sym, ◌∙◌}
use Rattle.std.specs.Prelude.{Result, Ok, Err, IfErr, IsSome, OnOk, OnErr, if◌then◌else◌}
use Rattle.spec_avro.specs.declared.limits.TheConstants.{MOST_TEXT}
use Rattle.spec_schema.specs.Schema.{Declaration}
use Rattle.avro_schema.proofs.Declared.{too-large}
use Rattle.spec_schema.specs.declared.schema_error.SchemaError.TheVariants.{TooLarge}
use Rattle.spec_schema.specs.declared.schema_error.SchemaError.{SchemaError}
use Rattle.spec_registry.specs.declared.level.Level.{Level}
use Rattle.spec_registry.specs.declared.refusal.Refusal.{Refusal}
use Rattle.spec_registry.specs.declared.refusal.Refusal.TheVariants.{BadSchema, Full}
use Rattle.spec_registry.specs.declared.refusal.Refusal.TheVariants as refusals
use Rattle.spec_registry.specs.Accepting.{declaration_of, declared_as, id_for, registry_after}
use Rattle.spec_registry.specs.Answer.{Answer, IsAnswer, IsReply, Told, is_subject_or_none, where_schema, where_true}
use Rattle.schema_registry.specs.Answer.{Gives}
use Rattle.spec_registry.specs.Answers.{Grows, answer_to, has_no_room, is_full, register_answer, registration, set_level_answer}
use Rattle.spec_registry.specs.Command.{Command, RegisterCommand, SetLevelCommand}
use Rattle.spec_registry.specs.Lists.{Entry, Lists, versions_of, with_text, subjects_with_level}
use Rattle.spec_registry.specs.Reply.{IdReply, LevelReply, Reply}
use Rattle.schema_registry.specs.Reply.{reply_of}
use Rattle.schema_registry.specs.declared.reply.Reply as rust
use Rattle.spec_sessions.specs.Event.{SetLevel}
use Rattle.spec_sessions.specs.Happening.{Happens}
use Rattle.session_core.specs.Happening.{level_reply}
use Rattle.spec_sessions.specs.World.{World}
use Rattle.spec_registry.specs.Subject.{is_subject}
use Rattle.spec_registry.specs.declared.limits.TheConstants.{MOST_LEVELS}

-- ---- a registration

abbrev pub IsId : Reply → Type 0
IsId reply = (id : ℕ) × (reply ≡ IdReply id)

same-reply : (one other : Reply) → ◌≡◌ {A = Result Reply Refusal} (Ok one) (Ok other) → one ≡ other
same-reply one other e = cc

no-reply : (reply : Reply) (refusal : Refusal) → ◌≡◌ {A = Result Reply Refusal} (Ok reply) (Err refusal) → ⊥
no-reply reply refusal e = cc

where-true-is : (b : Bool) (refusal : Refusal) (answer : Answer) (reply : Reply) → IsAnswer (where_true b refusal answer) (Ok reply) → IsAnswer answer (Ok reply)
where-true-is true refusal answer reply a = a
where-true-is false refusal answer reply a = absurd (no-reply reply refusal a)

-- a text that is too long is refused as that
pub long-refused : (lists : Lists) (s text : List ℕ) → is_subject s ≡ true → MOST_TEXT < length text → IsAnswer (answer_to lists (RegisterCommand s text)) (Err (BadSchema TooLarge))
long-refused lists s text named long = let is : declaration_of text ≡ Err TooLarge = ap (declared_as text) (too-large text long) in rw (named, is) refl

id-unless-full : (b : Bool) (id : ℕ) (reply : Reply) → ◌≡◌ {A = Result Reply Refusal} (Ok reply) (if b then Err Full else Ok (IdReply id)) → IsId reply
id-unless-full true id reply e = absurd (no-reply reply Full e)
id-unless-full false id reply e = (id, same-reply reply (IdReply id) e)

module _ (lists : Lists) where
  id-of-new : (subject : List ℕ) (versions : List Entry) (schema : Declaration) (entry : Option Entry) (reply : Reply) → IsAnswer (register_answer lists subject versions schema entry) (Ok reply) → IsId reply
  id-of-new subject versions schema (Some e) reply a = (e.id, same-reply reply (IdReply e.id) a)
  id-of-new subject versions schema None reply (inl (safe, e)) = id-unless-full (is_full lists schema subject) (id_for schema lists.schemas) reply e
  id-of-new subject versions schema None reply (inr (unsafe, e)) = absurd (cc)

  id-of-declared : (subject : List ℕ) (declared : Result Declaration SchemaError) (reply : Reply) → IsAnswer (where_schema declared (registration lists subject)) (Ok reply) → IsId reply
  id-of-declared subject (Ok schema) reply a =
      id-of-new subject (versions_of subject lists.entries) schema (with_text schema.text lists.schemas (versions_of subject lists.entries)) reply a
  id-of-declared subject (Err e) reply a = absurd (cc)

  -- it is an id
  pub registered-id : (subject text : List ℕ) (reply : Reply) → IsAnswer (answer_to lists (RegisterCommand subject text)) (Ok reply) → IsId reply
  registered-id subject text reply a =
      id-of-declared subject (declaration_of text) reply (where-true-is (is_subject subject) refusals.BadSubject (where_schema (declaration_of text) (registration lists subject)) reply a)

-- ---- a level

level-of : (lists : Lists) (subject : Option (List ℕ)) (level : Level) (reply : Reply) → IsAnswer (set_level_answer lists subject level) (Ok reply) → reply ≡ LevelReply level
level-of lists None level reply a = same-reply reply (LevelReply level) a
level-of lists (Some subject) level reply a = level-unless-full (has_no_room (subjects_with_level lists.levels) subject MOST_LEVELS) level reply a
  where
    level-unless-full : (b : Bool) (level : Level) (reply : Reply) → IsAnswer (if b then Told (Err Full) else Told (Ok (LevelReply level))) (Ok reply) → reply ≡ LevelReply level
    level-unless-full true level reply e = absurd (no-reply reply Full e)
    level-unless-full false level reply e = same-reply reply (LevelReply level) e

-- it is the level
pub set-level : (lists : Lists) (subject : Option (List ℕ)) (level : Level) (reply : Reply) → IsAnswer (answer_to lists (SetLevelCommand subject level)) (Ok reply) → reply ≡ LevelReply level
set-level lists subject level reply a =
    level-of lists subject level reply (where-true-is (is_subject_or_none subject) refusals.BadSubject (set_level_answer lists subject level) reply a)

-- setting it may want memory where it is set for a subject
pub level-grows : (lists : Lists) (subject : Option (List ℕ)) (level : Level) → IsSome subject → answer_to lists (SetLevelCommand subject level) ≡ Told (Ok (LevelReply level)) → Grows lists (SetLevelCommand subject level)
level-grows lists None level some is = absurd (let no : ⊥ = cc in no)
level-grows lists (Some s) level some is = subst IsReply (sym is) tt

-- ---- what happens where a level is set

pub level-happens : (old new : World) (subject : Option (List ℕ)) (level : Level) (c : Command) (answer : Result rust.Reply Refusal) → c ≡ SetLevelCommand subject level → Gives (answer_to (registry_after old.commands) c) answer → OnOk answer (new.commands ≡ old.commands ++ c ∷ []) → OnErr answer (new.commands ≡ old.commands) → IfErr answer (λ e. e ≡ refusals.NoMemory → Grows (registry_after old.commands) c) → new ≡ record old { commands = new.commands }
    → Happens (SetLevel subject level) (level_reply answer) old new
level-happens old new subject level c (Ok reply) is gives ok err memory rest =
    let told = subst (λ (x : Command). IsAnswer (answer_to (registry_after old.commands) x) (Ok (reply_of reply))) is gives in (
      subst (λ (r : Reply). IsAnswer (answer_to (registry_after old.commands) (SetLevelCommand subject level)) (Ok r)) (set-level (registry_after old.commands) subject level (reply_of reply) told) told,
      rest ∙ ap (λ (cs : List Command). record old { commands = cs }) (ok ∙ ap (λ (x : Command). old.commands ++ x ∷ []) is),
    )
level-happens old new subject level c (Err e) is gives ok err memory rest =
    ((λ n. subst (Grows (registry_after old.commands)) is (memory n), λ n. subst (λ (x : Command). IsAnswer (answer_to (registry_after old.commands) x) (Err e)) is (gives n)), rest ∙ ap (λ (cs : List Command). record old { commands = cs }) err)
