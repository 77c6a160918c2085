-- A session is what its own accepted acts make of it.
use Rattle.std.proofs.Common.{◌≡◌, ℕ, zero, suc, Bool, true, false, List, [], ◌∷◌, ◌++◌, length, Option, Some, None, refl, sym, ap, ◌∙◌, subst, inl, inr, slice_get, slice_set, arith}
use Rattle.std.specs.Prelude.{◌==◌, if◌then◌else◌, Result, Ok, Err}
use Rattle.spec_machine.specs.Program.{Program}
use Rattle.spec_schema.specs.Schema.{Declaration}
use Rattle.spec_registry.specs.Command.{Command, RegisterCommand, SetLevelCommand}
use Rattle.spec_registry.specs.Reply as replies
use Rattle.schema_registry.specs.Reply as replies_here
use Rattle.spec_sessions.specs.declared.session_refusal.BreakRefusal.TheVariants as breaks
use Rattle.spec_sessions.specs.declared.session_refusal.PieceRefusal.TheVariants as pieces
use Rattle.spec_sessions.specs.Changes.{Maybe, Surely, break_refusal, clear_refusal, cleared_at, piece_refusal, set_at, with_piece}
use Rattle.spec_sessions.specs.Session.{Session, begun}
use Rattle.spec_sessions.specs.declared.publish_error.PublishError.TheVariants.{Clash, NoMemory, ProgramTooLarge}
use Rattle.spec_sessions.specs.declared.refusal.EventRefusal.{EventRefusal}
use Rattle.spec_sessions.specs.declared.refusal.EventRefusal.TheVariants as refusals
use Rattle.spec_sessions.specs.declared.reply.EventReply.{EventReply}
use Rattle.spec_sessions.specs.declared.reply.EventReply.TheVariants.{Done, Id, Refused, Rows, SessionIs}
use Rattle.spec_sessions.specs.Acts.{Acts, Slices, of_break, of_clear, of_piece, reply_by, with_session}
use Rattle.spec_sessions.specs.Event.{Act, Begin, Break, Clear, Event, Finish, Go, On, Piece, Publish, Refuse, Register, SetLevel, Slice, Steal, Walk}
use Rattle.spec_sessions.specs.Happening.{Accepts, ActsOn, Begins, Happened, Happens, Publishes, PublishesNew, PublishesPair, Refuses, Registers, Step}
use Rattle.spec_sessions.specs.Isolation.{ActStep, HasBegun, IsItsOwn, Lived, SessionsAreTheirOwn, accepted, begun_by, own_act, own_acts}
use Rattle.spec_sessions.specs.World.{Held, World, no_world, program_at, schema_at}
use Rattle.session_core.proofs.ActsKeep.{SamePair, acts-same}

-- ---- what is refused changes nothing

maybe_stays : {E : Type 0} (none : E) (refusal : Option E) (done : Session) (of : E → EventRefusal) (result : Result (Unit {0}) E) (e : EventRefusal) (old new : Held) → Refused e ≡ reply_by of result → Maybe none refusal done result old.session new.session → new ≡ with_session new.session old → new ≡ old
maybe_stays none refusal done of (Ok u) e old new told maybe same = absurd (let no : ⊥ = cc in no)
maybe_stays none refusal done of (Err x) e old new told maybe same = same ∙ ap (λ (s : Session). with_session s old) maybe.1

surely_stays : {E : Type 0} (refusal : Option E) (done : Session) (of : E → EventRefusal) (result : Result (Unit {0}) E) (e : EventRefusal) (old new : Held) → Refused e ≡ reply_by of result → Surely refusal done result old.session new.session → new ≡ with_session new.session old → new ≡ old
surely_stays refusal done of (Ok u) e old new told surely same = absurd (let no : ⊥ = cc in no)
surely_stays refusal done of (Err x) e old new told surely same = same ∙ ap (λ (s : Session). with_session s old) surely.1

refused_slice : (worker k : ℕ) (e : EventRefusal) (old new : Held) → Slices worker k (Refused e) old new → new ≡ old
refused_slice worker k refusals.NotHeld old new s = s.1
refused_slice worker k e old new s = absurd s.1

no_refusal : (e : EventRefusal) → Refused e ≡ Done → ⊥
no_refusal e told = cc

refused_stays : (act : Act) (e : EventRefusal) (old new : Held) → Acts act (Refused e) old new → new ≡ old
refused_stays (Piece bytes) e old new (done, told, maybe, memory, same) =
    maybe_stays pieces.NoMemory (piece_refusal bytes old.session) (with_piece bytes old.session) of_piece done e old new told maybe same
refused_stays Finish e old new a = absurd (no_refusal e a.0)
refused_stays (Slice worker k) e old new a = refused_slice worker k e old new a
refused_stays (Steal worker) e old new a = absurd (no_refusal e a.0)
refused_stays (Break address) e old new (done, told, maybe, memory, same) =
    maybe_stays breaks.NoMemory (break_refusal address old.session) (set_at address old.session) of_break done e old new told maybe same
refused_stays (Clear address) e old new (done, told, surely, same) =
    surely_stays (clear_refusal address old.session) (cleared_at address old.session) of_clear done e old new told surely same
refused_stays (Walk n) e old new a = absurd a
refused_stays (Go n) e old new a = absurd a
refused_stays Refuse e old new a = absurd (no_refusal e a.0)

accepted_lived : (act : Act) (reply : EventReply) (old new : Held) → Acts act reply old new → Lived (accepted act reply) old new
accepted_lived act (Refused e) old new a = refused_stays act e old new a
accepted_lived act reply old new a = (new, a, refl)

lived_both : (xs ys : List ActStep) (old mid new : Held) → Lived xs old mid → Lived ys mid new → Lived (xs ++ ys) old new
lived_both [] ys old mid new one more = subst (λ (h : Held). Lived ys h new) one more
lived_both (x ∷ xs) ys old mid new one more = (one.0, one.1, lived_both xs ys one.0 mid new one.2 more)

-- ---- sessions in a list

get_set : (xs : List Held) (i : ℕ) (x y : Held) → slice_get xs i ≡ Some y → slice_get (slice_set xs i x) i ≡ Some x
get_set [] i x y e = absurd cc
get_set (z ∷ xs) zero x y e = refl
get_set (z ∷ xs) (suc i) x y e = get_set xs i x y e

get_other : (xs : List Held) (i k : ℕ) (x : Held) → (i ≡ k → ⊥) → slice_get (slice_set xs i x) k ≡ slice_get xs k
get_other [] i k x other = refl
get_other (y ∷ xs) zero zero x other = absurd (other refl)
get_other (y ∷ xs) zero (suc k) x other = refl
get_other (y ∷ xs) (suc i) zero x other = refl
get_other (y ∷ xs) (suc i) (suc k) x other = get_other xs i k x (λ e. other (ap suc e))

get_added : (xs : List Held) (i : ℕ) (x y : Held) → slice_get xs i ≡ Some y → slice_get (xs ++ x ∷ []) i ≡ Some y
get_added [] i x y e = absurd cc
get_added (z ∷ xs) zero x y e = e
get_added (z ∷ xs) (suc i) x y e = get_added xs i x y e

-- one that was not there is the one that was added
is_added : (xs : List Held) (i : ℕ) (x y : Held) → slice_get xs i ≡ None → slice_get (xs ++ x ∷ []) i ≡ Some y → (i ≡ length xs) × (y ≡ x)
is_added [] zero x y none some = (refl, cc)
is_added [] (suc i) x y none some = absurd cc
is_added (z ∷ xs) zero x y none some = absurd cc
is_added (z ∷ xs) (suc i) x y none some = let at = is_added xs i x y none some in (ap suc at.0, at.1)

none_some : (o : Option Held) (x : Held) → o ≡ None → o ≡ Some x → ⊥
none_some o x none some = cc

same_some : (o : Option Held) (x y : Held) → o ≡ Some x → o ≡ Some y → x ≡ y
same_some o x y one other = cc

-- ---- events that are no beginning and no act change no session

module _ (old new : World) where
  sessions_are : (x : World) → new ≡ x → new.sessions ≡ x.sessions
  sessions_are x e = ap (λ (y : World). y.sessions) e

  refuses_stay : (c : Command) (reply : EventReply) → Refuses c reply old new → new.sessions ≡ old.sessions
  refuses_stay c (Refused (refusals.OfRegistry e)) h = sessions_are _ h.1
  refuses_stay c reply h = absurd h

  registers_stay : (c : Command) (reply : EventReply) → Registers c reply old new → new.sessions ≡ old.sessions
  registers_stay c (Id id) h = sessions_are _ h.1
  registers_stay c Done h = refuses_stay c Done h
  registers_stay c (SessionIs n) h = refuses_stay c (SessionIs n) h
  registers_stay c (Rows n) h = refuses_stay c (Rows n) h
  registers_stay c (Refused r) h = refuses_stay c (Refused r) h

  publishes_new_stay : (a b : ℕ) (written read : Declaration) (reply : EventReply) → PublishesNew a b written read reply old new → new.sessions ≡ old.sessions
  publishes_new_stay a b written read Done h = sessions_are _ h.2
  publishes_new_stay a b written read (Refused (refusals.OfPublication ProgramTooLarge)) h = sessions_are _ h.1
  publishes_new_stay a b written read (Refused (refusals.OfPublication Clash)) h = sessions_are _ h
  publishes_new_stay a b written read (Refused (refusals.OfPublication NoMemory)) h = sessions_are _ h
  publishes_new_stay a b written read reply h = absurd h

  publishes_pair_stay : (o : Option Program) (a b : ℕ) (written read : Declaration) (reply : EventReply) → PublishesPair o a b written read reply old new → new.sessions ≡ old.sessions
  publishes_pair_stay (Some P) a b written read reply h = sessions_are _ h.1
  publishes_pair_stay None a b written read reply h = publishes_new_stay a b written read reply h

  publishes_stay : (o p : Option Declaration) (a b : ℕ) (reply : EventReply) → Publishes o p a b reply old new → new.sessions ≡ old.sessions
  publishes_stay (Some written) (Some read) a b reply h = publishes_pair_stay (program_at a b old) a b written read reply h
  publishes_stay (Some written) None a b reply h = sessions_are _ h.1
  publishes_stay None p a b reply h = sessions_are _ h.1

-- ---- one event, for a session that is there

abbrev GoesOn : List ActStep → Held → Option Held → Type 0
GoesOn steps held found = (after : Held) × (found ≡ Some after) × Lived steps held after × SamePair held after

same_pair : (held : Held) → SamePair held held
same_pair held = record { writer = refl; reader = refl; program = refl }

module _ (s : ℕ) (old new : World) (held : Held) (there : slice_get old.sessions s ≡ Some held) where
  stays : new.sessions ≡ old.sessions → GoesOn [] held (slice_get new.sessions s)
  stays e = (held, ap (λ (xs : List Held). slice_get xs s) e ∙ there, refl, same_pair held)

  begins_on : (o : Option Program) (a b : ℕ) (reply : EventReply) → Begins o a b reply old new → GoesOn [] held (slice_get new.sessions s)
  begins_on (Some P) a b (SessionIs n) h =
      (held, ap (λ (w : World). slice_get w.sessions s) h.1 ∙ get_added old.sessions s (begun_by a b P) held there, refl, same_pair held)
  begins_on (Some P) a b (Refused refusals.NoMemory) h = stays (sessions_are old new _ h)
  begins_on (Some P) a b reply h = absurd h
  begins_on None a b reply h = stays (sessions_are old new _ h.1)

  own_on : (o : Option Held) (act : Act) (reply : EventReply) → o ≡ Some held → ActsOn o s act reply old new → GoesOn (accepted act reply) held (slice_get new.sessions s)
  own_on (Some one) act reply e h =
      let acted = subst (λ (x : Held). Acts act reply x h.0) (same_some (Some one) one held refl e) h.1 in (
        h.0,
        ap (λ (w : World). slice_get w.sessions s) h.2 ∙ get_set old.sessions s h.0 held there,
        accepted_lived act reply held h.0 acted,
        acts-same act reply held h.0 acted,
      )
  own_on None act reply e h = absurd (none_some None held refl e)

  other_on : (o : Option Held) (t : ℕ) (act : Act) (reply : EventReply) → (t ≡ s → ⊥) → ActsOn o t act reply old new → GoesOn [] held (slice_get new.sessions s)
  other_on (Some one) t act reply other h =
      (held, ap (λ (w : World). slice_get w.sessions s) h.2 ∙ get_other old.sessions t s h.0 other ∙ there, refl, same_pair held)
  other_on None t act reply other h = stays (sessions_are old new _ h.1)

  act_on : (b : Bool) (t : ℕ) (act : Act) (reply : EventReply) → (t == s) ≡ b → Happens (On t act) reply old new → GoesOn (if b then accepted act reply else []) held (slice_get new.sessions s)
  act_on true t act reply e h =
      let same : t ≡ s = grind arith in
      own_on (slice_get old.sessions s) act reply there (subst (λ (i : ℕ). ActsOn (slice_get old.sessions i) i act reply old new) same h)
  act_on false t act reply e h = other_on (slice_get old.sessions t) t act reply (λ (same : t ≡ s). grind arith) h

  event_on : (event : Event) (reply : EventReply) → Happens event reply old new → GoesOn (own_act s event reply) held (slice_get new.sessions s)
  event_on (Register subject text) reply h = stays (registers_stay old new (RegisterCommand subject text) reply h)
  event_on (SetLevel subject level) Done h = stays (sessions_are old new _ h.1)
  event_on (SetLevel subject level) (Id id) h = stays (refuses_stay old new (SetLevelCommand subject level) (Id id) h)
  event_on (SetLevel subject level) (SessionIs n) h = stays (refuses_stay old new (SetLevelCommand subject level) (SessionIs n) h)
  event_on (SetLevel subject level) (Rows n) h = stays (refuses_stay old new (SetLevelCommand subject level) (Rows n) h)
  event_on (SetLevel subject level) (Refused r) h = stays (refuses_stay old new (SetLevelCommand subject level) (Refused r) h)
  event_on (Publish a b) reply h = stays (publishes_stay old new (schema_at a old) (schema_at b old) a b reply h)
  event_on (Begin a b) reply h = begins_on (program_at a b old) a b reply h
  event_on (On t act) reply h = act_on (t == s) t act reply refl h

-- ---- one event, for a session that is not there

abbrev IsBegun : ℕ → Event → EventReply → Held → Type 0
IsBegun s event reply held = (event ≡ Begin held.writer held.reader) × (reply ≡ SessionIs s)
    × (held ≡ begun_by held.writer held.reader held.session.program)

-- it is there then, and has begun; or it is still not there; and nothing was its own act
abbrev Comes : ℕ → Event → EventReply → Option Held → Type 0
Comes s event reply found = (own_act s event reply ≡ []) × ((held : Held) → found ≡ Some held → IsBegun s event reply held)

module _ (s : ℕ) (old new : World) (none : slice_get old.sessions s ≡ None) where
  not_there : (event : Event) (reply : EventReply) → new.sessions ≡ old.sessions → (held : Held) → slice_get new.sessions s ≡ Some held → IsBegun s event reply held
  not_there event reply e held some = absurd (none_some (slice_get new.sessions s) held (ap (λ (xs : List Held). slice_get xs s) e ∙ none) some)

  begins_now : (o : Option Program) (a b : ℕ) (reply : EventReply) → Begins o a b reply old new → (held : Held) → slice_get new.sessions s ≡ Some held → IsBegun s (Begin a b) reply held
  begins_now (Some P) a b (SessionIs n) h held some =
      let at = is_added old.sessions s (begun_by a b P) held none (sym (ap (λ (w : World). slice_get w.sessions s) h.1) ∙ some) in
      subst (IsBegun s (Begin a b) (SessionIs n)) (sym at.1) (refl, ap SessionIs (h.0 ∙ sym at.0), refl)
  begins_now (Some P) a b (Refused refusals.NoMemory) h held some = not_there (Begin a b) (Refused refusals.NoMemory) (sessions_are old new _ h) held some
  begins_now (Some P) a b reply h held some = absurd h
  begins_now None a b reply h held some = not_there (Begin a b) reply (sessions_are old new _ h.1) held some

  absent_own : (o : Option Held) (act : Act) (reply : EventReply) → o ≡ None → ActsOn o s act reply old new → accepted act reply ≡ []
  absent_own (Some one) act reply e h = absurd (none_some (Some one) one e refl)
  absent_own None act reply e h = ap (accepted act) h.0

  absent_other : (o : Option Held) (t : ℕ) (act : Act) (reply : EventReply) → slice_get old.sessions t ≡ o → ActsOn o t act reply old new → slice_get new.sessions s ≡ None
  absent_other (Some one) t act reply e h = ap (λ (w : World). slice_get w.sessions s) h.2 ∙ set_none old.sessions t s h.0 none
    where
      set_none : (xs : List Held) (i k : ℕ) (x : Held) → slice_get xs k ≡ None → slice_get (slice_set xs i x) k ≡ None
      set_none [] i k x n = n
      set_none (y ∷ xs) zero zero x n = absurd cc
      set_none (y ∷ xs) zero (suc k) x n = n
      set_none (y ∷ xs) (suc i) zero x n = n
      set_none (y ∷ xs) (suc i) (suc k) x n = set_none xs i k x n
  absent_other None t act reply e h = ap (λ (w : World). slice_get w.sessions s) h.1 ∙ none

  absent_by : (b : Bool) (t : ℕ) (act : Act) (reply : EventReply) → (t == s) ≡ b → Happens (On t act) reply old new → (if b then accepted act reply else []) ≡ []
  absent_by true t act reply e h =
      let same : t ≡ s = grind arith in
      absent_own (slice_get old.sessions s) act reply none (subst (λ (i : ℕ). ActsOn (slice_get old.sessions i) i act reply old new) same h)
  absent_by false t act reply e h = refl

  event_comes : (event : Event) (reply : EventReply) → Happens event reply old new → Comes s event reply (slice_get new.sessions s)
  event_comes (Register subject text) reply h = (refl, not_there (Register subject text) reply (registers_stay old new (RegisterCommand subject text) reply h))
  event_comes (SetLevel subject level) Done h = (refl, not_there (SetLevel subject level) Done (sessions_are old new _ h.1))
  event_comes (SetLevel subject level) (Id id) h = (refl, not_there (SetLevel subject level) (Id id) (refuses_stay old new (SetLevelCommand subject level) (Id id) h))
  event_comes (SetLevel subject level) (SessionIs n) h = (refl, not_there (SetLevel subject level) (SessionIs n) (refuses_stay old new (SetLevelCommand subject level) (SessionIs n) h))
  event_comes (SetLevel subject level) (Rows n) h = (refl, not_there (SetLevel subject level) (Rows n) (refuses_stay old new (SetLevelCommand subject level) (Rows n) h))
  event_comes (SetLevel subject level) (Refused r) h = (refl, not_there (SetLevel subject level) (Refused r) (refuses_stay old new (SetLevelCommand subject level) (Refused r) h))
  event_comes (Publish a b) reply h = (refl, not_there (Publish a b) reply (publishes_stay old new (schema_at a old) (schema_at b old) a b reply h))
  event_comes (Begin a b) reply h = (refl, begins_now (program_at a b old) a b reply h)
  event_comes (On t act) reply h = (
    absent_by (t == s) t act reply refl h,
    λ held some. absurd (none_some (slice_get new.sessions s) held (absent_other (slice_get old.sessions t) t act reply refl h) some),
  )

-- ---- one after another

lives : (s : ℕ) (steps : List Step) (old new : World) (held : Held) → Happened steps old new → slice_get old.sessions s ≡ Some held → GoesOn (own_acts s steps) held (slice_get new.sessions s)
lives s [] old new held h there = (held, ap (λ (w : World). slice_get w.sessions s) h ∙ there, refl, same_pair held)
lives s (step ∷ steps) old new held h there =
    let first = event_on s old h.0 held there step.event step.reply h.1 in
    let rest = lives s steps h.0 new first.0 h.2 first.1 in (
      rest.0,
      rest.1,
      lived_both (own_act s step.event step.reply) (own_acts s steps) held first.0 rest.0 first.2 rest.2,
      record {
        writer = rest.3.writer ∙ first.3.writer;
        reader = rest.3.reader ∙ first.3.reader;
        program = rest.3.program ∙ first.3.program;
      },
    )

-- what began is what was begun, of the same pair
begun_as : (s : ℕ) (steps : List Step) (one held : Held) → one ≡ begun_by one.writer one.reader one.session.program → SamePair one held → Lived (own_acts s steps) one held
    → Lived (own_acts s steps) (begun_by held.writer held.reader held.session.program) held
begun_as s steps one held is same lived =
    subst (λ (from : Held). Lived (own_acts s steps) from held)
    (is ∙ ap (λ (w : ℕ). begun_by w one.reader one.session.program) (sym same.writer)
    ∙ ap (λ (r : ℕ). begun_by held.writer r one.session.program) (sym same.reader)
    ∙ ap (begun_by held.writer held.reader) (sym same.program)) lived

born_by : (s : ℕ) (step : Step) (steps : List Step) (old next new : World) (held : Held) → Happens step.event step.reply old next → Happened steps next new → slice_get old.sessions s ≡ None → slice_get new.sessions s ≡ Some held
    → (slice_get next.sessions s ≡ None → IsItsOwn s steps held) → (o : Option Held) → slice_get next.sessions s ≡ o → IsItsOwn s (step ∷ steps) held
born_by s step steps old next new held h more none there rest None e =
    let comes = event_comes s old next none step.event step.reply h in
    let later = rest e in
    record {
      began = inr later.began;
      lived = subst (λ (first : List ActStep). Lived (first ++ own_acts s steps) (begun_by held.writer held.reader held.session.program) held) (sym comes.0) later.lived;
    }
born_by s step steps old next new held h more none there rest (Some one) e =
    let comes = event_comes s old next none step.event step.reply h in
    let begun_one = comes.1 one e in
    let on = lives s steps next new one more e in
    let same : on.0 ≡ held = same_some (slice_get new.sessions s) on.0 held on.1 there in
    let pair = subst (SamePair one) same on.3 in
    let lived = begun_as s steps one held begun_one.2 pair (subst (Lived (own_acts s steps) one) same on.2) in
    record {
      began = inl (begun_one.0 ∙ ap (λ (w : ℕ). Begin w one.reader) (sym pair.writer) ∙ ap (Begin held.writer) (sym pair.reader), begun_one.1);
      lived = subst (λ (first : List ActStep). Lived (first ++ own_acts s steps) (begun_by held.writer held.reader held.session.program) held) (sym comes.0) lived;
    }

born : (s : ℕ) (steps : List Step) (old new : World) (held : Held) → Happened steps old new → slice_get old.sessions s ≡ None → slice_get new.sessions s ≡ Some held → IsItsOwn s steps held
born s [] old new held h none there = absurd (none_some (slice_get new.sessions s) held (ap (λ (w : World). slice_get w.sessions s) h ∙ none) there)
born s (step ∷ steps) old new held h none there =
    born_by s step steps old h.0 new held h.1 h.2 none there (λ none_next. born s steps h.0 new held h.2 none_next there) (slice_get h.0.sessions s) refl

pub sessions_are_their_own : SessionsAreTheirOwn
sessions_are_their_own steps world h s held there = born s steps no_world world held h refl there
