-- Replies determine what happened: acts with theirs lead to one session, and events to one world.
use Rattle.std.proofs.Common.{◌≡◌, ◌<◌, ℕ, Bool, true, false, List, [], ◌∷◌, ◌++◌, Option, Some, None, refl, sym, ap, ◌∙◌, subst, inl, inr, slice_get, slice_set, arith}
use Rattle.std.specs.Prelude.{Result, Ok, Err}
use Rattle.std.proofs.Math.Nat.{lt_irrefl}
use Rattle.spec_machine.specs.Program.{Program}
use Rattle.spec_schema.specs.Schema.{Declaration}
use Rattle.spec_machine.specs.Code.{code_of}
use Rattle.spec_registry.specs.Command.{Command, RegisterCommand, SetLevelCommand}
use Rattle.spec_sessions.specs.declared.session_refusal.BreakRefusal.TheVariants as breaks
use Rattle.spec_sessions.specs.declared.session_refusal.PieceRefusal.TheVariants as pieces
use Rattle.spec_sessions.specs.Changes.{Maybe, Surely, break_refusal, clear_refusal, cleared_at, piece_refusal, set_at, with_piece}
use Rattle.spec_sessions.specs.Rows.{TakesRows, go_rows, slice_rows, walk_rows}
use Rattle.spec_sessions.specs.Session.{Session}
use Rattle.spec_sessions.specs.declared.publish_error.PublishError.TheVariants.{Clash, NoMemory, ProgramTooLarge}
use Rattle.spec_sessions.specs.declared.refusal.EventRefusal.{EventRefusal}
use Rattle.spec_sessions.specs.declared.refusal.EventRefusal.TheVariants as refusals
use Rattle.spec_sessions.specs.declared.reply.EventReply.{EventReply}
use Rattle.spec_sessions.specs.declared.reply.EventReply.TheVariants.{Done, Id, Refused, Rows, SessionIs}
use Rattle.spec_sessions.specs.Acts.{Acts, Slices, Takes, of_break, of_clear, of_piece, reply_by, with_session}
use Rattle.spec_sessions.specs.Event.{Act, Begin, Break, Clear, Event, Finish, Go, On, Piece, Publish, Refuse, Register, SetLevel, Slice, Steal, Walk}
use Rattle.spec_sessions.specs.Happening.{ActsOn, Begins, Happened, Happens, Publishes, PublishesNew, PublishesPair, Refuses, Registers, Step}
use Rattle.spec_sessions.specs.Isolation.{ActStep, ActsLeadToOne, EventsLeadToOne, Lived}
use Rattle.spec_sessions.specs.World.{Held, Publication, World, program_at, schema_at}

-- ---- one act

no_refusal : (e : EventRefusal) → Done ≡ Refused e → ⊥
no_refusal e told = cc

maybe_one : {E : Type 0} (none : E) (refusal : Option E) (done : Session) (of : E → EventRefusal) (a b : Result (Unit {0}) E) (reply : EventReply) (old one other : Session) → reply ≡ reply_by of a → reply ≡ reply_by of b → Maybe none refusal done a old one → Maybe none refusal done b old other → one ≡ other
maybe_one none refusal done of (Ok u) (Ok v) reply old one other p q m n = m.1 ∙ sym n.1
maybe_one none refusal done of (Ok u) (Err y) reply old one other p q m n = absurd (no_refusal (of y) (sym p ∙ q))
maybe_one none refusal done of (Err x) (Ok v) reply old one other p q m n = absurd (no_refusal (of x) (sym q ∙ p))
maybe_one none refusal done of (Err x) (Err y) reply old one other p q m n = m.1 ∙ sym n.1

surely_one : {E : Type 0} (refusal : Option E) (done : Session) (of : E → EventRefusal) (a b : Result (Unit {0}) E) (reply : EventReply) (old one other : Session) → reply ≡ reply_by of a → reply ≡ reply_by of b → Surely refusal done a old one → Surely refusal done b old other → one ≡ other
surely_one refusal done of (Ok u) (Ok v) reply old one other p q m n = m.1 ∙ sym n.1
surely_one refusal done of (Ok u) (Err y) reply old one other p q m n = absurd (no_refusal (of y) (sym p ∙ q))
surely_one refusal done of (Err x) (Ok v) reply old one other p q m n = absurd (no_refusal (of x) (sym q ∙ p))
surely_one refusal done of (Err x) (Err y) reply old one other p q m n = m.1 ∙ sym n.1

by_session : (old one other : Held) → one.session ≡ other.session → one ≡ with_session one.session old → other ≡ with_session other.session old → one ≡ other
by_session old one other same a b = a ∙ ap (λ (s : Session). with_session s old) same ∙ sym b

rows_one : (all rows : ℕ) (old one other : Session) → TakesRows all old rows one → TakesRows all old rows other → one ≡ other
rows_one all rows old one other (inl (e, a)) (inl (f, b)) = a ∙ sym b
rows_one all rows old one other (inl (e, a)) (inr (lt, b, w)) = absurd (lt_irrefl rows (omega (arith, e, lt)))
rows_one all rows old one other (inr (lt, a, w)) (inl (f, b)) = absurd (lt_irrefl rows (omega (arith, f, lt)))
rows_one all rows old one other (inr (lt, a, w)) (inr (mt, b, v)) = a ∙ sym b

takes_one : (all : ℕ) (reply : EventReply) (old one other : Held) → Takes all reply old one → Takes all reply old other → one ≡ other
takes_one all (Rows rows) old one other a b = by_session old one other (rows_one all rows old.session one.session other.session a.0 b.0) a.1 b.1
takes_one all reply old one other a b = absurd a

slices_one : (worker k : ℕ) (reply : EventReply) (old one other : Held) → Slices worker k reply old one → Slices worker k reply old other → one ≡ other
slices_one worker k (Refused refusals.NotHeld) old one other a b = a.1 ∙ sym b.1
slices_one worker k reply old one other a b = takes_one (slice_rows k old.session) reply old one other a.1 b.1

acts_one : (act : Act) (reply : EventReply) (old one other : Held) → Acts act reply old one → Acts act reply old other → one ≡ other
acts_one (Piece bytes) reply old one other (a, p, m, i, s) (b, q, n, j, t) =
    by_session old one other (maybe_one pieces.NoMemory (piece_refusal bytes old.session) (with_piece bytes old.session) of_piece a b reply old.session one.session other.session p q m n) s t
acts_one Finish reply old one other a b = a.1 ∙ sym b.1
acts_one (Slice worker k) reply old one other a b = slices_one worker k reply old one other a b
acts_one (Steal worker) reply old one other a b = a.1 ∙ sym b.1
acts_one (Break address) reply old one other (a, p, m, i, s) (b, q, n, j, t) =
    by_session old one other (maybe_one breaks.NoMemory (break_refusal address old.session) (set_at address old.session) of_break a b reply old.session one.session other.session p q m n) s t
acts_one (Clear address) reply old one other (a, p, m, s) (b, q, n, t) =
    by_session old one other (surely_one (clear_refusal address old.session) (cleared_at address old.session) of_clear a b reply old.session one.session other.session p q m n) s t
acts_one (Walk n) reply old one other a b = takes_one (walk_rows n old.session) reply old one other a b
acts_one (Go n) reply old one other a b = takes_one (go_rows n old.session) reply old one other a b
acts_one Refuse reply old one other a b = a.1 ∙ sym b.1

pub acts_lead_to_one : ActsLeadToOne
acts_lead_to_one [] old one other a b = a ∙ sym b
acts_lead_to_one (step ∷ steps) old one other a b =
    let same = acts_one step.act step.reply old a.0 b.0 a.1 b.1 in
    acts_lead_to_one steps a.0 one other a.2 (subst (λ (next : Held). Lived steps next other) (sym same) b.2)

-- ---- one event

same_program : (o : Option Program) (P Q : Program) → o ≡ Some P → o ≡ Some Q → P ≡ Q
same_program o P Q p q = cc

module _ (old one other : World) where
  refuses_one : (c : Command) (reply : EventReply) → Refuses c reply old one → Refuses c reply old other → one ≡ other
  refuses_one c (Refused (refusals.OfRegistry e)) a b = a.1 ∙ sym b.1
  refuses_one c reply a b = absurd a

  registers_one : (c : Command) (reply : EventReply) → Registers c reply old one → Registers c reply old other → one ≡ other
  registers_one c (Id id) a b = a.1 ∙ sym b.1
  registers_one c Done a b = refuses_one c Done a b
  registers_one c (SessionIs n) a b = refuses_one c (SessionIs n) a b
  registers_one c (Rows n) a b = refuses_one c (Rows n) a b
  registers_one c (Refused r) a b = refuses_one c (Refused r) a b

  publishes_new_one : (w r : ℕ) (written read : Declaration) (reply : EventReply) → PublishesNew w r written read reply old one → PublishesNew w r written read reply old other → one ≡ other
  publishes_new_one w r written read Done a b =
      a.2 ∙ ap (λ (P : Program). record old { published = old.published ++ record { writer = w; reader = r; program = P } ∷ [] })
      (same_program (code_of written.nodes read.nodes) a.0 b.0 a.1 b.1) ∙ sym b.2
  publishes_new_one w r written read (Refused (refusals.OfPublication ProgramTooLarge)) a b = a.1 ∙ sym b.1
  publishes_new_one w r written read (Refused (refusals.OfPublication Clash)) a b = a ∙ sym b
  publishes_new_one w r written read (Refused (refusals.OfPublication NoMemory)) a b = a ∙ sym b
  publishes_new_one w r written read reply a b = absurd a

  publishes_pair_one : (o : Option Program) (w r : ℕ) (written read : Declaration) (reply : EventReply) → PublishesPair o w r written read reply old one → PublishesPair o w r written read reply old other → one ≡ other
  publishes_pair_one (Some P) w r written read reply a b = a.1 ∙ sym b.1
  publishes_pair_one None w r written read reply a b = publishes_new_one w r written read reply a b

  publishes_one : (o p : Option Declaration) (w r : ℕ) (reply : EventReply) → Publishes o p w r reply old one → Publishes o p w r reply old other → one ≡ other
  publishes_one (Some written) (Some read) w r reply a b = publishes_pair_one (program_at w r old) w r written read reply a b
  publishes_one (Some written) None w r reply a b = a.1 ∙ sym b.1
  publishes_one None p w r reply a b = a.1 ∙ sym b.1

  begins_one : (o : Option Program) (w r : ℕ) (reply : EventReply) → Begins o w r reply old one → Begins o w r reply old other → one ≡ other
  begins_one (Some P) w r (SessionIs n) a b = a.1 ∙ sym b.1
  begins_one (Some P) w r (Refused refusals.NoMemory) a b = a ∙ sym b
  begins_one (Some P) w r reply a b = absurd a
  begins_one None w r reply a b = a.1 ∙ sym b.1

  acts_on_one : (o : Option Held) (s : ℕ) (act : Act) (reply : EventReply) → ActsOn o s act reply old one → ActsOn o s act reply old other → one ≡ other
  acts_on_one (Some held) s act reply a b =
      a.2 ∙ ap (λ (h : Held). record old { sessions = slice_set old.sessions s h }) (acts_one act reply held a.0 b.0 a.1 b.1) ∙ sym b.2
  acts_on_one None s act reply a b = a.1 ∙ sym b.1

  happens_one : (event : Event) (reply : EventReply) → Happens event reply old one → Happens event reply old other → one ≡ other
  happens_one (Register subject text) reply a b = registers_one (RegisterCommand subject text) reply a b
  happens_one (SetLevel subject level) Done a b = a.1 ∙ sym b.1
  happens_one (SetLevel subject level) (Id id) a b = refuses_one (SetLevelCommand subject level) (Id id) a b
  happens_one (SetLevel subject level) (SessionIs n) a b = refuses_one (SetLevelCommand subject level) (SessionIs n) a b
  happens_one (SetLevel subject level) (Rows n) a b = refuses_one (SetLevelCommand subject level) (Rows n) a b
  happens_one (SetLevel subject level) (Refused r) a b = refuses_one (SetLevelCommand subject level) (Refused r) a b
  happens_one (Publish w r) reply a b = publishes_one (schema_at w old) (schema_at r old) w r reply a b
  happens_one (Begin w r) reply a b = begins_one (program_at w r old) w r reply a b
  happens_one (On s act) reply a b = acts_on_one (slice_get old.sessions s) s act reply a b

pub events_lead_to_one : EventsLeadToOne
events_lead_to_one [] old one other a b = a ∙ sym b
events_lead_to_one (step ∷ steps) old one other a b =
    let same = happens_one old a.0 b.0 step.event step.reply a.1 b.1 in
    events_lead_to_one steps a.0 one other a.2 (subst (λ (next : World). Happened steps next other) (sym same) b.2)
