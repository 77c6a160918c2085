-- What happens to a session leaves its pair and its program.
use Rattle.std.proofs.Common.{◌≡◌, ℕ, zero, suc, [], ◌∷◌, Bool, true, false, List, Option, Some, None, refl, sym, ap, ◌∙◌, subst, inl, inr}
use Rattle.std.specs.Prelude.{if◌then◌else◌, is_some, slice_get, slice_set, Result, Ok, Err}
use Rattle.std.specs.List.{AllByRecursion}
use Rattle.spec_sessions.specs.declared.session_refusal.BreakRefusal.TheVariants as breaks
use Rattle.spec_sessions.specs.declared.session_refusal.PieceRefusal.TheVariants as pieces
use Rattle.spec_sessions.specs.Changes.{Maybe, Surely, break_refusal, clear_refusal, cleared_at, finished, piece_refusal, refused, set_at, with_piece}
use Rattle.session_core.specs.SessionEnding.{SessionLeadsToOutcome}
use Rattle.spec_sessions.specs.Rows.{TakesRows, go_rows, slice_rows, walk_rows}
use Rattle.spec_sessions.specs.Session.{Session, end_in}
use Rattle.spec_registry.specs.Command.{Command}
use Rattle.spec_sessions.specs.declared.reply.EventReply.{EventReply}
use Rattle.spec_sessions.specs.declared.reply.EventReply.TheVariants.{Done, Refused, Rows}
use Rattle.spec_sessions.specs.declared.refusal.EventRefusal.TheVariants.{NotHeld}
use Rattle.spec_sessions.specs.Acts.{Acts, Slices, Takes, with_session}
use Rattle.spec_sessions.specs.Event.{Act, Break, Clear, Finish, Go, Piece, Refuse, Slice, Steal, Walk}
use Rattle.spec_schema.specs.Schema.{Declaration}
use Rattle.spec_avro.specs.Node.{Node}
use Rattle.session_core.specs.Ending.{EndsWithOutcome}
use Rattle.session_core.specs.Kept.{IsKept, IsSession}
use Rattle.spec_sessions.specs.World.{Held, World, schema_after}
use Rattle.session_core.specs.World.{IsCodeOf}
use Rattle.session_core.proofs.Worlds.{code-of-found, ends-with-outcome}

-- of the same pair, with the same program
pub record SamePair (old new : Held) : Type 0 where
  pub writer : new.writer ≡ old.writer
  pub reader : new.reader ≡ old.reader
  pub program : new.session.program ≡ old.session.program

by-session : (old new : Held) (done : Session) → done.program ≡ old.session.program → new ≡ with_session done old → SamePair old new
by-session old new done same e = record {
  writer = ap (λ (h : Held). h.writer) e;
  reader = ap (λ (h : Held). h.reader) e;
  program = ap (λ (h : Held). h.session.program) e ∙ same;
}

unchanged : (old new : Held) → new ≡ old → SamePair old new
unchanged old new e = record {
  writer = ap (λ (h : Held). h.writer) e;
  reader = ap (λ (h : Held). h.reader) e;
  program = ap (λ (h : Held). h.session.program) e;
}

stolen : (worker : ℕ) (old new : Held) → new ≡ record old { holder = worker } → SamePair old new
stolen worker old new e = record {
  writer = ap (λ (h : Held). h.writer) e;
  reader = ap (λ (h : Held). h.reader) e;
  program = ap (λ (h : Held). h.session.program) e;
}

surely-same : {E : Type 0} (refusal : Option E) (done : Session) (result : Result (Unit {0}) E) (old new : Session) → done.program ≡ old.program → Surely refusal done result old new → new.program ≡ old.program
surely-same refusal done (Ok u) old new same s = ap (λ (x : Session). x.program) s.1 ∙ same
surely-same refusal done (Err e) old new same s = ap (λ (x : Session). x.program) s.1

maybe-same : {E : Type 0} (none : E) (refusal : Option E) (done : Session) (result : Result (Unit {0}) E) (old new : Session) → done.program ≡ old.program → Maybe none refusal done result old new → new.program ≡ old.program
maybe-same none refusal done (Ok u) old new same s = ap (λ (x : Session). x.program) s.1 ∙ same
maybe-same none refusal done (Err e) old new same s = ap (λ (x : Session). x.program) s.1

rows-same : (all rows : ℕ) (old new : Session) → TakesRows all old rows new → new.program ≡ old.program
rows-same all rows old new (inl (e, same)) = ap (λ (s : Session). s.program) same
rows-same all rows old new (inr (lt, same, wants)) = ap (λ (s : Session). s.program) same

takes-same : (all : ℕ) (reply : EventReply) (old new : Held) → Takes all reply old new → SamePair old new
takes-same all (Rows rows) old new t = by-session old new new.session (rows-same all rows old.session new.session t.0) t.1
takes-same all reply old new t = absurd t

slices-same : (worker k : ℕ) (reply : EventReply) (old new : Held) → Slices worker k reply old new → SamePair old new
slices-same worker k (Refused NotHeld) old new s = unchanged old new s.1
slices-same worker k reply old new s = takes-same (slice_rows k old.session) reply old new s.1

refused-same : (b : Bool) (s : Session) → (if b then s else record s { out_of_memory = true }).program ≡ s.program
refused-same true s = refl
refused-same false s = refl

pub acts-same : (act : Act) (reply : EventReply) (old new : Held) → Acts act reply old new → SamePair old new
acts-same (Piece bytes) reply old new (done, told, maybe, memory, same) =
    by-session old new new.session (maybe-same pieces.NoMemory (piece_refusal bytes old.session) (with_piece bytes old.session) done old.session new.session refl maybe) same
acts-same Finish reply old new a = by-session old new (finished old.session) refl a.1
acts-same (Slice worker k) reply old new a = slices-same worker k reply old new a
acts-same (Steal worker) reply old new a = stolen worker old new a.1
acts-same (Break address) reply old new (done, told, maybe, memory, same) =
    by-session old new new.session (maybe-same breaks.NoMemory (break_refusal address old.session) (set_at address old.session) done old.session new.session refl maybe) same
acts-same (Clear address) reply old new (done, told, surely, same) =
    by-session old new new.session (surely-same (clear_refusal address old.session) (cleared_at address old.session) done old.session new.session refl surely) same
acts-same (Walk n) reply old new a = takes-same (walk_rows n old.session) reply old new a
acts-same (Go n) reply old new a = takes-same (go_rows n old.session) reply old new a
acts-same Refuse reply old new a = by-session old new (refused old.session) (refused-same (is_some (end_in old.session)) old.session) a.1

-- so its program is still that of its pair
pub acts-keep : (cs : List Command) (act : Act) (reply : EventReply) (old new : Held) → Acts act reply old new → IsSession cs old → IsSession cs new
acts-keep cs act reply old new a is =
    let same = acts-same act reply old new a in
    subst (λ (w : ℕ). IsCodeOf cs w new.reader new.session.program) (sym same.writer)
    (subst (λ (r : ℕ). IsCodeOf cs old.writer r new.session.program) (sym same.reader)
    (subst (IsCodeOf cs old.writer old.reader) (sym same.program) is))

-- ---- among the others

all-set : {X : Type 0} (P : X → Type 0) (xs : List X) (i : ℕ) (x : X) → AllByRecursion P xs → P x → AllByRecursion P (slice_set xs i x)
all-set P [] i x all p = all
all-set P (y ∷ ys) zero x all p = (p, all.1)
all-set P (y ∷ ys) (suc i) x all p = (all.0, all-set P ys i x all.1 p)

all-at : {X : Type 0} (P : X → Type 0) (xs : List X) (i : ℕ) (x : X) → AllByRecursion P xs → slice_get xs i ≡ Some x → P x
all-at P [] i x all e = absurd (cc)
all-at P (y ∷ ys) zero x all e = subst P (same_Some y x e) all.0
  where
    same_Some : {X : Type 0} (x y : X) → Some x ≡ Some y → x ≡ y
    same_Some x y e = cc
all-at P (y ∷ ys) (suc i) x all e = all-at P ys i x all.1 e

pub session-at : (world : World) (s : ℕ) (held : Held) → IsKept world → slice_get world.sessions s ≡ Some held → IsSession world.commands held
session-at world s held kept e = all-at (IsSession world.commands) world.sessions s held kept.sessions e

-- ---- how a session ends

pub same-held : (found : Option Held) (one other : Held) → found ≡ Some one → found ≡ Some other → one ≡ other
same-held found one other a b = cc

pub ends-for : (world : World) (one held : Held) (s : ℕ) (w r : Declaration) (W R : List Node) → IsKept world → slice_get world.sessions s ≡ Some held → one ≡ held → schema_after world.commands one.writer ≡ Some w → schema_after world.commands one.reader ≡ Some r → W ≡ w.nodes → R ≡ r.nodes
    → SessionLeadsToOutcome W R one.session → EndsWithOutcome world held
ends-for world one held s w r W R kept at same w-is r-is W-is R-is leads =
    let code = code-of-found world.commands one.writer one.reader one.session.program w r (subst (IsSession world.commands) (sym same) (session-at world s held kept at)) w-is r-is in
    let leads_ = subst (λ (x : List Node). SessionLeadsToOutcome x r.nodes one.session) W-is (subst (λ (x : List Node). SessionLeadsToOutcome W x one.session) R-is leads) in
    subst (EndsWithOutcome world) same (ends-with-outcome world one w r w-is r-is code leads_)
