use Rattle.std.proofs.Common.{rules, ◌≡◌, ℕ, [], None, subst, sym, ap}
use Rattle.spec_sessions.specs.Session.{Session}
use Rattle.session_core.specs.SessionEnding.{EndsInOneSlice}
use Rattle.spec_sessions.specs.Rows.{TakesRows, slice_rows}
use Rattle.session_core.specs.Stopping.{IsStopped}
use Rattle.session_pool_slots.specs.Words.{IsWordOf}
use Rattle.session_pool_slots.proofs.Calls.{has_first, lifted, put_in, put_twice, returned_now}
use Rattle.session_pool_slots.proofs.Keeping.{returns_it_at}
use Rattle.session_pool_slots.specs.Account.{At, RowsOn, has_ended}
use Rattle.session_pool_slots.specs.Kinds.{Seat}
use Rattle.session_pool_slots.proofs.Accounts.{rows_fit}
use Rattle.session_pool_slots.proofs.Stops.{stop_word}
use Rattle.session_pool_slots.proofs.slots.SessionSlots.run.Goals as goal

pub store-requires : goal.store-requires
store-requires c = let h = c.requires.note in let m = c.args.seat.now.seat.me in let s = c.slice-slice in let x = s.new.self in
    let e = put_twice m c.exchange.new.seat.me c.exchange-2.new.seat.me _ _ _ _ h.holds c.exchange.ensures.3 c.exchange-2.ensures.3 in
    let same : c.unwrap-session.result ≡ h.session = lifted _ _ _ _ _ _ _ h.holds c.exchange.ensures.2 c.unwrap-session.ensures in
    let on : RowsOn h.session x = (slice_rows c.args.limit c.unwrap-session.result, s.result.rows, subst (λ (z : Session). TakesRows (slice_rows c.args.limit c.unwrap-session.result) z s.result.rows x) same s.ensures.rows) in
    let word : IsWordOf (has_ended x) c.word_after_slice-word.result = subst (λ (z : ℕ). IsWordOf (has_ended x) z) (sym c.word_after_slice-word.ensures) (stop_word _ _ _ x s.result.stopped s.ensures.stopped) in (
      search rules,
      search rules,
      returns_it_at At has_ended RowsOn _ _ _ m.0 _ _ h.session x [] e h.inside h.note (rows_fit h.session x on) on word,
    )

pub returns-clause-seat : goal.returns-clause-seat
returns-clause-seat c = let h = c.requires.note in let m = c.args.seat.now.seat.me in
    let e = put_twice m c.exchange.new.seat.me c.exchange-2.new.seat.me _ _ _ _ h.holds c.exchange.ensures.3 c.exchange-2.ensures.3 in
    (search rules, (returned_now RowsOn _ _ m.0 _ c.word_after_slice-word.result h.session c.slice-slice.new.self e h.note c.store.ensures.2).holds)

pub returns-clause-ran : goal.returns-clause-ran
returns-clause-ran c = let h = c.requires.note in let m = c.args.seat.now.seat.me in let s = c.slice-slice in let x = s.new.self in
    let e = put_twice m c.exchange.new.seat.me c.exchange-2.new.seat.me _ _ _ _ h.holds c.exchange.ensures.3 c.exchange-2.ensures.3 in
    let same : c.unwrap-session.result ≡ h.session = lifted _ _ _ _ _ _ _ h.holds c.exchange.ensures.2 c.unwrap-session.ensures in
    let r = returned_now RowsOn _ _ m.0 _ c.word_after_slice-word.result h.session x e h.note c.store.ensures.2 in record {
      before = h.session;
      after = x;
      stopped = s.result.stopped;
      handed = r.handed;
      takes = subst (λ (z : Session). TakesRows (slice_rows c.args.limit z) z s.result.rows x) same s.ensures.rows;
      most = s.ensures.most;
      why = subst (λ (z : Session). IsStopped z.breaks c.args.limit s.result.rows s.result.stopped x) same s.ensures.stopped;
      ends = subst (λ (z : Session). EndsInOneSlice c.args.limit z x) same s.ensures.ends;
      word = c.word_after_slice-word.ensures;
      found = r.found;
      passes = r.passes;
    }

pub exchange-requires-2 : goal.exchange-requires-2
exchange-requires-2 c = let h = c.requires.note in
    let e = put_in c.args.seat.now.seat.me c.exchange.new.seat.me _ _ None [] h.holds c.exchange.ensures.3 in
    (search rules, (None, has_first _ _ _ (ap (λ (m : Seat). m.1) e)))
