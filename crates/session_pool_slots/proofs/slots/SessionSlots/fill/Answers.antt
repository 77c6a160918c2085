use Rattle.std.proofs.Common.{arith, refl, ap, sym, subst, ◌∙◌}
use Rattle.spec_sessions.specs.Session.{Session, begun}
use Rattle.session_pool_slots.specs.Words.{IsWordOf, ready}
use Rattle.session_pool_slots.specs.Steps.{new_pass}
use Rattle.session_pool_slots.specs.Account.{has_ended, opened}
use Rattle.session_pool_slots.specs.Kinds.{Seat}
use Rattle.session_pool_slots.specs.Known.{pass_of}
use Rattle.session_pool_slots.proofs.Leaving.{begun_goes_on, goes_on}
use Rattle.session_pool_slots.proofs.slots.SessionSlots.fill.Goals as goal

pub give_back-requires-clause-pass : goal.give_back-requires-clause-pass
give_back-requires-clause-pass c = let h = c.requires.claimed in let new = begun c.args.program.now in let e = c.renewed-session.ensures in record {
  pass = new_pass (opened new) new;
  session = new;
  inside = h.inside;
  there = ap (λ (m : Seat). pass_of c.args.slot m.0) c.exchange-kept.ensures.3 ∙ h.pass;
  out = refl;
  holds = (record { program = ap (λ (s : Session). s.program) e; count = ap (λ (s : Session). s.count) e; memory = ap (λ (s : Session). s.out_of_memory) e }, omega arith);
}

pub give_back-requires-clause-word : goal.give_back-requires-clause-word
give_back-requires-clause-word c = let P = c.args.program.now in
    subst (λ (s : Session). IsWordOf (has_ended s) ready) (sym c.renewed-session.ensures) (goes_on (has_ended (begun P)) ready (omega arith) (omega arith) (begun_goes_on P))
