use Rattle.std.proofs.Common.{◌≡◌, ◌<◌, ◌∙◌, ℕ, List, false, length, sym, ap, subst, arith}
use Rattle.spec_machine.specs.Program.{Program}
use Rattle.spec_sessions.specs.declared.limits.TheConstants.{MOST_BREAKS}
use Rattle.spec_sessions.specs.Session.{has_break}
use Rattle.session_core.proofs.Breaks.{set_kept}
use Rattle.session_core.proofs.session.Session.set_break.Goals as goal

pub invariant_of-self-2 : goal.invariant_of-self-2
invariant_of-self-2 c =
    let run = c.self.inside.run in
    let breaks = c.self.inside.breaks.items in
    let there = subst (λ (P : Program). c.args.address < length P.code) c.program.ensures (omega (arith, c.if-address-len.false, c.len.ensures)) in
    let none = subst (λ (xs : List ℕ). has_break c.args.address xs ≡ false) c.deref.ensures.value (sym c.is_set.ensures ∙ c.if-is_set.false) in
    let size = sym (ap length c.deref.ensures.value) ∙ c.deref.ensures.len in
    let few : length breaks < MOST_BREAKS = omega (arith, size, c.len-2.ensures, c.if-len-ge-MOST_BREAKS.false) in
    set_kept _ run.machine.state c.args.address c.push.new.self.items c.self.invariant there none few c.in_ok-push.ensures.items
