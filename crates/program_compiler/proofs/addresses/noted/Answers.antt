-- The addresses of a branch.
use Rattle.std.proofs.Common.{◌≡◌, ◌∙◌, ◌+◌, ℕ, List, ap, map, subst}
use Rattle.program_compiler.specs.Parts.{IsWide}
use Rattle.program_compiler.proofs.Jumps.{at_none, branch_on, branch_wide}
use Rattle.program_compiler.proofs.Linked.{at_some}
use Rattle.program_compiler.proofs.addresses.noted.Goals as goal

pub returns-in_ok-push-in-Some : goal.returns-in_ok-push-in-Some
returns-in_ok-push-in-Some c = λ W R.
    let same : c.in-Some.addresses.items ≡ map (λ f. c.args.pc + f) c.deref.result.now = at_some _ _ _ _ c.in-Some.is c.in_ok-addresses-in-Branch.ensures in
    branch_on c.args.pc W R c.args.statement.now c.in-Branch.fars c.args.jumps _ c.as_slice.result.now c.in-Branch.is (c.as_slice.ensures.value ∙ same ∙ ap (map (λ f. c.args.pc + f)) c.deref.ensures.value) c.in_ok-push-in-Some.ensures.pushed

pub returns-in-None : goal.returns-in-None
returns-in-None c = λ W R. branch_wide c.args.pc W R c.args.statement.now _ c.in-Branch.is (subst (λ (fs : List ℕ). IsWide (map (λ f. c.args.pc + f) fs)) c.deref.ensures.value (at_none _ _ _ c.in-None.is c.in_ok-addresses-in-Branch.ensures))
