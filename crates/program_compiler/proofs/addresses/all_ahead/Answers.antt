-- One address more, one that is too large, and none left.
use Rattle.std.proofs.Common.{◌≡◌, ◌∙◌, ◌+◌, ◌++◌, ◌∷◌, [], sym, ap, map, append-nil, rules, get_or}
use Rattle.std.proofs.Math.ListN.{drop_of_length-le}
use Rattle.program_compiler.proofs.Jumps.{get_same, address_on, address_wide, at_none}
use Rattle.program_compiler.proofs.Linked.{at_some}
use Rattle.program_compiler.proofs.addresses.all_ahead.Goals as goal

pub returns : goal.returns
returns c =
    let fars = c.args.fars.now in
    let a = c.loop-index.addresses.items in
    sym (append-nil a) ∙ ap (λ l. a ++ map (λ f. c.args.pc + f) l) (sym (drop_of_length-le fars c.loop-index-test.false)) ∙ c.loop-index.invariant

pub returns-in-None : goal.returns-in-None
returns-in-None c = address_wide c.args.pc c.args.fars.now c.loop-index.index (get_or c.args.fars.now c.loop-index.index 0) _ _ c.loop-index-test.true (get_same c.args.fars.now c.loop-index.index 0 _ c.loop-index-test.true) (at_none _ _ _ c.in-None.is c.ahead.ensures) c.loop-index.invariant

pub loop-index-preserved : goal.loop-index-preserved
loop-index-preserved c =
    let at = at_some _ _ _ _ c.in-Some.is c.ahead.ensures in
    let items : c.push.new.self.items ≡ c.loop-index.addresses.items ++ c.in-Some.address ∷ [] = search rules in
    address_on c.args.pc c.args.fars.now c.loop-index.index (get_or c.args.fars.now c.loop-index.index 0) _ _ _ _ c.loop-index-test.true (get_same c.args.fars.now c.loop-index.index 0 _ c.loop-index-test.true) at items c.loop-index.invariant
