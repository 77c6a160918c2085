use Rattle.persistent_exchange.proofs.Turning.{turned_answered, turned_unanswered}
use Rattle.persistent_exchange.proofs.scout.Scout.turn.Goals as goal

pub returns-in_ok-is_taken-2-clause-ok : goal.returns-in_ok-is_taken-2-clause-ok
returns-in_ok-is_taken-2-clause-ok c =
    turned_answered _ c.args.self.now c.self.view_is c.write_response-answered.new.self _ _ c.write_response-answered.result _
    c.in_ok-is_taken.ensures.taken c.write_response-answered.ensures.outcome c.if-branch.true
    c.write_response-answered.ensures.next c.write_end.new.self _ _ c.write_end.result c.write_end.ensures.outcome
    c.in_ok-is_taken-2.field-0 c.in_ok-is_taken-2.ensures.taken c.write_end.ensures.done c.write_end.ensures.kept

pub returns-else-branch-clause-ok : goal.returns-else-branch-clause-ok
returns-else-branch-clause-ok c =
    turned_unanswered _ c.args.self.now c.self.view_is c.write_response-answered.new.self _ _ c.write_response-answered.result _
    c.in_ok-is_taken.ensures.taken c.write_response-answered.ensures.outcome c.if-branch.false
    c.write_response-answered.ensures.kept
