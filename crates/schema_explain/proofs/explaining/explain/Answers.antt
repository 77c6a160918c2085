-- The parts of the entry on top are in its place, and its line is with the others.
use Rattle.std.proofs.Common.{◌≡◌, ◌+◌, ◌*◌, ◌≤◌, length, reverse, vec_len, arith}
use Rattle.schema_explain.proofs.Below.{below_both, below_more, lines_within}
use Rattle.schema_explain.proofs.Stacked.{all_done, leads_on, length_after, less_left, nothing_left, top_first}
use Rattle.schema_explain.proofs.explaining.explain.Goals as goal

pub loop-entry-smaller : goal.loop-entry-smaller
loop-entry-smaller c =
    let len = length_after c.loop-entry.stack.items c.pop.new.self.items c.put_on_top.new.stack.items c.in_ok-step.step.parts.items c.in-Some.entry c.in-Some.ensures.items c.in_ok-put_on_top.ensures in
    let put : vec_len c.put_on_top.new.stack + 1 ≡ length c.in_ok-step.step.parts.items + vec_len c.loop-entry.stack = omega (arith, len, c.put_on_top.new.stack.ok.0, c.loop-entry.stack.ok.0) in
    less_left (length c.args.writer.now * length c.args.reader.now) (length c.loop-entry.explained.pairs) (length c.step_of.new.explained.pairs) (length c.in_ok-step.step.parts.items) (vec_len c.loop-entry.stack) (vec_len c.put_on_top.new.stack) c.in_ok-step.ensures.nodes.few c.in_ok-step.ensures.few put

pub loop-entry-preserved : goal.loop-entry-preserved
loop-entry-preserved c =
    let W = c.args.writer.now in
    let R = c.args.reader.now in
    let first = top_first c.loop-entry.stack.items c.pop.new.self.items c.in-Some.entry c.in-Some.ensures.items in
    let more : length c.loop-entry.explained.pairs ≤ length c.step_of.new.explained.pairs = omega (arith, c.in_ok-step.ensures.few) in
    let rest = (rw first at c.loop-entry.invariant.below).1 in
    record {
      nodes = c.in_ok-step.ensures.nodes;
      below = rw c.in_ok-put_on_top.ensures (below_both W R _ c.in_ok-step.step.parts.items (reverse c.pop.new.self.items) c.in_ok-step.ensures.below (below_more W R _ _ (reverse c.pop.new.self.items) more rest));
      within = rw c.in_ok-push-2.ensures.items (lines_within W R c.loop-entry.lines.items c.in_ok-step.step.line c.loop-entry.invariant.within c.in_ok-step.ensures.within);
      so_far = leads_on W R (reverse c.loop-entry.stack.items) (reverse c.pop.new.self.items) c.in_ok-step.step.parts.items (reverse c.put_on_top.new.stack.items) c.loop-entry.explained.pairs c.step_of.new.explained.pairs c.loop-entry.lines.items c.push-in-Some.new.self.items c.in-Some.entry c.in_ok-step.step.line first c.in_ok-step.ensures.line c.in_ok-step.ensures.parts c.in_ok-step.ensures.explained c.in_ok-put_on_top.ensures c.in_ok-push-2.ensures.items c.loop-entry.invariant.so_far;
    }

pub returns-clause-lines : goal.returns-clause-lines
returns-clause-lines c = all_done _ _ (reverse c.loop-entry.stack.items) c.loop-entry.explained.pairs c.loop-entry.lines.items (nothing_left c.loop-entry.stack.items (omega (arith, c.in_default.ensures.cases.0, c.loop-entry.stack.ok.0))) c.loop-entry.invariant.so_far
