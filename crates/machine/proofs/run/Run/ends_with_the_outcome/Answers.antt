use Rattle.std.proofs.Common.{subst}
use Rattle.machine.specs.Run.{IsKept}
use Rattle.machine.proofs.PairRuns.{ends_early, ends_in_outcome, ends_in_slice, has_ended_within, within_bound}
use Rattle.machine.proofs.run.Run.ends_with_the_outcome.Goals as goal

pub returns : goal.returns
returns c =
    let W = c.args.writer.now in
    let R = c.args.reader.now in
    let run = c.args.self.now in
    let kept = subst IsKept c.self.view_is c.self.invariant in
    let pair = c.program_ends_with_the_outcome.ensures in
    let laws = c.runs_alone_are_counted_and_stay.ensures in
    record {
      end = ends_in_outcome W R run kept c.requires pair.each_end pair.early_end;
      early = ends_early W R run kept c.requires pair.early_end;
      bound = within_bound W R run kept c.requires pair.simulated laws.ends;
      count = has_ended_within W R run kept c.requires pair.simulated laws.ends laws.stay;
      slice = ends_in_slice W R run kept c.requires pair.simulated laws.ends laws.counted laws.go_on c.row_or_end_is_there.ensures;
    }
