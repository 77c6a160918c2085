-- As many pairs as marks, and no more marks than places.
use Rattle.std.proofs.Common.{◌≤◌, ◌*◌, arith, length}
use Rattle.resolver.proofs.Marks.{marks_le}
use Rattle.schema_check.proofs.pairs.PairList.len.Goals as goal

pub returns-clause-few : goal.returns-clause-few
returns-clause-few c =
    let h = marks_le c.self.inside.seen.items in
    let few : length c.self.inside.pairs.items ≤ c.self.inside.writers * c.self.inside.readers = omega (arith, h, c.self.invariant.counted, c.self.invariant.all) in
    rw (← c.self.view_is) (omega (arith, few, c.len.ensures, c.self.inside.pairs.ok.0))
