use Rattle.std.proofs.Common.{refl}
use Rattle.machine_store.proofs.Checking.{passed-other}
use Rattle.machine_store.proofs.text.TextCheck.pass.Goals as goal

pub returns-in_default : goal.returns-in_default
returns-in_default c =
    let a = c.args in
    record {
      asked = refl;
      check = passed-other a.self a.input.now a.from a.pos a.to c.in_default.not-Cut c.requires.begun c.requires.order c.requires.known;
    }
