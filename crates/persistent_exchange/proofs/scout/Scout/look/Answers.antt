use Rattle.std.proofs.Common.{◌≡◌, refl, sym, ap, ◌∙◌, subst}
use Rattle.std.proofs.lemmas.Result.{err_from_is_err_and}
use Rattle.http1.specs.declared.conn.Event.TheVariants as events
use Rattle.spec_service.specs.Scouting.{adds, begins, ends, waits}
use Rattle.spec_service.specs.declared.sighting.Sighting.TheVariants as sightings
use Rattle.persistent_exchange.proofs.Looking.{found, found_over, refused_head, refused_piece}
use Rattle.persistent_exchange.proofs.scout.Scout.look.Goals as goal

pub returns-in-NeedMore-clause-found : goal.returns-in-NeedMore-clause-found
returns-in-NeedMore-clause-found c =
    found _ c.args.self.now c.args.input.now c.read.new.headers c.read.new.self c.in-Ok.read c.self.view_is c.in-Ok.ensures.ok
    events.NeedMore sightings.Nothing _ c.in-NeedMore.is (waits _ refl)

pub returns-in_ok-begin-in-Head-clause-found : goal.returns-in_ok-begin-in-Head-clause-found
returns-in_ok-begin-in-Head-clause-found c =
    found _ c.args.self.now c.args.input.now c.read.new.headers c.read.new.self c.in-Ok.read c.self.view_is c.in-Ok.ensures.ok
    (events.Head c.in-Head.head) sightings.Head _ c.in-Head.is (begins c.in-Head.head _ c.in_ok-begin-in-Head.ensures.ok)

pub returns-in_ok-add-in-Data-clause-found : goal.returns-in_ok-add-in-Data-clause-found
returns-in_ok-add-in-Data-clause-found c =
    found _ c.args.self.now c.args.input.now c.read.new.headers c.read.new.self c.in-Ok.read c.self.view_is c.in-Ok.ensures.ok
    (events.Data c.in-Data.piece) sightings.Piece _ c.in-Data.is
    (adds c.in-Data.piece _ (rw c.of.ensures at c.in_ok-add-in-Data.ensures.ok))

pub returns-in_ok-turn-in-End-clause-found : goal.returns-in_ok-turn-in-End-clause-found
returns-in_ok-turn-in-End-clause-found c =
    found _ c.args.self.now c.args.input.now c.read.new.headers c.read.new.self c.in-Ok.read c.self.view_is c.in-Ok.ensures.ok
    (events.End c.in-End.field-0) sightings.End _ c.in-End.is (ends c.in-End.field-0 _ c.in_ok-turn-in-End.ensures.ok)

pub returns-in_default-clause-found : goal.returns-in_default-clause-found
returns-in_default-clause-found c =
    found_over _ c.args.self.now c.args.input.now c.read.new.headers c.read.new.self c.in-Ok.read c.self.view_is c.in-Ok.ensures.ok
    c.in_default.not-NeedMore c.in_default.not-Head c.in_default.not-Data c.in_default.not-End

pub returns-in_err-begin-in-Head-clause-refused : goal.returns-in_err-begin-in-Head-clause-refused
returns-in_err-begin-in-Head-clause-refused c =
    let p = err_from_is_err_and c.from_residual.result c.from_residual.ensures.1 in
    rw (p.1, p.2) (refused_head _ c.args.self.now c.args.input.now c.read.new.headers c.read.new.self c.in-Ok.read c.self.view_is c.in-Ok.ensures.ok
    c.in_err-begin-in-Head.field-0.0 c.in-Head.head c.in-Head.is c.in_err-begin-in-Head.ensures.refused)

pub returns-in_err-add-in-Data-clause-refused : goal.returns-in_err-add-in-Data-clause-refused
returns-in_err-add-in-Data-clause-refused c =
    let p = err_from_is_err_and c.from_residual-in_err-add-in-Data.result c.from_residual-in_err-add-in-Data.ensures.1 in
    rw (p.1, p.2) (refused_piece _ c.args.self.now c.args.input.now c.read.new.headers c.read.new.self c.in-Ok.read c.self.view_is c.in-Ok.ensures.ok
    c.in_err-add-in-Data.field-0.0 c.in-Data.piece c.of.result.now c.in-Data.is c.of.ensures
    c.in_err-add-in-Data.ensures.refused)
