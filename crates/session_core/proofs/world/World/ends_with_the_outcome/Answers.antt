use Rattle.std.proofs.Common.{◌≡◌, List, Some, length, refl, sym, subst, ◌∙◌}
use Rattle.std.proofs.lemmas.Option.{slice_get_read}
use Rattle.std.specs.Prelude.{slice_get}
use Rattle.session_core.specs.Ending.{SessionEndsWithOutcome}
use Rattle.spec_sessions.specs.World.{Held, World}
use Rattle.session_core.proofs.ActsKeep.{ends-for, same-held}
use Rattle.session_core.proofs.world.World.ends_with_the_outcome.Goals as goal

pub returns : goal.returns
returns c =
    let inside = c.self.inside in
    let world : World = record { commands = inside.registry; published = inside.published.items; sessions = inside.sessions.items } in
    let one : Held = record { holder = c.held.inside.holder; writer = c.held.inside.writer; reader = c.held.inside.reader; session = c.held.inside.session } in
    let read = slice_get_read c.deref.result.now (length c.deref.result.now) c.args.session c.in-Some.held.now refl c.in-Some.ensures.lookup.3.0 c.in-Some.ensures.lookup.1 in
    let lookup = subst (λ (hs : List Held). slice_get hs c.args.session ≡ Some c.in-Some.held.now) c.deref.ensures.value read in
    subst (λ (w : World). SessionEndsWithOutcome w c.args.session) c.self.view_is
    (λ held at. ends-for world one held c.args.session c.in-Some-Some.w.now c.in-Some-Some.r.now c.nodes.result.now c.nodes-2.result.now c.self.invariant at (c.held.view_is ∙ same-held _ _ _ lookup at) (sym c.in-Some-Some.ensures) (sym c.in-Some-Some.ensures') c.nodes.ensures c.nodes-2.ensures c.ends_with_the_outcome.ensures)
