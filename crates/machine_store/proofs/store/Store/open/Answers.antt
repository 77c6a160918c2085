use Rattle.std.proofs.Common.{◌≡◌, ◌∙◌, ◌∷◌, [], ◌++◌, List, ap, arith, reverse}
use Rattle.std.proofs.lemmas.List.{reverse-append}
use Rattle.machine_store.specs.declared.store.Frame.{Frame}
use Rattle.machine_store.specs.Buffers.{with_opened}
use Rattle.machine_store.proofs.Keeping.{kept-opened, shown-opened}
use Rattle.machine_store.proofs.store.Store.open.Goals as goal

pub invariant_of-self-2 : goal.invariant_of-self-2
invariant_of-self-2 c =
    let i = c.self.inside in
    let fs = i.top ∷ reverse i.below.items in
    let pushed : reverse c.push.new.self.items ≡ fs = ap (λ (x : List Frame). reverse x) (c.in_ok-push.ensures.items ∙ ap (λ (x : List Frame). x ++ i.top ∷ []) c.in_ok-try_reserve.ensures.items) ∙ reverse-append i.below.items (i.top ∷ []) in
    rw (c.frame-self-inside.ensures, pushed)
    (kept-opened fs i.buffers c.open.new.self i.lost i.units c.args.units c.len-first.result i.mark i.over c.args.opening c.args.self.now c.self.view_is c.self.invariant c.len-first.ensures
    (c.in_ok-open.ensures.opened ∙ ap (λ n. with_opened n i.buffers) c.slots.ensures) (omega (arith, c.requires.units, ap (λ x. x.units) c.self.view_is)) c.requires.deep)

pub returns-clause-opened : goal.returns-clause-opened
returns-clause-opened c =
    let i = c.self.inside in
    let fs = i.top ∷ reverse i.below.items in
    let pushed : reverse c.push.new.self.items ≡ fs = ap (λ (x : List Frame). reverse x) (c.in_ok-push.ensures.items ∙ ap (λ (x : List Frame). x ++ i.top ∷ []) c.in_ok-try_reserve.ensures.items) ∙ reverse-append i.below.items (i.top ∷ []) in
    rw (c.frame-self-inside.ensures, pushed)
    (shown-opened fs i.buffers c.open.new.self i.units c.len-first.result i.mark i.over c.args.opening c.args.self.now c.self.view_is c.len-first.ensures (c.in_ok-open.ensures.opened ∙ ap (λ n. with_opened n i.buffers) c.slots.ensures))
