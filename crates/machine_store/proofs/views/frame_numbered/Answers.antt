-- The newest frame, another, or none.
use Rattle.std.proofs.Common.{◌≡◌, ◌∙◌, ◌∷◌, ◌+◌, ◌-◌, ◌<◌, drop, length, reverse, arith, ap, sym}
use Rattle.std.proofs.lemmas.List.{length-drop, length-reverse, take_all}
use Rattle.machine_store.specs.Viewing.{end_below, end_over}
use Rattle.machine_store.proofs.Viewing.{not-newest, numbered-none}
use Rattle.machine_store.proofs.views.frame_numbered.Goals as goal

pub returns-then-number-below : goal.returns-then-number-below
returns-then-number-below c = sym (numbered-none c.args.number (c.args.top ∷ reverse c.args.below.now) c.args.slots (omega (arith, c.if-number-below.true, length-reverse c.args.below.now)))

pub returns : goal.returns
returns c =
    let fs = c.args.below.now in
    let n = c.args.number in
    let newer = drop (n + 2) fs in
    let ends : c.end_over-end.result ≡ end_over (reverse newer) (end_below c.args.top c.args.slots) =
    c.end_over-end.ensures
    ∙ ap (λ l. end_over (reverse l) c.end_below.result) (take_all (length fs - (n + 2)) newer (omega (arith, length-drop (n + 2) fs)))
    ∙ ap (end_over (reverse newer)) c.end_below.ensures in
    let lt : n + 1 < length fs = omega (arith, c.if-number-below.false, c.if-number-below-2.false) in
    not-newest n c.args.top c.index-below-number.result fs c.args.slots c.end_over-end.result lt c.index-below-number.is ends
