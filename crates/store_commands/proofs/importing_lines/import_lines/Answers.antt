use Rattle.std.proofs.Common.{◌≡◌, ◌∙◌, ◌+◌, ◌++◌, ◌∷◌, [], ℕ, List, length, ap, sym, arith}
use Rattle.std.proofs.lemmas.List.{append_assoc, length-append}
use Rattle.spec_lines.specs.Lines.{lines}
use Rattle.spec_registry.specs.Command.{Command}
use Rattle.store_commands.proofs.Imports.{say_more}
use Rattle.store_commands.proofs.importing_lines.import_lines.Goals as goal

pub loop-line-preserved : goal.loop-line-preserved
loop-line-preserved g c =
    let ((front, said, whole, say, number, count, registry), bound, few) = c.loop-line.invariant in
    let (first, is, counted, changed) = c.in-Ok.ensures.done in
    let (next, shorter) = c.in-Some.ensures.lines in
    let longer = length-append front (c.in-Some.line.now ∷ []) in
    let more = length-append said first in (
      (
        front ++ c.in-Some.line.now ∷ [],
        said ++ first,
        whole ∙ ap (λ (x : List (List ℕ)). front ++ x) next ∙ sym (append_assoc front (c.in-Some.line.now ∷ []) (lines c.in-Some.later.now)),
        say_more front said c.in-Some.line.now first say is,
        omega (arith, longer, number),
        omega (arith, more, count, counted),
        changed ∙ ap (λ (x : List Command). x ++ first) registry ∙ append_assoc _ said first,
      ),
      omega (arith, bound, shorter),
      omega (arith, few, c.in-Ok.ensures.few),
    )
