use Rattle.std.proofs.Common.{◌≢◌, ◌∙◌, ◌∷◌, ◌++◌, [], List, ℕ, ap, length, sym}
use Rattle.std.proofs.lemmas.Result.{on_ok_weaker}
use Rattle.spec_avro.specs.Written.{block_count}
use Rattle.machine_store.specs.Frames.{items_of}
use Rattle.machine_store.specs.Store.{closed_between}
use Rattle.machine_store.proofs.Closing.{blocks-closed, none-closed}
use Rattle.machine_store.proofs.store.Store.close_blocks.Goals as goal

pub returns-clause-closed : goal.returns-clause-closed
returns-clause-closed c =
    let s = c.args.self.now.store in
    let some : items_of s.frames ≢ 0 = λ e. c.if-items-eq0.false (c.items-items.ensures ∙ e) in
    on_ok_weaker c.close.result
    (λ e. e ∙ ap (λ (x : List ℕ). closed_between x c.in_ok-before.before s.frames s) (c.deref.ensures.value ∙ c.in_ok-before.ensures.spelled ∙ ap (λ (n : ℕ). block_count n ++ 0 ∷ []) c.items-items.ensures)
    ∙ ap (λ (n : ℕ). closed_between (block_count (items_of s.frames) ++ 0 ∷ []) n s.frames s) (c.in_ok-before.ensures.before ∙ ap (λ (n : ℕ). length (block_count n)) c.items-items.ensures)
    ∙ blocks-closed s.frames s c.requires.blocks some)
    c.close.ensures.closed

pub returns-then-items-eq0-clause-closed : goal.returns-then-items-eq0-clause-closed
returns-then-items-eq0-clause-closed c =
    let s = c.args.self.now.store in
    on_ok_weaker c.close_empty.result (λ e. e ∙ none-closed s.frames s c.requires.blocks (sym c.items-items.ensures ∙ c.if-items-eq0.true)) c.close_empty.ensures.closed
