-- One more is the last, and the others keep their numbers.
use Rattle.std.proofs.Common.{◌≡◌, ◌++◌, ◌∷◌, [], ◌∙◌, ap, sym, rules, length}
use Rattle.spec_machine.specs.Numbering.{same_miss}
use Rattle.std.specs.Ordering.{is_eq}
use Rattle.program_ir.specs.Tables.{found, key_cmp, key_of as key_of_miss}
use Rattle.program_ir.proofs.Tables.{miss_at, miss_fresh, table_on}
use Rattle.program_ir.proofs.misses.Misses.add_new.Goals as goal

pub invariant_of-self-2 : goal.invariant_of-self-2
invariant_of-self-2 c =
    let ms = c.self.inside.list.items in
    let m = c.args.miss in
    let list : c.push.new.self.items ≡ ms ++ m ∷ [] = search rules in
    let len : c.len-number.result ≡ length ms = search rules in
    let fresh = ap (found same_miss m) c.self.view_is ∙ c.requires in
    let key = c.key_of.ensures in
    λ n. table_on same_miss _ n m ms c.len-number.result _ _ (ap (λ k. is_eq (key_cmp k (key_of_miss n))) key ∙ miss_at m n) len (λ at. miss_fresh m n ms fresh (sym (ap (λ k. is_eq (key_cmp k (key_of_miss n))) key) ∙ at)) (c.self.invariant n) (c.in_ok-insert.ensures.updates.0 (key_of_miss n)) ∙ ap (found same_miss n) (sym list)
