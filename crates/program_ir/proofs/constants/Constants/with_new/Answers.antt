-- One more is the last, and the others keep their numbers.
use Rattle.std.proofs.Common.{◌≡◌, ◌++◌, ◌∷◌, [], ◌∙◌, ap, sym, rules, length}
use Rattle.std.specs.Str.{bytes_eq}
use Rattle.program_ir.specs.Tables.{found}
use Rattle.program_ir.proofs.Tables.{bytes_at, bytes_fresh, table_on}
use Rattle.program_ir.proofs.constants.Constants.with_new.Goals as goal

pub invariant_of-result : goal.invariant_of-result
invariant_of-result c =
    let xs = c.self.inside.list in
    let b = c.args.bytes in
    let list : c.push.new.self ≡ xs ++ b.items ∷ [] = search rules in
    let len : c.len-number.result ≡ length xs = search rules in
    let fresh = ap (found bytes_eq b.items) c.self.view_is ∙ c.requires in
    λ v. table_on bytes_eq _ v.items b.items xs c.len-number.result _ _ (bytes_at b v) len (bytes_fresh b v xs fresh) (c.self.invariant v) (c.in_ok-insert.ensures.updates.0 v) ∙ ap (found bytes_eq v.items) (sym list)
