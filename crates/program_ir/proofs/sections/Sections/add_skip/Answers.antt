-- One more is the last, and the others keep their numbers.
use Rattle.std.proofs.Common.{◌≡◌, ◌++◌, ◌∷◌, [], ◌∙◌, ap, sym, refl, rules, length}
use Rattle.spec_machine.specs.Statements.{Main, Write, Skip}
use Rattle.program_ir.specs.declared.statements.Section.TheVariants as parts
use Rattle.program_ir.specs.Sections.{place, sections_in}
use Rattle.program_ir.proofs.Numbered.{place_other, sections_length, sections_on, skip_at, skip_fresh, table_on}
use Rattle.program_ir.proofs.sections.Sections.add_skip.Goals as goal

pub invariant_of-self-2 : goal.invariant_of-self-2
invariant_of-self-2 c =
    let ss = sections_in c.self.inside.list.items in
    let list : sections_in c.push.new.self.items ≡ ss ++ Skip c.args.wn ∷ [] = ap sections_in (let items : c.push.new.self.items ≡ c.self.inside.list.items ++ parts.Skip c.args.wn ∷ [] = search rules in items) ∙ sections_on c.self.inside.list.items (parts.Skip c.args.wn ∷ []) in
    let len : c.len-number.result ≡ length ss = search (rules, sections_length) in
    let fresh = ap (place (Skip c.args.wn)) c.self.view_is ∙ c.requires in
    record {
      main = ap (place Main) list ∙ place_other Main (Skip c.args.wn) ss refl ∙ c.self.invariant.main;
      skips = λ v. table_on _ (Skip v) (Skip c.args.wn) ss c.len-number.result _ _ (skip_at c.args.wn v) len (skip_fresh c.args.wn v ss fresh) (c.self.invariant.skips v) (c.in_ok-insert.ensures.updates.0 v) ∙ ap (place (Skip v)) (sym list);
      writes = λ p. c.self.invariant.writes p ∙ sym (place_other (Write p.0 p.1) (Skip c.args.wn) ss refl) ∙ ap (place (Write p.0 p.1)) (sym list);
    }
