-- One more is the last, and the others keep their numbers.
use Rattle.std.proofs.Common.{◌≡◌, ◌++◌, ◌∷◌, [], ◌∙◌, ap, sym, refl, rules, length}
use Rattle.spec_machine.specs.Statements.{Main, Write, Skip}
use Rattle.program_ir.specs.declared.statements.Section.TheVariants as parts
use Rattle.program_ir.specs.Sections.{place, sections_in}
use Rattle.program_ir.proofs.Numbered.{pair_at, place_other, sections_length, sections_on, table_on, write_fresh}
use Rattle.program_ir.proofs.sections.Sections.add_write.Goals as goal

pub invariant_of-self-2 : goal.invariant_of-self-2
invariant_of-self-2 c =
    let ss = sections_in c.self.inside.list.items in
    let list : sections_in c.push.new.self.items ≡ ss ++ Write c.args.wn c.args.rn ∷ [] = ap sections_in (let items : c.push.new.self.items ≡ c.self.inside.list.items ++ parts.Write c.args.wn c.args.rn ∷ [] = search rules in items) ∙ sections_on c.self.inside.list.items (parts.Write c.args.wn c.args.rn ∷ []) in
    let len : c.len-number.result ≡ length ss = search (rules, sections_length) in
    let fresh = ap (place (Write c.args.wn c.args.rn)) c.self.view_is ∙ c.requires in
    record {
      main = ap (place Main) list ∙ place_other Main (Write c.args.wn c.args.rn) ss refl ∙ c.self.invariant.main;
      writes = λ p. table_on _ (Write p.0 p.1) (Write c.args.wn c.args.rn) ss c.len-number.result _ _ (pair_at c.args.wn c.args.rn p) len (write_fresh c.args.wn c.args.rn p ss fresh) (c.self.invariant.writes p) (c.in_ok-insert.ensures.updates.0 p) ∙ ap (place (Write p.0 p.1)) (sym list);
      skips = λ v. c.self.invariant.skips v ∙ sym (place_other (Skip v) (Write c.args.wn c.args.rn) ss refl) ∙ ap (place (Skip v)) (sym list);
    }
