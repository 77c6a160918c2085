-- A section that is there stays where it is, and another comes last.
use Rattle.std.proofs.Common.{◌≡◌, ◌++◌, ◌∷◌, [], ◌∙◌, ap, sym, true, false, is_some, refl}
use Rattle.std.proofs.lemmas.Result.{on_ok_weaker}
use Rattle.spec_machine.specs.Numbering.{has, same_section}
use Rattle.program_ir.specs.Statements.{section_of}
use Rattle.program_ir.specs.Sections.{place}
use Rattle.program_ir.proofs.Numbered.{has_place}
use Rattle.program_ir.proofs.sections.Sections.add.Goals as goal

pub returns-then-is_some : goal.returns-then-is_some
returns-then-is_some c =
    let there : has same_section (section_of c.args.section) c.args.self.now ≡ true = sym (has_place 0 (section_of c.args.section) c.args.self.now) ∙ ap is_some (sym c.number_of.ensures.number) ∙ sym c.is_some.ensures ∙ c.if-is_some.true in
    rw there refl

pub returns-in-Main : goal.returns-in-Main
returns-in-Main c =
    let none : is_some c.number_of.result ≡ false = sym c.is_some.ensures ∙ c.if-is_some.false in
    let some : is_some c.number_of.result ≡ true = ap is_some (c.number_of.ensures.number ∙ ap (λ s. place (section_of s) c.args.self.now) c.in-Main.is ∙ c.number_of.ensures.main) in
    absurd (let clash : true ≡ false = sym some ∙ none in cc)

pub returns-in-Write : goal.returns-in-Write
returns-in-Write c =
    let absent : has same_section (section_of c.args.section) c.args.self.now ≡ false = sym (has_place 0 (section_of c.args.section) c.args.self.now) ∙ ap is_some (sym c.number_of.ensures.number) ∙ sym c.is_some.ensures ∙ c.if-is_some.false in
    on_ok_weaker c.add_write.result (λ h. rw absent (h ∙ ap (λ s. c.args.self.now ++ section_of s ∷ []) (sym c.in-Write.is))) c.add_write.ensures

pub returns-in-Skip : goal.returns-in-Skip
returns-in-Skip c =
    let absent : has same_section (section_of c.args.section) c.args.self.now ≡ false = sym (has_place 0 (section_of c.args.section) c.args.self.now) ∙ ap is_some (sym c.number_of.ensures.number) ∙ sym c.is_some.ensures ∙ c.if-is_some.false in
    on_ok_weaker c.add_skip.result (λ h. rw absent (h ∙ ap (λ s. c.args.self.now ++ section_of s ∷ []) (sym c.in-Skip.is))) c.add_skip.ensures
