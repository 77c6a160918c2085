use Rattle.std.proofs.Common.{rules, ◌≡◌, ◌∙◌, ◌-◌, ℕ, List, ap, drop, false, length, subst, sym}
use Rattle.std.specs.Prelude.{is_some}
use Rattle.std.proofs.lemmas.List.{take_rest}
use Rattle.machine_store.specs.Text.{EndsIn}
use Rattle.machine_store.proofs.Checking.{between, passed-broken, passed-cut, passed-whole}
use Rattle.machine_store.proofs.text.Carry.pass.Goals as goal

pub returns-in_default-clause-check : goal.returns-in_default-clause-check
returns-in_default-clause-check c =
    let a = c.args in
    let r = c.requires in
    let full : length a.self.bytes ≡ 3 = search rules in
    rw c.empty.ensures.empty (passed-whole a.input.now a.self full a.from a.pos a.to r.begun r.order r.within r.known c.in_default.ensures.cases.1)

pub returns-then-is_some-clause-check : goal.returns-then-is_some-clause-check
returns-then-is_some-clause-check c =
    let a = c.args in
    let r = c.requires in
    let e = c.in-Err in
    let full : length a.self.bytes ≡ 3 = search rules in
    let some = ap is_some (sym c.error_len.ensures) ∙ sym c.is_some.ensures ∙ c.if-is_some.true in
    passed-broken a.input.now a.self full a.from a.pos a.to r.begun r.order r.within r.known e.error.valid_up_to e.ensures.cases.1 e.error.error_len e.ensures.fault some

pub returns-clause-check : goal.returns-clause-check
returns-clause-check c =
    let a = c.args in
    let r = c.requires in
    let e = c.in-Err in
    let bytes = between a.input.now (a.pos - a.self.len) a.to in
    let full : length a.self.bytes ≡ 3 = search rules in
    let none : is_some e.error.error_len ≡ false = ap is_some (sym c.error_len.ensures) ∙ sym c.is_some.ensures ∙ c.if-is_some.false in
    let cut = passed-cut a.input.now a.self full a.from a.pos a.to r.begun r.order r.within r.known e.error.valid_up_to e.ensures.cases.1 e.error.error_len e.ensures.fault none e.ensures.error_len in
    let rest = c.of.ensures ∙ take_rest bytes c.valid_up_to.result ∙ ap (λ (n : ℕ). drop n bytes) c.valid_up_to.ensures in
    subst (λ (x : List ℕ). EndsIn x (between a.input.now a.from a.to)) (sym rest) cut
