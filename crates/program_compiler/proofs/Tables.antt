-- What statements name, with that of one statement more.
use Rattle.std.proofs.Common.{◌≡◌, ℕ, suc, ◌+◌, ◌<◌, drop, get_or, Bool, List, ◌++◌, length, sym, ap, ◌∙◌, arith}
use Rattle.std.proofs.Math.Seq.{drop-cons}
use Rattle.spec_avro.specs.Node.{Node}
use Rattle.spec_machine.specs.Statements.{Statement}
use Rattle.spec_machine.specs.Numbering.{adding, named_in}
use Rattle.program_ir.specs.declared.statements.Statement as rust
use Rattle.program_ir.specs.Statements.{statement_of, statements_in}
use Rattle.program_ir.proofs.Tables.{adding_on}

module _ {A : Type 0} (same : A → A → Bool) where
  -- one statement more
  pub listed_on : (f : Statement → List A) (W R : List Node) (statements : List rust.Statement) (i : ℕ) (statement : rust.Statement) (old new whole : List A) → i < length statements → statement ≡ get_or statements i statement → new ≡ adding same old (f (statement_of W R statement)) → adding same old (named_in f (statements_in W R (drop i statements))) ≡ whole → adding same new (named_in f (statements_in W R (drop (i + 1) statements))) ≡ whole
  listed_on f W R statements i statement old new whole lt is h so_far =
      let e : i + 1 ≡ suc i = omega arith in
      ap (λ k. adding same new (named_in f (statements_in W R (drop k statements)))) e
      ∙ ap (λ l. adding same l (named_in f (statements_in W R (drop (suc i) statements)))) h
      ∙ sym (adding_on same (f (statement_of W R statement)) (named_in f (statements_in W R (drop (suc i) statements))) old)
      ∙ ap (λ l. adding same old (f (statement_of W R l) ++ named_in f (statements_in W R (drop (suc i) statements)))) is
      ∙ sym (ap (λ ls. adding same old (named_in f (statements_in W R ls))) (drop-cons statements i statement lt))
      ∙ so_far
