-- The statements of a section, by what it is.
use Rattle.std.proofs.Common.{◌≡◌, ℕ, zero, suc, ◌≤◌, List, [], ◌∷◌, ◌++◌, length, Option, Some, None, refl, sym, ap, ◌∙◌, arith}
use Rattle.std.specs.Prelude.{slice_get}
use Rattle.spec_avro.specs.Node.{Node, RecordNode}
use Rattle.spec_machine.specs.declared.instr.Instr.TheVariants as op
use Rattle.spec_avro.specs.Options.{given}
use Rattle.spec_machine.specs.Statements.{Statement, Lost, Op, Main, Write, Skip}
use Rattle.spec_machine.specs.Skipping.{skip_routine}
use Rattle.spec_machine.specs.Writing.{X, section, write_routine}
use Rattle.spec_avro.specs.Resolution.{field_lists}

past : {A : Type 0} (xs : List A) (i : ℕ) → length xs ≤ i → slice_get xs i ≡ None
past [] i le = refl
past (x ∷ xs) zero le = absurd (omega (arith, le))
past (x ∷ xs) (suc i) le = past xs i (omega (arith, le))

no_reader : (w : Option Node) → field_lists w None ≡ None
no_reader (Some (RecordNode names fields)) = refl
no_reader _ = refl

module _ (W R : List Node) (old new : List Statement) where
  pub main_more : new ≡ old ++ (X W R 0 0 ++ Op op.Halt ∷ []) → new ≡ old ++ section W R Main
  unfolding section
  main_more h = h

  pub write_section : (w r : ℕ) → new ≡ old ++ given (field_lists (slice_get W w) (slice_get R r)) (Lost ∷ []) (λ p. write_routine W R p.0 p.1) → new ≡ old ++ section W R (Write w r)
  unfolding section
  write_section w r h = h

  pub skip_section : (w : ℕ) → new ≡ old ++ skip_routine W (slice_get W w) → new ≡ old ++ section W R (Skip w)
  unfolding section
  skip_section w h = h

  pub no_writer_node : (w r : ℕ) → length W ≤ w → new ≡ old ++ Lost ∷ [] → new ≡ old ++ section W R (Write w r)
  no_writer_node w r le h = write_section w r (h ∙ ap (λ x. old ++ given (field_lists x (slice_get R r)) (Lost ∷ []) (λ p. write_routine W R p.0 p.1)) (sym (past W w le)))

  pub no_reader_node : (w r : ℕ) → length R ≤ r → new ≡ old ++ Lost ∷ [] → new ≡ old ++ section W R (Write w r)
  no_reader_node w r le h = write_section w r (h ∙ ap (λ x. old ++ given x (Lost ∷ []) (λ p. write_routine W R p.0 p.1)) (sym (ap (field_lists (slice_get W w)) (past R r le) ∙ no_reader (slice_get W w))))

  pub no_node : (w : ℕ) → length W ≤ w → new ≡ old ++ Lost ∷ [] → new ≡ old ++ section W R (Skip w)
  no_node w le h = skip_section w (h ∙ ap (λ x. old ++ skip_routine W x) (sym (past W w le)))
