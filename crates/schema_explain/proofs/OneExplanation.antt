-- The lines of entries are determined.
use Rattle.std.proofs.Common.{◌≡◌, List, [], ◌∷◌, ◌++◌, refl, sym, ap, ◌∙◌}
use Rattle.spec_avro.specs.Node.{Node}
use Rattle.spec_avro.specs.Safety.{Pair}
use Rattle.schema_explain.specs.Explanation.{Explained, entry, nothing, roots, step}
use Rattle.schema_explain.specs.Lines.{ThereIsOneExplanation}
use Rattle.schema_explain.specs.declared.entries.Entry.{Entry}
use Rattle.schema_explain.specs.declared.entries.Entry.TheVariants.{Due}
use Rattle.schema_explain.specs.declared.line.Line.{Line}

module _ (W R : List Node) where
  -- what the lines of entries are, by the first of them
  abbrev Begun : List Entry → List Pair → List Line → Type 0
  Begun [] explained lines = lines ≡ []
  Begun (e ∷ entries) explained lines =
      (more : List Line) × (lines ≡ (step W R e explained).line ∷ more) × Explained W R ((step W R e explained).parts ++ entries) (step W R e explained).explained more

  begun : (entries : List Entry) (explained : List Pair) (lines : List Line) → Explained W R entries explained lines → Begun entries explained lines
  begun entries explained lines (nothing seen) = refl
  begun entries explained lines (entry e rest seen more is) = (more, refl, is)

  same_lines : (entries : List Entry) (explained : List Pair) (a b : List Line) → Explained W R entries explained a → Explained W R entries explained b → a ≡ b
  same_lines entries explained a b (nothing seen) other = sym (begun [] seen b other)
  same_lines entries explained a b (entry e rest seen more is) other =
      let f = begun (e ∷ rest) seen b other in
      ap (λ (x : List Line). (step W R e seen).line ∷ x) (same_lines _ _ more f.0 is f.2) ∙ sym f.1

  pub one_explanation : ThereIsOneExplanation W R
  one_explanation a b is other = same_lines (Due roots ∷ []) [] a b is other
