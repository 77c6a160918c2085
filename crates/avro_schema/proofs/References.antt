-- What a text refers to.
use Rattle.std.proofs.Common.{◌≡◌, ◌∙◌, ℕ, List, Some, None, Ok, Err, ap, append-nil}
use Rattle.spec_schema.specs.declared.schema_error.SchemaError.TheVariants.{Unknown}
use Rattle.avro_schema.specs.Contract.{run}
use Rattle.spec_schema.specs.Draft.{Draft}
use Rattle.spec_schema.specs.Head.{defined_at, heads_of}
use Rattle.spec_avro.specs.FullNames.{full_name}
use Rattle.spec_schema.specs.Walk.{added, found, reference}

pub refers : (text enclosing : List ℕ) (ns : List Draft) (n : ℕ) → defined_at (full_name enclosing text) (heads_of ns) ≡ Some n → run (reference text) enclosing ns ≡ Ok (n, ns)
unfolding reference run
refers text enclosing ns n e = ap (λ o. added ns (found o)) e ∙ ap (λ ms. Ok (n, ms)) (append-nil ns)

pub refers_not : (text enclosing : List ℕ) (ns : List Draft) → defined_at (full_name enclosing text) (heads_of ns) ≡ None → run (reference text) enclosing ns ≡ Err Unknown
unfolding reference run
refers_not text enclosing ns e = ap (λ o. added ns (found o)) e
