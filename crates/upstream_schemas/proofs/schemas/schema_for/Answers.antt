-- What the text of an id declares.
use Rattle.std.proofs.Common.{◌≡◌, ℕ, List, Err, subst, string_bytes, rules}
use Rattle.spec_registry.specs.Accepting.{declaration_of}
use Rattle.upstream_schemas.proofs.schemas.schema_for.Goals as goal

pub returns-in-Err : goal.returns-in-Err
returns-in-Err g c =
    let P : List ℕ → Type 0 = λ text. declaration_of text ≡ Err c.in-Err.error in
    let fault : P c.as_str.result.now = search rules in
    record {
      schema = tt;
      why = (string_bytes c.args.text.now, c.requires, subst P c.as_str.ensures.value fault);
    }
