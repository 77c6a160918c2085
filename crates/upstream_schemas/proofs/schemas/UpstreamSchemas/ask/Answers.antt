-- The text is the one that was heard, and it was kept.
use Rattle.std.proofs.Common.{ℕ, List, string_bytes, subst, sym}
use Rattle.spec_service.specs.UpstreamNaming.{IsTextOf}
use Rattle.upstream_schemas.proofs.schemas.UpstreamSchemas.ask.Goals as goal

pub keep-requires : goal.keep-requires
keep-requires g c =
    let P : List ℕ → Type 0 = λ text. IsTextOf g.U.Upstream.heard g.U.Upstream.kept c.args.id text in
    subst P (sym c.as_str.ensures.value) c.in_ok-text.ensures.text

pub put-requires : goal.put-requires
put-requires g c =
    let P : List ℕ → Type 0 = λ text. g.U.Upstream.kept c.args.id text in
    record {
      text = string_bytes c.in_ok-text.text;
      is_text = c.in_ok-text.ensures.text;
      is_kept = subst P c.as_str.ensures.value c.in-Ok.ensures;
      declares = c.in_ok-own.ensures.schema;
    }

pub returns-clause-why : goal.returns-clause-why
returns-clause-why g c = c.unkept.ensures c.args.id
