-- The last part of what the text at a position means.
use Rattle.std.proofs.Common.{◌≡◌, ◌∙◌, ◌≤◌, Some, None, ap, arith, length, map, refl, sym, string_bytes, option_map}
use Rattle.std.specs.Prelude.{slice_get}
use Rattle.std.specs.Arc.{arc_str_bytes}
use Rattle.std.proofs.lemmas.Bool.Decides.{nat_tests}
use Rattle.std.proofs.lemmas.Option.{slice_get-map, slice_get_past, slice_get_read}
use Rattle.spec_avro.specs.FullNames.{full_name, unqualified}
use Rattle.avro_types.proofs.aliases.Aliases.last.Goals as goal

pub returns-in-Some : goal.returns-in-Some
returns-in-Some c =
    let a = c.self.inside in
    let at = c.args.position in
    let own = arc_str_bytes a.namespace in
    let texts = map string_bytes a.texts.items in
    let item : slice_get a.texts.items at ≡ Some c.in-Some.text.now = rw (sym c.deref.ensures.value) (slice_get_read c.deref.result.now (length c.deref.result.now) at c.in-Some.text.now refl c.in-Some.ensures.lookup.3.0 c.in-Some.ensures.lookup.1) in
    let there : Some c.deref-in-Some.result.now ≡ slice_get texts at = ap Some c.deref-in-Some.ensures ∙ sym (slice_get-map string_bytes a.texts.items at ∙ ap (option_map string_bytes) item) in
    ap Some (c.last_of.ensures own) ∙ ap (λ o. option_map unqualified (option_map (full_name own) o)) there
    ∙ sym (ap (λ l. option_map unqualified (slice_get l at)) (sym c.self.view_is) ∙ ap (option_map unqualified) (slice_get-map (full_name own) texts at))

pub returns-in-None : goal.returns-in-None
returns-in-None c =
    let a = c.self.inside in
    let at = c.args.position in
    let own = arc_str_bytes a.namespace in
    let texts = map string_bytes a.texts.items in
    let past : length a.texts.items ≤ at = rw (sym c.deref.ensures.value) (let p : length c.deref.result.now ≤ at = grind (arith, nat_tests, c.in-None.ensures.lookup.0) in p) in
    let there : None ≡ slice_get texts at = sym (slice_get-map string_bytes a.texts.items at ∙ ap (option_map string_bytes) (slice_get_past a.texts.items at past)) in
    ap (λ o. option_map unqualified (option_map (full_name own) o)) there
    ∙ sym (ap (λ l. option_map unqualified (slice_get l at)) (sym c.self.view_is) ∙ ap (option_map unqualified) (slice_get-map (full_name own) texts at))
