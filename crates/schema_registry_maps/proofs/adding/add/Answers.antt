use Rattle.std.proofs.Common.{◌≡◌, ◌++◌, ◌∷◌, [], arith, subst, sym, Some, None, string_bytes, rules}
use Rattle.std.specs.Prelude.{IfOk, OnOk}
use Rattle.std.specs.BTreeMap.{get_by_text}
use Rattle.schema_registry_maps.specs.Maps.{Puts, ids_in, number_of}
use Rattle.schema_registry_maps.proofs.Changes.{known-id, next-id, put-again}
use Rattle.schema_registry_maps.proofs.adding.add.Goals as goal

pub returns-in-Some-clause-id : goal.returns-in-Some-clause-id
returns-in-Some-clause-id c =
    let there : get_by_text c.args.ids.now c.args.text.now ≡ Some c.in-Some.id = search rules in
    known-id c.args.ids.now c.args.text.now c.args.count c.in-Some.id there

pub returns-in-Some-clause-ids : goal.returns-in-Some-clause-ids
returns-in-Some-clause-ids c =
    let ids = c.args.ids.now in
    let text = c.args.text.now in
    let there : get_by_text ids text ≡ Some c.in-Some.id = search rules in
    subst (Puts ids ids text) (known-id ids text c.args.count c.in-Some.id there) (put-again ids ids text c.in-Some.id there)

pub returns-in-Some-clause-versions : goal.returns-in-Some-clause-versions
returns-in-Some-clause-versions c =
    let s = string_bytes c.args.subject in
    let old = c.args.subjects.now in
    let there : get_by_text c.args.ids.now c.args.text.now ≡ Some c.in-Some.id = search rules in
    subst (λ n. Puts old c.add_version.new.subjects s (ids_in (get_by_text old s) ++ n ∷ []))
    (known-id c.args.ids.now c.args.text.now c.args.count c.in-Some.id there) c.in_ok-add_version.ensures.ok

pub overflow_add-id : goal.overflow_add-id
overflow_add-id c =
    let lacking : get_by_text c.args.ids.now c.args.text.now ≡ None = search rules in
    omega (arith, next-id c.args.ids.now c.args.text.now c.args.count lacking, c.requires.few)

pub add_text-requires-clause-known : goal.add_text-requires-clause-known
add_text-requires-clause-known c =
    let lacking : get_by_text c.args.ids.now c.args.text.now ≡ None = search rules in
    omega (arith, next-id c.args.ids.now c.args.text.now c.args.count lacking, c.requires.few)

pub add_text-requires-clause-new : goal.add_text-requires-clause-new
add_text-requires-clause-new c =
    let lacking : get_by_text c.args.ids.now c.args.text.now ≡ None = search rules in
    subst (λ n. number_of n (ids_in (get_by_text c.args.subjects.now (string_bytes c.args.subject))) ≡ None)
    (sym (next-id c.args.ids.now c.args.text.now c.args.count lacking)) c.requires.new

pub returns-clause-id : goal.returns-clause-id
returns-clause-id c =
    let lacking : get_by_text c.args.ids.now c.args.text.now ≡ None = search rules in
    subst (λ n. IfOk c.add_text.result (λ id. id ≡ n)) (next-id c.args.ids.now c.args.text.now c.args.count lacking) c.add_text.ensures.id

pub returns-clause-ids : goal.returns-clause-ids
returns-clause-ids c =
    let lacking : get_by_text c.args.ids.now c.args.text.now ≡ None = search rules in
    subst (λ n. OnOk c.add_text.result (Puts c.args.ids.now c.add_text.new.ids c.args.text.now n))
    (next-id c.args.ids.now c.args.text.now c.args.count lacking) c.add_text.ensures.ids

pub returns-clause-versions : goal.returns-clause-versions
returns-clause-versions c =
    let s = string_bytes c.args.subject in
    let old = c.args.subjects.now in
    let lacking : get_by_text c.args.ids.now c.args.text.now ≡ None = search rules in
    subst (λ n. OnOk c.add_text.result (Puts old c.add_text.new.subjects s (ids_in (get_by_text old s) ++ n ∷ [])))
    (next-id c.args.ids.now c.args.text.now c.args.count lacking) c.add_text.ensures.versions
