use Rattle.std.proofs.Common.{◌≡◌, sym, subst, Some, None, string_bytes, rules}
use Rattle.std.specs.Prelude.{OnErr}
use Rattle.std.specs.BTreeMap.{get_by_text}
use Rattle.std.proofs.lemmas.Map.Text.{btree_map_updates_text}
use Rattle.std.proofs.lemmas.Result.{on_err_weaker, on_ok_weaker}
use Rattle.schema_registry_maps.specs.Maps.{AreSame, Puts}
use Rattle.schema_registry_maps.proofs.Changes.{same-put, versions-put}
use Rattle.schema_registry_maps.proofs.adding.add_version.Goals as goal

pub returns-in-Some-clause-ok : goal.returns-in-Some-clause-ok
returns-in-Some-clause-ok c =
    let old = c.args.subjects.now in
    let new = c.get_mut.follows.lender c.add.new.self in
    let put = btree_map_updates_text c.as_str.result.now old new (Some c.add.new.self) ((c.get_mut.follows.holds c.add.new.self).3 (search rules)) in
    rw (← c.as_str.ensures.value) (on_ok_weaker c.add.result
    (λ more. versions-put old new c.as_str.result.now (Some c.in-Some.versions.now) c.args.id c.add.new.self (sym c.in-Some.ensures.value) more put) c.add.ensures.ok)

pub returns-in-Some-clause-err : goal.returns-in-Some-clause-err
returns-in-Some-clause-err c =
    let old = c.args.subjects.now in
    let new = c.get_mut.follows.lender c.add.new.self in
    let put = btree_map_updates_text c.as_str.result.now old new (Some c.add.new.self) ((c.get_mut.follows.holds c.add.new.self).3 (search rules)) in
    on_err_weaker c.add.result
    (λ same. same-put old new c.as_str.result.now c.in-Some.versions.now (sym c.in-Some.ensures.value) (subst (Puts old new c.as_str.result.now) same put)) c.add.ensures.err

pub returns-in_ok-one-in-None-clause-ok : goal.returns-in_ok-one-in-None-clause-ok
returns-in_ok-one-in-None-clause-ok c =
    let old = c.args.subjects.now in
    let s = string_bytes c.args.subject in
    let same : c.get_mut.follows.lender-at-none ≡ old = search rules in
    let nowhere : get_by_text old s ≡ None = rw c.as_str.ensures.value at (sym c.in-None.ensures.value) in
    let one = c.in_ok-one-in-None.field-0 in
    on_ok_weaker c.put.result
    (λ put. versions-put old c.put.new.map s None c.args.id one nowhere c.in_ok-one-in-None.ensures (subst (λ m. Puts m c.put.new.map s one) same put)) c.put.ensures.ok

pub returns-in_ok-one-in-None-clause-err : goal.returns-in_ok-one-in-None-clause-err
returns-in_ok-one-in-None-clause-err c =
    let same : c.get_mut.follows.lender-at-none ≡ c.args.subjects.now = search rules in
    subst (λ m. OnErr c.put.result (AreSame m c.put.new.map)) same c.put.ensures.err
