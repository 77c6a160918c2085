use Rattle.std.proofs.Common.{true, Some, ◌≡◌, ◌∙◌, ℕ, List, sym, ap, string_bytes, subst}
use Rattle.std.specs.BTreeMap.{UpdatesBy, get_by_text}
use Rattle.std.specs.BTreeSet as set
use Rattle.std.specs.Ordering.{nat_cmp}
use Rattle.std.specs.Cmp.Lexicographic.{slice_cmp}
use Rattle.std.specs.String.{string_cmp}
use Rattle.avro_types.specs.Aliases.{has_last}
use Rattle.avro_types.proofs.AliasPlaces.{put-on}
use Rattle.avro_types.proofs.aliases.put_qualified.Goals as goal
use Rattle.avro_types.proofs.aliases.put_qualified.Goals.{in-Some, in-None}

pub returns : goal.returns
returns c =
    let known : (o : List ℕ) → set.contains_text c.match-remove.lasts o ≡ has_last (get_by_text c.args.qualified.now c.args.namespace.now) o =
    λ o. elim c.match-remove.branch [
      | in-Some w ↦ rw w.lasts-is (ap (λ x. has_last x o) (sym w.in-Some.is ∙ c.remove.ensures.value))
      | in-None w ↦ rw (w.lasts-is, w.new-lasts.ensures.empty) (ap (λ x. has_last x o) (sym w.in-None.is ∙ c.remove.ensures.value))
    ] in
    put-on c.args.namespace.now c.args.last.now c.args.qualified.now c.remove.new.self c.insert-2.new.self c.match-remove.lasts c.insert.new.self c.remove.ensures.updates known
    (subst (λ s. set.UpdatesBy string_cmp (λ k. slice_cmp nat_cmp s (string_bytes k)) c.match-remove.lasts c.insert.new.self true) c.in_ok-from_str.ensures.ok c.in_ok-insert.ensures.updates)
    (subst (λ s. UpdatesBy string_cmp (λ k. slice_cmp nat_cmp s (string_bytes k)) c.remove.new.self c.insert-2.new.self (Some c.insert.new.self)) c.in_ok-from_str-2.ensures.ok c.in_ok-insert-2.ensures.updates)
