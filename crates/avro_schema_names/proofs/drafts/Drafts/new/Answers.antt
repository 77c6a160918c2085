use Rattle.std.proofs.Common.{Some, refl, subst, string_bytes}
use Rattle.std.specs.BTreeMap.{UpdatesBy}
use Rattle.std.specs.Ordering.{nat_cmp}
use Rattle.std.specs.Cmp.Lexicographic.{slice_cmp}
use Rattle.std.specs.String.{string_cmp}
use Rattle.avro_schema_names.proofs.IndexSteps.{index-empty}
use Rattle.avro_schema_names.proofs.drafts.Drafts.new.Goals as goal

pub invariant_of-result : goal.invariant_of-result
invariant_of-result c =
    rw (c.in_ok-push.ensures.items, c.new-scopes.ensures.items, c.new-2.ensures.items) (index-empty c.new-numbers.result c.insert.new.self c.new.result (λ s. rw c.new-numbers.ensures.empty refl) (λ s. rw c.new.ensures.empty refl)
    (subst (λ l. UpdatesBy string_cmp (λ k. slice_cmp nat_cmp l (string_bytes k)) c.new-numbers.result c.insert.new.self (Some 0)) c.in_ok-from_str.ensures.ok c.in_ok-insert.ensures.updates))
