use Rattle.std.proofs.Common.{◌≡◌, ◌<◌, length, rules, arith, sym, ap, subst, ◌∙◌, Some, string_bytes, take}
use Rattle.std.specs.BTreeMap.{UpdatesBy}
use Rattle.std.specs.Ordering.{nat_cmp}
use Rattle.std.specs.Cmp.Lexicographic.{slice_cmp}
use Rattle.std.specs.String.{string_cmp}
use Rattle.avro_types.proofs.SymbolPositions.{all-taken, comes-once, comes-twice, positions-on}
use Rattle.avro_types.specs.Laws.Plain.{names}
use Rattle.avro_types.proofs.symbols.Symbols.of_texts.Goals as goal
use Rattle.spec_avro.specs.Symbols.{place_of}

pub returns-then-is_some-clause-distinct : goal.returns-then-is_some-clause-distinct
returns-then-is_some-clause-distinct c =
    let l = c.loop-position in
    let ts = c.args.texts.items in
    let end : c.len-position-end.result ≡ length ts = search rules in
    let lt : l.position < length ts = omega (arith, end, c.loop-position-test.true) in
    let at = c.in_ok-insert.ensures.old ∙ l.invariant.1 (string_bytes c.in_ok-text.text) ∙ ap (λ s. place_of s (names (take l.position ts))) c.in_ok-text.ensures.cases in
    sym (comes-twice ts l.position c.index.result.now lt c.index.ensures c.in_ok-insert.field-0 at (sym c.is_some.ensures ∙ c.if-is_some.true)) ∙ l.invariant.0

pub loop-position-preserved : goal.loop-position-preserved
loop-position-preserved c =
    let l = c.loop-position in
    let ts = c.args.texts.items in
    let end : c.len-position-end.result ≡ length ts = search rules in
    let lt : l.position < length ts = omega (arith, end, c.loop-position-test.true) in
    let at = c.in_ok-insert.ensures.old ∙ l.invariant.1 (string_bytes c.in_ok-text.text) ∙ ap (λ s. place_of s (names (take l.position ts))) c.in_ok-text.ensures.cases in
    let none = sym c.is_some.ensures ∙ c.if-is_some.false in (
      comes-once ts l.position c.index.result.now lt c.index.ensures c.in_ok-insert.field-0 at none ∙ l.invariant.0,
      positions-on ts l.position c.index.result.now lt c.index.ensures l.positions c.insert.new.self c.in_ok-insert.field-0 l.invariant.1 at none
          (subst (λ s. UpdatesBy string_cmp (λ k. slice_cmp nat_cmp s (string_bytes k)) l.positions c.insert.new.self (Some l.position)) c.in_ok-text.ensures.cases c.in_ok-insert.ensures.updates),
    )

pub invariant_of-result : goal.invariant_of-result
invariant_of-result c =
    let l = c.loop-position in
    let ts = c.args.texts.items in
    let end : c.len-position-end.result ≡ length ts = search rules in
    λ s. l.invariant.1 s ∙ ap (place_of s) (ap names (all-taken ts l.position (omega (arith, end, c.loop-position-test.false))))
