-- One value more.
use Rattle.std.proofs.Common.{◌≡◌, ◌-◌, ◌<◌, [], length, Some, None, inl, inr, refl, sym, ap, ◌∙◌, arith}
use Rattle.std.proofs.lemmas.Result.{on_ok_weaker, on_err_weaker}
use Rattle.json.specs.Json.{after_end_array, parse_map, read_key, value}
use Rattle.json.proofs.Grammar.{read_key-shorter}
use Rattle.json.specs.declared.token.Token.TheVariants as tokens
use Rattle.serde_json.specs.Data.{array, boolean, item, no_items, no_members, null, object, put, string}
use Rattle.gateway_bodies.proofs.Turns.{item_read, item_refused, items_over, key_refused, mapped_by_none, mapped_twice, member_read, member_refused, members_over, on_err}
use Rattle.gateway_bodies.proofs.Values.{array_opened, array_too_deep, at_token, bad_refused, boolean_read, end_array_refused, end_object_refused, key_refused_as_value, mapped_read, mapped_refused, nothing_refused, null_read, number_read, number_refused, object_opened, object_too_deep, read_at, string_read}
use Rattle.gateway_bodies.proofs.passing.+pass.Goals as goal

pub pass_value-returns-in_err-token-clause-err : goal.pass_value-returns-in_err-token-clause-err
pass_value-returns-in_err-token-clause-err t c =
    let empty : c.args.reader.now ≡ [] = grind arith in
    on_err c.from_residual.result (ap (read_at c.args.depth) empty ∙ nothing_refused c.args.depth)

pub pass_rest-returns-in-String-clause-ok : goal.pass_rest-returns-in-String-clause-ok
pass_rest-returns-in-String-clause-ok t c =
    let n = c.args.depth in
    let ts = c.args.reader.now in
    elim c.in-String.is [
      | inl s ↦ (string s.0.now, at_token n ts c.args.token (tokens.String s.0) s.1 ∙ string_read n ts s.0.now)
      | inr other ↦ elim other [
        | inl b ↦ (boolean b.0, at_token n ts c.args.token (tokens.Bool b.0) b.1 ∙ boolean_read n ts b.0)
        | inr e ↦ (null, at_token n ts c.args.token tokens.Null e ∙ null_read n ts)
      ]
    ]

pub pass_rest-returns-then-not-is_in_range-clause-err : goal.pass_rest-returns-then-not-is_in_range-clause-err
pass_rest-returns-then-not-is_in_range-clause-err t c =
    let s = c.in-Number.number in
    at_token c.args.depth c.args.reader.now c.args.token (tokens.Number s) c.in-Number.is
    ∙ number_refused c.args.depth c.args.reader.now s.now (sym c.is_in_range.ensures ∙ c.if-not-is_in_range.true)

pub pass_rest-returns-else-not-is_in_range-clause-ok : goal.pass_rest-returns-else-not-is_in_range-clause-ok
pass_rest-returns-else-not-is_in_range-clause-ok t c =
    let s = c.in-Number.number in
    let read = number_read c.args.depth c.args.reader.now s.now (sym c.is_in_range.ensures ∙ c.if-not-is_in_range.false) in
    (read.0, at_token c.args.depth c.args.reader.now c.args.token (tokens.Number s) c.in-Number.is ∙ read.1)

pub pass_rest-returns-in-EndObject-clause-err : goal.pass_rest-returns-in-EndObject-clause-err
pass_rest-returns-in-EndObject-clause-err t c =
    let n = c.args.depth in
    let ts = c.args.reader.now in
    elim c.in-EndObject.is [
      | inl e ↦ at_token n ts c.args.token tokens.EndObject e ∙ end_object_refused n ts
      | inr other ↦ elim other [
        | inl e ↦ at_token n ts c.args.token tokens.EndArray e ∙ end_array_refused n ts
        | inr another ↦ elim another [
          | inl s ↦ at_token n ts c.args.token (tokens.Key s.0) s.1 ∙ key_refused_as_value n ts s.0.now
          | inr e ↦ at_token n ts c.args.token tokens.Bad e ∙ bad_refused n ts
        ]
      ]
    ]

pub pass_rest-returns-then-depth-eq0-clause-err : goal.pass_rest-returns-then-depth-eq0-clause-err
pass_rest-returns-then-depth-eq0-clause-err t c =
    at_token c.args.depth c.args.reader.now c.args.token tokens.BeginArray c.in-BeginArray.is
    ∙ array_too_deep c.args.depth c.args.reader.now (omega arith)

pub pass_rest-returns-then-depth-eq0-2-clause-err : goal.pass_rest-returns-then-depth-eq0-2-clause-err
pass_rest-returns-then-depth-eq0-2-clause-err t c =
    at_token c.args.depth c.args.reader.now c.args.token tokens.BeginObject c.in-BeginObject.is
    ∙ object_too_deep c.args.depth c.args.reader.now (omega arith)

pub pass_rest-returns-else-depth-eq0-clause-ok : goal.pass_rest-returns-else-depth-eq0-clause-ok
pass_rest-returns-else-depth-eq0-clause-ok t c =
    let opened = at_token c.args.depth c.args.reader.now c.args.token tokens.BeginArray c.in-BeginArray.is
    ∙ array_opened c.args.depth c.args.reader.now (omega arith) in
    on_ok_weaker c.pass_items.result (λ w. (array w.0, opened ∙ mapped_read array _ w.0 _ w.1)) c.pass_items.ensures.ok

pub pass_rest-returns-else-depth-eq0-clause-err : goal.pass_rest-returns-else-depth-eq0-clause-err
pass_rest-returns-else-depth-eq0-clause-err t c =
    let opened = at_token c.args.depth c.args.reader.now c.args.token tokens.BeginArray c.in-BeginArray.is
    ∙ array_opened c.args.depth c.args.reader.now (omega arith) in
    on_err_weaker c.pass_items.result (λ e. opened ∙ mapped_refused array _ e) c.pass_items.ensures.err

pub pass_rest-returns-else-depth-eq0-2-clause-ok : goal.pass_rest-returns-else-depth-eq0-2-clause-ok
pass_rest-returns-else-depth-eq0-2-clause-ok t c =
    let opened = at_token c.args.depth c.args.reader.now c.args.token tokens.BeginObject c.in-BeginObject.is
    ∙ object_opened c.args.depth c.args.reader.now (omega arith) in
    on_ok_weaker c.pass_members.result (λ w. (object w.0, opened ∙ mapped_read object _ w.0 _ w.1)) c.pass_members.ensures.ok

pub pass_rest-returns-else-depth-eq0-2-clause-err : goal.pass_rest-returns-else-depth-eq0-2-clause-err
pass_rest-returns-else-depth-eq0-2-clause-err t c =
    let opened = at_token c.args.depth c.args.reader.now c.args.token tokens.BeginObject c.in-BeginObject.is
    ∙ object_opened c.args.depth c.args.reader.now (omega arith) in
    on_err_weaker c.pass_members.result (λ e. opened ∙ mapped_refused object _ e) c.pass_members.ensures.err

pub pass_items-items-init : goal.pass_items-items-init
pass_items-items-init t c = (length c.args.reader.now, λ ds. ds, omega arith, mapped_by_none _, omega arith)

pub pass_items-items-preserved : goal.pass_items-items-preserved
pass_items-items-preserved t c =
    let p = value c.args.depth in
    let l = c.items in
    let n = l.invariant.0 in
    let before = l.invariant.1 in
    let going : (after_end_array l.reader ≡ None) × (c.take_end_array.new.self ≡ l.reader) = grind arith in
    let done = c.in_ok-pass_value.ensures in
    let r = c.pass_value.new.reader in
    let less : length r < length l.reader = rw (← going.1) done.shorter in
    let turn = item_read p n l.reader r done.ok.0 (omega (arith, l.invariant.2)) going.0 (rw (← going.1) done.ok.1) in (
      n - 1,
      λ ds. before (item done.ok.0 ds),
      omega (arith, l.invariant.2),
      l.invariant.3 ∙ ap (parse_map before) turn ∙ mapped_twice before (item done.ok.0) _,
      omega (arith, l.invariant.4),
    )

pub pass_items-returns-in_err-pass_value-clause-err : goal.pass_items-returns-in_err-pass_value-clause-err
pass_items-returns-in_err-pass_value-clause-err t c =
    let p = value c.args.depth in
    let l = c.items in
    let going : (after_end_array l.reader ≡ None) × (c.take_end_array.new.self ≡ l.reader) = grind arith in
    let refused = item_refused p l.invariant.0 l.reader going.0 (rw (← going.1) c.in_err-pass_value.ensures.err) in
    on_err c.from_residual.result (l.invariant.3 ∙ ap (parse_map l.invariant.1) refused)

pub pass_items-returns-clause-ok : goal.pass_items-returns-clause-ok
pass_items-returns-clause-ok t c =
    let l = c.items in
    let r = c.take_end_array.new.self in
    let over = items_over (value c.args.depth) l.invariant.0 l.reader r l.invariant.2 (grind arith) in
    (l.invariant.1 no_items, l.invariant.3 ∙ ap (parse_map l.invariant.1) over)

pub pass_members-members-init : goal.pass_members-members-init
pass_members-members-init t c = (length c.args.reader.now, no_members, omega arith, refl, omega arith)

pub pass_members-returns-in_err-_key-clause-err : goal.pass_members-returns-in_err-_key-clause-err
pass_members-returns-in_err-_key-clause-err t c =
    let l = c.members in
    on_err c.from_residual.result (l.invariant.3 ∙ key_refused (value c.args.depth) l.invariant.1 l.invariant.0 l.reader c.in_err-_key.ensures.value)

pub pass_members-members-preserved : goal.pass_members-members-preserved
pass_members-members-preserved t c =
    let p = value c.args.depth in
    let l = c.members in
    let n = l.invariant.0 in
    let all = l.invariant.1 in
    let k = c.in-Some._key.now in
    let s = c.next_key.new.self in
    let named : read_key l.reader ≡ Some (Some k, s) = grind arith in
    let done = c.in_ok-pass_value.ensures in
    let r = c.pass_value.new.reader in
    let less = read_key-shorter l.reader (Some k) s named in
    let lesser = done.shorter in (
      n - 1,
      put k done.ok.0 all,
      omega (arith, l.invariant.2),
      l.invariant.3 ∙ member_read p all n k l.reader s r done.ok.0 (omega (arith, l.invariant.2)) named done.ok.1,
      omega (arith, l.invariant.4),
    )

pub pass_members-returns-in_err-pass_value-clause-err : goal.pass_members-returns-in_err-pass_value-clause-err
pass_members-returns-in_err-pass_value-clause-err t c =
    let l = c.members in
    let k = c.in-Some._key.now in
    let s = c.next_key.new.self in
    let named : read_key l.reader ≡ Some (Some k, s) = grind arith in
    on_err c.from_residual-in_err-pass_value.result
    (l.invariant.3 ∙ member_refused (value c.args.depth) l.invariant.1 l.invariant.0 k l.reader s named c.in_err-pass_value.ensures.err)

pub pass_members-returns-clause-ok : goal.pass_members-returns-clause-ok
pass_members-returns-clause-ok t c =
    let l = c.members in
    (l.invariant.1, l.invariant.3 ∙ members_over (value c.args.depth) l.invariant.1 l.invariant.0 l.reader c.next_key.new.self l.invariant.2 (grind arith))
