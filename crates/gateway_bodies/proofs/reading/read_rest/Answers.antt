-- One member more.
use Rattle.std.proofs.Common.{◌≡◌, ◌-◌, Some, ◌∙◌, arith}
use Rattle.json.specs.Json.{read_key, value}
use Rattle.json.proofs.Grammar.{read_key-shorter}
use Rattle.serde_json.specs.Data.{put}
use Rattle.gateway_bodies.proofs.Turns.{key_refused, member_read, member_refused, members_over}
use Rattle.gateway_bodies.proofs.reading.read_rest.Goals as goal

pub returns-in_err-key-clause-err : goal.returns-in_err-key-clause-err
returns-in_err-key-clause-err c = λ e.
    let l = c.members in
    l.invariant.3 ∙ key_refused (value 126) l.invariant.1 l.invariant.0 l.reader c.in_err-key.ensures.value

pub returns-in_err-value-clause-err : goal.returns-in_err-value-clause-err
returns-in_err-value-clause-err c = λ e.
    let l = c.members in
    let k = c.in-Some.key.now in
    let s = c.next_key.new.self in
    let named : read_key l.reader ≡ Some (Some k, s) = grind arith in
    l.invariant.3 ∙ member_refused (value 126) l.invariant.1 l.invariant.0 k l.reader s named (c.read_value.ensures.err (grind arith))

pub members-preserved : goal.members-preserved
members-preserved c =
    let p = value 126 in
    let l = c.members in
    let n = l.invariant.0 in
    let all = l.invariant.1 in
    let k = c.in-Some.key.now in
    let s = c.next_key.new.self in
    let named : read_key l.reader ≡ Some (Some k, s) = grind arith in
    let done = c.in_ok-value.ensures in
    let r = c.read_value.new.reader in
    let less = read_key-shorter l.reader (Some k) s named in
    let lesser = done.shorter in (
      n - 1,
      put k done.ok.0 all,
      omega (arith, l.invariant.2),
      l.invariant.3 ∙ member_read p all n k l.reader s r done.ok.0 (omega (arith, l.invariant.2)) named done.ok.1,
      c.put.ensures all done.ok.0 l.invariant.4 done.ok.2,
    )

pub returns-clause-ok : goal.returns-clause-ok
returns-clause-ok c =
    let l = c.members in
    (l.invariant.1, l.invariant.3 ∙ members_over (value 126) l.invariant.1 l.invariant.0 l.reader c.next_key.new.self l.invariant.2 (grind arith), l.invariant.4)
