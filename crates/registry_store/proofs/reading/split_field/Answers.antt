use Rattle.std.proofs.Common.{All, ◌≢◌, ◌∙◌, ◌+◌, ◌-◌, arith, drop, length, length-drop, subst}
use Rattle.registry_store.proofs.Fields.{found_split, no_split}
use Rattle.std.proofs.lemmas.List.{take_all}
use Rattle.registry_store.proofs.reading.split_field.Goals as goal

pub returns-then-byte-eq-SPACE : goal.returns-then-byte-eq-SPACE
returns-then-byte-eq-SPACE c = λ field rest lacks e.
    let parts = found_split 32 c.args.bytes.now field rest c.loop-at.at (omega arith) c.if-byte-eq-SPACE.true c.loop-at.invariant lacks e in
    let front = parts.0 in
    let bytes = c.args.bytes.now in
    let at = c.loop-at.at in
    let left = length-drop (at + 1) bytes in
    (front, take_all (length bytes - (at + 1)) (drop (at + 1) bytes) (omega (arith, left)) ∙ parts.1)

pub returns : goal.returns
returns c = λ field rest lacks e.
    no_split 32 c.args.bytes.now field rest (subst (All (λ b. b ≢ 32)) (take_all c.loop-at.at c.args.bytes.now (omega arith)) c.loop-at.invariant) e
