-- One alias more.
use Rattle.std.proofs.Common.{◌≤◌, ◌==◌, ◌+◌, arith, length}
use Rattle.spec_avro.specs.Node.{names_of}
use Rattle.program_compiler.specs.NamedTypes.{last_parts, stands_under}
use Rattle.program_compiler.proofs.NamedTypes.{alias_part, named_on, no_more}
use Rattle.program_compiler.proofs.named_types.put_names.Goals as goal
use Rattle.program_compiler.proofs.named_types.put_names.Goals.{in-Some+in_ok-put-2, in_default}

pub loop-position-preserved : goal.loop-position-preserved
loop-position-preserved c = λ last n.
    let names = names_of c.args.name.now c.args.aliases.now in
    let p = c.loop-position.position in
    elim c.match-last.branch [
      | in-Some+in_ok-put-2 w ↦ rw w.nodes-is
          (named_on (last_parts names) (p + 1) w.in-Some.last.now last (n == c.args.node) (stands_under c.loop-position.nodes last n) (stands_under w.put-in-Some.new.nodes last n) (stands_under c.args.nodes.now last n)
          (alias_part names p w.in-Some.last.now w.in-Some.ensures) (c.loop-position.invariant last n) (w.in_ok-put-2.ensures last n))
      | in_default w ↦ absurd (let past : length names.aliases ≤ p = no_more names.aliases p w.in_default.ensures in omega (arith, past, c.loop-position-test.true, c.len-position-end.ensures, c.loop-position.auto.position-end))
    ]
