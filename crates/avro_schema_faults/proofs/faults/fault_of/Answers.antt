use Rattle.std.proofs.Common.{arith}
use Rattle.serde_json.specs.View.{view}
use Rattle.avro_schema_faults.proofs.Found.{length-found, text-found, value-found}
use Rattle.avro_schema_faults.proofs.faults.fault_of.Goals as goal

pub returns-then-text-gt-MOST_TEXT : goal.returns-then-text-gt-MOST_TEXT
returns-then-text-gt-MOST_TEXT c = length-found c.args.text.now _ (omega arith) c.whole.ensures

pub returns-in-Ok : goal.returns-in-Ok
returns-in-Ok c = value-found c.fault_in.result c.args.text.now (view c.in-Ok.value) (omega arith) c.in-Ok.ensures.ok c.fault_in.ensures

pub returns-in-Err-2 : goal.returns-in-Err-2
returns-in-Err-2 c =
    let none = c.in-Err.ensures.err (λ m. let yes = c.is_memory.ensures.1 m in let not = c.if-is_memory.false in let no : ⊥ = cc in no) in
    text-found c.args.text.now _ (omega arith) none c.whole-in-Err-2.ensures
