-- The laws of what a value declares.
use Rattle.std.proofs.Common.{◌≡◌, ℕ, List, [], length, sym, ap, ◌∙◌, slice_get}
use Rattle.serde_json.specs.Data.{Data}
use Rattle.spec_schema.specs.Draft.{Draft}
use Rattle.spec_schema.specs.Head.{heads_of}
use Rattle.spec_schema.specs.Walk.{walk}
use Rattle.spec_schema.specs.Declaring.{Declares, a_fixed, a_map, a_primitive, a_record, a_reference, a_union, an_array, an_enum, another}
use Rattle.avro_schema.specs.DeclaringLaws.{DeclaresWhatIsGiven, GivesWhatIsDeclared}
use Rattle.avro_types.specs.Laws.Booleans.{none_some}
use Rattle.avro_schema.proofs.DeclaringComplete.{complete}
use Rattle.avro_schema.proofs.DeclaringSound.{good, given-ok}

pub declares : DeclaresWhatIsGiven
declares d enclosing before n added e = given-ok (Declares d enclosing before) (walk d enclosing (heads_of before)) (good d enclosing before) n added e

pub gives : GivesWhatIsDeclared
gives d enclosing before n added only h = complete h only

-- ---- the root

pub root_is : {d : Data} {enclosing : List ℕ} {before : List Draft} {n : ℕ} {added : List Draft} → Declares d enclosing before n added → before ≡ [] → n ≡ 0
root_is (a_primitive p lt) e = ap length e
root_is (a_reference {n = n} p at) e = absurd (none_some at.0 (ap (λ ds. slice_get ds n) (sym e) ∙ at.1))
root_is (a_union lt parts apart) e = ap length e
root_is (an_array is lt at part) e = ap length e
root_is (a_map is lt at part) e = ap length e
root_is (a_record is lt name at parts apart few) e = ap length e
root_is (an_enum is lt name a b) e = ap length e
root_is (a_fixed is lt name a) e = ap length e
root_is (another is none part) e = root_is part e
