-- An answer is written as what is resolved, and that conforms and can be written.
use Rattle.std.proofs.Common.{◌≤◌, ℕ, List, lit≤, sym, subst, arith}
use Rattle.spec_avro.specs.declared.limits.TheConstants.{MOST_CONTENT, MOST_TEXT}
use Rattle.spec_avro.specs.Conforming.{Conforms}
use Rattle.spec_avro.specs.Datum.{Datum}
use Rattle.spec_avro.specs.Node.{Node}
use Rattle.spec_avro.specs.WellFormed.{IsWellFormed}
use Rattle.spec_avro.specs.Sizes.{DefaultsHaveSizesWithin}
use Rattle.avro_types.specs.Laws.LargerSizes.{defaults-within}
use Rattle.spec_avro.specs.Writable.{IsWritable, most_items}
use Rattle.spec_avro.specs.Spelling.{Spells, units_of}
use Rattle.spec_avro.specs.Writing.{written}
use Rattle.spec_avro.specs.Answers.{AnswersAreSpelled, ResolutionIsWhole}
use Rattle.resolver.proofs.Writable.{datum_writable}

abbrev AreOfType : Type 0
AreOfType = (nodes : List Node) (node : ℕ) (d : Datum) (bytes : List ℕ) → Spells nodes node d bytes → Conforms nodes node d

abbrev CanBeWritten : Type 0
CanBeWritten = (nodes : List Node) (node : ℕ) (d : Datum) (bytes : List ℕ) → Spells nodes node d bytes → units_of d ≤ most_items → IsWritable d

abbrev AreWritten : Type 0
AreWritten = (nodes : List Node) (node : ℕ) (d : Datum) → IsWellFormed nodes → Conforms nodes node d → IsWritable d → Spells nodes node d (written d)

pub answers_spelled : (W R : List Node) → IsWellFormed R → DefaultsHaveSizesWithin MOST_TEXT MOST_TEXT R → ResolutionIsWhole W R → AreOfType → CanBeWritten → AreWritten → AnswersAreSpelled W R
answers_spelled W R formed within whole of_type writable spells payload bytes o =
    let e = whole 0 0 o.0 o.1 (of_type W 0 o.0 payload o.2.spelled) o.3 in
    let d = writable W 0 o.0 payload o.2.spelled (omega (arith, o.2.fits.1)) in
    let defaults = defaults-within MOST_TEXT MOST_TEXT MOST_CONTENT most_items (lit≤ tt) (lit≤ tt) R within in
    (o.0, o.1, o.2, o.3, e, subst (Spells R 0 o.1) (sym o.4) (spells R 0 o.1 formed e (datum_writable W R defaults o.0 0 0 o.1 d o.3)))
