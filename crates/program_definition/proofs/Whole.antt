-- All statements of a pair are good, and so none is lost.
use Rattle.std.proofs.Common.{◌≡◌, ℕ, ◌+◌, ◌<◌, ◌≤◌, true, false, List, [], ◌∷◌, ◌++◌, length, Option, Some, None, refl, ap, ◌∙◌, arith, length-append}
use Rattle.std.specs.Prelude.{slice_get, if◌then◌else◌}
use Rattle.std.specs.List.{AllByRecursion}
use Rattle.spec_avro.specs.Node.{Node, FieldNode, RecordNode}
use Rattle.spec_avro.specs.WellFormed.{IsWellFormed}
use Rattle.spec_avro.specs.Options.{given}
use Rattle.spec_avro.specs.Resolution.{field_lists}
use Rattle.spec_machine.specs.declared.instr.Instr.TheVariants as op
use Rattle.spec_machine.specs.Code.{are_whole, is_lost, statements_of}
use Rattle.program_definition.specs.Limits.{AreAll, NoStatementIsLost}
use Rattle.spec_machine.specs.Statements.{Section, Main, Write, Skip, Statement, Op, Put, Miss, BytesText, Enum, Call, Ahead, Back, Branch, Lost}
use Rattle.spec_machine.specs.Numbering.{calls_of, named_in}
use Rattle.spec_machine.specs.Skipping.{skip_routine}
use Rattle.spec_machine.specs.Writing.{X, section, write_routine}
use Rattle.program_definition.proofs.Callers.{all_reached}
use Rattle.program_definition.proofs.Good.{AllGood, IsGood, IsRoutine, good_then}
use Rattle.program_definition.proofs.GoodSections.{good_section}

module _ (W R : List Node) where
  one_call : (n : ℕ) (l : Statement) → IsGood W R n l → AllByRecursion (IsRoutine W R) (calls_of l)
  one_call n (Call s) h = (h, tt)
  one_call n (Op i) h = tt
  one_call n (Put bytes) h = tt
  one_call n (Miss m) h = tt
  one_call n (BytesText m) h = tt
  one_call n (Enum targets) h = tt
  one_call n (Ahead go far) h = tt
  one_call n (Back far) h = tt
  one_call n (Branch fars) h = tt
  one_call n Lost h = tt

  both : (xs ys : List Section) → AllByRecursion (IsRoutine W R) xs → AllByRecursion (IsRoutine W R) ys → AllByRecursion (IsRoutine W R) (xs ++ ys)
  both [] ys h k = k
  both (x ∷ xs) ys h k = (h.0, both xs ys h.1 k)

  calls_good : (k : ℕ) (ls : List Statement) → AllGood W R k ls → AllByRecursion (IsRoutine W R) (named_in calls_of ls)
  calls_good k [] h = tt
  calls_good k (l ∷ ls) h = both (calls_of l) (named_in calls_of ls) (one_call (length ls + k) l h.0) (calls_good k ls h.1)

  not_lost : (n : ℕ) (l : Statement) → IsGood W R n l → is_lost l ≡ false
  not_lost n Lost h = absurd h
  not_lost n _ h = refl

  whole : (k : ℕ) (ls : List Statement) → AllGood W R k ls → are_whole ls ≡ true
  whole k [] h = refl
  whole k (l ∷ ls) h = ap (λ b. if b then false else are_whole ls) (not_lost (length ls + k) l h.0) ∙ whole k ls h.1

  -- ---- a section has statements

  pub some_statements : (s : Section) → 0 < length (section W R s)
  unfolding section
  some_statements Main = omega (arith, length-append (X W R 0 0) (Op op.Halt ∷ []))
  some_statements (Write w r) = go (field_lists (slice_get W w) (slice_get R r))
    where
      go : (o : Option (List FieldNode × List FieldNode)) → 0 < length (given o (Lost ∷ []) (λ p. write_routine W R p.0 p.1))
      go None = omega arith
      go (Some p) = omega arith
  some_statements (Skip w) = go (slice_get W w)
    where
      go : (o : Option Node) → 0 < length (skip_routine W o)
      go (Some (RecordNode names fields)) = omega arith
      go _ = omega arith

  pub sections_long : (ss : List Section) → length ss ≤ length (statements_of (section W R) ss)
  sections_long [] = omega arith
  sections_long (s ∷ ss) = let one = some_statements s in let more = sections_long ss in omega (arith, one, more, length-append (section W R s) (statements_of (section W R) ss))

  -- ---- all sections

  module _ (formed : IsWellFormed W) (theirs : IsWellFormed R) where
    pub routines_called : (s : Section) → IsRoutine W R s → AllByRecursion (IsRoutine W R) (named_in calls_of (section W R s))
    routines_called s is = calls_good 0 (section W R s) (good_section W R formed theirs s is)

    good_statements : (ss : List Section) → AllByRecursion (IsRoutine W R) ss → AllGood W R 0 (statements_of (section W R) ss)
    good_statements [] h = tt
    good_statements (s ∷ ss) h = good_then W R 0 0 (section W R s) (statements_of (section W R) ss) (omega arith) (good_section W R formed theirs s h.0) (good_statements ss h.1)

    pub all_statements_good : (n : ℕ) (ss : List Section) → AreAll W R n ss → AllGood W R 0 (statements_of (section W R) ss)
    all_statements_good n ss h = good_statements ss (all_reached (section W R) (IsRoutine W R) routines_called n 0 (Main ∷ []) ss (tt, tt) h)

    pub no_statement_is_lost : NoStatementIsLost W R
    no_statement_is_lost n ss h = whole 0 (statements_of (section W R) ss) (all_statements_good n ss h)
