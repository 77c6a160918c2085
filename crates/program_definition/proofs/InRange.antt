-- The program of a pair is one that names what is there.
use Rattle.std.proofs.Common.{◌≡◌, ℕ, ◌+◌, ◌<◌, ◌≤◌, Bool, true, false, List, [], ◌∷◌, length, map, Option, Some, None, refl, ap, subst, arith, length-append}
use Rattle.std.specs.Prelude.{if◌then◌else◌}
use Rattle.std.specs.List.{AllByRecursion}
use Rattle.std.specs.Str.{bytes_eq}
use Rattle.std.proofs.lemmas.List.{length-map}
use Rattle.spec_avro.specs.Node.{Node}
use Rattle.spec_avro.specs.WellFormed.{IsWellFormed}
use Rattle.spec_machine.specs.declared.limits.TheConstants.{MOST_INSTRS}
use Rattle.spec_machine.specs.Judging.{is_within_limits}
use Rattle.spec_machine.specs.Program.{Program}
use Rattle.spec_machine.specs.Range.{IsProgram, MissIsInRange}
use Rattle.spec_machine.specs.Code.{assembled, code_of, statements_of, reached, start_in}
use Rattle.program_definition.specs.Limits.{whole_program}
use Rattle.spec_machine.specs.Statements.{Section, Main, Statement}
use Rattle.program_definition.specs.Linking.{ProgramIsInRange}
use Rattle.spec_machine.specs.Numbering.{calls_of, constants_of, entry_of, has, jumps_from, maps_of, misses_of, named_in, same_miss, same_section}
use Rattle.spec_machine.specs.Writing.{section}
use Rattle.program_definition.proofs.Callers.{all_added}
use Rattle.program_definition.proofs.Closed.{Closed, all_called, reached_closed}
use Rattle.program_definition.proofs.Good.{AllGood}
use Rattle.program_definition.proofs.Linked.{is_whole}
use Rattle.program_definition.proofs.Numbers.{Extends, added, bytes_refl, miss_refl, section_refl}
use Rattle.program_definition.proofs.Ranges.{code_length, constants_some, instrs_in_range, jumps_in_range, maps_in_range, misses_in_range, within_limits}
use Rattle.program_definition.proofs.Whole.{all_statements_good, some_statements}

module _ (W R : List Node) where
  -- a section that is listed begins where there are statements
  begins_below : (pc : ℕ) (ss : List Section) (s : Section) → has same_section s ss ≡ true → start_in (section W R) pc ss s < pc + length (statements_of (section W R) ss)
  begins_below pc [] s is = absurd cc
  begins_below pc (x ∷ ss) s is = go (same_section s x) (begins_below (pc + length (section W R x)) ss s) is
    where
      all : length (statements_of (section W R) (x ∷ ss)) ≡ length (section W R x) + length (statements_of (section W R) ss)
      all = length-append (section W R x) (statements_of (section W R) ss)

      go : (b : Bool) → (has same_section s ss ≡ true → start_in (section W R) (pc + length (section W R x)) ss s < pc + length (section W R x) + length (statements_of (section W R) ss)) → (if b then true else has same_section s ss) ≡ true → (if b then pc else start_in (section W R) (pc + length (section W R x)) ss s) < pc + length (statements_of (section W R) (x ∷ ss))
      go true rest is = let some = some_statements W R x in omega (arith, all, some)
      go false rest is = let lt = rest is in omega (arith, all, lt)

  all_below : (ss ms : List Section) (n : ℕ) → length (statements_of (section W R) ss) ≤ n → AllByRecursion (λ s. has same_section s ss ≡ true) ms → AllByRecursion (λ s. start_in (section W R) 0 ss s < n) ms
  all_below ss [] n le h = tt
  all_below ss (m ∷ ms) n le h = (let lt = begins_below 0 ss m h.0 in omega (arith, le, lt), all_below ss ms n le h.1)

  statements_some : (ss : List Section) → has same_section Main ss ≡ true → 0 < length (statements_of (section W R) ss)
  statements_some ss is = let lt = begins_below 0 ss Main is in omega (arith, lt)

  module _ (ss : List Section) (closed : Closed (section W R) ss) (begins : Extends same_section section_refl (Main ∷ []) ss) (good : AllGood W R 0 (statements_of (section W R) ss)) where
    abbrev statements : List Statement
    statements = statements_of (section W R) ss

    abbrev starts : Section → ℕ
    starts = start_in (section W R) 0 ss

    abbrev P : Program
    P = whole_program W R ss

    in_range : is_within_limits P ≡ true → IsProgram P
    in_range within =
        let long = code_length starts P.constants P.misses 0 0 0 statements in
        let some = statements_some ss (ap (has same_section Main) begins.1) in
        let constants = (added bytes_eq bytes_refl (named_in constants_of statements) []).1 in
        let misses = (added same_miss miss_refl (named_in misses_of statements) []).1 in
        let called = all_below ss (named_in calls_of statements) (length P.code) (omega (arith, long)) (all_called (section W R) ss ss closed) in
        let code : 0 + length statements ≤ length P.code = omega (arith, long) in
        let maps : 0 + length (named_in maps_of statements) ≤ length P.maps = omega (arith, length-map (named_in maps_of statements) (map (entry_of P.misses))) in
        let jumps : 0 + length (jumps_from 0 statements) ≤ length P.jumps = omega arith in
        record {
          some = omega (arith, long, some);
          within = within_limits P within;
          constants = all_added bytes_eq (λ x. 0 < length x) (named_in constants_of statements) [] (constants_some W R 0 statements good) tt;
          entries = maps_in_range W R P starts 0 statements good misses;
          addresses = jumps_in_range W R P starts 0 statements code good;
          misses = all_added same_miss MissIsInRange (named_in misses_of statements) [] (misses_in_range W R 0 statements good) tt;
          instrs = instrs_in_range W R P starts 0 0 0 statements code maps jumps constants misses called good;
        }

pub program_is_in_range : (W R : List Node) → IsWellFormed W → IsWellFormed R → ProgramIsInRange W R
unfolding code_of
program_is_in_range W R formed theirs P h = go (reached (section W R) MOST_INSTRS 0 (Main ∷ [])) refl h
  where
    go : (o : Option (List Section)) → reached (section W R) MOST_INSTRS 0 (Main ∷ []) ≡ o → assembled (section W R) o ≡ Some P → IsProgram P
    go None e h = absurd cc
    go (Some ss) e h =
        let found = reached_closed (section W R) MOST_INSTRS ss e in
        let is = is_whole (statements_of (section W R) ss) (whole_program W R ss) P h in
        subst IsProgram is.same (in_range W R ss found.0 found.1 (all_statements_good W R formed theirs MOST_INSTRS ss e) is.within)
