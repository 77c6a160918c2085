-- The program of a pair is linked.
use Rattle.std.proofs.Common.{◌≡◌, ℕ, ◌+◌, Bool, true, false, cond, ◌&&◌, List, [], ◌∷◌, ◌++◌, length, Option, Some, None, refl, sym, ap, subst}
use Rattle.std.specs.Prelude.{if◌then◌else◌}
use Rattle.std.specs.List.{AllByRecursion}
use Rattle.std.specs.Str.{bytes_eq}
use Rattle.spec_avro.specs.Node.{Node}
use Rattle.spec_avro.specs.WellFormed.{IsWellFormed}
use Rattle.spec_machine.specs.declared.limits.TheConstants.{MOST_INSTRS}
use Rattle.spec_machine.specs.Judging.{is_within_limits}
use Rattle.spec_machine.specs.Program.{Program}
use Rattle.spec_machine.specs.Code.{are_whole, assembled, code_of, statements_of, reached, start_in}
use Rattle.program_definition.specs.Limits.{whole_program}
use Rattle.spec_machine.specs.Statements.{Section, Main, Write, Skip, Statement}
use Rattle.program_definition.specs.Linking.{BeginsIn, IsLinked, ProgramIsLinked}
use Rattle.spec_machine.specs.Numbering.{calls_of, constants_of, has, misses_of, named_in, numbered, same_miss, same_section}
use Rattle.spec_machine.specs.Writing.{section}
use Rattle.program_definition.proofs.Closed.{Closed, all_called, reached_closed}
use Rattle.program_definition.proofs.Numbering.{all_stand, from_start}
use Rattle.program_definition.proofs.Numbers.{Extends, added, bytes_refl, miss_refl, section_is, section_refl}
use Rattle.program_definition.proofs.Placed.{Placed, placed_front, placed_back}
use Rattle.program_definition.proofs.Sections.{main_section, skip_section, write_section}

program_stands : (starts : Section → ℕ) (Begins : Section → ℕ → Type 0) (ls : List Statement) → are_whole ls ≡ true → AllByRecursion (λ s. Begins s (starts s)) (named_in calls_of ls) → Placed (numbered starts ls) Begins 0 ls
program_stands starts Begins ls whole called =
    let P = numbered starts ls in
    all_stand P starts Begins 0 0 0 ls (from_start P.code) (from_start P.maps) (from_start P.jumps) (added bytes_eq bytes_refl (named_in constants_of ls) []).1 (added same_miss miss_refl (named_in misses_of ls) []).1 called whole

module _ (section : Section → List Statement) (P : Program) (Begins : Section → ℕ → Type 0) where
  sections_placed : (pc : ℕ) (ss : List Section) (s : Section) → Placed P Begins pc (statements_of section ss) → has same_section s ss ≡ true → Placed P Begins (start_in section pc ss s) (section s)
  sections_placed pc [] s h is = absurd cc
  sections_placed pc (x ∷ ss) s h is = go (same_section s x) refl (sections_placed (pc + length (section x)) ss s (placed_back P Begins pc (section x) (statements_of section ss) h)) is
    where
      go : (b : Bool) → same_section s x ≡ b → (has same_section s ss ≡ true → Placed P Begins (start_in section (pc + length (section x)) ss s) (section s)) → (if b then true else has same_section s ss) ≡ true → Placed P Begins (if b then pc else start_in section (pc + length (section x)) ss s) (section s)
      go true e rest is = subst (λ k. Placed P Begins pc (section k)) (sym (section_is s x e)) (placed_front P Begins pc (section x) (statements_of section ss) h)
      go false e rest is = rest is

-- what is known where there is a program
pub record IsWhole (ls : List Statement) (Q P : Program) : Type 0 where
  pub whole : are_whole ls ≡ true
  pub within : is_within_limits Q ≡ true
  pub same : Q ≡ P

pub is_whole : (ls : List Statement) (Q P : Program) → cond (are_whole ls && is_within_limits Q) (Some Q) None ≡ Some P → IsWhole ls Q P
is_whole ls Q P h = go (are_whole ls) (is_within_limits Q) refl refl h
  where
    go : (a b : Bool) → are_whole ls ≡ a → is_within_limits Q ≡ b → cond (a && b) (Some Q) None ≡ Some P → IsWhole ls Q P
    go true true e f h = record { whole = e; within = f; same = cc }
    go true false e f h = absurd cc
    go false b e f h = absurd cc

module _ (W R : List Node) (formed : IsWellFormed W) (ss : List Section) (closed : Closed (section W R) ss) (begins : Extends same_section section_refl (Main ∷ []) ss) where
  abbrev statements : List Statement
  statements = statements_of (section W R) ss

  abbrev starts : Section → ℕ
  starts = start_in (section W R) 0 ss

  abbrev P : Program
  P = whole_program W R ss

  abbrev Begins : Section → ℕ → Type 0
  Begins s a = BeginsIn W R ss s a

  all_begin : (ms : List Section) → AllByRecursion (λ s. has same_section s ss ≡ true) ms → AllByRecursion (λ s. Begins s (starts s)) ms
  all_begin [] h = tt
  all_begin (m ∷ ms) h = (record { is_listed = h.0; at = refl }, all_begin ms h.1)

  all_placed : are_whole statements ≡ true → Placed P Begins 0 statements
  all_placed whole = program_stands starts Begins statements whole (all_begin (named_in calls_of statements) (all_called (section W R) ss ss closed))

  placed_at : are_whole statements ≡ true → (s : Section) (a : ℕ) → Begins s a → Placed P Begins a (section W R s)
  placed_at whole s a is = subst (λ k. Placed P Begins k (section W R s)) is.at (sections_placed (section W R) P Begins 0 ss s (all_placed whole) is.is_listed)

  main_begins : (qs : List Section) → qs ≡ (Main ∷ []) ++ begins.0 → BeginsIn W R qs Main 0
  main_begins qs e = record { is_listed = ap (has same_section Main) e; at = ap (λ l. start_in (section W R) 0 l Main) e }

  is_linked : are_whole statements ≡ true → IsLinked W R P
  is_linked whole = record {
    listed = ss;
    opening = main_section W R P Begins formed (placed_at whole Main 0 (main_begins ss begins.1));
    writes = λ w r a is. write_section W R P Begins formed a w r (placed_at whole (Write w r) a is);
    skips = λ w a is. skip_section W R P Begins formed a w (placed_at whole (Skip w) a is);
  }

pub program_is_linked : (W R : List Node) → IsWellFormed W → ProgramIsLinked W R
unfolding code_of
program_is_linked W R formed P h = go (reached (section W R) MOST_INSTRS 0 (Main ∷ [])) refl h
  where
    go : (o : Option (List Section)) → reached (section W R) MOST_INSTRS 0 (Main ∷ []) ≡ o → assembled (section W R) o ≡ Some P → IsLinked W R P
    go None e h = absurd cc
    go (Some ss) e h =
        let good = reached_closed (section W R) MOST_INSTRS ss e in
        let is = is_whole (statements_of (section W R) ss) (whole_program W R ss) P h in
        subst (IsLinked W R) is.same (is_linked W R formed ss good.0 good.1 is.whole)
