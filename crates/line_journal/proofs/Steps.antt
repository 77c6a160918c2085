-- What each step of a journal leaves, from what the calls of the disk say.
use Rattle.std.proofs.Common.{◌≡◌, ◌⊎◌, ℕ, ◌+◌, ◌<◌, ◌≤◌, List, [], ◌∷◌, ◌++◌, length, drop, Result, Ok, Err, IsOk, OnOk, OnErr, ⊎_elim, refl, sym, ◌∙◌, ap, subst, arith, append_assoc, length-append, inl, inr}
use Rattle.std.specs.List.{flat_map, AllByRecursion}
use Rattle.std.proofs.lemmas.List.{append-nil}
use Rattle.sqlite_disk.specs.Disk.{Holds, Torn, Cut, Follows, Only}
use Rattle.line_journal.specs.Lines.{Line, IsLine, IsNewLine, IsHalf, IsHalfOpen, block, closed_gate, at_rest, lines_in, line_and_gate, staged, HasRest}
use Rattle.line_journal.specs.Journal.{IsBeforeOrAfter, IsGateBetween, IsGateWrite}
use Rattle.line_journal.specs.declared.error.Damage.{Damage}
use Rattle.line_journal.specs.declared.layout.TheConstants.{OPEN, CLOSED, NEWLINE, LONGEST}
use Rattle.line_journal.proofs.Blocks.{lines_with_rest, lines_half_open}
use Rattle.line_journal.proofs.Writes.{torn_past, written_past, cut_past}
use Rattle.line_journal.proofs.Crash.{are-before, length-at_rest, staged_open, one_open, any_gate}

-- what comes after the closed gate does not count
pub has_rest-lines : (lines : List Line) (c : List ℕ) → AllByRecursion IsLine lines → HasRest lines c → lines_in c ≡ Ok lines
has_rest-lines lines c are has =
    ap lines_in (has.split ∙ append_assoc (flat_map block lines) closed_gate has.rest) ∙ lines_with_rest lines has.rest are has.few

pub has_rest-at_rest : (lines : List Line) (c : List ℕ) → c ≡ at_rest lines → HasRest lines c
has_rest-at_rest lines c is = record { rest = []; split = is ∙ sym (append-nil (at_rest lines)); few = omega arith }

module _ (lines : List Line) (gate : ℕ) (at : gate ≡ length (flat_map block lines)) where
  past : gate + 2 ≡ length (at_rest lines)
  past = omega (arith, length-at_rest lines)

  module _ (line : Line) (bytes : List ℕ) (are : bytes ≡ line_and_gate line) (is : IsNewLine line) where
    few : length bytes ≤ LONGEST + 3
    few = omega (arith, ap length are, length-append line (NEWLINE ∷ closed_gate), is.1)

    -- while the line is written
    pub left_past : (old : List ℕ) (before after : List ℕ → Type 0) → old ≡ at_rest lines → Only old before → Follows (Torn (gate + 2) (length bytes)) before after
        → (c : List ℕ) → after c → HasRest lines c
    left_past old before after file only follows c left =
        let from = follows c left in
        let torn = subst (λ (d : List ℕ). Torn (gate + 2) (length bytes) d c) (only from.0 from.1 ∙ file) from.2 in
        let end = torn_past (length bytes) (at_rest lines) c (subst (λ (n : ℕ). Torn n (length bytes) (at_rest lines) c) past torn) in
        record { rest = drop (length (at_rest lines)) c; split = end.0; few = omega (arith, end.1, few) }

    -- once it is written
    pub is_written : (old new : List ℕ) → old ≡ at_rest lines → Torn (gate + 2) (length bytes) old new → (0 < length bytes → Holds new (gate + 2) bytes)
        → new ≡ staged lines CLOSED CLOSED line
    is_written old new file torn holds =
        let some : 0 < length bytes = omega (arith, ap length are, length-append line (NEWLINE ∷ closed_gate)) in
        let torn_there = subst (λ (n : ℕ). Torn n (length bytes) (at_rest lines) new) past (subst (λ (d : List ℕ). Torn (gate + 2) (length bytes) d new) file torn) in
        let holds_there = subst (λ (n : ℕ). Holds new n bytes) past (holds some) in
        written_past (at_rest lines) new bytes torn_there holds_there ∙ ap (λ (l : List ℕ). at_rest lines ++ l) are
        ∙ append_assoc (flat_map block lines) closed_gate (line_and_gate line)

  module _ (line : Line) (are : AllByRecursion IsLine lines) (is : IsNewLine line) where
    -- while the gate is opened
    pub left_opening : (old : List ℕ) (before after : List ℕ → Type 0) → old ≡ staged lines CLOSED CLOSED line → Only old before → Follows (IsGateWrite gate OPEN) before after
        → (c : List ℕ) → after c → IsBeforeOrAfter lines line c
    left_opening old before after file only follows c left =
        let from = follows c left in
        let got = from.2 (flat_map block lines) (line_and_gate line) CLOSED CLOSED at (only from.0 from.1 ∙ file) in
        subst (IsBeforeOrAfter lines line) (sym got.split) (any_gate lines line are is got.first got.second got.is_first got.is_second)

    -- while the gate is closed again
    pub left_closing : (old : List ℕ) (before after : List ℕ → Type 0) → old ≡ at_rest (lines ++ line ∷ []) → Only old before → Follows (IsGateWrite gate CLOSED) before after
        → (c : List ℕ) → after c → IsBeforeOrAfter lines line c
    left_closing old before after file only follows c left =
        let from = follows c left in
        let got = from.2 (flat_map block lines) (line_and_gate line) OPEN OPEN at (only from.0 from.1 ∙ file ∙ sym (staged_open lines line)) in
        subst (IsBeforeOrAfter lines line) (sym got.split) (any_gate lines line are is got.first got.second (⊎_elim inr inl got.is_first) (⊎_elim inr inl got.is_second))

  -- while what comes after the gate is cut off
  pub left_cut : (before after : List ℕ → Type 0) → ((d : List ℕ) → before d → HasRest lines d) → Follows (Cut (gate + 2)) before after → (c : List ℕ) → after c → HasRest lines c
  left_cut before after has follows c left =
      let from = follows c left in
      let was = has from.0 from.1 in
      let cut = subst (λ (d : List ℕ). Cut (gate + 2) d c) was.split from.2 in
      let end = cut_past (at_rest lines) was.rest c (subst (λ (n : ℕ). Cut n (at_rest lines ++ was.rest) c) past cut) in
      record { rest = drop (length (at_rest lines)) c; split = end.0; few = omega (arith, end.1, was.few) }

  -- once it is cut off
  pub is_cut : (old new : List ℕ) → HasRest lines old → Cut (gate + 2) old new → length new ≡ gate + 2 → new ≡ at_rest lines
  is_cut old new was cut long =
      let there = subst (λ (n : ℕ). Cut n (at_rest lines ++ was.rest) new) past (subst (λ (d : List ℕ). Cut (gate + 2) d new) was.split cut) in
      let end = cut_past (at_rest lines) was.rest new there in
      end.0 ∙ ap (λ (l : List ℕ). at_rest lines ++ l) (nothing (drop (length (at_rest lines)) new) (omega (arith, ap length end.0, length-append (at_rest lines) (drop (length (at_rest lines)) new), past))) ∙ append-nil (at_rest lines)
    where
      nothing : (l : List ℕ) → length l ≡ 0 → l ≡ []
      nothing [] none = refl
      nothing (x ∷ l) none = absurd (omega arith)

module _ (lines : List Line) (at : ℕ) (are : AllByRecursion IsLine lines) where
  are_split : (c : List ℕ) (half : IsHalfOpen lines at c) → AllByRecursion IsLine half.before × IsLine half.last
  are_split c half = are-before half.before half.last (subst (λ (ls : List Line). AllByRecursion IsLine ls) half.are are)

  -- a half open gate counts
  pub half_open-lines : (c : List ℕ) → IsHalfOpen lines at c → lines_in c ≡ Ok lines
  half_open-lines c half =
      let all : List Line → Result (List Line) Damage = λ ls. Ok ls in
      let split = are_split c half in
      ap lines_in half.split ∙ lines_half_open half.before half.first half.second half.last split.0 split.1 half.half ∙ ap all (sym half.are)

  -- while it is opened
  pub left_repairing : (before after : List ℕ → Type 0) → ((d : List ℕ) → before d → IsHalfOpen lines at d) → Follows (IsGateWrite at OPEN) before after
      → (c : List ℕ) → after c → lines_in c ≡ Ok lines
  left_repairing before after has follows c left =
      let all : List Line → Result (List Line) Damage = λ ls. Ok ls in
      let from = follows c left in
      let half = has from.0 from.1 in
      let got = from.2 (flat_map block half.before) (line_and_gate half.last) half.first half.second half.here half.split in
      let split = are_split from.0 half in
      ap lines_in got.split ∙ one_open half.before half.last split.0 split.1 got.first got.second (one half.half got) ∙ ap all (sym half.are)
    where
      one : {front rest : List ℕ} {a b : ℕ} {c : List ℕ} → IsHalf a b → (g : IsGateBetween front rest a b OPEN c)
          → ((g.first ≡ OPEN) × ((g.second ≡ CLOSED) ⊎ (g.second ≡ OPEN))) ⊎ ((g.second ≡ OPEN) × ((g.first ≡ CLOSED) ⊎ (g.first ≡ OPEN)))
      one (inl half) g = inl (⊎_elim (λ old. old ∙ half.0) (λ new. new) g.is_first, ⊎_elim (λ old. inl (old ∙ half.1)) (λ new. inr new) g.is_second)
      one (inr half) g = inr (⊎_elim (λ old. old ∙ half.1) (λ new. new) g.is_second, ⊎_elim (λ old. inl (old ∙ half.0)) (λ new. inr new) g.is_first)

  -- once it is open
  pub is_repaired : (old new : List ℕ) → IsHalfOpen lines at old
      → ((front rest : List ℕ) (a b : ℕ) → at ≡ length front → old ≡ front ++ a ∷ b ∷ rest → new ≡ front ++ OPEN ∷ OPEN ∷ rest) → new ≡ at_rest lines
  is_repaired old new half written =
      written (flat_map block half.before) (line_and_gate half.last) half.first half.second half.here half.split ∙ staged_open half.before half.last ∙ ap at_rest (sym half.are)

-- what holds whatever was answered
pub on_err_too : {T E P : Type 0} (r : Result T E) → P → OnErr r P
on_err_too (Ok x) p = tt
on_err_too (Err e) p = p

pub on_ok_both : {T E : Type 0} (P Q : Type 0) (r : Result T E) → OnOk r P → OnOk r Q → OnOk r (P × Q)
on_ok_both P Q (Ok x) p q = (p, q)
on_ok_both P Q (Err e) p q = tt

pub at_rest-lines : (lines : List Line) (c : List ℕ) → AllByRecursion IsLine lines → c ≡ at_rest lines → lines_in c ≡ Ok lines
at_rest-lines lines c are is = has_rest-lines lines c are (has_rest-at_rest lines c is)

pub of_ok : {T E P : Type 0} (r : Result T E) → IsOk r → OnOk r P → P
of_ok (Ok x) is p = p
of_ok (Err e) is p = let never : ⊥ = cc is in absurd never

-- a file reads in one way
pub same_lines : (read : Result (List Line) Damage) (xs ys : List Line) → read ≡ Ok xs → read ≡ Ok ys → xs ≡ ys
same_lines read xs ys e f = cc

pub no_damage : (read : Result (List Line) Damage) (xs : List Line) (damage : Damage) → read ≡ Ok xs → read ≡ Err damage → ⊥
no_damage read xs damage e f = cc
