-- How the line `end` is looked for, line after line.
use Rattle.std.proofs.Common.{◌≡◌, ◌-◌, ℕ, true, false, List, [], ◌∷◌, ◌++◌, length, take, Option, Some, None, option_map, codes, refl, sym, ap, ◌∙◌, arith, append_assoc, append-nil, inl, inr, length-append}
use Rattle.std.specs.Str.{bytes_eq}
use Rattle.std.proofs.Math.Seq.{take-append_seam}
use Rattle.command_io.specs.Lines.{IsFirst}
use Rattle.spec_lines.specs.Lines.{lines}
use Rattle.spec_lines.specs.Listed.{cut_at_end, listed}
use Rattle.command_io.proofs.Split.{lines_none}

abbrev Cut : Type 0
Cut = Option (List ℕ × List (List ℕ))

-- a text before what is cut
abbrev pub after : List ℕ → Cut → Cut
after front cut = option_map (λ cut. (front ++ cut.0, cut.1)) cut

-- the bytes up to what is left hold no line `end`
pub record IsPassed (input rest : List ℕ) : Type 0 where
  pub front : List ℕ
  pub parts : input ≡ front ++ rest
  pub cut : cut_at_end (lines input) ≡ after front (cut_at_end (lines rest))

nothing_before : (cut : Cut) → cut ≡ after [] cut
nothing_before (Some cut) = refl
nothing_before None = refl

pub none_passed : (input : List ℕ) → IsPassed input input
none_passed input = record { front = []; parts = refl; cut = nothing_before (cut_at_end (lines input)) }

nothing_cut : cut_at_end [] ≡ None
unfolding cut_at_end
nothing_cut = refl

another : (line : List ℕ) (later : List (List ℕ)) → bytes_eq line (codes "end") ≡ false
    → cut_at_end (line ∷ later) ≡ option_map (λ cut. (line ++ 10 ∷ cut.0, cut.1)) (cut_at_end later)
unfolding cut_at_end
another line later other = rw other refl

regroup : (front line : List ℕ) (cut : Cut) → after front (option_map (λ cut. (line ++ 10 ∷ cut.0, cut.1)) cut) ≡ after (front ++ line ++ 10 ∷ []) cut
regroup front line (Some cut) = ap (λ (text : List ℕ). Some (text, cut.1)) (simp append_assoc refl)
regroup front line None = refl

passed_cut : (front rest line later : List ℕ) → lines rest ≡ line ∷ lines later → bytes_eq line (codes "end") ≡ false
    → after front (cut_at_end (lines rest)) ≡ after (front ++ line ++ 10 ∷ []) (cut_at_end (lines later))
passed_cut front rest line later split other =
    ap (λ (ls : List (List ℕ)). after front (cut_at_end ls)) split ∙ ap (after front) (another line (lines later) other) ∙ regroup front line (cut_at_end (lines later))

last_cut : (front rest line : List ℕ) → lines rest ≡ line ∷ lines [] → bytes_eq line (codes "end") ≡ false
    → after front (cut_at_end (lines rest)) ≡ after (front ++ rest) (cut_at_end (lines []))
last_cut front rest line split other =
    let none : cut_at_end (lines []) ≡ None = ap cut_at_end lines_none ∙ nothing_cut in
    passed_cut front rest line [] split other ∙ ap (after (front ++ line ++ 10 ∷ [])) none ∙ sym (ap (after (front ++ rest)) none)

-- a line more that is not `end`
pub one_passed : (input rest line later : List ℕ) → IsPassed input rest → IsFirst rest line later → lines rest ≡ line ∷ lines later
    → bytes_eq line (codes "end") ≡ false → IsPassed input later
one_passed input rest line later p (inl e) split other = record {
  front = p.front ++ line ++ 10 ∷ [];
  parts = p.parts ∙ ap (λ (r : List ℕ). p.front ++ r) e ∙ simp append_assoc refl;
  cut = p.cut ∙ passed_cut p.front rest line later split other;
}
one_passed input rest line later p (inr last) split other = record {
  front = p.front ++ rest;
  parts = p.parts ∙ rw last.1 (sym (append-nil (p.front ++ rest)));
  cut = rw last.1 (p.cut ∙ last_cut p.front rest line (rw last.1 at split) other);
}

ended_here : (line : List ℕ) (later : List (List ℕ)) → bytes_eq line (codes "end") ≡ true → cut_at_end (line ∷ later) ≡ Some ([], later)
unfolding cut_at_end
ended_here line later same = rw same refl

front_of : (input front rest : List ℕ) → input ≡ front ++ rest → take (length input - length rest) input ≡ front
front_of input front rest e =
    let len : length input - length rest ≡ length front = omega (arith, ap length e, length-append front rest) in
    rw (len, e) (take-append_seam front rest)

-- the line `end`
pub passed_to_end : (input rest line later : List ℕ) → IsPassed input rest → lines rest ≡ line ∷ lines later → bytes_eq line (codes "end") ≡ true
    → listed input ≡ (take (length input - length rest) input, lines later)
passed_to_end input rest line later p split same =
    let cut : cut_at_end (lines input) ≡ Some (p.front ++ [], lines later) =
    p.cut ∙ ap (λ (ls : List (List ℕ)). after p.front (cut_at_end ls)) split ∙ ap (after p.front) (ended_here line (lines later) same) in
    rw (cut, front_of input p.front rest p.parts, append-nil) refl

-- no line `end`
pub passed_all : (input rest : List ℕ) → IsPassed input rest → lines rest ≡ [] → listed input ≡ (input, lines [])
passed_all input rest p none =
    let cut : cut_at_end (lines input) ≡ None = p.cut ∙ ap (λ (ls : List (List ℕ)). after p.front (cut_at_end ls)) none ∙ ap (after p.front) nothing_cut in
    rw (cut, lines_none) refl
