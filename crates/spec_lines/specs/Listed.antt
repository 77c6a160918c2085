-- The program that an input lists, and the payload lines after it. This project's own.
use Rattle.std.specs.Prelude.{ℕ, if◌then◌else◌, List, [], ◌∷◌, ◌++◌, codes, Option, Some, None, option_map}
use Rattle.std.specs.Str.{bytes_eq}
use Rattle.spec_lines.specs.Lines.{lines}

-- the text of the lines before the first line `end`, and the lines after it, or None where there is no such line
unfoldable pub cut_at_end : List (List ℕ) → Option (List ℕ × List (List ℕ))
cut_at_end [] = None
cut_at_end (line ∷ later) =
    if bytes_eq line (codes "end") then Some ([], later)
    else option_map (λ cut. (line ++ 10 ∷ cut.0, cut.1)) (cut_at_end later)

-- without a line `end` all of the input is the listing
abbrev pub or_all : List ℕ → Option (List ℕ × List (List ℕ)) → List ℕ × List (List ℕ)
or_all input (Some cut) = cut
or_all input None = (input, [])

-- the listing of an input, and the payload lines
abbrev pub listed : List ℕ → List ℕ × List (List ℕ)
listed input = or_all input (cut_at_end (lines input))
