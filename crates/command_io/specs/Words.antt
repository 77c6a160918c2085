-- What words say: numbers, subjects, bytes. All of this is this project's own.
use Rattle.std.specs.Prelude.{ℕ, List, [], Option, Some, None}
use Rattle.std.specs.Borrow.{Bor}
use Rattle.spec_machine.specs.ListingWords.{words}

-- the words of what is left of a line, where something is
abbrev pub words_left : Option (Bor (List ℕ)) → List (List ℕ)
words_left None = []
words_left (Some line) = words line.now
