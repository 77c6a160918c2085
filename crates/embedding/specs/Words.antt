-- The words of a status in a caller's room, as C has a text: with a byte 0 after it. This project's own.
use Rattle.std.specs.Prelude.{◌≡◌, ◌<◌, ◌+◌, ℕ, List, [], ◌∷◌, ◌++◌, length, take}
use Rattle.embedding.specs.declared.status.Status.{Status}
use Rattle.embedding.specs.Status.{code_of, words_of}

-- the text is so long, and lies with its 0 at the room's front, if the room has place for both
abbrev pub WritesText : List ℕ → List ℕ → ℕ → Type 0
WritesText text room len = (len ≡ length text) × (len < length room → take (len + 1) room ≡ text ++ 0 ∷ [])

-- the words of the status that has this number; none where no status has it
abbrev pub WritesWords : ℕ → List ℕ → ℕ → Type 0
WritesWords code room len = ((status : Status) → code_of status ≡ code → WritesText (words_of status) room len)
    × (((status : Status) → ¬ (code_of status ≡ code)) → len ≡ 0)
