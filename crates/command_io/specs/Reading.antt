-- Which line of `replay` and of `debug` some bytes are. All of this is this project's own.
use Rattle.std.specs.Prelude.{ℕ, List, [], ◌∷◌, Option, Some, None}
use Rattle.spec_sessions.specs.Event.{Register, SetLevel, Piece}
use Rattle.spec_lines.specs.Request.{Request, Happen}
use Rattle.spec_lines.specs.declared.kind.Kind.{Kind}
use Rattle.spec_lines.specs.declared.kind.Kind.TheVariants as kinds
use Rattle.spec_lines.specs.Reading.{kind_named}

-- the kind of a line, by its first word
unfoldable pub kind_in : List (List ℕ) → Option Kind
kind_in [] = None
kind_in (word ∷ words) = kind_named word

-- what was read holds the name of a subject
abbrev pub HasSubject : Option Request → Type 0
HasSubject (Some (Happen (Register subject text))) = Unit {0}
HasSubject (Some (Happen (SetLevel (Some subject) level))) = Unit {0}
HasSubject line = ⊥

-- where reading a line of this kind may want memory: what it says has a name, or there are bytes, malformed or not
abbrev pub WantsMemory : Option Kind → Option Request → Type 0
WantsMemory (Some kinds.Piece) line = Unit {0}
WantsMemory kind line = HasSubject line
