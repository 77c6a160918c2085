-- Which line of `replay` and of `debug` some bytes are. All of this is this project's own.
use Rattle.std.specs.Prelude.{ℕ, if◌then◌else◌, List, [], ◌∷◌, Option, Some, None, option_map, find, codes}
use Rattle.std.specs.Str.{bytes_eq}
use Rattle.spec_machine.specs.ListingParts.{◌>>=◌, at_end}
use Rattle.spec_registry.specs.declared.level.Level.{Level}
use Rattle.spec_registry.specs.declared.refusal.Refusal.{Refusal}
use Rattle.spec_registry.specs.declared.refusal.Refusal.TheVariants.{BadLevel, BadSubject}
use Rattle.spec_registry.specs.Answer.{is_subject_or_none}
use Rattle.spec_registry.specs.Level.{level_named}
use Rattle.spec_sessions.specs.Event.{Act, Register, SetLevel, Publish, Begin, On, Piece, Finish, Slice, Steal, Break, Clear, Refuse, Walk, Go}
use Rattle.spec_lines.specs.Request.{Request, Happen, NoLevel, Show, ListCode, TellResult}
use Rattle.spec_lines.specs.Words.{first_number, last_bytes, last_number, last_rows, number_and_rows, subject_in, two_numbers, two_words, word_and_text, words_of_text}
use Rattle.spec_lines.specs.declared.kind.Kind.{Kind}
use Rattle.spec_lines.specs.declared.kind.Kind.TheVariants as kinds
use Rattle.spec_lines.specs.declared.debug_kind.DebugKind.{DebugKind}
use Rattle.spec_lines.specs.declared.debug_kind.DebugKind.TheVariants as debug_kinds
use Rattle.spec_lines.specs.declared.debug_line.DebugLine.{DebugLine}
use Rattle.spec_lines.specs.declared.debug_line.DebugLine.TheVariants as debug_lines

-- ---- replay

abbrev pub kind_name : Kind → List ℕ
kind_name kinds.Register = codes "register"
kind_name kinds.Level = codes "level"
kind_name kinds.Publish = codes "publish"
kind_name kinds.Begin = codes "begin"
kind_name kinds.Piece = codes "piece"
kind_name kinds.Finish = codes "finish"
kind_name kinds.Slice = codes "slice"
kind_name kinds.Steal = codes "steal"
kind_name kinds.Break = codes "break"
kind_name kinds.Clear = codes "clear"
kind_name kinds.Refuse = codes "refuse"
kind_name kinds.Walk = codes "walk"
kind_name kinds.Go = codes "go"
kind_name kinds.Show = codes "show"
kind_name kinds.List = codes "list"
kind_name kinds.Result = codes "result"

abbrev pub all_kinds : List Kind
all_kinds =
    kinds.Register ∷ kinds.Level ∷ kinds.Publish ∷ kinds.Begin ∷ kinds.Piece ∷ kinds.Finish
    ∷ kinds.Slice ∷ kinds.Steal ∷ kinds.Break ∷ kinds.Clear ∷ kinds.Refuse ∷ kinds.Walk
    ∷ kinds.Go ∷ kinds.Show ∷ kinds.List ∷ kinds.Result ∷ []

unfoldable pub kind_named : List ℕ → Option Kind
kind_named word = find (λ kind. bytes_eq word (kind_name kind)) all_kinds

unfoldable pub register_in : List (List ℕ) → Option Request
register_in words = option_map (λ w. Happen (Register w.0 w.1)) (word_and_text words)

-- why no level is set by a word that names none: the subject is looked at first
abbrev pub no_level : Option (List ℕ) → Refusal
no_level subject = if is_subject_or_none subject then BadLevel else BadSubject

-- the level is set, where the word for it names one
abbrev pub set_level : Option (List ℕ) → Option Level → Request
set_level subject (Some level) = Happen (SetLevel subject level)
set_level subject None = NoLevel (no_level subject)

abbrev pub on_session : ℕ → Act → Request
on_session session act = Happen (On session act)

unfoldable pub level_in : List (List ℕ) → Option Request
level_in words = option_map (λ w. set_level (subject_in w.0) (level_named w.1)) (two_words words)

unfoldable pub piece_in : List (List ℕ) → Option Request
piece_in words = do
  session ← first_number words
  bytes ← last_bytes session.1
  Some (on_session session.0 (Piece bytes))

unfoldable pub slice_in : List (List ℕ) → Option Request
slice_in words = do
  session ← first_number words
  rest ← number_and_rows session.1
  Some (on_session session.0 (Slice rest.0 rest.1))

-- what a line of a kind asks for by the words after the first
abbrev pub line_in : Kind → List (List ℕ) → Option Request
line_in kinds.Register words = register_in words
line_in kinds.Level words = level_in words
line_in kinds.Publish words = option_map (λ n. Happen (Publish n.0 n.1)) (two_numbers words)
line_in kinds.Begin words = option_map (λ n. Happen (Begin n.0 n.1)) (two_numbers words)
line_in kinds.Piece words = piece_in words
line_in kinds.Finish words = option_map (λ n. on_session n Finish) (last_number words)
line_in kinds.Slice words = slice_in words
line_in kinds.Steal words = option_map (λ n. on_session n.0 (Steal n.1)) (two_numbers words)
line_in kinds.Break words = option_map (λ n. on_session n.0 (Break n.1)) (two_numbers words)
line_in kinds.Clear words = option_map (λ n. on_session n.0 (Clear n.1)) (two_numbers words)
line_in kinds.Refuse words = option_map (λ n. on_session n Refuse) (last_number words)
line_in kinds.Walk words = option_map (λ n. on_session n.0 (Walk n.1)) (number_and_rows words)
line_in kinds.Go words = option_map (λ n. on_session n.0 (Go n.1)) (number_and_rows words)
line_in kinds.Show words = option_map Show (last_number words)
line_in kinds.List words = option_map ListCode (last_number words)
line_in kinds.Result words = option_map TellResult (last_number words)

unfoldable pub replay_line_in : List (List ℕ) → Option Request
replay_line_in [] = None
replay_line_in (word ∷ words) = do
  kind ← kind_named word
  line_in kind words

unfoldable pub replay_line : List ℕ → Option Request
replay_line line = replay_line_in (words_of_text line)

-- ---- debug

abbrev pub debug_kind_name : DebugKind → List ℕ
debug_kind_name debug_kinds.Break = codes "break"
debug_kind_name debug_kinds.Clear = codes "clear"
debug_kind_name debug_kinds.Step = codes "step"
debug_kind_name debug_kinds.Go = codes "go"
debug_kind_name debug_kinds.Show = codes "show"
debug_kind_name debug_kinds.List = codes "list"

abbrev pub all_debug_kinds : List DebugKind
all_debug_kinds =
    debug_kinds.Break ∷ debug_kinds.Clear ∷ debug_kinds.Step
    ∷ debug_kinds.Go ∷ debug_kinds.Show ∷ debug_kinds.List ∷ []

unfoldable pub debug_kind_named : List ℕ → Option DebugKind
debug_kind_named word = find (λ kind. bytes_eq word (debug_kind_name kind)) all_debug_kinds

-- what a line of a kind says by the words after the first
abbrev pub debug_line_of_kind : DebugKind → List (List ℕ) → Option DebugLine
debug_line_of_kind debug_kinds.Break words = option_map debug_lines.Break (last_number words)
debug_line_of_kind debug_kinds.Clear words = option_map debug_lines.Clear (last_number words)
debug_line_of_kind debug_kinds.Step words = option_map debug_lines.Step (last_rows words)
debug_line_of_kind debug_kinds.Go words = option_map debug_lines.Go (last_rows words)
debug_line_of_kind debug_kinds.Show words = at_end debug_lines.Show words
debug_line_of_kind debug_kinds.List words = at_end debug_lines.List words

unfoldable pub debug_line_in : List (List ℕ) → Option DebugLine
debug_line_in [] = None
debug_line_in (word ∷ words) = do
  kind ← debug_kind_named word
  debug_line_of_kind kind words

unfoldable pub debug_line : List ℕ → Option DebugLine
debug_line line = debug_line_in (words_of_text line)
