-- What becomes of every part of a message, line by line (Avro 1.11, "Schema Resolution").
use Rattle.std.specs.Prelude.{◌+◌, Bool, true, false, if◌then◌else◌, List, [], ◌∷◌, ◌++◌, Some, slice_get}
use Rattle.spec_avro.specs.Node.{Node}
use Rattle.spec_avro.specs.Safety.{Pair}
use Rattle.schema_explain.specs.Arrivals.{arrival}
use Rattle.schema_explain.specs.Pairs.{is_among}
use Rattle.schema_explain.specs.Parts.{parts_of}
use Rattle.schema_explain.specs.declared.arrivals.Arrival.{Arrival}
use Rattle.schema_explain.specs.declared.entries.Entry.{Entry}
use Rattle.schema_explain.specs.declared.entries.Entry.TheVariants.{Ready, Due}
use Rattle.schema_explain.specs.declared.entries.Task.{Task}
use Rattle.schema_explain.specs.declared.entries.Whole.{Whole}
use Rattle.schema_explain.specs.declared.line.Fate.{Fate}
use Rattle.schema_explain.specs.declared.line.Fate.TheVariants.{Parts, AsAbove}
use Rattle.schema_explain.specs.declared.line.Line.{Line}
use Rattle.schema_explain.specs.declared.line.Part.TheVariants.{Root}

-- the line of a pair, the entries of its parts, and the pairs explained with it
pub record Step : Type 0 where
  pub line : Line
  pub parts : List Entry
  pub explained : List Pair

abbrev pub line_at : Task → Arrival → Fate → Line
line_at t a fate =
    record {
      depth = t.depth;
      part = t.part;
      writer = Some t.writer;
      reader = Some a.node;
      branch = a.branch;
      fate = fate;
    }

abbrev pub has_parts : Fate → Bool
has_parts Parts = true
has_parts _ = false

-- what has no parts is explained by its line alone
abbrev pub alone : Line → List Pair → Step
alone line explained = record { line = line; parts = []; explained = explained }

-- what has parts: they follow where it is not explained yet
abbrev pub with_parts : Task → Arrival → List Entry → List Pair → Step
with_parts t a parts explained =
    if is_among (t.writer, a.node) explained then alone (line_at t a AsAbove) explained
    else record { line = line_at t a Parts; parts = parts; explained = explained ++ (t.writer, a.node) ∷ [] }

abbrev pub step_at : Task → Arrival → List Entry → List Pair → Step
step_at t a parts explained =
    if has_parts a.fate then with_parts t a parts explained else alone (line_at t a a.fate) explained

-- a pair and the reader's node where it arrives, for its parts
abbrev pub whole_of : Task → Arrival → Whole
whole_of t a = record { depth = t.depth + 1; writer = t.writer; reader = a.node }

module _ (W R : List Node) where
  abbrev pub step_from : Task → Arrival → List Pair → Step
  step_from t a explained =
      step_at t a (parts_of (whole_of t a) (slice_get W t.writer) (slice_get R a.node)) explained

  -- one pair, where these are explained
  abbrev pub pair_step : Task → List Pair → Step
  pair_step t explained = step_from t (arrival W R t.writer t.reader) explained

  -- one entry: what is ready is a line alone
  abbrev pub step : Entry → List Pair → Step
  step (Ready line) explained = alone line explained
  step (Due t) explained = pair_step t explained

  -- the lines of the entries, where these pairs are explained
  pub data Explained : List Entry → List Pair → List Line → Type 0 where
    -- of nothing, none
    nothing : (explained : List Pair) → Explained [] explained []
    -- of an entry: its line, and then those of its parts before the rest
    entry : (e : Entry) (entries : List Entry) (explained : List Pair) (lines : List Line)
        → Explained ((step e explained).parts ++ entries) (step e explained).explained lines
        → Explained (e ∷ entries) explained ((step e explained).line ∷ lines)

-- the whole message
abbrev pub roots : Task
roots = record { depth = 0; part = Root; writer = 0; reader = 0 }

-- the lines of two schemas
abbrev pub IsExplanation : List Node → List Node → List Line → Type 0
IsExplanation W R lines = Explained W R (Due roots ∷ []) [] lines
