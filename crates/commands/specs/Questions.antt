-- The questions of an input. The lines are this project's own.
use Rattle.std.specs.Prelude.{ℕ, List}
use Rattle.spec_lines.specs.Lines.{line_at, lines}
use Rattle.schema_report.specs.Reports.{AnswersCheck, AnswersNodes}
use Rattle.schema_report.specs.declared.report.Verdict.{Verdict}
use Rattle.commands.specs.declared.questions.Question.{Question}
use Rattle.commands.specs.declared.questions.Question.TheVariants.{Nodes, Check, Explain}

-- The text answers the question of the input's first lines. What it is of an explanation is not said.
abbrev pub Answers : Question → List ℕ → List ℕ → Verdict → Type 0
Answers Nodes input text verdict = AnswersNodes (line_at (lines input) 0) text verdict
Answers (Check level) input text verdict =
    AnswersCheck level (line_at (lines input) 0) (line_at (lines input) 1) text verdict
Answers (Explain form) input text verdict = Unit {0}
