-- for private clauses: how much of an answer has come
use Rattle.std.specs.Prelude.{◌≢◌, ◌≤◌, ℕ, ⊤}
use Rattle.upstream_answers.specs.declared.fault.ReceiveFault.{ReceiveFault}
use Rattle.upstream_answers.specs.declared.fault.ReceiveFault.TheVariants.{Closed, Cut}
use Rattle.upstream_answers.specs.declared.stage.Stage as stages
use Rattle.upstream_answers.specs.declared.stage.Stage.TheVariants.{Body, Head, Whole}

-- no more bytes were looked at than had come
abbrev pub IsStageOf : ℕ → stages.Stage → Type 0
IsStageOf count Head = ⊤
IsStageOf count (Body body) = body.looked ≤ count
IsStageOf count Whole = ⊤

-- the fault is none of a reader that has ended
abbrev pub IsOfOther : ReceiveFault → Type 0
IsOfOther fault = (fault ≢ Closed) × (fault ≢ Cut)
