-- What is proved of the code for nodes, where `left` more records, arrays and maps may be opened.
use Rattle.std.proofs.Common.{ℕ, ◌-◌, List, length}
use Rattle.spec_avro.specs.Node.{Node}
use Rattle.avro_datum.specs.Decoding.{Decoder}
use Rattle.spec_avro.specs.Resolution.{resolved}
use Rattle.spec_machine.specs.Program.{Program}
use Rattle.spec_machine.specs.Statements.{Section}
use Rattle.program_definition.specs.SkipStands.{Skips}
use Rattle.program_definition.specs.Stands.{Writes as CodeWrites}
use Rattle.program_correctness.proofs.Effects.{bytes_of}
use Rattle.program_correctness.proofs.Passing.{Passes}
use Rattle.program_correctness.proofs.Writing.{Writes}

-- each node is passed over by the code to skip it
abbrev pub AllSkipped : List Node → (P : Program) → (Section → ℕ → Type 0) → List ℕ → Decoder → ℕ → Type 0
AllSkipped W P Begins p decoder left = (pc w q : ℕ) → Skips W P Begins pc w q → Passes P p (length P.code) left (q - pc) pc q (decoder w)

-- each pair of nodes is written by its code
abbrev pub AllWritten : (W R : List Node) (P : Program) → (Section → ℕ → Type 0) → List ℕ → Decoder → ℕ → Type 0
AllWritten W R P Begins p decoder left = (pc w r q : ℕ) → CodeWrites W R P Begins pc w r q → Writes P p (length P.code) left (q - pc) pc q (decoder w) (λ d. bytes_of (resolved W R w r d))
