-- The id is read back from the four bytes, and the payload is what follows the first five.
use Rattle.std.specs.Prelude.{ℕ, List, take, drop}
use Rattle.std.proofs.Common.{ap, sym, ◌∙◌}
use Rattle.std.specs.Int.{w32, from_be_bytes}
use Rattle.std.proofs.lemmas.Nat.{from_be_bytes-to_be_bytes_4}
use Rattle.wire_frames.proofs.laws.envelopes_have_one_id_and_payload.Goals as goal

pub returns-clause-id : goal.returns-clause-id
returns-clause-id c = λ id other payload rest fits other_fits same.
    sym (from_be_bytes-to_be_bytes_4 id fits)
    ∙ ap (λ (bytes : List ℕ). from_be_bytes w32 (take 4 (drop 1 bytes))) same
    ∙ from_be_bytes-to_be_bytes_4 other other_fits

pub returns-clause-payload : goal.returns-clause-payload
returns-clause-payload c = λ id other payload rest same. ap (λ (bytes : List ℕ). drop 5 bytes) same
