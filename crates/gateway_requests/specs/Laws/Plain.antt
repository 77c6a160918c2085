-- Plain facts that several proofs need.
use Rattle.std.proofs.Common.{ℕ, List, take, Option, Some, None, sym}
use Rattle.std.proofs.lemmas.List.{append-nil}
use Rattle.std.specs.Io.KnownBytes.{Appends}

pub no_bytes : (a : Option (List ℕ)) (bytes : List ℕ) → Appends a a (take 0 bytes)
no_bytes None bytes = tt
no_bytes (Some x) bytes = sym (append-nil x)
