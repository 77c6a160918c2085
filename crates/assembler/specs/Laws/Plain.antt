-- Plain facts that several proofs need.
use Rattle.std.proofs.Common.{◌≡◌, ℕ, true, List}
use Rattle.std.specs.List.{list_all}
use Rattle.std.specs.Char.{is_ascii_digit}

abbrev pub are_digits : List ℕ → Type 0
are_digits ds = list_all is_ascii_digit ds ≡ true
