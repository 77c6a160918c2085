-- For a private clause: the bytes of a listing that was written.
use Rattle.std.specs.List.{AllByRecursion}
use Rattle.hex.specs.Hex.{IsBytes}
use Rattle.spec_machine.specs.Program.{Program}

-- The constants of a program in memory are bytes.
abbrev pub HasBytes : Program → Type 0
HasBytes P = AllByRecursion IsBytes P.constants
