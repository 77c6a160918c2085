-- The bound `Start` asks nothing of the contents: a theorem over `S: Start` holds of the code at `Unknown`, whatever
-- the file held.
use Rattle.std.proofs.Common.{ℕ, List}
use seplogic.Ra.Ura.{Ura}
use mir.Syntax.{Dict}
use prog.Model.{Model}
use types.Logic.{Logic}
use contract.Running.{Running}
use denote.RattleType.{RattleType}
use Rattle.sqlite_disk.specs.declared.start.Start.{Ghosts}
use Rattle.sqlite_disk.specs.contracts.start.Start.TheBound.{Met}

pub any_contents : {M : Type 1} {𝓤 : Ura M} (𝓛 : Logic 𝓤) (𝓜 : Model 𝓤 𝓛.H) (𝓡 : Running 𝓤 𝓛.H 𝓜) (S : RattleType) (known : Ghosts S.Denot) (methods : Dict) (log db : List ℕ)
    → Met 𝓛 𝓜 𝓡 𝓡.env S known methods → Met 𝓛 𝓜 𝓡 𝓡.env S (record known { log = log; db = db }) methods
any_contents 𝓛 𝓜 𝓡 S known methods log db met = record { mixes = met.mixes }
