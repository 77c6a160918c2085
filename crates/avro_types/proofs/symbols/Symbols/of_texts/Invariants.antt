use Rattle.std.proofs.Common.{◌≡◌, ℕ, List, take, drop}
use Rattle.std.specs.BTreeMap.{get_by_text}
use Rattle.spec_avro.specs.Symbols.{are_distinct, are_new, place_of}
use Rattle.avro_types.specs.Laws.Plain.{names}
use Rattle.avro_types.proofs.symbols.Symbols.of_texts.Given as goal

abbrev pub invariant-loop-position : goal.invariant-loop-position
invariant-loop-position l =
    (are_new (names (take l.position l.texts.items)) (names (drop l.position l.texts.items)) ≡ are_distinct (names l.texts.items))
    × ((s : List ℕ) → get_by_text l.positions s ≡ place_of s (names (take l.position l.texts.items)))
