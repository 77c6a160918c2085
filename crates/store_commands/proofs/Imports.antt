-- What lines say, one after another.
use Rattle.std.proofs.Common.{◌≡◌, ◌∙◌, List, [], ◌∷◌, ◌++◌, ℕ, Some, ap, sym, refl}
use Rattle.std.proofs.lemmas.List.{append-nil, append_assoc}
use Rattle.spec_registry.specs.Command.{Command}
use Rattle.store_commands.specs.Import.{Say, said_in}

-- one line more, and what it says
pub say_more : (front : List (List ℕ)) (done : List Command) (line : List ℕ) (said : List Command) → Say front done → said_in line ≡ Some said → Say (front ++ line ∷ []) (done ++ said)
say_more [] done line said say is = (said, [], is, refl, ap (λ (x : List Command). x ++ said) say ∙ sym (append-nil said))
say_more (first ∷ front) done line said (c, rest, one, more, whole) is =
    (c, rest ++ said, one, say_more front rest line said more is, ap (λ (x : List Command). x ++ said) whole ∙ append_assoc c rest said)
