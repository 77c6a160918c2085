-- A field that lacks and a symbol that is missing, by the tests for them.
use Rattle.std.proofs.Common.{◌≡◌, ℕ, zero, suc, Bool, true, false, ◌||◌, List, [], ◌∷◌, slice_get, Option, Some, None, is_none, is_some, refl, ap, ◌∙◌, inl, inr, ◌⊎◌}
use Rattle.spec_avro.specs.Node.{Node, FieldNode, EnumNode}
use Rattle.spec_avro.specs.Options.{given}
use Rattle.resolver.specs.NextPairs.{lacks_field, lacks_symbol, some_missing}
use Rattle.spec_avro.specs.Resolution.{field_lists, lacking, symbol_at, symbol_for, symbol_in}
use Rattle.spec_avro.specs.Safety.{is_enum}
use Rattle.resolver.specs.Laws.Plain.{nothing, either, symbol_there, some_symbol, missing_there}
use Rattle.std.proofs.lemmas.Bool.{or_left, or_right}

pub missing_by : (w r : Option Node) → lacks_symbol w r ≡ true → (i : ℕ) × (symbol : List ℕ) × (symbol_at w i ≡ Some symbol) × (is_enum r ≡ true) × (symbol_for r symbol ≡ None)
missing_by (Some (EnumNode n symbols default)) (Some (EnumNode m theirs fallback)) e = let f = some_symbol theirs fallback symbols e in (f.0, f.1, f.2, refl, f.3)
missing_by w r e = absurd cc

pub lack_by : (o : Option (List FieldNode × List FieldNode)) → given o false (λ p. is_some (lacking p.0 p.1)) ≡ true → (ws : List FieldNode) × (rs : List FieldNode) × (g : FieldNode) × (o ≡ Some (ws, rs)) × (lacking ws rs ≡ Some g)
lack_by None e = absurd cc
lack_by (Some p) e = one (lacking p.0 p.1) refl e where
  one : (o : Option FieldNode) → lacking p.0 p.1 ≡ o → is_some o ≡ true → (ws : List FieldNode) × (rs : List FieldNode) × (g : FieldNode) × (Some p ≡ Some (ws, rs)) × (lacking ws rs ≡ Some g)
  one None is e = absurd cc
  one (Some g) is e = (p.0, p.1, g, refl, is)

pub lack_there : (w r : Option Node) (ws rs : List FieldNode) (g : FieldNode) → field_lists w r ≡ Some (ws, rs) → lacking ws rs ≡ Some g → lacks_field w r ≡ true
lack_there w r ws rs g lists lack = ap (λ (o : Option (List FieldNode × List FieldNode)). given o false (λ p. is_some (lacking p.0 p.1))) lists ∙ ap is_some lack
