-- What is known of nodes that have met: nothing at first, and then of one more.
use Rattle.std.proofs.Common.{◌≡◌, ℕ, Bool, true, false, cond, List, [], Option, Some, refl, sym, ap, ◌∙◌, subst}
use Rattle.std.specs.Prelude.{slice_get}
use Rattle.std.specs.BTreeMap.{BTreeMap, get}
use Rattle.std.specs.Ordering.{is_eq, nat_cmp}
use Rattle.spec_avro.specs.Node.{Node, UnionNode}
use Rattle.avro_types.specs.Laws.Booleans.{none_some}
use Rattle.program_compiler.specs.Known.{AreLacking, ArePlaced, lacking_node}
use Rattle.program_compiler.specs.Members.{ArePositionsOf}
use Rattle.program_ir.specs.Sections.{pair_cmp}
use Rattle.program_ir.proofs.Numbered.{nat_is, pair_is}

abbrev Nodes : Type 0
Nodes = BTreeMap (ℕ × ℕ) (Option ℕ)

abbrev Positions : Type 0
Positions = BTreeMap ℕ (BTreeMap ℕ ℕ)

module _ (W R : List Node) where
  pub none_lacking : (nodes : Nodes) → nodes.entries ≡ [] → AreLacking W R nodes
  none_lacking nodes none pair found e = absurd (none_some found (rw none at e))

  pub lacking_on : (old new : Nodes) (key : ℕ × ℕ) (node : Option ℕ) → AreLacking W R old → node ≡ lacking_node W R key
      → ((pair : ℕ × ℕ) → get pair_cmp new pair ≡ cond (is_eq (pair_cmp key pair)) (Some node) (get pair_cmp old pair)) → AreLacking W R new
  lacking_on old new key node known is updates pair found e = at (is_eq (pair_cmp key pair)) refl (sym (updates pair) ∙ e)
    where
      at : (b : Bool) → is_eq (pair_cmp key pair) ≡ b → cond b (Some node) (get pair_cmp old pair) ≡ Some found → found ≡ lacking_node W R pair
      at true same there = let one : node ≡ found = cc in sym one ∙ is ∙ ap (lacking_node W R) (sym (pair_is key pair same))
      at false apart there = known pair found there

module _ (R : List Node) where
  pub none_placed : (positions : Positions) → positions.entries ≡ [] → ArePlaced R positions
  none_placed positions none r members found at e = absurd (none_some found (rw none at e))

  pub placed_on : (old new : Positions) (key : ℕ) (positions : BTreeMap ℕ ℕ) (members : List ℕ) → ArePlaced R old → slice_get R key ≡ Some (UnionNode members) → ArePositionsOf members positions
      → ((r : ℕ) → get nat_cmp new r ≡ cond (is_eq (nat_cmp key r)) (Some positions) (get nat_cmp old r)) → ArePlaced R new
  placed_on old new key positions members known union are updates r others found at e = which (is_eq (nat_cmp key r)) refl (sym (updates r) ∙ e)
    where
      which : (b : Bool) → is_eq (nat_cmp key r) ≡ b → cond b (Some positions) (get nat_cmp old r) ≡ Some found → ArePositionsOf others found
      which true same there =
          let one : positions ≡ found = cc in
          let these : Some (UnionNode members) ≡ Some (UnionNode others) = sym union ∙ ap (slice_get R) (sym (nat_is key r same)) ∙ at in
          let all : members ≡ others = cc in
          subst (ArePositionsOf others) one (subst (λ ms. ArePositionsOf ms positions) all are)
      which false apart there = known r others found at there
