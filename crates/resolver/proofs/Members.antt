-- The first member of a reader's union that matches, and what holds of members.
use Rattle.std.proofs.Common.{◌≡◌, ℕ, zero, suc, ◌+◌, ◌<◌, Bool, true, false, cond, List, [], ◌∷◌, slice_get, Option, Some, refl, sym, ap, subst, length, ◌∙◌, arith}
use Rattle.std.specs.List.{AllByRecursion}
use Rattle.spec_avro.specs.Node.{Node, UnionNode}
use Rattle.spec_avro.specs.WellFormed.{IsMember, IsWellFormed, is_union}
use Rattle.spec_avro.specs.declared.place.Destination.{Destination}
use Rattle.spec_avro.specs.declared.place.Destination.TheVariants.{Straight, IntoMember, Unmatched}
use Rattle.spec_avro.specs.Matching.{first_member, place_at}

-- the first member that matches, at its position
pub record Found (match : ℕ → Bool) (i : ℕ) (ms : List ℕ) (position node : ℕ) : Type 0 where
  pub steps : ℕ
  pub at : position ≡ i + steps
  pub member : slice_get ms steps ≡ Some node
  pub matching : match node ≡ true

pub found : (match : ℕ → Bool) (i : ℕ) (ms : List ℕ) (position node : ℕ) → first_member match i ms ≡ IntoMember position node → Found match i ms position node
found match i [] position node e = absurd cc
found match i (m ∷ ms) position node e = by_test (match m) refl (λ k. found match (suc i) ms position node k) e where
  by_test : (b : Bool) → match m ≡ b → (first_member match (suc i) ms ≡ IntoMember position node → Found match (suc i) ms position node) → cond b (IntoMember i m) (first_member match (suc i) ms) ≡ IntoMember position node → Found match i (m ∷ ms) position node
  by_test true is rest e =
      let here : i ≡ position = cc in
      let same : m ≡ node = cc in
      record { steps = 0; at = omega arith; member = ap (λ (x : ℕ). Some x) same; matching = sym (ap match same) ∙ is }
  by_test false is rest e =
      let f = rest e in
      record { steps = suc f.steps; at = omega (arith, f.at); member = f.member; matching = f.matching }

pub never_else : (match : ℕ → Bool) (i : ℕ) (ms : List ℕ) (p : Destination) → first_member match i ms ≡ p → (p ≡ Straight → ⊥)
never_else match i [] p e = λ same. absurd cc
never_else match i (m ∷ ms) p e = by_test (match m) (λ k. never_else match (suc i) ms p k) e where
  by_test : (b : Bool) → (first_member match (suc i) ms ≡ p → (p ≡ Straight → ⊥)) → cond b (IntoMember i m) (first_member match (suc i) ms) ≡ p → (p ≡ Straight → ⊥)
  by_test true rest e = λ same. absurd cc
  by_test false rest e = rest e

pub no_union_at : (match : ℕ → Bool) (o : Option Node) (r : ℕ) → is_union o ≡ false → place_at match o r ≡ cond (match r) Straight Unmatched
no_union_at match (Some (UnionNode ms)) r e = absurd cc
no_union_at match o r e = refl

pub member_in : (P : ℕ → Type 0) (ms : List ℕ) (i m : ℕ) → AllByRecursion P ms → slice_get ms i ≡ Some m → P m
member_in P [] i m all at = absurd cc
member_in P (x ∷ ms) zero m all at = let same : x ≡ m = cc in subst P same all.0
member_in P (x ∷ ms) (suc i) m all at = member_in P ms i m all.1 at

pub members_below : (W : List Node) (own : ℕ) (ms : List ℕ) → AllByRecursion (IsMember W own) ms → AllByRecursion (λ m. m < length W) ms
members_below W own [] all = tt
members_below W own (m ∷ ms) all = (all.0.below, members_below W own ms all.1)

-- a member of a union is no union
pub member_no_union : (nodes : List Node) → IsWellFormed nodes → (own : ℕ) (members : List ℕ) (i member : ℕ) → slice_get nodes own ≡ Some (UnionNode members) → slice_get members i ≡ Some member → is_union (slice_get nodes member) ≡ false
member_no_union nodes formed own members i member at is = (member_in (IsMember nodes own) members i member (formed.each own (UnionNode members) at).0 is).no_union
