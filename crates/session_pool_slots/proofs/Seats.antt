-- What the seats have for one slot, as one of them changes.
use Rattle.std.proofs.Common.{◌≡◌, ◌≢◌, ℕ, zero, suc, ◌<◌, List, [], ◌∷◌, ◌++◌, length, set, subst, sym, refl, ap, ◌∙◌, arith, Option, Some, None}
use mathlib.Core.Logic.{dite}
use mathlib.Core.Option.{some, some-ne-none}
use native.Mathlib.Decide.{ℕ_discrete}
use lib.ListN.{get_elem?}
use Rattle.atomic_table.proofs.Lists.{set_here, set_else}
use Rattle.session_pool_slots.specs.Rule.{look, Nobody, Sole}

pub within : {A : Type 0} (l : List A) (i : ℕ) (a : A) → get_elem? l i ≡ some a → i < length l
within [] i a e = absurd (some-ne-none a (sym e))
within (x ∷ xs) zero a e = omega arith
within (x ∷ xs) (suc i) a e = omega (arith, within xs i a e)

module _ {A B : Type 0} (f : A → B) (d : B) where
  abbrev pub seen_by : List A → ℕ → B
  seen_by l j = look f d (get_elem? l j)

  pub look_at : (l : List A) (i : ℕ) (a : A) → get_elem? l i ≡ some a → seen_by l i ≡ f a
  look_at l i a e = ap (look f d) e

  pub look_set : (l : List A) (i : ℕ) (a b : A) → get_elem? l i ≡ some a → seen_by (set l i b) i ≡ f b
  look_set l i a b e = ap (look f d) (set_here l i b (within l i a e))

  pub look_else : (l : List A) (i : ℕ) (b : A) (j : ℕ) → j ≢ i → seen_by (set l i b) j ≡ seen_by l j
  look_else l i b j n = ap (look f d) (set_else l i j b n)

  pub look_same : (l : List A) (i : ℕ) (a b : A) → get_elem? l i ≡ some a → f b ≡ f a → (j : ℕ) → seen_by (set l i b) j ≡ seen_by l j
  look_same l i a b e same j = dite (ℕ_discrete j i) (λ is. subst (λ (k : ℕ). seen_by (set l i b) k ≡ seen_by l k) (sym is) (look_set l i a b e ∙ (same ∙ sym (look_at l i a e)))) (look_else l i b j)

  pub look_new : (l : List A) (b : A) → f b ≡ d → (j : ℕ) → seen_by (l ++ b ∷ []) j ≡ seen_by l j
  look_new [] b e zero = e
  look_new [] b e (suc j) = refl
  look_new (x ∷ xs) b e zero = refl
  look_new (x ∷ xs) b e (suc j) = look_new xs b e j

module _ {A : Type 0} (P Q : ℕ → Option A) (id : ℕ) (others : (k : ℕ) → k ≢ id → Q k ≡ P k) where
  pub sole_set : (p q : A) → Sole P id p → Q id ≡ Some q → Sole Q id q
  sole_set p q s e = (e, λ k n. others k n ∙ s.1 k n)

  pub nobody_set : (p : A) → Sole P id p → Q id ≡ None → Nobody Q
  nobody_set p s e k = dite (ℕ_discrete k id) (λ is. subst (λ (j : ℕ). Q j ≡ None) (sym is) e) (λ n. others k n ∙ s.1 k n)

  pub sole_first : (q : A) → Nobody P → Q id ≡ Some q → Sole Q id q
  sole_first q bare e = (e, λ k n. others k n ∙ bare k)

module _ {A : Type 0} (P Q : ℕ → Option A) (same : (k : ℕ) → Q k ≡ P k) where
  pub sole_as : (j : ℕ) (a : A) → Sole P j a → Sole Q j a
  sole_as j a s = (same j ∙ s.0, λ k n. same k ∙ s.1 k n)

  pub nobody_as : Nobody P → Nobody Q
  nobody_as n j = same j ∙ n j

-- whoever has it is the one that has it
pub sole_is : {A : Type 0} (P : ℕ → Option A) (j id : ℕ) (p q : A) → Sole P j p → P id ≡ Some q → (j ≡ id) × (p ≡ q)
sole_is P j id p q s e = dite (ℕ_discrete id j) (λ is. (sym is, (let h : P j ≡ Some q = ap P (sym is) ∙ e in let g = s.0 in cc))) (λ n. (let h = s.1 id n in cc))

pub sole_of : {A : Type 0} (P : ℕ → Option A) (j id : ℕ) (p q : A) → Sole P j p → P id ≡ Some q → Sole P id q
sole_of P j id p q s e = let t = sole_is P j id p q s e in (e, λ k n. s.1 k (λ is. n (is ∙ t.0)))
