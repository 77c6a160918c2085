-- What a search leaves of the trail.
use Rattle.std.proofs.Common.{◌≡◌, ℕ, [], ◌∷◌, ◌++◌, true, false, is_some, Option, Some, None, Result, Ok, Err, refl, sym, ap, ◌∙◌, append_assoc, append-nil}
use Rattle.avro_schema_paths.specs.Places.{Path}
use Rattle.avro_schema_paths.specs.declared.step.Step.{Step}
use Rattle.avro_schema_faults.specs.Searching.{Behind, Searches}

module _ {E : Type 0} (S T : Option ℕ → Path → Type 0) (before after : Path) where
  pub searched : (result : Result (Option ℕ) E) → ((r : Option ℕ) (p : Path) → S r p → T r p) → Searches result S before after → Searches result T before after
  searched (Ok None) f (p, is, s) = (p, is, f None p s)
  searched (Ok (Some rest)) f (is, s) = (is, f (Some rest) [] s)
  searched (Err e) f s = tt

-- the answer of a search that leaves the trail as it is
pub searched-here : (E : Type 0) (S : Option ℕ → Path → Type 0) (r : Option ℕ) (before : Path) → S r [] → Searches {E = E} (Ok r) S before before
searched-here E S None before s = ([], sym (append-nil before), s)
searched-here E S (Some rest) before s = (refl, s)

module _ (E : Type 0) (S : Option ℕ → Path → Type 0) (step : Step) (before pushed mid : Path) (is : pushed ≡ before ++ step ∷ []) where
  -- the node is in the part: the step stays
  pub found-in-part : (r : Option ℕ) → false ≡ is_some r → Searches {E = E} (Ok r) S pushed mid → Searches {E = E} (Ok r) (Behind step S) before mid
  found-in-part None none (p, at, s) = (step ∷ p, at ∙ ap (λ (b : Path). b ++ p) is ∙ append_assoc before (step ∷ []) p, (p, refl, s))
  found-in-part (Some rest) none s = absurd (let bad : ⊥ = cc in bad)

  -- it is not: the trail was as before
  pub passed-trail : (r : Option ℕ) → true ≡ is_some r → Searches {E = E} (Ok r) S pushed mid → mid ≡ before ++ step ∷ []
  passed-trail None some s = absurd (let bad : ⊥ = cc in bad)
  passed-trail (Some rest) some (at, s) = at ∙ is

  -- and the step goes
  pub passed-part : (r : Option ℕ) (final : Path) → true ≡ is_some r → Searches {E = E} (Ok r) S pushed mid → final ≡ before → Searches {E = E} (Ok r) (Behind step S) before final
  passed-part None final some s same = absurd (let bad : ⊥ = cc in bad)
  passed-part (Some rest) final some (at, s) same = (same, s)

pub behind-map : (step : Step) (S T : Option ℕ → Path → Type 0) → ((r : Option ℕ) (p : Path) → S r p → T r p) → (r : Option ℕ) (p : Path) → Behind step S r p → Behind step T r p
behind-map step S T f None p (q, is, s) = (q, is, f None q s)
behind-map step S T f (Some rest) p s = f (Some rest) [] s
