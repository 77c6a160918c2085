-- Reading one thing after the other, as a loop does.
use Rattle.std.proofs.Common.{◌≡◌, ℕ, suc, ◌+◌, ◌<◌, ◌≤◌, List, [], ◌∷◌, ◌++◌, length, Ok, Err, refl, sym, ap, ◌∙◌, append_assoc, arith, ◌-◌}
use Rattle.std.proofs.lemmas.List.{append-nil}
use Rattle.avro_loader.specs.ImageReading.{◌>>=◌, Read}
use Rattle.avro_loader.specs.declared.version.Format.{Format}
use Rattle.avro_loader.specs.Reading.{things_at, constants_at, Fails, constant_at}
use Rattle.avro_loader.specs.declared.fault.LoadError.{LoadError}
use Rattle.avro_loader.specs.declared.fault.LoadError.TheVariants as errors

-- a thing before others
abbrev pub before_others : {A : Type 0} → A → Read (List A) → Read (List A)
before_others x others = others >>= λ o. Ok (x ∷ o.0, o.1)

-- what was read before, and what is still read
abbrev pub with_front : {A : Type 0} → List A → Read (List A) → Read (List A)
with_front front read = read >>= λ x. Ok (front ++ x.0, x.1)

module _ {A : Type 0} where
  regroup : (front : List A) (x : A) (others : Read (List A)) → with_front front (before_others x others) ≡ with_front (front ++ x ∷ []) others
  regroup front x (Ok o) = ap (λ (xs : List A). Ok (xs, o.1)) (simp append_assoc)
  regroup front x (Err f) = refl

  goes_on : (front : List A) (x : A) (all others total : Read (List A)) → all ≡ before_others x others → with_front front all ≡ total → with_front (front ++ x ∷ []) others ≡ total
  goes_on front x all others total e so_far = sym (regroup front x others) ∙ ap (with_front front) (sym e) ∙ so_far

  ends : (e : LoadError) (front : List A) (one : Read A) (more : A × List ℕ → Read (List A)) (all total : Read (List A)) → all ≡ (one >>= more) → Fails e one → with_front front all ≡ total → Fails e total
  ends errors.NoMemory front one more all total is fails so_far = tt
  ends (errors.Fault f) front one more all total is fails so_far = sym so_far ∙ ap (with_front front) (is ∙ ap (λ (o : Read A). o >>= more) fails)

  is_done : (front : List A) (bytes : List ℕ) (all total : Read (List A)) → all ≡ Ok ([], bytes) → with_front front all ≡ total → total ≡ Ok (front, bytes)
  is_done front bytes all total e so_far = sym so_far ∙ ap (with_front front) e ∙ ap (λ (xs : List A). Ok (xs, bytes)) (append-nil front)

-- ---- things

module _ {A : Type 0} (thing : List ℕ → Read A) (count i : ℕ) (bytes : List ℕ) (front : List A) (total : Read (List A)) (so_far : with_front front (things_at thing (count - i) bytes) ≡ total) where
  more_things : i < count → things_at thing (count - i) bytes ≡ (thing bytes >>= λ first. before_others first.0 (things_at thing (count - (i + 1)) first.1))
  unfolding things_at
  more_things lt = let k : count - i ≡ suc (count - (i + 1)) = omega arith in rw k refl

  pub thing_read : (x : A) (rest : List ℕ) → i < count → thing bytes ≡ Ok (x, rest) → with_front (front ++ x ∷ []) (things_at thing (count - (i + 1)) rest) ≡ total
  thing_read x rest lt h = goes_on front x (things_at thing (count - i) bytes) (things_at thing (count - (i + 1)) rest) total
      (more_things lt ∙ ap (λ (o : Read A). o >>= λ first. before_others first.0 (things_at thing (count - (i + 1)) first.1)) h) so_far

  pub thing_fails : (e : LoadError) → i < count → Fails e (thing bytes) → Fails e total
  thing_fails e lt h = ends e front (thing bytes) (λ first. before_others first.0 (things_at thing (count - (i + 1)) first.1)) (things_at thing (count - i) bytes) total (more_things lt) h so_far

  pub things_read : count ≤ i → total ≡ Ok (front, bytes)
  unfolding things_at
  things_read le = let k : count - i ≡ 0 = omega arith in is_done front bytes (things_at thing (count - i) bytes) total (rw k refl) so_far

-- ---- constants

module _ (f : Format) (room count i : ℕ) (bytes : List ℕ) (front : List (List ℕ)) (total : Read (List (List ℕ))) (so_far : with_front front (constants_at f room (count - i) bytes) ≡ total) where
  more_constants : i < count → constants_at f room (count - i) bytes ≡ (constant_at f room bytes >>= λ first. before_others first.0 (constants_at f (room - length first.0) (count - (i + 1)) first.1))
  unfolding constants_at
  more_constants lt = let k : count - i ≡ suc (count - (i + 1)) = omega arith in rw k refl

  pub constant_read : (x : List ℕ) (rest : List ℕ) → i < count → constant_at f room bytes ≡ Ok (x, rest) → with_front (front ++ x ∷ []) (constants_at f (room - length x) (count - (i + 1)) rest) ≡ total
  constant_read x rest lt h = goes_on front x (constants_at f room (count - i) bytes) (constants_at f (room - length x) (count - (i + 1)) rest) total
      (more_constants lt ∙ ap (λ (o : Read (List ℕ)). o >>= λ first. before_others first.0 (constants_at f (room - length first.0) (count - (i + 1)) first.1)) h) so_far

  pub constant_fails : (e : LoadError) → i < count → Fails e (constant_at f room bytes) → Fails e total
  constant_fails e lt h = ends e front (constant_at f room bytes) (λ first. before_others first.0 (constants_at f (room - length first.0) (count - (i + 1)) first.1)) (constants_at f room (count - i) bytes) total (more_constants lt) h so_far

  pub constants_read : count ≤ i → total ≡ Ok (front, bytes)
  unfolding constants_at
  constants_read le = let k : count - i ≡ 0 = omega arith in is_done front bytes (constants_at f room (count - i) bytes) total (rw k refl) so_far
