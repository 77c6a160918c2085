-- What is read from the front is the spelling that was there, and what is spelled is read again.
use Rattle.std.proofs.Common.{◌≡◌, ℕ, zero, suc, ◌^◌, ◌<◌, ◌≤◌, cond, ltb, List, [], ◌∷◌, ◌++◌, length, Ok, Err, refl, sym, ap, subst, ◌∙◌, append_assoc, arith}
use Rattle.std.proofs.lemmas.Bool.{ltb-false, le-ltb}
use Rattle.std.proofs.lemmas.List.Concat.{flat_map-cons}
use Rattle.std.specs.List.{flat_map, AllByRecursion}
use Rattle.std.specs.Int.{w32}
use Rattle.avro_loader.specs.ImageReading.{◌>>=◌, Read, place, number_at}
use Rattle.spec_machine.specs.ImageSpelling.{long}
use Rattle.avro_loader.specs.declared.image_fault.ImageFault.TheVariants.{TooLarge}
use Rattle.avro_loader.specs.declared.version.Format.{Format}
use Rattle.avro_loader.proofs.Spelled.{longs}
use Rattle.avro_loader.proofs.Steps.{bind_ok, unless, ok_is}
use Rattle.avro_loader.proofs.Taking.{IsBytes, Takes, Takes-then, Reads}
use Rattle.spec_machine.specs.Image.{section}
use Rattle.avro_loader.specs.Reading.{count_at, section_at, things_at}

-- ---- n things

module _ {A : Type 0} (read : List ℕ → Read A) (spell : A → List ℕ) (Fits : A → Type 0) (reads : Reads read spell Fits) where
  pub things_take : (n : ℕ) (bytes : List ℕ) (x : List A × List ℕ) → IsBytes bytes → things_at read n bytes ≡ Ok x → Takes bytes (flat_map spell x.0) x.1 × (length x.0 ≡ n)
  unfolding things_at
  things_take zero bytes x fits e =
      subst (λ (y : List A × List ℕ). Takes bytes (flat_map spell y.0) y.1 × (length y.0 ≡ 0)) (ok_is ([], bytes) x e) (record { parts = refl; rest_fits = fits }, refl)
  things_take (suc n) bytes x fits e =
      let a = bind_ok (read bytes) (λ first. things_at read n first.1 >>= λ others. Ok (first.0 ∷ others.0, others.1)) x e in
      let b = bind_ok (things_at read n a.0.1) (λ others. Ok (a.0.0 ∷ others.0, others.1)) x a.2 in
      let first = reads.takes bytes a.0 fits a.1 in
      let second = things_take n a.0.1 b.0 first.rest_fits b.1 in
      let both = Takes-then bytes (spell a.0.0) a.0.1 (flat_map spell b.0.0) b.0.1 first second.0 in
      let made : List A × List ℕ = (a.0.0 ∷ b.0.0, b.0.1) in
      subst (λ (y : List A × List ℕ). Takes bytes (flat_map spell y.0) y.1 × (length y.0 ≡ suc n)) (ok_is made x b.2) (rw flat_map-cons both, ap suc second.1)

  pub things_again : (xs : List A) (rest : List ℕ) → AllByRecursion Fits xs → things_at read (length xs) (flat_map spell xs ++ rest) ≡ Ok (xs, rest)
  unfolding things_at
  things_again [] rest fits = refl
  things_again (x ∷ xs) rest fits =
      let regrouped : flat_map spell (x ∷ xs) ++ rest ≡ spell x ++ (flat_map spell xs ++ rest) = ap (λ (t : List ℕ). t ++ rest) (flat_map-cons spell x xs) ∙ append_assoc (spell x) (flat_map spell xs) rest in
      ap (things_at read (suc (length xs))) regrouped ∙ rw (reads.again x (flat_map spell xs ++ rest) fits.0, things_again xs rest fits.1) refl

-- ---- a count and that many things

pub count_takes : (f : Format) (most : ℕ) (bytes : List ℕ) (x : ℕ × List ℕ) → IsBytes bytes → count_at f most bytes ≡ Ok x → Takes bytes (long x.0) x.1 × (x.0 ≤ most)
unfolding count_at
count_takes f most bytes x fits e =
    let a = bind_ok (number_at w32 bytes) (λ n. cond (ltb most n.0) (Err (TooLarge (place f bytes))) (Ok n)) x e in
    let g = unless (ltb most a.0.0) (TooLarge (place f bytes)) (Ok a.0) x a.2 in
    subst (λ (y : ℕ × List ℕ). Takes bytes (long y.0) y.1 × (y.0 ≤ most)) (ok_is a.0 x g.1) (longs.takes bytes a.0 fits a.1, ltb-false _ _ g.0)

pub count_again : (f : Format) (most n : ℕ) (rest : List ℕ) → n ≤ most → most < 2 ^ 32 → count_at f most (long n ++ rest) ≡ Ok (n, rest)
unfolding count_at
count_again f most n rest le small =
    ap (λ (r : Read ℕ). r >>= λ m. cond (ltb most m.0) (Err (TooLarge (place f (long n ++ rest)))) (Ok m)) (longs.again n rest (omega (arith, le, small)))
    ∙ ap (λ b. cond b (Err (TooLarge (place f (long n ++ rest)))) (Ok (n, rest))) (le-ltb _ _ le)

pub record FitSection {A : Type 0} (most : ℕ) (Fits : A → Type 0) (xs : List A) : Type 0 where
  pub few : length xs ≤ most
  pub each : AllByRecursion Fits xs

pub section_takes : {A : Type 0} (f : Format) (most : ℕ) (read : List ℕ → Read A) (spell : A → List ℕ) (Fits : A → Type 0) → Reads read spell Fits
    → (bytes : List ℕ) (x : List A × List ℕ) → IsBytes bytes → section_at f most read bytes ≡ Ok x → Takes bytes (section spell x.0) x.1
unfolding section_at
section_takes {A = A} f most read spell Fits reads bytes x fits e =
    let a = bind_ok (count_at f most bytes) (λ n. things_at read n.0 n.1) x e in
    let first = count_takes f most bytes a.0 fits a.1 in
    let second = things_take read spell Fits reads a.0.0 a.0.1 x first.0.rest_fits a.2 in
    let both = Takes-then bytes (long a.0.0) a.0.1 (flat_map spell x.0) x.1 first.0 second.0 in
    subst (λ (k : ℕ). Takes bytes (long k ++ flat_map spell x.0) x.1) (sym second.1) both

pub section_again : {A : Type 0} (f : Format) (most : ℕ) (read : List ℕ → Read A) (spell : A → List ℕ) (Fits : A → Type 0) → Reads read spell Fits → most < 2 ^ 32
    → (xs : List A) (rest : List ℕ) → FitSection most Fits xs → section_at f most read (section spell xs ++ rest) ≡ Ok (xs, rest)
unfolding section_at
section_again f most read spell Fits reads small xs rest fits =
    ap (λ (bytes : List ℕ). count_at f most bytes >>= λ n. things_at read n.0 n.1) (append_assoc (long (length xs)) (flat_map spell xs) rest)
    ∙ ap (λ (r : Read ℕ). r >>= λ n. things_at read n.0 n.1) (count_again f most (length xs) (flat_map spell xs ++ rest) fits.few small)
    ∙ things_again read spell Fits reads xs rest fits.each

pub section_reads : {A : Type 0} (f : Format) (most : ℕ) (read : List ℕ → Read A) (spell : A → List ℕ) (Fits : A → Type 0) → Reads read spell Fits → most < 2 ^ 32
    → Reads (section_at f most read) (section spell) (FitSection most Fits)
section_reads f most read spell Fits reads small = record { takes = section_takes f most read spell Fits reads; again = section_again f most read spell Fits reads small }
