-- Words and lines that are put together come apart again.
use Rattle.std.proofs.Common.{◌≡◌, ℕ, ◌<◌, ◌≤◌, nat_eq, nat_lt, true, false, List, [], ◌∷◌, ◌++◌, refl, ap, ◌∙◌, arith}
use Rattle.std.specs.List.{AllByRecursion, list_all}
use Rattle.std.proofs.lemmas.List.{append-nil}
use Rattle.spec_machine.specs.ListingWords.{in_front, parts, words}
use Rattle.assembler.proofs.Joined.{after}
use Rattle.avro_bytes.specs.Laws.Plain.{both}
use Rattle.isa.specs.Laws.Plain.{is_lt}

-- each byte is above a number
abbrev pub Above : ℕ → List ℕ → Type 0
Above m bytes = AllByRecursion (λ b. m < b) bytes

pub above_append : (m : ℕ) (xs ys : List ℕ) → Above m xs → Above m ys → Above m (xs ++ ys)
above_append m [] ys h g = g
above_append m (x ∷ xs) ys h g = (h.0, above_append m xs ys h.1 g)

pub above_less : (k m : ℕ) (xs : List ℕ) → k ≤ m → Above m xs → Above k xs
above_less k m [] le h = tt
above_less k m (x ∷ xs) le h = (omega (arith, le, h.0), above_less k m xs le h.1)

pub above_from_test : (m : ℕ) (xs : List ℕ) → list_all (λ b. nat_lt m b) xs ≡ true → Above m xs
above_from_test m [] e = tt
above_from_test m (x ∷ xs) e = let k = both (nat_lt m x) (list_all (λ b. nat_lt m b) xs) e in (is_lt m x k.0, above_from_test m xs k.1)

other : (s b : ℕ) → s < b → nat_eq b s ≡ false
other s b h = grind arith

pub same : (s : ℕ) → nat_eq s s ≡ true
same s = grind arith

module _ (s : ℕ) where
  pub parts_before : (part rest : List ℕ) → Above s part → parts s (part ++ s ∷ rest) ≡ part ∷ parts s rest
  unfolding parts in_front
  parts_before [] rest h = rw (same s) refl
  parts_before (b ∷ part) rest h = rw (other s b h.0, parts_before part rest h.1) refl

  parts_alone : (part : List ℕ) → Above s part → parts s part ≡ part ∷ []
  unfolding parts in_front
  parts_alone [] h = refl
  parts_alone (b ∷ part) h = rw (other s b h.0, parts_alone part h.1) refl

abbrev pub AreWords : List (List ℕ) → Type 0
AreWords ws = AllByRecursion (Above 32) ws

pub words_again : (w : List ℕ) (ws : List (List ℕ)) → Above 32 w → AreWords ws → words (w ++ after 32 ws) ≡ w ∷ ws
words_again w [] h g = ap words (append-nil w) ∙ parts_alone 32 w h
words_again w (v ∷ ws) h g = parts_before 32 w (v ++ after 32 ws) h ∙ ap (λ (vs : List (List ℕ)). w ∷ vs) (words_again v ws g.0 g.1)

after_above : (ws : List (List ℕ)) → AreWords ws → Above 10 (after 32 ws)
after_above [] g = tt
after_above (w ∷ ws) g = (omega arith, above_append 10 w (after 32 ws) (above_less 10 32 w (omega arith) g.0) (after_above ws g.1))

pub line_above : (w : List ℕ) (ws : List (List ℕ)) → Above 32 w → AreWords ws → Above 10 (w ++ after 32 ws)
line_above w ws h g = above_append 10 w (after 32 ws) (above_less 10 32 w (omega arith) h) (after_above ws g)
