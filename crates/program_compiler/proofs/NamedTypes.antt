-- Named types under their unqualified names, while nodes and aliases are gone through.
use Rattle.std.proofs.Common.{◌≡◌, ℕ, zero, suc, ◌+◌, ◌≤◌, Bool, true, false, eqb, ◌||◌, ◌&&◌, List, [], ◌∷◌, length, take, Some, None, option_map, refl, sym, ap, ◌∙◌, arith, add-one}
use Rattle.std.specs.Prelude.{slice_get}
use Rattle.std.specs.Str.{bytes_eq}
use Rattle.std.proofs.lemmas.Bool.{eqb-true}
use Rattle.std.proofs.lemmas.Bool.Decides.{nat_tests}
use Rattle.std.proofs.lemmas.List.Folds.{list_any_more}
use Rattle.std.proofs.lemmas.Option.{get_or_from_slice_get, slice_get-map, slice_get_within}
use Rattle.spec_avro.specs.FullNames.{unqualified}
use Rattle.spec_avro.specs.Node.{Node, Names}
use Rattle.spec_avro.specs.Symbols.{is_used}
use Rattle.avro_types.specs.Laws.Booleans.{or_false}
use Rattle.program_compiler.specs.NamedTypes.{last_parts, unqualified_names}

-- ---- the names of one type

-- one name more
pub named_on : (parts : List (List ℕ)) (p : ℕ) (part last : List ℕ) (own old new before : Bool) → slice_get parts p ≡ Some part → old ≡ ((own && is_used last (take p parts)) || before)
    → new ≡ ((own && bytes_eq part last) || old) → new ≡ ((own && is_used last (take (p + 1) parts)) || before)
named_on parts p part last own old new before at so_far put =
    let more : is_used last (take (p + 1) parts) ≡ (is_used last (take p parts) || bytes_eq part last) =
    list_any_more (λ other. bytes_eq other last) parts p part (slice_get_within parts p part at) ∙ ap (λ x. is_used last (take p parts) || bytes_eq x last) (get_or_from_slice_get parts p part part at) in
    put ∙ ap (λ b. (own && bytes_eq part last) || b) so_far ∙ joined own (bytes_eq part last) (is_used last (take p parts)) before ∙ ap (λ b. (own && b) || before) (sym more)
  where
    joined : (own one some before : Bool) → ((own && one) || ((own && some) || before)) ≡ ((own && (some || one)) || before)
    joined true true true before = refl
    joined true true false before = refl
    joined true false some before = ap (λ b. b || before) (sym (or_false some))
    joined false one some before = refl

-- the part of an alias comes after that of the name
pub alias_part : (names : Names) (p : ℕ) (part : List ℕ) → Some part ≡ option_map unqualified (slice_get names.aliases p) → slice_get (last_parts names) (p + 1) ≡ Some part
alias_part names p part at = ap (slice_get (last_parts names)) (add-one p) ∙ slice_get-map unqualified names.aliases p ∙ sym at

pub no_more : (xs : List (List ℕ)) (p : ℕ) → None ≡ option_map unqualified (slice_get xs p) → length xs ≤ p
no_more [] p none = omega arith
no_more (x ∷ xs) zero none = absurd (let no : ⊥ = cc in no)
no_more (x ∷ xs) (suc p) none = omega (arith, no_more xs p none)

-- ---- the nodes so far

last_taken : {A : Type 0} (xs : List A) (i : ℕ) → slice_get (take (suc i) xs) i ≡ slice_get xs i
last_taken [] i = refl
last_taken (x ∷ xs) zero = refl
last_taken (x ∷ xs) (suc i) = last_taken xs i

not_taken : {A : Type 0} (xs : List A) (i : ℕ) → slice_get (take i xs) i ≡ None
not_taken xs zero = refl
not_taken [] (suc i) = refl
not_taken (x ∷ xs) (suc i) = not_taken xs i

still_taken : {A : Type 0} (xs : List A) (i n : ℕ) → eqb n i ≡ false → slice_get (take (suc i) xs) n ≡ slice_get (take i xs) n
still_taken [] zero n apart = refl
still_taken [] (suc i) n apart = refl
still_taken (x ∷ xs) zero zero apart = absurd (let no : ⊥ = cc in no)
still_taken (x ∷ xs) zero (suc n) apart = refl
still_taken (x ∷ xs) (suc i) zero apart = refl
still_taken (x ∷ xs) (suc i) (suc n) apart = still_taken xs i n (grind (arith, nat_tests, apart))

-- one node more
pub types_on : (R : List Node) (i : ℕ) (node : Node) (last : List ℕ) (n : ℕ) (old new : Bool) → slice_get R i ≡ Some node → old ≡ is_used last (unqualified_names (slice_get (take i R) n))
    → new ≡ ((eqb n i && is_used last (unqualified_names (Some node))) || old) → new ≡ is_used last (unqualified_names (slice_get (take (i + 1) R) n))
types_on R i node last n old new at so_far put = put ∙ ap (λ b. (eqb n i && is_used last (unqualified_names (Some node))) || b) so_far ∙ which (eqb n i) refl ∙ ap (λ k. is_used last (unqualified_names (slice_get (take k R) n))) (sym (add-one i))
  where
    which : (b : Bool) → eqb n i ≡ b → ((b && is_used last (unqualified_names (Some node))) || is_used last (unqualified_names (slice_get (take i R) n))) ≡ is_used last (unqualified_names (slice_get (take (suc i) R) n))
    which true e =
        let same : n ≡ i = eqb-true n i e in
        ap (λ o. is_used last (unqualified_names (Some node)) || is_used last (unqualified_names o)) (ap (slice_get (take i R)) same ∙ not_taken R i)
        ∙ or_false (is_used last (unqualified_names (Some node)))
        ∙ ap (λ o. is_used last (unqualified_names o)) (sym (ap (slice_get (take (suc i) R)) same ∙ last_taken R i ∙ at))
    which false e = ap (λ o. is_used last (unqualified_names o)) (sym (still_taken R i n e))
