-- Maps of enums that were there before: a map more, and the numbers of those before stay.
use Rattle.std.proofs.Common.{◌≡◌, ℕ, ◌<◌, Bool, true, false, cond, List, [], ◌∷◌, ◌++◌, length, length-append, map, slice_get, Some, refl, sym, ap, ◌∙◌, subst, arith}
use Rattle.std.specs.Prelude.{◌==◌, ◌&&◌}
use Rattle.std.specs.BTreeMap.{BTreeMap, get}
use Rattle.std.specs.Ordering.{is_eq, nat_cmp}
use Rattle.std.proofs.Math.Seq.{get_or-append_seam}
use Rattle.std.proofs.lemmas.List.{get_or_append_left}
use Rattle.std.proofs.lemmas.Option.{get_or_from_slice_get, slice_get-get_or, slice_get_within}
use Rattle.spec_avro.specs.Node.{Node}
use Rattle.spec_avro.specs.declared.mismatch.Mismatch.{Mismatch}
use Rattle.spec_machine.specs.declared.entry.Entry.{Entry}
use Rattle.spec_machine.specs.Numbering.{entry_of}
use Rattle.program_ir.specs.Statements.{targets_of}
use Rattle.program_ir.specs.Sections.{pair_cmp}
use Rattle.program_compiler.specs.Tables.{AreShared}
use Rattle.program_ir.proofs.Numbered.{nat_at, then_at}

longer : (xs : List (List Entry)) (x a : List Entry) (n : ℕ) → slice_get xs n ≡ Some a → slice_get (xs ++ x ∷ []) n ≡ Some a
longer xs x a n e =
    let lt = slice_get_within xs n a e in
    let more = length-append xs (x ∷ []) in
    let within : n < length (xs ++ x ∷ []) = omega (arith, lt, more) in
    slice_get-get_or (xs ++ x ∷ []) n a within ∙ ap Some (get_or_append_left xs (x ∷ []) a n lt ∙ get_or_from_slice_get xs n a a e)

last : (xs : List (List Entry)) (x : List Entry) → slice_get (xs ++ x ∷ []) (length xs) ≡ Some x
last xs x =
    let more = length-append xs (x ∷ []) in
    let within : length xs < length (xs ++ x ∷ []) = omega (arith, more) in
    slice_get-get_or (xs ++ x ∷ []) (length xs) x within ∙ ap Some (get_or-append_seam xs x [] x)

pair_at : (p q : ℕ × ℕ) → is_eq (pair_cmp p q) ≡ ((q.0 == p.0) && (q.1 == p.1))
pair_at p q = then_at (nat_cmp p.0 q.0) (nat_cmp p.1 q.1) ∙ ap (λ x. x && is_eq (nat_cmp p.1 q.1)) (nat_at p.0 q.0) ∙ ap (λ x. (q.0 == p.0) && x) (nat_at p.1 q.1)

both : (a b c d : ℕ) → ((a == b) && (c == d)) ≡ true → (a ≡ b) × (c ≡ d)
both a b c d e = grind arith

pub pair_is : (p q : ℕ × ℕ) → is_eq (pair_cmp p q) ≡ true → q ≡ p
pair_is p q e = let parts = both q.0 p.0 q.1 p.1 (sym (pair_at p q) ∙ e) in ap (λ a. (a, q.1)) parts.0 ∙ ap (λ b. (p.0, b)) parts.1

pub number_is : (x y : ℕ) → Some x ≡ Some y → x ≡ y
number_is x y e = cc

module _ (W R : List Node) (ms : List Mismatch) where
  abbrev entries : ℕ × ℕ → List Entry
  entries pair = map (entry_of ms) (targets_of W R pair.0 pair.1)

  -- a map once more
  pub shared_again : (numbers : BTreeMap (ℕ × ℕ) ℕ) (maps more : List (List Entry)) (x : List Entry) → AreShared W R ms numbers maps → more ≡ maps ++ x ∷ [] → AreShared W R ms numbers more
  shared_again numbers maps more x shared h pair n e = subst (λ l. slice_get l n ≡ Some (entries pair)) (sym h) (longer maps x (entries pair) n (shared pair n e))

  -- a map of a pair that was not there
  pub shared_on : (numbers further : BTreeMap (ℕ × ℕ) ℕ) (maps more : List (List Entry)) (key : ℕ × ℕ) (number : ℕ) → AreShared W R ms numbers maps → number ≡ length maps
      → more ≡ maps ++ entries key ∷ [] → ((pair : ℕ × ℕ) → get pair_cmp further pair ≡ cond (is_eq (pair_cmp key pair)) (Some number) (get pair_cmp numbers pair)) → AreShared W R ms further more
  shared_on numbers further maps more key number shared len h updates pair n e = at (is_eq (pair_cmp key pair)) refl (sym (updates pair) ∙ e)
    where
      at : (b : Bool) → is_eq (pair_cmp key pair) ≡ b → cond b (Some number) (get pair_cmp numbers pair) ≡ Some n → slice_get more n ≡ Some (entries pair)
      at true is there =
          let same : number ≡ n = number_is number n there in
          ap (λ l. slice_get l n) h ∙ ap (λ i. slice_get (maps ++ entries key ∷ []) i) (sym same ∙ len) ∙ last maps (entries key) ∙ ap (λ k. Some (entries k)) (sym (pair_is key pair is))
      at false is there = ap (λ l. slice_get l n) h ∙ longer maps (entries key) (entries pair) n (shared pair n there)
