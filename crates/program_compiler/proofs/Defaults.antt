-- The numbers of defaults: constants that are there keep theirs, and one that is added has the number that it would
-- have.
use Rattle.std.proofs.Common.{◌≡◌, ℕ, Bool, true, false, cond, List, [], ◌∷◌, ◌++◌, suc, Some, None, is_some, refl, sym, ap, ◌∙◌}
use Rattle.std.specs.Prelude.{Option, if◌then◌else◌}
use Rattle.std.specs.BTreeMap.{BTreeMap, get}
use Rattle.std.specs.Ordering.{is_eq}
use Rattle.std.specs.Str.{bytes_eq}
use Rattle.spec_avro.specs.Node.{Node}
use Rattle.spec_machine.specs.Numbering.{adding, has, number}
use Rattle.program_definition.proofs.Growing.{number_more}
use Rattle.program_definition.proofs.Numbers.{added, bytes_refl, has_more}
use Rattle.program_ir.specs.declared.statements.Constant.TheVariants.{Default}
use Rattle.program_ir.specs.Statements.{bytes_of}
use Rattle.program_ir.specs.Tables.{found}
use Rattle.program_ir.specs.Sections.{pair_cmp}
use Rattle.program_compiler.specs.Tables.{AreDefaults}
use Rattle.program_compiler.proofs.Sharing.{number_is, pair_is}
use Rattle.program_ir.proofs.Tables.{adding_there, is_found}

-- what is found is there, and has that number
there : (b : List ℕ) (xs : List (List ℕ)) (n : ℕ) → found bytes_eq b xs ≡ Some n → has bytes_eq b xs ≡ true
there b xs n e = sym (is_found bytes_eq b xs) ∙ ap is_some e

pub its_number : (b : List ℕ) (xs : List (List ℕ)) (n : ℕ) → found bytes_eq b xs ≡ Some n → n ≡ number bytes_eq b xs
its_number b xs n e = number_is n (number bytes_eq b xs) (sym e ∙ ap (λ h. if h then Some (number bytes_eq b xs) else None) (there b xs n e))

found_there : (b : List ℕ) (xs : List (List ℕ)) → has bytes_eq b xs ≡ true → found bytes_eq b xs ≡ Some (number bytes_eq b xs)
found_there b xs h = ap (λ t. if t then Some (number bytes_eq b xs) else None) h

found_more : (b : List ℕ) (xs more : List (List ℕ)) (n : ℕ) → found bytes_eq b xs ≡ Some n → found bytes_eq b (xs ++ more) ≡ Some n
found_more b xs more n e =
    let h = there b xs n e in
    found_there b (xs ++ more) (has_more bytes_eq bytes_refl b xs more h) ∙ ap Some (number_more bytes_eq b xs more h ∙ sym (its_number b xs n e))

found_still : (b : List ℕ) (xs others : List (List ℕ)) (n : ℕ) → found bytes_eq b xs ≡ Some n → found bytes_eq b (adding bytes_eq xs others) ≡ Some n
found_still b xs others n e =
    let more = (added bytes_eq bytes_refl others xs).0 in
    ap (found bytes_eq b) more.1 ∙ found_more b xs more.0 n e

found_added : (b : List ℕ) (xs : List (List ℕ)) → found bytes_eq b (adding bytes_eq xs (b ∷ [])) ≡ Some (number bytes_eq b xs)
found_added b xs =
    let all = added bytes_eq bytes_refl (b ∷ []) xs in
    found_there b (adding bytes_eq xs (b ∷ [])) all.1.0 ∙ ap Some (at (has bytes_eq b xs) refl)
  where
    last : (ys : List (List ℕ)) → has bytes_eq b ys ≡ false → number bytes_eq b (ys ++ b ∷ []) ≡ number bytes_eq b ys
    last [] h = ap (λ t. if t then 0 else 1) (bytes_refl b)
    last (y ∷ ys) h = go (bytes_eq b y) (last ys) h
      where
        go : (t : Bool) → (has bytes_eq b ys ≡ false → number bytes_eq b (ys ++ b ∷ []) ≡ number bytes_eq b ys) → (if t then true else has bytes_eq b ys) ≡ false
            → (if t then 0 else suc (number bytes_eq b (ys ++ b ∷ []))) ≡ (if t then 0 else suc (number bytes_eq b ys))
        go true ih e = refl
        go false ih e = ap suc (ih e)

    at : (t : Bool) → has bytes_eq b xs ≡ t → number bytes_eq b (if t then xs else xs ++ b ∷ []) ≡ number bytes_eq b xs
    at true h = refl
    at false h = last xs h

module _ (R : List Node) where
  -- another constant, and the defaults keep their numbers
  pub defaults_still : (defaults : BTreeMap (ℕ × ℕ) ℕ) (xs more others : List (List ℕ)) → AreDefaults R defaults xs → more ≡ adding bytes_eq xs others → AreDefaults R defaults more
  defaults_still defaults xs more others known h field n e = ap (found bytes_eq (bytes_of R (Default field.0 field.1))) h ∙ found_still (bytes_of R (Default field.0 field.1)) xs others n (known field n e)

  -- a default that was there adds no constant
  pub default_before : (defaults : BTreeMap (ℕ × ℕ) ℕ) (xs : List (List ℕ)) (key : ℕ × ℕ) → AreDefaults R defaults xs → (o : Option ℕ) → get pair_cmp defaults key ≡ o → is_some o ≡ true
      → xs ≡ adding bytes_eq xs (bytes_of R (Default key.0 key.1) ∷ [])
  default_before defaults xs key known (Some n) e h = adding_there bytes_eq (bytes_of R (Default key.0 key.1)) xs (there (bytes_of R (Default key.0 key.1)) xs n (known key n e))
  default_before defaults xs key known None e h = absurd (let no : ⊥ = cc in no)

  -- a default that was not there
  pub defaults_on : (defaults further : BTreeMap (ℕ × ℕ) ℕ) (xs more : List (List ℕ)) (key : ℕ × ℕ) (number_of : ℕ) → AreDefaults R defaults xs
      → number_of ≡ number bytes_eq (bytes_of R (Default key.0 key.1)) xs → more ≡ adding bytes_eq xs (bytes_of R (Default key.0 key.1) ∷ [])
      → ((field : ℕ × ℕ) → get pair_cmp further field ≡ cond (is_eq (pair_cmp key field)) (Some number_of) (get pair_cmp defaults field)) → AreDefaults R further more
  defaults_on defaults further xs more key number_of known is h updates field n e = at (is_eq (pair_cmp key field)) refl (sym (updates field) ∙ e)
    where
      at : (b : Bool) → is_eq (pair_cmp key field) ≡ b → cond b (Some number_of) (get pair_cmp defaults field) ≡ Some n → found bytes_eq (bytes_of R (Default field.0 field.1)) more ≡ Some n
      at true same there =
          ap (found bytes_eq (bytes_of R (Default field.0 field.1))) h
          ∙ ap (λ f. found bytes_eq (bytes_of R (Default f.0 f.1)) (adding bytes_eq xs (bytes_of R (Default key.0 key.1) ∷ []))) (pair_is key field same)
          ∙ found_added (bytes_of R (Default key.0 key.1)) xs
          ∙ ap Some (sym is)
          ∙ there
      at false same there = ap (found bytes_eq (bytes_of R (Default field.0 field.1))) h ∙ found_still (bytes_of R (Default field.0 field.1)) xs (bytes_of R (Default key.0 key.1) ∷ []) n (known field n there)
