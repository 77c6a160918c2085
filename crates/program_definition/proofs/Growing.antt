-- Numbers stay as they are while the tables grow, so that code can be linked in one pass.
use Rattle.std.proofs.Common.{◌≡◌, ℕ, suc, ◌+◌, Bool, true, false, List, [], ◌∷◌, ◌++◌, length, refl, ap, ◌∙◌}
use Rattle.std.specs.Prelude.{if◌then◌else◌}
use Rattle.std.specs.List.{AllByRecursion}
use Rattle.std.specs.Str.{bytes_eq}
use Rattle.spec_avro.specs.declared.mismatch.Mismatch.{Mismatch}
use Rattle.spec_machine.specs.declared.instr.Instr.TheVariants as op
use Rattle.spec_machine.specs.Statements.{Section, Statement, Op, Put, Miss, BytesText, Enum, Call, Ahead, Back, Branch, Lost}
use Rattle.spec_machine.specs.Numbering.{code_from, constants_of, has, jumps_of, linked, maps_of, misses_of, named_in, number, same_miss}
use Rattle.program_definition.proofs.Numbering.{all_front, all_back}

pub number_more : {A : Type 0} (same : A → A → Bool) (a : A) (xs more : List A) → has same a xs ≡ true → number same a (xs ++ more) ≡ number same a xs
number_more same a [] more h = absurd cc
number_more same a (x ∷ xs) more h = go (same a x) (number_more same a xs more) h
  where
    go : (b : Bool) → (has same a xs ≡ true → number same a (xs ++ more) ≡ number same a xs) → (if b then true else has same a xs) ≡ true → (if b then 0 else suc (number same a (xs ++ more))) ≡ (if b then 0 else suc (number same a xs))
    go true ih h = refl
    go false ih h = ap suc (ih h)

module _ (starts : Section → ℕ) (cs more : List (List ℕ)) (ms others : List Mismatch) where
  abbrev pub Constants : List (List ℕ) → Type 0
  Constants bs = AllByRecursion (λ b. has bytes_eq b cs ≡ true) bs

  abbrev pub Misses : List Mismatch → Type 0
  Misses xs = AllByRecursion (λ x. has same_miss x ms ≡ true) xs

  linked_more : (pc m j : ℕ) (l : Statement) → Constants (constants_of l) → Misses (misses_of l) → linked starts (cs ++ more) (ms ++ others) pc m j l ≡ linked starts cs ms pc m j l
  linked_more pc m j (Op i) c x = refl
  linked_more pc m j (Put bytes) c x = ap op.Put (number_more bytes_eq bytes cs more c.0)
  linked_more pc m j (Miss y) c x = ap op.Miss (number_more same_miss y ms others x.0)
  linked_more pc m j (BytesText y) c x = ap op.BytesText (number_more same_miss y ms others x.0)
  linked_more pc m j (Enum ts) c x = refl
  linked_more pc m j (Call s) c x = refl
  linked_more pc m j (Ahead go far) c x = refl
  linked_more pc m j (Back far) c x = refl
  linked_more pc m j (Branch fars) c x = refl
  linked_more pc m j Lost c x = refl

  pub code_more : (pc m j : ℕ) (ls : List Statement) → Constants (named_in constants_of ls) → Misses (named_in misses_of ls) → code_from starts (cs ++ more) (ms ++ others) pc m j ls ≡ code_from starts cs ms pc m j ls
  code_more pc m j [] c x = refl
  code_more pc m j (l ∷ ls) c x =
      ap (λ i. i ∷ code_from starts (cs ++ more) (ms ++ others) (pc + 1) (m + length (maps_of l)) (j + length (jumps_of pc l)) ls) (linked_more pc m j l (all_front _ (constants_of l) (named_in constants_of ls) c) (all_front _ (misses_of l) (named_in misses_of ls) x))
      ∙ ap (λ is. linked starts cs ms pc m j l ∷ is) (code_more (pc + 1) (m + length (maps_of l)) (j + length (jumps_of pc l)) ls (all_back _ (constants_of l) (named_in constants_of ls) c) (all_back _ (misses_of l) (named_in misses_of ls) x))
