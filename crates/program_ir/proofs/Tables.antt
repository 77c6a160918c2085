-- Things in a row, with one more after the others.
use Rattle.std.proofs.Common.{◌≡◌, ℕ, suc, ◌+◌, ◌<◌, ◌≤◌, Bool, true, false, cond, List, [], ◌∷◌, ◌++◌, length, drop, get_or, Option, Some, None, is_some, refl, sym, ap, ◌∙◌, append_assoc, arith, option_map, map}
use Rattle.std.specs.Prelude.{◌==◌, ◌&&◌, if◌then◌else◌}
use Rattle.std.specs.declared.cmp.Ordering.{Ordering}
use Rattle.std.specs.declared.cmp.Ordering.TheVariants.{Less, Equal, Greater}
use Rattle.std.specs.Global.{Vec}
use Rattle.std.specs.Option.{unwrap_or}
use Rattle.std.specs.Ordering.{is_eq, nat_cmp, ordering_then}
use Rattle.std.specs.Str.{bytes_eq}
use Rattle.std.proofs.lemmas.Map.Text.{is_eq-slice_cmp}
use Rattle.std.proofs.Math.Seq.{drop-cons}
use Rattle.spec_avro.specs.Node.{Node}
use Rattle.spec_machine.specs.declared.entry.Entry.TheVariants as entries
use Rattle.spec_avro.specs.Options.{given, or_else}
use Rattle.spec_avro.specs.declared.mismatch.MismatchKind.TheVariants as kinds
use Rattle.spec_avro.specs.Resolution.{symbol_for as position_of_symbol}
use Rattle.spec_avro.specs.MismatchKind.{code_of as code_of_kind}
use Rattle.spec_avro.specs.declared.mismatch.Mismatch.{Mismatch}
use Rattle.spec_machine.specs.Statements.{Lacks, To, miss}
use Rattle.spec_machine.specs.Numbering.{adding, entry_of, has, number, same_miss}
use Rattle.spec_machine.specs.Writing.{target}
use Rattle.program_definition.proofs.Numbers.{bytes_is, bytes_refl, miss_is}
use Rattle.program_ir.specs.Tables.{bytes_cmp, entry_at, found, key_cmp, key_of}
use Rattle.program_ir.proofs.Numbered.{then_at, or_none, nat_at}

suc_or : (o p : Option ℕ) → option_map suc (or_else o p) ≡ or_else (option_map suc o) (option_map suc p)
suc_or None p = refl
suc_or (Some n) p = refl

module _ {A : Type 0} (same : A → A → Bool) where
  found_on : (a x : A) (xs : List A) → found same a (x ∷ xs) ≡ (if same a x then Some 0 else option_map suc (found same a xs))
  found_on a x xs = go (same a x) (has same a xs)
    where
      go : (b h : Bool) → ◌≡◌ {A = Option ℕ} (if (if b then true else h) then Some (if b then 0 else suc (number same a xs)) else None) (if b then Some 0 else option_map suc (if h then Some (number same a xs) else None))
      go true h = refl
      go false true = refl
      go false false = refl

  found_last : (a x : A) (xs : List A) → found same a (xs ++ x ∷ []) ≡ or_else (found same a xs) (if same a x then Some (length xs) else None)
  found_last a x [] = go (same a x)
    where
      go : (b : Bool) → ◌≡◌ {A = Option ℕ} (if (if b then true else false) then Some (if b then 0 else 1) else None) (if b then Some 0 else None)
      go true = refl
      go false = refl
  found_last a x (y ∷ xs) = found_on a y (xs ++ x ∷ []) ∙ go (same a y) (same a x) (found_last a x xs) ∙ ap (λ o. or_else o (if same a x then Some (suc (length xs)) else None)) (sym (found_on a y xs))
    where
      last : (c : Bool) → ◌≡◌ {A = Option ℕ} (option_map suc (if c then Some (length xs) else None)) (if c then Some (suc (length xs)) else None)
      last true = refl
      last false = refl

      go : (b c : Bool) → found same a (xs ++ x ∷ []) ≡ or_else (found same a xs) (if c then Some (length xs) else None)
          → (if b then Some 0 else option_map suc (found same a (xs ++ x ∷ []))) ≡ or_else (if b then Some 0 else option_map suc (found same a xs)) (if c then Some (suc (length xs)) else None)
      go true c ih = refl
      go false c ih = ap (option_map suc) ih ∙ suc_or (found same a xs) (if c then Some (length xs) else None) ∙ ap (or_else (option_map suc (found same a xs))) (last c)

  -- what a table has at a key, with one key more
  pub table_on : (at : Bool) (a x : A) (xs : List A) (n : ℕ) (got was : Option ℕ) → at ≡ same a x → n ≡ length xs → (at ≡ true → found same a xs ≡ None) → was ≡ found same a xs → got ≡ cond at (Some n) was → got ≡ found same a (xs ++ x ∷ [])
  table_on true a x xs n got was is len fresh old e = e ∙ ap Some len ∙ ap (λ o. or_else o (Some (length xs))) (sym (fresh refl)) ∙ ap (λ b. or_else (found same a xs) (if b then Some (length xs) else None)) is ∙ sym (found_last a x xs)
  table_on false a x xs n got was is len fresh old e = e ∙ old ∙ sym (or_none (found same a xs)) ∙ ap (λ b. or_else (found same a xs) (if b then Some (length xs) else None)) is ∙ sym (found_last a x xs)

  pub is_found : (a : A) (xs : List A) → is_some (found same a xs) ≡ has same a xs
  is_found a xs = go (has same a xs)
    where
      go : (b : Bool) → is_some (if b then Some (number same a xs) else None) ≡ b
      go true = refl
      go false = refl

  -- with no place among them, a thing's number is how many there are
  pub number_none : (a : A) (xs : List A) → has same a xs ≡ false → number same a xs ≡ length xs
  number_none a [] h = refl
  number_none a (x ∷ xs) h = go (same a x) (number_none a xs) h
    where
      go : (b : Bool) → (has same a xs ≡ false → number same a xs ≡ length xs) → (if b then true else has same a xs) ≡ false → (if b then 0 else suc (number same a xs)) ≡ suc (length xs)
      go true ih h = absurd cc
      go false ih h = ap suc (ih h)

  pub number_at_most : (a : A) (xs : List A) → number same a xs ≤ length xs
  number_at_most a [] = omega arith
  number_at_most a (x ∷ xs) = go (same a x) (number_at_most a xs)
    where
      go : (b : Bool) → number same a xs ≤ length xs → (if b then 0 else suc (number same a xs)) ≤ suc (length xs)
      go true ih = omega arith
      go false ih = omega (arith, ih)

  pub adding_there : (a : A) (xs : List A) → has same a xs ≡ true → xs ≡ adding same xs (a ∷ [])
  adding_there a xs h = ap (λ b. if b then xs else xs ++ a ∷ []) (sym h)

  pub adding_new : (a : A) (xs : List A) → has same a xs ≡ false → xs ++ a ∷ [] ≡ adding same xs (a ∷ [])
  adding_new a xs h = ap (λ b. if b then xs else xs ++ a ∷ []) (sym h)

  pub adding_on : (a b xs : List A) → adding same xs (a ++ b) ≡ adding same (adding same xs a) b
  adding_on [] b xs = refl
  adding_on (s ∷ a) b xs = go (has same s xs) (adding_on a b xs) (adding_on a b (xs ++ s ∷ []))
    where
      go : (c : Bool) → adding same xs (a ++ b) ≡ adding same (adding same xs a) b → adding same (xs ++ s ∷ []) (a ++ b) ≡ adding same (adding same (xs ++ s ∷ []) a) b
          → (if c then adding same xs (a ++ b) else adding same (xs ++ s ∷ []) (a ++ b)) ≡ adding same (if c then adding same xs a else adding same (xs ++ s ∷ []) a) b
      go true x y = x
      go false x y = y

-- ---- keys

pub miss_at : (a b : Mismatch) → is_eq (key_cmp (key_of a) (key_of b)) ≡ same_miss b a
miss_at a b =
    then_at (ordering_then (nat_cmp (code_of_kind a.kind) (code_of_kind b.kind)) (nat_cmp a.writer_node b.writer_node)) (nat_cmp a.reader_node b.reader_node)
    ∙ ap (λ x. x && is_eq (nat_cmp a.reader_node b.reader_node)) (then_at (nat_cmp (code_of_kind a.kind) (code_of_kind b.kind)) (nat_cmp a.writer_node b.writer_node))
    ∙ ap (λ x. x && is_eq (nat_cmp a.writer_node b.writer_node) && is_eq (nat_cmp a.reader_node b.reader_node)) (nat_at (code_of_kind a.kind) (code_of_kind b.kind))
    ∙ ap (λ x. code_of_kind b.kind == code_of_kind a.kind && x && is_eq (nat_cmp a.reader_node b.reader_node)) (nat_at a.writer_node b.writer_node)
    ∙ ap (λ x. code_of_kind b.kind == code_of_kind a.kind && b.writer_node == a.writer_node && x) (nat_at a.reader_node b.reader_node)

-- a miss that is looked up as another is that one
pub miss_fresh : (a b : Mismatch) (xs : List Mismatch) → found same_miss a xs ≡ None → is_eq (key_cmp (key_of a) (key_of b)) ≡ true → found same_miss b xs ≡ None
miss_fresh a b xs fresh at = ap (λ m. found same_miss m xs) (miss_is b a (sym (miss_at a b) ∙ at)) ∙ fresh

pub bytes_at : (a b : Vec ℕ) → is_eq (bytes_cmp a b) ≡ bytes_eq b.items a.items
bytes_at a b = is_eq-slice_cmp a.items b.items ∙ turned (bytes_eq a.items b.items) (bytes_eq b.items a.items) refl refl
  where
    turned : (c d : Bool) → bytes_eq a.items b.items ≡ c → bytes_eq b.items a.items ≡ d → c ≡ d
    turned true true e f = refl
    turned false false e f = refl
    turned true false e f = sym (ap (λ l. bytes_eq b.items l) (bytes_is a.items b.items e) ∙ bytes_refl b.items) ∙ f
    turned false true e f = sym e ∙ (ap (λ l. bytes_eq a.items l) (bytes_is b.items a.items f) ∙ bytes_refl a.items)

pub bytes_fresh : (a b : Vec ℕ) (xs : List (List ℕ)) → found bytes_eq a.items xs ≡ None → is_eq (bytes_cmp a b) ≡ true → found bytes_eq b.items xs ≡ None
bytes_fresh a b xs fresh at = ap (λ m. found bytes_eq m xs) (bytes_is b.items a.items (sym (bytes_at a b) ∙ at)) ∙ fresh

pub number_or : {A : Type 0} (same : A → A → Bool) (a : A) (xs : List A) (o : Option ℕ) (len n : ℕ) → o ≡ found same a xs → len ≡ length xs → n ≡ unwrap_or o len → n ≡ number same a xs
number_or same a xs o len n is el e = e ∙ ap (λ p. unwrap_or p len) is ∙ ap (unwrap_or (found same a xs)) el ∙ go (has same a xs) refl
  where
    go : (b : Bool) → has same a xs ≡ b → unwrap_or (if b then Some (number same a xs) else None) (length xs) ≡ number same a xs
    go true h = refl
    go false h = sym (number_none same a xs h)

pub map_twice : {X Y Z : Type 0} (f : Y → Z) (g : X → Y) (xs : List X) → map (λ x. f (g x)) xs ≡ map f (map g xs)
map_twice f g [] = refl
map_twice f g (x ∷ xs) = ap (λ l. f (g x) ∷ l) (map_twice f g xs)

-- one more of what each becomes
pub mapped_on : {X Y : Type 0} (f : X → Y) (xs : List X) (i : ℕ) (x : X) (before : List Y) (y : Y) (whole : List Y) → i < length xs → x ≡ get_or xs i x → y ≡ f x → before ++ map f (drop i xs) ≡ whole → (before ++ y ∷ []) ++ map f (drop (i + 1) xs) ≡ whole
mapped_on f xs i x before y whole lt is e so_far =
    let next : i + 1 ≡ suc i = omega arith in
    ap (λ k. (before ++ y ∷ []) ++ map f (drop k xs)) next
    ∙ append_assoc before (y ∷ []) (map f (drop (suc i) xs))
    ∙ ap (λ z. before ++ z ∷ map f (drop (suc i) xs)) (e ∙ ap f is)
    ∙ ap (λ l. before ++ map f l) (sym (drop-cons xs i x lt))
    ∙ so_far

-- what a symbol becomes, by its position
pub entry_is : (misses : List Mismatch) (w r : ℕ) (reader : Option Node) (symbol : List ℕ) (n : ℕ) → n ≡ number same_miss (miss kinds.NoSymbol w r) misses → entry_at n (position_of_symbol reader symbol) ≡ entry_of misses (target w r reader symbol)
entry_is misses w r reader symbol n e = go (position_of_symbol reader symbol)
  where
    go : (o : Option ℕ) → entry_at n o ≡ entry_of misses (given o (Lacks (miss kinds.NoSymbol w r)) To)
    go (Some p) = refl
    go None = ap entries.Miss e
