-- Things listed once, in the order in which they came.
use Rattle.std.proofs.Common.{◌≡◌, ℕ, suc, Bool, true, false, List, [], ◌∷◌, ◌++◌, Some, refl, sym, ap, ◌∙◌, subst, arith, append_assoc, append-nil}
use Rattle.std.specs.Prelude.{◌==◌, ◌&&◌, slice_get, if◌then◌else◌}
use Rattle.std.specs.List.{AllByRecursion}
use Rattle.std.specs.Str.{bytes_eq}
use Rattle.std.proofs.lemmas.Slice.Eq.{bytes_eq-Decides}
use Rattle.spec_avro.specs.declared.mismatch.Mismatch.{Mismatch}
use Rattle.spec_avro.specs.MismatchKind.{code_of as code_of_kind}
use Rattle.spec_avro.specs.declared.mismatch.MismatchKind.{MismatchKind}
use Rattle.spec_avro.specs.declared.mismatch.MismatchKind.TheVariants as kinds
use Rattle.spec_machine.specs.Statements.{Section, Main, Write, Skip}
use Rattle.spec_machine.specs.Numbering.{adding, has, number, same_miss, same_section}
use Rattle.program_definition.specs.Laws.Plain.{eq_is}

module _ {A : Type 0} (same : A → A → Bool) (decides : (a b : A) → same a b ≡ true → a ≡ b) where
  pub number_at : (a : A) (xs : List A) → has same a xs ≡ true → slice_get xs (number same a xs) ≡ Some a
  number_at a [] h = absurd (let no : ⊥ = cc in no)
  number_at a (x ∷ xs) h = go (same a x) refl (number_at a xs) h
    where
      go : (b : Bool) → same a x ≡ b → (has same a xs ≡ true → slice_get xs (number same a xs) ≡ Some a) → (if b then true else has same a xs) ≡ true → slice_get (x ∷ xs) (if b then 0 else suc (number same a xs)) ≡ Some a
      go true e ih h = ap Some (sym (decides a x e))
      go false e ih h = ih h

module _ {A : Type 0} (same : A → A → Bool) (refls : (a : A) → same a a ≡ true) where
  abbrev pub AllIn : List A → List A → Type 0
  AllIn wanted xs = AllByRecursion (λ a. has same a xs ≡ true) wanted

  pub has_more : (c : A) (xs more : List A) → has same c xs ≡ true → has same c (xs ++ more) ≡ true
  has_more c [] more h = absurd (let no : ⊥ = cc in no)
  has_more c (x ∷ xs) more h = go (same c x) (has_more c xs more) h
    where
      go : (b : Bool) → (has same c xs ≡ true → has same c (xs ++ more) ≡ true) → (if b then true else has same c xs) ≡ true → (if b then true else has same c (xs ++ more)) ≡ true
      go true f h = refl
      go false f h = f h

  has_last : (c : A) (xs : List A) → has same c (xs ++ c ∷ []) ≡ true
  has_last c [] = rw refls refl
  has_last c (x ∷ xs) = go (same c x) (has_last c xs)
    where
      go : (b : Bool) → has same c (xs ++ c ∷ []) ≡ true → (if b then true else has same c (xs ++ c ∷ [])) ≡ true
      go true h = refl
      go false h = h

  pub all_more : (cs xs more : List A) → AllIn cs xs → AllIn cs (xs ++ more)
  all_more [] xs more h = tt
  all_more (c ∷ cs) xs more h = (has_more c xs more h.0, all_more cs xs more h.1)

  abbrev pub Extends : List A → List A → Type 0
  Extends xs ys = (more : List A) × (ys ≡ xs ++ more)

  -- what was there stays in front, and all that is added is there
  pub added : (cs xs : List A) → Extends xs (adding same xs cs) × AllIn cs (adding same xs cs)
  added [] xs = (([], sym (append-nil xs)), tt)
  added (c ∷ cs) xs = go (has same c xs) refl (added cs xs) (added cs (xs ++ c ∷ []))
    where
      go : (b : Bool) → has same c xs ≡ b → Extends xs (adding same xs cs) × AllIn cs (adding same xs cs) → Extends (xs ++ c ∷ []) (adding same (xs ++ c ∷ []) cs) × AllIn cs (adding same (xs ++ c ∷ []) cs) → Extends xs (if b then adding same xs cs else adding same (xs ++ c ∷ []) cs) × AllIn (c ∷ cs) (if b then adding same xs cs else adding same (xs ++ c ∷ []) cs)
      go true e x y = (x.0, (subst (λ l. has same c l ≡ true) (sym x.0.1) (has_more c xs x.0.0 e), x.1))
      go false e x y = ((c ∷ y.0.0, y.0.1 ∙ append_assoc xs (c ∷ []) y.0.0), (subst (λ l. has same c l ≡ true) (sym y.0.1) (has_more c (xs ++ c ∷ []) y.0.0 (has_last c xs)), y.1))

-- ---- equality of bytes, misses, sections

eq_refl : (n : ℕ) → (n == n) ≡ true
eq_refl n = grind arith

and_is : (a b : Bool) → (a && b) ≡ true → (a ≡ true) × (b ≡ true)
and_is true b h = (refl, h)
and_is false b h = absurd (let no : ⊥ = cc in no)

pub bytes_refl : (b : List ℕ) → bytes_eq b b ≡ true
bytes_refl b = (bytes_eq-Decides b b).1 refl

pub bytes_is : (a b : List ℕ) → bytes_eq a b ≡ true → a ≡ b
bytes_is a b h = (bytes_eq-Decides a b).0 h

kind_of_code : ℕ → MismatchKind
kind_of_code n = if n == 1 then kinds.NoMatch else if n == 2 then kinds.NoBranch else if n == 3 then kinds.NoSymbol else if n == 4 then kinds.NoDefault else kinds.BytesNotText

kind_again : (k : MismatchKind) → kind_of_code (code_of_kind k) ≡ k
unfolding kind_of_code
kind_again kinds.NoMatch = refl
kind_again kinds.NoBranch = refl
kind_again kinds.NoSymbol = refl
kind_again kinds.NoDefault = refl
kind_again kinds.BytesNotText = refl

pub miss_refl : (m : Mismatch) → same_miss m m ≡ true
miss_refl m = rw (eq_refl (code_of_kind m.kind), eq_refl m.writer_node, eq_refl m.reader_node) refl

pub miss_is : (a b : Mismatch) → same_miss a b ≡ true → a ≡ b
miss_is a b h =
    let x = and_is (code_of_kind a.kind == code_of_kind b.kind && a.writer_node == b.writer_node) (a.reader_node == b.reader_node) h in
    let y = and_is (code_of_kind a.kind == code_of_kind b.kind) (a.writer_node == b.writer_node) x.0 in
    let k : a.kind ≡ b.kind = sym (kind_again a.kind) ∙ ap kind_of_code (eq_is (code_of_kind a.kind) (code_of_kind b.kind) y.0) ∙ kind_again b.kind in
    let w = eq_is a.writer_node b.writer_node y.1 in
    let r = eq_is a.reader_node b.reader_node x.1 in
    ap (λ k. record { kind = k; writer_node = a.writer_node; reader_node = a.reader_node }) k ∙ ap (λ w. record { kind = b.kind; writer_node = w; reader_node = a.reader_node }) w ∙ ap (λ r. record { kind = b.kind; writer_node = b.writer_node; reader_node = r }) r

pub section_refl : (s : Section) → same_section s s ≡ true
section_refl Main = refl
section_refl (Write w r) = rw (eq_refl w, eq_refl r) refl
section_refl (Skip w) = eq_refl w

pub section_is : (a b : Section) → same_section a b ≡ true → a ≡ b
section_is Main Main h = refl
section_is (Write w r) (Write v s) h = let x = and_is _ _ h in ap (λ n. Write n r) (eq_is _ _ x.0) ∙ ap (Write v) (eq_is _ _ x.1)
section_is (Skip w) (Skip v) h = ap Skip (eq_is _ _ h)
section_is Main (Write v s) h = absurd (let no : ⊥ = cc in no)
section_is Main (Skip v) h = absurd (let no : ⊥ = cc in no)
section_is (Write w r) Main h = absurd (let no : ⊥ = cc in no)
section_is (Write w r) (Skip v) h = absurd (let no : ⊥ = cc in no)
section_is (Skip w) Main h = absurd (let no : ⊥ = cc in no)
section_is (Skip w) (Write v s) h = absurd (let no : ⊥ = cc in no)
