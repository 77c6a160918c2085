-- What the words of a line say is spelled by these words.
use Rattle.std.proofs.Common.{◌≡◌, ℕ, nat_eq, nat_lt, cond, ◌&&◌, Bool, true, false, List, [], ◌∷◌, ◌++◌, length, Option, Some, None, Result, Ok, Err, refl, sym, ap, subst, ◌∙◌, append_assoc}
use Rattle.std.specs.Prelude.{codes, find, option_map}
use Rattle.std.specs.List.{AllByRecursion, flat_map}
use Rattle.std.specs.Str.{bytes_eq}
use Rattle.std.proofs.lemmas.Bool.{eqb-true}
use Rattle.std.proofs.lemmas.List.{append-nil}
use Rattle.std.proofs.lemmas.List.Concat.{flat_map-cons}
use Rattle.std.proofs.lemmas.Slice.Eq.{bytes_eq-Decides}
use Rattle.hex.specs.declared.error.FromHexError.{FromHexError}
use Rattle.hex.specs.Hex.{decode_of, encode_lower}
use Rattle.spec_avro.specs.MismatchKind as kinds
use Rattle.spec_avro.specs.declared.mismatch.Mismatch.{Mismatch}
use Rattle.spec_avro.specs.declared.mismatch.MismatchKind.{MismatchKind}
use Rattle.spec_machine.specs.declared.entry.Entry.{Entry}
use Rattle.spec_machine.specs.declared.entry.Entry.TheVariants as entries
use Rattle.spec_machine.specs.declared.instr.Instr.{Instr}
use Rattle.spec_machine.specs.declared.operation.Operation.{Operation}
use Rattle.spec_machine.specs.declared.operation.Operation.TheVariants as op
use Rattle.spec_machine.specs.declared.operation.Shape.{Shape}
use Rattle.spec_machine.specs.declared.operation.Shape.TheVariants as shapes
use Rattle.spec_machine.specs.Operation.{instr_of, name_of, operand_of, operation_of, shape_of}
use Rattle.spec_machine.specs.declared.operation.TheConstants.{OPERATIONS}
use Rattle.spec_machine.specs.declared.miss_kinds.TheConstants.{KINDS}
use Rattle.spec_machine.specs.Listing.{entry, number, operand}
use Rattle.spec_machine.specs.ListingParts.{◌>>=◌, at_end, bytes_in, constant_in, each_in, entry_in, first_number, instr_in, miss_in, numbered, operand_in, spelled_so}
use Rattle.spec_machine.specs.ListingWords.{kind_named, number_in, operation_named}
use Rattle.assembler.proofs.Fit.{EntryFits, InstrFits, IsLow, MissFits, OperandFits}
use Rattle.assembler.proofs.Joined.{after}
use Rattle.assembler.proofs.Numbers.{number_taken}
use Rattle.avro_bytes.specs.Laws.Plain.{both}

pub bind_some : {A B : Type 0} (o : Option A) (f : A → Option B) (y : B) → (o >>= f) ≡ Some y → (x : A) × (o ≡ Some x) × (f x ≡ Some y)
bind_some (Some x) f y e = (x, refl, e)
bind_some None f y e = absurd cc

pub some_is : {A : Type 0} (x y : A) → Some x ≡ Some y → x ≡ y
some_is x y e = cc

map_some : {A B : Type 0} (f : A → B) (o : Option A) (y : B) → option_map f o ≡ Some y → (x : A) × (o ≡ Some x) × (f x ≡ y)
map_some f (Some x) y e = (x, refl, some_is (f x) y e)
map_some f None y e = absurd cc

end_is : {A : Type 0} (x y : A) (ws : List (List ℕ)) → at_end x ws ≡ Some y → (ws ≡ []) × (x ≡ y)
end_is x y [] e = (refl, some_is x y e)
end_is x y (w ∷ ws) e = absurd cc

found : {A : Type 0} (test : A → Bool) (xs : List A) (x : A) → find test xs ≡ Some x → test x ≡ true
found test [] x e = absurd cc
found test (y ∷ xs) x e = here (test y) refl (found test xs x) e where
  here : (b : Bool) → test y ≡ b → (find test xs ≡ Some x → test x ≡ true) → cond b (Some y) (find test xs) ≡ Some x → test x ≡ true
  here true is rest e = subst (λ (z : _). test z ≡ true) (some_is y x e) is
  here false is rest e = rest e

pub same_bytes : (xs ys : List ℕ) → bytes_eq xs ys ≡ true → xs ≡ ys
same_bytes xs ys e = (bytes_eq-Decides xs ys).0 e

-- ---- numbers

pub first_taken : (ws : List (List ℕ)) (x : ℕ × List (List ℕ)) → first_number ws ≡ Some x → IsLow x.0 → after 32 ws ≡ number x.0 ++ after 32 x.1
unfolding first_number
first_taken [] x e low = absurd cc
first_taken (w ∷ ws) x e low =
    let b = bind_some (number_in w) (λ n. Some (n, ws)) x e in
    let is : (b.0, ws) ≡ x = some_is (b.0, ws) x b.2 in
    let small : IsLow b.0 = subst (λ (y : ℕ × List (List ℕ)). IsLow y.0) (sym is) low in
    subst (λ (y : ℕ × List (List ℕ)). after 32 (w ∷ ws) ≡ number y.0 ++ after 32 y.1) is
    (ap (λ (t : List ℕ). 32 ∷ (t ++ after 32 ws)) (sym (number_taken w b.0 b.1 small)))

-- ---- constants

bytes_taken : (w : List ℕ) (r : Result (List ℕ) FromHexError) (bytes : List ℕ) → spelled_so w r ≡ Some bytes → encode_lower bytes ≡ w
bytes_taken w (Err f) bytes e = absurd cc
bytes_taken w (Ok y) bytes e = by_test (nat_lt 0 (length y) && bytes_eq (encode_lower y) w) refl e where
  by_test : (b : Bool) → (nat_lt 0 (length y) && bytes_eq (encode_lower y) w) ≡ b → cond b (Some y) None ≡ Some bytes → encode_lower bytes ≡ w
  by_test true is e =
      let k = both (nat_lt 0 (length y)) (bytes_eq (encode_lower y) w) is in
      subst (λ (z : List ℕ). encode_lower z ≡ w) (some_is y bytes e) (same_bytes (encode_lower y) w k.1)
  by_test false is e = absurd cc

pub constant_taken : (ws : List (List ℕ)) (bytes : List ℕ) → constant_in ws ≡ Some bytes → after 32 ws ≡ codes " " ++ encode_lower bytes
unfolding constant_in bytes_in
constant_taken [] bytes e = absurd cc
constant_taken (w ∷ ws) bytes e =
    let b = bind_some (spelled_so w (decode_of w)) (λ y. at_end y ws) bytes e in
    let end = end_is b.0 bytes ws b.2 in
    let spelled : encode_lower bytes ≡ w = subst (λ (y : List ℕ). encode_lower y ≡ w) end.1 (bytes_taken w (decode_of w) b.0 b.1) in
    ap (λ (vs : List (List ℕ)). 32 ∷ (w ++ after 32 vs)) end.0
    ∙ ap (λ (t : List ℕ). 32 ∷ t) (append-nil w)
    ∙ ap (λ (t : List ℕ). 32 ∷ t) (sym spelled)

-- ---- maps and jump tables

pub entry_taken : (w : List ℕ) (x : Entry) → entry_in w ≡ Some x → EntryFits x → entry x ≡ 32 ∷ w
unfolding entry_in
entry_taken [] x e low = absurd cc
entry_taken (b ∷ w) x e low = by_mark (nat_eq b 33) refl e where
  by_mark : (t : Bool) → nat_eq b 33 ≡ t → cond t (option_map entries.Miss (number_in w)) (option_map entries.Position (number_in (b ∷ w))) ≡ Some x → entry x ≡ 32 ∷ (b ∷ w)
  by_mark true is e =
      let m = map_some entries.Miss (number_in w) x e in
      let small : IsLow m.0 = subst EntryFits (sym m.2) low in
      ap entry (sym m.2) ∙ ap (λ (t : List ℕ). 32 ∷ (33 ∷ t)) (number_taken w m.0 m.1 small) ∙ ap (λ (n : ℕ). 32 ∷ (n ∷ w)) (sym (eqb-true b 33 is))
  by_mark false is e =
      let m = map_some entries.Position (number_in (b ∷ w)) x e in
      let small : IsLow m.0 = subst EntryFits (sym m.2) low in
      ap entry (sym m.2) ∙ ap (λ (t : List ℕ). 32 ∷ t) (number_taken (b ∷ w) m.0 m.1 small)

pub address_taken : (w : List ℕ) (a : ℕ) → number_in w ≡ Some a → IsLow a → number a ≡ 32 ∷ w
address_taken w a e low = ap (λ (t : List ℕ). 32 ∷ t) (number_taken w a e low)

module _ {A : Type 0} (said : List ℕ → Option A) (spell : A → List ℕ) (F : A → Type 0) (taken : (w : List ℕ) (x : A) → said w ≡ Some x → F x → spell x ≡ 32 ∷ w) where
  pub each_taken : (ws : List (List ℕ)) (xs : List A) → each_in said ws ≡ Some xs → AllByRecursion F xs → after 32 ws ≡ flat_map spell xs
  unfolding each_in
  each_taken [] xs e fits = ap (flat_map spell) (some_is [] xs e)
  each_taken (w ∷ ws) xs e fits =
      let b = bind_some (said w) (λ x. each_in said ws >>= λ others. Some (x ∷ others)) xs e in
      let r = bind_some (each_in said ws) (λ others. Some (b.0 ∷ others)) xs b.2 in
      let is : (b.0 ∷ r.0) ≡ xs = some_is (b.0 ∷ r.0) xs r.2 in
      let fit : F b.0 × AllByRecursion F r.0 = subst (AllByRecursion F) (sym is) fits in
      let first : spell b.0 ≡ 32 ∷ w = taken w b.0 b.1 fit.0 in
      let rest : after 32 ws ≡ flat_map spell r.0 = each_taken ws r.0 r.1 fit.1 in
      ap (λ (t : List ℕ). (32 ∷ w) ++ t) rest
      ∙ ap (λ (t : List ℕ). t ++ flat_map spell r.0) (sym first)
      ∙ sym (flat_map-cons spell b.0 r.0)
      ∙ ap (flat_map spell) is

-- ---- misses

kind_taken : (w : List ℕ) (k : MismatchKind) → kind_named w ≡ Some k → w ≡ kinds.name_of k
unfolding kind_named
kind_taken w k e = same_bytes w (kinds.name_of k) (found (λ k. bytes_eq w (kinds.name_of k)) KINDS k e)

abbrev made : MismatchKind → ℕ → ℕ → Mismatch
made k w r = record { kind = k; writer_node = w; reader_node = r }

pub miss_taken : (ws : List (List ℕ)) (m : Mismatch) → miss_in ws ≡ Some m → MissFits m
    → after 32 ws ≡ codes " " ++ kinds.name_of m.kind ++ number m.writer_node ++ number m.reader_node
unfolding miss_in
miss_taken [] m e fits = absurd cc
miss_taken (w ∷ ws) m e fits =
    let k = bind_some (kind_named w) (λ kind. first_number ws >>= λ writer. first_number writer.1 >>= λ reader. at_end (made kind writer.0 reader.0) reader.1) m e in
    let a = bind_some (first_number ws) (λ writer. first_number writer.1 >>= λ reader. at_end (made k.0 writer.0 reader.0) reader.1) m k.2 in
    let b = bind_some (first_number a.0.1) (λ reader. at_end (made k.0 a.0.0 reader.0) reader.1) m a.2 in
    let end = end_is (made k.0 a.0.0 b.0.0) m b.0.1 b.2 in
    let fit : MissFits (made k.0 a.0.0 b.0.0) = subst MissFits (sym end.1) fits in
    let first = first_taken ws a.0 a.1 fit.writer in
    let second = first_taken a.0.1 b.0 b.1 fit.reader in
    let last : after 32 b.0.1 ≡ [] = ap (λ (vs : List (List ℕ)). after 32 vs) end.0 in
    let all : after 32 ws ≡ number a.0.0 ++ number b.0.0 = first ∙ ap (λ (t : List ℕ). number a.0.0 ++ t) (second ∙ ap (λ (t : List ℕ). number b.0.0 ++ t) last ∙ append-nil (number b.0.0)) in
    subst (λ (n : Mismatch). after 32 (w ∷ ws) ≡ 32 ∷ ((kinds.name_of n.kind ++ number n.writer_node) ++ number n.reader_node)) end.1
    (ap (λ (t : List ℕ). 32 ∷ (w ++ t)) all ∙ ap (λ (t : List ℕ). 32 ∷ (t ++ (number a.0.0 ++ number b.0.0))) (kind_taken w k.0 k.1)
    ∙ ap (λ (t : List ℕ). 32 ∷ t) (sym (append_assoc (kinds.name_of k.0) (number a.0.0) (number b.0.0))))

-- ---- instructions

operation_taken : (w : List ℕ) (o : Operation) → operation_named w ≡ Some o → w ≡ name_of o
unfolding operation_named
operation_taken w o e = same_bytes w (name_of o) (found (λ o. bytes_eq w (name_of o)) OPERATIONS o e)

operand_taken : (s : Shape) (ws : List (List ℕ)) (x : ℕ × List (List ℕ)) → operand_in s ws ≡ Some x → OperandFits s x.0 → after 32 ws ≡ operand s x.0 ++ after 32 x.1
operand_taken shapes.Nothing ws x e low = ap (λ (y : ℕ × List (List ℕ)). after 32 y.1) (some_is (0, ws) x e)
operand_taken shapes.Short ws x e low = first_taken ws x e low
operand_taken shapes.Long ws x e low = first_taken ws x e low
operand_taken shapes.Address ws x e low = first_taken ws x e low

fits_back : (o : Operation) (n : ℕ) → InstrFits (instr_of o n) → OperandFits (shape_of o) n
fits_back op.Bool n h = h
fits_back _ n h = h

abbrev pub tail_of : Instr → List ℕ
tail_of i = codes " " ++ name_of (operation_of i) ++ operand (shape_of (operation_of i)) (operand_of i)

spelled : (o : Operation) (n : ℕ) → tail_of (instr_of o n) ≡ codes " " ++ name_of o ++ operand (shape_of o) n
spelled op.Bool n = refl
spelled _ n = refl

pub instr_taken : (ws : List (List ℕ)) (i : Instr) → instr_in ws ≡ Some i → InstrFits i → after 32 ws ≡ tail_of i
unfolding instr_in
instr_taken [] i e fits = absurd cc
instr_taken (w ∷ ws) i e fits =
    let o = bind_some (operation_named w) (λ o. operand_in (shape_of o) ws >>= λ n. at_end (instr_of o n.0) n.1) i e in
    let n = bind_some (operand_in (shape_of o.0) ws) (λ n. at_end (instr_of o.0 n.0) n.1) i o.2 in
    let end = end_is (instr_of o.0 n.0.0) i n.0.1 n.2 in
    let fit : OperandFits (shape_of o.0) n.0.0 = fits_back o.0 n.0.0 (subst InstrFits (sym end.1) fits) in
    let rest = operand_taken (shape_of o.0) ws n.0 n.1 fit in
    let last : after 32 n.0.1 ≡ [] = ap (λ (vs : List (List ℕ)). after 32 vs) end.0 in
    let all : after 32 ws ≡ operand (shape_of o.0) n.0.0 = rest ∙ ap (λ (t : List ℕ). operand (shape_of o.0) n.0.0 ++ t) last ∙ append-nil (operand (shape_of o.0) n.0.0) in
    ap (λ (t : List ℕ). 32 ∷ (w ++ t)) all
    ∙ ap (λ (t : List ℕ). 32 ∷ (t ++ operand (shape_of o.0) n.0.0)) (operation_taken w o.0 o.1)
    ∙ sym (spelled o.0 n.0.0)
    ∙ ap tail_of end.1

-- ---- a number before

pub numbered_some : {A : Type 0} (thing : List (List ℕ) → Option A) (ws : List (List ℕ)) (n : ℕ) (x : A) → numbered thing ws ≡ Some (n, x)
    → (rest : List (List ℕ)) × (first_number ws ≡ Some (n, rest)) × (thing rest ≡ Some x)
unfolding numbered
numbered_some {A = A} thing ws n x e =
    let b = bind_some (first_number ws) (λ f. thing f.1 >>= λ y. Some (f.0, y)) (n, x) e in
    let r = bind_some (thing b.0.1) (λ y. Some (b.0.0, y)) (n, x) b.2 in
    let is : (b.0.0, r.0) ≡ (n, x) = some_is (b.0.0, r.0) (n, x) r.2 in
    let first : b.0.0 ≡ n = ap (λ (p : ℕ × A). p.0) is in
    let second : r.0 ≡ x = ap (λ (p : ℕ × A). p.1) is in
    (b.0.1, b.1 ∙ ap (λ (k : ℕ). Some (k, b.0.1)) first, r.1 ∙ ap (λ (y : A). Some y) second)

pub numbered_taken : {A : Type 0} (thing : List (List ℕ) → Option A) (tail : A → List ℕ) (F : A → Type 0) → ((ws : List (List ℕ)) (x : A) → thing ws ≡ Some x → F x → after 32 ws ≡ tail x)
    → (ws : List (List ℕ)) (n : ℕ) (x : A) → numbered thing ws ≡ Some (n, x) → IsLow n → F x → after 32 ws ≡ number n ++ tail x
numbered_taken thing tail F taken ws n x e low fit =
    let s = numbered_some thing ws n x e in
    first_taken ws (n, s.0) s.1 low ∙ ap (λ (t : List ℕ). number n ++ t) (taken s.0 x s.2 fit)
