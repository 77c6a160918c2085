-- The indices of sections, with one more after the others.
use Rattle.std.proofs.Common.{◌≡◌, ℕ, suc, ◌+◌, ◌<◌, drop, get_or, Bool, true, false, cond, List, [], ◌∷◌, ◌++◌, length, Option, Some, None, is_some, refl, sym, ap, ◌∙◌, arith}
use Rattle.std.specs.Prelude.{◌==◌, ◌&&◌, if◌then◌else◌}
use Rattle.std.proofs.Math.Seq.{drop-cons}
use Rattle.std.proofs.lemmas.List.{length-map, map-append}
use Rattle.std.specs.declared.cmp.Ordering.{Ordering}
use Rattle.std.specs.declared.cmp.Ordering.TheVariants.{Less, Equal, Greater}
use Rattle.std.specs.Ordering.{is_eq, nat_cmp, ordering_then}
use Rattle.spec_avro.specs.Options.{or_else}
use Rattle.spec_machine.specs.Statements.{Section, Write, Skip}
use Rattle.spec_machine.specs.Numbering.{adding, calls_of, has, named_in, same_section}
use Rattle.spec_avro.specs.Node.{Node}
use Rattle.program_ir.specs.declared.statements.Statement as rust
use Rattle.program_ir.specs.declared.statements.Section as parts
use Rattle.program_ir.specs.Statements.{statement_of, statements_in, section_of}
use Rattle.program_ir.specs.Sections.{pair_cmp, place, place_from, sections_in}
use Rattle.program_definition.specs.Laws.Plain.{eq_is}

pub sections_on : (a b : List parts.Section) → sections_in (a ++ b) ≡ sections_in a ++ sections_in b
sections_on a b = map-append section_of a b

pub sections_length : (ss : List parts.Section) → length (sections_in ss) ≡ length ss
sections_length ss = length-map ss section_of

pub place_last : (n : ℕ) (s x : Section) (ss : List Section) → place_from n s (ss ++ x ∷ []) ≡ or_else (place_from n s ss) (if same_section s x then Some (n + length ss) else None)
place_last n s x [] = let e : n ≡ n + 0 = omega arith in go (same_section s x)
  where
    go : (b : Bool) → ◌≡◌ {A = Option ℕ} (if b then Some n else None) (if b then Some (n + 0) else None)
    go true = let e : n ≡ n + 0 = omega arith in ap Some e
    go false = refl
place_last n s x (y ∷ ss) = go (same_section s y) (place_last (suc n) s x ss)
  where
    go : (b : Bool) → place_from (suc n) s (ss ++ x ∷ []) ≡ or_else (place_from (suc n) s ss) (if same_section s x then Some (suc n + length ss) else None)
        → (if b then Some n else place_from (suc n) s (ss ++ x ∷ [])) ≡ or_else (if b then Some n else place_from (suc n) s ss) (if same_section s x then Some (n + suc (length ss)) else None)
    go true ih = refl
    go false ih = let e : suc n + length ss ≡ n + suc (length ss) = omega arith in ih ∙ ap (λ k. or_else (place_from (suc n) s ss) (if same_section s x then Some k else None)) e

-- a section is there where it has a place
pub has_place : (n : ℕ) (s : Section) (ss : List Section) → is_some (place_from n s ss) ≡ has same_section s ss
has_place n s [] = refl
has_place n s (x ∷ ss) = go (same_section s x) (has_place (suc n) s ss)
  where
    go : (b : Bool) → is_some (place_from (suc n) s ss) ≡ has same_section s ss → is_some (if b then Some n else place_from (suc n) s ss) ≡ (if b then true else has same_section s ss)
    go true ih = refl
    go false ih = ih

pub or_none : (o : Option ℕ) → or_else o None ≡ o
or_none None = refl
or_none (Some n) = refl

-- another section keeps its index
pub place_other : (s x : Section) (ss : List Section) → same_section s x ≡ false → place s (ss ++ x ∷ []) ≡ place s ss
place_other s x ss apart = place_last 0 s x ss ∙ ap (λ b. or_else (place s ss) (if b then Some (0 + length ss) else None)) apart ∙ or_none (place s ss)

-- the new one is the last
pub place_new : (s x : Section) (ss : List Section) → same_section s x ≡ true → place s ss ≡ None → place s (ss ++ x ∷ []) ≡ Some (length ss)
place_new s x ss same fresh = place_last 0 s x ss ∙ ap (λ b. or_else (place s ss) (if b then Some (0 + length ss) else None)) same ∙ ap (λ o. or_else o (Some (0 + length ss))) fresh ∙ (let e : 0 + length ss ≡ length ss = omega arith in ap Some e)

-- what a table has at a key, with one key more
pub table_on : (at : Bool) (s x : Section) (ss : List Section) (number : ℕ) (found was : Option ℕ) → at ≡ same_section s x → number ≡ length ss → (at ≡ true → place s ss ≡ None) → was ≡ place s ss → found ≡ cond at (Some number) was → found ≡ place s (ss ++ x ∷ [])
table_on true s x ss number found was same len fresh old e = e ∙ ap Some len ∙ sym (place_new s x ss (sym same) (fresh refl))
table_on false s x ss number found was same len fresh old e = e ∙ old ∙ sym (place_other s x ss (sym same))

-- ---- keys that are nodes

pub nat_at : (a b : ℕ) → is_eq (nat_cmp a b) ≡ (b == a)
nat_at a b = grind arith

pub nat_is : (a b : ℕ) → is_eq (nat_cmp a b) ≡ true → b ≡ a
nat_is a b at = eq_is b a (sym (nat_at a b) ∙ at)

pub skip_at : (w v : ℕ) → is_eq (nat_cmp w v) ≡ same_section (Skip v) (Skip w)
skip_at w v = nat_at w v

pub skip_fresh : (w v : ℕ) (ss : List Section) → place (Skip w) ss ≡ None → is_eq (nat_cmp w v) ≡ true → place (Skip v) ss ≡ None
skip_fresh w v ss fresh at = ap (λ n. place (Skip n) ss) (nat_is w v at) ∙ fresh

pub then_at : (a b : Ordering) → is_eq (ordering_then a b) ≡ (is_eq a && is_eq b)
then_at Less b = refl
then_at Equal b = refl
then_at Greater b = refl

pub pair_at : (w r : ℕ) (p : ℕ × ℕ) → is_eq (pair_cmp (w, r) p) ≡ same_section (Write p.0 p.1) (Write w r)
pair_at w r p = then_at (nat_cmp w p.0) (nat_cmp r p.1) ∙ ap (λ b. b && is_eq (nat_cmp r p.1)) (nat_at w p.0) ∙ ap (λ b. (p.0 == w) && b) (nat_at r p.1)

both_are : (a b : Bool) → (a && b) ≡ true → (a ≡ true) × (b ≡ true)
both_are true b h = (refl, h)
both_are false b h = absurd (let no : ⊥ = cc in no)

pub pair_is : (p q : ℕ × ℕ) → is_eq (pair_cmp p q) ≡ true → q ≡ p
pair_is p q at =
    let both = both_are (q.0 == p.0) (q.1 == p.1) (sym (pair_at p.0 p.1 q) ∙ at) in
    ap (λ n. (n, q.1)) (eq_is q.0 p.0 both.0) ∙ ap (λ n. (p.0, n)) (eq_is q.1 p.1 both.1)

pub write_fresh : (w r : ℕ) (p : ℕ × ℕ) (ss : List Section) → place (Write w r) ss ≡ None → is_eq (pair_cmp (w, r) p) ≡ true → place (Write p.0 p.1) ss ≡ None
write_fresh w r p ss fresh at = ap (λ q. place (Write q.0 q.1) ss) (pair_is (w, r) p at) ∙ fresh

-- ---- the sections that statements call

adding_on : (a b xs : List Section) → adding same_section xs (a ++ b) ≡ adding same_section (adding same_section xs a) b
adding_on [] b xs = refl
adding_on (s ∷ a) b xs = go (has same_section s xs) (adding_on a b xs) (adding_on a b (xs ++ s ∷ []))
  where
    go : (c : Bool) → adding same_section xs (a ++ b) ≡ adding same_section (adding same_section xs a) b → adding same_section (xs ++ s ∷ []) (a ++ b) ≡ adding same_section (adding same_section (xs ++ s ∷ []) a) b
        → (if c then adding same_section xs (a ++ b) else adding same_section (xs ++ s ∷ []) (a ++ b)) ≡ adding same_section (if c then adding same_section xs a else adding same_section (xs ++ s ∷ []) a) b
    go true x y = x
    go false x y = y

-- one statement more
pub calls_on : (W R : List Node) (statements : List rust.Statement) (i : ℕ) (statement : rust.Statement) (old new whole : List Section) → i < length statements → statement ≡ get_or statements i statement → new ≡ adding same_section old (calls_of (statement_of W R statement)) → adding same_section old (named_in calls_of (statements_in W R (drop i statements))) ≡ whole → adding same_section new (named_in calls_of (statements_in W R (drop (i + 1) statements))) ≡ whole
calls_on W R statements i statement old new whole lt is h so_far =
    let e : i + 1 ≡ suc i = omega arith in
    ap (λ k. adding same_section new (named_in calls_of (statements_in W R (drop k statements)))) e
    ∙ ap (λ l. adding same_section l (named_in calls_of (statements_in W R (drop (suc i) statements)))) h
    ∙ sym (adding_on (calls_of (statement_of W R statement)) (named_in calls_of (statements_in W R (drop (suc i) statements))) old)
    ∙ ap (λ l. adding same_section old (calls_of (statement_of W R l) ++ named_in calls_of (statements_in W R (drop (suc i) statements)))) is
    ∙ sym (ap (λ ls. adding same_section old (named_in calls_of (statements_in W R ls))) (drop-cons statements i statement lt))
    ∙ so_far
