-- Plain facts that several proofs need.
use Rattle.std.proofs.Common.{List, [], ◌∷◌, sym, subst, inl, inr, ◌≡◌, ℕ, zero, suc, ◌<◌, length, slice_get, Some, refl, arith, Bool, true, false, cond, Option, None, is_none, ◌||◌, ◌⊎◌, ap, ◌∙◌}
use Rattle.std.specs.List.{AllByRecursion}
use Rattle.resolver.specs.NextPairs.{Among, some_missing, lacks_symbol}
use Rattle.spec_avro.specs.Safety.{Pair, is_enum}
use Rattle.spec_avro.specs.declared.place.Destination.TheVariants.{Straight, IntoMember, Unmatched}
use Rattle.spec_avro.specs.Resolution.{symbol_in, symbol_at, symbol_for}
use Rattle.std.proofs.lemmas.Bool.{or_left, or_right}
use Rattle.spec_avro.specs.Node.{Node, EnumNode}

pub among_one : (all ps : List Pair) → AllByRecursion (λ q. Among q all) ps → (q : Pair) → Among q ps → Among q all
among_one all [] f q a = absurd a
among_one all (x ∷ ps) f q (inl e) = subst (λ (y : Pair). Among y all) (sym e) f.0
among_one all (x ∷ ps) f q (inr a) = among_one all ps f.1 q a

pub within : (xs : List (List ℕ)) (n : ℕ) → n < length xs → (x : List ℕ) × (slice_get xs n ≡ Some x)
within [] n lt = absurd (omega arith)
within (x ∷ xs) zero lt = (x, refl)
within (x ∷ xs) (suc n) lt = within xs n (omega arith)

pub not_into : (b : Bool) (position node : ℕ) → cond b Straight Unmatched ≡ IntoMember position node → ⊥
not_into true position node e = cc
not_into false position node e = cc

pub straight_if : (b : Bool) → cond b Straight Unmatched ≡ Straight → b ≡ true
straight_if true e = refl
straight_if false e = absurd cc

pub nothing : {A : Type 0} (o : Option A) → is_none o ≡ true → o ≡ None
nothing None e = refl
nothing (Some a) e = absurd cc

pub either : (a b : Bool) → (a || b) ≡ true → (a ≡ true) ⊎ (b ≡ true)
either true b e = inl refl
either false b e = inr e

pub symbol_there : (theirs : List (List ℕ)) (default : Option ℕ) (symbols : List (List ℕ)) (i : ℕ) (symbol : List ℕ) → slice_get symbols i ≡ Some symbol → symbol_in theirs default symbol ≡ None → some_missing theirs default symbols ≡ true
symbol_there theirs default [] i symbol at none = absurd cc
symbol_there theirs default (s ∷ ss) zero symbol at none =
    let same : s ≡ symbol = cc in
    or_left (is_none (symbol_in theirs default s)) (some_missing theirs default ss) (ap (λ (x : List ℕ). is_none (symbol_in theirs default x)) same ∙ ap is_none none)
symbol_there theirs default (s ∷ ss) (suc i) symbol at none = or_right (is_none (symbol_in theirs default s)) (some_missing theirs default ss) (symbol_there theirs default ss i symbol at none)

pub some_symbol : (theirs : List (List ℕ)) (default : Option ℕ) (symbols : List (List ℕ)) → some_missing theirs default symbols ≡ true → (i : ℕ) × (symbol : List ℕ) × (slice_get symbols i ≡ Some symbol) × (symbol_in theirs default symbol ≡ None)
some_symbol theirs default [] e = absurd cc
some_symbol theirs default (s ∷ ss) e = elim (either (is_none (symbol_in theirs default s)) (some_missing theirs default ss) e) [
  | inl none ↦ (0, s, refl, nothing (symbol_in theirs default s) none)
  | inr later ↦ (let f = some_symbol theirs default ss later in (suc f.0, f.1, f.2, f.3))
]

pub missing_there : (w r : Option Node) (i : ℕ) (symbol : List ℕ) → symbol_at w i ≡ Some symbol → is_enum r ≡ true → symbol_for r symbol ≡ None → lacks_symbol w r ≡ true
missing_there (Some (EnumNode n symbols default)) (Some (EnumNode m theirs fallback)) i symbol at is none = symbol_there theirs fallback symbols i symbol at none
missing_there w r i symbol at is none = absurd cc
