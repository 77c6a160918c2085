-- Fields that lack, and symbols that are missing, as lines.
use Rattle.std.proofs.Common.{◌≡◌, ℕ, zero, suc, ◌+◌, Bool, true, false, cond, not, ◌&&◌, ◌||◌, List, [], ◌∷◌, slice_get, is_none, Option, Some, None, refl, sym, ap, subst, ◌∙◌, arith}
use Rattle.std.specs.List.{AllByRecursion}
use Rattle.spec_avro.specs.Node.{Node, FieldNode, EnumNode}
use Rattle.spec_avro.specs.Symbols.{place_of}
use Rattle.spec_avro.specs.declared.mismatch.MismatchKind.TheVariants.{NoSymbol}
use Rattle.spec_avro.specs.Options.{given, or_else}
use Rattle.spec_avro.specs.Partners.{goes_to, has_partner, routes}
use Rattle.spec_avro.specs.declared.place.Route.{Route}
use Rattle.spec_avro.specs.Resolution.{lacking_from, lacks, symbol_at, symbol_for, symbol_in}
use Rattle.spec_avro.specs.Safety.{is_enum}
use Rattle.schema_explain.specs.Arrivals.{fate_in}
use Rattle.schema_explain.specs.Explanation.{has_parts}
use Rattle.schema_explain.specs.Parts.{parts_of, source, symbol_entries, symbol_fate, symbol_line}
use Rattle.schema_explain.specs.declared.entries.Entry.{Entry}
use Rattle.schema_explain.specs.declared.entries.Entry.TheVariants.{Ready}
use Rattle.schema_explain.specs.declared.entries.Whole.{Whole}
use Rattle.schema_explain.specs.declared.line.Fate.{Fate}
use Rattle.schema_explain.specs.declared.line.Fate.TheVariants.{Copied, Default, Mismatch}

both_left : (a b : Bool) → (a && b) ≡ true → a ≡ true
both_left true b e = refl
both_left false b e = absurd cc

both_right : (a b : Bool) → (a && b) ≡ true → b ≡ true
both_right true b e = e
both_right false b e = absurd cc

negated : (b : Bool) → not b ≡ true → b ≡ false
negated true e = absurd cc
negated false e = refl

none_is : {A : Type 0} (o : Option A) → is_none o ≡ true → o ≡ None
none_is None e = refl
none_is (Some a) e = absurd cc

-- ---- fields

pub lacks_partner : (routes : List Route) (j : ℕ) (g : FieldNode) → lacks routes j g ≡ true → has_partner j routes ≡ false
lacks_partner routes j g e = negated (has_partner j routes) (both_left (not (has_partner j routes)) (is_none g.default) e)

pub lacks_default : (routes : List Route) (j : ℕ) (g : FieldNode) → lacks routes j g ≡ true → is_none g.default ≡ true
lacks_default routes j g e = both_right (not (has_partner j routes)) (is_none g.default) e

-- no route goes there just where there is no source
pub no_source : (j i : ℕ) (rs : List Route) → has_partner j rs ≡ false → source j i rs ≡ None
no_source j i [] e = refl
no_source j i (r ∷ rs) e = by_test (goes_to j r) e (λ h. no_source j (suc i) rs h) where
  by_test : (b : Bool) → (b || has_partner j rs) ≡ false → (has_partner j rs ≡ false → source j (suc i) rs ≡ None) → cond b (Some (i, r.node)) (source j (suc i) rs) ≡ None
  by_test true e rest = absurd cc
  by_test false e rest = rest e

pub no_partner : (j i : ℕ) (rs : List Route) → source j i rs ≡ None → has_partner j rs ≡ false
no_partner j i [] e = refl
no_partner j i (r ∷ rs) e = by_test (goes_to j r) e (λ h. no_partner j (suc i) rs h) where
  by_test : (b : Bool) → cond b (Some (i, r.node)) (source j (suc i) rs) ≡ None → (source j (suc i) rs ≡ None → has_partner j rs ≡ false) → (b || has_partner j rs) ≡ false
  by_test true e rest = absurd cc
  by_test false e rest = rest e

-- the first that lacks is one of them
pub record IsLacking (routes : List Route) (j : ℕ) (rs : List FieldNode) (g : FieldNode) : Type 0 where
  pub k : ℕ
  pub at : slice_get rs k ≡ Some g
  pub lacking : lacks routes (j + k) g ≡ true

pub lacking_one : (routes : List Route) (j : ℕ) (rs : List FieldNode) (g : FieldNode) → lacking_from routes j rs ≡ Some g → IsLacking routes j rs g
lacking_one routes j [] g e = absurd cc
lacking_one routes j (x ∷ rs) g e = by_test (lacks routes j x) refl e (λ h. lacking_one routes (suc j) rs g h) where
  by_test : (b : Bool) → lacks routes j x ≡ b → cond b (Some x) (lacking_from routes (suc j) rs) ≡ Some g → (lacking_from routes (suc j) rs ≡ Some g → IsLacking routes (suc j) rs g) → IsLacking routes j (x ∷ rs) g
  by_test true is e rest =
      let same : x ≡ g = cc in
      let none : j + 0 ≡ j = omega arith in
      record { k = 0; at = ap Some same; lacking = ap (λ (n : ℕ). lacks routes n g) none ∙ ap (λ (y : FieldNode). lacks routes j y) (sym same) ∙ is }
  by_test false is e rest =
      let f = rest e in
      let next : j + suc f.k ≡ suc j + f.k = omega arith in
      record { k = suc f.k; at = f.at; lacking = ap (λ (n : ℕ). lacks routes n g) next ∙ f.lacking }

-- where one lacks, there is a first
pub lacking_some : (routes : List Route) (j k : ℕ) (rs : List FieldNode) (g : FieldNode) → slice_get rs k ≡ Some g → lacks routes (j + k) g ≡ true → (first : FieldNode) × (lacking_from routes j rs ≡ Some first)
lacking_some routes j k [] g at e = absurd cc
lacking_some routes j zero (x ∷ rs) g at e =
    let same : x ≡ g = cc in
    let none : j ≡ j + 0 = omega arith in
    let here : lacks routes j x ≡ true = ap (lacks routes j) same ∙ ap (λ (n : ℕ). lacks routes n g) none ∙ e in
    (x, ap (λ (b : Bool). cond b (Some x) (lacking_from routes (suc j) rs)) here)
lacking_some routes j (suc k) (x ∷ rs) g at e = by_test (lacks routes j x) (lacking_some routes (suc j) k rs g at (let next : suc j + k ≡ j + suc k = omega arith in ap (λ (n : ℕ). lacks routes n g) next ∙ e)) where
  by_test : (b : Bool) → ((first : FieldNode) × (lacking_from routes (suc j) rs ≡ Some first)) → (first : FieldNode) × (cond b (Some x) (lacking_from routes (suc j) rs) ≡ Some first)
  by_test true rest = (x, refl)
  by_test false rest = rest

-- ---- symbols

pub missing_fate : (theirs : List (List ℕ)) (default : Option ℕ) (symbol : List ℕ) → symbol_in theirs default symbol ≡ None → symbol_fate theirs default symbol ≡ Mismatch NoSymbol
missing_fate theirs default symbol e = by_place (place_of symbol theirs) default e where
  by_place : (o d : Option ℕ) → or_else o d ≡ None → given o (given d (Mismatch NoSymbol) (λ n. Default)) (λ n. Copied) ≡ Mismatch NoSymbol
  by_place None None e = refl
  by_place None (Some n) e = absurd cc
  by_place (Some n) d e = absurd cc

pub enums_have_parts : (w r : Option Node) (i : ℕ) (symbol : List ℕ) → symbol_at w i ≡ Some symbol → is_enum r ≡ true → has_parts (fate_in w r) ≡ true
enums_have_parts (Some (EnumNode n symbols default)) (Some (EnumNode m theirs fallback)) i symbol at is = refl
enums_have_parts w r i symbol at is = absurd cc

symbol_there : (P : Entry → Type 0) (whole : Whole) (theirs : List (List ℕ)) (default : Option ℕ) (i k : ℕ) (symbols : List (List ℕ)) (symbol : List ℕ) → slice_get symbols k ≡ Some symbol → AllByRecursion P (symbol_entries whole theirs default i symbols) → P (Ready (symbol_line whole (i + k) (symbol_fate theirs default symbol)))
symbol_there P whole theirs default i k [] symbol at a = absurd cc
symbol_there P whole theirs default i zero (x ∷ symbols) symbol at a =
    let same : x ≡ symbol = cc in
    let none : i ≡ i + 0 = omega arith in
    subst (λ (n : ℕ). P (Ready (symbol_line whole n (symbol_fate theirs default symbol)))) none (subst (λ (y : List ℕ). P (Ready (symbol_line whole i (symbol_fate theirs default y)))) same a.0)
symbol_there P whole theirs default i (suc k) (x ∷ symbols) symbol at a =
    let next : suc i + k ≡ i + suc k = omega arith in
    subst (λ (n : ℕ). P (Ready (symbol_line whole n (symbol_fate theirs default symbol)))) next (symbol_there P whole theirs default (suc i) k symbols symbol at a.1)

-- a symbol that is missing is an entry
pub missing_there : (P : Entry → Type 0) (whole : Whole) (w r : Option Node) (i : ℕ) (symbol : List ℕ) → symbol_at w i ≡ Some symbol → is_enum r ≡ true → symbol_for r symbol ≡ None → AllByRecursion P (parts_of whole w r) → P (Ready (symbol_line whole i (Mismatch NoSymbol)))
missing_there P whole (Some (EnumNode n symbols default)) (Some (EnumNode m theirs fallback)) i symbol at is none a =
    subst (λ (f : Fate). P (Ready (symbol_line whole i f))) (missing_fate theirs fallback symbol none)
    (let zero_first : 0 + i ≡ i = omega arith in subst (λ (n : ℕ). P (Ready (symbol_line whole n (symbol_fate theirs fallback symbol)))) zero_first (symbol_there P whole theirs fallback 0 i symbols symbol at a))
missing_there P whole w r i symbol at is none a = absurd cc
