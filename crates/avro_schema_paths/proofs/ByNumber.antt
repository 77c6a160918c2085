-- Paths by the numbers of their nodes.
use Rattle.std.proofs.Common.{◌≡◌, ◌⊎◌, inl, inr, ℕ, zero, suc, ◌<◌, ◌≤◌, List, [], ◌∷◌, ◌++◌, length, Some, Vec, slice_get, slice_set, refl, sym, ap, ◌∙◌, subst, arith}
use Rattle.std.proofs.lemmas.Bool.{cases_eq}
use Rattle.std.specs.declared.alloc.Global.{Global}
use Rattle.std.specs.List.{AllByRecursion}
use Rattle.serde_json.specs.Data.{Data}
use Rattle.spec_avro.specs.Node.{Node}
use Rattle.avro_schema_paths.specs.Places.{IsPathOf, Path}
use Rattle.avro_schema_paths.specs.Adds.{Adds, ArePaths, IsAmong, IsNodeAmong}
use Rattle.avro_schema_paths.specs.ByNumber.{AreByNumber, IsFilled}
use Rattle.avro_schema_paths.specs.declared.entries.NodePath.{NodePath}
use Rattle.avro_schema_paths.specs.declared.step.Step.{Step}
use Rattle.avro_schema_paths.proofs.Adding.{in_front}

all_get : (P : NodePath → Type 0) (es : List NodePath) (i : ℕ) (e : NodePath) → AllByRecursion P es → slice_get es i ≡ Some e → P e
all_get P [] i e a at = absurd cc
all_get P (x ∷ es) zero e a at = let same : x ≡ e = cc in subst P same a.0
all_get P (x ∷ es) (suc i) e a at = all_get P es i e a.1 at

pub among_new : (P : ℕ → Path → Type 0) (old new : List NodePath) (m : ℕ) (q : Path) → Adds P old new → old ≡ [] → P m q → IsAmong new m q
among_new P old new m q t none p =
    let whole : t.extra ≡ new = sym (t.is ∙ ap (λ (x : List NodePath). x ++ t.extra) none) in
    subst (λ (x : List NodePath). IsAmong x m q) whole (t.lists.all m q p)

pub path_new : (P : ℕ → Path → Type 0) (old new : List NodePath) (m : ℕ) (q : Path) → Adds P old new → old ≡ [] → IsAmong new m q → P m q
path_new P old new m q t none a =
    let whole : new ≡ t.extra = t.is ∙ ap (λ (x : List NodePath). x ++ t.extra) none in
    let at : slice_get t.extra a.i ≡ Some a.e = ap (λ (x : List NodePath). slice_get x a.i) (sym whole) ∙ a.at in
    let p = all_get (λ e. P e.node e.path.items) t.extra a.i a.e t.lists.only at in
    subst (λ (x : ℕ). P x q) a.node (subst (λ (x : Path). P a.e.node x) a.path p)

-- the paths of all entries, and each node has an entry
pub paths_filled : (nodes : List Node) (value : Data) (es : List NodePath) (paths : List (Vec Step Global)) → AreByNumber es (length nodes) paths
    → ((m : ℕ) (q : Path) → IsAmong es m q → IsPathOf nodes value m q) → ((k : ℕ) → k < length nodes → IsNodeAmong es k) → ArePaths nodes value (length nodes) paths
paths_filled nodes value es paths b only all = record {
  each = b.each;
  of = λ k lt. (let f = b.filled k lt (all k lt) in record { path = f.path; at = f.at; of = only k f.path.items f.among });
}

-- ---- one entry more

last_is : (es : List NodePath) (e : NodePath) → slice_get (es ++ e ∷ []) (length es) ≡ Some e
last_is [] e = refl
last_is (x ∷ es) e = last_is es e

before_or_last : (es : List NodePath) (e x : NodePath) (i : ℕ) → slice_get (es ++ e ∷ []) i ≡ Some x → (slice_get es i ≡ Some x) ⊎ (e ≡ x)
before_or_last [] e x zero at = inr (let same : e ≡ x = cc in same)
before_or_last [] e x (suc i) at = absurd cc
before_or_last (y ∷ es) e x zero at = inl at
before_or_last (y ∷ es) e x (suc i) at = before_or_last es e x i at

among_before : (es : List NodePath) (e : NodePath) (k : ℕ) → (e.node ≡ k → ⊥) → IsNodeAmong (es ++ e ∷ []) k → IsNodeAmong es k
among_before es e k other a = elim (before_or_last es e a.1.e a.1.i a.1.at) [
  | inl at ↦ (a.0, record { i = a.1.i; e = a.1.e; at = at; node = a.1.node; path = a.1.path })
  | inr same ↦ absurd (other (ap (λ (x : NodePath). x.node) same ∙ a.1.node))
]

put_there : (ps : List (Vec Step Global)) (n : ℕ) (p : Vec Step Global) → n < length ps → slice_get (slice_set ps n p) n ≡ Some p
put_there [] n p lt = absurd (omega arith)
put_there (x ∷ ps) zero p lt = refl
put_there (x ∷ ps) (suc n) p lt = put_there ps n p (omega arith)

put_elsewhere : (ps : List (Vec Step Global)) (n k : ℕ) (p : Vec Step Global) → (n ≡ k → ⊥) → slice_get (slice_set ps n p) k ≡ slice_get ps k
put_elsewhere [] n k p other = refl
put_elsewhere (x ∷ ps) zero zero p other = absurd (other refl)
put_elsewhere (x ∷ ps) zero (suc k) p other = refl
put_elsewhere (x ∷ ps) (suc n) zero p other = refl
put_elsewhere (x ∷ ps) (suc n) (suc k) p other = put_elsewhere ps n k p (λ e. other (ap suc e))

as_many : (ps : List (Vec Step Global)) (n : ℕ) (p : Vec Step Global) → length (slice_set ps n p) ≡ length ps
as_many [] n p = refl
as_many (x ∷ ps) zero p = refl
as_many (x ∷ ps) (suc n) p = ap suc (as_many ps n p)

still_filled : (es : List NodePath) (e : NodePath) (k : ℕ) (ps qs : List (Vec Step Global)) → slice_get qs k ≡ slice_get ps k → IsFilled es k ps → IsFilled (es ++ e ∷ []) k qs
still_filled es e k ps qs same f = record { path = f.path; at = same ∙ f.at; among = in_front es (e ∷ []) k f.path.items f.among }

pub one_put : (es : List NodePath) (e : NodePath) (count : ℕ) (ps : List (Vec Step Global)) → e.node < length ps → AreByNumber es count ps → AreByNumber (es ++ e ∷ []) count (slice_set ps e.node e.path)
one_put es e count ps room b = record {
  each = as_many ps e.node e.path ∙ b.each;
  filled = λ k lt a. elim (cases_eq e.node k) [
    | inl same ↦ record {
      path = e.path;
      at = ap (slice_get (slice_set ps e.node e.path)) (sym same) ∙ put_there ps e.node e.path room;
      among = record { i = length es; e = e; at = last_is es e; node = same; path = refl };
    }
    | inr other ↦ still_filled es e k ps (slice_set ps e.node e.path) (put_elsewhere ps e.node k e.path other) (b.filled k lt (among_before es e k other a))
  ];
}

pub one_left_out : (es : List NodePath) (e : NodePath) (count : ℕ) (ps : List (Vec Step Global)) → length ps ≤ e.node → AreByNumber es count ps → AreByNumber (es ++ e ∷ []) count ps
one_left_out es e count ps past b = record {
  each = b.each;
  filled = λ k lt a. still_filled es e k ps ps refl (b.filled k lt (among_before es e k (λ same. omega (arith, b.each, past, lt, same)) a));
}
