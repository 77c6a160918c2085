-- What is added by one step after another.
use Rattle.std.proofs.Common.{◌≡◌, ◌⊎◌, inl, inr, ℕ, zero, suc, List, [], ◌∷◌, ◌++◌, Some, Result, Ok, Err, OnOk, slice_get, refl, sym, ap, ◌∙◌, append_assoc}
use Rattle.std.specs.List.{AllByRecursion}
use Rattle.avro_schema_paths.specs.Places.{Path}
use Rattle.avro_schema_paths.specs.Adds.{IsAmong, IsThis, Adds}
use Rattle.avro_schema_paths.specs.declared.entries.NodePath.{NodePath}

pub on_ok : {A E P Q : Type 0} (r : Result A E) → (P → Q) → OnOk r P → OnOk r Q
on_ok (Ok a) f p = f p
on_ok (Err e) f p = p

append_nil : (es : List NodePath) → es ≡ es ++ []
append_nil [] = refl
append_nil (e ∷ es) = ap (λ (x : List NodePath). e ∷ x) (append_nil es)

pub in_front : (es more : List NodePath) (m : ℕ) (q : Path) → IsAmong es m q → IsAmong (es ++ more) m q
in_front es more m q a = record { i = a.i; e = a.e; at = at_front es more a.i a.e a.at; node = a.node; path = a.path } where
  at_front : (xs ys : List NodePath) (i : ℕ) (e : NodePath) → slice_get xs i ≡ Some e → slice_get (xs ++ ys) i ≡ Some e
  at_front [] ys i e at = absurd cc
  at_front (x ∷ xs) ys zero e at = at
  at_front (x ∷ xs) ys (suc i) e at = at_front xs ys i e at

pub at_end : (before es : List NodePath) (m : ℕ) (q : Path) → IsAmong es m q → IsAmong (before ++ es) m q
at_end [] es m q a = a
at_end (x ∷ before) es m q a = (let b = at_end before es m q a in record { i = suc b.i; e = b.e; at = b.at; node = b.node; path = b.path })

all_mapped : (P Q : NodePath → Type 0) (es : List NodePath) → ((e : NodePath) → P e → Q e) → AllByRecursion P es → AllByRecursion Q es
all_mapped P Q [] f a = tt
all_mapped P Q (e ∷ es) f a = (f e a.0, all_mapped P Q es f a.1)

all_joined : (P : NodePath → Type 0) (es more : List NodePath) → AllByRecursion P es → AllByRecursion P more → AllByRecursion P (es ++ more)
all_joined P [] more a b = b
all_joined P (e ∷ es) more a b = (a.0, all_joined P es more a.1 b)

pub adds_none : (P : ℕ → Path → Type 0) (old : List NodePath) → ((m : ℕ) (q : Path) → P m q → ⊥) → Adds P old old
adds_none P old none = record { extra = []; is = append_nil old; lists = record { only = tt; all = λ m q p. absurd (none m q p) } }

pub adds_one : (n : ℕ) (path : Path) (e : NodePath) (old new : List NodePath) → e.node ≡ n → e.path.items ≡ path → new ≡ old ++ e ∷ [] → Adds (IsThis n path) old new
adds_one n path e old new node own is = record {
  extra = e ∷ [];
  is = is;
  lists = record { only = ((sym node, sym own), tt); all = λ m q p. record { i = 0; e = e; at = refl; node = node ∙ p.0; path = own ∙ p.1 } };
}

-- one after another
pub adds_both : (P Q R : ℕ → Path → Type 0) (a b c : List NodePath) → ((m : ℕ) (q : Path) → P m q → R m q) → ((m : ℕ) (q : Path) → Q m q → R m q)
    → ((m : ℕ) (q : Path) → R m q → P m q ⊎ Q m q) → Adds P a b → Adds Q b c → Adds R a c
adds_both P Q R a b c left right back p q = record {
  extra = p.extra ++ q.extra;
  is = q.is ∙ ap (λ (x : List NodePath). x ++ q.extra) p.is ∙ append_assoc a p.extra q.extra;
  lists = record {
    only = all_joined (λ e. R e.node e.path.items) p.extra q.extra (all_mapped (λ e. P e.node e.path.items) (λ e. R e.node e.path.items) p.extra (λ e h. left e.node e.path.items h) p.lists.only) (all_mapped (λ e. Q e.node e.path.items) (λ e. R e.node e.path.items) q.extra (λ e h. right e.node e.path.items h) q.lists.only);
    all = λ m s r. elim (back m s r) [ inl h ↦ in_front p.extra q.extra m s (p.lists.all m s h) | inr h ↦ at_end p.extra q.extra m s (q.lists.all m s h) ];
  };
}

-- the same, described otherwise
pub adds_same : (P Q : ℕ → Path → Type 0) (a b : List NodePath) → ((m : ℕ) (q : Path) → P m q → Q m q) → ((m : ℕ) (q : Path) → Q m q → P m q) → Adds P a b → Adds Q a b
adds_same P Q a b to from t = record {
  extra = t.extra;
  is = t.is;
  lists = record {
    only = all_mapped (λ e. P e.node e.path.items) (λ e. Q e.node e.path.items) t.extra (λ e h. to e.node e.path.items h) t.lists.only;
    all = λ m q h. t.lists.all m q (from m q h);
  };
}
