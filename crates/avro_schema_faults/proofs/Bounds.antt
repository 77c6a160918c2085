-- What walks after heads give, from what they give after nodes; and walks one after another.
use Rattle.std.proofs.Common.{◌≡◌, ℕ, List, ◌++◌, Result, Ok, Err, refl, ap, ◌∙◌}
use Rattle.spec_schema.specs.declared.schema_error.SchemaError.{SchemaError}
use Rattle.spec_schema.specs.Steps.{◌>>=◌}
use Rattle.spec_schema.specs.Draft.{Draft}
use Rattle.spec_schema.specs.Head.{Head, heads_of}
use Rattle.avro_schema_names.proofs.DraftLists.{heads_of-append}
use Rattle.avro_schema.specs.Contract.{run}
use Rattle.spec_schema.specs.Walk.{Walk, added, followed_by}

-- it fails after nodes, and so after their heads
pub fails-after : {A : Type 0} (w : Walk A) (enclosing : List ℕ) (ns : List Draft) (e : SchemaError) → run w enclosing ns ≡ Err e → w enclosing (heads_of ns) ≡ Err e
unfolding run
fails-after {A = A} w enclosing ns e h = at (w enclosing (heads_of ns)) h where
  at : (r : Result (A × List Draft) SchemaError) → added ns r ≡ Err e → r ≡ Err e
  at (Ok p) h = absurd (let no : ⊥ = cc in no)
  at (Err x) h = let same : x ≡ e = cc in ap Err same

-- it gives a value after nodes, and so after their heads; all nodes are those before and those that it adds
pub record GivesAfter {A : Type 0} (w : Walk A) (enclosing : List ℕ) (ns : List Draft) (a : A) (ms : List Draft) : Type 0 where
  pub new : List Draft
  pub gives : w enclosing (heads_of ns) ≡ Ok (a, new)
  pub all : ns ++ new ≡ ms
  pub heads : heads_of ms ≡ heads_of ns ++ heads_of new

abbrev value_or : {B : Type 0} → B → Result B SchemaError → B
value_or b (Ok c) = c
value_or b (Err e) = b

pub gives-after : {A : Type 0} (w : Walk A) (enclosing : List ℕ) (ns : List Draft) (a : A) (ms : List Draft) → run w enclosing ns ≡ Ok (a, ms) → GivesAfter w enclosing ns a ms
unfolding run
gives-after {A = A} w enclosing ns a ms h = at (w enclosing (heads_of ns)) refl h where
  at : (r : Result (A × List Draft) SchemaError) → w enclosing (heads_of ns) ≡ r → added ns r ≡ Ok (a, ms) → GivesAfter w enclosing ns a ms
  at (Ok p) is h =
      let pair : (p.0, ns ++ p.1) ≡ (a, ms) = ap (value_or (p.0, ns ++ p.1)) h in
      let first : p.0 ≡ a = ap (λ (q : A × List Draft). q.0) pair in
      let all : ns ++ p.1 ≡ ms = ap (λ (q : A × List Draft). q.1) pair in
      record { new = p.1; gives = is ∙ ap (λ x. Ok (x, p.1)) first; all = all; heads = rw (← all) (heads_of-append ns p.1) }
  at (Err x) is h = absurd (let no : ⊥ = cc in no)

-- ---- one walk, then another

bound-first : {A B : Type 0} (r : Result A SchemaError) (f : A → Result B SchemaError) (b : B) → (r >>= f) ≡ Ok b → (a : A) × (r ≡ Ok a)
bound-first (Ok a) f b h = (a, refl)
bound-first (Err x) f b h = absurd (let no : ⊥ = cc in no)

added-rest : {A : Type 0} (front : List Draft) (r : Result (A × List Draft) SchemaError) (p : A × List Draft) → added front r ≡ Ok p → (q : A × List Draft) × (r ≡ Ok q)
added-rest front (Ok q) p h = (q, refl)
added-rest front (Err x) p h = absurd (let no : ⊥ = cc in no)

module _ {A B : Type 0} (w : Walk A) (rest : A → Walk B) (enclosing : List ℕ) (heads : List Head) (p : B × List Draft) where
  pub followed-first : followed_by w rest enclosing heads ≡ Ok p → (a : A × List Draft) × (w enclosing heads ≡ Ok a)
  unfolding followed_by
  followed-first h = bound-first (w enclosing heads) _ p h

  pub followed-rest : (a : A) (new : List Draft) → w enclosing heads ≡ Ok (a, new) → followed_by w rest enclosing heads ≡ Ok p → (q : B × List Draft) × (rest a enclosing (heads ++ heads_of new) ≡ Ok q)
  unfolding followed_by
  followed-rest a new is h = added-rest new (rest a enclosing (heads ++ heads_of new)) p (rw is at h)
