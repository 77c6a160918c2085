-- Walks run after nodes that are already there.
use Rattle.avro_schema_names.proofs.DraftLists.{length-heads_of, heads_of-append}
use Rattle.std.proofs.Common.{◌≡◌, ℕ, ◌<◌, ◌≤◌, List, [], ◌∷◌, ◌++◌, length, Some, Result, Ok, Err, slice_get, refl, sym, ap, subst, ◌∙◌, append_assoc, append-nil, set}
use Rattle.std.proofs.lemmas.Bool.{lt-ltb, le-ltb}
use Rattle.std.proofs.Math.Seq.{set-append_seam}
use Rattle.spec_avro.specs.declared.limits.TheConstants.{MOST_NODES}
use Rattle.spec_schema.specs.declared.schema_error.SchemaError.{SchemaError}
use Rattle.spec_schema.specs.declared.schema_error.SchemaError.TheVariants.{TooLarge}
use Rattle.avro_schema.specs.Contract.{run}
use Rattle.spec_schema.specs.Steps.{◌>>=◌}
use Rattle.spec_schema.specs.Draft.{Draft, Whole}
use Rattle.spec_schema.specs.Head.{head_of, heads_of}
use Rattle.spec_avro.specs.Node.{Node}
use Rattle.spec_schema.specs.Walk.{Walk, added, one_node, done, followed_by, fault, leaf, if_room, around}
use Rattle.avro_schema.proofs.NamespaceKept.{all_of}

pub run-fault : {A : Type 0} (e : SchemaError) (enclosing : List ℕ) (ns : List Draft) → run (fault {A = A} e) enclosing ns ≡ Err e
unfolding run
run-fault e enclosing ns = refl

-- ---- room

pub run-if_room : {A : Type 0} (w : Walk A) (enclosing : List ℕ) (ks : List Draft) → length ks < MOST_NODES → run (if_room w) enclosing ks ≡ run w enclosing ks
unfolding run
run-if_room w enclosing ks lt = rw (length-heads_of ks, lt-ltb (length ks) MOST_NODES lt)

pub run-no_room : {A : Type 0} (w : Walk A) (enclosing : List ℕ) (ks : List Draft) → MOST_NODES ≤ length ks → run (if_room w) enclosing ks ≡ Err TooLarge
unfolding run
run-no_room w enclosing ks le = rw (length-heads_of ks, le-ltb (length ks) MOST_NODES le)

-- ---- one after another

added-added : {A : Type 0} (front more : List Draft) (r : Result (A × List Draft) SchemaError) → added front (added more r) ≡ added (front ++ more) r
added-added front more (Ok p) = ap (λ ns. Ok (p.0, ns)) (sym (append_assoc front more p.1))
added-added front more (Err e) = refl

follows : {A B : Type 0} (rest : A → Walk B) (enclosing : List ℕ) (ns : List Draft) (r : Result (A × List Draft) SchemaError)
    → added ns (r >>= λ p. added p.1 (rest p.0 enclosing (heads_of ns ++ heads_of p.1))) ≡ (added ns r >>= λ p. added p.1 (rest p.0 enclosing (heads_of p.1)))
follows rest enclosing ns (Ok p) = added-added ns p.1 _ ∙ ap (λ hs. added (ns ++ p.1) (rest p.0 enclosing hs)) (sym (heads_of-append ns p.1))
follows rest enclosing ns (Err e) = refl

pub run-followed_by : {A B : Type 0} (w : Walk A) (rest : A → Walk B) (enclosing : List ℕ) (ns : List Draft) → run (followed_by w rest) enclosing ns ≡ (run w enclosing ns >>= λ p. run (rest p.0) enclosing p.1)
unfolding run followed_by
run-followed_by w rest enclosing ns = follows rest enclosing ns (w enclosing (heads_of ns))

pub run-done : {A : Type 0} (a : A) (enclosing : List ℕ) (ns : List Draft) → run (done a) enclosing ns ≡ Ok (a, ns)
unfolding run
run-done a enclosing ns = ap (λ ms. Ok (a, ms)) (append-nil ns)

mapped_at : {A B : Type 0} (f : A → B) (enclosing : List ℕ) (r : Result (A × List Draft) SchemaError) → (r >>= λ p. run (done (f p.0)) enclosing p.1) ≡ (r >>= λ p. Ok (f p.0, p.1))
mapped_at f enclosing (Ok p) = run-done (f p.0) enclosing p.1
mapped_at f enclosing (Err e) = refl

pub run-mapped : {A B : Type 0} (w : Walk A) (f : A → B) (enclosing : List ℕ) (ns : List Draft) → run (followed_by w (λ a. done (f a))) enclosing ns ≡ (run w enclosing ns >>= λ p. Ok (f p.0, p.1))
run-mapped w f enclosing ns = run-followed_by w _ enclosing ns ∙ mapped_at f enclosing (run w enclosing ns)

-- ---- nodes stay

ok_err : {A : Type 0} (x : SchemaError) (a : A) → Err x ≡ Ok a → ⊥
ok_err x a e = cc

-- a node that was put there before is there after
head-kept : (ns : List Draft) (held : Draft) (more : List Draft) → slice_get (heads_of ((ns ++ held ∷ []) ++ more)) (length ns) ≡ Some (head_of held)
head-kept [] held more = refl
head-kept (n ∷ ns) held more = head-kept ns held more

kept_at : {A : Type 0} (ns : List Draft) (held : Draft) (r : Result (A × List Draft) SchemaError) (a : A) (ms : List Draft) → added (ns ++ held ∷ []) r ≡ Ok (a, ms) → slice_get (heads_of ms) (length ns) ≡ Some (head_of held)
kept_at ns held (Ok p) a ms e = let same : (ns ++ held ∷ []) ++ p.1 ≡ ms = ap all_of e in subst (λ (xs : List Draft). slice_get (heads_of xs) (length ns) ≡ Some (head_of held)) same (head-kept ns held p.1)
kept_at ns held (Err x) a ms e = absurd (ok_err x (a, ms) e)

pub run-keeps : {A : Type 0} (w : Walk A) (enclosing : List ℕ) (ks : List Draft) (held : Draft) (a : A) (ms : List Draft) → run w enclosing (ks ++ held ∷ []) ≡ Ok (a, ms) → slice_get (heads_of ms) (length ks) ≡ Some (head_of held)
unfolding run
run-keeps w enclosing ks held a ms e = kept_at ks held (w enclosing (heads_of (ks ++ held ∷ []))) a ms e

-- ---- a node without parts

pub run-one : (d : Draft) (enclosing : List ℕ) (ks : List Draft) → run (one_node d) enclosing ks ≡ Ok (length ks, ks ++ d ∷ [])
unfolding run
run-one d enclosing ks = rw (length-heads_of ks) refl

pub run-leaf : (n : Node) (enclosing : List ℕ) (ks : List Draft) → length ks < MOST_NODES → run (leaf n) enclosing ks ≡ Ok (length ks, ks ++ Whole n ∷ [])
run-leaf n enclosing ks lt = run-if_room _ enclosing ks lt ∙ run-one (Whole n) enclosing ks

-- ---- a node before its parts

closes : {A : Type 0} (make : A → Draft) (held : Draft) (ns : List Draft) (r : Result (A × List Draft) SchemaError)
    → added ns (r >>= λ p. Ok (length ns, make p.0 ∷ p.1)) ≡ (added (ns ++ held ∷ []) r >>= λ p. Ok (length ns, set p.1 (length ns) (make p.0)))
closes make held ns (Ok p) = ap (λ ms. Ok (length ns, ms)) (sym (rw (append_assoc ns (held ∷ []) p.1) (set-append_seam ns held p.1 (make p.0))))
closes make held ns (Err e) = refl

-- the node is put there with no parts, and then written again
pub run-around : {A : Type 0} (make : A → Draft) (held : Draft) (w : Walk A) (enclosing : List ℕ) (ns : List Draft)
    → run (around make (head_of held) w) enclosing ns ≡ (run w enclosing (ns ++ held ∷ []) >>= λ p. Ok (length ns, set p.1 (length ns) (make p.0)))
unfolding run around
run-around make held w enclosing ns = rw (length-heads_of ns, heads_of-append ns (held ∷ [])) (closes make held ns (w enclosing (heads_of ns ++ head_of held ∷ [])))

module _ {A : Type 0} (make : A → Draft) (held : Draft) (w : Walk A) (enclosing : List ℕ) (ks : List Draft) where
  pub closed : (a : A) (ms : List Draft) → run w enclosing (ks ++ held ∷ []) ≡ Ok (a, ms) → run (around make (head_of held) w) enclosing ks ≡ Ok (length ks, set ms (length ks) (make a))
  closed a ms e = run-around make held w enclosing ks ∙ rw (e) refl

  pub unclosed : (x : SchemaError) → run w enclosing (ks ++ held ∷ []) ≡ Err x → run (around make (head_of held) w) enclosing ks ≡ Err x
  unclosed x e = run-around make held w enclosing ks ∙ rw e refl
