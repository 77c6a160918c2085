-- The walk of a union's members, one after another.
use Rattle.std.proofs.Common.{◌≡◌, ℕ, ◌+◌, ◌<◌, ◌≤◌, List, [], ◌∷◌, ◌++◌, length, drop, get_or, map, Bool, true, false, cond, Result, Ok, Err, refl, sym, ap, ◌∙◌, append_assoc, append-nil, add-one, set}
use Rattle.std.proofs.Math.Seq.{drop-cons, set-append_seam}
use Rattle.std.proofs.Math.ListN.{drop_of_length-le}
use Rattle.serde_json.specs.Data.{Data, Items, item}
use Rattle.serde_json.specs.View.{view, items_view}
use Rattle.serde_json.specs.declared.value.Value.{Value}
use Rattle.spec_avro.specs.declared.limits.TheConstants.{MOST_NODES}
use Rattle.spec_schema.specs.declared.schema_error.SchemaError.{SchemaError}
use Rattle.spec_schema.specs.declared.schema_error.SchemaError.TheVariants.{BadUnion}
use Rattle.avro_schema.specs.Contract.{run}
use Rattle.spec_schema.specs.Draft.{Draft, Whole}
use Rattle.spec_schema.specs.Steps.{◌>>=◌}
use Rattle.spec_schema.specs.Head.{UnionHead, heads_of, head_at, are_apart}
use Rattle.spec_avro.specs.Node.{UnionNode}
use Rattle.spec_schema.specs.Walk.{Walk, added, done, followed_by, if_room, walk, members, apart_union, union_of}
use Rattle.avro_schema.proofs.FieldList.{behind, behind-one}
use Rattle.avro_schema_names.proofs.DraftLists.{length-heads_of, heads_of-append}
use Rattle.avro_schema.proofs.Runs.{run-if_room, run-followed_by, run-done, run-mapped}

item_at : (ds : Items) (enclosing : List ℕ) (r : Result (ℕ × List Draft) SchemaError)
    → (r >>= λ p. run (followed_by (members ds) (λ ns. done (p.0 ∷ ns))) enclosing p.1) ≡ (r >>= λ p. run (members ds) enclosing p.1 >>= λ q. Ok (p.0 ∷ q.0, q.1))
item_at ds enclosing (Ok p) = run-mapped (members ds) (λ ns. p.0 ∷ ns) enclosing p.1
item_at ds enclosing (Err e) = refl

run-item : (d : Data) (ds : Items) (enclosing : List ℕ) (ns : List Draft)
    → run (members (item d ds)) enclosing ns ≡ (run (walk d) enclosing ns >>= λ p. run (members ds) enclosing p.1 >>= λ q. Ok (p.0 ∷ q.0, q.1))
unfolding walk
run-item d ds enclosing ns = run-followed_by (walk d) _ enclosing ns ∙ item_at ds enclosing (run (walk d) enclosing ns)

module _ (enclosing : List ℕ) (vs : List Value) (i : ℕ) (v : Value) (lt : i < length vs) (is : v ≡ get_or vs i v) (front : List ℕ) (ns : List Draft) where
  here : drop i vs ≡ v ∷ drop (i + 1) vs
  here = drop-cons vs i v lt ∙ rw (← is, add-one i)

  pub members-on : (n : ℕ) (ms : List Draft) → run (walk (view v)) enclosing ns ≡ Ok (n, ms)
      → behind front (run (members (items_view (drop i vs))) enclosing ns) ≡ behind (front ++ n ∷ []) (run (members (items_view (drop (i + 1) vs))) enclosing ms)
  members-on n ms e = rw (here, run-item (view v) (items_view (drop (i + 1) vs)) enclosing ns, e) (behind-one front n (run (members (items_view (drop (i + 1) vs))) enclosing ms))

  pub members-fail : (e : SchemaError) → run (walk (view v)) enclosing ns ≡ Err e → behind front (run (members (items_view (drop i vs))) enclosing ns) ≡ Err e
  members-fail e is_err = rw (here, run-item (view v) (items_view (drop (i + 1) vs)) enclosing ns, is_err) refl

pub members-end : (enclosing : List ℕ) (vs : List Value) (i : ℕ) → length vs ≤ i → (front : List ℕ) (ns : List Draft) → behind front (run (members (items_view (drop i vs))) enclosing ns) ≡ Ok (front, ns)
unfolding walk
members-end enclosing vs i le front ns = rw (drop_of_length-le vs le, run-done {A = List ℕ} [] enclosing ns) (ap (λ xs. Ok (xs, ns)) (append-nil front))

-- ---- a union

-- the union is put there with no members, and then written again, if they are apart
abbrev pub closed_union : ℕ → List ℕ × List Draft → Result (ℕ × List Draft) SchemaError
closed_union own p = cond (are_apart [] (map (head_at (heads_of p.1)) p.0)) (Ok (own, set p.1 own (Whole (UnionNode p.0)))) (Err BadUnion)

if_apart : (b : Bool) (ns : List Draft) (own : ℕ) (ms : List ℕ) (more all : List Draft) → ns ++ Whole (UnionNode ms) ∷ more ≡ set all own (Whole (UnionNode ms))
    → added ns (cond b (Ok (own, Whole (UnionNode ms) ∷ more)) (Err BadUnion)) ≡ cond b (Ok (own, set all own (Whole (UnionNode ms)))) (Err BadUnion)
if_apart true ns own ms more all e = ap (λ xs. Ok (own, xs)) e
if_apart false ns own ms more all e = refl

union_closes : (ns : List Draft) (r : Result (List ℕ × List Draft) SchemaError)
    → added ns (r >>= λ p. apart_union (heads_of ns) ((heads_of ns ++ UnionHead ∷ []) ++ heads_of p.1) p.0 p.1) ≡ (added (ns ++ Whole (UnionNode []) ∷ []) r >>= closed_union (length ns))
union_closes ns (Ok p) =
    let held = Whole (UnionNode []) in
    rw (length-heads_of ns, heads_of-append (ns ++ held ∷ []) p.1, heads_of-append ns (held ∷ []))
    (if_apart _ ns (length ns) p.0 p.1 ((ns ++ held ∷ []) ++ p.1) (sym (rw (append_assoc ns (held ∷ []) p.1) (set-append_seam ns held p.1 (Whole (UnionNode p.0))))))
union_closes ns (Err e) = refl

run-union : (w : Walk (List ℕ)) (enclosing : List ℕ) (ns : List Draft) → run (union_of w) enclosing ns ≡ (run w enclosing (ns ++ Whole (UnionNode []) ∷ []) >>= closed_union (length ns))
unfolding run union_of
run-union w enclosing ns = rw (heads_of-append ns (Whole (UnionNode []) ∷ [])) (union_closes ns (w enclosing (heads_of ns ++ UnionHead ∷ [])))

module _ (w : Walk (List ℕ)) (enclosing : List ℕ) (ks : List Draft) (room : length ks < MOST_NODES) where
  whole_union : run (if_room (union_of w)) enclosing ks ≡ (run w enclosing (ks ++ Whole (UnionNode []) ∷ []) >>= closed_union (length ks))
  whole_union = run-if_room (union_of w) enclosing ks room ∙ run-union w enclosing ks

  pub union-failed : (x : SchemaError) → run w enclosing (ks ++ Whole (UnionNode []) ∷ []) ≡ Err x → run (if_room (union_of w)) enclosing ks ≡ Err x
  union-failed x e = whole_union ∙ rw e refl

  pub union-bad : (ms : List ℕ) (ls : List Draft) → run w enclosing (ks ++ Whole (UnionNode []) ∷ []) ≡ Ok (ms, ls) → false ≡ are_apart [] (map (head_at (heads_of ls)) ms) → run (if_room (union_of w)) enclosing ks ≡ Err BadUnion
  union-bad ms ls e bad = whole_union ∙ rw (e, ← bad) refl

  pub union-done : (ms : List ℕ) (ls : List Draft) → run w enclosing (ks ++ Whole (UnionNode []) ∷ []) ≡ Ok (ms, ls) → true ≡ are_apart [] (map (head_at (heads_of ls)) ms)
      → run (if_room (union_of w)) enclosing ks ≡ Ok (length ks, set ls (length ks) (Whole (UnionNode ms)))
  union-done ms ls e good = whole_union ∙ rw (e, ← good) refl

-- the nodes, with a union that has no members yet
pub pushed_union : (ks ls : List Draft) (members : List ℕ) → ls ≡ ks ++ Whole (UnionNode members) ∷ [] → members ≡ [] → ls ≡ ks ++ Whole (UnionNode []) ∷ []
pushed_union ks ls members e none = e ∙ ap (λ ms. ks ++ Whole (UnionNode ms) ∷ []) none
