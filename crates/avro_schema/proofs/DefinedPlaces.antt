-- Where a full name is defined: what the relation says, and what the walk computes.
use Rattle.std.proofs.Common.{◌≡◌, ◌≢◌, ℕ, zero, suc, ◌+◌, List, [], ◌∷◌, Bool, true, false, cond, Some, None, refl, sym, ap, ◌∙◌, arith, subst, true≢false}
use Rattle.std.specs.List.{position_from}
use Rattle.std.proofs.lemmas.Slice.Eq.{bytes_eq-Decides}
use Rattle.spec_schema.specs.Draft.{Draft}
use Rattle.spec_schema.specs.Head.{Head, NullHead, BooleanHead, IntHead, LongHead, BytesHead, TextHead, ArrayHead, MapHead, UnionHead, Named, head_of, heads_of, defines, defined_at}
use Rattle.avro_types.specs.Laws.Booleans.{some_inside, none_some}
use Rattle.spec_schema.specs.Definitions.{IsDefinedAt, IsNewName, AreDefinedOnce}

defined_head : (full : List ℕ) (h : Head) → defines full h ≡ true → h ≡ Named full
defined_head full (Named name) e = ap Named ((bytes_eq-Decides name full).0 e)
defined_head full NullHead e = absurd (let wrong : ⊥ = cc in wrong)
defined_head full BooleanHead e = absurd (let wrong : ⊥ = cc in wrong)
defined_head full IntHead e = absurd (let wrong : ⊥ = cc in wrong)
defined_head full LongHead e = absurd (let wrong : ⊥ = cc in wrong)
defined_head full BytesHead e = absurd (let wrong : ⊥ = cc in wrong)
defined_head full TextHead e = absurd (let wrong : ⊥ = cc in wrong)
defined_head full ArrayHead e = absurd (let wrong : ⊥ = cc in wrong)
defined_head full MapHead e = absurd (let wrong : ⊥ = cc in wrong)
defined_head full UnionHead e = absurd (let wrong : ⊥ = cc in wrong)

defines_itself : (full : List ℕ) (h : Head) → h ≡ Named full → defines full h ≡ true
defines_itself full h e = ap (defines full) e ∙ (bytes_eq-Decides full full).1 refl

not_defined : (full : List ℕ) (h : Head) → h ≢ Named full → (b : Bool) → defines full h ≡ b → defines full h ≡ false
not_defined full h n true e = absurd (n (defined_head full h e))
not_defined full h n false e = e

differs : (full : List ℕ) (h : Head) → defines full h ≡ false → h ≢ Named full
differs full h e same = true≢false (sym (defines_itself full h same) ∙ e)

-- ---- a new name

new-none : (full : List ℕ) (i : ℕ) (ds : List Draft) → IsNewName full ds → position_from (defines full) i (heads_of ds) ≡ None
new-none full i [] n = refl
new-none full i (d ∷ ds) n = rw (not_defined full (head_of d) n.0 (defines full (head_of d)) refl) (new-none full (i + 1) ds n.1)

none_at : (full : List ℕ) (i : ℕ) (d : Draft) (ds : List Draft) (b : Bool) → defines full (head_of d) ≡ b → (position_from (defines full) (i + 1) (heads_of ds) ≡ None → IsNewName full ds)
    → cond b (Some i) (position_from (defines full) (i + 1) (heads_of ds)) ≡ None → IsNewName full (d ∷ ds)
none_at full i d ds true e rest h = absurd (none_some i (sym h))
none_at full i d ds false e rest h = (differs full (head_of d) e, rest h)

none-new : (full : List ℕ) (i : ℕ) (ds : List Draft) → position_from (defines full) i (heads_of ds) ≡ None → IsNewName full ds
none-new full i [] h = tt
none-new full i (d ∷ ds) h = none_at full i d ds (defines full (head_of d)) refl (none-new full (i + 1) ds) h

pub new_is-none : (full : List ℕ) (ds : List Draft) → IsNewName full ds → defined_at full (heads_of ds) ≡ None
unfolding defined_at
new_is-none full ds n = new-none full 0 ds n

pub none_is-new : (full : List ℕ) (ds : List Draft) → defined_at full (heads_of ds) ≡ None → IsNewName full ds
unfolding defined_at
none_is-new full ds h = none-new full 0 ds h

-- ---- a name that is defined

abbrev DefinedFrom : List ℕ → ℕ → List Draft → ℕ → Type 0
DefinedFrom full i ds n = (j : ℕ) × (n ≡ i + j) × IsDefinedAt full ds j

some_at : (full : List ℕ) (i : ℕ) (d : Draft) (ds : List Draft) (n : ℕ) (b : Bool) → defines full (head_of d) ≡ b → (position_from (defines full) (i + 1) (heads_of ds) ≡ Some n → DefinedFrom full (i + 1) ds n)
    → cond b (Some i) (position_from (defines full) (i + 1) (heads_of ds)) ≡ Some n → DefinedFrom full i (d ∷ ds) n
some_at full i d ds n true e rest h = (0, sym (some_inside i n h) ∙ (let z : i ≡ i + 0 = omega arith in z), (d, refl, defined_head full (head_of d) e))
some_at full i d ds n false e rest h = let k = rest h in (suc k.0, omega (arith, k.1), k.2)

some-defined : (full : List ℕ) (i : ℕ) (ds : List Draft) (n : ℕ) → position_from (defines full) i (heads_of ds) ≡ Some n → DefinedFrom full i ds n
some-defined full i [] n h = absurd (none_some n h)
some-defined full i (d ∷ ds) n h = some_at full i d ds n (defines full (head_of d)) refl (some-defined full (i + 1) ds n) h

pub some_is-defined : (full : List ℕ) (ds : List Draft) (n : ℕ) → defined_at full (heads_of ds) ≡ Some n → IsDefinedAt full ds n
unfolding defined_at
some_is-defined full ds n h = let k = some-defined full 0 ds n h in let same : k.0 ≡ n = omega (arith, k.1) in subst (IsDefinedAt full ds) same k.2

not_new : (full : List ℕ) (ds : List Draft) (n : ℕ) → IsDefinedAt full ds n → IsNewName full ds → ⊥
not_new full [] n d new = none_some d.0 d.1
not_new full (x ∷ ds) zero d new = new.0 (ap head_of (some_inside x d.0 d.1) ∙ d.2)
not_new full (x ∷ ds) (suc n) d new = not_new full ds n d new.1

defined-some : (full : List ℕ) (i : ℕ) (ds : List Draft) (n : ℕ) → AreDefinedOnce ds → IsDefinedAt full ds n → position_from (defines full) i (heads_of ds) ≡ Some (i + n)
defined-some full i [] n once d = absurd (none_some d.0 d.1)
defined-some full i (x ∷ ds) zero once d = let here : head_of x ≡ Named full = ap head_of (some_inside x d.0 d.1) ∙ d.2 in rw (defines_itself full (head_of x) here) (ap Some (let z : i ≡ i + 0 = omega arith in z))
defined-some full i (x ∷ ds) (suc n) once d =
    let other : head_of x ≢ Named full = λ e. not_new full ds n d (once.0 full e) in
    rw (not_defined full (head_of x) other (defines full (head_of x)) refl) (defined-some full (i + 1) ds n once.1 d ∙ ap Some (let z : i + 1 + n ≡ i + suc n = omega arith in z))

pub defined_is-some : (full : List ℕ) (ds : List Draft) (n : ℕ) → AreDefinedOnce ds → IsDefinedAt full ds n → defined_at full (heads_of ds) ≡ Some n
unfolding defined_at
defined_is-some full ds n once d = defined-some full 0 ds n once d ∙ ap Some (let z : 0 + n ≡ n = omega arith in z)
