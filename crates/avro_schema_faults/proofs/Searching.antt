-- What a search for a node comes to, by what the walk adds.
use Rattle.std.proofs.Common.{◌≡◌, ◌<◌, ◌≤◌, ◌+◌, ◌-◌, ℕ, zero, suc, List, [], ◌∷◌, ◌++◌, length, map, Bool, true, false, cond, is_some, Option, Some, None, Result, Ok, Err, arith, refl, sym, ap, subst, ◌∙◌, nat_lt, slice_get, append-nil, length-append}
use Rattle.std.specs.Option.{SomeIff}
use Rattle.std.proofs.lemmas.Bool.{ltb-true}
use Rattle.serde_json.specs.Data.{Data, array, string, Items}
use Rattle.spec_avro.specs.FullNames.{full_name}
use Rattle.spec_avro.specs.Node.{Node, UnionNode}
use Rattle.spec_avro.specs.declared.limits.TheConstants.{MOST_NODES}
use Rattle.spec_schema.specs.Draft.{Draft, Whole}
use Rattle.spec_schema.specs.Head.{Head, UnionHead, are_apart, defined_at, head_at, heads_of}
use Rattle.spec_schema.specs.Steps.{◌>>=◌}
use Rattle.spec_schema.specs.Word.{is_left_out, leaf_of, word_of}
use Rattle.spec_schema.specs.declared.schema_error.SchemaError.{SchemaError}
use Rattle.spec_schema.specs.declared.schema_error.SchemaError.TheVariants.{BadUnion, OutOfProfile, TooLarge, Unknown}
use Rattle.spec_schema.specs.declared.word.Form.TheVariants as forms
use Rattle.avro_schema_paths.specs.Places.{Path}
use Rattle.avro_schema_paths.specs.declared.step.Step.{Step}
use Rattle.avro_schema_paths.specs.declared.step.Step.TheVariants as steps
use Rattle.spec_schema.specs.Walk.{Walk, added as added_to, around, done, fault, followed_by, found, if_room, leaf_or_reference, members, named, one_node, reference, union_of, walk}
use Rattle.avro_schema_faults.specs.Faults.{ComesTo, IsOfForm, Visit, further, itself, schema, to_member}
use Rattle.avro_schema_faults.specs.Searching.{Adds, IsDeclaredAt, SoughtIn, SoughtInMembers, is_record}

-- ---- what a walk that succeeds is made of

pub bind-ok : {A B : Type 0} (r : Result A SchemaError) (f : A → Result B SchemaError) (b : B) → (r >>= f) ≡ Ok b → (a : A) × (r ≡ Ok a) × (f a ≡ Ok b)
bind-ok (Ok a) f b h = (a, refl, h)
bind-ok (Err x) f b h = absurd (let no : ⊥ = cc in no)

pub cond-ok : {A : Type 0} (b : Bool) (r : Result A SchemaError) (e : SchemaError) (a : A) → cond b r (Err e) ≡ Ok a → (b ≡ true) × (r ≡ Ok a)
cond-ok true r e a h = (refl, h)
cond-ok false r e a h = absurd (let no : ⊥ = cc in no)

abbrev pub new_of : {A : Type 0} → Result (A × List Draft) SchemaError → List Draft
new_of (Ok p) = p.1
new_of (Err e) = []

pub room-ok : {A : Type 0} (w : Walk A) (enclosing : List ℕ) (heads : List Head) (p : A × List Draft) → if_room w enclosing heads ≡ Ok p → (length heads < MOST_NODES) × (w enclosing heads ≡ Ok p)
room-ok w enclosing heads p h =
    let c = cond-ok (nat_lt (length heads) MOST_NODES) (w enclosing heads) TooLarge p h in
    (ltb-true (length heads) MOST_NODES c.0, c.1)

pub around-ok : {A : Type 0} (make : A → Draft) (head : Head) (parts : Walk A) (enclosing : List ℕ) (heads : List Head) (n : ℕ) (new : List Draft) → around make head parts enclosing heads ≡ Ok (n, new)
    → (q : A × List Draft) × (parts enclosing (heads ++ head ∷ []) ≡ Ok q) × (make q.0 ∷ q.1 ≡ new)
unfolding around
around-ok make head parts enclosing heads n new h =
    let b = bind-ok (parts enclosing (heads ++ head ∷ [])) _ (n, new) h in
    (b.0, b.1, ap new_of b.2)

added-ok : {A : Type 0} (front : List Draft) (r : Result (A × List Draft) SchemaError) (a : A) (new : List Draft) → added_to front r ≡ Ok (a, new) → (q : A × List Draft) × (r ≡ Ok q) × (front ++ q.1 ≡ new)
added-ok front (Ok q) a new h = (q, refl, ap new_of h)
added-ok front (Err e) a new h = absurd (let no : ⊥ = cc in no)

-- one walk and then another, which knows what the first gave
pub record InTwo {A C : Type 0} (w : Walk A) (v : A → Walk C) (enclosing : List ℕ) (heads : List Head) (new : List Draft) : Type 0 where
  pub a : A
  pub front : List Draft
  pub c : C
  pub back : List Draft
  pub first : w enclosing heads ≡ Ok (a, front)
  pub second : v a enclosing (heads ++ heads_of front) ≡ Ok (c, back)
  pub is : front ++ back ≡ new

pub in-two : {A B C : Type 0} (w : Walk A) (v : A → Walk C) (f : A → C → B) (enclosing : List ℕ) (heads : List Head) (b : B) (new : List Draft)
    → followed_by w (λ a. followed_by (v a) (λ c. done (f a c))) enclosing heads ≡ Ok (b, new) → InTwo w v enclosing heads new
unfolding followed_by
in-two w v f enclosing heads b new h =
    let p = bind-ok (w enclosing heads) _ (b, new) h in
    let q = added-ok p.0.1 _ b new p.2 in
    let r = bind-ok (v p.0.0 enclosing (heads ++ heads_of p.0.1)) _ q.0 q.1 in
    let last : r.0.1 ++ [] ≡ q.0.1 = ap new_of r.2 in
    let back : r.0.1 ≡ q.0.1 = sym (append-nil r.0.1) ∙ last in
    record { a = p.0.0; front = p.0.1; c = r.0.0; back = r.0.1; first = p.1; second = r.1; is = ap (λ (xs : List Draft). p.0.1 ++ xs) back ∙ q.2 }

-- ---- where a node is declared

pub moved : (v : Visit) (n m : ℕ) (draft other : Option Draft) (q : Path) → n ≡ m → draft ≡ other → IsDeclaredAt v n draft q → IsDeclaredAt v m other q
moved v n m draft other q e f h = subst (λ (o : Option Draft). IsDeclaredAt v m o q) f (subst (λ (k : ℕ). IsDeclaredAt v k draft q) e h)

pub within : (v w : Visit) (s : Step) (n : ℕ) (draft : Option Draft) (q : Path) → ComesTo v s w → IsDeclaredAt w n draft q → IsDeclaredAt v n draft (s ∷ q)
within v w s n draft q c h = record { value = h.value; enclosing = h.enclosing; heads = h.heads; comes = further c h.comes; number = h.number; form = h.form }

pub own : (d : Data) (enclosing : List ℕ) (heads : List Head) (n : ℕ) (draft : Option Draft) → length heads ≡ n → (is_record draft ≡ true → IsOfForm forms.Record d) → IsDeclaredAt (schema d enclosing heads) n draft []
own d enclosing heads n draft e form = record { value = d; enclosing = enclosing; heads = heads; comes = itself; number = e; form = form }

pub no-record : {A : Type 0} → false ≡ true → A
no-record e = absurd (let no : ⊥ = cc in no)

pub get-behind : (xs ys : List Draft) (n : ℕ) → slice_get (xs ++ ys) (length xs + n) ≡ slice_get ys n
get-behind [] ys n = let same : 0 + n ≡ n = omega arith in ap (slice_get ys) same
get-behind (x ∷ xs) ys n = let same : suc (length xs) + n ≡ suc (length xs + n) = omega arith in ap (slice_get (x ∷ xs ++ ys)) same ∙ get-behind xs ys n

pub one-more : (heads : List Head) (h : Head) (k : ℕ) → length (heads ++ h ∷ []) + k ≡ length heads + suc k
one-more heads h k = let l = length-append heads (h ∷ []) in omega (arith, l)

-- ---- values of one node, of none and of no schema

abbrev pub one_less : ℕ → Option ℕ
one_less zero = None
one_less (suc k) = Some k

-- one node less
pub one_less-is : (r : Option ℕ) (left : ℕ) → SomeIff r (1 ≤ left) (left - 1) → one_less left ≡ r
one_less-is None zero h = refl
one_less-is None (suc k) h = absurd (h (omega arith))
one_less-is (Some x) zero h = absurd (let p = h.0 in omega (arith, p))
one_less-is (Some x) (suc k) h = let e = h.1 in let same : k ≡ x = omega (arith, e) in ap Some same

abbrev pub AddsOne : Data → Type 0
AddsOne d = (enclosing : List ℕ) (heads : List Head) (new : List Draft) → Adds (schema d enclosing heads) new → (node : Node) × (Whole node ∷ [] ≡ new)

-- where the number is 0, and where it is more
pub at-zero : (d : Data) (left : ℕ) → left ≡ 0 → SoughtIn d 0 None [] → SoughtIn d left None []
at-zero d left e s = subst (λ (k : ℕ). SoughtIn d k None []) (sym e) s

pub at-more : (d : Data) (left : ℕ) (r : Option ℕ) (p : Path) → left ≡ suc (left - 1) → SoughtIn d (suc (left - 1)) r p → SoughtIn d left r p
at-more d left r p e s = subst (λ (k : ℕ). SoughtIn d k r p) (sym e) s

pub sought-one : (d : Data) → AddsOne d → (left : ℕ) → SoughtIn d left (one_less left) []
sought-one d one zero enclosing heads = λ new a.
    let o = one enclosing heads new a in
    subst (λ (ks : List Draft). (0 < length ks) × IsDeclaredAt (schema d enclosing heads) (length heads + 0) (slice_get ks 0) []) o.1
    (omega arith, own d enclosing heads (length heads + 0) (Some (Whole o.0)) (omega arith) (λ e. no-record e))
sought-one d one (suc k) enclosing heads = λ new a.
    let o = one enclosing heads new a in
    subst (λ (ks : List Draft). length ks + k ≡ suc k) o.1 (omega arith)

pub sought-next : (d : Data) → AddsOne d → (left : ℕ) (r : Option ℕ) → SomeIff r (1 ≤ left) (left - 1) → SoughtIn d left r []
sought-next d one left r h = subst (λ (o : Option ℕ). SoughtIn d left o []) (one_less-is r left h) (sought-one d one left)

abbrev pub AddsNone : Data → Type 0
AddsNone d = (enclosing : List ℕ) (heads : List Head) (new : List Draft) → Adds (schema d enclosing heads) new → [] ≡ new

pub sought-none : (d : Data) → AddsNone d → (left : ℕ) → SoughtIn d left (Some left) []
sought-none d none left enclosing heads new a = subst (λ (ks : List Draft). length ks + left ≡ left) (none enclosing heads new a) (omega arith)

abbrev pub Never : Data → Type 0
Never d = (enclosing : List ℕ) (heads : List Head) (new : List Draft) → Adds (schema d enclosing heads) new → ⊥

pub sought-never : (d : Data) → Never d → (left : ℕ) (found : Option ℕ) (path : Path) → SoughtIn d left found path
sought-never d never left (Some rest) path enclosing heads = λ new a. absurd (never enclosing heads new a)
sought-never d never left None path enclosing heads = λ new a. absurd (never enclosing heads new a)

pub scalar-never : (d : Data) → walk d ≡ fault Unknown → Never d
scalar-never d is enclosing heads new (n, h) = let e = sym (ap (λ (w : Walk ℕ). w enclosing heads) is) ∙ h in let no : ⊥ = cc in no

-- ---- texts

leaf-ok : (s enclosing : List ℕ) (heads : List Head) (n : ℕ) (new : List Draft) (b : Bool) (o : Option Node) → true ≡ is_some o → cond b (fault OutOfProfile) (leaf_or_reference o s) enclosing heads ≡ Ok (n, new) → (node : Node) × (Whole node ∷ [] ≡ new)
leaf-ok s enclosing heads n new true o e h = absurd (let bad : ⊥ = cc in bad)
leaf-ok s enclosing heads n new false None e h = absurd (let bad : ⊥ = cc in bad)
leaf-ok s enclosing heads n new false (Some m) e h = let r = room-ok (one_node (Whole m)) enclosing heads (n, new) h in (m, ap new_of r.1)

pub leaf-adds : (s : List ℕ) → true ≡ is_some (leaf_of (word_of s)) → AddsOne (string s)
unfolding walk named
leaf-adds s e enclosing heads new (n, h) = leaf-ok s enclosing heads n new (is_left_out (word_of s)) (leaf_of (word_of s)) e h

found-ok : (o : Option ℕ) (n : ℕ) (new : List Draft) → found o ≡ Ok (n, new) → [] ≡ new
found-ok None n new h = absurd (let no : ⊥ = cc in no)
found-ok (Some m) n new h = ap new_of h

name-ok : (s enclosing : List ℕ) (heads : List Head) (n : ℕ) (new : List Draft) (b : Bool) (o : Option Node) → false ≡ is_some o → cond b (fault OutOfProfile) (leaf_or_reference o s) enclosing heads ≡ Ok (n, new) → [] ≡ new
unfolding reference
name-ok s enclosing heads n new true o e h = absurd (let bad : ⊥ = cc in bad)
name-ok s enclosing heads n new false (Some m) e h = absurd (let bad : ⊥ = cc in bad)
name-ok s enclosing heads n new false None e h = found-ok (defined_at (full_name enclosing s) heads) n new h

pub name-adds : (s : List ℕ) → false ≡ is_some (leaf_of (word_of s)) → AddsNone (string s)
unfolding walk named
name-adds s e enclosing heads new (n, h) = name-ok s enclosing heads n new (is_left_out (word_of s)) (leaf_of (word_of s)) e h

-- ---- unions

record OfUnion (ds : Items) (enclosing : List ℕ) (heads : List Head) (new : List Draft) : Type 0 where
  room : length heads < MOST_NODES
  ns : List ℕ
  back : List Draft
  parts : members ds enclosing (heads ++ UnionHead ∷ []) ≡ Ok (ns, back)
  is : Whole (UnionNode ns) ∷ back ≡ new

union-ok : (ds : Items) (enclosing : List ℕ) (heads : List Head) (new : List Draft) → Adds (schema (array ds) enclosing heads) new → OfUnion ds enclosing heads new
unfolding walk union_of
union-ok ds enclosing heads new (n, h) =
    let r = room-ok (union_of (members ds)) enclosing heads (n, new) h in
    let b = bind-ok (members ds enclosing (heads ++ UnionHead ∷ [])) _ (n, new) r.1 in
    let c = cond-ok (are_apart [] (map (head_at ((heads ++ UnionHead ∷ []) ++ heads_of b.0.1)) b.0.0)) (Ok (length heads, Whole (UnionNode b.0.0) ∷ b.0.1)) BadUnion (n, new) b.2 in
    record { room = r.0; ns = b.0.0; back = b.0.1; parts = b.1; is = ap new_of c.1 }

pub union-first : (ds : Items) → SoughtIn (array ds) 0 None []
union-first ds enclosing heads new a =
    let u = union-ok ds enclosing heads new a in
    subst (λ (ks : List Draft). (0 < length ks) × IsDeclaredAt (schema (array ds) enclosing heads) (length heads + 0) (slice_get ks 0) []) u.is
    (omega arith, own (array ds) enclosing heads (length heads + 0) (Some (Whole (UnionNode u.ns))) (omega arith) (λ e. no-record e))

pub union-later : (ds : Items) (k : ℕ) (r : Option ℕ) (p : Path) → SoughtInMembers ds 0 k r p → SoughtIn (array ds) (suc k) r p
union-later ds k (Some rest) p s enclosing heads = λ new a.
    let u = union-ok ds enclosing heads new a in
    let l = s enclosing (heads ++ UnionHead ∷ []) u.ns u.back u.parts in
    subst (λ (ks : List Draft). length ks + rest ≡ suc k) u.is (omega (arith, l))
union-later ds k None p s enclosing heads = λ new a.
    let u = union-ok ds enclosing heads new a in
    let l = s enclosing (heads ++ UnionHead ∷ []) u.ns u.back u.parts in
    let m = l.1 in
    let step : steps.At m.j ∷ m.rest ≡ p = (let same : m.j ≡ 0 + m.j = omega arith in ap (λ (j : ℕ). steps.At j ∷ m.rest) same) ∙ sym m.path_is in
    let there = within (schema (array ds) enclosing heads) (schema m.member enclosing m.more) (steps.At m.j) _ (slice_get u.back k) m.rest (to_member u.room m.at) m.found in
    let all = moved (schema (array ds) enclosing heads) _ (length heads + suc k) _ _ _ (one-more heads UnionHead k) refl there in
    subst (λ (ks : List Draft). (suc k < length ks) × IsDeclaredAt (schema (array ds) enclosing heads) (length heads + suc k) (slice_get ks (suc k)) p) u.is
    (omega (arith, l.0), subst (λ (q : Path). IsDeclaredAt (schema (array ds) enclosing heads) (length heads + suc k) (slice_get u.back k) q) step all)
