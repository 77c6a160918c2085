-- The nodes that a value declares fit: by induction on what is declared.
use Rattle.std.proofs.Common.{◌≡◌, ℕ, zero, suc, ◌+◌, ◌<◌, ◌≤◌, inl, inr, List, [], ◌∷◌, ◌++◌, length, map, Bool, true, false, ◌||◌, Some, refl, sym, ap, subst, ◌∙◌, arith, append_assoc, append-nil, length-append, slice_get, eqb, IfSome, Option}
use Rattle.std.specs.List.{AllByRecursion, IsDistinct, list_any}
use Rattle.std.proofs.lemmas.Bool.{eqb-true}
use Rattle.std.proofs.lemmas.Map.Steps.{length-le_from_distinct_below}
use Rattle.std.proofs.lemmas.Slice.Eq.{bytes_eq-Decides}
use Rattle.serde_json.specs.Data.{Data, Items}
use Rattle.spec_avro.specs.declared.limits.TheConstants.{MOST_FIXED, MOST_NODES}
use Rattle.avro_types.specs.Laws.Booleans.{none_some, some_inside}
use Rattle.spec_avro.specs.Node.{Node, FixedNode, EnumNode, ArrayNode, MapNode, UnionNode}
use Rattle.spec_schema.specs.Declaring.{DeclareFields, DeclareMembers, Declares, IsPrimitive, a_field, a_fixed, a_map, a_member, a_primitive, a_record, a_reference, a_union, an_array, an_enum, another, no_more_fields, no_more_members, null_type, boolean_type, int_type, long_type, bytes_type, text_type}
use Rattle.spec_schema.specs.Draft.{Draft, Whole, RecordDraft, DraftField}
use Rattle.spec_schema.specs.Given.{IsDefaultSymbol, IsSize, a_size, no_default, the_symbol}
use Rattle.spec_schema.specs.Head.{Head, NullHead, BooleanHead, IntHead, LongHead, BytesHead, TextHead, ArrayHead, MapHead, UnionHead, Named, head_at, head_of, heads_of, is_same_type, is_union_head}
use Rattle.avro_schema_names.proofs.DraftLists.{get-extended, heads_of-append, length-heads_of}
use Rattle.avro_schema.proofs.Fits.{AllFrom, DraftFits, Gives, ItemFits, MemberFits, PartFits, all-behind, is_named_there, is_union_there}

-- ---- there is room for all

few_after : (before : List Draft) (d : Draft) (added : List Draft) → length before < MOST_NODES → (length (before ++ d ∷ []) ≤ MOST_NODES → length (before ++ d ∷ []) + length added ≤ MOST_NODES) → length before + suc (length added) ≤ MOST_NODES
few_after before d added lt f = let one = length-append before (d ∷ []) in omega (arith, one, f (omega (arith, one)))

few_both : (before added more : List Draft) → length before + length added ≤ MOST_NODES → (length (before ++ added) ≤ MOST_NODES → length (before ++ added) + length more ≤ MOST_NODES) → length before + length (added ++ more) ≤ MOST_NODES
few_both before added more le f = let both = length-append before added in omega (arith, both, length-append added more, f (omega (arith, both)))

mutual
  pub few : {d : Data} {enclosing : List ℕ} {before : List Draft} {n : ℕ} {added : List Draft} → Declares d enclosing before n added → length before ≤ MOST_NODES → length before + length added ≤ MOST_NODES
  few (a_primitive p lt) le = omega arith
  few (a_reference p at) le = omega arith
  few (a_union {before = before} {ns = ns} lt parts apart) le = few_after before (Whole (UnionNode ns)) _ lt (few_members parts)
  few (an_array {before = before} {n = n} is lt at part) le = few_after before (Whole (ArrayNode n)) _ lt (few part)
  few (a_map {before = before} {n = n} is lt at part) le = few_after before (Whole (MapNode n)) _ lt (few part)
  few (a_record {names = names} {before = before} {fs = fs} is lt name at parts apart most) le = few_after before (RecordDraft names fs) _ lt (few_fields parts)
  few (an_enum is lt name a b) le = omega arith
  few (a_fixed is lt name a) le = omega arith
  few (another is none part) le = few part le

  few_members : {ds : Items} {enclosing : List ℕ} {before : List Draft} {ns : List ℕ} {added : List Draft} → DeclareMembers ds enclosing before ns added → length before ≤ MOST_NODES → length before + length added ≤ MOST_NODES
  few_members no_more_members le = omega arith
  few_members (a_member {before = before} {added = added} {more = more} first rest) le = few_both before added more (few first le) (few_members rest)

  few_fields : {ds : Items} {enclosing : List ℕ} {before : List Draft} {fs : List DraftField} {added : List Draft} → DeclareFields ds enclosing before fs added → length before ≤ MOST_NODES → length before + length added ≤ MOST_NODES
  few_fields no_more_fields le = omega arith
  few_fields (a_field {before = before} {added = added} {more = more} name rule others at first rest) le = few_both before added more (few first le) (few_fields rest)

-- ---- where heads are

-- all nodes, some of which come before the added ones
abbrev Stands : List Draft → List Draft → List Draft → List Draft → Type 0
Stands before added more all = all ≡ (before ++ added) ++ more

length-all : (before added more all : List Draft) → Stands before added more all → length (heads_of all) ≡ length before + length added + length more
length-all before added more all e = let a = length-append (before ++ added) more in let b = length-append before added in omega (arith, length-heads_of all, ap length e, a, b)

-- with one of the added nodes counted to those before
stands-after : (before : List Draft) (d : Draft) (added more all : List Draft) → Stands before (d ∷ added) more all → Stands (before ++ d ∷ []) added more all
stands-after before d added more all e = e ∙ ap (λ ds. ds ++ more) (sym (append_assoc before (d ∷ []) added))

stands-first : (before added more others all : List Draft) → Stands before (added ++ more) others all → Stands before added (more ++ others) all
stands-first before added more others all e = e ∙ ap (λ ds. ds ++ others) (sym (append_assoc before added more)) ∙ append_assoc (before ++ added) more others

stands-rest : (before added more others all : List Draft) → Stands before (added ++ more) others all → Stands (before ++ added) more others all
stands-rest before added more others all e = e ∙ ap (λ ds. ds ++ others) (sym (append_assoc before added more))

get-head : (ds : List Draft) (n : ℕ) (d : Draft) → slice_get ds n ≡ Some d → slice_get (heads_of ds) n ≡ Some (head_of d)
get-head [] n d e = absurd (none_some d e)
get-head (x ∷ ds) zero d e = ap (λ y. Some (head_of y)) (some_inside x d e)
get-head (x ∷ ds) (suc n) d e = get-head ds n d e

get-below : (hs : List Head) (n : ℕ) (h : Head) → slice_get hs n ≡ Some h → n < length hs
get-below [] n h e = absurd (none_some h e)
get-below (x ∷ hs) zero h e = omega arith
get-below (x ∷ hs) (suc n) h e = omega (arith, get-below hs n h e)

heads-all : (before added more all : List Draft) → Stands before added more all → heads_of all ≡ heads_of (before ++ added) ++ heads_of more
heads-all before added more all e = ap heads_of e ∙ heads_of-append (before ++ added) more

-- the node of a name that comes before
named_gives : (before more all : List Draft) (n start : ℕ) (d : Draft) (full : List ℕ) → Stands before [] more all → slice_get before n ≡ Some d → head_of d ≡ Named full → Gives start (heads_of all) n
named_gives before more all n start d full e at is =
    let here = get-head before n d at in
    let lt = get-below (heads_of before) n (head_of d) here in
    let split : heads_of all ≡ heads_of before ++ heads_of more = heads-all before [] more all e ∙ ap (λ ds. heads_of ds ++ heads_of more) (append-nil before) in
    let there : slice_get (heads_of all) n ≡ Some (Named full) = get-extended (heads_of all) (heads_of before) (heads_of more) n split lt ∙ here ∙ ap Some is in
    record { below = get-below (heads_of all) n (Named full) there; new = inr (ap is_named_there there) }

new_gives : (before : List Draft) (d : Draft) (added more all : List Draft) → Stands before (d ∷ added) more all → Gives (length before) (heads_of all) (length before)
new_gives before d added more all e = record { below = omega (arith, length-all before (d ∷ added) more all e); new = inl (omega arith) }

-- ---- parts

module _ (before : List Draft) (d : Draft) (all : List Head) where
  part_fits : (n : ℕ) → Gives (length (before ++ d ∷ [])) all n → PartFits all (length before) n
  part_fits n g = elim g.new [ inl at ↦ inl (omega (arith, at, length-append before (d ∷ []))) | inr named ↦ inr named ]

  item_fits : (n : ℕ) → Gives (length (before ++ d ∷ [])) all n → ItemFits all (length before) n
  item_fits n g = record { below = g.below; part = part_fits n g }

  -- what was added after it, counted from it
  after_fits : (added : List Draft) → AllFrom (DraftFits all) (length (before ++ d ∷ [])) added → AllFrom (DraftFits all) (suc (length before)) added
  after_fits added h = subst (λ n. AllFrom (DraftFits all) n added) (let e : length (before ++ d ∷ []) ≡ suc (length before) = omega (arith, length-append before (d ∷ [])) in e) h

-- ---- members that are apart

same_head : (h : Head) → is_same_type h h ≡ true
same_head NullHead = refl
same_head BooleanHead = refl
same_head IntHead = refl
same_head LongHead = refl
same_head BytesHead = refl
same_head TextHead = refl
same_head ArrayHead = refl
same_head MapHead = refl
same_head UnionHead = refl
same_head (Named full) = (bytes_eq-Decides full full).1 refl

-- another head is another node's
other_node : (heads : List Head) (m n : ℕ) (b : Bool) → eqb m n ≡ b → is_same_type (head_at heads m) (head_at heads n) ≡ false → b ≡ false
other_node heads m n false t e = refl
other_node heads m n true t e =
    let same : m ≡ n = eqb-true m n t in
    absurd (let wrong : ⊥ = let h = sym (subst (λ k. is_same_type (head_at heads k) (head_at heads n) ≡ false) same e) ∙ same_head (head_at heads n) in cc in wrong)

none_other : (heads : List Head) (m : ℕ) (ns : List ℕ) → AllByRecursion (λ h. is_same_type (head_at heads m) h ≡ false) (map (head_at heads) ns) → AllByRecursion (λ n. eqb m n ≡ false) ns
none_other heads m [] h = tt
none_other heads m (n ∷ ns) h = (other_node heads m n (eqb m n) refl h.0, none_other heads m ns h.1)

distinct_nodes : (heads : List Head) (ns : List ℕ) → IsDistinct is_same_type (map (head_at heads) ns) → IsDistinct eqb ns
unfolding IsDistinct
distinct_nodes heads [] d = tt
distinct_nodes heads (n ∷ ns) d = (none_other heads n ns d.0, distinct_nodes heads ns d.1)

any_at : (bound q n : ℕ) (b rest : Bool) → n < bound → (rest ≡ true → q < bound) → eqb q n ≡ b → (b || rest) ≡ true → q < bound
any_at bound q n true rest lt further t e = omega (arith, eqb-true q n t, lt)
any_at bound q n false rest lt further t e = further e

any_below : (bound : ℕ) (ns : List ℕ) → AllByRecursion (λ n. n < bound) ns → (q : ℕ) → list_any (eqb q) ns ≡ true → q < bound
any_below bound [] below q e = absurd (let wrong : ⊥ = cc in wrong)
any_below bound (n ∷ ns) below q e = any_at bound q n (eqb q n) (list_any (eqb q) ns) below.0 (any_below bound ns below.1 q) refl e

abbrev AllGiven : ℕ → List Head → List ℕ → Type 0
AllGiven start all ns = AllByRecursion (Gives start all) ns

all_below : (start : ℕ) (all : List Head) (ns : List ℕ) → AllGiven start all ns → AllByRecursion (λ n. n < length all) ns
all_below start all [] h = tt
all_below start all (n ∷ ns) h = (h.0.below, all_below start all ns h.1)

given_before : (start later : ℕ) (all : List Head) → start ≤ later → (ns : List ℕ) → AllGiven later all ns → AllGiven start all ns
given_before start later all le [] h = tt
given_before start later all le (n ∷ ns) h = (record { below = h.0.below; new = elim h.0.new [ inl at ↦ inl (omega (arith, le, at)) | inr named ↦ inr named ] }, given_before start later all le ns h.1)

there : (heads : List Head) (n : ℕ) → n < length heads → slice_get heads n ≡ Some (head_at heads n)
there [] n lt = absurd (omega arith)
there (h ∷ heads) zero lt = refl
there (h ∷ heads) (suc n) lt = there heads n (omega arith)

seen : (h : Head) → is_union_there (Some h) ≡ is_union_head h
seen NullHead = refl
seen BooleanHead = refl
seen IntHead = refl
seen LongHead = refl
seen BytesHead = refl
seen TextHead = refl
seen ArrayHead = refl
seen MapHead = refl
seen UnionHead = refl
seen (Named full) = refl

head_at-front : (heads more : List Head) (n : ℕ) → n < length heads → head_at (heads ++ more) n ≡ head_at heads n
head_at-front [] more n lt = absurd (omega arith)
head_at-front (h ∷ heads) more zero lt = refl
head_at-front (h ∷ heads) more (suc n) lt = head_at-front heads more n (omega arith)

heads_at-front : (heads more : List Head) (ns : List ℕ) → AllByRecursion (λ n. n < length heads) ns → map (head_at (heads ++ more)) ns ≡ map (head_at heads) ns
heads_at-front heads more [] h = refl
heads_at-front heads more (n ∷ ns) h = rw (head_at-front heads more n h.0, heads_at-front heads more ns h.1) refl

module _ (before : List Draft) (d : Draft) (all : List Head) where
  members_fit : (ns : List ℕ) → AllGiven (length (before ++ d ∷ [])) all ns → AllByRecursion (λ h. is_union_head h ≡ false) (map (head_at all) ns) → AllByRecursion (MemberFits all (length before)) ns
  members_fit [] given none = tt
  members_fit (n ∷ ns) given none = (
    record {
      below = given.0.below;
      no_union = ap is_union_there (there all n given.0.below) ∙ seen (head_at all n) ∙ none.0;
      part = part_fits before d all n given.0;
    },
    members_fit ns given.1 none.1,
  )

-- ---- each node fits

leaf_fits : {s : List ℕ} {node : Node} → IsPrimitive s node → (all : List Head) (own : ℕ) → DraftFits all own (Whole node)
leaf_fits null_type all own = tt
leaf_fits boolean_type all own = tt
leaf_fits int_type all own = tt
leaf_fits long_type all own = tt
leaf_fits bytes_type all own = tt
leaf_fits text_type all own = tt

default_below : {ss : List (List ℕ)} {v : Option Data} {o : Option ℕ} → IsDefaultSymbol ss v o → IfSome o (λ n. n < length ss)
default_below no_default = tt
default_below (the_symbol {s = s} {n = n} at) = below _ n s at
  where
    below : (ss : List (List ℕ)) (n : ℕ) (s : List ℕ) → slice_get ss n ≡ Some s → n < length ss
    below [] n s e = absurd (none_some s e)
    below (x ∷ ss) zero s e = omega arith
    below (x ∷ ss) (suc n) s e = omega (arith, below ss n s e)

size_few : {v : Option Data} {n : ℕ} → IsSize v n → n ≤ MOST_FIXED
size_few (a_size le) = le

-- what is given is new or of a name, and what is added fits
abbrev Fit : ℕ → List Head → ℕ → List Draft → Type 0
Fit start all n added = Gives start all n × AllFrom (DraftFits all) start added

abbrev FitMembers : ℕ → List Head → List ℕ → List Draft → Type 0
FitMembers start all ns added = AllGiven start all ns × AllFrom (DraftFits all) start added

abbrev FitFields : ℕ → List Head → List DraftField → List Draft → Type 0
FitFields start all fs added = AllByRecursion (λ f. f.node < length all) fs × AllFrom (DraftFits all) start added

-- the union and its members, where they fit among the nodes so far, and among all
union_fits : (before : List Draft) (ns : List ℕ) (added more all : List Draft) → Stands before (Whole (UnionNode ns) ∷ added) more all → length before + suc (length added) ≤ MOST_NODES
    → AllGiven (length (before ++ Whole (UnionNode ns) ∷ [])) (heads_of ((before ++ Whole (UnionNode ns) ∷ []) ++ added)) ns → FitMembers (length (before ++ Whole (UnionNode ns) ∷ [])) (heads_of all) ns added
    → AllByRecursion (λ h. is_union_head h ≡ false) (map (head_at (heads_of ((before ++ Whole (UnionNode ns) ∷ []) ++ added))) ns) × IsDistinct is_same_type (map (head_at (heads_of ((before ++ Whole (UnionNode ns) ∷ []) ++ added))) ns)
    → Fit (length before) (heads_of all) (length before) (Whole (UnionNode ns) ∷ added)
union_fits before ns added more all e few here whole apart =
    let u = Whole (UnionNode ns) in
    let so_far = (before ++ u ∷ []) ++ added in
    let below = all_below (length (before ++ u ∷ [])) (heads_of so_far) ns here in
    let same : map (head_at (heads_of all)) ns ≡ map (head_at (heads_of so_far)) ns = ap (λ hs. map (head_at hs) ns) (heads-all (before ++ u ∷ []) added more all (stands-after before u added more all e)) ∙ heads_at-front (heads_of so_far) (heads_of more) ns below in
    let count : length (heads_of so_far) ≤ MOST_NODES = omega (arith, few, length-heads_of so_far, length-append (before ++ u ∷ []) added, length-append before (u ∷ [])) in
    let most = length-le_from_distinct_below ns (length (heads_of so_far)) (distinct_nodes (heads_of so_far) ns apart.1) (any_below (length (heads_of so_far)) ns below) in (
      new_gives before u added more all e,
      (
        (members_fit before u (heads_of all) ns whole.0 (subst (AllByRecursion (λ h. is_union_head h ≡ false)) (sym same) apart.0), omega (arith, most, count), subst (IsDistinct is_same_type) (sym same) apart.1),
        after_fits before u (heads_of all) added whole.1,
      ),
    )

mutual
  pub fits : {d : Data} {enclosing : List ℕ} {before : List Draft} {n : ℕ} {added : List Draft} → Declares d enclosing before n added → (more all : List Draft) → Stands before added more all → Fit (length before) (heads_of all) n added
  fits (a_primitive {before = before} {node = node} p lt) more all e = (new_gives before (Whole node) [] more all e, (leaf_fits p (heads_of all) (length before), tt))
  fits (a_reference {before = before} {n = n} p at) more all e = (named_gives before more all n (length before) at.0 _ e at.1 at.2, tt)
  fits (a_union {before = before} {added = added} {ns = ns} lt parts apart) more all e =
      let u = Whole (UnionNode ns) in
      let so_far = (before ++ u ∷ []) ++ added in
      let one = length-append before (u ∷ []) in
      union_fits before ns added more all e (omega (arith, one, few_members parts (omega (arith, one))))
      (fits_members parts [] so_far (sym (append-nil so_far))).0 (fits_members parts more all (stands-after before u added more all e)) apart
  fits (an_array {before = before} {added = added} {n = n} is lt at part) more all e =
      let d = Whole (ArrayNode n) in
      let g = fits part more all (stands-after before d added more all e) in
      (new_gives before d added more all e, (item_fits before d (heads_of all) n g.0, after_fits before d (heads_of all) added g.1))
  fits (a_map {before = before} {added = added} {n = n} is lt at part) more all e =
      let d = Whole (MapNode n) in
      let g = fits part more all (stands-after before d added more all e) in
      (new_gives before d added more all e, (item_fits before d (heads_of all) n g.0, after_fits before d (heads_of all) added g.1))
  fits (a_record {names = names} {before = before} {added = added} {fs = fs} is lt name at parts apart most) more all e =
      let d = RecordDraft names fs in
      let g = fits_fields parts more all (stands-after before d added more all e) in
      (new_gives before d added more all e, ((g.0, apart, most), after_fits before d (heads_of all) added g.1))
  fits (an_enum {names = names} {before = before} {symbols = symbols} {default = default} is lt name ss at) more all e =
      (new_gives before (Whole (EnumNode names symbols default)) [] more all e, ((ss.distinct, ss.few, default_below at), tt))
  fits (a_fixed {names = names} {before = before} {size = size} is lt name at) more all e = (new_gives before (Whole (FixedNode names size)) [] more all e, (size_few at, tt))
  fits (another is none part) more all e = fits part more all e

  fits_members : {ds : Items} {enclosing : List ℕ} {before : List Draft} {ns : List ℕ} {added : List Draft} → DeclareMembers ds enclosing before ns added → (more all : List Draft) → Stands before added more all → FitMembers (length before) (heads_of all) ns added
  fits_members no_more_members more all e = (tt, tt)
  fits_members (a_member {before = before} {added = added} {more = more} {n = n} {ns = ns} first rest) others all e =
      let g = fits first (more ++ others) all (stands-first before added more others all e) in
      let k = fits_members rest others all (stands-rest before added more others all e) in
      let both = length-append before added in (
        (g.0, given_before (length before) (length (before ++ added)) (heads_of all) (omega (arith, both)) ns k.0),
        all-behind (DraftFits (heads_of all)) (length before) added more g.1 (subst (λ i. AllFrom (DraftFits (heads_of all)) i more) both k.1),
      )

  fits_fields : {ds : Items} {enclosing : List ℕ} {before : List Draft} {fs : List DraftField} {added : List Draft} → DeclareFields ds enclosing before fs added → (more all : List Draft) → Stands before added more all → FitFields (length before) (heads_of all) fs added
  fits_fields no_more_fields more all e = (tt, tt)
  fits_fields (a_field {before = before} {added = added} {more = more} {n = n} {fs = fs} name rule aliases at first rest) others all e =
      let g = fits first (more ++ others) all (stands-first before added more others all e) in
      let k = fits_fields rest others all (stands-rest before added more others all e) in
      let both = length-append before added in
      ((g.0.below, k.0), all-behind (DraftFits (heads_of all)) (length before) added more g.1 (subst (λ i. AllFrom (DraftFits (heads_of all)) i more) both k.1))

-- the nodes of a whole value
pub fits_alone : {d : Data} {enclosing : List ℕ} {n : ℕ} {drafts : List Draft} → Declares d enclosing [] n drafts → Fit 0 (heads_of drafts) n drafts
fits_alone {drafts = drafts} h = fits h [] drafts (sym (append-nil drafts))
