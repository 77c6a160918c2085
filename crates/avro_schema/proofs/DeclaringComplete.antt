-- What a value declares is what the walk gives.
use Rattle.std.proofs.Common.{◌≡◌, ℕ, ◌+◌, ◌<◌, ◌≤◌, List, [], ◌∷◌, ◌++◌, length, map, Bool, true, false, not, ◌&&◌, Option, Some, Ok, refl, sym, ap, ◌∙◌, codes, arith, append-nil, length-append, nat_lt}
use Rattle.std.proofs.lemmas.Bool.{lt-ltb}
use Rattle.serde_json.specs.Data.{Data, string, array, object, Items, Members}
use Rattle.serde_json.specs.Find.{get_member}
use Rattle.spec_avro.specs.declared.limits.TheConstants.{MOST_FIELDS, MOST_NODES}
use Rattle.spec_schema.specs.Attributes.{symbols_of, default_symbol, size_of}
use Rattle.avro_schema.specs.Contract.{object_walk, field_walk}
use Rattle.spec_schema.specs.Draft.{Draft, Whole, RecordDraft, DraftField, draft_field}
use Rattle.spec_avro.specs.FullNames.{full_name, is_name, namespace_of}
use Rattle.spec_schema.specs.Head.{Head, ArrayHead, MapHead, UnionHead, Named, head_of, heads_of, head_at, are_apart}
use Rattle.spec_schema.specs.Names.{field_name}
use Rattle.spec_avro.specs.Node.{Node, Names, ArrayNode, MapNode, UnionNode, EnumNode, FixedNode}
use Rattle.spec_avro.specs.Symbols.{are_new, is_used}
use Rattle.spec_schema.specs.Walk.{Walk, around, done, enum_of, field, fields, fields_after, field_of, fixed_of, followed_by, if_room, members, named, record_of, reference, union_of, walk}
use Rattle.avro_schema.proofs.Members.{walk-object, field-object}
use Rattle.avro_schema_names.proofs.DraftLists.{length-heads_of, heads_of-append}
use Rattle.spec_schema.specs.Given.{AreFieldAliases}
use Rattle.spec_schema.specs.Declaring.{AreApart, DeclareFields, DeclareMembers, Declares, DefinesNames, HasRoom, IsNoPrimitive, IsNoWord, IsOf, IsPrimitive, a_field, a_fixed, a_map, a_member, a_primitive, a_record, a_reference, a_union, an_array, an_enum, another, no_more_fields, no_more_members}
use Rattle.spec_schema.specs.Definitions.{AreDefinedOnce, IsDefinedAt}
use Rattle.avro_schema.proofs.GivenAttributes.{default_is, field_aliases_are, size_is, symbols_are}
use Rattle.avro_schema.proofs.Apart.{distinct-new, types-apart}
use Rattle.avro_schema.proofs.DefinedOnce.{once, once-definition, once-unnamed}
use Rattle.avro_schema.proofs.DefinedPlaces.{defined_is-some}
use Rattle.avro_schema.proofs.GivenNames.{names_are}
use Rattle.avro_schema.proofs.WordCases.{other_is, primitive_is, reference_is}

-- ---- steps

has_room : (before : List Draft) → HasRoom before → nat_lt (length (heads_of before)) MOST_NODES ≡ true
has_room before lt = rw (length-heads_of before) (lt-ltb (length before) MOST_NODES lt)

room : {A : Type 0} (w : Walk A) (enclosing : List ℕ) (before : List Draft) → HasRoom before → if_room w enclosing (heads_of before) ≡ w enclosing (heads_of before)
room w enclosing before lt = rw (length-heads_of before, lt-ltb (length before) MOST_NODES lt) refl

follows : {A B : Type 0} (first : Walk A) (rest : A → Walk B) (enclosing : List ℕ) (before : List Draft) (a : A) (added : List Draft) (b : B) (more : List Draft)
    → first enclosing (heads_of before) ≡ Ok (a, added) → rest a enclosing (heads_of (before ++ added)) ≡ Ok (b, more) → followed_by first rest enclosing (heads_of before) ≡ Ok (b, added ++ more)
unfolding followed_by
follows first rest enclosing before a added b more e f =
    let g : rest a enclosing (heads_of before ++ heads_of added) ≡ Ok (b, more) = ap (rest a enclosing) (sym (heads_of-append before added)) ∙ f in rw (e, g) refl

mapped : {A B : Type 0} (w : Walk A) (f : A → B) (enclosing : List ℕ) (heads : List Head) (a : A) (added : List Draft) → w enclosing heads ≡ Ok (a, added) → followed_by w (λ x. done (f x)) enclosing heads ≡ Ok (f a, added)
unfolding followed_by
mapped w f enclosing heads a added e = rw e (ap (λ ds. Ok (f a, ds)) (append-nil added))

encloses : {A : Type 0} (make : A → Draft) (head : Head) (w : Walk A) (enclosing : List ℕ) (before : List Draft) (a : A) (added : List Draft) → head_of (make a) ≡ head
    → w enclosing (heads_of (before ++ make a ∷ [])) ≡ Ok (a, added) → around make head w enclosing (heads_of before) ≡ Ok (length before, make a ∷ added)
unfolding around
encloses make head w enclosing before a added h e =
    let g : w enclosing (heads_of before ++ head ∷ []) ≡ Ok (a, added) = ap (λ x. w enclosing (heads_of before ++ x ∷ [])) (sym h) ∙ ap (w enclosing) (sym (heads_of-append before (make a ∷ []))) ∙ e in
    rw (g, length-heads_of before) refl

-- ---- texts and unions

a_leaf : (s : List ℕ) (node : Node) (enclosing : List ℕ) (before : List Draft) → IsPrimitive s node → HasRoom before → named s enclosing (heads_of before) ≡ Ok (length before, Whole node ∷ [])
a_leaf s node enclosing before p lt = ap (λ w. w enclosing (heads_of before)) (primitive_is s node p) ∙ rw (length-heads_of before, lt-ltb (length before) MOST_NODES lt) refl

a_name : (s enclosing : List ℕ) (before : List Draft) (n : ℕ) → IsNoPrimitive s → AreDefinedOnce before → IsDefinedAt (full_name enclosing s) before n → named s enclosing (heads_of before) ≡ Ok (n, [])
unfolding reference
a_name s enclosing before n p only e = ap (λ w. w enclosing (heads_of before)) (reference_is s p) ∙ rw (defined_is-some (full_name enclosing s) before n only e) refl

joins : (w : Walk (List ℕ)) (enclosing : List ℕ) (before : List Draft) (ns : List ℕ) (added : List Draft) → HasRoom before → w enclosing (heads_of (before ++ Whole (UnionNode ns) ∷ [])) ≡ Ok (ns, added)
    → AreApart ((before ++ Whole (UnionNode ns) ∷ []) ++ added) ns → if_room (union_of w) enclosing (heads_of before) ≡ Ok (length before, Whole (UnionNode ns) ∷ added)
unfolding union_of
joins w enclosing before ns added lt e apart =
    let own : heads_of (before ++ Whole (UnionNode ns) ∷ []) ≡ heads_of before ++ UnionHead ∷ [] = heads_of-append before (Whole (UnionNode ns) ∷ []) in
    let all : heads_of ((before ++ Whole (UnionNode ns) ∷ []) ++ added) ≡ (heads_of before ++ UnionHead ∷ []) ++ heads_of added = heads_of-append (before ++ Whole (UnionNode ns) ∷ []) added ∙ ap (λ hs. hs ++ heads_of added) own in
    let g : w enclosing (heads_of before ++ UnionHead ∷ []) ≡ Ok (ns, added) = ap (w enclosing) (sym own) ∙ e in
    let h : are_apart [] (map (head_at ((heads_of before ++ UnionHead ∷ []) ++ heads_of added)) ns) ≡ true = ap (λ hs. are_apart [] (map (head_at hs) ns)) (sym all) ∙ types-apart (map (head_at (heads_of ((before ++ Whole (UnionNode ns) ∷ []) ++ added))) ns) apart.0 apart.1 in
    room (union_of w) enclosing before lt ∙ rw (g, h, length-heads_of before) refl

-- ---- objects

module _ (ms : Members) (enclosing : List ℕ) (before : List Draft) where
  abbrev Gives : ℕ → List Draft → Type 0
  Gives n added = walk (object ms) enclosing (heads_of before) ≡ Ok (n, added)

  gives_array : (d : Data) (n : ℕ) (added : List Draft) → IsOf (codes "array") ms → HasRoom before → get_member (codes "items") ms ≡ Some d
      → walk d enclosing (heads_of (before ++ Whole (ArrayNode n) ∷ [])) ≡ Ok (n, added) → Gives (length before) (Whole (ArrayNode n) ∷ added)
  unfolding object_walk
  gives_array d n added is lt items e = ap (λ w. w enclosing (heads_of before)) (walk-object ms) ∙ rw (is, items, has_room before lt) (encloses (λ n. Whole (ArrayNode n)) ArrayHead (walk d) enclosing before n added refl e)

  gives_map : (d : Data) (n : ℕ) (added : List Draft) → IsOf (codes "map") ms → HasRoom before → get_member (codes "values") ms ≡ Some d
      → walk d enclosing (heads_of (before ++ Whole (MapNode n) ∷ [])) ≡ Ok (n, added) → Gives (length before) (Whole (MapNode n) ∷ added)
  unfolding object_walk
  gives_map d n added is lt items e = ap (λ w. w enclosing (heads_of before)) (walk-object ms) ∙ rw (is, items, has_room before lt) (encloses (λ n. Whole (MapNode n)) MapHead (walk d) enclosing before n added refl e)

  gives_other : (d : Data) (n : ℕ) (added : List Draft) → get_member (codes "type") ms ≡ Some d → IsNoWord d → walk d enclosing (heads_of before) ≡ Ok (n, added) → Gives n added
  unfolding object_walk
  gives_other d n added is none e = ap (λ w. w enclosing (heads_of before)) (walk-object ms) ∙ rw (is, other_is d none, is) e

  gives_fixed : (names : Names) (size : ℕ) → IsOf (codes "fixed") ms → HasRoom before → DefinesNames ms enclosing before names → size_of (get_member (codes "size") ms) ≡ Ok size → Gives (length before) (Whole (FixedNode names size) ∷ [])
  unfolding object_walk fixed_of
  gives_fixed names size is lt name e = ap (λ w. w enclosing (heads_of before)) (walk-object ms) ∙ rw (is, has_room before lt, names_are ms enclosing before names name, e, length-heads_of before) refl

  gives_enum : (names : Names) (symbols : List (List ℕ)) (default : Option ℕ) → IsOf (codes "enum") ms → HasRoom before → DefinesNames ms enclosing before names
      → symbols_of (get_member (codes "symbols") ms) ≡ Ok symbols → default_symbol symbols (get_member (codes "default") ms) ≡ Ok default → Gives (length before) (Whole (EnumNode names symbols default) ∷ [])
  unfolding object_walk enum_of
  gives_enum names symbols default is lt name e f = ap (λ w. w enclosing (heads_of before)) (walk-object ms) ∙ rw (is, has_room before lt, names_are ms enclosing before names name, e, f, length-heads_of before) refl

  gives_record : (ds : Items) (names : Names) (fs : List DraftField) (added : List Draft) → IsOf (codes "record") ms → HasRoom before → DefinesNames ms enclosing before names
      → get_member (codes "fields") ms ≡ Some (array ds) → fields (array ds) (namespace_of names.full) (heads_of (before ++ RecordDraft names fs ∷ [])) ≡ Ok (fs, added) → Gives (length before) (RecordDraft names fs ∷ added)
  unfolding object_walk record_of
  gives_record ds names fs added is lt name at e = ap (λ w. w enclosing (heads_of before)) (walk-object ms) ∙ rw (is, at, has_room before lt, names_are ms enclosing before names name) (encloses (RecordDraft names) (Named names.full) (fields (array ds)) (namespace_of names.full) before fs added refl e)

-- ---- values

both : (a b : Bool) → (a && b) ≡ true → (a ≡ true) × (b ≡ true)
both true b e = (refl, e)
both false b e = absurd (let wrong : ⊥ = cc in wrong)

gives_field : (ms : Members) (d : Data) (s enclosing : List ℕ) (before : List Draft) (n : ℕ) (added : List Draft) (names : List (List ℕ)) (others : List (List ℕ)) → get_member (codes "name") ms ≡ Some (string s) → is_name s ≡ true → AreFieldAliases (get_member (codes "aliases") ms) others → not (is_used s names) ≡ true
    → length names < MOST_FIELDS → get_member (codes "type") ms ≡ Some d → walk d enclosing (heads_of before) ≡ Ok (n, added) → field (object ms) names enclosing (heads_of before) ≡ Ok (draft_field s others n (get_member (codes "default") ms), added)
unfolding field_walk field_of field_name
gives_field ms d s enclosing before n added names others name rule are fresh few at e =
    ap (λ w. w enclosing (heads_of before)) (field-object (object ms) names refl) ∙ rw (lt-ltb (length names) MOST_FIELDS few, name, rule, fresh, field_aliases_are (get_member (codes "aliases") ms) others are, at, e) refl

mutual
  unfolding walk

  pub complete : {d : Data} {enclosing : List ℕ} {before : List Draft} {n : ℕ} {added : List Draft} → Declares d enclosing before n added → AreDefinedOnce before → walk d enclosing (heads_of before) ≡ Ok (n, added)
  complete (a_primitive {s = s} {enclosing = enclosing} {before = before} {node = node} p lt) only = a_leaf s node enclosing before p lt
  complete (a_reference {s = s} {enclosing = enclosing} {before = before} {n = n} p e) only = a_name s enclosing before n p only e
  complete (a_union {ds = ds} {enclosing = enclosing} {before = before} {added = added} {ns = ns} lt parts apart) only =
      joins (members ds) enclosing before ns added lt (complete_members parts (once-unnamed before (Whole (UnionNode ns)) refl only)) apart
  complete (an_array {ms = ms} {d = d} {enclosing = enclosing} {before = before} {added = added} {n = n} is lt at part) only =
      gives_array ms enclosing before d n added is lt at (complete part (once-unnamed before (Whole (ArrayNode n)) refl only))
  complete (a_map {ms = ms} {d = d} {enclosing = enclosing} {before = before} {added = added} {n = n} is lt at part) only =
      gives_map ms enclosing before d n added is lt at (complete part (once-unnamed before (Whole (MapNode n)) refl only))
  complete (a_record {ms = ms} {ds = ds} {enclosing = enclosing} {names = names} {before = before} {added = added} {fs = fs} is lt name at parts apart few) only =
      gives_record ms enclosing before ds names fs added is lt name at (complete_fields parts (once-definition names.full before (RecordDraft names fs) refl name.full_name.new only) [] (distinct-new (map (λ f. f.name) fs) apart) (omega arith))
  complete (an_enum {ms = ms} {enclosing = enclosing} {names = names} {before = before} {symbols = symbols} {default = default} is lt name e f) only = gives_enum ms enclosing before names symbols default is lt name (symbols_are (get_member (codes "symbols") ms) symbols e) (default_is f e.distinct)
  complete (a_fixed {ms = ms} {enclosing = enclosing} {names = names} {before = before} {size = size} is lt name e) only = gives_fixed ms enclosing before names size is lt name (size_is e)
  complete (another {ms = ms} {d = d} {enclosing = enclosing} {before = before} {added = added} {n = n} is none part) only = gives_other ms enclosing before d n added is none (complete part only)

  complete_members : {ds : Items} {enclosing : List ℕ} {before : List Draft} {ns : List ℕ} {added : List Draft} → DeclareMembers ds enclosing before ns added → AreDefinedOnce before → members ds enclosing (heads_of before) ≡ Ok (ns, added)
  complete_members no_more_members only = refl
  complete_members (a_member {d = d} {ds = ds} {enclosing = enclosing} {before = before} {added = added} {more = more} {n = n} {ns = ns} first rest) only =
      follows (walk d) _ enclosing before n added (n ∷ ns) more (complete first only) (mapped (members ds) (λ ns. n ∷ ns) enclosing (heads_of (before ++ added)) ns more (complete_members rest (once first only)))

  complete_fields : {ds : Items} {enclosing : List ℕ} {before : List Draft} {fs : List DraftField} {added : List Draft} → DeclareFields ds enclosing before fs added → AreDefinedOnce before
      → (names : List (List ℕ)) → are_new names (map (λ f. f.name) fs) ≡ true → length names + length fs ≤ MOST_FIELDS → fields_after ds names enclosing (heads_of before) ≡ Ok (fs, added)
  complete_fields no_more_fields only names apart few = refl
  complete_fields (a_field {ms = ms} {d = d} {ds = ds} {s = s} {enclosing = enclosing} {aliases = aliases} {before = before} {added = added} {more = more} {n = n} {fs = fs} name rule are at first rest) only names apart few =
      let fresh = both (not (is_used s names)) _ apart in
      let first_given = gives_field ms d s enclosing before n added names aliases name rule are fresh.0 (omega arith) at (complete first only) in
      let rest_given = complete_fields rest (once first only) (names ++ s ∷ []) fresh.1 (omega (arith, length-append names (s ∷ []))) in
      let f = draft_field s aliases n (get_member (codes "default") ms) in
      follows (field (object ms) names) _ enclosing before f added (f ∷ fs) more first_given (mapped (fields_after ds (names ++ s ∷ [])) (λ fs. f ∷ fs) enclosing (heads_of (before ++ added)) fs more rest_given)
