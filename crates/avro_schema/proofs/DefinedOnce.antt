-- No full name is defined twice: a definition's is new, and other nodes have none.
use Rattle.std.proofs.Common.{◌≡◌, ◌≢◌, ℕ, List, [], ◌∷◌, ◌++◌, false, refl, sym, ap, ◌∙◌, subst, append-nil, append_assoc}
use Rattle.serde_json.specs.Data.{Data, Items}
use Rattle.spec_schema.specs.Draft.{Draft, Whole, RecordDraft, DraftField}
use Rattle.spec_schema.specs.Head.{Head, Named, head_of, head_of_node}
use Rattle.avro_schema_names.specs.Head.{is_named_head}
use Rattle.spec_avro.specs.Node.{Node, ArrayNode, MapNode, UnionNode, EnumNode, FixedNode}
use Rattle.spec_schema.specs.Declaring.{DeclareFields, DeclareMembers, Declares, IsPrimitive, a_field, a_fixed, a_map, a_member, a_primitive, a_record, a_reference, a_union, an_array, an_enum, another, no_more_fields, no_more_members, null_type, boolean_type, int_type, long_type, bytes_type, text_type}
use Rattle.spec_schema.specs.Definitions.{AreDefinedOnce, IsNewName}

new-push : (full : List ℕ) (before : List Draft) (d : Draft) → IsNewName full before → head_of d ≢ Named full → IsNewName full (before ++ d ∷ [])
new-push full [] d n h = (h, tt)
new-push full (x ∷ before) d n h = (n.0, new-push full before d n.1 h)

once-push : (before : List Draft) (d : Draft) → ((full : List ℕ) → head_of d ≡ Named full → IsNewName full before) → AreDefinedOnce before → AreDefinedOnce (before ++ d ∷ [])
once-push [] d h o = ((λ full e. tt), tt)
once-push (x ∷ before) d h o = ((λ full e. new-push full before d (o.0 full e) (λ same. (h full same).0 e)), once-push before d (λ full e. (h full e).1) o.1)

no_name : (h : Head) (full : List ℕ) → is_named_head h ≡ false → h ≡ Named full → ⊥
no_name h full e same = let f = ap is_named_head same in let wrong : ⊥ = cc in wrong

one_name : (a b : List ℕ) → Named a ≡ Named b → a ≡ b
one_name a b e = cc

pub once-unnamed : (before : List Draft) (d : Draft) → is_named_head (head_of d) ≡ false → AreDefinedOnce before → AreDefinedOnce (before ++ d ∷ [])
once-unnamed before d u o = once-push before d (λ full e. absurd (no_name (head_of d) full u e)) o

pub once-definition : (full : List ℕ) (before : List Draft) (d : Draft) → head_of d ≡ Named full → IsNewName full before → AreDefinedOnce before → AreDefinedOnce (before ++ d ∷ [])
once-definition full before d is new o = once-push before d (λ other e. subst (λ x. IsNewName x before) (one_name full other (sym is ∙ e)) new) o

unnamed : {s : List ℕ} {node : Node} → IsPrimitive s node → is_named_head (head_of_node node) ≡ false
unnamed null_type = refl
unnamed boolean_type = refl
unnamed int_type = refl
unnamed long_type = refl
unnamed bytes_type = refl
unnamed text_type = refl

behind : (before : List Draft) (d : Draft) (added : List Draft) → AreDefinedOnce ((before ++ d ∷ []) ++ added) → AreDefinedOnce (before ++ d ∷ added)
behind before d added o = subst AreDefinedOnce (append_assoc before (d ∷ []) added) o

mutual
  pub once : {d : Data} {enclosing : List ℕ} {before : List Draft} {n : ℕ} {added : List Draft} → Declares d enclosing before n added → AreDefinedOnce before → AreDefinedOnce (before ++ added)
  once (a_primitive {before = before} {node = node} p lt) o = once-unnamed before (Whole node) (unnamed p) o
  once (a_reference {before = before} p e) o = subst AreDefinedOnce (sym (append-nil before)) o
  once (a_union {before = before} {added = added} {ns = ns} lt parts apart) o = behind before (Whole (UnionNode ns)) added (once_members parts (once-unnamed before (Whole (UnionNode ns)) refl o))
  once (an_array {before = before} {added = added} {n = n} is lt at part) o = behind before (Whole (ArrayNode n)) added (once part (once-unnamed before (Whole (ArrayNode n)) refl o))
  once (a_map {before = before} {added = added} {n = n} is lt at part) o = behind before (Whole (MapNode n)) added (once part (once-unnamed before (Whole (MapNode n)) refl o))
  once (a_record {names = names} {before = before} {added = added} {fs = fs} is lt name at parts apart few) o = behind before (RecordDraft names fs) added (once_fields parts (once-definition names.full before (RecordDraft names fs) refl name.full_name.new o))
  once (an_enum {names = names} {before = before} {symbols = symbols} {default = default} is lt name e f) o = once-definition names.full before (Whole (EnumNode names symbols default)) refl name.full_name.new o
  once (a_fixed {names = names} {before = before} {size = size} is lt name e) o = once-definition names.full before (Whole (FixedNode names size)) refl name.full_name.new o
  once (another is none part) o = once part o

  pub once_members : {ds : Items} {enclosing : List ℕ} {before : List Draft} {ns : List ℕ} {added : List Draft} → DeclareMembers ds enclosing before ns added → AreDefinedOnce before → AreDefinedOnce (before ++ added)
  once_members (no_more_members {before = before}) o = subst AreDefinedOnce (sym (append-nil before)) o
  once_members (a_member {before = before} {added = added} {more = more} first rest) o = subst AreDefinedOnce (append_assoc before added more) (once_members rest (once first o))

  pub once_fields : {ds : Items} {enclosing : List ℕ} {before : List Draft} {fs : List DraftField} {added : List Draft} → DeclareFields ds enclosing before fs added → AreDefinedOnce before → AreDefinedOnce (before ++ added)
  once_fields (no_more_fields {before = before}) o = subst AreDefinedOnce (sym (append-nil before)) o
  once_fields (a_field {before = before} {added = added} {more = more} name rule others at first rest) o = subst AreDefinedOnce (append_assoc before added more) (once_fields rest (once first o))
