-- The first fault of a schema's text is never want of memory.
use Rattle.std.proofs.Common.{◌≡◌, ◌≢◌, ℕ, List, [], ◌∷◌, ◌++◌, length, map, Bool, true, false, not, Option, Some, None, Result, Ok, Err, ◌&&◌, codes}
use Rattle.std.specs.Prelude.{IfSome, if◌then◌else◌, nat_le, nat_lt, is_none, option_and_then}
use Rattle.std.specs.List.{list_all}
use Rattle.std.specs.Option.{ok_or}
use Rattle.std.specs.Ordering.{nat_cmp, match_ordering}
use Rattle.std.specs.Cmp.Lexicographic.{slice_cmp}
use Rattle.std.specs.declared.cmp.Ordering.{Ordering}
use Rattle.std.specs.declared.cmp.Ordering.TheVariants.{Less, Equal, Greater}
use Rattle.serde_json.specs.Data.{Data, null, boolean, number, string, array, object, Items, no_items, item, Members, no_members, member}
use Rattle.serde_json.specs.Find.{as_number, as_str, as_u64, get_member}
use Rattle.serde_json.specs.Read.{read}
use Rattle.serde_json.specs.Written.{has_float}
use Rattle.spec_avro.specs.declared.limits.TheConstants.{MOST_FIELDS, MOST_FIXED, MOST_NODES, MOST_SYMBOLS, MOST_TEXT}
use Rattle.spec_avro.specs.FullNames.{full_name, has_dot, is_full_name, is_name, namespace_of, unqualified}
use Rattle.spec_avro.specs.Node.{ArrayNode, EnumNode, FixedNode, MapNode, Node, UnionNode, names_of}
use Rattle.spec_avro.specs.Symbols.{are_distinct, is_used, place_of}
use Rattle.spec_schema.specs.declared.schema_error.SchemaError.{SchemaError}
use Rattle.spec_schema.specs.declared.schema_error.SchemaError.TheVariants.{TooLarge, BadNumber, Unknown, OutOfProfile, BadName, Redefined, BadUnion, BadSymbols, BadDefault, NoMemory}
use Rattle.spec_schema.specs.declared.word.Form.{Form}
use Rattle.spec_schema.specs.declared.word.Form.TheVariants as forms
use Rattle.spec_schema.specs.Aliases.{alias_texts, field_aliases, full_aliases, new_names, type_aliases}
use Rattle.spec_schema.specs.Attributes.{default_symbol, size_of, symbols_of, texts_in, texts_of}
use Rattle.spec_schema.specs.Steps.{◌>>=◌, require}
use Rattle.spec_schema.specs.Names.{field_name, given_namespace, if_new, new_name, null_namespace, own_namespace, text_of}
use Rattle.spec_schema.specs.Word.{form_of, is_left_out, is_primitive, leaf_of, word_of}
use Rattle.spec_schema.specs.Draft.{Draft, Whole, RecordDraft, DraftField, draft_field}
use Rattle.spec_schema.specs.Head.{Head, ArrayHead, MapHead, UnionHead, Named, are_apart, defined_at, head_at, heads_of}
use Rattle.spec_schema.specs.Walk.{Walk, added, apart_union, around, declared_by, done, enum_of, fault, field, field_of, fields, fields_after, fixed_of, followed_by, found, if_few, if_room, leaf_or_reference, members, named, one_node, or_unknown, record_of, reference, union_of, walk, walk_fields, walk_member}
use Rattle.spec_schema.specs.Defaults.{finished}
use Rattle.spec_schema.specs.Schema.{declared, nodes_in, nodes_in_read, schema_of}

-- it is no want of memory
record IsOfText {A : Type 0} (r : Result A SchemaError) : Type 0 where
  pub known : r ≢ Err NoMemory

well : {A : Type 0} (a : A) → IsOfText (Ok a)
well a = record { known = λ e. cc }

-- ---- steps in a row

steps : {A B : Type 0} (r : Result A SchemaError) (f : A → Result B SchemaError) → IsOfText r → ((a : A) → IsOfText (f a)) → IsOfText (r >>= f)
steps (Ok a) f h g = g a
steps {A = A} {B = B} (Err e) f h g = record { known = λ same. h.known (let other : e ≡ NoMemory = cc in cc) }

required : (b : Bool) (e : SchemaError) → e ≢ NoMemory → IsOfText (require b e)
required true e other = record { known = λ same. cc }
required false e other = record { known = λ same. other (cc) }

or-fault : {A : Type 0} (o : Option A) (e : SchemaError) → e ≢ NoMemory → IsOfText (ok_or o e)
or-fault (Some a) e other = record { known = λ same. cc }
or-fault None e other = record { known = λ same. other (cc) }

either : {A : Type 0} (b : Bool) (x y : Result A SchemaError) → IsOfText x → IsOfText y → IsOfText (if b then x else y)
either true x y h k = h
either false x y h k = k

-- ---- attributes

text : (d : Option Data) → IsOfText (text_of d)
text d = or-fault (option_and_then as_str d) Unknown (λ e. cc)

namespace : (d : Option Data) (enclosing : List ℕ) → IsOfText (given_namespace d enclosing)
namespace None enclosing = well enclosing
namespace (Some d) enclosing = text (Some d)

new : (full : List ℕ) (heads : List Head) → IsOfText (if_new full heads)
new full heads =
    steps (require (is_full_name full && not (is_primitive (word_of (unqualified full)))) BadName) _ (required _ BadName (λ e. cc))
    (λ _. steps (require (is_none (defined_at full heads)) Redefined) _ (required _ Redefined (λ e. cc)) (λ _. well full))

name : (d namespace_data : Option Data) (enclosing : List ℕ) (heads : List Head) → IsOfText (new_name d namespace_data enclosing heads)
unfolding new_name
name d n enclosing heads =
    steps (text_of d) _ (text d) (λ s. steps (own_namespace s n enclosing) _ (either (has_dot s) _ _ (well enclosing) (namespace n enclosing)) (λ own. new (full_name own s) heads))

field-name : (d : Option Data) (before : List (List ℕ)) → IsOfText (field_name d before)
unfolding field_name
field-name d before =
    steps (text_of d) _ (text d) (λ s. steps (require (is_name s && not (is_used s before)) BadName) _ (required _ BadName (λ e. cc)) (λ _. well s))

texts-in : (ds : Items) → IsOfText (texts_in ds)
texts-in no_items = well []
texts-in (item d ds) = steps (text_of (Some d)) _ (text (Some d)) (λ s. steps (texts_in ds) _ (texts-in ds) (λ ss. well (s ∷ ss)))

unknown : {A : Type 0} → IsOfText {A = A} (Err Unknown)
unknown = record { known = λ e. cc }

texts : (d : Option Data) → IsOfText (texts_of d)
texts None = unknown
texts (Some null) = unknown
texts (Some (boolean b)) = unknown
texts (Some (number n)) = unknown
texts (Some (string s)) = unknown
texts (Some (array ds)) = texts-in ds
texts (Some (object ms)) = unknown

aliases : (d : Option Data) → IsOfText (alias_texts d)
aliases None = well []
aliases (Some d) = texts (Some d)

type-aliases : (full : List ℕ) (d : Option Data) → IsOfText (type_aliases full d)
unfolding type_aliases
type-aliases full d =
    steps (alias_texts d) _ (aliases d)
    (λ ss. steps (require (list_all is_full_name (full_aliases full ss)) BadName) _ (required _ BadName (λ e. cc)) (λ _. well (full_aliases full ss)))

field-aliases : (d : Option Data) → IsOfText (field_aliases d)
unfolding field_aliases
field-aliases d =
    steps (alias_texts d) _ (aliases d) (λ ss. steps (require (list_all is_name ss) BadName) _ (required _ BadName (λ e. cc)) (λ _. well ss))

names : (d n a : Option Data) (enclosing : List ℕ) (heads : List Head) → IsOfText (new_names d n a enclosing heads)
unfolding new_names
names d n a enclosing heads =
    steps (new_name d n enclosing heads) _ (name d n enclosing heads) (λ full. steps (type_aliases full a) _ (type-aliases full a) (λ others. well (names_of full others)))

symbols : (d : Option Data) → IsOfText (symbols_of d)
unfolding symbols_of
symbols d =
    steps (texts_of d) _ (texts d)
    (λ ss. steps (require (list_all is_name ss && are_distinct ss) BadSymbols) _ (required _ BadSymbols (λ e. cc))
    (λ _. steps (require (nat_le (length ss) MOST_SYMBOLS) TooLarge) _ (required _ TooLarge (λ e. cc)) (λ _. well ss)))

default : (ss : List (List ℕ)) (d : Option Data) → IsOfText (default_symbol ss d)
default ss None = well None
default ss (Some d) =
    steps (text_of (Some d)) _ (text (Some d)) (λ s. steps (ok_or (place_of s ss) BadSymbols) _ (or-fault (place_of s ss) BadSymbols (λ e. cc)) (λ n. well (Some n)))

size : (d : Option Data) → IsOfText (size_of d)
size None = unknown
size (Some d) =
    steps (ok_or (option_and_then as_u64 (as_number d)) BadNumber) _ (or-fault (option_and_then as_u64 (as_number d)) BadNumber (λ e. cc))
    (λ n. steps (require (nat_le n MOST_FIXED) TooLarge) _ (required _ TooLarge (λ e. cc)) (λ _. well n))

-- ---- walks

record AreOfText {A : Type 0} (w : Walk A) : Type 0 where
  pub all : (enclosing : List ℕ) (heads : List Head) → IsOfText (w enclosing heads)

faults : {A : Type 0} (e : SchemaError) → e ≢ NoMemory → AreOfText {A = A} (fault e)
faults e other = record { all = λ enclosing heads. record { known = λ same. other (cc) } }

ends : {A : Type 0} (a : A) → AreOfText (done a)
ends a = record { all = λ enclosing heads. well (a, []) }

or-unknown : {A : Type 0} (o : Option (Walk A)) → IfSome o (λ w. AreOfText w) → AreOfText (or_unknown o)
or-unknown None h = faults Unknown (λ e. cc)
or-unknown (Some w) h = h

adds : {A : Type 0} (front : List Draft) (r : Result (A × List Draft) SchemaError) → IsOfText r → IsOfText (added front r)
adds front (Ok p) h = well (p.0, front ++ p.1)
adds front (Err e) h = record { known = λ same. h.known (let other : e ≡ NoMemory = cc in cc) }

follows : {A B : Type 0} (first : Walk A) (rest : A → Walk B) → AreOfText first → ((a : A) → AreOfText (rest a)) → AreOfText (followed_by first rest)
unfolding followed_by
follows first rest h g = record {
  all = λ enclosing heads.
      steps (first enclosing heads) _ (h.all enclosing heads)
      (λ p. adds p.1 (rest p.0 enclosing (heads ++ heads_of p.1)) ((g p.0).all enclosing (heads ++ heads_of p.1)));
}

rooms : {A : Type 0} (w : Walk A) → AreOfText w → AreOfText (if_room w)
rooms w h = record {
  all = λ enclosing heads. either (nat_lt (length heads) MOST_NODES) _ _ (h.all enclosing heads) (record { known = λ e. cc });
}

one : (d : Draft) → AreOfText (one_node d)
one d = record { all = λ enclosing heads. well (length heads, d ∷ []) }

arounds : {A : Type 0} (make : A → Draft) (head : Head) (parts : Walk A) → AreOfText parts → AreOfText (around make head parts)
unfolding around
arounds make head parts h = record {
  all = λ enclosing heads.
      steps (parts enclosing (heads ++ head ∷ [])) _ (h.all enclosing (heads ++ head ∷ [])) (λ p. well (length heads, make p.0 ∷ p.1));
}

finds : (o : Option ℕ) → IsOfText (found o)
finds None = record { known = λ e. cc }
finds (Some n) = well (n, [])

refers : (s : List ℕ) → AreOfText (reference s)
unfolding reference
refers s = record { all = λ enclosing heads. finds (defined_at (full_name enclosing s) heads) }

leaves : (o : Option Node) (s : List ℕ) → AreOfText (leaf_or_reference o s)
leaves (Some n) s = rooms (one_node (Whole n)) (one (Whole n))
leaves None s = refers s

chosen : {A : Type 0} (b : Bool) (x y : Walk A) → AreOfText x → AreOfText y → AreOfText (if b then x else y)
chosen true x y h k = h
chosen false x y h k = k

nameds : (s : List ℕ) → AreOfText (named s)
unfolding named
nameds s = chosen (is_left_out (word_of s)) (fault OutOfProfile) (leaf_or_reference (leaf_of (word_of s)) s) (faults OutOfProfile (λ e. cc)) (leaves (leaf_of (word_of s)) s)

records : (d n a : Option Data) (fs : Option (Walk (List DraftField))) → IfSome fs (λ w. AreOfText w) → AreOfText (record_of d n a fs)
unfolding record_of
records d n a fs h = record {
  all = λ enclosing heads.
      steps (new_names d n a enclosing heads) _ (names d n a enclosing heads)
      (λ ns. (arounds (RecordDraft ns) (Named ns.full) (or_unknown fs) (or-unknown fs h)).all (namespace_of ns.full) heads);
}

enums : (d n a ss default_data : Option Data) → AreOfText (enum_of d n a ss default_data)
unfolding enum_of
enums d n a sd dd = record {
  all = λ enclosing heads.
      steps (new_names d n a enclosing heads) _ (names d n a enclosing heads)
      (λ ns. steps (symbols_of sd) _ (symbols sd)
      (λ ss. steps (default_symbol ss dd) _ (default ss dd) (λ k. (one (Whole (EnumNode ns ss k))).all enclosing heads)));
}

fixeds : (d n a size_data : Option Data) → AreOfText (fixed_of d n a size_data)
unfolding fixed_of
fixeds d n a sd = record {
  all = λ enclosing heads.
      steps (new_names d n a enclosing heads) _ (names d n a enclosing heads)
      (λ ns. steps (size_of sd) _ (size sd) (λ k. (one (Whole (FixedNode ns k))).all enclosing heads));
}

apart : (heads all : List Head) (members : List ℕ) (added : List Draft) → IsOfText (apart_union heads all members added)
apart heads all members added =
    either (are_apart [] (map (head_at all) members)) (Ok (length heads, Whole (UnionNode members) ∷ added)) (Err BadUnion)
    (well (length heads, Whole (UnionNode members) ∷ added)) (record { known = λ e. cc })

unions : (parts : Walk (List ℕ)) → AreOfText parts → AreOfText (union_of parts)
unfolding union_of
unions parts h = record {
  all = λ enclosing heads.
      steps (parts enclosing (heads ++ UnionHead ∷ [])) _ (h.all enclosing (heads ++ UnionHead ∷ []))
      (λ p. apart heads ((heads ++ UnionHead ∷ []) ++ heads_of p.1) p.0 p.1);
}

by-form : (f : Form) (value : List ℕ → Option Data) (schema : List ℕ → Option (Walk ℕ)) (fs : List ℕ → Option (Walk (List DraftField)))
    → ((k : List ℕ) → IfSome (schema k) (λ w. AreOfText w)) → ((k : List ℕ) → IfSome (fs k) (λ w. AreOfText w)) → AreOfText (declared_by f value schema fs)
by-form forms.Record value schema fs s f = rooms _ (records (value (codes "name")) (value (codes "namespace")) (value (codes "aliases")) (fs (codes "fields")) (f (codes "fields")))
by-form forms.Enum value schema fs s f = rooms _ (enums (value (codes "name")) (value (codes "namespace")) (value (codes "aliases")) (value (codes "symbols")) (value (codes "default")))
by-form forms.Fixed value schema fs s f = rooms _ (fixeds (value (codes "name")) (value (codes "namespace")) (value (codes "aliases")) (value (codes "size")))
by-form forms.Array value schema fs s f = rooms _ (arounds (λ n. Whole (ArrayNode n)) ArrayHead (or_unknown (schema (codes "items"))) (or-unknown (schema (codes "items")) (s (codes "items"))))
by-form forms.Map value schema fs s f = rooms _ (arounds (λ n. Whole (MapNode n)) MapHead (or_unknown (schema (codes "values"))) (or-unknown (schema (codes "values")) (s (codes "values"))))
by-form forms.Error value schema fs s f = faults OutOfProfile (λ e. cc)
by-form forms.Other value schema fs s f = or-unknown (schema (codes "type")) (s (codes "type"))

few : {A : Type 0} (before : List (List ℕ)) (w : Walk A) → AreOfText w → AreOfText (if_few before w)
few before w h = record {
  all = λ enclosing heads. either (nat_lt (length before) MOST_FIELDS) _ _ (h.all enclosing heads) (record { known = λ e. cc });
}

one-field : (d a : Option Data) (type : Option (Walk ℕ)) (default_data : Option Data) (before : List (List ℕ)) → IfSome type (λ w. AreOfText w)
    → AreOfText (field_of d a type default_data before)
unfolding field_of
one-field d a type dd before h = record {
  all = λ enclosing heads.
      steps (field_name d before) _ (field-name d before)
      (λ s. steps (field_aliases a) _ (field-aliases a)
      (λ others. steps (or_unknown type enclosing heads) _ ((or-unknown type h).all enclosing heads) (λ p. well (draft_field s others p.0 dd, p.1))));
}

-- ---- the walk

at-key : {A : Type 0} (o : Ordering) (rest : Option (Walk A)) (w : Walk A) → IfSome rest (λ x. AreOfText x) → AreOfText w
    → IfSome (match_ordering o rest (Some w) rest) (λ x. AreOfText x)
at-key Less rest w h k = h
at-key Equal rest w h k = k
at-key Greater rest w h k = h

mutual
  unfolding walk members walk_member walk_fields fields fields_after field

  walks : (d : Data) → AreOfText (walk d)
  walks (string s) = nameds s
  walks (array ds) = rooms (union_of (members ds)) (unions (members ds) (all-members ds))
  walks (object ms) = by-form (form_of (get_member (codes "type") ms)) (λ k. get_member k ms) (walk_member ms) (walk_fields ms) (each-member ms) (each-fields ms)
  walks null = faults Unknown (λ e. cc)
  walks (boolean b) = faults Unknown (λ e. cc)
  walks (number n) = faults Unknown (λ e. cc)

  all-members : (ds : Items) → AreOfText (members ds)
  all-members no_items = ends []
  all-members (item d ds) = follows (walk d) _ (walks d) (λ n. follows (members ds) _ (all-members ds) (λ ns. ends (n ∷ ns)))

  each-member : (ms : Members) (k : List ℕ) → IfSome (walk_member ms k) (λ w. AreOfText w)
  each-member no_members k = tt
  each-member (member l d ms) k = at-key (slice_cmp nat_cmp k l) (walk_member ms k) (walk d) (each-member ms k) (walks d)

  each-fields : (ms : Members) (k : List ℕ) → IfSome (walk_fields ms k) (λ w. AreOfText w)
  each-fields no_members k = tt
  each-fields (member l d ms) k = at-key (slice_cmp nat_cmp k l) (walk_fields ms k) (fields d) (each-fields ms k) (all-fields d)

  all-fields : (d : Data) → AreOfText (fields d)
  all-fields (array ds) = later-fields ds []
  all-fields null = faults Unknown (λ e. cc)
  all-fields (boolean b) = faults Unknown (λ e. cc)
  all-fields (number n) = faults Unknown (λ e. cc)
  all-fields (string s) = faults Unknown (λ e. cc)
  all-fields (object ms) = faults Unknown (λ e. cc)

  later-fields : (ds : Items) (before : List (List ℕ)) → AreOfText (fields_after ds before)
  later-fields no_items before = ends []
  later-fields (item d ds) before =
      follows (field d before) _ (a-field d before) (λ f. follows (fields_after ds (before ++ f.name ∷ [])) _ (later-fields ds (before ++ f.name ∷ [])) (λ fs. ends (f ∷ fs)))

  a-field : (d : Data) (before : List (List ℕ)) → AreOfText (field d before)
  a-field (object ms) before =
      few before _ (one-field (get_member (codes "name") ms) (get_member (codes "aliases") ms) (walk_member ms (codes "type")) (get_member (codes "default") ms) before
      (each-member ms (codes "type")))
  a-field null before = faults Unknown (λ e. cc)
  a-field (boolean b) before = faults Unknown (λ e. cc)
  a-field (number n) before = faults Unknown (λ e. cc)
  a-field (string s) before = faults Unknown (λ e. cc)
  a-field (array ds) before = faults Unknown (λ e. cc)

-- ---- the text

finishes : (ds : List Draft) → IsOfText (finished ds)
unfolding finished
finishes ds = or-fault _ BadDefault (λ e. cc)

of-value : (d : Data) → IsOfText (nodes_in d)
of-value d =
    either (has_float d) (Err BadNumber) (declared d) (record { known = λ e. cc })
    (steps (walk d null_namespace []) _ ((walks d).all null_namespace []) (λ p. finishes p.1))

of-read : (o : Option Data) → IsOfText (nodes_in_read o)
of-read None = record { known = λ e. cc }
of-read (Some d) = of-value d

-- the first fault of a text
pub fault-is-of-text : (text : List ℕ) → schema_of text ≢ Err NoMemory
unfolding schema_of
fault-is-of-text text = (either (nat_le (length text) MOST_TEXT) (nodes_in_read (read text)) (Err TooLarge) (of-read (read text)) (record { known = λ e. cc })).known
