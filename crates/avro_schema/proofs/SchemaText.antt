-- The nodes of a text are those that it declares.
use Rattle.std.proofs.Common.{◌≡◌, ◌∙◌, ℕ, ◌+◌, List, [], ◌∷◌, length, Bool, true, false, cond, Option, Some, None, Result, Ok, Err, ap, refl, subst, sym, slice_get, nat_le}
use Rattle.std.proofs.lemmas.Bool.{le-leb, leb-true}
use Rattle.serde_json.specs.Data as json
use Rattle.serde_json.specs.Read.{read}
use Rattle.serde_json.specs.Written.{has_float}
use Rattle.spec_avro.specs.declared.limits.TheConstants.{MOST_TEXT}
use Rattle.spec_avro.specs.Datum.{Datum}
use Rattle.spec_avro.specs.Node.{Node, FieldNode, EnumNode}
use Rattle.spec_schema.specs.declared.schema_error.SchemaError.{SchemaError}
use Rattle.spec_schema.specs.declared.schema_error.SchemaError.TheVariants.{BadNumber, TooLarge}
use Rattle.spec_schema.specs.Declaring.{Declares}
use Rattle.spec_schema.specs.DefaultData.{AreFieldsOf, AreNodesOf, IsFieldOf, IsNodeOf, a_record_of, a_whole, no_more_fields, no_more_nodes, one_more_field, one_more_node, with_default, without_default}
use Rattle.spec_schema.specs.Defaults.{all_defaults, default_of, field_default, field_defaults, fields_with, finished, node_defaults, node_with, nodes_with}
use Rattle.spec_schema.specs.Draft.{Draft, DraftField, RecordDraft, Whole}
use Rattle.spec_schema.specs.Steps.{◌>>=◌}
use Rattle.spec_schema.specs.Head.{Head, heads_of}
use Rattle.spec_schema.specs.Names.{null_namespace}
use Rattle.avro_schema.specs.Schema.{TextGives}
use Rattle.spec_schema.specs.Schema.{declared, nodes_in_read, schema_of}
use Rattle.spec_schema.specs.SchemaLaw.{DeclaresSchema, FaultsWhereNoneIsDeclared, IsSchema, NodesAreThoseDeclared, ReadsAsSchema}
use Rattle.spec_schema.specs.Walk.{walk}
use Rattle.avro_schema.proofs.DeclaredFits.{fits_alone}
use Rattle.avro_schema.proofs.DeclaringBothWays.{declares, gives, root_is}
use Rattle.avro_schema.proofs.DefaultsGiven.{HasDistinctSymbols, default-given}
use Rattle.avro_schema.proofs.DefaultsRead.{default-read, map-inv}
use Rattle.avro_schema.proofs.FinishedNodes.{in-row}
use Rattle.avro_schema.proofs.Fits.{AllFrom, DraftFits}
use Rattle.avro_schema.proofs.WholeNodes.{each_from, finished-with}

-- ---- what is finished

module _ (drafts : List Draft) where
  field-whole : (name : List ℕ) (aliases : List (List ℕ)) (n : ℕ) (o : Option json.Data) (head : Option Datum) → field_default drafts n o ≡ Some head
      → IsFieldOf drafts (record { name = name; aliases = aliases; node = n; default = o }) (record { name = name; aliases = aliases; node = n; default = head })
  field-whole name aliases n None head e = subst (λ h. IsFieldOf drafts (record { name = name; aliases = aliases; node = n; default = None }) (record { name = name; aliases = aliases; node = n; default = h })) (let same : None ≡ head = cc in same) without_default
  field-whole name aliases n (Some d) head e = let p = map-inv Some (default_of drafts n d) head e in rw p.2 (with_default (default-read drafts n d p.0 p.1))

  fields-whole : (fs : List DraftField) (defaults : List (Option Datum)) → field_defaults drafts fs ≡ Some defaults → AreFieldsOf drafts fs (fields_with fs defaults)
  fields-whole [] defaults e = no_more_fields
  fields-whole (f ∷ fs) defaults e =
      let r = in-row (field_default drafts f.node f.default) (field_defaults drafts fs) defaults e in
      rw r.all_are (one_more_field (field-whole f.name f.aliases f.node f.default r.head r.first_is) (fields-whole fs r.tail r.rest_is))

  node-whole : (d : Draft) (defaults : List (Option Datum)) → node_defaults drafts d ≡ Some defaults → IsNodeOf drafts d (node_with d defaults)
  node-whole (Whole node) defaults e = a_whole
  node-whole (RecordDraft names fs) defaults e = a_record_of (fields-whole fs defaults e)

  nodes-whole : (rest : List Draft) (all : List (List (Option Datum))) → all_defaults drafts rest ≡ Some all → AreNodesOf drafts rest (nodes_with rest all)
  nodes-whole [] all e = no_more_nodes
  nodes-whole (d ∷ rest) all e =
      let r = in-row (node_defaults drafts d) (all_defaults drafts rest) all e in
      rw r.all_are (one_more_node (node-whole d r.head r.first_is) (nodes-whole rest r.tail r.rest_is))

  -- ---- and back

  module _ (distinct : (n : ℕ) (d : Draft) → slice_get drafts n ≡ Some d → HasDistinctSymbols d) where
    -- the data with which the nodes are those
    abbrev FieldsFrom : List DraftField → List FieldNode → Type 0
    FieldsFrom fs fields = (defaults : List (Option Datum)) × (field_defaults drafts fs ≡ Some defaults) × (fields_with fs defaults ≡ fields)

    one-field : (fs : List DraftField) (fields : List FieldNode) (f : DraftField) (node : FieldNode) → IsFieldOf drafts f node → FieldsFrom fs fields → FieldsFrom (f ∷ fs) (node ∷ fields)
    one-field fs fields f node (without_default {name = name} {aliases = aliases} {n = n}) k = (None ∷ k.0, rw k.1 refl, rw k.2 refl)
    one-field fs fields f node (with_default {datum = datum} is) k = (Some datum ∷ k.0, rw (default-given drafts distinct is, k.1) refl, rw k.2 refl)

    fields-from : (fs : List DraftField) (fields : List FieldNode) → AreFieldsOf drafts fs fields → FieldsFrom fs fields
    fields-from fs fields no_more_fields = ([], refl, refl)
    fields-from fs fields (one_more_field {f = f} {node = node} {fs = gs} {rest = rest} first others) = one-field gs rest f node first (fields-from gs rest others)

    abbrev NodesFrom : List Draft → List Node → Type 0
    NodesFrom rest nodes = (all : List (List (Option Datum))) × (all_defaults drafts rest ≡ Some all) × (nodes_with rest all ≡ nodes)

    one-node : (rest : List Draft) (nodes : List Node) (d : Draft) (node : Node) → IsNodeOf drafts d node → NodesFrom rest nodes → NodesFrom (d ∷ rest) (node ∷ nodes)
    one-node rest nodes d node a_whole k = ([] ∷ k.0, rw k.1 refl, rw k.2 refl)
    one-node rest nodes d node (a_record_of {fs = fs} {fields = fields} are) k = let p = fields-from fs fields are in (p.0 ∷ k.0, rw (p.1, k.1) refl, rw (p.2, k.2) refl)

    nodes-from : (rest : List Draft) (nodes : List Node) → AreNodesOf drafts rest nodes → NodesFrom rest nodes
    nodes-from rest nodes no_more_nodes = ([], refl, refl)
    nodes-from rest nodes (one_more_node {draft = d} {node = node} {drafts = ds} {rest = more} first others) = one-node ds more d node first (nodes-from ds more others)

    finishes : (nodes : List Node) → AreNodesOf drafts drafts nodes → finished drafts ≡ Ok nodes
    unfolding finished
    finishes nodes are = let k = nodes-from drafts nodes are in rw (k.1, k.2) refl

-- ---- symbols are distinct

distinct_symbols : (all : List Head) (own : ℕ) (d : Draft) → DraftFits all own d → HasDistinctSymbols d
distinct_symbols all own (Whole (EnumNode names symbols default)) h = h.0
distinct_symbols all own d h = tt

all_distinct : (drafts : List Draft) → AllFrom (DraftFits (heads_of drafts)) 0 drafts → (n : ℕ) (d : Draft) → slice_get drafts n ≡ Some d → HasDistinctSymbols d
all_distinct drafts fits n d at = distinct_symbols (heads_of drafts) (0 + n) d (each_from (DraftFits (heads_of drafts)) 0 drafts fits n d at)

-- ---- a value

declared_schema : (d : json.Data) (nodes : List Node) (r : Result (ℕ × List Draft) SchemaError) → walk d null_namespace [] ≡ r → (r >>= λ p. finished p.1) ≡ Ok nodes → DeclaresSchema d nodes
declared_schema d nodes (Ok p) is e =
    let h = declares d null_namespace [] p.0 p.1 is in
    let w = finished-with p.1 nodes e in
    record { drafts = p.1; declares = subst (λ n. Declares d null_namespace [] n p.1) (root_is h refl) h; defaults = subst (AreNodesOf p.1 p.1) w.2 (nodes-whole p.1 p.1 w.0 w.1) }
declared_schema d nodes (Err x) is e = absurd (let wrong : ⊥ = cc in wrong)

schema_declared : (d : json.Data) (nodes : List Node) → DeclaresSchema d nodes → declared d ≡ Ok nodes
schema_declared d nodes s = rw (gives d null_namespace [] 0 s.drafts tt s.declares) (finishes s.drafts (all_distinct s.drafts (fits_alone s.declares).1) nodes s.defaults)

-- ---- a text

number_at : (text : List ℕ) (d : json.Data) (nodes : List Node) → read text ≡ Some d → (b : Bool) → has_float d ≡ b → cond b (Err BadNumber) (declared d) ≡ Ok nodes → ReadsAsSchema text nodes
number_at text d nodes reads true f e = absurd (let wrong : ⊥ = cc in wrong)
number_at text d nodes reads false f e = record { value = d; reads = reads; no_float = f; declares = declared_schema d nodes (walk d null_namespace []) refl e }

read_at : (text : List ℕ) (nodes : List Node) → (o : Option json.Data) → read text ≡ o → nodes_in_read o ≡ Ok nodes → ReadsAsSchema text nodes
read_at text nodes None reads e = absurd (let wrong : ⊥ = cc in wrong)
read_at text nodes (Some d) reads e = number_at text d nodes reads (has_float d) refl e

pub reads_as_schema : (text : List ℕ) (nodes : List Node) → nodes_in_read (read text) ≡ Ok nodes → ReadsAsSchema text nodes
reads_as_schema text nodes e = read_at text nodes (read text) refl e

-- of a schema and its own text
pub of_own_text : (text : List ℕ) (nodes : List Node) → TextGives text nodes → nodes_in_read (read text) ≡ Ok nodes
of_own_text text nodes t = ap nodes_in_read t.is_compact.reads ∙ t.gives

pub same_nodes : (text other : List ℕ) (nodes others : List Node) → text ≡ other → TextGives text nodes → TextGives other others → nodes ≡ others
same_nodes text other nodes others same t u =
    let both : Ok nodes ≡ Ok others = sym (of_own_text text nodes t) ∙ ap (λ (s : List ℕ). nodes_in_read (read s)) same ∙ of_own_text other others u in
    cc

size_at : (text : List ℕ) (nodes : List Node) (b : Bool) → nat_le (length text) MOST_TEXT ≡ b → cond b (nodes_in_read (read text)) (Err TooLarge) ≡ Ok nodes → IsSchema text nodes
size_at text nodes true le e = record { short = leb-true (length text) MOST_TEXT le; reads = reads_as_schema text nodes e }
size_at text nodes false le e = absurd (let wrong : ⊥ = cc in wrong)

pub nodes_declared : NodesAreThoseDeclared
unfolding schema_of
nodes_declared text nodes = (
  λ e. size_at text nodes (nat_le (length text) MOST_TEXT) refl e,
  λ s. rw (le-leb (length text) MOST_TEXT s.short, s.reads.reads, s.reads.no_float) (schema_declared s.reads.value nodes s.reads.declares),
)

-- ---- faults

no_both : (r : Result (List Node) SchemaError) (e : SchemaError) (nodes : List Node) → r ≡ Err e → r ≡ Ok nodes → ⊥
no_both r e nodes x y = cc

fault_at : (text : List ℕ) → ((nodes : List Node) → IsSchema text nodes → ⊥) → (r : Result (List Node) SchemaError) → schema_of text ≡ r → (e : SchemaError) × (schema_of text ≡ Err e)
fault_at text none (Ok nodes) is = absurd (none nodes ((nodes_declared text nodes).0 is))
fault_at text none (Err e) is = (e, is)

pub faults_told : FaultsWhereNoneIsDeclared
faults_told text = (
  λ fault nodes s. no_both (schema_of text) fault.0 nodes fault.1 ((nodes_declared text nodes).1 s),
  λ none. fault_at text none (schema_of text) refl,
)
