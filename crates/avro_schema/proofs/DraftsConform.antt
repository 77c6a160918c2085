-- The defaults of finished nodes conform to their fields' types, where the texts in the drafts are UTF-8.
use Rattle.std.proofs.Common.{◌≡◌, ◌∙◌, ℕ, zero, suc, ◌+◌, List, [], ◌∷◌, map, Option, Some, None, Ok, IfSome, slice_get, sym, subst}
use Rattle.std.specs.List.{AllByRecursion}
use Rattle.serde_json.specs.Data as json
use Rattle.avro_schema_names.specs.declared.draft.Draft as rust
use Rattle.avro_schema_names.specs.declared.draft.Draft.TheVariants as drafts
use Rattle.avro_schema_names.specs.declared.draft.DraftField as rust_field
use Rattle.spec_avro.specs.Conforming.{Conforms, DefaultsConform}
use Rattle.avro_schema.specs.Contract.{run}
use Rattle.spec_avro.specs.Datum.{Datum}
use Rattle.spec_schema.specs.Defaults.{all_defaults, default_of, field_default, field_defaults, fields_with, node_defaults, node_with, nodes_with}
use Rattle.spec_schema.specs.Draft.{Draft, Whole, RecordDraft, DraftField}
use Rattle.avro_schema_names.specs.Draft.{data_at, draft_field_of, draft_of, drafts_of}
use Rattle.spec_schema.specs.Head.{heads_of}
use Rattle.spec_avro.specs.Node.{FieldNode, Names, RecordNode}
use Rattle.spec_schema.specs.Names.{null_namespace}
use Rattle.spec_schema.specs.Walk.{walk}
use Rattle.avro_schema.proofs.DefaultsConform.{default-conforms}
use Rattle.avro_schema.proofs.DefaultsRead.{map-inv}
use Rattle.avro_schema.proofs.FinishedNodes.{in-row, node-finished}
use Rattle.avro_schema.proofs.Fits.{DraftFits, AllFrom}
use Rattle.avro_schema.proofs.ValueTexts.{HasUtf8, view-has-utf8}
use Rattle.avro_schema.proofs.WholeNodes.{each_from, walk_fits, from_nothing}

-- ---- the values in drafts

abbrev HasUtf8Default : DraftField → Type 0
HasUtf8Default f = IfSome f.default HasUtf8

abbrev HaveUtf8Defaults : Draft → Type 0
HaveUtf8Defaults (Whole n) = Unit {0}
HaveUtf8Defaults (RecordDraft name fs) = AllByRecursion HasUtf8Default fs

fields-utf8 : (fs : List rust_field.DraftField) → AllByRecursion HasUtf8Default (map draft_field_of fs)
fields-utf8 [] = tt
fields-utf8 (f ∷ fs) = (here f.default, fields-utf8 fs)
  where
    here : (o : _) → IfSome (data_at o) HasUtf8
    here None = tt
    here (Some v) = view-has-utf8 v.now

draft-utf8 : (d : rust.Draft) → HaveUtf8Defaults (draft_of d)
draft-utf8 (drafts.Whole kind) = tt
draft-utf8 (drafts.Record name aliases fields) = fields-utf8 fields.items

drafts-utf8 : (ds : List rust.Draft) (n : ℕ) (d : Draft) → slice_get (drafts_of ds) n ≡ Some d → HaveUtf8Defaults d
drafts-utf8 [] n d at = absurd (let no : ⊥ = cc in no)
drafts-utf8 (x ∷ ds) zero d at = subst HaveUtf8Defaults (let same : draft_of x ≡ d = cc in same) (draft-utf8 x)
drafts-utf8 (x ∷ ds) (suc n) d at = drafts-utf8 ds n d at

-- ---- the nodes

module _ (drafts : List Draft) (all : List (List (Option Datum))) (read : all_defaults drafts drafts ≡ Some all) where
  field-conforms : (f : DraftField) (o : Option json.Data) (head : Option Datum) → IfSome o HasUtf8 → field_default drafts f.node o ≡ Some head → IfSome head (Conforms (nodes_with drafts all) f.node)
  field-conforms f None head utf8 e = let same : None ≡ head = cc in subst (λ h. IfSome h (Conforms (nodes_with drafts all) f.node)) same tt
  field-conforms f (Some v) head utf8 e =
      let p = map-inv Some (default_of drafts f.node v) head e in
      rw p.2 (default-conforms drafts all read f.node v p.0 p.1 utf8)

  fields-conform : (fs : List DraftField) (defaults : List (Option Datum)) → field_defaults drafts fs ≡ Some defaults → AllByRecursion HasUtf8Default fs
      → AllByRecursion (λ f. IfSome f.default (Conforms (nodes_with drafts all) f.node)) (fields_with fs defaults)
  fields-conform [] defaults e utf8 = tt
  fields-conform (f ∷ fs) defaults e utf8 =
      let r = in-row (field_default drafts f.node f.default) (field_defaults drafts fs) defaults e in
      rw r.all_are (field-conforms f f.default r.head utf8.0 r.first_is, fields-conform fs r.tail r.rest_is utf8.1)

  node-conforms : (own : ℕ) (d : Draft) (defaults : List (Option Datum)) (names : Names) (fields : List FieldNode) → DraftFits (heads_of drafts) own d → HaveUtf8Defaults d → node_defaults drafts d ≡ Some defaults
      → RecordNode names fields ≡ node_with d defaults → AllByRecursion (λ f. IfSome f.default (Conforms (nodes_with drafts all) f.node)) fields
  node-conforms own (Whole n) defaults name fields fits utf8 e is = absurd (subst (λ k. DraftFits (heads_of drafts) own (Whole k)) (sym is) fits)
  node-conforms own (RecordDraft name fs) defaults full fields fits utf8 e is =
      let same : fields_with fs defaults ≡ fields = cc in
      subst (AllByRecursion (λ f. IfSome f.default (Conforms (nodes_with drafts all) f.node))) same (fields-conform fs defaults e utf8)

  nodes-conform : AllFrom (DraftFits (heads_of drafts)) 0 drafts → ((n : ℕ) (d : Draft) → slice_get drafts n ≡ Some d → HaveUtf8Defaults d) → DefaultsConform (nodes_with drafts all)
  nodes-conform fits utf8 node names fields at =
      let f = node-finished drafts drafts all read node (RecordNode names fields) at in
      node-conforms (0 + node) f.draft f.defaults names fields (each_from (DraftFits (heads_of drafts)) 0 drafts fits node f.draft f.placed) (utf8 node f.draft f.placed) f.read f.whole

-- the defaults of the nodes that a walk over a value gives
pub walked-conform : (d : json.Data) (n : ℕ) (ds : List rust.Draft) (all : List (List (Option Datum))) → run (walk d) null_namespace [] ≡ Ok (n, drafts_of ds) → all_defaults (drafts_of ds) (drafts_of ds) ≡ Some all
    → DefaultsConform (nodes_with (drafts_of ds) all)
unfolding run
walked-conform d n ds all ran read = nodes-conform (drafts_of ds) all read (walk_fits d n (drafts_of ds) (sym (from_nothing (walk d null_namespace [])) ∙ ran)).1 (drafts-utf8 ds)
