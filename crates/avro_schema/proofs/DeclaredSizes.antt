-- The defaults of the nodes that a value declares have no longer texts than the value.
use Rattle.std.proofs.Common.{◌≡◌, ℕ, zero, suc, ◌+◌, List, [], ◌∷◌, Option, Some, None, IfSome, Ok, slice_get, refl, sym, subst}
use Rattle.std.specs.List.{AllByRecursion}
use Rattle.serde_json.specs.Data as json
use Rattle.spec_avro.specs.Datum.{Datum}
use Rattle.spec_schema.specs.Defaults.{all_defaults, default_of, field_default, field_defaults, fields_with, node_defaults, node_with, nodes_with}
use Rattle.spec_schema.specs.Draft.{Draft, Whole, RecordDraft, DraftField}
use Rattle.spec_schema.specs.Head.{heads_of}
use Rattle.spec_avro.specs.Node.{Node, FieldNode, Names, RecordNode}
use Rattle.spec_schema.specs.Schema.{declared}
use Rattle.spec_avro.specs.Sizes.{HasSizesWithin, DefaultsHaveSizesWithin}
use Rattle.spec_schema.specs.Names.{null_namespace}
use Rattle.spec_schema.specs.Walk.{walk}
use Rattle.avro_schema.proofs.DefaultSizes.{default-within}
use Rattle.avro_schema.proofs.DefaultsRead.{map-inv}
use Rattle.avro_schema.proofs.FinishedNodes.{in-row, node-finished}
use Rattle.avro_schema.proofs.Fits.{DraftFits, AllFrom}
use Rattle.avro_schema.proofs.ReadSizes.{HasDataWithin}
use Rattle.avro_schema.proofs.WalkSizes.{DefaultWithin, DraftWithin, within}
use Rattle.avro_schema.proofs.DeclaringBothWays.{declares}
use Rattle.avro_schema.proofs.WholeNodes.{declared_at, each_from, finished-with, walk_fits}

-- what holds of each holds of the one at a place
at_place : {A : Type 0} (P : A → Type 0) (xs : List A) → AllByRecursion P xs → (n : ℕ) (x : A) → slice_get xs n ≡ Some x → P x
at_place P [] h n x at = absurd (let no : ⊥ = cc in no)
at_place P (y ∷ xs) h zero x at = subst P (let same : y ≡ x = cc in same) h.0
at_place P (y ∷ xs) h (suc n) x at = at_place P xs h.1 n x at

module _ (most : ℕ) where
  -- ---- the nodes of drafts

  module _ (drafts : List Draft) where
    field-within : (n : ℕ) (o : Option json.Data) (head : Option Datum) → IfSome o (HasDataWithin most) → field_default drafts n o ≡ Some head → IfSome head (HasSizesWithin most most)
    field-within n None head h e = let same : None ≡ head = cc in subst (λ d. IfSome d (HasSizesWithin most most)) same tt
    field-within n (Some v) head h e =
        let p = map-inv Some (default_of drafts n v) head e in
        rw p.2 (default-within most drafts n v p.0 p.1 h)

    fields-within : (fs : List DraftField) (defaults : List (Option Datum)) → field_defaults drafts fs ≡ Some defaults → AllByRecursion (DefaultWithin most) fs → AllByRecursion (λ f. IfSome f.default (HasSizesWithin most most)) (fields_with fs defaults)
    fields-within [] defaults e h = tt
    fields-within (f ∷ fs) defaults e h =
        let r = in-row (field_default drafts f.node f.default) (field_defaults drafts fs) defaults e in
        rw r.all_are (field-within f.node f.default r.head h.0 r.first_is, fields-within fs r.tail r.rest_is h.1)

    node-within : (own : ℕ) (d : Draft) (defaults : List (Option Datum)) (names : Names) (fields : List FieldNode) → DraftFits (heads_of drafts) own d → DraftWithin most d → node_defaults drafts d ≡ Some defaults
        → RecordNode names fields ≡ node_with d defaults → AllByRecursion (λ f. IfSome f.default (HasSizesWithin most most)) fields
    node-within own (Whole n) defaults name fields fits h e is = absurd (subst (λ k. DraftFits (heads_of drafts) own (Whole k)) (sym is) fits)
    node-within own (RecordDraft name fs) defaults full fields fits h e is =
        let same : fields_with fs defaults ≡ fields = cc in
        subst (AllByRecursion (λ f. IfSome f.default (HasSizesWithin most most))) same (fields-within fs defaults e h)

    nodes-within : (all : List (List (Option Datum))) → all_defaults drafts drafts ≡ Some all → AllFrom (DraftFits (heads_of drafts)) 0 drafts → AllByRecursion (DraftWithin most) drafts → DefaultsHaveSizesWithin most most (nodes_with drafts all)
    nodes-within all read fits h node names fields at =
        let f = node-finished drafts drafts all read node (RecordNode names fields) at in
        node-within (0 + node) f.draft f.defaults names fields (each_from (DraftFits (heads_of drafts)) 0 drafts fits node f.draft f.placed) (at_place (DraftWithin most) drafts h node f.draft f.placed) f.read f.whole

  -- ---- the nodes of a value

  pub declared-within : (d : json.Data) (nodes : List Node) → declared d ≡ Ok nodes → HasDataWithin most d → DefaultsHaveSizesWithin most most nodes
  declared-within d nodes e h =
      let f = declared_at d nodes (walk d null_namespace []) refl e in
      let w = finished-with f.drafts nodes f.finish in
      subst (DefaultsHaveSizesWithin most most) w.2
      (nodes-within f.drafts w.0 w.1 (walk_fits d f.root f.drafts f.walked).1 (within most (declares d null_namespace [] f.root f.drafts f.walked) h))
