-- A finished node is a draft with the data of its fields' defaults, at the same place.
use Rattle.std.proofs.Common.{◌≡◌, ℕ, zero, suc, List, [], ◌∷◌, length, Option, Some, None, option_map, option_and_then, slice_get, refl, sym, ap, ◌∙◌}
use Rattle.spec_avro.specs.Datum.{Datum}
use Rattle.spec_schema.specs.Defaults.{all_defaults, node_defaults, node_with, nodes_with}
use Rattle.spec_schema.specs.Draft.{Draft, Whole, RecordDraft}
use Rattle.spec_schema.specs.Head.{head_of, head_of_node}
use Rattle.spec_avro.specs.Node.{Node}

-- the node at a place is the draft there, with the data of its fields' defaults
pub record IsFinishedAt (drafts rest : List Draft) (own : ℕ) (node : Node) : Type 0 where
  pub draft : Draft
  pub defaults : List (Option Datum)
  pub placed : slice_get rest own ≡ Some draft
  pub read : node_defaults drafts draft ≡ Some defaults
  pub whole : node ≡ node_with draft defaults

-- what is read in a row was read one by one
pub record IsInRow {A : Type 0} (first : Option A) (rest : Option (List A)) (all : List A) : Type 0 where
  pub head : A
  pub tail : List A
  pub first_is : first ≡ Some head
  pub rest_is : rest ≡ Some tail
  pub all_are : all ≡ head ∷ tail

pub in-row : {A : Type 0} (first : Option A) (rest : Option (List A)) (all : List A) → option_and_then (λ a. option_map (λ others. a ∷ others) rest) first ≡ Some all → IsInRow first rest all
in-row None rest all e = absurd (let no : ⊥ = cc in no)
in-row (Some a) None all e = absurd (let no : ⊥ = cc in no)
in-row (Some a) (Some others) all e = record { head = a; tail = others; first_is = refl; rest_is = refl; all_are = let same : all ≡ a ∷ others = cc in same }

-- ---- the node of a draft

pub finished-at : (drafts rest : List Draft) (all : List (List (Option Datum))) → all_defaults drafts rest ≡ Some all
    → (own : ℕ) (draft : Draft) → slice_get rest own ≡ Some draft
    → (defaults : List (Option Datum)) × (node_defaults drafts draft ≡ Some defaults) × (slice_get (nodes_with rest all) own ≡ Some (node_with draft defaults))
finished-at drafts [] all e own draft at = absurd (let no : ⊥ = cc in no)
finished-at drafts (d ∷ rest) all e zero draft at =
    let r = in-row (node_defaults drafts d) (all_defaults drafts rest) all e in
    let same : d ≡ draft = cc in
    rw (r.all_are, ← same) (r.head, r.first_is, refl)
finished-at drafts (d ∷ rest) all e (suc own) draft at =
    let r = in-row (node_defaults drafts d) (all_defaults drafts rest) all e in
    rw r.all_are (finished-at drafts rest r.tail r.rest_is own draft at)

-- ---- the draft of a node

pub node-finished : (drafts rest : List Draft) (all : List (List (Option Datum))) → all_defaults drafts rest ≡ Some all
    → (own : ℕ) (node : Node) → slice_get (nodes_with rest all) own ≡ Some node → IsFinishedAt drafts rest own node
node-finished drafts [] all e own node at = absurd (let no : ⊥ = cc in no)
node-finished drafts (d ∷ rest) all e zero node at =
    let r = in-row (node_defaults drafts d) (all_defaults drafts rest) all e in
    let here : Some (node_with d r.head) ≡ Some node = ap (λ (x : List (List (Option Datum))). slice_get (nodes_with (d ∷ rest) x) 0) (sym r.all_are) ∙ at in
    record { draft = d; defaults = r.head; placed = refl; read = r.first_is; whole = let same : node ≡ node_with d r.head = cc in same }
node-finished drafts (d ∷ rest) all e (suc own) node at =
    let r = in-row (node_defaults drafts d) (all_defaults drafts rest) all e in
    let later = node-finished drafts rest r.tail r.rest_is own node (ap (λ (x : List (List (Option Datum))). slice_get (nodes_with (d ∷ rest) x) (suc own)) (sym r.all_are) ∙ at) in
    record { draft = later.draft; defaults = later.defaults; placed = later.placed; read = later.read; whole = later.whole }

-- as many nodes as drafts
pub length-finished : (drafts rest : List Draft) (all : List (List (Option Datum))) → all_defaults drafts rest ≡ Some all → length (nodes_with rest all) ≡ length rest
length-finished drafts [] all e = refl
length-finished drafts (d ∷ rest) all e =
    let r = in-row (node_defaults drafts d) (all_defaults drafts rest) all e in
    rw r.all_are (ap suc (length-finished drafts rest r.tail r.rest_is))

pub head-finished : (d : Draft) (defaults : List (Option Datum)) → head_of_node (node_with d defaults) ≡ head_of d
head-finished (Whole n) defaults = refl
head-finished (RecordDraft name fs) defaults = refl
