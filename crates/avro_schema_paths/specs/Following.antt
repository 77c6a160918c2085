-- Where the steps of a path lead in a JSON value, as those of a JSON Pointer (RFC 6901) do.
use Rattle.std.specs.Prelude.{◌≡◌, ℕ, List, [], ◌∷◌, true, Option, Some, option_and_then, codes}
use Rattle.serde_json.specs.Data.{Data, string, array, object, Items, Members}
use Rattle.serde_json.specs.Find.{at, get}
use Rattle.spec_avro.specs.Node.{Node}
use Rattle.spec_schema.specs.Word.{leaf_of, word_of}
use Rattle.spec_schema.specs.declared.word.Form.TheVariants as forms
use Rattle.avro_schema_paths.specs.Places.{IsPathOf, Path, declares, form_at}
use Rattle.avro_schema_paths.specs.declared.step.Step.{Step}
use Rattle.avro_schema_paths.specs.declared.step.Step.TheVariants as steps

-- where a step leads in a value
abbrev pub step_in : Step → Data → Option Data
step_in steps.Type d = get (codes "type") d
step_in steps.Items d = get (codes "items") d
step_in steps.Values d = get (codes "values") d
step_in steps.Fields d = get (codes "fields") d
step_in (steps.At i) d = at i d

-- where a path leads in a value
abbrev pub follow : Path → Data → Option Data
follow [] d = Some d
follow (s ∷ path) d = option_and_then (follow path) (step_in s d)

-- the first value is the second, or an object that wraps it, with other objects between them or none
pub data Wraps : Data → Data → Type 0 where
  itself : {d : Data} → Wraps d d
  wrapped : {ms : Members} {d e : Data} → form_at ms ≡ forms.Other → get (codes "type") (object ms) ≡ Some d → Wraps d e
      → Wraps (object ms) e

-- a value that declares a type, and does not name one
pub data IsDeclaration : Data → Type 0 where
  a_text : {s : List ℕ} {node : Node} → leaf_of (word_of s) ≡ Some node → IsDeclaration (string s)
  a_list : {ds : Items} → IsDeclaration (array ds)
  an_object : {ms : Members} → declares (form_at ms) ≡ true → IsDeclaration (object ms)

-- the path leads to a declaration, or to an object that wraps one
pub record LeadsToDeclaration (root : Data) (q : Path) : Type 0 where
  pub found : Data
  pub declaration : Data
  pub at : follow q root ≡ Some found
  pub wraps : Wraps found declaration
  pub declares : IsDeclaration declaration

-- each path of a node does
abbrev pub PathsLeadThere : Type 0
PathsLeadThere = (nodes : List Node) (value : Data) (k : ℕ) (q : Path) → IsPathOf nodes value k q
    → LeadsToDeclaration value q
