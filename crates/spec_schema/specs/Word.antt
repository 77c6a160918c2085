-- The words that name types (Avro 1.11, "Primitive Types" and "Complex Types").
use Rattle.std.specs.Prelude.{ℕ, List, Bool, true, false, if◌then◌else◌, codes, Option, Some, None}
use Rattle.std.specs.Str.{bytes_eq}
use Rattle.serde_json.specs.Data.{Data, string}
use Rattle.spec_schema.specs.declared.word.Form.{Form}
use Rattle.spec_schema.specs.declared.word.Form.TheVariants as forms
use Rattle.spec_schema.specs.declared.word.Word.{Word}
use Rattle.spec_schema.specs.declared.word.Word.TheVariants as words
use Rattle.spec_avro.specs.Node.{Node, NullNode, BooleanNode, IntNode, LongNode, BytesNode, TextNode}

-- the word that a text is
abbrev pub word_of : List ℕ → Word
word_of s =
    if bytes_eq s (codes "null") then words.Null else
    if bytes_eq s (codes "boolean") then words.Boolean else
    if bytes_eq s (codes "int") then words.Int else
    if bytes_eq s (codes "long") then words.Long else
    if bytes_eq s (codes "bytes") then words.Bytes else
    if bytes_eq s (codes "string") then words.Text else
    if bytes_eq s (codes "float") then words.Float else
    if bytes_eq s (codes "double") then words.Double else
    if bytes_eq s (codes "record") then words.Record else
    if bytes_eq s (codes "enum") then words.Enum else
    if bytes_eq s (codes "fixed") then words.Fixed else
    if bytes_eq s (codes "array") then words.Array else
    if bytes_eq s (codes "map") then words.Map else
    if bytes_eq s (codes "error") then words.Error else words.Other

-- the node that a word is by itself
abbrev pub leaf_of : Word → Option Node
leaf_of words.Null = Some NullNode
leaf_of words.Boolean = Some BooleanNode
leaf_of words.Int = Some IntNode
leaf_of words.Long = Some LongNode
leaf_of words.Bytes = Some BytesNode
leaf_of words.Text = Some TextNode
leaf_of _ = None

-- the primitive types that are left out
abbrev pub is_left_out : Word → Bool
is_left_out words.Float = true
is_left_out words.Double = true
is_left_out _ = false

abbrev pub is_primitive : Word → Bool
is_primitive words.Null = true
is_primitive words.Boolean = true
is_primitive words.Int = true
is_primitive words.Long = true
is_primitive words.Bytes = true
is_primitive words.Text = true
is_primitive words.Float = true
is_primitive words.Double = true
is_primitive _ = false

abbrev pub form_of_word : Word → Form
form_of_word words.Record = forms.Record
form_of_word words.Enum = forms.Enum
form_of_word words.Fixed = forms.Fixed
form_of_word words.Array = forms.Array
form_of_word words.Map = forms.Map
form_of_word words.Error = forms.Error
form_of_word _ = forms.Other

-- what the `type` of an object makes of it
abbrev pub form_of : Option Data → Form
form_of (Some (string s)) = form_of_word (word_of s)
form_of _ = forms.Other
