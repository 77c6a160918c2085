-- A namespace keeps its number while nodes come.
use Rattle.std.proofs.Common.{◌≡◌, ℕ, List, [], ◌∷◌, ◌++◌, Some, Result, Ok, Err, slice_get, refl, ap}
use Rattle.std.specs.Arc.{arc_str_bytes}
use Rattle.spec_schema.specs.declared.schema_error.SchemaError.{SchemaError}
use Rattle.avro_schema_names.specs.declared.namespace.Namespace.{Namespace}
use Rattle.avro_schema.specs.Contract.{run}
use Rattle.spec_schema.specs.Draft.{Draft}
use Rattle.spec_schema.specs.Head.{head_of, heads_of}
use Rattle.avro_schema_names.specs.Index.{IsNamespaceOf, namespaces_of}
use Rattle.spec_schema.specs.Walk.{Walk, added}
use Rattle.avro_schema_names.proofs.Index.{heads-behind}
use Rattle.avro_schema_names.proofs.DraftLists.{heads_of-append}
use Rattle.avro_schema_names.proofs.Namespaces.{namespaces-keep}

-- after one more node
pub enclosing-pushed : (enclosing : Namespace) (ks ls : List Draft) (k : Draft) → IsNamespaceOf enclosing ks → ls ≡ ks ++ k ∷ [] → IsNamespaceOf enclosing ls
enclosing-pushed enclosing ks ls k known e = rw (e, heads-behind ks k) (namespaces-keep (heads_of ks) (head_of k ∷ []) enclosing.number (arc_str_bytes enclosing.text) known)

abbrev pub all_of : {A : Type 0} → Result (A × List Draft) SchemaError → List Draft
all_of (Ok p) = p.1
all_of (Err e) = []

kept : {A : Type 0} (enclosing : Namespace) (ns : List Draft) (r : Result (A × List Draft) SchemaError) (a : A) (ms : List Draft) → slice_get (namespaces_of (heads_of ns)) enclosing.number ≡ Some (arc_str_bytes enclosing.text) → added ns r ≡ Ok (a, ms)
    → slice_get (namespaces_of (heads_of ms)) enclosing.number ≡ Some (arc_str_bytes enclosing.text)
kept enclosing ns (Ok p) a ms known e =
    let same : ns ++ p.1 ≡ ms = ap all_of e in
    rw (← same, heads_of-append ns p.1) (namespaces-keep (heads_of ns) (heads_of p.1) enclosing.number (arc_str_bytes enclosing.text) known)
kept enclosing ns (Err x) a ms known e = absurd (let no : ⊥ = cc in no)

-- after what a walk adds
pub enclosing-walked : {A : Type 0} (w : Walk A) (text : List ℕ) (enclosing : Namespace) (ks ls : List Draft) (a : A) → IsNamespaceOf enclosing ks → run w text ks ≡ Ok (a, ls) → IsNamespaceOf enclosing ls
unfolding run
enclosing-walked w text enclosing ks ls a known e = kept enclosing ks (w text (heads_of ks)) a ls known e

-- the null namespace has number 0
pub null-enclosing : slice_get (namespaces_of (heads_of [])) 0 ≡ Some []
unfolding namespaces_of
null-enclosing = refl
