-- What a text declares, step by step.
use Rattle.std.proofs.Common.{◌≡◌, ℕ, ◌<◌, ◌≤◌, List, [], length, true, false, option_map, Option, Some, None, Result, Ok, Err, refl, sym, ap}
use Rattle.std.specs.Option.{ok_or}
use Rattle.std.proofs.lemmas.Bool.{le-leb, lt-leb}
use Rattle.serde_json.specs.Data.{Data}
use Rattle.serde_json.specs.Read.{read}
use Rattle.serde_json.specs.Written.{has_float}
use Rattle.spec_avro.specs.declared.limits.TheConstants.{MOST_TEXT}
use Rattle.spec_schema.specs.declared.schema_error.SchemaError.{SchemaError}
use Rattle.spec_schema.specs.declared.schema_error.SchemaError.TheVariants.{TooLarge, NotJson, BadNumber, BadDefault}
use Rattle.avro_schema.specs.Contract.{run}
use Rattle.spec_schema.specs.Steps.{◌>>=◌}
use Rattle.spec_avro.specs.Datum.{Datum}
use Rattle.spec_schema.specs.Defaults.{all_defaults, finished, nodes_with}
use Rattle.spec_schema.specs.Draft.{Draft}
use Rattle.spec_schema.specs.Schema.{schema_of, nodes_in_read, declared}
use Rattle.spec_schema.specs.Names.{null_namespace}
use Rattle.spec_schema.specs.Walk.{walk, added}

pub too-large : (text : List ℕ) → MOST_TEXT < length text → schema_of text ≡ Err TooLarge
unfolding schema_of
too-large text lt = rw (lt-leb (length text) MOST_TEXT lt) refl

pub small : (text : List ℕ) → length text ≤ MOST_TEXT → schema_of text ≡ nodes_in_read (read text)
unfolding schema_of
small text le = rw (le-leb (length text) MOST_TEXT le) refl

pub no-json : (o : Option Data) (e : SchemaError) → ok_or o NotJson ≡ Err e → nodes_in_read o ≡ Err e
no-json None e h = let same : NotJson ≡ e = cc in ap Err same
no-json (Some d) e h = absurd (let no : ⊥ = cc in no)

pub some-json : (o : Option Data) (d : Data) → ok_or o NotJson ≡ Ok d → o ≡ Some d
some-json None d h = absurd (let no : ⊥ = cc in no)
some-json (Some e) d h = let same : e ≡ d = cc in ap Some same

pub a-float : (text : List ℕ) (d : Data) → read text ≡ Some d → true ≡ has_float d → nodes_in_read (read text) ≡ Err BadNumber
a-float text d e f = rw (e, ← f) refl

pub walked : (text : List ℕ) (d : Data) → read text ≡ Some d → false ≡ has_float d → nodes_in_read (read text) ≡ declared d
walked text d e f = rw (e, ← f) refl

-- ---- the walk, and then the defaults

pub some-defaults : {A : Type 0} (o : Option A) (a : A) → ok_or o BadDefault ≡ Ok a → o ≡ Some a
some-defaults None a h = absurd (let no : ⊥ = cc in no)
some-defaults (Some b) a h = let same : b ≡ a = cc in ap Some same

from-nothing : {A : Type 0} (r : Result (A × List Draft) SchemaError) → added [] r ≡ r
from-nothing (Ok p) = refl
from-nothing (Err e) = refl

pub declared-is : (d : Data) → declared d ≡ (run (walk d) null_namespace [] >>= λ p. finished p.1)
unfolding run
declared-is d = ap (λ (r : Result (ℕ × List Draft) SchemaError). r >>= λ p. finished p.1) (sym (from-nothing (walk d null_namespace [])))

pub finished-ok : (drafts : List Draft) (all : List (List (Option Datum))) → ok_or (all_defaults drafts drafts) BadDefault ≡ Ok all → finished drafts ≡ Ok (nodes_with drafts all)
unfolding finished
finished-ok drafts all e = at (all_defaults drafts drafts) e
  where
    at : (o : Option (List (List (Option Datum)))) → ok_or o BadDefault ≡ Ok all → ok_or (option_map (nodes_with drafts) o) BadDefault ≡ Ok (nodes_with drafts all)
    at None e = absurd (let wrong : ⊥ = cc in wrong)
    at (Some xs) e = let same : xs ≡ all = cc in ap (λ ys. Ok (nodes_with drafts ys)) same

pub finished-err : (drafts : List Draft) (x : SchemaError) → ok_or (all_defaults drafts drafts) BadDefault ≡ Err x → finished drafts ≡ Err x
unfolding finished
finished-err drafts x e = at (all_defaults drafts drafts) e
  where
    at : (o : Option (List (List (Option Datum)))) → ok_or o BadDefault ≡ Err x → ok_or (option_map (nodes_with drafts) o) BadDefault ≡ Err x
    at None e = let same : BadDefault ≡ x = cc in ap Err same
    at (Some xs) e = absurd (let wrong : ⊥ = cc in wrong)
