-- What a registry holds, as three lists, and what is found in them (Confluent Schema Registry API, "Schemas",
-- "Subjects", "Config"). That ids and versions have no gaps, and what is marked below, is this project's own.
use Rattle.std.specs.Prelude.{ℕ, zero, suc, List, Option, None, slice_get, ◌==◌, [], map, filter, find, length, Bool, true, false, Some, option_map, unwrap_or}
use Rattle.std.specs.List.{filter_map, position_from}
use Rattle.std.specs.Ordering.{nat_cmp}
use Rattle.std.specs.Option.{option_and_then}
use Rattle.std.specs.Cmp.Lexicographic.{slice_cmp}
use Rattle.std.specs.FinMap as finite
use Rattle.std.specs.Str.{bytes_eq}
use Rattle.spec_schema.specs.Schema.{Declaration}
use Rattle.spec_registry.specs.declared.version.Version.{Version}
use Rattle.spec_registry.specs.declared.version.Version.TheVariants.{Latest, Number}
use Rattle.spec_registry.specs.declared.level.Level.{Level}
use Rattle.spec_registry.specs.declared.level.Level.TheVariants as levels

-- the element with this number, counted from 1
abbrev pub numbered : {A : Type 0} → List A → ℕ → Option A
numbered xs zero = None
numbered xs (suc n) = slice_get xs n

-- a version of a subject, and the id of its schema
pub record Entry : Type 0 where
  pub subject : List ℕ
  pub version : ℕ
  pub id : ℕ

pub record Lists : Type 0 where
  -- in the order of their ids, which are 1, 2, 3 ..
  pub schemas : List Declaration
  -- in the order in which they were accepted
  pub entries : List Entry
  -- the newest first; without a subject it is the global one
  pub levels : List (Option (List ℕ) × Level)

-- nothing is held
abbrev pub no_lists : Lists
no_lists = record { schemas = []; entries = []; levels = [] }

-- ---- schemas

-- the id of the schema with a compact text: two texts are one schema where these are equal (our own rule)
abbrev pub id_of : List ℕ → List Declaration → Option ℕ
id_of text schemas = position_from (λ s. bytes_eq s.text text) 1 schemas

-- ---- versions

-- the versions of a subject, in order
abbrev pub versions_of : List ℕ → List Entry → List Entry
versions_of subject entries = filter (λ e. bytes_eq e.subject subject) entries

-- the version that has an id
abbrev pub with_id : ℕ → List Entry → Option Entry
with_id id entries = find (λ e. e.id == id) entries

-- the version that has the schema of a compact text
abbrev pub with_text : List ℕ → List Declaration → List Entry → Option Entry
with_text text schemas entries = option_and_then (λ id. with_id id entries) (id_of text schemas)

-- the version that is asked for
abbrev pub version_at : Version → List Entry → Option Entry
version_at Latest entries = numbered entries (length entries)
version_at (Number n) entries = numbered entries n

-- names, each once, in the order of their bytes (our own order)
abbrev pub Names : Type 0
Names = finite.FinMap (slice_cmp nat_cmp) (Unit {0})

abbrev pub names_in : List (List ℕ) → Names
names_in ns = finite.from_entries (map (λ n. (n, tt)) ns)

-- the subjects that have versions
abbrev pub subjects_of : List Entry → Names
subjects_of entries = names_in (map (λ e. e.subject) entries)

-- ---- levels

abbrev pub is_same : Option (List ℕ) → Option (List ℕ) → Bool
is_same None None = true
is_same None (Some t) = false
is_same (Some s) None = false
is_same (Some s) (Some t) = bytes_eq s t

-- the level that was set last for a subject, or for all of them
abbrev pub level_set : Option (List ℕ) → List (Option (List ℕ) × Level) → Option Level
level_set subject ls = option_map (λ l. l.1) (find (λ l. is_same l.0 subject) ls)

abbrev pub global_level : List (Option (List ℕ) × Level) → Level
global_level ls = unwrap_or (level_set None ls) levels.Backward

-- a subject's own level, and else the global one (our own rule where a level is asked for), which is BACKWARD at first
abbrev pub level_of : Option (List ℕ) → List (Option (List ℕ) × Level) → Level
level_of None ls = global_level ls
level_of (Some subject) ls = unwrap_or (level_set (Some subject) ls) (global_level ls)

-- the subjects that have a level of their own
abbrev pub subjects_with_level : List (Option (List ℕ) × Level) → Names
subjects_with_level ls = names_in (filter_map (λ l. l.0) ls)
