-- The members of a reader's union that a writer's named type can go into are those that have its unqualified name.
use Rattle.std.proofs.Common.{◌≡◌, ℕ, suc, ◌<◌, Bool, true, false, eqb, ◌||◌, ◌&&◌, List, [], ◌∷◌, length, Option, Some, None, option_map, refl, sym, ap, ◌∙◌}
use Rattle.std.specs.Prelude.{slice_get}
use Rattle.std.specs.List.{AllByRecursion}
use Rattle.std.proofs.lemmas.Option.{slice_get-map, slice_get_within}
use Rattle.spec_avro.specs.FullNames.{unqualified}
use Rattle.spec_avro.specs.Node.{Node, Names, NullNode, BooleanNode, IntNode, LongNode, BytesNode, TextNode, FixedNode, EnumNode, ArrayNode, MapNode, UnionNode, RecordNode}
use Rattle.spec_avro.specs.Symbols.{is_used}
use Rattle.spec_avro.specs.WellFormed.{full_name_of, is_union}
use Rattle.avro_types.specs.Laws.Booleans.{no_true, none_some, or_true, same_number, some_inside}
use Rattle.spec_avro.specs.Matches.{IsPrimitive, Matches, NamesMatch, alias, arrays, bytes_to_string, enums, fixed, int_to_long, maps, primitive, readers_union, records, string_to_bytes, unqualified_names as by_unqualified_names, writers_union}
use Rattle.spec_avro.specs.Matching.{first_member, matches}
use Rattle.resolver.proofs.Holding.{used_there}
use Rattle.program_compiler.specs.NamedTypes.{is_among, last_parts, unqualified_names}
use Rattle.program_compiler.proofs.FirstMember.{same_first}

-- ---- what matches has that name

named_so : (w r : Names) (full : List ℕ) → w.full ≡ full → NamesMatch w r → is_used (unqualified full) (last_parts r) ≡ true
named_so w r full same (by_unqualified_names e) = used_there (unqualified full) (last_parts r) 0 (ap Some (sym e ∙ ap unqualified same))
named_so w r full same (alias i at) = used_there (unqualified full) (last_parts r) (suc i) (slice_get-map unqualified r.aliases i ∙ ap (option_map unqualified) (at ∙ ap Some same))

unnamed : (node : Node) → IsPrimitive node → full_name_of (Some node) ≡ None
unnamed NullNode is = refl
unnamed BooleanNode is = refl
unnamed IntNode is = refl
unnamed LongNode is = refl
unnamed BytesNode is = refl
unnamed TextNode is = refl
unnamed (FixedNode names size) is = absurd is
unnamed (EnumNode names symbols default) is = absurd is
unnamed (ArrayNode item) is = absurd is
unnamed (MapNode value) is = absurd is
unnamed (UnionNode members) is = absurd is
unnamed (RecordNode names fields) is = absurd is

module _ (W R : List Node) where
  only_named : (w m : ℕ) (full : List ℕ) → full_name_of (slice_get W w) ≡ Some full → is_union (slice_get R m) ≡ false → Matches W R w m → is_used (unqualified full) (unqualified_names (slice_get R m)) ≡ true
  only_named w m full named apart (enums names others symbols theirs default fallback at there match) =
      ap (λ o. is_used (unqualified full) (unqualified_names o)) there ∙ named_so names others full (some_inside names.full full (ap full_name_of (sym at) ∙ named)) match
  only_named w m full named apart (fixed names others size at there match) =
      ap (λ o. is_used (unqualified full) (unqualified_names o)) there ∙ named_so names others full (some_inside names.full full (ap full_name_of (sym at) ∙ named)) match
  only_named w m full named apart (records names others fields theirs at there match) =
      ap (λ o. is_used (unqualified full) (unqualified_names o)) there ∙ named_so names others full (some_inside names.full full (ap full_name_of (sym at) ∙ named)) match
  only_named w m full named apart (arrays item other at there match) = absurd (none_some full (ap full_name_of (sym at) ∙ named))
  only_named w m full named apart (maps value other at there match) = absurd (none_some full (ap full_name_of (sym at) ∙ named))
  only_named w m full named apart (writers_union members other at there) = absurd (none_some full (ap full_name_of (sym at) ∙ named))
  only_named w m full named apart (readers_union node members at there) = absurd (no_true (is_union (slice_get R m)) (ap is_union there) apart)
  only_named w m full named apart (primitive node is at there) = absurd (none_some full (sym (unnamed node is) ∙ ap full_name_of (sym at) ∙ named))
  only_named w m full named apart (int_to_long at there) = absurd (none_some full (ap full_name_of (sym at) ∙ named))
  only_named w m full named apart (string_to_bytes at there) = absurd (none_some full (ap full_name_of (sym at) ∙ named))
  only_named w m full named apart (bytes_to_string at there) = absurd (none_some full (ap full_name_of (sym at) ∙ named))

  -- where all nodes that have the name are candidates, the first candidate that matches is the first member that
  -- matches
  pub among_candidates : (w : ℕ) (members candidates : List ℕ) (full : List ℕ) → full_name_of (slice_get W w) ≡ Some full → ((i m : ℕ) → slice_get members i ≡ Some m → is_union (slice_get R m) ≡ false)
      → ((m : ℕ) → matches W R w m ≡ true → Matches W R w m) → ((m : ℕ) → is_among m candidates ≡ is_used (unqualified full) (unqualified_names (slice_get R m)))
      → first_member (λ m. is_among m candidates && matches W R w m) 0 members ≡ first_member (matches W R w) 0 members
  among_candidates w members candidates full named apart holds each =
      same_first (λ m. is_among m candidates && matches W R w m) (matches W R w) 0 members
      (λ i m at. all (is_among m candidates) (matches W R w m) (λ match. each m ∙ only_named w m full named (apart i m at) (holds m match)))
    where
      all : (a b : Bool) → (b ≡ true → a ≡ true) → (a && b) ≡ b
      all true b h = refl
      all false true h = h refl
      all false false h = refl

-- ---- candidates are nodes

used_below : (R : List Node) (text : List ℕ) (m : ℕ) → is_used text (unqualified_names (slice_get R m)) ≡ true → m < length R
used_below R text m used = which (slice_get R m) refl used
  where
    which : (o : Option Node) → slice_get R m ≡ o → is_used text (unqualified_names o) ≡ true → m < length R
    which None at e = absurd (let no : ⊥ = cc in no)
    which (Some node) at e = slice_get_within R m node at

all_below : (len : ℕ) (nodes : List ℕ) → ((m : ℕ) → is_among m nodes ≡ true → m < len) → AllByRecursion (λ m. m < len) nodes
all_below len [] below = tt
all_below len (n ∷ nodes) below =
    (below n (ap (λ b. b || is_among n nodes) (same_number n n refl)), all_below len nodes (λ m among. below m (ap (λ b. eqb n m || b) among ∙ or_true (eqb n m))))

pub candidates_below : (R : List Node) (text : List ℕ) (candidates : List ℕ) → ((m : ℕ) → is_among m candidates ≡ is_used text (unqualified_names (slice_get R m))) → AllByRecursion (λ m. m < length R) candidates
candidates_below R text candidates each = all_below (length R) candidates (λ m among. used_below R text m (sym (each m) ∙ among))
