-- Each path leads through the value to what declares the node.
use Rattle.std.proofs.Common.{◌≡◌, ℕ, List, [], ◌∷◌, ◌++◌, Option, Some, None, option_and_then, refl, ap, ◌∙◌}
use Rattle.serde_json.specs.Data.{Data, string, array, object}
use Rattle.spec_avro.specs.Node.{Node}
use Rattle.avro_schema_paths.specs.Following.{LeadsToDeclaration, PathsLeadThere, Wraps, a_list, an_object, a_text, follow, itself, step_in, wrapped}
use Rattle.avro_schema_paths.specs.Places.{Path, Places, a_type, a_union, a_word, in_wrapper, in_array, in_map, in_record, in_union}
use Rattle.avro_schema_paths.specs.declared.step.Step.TheVariants as steps

follow_more : (p more : Path) (root d : Data) → follow p root ≡ Some d → follow (p ++ more) root ≡ follow more d
follow_more [] more root d e = ap (λ (o : Option Data). option_and_then (follow more) o) e
follow_more (s ∷ p) more root d e = by_case (step_in s root) e (λ x h. follow_more p more x d h) where
  by_case : (o : Option Data) → option_and_then (follow p) o ≡ Some d → ((x : Data) → follow p x ≡ Some d → follow (p ++ more) x ≡ follow more d) → option_and_then (follow (p ++ more)) o ≡ follow more d
  by_case None h rest = absurd cc
  by_case (Some x) h rest = rest x h

wraps_on : (a b c : Data) → Wraps a b → Wraps b c → Wraps a c
wraps_on a b c itself s = s
wraps_on a b c (wrapped {d = d} is at rest) s = wrapped is at (wraps_on d b c rest s)

module _ (nodes : List Node) (root : Data) where
  -- a value that is there, and the nodes that it declares
  pub leads : (d : Data) (n : ℕ) (outer path : Path) (m : ℕ) (q : Path) → Places nodes d n outer path m q → (t : Data) → follow outer root ≡ Some t → Wraps t d → follow path root ≡ Some d → LeadsToDeclaration root q
  leads d n outer path m q (a_word {s = s} is) t at around there = record { found = t; declaration = string s; at = at; wraps = around; declares = a_text is }
  leads d n outer path m q (a_union {ds = ds}) t at around there = record { found = t; declaration = array ds; at = at; wraps = around; declares = a_list }
  leads d n outer path m q (a_type {ms = ms} is) t at around there = record { found = t; declaration = object ms; at = at; wraps = around; declares = an_object is }
  leads d n outer path m q (in_union {ds = ds} {m = k} {q = r} {d = x} {k = j} i node value p) t at around there =
      let here = follow_more path (steps.At i ∷ []) root (array ds) there ∙ ap (λ (o : Option Data). option_and_then (follow []) o) value in
      leads x j (path ++ steps.At i ∷ []) (path ++ steps.At i ∷ []) k r p x here itself here
  leads d n outer path m q (in_array {ms = ms} {m = k} {q = r} {d = x} {k = j} is node value p) t at around there =
      let here = follow_more path (steps.Items ∷ []) root (object ms) there ∙ ap (λ (o : Option Data). option_and_then (follow []) o) value in
      leads x j (path ++ steps.Items ∷ []) (path ++ steps.Items ∷ []) k r p x here itself here
  leads d n outer path m q (in_map {ms = ms} {m = k} {q = r} {d = x} {k = j} is node value p) t at around there =
      let here = follow_more path (steps.Values ∷ []) root (object ms) there ∙ ap (λ (o : Option Data). option_and_then (follow []) o) value in
      leads x j (path ++ steps.Values ∷ []) (path ++ steps.Values ∷ []) k r p x here itself here
  leads d n outer path m q (in_record {ms = ms} {m = k} {q = r} {ds = ds} {g = g} {d = x} {k = j} i is node list value type p) t at around there =
      let more : Path = steps.Fields ∷ steps.At i ∷ steps.Type ∷ [] in
      let first : follow more (object ms) ≡ follow (steps.At i ∷ steps.Type ∷ []) (array ds) = ap (λ (o : Option Data). option_and_then (follow (steps.At i ∷ steps.Type ∷ [])) o) list in
      let second : follow (steps.At i ∷ steps.Type ∷ []) (array ds) ≡ follow (steps.Type ∷ []) g = ap (λ (o : Option Data). option_and_then (follow (steps.Type ∷ [])) o) value in
      let third : follow (steps.Type ∷ []) g ≡ Some x = ap (λ (o : Option Data). option_and_then (follow []) o) type in
      let here = follow_more path more root (object ms) there ∙ first ∙ second ∙ third in
      leads x j (path ++ more) (path ++ more) k r p x here itself here
  leads d n outer path m q (in_wrapper {ms = ms} {m = k} {q = r} {d = x} is value p) t at around there =
      let here = follow_more path (steps.Type ∷ []) root (object ms) there ∙ ap (λ (o : Option Data). option_and_then (follow []) o) value in
      leads x n outer (path ++ steps.Type ∷ []) k r p t at (wraps_on t (object ms) x around (wrapped is value itself)) here

pub paths_lead_there : PathsLeadThere
paths_lead_there nodes value k q p = leads nodes value value 0 [] [] k q p value refl itself refl
