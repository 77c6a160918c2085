-- Statements after statements, by the case of the definition that they are of.
use Rattle.std.proofs.Common.{◌≡◌, ℕ, true, false, List, [], ◌∷◌, ◌++◌, Option, Some, None, is_some, refl, sym, ap, ◌∙◌}
use Rattle.std.specs.Prelude.{option_map, slice_get}
use Rattle.std.specs.Global.{Vec}
use Rattle.avro_types.specs.declared.kind.Kind.{Kind}
use Rattle.avro_types.specs.declared.kind.Kind.TheVariants as kinds
use Rattle.spec_avro.specs.Node.{Node, FieldNode}
use Rattle.avro_types.specs.Node.{node_of}
use Rattle.spec_avro.specs.declared.place.Destination.{Destination}
use Rattle.spec_avro.specs.Matching.{place}
use Rattle.spec_avro.specs.Options.{given}
use Rattle.spec_avro.specs.declared.mismatch.MismatchKind.TheVariants as misses
use Rattle.spec_machine.specs.Statements.{Statement, Call, Lost, Miss, Write, miss}
use Rattle.spec_machine.specs.Skipping.{K}
use Rattle.spec_machine.specs.Writing.{placed_node, record_code, straight_node, write_node}
use Rattle.spec_avro.specs.Resolution.{lacking}

pub straight_more : (W R : List Node) (F : ℕ → ℕ → List Statement) (w r : ℕ) (reader : Option Node) (node : Node) (old new code : List Statement) → slice_get W w ≡ Some node → straight_node W R F w r (Some node) reader ≡ code → new ≡ old ++ code → new ≡ old ++ straight_node W R F w r (slice_get W w) reader
straight_more W R F w r reader node old new code at is h = h ∙ ap (λ l. old ++ l) (sym is) ∙ ap (λ x. old ++ straight_node W R F w r x reader) (sym at)

pub placed_more : (W R : List Node) (F : ℕ → ℕ → List Statement) (w r : ℕ) (result p : Destination) (old new code : List Statement) → result ≡ place W R w r → result ≡ p → placed_node W R F w r p ≡ code → new ≡ old ++ code → new ≡ old ++ placed_node W R F w r (place W R w r)
placed_more W R F w r result p old new code e at is h = h ∙ ap (λ l. old ++ l) (sym is) ∙ ap (λ x. old ++ placed_node W R F w r x) (sym at ∙ e)

pub parts_none : {A : Type 0} (parts : Option A) (f : A → List Statement) (old new : List Statement) → parts ≡ None → new ≡ old ++ Lost ∷ [] → new ≡ old ++ given parts (Lost ∷ []) f
parts_none parts f old new e h = h ∙ ap (λ x. old ++ given x (Lost ∷ []) f) (sym e)

pub parts_some : {A : Type 0} (parts : Option A) (p : A) (f : A → List Statement) (old new code : List Statement) → parts ≡ Some p → f p ≡ code → new ≡ old ++ code → new ≡ old ++ given parts (Lost ∷ []) f
parts_some parts p f old new code e is h = h ∙ ap (λ l. old ++ l) (sym is) ∙ ap (λ x. old ++ given x (Lost ∷ []) f) (sym e)

-- the statements of two records, with a field that lacks or none, and of other nodes, which have no fields
module _ (W R : List Node) (w r : ℕ) (old new : List Statement) where
  pub record_lost : (lists : Option (List FieldNode × List FieldNode)) → is_some lists ≡ false → new ≡ old ++ Lost ∷ []
      → new ≡ old ++ given lists (Lost ∷ []) (λ p. record_code W R w r (lacking p.0 p.1))
  record_lost None none h = h
  record_lost (Some p) none h = absurd (let no : ⊥ = cc in no)

  pub record_lacks : (lists : Option (List FieldNode × List FieldNode)) (n : ℕ) → given lists None (λ p. option_map (λ g. g.node) (lacking p.0 p.1)) ≡ Some n
      → new ≡ old ++ Miss (miss misses.NoDefault w n) ∷ K W w → new ≡ old ++ given lists (Lost ∷ []) (λ p. record_code W R w r (lacking p.0 p.1))
  record_lacks None n found h = absurd (let no : ⊥ = cc in no)
  record_lacks (Some p) n found h = at (lacking p.0 p.1) found
    where
      at : (g : Option FieldNode) → option_map (λ g. g.node) g ≡ Some n → new ≡ old ++ record_code W R w r g
      at None e = absurd (let no : ⊥ = cc in no)
      at (Some g) e = let same : n ≡ g.node = cc in h ∙ ap (λ k. old ++ Miss (miss misses.NoDefault w k) ∷ K W w) same

  pub record_calls : (lists : Option (List FieldNode × List FieldNode)) → is_some lists ≡ true → given lists None (λ p. option_map (λ g. g.node) (lacking p.0 p.1)) ≡ None
      → new ≡ old ++ Call (Write w r) ∷ [] → new ≡ old ++ given lists (Lost ∷ []) (λ p. record_code W R w r (lacking p.0 p.1))
  record_calls None some found h = absurd (let no : ⊥ = cc in no)
  record_calls (Some p) some found h = at (lacking p.0 p.1) found
    where
      at : (g : Option FieldNode) → option_map (λ g. g.node) g ≡ None → new ≡ old ++ record_code W R w r g
      at None e = h
      at (Some g) e = absurd (let no : ⊥ = cc in no)

pub some_too : {A B : Type 0} (f : A → B) (o : Option A) → is_some (option_map f o) ≡ is_some o
some_too f None = refl
some_too f (Some a) = refl

-- no union of the writer's goes into its place
pub no_union : (W R : List Node) (F : ℕ → ℕ → List Statement) (w r : ℕ) (kind : Kind) → ((members : Vec ℕ) → kind ≡ kinds.Union members → ⊥) → write_node W R F w r (Some (node_of kind)) ≡ placed_node W R F w r (place W R w r)
no_union W R F w r (kinds.Union members) no_members = absurd (no_members members refl)
no_union W R F w r _ no_members = refl
