-- The loop over the writer's fields and their partners.
use Rattle.std.proofs.Common.{◌≡◌, ℕ, ◌⊎◌, inl, inr, List, [], ◌∷◌, ◌++◌, length, Option, refl, sym, ap, ◌∙◌, append-nil, arith}
use Rattle.avro_types.specs.declared.kind.Field.{Field}
use Rattle.spec_avro.specs.Node.{FieldNode}
use Rattle.avro_types.specs.Node.{fields_of}
use Rattle.spec_avro.specs.declared.place.Route.{Route}
use Rattle.spec_avro.specs.Partners.{routes_to}
use Rattle.resolver.proofs.Items.{no_length}

no_partners : (rs ws : List FieldNode) → routes_to rs ws [] ≡ []
no_partners rs [] = refl
no_partners rs (f ∷ ws) = refl

pub routes_end : (rs : List FieldNode) (ws : List Field) (ps : List (Option ℕ)) (front whole : List Route) → front ++ routes_to rs (fields_of ws) ps ≡ whole → (length ws ≡ 0) ⊎ (length ps ≡ 0) → front ≡ whole
routes_end rs ws ps front whole e (inl none) = sym (append-nil front) ∙ ap (λ (l : List Field). front ++ routes_to rs (fields_of l) ps) (sym (no_length ws none)) ∙ e
routes_end rs ws ps front whole e (inr none) = sym (append-nil front) ∙ ap (λ (l : List Route). front ++ l) (sym (no_partners rs (fields_of ws))) ∙ ap (λ (l : List (Option ℕ)). front ++ routes_to rs (fields_of ws) l) (sym (no_length ps none)) ∙ e
