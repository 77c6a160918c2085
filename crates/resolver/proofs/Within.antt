-- The pairs and routes of nodes of two schemas are of nodes of the schemas.
use Rattle.std.proofs.Common.{◌≡◌, ℕ, zero, suc, ◌<◌, Bool, true, false, List, [], ◌∷◌, length, map, slice_get, Option, Some, None, IfSome, option_map, Result, Ok, Err, IfOk, sym, subst, ◌∙◌, arith}
use Rattle.std.proofs.lemmas.List.{length-map}
use Rattle.avro_types.specs.declared.kind.Field.{Field}
use Rattle.std.specs.Global.{Vec}
use Rattle.std.specs.declared.alloc.AllocError.{AllocError}
use Rattle.std.specs.List.{AllByRecursion}
use Rattle.spec_avro.specs.Node.{Node, FieldNode}
use Rattle.avro_types.specs.Node.{fields_of}
use Rattle.spec_avro.specs.WellFormed.{FieldsBelow, IsMember}
use Rattle.spec_avro.specs.declared.place.Partner.{Partner}
use Rattle.spec_avro.specs.declared.place.Route.{Route}
use Rattle.resolver.specs.NextPairs.{partner_pairs, unless}
use Rattle.spec_avro.specs.Options.{given}
use Rattle.resolver.specs.Pairs.{AreWithin}
use Rattle.resolver.specs.Partners.{AreRoutes}
use Rattle.spec_avro.specs.Partners.{partner_at, partners, routes, routes_to}
use Rattle.spec_avro.specs.Safety.{Pair}

partner_within : (readers j : ℕ) (rs : List FieldNode) → FieldsBelow readers rs → IfSome (slice_get rs j) (λ g. (j < length rs) × (g.node < readers))
partner_within readers j [] b = tt
partner_within readers zero (g ∷ rs) b = (omega arith, b.0)
partner_within readers (suc j) (g ∷ rs) b = further (slice_get rs j) (partner_within readers j rs b.1) where
  further : (o : Option FieldNode) → IfSome o (λ g. (j < length rs) × (g.node < readers)) → IfSome o (λ g. (suc j < suc (length rs)) × (g.node < readers))
  further None h = tt
  further (Some g) h = (omega (arith, h.0), h.1)

-- where the writer's fields go
routes_to_within : (writers readers : ℕ) (rs ws : List FieldNode) (ps : List (Option ℕ)) → FieldsBelow writers ws → FieldsBelow readers rs → AreRoutes writers readers (length rs) (routes_to rs ws ps)
routes_to_within writers readers rs [] ps a b = tt
routes_to_within writers readers rs (f ∷ ws) [] a b = tt
routes_to_within writers readers rs (f ∷ ws) (p ∷ ps) a b = (record { node = a.0; partner = here p }, routes_to_within writers readers rs ws ps a.1 b) where
  found : (j : ℕ) (o : Option FieldNode) → IfSome o (λ g. (j < length rs) × (g.node < readers)) → IfSome (option_map (λ g. record { position = j; node = g.node }) o) (λ (p : Partner). (p.position < length rs) × (p.node < readers))
  found j None h = tt
  found j (Some g) h = h

  here : (p : Option ℕ) → IfSome (given p None (partner_at rs)) (λ p. (p.position < length rs) × (p.node < readers))
  here None = tt
  here (Some j) = found j (slice_get rs j) (partner_within readers j rs b)

pub routes_within : (writers readers : ℕ) (ws rs : List FieldNode) → FieldsBelow writers ws → FieldsBelow readers rs → AreRoutes writers readers (length rs) (routes ws rs)
routes_within writers readers ws rs a b = routes_to_within writers readers rs ws (partners ws rs) a b

pub partners_within : (writers readers places : ℕ) (routes : List Route) → AreRoutes writers readers places routes → AreWithin writers readers (partner_pairs routes)
partners_within writers readers places [] a = tt
partners_within writers readers places (r ∷ routes) a = one r.partner a.0.partner (partners_within writers readers places routes a.1) where
  one : (o : Option Partner) → IfSome o (λ p. (p.position < places) × (p.node < readers)) → AreWithin writers readers (partner_pairs routes) → AreWithin writers readers (given o (partner_pairs routes) (λ p. (r.node, p.node) ∷ partner_pairs routes))
  one None h rest = rest
  one (Some p) h rest = ((a.0.node, h.1), rest)

pub members_within : (W : List Node) (own readers r : ℕ) (ms : List ℕ) → AllByRecursion (IsMember W own) ms → r < readers → AreWithin (length W) readers (map (λ m. (m, r)) ms)
members_within W own readers r [] all lt = tt
members_within W own readers r (m ∷ ms) all lt = ((all.0.below, lt), members_within W own readers r ms all.1 lt)

pub result_within : (writers readers : ℕ) (ps : List Pair) (res : Result (Vec Pair) AllocError) → IfOk res (λ v. v.items ≡ ps) → AreWithin writers readers ps → IfOk res (λ v. AreWithin writers readers v.items)
result_within writers readers ps (Ok v) e a = rw e a
result_within writers readers ps (Err x) e a = tt

-- where the pairs are returned, or nothing in their place
pub found_within : (writers readers : ℕ) (b : Bool) (ps : List Pair) (res : Result (Option (Vec Pair)) AllocError) → IfOk res (λ o. option_map (λ (v : Vec Pair). v.items) o ≡ unless b ps)
    → AreWithin writers readers ps → IfOk res (λ o. IfSome o (λ v. AreWithin writers readers v.items))
found_within writers readers b ps (Ok None) e a = tt
found_within writers readers true ps (Ok (Some v)) e a = absurd (let no : ⊥ = cc in no)
found_within writers readers false ps (Ok (Some v)) e a = (let same : v.items ≡ ps = cc in subst (AreWithin writers readers) (sym same) a)
found_within writers readers b ps (Err x) e a = tt

pub places_within : {X : Type 0} (writers readers : ℕ) (routes : List Route) (rs : List Field) (slots : List X) → length slots ≡ length rs → AreRoutes writers readers (length (fields_of rs)) routes → AreRoutes writers readers (length slots) routes
places_within writers readers routes rs slots e a = subst (λ (n : ℕ). AreRoutes writers readers n routes) (length-map rs _ ∙ sym e) a
