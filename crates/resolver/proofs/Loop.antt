-- The loop over the writer's fields, on the program's own values.
use Rattle.std.proofs.Common.{◌≡◌, ℕ, zero, suc, ◌⊎◌, inl, inr, ◌<◌, List, [], ◌∷◌, length, slice_set, option_map, Option, Some, None, IfSome, Ok, Err, refl, sym, ap, ◌∙◌, arith}
use Rattle.std.proofs.lemmas.List.{length-set}
use Rattle.std.specs.Global.{Vec}
use Rattle.avro_types.specs.declared.datum.Datum as rust
use Rattle.spec_avro.specs.Node.{Node}
use Rattle.spec_avro.specs.Datum.{Datum, Data, no_more, more}
use Rattle.avro_types.specs.Datum.{datum_of, data_of}
use Rattle.resolver.specs.declared.mismatch.ResolveError.{ResolveError}
use Rattle.resolver.specs.declared.mismatch.ResolveError.TheVariants as errors
use Rattle.spec_avro.specs.declared.place.Partner.{Partner}
use Rattle.spec_avro.specs.declared.place.Route.{Route}
use Rattle.spec_avro.specs.Options.{given}
use Rattle.resolver.specs.Partners.{AreRoutes}
use Rattle.spec_avro.specs.Resolution.{Resolved, ◌>>=◌, Slots, resolved, resolved_fields}
use Rattle.resolver.specs.Resolution.{Resolves}
use Rattle.resolver.specs.Laws.Fields.{fields_on}
use Rattle.resolver.specs.Steps.{slots_of, kept, one_field, placed_value}
use Rattle.resolver.proofs.Items.{no_length}

pub put_seen : (slots : List (Option rust.Datum)) (j : ℕ) (d : rust.Datum) → slots_of (slice_set slots j (Some d)) ≡ slice_set (slots_of slots) j (Some (datum_of d))
put_seen [] j d = refl
put_seen (s ∷ slots) zero d = refl
put_seen (s ∷ slots) (suc j) d = ap (λ (l : Slots). option_map datum_of s ∷ l) (put_seen slots j d)

kept_seen : (o : Option (ℕ × rust.Datum)) (slots : List (Option rust.Datum)) → slots_of (kept o slots) ≡ kept (option_map placed_value o) (slots_of slots)
kept_seen None slots = refl
kept_seen (Some p) slots = put_seen slots p.0 p.1

length_kept : (o : Option (ℕ × rust.Datum)) (slots : List (Option rust.Datum)) → length (kept o slots) ≡ length slots
length_kept None slots = refl
length_kept (Some p) slots = length-set slots p.0 (Some p.1)

module _ (W R : List Node) where
  -- the routes and data that are left lead from the slots so far to the whole
  pub record Goes (places : ℕ) (routes : List Route) (slots : List (Option rust.Datum)) (ds : List rust.Datum) (whole : Resolved Slots) : Type 0 where
    pub within : AreRoutes (length W) (length R) places routes
    pub ready : length slots ≡ places
    pub so_far : resolved_fields W R (slots_of slots) routes (data_of ds) ≡ whole

  module _ (places : ℕ) (left : List Route) (r : Route) (routes : List Route) (slots : List (Option rust.Datum)) (items : List rust.Datum) (d : rust.Datum) (ds : List rust.Datum) (whole : Resolved Slots) (now : Goes places left slots items whole) (field : left ≡ r ∷ routes) (datum : items ≡ d ∷ ds) where
    next : AreRoutes (length W) (length R) places (r ∷ routes)
    next = rw field at now.within

    pub its_node : (r.node < length W) × IfSome r.partner (λ p. p.node < length R)
    its_node = (next.0.node, by_partner r.partner next.0.partner) where
      by_partner : (o : Option Partner) → IfSome o (λ p. (p.position < places) × (p.node < length R)) → IfSome o (λ p. p.node < length R)
      by_partner None h = tt
      by_partner (Some p) h = h.1

    pub its_place : (o : Option (ℕ × rust.Datum)) → Resolves (option_map placed_value) (Ok o) (one_field W R r (datum_of d)) → IfSome o (λ v. IfSome r.partner (λ p. v.0 ≡ p.position)) → IfSome o (λ v. v.0 < length slots)
    its_place o made at = by_partner r.partner next.0.partner o made at where
      by_partner : (q : Option Partner) → IfSome q (λ p. (p.position < places) × (p.node < length R)) → (o : Option (ℕ × rust.Datum)) → given q (Ok None) (λ p. resolved W R r.node p.node (datum_of d) >>= λ e. Ok (Some (p.position, e))) ≡ Ok (option_map placed_value o) → IfSome o (λ v. IfSome q (λ p. v.0 ≡ p.position)) → IfSome o (λ v. v.0 < length slots)
      by_partner q h None made at = tt
      by_partner None h (Some v) made at = absurd cc
      by_partner (Some p) h (Some v) made at = omega (arith, at, h.0, now.ready)

    here : (one_field W R r (datum_of d) >>= λ o. resolved_fields W R (kept o (slots_of slots)) routes (data_of ds)) ≡ whole
    here =
        let now' : resolved_fields W R (slots_of slots) (r ∷ routes) (more (datum_of d) (data_of ds)) ≡ whole = ap (λ (l : List Route). resolved_fields W R (slots_of slots) l (data_of (d ∷ ds))) (sym field) ∙ ap (λ (l : List rust.Datum). resolved_fields W R (slots_of slots) left (data_of l)) (sym datum) ∙ now.so_far in
        sym (fields_on W R (slots_of slots) r routes (datum_of d) (data_of ds)) ∙ now'

    pub goes_wrong : (e : ResolveError) → Resolves (option_map placed_value) (Err e) (one_field W R r (datum_of d)) → Resolves (λ (v : Vec (Option rust.Datum)). slots_of v.items) (Err e) whole
    goes_wrong (errors.Mismatch m) h = sym here ∙ ap (λ (x : Resolved (Option (ℕ × Datum))). x >>= λ o. resolved_fields W R (kept o (slots_of slots)) routes (data_of ds)) h
    goes_wrong errors.NoMemory h = tt

    pub goes_on : (v : Option (ℕ × rust.Datum)) (after : List (Option rust.Datum)) → one_field W R r (datum_of d) ≡ Ok (option_map placed_value v) → after ≡ kept v slots → Goes places routes after ds whole
    goes_on v after e k = record {
      within = next.1;
      ready = ap length k ∙ length_kept v slots ∙ now.ready;
      so_far = ap (λ (l : List (Option rust.Datum)). resolved_fields W R (slots_of l) routes (data_of ds)) k ∙ ap (λ (l : Slots). resolved_fields W R l routes (data_of ds)) (kept_seen v slots)
          ∙ sym (ap (λ (x : Resolved (Option (ℕ × Datum))). x >>= λ o. resolved_fields W R (kept o (slots_of slots)) routes (data_of ds)) e) ∙ here;
    }

  no_routes : (slots : Slots) (ds : Data) → resolved_fields W R slots [] ds ≡ Ok slots
  unfolding resolved
  no_routes slots no_more = refl
  no_routes slots (more d ds) = refl

  no_data : (slots : Slots) (routes : List Route) → resolved_fields W R slots routes no_more ≡ Ok slots
  unfolding resolved
  no_data slots [] = refl
  no_data slots (r ∷ routes) = refl

  pub goes_out : (places : ℕ) (routes : List Route) (slots : List (Option rust.Datum)) (ds : List rust.Datum) (whole : Resolved Slots) → Goes places routes slots ds whole → (length routes ≡ 0) ⊎ (length ds ≡ 0) → whole ≡ Ok (slots_of slots)
  goes_out places routes slots ds whole now (inl e) = sym now.so_far ∙ ap (λ (l : List Route). resolved_fields W R (slots_of slots) l (data_of ds)) (no_length routes e) ∙ no_routes (slots_of slots) (data_of ds)
  goes_out places routes slots ds whole now (inr e) = sym now.so_far ∙ ap (λ (l : List rust.Datum). resolved_fields W R (slots_of slots) routes (data_of l)) (no_length ds e) ∙ no_data (slots_of slots) routes
