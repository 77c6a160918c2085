-- The buffers of a record's slots, while its fields are read and when its defaults are filled in.
use Rattle.std.proofs.Common.{◌≡◌, ℕ, zero, suc, ◌<◌, true, false, List, [], ◌∷◌, ◌++◌, length, map, Option, Some, None, IfSome, Ok, Err, refl, sym, ap, ◌∙◌, subst, arith, slice_get, slice_set}
use Rattle.std.proofs.lemmas.List.{length-set}
use Rattle.spec_avro.specs.Blocks.{joined}
use Rattle.spec_avro.specs.Datum.{Datum, Data, no_more, more, how_many}
use Rattle.spec_avro.specs.Node.{Node, FieldNode}
use Rattle.spec_avro.specs.Writing.{written, written_data}
use Rattle.spec_avro.specs.declared.place.Partner.{Partner}
use Rattle.spec_avro.specs.declared.place.Route.{Route}
use Rattle.spec_avro.specs.Options.{given, or_else}
use Rattle.spec_avro.specs.Partners.{has_partner, routes}
use Rattle.resolver.specs.Laws.Fields.{filled_by_partners, is_filled, length_no_slots, one_put}
use Rattle.spec_avro.specs.Resolution.{Resolved, ◌>>=◌, Slots, filled, no_slots, resolved, resolved_fields}
use Rattle.spec_machine.specs.State.{add_to_slot}
use Rattle.program_definition.specs.Stands.{PutsNothing}
use Rattle.program_correctness.proofs.Buffers.{new_slots}
use Rattle.program_correctness.proofs.Routes.{AreApart, AreFree, free_here, free_later, still_free}

-- ---- buffers

abbrev pub buffer : Option Datum → List ℕ
buffer None = []
buffer (Some d) = written d

abbrev pub buffers : Slots → List (List ℕ)
buffers slots = map buffer slots

pub new_buffers : (gs : List FieldNode) → buffers (no_slots gs) ≡ new_slots (length gs)
new_buffers [] = refl
new_buffers (g ∷ gs) = ap (λ (l : List (List ℕ)). [] ∷ l) (new_buffers gs)

added_where_empty : (j : ℕ) (e : Datum) (slots : Slots) → slice_get slots j ≡ Some None → add_to_slot j (written e) (buffers slots) ≡ buffers (slice_set slots j (Some e))
added_where_empty j e [] h = refl
added_where_empty zero e (None ∷ slots) h = refl
added_where_empty zero e (Some d ∷ slots) h = absurd cc
added_where_empty (suc j) e (o ∷ slots) h = ap (λ (l : List (List ℕ)). buffer o ∷ l) (added_where_empty j e slots h)

-- ---- the slots, where the defaults below a position are filled in

abbrev pub mixed : ℕ → List FieldNode → Slots → List (List ℕ)
mixed j [] slots = []
mixed j (g ∷ gs) [] = []
mixed zero (g ∷ gs) (o ∷ slots) = buffer o ∷ mixed zero gs slots
mixed (suc j) (g ∷ gs) (o ∷ slots) = buffer (or_else o g.default) ∷ mixed j gs slots

mixed_first : (gs : List FieldNode) (slots : Slots) → length slots ≡ length gs → buffers slots ≡ mixed 0 gs slots
mixed_first [] [] l = refl
mixed_first [] (o ∷ slots) l = absurd (omega arith)
mixed_first (g ∷ gs) [] l = absurd (omega arith)
mixed_first (g ∷ gs) (o ∷ slots) l = ap (λ (rest : List (List ℕ)). buffer o ∷ rest) (mixed_first gs slots (omega arith))

mixed_same : (j : ℕ) (gs : List FieldNode) (slots : Slots) (g : FieldNode) (o : Option Datum) → slice_get gs j ≡ Some g → slice_get slots j ≡ Some o → buffer o ≡ buffer (or_else o g.default) → mixed j gs slots ≡ mixed (suc j) gs slots
mixed_same j [] slots g o e f h = refl
mixed_same j (x ∷ gs) [] g o e f h = absurd cc
mixed_same zero (x ∷ gs) (y ∷ slots) g o e f h =
    let field : g ≡ x = cc in
    let slot : o ≡ y = cc in
    ap (λ (b : List ℕ). b ∷ mixed 0 gs slots) (subst (λ (x : FieldNode). buffer y ≡ buffer (or_else y x.default)) field (subst (λ (y : Option Datum). buffer y ≡ buffer (or_else y g.default)) slot h))
mixed_same (suc j) (x ∷ gs) (y ∷ slots) g o e f h = ap (λ (l : List (List ℕ)). buffer (or_else y x.default) ∷ l) (mixed_same j gs slots g o e f h)

mixed_put : (j : ℕ) (gs : List FieldNode) (slots : Slots) (g : FieldNode) (d : Datum) → slice_get gs j ≡ Some g → slice_get slots j ≡ Some None → g.default ≡ Some d → add_to_slot j (written d) (mixed j gs slots) ≡ mixed (suc j) gs slots
mixed_put j [] slots g d e f h = refl
mixed_put j (x ∷ gs) [] g d e f h = absurd cc
mixed_put zero (x ∷ gs) (Some y ∷ slots) g d e f h = absurd cc
mixed_put zero (x ∷ gs) (None ∷ slots) g d e f h =
    let field : g ≡ x = cc in
    ap (λ (o : Option Datum). buffer o ∷ mixed 0 gs slots) (sym (subst (λ (x : FieldNode). x.default ≡ Some d) field h))
mixed_put (suc j) (x ∷ gs) (y ∷ slots) g d e f h = ap (λ (l : List (List ℕ)). buffer (or_else y x.default) ∷ l) (mixed_put j gs slots g d e f h)

pub mixed_last : (j : ℕ) (gs : List FieldNode) (slots : Slots) → slice_get gs j ≡ None → joined (mixed j gs slots) ≡ written_data (filled gs slots)
unfolding written
mixed_last j [] slots e = refl
mixed_last j (g ∷ gs) [] e = refl
mixed_last zero (g ∷ gs) (o ∷ slots) e = absurd cc
mixed_last (suc j) (g ∷ gs) (o ∷ slots) e = by_slot (or_else o g.default) (mixed_last j gs slots e)
  where
    by_slot : (o : Option Datum) → joined (mixed j gs slots) ≡ written_data (filled gs slots) → buffer o ++ joined (mixed j gs slots) ≡ written_data (given o (filled gs slots) (λ d. more d (filled gs slots)))
    by_slot None h = h
    by_slot (Some d) h = ap (λ (l : List ℕ). written d ++ l) h

-- ---- while fields are read

module _ (W R : List Node) where
  -- the slots so far, and what comes of the fields that are left
  abbrev pub fields_left : Resolved Slots → List Route → Data → Resolved Slots
  fields_left acc routes ds = acc >>= λ slots. resolved_fields W R slots routes ds

  -- the slots of the fields that are left are free
  abbrev pub Keeps : List Route → Resolved Slots → Type 0
  Keeps routes (Ok slots) = AreFree routes slots
  Keeps routes (Err m) = Unit {0}

  abbrev pub put_in : ℕ → Resolved Slots → Resolved Datum → Resolved Slots
  put_in j acc res = acc >>= λ slots. res >>= λ e. Ok (slice_set slots j (Some e))

  pub keeps_later : (r : Route) (others : List Route) (acc : Resolved Slots) → Keeps (r ∷ others) acc → Keeps others acc
  keeps_later r others (Ok slots) k = free_later r others slots k
  keeps_later r others (Err m) k = tt

  pub keeps_put : (r : Route) (others : List Route) (p : Partner) (acc : Resolved Slots) (res : Resolved Datum) → r.partner ≡ Some p → AreApart (r ∷ others) → Keeps (r ∷ others) acc → Keeps others (put_in p.position acc res)
  keeps_put r others p (Ok slots) (Ok e) is apart k = still_free r others p slots (Some e) is apart k
  keeps_put r others p (Ok slots) (Err m) is apart k = tt
  keeps_put r others p (Err m) res is apart k = tt

  pub left_end : (acc : Resolved Slots) → acc ≡ fields_left acc [] no_more
  unfolding resolved
  left_end (Ok slots) = refl
  left_end (Err m) = refl

  pub left_drop : (acc : Resolved Slots) (r : Route) (others : List Route) (d : Datum) (ds : Data) → r.partner ≡ None → fields_left acc others ds ≡ fields_left acc (r ∷ others) (more d ds)
  unfolding resolved
  left_drop (Ok slots) r others d ds h = rw h refl
  left_drop (Err m) r others d ds h = refl

  pub left_keep : (acc : Resolved Slots) (r : Route) (others : List Route) (p : Partner) (d : Datum) (ds : Data) → r.partner ≡ Some p → fields_left (put_in p.position acc (resolved W R r.node p.node d)) others ds ≡ fields_left acc (r ∷ others) (more d ds)
  unfolding resolved
  left_keep (Err m) r others p d ds h = refl
  left_keep (Ok slots) r others p d ds h = rw h (by_value (resolved W R r.node p.node d))
    where
      by_value : (res : Resolved Datum) → ((res >>= λ e. Ok (slice_set slots p.position (Some e))) >>= λ slots. resolved_fields W R slots others ds) ≡ (res >>= λ e. resolved_fields W R (slice_set slots p.position (Some e)) others ds)
      by_value (Ok e) = refl
      by_value (Err m) = refl

  -- a value's bytes in its slot
  pub slot_bytes : (r : Route) (others : List Route) (p : Partner) (acc : Resolved Slots) (res : Resolved Datum) → r.partner ≡ Some p → Keeps (r ∷ others) acc → ((acc >>= λ slots. Ok (buffers slots)) >>= λ c. (res >>= λ d. Ok (written d)) >>= λ x. Ok (add_to_slot p.position x c)) ≡ (put_in p.position acc res >>= λ slots. Ok (buffers slots))
  slot_bytes r others p (Err m) res is k = refl
  slot_bytes r others p (Ok slots) (Err m) is k = refl
  slot_bytes r others p (Ok slots) (Ok e) is k = ap Ok (added_where_empty p.position e slots (free_here r others p slots is k))

  -- ---- when all are read

  length_resolved : (others : List Route) (ds : Data) (slots final : Slots) (n : ℕ) → length slots ≡ n → resolved_fields W R slots others ds ≡ Ok final → length final ≡ n
  unfolding resolved
  length_resolved [] ds slots final n l h = ap length (let same : final ≡ slots = cc in same) ∙ l
  length_resolved (r ∷ others) no_more slots final n l h = ap length (let same : final ≡ slots = cc in same) ∙ l
  length_resolved (r ∷ others) (more d ds) slots final n l h =
      one_put W R r d (λ slots. resolved_fields W R slots others ds) (λ slots. length slots ≡ n) final (λ slots l h. length_resolved others ds slots final n l h) r.partner slots l (by_partner r.partner) h
    where
      by_partner : (o : Option Partner) → IfSome o (λ p. (e : Datum) → resolved W R r.node p.node d ≡ Ok e → length (slice_set slots p.position (Some e)) ≡ n)
      by_partner None = tt
      by_partner (Some p) = λ e k. length-set slots p.position (Some e) ∙ l

  module _ (fs gs : List FieldNode) where
    -- there is a slot for each of the reader's fields, filled where the field has a partner
    abbrev pub Known : Resolved Slots → Type 0
    Known (Ok slots) = (length slots ≡ length gs) × ((j : ℕ) → is_filled W R j slots ≡ has_partner j (routes fs gs))
    Known (Err m) = Unit {0}

    pub all_known : (ds : Data) (res : Resolved Slots) → how_many ds ≡ length fs → resolved_fields W R (no_slots gs) (routes fs gs) ds ≡ res → Known res
    all_known ds (Ok slots) l e = (length_resolved (routes fs gs) ds (no_slots gs) slots (length gs) (length_no_slots gs) e, λ j. filled_by_partners W R fs gs ds slots j l e)
    all_known ds (Err m) l e = tt

    full_at : (slots : Slots) (j : ℕ) → is_filled W R j slots ≡ true → (d : Datum) × (slice_get slots j ≡ Some (Some d))
    full_at [] j h = absurd cc
    full_at (None ∷ slots) zero h = absurd cc
    full_at (Some d ∷ slots) zero h = (d, refl)
    full_at (o ∷ slots) (suc j) h = full_at slots j h

    empty_at : (slots : Slots) (j : ℕ) → j < length slots → is_filled W R j slots ≡ false → slice_get slots j ≡ Some None
    empty_at [] j lt h = absurd (omega arith)
    empty_at (None ∷ slots) zero lt h = refl
    empty_at (Some d ∷ slots) zero lt h = absurd cc
    empty_at (o ∷ slots) (suc j) lt h = empty_at slots j (omega arith) h

    -- a default that puts nothing
    puts_nothing : (o : Option Datum) → PutsNothing o → [] ≡ buffer o
    puts_nothing None h = refl
    puts_nothing (Some d) h = sym h

    -- on slots, or the same mismatch
    on_slots : (res : Resolved Slots) → Known res → (f g : Slots → List (List ℕ)) → ((slots : Slots) → Known (Ok slots) → f slots ≡ g slots) → (res >>= λ slots. Ok (f slots)) ≡ (res >>= λ slots. Ok (g slots))
    on_slots (Ok slots) k f g h = ap Ok (h slots k)
    on_slots (Err m) k f g h = refl

    pub from_first : (res : Resolved Slots) → Known res → (res >>= λ slots. Ok (buffers slots)) ≡ (res >>= λ slots. Ok (mixed 0 gs slots))
    from_first res k = on_slots res k buffers (mixed 0 gs) (λ slots k. mixed_first gs slots k.0)

    pub past_partner : (res : Resolved Slots) (j : ℕ) (g : FieldNode) → Known res → slice_get gs j ≡ Some g → has_partner j (routes fs gs) ≡ true → (res >>= λ slots. Ok (mixed j gs slots)) ≡ (res >>= λ slots. Ok (mixed (suc j) gs slots))
    past_partner res j g k at has = on_slots res k (mixed j gs) (mixed (suc j) gs) (λ slots k. let x = full_at slots j (k.1 j ∙ has) in mixed_same j gs slots g (Some x.0) at x.1 refl)

    pub past_nothing : (res : Resolved Slots) (j : ℕ) (g : FieldNode) → Known res → j < length gs → slice_get gs j ≡ Some g → has_partner j (routes fs gs) ≡ false → PutsNothing g.default → (res >>= λ slots. Ok (mixed j gs slots)) ≡ (res >>= λ slots. Ok (mixed (suc j) gs slots))
    past_nothing res j g k lt at has none = on_slots res k (mixed j gs) (mixed (suc j) gs) (λ slots k. mixed_same j gs slots g None at (empty_at slots j (omega (arith, lt, k.0)) (k.1 j ∙ has)) (puts_nothing g.default none))

    pub past_default : (res : Resolved Slots) (j : ℕ) (g : FieldNode) (d : Datum) → Known res → j < length gs → slice_get gs j ≡ Some g → has_partner j (routes fs gs) ≡ false → g.default ≡ Some d
        → ((res >>= λ slots. Ok (mixed j gs slots)) >>= λ c. Ok (written d) >>= λ x. Ok (add_to_slot j x c)) ≡ (res >>= λ slots. Ok (mixed (suc j) gs slots))
    past_default (Err m) j g d k lt at has is = refl
    past_default (Ok slots) j g d k lt at has is = ap Ok (mixed_put j gs slots g d at (empty_at slots j (omega (arith, lt, k.0)) (k.1 j ∙ has)) is)
