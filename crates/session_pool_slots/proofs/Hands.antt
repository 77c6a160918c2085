-- A client's session, from its slot into the client's hands.
use Rattle.std.proofs.Common.{◌≡◌, ℕ, List, [], ◌∷◌, Option, Some, None, IsSome, subst, sym, refl, ap, ◌∙◌}
use Rattle.atomic_table.specs.Table.{rest}
use Rattle.spec_sessions.specs.Session.{Session}
use Rattle.session_pool_slots.specs.Results.{HasIn, TookOut}
use Rattle.session_pool_slots.proofs.Calls.{Took, came_out, has_first, lifted, put_in}
use Rattle.session_pool_slots.specs.declared.slots.SlotSeat.{SlotSeat}
use Rattle.session_pool_slots.specs.Account.{At, has_ended}
use Rattle.session_pool_slots.specs.Kinds.{Seat}
use Rattle.session_pool_slots.specs.Known.{Known, PassData, pass_of}
use Rattle.session_pool_slots.specs.Seats.{HoldsNothing, knows}
use Rattle.session_pool_slots.specs.Taking.{HasTaken, TakesOut}

-- the seat rested before
pub has_taken : (old new : SlotSeat) (i r : ℕ) (p : PassData) → HoldsNothing old → Took At has_ended old.seat.me i p r new.seat.me → HasTaken old i p r new
has_taken old new i r p bare t = record { session = t.session; took = t.took; holds = t.holds ∙ ap (λ (l : List (ℕ × Option Session)). (i, Some t.session) ∷ l) bare }

module _ (old mid : SlotSeat) (i r : ℕ) where
  -- for each pass that the seat had, its session is out
  abbrev Taken : Type 0
  Taken = (p : PassData) → pass_of i (knows old) ≡ Some p → HasTaken old i p r mid

  -- the content can be exchanged
  pub is_first : HasIn (knows old) i → Taken → (y : Option Session) × (mid.seat.me.1 ≡ (i, y) ∷ rest mid.seat.me.1)
  is_first has taken = let t = taken has.pass has.there in (Some t.session, has_first mid.seat.me.1 i (Some t.session) t.holds)

  -- it is a session
  pub comes_out : (o : Option Session) → HasIn (knows old) i → Taken → mid.seat.me.1 ≡ (i, o) ∷ rest mid.seat.me.1 → IsSome o
  comes_out o has taken out = let t = taken has.pass has.there in
      let e : o ≡ Some t.session = came_out mid.seat.me.1 i (Some t.session) o [] (rest mid.seat.me.1) t.holds out in subst (λ (z : Option Session). IsSome z) (sym e) refl

  -- and comes out
  pub takes_out : (new : SlotSeat) (x : Session) (o : Option Session) → HasIn (knows old) i → Taken → mid.seat.me.1 ≡ (i, o) ∷ rest mid.seat.me.1 → o ≡ Some x → new.seat.me ≡ (mid.seat.me.0, (i, None) ∷ rest mid.seat.me.1) → TakesOut old i r x new
  takes_out new x o has taken out is now = let u = taken has.pass has.there in let e : new.seat.me ≡ (mid.seat.me.0, (i, None) ∷ []) = put_in mid.seat.me new.seat.me i (Some u.session) None [] u.holds now in record {
    holds = ap (λ (m : Seat). m.1) e;
    took = λ p there. let t = taken p there in
        subst (λ (w : Known). TookOut At has_ended (knows old) i p r x w) (sym (ap (λ (m : Seat). m.0) e))
        (subst (λ (y : Session). TookOut At has_ended (knows old) i p r y (knows mid)) (sym (lifted mid.seat.me.1 i t.session x o [] (rest mid.seat.me.1) t.holds out is)) t.took);
  }
