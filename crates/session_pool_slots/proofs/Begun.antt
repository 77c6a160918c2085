-- A session that begins in the first slot that is free.
use Rattle.std.proofs.Common.{◌≡◌, ◌<◌, ℕ, List, [], ◌∷◌, ◌++◌, Option, None, get_or, refl, sym, ap, ◌∙◌}
use Rattle.spec_machine.specs.Program.{Program}
use Rattle.spec_sessions.specs.Session.{Session, begun}
use Rattle.session_pool_slots.specs.Words.{free, ready, slots}
use Rattle.session_pool_slots.specs.Views.{Handed}
use Rattle.session_pool_slots.specs.Steps.{handing, new_pass}
use Rattle.session_pool_slots.specs.Results.{GaveBack, HasSame, IsOccupied, Searched, words_of}
use Rattle.session_pool_slots.proofs.Calls.{searched_then}
use Rattle.session_pool_slots.specs.declared.slots.SlotSeat.{SlotSeat}
use Rattle.session_pool_slots.specs.Account.{kept, opened}
use Rattle.session_pool_slots.specs.Known.{PassData, pass_of}
use Rattle.session_pool_slots.specs.Opening.{HasBegun, HasClaimed}
use Rattle.session_pool_slots.specs.Seats.{knows}

-- the seat when the search began, before the slot was claimed, after that, and after the session was given back
pub has_begun : (first old mid new : SlotSeat) (i : ℕ) (P : Program) → i < slots → HasSame (knows first) (knows old) → Searched IsOccupied (knows first) i [] (knows old)
    → (knows mid).found ≡ (knows old).found ++ words_of i (free ∷ free ∷ []) → HasClaimed old i (begun P) mid → GaveBack kept (knows mid) i (begun P) ready (knows new)
    → HasBegun (knows first) i P (knows new)
has_begun first old mid new i P inside same passed found claim gave =
    let as_before : (k : ℕ) → pass_of k (knows old) ≡ pass_of k (knows first) = λ k. ap (λ (l : List (Option PassData)). get_or l k None) same.passes in record {
      inside = inside;
      found = searched_then IsOccupied (knows first) (knows old) (knows new) i (free ∷ free ∷ []) passed (gave.found ∙ found);
      fresh = sym (as_before i) ∙ claim.claimed.fresh;
      now = gave.now (new_pass (opened (begun P)) (begun P)) claim.claimed.pass;
      handed = gave.handed (new_pass (opened (begun P)) (begun P)) (begun P) claim.claimed.pass refl ∙ ap (λ (l : List (Handed Session)). l ++ handing i (begun P) (begun P) ready ∷ []) (claim.claimed.handed ∙ same.handed);
      others = λ k ne. gave.others k ne ∙ (claim.claimed.others k ne ∙ as_before k);
    }

-- the slot was looked at, and then claimed
pub claimed_later : (old mid new : SlotSeat) (i : ℕ) (x : Session) → HasSame (knows old) (knows mid) → HasClaimed mid i x new → HasClaimed old i x new
claimed_later old mid new i x same claim =
    let as_before : (k : ℕ) → pass_of k (knows mid) ≡ pass_of k (knows old) = λ k. ap (λ (l : List (Option PassData)). get_or l k None) same.passes in record {
      claimed = record {
        fresh = sym (as_before i) ∙ claim.claimed.fresh;
        pass = claim.claimed.pass;
        others = λ k ne. claim.claimed.others k ne ∙ as_before k;
        handed = claim.claimed.handed ∙ same.handed;
      };
      kept = claim.kept;
      holds = claim.holds;
    }
