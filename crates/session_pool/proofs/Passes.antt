-- A pass after a call.
use Rattle.std.proofs.Common.{◌≡◌, ℕ, List, [], ◌∷◌, ◌++◌, Some, refl, sym, ap, ◌∙◌, subst}
use Rattle.spec_machine.specs.Program.{Program}
use Rattle.spec_sessions.specs.Session.{Session}
use Rattle.session_pool_slots.specs.Results.{Finds, GaveBack, HasIn, Others, TookOut}
use Rattle.session_pool_slots.specs.Steps.{handing, pass_in, pass_out}
use Rattle.session_pool_slots.specs.Views.{Handed}
use Rattle.session_pool_slots.specs.Words.{ready}
use Rattle.spec_sessions.specs.Account.{Account}
use Rattle.session_pool_slots.specs.Account.{At, RowsOn, has_ended, kept, new_account}
use Rattle.session_pool_slots.specs.Known.{Known, PassData, pass_of}
use Rattle.session_pool_slots.proofs.Accounts.{rows_keep}
use Rattle.session_pool_slots.specs.declared.slots.SlotSeat.{SlotSeat}
use Rattle.spec_sessions.specs.ProgramPair.{Pair}
use Rattle.session_pool_slots.specs.Opening.{HasBegun}
use Rattle.session_pool_slots.specs.Seats.{knows}
use Rattle.session_pool_slots.specs.Taking.{TakesOut}
use Rattle.session_pool.specs.declared.pool.ClientSeat.{ClientSeat}
use Rattle.spec_sessions.specs.Pass.{Pass}
use Rattle.session_pool.specs.Seats.{HandsBack, IsPassOf, account_or, left_or, told}

module _ (P : Program) (old mid new : Known) (i slot word : ℕ) (y x : Session) (same : i ≡ slot) (has : HasIn old slot) (its : (account_or P (pass_of slot old)).program ≡ P) (took : (p : PassData) → pass_of i old ≡ Some p → TookOut At has_ended old i p word y mid) where
  there : pass_of i old ≡ Some has.pass
  there = ap (λ (k : ℕ). pass_of k old) same ∙ has.there

  out : TookOut At has_ended old i has.pass word y mid
  out = took has.pass there

  before : account_or P (pass_of slot old) ≡ has.pass.account
  before = ap (account_or P) has.there

  -- the account fits the session that was taken out
  pub fits : At (account_or P (pass_of slot old)) y
  fits = subst (λ (a : Account). At a y) (sym before) out.fits

  pub found : Finds old slot word mid
  found = subst (λ (k : ℕ). Finds old k word mid) same out.found

  module _ (back : Account → Session → Account) (left_word : ℕ) (gave : GaveBack back mid i x left_word new) where
    now : pass_of slot new ≡ Some (pass_in (back has.pass.account x) left_word)
    now = ap (λ (k : ℕ). pass_of k new) (sym same) ∙ gave.now (pass_out has.pass y) out.now

    pub is_in : HasIn new slot
    is_in = record { pass = pass_in (back has.pass.account x) left_word; inside = has.inside; there = now; home = refl }

    pub told_now : account_or P (pass_of slot new) ≡ back (account_or P (pass_of slot old)) x
    told_now = ap (account_or P) now ∙ ap (λ (a : Account). back a x) (sym before)

    pub left_now : left_or (pass_of slot new) ≡ left_word
    left_now = ap left_or now

    pub program_now : (back has.pass.account x).program ≡ y.program → (account_or P (pass_of slot new)).program ≡ P
    program_now runs = ap (λ o. (account_or P o).program) now ∙ (runs ∙ (out.fits.program ∙ (sym (ap (λ (a : Account). a.program) before) ∙ its)))

    pub others_now : Others old slot new
    others_now other not = gave.others other (λ e. not (e ∙ same)) ∙ out.others other (λ e. not (e ∙ same))

    -- what it gave back, beside what it had taken, and nothing else
    pub handed_now : new.handed ≡ old.handed ++ handing slot y x (left_or (pass_of slot new)) ∷ []
    handed_now = gave.handed (pass_out has.pass y) y out.now refl
        ∙ (ap (λ (l : List (Handed Session)). l ++ handing i y x left_word ∷ []) out.handed
        ∙ (ap (λ (k : ℕ). old.handed ++ handing k y x left_word ∷ []) same
        ∙ ap (λ (w : ℕ). old.handed ++ handing slot y x w ∷ []) (sym left_now)))

    pub found_now : Finds old slot word new
    found_now = record { before = found.before; after = found.after; found = gave.found ∙ found.found }

    pub leaves_it : left_word ≡ word → Finds old slot (left_or (pass_of slot new)) new
    leaves_it e = subst (λ (w : ℕ). Finds old slot w new) (sym (left_now ∙ e)) found_now

-- ---- rows that are reported

pub rows_run : (y x : Session) → RowsOn y x → x.program ≡ y.program
rows_run y x on = (rows_keep y x on).program

-- ---- a seat and its pass

module _ (pass : Pass) (old : ClientSeat) (mid new : SlotSeat) (i word : ℕ) (y x : Session) (same : i ≡ pass.slot) (is : IsPassOf old pass) (took : TakesOut old.slots i word y mid) where
  abbrev P : Program
  P = pass.pair.program

  -- the account fits the session that was taken out
  pub fits_pass : At (told old pass) y
  fits_pass = fits P (knows old.slots) (knows mid) (knows new) i pass.slot word y x same is.slot is.program took.took

  module _ (back : Account → Session → Account) (left_word : ℕ) (gave : GaveBack back (knows mid) i x left_word (knows new)) where
    pub still : ((a : Account) → (back a x).program ≡ y.program) → IsPassOf (record old { slots = new }) pass
    still runs = record {
      slot = is_in P (knows old.slots) (knows mid) (knows new) i pass.slot word y x same is.slot is.program took.took back left_word gave;
      program = program_now P (knows old.slots) (knows mid) (knows new) i pass.slot word y x same is.slot is.program took.took back left_word gave (runs is.slot.pass.account);
    }

    pub hands_back : HandsBack old pass y x (record old { slots = new })
    hands_back = record {
      fits = fits_pass;
      handed = handed_now P (knows old.slots) (knows mid) (knows new) i pass.slot word y x same is.slot is.program took.took back left_word gave;
    }

    pub told_then : told (record old { slots = new }) pass ≡ back (told old pass) x
    told_then = told_now P (knows old.slots) (knows mid) (knows new) i pass.slot word y x same is.slot is.program took.took back left_word gave

  pub still_kept : (left_word : ℕ) → GaveBack kept (knows mid) i x left_word (knows new) → x.program ≡ y.program → IsPassOf (record old { slots = new }) pass
  still_kept left_word gave runs = still kept left_word gave (λ a. runs)

-- a pass for a session that has begun
pub has_begun : (old : Known) (new : ClientSeat) (slot : ℕ) (pair : Pair) (pass : Pass) → pass ≡ record { slot = slot; pair = pair } → HasBegun old slot pair.program (knows new.slots) → IsPassOf new pass
has_begun old new slot pair pass e h = subst (IsPassOf new) (sym e) (record {
  slot = record { pass = pass_in (new_account pair.program) ready; inside = h.inside; there = h.now; home = refl };
  program = ap (λ o. (account_or pair.program o).program) h.now;
})
