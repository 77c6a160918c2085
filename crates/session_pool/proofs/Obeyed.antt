-- What a command came to on a session, and what its call then says of the pass.
use Rattle.std.proofs.Common.{◌≡◌, ◌⊎◌, ◌≤◌, ℕ, Bool, true, false, Result, Ok, Err, refl, sym, ◌∙◌, subst}
use Rattle.spec_sessions.specs.Account.{Account}
use Rattle.spec_sessions.specs.Pass.{Pass}
use Rattle.spec_sessions.specs.Session.{Session}
use Rattle.session_pool_slots.specs.Account.{NoRows}
use Rattle.session_pool_slots.specs.Known.{Known, pass_of}
use Rattle.session_pool_slots.specs.Results.{GaveBack, HasOut}
use Rattle.session_pool_slots.specs.Seats.{knows}
use Rattle.session_pool_slots.specs.Taking.{TakesOut}
use Rattle.session_pool_slots.specs.Words.{ended, ready}
use Rattle.session_pool_slots.specs.declared.slots.SlotSeat.{SlotSeat}
use Rattle.session_pool.specs.Debugging.{Answers, Debugs, Leaves, LeavesBy, LeavesDone}
use Rattle.session_pool.specs.Obeying.{IsFitBack, IsObeyed, RowsBy, account_by}
use Rattle.session_pool.specs.Seats.{HandsBack, IsPassOf, left_or, told}
use Rattle.session_pool.specs.declared.debug_error.DebugError.{DebugError}
use Rattle.session_pool.specs.declared.debug_error.DebugError.TheVariants.{BadAddress, Busy, NoMemory, TooManyBreaks}
use Rattle.session_pool.specs.declared.debugging.DebugCommand.{DebugCommand}
use Rattle.session_pool.specs.declared.debugging.DebugCommand.TheVariants as ask
use Rattle.session_pool.specs.declared.debugging.DebugReply.{DebugReply}
use Rattle.session_pool.specs.declared.debugging.Obeyed.{Obeyed}
use Rattle.session_pool.specs.declared.pool.ClientSeat.{ClientSeat}
use Rattle.session_pool.proofs.Passes.{fits_pass, hands_back, leaves_it, left_now, rows_run, still, told_then}

-- ---- giving it back

pub runs_by : (tells : Bool) (y x : Session) → RowsBy tells y x → x.program ≡ y.program
runs_by true y x rows = rows_run y x rows
runs_by false y x rows = rows.program

account_program : (tells : Bool) (a : Account) (x : Session) → (account_by tells a x).program ≡ x.program
account_program true a x = refl
account_program false a x = refl

module _ (v : Known) (slot : ℕ) (x : Session) (tells : Bool) (has : HasOut v slot (IsFitBack tells x)) where
  pub out_kept : tells ≡ false → HasOut v slot (λ pass before. NoRows before x × (pass.account.seen ≤ x.count))
  out_kept e = let rows : NoRows has.session x = subst (λ (b : Bool). RowsBy b has.session x) e has.holds.0 in record {
    pass = has.pass;
    session = has.session;
    inside = has.inside;
    there = has.there;
    out = has.out;
    holds = (rows, subst (λ (n : ℕ). has.pass.account.seen ≤ n) (sym rows.count) has.holds.1);
  }

-- ---- the reply

debugs_by : (command : DebugCommand) (r : Result DebugReply DebugError) (old : ClientSeat) (pass : Pass) (new : ClientSeat) (y x : Session) (A C : Type 0) → HandsBack old pass y x new
    → Answers command (told old pass) y r x (told new pass) → LeavesBy command r A ⊥ C → Debugs command old pass r new
debugs_by command (Ok reply) old pass new y x A C h a l = (y, x, h, a)
debugs_by command (Err Busy) old pass new y x A C h a l = absurd l
debugs_by command (Err BadAddress) old pass new y x A C h a l = (y, x, h, a)
debugs_by command (Err TooManyBreaks) old pass new y x A C h a l = (y, x, h, a)
debugs_by command (Err NoMemory) old pass new y x A C h a l = (y, x, h, a)

leaves_done : (command : DebugCommand) {A C D F : Type 0} → (A → D) → (C → F) → LeavesDone command A C → LeavesDone command D F
leaves_done (ask.Set address) f g l = g l
leaves_done (ask.Clear address) f g l = f l
leaves_done (ask.Step limit) f g l = f l
leaves_done (ask.Go limit) f g l = f l
leaves_done ask.Show f g l = g l
leaves_done ask.List f g l = g l

leaves_by : (command : DebugCommand) (r : Result DebugReply DebugError) {A C D F : Type 0} (E : Type 0) → (A → D) → (C → F) → LeavesBy command r A ⊥ C → LeavesBy command r D E F
leaves_by command (Ok reply) E f g l = leaves_done command f g l
leaves_by command (Err Busy) E f g l = absurd l
leaves_by command (Err BadAddress) E f g l = g l
leaves_by command (Err TooManyBreaks) E f g l = g l
leaves_by command (Err NoMemory) E f g l = g l

-- ---- the whole call

module _ (command : DebugCommand) (pass : Pass) (old : ClientSeat) (mid new : SlotSeat) (i word : ℕ) (y x : Session) (same : i ≡ pass.slot) (is : IsPassOf old pass) (took : TakesOut old.slots i word y mid)
    (o : Obeyed) (obeyed : IsObeyed command word y x o) where
  module _ (gave : GaveBack (account_by o.tells) (knows mid) i x o.word (knows new)) where
    pub still_passes : IsPassOf (record old { slots = new }) pass
    still_passes = still pass old mid new i word y x same is took (account_by o.tells) o.word gave (λ a. account_program o.tells a x ∙ runs_by o.tells y x obeyed.rows)

    pub debugs : Debugs command old pass o.reply (record old { slots = new })
    debugs = debugs_by command o.reply old pass (record old { slots = new }) y x _ _ (hands_back pass old mid new i word y x same is took (account_by o.tells) o.word gave)
        (subst (λ (a : Account). Answers command (told old pass) y o.reply x a) (sym (told_then pass old mid new i word y x same is took (account_by o.tells) o.word gave)) (obeyed.answers (told old pass) (fits_pass pass old mid new i word y x same is took)))
        obeyed.left

    left_is : left_or (pass_of pass.slot (knows new)) ≡ o.word
    left_is = left_now pass.pair.program (knows old.slots) (knows mid) (knows new) i pass.slot word y x same is.slot is.program took.took (account_by o.tells) o.word gave

    pub leaves : Leaves command o.reply old pass (record old { slots = new })
    leaves = leaves_by command o.reply _ (λ w. subst (λ (k : ℕ). (k ≡ ready) ⊎ (k ≡ ended)) (sym left_is) w)
        (λ e. leaves_it pass.pair.program (knows old.slots) (knows mid) (knows new) i pass.slot word y x same is.slot is.program took.took (account_by o.tells) o.word gave e) obeyed.left
