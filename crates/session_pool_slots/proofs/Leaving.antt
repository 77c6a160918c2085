-- The words that sessions leave are words of sessions at home.
use Rattle.std.proofs.Common.{◌≡◌, ◌<◌, ℕ, Bool, true, false, refl, sym, ◌∙◌, arith, true≢false}
use Rattle.spec_machine.specs.Program.{Program}
use Rattle.spec_machine.specs.Alone.{rows_from}
use Rattle.spec_sessions.specs.Session.{begun}
use Rattle.session_pool_slots.specs.Words.{IsWordOf, ended, free}
use Rattle.session_pool_slots.specs.Account.{has_ended}

pub is_ended : (over : Bool) → over ≡ true → IsWordOf over ended
is_ended over e = (omega arith, omega arith, ((λ _. refl), (λ _. e)))

-- a session that goes on leaves waiting or ready
pub goes_on : (over : Bool) (word : ℕ) → free < word → word < ended → over ≡ false → IsWordOf over word
goes_on over word low high e = (low, omega arith, ((λ t. absurd (true≢false (sym t ∙ e))), (λ t. absurd (omega arith))))

-- a session that begins has not ended
pub begun_goes_on : (P : Program) → has_ended (begun P) ≡ false
unfolding rows_from
begun_goes_on P = refl
