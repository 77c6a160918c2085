-- The word that a slice leaves is that of a session at home.
use Rattle.std.proofs.Common.{◌≡◌, ℕ, Bool, true, false, List, Option, Some, None, is_some, option_map, if◌then◌else◌, subst, sym, refl, ap, ◌∙◌, arith}
use Rattle.std.specs.Option.{option_and_then}
use Rattle.spec_machine.specs.State as states
use Rattle.spec_machine.specs.State.{State}
use Rattle.machine.specs.Slice.{IsWhy}
use Rattle.session_core.specs.declared.session.Stopped.{Stopped}
use Rattle.session_core.specs.declared.session.Stopped.TheVariants.{Broke, Ended, Spent, Waits}
use Rattle.spec_sessions.specs.Session.{OutOfMemory, Session, machine_end, session_end, state_of}
use Rattle.session_core.specs.Stopping.{IsStopped, IsStoppedAs, why_of}
use Rattle.session_pool_slots.specs.Words.{IsWordOf, ready, waiting}
use Rattle.session_pool_slots.specs.Account.{has_ended}
use Rattle.session_pool_slots.specs.Leaving.{word_after_slice}
use Rattle.session_pool_slots.proofs.Leaving.{goes_on, is_ended}

map_is_some : (o : Option states.End) → is_some (option_map session_end o) ≡ is_some o
map_is_some None = refl
map_is_some (Some end) = refl

-- a session whose memory did not run out has ended where its machine has
over_is : (s : Session) (t : State) → s.out_of_memory ≡ false → state_of s ≡ Some t → has_ended s ≡ is_some t.end
over_is s t running alone =
    ap (λ (b : Bool). is_some (if b then Some OutOfMemory else option_map session_end (machine_end s))) running
    ∙ (ap (λ (o : Option State). is_some (option_map session_end (option_and_then (λ (u : State). u.end) o))) alone
    ∙ map_is_some t.end)

module _ (breaks : List ℕ) (k rows : ℕ) (s : Session) where
  by_state : (z : Stopped) (over : Bool) (t : State) → over ≡ is_some t.end → IsWhy s.program s.bytes s.closed breaks (why_of z) k rows t → IsWordOf over (word_after_slice z)
  by_state Ended over t is why = is_ended over (is ∙ why)
  by_state Spent over t is why = goes_on over ready (omega arith) (omega arith) (is ∙ ap (λ (o : Option states.End). is_some o) why.0)
  by_state Broke over t is why = goes_on over waiting (omega arith) (omega arith) (is ∙ ap (λ (o : Option states.End). is_some o) why.0.runs)
  by_state Waits over t is why = goes_on over waiting (omega arith) (omega arith) (is ∙ ap (λ (o : Option states.End). is_some o) why.0.runs)

  by_memory : (stopped : Stopped) (b : Bool) → s.out_of_memory ≡ b → IsStoppedAs b breaks k rows stopped s → IsWordOf (has_ended s) (word_after_slice stopped)
  by_memory stopped true e is = subst (λ (z : Stopped). IsWordOf (has_ended s) (word_after_slice z)) (sym is)
      (is_ended (has_ended s) (ap (λ (b : Bool). is_some (if b then Some OutOfMemory else option_map session_end (machine_end s))) e))
  by_memory stopped false e why = by_state stopped (has_ended s) why.0 (over_is s why.0 e why.1) why.2

  pub stop_word : (stopped : Stopped) → IsStopped breaks k rows stopped s → IsWordOf (has_ended s) (word_after_slice stopped)
  stop_word stopped is = by_memory stopped s.out_of_memory refl is
