-- The laws of rows, from what holds of the row of each instruction.
use Rattle.std.proofs.Common.{◌≡◌, ◌≢◌, inl, inr, ℕ, ◌+◌, Bool, true, List, Option, Some, None, refl, sym, ap, ◌∙◌, subst, arith, slice_get}
use Rattle.std.specs.Prelude.{is_some, option_map}
use Rattle.spec_machine.specs.Program.{Program}
use Rattle.spec_machine.specs.State.{End, State, start}
use Rattle.isa.specs.Bounds.{IsBounded}
use Rattle.spec_machine.specs.Row.{counted, row_at, row_of}
use Rattle.isa.proofs.Proper.{Proper, Steps, at_proper}

abbrev one_more : State → State
one_more new = record new { count = new.count + 1 }

module _ (P : Program) (p : List ℕ) where
  is_there : (s : State) (x : Option State) → Proper true s x → is_some (option_map one_more x) ≡ true
  is_there s None h = absurd cc
  is_there s (Some d) h = refl

  there_at : (e : Option End) (s : State) → s.end ≡ e → e ≡ None → is_some (counted P p true e s) ≡ true
  there_at (Some e) s h n = absurd cc
  there_at None s h n = is_there s (row_at P p true (slice_get P.code s.pc) s) (at_proper P p true s h (slice_get P.code s.pc))

  pub row_there : (s : State) → s.end ≡ None → is_some (row_of P p true s) ≡ true
  unfolding row_of
  row_there s h = there_at s.end s refl h

module _ (P : Program) (p : List ℕ) (ended : Bool) where
  -- the row before it is counted
  abbrev Before : State → State → Type 0
  Before s d = (new : State) × (d ≡ one_more new) × Steps s new

  before : (s d : State) (x : Option State) → Proper ended s x → option_map one_more x ≡ Some d → Before s d
  before s d None h e = absurd cc
  before s d (Some new) h e = (new, (let same : one_more new ≡ d = cc in sym same), h)

  before_at : (e : Option End) (s d : State) → s.end ≡ e → counted P p ended e s ≡ Some d → Before s d
  before_at (Some e) s d h r = absurd cc
  before_at None s d h r = before s d (row_at P p ended (slice_get P.code s.pc) s) (at_proper P p ended s h (slice_get P.code s.pc)) r

  steps : (s d : State) → row_of P p ended s ≡ Some d → Before s d
  unfolding row_of
  steps s d r = before_at s.end s d refl r

  ends_so : (s d new : State) → d ≡ one_more new → Steps s new → d.end ≢ None → d ≡ record s { count = s.count + 1; end = d.end }
  ends_so s d new e (inl go) some = absurd (some (ap (λ (x : State). x.end) e ∙ go.0))
  ends_so s d new e (inr same) some = e ∙ ap one_more same ∙ ap (λ (x : Option End). record s { count = s.count + 1; end = x }) (sym (ap (λ (x : State). x.end) e))

  pub only_the_end : (s d : State) → row_of P p ended s ≡ Some d → d.end ≢ None → d ≡ record s { count = s.count + 1; end = d.end }
  only_the_end s d r some = let b = steps s d r in ends_so s d b.0 b.1 b.2 some

  bounded_so : (s d new : State) → d ≡ one_more new → Steps s new → IsBounded s → IsBounded d
  bounded_so s d new e (inl go) b = subst IsBounded (sym e) (go.1 b)
  bounded_so s d new e (inr same) b = subst IsBounded (sym (e ∙ ap one_more same)) b

  pub stays_bounded : (s d : State) → row_of P p ended s ≡ Some d → IsBounded s → IsBounded d
  stays_bounded s d r b = let k = steps s d r in bounded_so s d k.0 k.1 k.2 b

pub start_bounded : IsBounded start
start_bounded = record { frames_few = omega arith; calls_few = omega arith; units_few = omega arith; bytes_few = omega arith }
