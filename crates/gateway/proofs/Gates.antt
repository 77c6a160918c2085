-- What a gate was asked in calls one after another.
use Rattle.std.proofs.Common.{Bool, false}
use Rattle.gateway_core.specs.declared.gate.Place.{Place}
use Rattle.gateway_core.specs.declared.gate.Place.TheVariants.{Waiting}
use Rattle.gateway_core.specs.Gates.{Asked, SaidNo, never, once_more}

module _ {G : Type 0} (says : G → Place → Bool → G → Type 0) where
  -- asked in two calls
  pub asked_on : (first before after : G) → Asked says first before → Asked says before after → Asked says first after
  asked_on first before after asked never = asked
  asked_on first before after asked (once_more answer more said) = once_more answer (asked_on first _ _ asked more) said

  -- it said no just now
  pub says_no : (first before after : G) → Asked says first before → says before Waiting false after → SaidNo says first after
  says_no first before after asked said = record { before = before; after = after; asked = asked; said_no = said; asked_more = never }

  -- it was asked before it said no
  pub no_then : (first before after : G) → Asked says first before → SaidNo says before after → SaidNo says first after
  no_then first before after asked last = record {
    before = last.before;
    after = last.after;
    asked = asked_on first before last.before asked last.asked;
    said_no = last.said_no;
    asked_more = last.asked_more;
  }

  -- it was asked again after it said no
  pub no_before : (first before after : G) → SaidNo says first before → Asked says before after → SaidNo says first after
  no_before first before after last asked = record {
    before = last.before;
    after = last.after;
    asked = last.asked;
    said_no = last.said_no;
    asked_more = asked_on last.after before after last.asked_more asked;
  }
