-- One step more.
use Rattle.std.proofs.Common.{◌≡◌, ◌<◌, ℕ, suc, ◌+◌, List, [], ◌∷◌, ◌++◌, length, map, take, get_or, refl, sym, ap, ◌∙◌, subst, arith, length-append}
use Rattle.std.proofs.Math.Seq.{take-suc}
use Rattle.std.proofs.lemmas.List.{length-map, length-take-le, map-append}
use Rattle.session_core.specs.declared.event.Event as rust
use Rattle.spec_sessions.specs.declared.reply.EventReply.{EventReply}
use Rattle.spec_sessions.specs.Event.{Event}
use Rattle.session_core.specs.Event.{event_of}
use Rattle.spec_sessions.specs.Happening.{Happened, Happens, Step}
use Rattle.session_core.specs.Happening.{steps_of}
use Rattle.spec_sessions.specs.World.{World}

steps-and-one : (es : List Event) (rs : List EventReply) (e : Event) (r : EventReply) → length rs ≡ length es → steps_of (es ++ e ∷ []) (rs ++ r ∷ []) ≡ steps_of es rs ++ record { event = e; reply = r } ∷ []
steps-and-one [] [] e r same = refl
steps-and-one [] (s ∷ rs) e r same = absurd (cc)
steps-and-one (d ∷ es) [] e r same = absurd (cc)
steps-and-one (d ∷ es) (s ∷ rs) e r same = ap (λ (x : List Step). record { event = d; reply = s } ∷ x) (steps-and-one es rs e r (suc-injective same))
  where
    suc-injective : {n m : ℕ} → suc n ≡ suc m → n ≡ m
    suc-injective e = cc

happened-and-one : (steps : List Step) (step : Step) (old last new : World) → Happened steps old last → Happens step.event step.reply last new → Happened (steps ++ step ∷ []) old new
happened-and-one [] step old last new h s = (new, subst (λ (w : World). Happens step.event step.reply w new) h s, refl)
happened-and-one (first ∷ steps) step old last new h s = (h.0, h.1, happened-and-one steps step h.0 last new h.2 s)

pub one-more : (es : List Event) (rs : List EventReply) (e : Event) (r : EventReply) (old last new : World) → length rs ≡ length es → Happened (steps_of es rs) old last → Happens e r last new → Happened (steps_of (es ++ e ∷ []) (rs ++ r ∷ [])) old new
one-more es rs e r old last new same h s =
    subst (λ (x : List Step). Happened x old new) (sym (steps-and-one es rs e r same)) (happened-and-one (steps_of es rs) (record { event = e; reply = r }) old last new h s)

-- ---- the events so far

length-so-far : (es : List rust.Event) (i : ℕ) (n : ℕ) → i < length es → n ≡ i → n ≡ length (map event_of (take i es))
length-so-far es i n lt e = e ∙ sym (length-map (take i es) event_of ∙ length-take-le i es (omega (arith, lt)))

events-and-one : (es : List rust.Event) (i : ℕ) (e : rust.Event) → i < length es → e ≡ get_or es i e → map event_of (take (i + 1) es) ≡ map event_of (take i es) ++ event_of e ∷ []
events-and-one es i e lt is =
    let next : i + 1 ≡ suc i = omega arith in
    ap (λ (k : ℕ). map event_of (take k es)) next ∙ ap (map event_of) (take-suc es i e lt) ∙ map-append event_of (take i es) (get_or es i e ∷ [])
    ∙ ap (λ (x : rust.Event). map event_of (take i es) ++ event_of x ∷ []) (sym is)

pub event-more : (es : List rust.Event) (rs new : List EventReply) (i : ℕ) (e : rust.Event) (r : EventReply) (old last next : World) → i < length es → e ≡ get_or es i e → new ≡ rs ++ r ∷ [] → Happens (event_of e) r last next
    → (length rs ≡ i) × Happened (steps_of (map event_of (take i es)) rs) old last → (length new ≡ i + 1) × Happened (steps_of (map event_of (take (i + 1) es)) new) old next
event-more es rs new i e r old last next lt is pushed s (many, h) =
    let happened = one-more (map event_of (take i es)) rs (event_of e) r old last next (length-so-far es i (length rs) lt many) h s in (
      ap length pushed ∙ length-append rs (r ∷ []) ∙ ap (λ (n : ℕ). n + 1) many,
      subst (λ (xs : List EventReply). Happened (steps_of (map event_of (take (i + 1) es)) xs) old next) (sym pushed)
          (subst (λ (xs : List Event). Happened (steps_of xs (rs ++ r ∷ [])) old next) (sym (events-and-one es i e lt is)) happened),
    )
