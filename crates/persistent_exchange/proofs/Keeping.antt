-- How the requests that were seen go with the calls that the server has made.
use Rattle.std.proofs.Common.{◌≡◌, ◌≢◌, ◌+◌, ◌≤◌, ℕ, Bool, true, List, [], ◌∷◌, ◌++◌, drop, length, take, refl, sym, ap, subst, subst₂, ◌∙◌, arith, append_assoc, append-nil, length-append}
use Rattle.std.proofs.lemmas.List.{drop-append-le, drop-drop, take-append-drop}
use Rattle.http1.specs.Message.{ReadsRequests}
use Rattle.http_server.specs.Exchange.{Call}
use Rattle.http_server.specs.History.{History, new_history}
use Rattle.http_server.specs.declared.state.Config.{Config}
use Rattle.spec_service.specs.StreamAnswering.{IsNext}
use Rattle.persistent_exchange.specs.Persistent.{HandsOn}
use Rattle.spec_service.specs.Persistent.{Persistent, received}
use Rattle.spec_service.specs.Scouting.{Finds, Scouted}
use Rattle.persistent_exchange.specs.Standing.{Holds, IsAlike, Saw}
use Rattle.spec_service.specs.Stream.{Asked, Looks, asked_of, ended, more, new_scouted, none, taken}
use Rattle.spec_service.specs.declared.sighting.Sighting.{Sighting}
use Rattle.spec_service.specs.declared.sighting.Sighting.TheVariants.{End}
use Rattle.persistent_exchange.specs.declared.standing.Standing.{Standing}
use Rattle.persistent_exchange.specs.declared.standing.Standing.TheVariants.{Due, Even, Lost, Whole}
use Rattle.persistent_exchange.proofs.Streams.{seen_with_its_end}

-- ---- looks

-- more comes after what was looked at
looks_more : {s u : Scouted} {stream rest : List ℕ} {asked : List Asked} → Looks s stream asked u rest → (later : List ℕ)
    → Looks s (stream ++ later) asked u (rest ++ later)
looks_more (none s stream) later = none s (stream ++ later)
looks_more (more s t u input after rest asked consumed sighting not found looks) later =
    subst (λ (x : List ℕ). Looks s x asked u (rest ++ later)) (sym (append_assoc input after later))
    (more s t u input (after ++ later) (rest ++ later) asked consumed sighting not found
    (subst (λ (x : List ℕ). Looks t x asked u (rest ++ later)) (append_assoc (drop consumed input) after later)
    (looks_more looks later)))
looks_more (ended s t u input after rest asked consumed found looks) later =
    subst (λ (x : List ℕ). Looks s x (asked_of t ∷ asked) u (rest ++ later)) (sym (append_assoc input after later))
    (ended s t u input (after ++ later) (rest ++ later) asked consumed found
    (subst (λ (x : List ℕ). Looks (taken t) x asked u (rest ++ later)) (append_assoc (drop consumed input) after later)
    (looks_more looks later)))

-- one more look, at all that was not seen
looks_on : {s u : Scouted} {stream rest : List ℕ} {asked : List Asked} → Looks s stream asked u rest → (t : Scouted)
    (consumed : ℕ) (sighting : Sighting) → sighting ≢ End → Finds u rest consumed sighting t
    → Looks s stream asked t (drop consumed rest)
looks_on (none s stream) t consumed sighting not found =
    subst₂ (λ (x y : List ℕ). Looks s x [] t y) (append-nil stream) (append-nil (drop consumed stream))
    (more s t t stream [] (drop consumed stream ++ []) [] consumed sighting not found (none t (drop consumed stream ++ [])))
looks_on (more s m u input after rest asked count seen other before looks) t consumed sighting not found =
    more s m t input after (drop consumed rest) asked count seen other before (looks_on looks t consumed sighting not found)
looks_on (ended s m u input after rest asked count before looks) t consumed sighting not found =
    ended s m t input after (drop consumed rest) asked count before (looks_on looks t consumed sighting not found)

-- and one that sees the end of a request
looks_end : {s u : Scouted} {stream rest : List ℕ} {asked : List Asked} → Looks s stream asked u rest → (t : Scouted)
    (consumed : ℕ) → Finds u rest consumed End t
    → Looks s stream (asked ++ asked_of t ∷ []) (taken t) (drop consumed rest)
looks_end (none s stream) t consumed found =
    subst₂ (λ (x y : List ℕ). Looks s x (asked_of t ∷ []) (taken t) y) (append-nil stream) (append-nil (drop consumed stream))
    (ended s t (taken t) stream [] (drop consumed stream ++ []) [] consumed found (none (taken t) (drop consumed stream ++ [])))
looks_end (more s m u input after rest asked count seen other before looks) t consumed found =
    more s m (taken t) input after (drop consumed rest) (asked ++ asked_of t ∷ []) count seen other before
    (looks_end looks t consumed found)
looks_end (ended s m u input after rest asked count before looks) t consumed found =
    ended s m (taken t) input after (drop consumed rest) (asked ++ asked_of t ∷ []) count before
    (looks_end looks t consumed found)

-- ---- what holds of a connection

saw_alike : (old new : Persistent) (count : ℕ) → IsAlike old new → Saw old count → Saw new count
saw_alike old new count alike saw = record {
  asked = saw.asked;
  looks =
      subst (λ (x : List ℕ). Looks (new_scouted new.config.limits new.config.max_body_len) (received new) saw.asked new.scouted x)
      (sym alike.unseen_is)
      (subst₂ (λ (k : Config) (s : Scouted).
      Looks (new_scouted k.limits k.max_body_len) (received new) saw.asked s (drop old.seen old.held))
      (sym alike.config_is) (sym alike.scouted_is)
      (subst (λ (x : List ℕ). Looks (new_scouted old.config.limits old.config.max_body_len) x saw.asked old.scouted (drop old.seen old.held))
      (sym alike.received_is) saw.looks));
  count = saw.count ∙ ap (λ (cs : List Call). count + length cs) (sym alike.calls_are);
}

next_alike : (old new : Persistent) (asked : Asked) → new.config ≡ old.config → received new ≡ received old
    → new.history.calls ≡ old.history.calls → IsNext old asked → IsNext new asked
next_alike old new asked config_is received_is calls_are next = record {
  requests = next.requests;
  rest = next.rest;
  reads = subst₂ (λ (k : Config) (x : List ℕ). ReadsRequests k.limits x next.requests next.rest) (sym config_is)
      (sym received_is) next.reads;
  before = next.before;
  asked_are = next.asked_are;
  called = next.called ∙ ap (λ (cs : List Call). length cs) (sym calls_are);
}

taken_alike : (old new : Persistent) → IsAlike old new
    → IsAlike (record old { scouted = taken old.scouted }) (record new { scouted = taken new.scouted })
taken_alike old new alike = record {
  config_is = alike.config_is;
  scouted_is = ap (λ (s : Scouted). taken s) alike.scouted_is;
  received_is = alike.received_is;
  unseen_is = alike.unseen_is;
  calls_are = alike.calls_are;
}

-- nothing has changed
pub holds_alike : (s : Standing) (old new : Persistent) → IsAlike old new → Holds s old → Holds s new
holds_alike Even old new alike saw = saw_alike old new 0 alike saw
holds_alike Whole old new alike (next, saw) = (
  subst (λ (x : Scouted). IsNext new (asked_of x)) (sym alike.scouted_is)
      (next_alike old new (asked_of old.scouted) alike.config_is alike.received_is alike.calls_are next),
  saw_alike _ _ 1 (taken_alike old new alike) saw,
)
holds_alike Due old new alike saw = saw_alike old new 1 alike saw
holds_alike Lost old new alike holds = tt

-- nothing has come
pub saw_nothing : (p : Persistent) → p.history ≡ new_history → p.held ≡ [] → p.seen ≡ 0
    → p.scouted ≡ new_scouted p.config.limits p.config.max_body_len → Saw p 0
saw_nothing p history_is held_is seen_is scouted_is =
    let first : Scouted = new_scouted p.config.limits p.config.max_body_len in
    record {
      asked = [];
      looks = subst (λ (s : Scouted). Looks first (received p) [] s (drop p.seen p.held)) (sym scouted_is)
          (subst₂ (λ (x y : List ℕ). Looks first x [] first y)
          (sym (ap (λ (h : History). h.received ++ p.held) history_is ∙ held_is))
          (sym (ap (λ (n : ℕ). drop n p.held) seen_is ∙ held_is)) (none first []));
      count = omega (arith, ap (λ (h : History). length h.calls) history_is);
    }

-- more has come
saw_more : (old new : Persistent) (later : List ℕ) (count : ℕ) → new.config ≡ old.config → new.scouted ≡ old.scouted
    → received new ≡ received old ++ later → drop new.seen new.held ≡ drop old.seen old.held ++ later
    → new.history.calls ≡ old.history.calls → Saw old count → Saw new count
saw_more old new later count config_is scouted_is received_is unseen_is calls_are saw = record {
  asked = saw.asked;
  looks =
      subst (λ (x : List ℕ). Looks (new_scouted new.config.limits new.config.max_body_len) (received new) saw.asked new.scouted x)
      (sym unseen_is)
      (subst₂ (λ (k : Config) (s : Scouted).
      Looks (new_scouted k.limits k.max_body_len) (received new) saw.asked s (drop old.seen old.held ++ later))
      (sym config_is) (sym scouted_is)
      (subst (λ (x : List ℕ). Looks (new_scouted old.config.limits old.config.max_body_len) x saw.asked old.scouted (drop old.seen old.held ++ later))
      (sym received_is) (looks_more saw.looks later)));
  count = saw.count ∙ ap (λ (cs : List Call). count + length cs) (sym calls_are);
}

pub holds_more : (s r : Standing) (old new : Persistent) (later : List ℕ) → (r ≢ Lost → r ≡ s) → r ≢ Whole
    → new.config ≡ old.config → new.scouted ≡ old.scouted → received new ≡ received old ++ later
    → drop new.seen new.held ≡ drop old.seen old.held ++ later → new.history.calls ≡ old.history.calls
    → Holds s old → Holds r new
holds_more s Even old new later kept not config_is scouted_is received_is unseen_is calls_are holds =
    saw_more old new later 0 config_is scouted_is received_is unseen_is calls_are
    (subst (λ (x : Standing). Holds x old) (sym (kept (λ is. cc))) holds)
holds_more s Whole old new later kept not config_is scouted_is received_is unseen_is calls_are holds = absurd (not refl)
holds_more s Due old new later kept not config_is scouted_is received_is unseen_is calls_are holds =
    saw_more old new later 1 config_is scouted_is received_is unseen_is calls_are
    (subst (λ (x : Standing). Holds x old) (sym (kept (λ is. cc))) holds)
holds_more s Lost old new later kept not config_is scouted_is received_is unseen_is calls_are holds = tt

pub holds_appended : (s r : Standing) (old : Persistent) (held later : List ℕ) → (r ≢ Lost → r ≡ s) → r ≢ Whole
    → old.seen ≤ length old.held → held ≡ old.held ++ later → Holds s old → Holds r (record old { held = held })
holds_appended s r old held later kept not few is holds =
    holds_more s r old (record old { held = held }) later kept not refl refl
    (ap (λ (x : List ℕ). old.history.received ++ x) is ∙ sym (append_assoc old.history.received old.held later))
    (ap (λ (x : List ℕ). drop old.seen x) is ∙ drop-append-le old.seen old.held later few) refl holds

-- more was seen
module _ (old new : Persistent) (consumed : ℕ) (sighting : Sighting)
    (found : Finds old.scouted (drop old.seen old.held) consumed sighting new.scouted)
    (config_is : new.config ≡ old.config) (received_is : received new ≡ received old)
    (unseen_is : drop new.seen new.held ≡ drop consumed (drop old.seen old.held))
    (calls_are : new.history.calls ≡ old.history.calls) where
  abbrev LooksNew : List Asked → Scouted → List ℕ → Type 0
  LooksNew asked s rest = Looks (new_scouted new.config.limits new.config.max_body_len) (received new) asked s rest

  as_new : (asked : List Asked) (s : Scouted) (rest : List ℕ)
      → Looks (new_scouted old.config.limits old.config.max_body_len) (received old) asked s rest → LooksNew asked s rest
  as_new asked s rest looks =
      subst₂ (λ (k : Config) (x : List ℕ). Looks (new_scouted k.limits k.max_body_len) x asked s rest) (sym config_is)
      (sym received_is) looks

  saw_on : (count : ℕ) → sighting ≢ End → Saw old count → Saw new count
  saw_on count not saw = record {
    asked = saw.asked;
    looks = subst (λ (x : List ℕ). LooksNew saw.asked new.scouted x) (sym unseen_is)
        (as_new saw.asked new.scouted _ (looks_on saw.looks new.scouted consumed sighting not found));
    count = saw.count ∙ ap (λ (cs : List Call). count + length cs) (sym calls_are);
  }

  saw_end : sighting ≡ End → Saw old 0 → Holds Whole new
  saw_end is saw =
      let end : Finds old.scouted (drop old.seen old.held) consumed End new.scouted =
      subst (λ (x : Sighting). Finds old.scouted (drop old.seen old.held) consumed x new.scouted) is found in
      let looks = as_new saw.asked old.scouted _ saw.looks in
      let whole = seen_with_its_end new.config.limits new.config.max_body_len (received new) (drop old.seen old.held) []
      saw.asked old.scouted new.scouted consumed
      (subst (λ (x : List ℕ). LooksNew saw.asked old.scouted x) (sym (append-nil (drop old.seen old.held))) looks) end in (
        record {
          requests = whole.0;
          rest = drop consumed (drop old.seen old.held) ++ [];
          reads = whole.1;
          before = saw.asked;
          asked_are = whole.2;
          called = omega (arith, saw.count, ap (λ (cs : List Call). length cs) calls_are);
        },
        record {
          asked = saw.asked ++ asked_of new.scouted ∷ [];
          looks = subst (λ (x : List ℕ). LooksNew (saw.asked ++ asked_of new.scouted ∷ []) (taken new.scouted) x) (sym unseen_is)
              (looks_end looks new.scouted consumed end);
          count = omega (arith, length-append saw.asked (asked_of new.scouted ∷ []), saw.count, ap (λ (cs : List Call). length cs) calls_are);
        },
      )

  pub holds_seen : (s r : Standing) → (r ≡ Whole → (s ≡ Even) × (sighting ≡ End)) → (r ≡ Even → (s ≡ Even) × (sighting ≢ End))
      → (r ≡ Due → (s ≡ Due) × (sighting ≢ End)) → Holds s old → Holds r new
  holds_seen s Even whole even due holds =
      saw_on 0 (even refl).1 (subst (λ (x : Standing). Holds x old) (even refl).0 holds)
  holds_seen s Whole whole even due holds =
      saw_end (whole refl).1 (subst (λ (x : Standing). Holds x old) (whole refl).0 holds)
  holds_seen s Due whole even due holds =
      saw_on 1 (due refl).1 (subst (λ (x : Standing). Holds x old) (due refl).0 holds)
  holds_seen s Lost whole even due holds = tt

-- the request was answered
pub holds_answered : (old new : Persistent) (c : Call) → new.config ≡ old.config → new.scouted ≡ old.scouted
    → received new ≡ received old → drop new.seen new.held ≡ drop old.seen old.held
    → new.history.calls ≡ old.history.calls ++ c ∷ [] → Holds Due old → Holds Even new
holds_answered old new c config_is scouted_is received_is unseen_is calls_are saw =
    record {
      asked = saw.asked;
      looks =
          subst (λ (x : List ℕ). Looks (new_scouted new.config.limits new.config.max_body_len) (received new) saw.asked new.scouted x)
          (sym unseen_is)
          (subst₂ (λ (k : Config) (s : Scouted).
          Looks (new_scouted k.limits k.max_body_len) (received new) saw.asked s (drop old.seen old.held))
          (sym config_is) (sym scouted_is)
          (subst (λ (x : List ℕ). Looks (new_scouted old.config.limits old.config.max_body_len) x saw.asked old.scouted (drop old.seen old.held))
          (sym received_is) saw.looks));
      count = omega (arith, saw.count, ap (λ (cs : List Call). length cs) calls_are, length-append old.history.calls (c ∷ []));
    }

-- an answer was passed on
pub holds_given : (s r : Standing) (old new : Persistent) (given : Bool) → (r ≡ Even → (s ≡ Due) × (given ≡ true))
    → r ≢ Whole → r ≢ Due → (given ≡ true → (c : Call) × (new.history.calls ≡ old.history.calls ++ c ∷ []))
    → new.config ≡ old.config → new.scouted ≡ old.scouted → received new ≡ received old
    → drop new.seen new.held ≡ drop old.seen old.held → Holds s old → Holds r new
holds_given s Even old new given even not_whole not_due call config_is scouted_is received_is unseen_is holds =
    let made = call (even refl).1 in
    holds_answered old new made.0 config_is scouted_is received_is unseen_is made.1
    (subst (λ (x : Standing). Holds x old) (even refl).0 holds)
holds_given s Whole old new given even not_whole not_due call config_is scouted_is received_is unseen_is holds = absurd (not_whole refl)
holds_given s Due old new given even not_whole not_due call config_is scouted_is received_is unseen_is holds = absurd (not_due refl)
holds_given s Lost old new given even not_whole not_due call config_is scouted_is received_is unseen_is holds = tt

-- ---- bytes that are handed on

handed_received : (old new : Persistent) → HandsOn old new → received new ≡ received old
handed_received old new hands =
    ap (λ (x : List ℕ). x ++ new.held) hands.history_is
    ∙ ap (λ (x : List ℕ). (old.history.received ++ take hands.handed old.held) ++ x) hands.held_is
    ∙ append_assoc old.history.received (take hands.handed old.held) (drop hands.handed old.held)
    ∙ ap (λ (x : List ℕ). old.history.received ++ x) (take-append-drop hands.handed old.held)

pub handed_alike : (old new : Persistent) → HandsOn old new → new.config ≡ old.config → new.scouted ≡ old.scouted → IsAlike old new
handed_alike old new hands config_is scouted_is = record {
  config_is = config_is;
  scouted_is = scouted_is;
  received_is = handed_received old new hands;
  unseen_is =
      ap (λ (x : List ℕ). drop new.seen x) hands.held_is ∙ drop-drop new.seen hands.handed old.held
      ∙ ap (λ (n : ℕ). drop n old.held) (omega (arith, hands.seen_is));
  calls_are = hands.calls_are;
}

pub next_handed : (old new : Persistent) (asked : Asked) → HandsOn old new → new.config ≡ old.config → IsNext old asked
    → IsNext new asked
next_handed old new asked hands config_is next = next_alike old new asked config_is (handed_received old new hands) hands.calls_are next

pub handed_holds : (s : Standing) (old new : Persistent) → HandsOn old new → new.config ≡ old.config
    → new.scouted ≡ old.scouted → Holds s old → Holds s new
handed_holds s old new hands config_is scouted_is holds =
    holds_alike s old new (handed_alike old new hands config_is scouted_is) holds
