-- What is moved of the bytes of a connection.
use Rattle.std.proofs.Common.{◌≡◌, ◌+◌, ◌-◌, ◌≤◌, ◌↔◌, ℕ, zero, suc, Bool, false, IsTrue, List, [], ◌∷◌, ◌++◌, ◌<◌, length, take, drop, min, refl, sym, ap, ◌∙◌, subst, arith, append_assoc, append-nil, length-append, length-take}
use Rattle.std.proofs.lemmas.List.{drop-append-le, drop-drop, length-drop, take_all, take-append-le, take-take}
use Rattle.std.proofs.Math.Seq.{take-add, take-append_seam}
use Rattle.http_server.specs.History.{History, after_read, after_sent}
use Rattle.http_server.specs.declared.state.Config.{Config}
use Rattle.persistent_exchange.specs.Persistent.{HandsOn, Sends}
use Rattle.spec_service.specs.Persistent.{Persistent}
use Rattle.spec_service.specs.Scouting.{Finds, Scouted}
use Rattle.spec_service.specs.declared.sighting.Sighting.{Sighting}

-- bytes of the last answer were sent, where nothing of the server's is left
pub sends_last : (old now : Persistent) (count : ℕ) → old ≡ now → old.history.pending ≡ []
    → Sends now (record old { last_sent = old.last_sent + count }) count
sends_last old now count same none = subst (λ s. Sends s (record old { last_sent = old.last_sent + count }) count) same (record {
  sent_is =
      ap (λ (t : List ℕ). old.history.sent ++ t) (take-add old.last_sent count old.last)
      ∙ sym (append_assoc old.history.sent _ _)
      ∙ ap (λ (t : List ℕ). (old.history.sent ++ take old.last_sent old.last) ++ take count (t ++ drop old.last_sent old.last)) (sym none);
  pending_is =
      ap (λ (t : List ℕ). t ++ drop (old.last_sent + count) old.last) none
      ∙ sym (drop-drop count old.last_sent old.last)
      ∙ ap (λ (t : List ℕ). drop count (t ++ drop old.last_sent old.last)) (sym none);
  received_is = refl;
  calls_are = refl;
})

-- bytes of the server's were sent, before the last answer
pub sends_server : (old now : Persistent) (history : History) (config : Config) (count : ℕ) → old ≡ now
    → history ≡ after_sent old.history count → count ≤ length old.history.pending → old.last_sent ≡ 0
    → Sends now (record old { history = history; config = config }) count
sends_server old now history config count same is few none =
    let none_sent : take old.last_sent old.last ≡ [] = ap (λ (n : ℕ). take n old.last) none in
    subst (λ s. Sends s (record old { history = history; config = config }) count) same (record {
      sent_is =
          ap (λ (h : History). h.sent ++ take old.last_sent old.last) is
          ∙ ap (λ (t : List ℕ). (old.history.sent ++ take count old.history.pending) ++ t) none_sent
          ∙ append-nil (old.history.sent ++ take count old.history.pending)
          ∙ ap (λ (t : List ℕ). old.history.sent ++ t)
          (sym (take-append-le count old.history.pending (drop old.last_sent old.last) few))
          ∙ ap (λ (t : List ℕ). t ++ take count (old.history.pending ++ drop old.last_sent old.last))
          (sym (append-nil old.history.sent) ∙ ap (λ (t : List ℕ). old.history.sent ++ t) (sym none_sent));
      pending_is =
          ap (λ (h : History). h.pending ++ drop old.last_sent old.last) is
          ∙ sym (drop-append-le count old.history.pending (drop old.last_sent old.last) few);
      received_is = ap (λ (h : History). h.received ++ old.held) is;
      calls_are = ap (λ (h : History). h.calls) is;
    })

-- a number that is above none only where a list is empty is none, where that is not
pub none_yet : (n : ℕ) (xs : List ℕ) → 0 < length xs → (0 < n → xs ≡ []) → n ≡ 0
none_yet n [] some none = absurd (omega (arith, some))
none_yet zero (x ∷ xs) some none = refl
none_yet (suc n) (x ∷ xs) some none = absurd (let is = none (omega arith) in cc)

-- the first bytes that were seen were read by the server
pub hands_some : (old now : Persistent) (config : Config) (more rest held : List ℕ) (count : ℕ) → old ≡ now → length more ≡ count
    → take old.seen old.held ≡ more ++ rest → held ≡ drop count old.held
    → HandsOn now (record old { history = after_read old.history more; config = config; held = held; seen = old.seen - count })
hands_some old now config more rest held count same long is held_is =
    let few : count ≤ old.seen = omega (arith, long, ap length is, length-append more rest, length-take old.seen old.held) in
    let front : more ≡ take count old.held =
    sym (take-append_seam more rest) ∙ ap (λ (n : ℕ). take n (more ++ rest)) long ∙ ap (λ (t : List ℕ). take count t) (sym is)
    ∙ take-take count old.seen old.held few in
    let new : Persistent =
    record old { history = after_read old.history more; config = config; held = held; seen = old.seen - count } in
    subst (λ s. HandsOn s new) same
    (record {
      handed = count;
      history_is = ap (λ (t : List ℕ). old.history.received ++ t) front;
      held_is = held_is;
      seen_is = omega arith;
      sent_is = refl;
      pending_is = refl;
      calls_are = refl;
    })

-- bytes are handed on twice
pub hands_on : (a b c : Persistent) → HandsOn a b → HandsOn b c → HandsOn a c
hands_on a b c x y = record {
  handed = x.handed + y.handed;
  history_is =
      y.history_is ∙ ap (λ (t : List ℕ). t ++ take y.handed b.held) x.history_is ∙ append_assoc a.history.received _ _
      ∙ ap (λ (t : List ℕ). a.history.received ++ (take x.handed a.held ++ take y.handed t)) x.held_is
      ∙ ap (λ (t : List ℕ). a.history.received ++ t) (sym (take-add x.handed y.handed a.held));
  held_is = y.held_is ∙ ap (λ (t : List ℕ). drop y.handed t) x.held_is ∙ drop-drop y.handed x.handed a.held;
  seen_is = omega (arith, x.seen_is, y.seen_is);
  sent_is = y.sent_is ∙ x.sent_is;
  pending_is = y.pending_is ∙ x.pending_is;
  calls_are = y.calls_are ∙ x.calls_are;
}

pub hands_none : (a b : Persistent) → a ≡ b → HandsOn a b
hands_none a b same = subst (λ s. HandsOn a s) same (record {
  handed = 0;
  history_is = sym (append-nil a.history.received);
  held_is = refl;
  seen_is = omega arith;
  sent_is = refl;
  pending_is = refl;
  calls_are = refl;
})

-- where nothing waits to be written there is nothing
none_of : (xs : List ℕ) → ¬ (0 < length xs) → xs ≡ []
none_of [] none = refl
none_of (x ∷ xs) none = absurd (none (omega arith))

-- what follows the first bytes is the end of a list
rest_of : (n : ℕ) (xs : List ℕ) → take (length xs - n) (drop n xs) ≡ drop n xs
rest_of n xs = take_all (length xs - n) (drop n xs) (omega (arith, length-drop n xs))

-- a look at the end of a slice is one at the end of the bytes that it shows
pub seen_in : (scouted : Scouted) (slice held : List ℕ) (seen consumed : ℕ) (sighting : Sighting) (new : Scouted) → slice ≡ held
    → Finds scouted (take (length slice - seen) (drop seen slice)) consumed sighting new
    → Finds scouted (drop seen held) consumed sighting new
seen_in scouted slice held seen consumed sighting new is found =
    subst (λ (t : List ℕ). Finds scouted t consumed sighting new) (rest_of seen slice ∙ ap (drop seen) is) found

-- the next bytes were looked at
pub looks : (old now : Persistent) (slice : List ℕ) (consumed : ℕ) (sighting : Sighting) (new : Scouted) → old ≡ now
    → slice ≡ old.held → Finds old.scouted (take (length slice - old.seen) (drop old.seen slice)) consumed sighting new
    → (x : ℕ) × Finds now.scouted (drop now.seen now.held) x sighting new × (old.seen + consumed ≡ now.seen + x)
looks old now slice consumed sighting new same is found = (
  consumed,
  subst (λ (s : Persistent). Finds s.scouted (drop s.seen s.held) consumed sighting new) same
      (seen_in old.scouted slice old.held old.seen consumed sighting new is found),
  ap (λ (s : Persistent). s.seen + consumed) same,
)

-- a flag says that nothing waits
pub none_waits : (flag : Bool) (xs : List ℕ) → flag ≡ false → (IsTrue flag ↔ (0 < length xs)) → xs ≡ []
none_waits flag xs is waits = none_of xs (λ some. let set = waits.1 some in cc)
