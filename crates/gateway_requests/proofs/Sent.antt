-- What several reads take, and several writes give.
use Rattle.std.proofs.Common.{◌≡◌, ℕ, ◌+◌, ◌-◌, ◌≤◌, List, [], ◌++◌, length, take, drop, Option, Some, None, refl, sym, ap, subst, ◌∙◌, rules, arith}
use Rattle.std.proofs.lemmas.List.{append_assoc, append-nil, drop-append-le, length-drop, take-append-le}
use Rattle.std.proofs.Math.Seq.{drop-append-add, drop-drop, take-add}
use Rattle.std.proofs.KnownBytes.{Appends-kept, Appends-trans, Consumes-kept, Consumes-trans}
use Rattle.std.specs.Io.KnownBytes.{Appends, Consumes, Keeps}
use Rattle.wire_frames.specs.Moving.{Receives}
use Rattle.gateway_requests.specs.Exchange.{Gains, Sends}
use Rattle.spec_service.specs.Sending.{Sent}
use Rattle.gateway_requests.specs.Laws.Plain.{no_bytes}

-- a part of the first piece is a part of both
pub in_front : (n sent : ℕ) (front rest : List ℕ) → sent ≤ length front → n ≤ length (drop sent front)
    → take n (drop sent (front ++ rest)) ≡ take n (drop sent front)
in_front n sent front rest early few =
    ap (λ (z : List ℕ). take n z) (drop-append-le sent front rest early) ∙ take-append-le n (drop sent front) rest few

-- a part of the second piece is a part of both
pub in_rest : (sent : ℕ) (front rest : List ℕ) → length front ≤ sent
    → drop sent (front ++ rest) ≡ drop (sent - length front) rest
in_rest sent front rest late =
    let is : length front + (sent - length front) ≡ sent = omega (arith, late) in
    ap (λ (m : ℕ). drop m (front ++ rest)) (sym is) ∙ drop-append-add front rest (sent - length front)

none_taken : (a : Option (List ℕ)) → Consumes a a []
none_taken None = tt
none_taken (Some x) = refl

-- nothing was sent yet
pub sends_none : (a : Option (List ℕ)) (s : Sent) → Sends a a s s
sends_none a s = record { count = 0; counted = search (rules, arith); written = no_bytes a (drop s.sent s.bytes) }

-- nothing was received yet
pub gains_none : (a : Option (List ℕ)) (bytes : List ℕ) → Gains a a bytes bytes
gains_none a bytes = record { more = []; consumes = none_taken a; follows = sym (append-nil bytes) }

drop_more : (n k : ℕ) (xs : List ℕ) → drop (n + k) xs ≡ drop k (drop n xs)
drop_more n k xs = sym (drop-drop k n xs)

-- one more part was sent after the first ones
pub sends_more : (a b c : Option (List ℕ)) (s mid new : Sent) (n : ℕ) → Sends a b s mid
    → Appends b c (take n (drop mid.sent mid.bytes)) → new ≡ record mid { sent = mid.sent + n } → Sends a c s new
sends_more a b c s mid new n before more is =
    let k : ℕ = before.count in
    let piece : Appends b c (take n (drop (s.sent + k) s.bytes)) =
    let P : Sent → Type 0 = λ m. Appends b c (take n (drop m.sent m.bytes)) in subst P before.counted more in
    record {
      count = k + n;
      counted = is ∙ ap (λ (m : Sent). record m { sent = m.sent + n }) before.counted ∙ ap (λ (i : ℕ). record s { sent = i }) (search (rules, arith));
      written =
          rw (take-add k n (drop s.sent s.bytes))
          (Appends-trans a b c (take k (drop s.sent s.bytes)) (take n (drop k (drop s.sent s.bytes))) before.written
          (rw (drop_more s.sent k s.bytes) at piece));
    }

-- one more part was received after the first ones
pub gains_more : (a b c : Option (List ℕ)) (old mid new : List ℕ) (n : ℕ) → Gains a b old mid → Receives b c mid new n → Gains a c old new
gains_more a b c old mid new n before more = record {
  more = before.more ++ more.more;
  consumes = Consumes-trans a b c before.more more.more before.consumes more.consumes;
  follows = more.follows ∙ ap (λ (z : List ℕ). z ++ more.more) before.follows ∙ append_assoc old before.more more.more;
}

-- a write that failed changed nothing
pub sends_kept : (a b c : Option (List ℕ)) (s mid new : Sent) → Sends a b s mid → Keeps b c → new ≡ mid → Sends a c s new
sends_kept a b c s mid new before kept is = record {
  count = before.count;
  counted = is ∙ before.counted;
  written = Appends-kept a b c (take before.count (drop s.sent s.bytes)) before.written kept;
}

-- a read that failed changed nothing
pub gains_kept : (a b c : Option (List ℕ)) (old mid new : List ℕ) → Gains a b old mid → Keeps b c → new ≡ mid → Gains a c old new
gains_kept a b c old mid new before kept is = record {
  more = before.more;
  consumes = Consumes-kept a b c before.more before.consumes kept;
  follows = is ∙ before.follows;
}
