-- What several writes give, and several reads take, of a connection that stays.
use Rattle.std.proofs.Common.{◌≡◌, ℕ, ◌+◌, List, [], ◌∷◌, ◌++◌, take, drop, Option, Some, None, refl, sym, ap, subst, ◌∙◌, append_assoc, append-nil}
use Rattle.std.proofs.lemmas.List.{drop-drop}
use Rattle.std.proofs.Math.Seq.{take-add}
use Rattle.std.proofs.KnownBytes.{Appends-kept, Appends-trans, Consumes-trans}
use Rattle.std.specs.Io.KnownBytes.{Appends, Consumes, Keeps}
use Rattle.http.specs.declared.request.Request.{Request}
use Rattle.http_server.specs.Exchange.{Call, Calls, Chain}
use Rattle.http_server.specs.declared.response.Response.{Response}
use Rattle.gateway_requests.specs.Exchange.{Gains}
use Rattle.spec_service.specs.Persistent.{Persistent, received}
use Rattle.persistent_exchange.specs.Persistent.{Sends, Writes, pending, sent}
use Rattle.gateway_requests.specs.Laws.Plain.{no_bytes}

-- nothing was written yet
pub writes_none : (a : Option (List ℕ)) (p : Persistent) → Writes a a p p
writes_none a p = record {
  count = 0;
  sends = record { sent_is = sym (append-nil (sent p)); pending_is = refl; received_is = refl; calls_are = refl };
  written = no_bytes a (pending p);
}

-- a part was written
pub writes_one : (a b : Option (List ℕ)) (s new : Persistent) (n : ℕ) → Appends a b (take n (pending s)) → Sends s new n
    → Writes a b s new
writes_one a b s new n written sends = record { count = n; sends = sends; written = written }

-- a write that failed changed nothing
pub writes_failed : (a b : Option (List ℕ)) (s new : Persistent) → Keeps a b → new ≡ s → Writes a b s new
unfolding writes_none
writes_failed a b s new kept is =
    let P : Persistent → Type 0 = λ p. Writes a b s p in
    let none : Writes a a s s = writes_none a s in
    subst P (sym is) (record {
      count = 0;
      sends = none.sends;
      written = Appends-kept a a b (take 0 (pending s)) none.written kept;
    })

-- more was written after the first parts
pub writes_on : (a b c : Option (List ℕ)) (s mid new : Persistent) → Writes a b s mid → Writes b c mid new → Writes a c s new
writes_on a b c s mid new before after =
    let k : ℕ = before.count in
    let n : ℕ = after.count in
    let rest : pending mid ≡ drop k (pending s) = before.sends.pending_is in
    let piece : Appends b c (take n (drop k (pending s))) =
    let P : List ℕ → Type 0 = λ t. Appends b c (take n t) in subst P rest after.written in
    record {
      count = k + n;
      sends = record {
        sent_is =
            after.sends.sent_is ∙ ap (λ (t : List ℕ). t ++ take n (pending mid)) before.sends.sent_is
            ∙ append_assoc (sent s) (take k (pending s)) (take n (pending mid))
            ∙ ap (λ (t : List ℕ). sent s ++ (take k (pending s) ++ take n t)) rest
            ∙ ap (λ (t : List ℕ). sent s ++ t) (sym (take-add k n (pending s)));
        pending_is = after.sends.pending_is ∙ ap (λ (t : List ℕ). drop n t) rest ∙ drop-drop n k (pending s);
        received_is = after.sends.received_is ∙ before.sends.received_is;
        calls_are = after.sends.calls_are ∙ before.sends.calls_are;
      };
      written =
          rw (take-add k n (pending s))
          (Appends-trans a b c (take k (pending s)) (take n (drop k (pending s))) before.written piece);
    }

-- more was received after the first parts
pub gains_on : (a b c : Option (List ℕ)) (old mid new : List ℕ) → Gains a b old mid → Gains b c mid new → Gains a c old new
gains_on a b c old mid new before more = record {
  more = before.more ++ more.more;
  consumes = Consumes-trans a b c before.more more.more before.consumes more.consumes;
  follows = more.follows ∙ ap (λ (z : List ℕ). z ++ more.more) before.follows ∙ append_assoc old before.more more.more;
}

-- a service that answers nothing was not called
pub never_called : {S : Type 0} (answers : S → Request (List ℕ) → Response → S → Type 0)
    → ((s : S) (q : Request (List ℕ)) (r : Response) (t : S) → answers s q r t → ⊥)
    → (old new : S) (before after : List Call) → Calls answers old new before after → after ≡ before
never_called answers never old new before after ([], is, chain) = is ∙ append-nil before
never_called answers never old new before after (c ∷ calls, is, chain) = absurd (never old c.0 c.1 chain.0 chain.1)
