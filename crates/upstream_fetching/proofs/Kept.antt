-- Where a text comes from that was kept of one that was answered or kept.
use Rattle.std.proofs.Common.{ℕ, List, Result, Ok, Err, OnOk}
use Rattle.spec_service.specs.UpstreamNaming.{IsTextOf, WasAnswered, answered, kept_before}

pub on-ok : {A E : Type 0} (r : Result A E) (P : Type 0) → P → OnOk r P
on-ok (Ok x) P p = p
on-ok (Err e) P p = tt

pub origin_of : (heard : List ℕ → List ℕ → Type 0) (said : ℕ → List ℕ → Type 0) (id : ℕ) (text : List ℕ)
    → IsTextOf heard (IsTextOf heard said) id text → IsTextOf heard said id text
origin_of heard said id text (answered w is) =
    answered (record { place = w.place; received = w.received; was_heard = w.was_heard; is_answer = w.is_answer }) is
origin_of heard said id text (kept_before k) = k
