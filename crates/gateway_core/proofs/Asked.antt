-- What all bytes ask, from what was read of them.
use Rattle.std.proofs.Common.{◌≡◌, ℕ, ◌+◌, ◌-◌, ◌≤◌, List, ◌++◌, take, drop, Option, Some, None, IfOk, IfSome, Result, Ok, Err, refl, sym, ap, subst, ◌∙◌, rules, arith, inl, inr}
use Rattle.std.specs.Io.KnownBytes.{Consumes}
use Rattle.std.proofs.lemmas.List.{drop-take}
use Rattle.httparse.specs.Grammar.{ReadsRequest, RequestHead}
use Rattle.httparse.specs.Spans.{IsRequestAt}
use Rattle.httparse.specs.declared.spans.HeaderSpan.{HeaderSpan}
use Rattle.httparse.specs.declared.spans.RequestSpans.{RequestSpans}
use Rattle.httparse.proofs.GrammarLemmas.{ReadsRequest-append}
use Rattle.spec_service.specs.Front.{HasNoHead, IsAllowed}
use Rattle.gateway_requests.specs.RequestBody.{IsBodyOf}
use Rattle.spec_service.specs.declared.fault.Fault.{Fault}
use Rattle.spec_service.specs.declared.fault.Fault.TheVariants.{BadRequest}
use Rattle.gateway_requests.specs.declared.request.Request as rust
use Rattle.gateway_requests.specs.Steps.{Tells}
use Rattle.spec_service.specs.Request.{Request}
use Rattle.gateway_requests.specs.Request.{request_of}
use Rattle.spec_service.specs.Asking.{asked, asked_for, body_in, chosen}
use Rattle.spec_service.specs.declared.chosen.Chosen.{Chosen}
use Rattle.spec_service.specs.Path.{path_of}
use Rattle.gateway_core.specs.Serving.{TellsAsked, TellsRequest}

pub body_is : (left front : List ℕ) (n : ℕ) (got : Option (List ℕ)) → IsBodyOf (Some left) front n got → got ≡ body_in n (front ++ left)
body_is left front n None short = search (rules, arith)
body_is left front n (Some body) is = search (rules, arith)

pub asked_is : (h : RequestHead) (c : Chosen) (left : Option (List ℕ)) (front : List ℕ) (got : Option (List ℕ))
    → chosen h ≡ Ok c → IsBodyOf left front c.body_length got
    → IfSome left (λ more. asked_for (path_of h.target) got c.action ≡ asked h (front ++ more))
asked_is h c None front got chosen is = tt
asked_is h c (Some more) front got chosen is =
    rw chosen (ap (λ (b : Option (List ℕ)). asked_for (path_of h.target) b c.action) (body_is more front c.body_length got is))

pub front_is : (come len : ℕ) (buffer : List ℕ) → len ≤ come → take (come - len) (drop len buffer) ≡ drop len (take come buffer)
front_is come len buffer fits =
    let e : len + (come - len) ≡ come = omega (arith, fits) in
    sym (drop-take len (come - len) buffer) ∙ ap (λ (k : ℕ). drop len (take k buffer)) e

-- the head and the bytes after it are in all bytes
pub all_asks : (old mid : Option (List ℕ)) (bytes : List ℕ) (headers : List HeaderSpan) (spans : RequestSpans) (h : RequestHead)
    → Consumes old mid bytes → IsRequestAt bytes headers spans h → IsAllowed h → (result : Result rust.Request Fault)
    → TellsAsked mid (λ left. asked h (drop spans.len bytes ++ left)) result → TellsRequest old result
all_asks None mid bytes headers spans h taken found allowed result asks = (asks.0, asks.1, tt)
all_asks (Some xs) None bytes headers spans h taken found allowed result asks = absurd taken
all_asks (Some xs) (Some ys) bytes headers spans h taken found allowed result asks =
    let reads : ReadsRequest (bytes ++ ys) h (drop spans.len bytes ++ ys) = ReadsRequest-append bytes h (drop spans.len bytes) ys found.reads in
    (asks.0, asks.1, inr (h, drop spans.len bytes ++ ys, rw taken reads, allowed, asks.2))

-- no head is in all bytes
pub no_head_asks : (old : Option (List ℕ)) → IfSome old HasNoHead → TellsRequest old (Err BadRequest)
no_head_asks None none = (Err BadRequest, λ _. refl, tt)
no_head_asks (Some input) none = (Err BadRequest, λ _. refl, inl (none, refl))

-- a fault of the head is what the request asks, whatever comes after it
pub fault_asks : (h : RequestHead) (fault : Fault) (left : Option (List ℕ)) (front : List ℕ) → chosen h ≡ Err fault
    → IfSome left (λ more. Err fault ≡ asked h (front ++ more))
fault_asks h fault None front is = tt
fault_asks h fault (Some more) front is = rw is refl

-- what is asked by the path and the body that was read is what the request asks
pub request_asks : (h : RequestHead) (c : Chosen) (left : Option (List ℕ)) (front rest path : List ℕ) (got body : Option (List ℕ))
    (result : Result rust.Request Fault) → chosen h ≡ Ok c → front ≡ rest → path ≡ path_of h.target → got ≡ body
    → IsBodyOf left front c.body_length body → Tells request_of result (asked_for path got c.action)
    → TellsAsked left (λ more. asked h (rest ++ more)) result
request_asks h c left front rest path got body result chosen same path_is got_is is tells =
    let front_body : IsBodyOf left rest c.body_length body = let P : List ℕ → Type 0 = λ f. IsBodyOf left f c.body_length body in subst P same is in
    let told : Tells request_of result (asked_for (path_of h.target) body c.action) =
    let P : List ℕ → Type 0 = λ p. Tells request_of result (asked_for p body c.action) in
    subst P path_is (let Q : Option (List ℕ) → Type 0 = λ b. Tells request_of result (asked_for path b c.action) in subst Q got_is tells) in
    (asked_for (path_of h.target) body c.action, told, asked_is h c left rest body chosen front_body)

-- the request asks something, though nothing of it was returned
pub memory_asks : (h : RequestHead) (left : Option (List ℕ)) (front : List ℕ)
    → (request : Result Request Fault) × IfSome left (λ more. request ≡ asked h (front ++ more))
memory_asks h None front = (asked h front, tt)
memory_asks h (Some more) front = (asked h (front ++ more), refl)

pub if_asks : {E : Type 0} (old mid : Option (List ℕ)) (bytes : List ℕ) (headers : List HeaderSpan) (spans : RequestSpans) (h : RequestHead)
    → Consumes old mid bytes → IsRequestAt bytes headers spans h → IsAllowed h → (result : Result (Result rust.Request Fault) E)
    → IfOk result (TellsAsked mid (λ left. asked h (drop spans.len bytes ++ left))) → IfOk result (TellsRequest old)
if_asks old mid bytes headers spans h taken found allowed (Ok r) asks = all_asks old mid bytes headers spans h taken found allowed r asks
if_asks old mid bytes headers spans h taken found allowed (Err e) asks = tt
