-- What bytes ask of which a part has come.
use Rattle.std.proofs.Common.{◌≡◌, ℕ, ◌+◌, ◌-◌, ◌<◌, ◌≤◌, List, [], ◌++◌, length, take, drop, nat_le, false, true, Option, Some, None, IfOk, Result, Ok, Err, refl, sym, ap, subst, ◌∙◌, rules, arith, inl, inr}
use Rattle.std.proofs.lemmas.List.{append-nil, append_assoc, drop-take, length-append, length-drop, length-take, take-append-drop, take-append-le, take_at}
use Rattle.std.proofs.lemmas.Bool.{le-ltb}
use Rattle.std.proofs.Math.Dec.{ltb}
use Rattle.httparse.specs.Grammar.{HasNoRequest, ReadsRequest, RequestHead, print_request}
use Rattle.httparse.specs.Spans.{IsRequestAt, IsRequestWithin, IsWithin, RequestOverflows, span_bytes}
use Rattle.httparse.specs.declared.spans.HeaderSpan.{HeaderSpan}
use Rattle.httparse.specs.declared.spans.RequestSpans.{RequestSpans}
use Rattle.httparse.specs.declared.spans.Span.{Span}
use Rattle.httparse.proofs.GrammarLemmas.{ReadsRequest-append}
use Rattle.spec_service.specs.Front.{HasNoHead, IsAllowed}
use Rattle.spec_service.specs.declared.limits.TheConstants.{MOST_FIELDS, MOST_HEAD, MOST_BODY}
use Rattle.gateway_requests.proofs.Fronts.{head_in_front, is_allowed}
use Rattle.spec_service.specs.declared.fault.Fault.{Fault}
use Rattle.spec_service.specs.declared.fault.Fault.TheVariants.{BadRequest, NoMemory}
use Rattle.spec_service.specs.declared.chosen.Chosen.{Chosen}
use Rattle.gateway_requests.specs.declared.request.Request as rust
use Rattle.spec_service.specs.Asking.{IsAsked, asked, asked_for, body_in, chosen}
use Rattle.spec_service.specs.Path.{path_of}
use Rattle.spec_service.specs.Request.{Request, Asks, AsksSchema, Registers, Transcodes}
use Rattle.gateway_requests.specs.Request.{request_of}
use Rattle.gateway_requests.specs.Sizes.{IsWithin as IsLong, size_of}
use Rattle.gateway_requests.specs.Steps.{Tells}
use Rattle.gateway_requests.specs.Reception.{Received, TellsEach, TellsWhole}
use Rattle.gateway_requests.specs.Stages.{HasNoneYet, IsAfterHead, IsBodyStage, IsHead, Stands, follows, is_refused, is_whole}
use Rattle.gateway_requests.specs.declared.reception.Headed.{Headed}
use Rattle.gateway_requests.specs.declared.reception.Stage.{Stage}
use Rattle.gateway_requests.specs.declared.reception.Stage.TheVariants as stages
use Rattle.wire_frames.specs.Laws.Plain.{take_take}

-- ---- bytes that are refused, whatever follows

pub fault_each : (bytes : List ℕ) (headers : List HeaderSpan) (spans : RequestSpans) (h : RequestHead) (fault : Fault)
    → IsRequestAt bytes headers spans h → IsAllowed h → chosen h ≡ Err fault → TellsEach bytes (Err fault)
fault_each bytes headers spans h fault at allowed is = λ more. (
  Err fault,
  λ _. refl,
  inr (h, drop spans.len bytes ++ more, ReadsRequest-append bytes h (drop spans.len bytes) more at.reads, allowed, rw is refl),
)

pub memory_each : (bytes : List ℕ) (headers : List HeaderSpan) (spans : RequestSpans) (h : RequestHead)
    → IsRequestAt bytes headers spans h → IsAllowed h → TellsEach bytes (Err NoMemory)
memory_each bytes headers spans h at allowed = λ more. (
  asked h (drop spans.len bytes ++ more),
  λ no. absurd (no refl),
  inr (h, drop spans.len bytes ++ more, ReadsRequest-append bytes h (drop spans.len bytes) more at.reads, allowed, refl),
)

no_head_tells : (bytes : List ℕ) → HasNoHead bytes → TellsWhole bytes (Err BadRequest)
no_head_tells bytes none = (Err BadRequest, λ _. refl, inl (none, refl))

-- whatever follows, a head has too many fields
pub overflow_each : (bytes : List ℕ) → RequestOverflows MOST_FIELDS bytes → TellsEach bytes (Err BadRequest)
overflow_each bytes over = λ more. no_head_tells (bytes ++ more) (λ head rest reads allowed.
    let many : MOST_FIELDS < length head.fields = over more head rest reads in
    let few : length head.fields ≤ MOST_FIELDS = allowed.fields in
    omega (arith, many, few))

-- as many bytes as a head may have begin with none
pub full_each : (bytes : List ℕ) → HasNoRequest bytes → MOST_HEAD ≤ length bytes → TellsEach bytes (Err BadRequest)
full_each bytes none full = λ more. no_head_tells (bytes ++ more) (λ head rest reads allowed.
    let fits : length (print_request head) ≤ length bytes = let e = allowed.bytes in omega (arith, e, full) in
    none head (drop (length (print_request head)) bytes) (head_in_front bytes more head rest reads fits))

-- bytes that are not as many as a head may have, and begin with none, where nothing follows
pub none_tells : (bytes : List ℕ) → HasNoRequest bytes → TellsWhole bytes (Err BadRequest)
none_tells bytes none = no_head_tells bytes (λ head rest reads allowed. none head rest reads)

-- ---- a head that was found

-- what a span covers lies in the front that has it
span_in_front : (len : ℕ) (bytes : List ℕ) (s : Span) → IsWithin len s → len ≤ length bytes
    → span_bytes (take len bytes) s ≡ span_bytes bytes s
span_in_front len bytes s within fits =
    let a : ℕ = s.start in
    let b : ℕ = s.end in
    let cut : a + (len - a) ≡ len = let e = within.0 in let f = within.1 in omega (arith, e, f) in
    let front : drop a (take len bytes) ≡ take (len - a) (drop a bytes) =
    ap (λ (n : ℕ). drop a (take n bytes)) (sym cut) ∙ drop-take a (len - a) bytes in
    ap (λ (z : List ℕ). take (b - a) z) front
    ∙ take_take (b - a) (len - a) (drop a bytes)
    (let e = within.0 in let f = within.1 in let l = length-take (len - a) (drop a bytes) in let d = length-drop a bytes in omega (arith, e, f, l, d, fits))

pub is_head : (bytes : List ℕ) (headers : List HeaderSpan) (spans : RequestSpans) (h : RequestHead) (c : Chosen)
    → IsRequestAt bytes headers spans h → IsRequestWithin bytes headers spans → IsAllowed h → chosen h ≡ Ok c → c.body_length ≤ MOST_BODY
    → IsHead (take spans.len bytes) (record { target = spans.path; chosen = c })
is_head bytes headers spans h c at within allowed is small =
    let fits : spans.len ≤ length bytes = within.section.len_fits in
    let front : take spans.len bytes ≡ print_request h =
    ap (λ (z : List ℕ). take spans.len z) at.reads.1 ∙ take_at (print_request h) (drop spans.len bytes) spans.len (sym at.len) in
    let long : length (take spans.len bytes) ≡ spans.len = let l = length-take spans.len bytes in omega (arith, l, fits) in
    record {
      head = h;
      reads = (at.reads.0, front ∙ sym (append-nil (print_request h)));
      allowed = allowed;
      chosen_is = is;
      target_is = span_in_front spans.len bytes spans.path within.path fits ∙ at.path;
      within = rw (sym long) at (within.path);
      small = small;
    }

-- the stage of a head that was found, with the bytes after it
pub after_head : (len : ℕ) (bytes rest : List ℕ) (known : Headed) (stage : Stage) → IsHead (take len bytes) known
    → rest ≡ drop len bytes → IsBodyStage known rest stage → IsAfterHead len bytes stage
after_head len bytes rest known stages.Head is same none = absurd none
after_head len bytes rest known (stages.Text headed body) is same made = (rw (sym made.0) at is, made.1 ∙ same)
after_head len bytes rest known (stages.Message headed message) is same made = ((rw (sym made.0) at is, made.1), made.2 ∙ same)
after_head len bytes rest known (stages.Refused fault) is same none = absurd none

-- where it is refused all bytes stay as they are
pub refused_stands : (len : ℕ) (bytes : List ℕ) (stage : Stage) → IsAfterHead len bytes stage → is_refused stage ≡ true
    → Stands bytes stage
refused_stands len bytes stages.Head none is = absurd none
refused_stands len bytes (stages.Text headed body) made is = search rules
refused_stands len bytes (stages.Message headed message) made is = search rules
refused_stands len bytes (stages.Refused fault) tells is = tells

-- ---- what is asked by a head and a body

-- more bytes than a body has change nothing
body_more : (n : ℕ) (body more : List ℕ) → n ≤ length body → body_in n (body ++ more) ≡ body_in n body
body_more n body more enough =
    let long : length (body ++ more) ≡ length body + length more = length-append body more in
    let whole : ltb (length body) n ≡ false = le-ltb (length body) n enough in
    let all : ltb (length (body ++ more)) n ≡ false = le-ltb (length (body ++ more)) n (omega (arith, long, enough)) in
    rw (all, whole, take-append-le n body more enough) refl

asks_tells : (head rest : List ℕ) (headed : Headed) (path : List ℕ) (got : Option (List ℕ)) (result : Result rust.Request Fault)
    → (is : IsHead head headed) → path ≡ path_of is.head.target → got ≡ body_in headed.chosen.body_length rest
    → Tells request_of result (asked_for path got headed.chosen.action) → TellsWhole (head ++ rest) result
asks_tells head rest headed path got result is path_is got_is tells =
    let h : RequestHead = is.head in
    let told : Tells request_of result (asked_for (path_of h.target) (body_in headed.chosen.body_length rest) headed.chosen.action) =
    let P : List ℕ → Type 0 = λ p. Tells request_of result (asked_for p (body_in headed.chosen.body_length rest) headed.chosen.action) in
    subst P path_is (let Q : Option (List ℕ) → Type 0 = λ b. Tells request_of result (asked_for path b headed.chosen.action) in subst Q got_is tells) in (
      asked_for (path_of h.target) (body_in headed.chosen.body_length rest) headed.chosen.action,
      told,
      inr (h, rest, ReadsRequest-append head h [] rest is.reads, is.allowed, rw is.chosen_is refl),
    )

-- nothing follows
pub ended_tells : (head body : List ℕ) (headed : Headed) (path : List ℕ) (got : Option (List ℕ)) (result : Result rust.Request Fault)
    → (is : IsHead head headed) → path ≡ path_of is.head.target → got ≡ body_in headed.chosen.body_length body
    → Tells request_of result (asked_for path got headed.chosen.action) → TellsWhole (head ++ body) result
ended_tells head body headed path got result is path_is got_is tells = asks_tells head body headed path got result is path_is got_is tells

-- whatever follows a whole body
pub whole_tells : (head body : List ℕ) (headed : Headed) (path : List ℕ) (got : Option (List ℕ)) (result : Result rust.Request Fault)
    → (is : IsHead head headed) → headed.chosen.body_length ≤ length body → path ≡ path_of is.head.target
    → got ≡ body_in headed.chosen.body_length body → Tells request_of result (asked_for path got headed.chosen.action)
    → TellsEach (head ++ body) result
whole_tells head body headed path got result is enough path_is got_is tells = λ more.
    let P : List ℕ → Type 0 = λ bytes. TellsWhole bytes result in
    subst P (sym (append_assoc head body more))
    (asks_tells head (body ++ more) headed path got result is path_is
    (got_is ∙ sym (body_more headed.chosen.body_length body more enough)) tells)

-- a message of at most n bytes has at most m, where n is at most m
within_more : (n m : ℕ) (request : Request) → n ≤ m → IsLong n request → IsLong m request
within_more n m (Asks command) few within = tt
within_more n m (Registers subject text) few within = tt
within_more n m (AsksSchema id) few within = tt
within_more n m (Transcodes id message) few within = omega (arith, few, within)

size_small : (n : ℕ) (bytes : List ℕ) (message : Option (List ℕ)) → message ≡ body_in n bytes → n ≤ MOST_BODY → size_of message ≤ MOST_BODY
size_small n bytes None is small = search (rules, arith)
size_small n bytes (Some m) is small = search (rules, arith)

-- ---- what a reception asks, by what is seen of it

-- its bytes are those of its head and those after it
pub bytes_are : (self : Received) (head : List ℕ) (stage : Stage)
    → self ≡ record { bytes = head ++ follows stage; is_whole = is_whole stage } → self.bytes ≡ head ++ follows stage
bytes_are self head stage view = ap (λ (r : Received). r.bytes) view

-- its head is not whole, and nothing follows
pub begun_tells : (self : Received) (head : List ℕ) (stage : Stage)
    → self ≡ record { bytes = head ++ follows stage; is_whole = is_whole stage } → stage ≡ stages.Head → HasNoneYet head
    → 0 < length self.bytes → TellsWhole self.bytes (Err BadRequest)
begun_tells self head stage view is none some =
    let all : self.bytes ≡ head = bytes_are self head stage view ∙ ap (λ (s : Stage). head ++ follows s) is ∙ append-nil head in
    let P : List ℕ → Type 0 = λ bytes. TellsWhole bytes (Err BadRequest) in
    subst P (sym all) (none_tells head (none (rw all at some)))

-- it is refused
pub refused_tells : (self : Received) (head : List ℕ) (stage : Stage) (fault : Fault)
    → self ≡ record { bytes = head ++ follows stage; is_whole = is_whole stage } → stage ≡ stages.Refused fault
    → TellsEach head (Err fault) → TellsEach self.bytes (Err fault)
refused_tells self head stage fault view is tells =
    let all : self.bytes ≡ head = bytes_are self head stage view ∙ ap (λ (s : Stage). head ++ follows s) is ∙ append-nil head in
    let P : List ℕ → Type 0 = λ bytes. TellsEach bytes (Err fault) in
    subst P (sym all) tells

-- whatever follows what is whole, nothing does as well
pub each_tells : (bytes : List ℕ) (result : Result rust.Request Fault) → TellsEach bytes result → TellsWhole bytes result
each_tells bytes result tells =
    let P : List ℕ → Type 0 = λ b. TellsWhole b result in subst P (append-nil bytes) (tells [])

module _ (self : Received) (head body : List ℕ) (stage : Stage) (headed : Headed) (path : List ℕ) (got : Option (List ℕ))
    (result : Result rust.Request Fault) (view : self ≡ record { bytes = head ++ follows stage; is_whole = is_whole stage })
    (is : follows stage ≡ body) (whole : is_whole stage ≡ nat_le headed.chosen.body_length (length body))
    (known : IsHead head headed) (path_is : path ≡ path_of known.head.target)
    (got_is : got ≡ body_in headed.chosen.body_length body)
    (tells : Tells request_of result (asked_for path got headed.chosen.action)) where
  all_bytes : self.bytes ≡ head ++ body
  all_bytes = bytes_are self head stage view ∙ ap (λ (z : List ℕ). head ++ z) is

  -- its body has come, or was cut short
  pub body_ended : TellsWhole self.bytes result
  body_ended =
      let P : List ℕ → Type 0 = λ bytes. TellsWhole bytes result in
      subst P (sym all_bytes) (ended_tells head body headed path got result known path_is got_is tells)

  -- its body is whole
  pub body_whole : self.is_whole ≡ true → TellsEach self.bytes result
  body_whole done =
      let enough : nat_le headed.chosen.body_length (length body) ≡ true =
      sym whole ∙ sym (ap (λ (r : Received). r.is_whole) view) ∙ done in
      let P : List ℕ → Type 0 = λ bytes. TellsEach bytes result in
      subst P (sym all_bytes) (whole_tells head body headed path got result known (search (rules, arith)) path_is got_is tells)

-- a message that is whole or cut is no longer than a body may be
pub message_small : (n : ℕ) (bytes : List ℕ) (message : Option (List ℕ)) (result : Result rust.Request Fault) → message ≡ body_in n bytes
    → n ≤ MOST_BODY → IfOk result (λ request. IsLong (size_of message) (request_of request))
    → IfOk result (λ request. IsLong MOST_BODY (request_of request))
message_small n bytes message (Err fault) is small within = tt
message_small n bytes message (Ok request) is small within =
    within_more (size_of message) MOST_BODY (request_of request) (size_small n bytes message is small) within
