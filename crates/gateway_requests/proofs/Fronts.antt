-- What the first bytes of a reader say of the head in all of them.
use Rattle.std.proofs.Common.{◌≡◌, ℕ, ◌+◌, ◌<◌, ◌≤◌, List, [], ◌∷◌, ◌++◌, length, take, drop, min, Option, Some, None, IfSome, refl, sym, ap, ◌∙◌, arith}
use Rattle.std.proofs.lemmas.List.{append-nil, take-append-drop, take-append-le, length-take-le, take_at, length-map, length-take}
use Rattle.std.proofs.Math.Seq.{take-append-add}
use Rattle.std.proofs.KnownBytes.{Consumes-trans}
use Rattle.std.specs.Io.KnownBytes.{Consumes, IsAtEnd}
use Rattle.httparse.specs.Grammar.{Field, ReadsRequest, RequestHead, print_request, HasNoRequest}
use Rattle.httparse.specs.Spans.{RequestOverflows, AreFieldsAt, header_bytes, name_and_value, IsRequestAt, IsRequestWithin}
use Rattle.httparse.specs.declared.spans.HeaderSpan.{HeaderSpan}
use Rattle.httparse.specs.declared.spans.RequestSpans.{RequestSpans}
use Rattle.spec_service.specs.declared.limits.TheConstants.{MOST_FIELDS, MOST_HEAD}
use Rattle.spec_service.specs.Front.{HasNoHead, IsAllowed}
use borrow.Rule.Slice.PartMut.{put_mid, post_of}

-- no bytes, or bytes that begin with no head
abbrev pub NoneYet : List ℕ → Type 0
NoneYet [] = Unit {0}
NoneYet (b ∷ bytes) = HasNoRequest (b ∷ bytes)

pub none_yet : (bytes : List ℕ) → HasNoRequest bytes → NoneYet bytes
none_yet [] none = tt
none_yet (b ∷ bytes) none = none

pub some_none : (bytes : List ℕ) → NoneYet bytes → 0 < length bytes → HasNoRequest bytes
some_none [] none some = absurd (let e : ⊥ = omega (arith, some) in e)
some_none (b ∷ bytes) none some = none

-- the first bytes of a buffer, once a part was written after the first of them
pub take_behind : (a k n : ℕ) (xs ys : List ℕ) → a ≤ length xs → n ≤ length ys
    → take (a + n) (put_mid a k xs ys) ≡ take a xs ++ take n ys
take_behind a k n xs ys fits few =
    let long : length (take a xs) ≡ a = length-take-le a xs fits in
    ap (λ (m : ℕ). take (m + n) (take a xs ++ (ys ++ post_of a k xs))) (sym long)
    ∙ take-append-add (take a xs) (ys ++ post_of a k xs) n
    ∙ ap (λ (z : List ℕ). take a xs ++ z) (take-append-le n ys (post_of a k xs) few)

-- one more part was taken
pub taken_more : (a b c : Option (List ℕ)) (xs ys now : List ℕ) → Consumes a b xs → Consumes b c ys → now ≡ xs ++ ys → Consumes a c now
taken_more a b c xs ys now before more is = rw is (Consumes-trans a b c xs ys before more)

-- all bytes were received, and no head is in them
pub none_at_end : (input : Option (List ℕ)) (left : Option (List ℕ)) (bytes : List ℕ) → Consumes input left bytes → IsAtEnd left
    → HasNoRequest bytes → IfSome input HasNoHead
none_at_end None left bytes taken end none = tt
none_at_end (Some xs) None bytes taken end none = absurd taken
none_at_end (Some xs) (Some ys) bytes taken end none =
    let same : xs ≡ bytes = taken ∙ ap (λ (z : List ℕ). bytes ++ z) end ∙ append-nil bytes in
    λ head rest reads allowed. none head rest (rw same at reads)

-- whatever follows, a head has too many fields
pub none_by_fields : (input : Option (List ℕ)) (left : Option (List ℕ)) (bytes : List ℕ) → Consumes input left bytes
    → RequestOverflows MOST_FIELDS bytes → IfSome input HasNoHead
none_by_fields None left bytes taken over = tt
none_by_fields (Some xs) None bytes taken over = absurd taken
none_by_fields (Some xs) (Some ys) bytes taken over =
    λ head rest reads allowed.
    let many : MOST_FIELDS < length head.fields = over ys head rest (rw taken at reads) in
    let few : length head.fields ≤ MOST_FIELDS = allowed.fields in
    omega (arith, many, few)

-- a head that is no longer than the first bytes is a head of these
pub head_in_front : (bytes more : List ℕ) (head : RequestHead) (rest : List ℕ) → ReadsRequest (bytes ++ more) head rest
    → length (print_request head) ≤ length bytes → ReadsRequest bytes head (drop (length (print_request head)) bytes)
head_in_front bytes more head rest reads fits =
    let n : ℕ = length (print_request head) in
    let front : take n bytes ≡ print_request head =
    sym (take-append-le n bytes more fits) ∙ ap (λ (z : List ℕ). take n z) reads.1
    ∙ take_at (print_request head) rest n refl in
    (reads.0, sym (take-append-drop n bytes) ∙ ap (λ (z : List ℕ). z ++ drop n bytes) front)

-- the room is full, and no head is in it
pub none_by_room : (input : Option (List ℕ)) (left : Option (List ℕ)) (bytes : List ℕ) → Consumes input left bytes
    → HasNoRequest bytes → length bytes ≡ MOST_HEAD → IfSome input HasNoHead
none_by_room None left bytes taken none full = tt
none_by_room (Some xs) None bytes taken none full = absurd taken
none_by_room (Some xs) (Some ys) bytes taken none full =
    λ head rest reads allowed.
    let fits : length (print_request head) ≤ length bytes = let e = allowed.bytes in omega (arith, e, full) in
    none head (drop (length (print_request head)) bytes) (head_in_front bytes ys head rest (rw taken at reads) fits)

few_fields : (buffer : List ℕ) (headers : List HeaderSpan) (count : ℕ) (fields : List Field) → AreFieldsAt buffer headers count fields
    → length headers ≡ MOST_FIELDS → length fields ≤ MOST_FIELDS
few_fields buffer headers count fields same room =
    let long : length fields ≡ min count (length headers) =
    sym (length-map fields name_and_value) ∙ ap (λ (l : List (List ℕ × List ℕ)). length l) (sym same)
    ∙ length-map (take count headers) (header_bytes buffer) ∙ length-take count headers in
    omega (arith, long, room)

-- a head that was found in the room is within the limits
pub is_allowed : (buffer : List ℕ) (headers : List HeaderSpan) (spans : RequestSpans) (head : RequestHead)
    → IsRequestAt buffer headers spans head → IsRequestWithin buffer headers spans → length buffer ≤ MOST_HEAD
    → length headers ≡ MOST_FIELDS → IsAllowed head
is_allowed buffer headers spans head found within few room = record {
  bytes = let a = found.len in let b = within.section.len_fits in omega (arith, a, b, few);
  fields = few_fields buffer headers spans.headers head.fields found.fields room;
}
