-- The content that a decoder waits for, after one look at the bytes.
use Rattle.std.proofs.Common.{◌≡◌, ℕ, ◌+◌, ◌<◌, ◌≤◌, ◌↔◌, ◌⊎◌, inl, inr, List, [], ◌++◌, length, take, drop, min, refl, sym, ap, subst, ◌∙◌, arith, length-append}
use Rattle.std.proofs.lemmas.List.{append-nil, append_assoc, drop_all, length-map, length-take}
use Rattle.httparse.specs.Grammar.{Field}
use Rattle.httparse.specs.Spans.{AreFieldsAt, header_bytes, name_and_value}
use Rattle.httparse.specs.declared.spans.HeaderSpan.{HeaderSpan}
use Rattle.http1.specs.Body.{Body, body_of}
use Rattle.http1.specs.declared.decode.Decoder.{Decoder}
use Rattle.http1.specs.declared.decode.Decoder.TheVariants.{Chunked, Length, UntilClose}
use Rattle.http1.specs.Decoder.{AwaitsTrailers, Completes, Continues, Ends, HasNoBody, Starves, with_front}
use Rattle.upstream_answers.specs.Parts.{HasContent}
use Rattle.spec_service.specs.declared.upstream_limits.TheConstants.{MOST_CONTENT, MOST_FIELDS}

-- the fields that spans cover are no more than there is room for
pub few_fields : (buffer : List ℕ) (headers : List HeaderSpan) (count : ℕ) (fields : List Field)
    → AreFieldsAt buffer headers count fields
    → length headers ≡ MOST_FIELDS → length fields ≤ MOST_FIELDS
few_fields buffer headers count fields same room =
    let long : length fields ≡ min count (length headers) =
    sym (length-map fields name_and_value) ∙ ap (λ (l : List (List ℕ × List ℕ)). length l) (sym same)
    ∙ length-map (take count headers) (header_bytes buffer) ∙ length-take count headers in
    omega (arith, long, room)

-- no more bytes follow
with_none : (d : Decoder) (input : List ℕ) (body : Body) (rest : List ℕ) → Completes d input body rest
    → Completes d (input ++ []) body rest
with_none d input body rest = subst (λ s. Completes d s body rest) (sym (append-nil input))

without_none : (d : Decoder) (input : List ℕ) (body : Body) (rest : List ℕ) → Completes d (input ++ []) body rest
    → Completes d input body rest
without_none d input body rest = subst (λ s. Completes d s body rest) (append-nil input)

module _ (old new : Decoder) (input before piece : List ℕ) (len : ℕ) (goes : Continues old input new len piece) where
  onward : (whole : List ℕ) → HasContent old input before whole
      → HasContent new (drop len input) (before ++ piece) whole
  onward whole has =
      let next = goes.forth [] has.body has.rest (with_none old input has.body has.rest has.completes) in
      let count : length has.body.trailers ≡ length next.0.trailers =
      ap (λ (b : Body). length b.trailers) next.1 in record {
        body = next.0;
        rest = has.rest;
        completes = without_none new (drop len input) next.0 has.rest next.2;
        trailers = let few = has.trailers in omega (arith, count, few);
        content_is = has.content_is ∙ ap (λ (b : Body). before ++ b.bytes) next.1
            ∙ sym (append_assoc before piece next.0.bytes);
        size = has.size;
      }

  backward : (whole : List ℕ) → HasContent new (drop len input) (before ++ piece) whole
      → HasContent old input before whole
  backward whole has = record {
    body = with_front piece has.body;
    rest = has.rest;
    completes = without_none old input (with_front piece has.body) has.rest
        (goes.back [] has.body has.rest (with_none new (drop len input) has.body has.rest has.completes));
    trailers = has.trailers;
    content_is = has.content_is ∙ append_assoc before piece has.body.bytes;
    size = has.size;
  }

  -- after a piece no other content is waited for
  pub content_goes_on : (rest now : List ℕ) → rest ≡ drop len input → now ≡ before ++ piece
      → (whole : List ℕ) → HasContent old input before whole ↔ HasContent new rest now whole
  content_goes_on rest now is joined whole = rw (is, joined) (onward whole, backward whole)

  -- with a piece that is too long there is no content within the limits
  pub piece_too_long : MOST_CONTENT < length before + length piece → (whole : List ℕ)
      → HasContent old input before whole → ⊥
  piece_too_long many whole has =
      let next = onward whole has in
      let long : length whole ≡ length before + length piece + length next.body.bytes =
      ap length next.content_is ∙ length-append (before ++ piece) next.body.bytes
      ∙ ap (λ n. n + length next.body.bytes) (length-append before piece) in
      let few = next.size in
      omega (arith, many, long, few)

-- at the end of the body the content is whole
pub content_ends : (old : Decoder) (input : List ℕ) (spans : List HeaderSpan) (len count : ℕ) (before : List ℕ)
    → Ends old input spans len count
    → length spans ≡ MOST_FIELDS → length before ≤ MOST_CONTENT → HasContent old input before before
content_ends old input spans len count before ends room size = record {
  body = body_of [] ends.trailers;
  rest = drop len input ++ [];
  completes = without_none old input (body_of [] ends.trailers) (drop len input ++ []) (ends.completes []);
  trailers = few_fields input spans count ends.trailers ends.covered room;
  content_is = sym (append-nil before);
  size = size;
}

-- all bytes were looked at
drained : (new : Decoder) (input : List ℕ) (len n : ℕ) → new ≡ UntilClose
    → (len ≡ length input) ⊎ AwaitsTrailers new n → drop len input ≡ []
drained new input len n is (inl all) = ap (λ m. drop m input) all ∙ drop_all (length input) input (omega arith)
drained new input len n is (inr awaits) = absurd (subst (λ d. AwaitsTrailers d n) is awaits)

-- a body that runs until the connection is closed ends with the bytes
pub content_closes : (old new : Decoder) (input : List ℕ) (len : ℕ) (before : List ℕ) → new ≡ UntilClose
    → Starves old input new len
    → length before ≤ MOST_CONTENT → HasContent old input before before
content_closes (Length left) new input len before is starves size =
    absurd (let same = sym is ∙ starves.continues.runs in cc)
content_closes (Chunked chunks max_len) new input len before is starves size =
    absurd (let same = sym is ∙ starves.continues.runs.1 in cc)
content_closes UntilClose new input len before is starves size =
    let left : drop len input ≡ [] = drained new input len _ is starves.drained in
    let last : Completes new (drop len input ++ []) (body_of [] []) [] = rw (is, left) (refl, refl, refl) in record {
      body = body_of [] [];
      rest = [];
      completes = without_none UntilClose input (body_of [] []) [] (starves.continues.back [] (body_of [] []) [] last);
      trailers = omega arith;
      content_is = sym (append-nil before);
      size = size;
    }

-- whatever follows, there is no body, or too many trailers follow it
pub no_content : (decoder : Decoder) (input before : List ℕ) → HasNoBody decoder input MOST_FIELDS
    → (whole : List ℕ) → HasContent decoder input before whole → ⊥
no_content decoder input before none whole has =
    let many : MOST_FIELDS < length has.body.trailers =
    none [] has.body has.rest (with_none decoder input has.body has.rest has.completes) in
    let few = has.trailers in
    omega (arith, many, few)
