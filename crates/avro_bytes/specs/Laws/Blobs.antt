-- Bytes after their length: what is read is spelled so, what is spelled is read, and what is decided stays so.
use Rattle.std.proofs.Common.{◌≡◌, ◌≢◌, ℕ, ◌+◌, ◌≤◌, List, ◌++◌, length, take, drop, pos, refl, sym, ap, subst, ◌∙◌, append_assoc, arith}
use Rattle.std.proofs.lemmas.List.{drop_at, take_at, length-append}
use Rattle.spec_avro.specs.declared.limits.TheConstants.{MOST_CONTENT}
use Rattle.spec_avro.specs.declared.meter.Meter.{Meter}
use Rattle.spec_avro.specs.Blob.{IsBlob}
use Rattle.avro_bytes.specs.Blob.{content_at, fixed_at}
use Rattle.spec_decoding.specs.Decoding.{Complete, Decoding, Failed, ◌>>=◌}
use Rattle.avro_bytes.specs.Decoding.{Stands}
use Rattle.spec_avro.specs.Defect.{Defect, Need}
use Rattle.spec_avro.specs.Length.{SpellsLength}
use Rattle.spec_decoding.specs.LengthDecoding.{length_at}
use Rattle.spec_avro.specs.Number.{IsNumber, long_limit}
use Rattle.avro_bytes.specs.Laws.Binds.{rest_after, stands_within, then_complete, then_steady}
use Rattle.avro_bytes.specs.Laws.Fixeds.{fixed_complete, fixed_sound, fixed_steady}
use Rattle.avro_bytes.specs.Laws.Lengths.{length_again, length_sound, length_steady}
use Rattle.avro_bytes.specs.Laws.Numbers.{number_one_form, pos_is}

-- a content after its length, which is at an offset
pub record ContentParts (all : List ℕ) (at : ℕ) (m : Meter) (content : List ℕ) (to : ℕ) (after : Meter) : Type 0 where
  pub len : List ℕ
  pub rest : List ℕ
  pub parts : drop at all ≡ len ++ (content ++ rest)
  pub number : IsNumber long_limit (pos (length content)) len
  pub short : length content ≤ MOST_CONTENT
  pub end : to ≡ at + (length len + length content)
  pub same : m ≡ after

-- a content, given its size
abbrev pub sized_content : List ℕ → ℕ → ℕ → Meter → Decoding (List ℕ)
sized_content bytes n to after = fixed_at n bytes to after

-- a content is a length, and then a fixed of that size
pub content_is_fixed : (all : List ℕ) (at n to : ℕ) (m after : Meter) → length_at all at m ≡ Complete n to after → content_at all at m ≡ fixed_at n all to after
unfolding content_at
content_is_fixed all at n to m after e = ap (λ (x : Decoding ℕ). x >>= sized_content all) e

pub content_fails : (all : List ℕ) (at : ℕ) (m : Meter) (d : Defect) → length_at all at m ≡ Failed d → content_at all at m ≡ Failed d
unfolding content_at
content_fails all at m d e = ap (λ (x : Decoding ℕ). x >>= sized_content all) e

pub content_parts : (all : List ℕ) (at : ℕ) (m : Meter) (content : List ℕ) (to : ℕ) (after : Meter) → content_at all at m ≡ Complete content to after → ContentParts all at m content to after
unfolding content_at
content_parts all at m content to after e =
    let t = then_complete (length_at all at m) (sized_content all) content to after e in
    let n = length_sound all at m t.first t.mid t.meter t.first_is in
    let f = fixed_sound t.first all t.mid t.meter content to after t.next_is in
    let here : drop t.mid all ≡ n.0.rest = rest_after n.0.bytes n.0.rest all at t.mid n.0.parts n.0.end in
    let whole : t.first ≡ length content = sym f.0.spelled.whole in
    record {
      len = n.0.bytes;
      rest = f.0.rest;
      parts = n.0.parts ∙ ap (λ (b : List ℕ). n.0.bytes ++ b) (sym here ∙ f.0.parts ∙ ap (λ (b : List ℕ). b ++ f.0.rest) f.0.spelled.same);
      number = subst (λ (k : ℕ). IsNumber long_limit (pos k) n.0.bytes) whole n.0.spelled.1;
      short = subst (λ (k : ℕ). k ≤ MOST_CONTENT) whole n.0.spelled.0;
      end = omega (arith, f.0.end, n.0.end, ap length f.0.spelled.same);
      same = n.1 ∙ f.1;
    }

pub content_again : (before len content rest : List ℕ) (m : Meter) → IsNumber long_limit (pos (length content)) len → length content ≤ MOST_CONTENT → content_at (before ++ (len ++ (content ++ rest))) (length before) m ≡ Complete content ((length before + length len) + length content) m
unfolding content_at
content_again before len content rest m n short =
    let all = before ++ (len ++ (content ++ rest)) in
    let place : length (before ++ len) ≡ length before + length len = length-append before len in
    let fixed : fixed_at (length content) ((before ++ len) ++ (content ++ rest)) (length (before ++ len)) m ≡ Complete content (length (before ++ len) + length content) m =
    fixed_complete (length content) (before ++ len) content rest content m m (record { same = refl; whole = refl }) refl in
    let here : fixed_at (length content) all (length before + length len) m ≡ Complete content ((length before + length len) + length content) m =
    subst (λ (k : ℕ). fixed_at (length content) all k m ≡ Complete content (k + length content) m) place
    (subst (λ (b : List ℕ). fixed_at (length content) b (length (before ++ len)) m ≡ Complete content (length (before ++ len) + length content) m) (append_assoc before len (content ++ rest)) fixed) in
    ap (λ (x : Decoding ℕ). x >>= sized_content all) (length_again before len (content ++ rest) (length content) m (short, n)) ∙ here

pub content_steady : (all more : List ℕ) (at : ℕ) (m : Meter) → at ≤ length all → content_at all at m ≢ Failed Need → content_at (all ++ more) at m ≡ content_at all at m
unfolding content_at
content_steady all more at m le c =
    then_steady (length_at all at m) (length_at (all ++ more) at m) (sized_content all) (sized_content (all ++ more))
    (length_steady all more at m le)
    (λ n mid after e d. fixed_steady n all more mid after (stands_within (SpellsLength n) all at mid le (length_sound all at m n mid after e).0) d)
    c

-- ---- as a form

pub blob_sound : (all : List ℕ) (at : ℕ) (m : Meter) (value : List ℕ) (to : ℕ) (after : Meter) → content_at all at m ≡ Complete value to after → Stands (IsBlob value) all at to × (m ≡ after)
blob_sound all at m value to after e =
    let c = content_parts all at m value to after e in (
      record {
        bytes = c.len ++ value;
        rest = c.rest;
        parts = c.parts ∙ sym (append_assoc c.len value c.rest);
        end = omega (arith, c.end, length-append c.len value);
        spelled = record { len = c.len; parts = refl; number = c.number; short = c.short };
      },
      c.same,
    )

pub blob_complete : (before bytes rest value : List ℕ) (m after : Meter) → IsBlob value bytes → m ≡ after → content_at (before ++ (bytes ++ rest)) (length before) m ≡ Complete value (length before + length bytes) after
blob_complete before bytes rest value m after s e =
    let same : before ++ (bytes ++ rest) ≡ before ++ (s.len ++ (value ++ rest)) = ap (λ (b : List ℕ). before ++ (b ++ rest)) s.parts ∙ ap (λ (b : List ℕ). before ++ b) (append_assoc s.len value rest) in
    let end : (length before + length s.len) + length value ≡ length before + length bytes = omega (arith, ap length s.parts, length-append s.len value) in
    ap (λ (b : List ℕ). content_at b (length before) m) same ∙ content_again before s.len value rest m s.number s.short
    ∙ ap (λ (k : ℕ). Complete value k m) end ∙ ap (λ (x : Meter). Complete value (length before + length bytes) x) e

pub blob_one_form : (a b x y v w : List ℕ) → IsBlob v a → IsBlob w b → a ++ x ≡ b ++ y → (a ≡ b) × (v ≡ w)
blob_one_form a b x y v w s t e =
    let whole : s.len ++ (v ++ x) ≡ t.len ++ (w ++ y) = sym (append_assoc s.len v x) ∙ ap (λ (k : List ℕ). k ++ x) (sym s.parts) ∙ e ∙ ap (λ (k : List ℕ). k ++ y) t.parts ∙ append_assoc t.len w y in
    let number = number_one_form long_limit s.len t.len (v ++ x) (w ++ y) (pos (length v)) (pos (length w)) s.number t.number whole in
    let len : length v ≡ length w = pos_is number.1 in
    let rest : v ++ x ≡ w ++ y = sym (drop_at s.len (v ++ x) (length s.len) refl) ∙ ap (drop (length s.len)) whole ∙ drop_at t.len (w ++ y) (length s.len) (ap length (sym number.0)) in
    let same : v ≡ w = sym (take_at v x (length v) refl) ∙ ap (take (length v)) rest ∙ take_at w y (length v) (sym len) in
    (s.parts ∙ ap (λ (l : List ℕ). l ++ v) number.0 ∙ ap (λ (k : List ℕ). t.len ++ k) same ∙ sym t.parts, same)
