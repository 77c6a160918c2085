-- What is known of a content, while it moves.
use Rattle.std.proofs.Common.{◌≡◌, ◌≤◌, ◌<◌, ℕ, ◌+◌, ◌-◌, Bool, true, false, List, [], ◌∷◌, ◌++◌, length, take, drop, Option, Some, None, refl, sym, ap, ◌∙◌, subst, arith, append_assoc, length-append, ne_eqb}
use Rattle.std.specs.Prelude.{is_some, ◌==◌}
use Rattle.std.specs.Str.{IsErrorLen, IsUtf8, IsValidUpTo, is_utf8}
use Rattle.std.specs.Str.Lossy.{utf8_error_len}
use Rattle.std.proofs.Math.Seq.{take-add}
use Rattle.std.proofs.lemmas.List.{append-nil, drop-drop, drop_at, length-drop, length-take, take-append-drop}
use Rattle.std.proofs.lemmas.Str.{IsUtf8-append, IsUtf8-nil, IsUtf8-from_is_utf8, is_utf8-from_IsUtf8}
use Rattle.machine_store.specs.declared.text.Carry.{Carry}
use Rattle.machine_store.specs.declared.text.TextCheck.{TextCheck}
use Rattle.machine_store.specs.declared.text.TextCheck.TheVariants as checks
use Rattle.machine_store.specs.Text.{EndsIn, IsCheck, check_of, is_asked}
use Rattle.machine_store.proofs.Characters.{broken-rest, cut-text, none-behind, none-in-nothing, nothing-faultless}
use Rattle.machine_store.specs.Laws.Plain.{none-of}

-- nothing, before any byte
pub nothing-cut : EndsIn [] []
nothing-cut = record { front = []; parts = refl; utf8 = IsUtf8-nil; short = omega arith; none = none-in-nothing; faultless = nothing-faultless }

-- the bytes between two offsets
abbrev pub between : List ℕ → ℕ → ℕ → List ℕ
between input from to = take (to - from) (drop from input)

pub between-more : (input : List ℕ) (from pos to : ℕ) → from ≤ pos → pos ≤ to → between input from to ≡ between input from pos ++ between input pos to
between-more input from pos to a b =
    ap (λ (n : ℕ). take n (drop from input)) (let e : to - from ≡ (pos - from) + (to - pos) = omega arith in e)
    ∙ take-add (pos - from) (to - pos) (drop from input)
    ∙ ap (λ (x : List ℕ). between input from pos ++ take (to - pos) x) (drop-drop (pos - from) from input ∙ ap (λ (n : ℕ). drop n input) (let e : from + (pos - from) ≡ pos = omega arith in e))

length-between : (input : List ℕ) (from to : ℕ) → from ≤ to → to ≤ length input → length (between input from to) ≡ to - from
length-between input from to a b = omega (arith, length-take (to - from) (drop from input), length-drop from input)

-- the carry is before the place
pub carry-there : (input carry : List ℕ) (from pos : ℕ) → from ≤ pos → pos ≤ length input → EndsIn carry (between input from pos) → (length carry ≤ pos - from) × (between input (pos - length carry) pos ≡ carry)
carry-there input carry from pos a b k =
    let n : length (between input from pos) ≡ pos - from = length-between input from pos a b in
    let split : length (between input from pos) ≡ length k.front + length carry = ap (λ (x : List ℕ). length x) k.parts ∙ length-append k.front carry in
    let le : length carry ≤ pos - from = omega (arith, n, split) in
    let start = pos - length carry in
    let more : between input from pos ≡ between input from start ++ between input start pos = between-more input from start pos (omega (arith, le, a)) (omega arith) in
    let size : length (between input from start) ≡ length k.front = omega (arith, length-between input from start (omega (arith, le, a)) (omega (arith, b)), n, split, le, a) in
    (le, sym (drop_at (between input from start) (between input start pos) (length k.front) size) ∙ ap (drop (length k.front)) (sym more ∙ k.parts) ∙ drop_at k.front carry (length k.front) refl)

short-rest : (bytes : List ℕ) (v : ℕ) (o : Option ℕ) → is_some o ≡ false → IsErrorLen bytes v o → length bytes < v + 4
short-rest bytes v None e s = s
short-rest bytes v (Some n) e s = absurd cc

-- as many bytes are held as is said
pub carry-size : (held : Carry) → length held.bytes ≡ 3 → held.len ≡ length (take held.len held.bytes)
carry-size held full = omega (arith, length-take held.len held.bytes, full, held.short)

-- the last bytes before a place are held, and the bytes up to another one pass
module _ (input : List ℕ) (held : Carry) (full : length held.bytes ≡ 3) (from pos to : ℕ) (a : from ≤ pos) (b : pos ≤ to) (c : to ≤ length input) (k : EndsIn (take held.len held.bytes) (between input from pos)) where
  abbrev carry : List ℕ
  carry = take held.len held.bytes

  abbrev bytes : List ℕ
  bytes = between input (pos - held.len) to

  bytes-are : bytes ≡ carry ++ between input pos to
  bytes-are =
      let t = carry-there input carry from pos a (omega (arith, b, c)) k in
      ap (λ (n : ℕ). between input (pos - n) to) (carry-size held full)
      ∙ between-more input (pos - length carry) pos to (omega arith) b
      ∙ ap (λ (x : List ℕ). x ++ between input pos to) t.1

  all-are : between input from to ≡ k.front ++ bytes
  all-are =
      between-more input from pos to a b ∙ ap (λ (x : List ℕ). x ++ between input pos to) k.parts ∙ append_assoc k.front carry (between input pos to) ∙ ap (λ (x : List ℕ). k.front ++ x) (sym bytes-are)

  pub passed-whole : IsUtf8 bytes → EndsIn [] (between input from to)
  passed-whole u = record {
    front = k.front ++ bytes;
    parts = all-are ∙ sym (append-nil (k.front ++ bytes));
    utf8 = IsUtf8-append k.front bytes k.utf8 u;
    short = omega arith;
    none = none-in-nothing;
    faultless = nothing-faultless;
  }

  module _ (v : ℕ) (u : IsValidUpTo bytes v) where
    front-whole : IsUtf8 (k.front ++ take v bytes)
    front-whole = IsUtf8-append k.front (take v bytes) k.utf8 u.front

    parted : between input from to ≡ (k.front ++ take v bytes) ++ drop v bytes
    parted = all-are ∙ ap (λ (x : List ℕ). k.front ++ x) (sym (take-append-drop v bytes)) ∙ sym (append_assoc k.front (take v bytes) (drop v bytes))

    module _ (o : Option ℕ) (fault : o ≡ utf8_error_len (drop v bytes)) where
      pub passed-cut : is_some o ≡ false → IsErrorLen bytes v o → EndsIn (drop v bytes) (between input from to)
      passed-cut none s = record {
        front = k.front ++ take v bytes;
        parts = parted;
        utf8 = front-whole;
        short = omega (arith, length-drop v bytes, short-rest bytes v o none s);
        none = none-behind bytes v u;
        faultless = sym fault ∙ none-of o none;
      }

      pub passed-broken : is_some o ≡ true → (more : List ℕ) → IsUtf8 (between input from to ++ more) → ⊥
      passed-broken some more t =
          broken-rest (k.front ++ take v bytes) (drop v bytes) more front-whole (none-behind bytes v u) (ap is_some (sym fault) ∙ some) (subst (λ (x : List ℕ). IsUtf8 (x ++ more)) parted t)

-- what can become no text does not by more bytes
pub broken-on : (input : List ℕ) (from pos to : ℕ) → from ≤ pos → pos ≤ to → ((more : List ℕ) → IsUtf8 (between input from pos ++ more) → ⊥) → (more : List ℕ) → IsUtf8 (between input from to ++ more) → ⊥
broken-on input from pos to a b broken more t =
    broken (between input pos to ++ more) (subst IsUtf8 (ap (λ (x : List ℕ). x ++ more) (between-more input from pos to a b) ∙ append_assoc (between input from pos) (between input pos to) more) t)

-- ---- at the end

not-text : (content : List ℕ) (b : Bool) → is_utf8 content ≡ b → (IsUtf8 content → ⊥) → false ≡ b
not-text content true e n = absurd (n (IsUtf8-from_is_utf8 content e))
not-text content false e n = refl

broken-text : (content : List ℕ) → ((more : List ℕ) → IsUtf8 (content ++ more) → ⊥) → false ≡ is_utf8 content
broken-text content broken = not-text content (is_utf8 content) refl (λ t. broken [] (subst IsUtf8 (sym (append-nil content)) t))

whole-text : (content : List ℕ) (k : EndsIn [] content) → true ≡ is_utf8 content
whole-text content k = sym (is_utf8-from_IsUtf8 content (subst IsUtf8 (sym (k.parts ∙ append-nil k.front)) k.utf8))

-- a content is a text where no character of it is cut
ends-with : (content carry : List ℕ) → EndsIn carry content → length carry == 0 ≡ is_utf8 content
ends-with content [] k = whole-text content k
ends-with content (b ∷ carry) k =
    ne_eqb (length (b ∷ carry)) 0 (omega arith)
    ∙ not-text content (is_utf8 content) refl
    (λ t. let z : length (b ∷ carry) ≡ 0 = cut-text k.front (b ∷ carry) k.utf8 k.none (subst IsUtf8 k.parts t) in absurd cc)

pub ends-text : (content : List ℕ) (n : ℕ) (carry : List ℕ) → n ≡ length carry → EndsIn carry content → n == 0 ≡ is_utf8 content
ends-text content n carry e k = ap (λ (m : ℕ). m == 0) e ∙ ends-with content carry k

-- ---- what is known, and not that a character is cut

pub passed-other : (check : TextCheck) (input : List ℕ) (from pos to : ℕ) → ((k : Carry) → check ≡ checks.Cut k → ⊥) → from ≤ pos → pos ≤ to → IsCheck (check_of check) (between input from pos) → IsCheck (check_of check) (between input from to)
passed-other checks.Unasked input from pos to n a b k = tt
passed-other checks.Broken input from pos to n a b k = broken-on input from pos to a b k
passed-other (checks.Cut c) input from pos to n a b k = absurd (n c refl)

pub other-text : (check : TextCheck) (content : List ℕ) → ((k : Carry) → check ≡ checks.Cut k → ⊥) → is_asked (check_of check) ≡ true → IsCheck (check_of check) content → false ≡ is_utf8 content
other-text checks.Unasked content n a k = absurd cc
other-text checks.Broken content n a k = broken-text content k
other-text (checks.Cut c) content n a k = absurd (n c refl)
