-- A content moves in rows of 64 bytes at most, and is checked when it is whole.
use Rattle.std.proofs.Common.{◌≡◌, ℕ, zero, suc, ◌+◌, ◌-◌, ◌≤◌, ◌<◌, Bool, true, false, cond, List, [], ◌++◌, length, drop, Option, Some, None, refl, sym, ap, ◌∙◌, subst, arith, pos, append-nil, length-drop, min}
use Rattle.std.specs.Prelude.{nat_lt}
use Rattle.std.specs.Str.{is_utf8}
use Rattle.std.proofs.lemmas.List.{length-take-le}
use Rattle.spec_avro.specs.declared.meter.Meter.{Meter}
use Rattle.spec_avro.specs.declared.malformed.MalformedKind.TheVariants.{BadText, Truncated}
use Rattle.avro_bytes.specs.Blob.{content_at, fixed_at}
use Rattle.spec_decoding.specs.Decoding.{Decoding, Complete, Failed, ◌>>=◌}
use Rattle.spec_avro.specs.Defect.{Malformed, Need}
use Rattle.spec_decoding.specs.LengthDecoding.{length_at}
use Rattle.spec_avro.specs.Shortest.{shortest}
use Rattle.spec_avro.specs.Written.{after_length}
use Rattle.spec_avro.specs.Outcome as outcomes
use Rattle.spec_machine.specs.declared.limits.TheConstants.{MOST_CHUNK}
use Rattle.spec_machine.specs.Program.{Program}
use Rattle.spec_machine.specs.State.{Out, Content, State, Store}
use Rattle.spec_machine.specs.Table.{begun, prefixed, fixed, moves, stop}
use Rattle.program_correctness.proofs.Contents.{Anything, Check, OnlyText, OrMiss, Puts, checked, closed, closed_text, length_ahead, move_of, no_text, stretch, stretches, then_then, unless_of}
use Rattle.program_correctness.proofs.Follow.{Follows, end_row, follows_so, one_row, reads_then, row_then, stay}
use Rattle.program_correctness.proofs.Numbers.{least_below, least_is_second, lt_true, lt_yes}
use Rattle.isa.specs.Laws.Plain.{lt_false, lt_no}
use Rattle.program_correctness.proofs.Plain.{between, meter, moving, plain_row}

module _ (P : Program) (p : List ℕ) (L : ℕ) where
  module _ (put : List ℕ → Store → Store) (Fits : Store → Type 0) (puts : Puts put Fits) (check : Check) (pc : ℕ) (calls : List ℕ) (u : ℕ)
      (rows : (content : Content) (at : ℕ) (t : Store) → Fits t → plain_row P p (moving (Some content) pc at calls t u) ≡ moves P p true (move_of put check) content (moving (Some content) pc at calls t u)) where
    module _ (from n : ℕ) (m : Meter) where
      -- after what is left of a content, which is `n` bytes from its first offset on
      abbrev MovedAs : Check → Bool → ℕ → ℕ → Store → List ℕ → ℕ → Meter → State → Type 0
      MovedAs c ok at left t bytes to after d = (d ≡ between (pc + 1) (from + n) calls (closed c ok (put (stretch p at left) t)) u) × (bytes ≡ stretch p from n) × (n ≤ length p - from) × (to ≡ from + n) × (after ≡ m)

      abbrev Moved : ℕ → ℕ → Store → List ℕ → ℕ → Meter → State → Type 0
      Moved at left t = MovedAs check (is_utf8 (stretch p from n)) at left t

      Rest : Option Content → ℕ → ℕ → Store → Type 0
      Rest o at left t = Follows P p L 0 (moving o pc at calls t u) (fixed_at n p from m >>= checked check) (Moved at left t)

      abbrev Row : Option Content → ℕ → ℕ → Store → Type 0
      Row o at left t = plain_row P p (moving o pc at calls t u) ≡ moves P p true (move_of put check) (record { left = left; from = from }) (moving o pc at calls t u)

      -- what decoding gives of a content that is there
      given_as : Check → Bool → Decoding (List ℕ)
      given_as Anything ok = Complete (stretch p from n) (from + n) m
      given_as OnlyText ok = cond ok (Complete (stretch p from n) (from + n) m) (Failed (Malformed BadText from))
      given_as (OrMiss k) ok = Complete (stretch p from n) (from + n) m

      whole_at : from + n ≤ length p → (fixed_at n p from m >>= checked check) ≡ checked check (stretch p from n) (from + n) m
      unfolding fixed_at
      whole_at fits = let f : nat_lt (length p - from) n ≡ false = lt_no (length p - from) n (omega arith) in rw f refl

      cut_at : 1 ≤ n → length p < from + n → (fixed_at n p from m >>= checked check) ≡ Failed Need
      unfolding fixed_at
      cut_at some lt = let f : nat_lt (length p - from) n ≡ true = lt_yes (length p - from) n (omega arith) in rw f refl

      given_is : from + n ≤ length p → (c : Check) → checked c (stretch p from n) (from + n) m ≡ given_as c (is_utf8 (stretch p from n))
      unfolding given_as
      given_is fits Anything = refl
      given_is fits OnlyText =
          let back : from + n - length (stretch p from n) ≡ from = omega (arith, length-take-le n (drop from p) (omega (arith, length-drop from p))) in
          rw back refl
      given_is fits (OrMiss k) = refl

      -- the last bytes
      move_last : (o : Option Content) (at left : ℕ) (t : Store) → Row o at left t → 1 ≤ left → at + left ≡ from + n → from ≤ at → nat_lt MOST_CHUNK left ≡ false → nat_lt (length p) (at + min MOST_CHUNK left) ≡ false → Rest o at left t
      unfolding Rest given_as
      move_last o at left t row some e le small fits =
          let least : min MOST_CHUNK left ≡ left = least_is_second MOST_CHUNK left small in
          let short : from + n ≤ length p = omega (arith, least, lt_false _ _ fits) in
          let n_is : at + left - from ≡ n = omega arith in
          let g = whole_at short ∙ given_is short check in
          subst (λ (g : Decoding (List ℕ)). Follows P p L 0 c g (Moved at left t)) (sym g) (by_check check (is_utf8 (stretch p from n)) (row ∙ rw (fits, small, n_is) refl) (omega arith))
        where
          c : State
          c = moving o pc at calls t u

          d : State
          d = between (pc + 1) (at + left) calls (put (stretch p at left) t) u

          done : (c' : Check) (ok : Bool) → plain_row P p c ≡ Some (record d { store = closed c' ok (put (stretch p at left) t) }) → n ≤ length p - from → Follows P p L 0 c (Complete (stretch p from n) (from + n) m) (MovedAs c' ok at left t)
          done c' ok r room =
              let new = record d { store = closed c' ok (put (stretch p at left) t) } in
              (new, one_row P p L 0 c new r (omega (arith, some)), (ap (λ (k : ℕ). between (pc + 1) k calls (closed c' ok (put (stretch p at left) t)) u) e, refl, room, refl, refl))

          by_check : (c' : Check) (ok : Bool) → plain_row P p c ≡ cond ok (Some d) (unless_of c' from c d) → n ≤ length p - from → Follows P p L 0 c (given_as c' ok) (MovedAs c' ok at left t)
          by_check Anything true r room = done Anything true r room
          by_check Anything false r room = done Anything false r room
          by_check OnlyText true r room = done OnlyText true r room
          by_check OnlyText false r room = end_row P p L 0 c (outcomes.Malformed BadText from) r
          by_check (OrMiss k) true r room = done (OrMiss k) true r room
          by_check (OrMiss k) false r room = done (OrMiss k) false r room

      abbrev Others : ℕ → Type 0
      Others fuel = (at left : ℕ) (t : Store) → Fits t → left ≤ fuel → 1 ≤ left → at + left ≡ from + n → from ≤ at → Rest (Some (record { left = left; from = from })) at left t

      -- a row, with a content begun or the first of a fixed, and all after it
      move_on : (fuel : ℕ) (o : Option Content) (at left : ℕ) (t : Store) → Others fuel → Fits t → Row o at left t → left ≤ suc fuel → 1 ≤ left → at + left ≡ from + n → from ≤ at → Rest o at left t
      unfolding Rest
      move_on fuel o at left t others fit row enough some e le = by_length (nat_lt (length p) (at + min MOST_CHUNK left)) refl
        where
          c : State
          c = moving o pc at calls t u

          go_on : nat_lt (length p) (at + min MOST_CHUNK left) ≡ false → nat_lt MOST_CHUNK left ≡ true → Rest o at left t
          go_on fits large =
              let k = MOST_CHUNK in
              let now = put (stretch p at k) t in
              let lt : k < left = lt_true k left large in
              let d = moving (Some (record { left = left - k; from = from })) pc (at + k) calls now u in
              let r : plain_row P p c ≡ Some d = row ∙ rw (fits, large) refl in
              let rest = others (at + k) (left - k) now (puts.keeps (stretch p at k) t fit) (omega arith) (omega arith) (omega arith) (omega arith) in
              let sum : k + (left - k) ≡ left = omega arith in
              let stores : put (stretch p (at + k) (left - k)) now ≡ put (stretch p at left) t = puts.twice (stretch p (at + k) (left - k)) (stretch p at k) t fit ∙ ap (λ (x : List ℕ). put x t) (stretches p at k (left - k) ∙ ap (stretch p at) sum) in
              row_then P p L 0 0 c d (fixed_at n p from m >>= checked check) (Moved at left t) r
              (follows_so P p L 0 0 d (fixed_at n p from m >>= checked check) (Moved (at + k) (left - k) now) (Moved at left t) (omega arith) rest
              (λ x to after d g h. (h.0 ∙ ap (λ (s : Store). between (pc + 1) (from + n) calls (closed check (is_utf8 (stretch p from n)) s) u) stores, h.1, h.2, h.3, h.4)))
              (omega arith)

          by_left : nat_lt (length p) (at + min MOST_CHUNK left) ≡ false → (b : Bool) → nat_lt MOST_CHUNK left ≡ b → Rest o at left t
          by_left fits true large = go_on fits large
          by_left fits false small = move_last o at left t row some e le small fits

          by_length : (b : Bool) → nat_lt (length p) (at + min MOST_CHUNK left) ≡ b → Rest o at left t
          by_length true short =
              let lt : length p < from + n = omega (arith, lt_true _ _ short, least_below MOST_CHUNK left) in
              let r : plain_row P p c ≡ stop (Out (outcomes.Malformed Truncated (length p))) c = row ∙ rw short refl in
              subst (λ (g : Decoding (List ℕ)). Follows P p L 0 c g (Moved at left t)) (sym (cut_at (omega arith) lt)) (end_row P p L 0 c (outcomes.Malformed Truncated (length p)) r)
          by_length false fits = by_left fits (nat_lt MOST_CHUNK left) refl

      move_all : (fuel : ℕ) → Others fuel
      move_all zero at left t fit enough some e le = absurd (omega arith)
      move_all (suc fuel) at left t fit enough some e le = move_on fuel (Some (record { left = left; from = from })) at left t (λ at left t. move_all fuel at left t) fit (rows (record { left = left; from = from }) at t fit) enough some e le

      moved_length : (at left : ℕ) (t : Store) (x : List ℕ) (to : ℕ) (after : Meter) (d : State) → Moved at left t x to after d → length x ≡ n
      moved_length at left t x to after d h = ap length h.1 ∙ length-take-le n (drop from p) (omega (arith, length-drop from p, h.2))

    -- after a content, where such bytes were put
    abbrev pub Landed : Store → List ℕ → List ℕ → ℕ → Meter → State → Type 0
    Landed s bytes prefixed to m d = (d ≡ between (pc + 1) to calls (closed check (is_utf8 prefixed) (put bytes s)) u) × (m ≡ meter s u)

    nothing_at : (c : Check) (to : ℕ) (m : Meter) → (fixed_at 0 p to m >>= checked c) ≡ Complete [] to m
    unfolding fixed_at
    nothing_at c to m =
        let none : nat_lt (length p - to) 0 ≡ false = lt_no (length p - to) 0 (omega arith) in
        let z : to + 0 ≡ to = omega arith in
        rw (none, z) (by_check c)
      where
        by_check : (c : Check) → checked c [] to m ≡ Complete [] to m
        by_check Anything = refl
        by_check OnlyText = rw no_text refl
        by_check (OrMiss k) = refl

    -- a content after its length
    pub content_follows : (at : ℕ) (s : Store) → Fits s → plain_row P p (between pc at calls s u) ≡ prefixed P p true (move_of put check) (between pc at calls s u) None → Follows P p L 1 (between pc at calls s u) (content_at p at (meter s u) >>= checked check) (λ bytes. Landed s (after_length bytes) bytes)
    unfolding Rest content_at
    content_follows at s fit row =
        subst (λ (g : Decoding (List ℕ)). Follows P p L 1 c0 g Q) (sym (then_then (length_at p at (meter s u)) (λ n to m. fixed_at n p to m) (checked check)))
        (reads_then P p L 1 c0 (length_at p at (meter s u)) (λ n to m. fixed_at n p to m >>= checked check) (λ n to m. Some (begun (move_of put check) n to c0)) Q row
        (λ n to m e. let k = length_ahead p at (meter s u) n to m e in by_length n to m k.0 (sym k.1)))
      where
        c0 : State
        c0 = between pc at calls s u

        Q : List ℕ → ℕ → Meter → State → Type 0
        Q bytes to m d = Landed s (after_length bytes) bytes to m d

        by_length : (n to : ℕ) (m : Meter) → at < to → m ≡ meter s u → Rattle.program_correctness.proofs.Follow.Leads P p L 1 c0 (Some (begun (move_of put check) n to c0)) (fixed_at n p to m >>= checked check) Q
        by_length zero to m lt m_is =
            let d = between (pc + 1) to calls (put (shortest (pos 0)) s) u in
            let same : put (shortest (pos 0)) s ≡ closed check (is_utf8 []) (put (after_length []) s) = ap (λ (x : List ℕ). put x s) (sym (append-nil (shortest (pos 0)))) ∙ sym (closed_text check (put (after_length []) s)) ∙ ap (λ (b : Bool). closed check b (put (after_length []) s)) (sym no_text) in
            record {
              new = d;
              row_is = refl;
              left = 0;
              follows = subst (λ (g : Decoding (List ℕ)). Follows P p L 0 d g Q) (sym (nothing_at check to m)) (d, stay P p L 0 d, (ap (λ (z : Store). between (pc + 1) to calls z u) same, m_is));
              pays = omega (arith, lt);
            }
        by_length (suc n) to m lt m_is =
            let t = put (shortest (pos (suc n))) s in
            let d = moving (Some (record { left = suc n; from = to })) pc to calls t u in
            record {
              new = d;
              row_is = refl;
              left = 0;
              follows = follows_so P p L 0 0 d (fixed_at (suc n) p to m >>= checked check) (Moved to (suc n) m to (suc n) t) Q (omega arith)
                  (move_all to (suc n) m (suc n) to (suc n) t (puts.keeps (shortest (pos (suc n))) s fit) (omega arith) (omega arith) refl (omega arith))
                  (λ x end last d g h.
                  let len = moved_length to (suc n) m to (suc n) t x end last d h in
                  let stores : put (stretch p to (suc n)) t ≡ put (after_length x) s = puts.twice (stretch p to (suc n)) (shortest (pos (suc n))) s fit ∙ ap (λ (k : ℕ). put (shortest (pos k) ++ stretch p to (suc n)) s) (sym len) ∙ ap (λ (y : List ℕ). put (shortest (pos (length x)) ++ y) s) (sym h.1) in
                  (h.0 ∙ ap (λ (k : ℕ). between (pc + 1) k calls (closed check (is_utf8 (stretch p to (suc n))) (put (stretch p to (suc n)) t)) u) (sym h.3) ∙ ap (λ (y : List ℕ). between (pc + 1) end calls (closed check (is_utf8 y) (put (stretch p to (suc n)) t)) u) (sym h.1) ∙ ap (λ (z : Store). between (pc + 1) end calls (closed check (is_utf8 x) z) u) stores, h.4 ∙ m_is));
              pays = omega (arith, lt);
            }

    -- n bytes
    pub fixed_follows : (n at : ℕ) (s : Store) → Fits s → check ≡ Anything → plain_row P p (between pc at calls s u) ≡ fixed P p true (move_of put check) n (between pc at calls s u) None → Follows P p L 1 (between pc at calls s u) (fixed_at n p at (meter s u) >>= checked check) (λ bytes. Landed s bytes bytes)
    unfolding Rest
    fixed_follows zero at s fit any row =
        let d = between (pc + 1) at calls s u in
        let same : s ≡ closed check (is_utf8 []) (put [] s) = sym (puts.none s fit) ∙ ap (λ (c : Check). closed c (is_utf8 []) (put [] s)) (sym any) in
        subst (λ (g : Decoding (List ℕ)). Follows P p L 1 (between pc at calls s u) g (λ bytes. Landed s bytes bytes)) (sym (nothing_at check at (meter s u)))
        (d, one_row P p L 1 (between pc at calls s u) d row (omega arith), (ap (λ (z : Store). between (pc + 1) at calls z u) same, refl))
    fixed_follows (suc n) at s fit any row =
        follows_so P p L 0 1 (between pc at calls s u) (fixed_at (suc n) p at (meter s u) >>= checked check) (Moved at (suc n) (meter s u) at (suc n) s) (λ bytes. Landed s bytes bytes) (omega arith)
        (move_on at (suc n) (meter s u) n None at (suc n) s (move_all at (suc n) (meter s u) n) fit row (omega arith) (omega arith) refl (omega arith))
        (λ x end last d g h. (h.0 ∙ ap (λ (k : ℕ). between (pc + 1) k calls (closed check (is_utf8 (stretch p at (suc n))) (put (stretch p at (suc n)) s)) u) (sym h.3) ∙ ap (λ (y : List ℕ). between (pc + 1) end calls (closed check (is_utf8 y) (put y s)) u) (sym h.1), h.4))
