-- Slots, found by a number for each: what they show when they are read, opened, taken away and put.
use Rattle.std.proofs.Common.{◌≡◌, ◌≢◌, ◌≤◌, ◌<◌, ℕ, zero, suc, ◌+◌, ◌-◌, true, false, List, [], ◌∷◌, ◌++◌, length, take, get_or, set, replicate, refl, sym, ap, ◌∙◌, subst, arith, length-append, ◌⊎◌, inl, inr, eqb}
use Rattle.std.proofs.lemmas.Bool.Decides.{eqb_tells}
use Rattle.std.proofs.lemmas.List.{get_or-replicate, get_or-set_other, get_or-set_same, get_or-take, get_or_append_left, get_or_past, get_or_at, length-replicate, length-set, length-take, same_lists}
use Rattle.std.proofs.lemmas.List.FromFn.{get_or-map-range_with_len, length-map-range_with_len}
use Rattle.std.proofs.Math.Seq.{get_or-append_right}
use Rattle.machine_store.specs.declared.buffers.Buffer.{Buffer}
use Rattle.machine_store.specs.declared.buffers.Buffer.TheVariants as buffers
use Rattle.machine_store.specs.declared.slots.HeldBuffer.{HeldBuffer}
use Rattle.machine_store.specs.Slots.{AreIndexed, IsAbove, Stands, buffers_of, held_after, held_at, index_after, nothing}

-- ---- slot by slot

pub slot-at : (len : ℕ) (index : List ℕ) (held : List HeldBuffer) (i : ℕ) (d : Buffer) → i < len → get_or (buffers_of len index held) i d ≡ held_at held (get_or index i 0)
slot-at len index held i d lt = get_or-map-range_with_len (λ (k : ℕ). held_at held (get_or index k 0)) 0 len i i d lt (omega arith)

pub slot-count : (len : ℕ) (index : List ℕ) (held : List HeldBuffer) → length (buffers_of len index held) ≡ len
slot-count len index held = length-map-range_with_len (λ (k : ℕ). held_at held (get_or index k 0)) 0 len

pub slots-are : (len : ℕ) (index : List ℕ) (held : List HeldBuffer) (xs : List Buffer) → len ≡ length xs → ((i : ℕ) (d : Buffer) → i < len → held_at held (get_or index i 0) ≡ get_or xs i d) → buffers_of len index held ≡ xs
slots-are len index held xs e h =
    same_lists (buffers_of len index held) xs (slot-count len index held ∙ e)
    (λ i d lt. let there : i < len = omega (arith, lt, slot-count len index held) in slot-at len index held i d there ∙ h i d there)

below-or : (a b : ℕ) → (a < b) ⊎ (b ≤ a)
below-or a b = grind arith

within-or : (index : List ℕ) (i : ℕ) → 0 < get_or index i 0 → (i < length index) ⊎ (length index ≤ i) → i < length index
within-or index i lt (inl below) = below
within-or index i lt (inr past) = absurd (omega (arith, lt, get_or_past index i 0 past))

pub within-index : (index : List ℕ) (i : ℕ) → 0 < get_or index i 0 → i < length index
within-index index i lt = within-or index i lt (below-or i (length index))

pub none-held : (held : List HeldBuffer) (n : ℕ) → n ≡ 0 → held_at held n ≡ buffers.Empty
none-held held n e = ap (held_at held) e

-- ---- numbers that stay

pub kept-same : (len : ℕ) (index more : List ℕ) (held : List HeldBuffer) → AreIndexed len index held → length more ≤ len → ((i : ℕ) → get_or more i 0 ≡ get_or index i 0) → AreIndexed len more held
kept-same len index more held k le same = record {
  short = le;
  stand = λ i lt. subst (Stands held i) (sym (same i)) (k.stand i (omega (arith, lt, same i)));
}

pub shown-same : (len : ℕ) (index more : List ℕ) (held : List HeldBuffer) → ((i : ℕ) → get_or more i 0 ≡ get_or index i 0) → buffers_of len more held ≡ buffers_of len index held
shown-same len index more held same =
    slots-are len more held (buffers_of len index held) (sym (slot-count len index held)) (λ i d lt. ap (held_at held) (same i) ∙ sym (slot-at len index held i d lt))

-- ---- opened

pub kept-opened : (len more : ℕ) (index : List ℕ) (held : List HeldBuffer) → AreIndexed len index held → AreIndexed (len + more) index held
kept-opened len more index held k = record { short = omega (arith, k.short); stand = k.stand }

pub shown-opened : (len more : ℕ) (index : List ℕ) (held : List HeldBuffer) → AreIndexed len index held → buffers_of (len + more) index held ≡ buffers_of len index held ++ replicate more buffers.Empty
shown-opened len more index held k =
    slots-are (len + more) index held (buffers_of len index held ++ replicate more buffers.Empty)
    (omega (arith, length-append (buffers_of len index held) (replicate more buffers.Empty), slot-count len index held, length-replicate more buffers.Empty))
    (λ i d lt. at i d lt (below-or i len))
  where
    at : (i : ℕ) (d : Buffer) → i < len + more → (i < len) ⊎ (len ≤ i) → held_at held (get_or index i 0) ≡ get_or (buffers_of len index held ++ replicate more buffers.Empty) i d
    at i d lt (inl below) =
        sym (get_or_append_left (buffers_of len index held) (replicate more buffers.Empty) d i (omega (arith, below, slot-count len index held)) ∙ slot-at len index held i d below)
    at i d lt (inr past) =
        none-held held (get_or index i 0) (get_or_past index i 0 (omega (arith, past, k.short)))
        ∙ sym (get_or-append_right (buffers_of len index held) (replicate more buffers.Empty) i d (omega (arith, past, slot-count len index held))
        ∙ get_or-replicate more (i - length (buffers_of len index held)) buffers.Empty d (omega (arith, past, lt, slot-count len index held)))

-- ---- taken away

module _ (len first left : ℕ) (index : List ℕ) (held : List HeldBuffer) (k : AreIndexed len index held) (le : first ≤ len) (above : (at : ℕ) → left ≤ at → at < length held → IsAbove first at held) where
  before-left : (i at : ℕ) → Stands held i (suc at) → i < first → at < left
  before-left i at s lt =
      let same : (get_or held at nothing).slot ≡ i = s.belongs in
      by-cases (below-or at left) same
    where
      by-cases : (at < left) ⊎ (left ≤ at) → (get_or held at nothing).slot ≡ i → at < left
      by-cases (inl b) same = b
      by-cases (inr past) same = absurd (omega (arith, above at past (omega (arith, s.within)), same, lt))

  left-held : (i number : ℕ) → (0 < number → Stands held i number) → i < first → held_at (take left held) number ≡ held_at held number
  left-held i zero s lt = refl
  left-held i (suc at) s lt = ap (λ (x : HeldBuffer). x.buffer) (get_or-take left held at nothing (before-left i at (s (omega arith)) lt))

  stands-left : (i number : ℕ) → 0 < number → Stands held i number → i < first → Stands (take left held) i number
  stands-left i zero pos s lt = absurd (omega (arith, pos))
  stands-left i (suc at) pos s lt =
      let b = before-left i at s lt in
      record {
        within = omega (arith, b, s.within, length-take left held);
        belongs = ap (λ (x : HeldBuffer). x.slot) (get_or-take left held at nothing b) ∙ s.belongs;
      }

  pub kept-shorter : AreIndexed first (take first index) (take left held)
  kept-shorter = record {
    short = omega (arith, length-take first index);
    stand = λ i pos. stand-at i pos (omega (arith, within-index (take first index) i pos, length-take first index));
  }
    where
      stand-at : (i : ℕ) → 0 < get_or (take first index) i 0 → i < first → Stands (take left held) i (get_or (take first index) i 0)
      stand-at i pos lt =
          let e = get_or-take first index i 0 lt in
          subst (Stands (take left held) i) (sym e) (stands-left i (get_or index i 0) (omega (arith, pos, e)) (k.stand i (omega (arith, pos, e))) lt)

  pub shown-shorter : buffers_of first (take first index) (take left held) ≡ take first (buffers_of len index held)
  shown-shorter =
      slots-are first (take first index) (take left held) (take first (buffers_of len index held)) (omega (arith, length-take first (buffers_of len index held), slot-count len index held, le))
      (λ i d lt. ap (held_at (take left held)) (get_or-take first index i 0 lt) ∙ left-held i (get_or index i 0) (k.stand i) lt
      ∙ sym (get_or-take first (buffers_of len index held) i d lt ∙ slot-at len index held i d (omega (arith, lt, le))))

-- ---- put

module _ (len : ℕ) (index : List ℕ) (held : List HeldBuffer) (slot : ℕ) (buffer : Buffer) (k : AreIndexed len index held) (there : slot < length index) where
  abbrev entry : HeldBuffer
  entry = record { slot = slot; buffer = buffer }

  -- the last one is new

  last-held : get_or (held ++ entry ∷ []) (length held) nothing ≡ entry
  last-held = get_or_at held entry [] nothing (length held) refl

  stands-more : (i number : ℕ) → 0 < number → Stands held i number → Stands (held ++ entry ∷ []) i number
  stands-more i zero pos s = absurd (omega (arith, pos))
  stands-more i (suc at) pos s = record {
    within = omega (arith, s.within, length-append held (entry ∷ []));
    belongs = ap (λ (x : HeldBuffer). x.slot) (get_or_append_left held (entry ∷ []) nothing at (omega (arith, s.within))) ∙ s.belongs;
  }

  held-more : (i number : ℕ) → (0 < number → Stands held i number) → held_at (held ++ entry ∷ []) number ≡ held_at held number
  held-more i zero s = refl
  held-more i (suc at) s = let t : Stands held i (suc at) = s (omega arith) in ap (λ (x : HeldBuffer). x.buffer) (get_or_append_left held (entry ∷ []) nothing at (omega (arith, t.within)))

  kept-new : AreIndexed len (set index slot (length held + 1)) (held ++ entry ∷ [])
  kept-new = record {
    short = omega (arith, length-set index slot (length held + 1), k.short);
    stand = λ i pos. stand-at i pos (eqb_tells i slot);
  }
    where
      stand-at : (i : ℕ) → 0 < get_or (set index slot (length held + 1)) i 0 → ((eqb i slot ≡ true) × (i ≡ slot)) ⊎ ((eqb i slot ≡ false) × (i ≢ slot)) → Stands (held ++ entry ∷ []) i (get_or (set index slot (length held + 1)) i 0)
      stand-at i pos (inl t) =
          subst (λ (j : ℕ). Stands (held ++ entry ∷ []) j (get_or (set index slot (length held + 1)) j 0)) (sym t.1)
          (subst (Stands (held ++ entry ∷ []) slot) (sym (get_or-set_same index slot (length held + 1) 0 there ∙ (let z : length held + 1 ≡ suc (length held) = omega arith in z)))
          (record { within = omega (arith, length-append held (entry ∷ [])); belongs = ap (λ (x : HeldBuffer). x.slot) last-held }))
      stand-at i pos (inr f) =
          let e = get_or-set_other index slot i (length held + 1) 0 f.1 in
          subst (Stands (held ++ entry ∷ []) i) (sym e) (stands-more i (get_or index i 0) (omega (arith, pos, e)) (k.stand i (omega (arith, pos, e))))

  shown-new : slot < len → buffers_of len (set index slot (length held + 1)) (held ++ entry ∷ []) ≡ set (buffers_of len index held) slot buffer
  shown-new lt =
      slots-are len (set index slot (length held + 1)) (held ++ entry ∷ []) (set (buffers_of len index held) slot buffer) (omega (arith, length-set (buffers_of len index held) slot buffer, slot-count len index held))
      (λ i d within. at i d within (eqb_tells i slot))
    where
      at : (i : ℕ) (d : Buffer) → i < len → ((eqb i slot ≡ true) × (i ≡ slot)) ⊎ ((eqb i slot ≡ false) × (i ≢ slot)) → held_at (held ++ entry ∷ []) (get_or (set index slot (length held + 1)) i 0) ≡ get_or (set (buffers_of len index held) slot buffer) i d
      at i d within (inl t) =
          ap (λ (j : ℕ). held_at (held ++ entry ∷ []) (get_or (set index slot (length held + 1)) j 0)) t.1
          ∙ ap (held_at (held ++ entry ∷ [])) (get_or-set_same index slot (length held + 1) 0 there ∙ (let z : length held + 1 ≡ suc (length held) = omega arith in z))
          ∙ ap (λ (x : HeldBuffer). x.buffer) last-held
          ∙ sym (ap (λ (j : ℕ). get_or (set (buffers_of len index held) slot buffer) j d) t.1 ∙ get_or-set_same (buffers_of len index held) slot buffer d (omega (arith, lt, slot-count len index held)))
      at i d within (inr f) =
          ap (held_at (held ++ entry ∷ [])) (get_or-set_other index slot i (length held + 1) 0 f.1) ∙ held-more i (get_or index i 0) (k.stand i)
          ∙ sym (get_or-set_other (buffers_of len index held) slot i buffer d f.1 ∙ slot-at len index held i d within)

  -- one is there

  module _ (here : ℕ) (is : get_or index slot 0 ≡ suc here) where
    mine : Stands held slot (suc here)
    mine = subst (Stands held slot) is (k.stand slot (omega (arith, is)))

    entry-here : get_or (set held here entry) here nothing ≡ entry
    entry-here = get_or-set_same held here entry nothing (omega (arith, mine.within))

    -- no other slot has the same number
    elsewhere : (i at : ℕ) → Stands held i (suc at) → i ≢ slot → at ≢ here
    elsewhere i at s ne e = ne (sym s.belongs ∙ ap (λ (j : ℕ). (get_or held j nothing).slot) e ∙ mine.belongs)

    stands-set : (i number : ℕ) → 0 < number → Stands held i number → ((eqb i slot ≡ true) × (i ≡ slot)) ⊎ ((eqb i slot ≡ false) × (i ≢ slot)) → get_or index i 0 ≡ number → Stands (set held here entry) i number
    stands-set i zero pos s c e = absurd (omega (arith, pos))
    stands-set i (suc at) pos s (inl t) e =
        let same : at ≡ here = omega (arith, e, is, ap (λ (j : ℕ). get_or index j 0) t.1) in
        record {
          within = omega (arith, s.within, length-set held here entry);
          belongs = ap (λ (j : ℕ). (get_or (set held here entry) j nothing).slot) same ∙ ap (λ (x : HeldBuffer). x.slot) entry-here ∙ sym t.1;
        }
    stands-set i (suc at) pos s (inr f) e = record {
      within = omega (arith, s.within, length-set held here entry);
      belongs = ap (λ (x : HeldBuffer). x.slot) (get_or-set_other held here at entry nothing (elsewhere i at s f.1)) ∙ s.belongs;
    }

    kept-set : AreIndexed len index (set held here entry)
    kept-set = record {
      short = k.short;
      stand = λ i pos. stands-set i (get_or index i 0) pos (k.stand i pos) (eqb_tells i slot) refl;
    }

    held-other : (i number : ℕ) → (0 < number → Stands held i number) → i ≢ slot → held_at (set held here entry) number ≡ held_at held number
    held-other i zero s ne = refl
    held-other i (suc at) s ne = ap (λ (x : HeldBuffer). x.buffer) (get_or-set_other held here at entry nothing (elsewhere i at (s (omega arith)) ne))

    shown-set : slot < len → buffers_of len index (set held here entry) ≡ set (buffers_of len index held) slot buffer
    shown-set lt =
        slots-are len index (set held here entry) (set (buffers_of len index held) slot buffer) (omega (arith, length-set (buffers_of len index held) slot buffer, slot-count len index held))
        (λ i d within. at i d within (eqb_tells i slot))
      where
        at : (i : ℕ) (d : Buffer) → i < len → ((eqb i slot ≡ true) × (i ≡ slot)) ⊎ ((eqb i slot ≡ false) × (i ≢ slot)) → held_at (set held here entry) (get_or index i 0) ≡ get_or (set (buffers_of len index held) slot buffer) i d
        at i d within (inl t) =
            ap (λ (j : ℕ). held_at (set held here entry) (get_or index j 0)) t.1
            ∙ ap (held_at (set held here entry)) is
            ∙ ap (λ (x : HeldBuffer). x.buffer) entry-here
            ∙ sym (ap (λ (j : ℕ). get_or (set (buffers_of len index held) slot buffer) j d) t.1 ∙ get_or-set_same (buffers_of len index held) slot buffer d (omega (arith, lt, slot-count len index held)))
        at i d within (inr f) =
            held-other i (get_or index i 0) (k.stand i) f.1
            ∙ sym (get_or-set_other (buffers_of len index held) slot i buffer d f.1 ∙ slot-at len index held i d within)

  -- either

  pub kept-put : (number : ℕ) → get_or index slot 0 ≡ number → AreIndexed len (index_after slot number (length held) index) (held_after entry number held)
  kept-put zero is = kept-new
  kept-put (suc here) is = kept-set here is

  pub shown-put : (number : ℕ) → get_or index slot 0 ≡ number → slot < len → buffers_of len (index_after slot number (length held) index) (held_after entry number held) ≡ set (buffers_of len index held) slot buffer
  shown-put zero is lt = shown-new lt
  shown-put (suc here) is lt = shown-set here is lt

-- ---- room made, some taken away, and one put

module _ (len first left slot : ℕ) (index grown shorter : List ℕ) (held fewer : List HeldBuffer) (buffer : Buffer) (k : AreIndexed len index held) (le : first ≤ len) (lt : slot < first) (above : (at : ℕ) → left ≤ at → at < length held → IsAbove first at held)
    (same : (i : ℕ) → get_or grown i 0 ≡ get_or index i 0) (many : length grown ≤ len) (there : slot < length grown) (cut : shorter ≡ take first grown) (cut_held : fewer ≡ take left held) where
  k-grown : AreIndexed len grown held
  k-grown = kept-same len index grown held k many same

  k-cut : AreIndexed first shorter fewer
  k-cut =
      subst (λ (x : List ℕ). AreIndexed first x fewer) (sym cut)
      (subst (λ (x : List HeldBuffer). AreIndexed first (take first grown) x) (sym cut_held) (kept-shorter len first left grown held k-grown le above))

  in-cut : slot < length shorter
  in-cut = omega (arith, ap (λ (x : List ℕ). length x) cut, length-take first grown, there, lt)

  pub kept-closed : AreIndexed first (index_after slot (get_or shorter slot 0) (length fewer) shorter) (held_after (record { slot = slot; buffer = buffer }) (get_or shorter slot 0) fewer)
  kept-closed = kept-put first shorter fewer slot buffer k-cut in-cut (get_or shorter slot 0) refl

  pub shown-closed : buffers_of first (index_after slot (get_or shorter slot 0) (length fewer) shorter) (held_after (record { slot = slot; buffer = buffer }) (get_or shorter slot 0) fewer) ≡ set (take first (buffers_of len index held)) slot buffer
  shown-closed =
      shown-put first shorter fewer slot buffer k-cut in-cut (get_or shorter slot 0) refl lt
      ∙ ap (λ (x : List Buffer). set x slot buffer)
      (ap (λ (x : List ℕ). buffers_of first x fewer) cut ∙ ap (λ (x : List HeldBuffer). buffers_of first (take first grown) x) cut_held
      ∙ shown-shorter len first left grown held k-grown le above
      ∙ ap (take first) (shown-same len index grown held same))

  pub number-known : get_or shorter slot 0 ≤ length fewer
  number-known = known (get_or shorter slot 0) (k-cut.stand slot)
    where
      known : (n : ℕ) → (0 < n → Stands fewer slot n) → n ≤ length fewer
      known zero s = omega arith
      known (suc at) s = let t : Stands fewer slot (suc at) = s (omega arith) in omega (arith, t.within)

pub shown-empty : (len : ℕ) (index : List ℕ) (held : List HeldBuffer) → index ≡ [] → buffers_of len index held ≡ replicate len buffers.Empty
shown-empty len index held e =
    slots-are len index held (replicate len buffers.Empty) (sym (length-replicate len buffers.Empty))
    (λ i d lt. none-held held (get_or index i 0) (ap (λ (x : List ℕ). get_or x i 0) e) ∙ sym (get_or-replicate len i buffers.Empty d lt))
