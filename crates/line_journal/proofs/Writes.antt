-- What a write and a cut leave of a file, as lists.
use Rattle.std.proofs.Common.{◌≡◌, inl, inr, ⊎_elim, subst, ℕ, ◌+◌, ◌<◌, ◌≤◌, List, [], ◌∷◌, ◌++◌, length, take, drop, slice_index, refl, sym, ◌∙◌, ap, arith, append_assoc, length-append, length-take, length-drop, take-append-drop}
use Rattle.std.proofs.lemmas.List.{take_at, drop_at, drop_more, take_all, get_or-take, get_or-drop}
use Rattle.std.proofs.lemmas.Grind.{same_number_lists}
use Rattle.std.proofs.Math.Seq.{get_or-append_seam}
use Rattle.sqlite_disk.specs.Disk.{Holds, Torn, Mixed, Cut}
use Rattle.line_journal.specs.Journal.{IsGateWrite}

same_front : (n : ℕ) (old new : List ℕ) → n ≤ length old → n ≤ length new → ((i : ℕ) → i < n → slice_index new i ≡ slice_index old i) → take n new ≡ take n old
same_front n old new in_old in_new same =
    same_number_lists (take n new) (take n old) (omega (arith, length-take n new, length-take n old)) (λ k below.
    let here : k < n = omega (arith, length-take n new) in
    get_or-take n new k 0 here ∙ same k here ∙ sym (get_or-take n old k 0 here))

same_back : (n : ℕ) (old new : List ℕ) → length new ≡ length old → ((i : ℕ) → i < length old → n ≤ i → slice_index new i ≡ slice_index old i) → drop n new ≡ drop n old
same_back n old new long same =
    same_number_lists (drop n new) (drop n old) (omega (arith, length-drop n new, length-drop n old)) (λ k below.
    get_or-drop n new k 0 ∙ same (n + k) (omega (arith, length-drop n new)) (omega arith) ∙ sym (get_or-drop n old k 0))

-- a write at the end of a file, however it is torn
pub torn_past : (n : ℕ) (old new : List ℕ) → Torn (length old) n old new → (new ≡ old ++ drop (length old) new) × (length (drop (length old) new) ≤ n)
torn_past n old new torn =
    let front : take (length old) new ≡ old =
    same_front (length old) old new (omega arith) torn.no_shorter (λ i below. torn.below i below below) ∙ take_all (length old) old (omega arith) in (
      sym (take-append-drop (length old) new) ∙ ap (λ (l : List ℕ). l ++ drop (length old) new) front,
      omega (arith, torn.no_longer, torn.no_shorter, length-drop (length old) new),
    )

-- a write at the end of a file that was done
pub written_past : (old new bytes : List ℕ) → Torn (length old) (length bytes) old new → Holds new (length old) bytes → new ≡ old ++ bytes
written_past old new bytes torn holds =
    let torn_end = torn_past (length bytes) old new torn in
    let end : drop (length old) new ≡ bytes =
    same_number_lists (drop (length old) new) bytes (omega (arith, torn_end.1, holds.within, length-drop (length old) new)) (λ k below.
    get_or-drop (length old) new k 0 ∙ holds.each k (omega (arith, torn_end.1))) in
    torn_end.0 ∙ ap (λ (l : List ℕ). old ++ l) end

-- a write over two bytes, however it is torn
pub torn_pair : (front : List ℕ) (a b : ℕ) (rest new : List ℕ) → Torn (length front) 2 (front ++ a ∷ b ∷ rest) new
    → new ≡ front ++ slice_index new (length front) ∷ slice_index new (length front + 1) ∷ rest
torn_pair front a b rest new torn =
    let old : List ℕ = front ++ a ∷ b ∷ rest in
    let size : length old ≡ length front + (2 + length rest) = omega (arith, length-append front (a ∷ b ∷ rest)) in
    let long : length new ≡ length old = omega (arith, torn.no_shorter, torn.no_longer) in
    let before : take (length front) new ≡ front =
    same_front (length front) old new (omega arith) (omega arith) (λ i below. torn.below i (omega arith) below) ∙ take_at front (a ∷ b ∷ rest) (length front) refl in
    let split : old ≡ (front ++ a ∷ b ∷ []) ++ rest = sym (append_assoc front (a ∷ b ∷ []) rest) in
    let after : drop (length front + 2) new ≡ rest =
    same_back (length front + 2) old new long (λ i below past. torn.above i below past)
    ∙ ap (λ (l : List ℕ). drop (length front + 2) l) split ∙ drop_at (front ++ a ∷ b ∷ []) rest (length front + 2) (length-append front (a ∷ b ∷ [])) in
    let second : drop (length front + 1) new ≡ slice_index new (length front + 1) ∷ rest =
    drop_more new (length front + 1) 0 (omega arith) ∙ ap (λ (l : List ℕ). slice_index new (length front + 1) ∷ l) (again ∙ after) in
    sym (take-append-drop (length front) new) ∙ ap (λ (l : List ℕ). l ++ drop (length front) new) before
    ∙ ap (λ (l : List ℕ). front ++ l) (drop_more new (length front) 0 (omega arith) ∙ ap (λ (l : List ℕ). slice_index new (length front) ∷ l) second)
  where
    again : drop (length front + 1 + 1) new ≡ drop (length front + 2) new
    again = let e : length front + 1 + 1 ≡ length front + 2 = omega arith in ap (λ (n : ℕ). drop n new) e

-- a gate written over, where a crash may leave some of its bytes as they were
pub mixed_gate : (at new : ℕ) (old c : List ℕ) → Mixed at (new ∷ new ∷ []) old c → IsGateWrite at new old c
mixed_gate at new old c mixed front rest a b here file =
    let there = subst (λ (n : ℕ). Mixed n (new ∷ new ∷ []) (front ++ a ∷ b ∷ rest) c) here (subst (λ (d : List ℕ). Mixed at (new ∷ new ∷ []) d c) file mixed) in
    let size = length-append front (a ∷ b ∷ rest) in
    let first : length front + 0 ≡ length front = omega arith in
    let one : slice_index (front ++ a ∷ b ∷ rest) (length front) ≡ a = get_or-append_seam front a (b ∷ rest) 0 in
    let two : slice_index (front ++ a ∷ b ∷ rest) (length front + 1) ≡ b =
    ap (λ (l : List ℕ). slice_index l (length front + 1)) (sym (append_assoc front (a ∷ []) (b ∷ rest)))
    ∙ ap (λ (n : ℕ). slice_index ((front ++ a ∷ []) ++ b ∷ rest) n) (sym (length-append front (a ∷ []))) ∙ get_or-append_seam (front ++ a ∷ []) b rest 0 in
    let either_first = rw first at (there.each 0 (omega arith) (omega (arith, size))) in
    let either_second = there.each 1 (omega arith) (omega (arith, size)) in
    record {
      first = slice_index c (length front);
      second = slice_index c (length front + 1);
      is_first = ⊎_elim (λ is_old. inl (is_old ∙ one)) (λ is_new. inr is_new) either_first;
      is_second = ⊎_elim (λ is_old. inl (is_old ∙ two)) (λ is_new. inr is_new) either_second;
      split = torn_pair front a b rest c there.torn;
    }

-- once the gate is written over
pub written_gate : (at new : ℕ) (old c : List ℕ) → Torn at 2 old c → Holds c at (new ∷ new ∷ []) → (front rest : List ℕ) (a b : ℕ) → at ≡ length front
    → old ≡ front ++ a ∷ b ∷ rest → c ≡ front ++ new ∷ new ∷ rest
written_gate at new old c torn holds front rest a b here file =
    let torn_there = subst (λ (n : ℕ). Torn n 2 (front ++ a ∷ b ∷ rest) c) here (subst (λ (d : List ℕ). Torn at 2 d c) file torn) in
    let holds_there = subst (λ (n : ℕ). Holds c n (new ∷ new ∷ [])) here holds in
    let first : length front + 0 ≡ length front = omega arith in
    let one : slice_index c (length front) ≡ new = rw first at (holds_there.each 0 (omega arith)) in
    let two : slice_index c (length front + 1) ≡ new = holds_there.each 1 (omega arith) in
    torn_pair front a b rest c torn_there ∙ ap (λ (x : ℕ). front ++ x ∷ slice_index c (length front + 1) ∷ rest) one ∙ ap (λ (y : ℕ). front ++ new ∷ y ∷ rest) two

-- a gate that was not written over
pub gate_stays : (at new : ℕ) (file : List ℕ) → IsGateWrite at new file file
gate_stays at new file front rest a b here split = record { first = a; second = b; is_first = inl refl; is_second = inl refl; split = split }

-- a cut after some bytes
pub cut_past : (front rest new : List ℕ) → Cut (length front) (front ++ rest) new → (new ≡ front ++ drop (length front) new) × (length (drop (length front) new) ≤ length rest)
cut_past front rest new cut =
    let size = length-append front rest in
    let before : take (length front) new ≡ front =
    same_front (length front) (front ++ rest) new (omega arith) (omega (arith, cut.no_shorter)) (λ i below. cut.below i (omega arith) below) ∙ take_at front rest (length front) refl in (
      sym (take-append-drop (length front) new) ∙ ap (λ (l : List ℕ). l ++ drop (length front) new) before,
      omega (arith, cut.no_longer, cut.no_shorter, length-drop (length front) new),
    )
