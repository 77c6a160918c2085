-- A path is text where its target is, and after a slash the indices of the segments are one less.
use Rattle.std.proofs.Common.{◌≡◌, ◌⊎◌, ℕ, zero, suc, ◌+◌, ◌<◌, ◌≤◌, ◌==◌, List, length, take, get_or, true, not, refl, arith, rules, IsUtf8, inl, inr}
use Rattle.std.specs.List.{after_first, position_or_len}
use Rattle.std.proofs.lemmas.Str.{IsUtf8-take, IsCharBoundary-before_ascii, IsCharBoundary-end}
use Rattle.std.proofs.lemmas.List.Sums.{passes_at_first, prefix_len-le-length}
use Rattle.std.proofs.lemmas.Bool.Decides.{nat_tests}
use Rattle.spec_service.specs.Path.{path_of, segment}

pub segment_behind : (n k : ℕ) (path : List ℕ) → n ≡ k + 1 → segment k (after_first (λ b. b == 47) path) ≡ segment n path
segment_behind zero k path is = absurd (let e : ⊥ = omega (arith, is) in e)
segment_behind (suc n) k path is = let e : k ≡ n = omega (arith, is) in rw e refl

is_equal : (x y : ℕ) → (x == y) ≡ true → x ≡ y
is_equal x y h = grind (arith, nat_tests)

within_or_end : (i n : ℕ) → i ≤ n → (i < n) ⊎ (i ≡ n)
within_or_end i n h = search (rules, arith)

cut_before_question_mark : (target : List ℕ) (i : ℕ) → IsUtf8 target → i ≤ length target → (i < length target → get_or target i 0 ≡ 63) → IsUtf8 (take i target)
cut_before_question_mark target i is within at =
    elim (within_or_end i (length target) within) [
      | inl less ↦ IsUtf8-take target i is (IsCharBoundary-before_ascii target i less (let e = at less in omega (arith, e)))
      | inr end ↦ IsUtf8-take target i is (rw end (IsCharBoundary-end target))
    ]

pub path_is_text : (target : List ℕ) → IsUtf8 target → IsUtf8 (path_of target)
path_is_text target is =
    cut_before_question_mark target (position_or_len (λ b. b == 63) target) is (prefix_len-le-length (λ b. not (b == 63)) target)
    (λ less. is_equal _ 63 (passes_at_first (λ b. b == 63) target 0 less))
