-- What is in a room after a part of it was written and the rest cut off.
use Rattle.std.proofs.Common.{◌≡◌, ℕ, ◌+◌, ◌≤◌, List, ◌++◌, length, take, drop, sym, ap, ◌∙◌, arith}
use Rattle.std.proofs.lemmas.List.{length-append, length-take, length-take-le, take-append-drop, take-append-le, take_at, take_all}
use Rattle.std.proofs.Math.Seq.{take-append-add}
use borrow.Rule.Slice.PartMut.{put_mid, post_of}
use Rattle.wire_frames.specs.Laws.Plain.{take_take}

-- the first bytes of a room, once some were written after the first `had`
pub written_behind : (had k count : ℕ) (room bytes : List ℕ) → had ≤ length room → count ≤ length bytes
    → take (had + count) (put_mid had k room bytes) ≡ take had room ++ take count bytes
written_behind had k count room bytes fits few =
    let long : length (take had room) ≡ had = length-take-le had room fits in
    ap (λ (m : ℕ). take (m + count) (take had room ++ (bytes ++ post_of had k room))) (sym long)
    ∙ take-append-add (take had room) (bytes ++ post_of had k room) count
    ∙ ap (λ (z : List ℕ). take had room ++ z) (take-append-le count bytes (post_of had k room) few)

-- there are at least `had + count` bytes
pub long_enough : (had k count : ℕ) (room bytes : List ℕ) → had ≤ length room → count ≤ length bytes
    → had + count ≤ length (put_mid had k room bytes)
long_enough had k count room bytes fits few =
    let front : length (take had room) ≡ had = length-take-le had room fits in
    let whole = length-append (take had room) (bytes ++ post_of had k room) in
    let back = length-append bytes (post_of had k room) in
    omega (arith, front, whole, back, few)

-- a room cut off at `most` bytes, of which the first are kept and some more written
pub moved : (had k count most : ℕ) (room bytes rest : List ℕ) → had ≤ length room → count ≤ length bytes
    → had + count ≤ most
    → take (had + count) (take most (put_mid had k room bytes ++ rest)) ≡ take had room ++ take count bytes
moved had k count most room bytes rest fits few below =
    let written : List ℕ = put_mid had k room bytes in
    let all : length (written ++ rest) ≡ length written + length rest = length-append written rest in
    let cut = length-take most (written ++ rest) in
    let enough : had + count ≤ length written = long_enough had k count room bytes fits few in
    take_take (had + count) most (written ++ rest) (omega (arith, all, cut, enough, below))
    ∙ take-append-le (had + count) written rest enough
    ∙ written_behind had k count room bytes fits few

-- what was filled up keeps what it had
pub kept_front : (had n : ℕ) (room old fill : List ℕ) → room ≡ take n old ++ fill → length old ≡ had → had ≤ n
    → take had room ≡ old
kept_front had n room old fill filled long below =
    let all : take n old ≡ old = take_all n old (omega (arith, long, below)) in
    ap (λ (z : List ℕ). take had z) (filled ∙ ap (λ (z : List ℕ). z ++ fill) all) ∙ take_at old fill had long
