-- What is known of a writer's bytes after several writes.
use Rattle.std.proofs.Common.{ℕ, ◌+◌, ◌-◌, List, ◌++◌, length, take, drop, Option, Some, None}
use Rattle.std.proofs.lemmas.List.{take_rest}
use Rattle.std.proofs.Math.Seq.{take-add, take-append-add}
use Rattle.std.proofs.KnownBytes.{Appends-trans}
use Rattle.std.specs.Io.KnownBytes.{Appends, Keeps}

pub kept_appends : (a b c : Option (List ℕ)) (bytes : List ℕ) → Keeps a b → Appends b c bytes → Appends a c bytes
kept_appends None b c bytes kept written = tt
kept_appends (Some x) None c bytes kept written = absurd kept
kept_appends (Some x) (Some y) None bytes kept written = absurd written
kept_appends (Some x) (Some y) (Some z) bytes kept written = rw kept at written

-- k more bytes were written after the first n
pub sent_more : (a b c : Option (List ℕ)) (n k : ℕ) (all : List ℕ) → Appends a b (take n all)
    → Appends b c (take k (take (length all - n) (drop n all))) → Appends a c (take (n + k) all)
sent_more a b c n k all before more =
    let piece = rw (take_rest all n) at more in
    rw (take-add n k all) (Appends-trans a b c (take n all) (take k (drop n all)) before piece)

-- the first piece was written, and a beginning of the second
pub second_begun : (a b c : Option (List ℕ)) (front rest : List ℕ) (k : ℕ) → Appends a b front → Appends b c (take k rest)
    → Appends a c (take (length front + k) (front ++ rest))
second_begun a b c front rest k first more =
    rw (take-append-add front rest k) (Appends-trans a b c front (take k rest) first more)
