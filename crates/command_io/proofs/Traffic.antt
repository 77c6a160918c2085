-- What is known of bytes after several reads or writes.
use Rattle.std.proofs.Common.{◌≡◌, ℕ, ◌+◌, ◌-◌, ◌<◌, List, [], ◌++◌, length, take, drop, Option, Some, None, IfSome, Result, Ok, Err, refl, sym, append-nil}
use Rattle.std.proofs.lemmas.List.{take-append-drop, take_rest}
use Rattle.std.proofs.Math.Seq.{take-add}
use Rattle.std.proofs.KnownBytes.{Appends-kept, Appends-trans, Consumes-kept, Consumes-trans, Consumes-whole}
use Rattle.std.specs.Io.KnownBytes.{Appends, Consumes, ReadConsumes, WriteAppends}
use Rattle.command_io.specs.Traffic.{Begins}

-- ---- reads: what was read up to a read, and the read's result

module _ {E : Type 0} (a b c : Option (List ℕ)) (all buf new : List ℕ) (r : Result ℕ E) where
  -- one that gives no byte is the last
  pub read_to_end : (n : ℕ) → Consumes a b all → ReadConsumes b c r buf → r ≡ Ok n → n ≡ 0 → 0 < length buf → IfSome a (λ input. all ≡ input)
  read_to_end n before now is zero room =
      let last = rw (is, zero) at now in
      let whole = Consumes-trans a b c all [] before last.0 in
      Consumes-whole a c (all ++ []) (λ input. all ≡ input) whole (last.1 refl room) (sym (append-nil all))

  pub read_more : (n : ℕ) → Consumes a b all → ReadConsumes b c r buf → r ≡ Ok n → new ≡ all ++ take n buf → Consumes a c new
  read_more n before now is grown =
      let piece = rw is at now in
      rw grown (Consumes-trans a b c all (take n buf) before piece.0)

  pub read_again : (e : E) → Consumes a b all → ReadConsumes b c r buf → r ≡ Err e → new ≡ all → Consumes a c new
  read_again e before now is same = rw same (Consumes-kept a b c all before (rw is at now))

-- ---- writes: what was written up to a write, n bytes of all, and the write's result

module _ {E : Type 0} (a b c : Option (List ℕ)) (all : List ℕ) (n : ℕ) (r : Result ℕ E) where
  pub sent_more : (k total : ℕ) → Appends a b (take n all) → WriteAppends b c r (take (length all - n) (drop n all)) → r ≡ Ok k
      → total ≡ n + k → Appends a c (take total all)
  sent_more k total before now is sum =
      let piece = rw (is, take_rest all n) at now in
      rw (sum, take-add n k all) (Appends-trans a b c (take n all) (take k (drop n all)) before piece)

  pub sent_again : (e : E) (total : ℕ) → Appends a b (take n all) → WriteAppends b c r (take (length all - n) (drop n all)) → r ≡ Err e
      → total ≡ n → Appends a c (take total all)
  sent_again e total before now is same = rw same (Appends-kept a b c (take n all) before (rw is at now))

-- the first n of the bytes are a beginning
pub begins : (a b : Option (List ℕ)) (all : List ℕ) (n : ℕ) → Appends a b (take n all) → Begins a b all
begins None b all n sent = tt
begins (Some x) None all n sent = absurd sent
begins (Some x) (Some y) all n sent = (take n all, drop n all, sym (take-append-drop n all), sent)
