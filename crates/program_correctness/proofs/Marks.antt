-- A store in which a miss is marked.
use Rattle.std.proofs.Common.{◌≡◌, ℕ, Bool, true, List, [], ◌∷◌, Option, Some, None, refl, sym, ap, ◌∙◌}
use Rattle.spec_machine.specs.State.{Frame, Store, add, empty_buffers, frames_with, has_current, miss, out_with}
use Rattle.program_correctness.proofs.Buffers.{emptied_added, emptied_frames, emptied_twice}
use Rattle.program_correctness.proofs.Stores.{IsFit, add_is, fit, fit_frames, fit_mark, push, store}

abbrev pub first_mark : Option ℕ → ℕ → ℕ
first_mark None m = m
first_mark (Some first) m = first

-- as a mark leaves it; whether the limit was passed before depends on what was held
abbrev pub stamp : ℕ → Bool → Store → Store
stamp i over s = store (emptied_frames s.frames) [] (Some (first_mark s.mark i)) over

pub add_stamp : (x : List ℕ) (i : ℕ) (over : Bool) (s : Store) → add x (stamp i over s) ≡ stamp i over s
unfolding add
add_stamp x i over s = refl

pub stamp_twice : (i j : ℕ) (over last : Bool) (s : Store) → stamp j last (stamp i over s) ≡ stamp i last s
stamp_twice i j over last s = ap (λ (l : List Frame). store l [] (Some (first_mark s.mark i)) last) (emptied_twice s.frames)

stamp_fit : (i : ℕ) (o : Bool) (frames : List Frame) (out : List ℕ) (mark : Option ℕ) (over : Bool) → stamp i o (fit (store frames out mark over)) ≡ stamp i o (store frames out mark over)
stamp_fit i o frames out mark over =
    ap (λ (l : List Frame). store l [] (Some (first_mark ((fit (store frames out mark over)).mark) i)) o) (fit_frames emptied_frames frames out mark over (emptied_twice frames))
    ∙ ap (λ (m : Option ℕ). store (emptied_frames frames) [] (Some (first_mark m i)) o) (fit_mark frames out mark over)

pub stamp_add : (i : ℕ) (o : Bool) (x : List ℕ) (s : Store) → IsFit s → has_current s.frames ≡ true → stamp i o (add x s) ≡ stamp i o s
stamp_add i o x s f h =
    ap (stamp i o) (add_is x s f h)
    ∙ stamp_fit i o (frames_with x s.frames) (out_with x s.frames s.out) s.mark s.over
    ∙ ap (λ (l : List Frame). store l [] (Some (first_mark s.mark i)) o) (emptied_added x s.frames)

pub stamp_push : (i : ℕ) (o : Bool) (frame : Frame) (s : Store) → stamp i o (push frame s) ≡ record (stamp i o s) { frames = empty_buffers frame ∷ emptied_frames s.frames }
stamp_push i o frame s = stamp_fit i o (frame ∷ s.frames) s.out s.mark s.over

pub miss_is : (i : ℕ) (s : Store) → IsFit s → miss i s ≡ stamp i s.over s
unfolding miss
miss_is i s f = by_mark s.frames s.out s.mark s.over f
  where
    by_mark : (frames : List Frame) (out : List ℕ) (mark : Option ℕ) (over : Bool) → IsFit (store frames out mark over) → miss i (store frames out mark over) ≡ stamp i over (store frames out mark over)
    by_mark frames out (Some m) over f = sym (f.nothing refl)
    by_mark frames out None over f = refl

pub stamp_fits : (i : ℕ) (o : Bool) (s : Store) → IsFit (stamp i o s)
stamp_fits i o s = record { nothing = λ h. ap (λ (l : List Frame). store l [] (Some (first_mark s.mark i)) o) (emptied_twice s.frames); few = λ h. cc }
