-- A store that saturates: adding is adding with no limit, and then fitting to the limit; fitting may wait.
use Rattle.std.proofs.Common.{◌≡◌, ℕ, ◌+◌, ◌≤◌, Bool, true, false, cond, List, [], ◌∷◌, ◌++◌, length, Option, Some, None, refl, sym, ap, ◌∙◌, subst, arith}
use Rattle.std.specs.Prelude.{nat_lt}
use Rattle.spec_decoding.specs.Walk.{Walk}
use Rattle.spec_avro.specs.declared.limits.TheConstants.{MOST_OUTPUT}
use Rattle.spec_machine.specs.State.{Blocks, Frame, Rec, Store, add, add_to_slot, append, empty_buffers, emptied, frames_size, frames_with, has_current, is_done, out_with, size_of, total}
use Rattle.program_correctness.proofs.Buffers.{current_emptied, current_with, emptied_added, emptied_frames, emptied_twice, out_nothing, out_twice, with_nothing, with_size, with_twice}
use Rattle.program_correctness.proofs.Numbers.{past}

abbrev pub store : List Frame → List ℕ → Option ℕ → Bool → Store
store frames out mark over = record { frames = frames; out = out; mark = mark; over = over }

-- a frame on top, with no limit
abbrev pub opened : Frame → Store → Store
opened frame s = record s { frames = frame ∷ s.frames }

abbrev pub spilt : Store → Store
spilt s = emptied (record s { over = true })

-- fitted to the limit
abbrev pub fit : Store → Store
fit s = cond (is_done s.mark s.over) (emptied s) (cond (nat_lt MOST_OUTPUT (total s)) (spilt s) s)

-- as the rows keep it: nothing is held after a mark or past the limit, and else no more than the limit
pub record IsFit (s : Store) : Type 0 where
  pub nothing : is_done s.mark s.over ≡ true → emptied s ≡ s
  pub few : is_done s.mark s.over ≡ false → nat_lt MOST_OUTPUT (total s) ≡ false

-- ---- fitting may wait

-- what grows the buffers, whatever they hold
pub record Grows (frames_to : List Frame → List Frame) (out_to : List Frame → List ℕ → List ℕ) (frames : List Frame) (out : List ℕ) : Type 0 where
  pub larger : frames_size frames + length out ≤ frames_size (frames_to frames) + length (out_to frames out)
  pub shape : emptied_frames (frames_to (emptied_frames frames)) ≡ emptied_frames (frames_to frames)

abbrev grown : (List Frame → List Frame) → (List Frame → List ℕ → List ℕ) → Store → Store
grown frames_to out_to s = record s { frames = frames_to s.frames; out = out_to s.frames s.out }

fit_grown_by : (frames_to : List Frame → List Frame) (out_to : List Frame → List ℕ → List ℕ) (frames : List Frame) (out : List ℕ) (b : Bool) → nat_lt MOST_OUTPUT (frames_size frames + length out) ≡ b → Grows frames_to out_to frames out → fit (grown frames_to out_to (fit (store frames out None false))) ≡ fit (grown frames_to out_to (store frames out None false))
fit_grown_by frames_to out_to frames out true e g = rw (e, past MOST_OUTPUT _ _ g.larger e) (ap (λ (l : List Frame). store l [] None true) g.shape)
fit_grown_by frames_to out_to frames out false e g = rw e refl

fit_grown : (frames_to : List Frame → List Frame) (out_to : List Frame → List ℕ → List ℕ) (frames : List Frame) (out : List ℕ) (mark : Option ℕ) (over : Bool) → Grows frames_to out_to frames out → fit (grown frames_to out_to (fit (store frames out mark over))) ≡ fit (grown frames_to out_to (store frames out mark over))
fit_grown frames_to out_to frames out (Some m) over g = ap (λ (l : List Frame). store l [] (Some m) over) g.shape
fit_grown frames_to out_to frames out None true g = ap (λ (l : List Frame). store l [] None true) g.shape
fit_grown frames_to out_to frames out None false g = fit_grown_by frames_to out_to frames out (nat_lt MOST_OUTPUT (frames_size frames + length out)) refl g

-- ---- what is fit

fits_by : (frames : List Frame) (out : List ℕ) (b : Bool) → nat_lt MOST_OUTPUT (frames_size frames + length out) ≡ b → IsFit (fit (store frames out None false))
fits_by frames out true e = rw e (record { nothing = λ h. ap (λ (l : List Frame). store l [] None true) (emptied_twice frames); few = λ h. cc })
fits_by frames out false e = rw e (record { nothing = λ h. cc; few = λ h. e })

pub fit_fits : (frames : List Frame) (out : List ℕ) (mark : Option ℕ) (over : Bool) → IsFit (fit (store frames out mark over))
fit_fits frames out (Some m) over = record { nothing = λ h. ap (λ (l : List Frame). store l [] (Some m) over) (emptied_twice frames); few = λ h. cc }
fit_fits frames out None true = record { nothing = λ h. ap (λ (l : List Frame). store l [] None true) (emptied_twice frames); few = λ h. cc }
fit_fits frames out None false = fits_by frames out (nat_lt MOST_OUTPUT (frames_size frames + length out)) refl

fit_same_by : (frames : List Frame) (out : List ℕ) → nat_lt MOST_OUTPUT (frames_size frames + length out) ≡ false → fit (store frames out None false) ≡ store frames out None false
fit_same_by frames out e = rw e refl

fit_same : (frames : List Frame) (out : List ℕ) (mark : Option ℕ) (over : Bool) → IsFit (store frames out mark over) → fit (store frames out mark over) ≡ store frames out mark over
fit_same frames out (Some m) over f = f.nothing refl
fit_same frames out None true f = f.nothing refl
fit_same frames out None false f = fit_same_by frames out (f.few refl)

-- a property of the frames that does not depend on what they hold
fit_frames_by : {A : Type 0} (of : List Frame → A) (frames : List Frame) (out : List ℕ) (b : Bool) → nat_lt MOST_OUTPUT (frames_size frames + length out) ≡ b → of (emptied_frames frames) ≡ of frames → of ((fit (store frames out None false)).frames) ≡ of frames
fit_frames_by of frames out true e h = rw e h
fit_frames_by of frames out false e h = rw e refl

pub fit_frames : {A : Type 0} (of : List Frame → A) (frames : List Frame) (out : List ℕ) (mark : Option ℕ) (over : Bool) → of (emptied_frames frames) ≡ of frames → of ((fit (store frames out mark over)).frames) ≡ of frames
fit_frames of frames out (Some m) over h = h
fit_frames of frames out None true h = h
fit_frames of frames out None false h = fit_frames_by of frames out (nat_lt MOST_OUTPUT (frames_size frames + length out)) refl h

pub fit_mark : (frames : List Frame) (out : List ℕ) (mark : Option ℕ) (over : Bool) → (fit (store frames out mark over)).mark ≡ mark
fit_mark frames out (Some m) over = refl
fit_mark frames out None true = refl
fit_mark frames out None false = by_size (nat_lt MOST_OUTPUT (frames_size frames + length out)) refl
  where
    by_size : (b : Bool) → nat_lt MOST_OUTPUT (frames_size frames + length out) ≡ b → (fit (store frames out None false)).mark ≡ None
    by_size true e = rw e refl
    by_size false e = rw e refl

-- ---- adding

add_fit_by : (x : List ℕ) (frames : List Frame) (out : List ℕ) (b : Bool) → nat_lt MOST_OUTPUT (frames_size frames + length out + length x) ≡ b → has_current frames ≡ true → add x (store frames out None false) ≡ fit (append x (store frames out None false))
unfolding add
add_fit_by x frames out true e h = rw (with_size x frames out h, e) (ap (λ (l : List Frame). store l [] None true) (sym (emptied_added x frames)))
add_fit_by x frames out false e h = rw (with_size x frames out h, e) refl

add_fit : (x : List ℕ) (frames : List Frame) (out : List ℕ) (mark : Option ℕ) (over : Bool) → IsFit (store frames out mark over) → has_current frames ≡ true → add x (store frames out mark over) ≡ fit (append x (store frames out mark over))
unfolding add
add_fit x frames out (Some m) over f h = sym (f.nothing refl) ∙ ap (λ (l : List Frame). store l [] (Some m) over) (sym (emptied_added x frames))
add_fit x frames out None true f h = sym (f.nothing refl) ∙ ap (λ (l : List Frame). store l [] None true) (sym (emptied_added x frames))
add_fit x frames out None false f h = add_fit_by x frames out (nat_lt MOST_OUTPUT (frames_size frames + length out + length x)) refl h

pub add_is : (x : List ℕ) (s : Store) → IsFit s → has_current s.frames ≡ true → add x s ≡ fit (append x s)
add_is x s f h = add_fit x s.frames s.out s.mark s.over f h

add_grows : (x : List ℕ) (frames : List Frame) (out : List ℕ) → has_current frames ≡ true → Grows (frames_with x) (out_with x) frames out
add_grows x frames out h = record { larger = omega (arith, with_size x frames out h); shape = emptied_added x (emptied_frames frames) ∙ emptied_twice frames ∙ sym (emptied_added x frames) }

-- to what was fitted
add_to_fit : (x : List ℕ) (frames : List Frame) (out : List ℕ) (mark : Option ℕ) (over : Bool) → has_current frames ≡ true → add x (fit (store frames out mark over)) ≡ fit (append x (store frames out mark over))
add_to_fit x frames out mark over h =
    let c : has_current ((fit (store frames out mark over)).frames) ≡ true = fit_frames has_current frames out mark over (current_emptied frames) ∙ h in
    add_is x (fit (store frames out mark over)) (fit_fits frames out mark over) c ∙ fit_grown (frames_with x) (out_with x) frames out mark over (add_grows x frames out h)

pub add_twice : (x y : List ℕ) (s : Store) → IsFit s → has_current s.frames ≡ true → add x (add y s) ≡ add (y ++ x) s
add_twice x y s f h =
    ap (add x) (add_is y s f h)
    ∙ add_to_fit x (frames_with y s.frames) (out_with y s.frames s.out) s.mark s.over (current_with y s.frames ∙ h)
    ∙ ap (λ (l : List Frame). fit (store l (out_with x (frames_with y s.frames) (out_with y s.frames s.out)) s.mark s.over)) (with_twice x y s.frames)
    ∙ ap (λ (l : List ℕ). fit (store (frames_with (y ++ x) s.frames) l s.mark s.over)) (out_twice x y s.frames s.out)
    ∙ sym (add_is (y ++ x) s f h)

pub add_fits : (x : List ℕ) (s : Store) → IsFit s → has_current s.frames ≡ true → IsFit (add x s)
add_fits x s f h = subst IsFit (sym (add_is x s f h)) (fit_fits (frames_with x s.frames) (out_with x s.frames s.out) s.mark s.over)

pub add_frames : {A : Type 0} (of : List Frame → A) (x : List ℕ) (s : Store) → IsFit s → has_current s.frames ≡ true → ((frames : List Frame) → of (emptied_frames frames) ≡ of frames) → of ((add x s).frames) ≡ of s.frames
add_frames of x s f h same =
    ap (λ (t : Store). of (t.frames)) (add_is x s f h)
    ∙ fit_frames of (frames_with x s.frames) (out_with x s.frames s.out) s.mark s.over (same _)
    ∙ sym (same (frames_with x s.frames)) ∙ ap of (emptied_added x s.frames) ∙ same s.frames

pub add_nothing : (s : Store) → IsFit s → add [] s ≡ s
unfolding add
add_nothing s f = by_mark s.frames s.out s.mark s.over f
  where
    by_mark : (frames : List Frame) (out : List ℕ) (mark : Option ℕ) (over : Bool) → IsFit (store frames out mark over) → add [] (store frames out mark over) ≡ store frames out mark over
    by_mark frames out (Some m) over f = refl
    by_mark frames out None true f = refl
    by_mark frames out None false f =
        let e : frames_size frames + length out + 0 ≡ frames_size frames + length out = omega arith in
        rw (e, f.few refl) (ap (λ (l : List Frame). store l (out_with [] frames out) None false) (with_nothing frames) ∙ ap (λ (l : List ℕ). store frames l None false) (out_nothing frames out))

-- ---- a frame that holds something, on a store

abbrev pub push : Frame → Store → Store
push frame s = fit (opened frame s)

pub add_to_record : (x : List ℕ) (j : ℕ) (slots : List (List ℕ)) (s : Store) → nat_lt j (length slots) ≡ true → add x (push (Rec (Some j) slots) s) ≡ push (Rec (Some j) (add_to_slot j x slots)) s
add_to_record x j slots s h = add_to_fit x (Rec (Some j) slots ∷ s.frames) s.out s.mark s.over h

pub add_to_blocks : (x : List ℕ) (walk : Walk) (items : ℕ) (buffer : List ℕ) (s : Store) → add x (push (Blocks walk items buffer) s) ≡ push (Blocks walk items (buffer ++ x)) s
add_to_blocks x walk items buffer s = add_to_fit x (Blocks walk items buffer ∷ s.frames) s.out s.mark s.over refl

-- an empty one
pub push_empty : (frame : Frame) (s : Store) → IsFit s → size_of frame ≡ 0 → empty_buffers frame ≡ frame → push frame s ≡ opened frame s
push_empty frame s f z e = fit_same (frame ∷ s.frames) s.out s.mark s.over (fits_on frame s.frames s.out s.mark s.over f z e)
  where
    fits_on : (frame : Frame) (frames : List Frame) (out : List ℕ) (mark : Option ℕ) (over : Bool) → IsFit (store frames out mark over) → size_of frame ≡ 0 → empty_buffers frame ≡ frame → IsFit (store (frame ∷ frames) out mark over)
    fits_on frame frames out mark over f z e = record {
      nothing = λ h. ap (λ (g : Frame). store (g ∷ emptied_frames frames) [] mark over) e ∙ ap (λ (t : Store). store (frame ∷ t.frames) t.out mark over) (f.nothing h);
      few = λ h. let n : frames_size (frame ∷ frames) + length out ≡ frames_size frames + length out = omega arith in rw n (f.few h);
    }
