-- What comes of bytes in a store: they are added, or a mismatch is marked; and a frame on top that holds what came so
-- far.
use Rattle.std.proofs.Common.{◌≡◌, ℕ, ◌+◌, ◌≤◌, Bool, true, false, List, [], ◌∷◌, ◌++◌, length, Option, Some, None, Ok, Err, refl, sym, ap, ◌∙◌, subst, arith, slice_get}
use Rattle.std.specs.Prelude.{nat_lt}
use Rattle.spec_avro.specs.declared.limits.TheConstants.{MOST_OUTPUT}
use Rattle.spec_avro.specs.declared.mismatch.Mismatch.{Mismatch}
use Rattle.spec_avro.specs.Resolution.{Resolved, ◌>>=◌}
use Rattle.spec_machine.specs.State.{Frame, Store, frames_size, size_of, empty_buffers, has_current, add}
use Rattle.program_correctness.proofs.Buffers.{current_emptied, emptied_frames, emptied_length}
use Rattle.program_correctness.proofs.Marks.{add_stamp, stamp, stamp_add, stamp_fits, stamp_push, stamp_twice}
use Rattle.program_correctness.proofs.Numbers.{past_still}
use Rattle.program_correctness.proofs.Stores.{IsFit, add_twice, fit_fits, opened, push, store}

-- frames that hold something, which may be emptied, and has a number of bytes
pub record IsHolder {C : Type 0} (wipe : C → C) (size : C → ℕ) (F : C → Frame) : Type 0 where
  pub wiped : (c : C) → empty_buffers (F c) ≡ F (wipe c)
  pub sized : (c : C) → size_of (F c) ≡ size c

module _ (misses : List Mismatch) where
  -- a miss of that mismatch is marked
  abbrev pub IsMarked : Mismatch → Store → Store → Type 0
  IsMarked m s t = (i : ℕ) × (over : Bool) × (slice_get misses i ≡ Some m) × (t ≡ stamp i over s)

  -- the bytes are added, or the mismatch is marked
  abbrev pub Becomes : Resolved (List ℕ) → Store → Store → Type 0
  Becomes (Ok x) s t = t ≡ add x s
  Becomes (Err m) s t = IsMarked m s t

  pub becomes_so : (res other : Resolved (List ℕ)) (s t : Store) → res ≡ other → Becomes res s t → Becomes other s t
  becomes_so res other s t e h = subst (λ (r : Resolved (List ℕ)). Becomes r s t) e h

  -- bytes before others
  pub becomes_after : (x : List ℕ) (res : Resolved (List ℕ)) (s t : Store) → IsFit s → has_current s.frames ≡ true → Becomes res (add x s) t → Becomes (res >>= λ y. Ok (x ++ y)) s t
  becomes_after x (Ok y) s t fit current h = h ∙ add_twice y x s fit current
  becomes_after x (Err m) s t fit current h = (h.0, h.1, h.2, h.3 ∙ stamp_add h.0 h.1 x s fit current)

  -- after a mark nothing else counts
  pub marked_on : (m : Mismatch) (res : Resolved (List ℕ)) (s mid t : Store) → IsMarked m s mid → Becomes res mid t → IsMarked m s t
  marked_on m (Ok y) s mid t k h = (k.0, k.1, k.2, h ∙ ap (add y) k.3 ∙ add_stamp y k.0 k.1 s)
  marked_on m (Err n) s mid t k h = (k.0, h.1, k.2, h.3 ∙ ap (stamp h.0 h.1) k.3 ∙ stamp_twice k.0 h.0 k.1 h.1 s)

  -- ---- a frame that holds what came so far

  module _ {C : Type 0} (wipe : C → C) (size : C → ℕ) where
    -- the frame is on top of the store, or a mismatch was marked after it, where it held `first`
    abbrev pub Holds : (C → Frame) → C → Resolved C → Store → Store → Type 0
    Holds F first (Ok c) s t = (wipe c ≡ wipe first) × (t ≡ push (F c) s)
    Holds F first (Err m) s t = IsMarked m (opened (F first) s) t

    -- the top frame, and what may be done with it
    pub record Top (F : C → Frame) (first : C) (acc : Resolved C) (s t : Store) : Type 0 where
      pub inner : C
      pub below : List Frame
      pub is : t.frames ≡ F inner ∷ below
      pub like : wipe inner ≡ wipe first
      pub current : has_current below ≡ has_current s.frames
      pub depth : length below ≡ length s.frames
      pub fits : IsFit t
      -- another frame that holds the same
      pub refit : (G : C → Frame) → IsHolder wipe size G → Holds G first acc s (record t { frames = G inner ∷ below })
      -- the frame closed, and what it held added in some form that is as long at least
      pub closes : (form : C → List ℕ) → ((c : C) → acc ≡ Ok c → size c ≤ length (form c)) → Becomes (acc >>= λ c. Ok (form c)) s (add (form inner) (record t { frames = below }))

    module _ (twice : (c : C) → wipe (wipe c) ≡ wipe c) (F : C → Frame) (holder : IsHolder wipe size F) (first c : C) (like : wipe c ≡ wipe first) where
      -- where the buffers were emptied
      emptied_top : (s : Store) (mark : Option ℕ) (over : Bool) → ((G : C → Frame) → IsHolder wipe size G → push (G c) s ≡ store (empty_buffers (G c) ∷ emptied_frames s.frames) [] mark over)
          → ((x y : List ℕ) → size c ≤ length x → add y (store (emptied_frames s.frames) [] mark over) ≡ add x s) → Top F first (Ok c) s (push (F c) s)
      emptied_top s mark over pushes closing = record {
        inner = wipe c;
        below = emptied_frames s.frames;
        is = ap (λ (t : Store). t.frames) (pushes F holder) ∙ ap (λ (f : Frame). f ∷ emptied_frames s.frames) (holder.wiped c);
        like = twice c ∙ like;
        current = current_emptied s.frames;
        depth = emptied_length s.frames;
        fits = fit_fits (F c ∷ s.frames) s.out s.mark s.over;
        refit = λ G h. (like, ap (λ (t : Store). record t { frames = G (wipe c) ∷ emptied_frames s.frames }) (pushes F holder) ∙ ap (λ (f : Frame). store (f ∷ emptied_frames s.frames) [] mark over) (sym (h.wiped c)) ∙ sym (pushes G h));
        closes = λ form small. ap (λ (t : Store). add (form (wipe c)) (record t { frames = emptied_frames s.frames })) (pushes F holder) ∙ closing (form c) (form (wipe c)) (small c refl);
      }

      -- where they are
      whole_top : (s : Store) → ((G : C → Frame) → IsHolder wipe size G → push (G c) s ≡ opened (G c) s) → Top F first (Ok c) s (push (F c) s)
      whole_top s pushes = record {
        inner = c;
        below = s.frames;
        is = ap (λ (t : Store). t.frames) (pushes F holder);
        like = like;
        current = refl;
        depth = refl;
        fits = fit_fits (F c ∷ s.frames) s.out s.mark s.over;
        refit = λ G h. (like, ap (λ (t : Store). record t { frames = G c ∷ s.frames }) (pushes F holder) ∙ sym (pushes G h));
        closes = λ form small. ap (λ (t : Store). add (form c) (record t { frames = s.frames })) (pushes F holder);
      }

      by_total : (frames : List Frame) (out : List ℕ) (b : Bool) → nat_lt MOST_OUTPUT (frames_size (F c ∷ frames) + length out) ≡ b → Top F first (Ok c) (store frames out None false) (push (F c) (store frames out None false))
      unfolding add
      by_total frames out true over = emptied_top (store frames out None false) None true
          (λ G h. let same : nat_lt MOST_OUTPUT (frames_size (G c ∷ frames) + length out) ≡ true = rw (h.sized c, sym (holder.sized c)) over in spills (G c) same)
          (λ x y le. let wide : nat_lt MOST_OUTPUT (frames_size frames + length out + length x) ≡ true = past_still MOST_OUTPUT (frames_size frames + length out) (size_of (F c)) (frames_size (F c ∷ frames) + length out) (length x) (omega arith) (omega (arith, le, holder.sized c)) over in adds x y wide)
        where
          spills : (f : Frame) → nat_lt MOST_OUTPUT (frames_size (f ∷ frames) + length out) ≡ true → push f (store frames out None false) ≡ store (empty_buffers f ∷ emptied_frames frames) [] None true
          spills f h = rw h refl

          adds : (x y : List ℕ) → nat_lt MOST_OUTPUT (frames_size frames + length out + length x) ≡ true → add y (store (emptied_frames frames) [] None true) ≡ add x (store frames out None false)
          adds x y h = rw h refl
      by_total frames out false under = whole_top (store frames out None false) (λ G h. let same : nat_lt MOST_OUTPUT (frames_size (G c ∷ frames) + length out) ≡ false = rw (h.sized c, sym (holder.sized c)) under in stays (G c) same)
        where
          stays : (f : Frame) → nat_lt MOST_OUTPUT (frames_size (f ∷ frames) + length out) ≡ false → push f (store frames out None false) ≡ opened f (store frames out None false)
          stays f h = rw h refl

      some_top : (frames : List Frame) (out : List ℕ) (mark : Option ℕ) (over : Bool) → IsFit (store frames out mark over) → Top F first (Ok c) (store frames out mark over) (push (F c) (store frames out mark over))
      unfolding add
      some_top frames out (Some m) over fit = emptied_top (store frames out (Some m) over) (Some m) over (λ G h. refl) (λ x y le. fit.nothing refl)
      some_top frames out None true fit = emptied_top (store frames out None true) None true (λ G h. refl) (λ x y le. fit.nothing refl)
      some_top frames out None false fit = by_total frames out (nat_lt MOST_OUTPUT (frames_size (F c ∷ frames) + length out)) refl

    pub top : (twice : (c : C) → wipe (wipe c) ≡ wipe c) (F : C → Frame) → IsHolder wipe size F → (first : C) (acc : Resolved C) (s t : Store) → IsFit s → Holds F first acc s t → Top F first acc s t
    top twice F holder first (Ok c) s t fit h = subst (Top F first (Ok c) s) (sym h.1) (some_top twice F holder first c h.0 s.frames s.out s.mark s.over fit)
    top twice F holder first (Err m) s t fit h = subst (Top F first (Err m) s) (sym h.3) (record {
      inner = wipe first;
      below = emptied_frames s.frames;
      is = ap (λ (f : Frame). f ∷ emptied_frames s.frames) (holder.wiped first);
      like = twice first;
      current = current_emptied s.frames;
      depth = emptied_length s.frames;
      fits = stamp_fits h.0 h.1 (opened (F first) s);
      refit = λ G g. (h.0, h.1, h.2, ap (λ (f : Frame). record (stamp h.0 h.1 s) { frames = f ∷ emptied_frames s.frames }) (sym (g.wiped first)));
      closes = λ form small. (h.0, h.1, h.2, add_stamp (form (wipe first)) h.0 h.1 s);
    })

    -- bytes are added to what the frame holds
    pub holds_more : (F : C → Frame) → IsHolder wipe size F → (first : C) (put : List ℕ → C → C) → ((x : List ℕ) (c : C) → wipe (put x c) ≡ wipe c) → (acc : Resolved C) (res : Resolved (List ℕ)) (s t u : Store) → ((x : List ℕ) (c : C) → wipe c ≡ wipe first → add x (push (F c) s) ≡ push (F (put x c)) s)
        → Holds F first acc s t → Becomes res t u → Holds F first (acc >>= λ c. res >>= λ x. Ok (put x c)) s u
    holds_more F holder first put wipes (Ok c) (Ok x) s t u adds h a = (wipes x c ∙ h.0, a ∙ ap (add x) h.1 ∙ adds x c h.0)
    holds_more F holder first put wipes (Ok c) (Err m) s t u adds h a =
        let same : empty_buffers (F c) ≡ empty_buffers (F first) = holder.wiped c ∙ ap F h.0 ∙ sym (holder.wiped first) in
        (a.0, a.1, a.2, a.3 ∙ ap (stamp a.0 a.1) h.1 ∙ stamp_push a.0 a.1 (F c) s ∙ ap (λ (f : Frame). record (stamp a.0 a.1 s) { frames = f ∷ emptied_frames s.frames }) same)
    holds_more F holder first put wipes (Err m) res s t u adds h a = marked_on m res (opened (F first) s) t u h a

    pub holds_so : (F : C → Frame) (first : C) (acc other : Resolved C) (s t : Store) → acc ≡ other → Holds F first acc s t → Holds F first other s t
    holds_so F first acc other s t e h = subst (λ (a : Resolved C). Holds F first a s t) e h
