-- What the steps of a call come to.
use Rattle.std.proofs.Common.{◌≡◌, ◌≢◌, ◌<◌, ℕ, zero, suc, ◌+◌, Bool, List, [], ◌∷◌, ◌++◌, length, get_or, All, subst, sym, refl, ap, ◌∙◌, arith, Option, Some, None, append_assoc, append-nil}
use Rattle.std.proofs.lemmas.List.{get_or-set_other, get_or-set_same, get_or_past, length-append}
use Rattle.std.proofs.lemmas.List.Elements.{All-append}
use mathlib.Core.Logic.{dite}
use mathlib.Core.Option.{none, some}
use native.Mathlib.Decide.{ℕ_discrete, dec_le}
use Rattle.atomic_table.specs.Table.{step, rest}
use Rattle.session_pool_slots.specs.Words.{free, ready, slots, with_client, with_worker}
use Rattle.session_pool_slots.specs.Views.{FoundWord, PassData, View, found_word, note_of, pass_of, with_found, with_pass}
use Rattle.session_pool_slots.specs.Steps.{Seat, TakesOwn, claimed, freed, given, handing, new_pass, pass_in, pass_out, pass_stood, returned, stolen, taken}
use Rattle.session_pool_slots.specs.Results.{Claimed, Finds, Freed, GaveBack, HasNoted, HasOut, HasSame, Missed, Others, Searched, TookOut, found_of, words_of}

-- ---- lists of what a seat holds

-- the slots that are out, each with its content
abbrev Held : Type 0 → Type 0
Held S = List (ℕ × Option S)

one_of : {B : Type 0} (o : Option B) (x y : B) → o ≡ Some x → o ≡ Some y → x ≡ y
one_of o x y e f = cc

first_is : {S : Type 0} (l : Held S) (i : ℕ) (a b : Option S) (more others : Held S) → l ≡ (i, a) ∷ more → l ≡ (i, b) ∷ others → a ≡ b
first_is {S = S} l i a b more others e f = ap (λ (z : Held S). (get_or z 0 (i, None)).1) (sym e ∙ f)

-- a list with one slot has it first
pub has_first : {S : Type 0} (l : Held S) (i : ℕ) (a : Option S) → l ≡ (i, a) ∷ [] → l ≡ (i, a) ∷ rest l
has_first {S = S} l i a e = e ∙ ap (λ (z : Held S). (i, a) ∷ rest z) (sym e)

-- the content that came out of the slot is the one that was there
pub came_out : {S : Type 0} (l : Held S) (i : ℕ) (a b : Option S) (more others : Held S) → l ≡ (i, a) ∷ more → l ≡ (i, b) ∷ others → b ≡ a
came_out l i a b more others e f = sym (first_is l i a b more others e f)

-- and so the session
pub lifted : {S : Type 0} (l : Held S) (i : ℕ) (x y : S) (o : Option S) (more others : Held S) → l ≡ (i, Some x) ∷ more → l ≡ (i, o) ∷ others → o ≡ Some y → y ≡ x
lifted {S = S} l i x y o more others e f g = let h : Some x ≡ o = first_is l i (Some x) o more others e f in one_of o y x g (sym h)

-- ---- what was found

module _ {S A : Type 0} where
  pub finds_one : (v w : View S A) (i r : ℕ) → w.found ≡ v.found ++ found_word i r ∷ [] → Finds v i r w
  finds_one v w i r e = record { before = []; after = []; found = e }

all_one : {X : Type 0} (P : X → Type 0) (x : X) → P x → All P (x ∷ [])
all_one P x p zero d inside = p
all_one P x p (suc k) d inside = absurd (omega arith)

-- the words of one more slot
found_more : (n : ℕ) (below : List (List ℕ)) (words : List ℕ) (m : ℕ) → n + length below ≡ m → found_of n (below ++ words ∷ []) ≡ found_of n below ++ words_of m words
found_more n [] words m e = append-nil (words_of n words) ∙ ap (λ (k : ℕ). words_of k words) (let z = e in omega arith)
found_more n (first ∷ below) words m e =
    ap (λ (l : List FoundWord). words_of n first ++ l) (found_more (n + 1) below words m (let z = e in omega arith))
    ∙ sym (append_assoc (words_of n first) (found_of (n + 1) below) (words_of m words))

module _ {S A : Type 0} (IsUnfit : List ℕ → Type 0) where
  -- before the first slot
  pub searched_none : (v : View S A) → Searched IsUnfit v 0 [] v
  searched_none v = record { below = []; count = refl; unfit = (λ k d inside. absurd (omega arith)); found = sym (append-nil v.found) }

  -- the words of the next slot, at which the search ends
  pub searched_then : (u v w : View S A) (n : ℕ) (words : List ℕ) → Searched IsUnfit u n [] v → w.found ≡ v.found ++ words_of n words → Searched IsUnfit u n words w
  searched_then u v w n words h e = let F : List FoundWord = found_of 0 h.below in record {
    below = h.below;
    count = h.count;
    unfit = h.unfit;
    found = e ∙ (ap (λ (l : List FoundWord). l ++ words_of n words) (h.found ∙ ap (λ (l : List FoundWord). u.found ++ l) (append-nil F)) ∙ append_assoc u.found F (words_of n words));
  }

  -- the slot is unfit too
  pub searched_more : (u v w : View S A) (n : ℕ) (words : List ℕ) → Searched IsUnfit u n [] v → IsUnfit words → w.found ≡ v.found ++ words_of n words → Searched IsUnfit u (n + 1) [] w
  unfolding searched_then
  searched_more u v w n words h is e = let p : List (List ℕ) = h.below ++ words ∷ [] in let t = searched_then u v w n words h e in record {
    below = p;
    count = length-append h.below (words ∷ []) ∙ (let z = h.count in omega arith);
    unfit = All-append IsUnfit h.below (words ∷ []) h.unfit (all_one IsUnfit words is);
    found = t.found ∙ ap (λ (l : List FoundWord). u.found ++ l) (sym (found_more 0 h.below words n (let z = h.count in omega arith)) ∙ sym (append-nil (found_of 0 p)));
  }

-- ---- a client takes its session

module _ {S A : Type 0} where
  has_room : (v : View S A) (i : ℕ) (p : PassData S A) → pass_of i v ≡ Some p → i < length v.passes
  has_room v i p e = dite (dec_le (length v.passes) i) (λ past. (let z = get_or_past v.passes i None past in cc)) (λ ne. omega arith)

  pass_now : (v : View S A) (i r : ℕ) (p : PassData S A) (q : Option (PassData S A)) → pass_of i v ≡ Some p → pass_of i (with_pass (with_found v i r) i q) ≡ q
  pass_now v i r p q e = get_or-set_same v.passes i q None (has_room v i p e)

  others_now : (v : View S A) (i r : ℕ) (q : Option (PassData S A)) → Others v i (with_pass (with_found v i r) i q)
  others_now v i r q k n = get_or-set_other v.passes i k q None n

  -- the pass is the one that was there, and its session is out
  pub is_out : (v w : View S A) (i : ℕ) (Holds : PassData S A → S → Type 0) (p : PassData S A) (x : S) → i < slots → pass_of i w ≡ Some (pass_out p x) → Holds (pass_out p x) x → HasOut w i Holds
  is_out v w i Holds p x inside e h = record { pass = pass_out p x; session = x; inside = inside; there = e; out = refl; holds = h }

module _ {S A : Type 0} (At : A → S → Type 0) (over : S → Bool) where
  -- a client's session is out with it
  pub record Took (m : Seat S A) (i : ℕ) (p : PassData S A) (r : ℕ) (n : Seat S A) : Type 0 where
    pub session : S
    pub took : TookOut At over m.0 i p r session n.0
    pub holds : n.1 ≡ (i, Some session) ∷ m.1

  took_once : (m : Seat S A) (i r : ℕ) (p : PassData S A) (n : Seat S A) → pass_of i m.0 ≡ Some p → TakesOwn At over i p m r n → Took m i p r n
  took_once m i r p n mine t = let x = t.session in let e = t.after in record {
    session = x;
    took = record {
      fits = t.fits;
      is = t.is;
      now = ap (λ (z : Seat S A). pass_of i z.0) e ∙ pass_now m.0 i r p (Some (pass_out p x)) mine;
      others = λ k ne. ap (λ (z : Seat S A). pass_of k z.0) e ∙ others_now m.0 i r (Some (pass_out p x)) k ne;
      found = finds_one m.0 n.0 i r (ap (λ (z : Seat S A). z.0.found) e);
      handed = ap (λ (z : Seat S A). z.0.handed) e;
    };
    holds = ap (λ (z : Seat S A). z.1) e;
  }

  -- from the word that was expected
  pub took_expected : (m : Seat S A) (i old : ℕ) (n : Seat S A) (r : ℕ) → r ≡ old → taken At over (step slots i old with_client none) m r n → (p : PassData S A) → pass_of i m.0 ≡ Some p → Took m i p r n
  took_expected m i old n r hit t p mine = took_once m i r p n mine ((t p mine).0 hit)

  -- a worker has it
  pub took_nothing : (m : Seat S A) (i : ℕ) (n : Seat S A) (p : PassData S A) (r : ℕ) → pass_of i m.0 ≡ Some p → r ≡ with_worker → taken At over (step slots i ready with_client none) m r n → Missed m.0 i n.0 × (n.1 ≡ m.1)
  took_nothing m i n p r mine is t = let e : n ≡ (with_found m.0 i r, m.1) = ((t p mine).1 (λ z. omega arith)).busy is in (
    record {
      same = ap (λ (z : Seat S A). pass_of i z.0) e;
      others = λ k ne. ap (λ (z : Seat S A). pass_of k z.0) e;
      found = finds_one m.0 n.0 i with_worker (ap (λ (z : Seat S A). z.0.found) e ∙ ap (λ (k : ℕ). m.0.found ++ found_word i k ∷ []) is);
      handed = ap (λ (z : Seat S A). z.0.handed) e;
    },
    ap (λ (z : Seat S A). z.1) e,
  )

  -- the word stays, and the client knows it
  pub record Stood (m : Seat S A) (i r : ℕ) (p : PassData S A) (n : Seat S A) : Type 0 where
    pub seat : n ≡ (with_pass (with_found m.0 i r) i (Some (pass_stood p r)), m.1)
    pub low : free < r
    pub high : r < with_client

  pub stood_now : (m : Seat S A) (i r : ℕ) (p : PassData S A) (n : Seat S A) → pass_of i m.0 ≡ Some p → r ≢ with_worker → r ≢ ready → taken At over (step slots i ready with_client none) m r n → Stood m i r p n
  stood_now m i r p n mine a b t = let u = (t p mine).1 b in record { seat = u.stays a; low = u.taken; high = (let y = u.absent in let z = u.most in omega arith) }

  pub stood_pass : (m : Seat S A) (i r : ℕ) (p : PassData S A) (n : Seat S A) → pass_of i m.0 ≡ Some p → Stood m i r p n → pass_of i n.0 ≡ Some (pass_stood p r)
  stood_pass m i r p n mine s = ap (λ (z : Seat S A). pass_of i z.0) s.seat ∙ pass_now m.0 i r p (Some (pass_stood p r)) mine

  -- from the word that it knows
  pub took_stood : (m : Seat S A) (i r : ℕ) (n o : Seat S A) (again : ℕ) → r ≢ with_worker → r ≢ ready → taken At over (step slots i ready with_client none) m r n → taken At over (step slots i r with_client none) n again o → (p : PassData S A) → pass_of i m.0 ≡ Some p → Took m i p r o
  took_stood m i r n o again a b t u p mine =
      let s : Stood m i r p n = stood_now m i r p n mine a b t in let q : PassData S A = pass_stood p r in let here : pass_of i n.0 ≡ Some q = stood_pass m i r p n mine s in
      dite (ℕ_discrete again r)
      (λ hit. let z : Took n i q r o = subst (λ (k : ℕ). Took n i q k o) hit (took_once n i again q o here ((u q here).0 hit)) in
      let x = z.session in let k = z.took in let f = k.found in record {
        session = x;
        took = record {
          fits = k.fits;
          is = k.is;
          now = k.now;
          others = λ j ne. k.others j ne ∙ (ap (λ (y : Seat S A). pass_of j y.0) s.seat ∙ others_now m.0 i r (Some q) j ne);
          found = record {
            before = found_word i r ∷ f.before;
            after = f.after;
            found = f.found ∙ (ap (λ (y : Seat S A). y.0.found ++ (f.before ++ found_word i r ∷ f.after)) s.seat ∙ append_assoc m.0.found (found_word i r ∷ []) (f.before ++ found_word i r ∷ f.after));
          };
          handed = k.handed ∙ ap (λ (y : Seat S A). y.0.handed) s.seat;
        };
        holds = z.holds ∙ ap (λ (y : Seat S A). (i, Some x) ∷ y.1) s.seat;
      })
      (λ miss. absurd (((u q here).1 miss).stood refl))

-- ---- plain exchanges in the slot that a seat took last

module _ {S A : Type 0} where
  -- the seat after an exchange
  pub put_in : (m n : Seat S A) (i : ℕ) (y z : Option S) (more : Held S) → m.1 ≡ (i, y) ∷ more → n ≡ (m.0, (i, z) ∷ rest m.1) → n ≡ (m.0, (i, z) ∷ more)
  put_in m n i y z more held e = e ∙ ap (λ (l : Held S). (m.0, (i, z) ∷ rest l)) held

  -- the seat after a slot was emptied and filled again
  pub put_twice : (m n o : Seat S A) (i : ℕ) (x y z : Option S) → m.1 ≡ (i, x) ∷ [] → n ≡ (m.0, (i, y) ∷ rest m.1) → o ≡ (n.0, (i, z) ∷ rest n.1) → o ≡ (m.0, (i, z) ∷ [])
  put_twice m n o i x y z held e f = let g : n ≡ (m.0, (i, y) ∷ []) = put_in m n i x y [] held e in
      put_in n o i y z [] (ap (λ (s : Seat S A). s.1) g) f ∙ ap (λ (s : Seat S A). (s.0, (i, z) ∷ [])) g

  held_now : (m : Seat S A) (v : View S A) (i : ℕ) (x : S) → m ≡ (v, (i, Some x) ∷ []) → m.1 ≡ (i, Some x) ∷ rest m.1
  held_now m v i x e = ap (λ (z : Seat S A). z.1) e ∙ ap (λ (z : Seat S A). (i, Some x) ∷ rest z.1) (sym e)

  -- ---- a client gives its session back, claims a slot, frees one

  pub gave_now : (back : A → S → A) (Made : S → S → Type 0) (m n : Seat S A) (v : View S A) (i new : ℕ) (p : PassData S A) (y x : S) → m ≡ (v, (i, Some x) ∷ []) → pass_of i v ≡ Some p → p.out ≡ Some y → given back Made (step slots i new 0 none) m new n
      → GaveBack back v i x new n.0 × (n.1 ≡ [])
  gave_now back Made m n v i new p y x e mine out t =
      let here : pass_of i m.0 ≡ Some p = ap (λ (z : Seat S A). pass_of i z.0) e ∙ mine in
      let s = (t p y x here out (held_now m v i x e)).1 in let now : Option (PassData S A) = Some (pass_in (back p.account x) new) in (
        record {
          now = λ q there. ap (λ (z : Seat S A). pass_of i z.0) s ∙ (get_or-set_same m.0.passes i now None (has_room m.0 i p here)
              ∙ ap (λ (z : PassData S A). Some (pass_in (back z.account x) new)) (one_of (pass_of i v) p q mine there));
          handed = λ q u there gone.
              let was : y ≡ u = one_of p.out y u out (ap (λ (z : PassData S A). z.out) (one_of (pass_of i v) p q mine there) ∙ gone) in
              ap (λ (z : Seat S A). z.0.handed) s ∙ (ap (λ (z : Seat S A). z.0.handed ++ handing i y x new ∷ []) e ∙ ap (λ (z : S). v.handed ++ handing i z x new ∷ []) was);
          others = λ k ne. ap (λ (z : Seat S A). pass_of k z.0) s ∙ (get_or-set_other m.0.passes i k now None ne ∙ ap (λ (z : Seat S A). pass_of k z.0) e);
          found = ap (λ (z : Seat S A). z.0.found) s ∙ ap (λ (z : Seat S A). z.0.found) e;
        },
        ap (λ (z : Seat S A). z.1) s ∙ ap (λ (z : Seat S A). rest z.1) e,
      )

  -- the client has claimed the slot, and some content is out
  pub record HasClaimed (new : S → A) (m : Seat S A) (i : ℕ) (x : S) (n : Seat S A) : Type 0 where
    pub claimed : Claimed new m.0 i x n.0
    pub kept : Option S
    pub holds : n.1 ≡ (i, kept) ∷ m.1

  pub claimed_now : (new : S → A) (m n : Seat S A) (i r : ℕ) (offer : Option S) (x : S) → offer ≡ Some x → r ≡ free → claimed new (step slots i free with_client (some offer)) m r n → HasClaimed new m i x n
  claimed_now new m n i r offer x e hit t = let u = t.0 hit x (ap (λ (z : Option S). some z) e) in let now : Option (PassData S A) = Some (new_pass (new x) x) in record {
    claimed = record {
      fresh = u.fresh;
      pass = ap (λ (z : Seat S A). pass_of i z.0) u.after ∙ get_or-set_same m.0.passes i now None u.inside;
      others = λ k ne. ap (λ (z : Seat S A). pass_of k z.0) u.after ∙ get_or-set_other m.0.passes i k now None ne;
      handed = ap (λ (z : Seat S A). z.0.handed) u.after;
    };
    kept = u.kept;
    holds = ap (λ (z : Seat S A). z.1) u.after;
  }

  pub claimed_found : (new : S → A) (m n : Seat S A) (i r : ℕ) (offer : Option S) (x : S) → offer ≡ Some x → claimed new (step slots i free with_client (some offer)) m r n → n.0.found ≡ m.0.found ++ words_of i (r ∷ [])
  claimed_found new m n i r offer x e t = dite (ℕ_discrete r free) (λ hit. ap (λ (z : Seat S A). z.0.found) (t.0 hit x (ap (λ (z : Option S). some z) e)).after) (λ miss. ap (λ (z : Seat S A). z.0.found) (t.1 miss))

  pub freed_now : (m n : Seat S A) (v : View S A) (i r : ℕ) (x : S) (p : PassData S A) → m ≡ (v, (i, Some x) ∷ []) → pass_of i v ≡ Some p → freed (step slots i free 0 none) m r n → Freed v i n.0 × (n.1 ≡ [])
  freed_now m n v i r x p e mine s = let here : pass_of i m.0 ≡ Some p = ap (λ (z : Seat S A). pass_of i z.0) e ∙ mine in (
    record {
      gone = ap (λ (z : Seat S A). pass_of i z.0) s ∙ get_or-set_same m.0.passes i None None (has_room m.0 i p here);
      others = λ k ne. ap (λ (z : Seat S A). pass_of k z.0) s ∙ (get_or-set_other m.0.passes i k None None ne ∙ ap (λ (z : Seat S A). pass_of k z.0) e);
      found = ap (λ (z : Seat S A). z.0.found) s ∙ ap (λ (z : Seat S A). z.0.found) e;
      handed = ap (λ (z : Seat S A). z.0.handed) s ∙ ap (λ (z : Seat S A). z.0.handed) e;
    },
    ap (λ (z : Seat S A). z.1) s ∙ ap (λ (z : Seat S A). rest z.1) e,
  )

  -- ---- a seat that only looked

  pub looked_same : (m n : Seat S A) (i r : ℕ) → n ≡ (with_found m.0 i r, m.1) → HasSame m.0 n.0
  looked_same m n i r e = record { passes = ap (λ (z : Seat S A). z.0.passes) e; handed = ap (λ (z : Seat S A). z.0.handed) e }

  pub same_on : (u v w : View S A) → HasSame u v → HasSame v w → HasSame u w
  same_on u v w a b = record { passes = b.passes ∙ a.passes; handed = b.handed ∙ a.handed }

  pub same_itself : (v : View S A) → HasSame v v
  same_itself v = record { passes = refl; handed = refl }

  -- ---- a worker

  pub stole_now : (over : S → Bool) (m n : Seat S A) (i r : ℕ) → i < slots → m.1 ≡ [] → r ≡ ready → stolen over (step slots i ready with_worker none) m r n → HasNoted over n i × HasSame m.0 n.0
  stole_now over m n i r inside bare hit t = let u = t.0 hit in let x = u.session in (
    record {
      inside = inside;
      session = x;
      running = u.running;
      note = ap (λ (z : Seat S A). note_of i z.0) u.after ∙ get_or-set_same m.0.notes i (Some x) None u.inside;
      holds = ap (λ (z : Seat S A). z.1) u.after ∙ ap (λ (l : Held S). (i, Some x) ∷ l) bare;
    },
    record { passes = ap (λ (z : Seat S A). z.0.passes) u.after; handed = ap (λ (z : Seat S A). z.0.handed) u.after },
  )

  pub stole_found : (over : S → Bool) (m n : Seat S A) (i r : ℕ) → stolen over (step slots i ready with_worker none) m r n → n.0.found ≡ m.0.found ++ words_of i (r ∷ [])
  stole_found over m n i r t = dite (ℕ_discrete r ready) (λ hit. ap (λ (z : Seat S A). z.0.found) (t.0 hit).after) (λ miss. ap (λ (z : Seat S A). z.0.found) (t.1 miss))

  -- what a worker knows after it gave the session of its note back
  pub record Returned (v : View S A) (i : ℕ) (before after : S) (word : ℕ) (n : Seat S A) : Type 0 where
    pub passes : n.0.passes ≡ v.passes
    pub handed : n.0.handed ≡ v.handed ++ handing i before after word ∷ []
    pub found : n.0.found ≡ v.found
    pub holds : n.1 ≡ []

  pub returned_now : (Made : S → S → Type 0) (m n : Seat S A) (v : View S A) (i new : ℕ) (t x : S) → m ≡ (v, (i, Some x) ∷ []) → note_of i v ≡ Some t → returned Made (step slots i new 0 none) m new n → Returned v i t x new n
  returned_now Made m n v i new t x e mine r =
      let here : note_of i m.0 ≡ Some t = ap (λ (z : Seat S A). note_of i z.0) e ∙ mine in
      let s = (r t x here (held_now m v i x e)).1 in record {
        passes = ap (λ (z : Seat S A). z.0.passes) s ∙ ap (λ (z : Seat S A). z.0.passes) e;
        handed = ap (λ (z : Seat S A). z.0.handed) s ∙ ap (λ (z : Seat S A). z.0.handed ++ handing i t x new ∷ []) e;
        found = ap (λ (z : Seat S A). z.0.found) s ∙ ap (λ (z : Seat S A). z.0.found) e;
        holds = ap (λ (z : Seat S A). z.1) s ∙ ap (λ (z : Seat S A). rest z.1) e;
      }
