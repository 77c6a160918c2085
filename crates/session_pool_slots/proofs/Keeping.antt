-- Each step keeps the rule.
use Rattle.std.proofs.Common.{◌≡◌, ◌≢◌, ◌<◌, ◌⊎◌, ℕ, zero, suc, eqb, Bool, true, false, List, [], ◌∷◌, ◌++◌, length, get_or, set, subst, sym, refl, ap, ◌∙◌, inl, inr, ⊎_elim, arith, Option, Some, None, length-set, get_or-set_other, get_or-set_same, replicate}
use Rattle.std.proofs.lemmas.List.{length-map, length-replicate, get_or-replicate, get_or_past}
use mathlib.Core.Logic.{dite}
use mathlib.Core.Option as plain
use mathlib.Core.Option.{none, some, some-ne-none}
use native.Mathlib.Decide.{ℕ_discrete, dec_le}
use lib.ListN.{get_elem?}
use prog.Atomic.{either}
use Rattle.atomic_table.specs.Table.{State, step, Act, keeps, takes, gives, Valid, carried_after, stepped, opening, Allows, Splits}
use Rattle.atomic_table.proofs.Lists.{at_set, at_snoc, at_map, at_index, set_here, set_else, set_again, exchanged}
use Rattle.session_pool_slots.specs.Words.{IsWordOf, free, ready, slots, with_client, with_worker}
use Rattle.session_pool_slots.specs.Views.{PassData, View, blank, note_of, pass_of, vacant, with_found, with_handed, with_note, with_pass}
use Rattle.session_pool_slots.specs.Rule.{IsFree, IsHome, IsInOrder, Nobody, Place, Sole, Stands, look, notes_at, passes_at, stands_free, stands_home, stands_with_client, stands_with_worker}
use Rattle.session_pool_slots.specs.Steps.{Seat, TakesOwn, claimed, freed, given, handing, looked, new_pass, pass_in, pass_out, pass_stood, returned, stolen, taken}
use Rattle.session_pool_slots.proofs.Seats.{look_at, look_set, look_else, look_same, look_new, sole_as, sole_set, nobody_as, nobody_set, sole_first, sole_is, sole_of}

abbrev Maybe : Type 0 → Type 0
Maybe = plain.Option

module _ {S A : Type 0} (At : A → S → Type 0) (over : S → Bool) where
  abbrev St : Type 0
  St = State (Option S) (View S A)

  abbrev table : List ℕ → List (Maybe (Option S)) → List (View S A) → St
  table ws hs vs = record { words = ws; homes = hs; views = vs }

  abbrev word_at : St → ℕ → ℕ
  word_at s i = get_or s.words i 0

  -- the state of the slot i
  abbrev Here : St → ℕ → Type 0
  Here s i = Stands At over (word_at s i) (get_elem? s.homes i) (passes_at s.views i) (notes_at s.views i)

  -- a slot keeps its state where each seat has for it what it had
  stands_as : (w : ℕ) (h : Place S) (P Q : ℕ → Option (PassData S A)) (T U : ℕ → Option S) → ((j : ℕ) → Q j ≡ P j) → ((j : ℕ) → U j ≡ T j) → Stands At over w h P T → Stands At over w h Q U
  stands_as w h P Q T U p t s = subst (λ (R : ℕ → Option (PassData S A)). Stands At over w h R U) (λ k j. sym (p j) k) (subst (λ (R : ℕ → Option S). Stands At over w h P R) (λ k j. sym (t j) k) s)

  -- of the slots but this one the two views have the same
  record SameElse (i : ℕ) (v w : View S A) : Type 0 where
    pub passes : (r : ℕ) → r ≢ i → pass_of r w ≡ pass_of r v
    pub notes : (r : ℕ) → r ≢ i → note_of r w ≡ note_of r v
    pub passes_long : length w.passes ≡ length v.passes
    pub notes_long : length w.notes ≡ length v.notes

  -- a step at the slot i by the seat id
  moved : (s : St) → IsInOrder At over s → (i id : ℕ) (v w : View S A) (ws : List ℕ) (hs : List (Maybe (Option S))) → get_elem? s.views id ≡ some v
      → length ws ≡ length s.words → length hs ≡ length s.homes
      → ((r : ℕ) → r ≢ i → get_or ws r 0 ≡ get_or s.words r 0) → ((r : ℕ) → r ≢ i → get_elem? hs r ≡ get_elem? s.homes r)
      → SameElse i v w → Here (table ws hs (set s.views id w)) i
      → IsInOrder At over (table ws hs (set s.views id w))
  moved s k i id v w ws hs me wl hl wo ho same here = record {
    words = wl ∙ k.words;
    places = hl ∙ k.places;
    each = λ r h. dite (ℕ_discrete r i)
        (λ e. subst (λ (x : ℕ). Here (table ws hs (set s.views id w)) x) (sym e) here)
        (λ n. subst (λ (x : ℕ). Stands At over x (get_elem? hs r) (passes_at (set s.views id w) r) (notes_at (set s.views id w) r)) (sym (wo r n))
        (subst (λ (x : Place S). Stands At over (word_at s r) x (passes_at (set s.views id w) r) (notes_at (set s.views id w) r)) (sym (ho r n))
        (stands_as (word_at s r) (get_elem? s.homes r) (passes_at s.views r) (passes_at (set s.views id w) r) (notes_at s.views r) (notes_at (set s.views id w) r)
        (look_same (pass_of r) None s.views id v w me (same.passes r n)) (look_same (note_of r) None s.views id v w me (same.notes r n)) (k.each r h))));
    rows = λ j u e. ⊎_elim (λ (t : (j ≡ id) × (w ≡ u)). let z = k.rows id v me in subst (λ (x : View S A). (length x.passes ≡ slots) × (length x.notes ≡ slots)) t.1 (same.passes_long ∙ z.0, same.notes_long ∙ z.1)) (λ (t : (j ≢ id) × (get_elem? s.views j ≡ some u)). k.rows j u t.1) (at_set s.views id j w u e);
  }

  same_pass : (v w : View S A) (i : ℕ) (p : Option (PassData S A)) → w.passes ≡ set v.passes i p → w.notes ≡ v.notes → SameElse i v w
  same_pass v w i p e f = record {
    passes = λ r n. ap (λ (l : List (Option (PassData S A))). get_or l r None) e ∙ get_or-set_other v.passes i r p None n;
    notes = λ r n. ap (λ (l : List (Option S)). get_or l r None) f;
    passes_long = ap (λ (l : List (Option (PassData S A))). length l) e ∙ length-set v.passes i p;
    notes_long = ap (λ (l : List (Option S)). length l) f;
  }

  same_note : (v w : View S A) (i : ℕ) (t : Option S) → w.passes ≡ v.passes → w.notes ≡ set v.notes i t → SameElse i v w
  same_note v w i t e f = record {
    passes = λ r n. ap (λ (l : List (Option (PassData S A))). get_or l r None) e;
    notes = λ r n. ap (λ (l : List (Option S)). get_or l r None) f ∙ get_or-set_other v.notes i r t None n;
    passes_long = ap (λ (l : List (Option (PassData S A))). length l) e;
    notes_long = ap (λ (l : List (Option S)). length l) f ∙ length-set v.notes i t;
  }

  -- what the seat id has for the slot i, whose view v becomes w
  module _ (s : St) (k : IsInOrder At over s) (i id : ℕ) (v w : View S A) (inside : i < slots) (me : get_elem? s.views id ≡ some v) where
    pass_set : (p : Option (PassData S A)) → w.passes ≡ set v.passes i p → passes_at (set s.views id w) i id ≡ p
    pass_set p e = look_set (pass_of i) None s.views id v w me ∙ (ap (λ (l : List (Option (PassData S A))). get_or l i None) e ∙ get_or-set_same v.passes i p None (let z = (k.rows id v me).0 in omega arith))

    note_set : (t : Option S) → w.notes ≡ set v.notes i t → notes_at (set s.views id w) i id ≡ t
    note_set t e = look_set (note_of i) None s.views id v w me ∙ (ap (λ (l : List (Option S)). get_or l i None) e ∙ get_or-set_same v.notes i t None (let z = (k.rows id v me).1 in omega arith))

    passes_else : (j : ℕ) → j ≢ id → passes_at (set s.views id w) i j ≡ passes_at s.views i j
    passes_else j n = look_else (pass_of i) None s.views id w j n

    notes_else : (j : ℕ) → j ≢ id → notes_at (set s.views id w) i j ≡ notes_at s.views i j
    notes_else j n = look_else (note_of i) None s.views id w j n

    notes_same : w.notes ≡ v.notes → (j : ℕ) → notes_at (set s.views id w) i j ≡ notes_at s.views i j
    notes_same e = look_same (note_of i) None s.views id v w me (ap (λ (l : List (Option S)). get_or l i None) e)

    passes_same : w.passes ≡ v.passes → (j : ℕ) → passes_at (set s.views id w) i j ≡ passes_at s.views i j
    passes_same e = look_same (pass_of i) None s.views id v w me (ap (λ (l : List (Option (PassData S A))). get_or l i None) e)

    pass_here : (p : PassData S A) → pass_of i v ≡ Some p → passes_at s.views i id ≡ Some p
    pass_here p e = look_at (pass_of i) None s.views id v me ∙ e

    note_here : (t : S) → note_of i v ≡ Some t → notes_at s.views i id ≡ Some t
    note_here t e = look_at (note_of i) None s.views id v me ∙ e

    -- the word and the content after the step
    word_set : (new : ℕ) → get_or (set s.words i new) i 0 ≡ new
    word_set new = get_or-set_same s.words i new 0 (let z = k.words in omega arith)

    place_set : (h : Maybe (Option S)) → get_elem? (set s.homes i h) i ≡ some h
    place_set h = set_here s.homes i h (let z = k.places in omega arith)

    -- the step leaves the passes of the others, and the notes, or the other way round
    moved_pass : (new : ℕ) (h : Maybe (Option S)) (p : Option (PassData S A)) → w.passes ≡ set v.passes i p → w.notes ≡ v.notes
        → Here (table (set s.words i new) (set s.homes i h) (set s.views id w)) i → IsInOrder At over (table (set s.words i new) (set s.homes i h) (set s.views id w))
    moved_pass new h p e f here = moved s k i id v w (set s.words i new) (set s.homes i h) me (length-set s.words i new) (length-set s.homes i h)
        (λ r ne. get_or-set_other s.words i r new 0 ne) (λ r ne. set_else s.homes i r h ne) (same_pass v w i p e f) here

    moved_note : (new : ℕ) (h : Maybe (Option S)) (t : Option S) → w.passes ≡ v.passes → w.notes ≡ set v.notes i t
        → Here (table (set s.words i new) (set s.homes i h) (set s.views id w)) i → IsInOrder At over (table (set s.words i new) (set s.homes i h) (set s.views id w))
    moved_note new h t e f here = moved s k i id v w (set s.words i new) (set s.homes i h) me (length-set s.words i new) (length-set s.homes i h)
        (λ r ne. get_or-set_other s.words i r new 0 ne) (λ r ne. set_else s.homes i r h ne) (same_note v w i t e f) here

  -- ---- the state of a slot, by what the seat has

  one_pass : (i : ℕ) (v : View S A) (p q : PassData S A) → pass_of i v ≡ Some p → pass_of i v ≡ Some q → p ≡ q
  one_pass i v p q a b = cc

  one_note : (i : ℕ) (v : View S A) (p q : S) → note_of i v ≡ Some p → note_of i v ≡ Some q → p ≡ q
  one_note i v p q a b = cc

  one_session : (i : ℕ) (x y : S) (more others : List (ℕ × Option S)) → (i, Some x) ∷ more ≡ (i, Some y) ∷ others → x ≡ y
  one_session i x y more others e = (let f : Some x ≡ Some y = ap (λ (l : List (ℕ × Option S)). (get_or l 0 (i, None)).1) e in cc)

  one_out : (p q : PassData S A) (x y : S) → p ≡ q → p.out ≡ Some x → q.out ≡ Some y → x ≡ y
  one_out p q x y e a b = (let f : p.out ≡ q.out = ap (λ (z : PassData S A). z.out) e in cc)

  not_true : (b : Bool) → (b ≡ true → ⊥) → b ≡ false
  not_true true n = absurd (n refl)
  not_true false n = refl

  module _ (w : ℕ) (h : Place S) (P : ℕ → Option (PassData S A)) (T : ℕ → Option S) where
    -- a client whose pass says that its session is out has the slot
    record Out (id : ℕ) (p : PassData S A) : Type 0 where
      pub away : h ≡ some none
      pub sole : Sole P id p
      pub bare : Nobody T

    out_case : (id : ℕ) (p : PassData S A) (y : S) → Stands At over w h P T → P id ≡ Some p → p.out ≡ Some y → Out id p
    out_case id p y (stands_free f) e o = (let z = f.unowned id in cc)
    out_case id p y (stands_home f) e o = (let z = ap (λ (y : PassData S A). y.out) (sole_is P f.owner id f.pass p f.owned e).1 in let u = f.home in cc)
    out_case id p y (stands_with_client f) e o = record { away = f.here; sole = sole_of P f.owner id f.pass p f.owned e; bare = f.unnoted }
    out_case id p y (stands_with_worker f) e o = (let z = ap (λ (y : PassData S A). y.out) (sole_is P f.owner id f.pass p f.owned e).1 in let u = f.home in cc)

    -- a client whose pass says that its session is not out: it is at home, or a worker has it
    record Home (id : ℕ) (p : PassData S A) : Type 0 where
      pub session : S
      pub is : IsWordOf (over session) w
      pub here : h ≡ some (some (Some session))
      pub sole : Sole P id p
      pub bare : Nobody T
      pub fits : At p.account session
      pub stood : (p.stood ≡ free) ⊎ ((p.stood ≡ w) × (w ≢ ready))

    record Away (p : PassData S A) : Type 0 where
      pub word : w ≡ with_worker
      pub stood : p.stood ≡ free

    in_case : (id : ℕ) (p : PassData S A) → Stands At over w h P T → P id ≡ Some p → p.out ≡ None → Home id p ⊎ Away p
    in_case id p (stands_free f) e o = (let z = f.unowned id in cc)
    in_case id p (stands_home f) e o = let same : f.pass ≡ p = (sole_is P f.owner id f.pass p f.owned e).1 in
        inl (record {
          session = f.session;
          is = f.is;
          here = f.here;
          sole = sole_of P f.owner id f.pass p f.owned e;
          bare = f.unnoted;
          fits = subst (λ (y : PassData S A). At y.account f.session) same f.fits;
          stood = subst (λ (y : PassData S A). (y.stood ≡ free) ⊎ ((y.stood ≡ w) × (w ≢ ready))) same f.stood;
        })
    in_case id p (stands_with_client f) e o = (let z = ap (λ (y : PassData S A). y.out) (sole_is P f.owner id f.pass p f.owned e).1 in let u = f.out in cc)
    in_case id p (stands_with_worker f) e o = let same : f.pass ≡ p = (sole_is P f.owner id f.pass p f.owned e).1 in
        inr (record { word = f.is; stood = subst (λ (y : PassData S A). y.stood ≡ free) same f.stood })

    free_case : Stands At over w h P T → w ≡ free → IsFree w h P T
    free_case (stands_free f) z = f
    free_case (stands_home f) z = (let a = f.is.0 in absurd (omega arith))
    free_case (stands_with_client f) z = (let a = f.is in absurd (omega arith))
    free_case (stands_with_worker f) z = (let a = f.is in absurd (omega arith))

    -- a session that is ready has not ended
    record Ready (f : IsHome w h P T At over) : Type 0 where
      pub running : over f.session ≡ false
      pub stood : f.pass.stood ≡ free

    ready_case : Stands At over w h P T → w ≡ ready → (f : IsHome w h P T At over) × Ready f
    ready_case (stands_free f) z = (let a = f.is in absurd (omega arith))
    ready_case (stands_home f) z = (f, record { running = not_true (over f.session) (λ e. let y = f.is.2.0 e in omega arith); stood = ⊎_elim (λ (y : f.pass.stood ≡ free). y) (λ (y : (f.pass.stood ≡ w) × (w ≢ ready)). absurd (y.1 z)) f.stood })
    ready_case (stands_with_client f) z = (let a = f.is in absurd (omega arith))
    ready_case (stands_with_worker f) z = (let a = f.is in absurd (omega arith))

    -- a worker that has a note of a slot has the slot
    record Worked (id : ℕ) (t : S) : Type 0 where
      pub owner : ℕ
      pub pass : PassData S A
      pub sole : Sole P owner pass
      pub noted : Sole T id t
      pub fits : At pass.account t
      pub inside : pass.out ≡ None
      pub stood : pass.stood ≡ free

    worker_case : (id : ℕ) (t : S) → Stands At over w h P T → T id ≡ Some t → Worked id t
    worker_case id t (stands_free f) e = (let z = f.unnoted id in cc)
    worker_case id t (stands_home f) e = (let z = f.unnoted id in cc)
    worker_case id t (stands_with_client f) e = (let z = f.unnoted id in cc)
    worker_case id t (stands_with_worker f) e = let same : f.note ≡ t = (sole_is T f.worker id f.note t f.noted e).1 in
        record { owner = f.owner; pass = f.pass; sole = f.owned; noted = sole_of T f.worker id f.note t f.noted e; fits = subst (λ (y : S). At f.pass.account y) same f.fits; inside = f.home; stood = f.stood }

  -- ---- any seat

  -- the word and the content stay, and the seat's view changes only in what it found
  looks : (s : St) → IsInOrder At over s → (id : ℕ) (v : View S A) (i r : ℕ) → i < slots → get_elem? s.views id ≡ some v → IsInOrder At over (table (set s.words i (word_at s i)) s.homes (set s.views id (with_found v i r)))
  looks s k id v i r inside me = let w : View S A = with_found v i r in let P = passes_at s.views i in let T = notes_at s.views i in
      moved s k i id v w (set s.words i (word_at s i)) s.homes me (length-set s.words i (word_at s i)) refl
      (λ x ne. get_or-set_other s.words i x (word_at s i) 0 ne) (λ x ne. refl) (record { passes = λ x n. refl; notes = λ x n. refl; passes_long = refl; notes_long = refl })
      (subst (λ (x : ℕ). Stands At over x (get_elem? s.homes i) (passes_at (set s.views id w) i) (notes_at (set s.views id w) i)) (sym (word_set s k i id v w inside me (word_at s i)))
      (stands_as (word_at s i) (get_elem? s.homes i) P (passes_at (set s.views id w) i) T (notes_at (set s.views id w) i) (passes_same s k i id v w inside me refl) (notes_same s k i id v w inside me refl) (k.each i inside)))

  pub looks_at : (n id : ℕ) (m : Seat S A) (i : ℕ) → i < slots → Allows (IsInOrder At over) n id m i (λ r. r) (looked (step n i 0 0 none) m)
  looks_at n id m i inside s k wide me small = (with_found m.0 i (word_at s i), keeps, tt, looks s k id m.0 i (word_at s i) inside me, refl)

  -- what a step may do that makes the word `new`
  abbrev Went : St → ℕ → ℕ → Seat S A → (ℕ → Seat S A → Type 0) → ℕ → Type 0
  Went s i id m then new = (w : View S A) × (a : Act (Option S)) × Valid s.homes m.1 a × IsInOrder At over (stepped s i new id m.1 w a) × then (word_at s i) (w, carried_after m.1 a)

  -- ---- clients

  -- a client claims a free slot
  claims : (new : S → A) (n id : ℕ) (v : View S A) (i : ℕ) (x : S) (more : List (ℕ × Option S)) → i < slots
      → Allows (IsInOrder At over) n id (v, more) i (λ r. either (eqb r free) with_client r) (claimed new (step n i free with_client (some (Some x))) (v, more))
  claims new n id v i x more inside s k wide me small =
      let m : Seat S A = (v, more) in let r : ℕ = word_at s i in let then : ℕ → Seat S A → Type 0 = claimed new (step n i free with_client (some (Some x))) m in let P = passes_at s.views i in let T = notes_at s.views i in
      exchanged r free with_client (Went s i id m then)
      (λ hit. let f : IsFree r (get_elem? s.homes i) P T = free_case r (get_elem? s.homes i) P T (k.each i inside) hit in
      let q : PassData S A = new_pass (new x) x in let w : View S A = with_pass (with_found v i r) i (Some q) in (
        w,
        takes i f.kept,
        f.here,
        moved_pass s k i id v w inside me with_client none (Some q) refl refl
            (stands_with_client (record {
              owner = id;
              pass = q;
              session = x;
              is = word_set s k i id v w inside me with_client;
              here = place_set s k i id v w inside me none;
              owned = sole_first P (passes_at (set s.views id w) i) id (passes_else s k i id v w inside me) q f.unowned (pass_set s k i id v w inside me (Some q) refl);
              unnoted = nobody_as T (notes_at (set s.views id w) i) (notes_same s k i id v w inside me refl) f.unnoted;
              out = refl;
              stood = refl;
            })),
        (
          λ _ y told. record {
            inside = (let z = (k.rows id v me).0 in omega arith);
            fresh = sym (look_at (pass_of i) None s.views id v me) ∙ f.unowned id;
            kept = f.kept;
            after = (let e : x ≡ y = (cc) in λ j. (with_pass (with_found v i r) i (Some (new_pass (new (e j)) (e j))), (i, f.kept) ∷ more));
          },
          λ miss. absurd (miss hit),
        ),
      ))
      (λ miss. (with_found v i r, keeps, tt, looks s k id v i r inside me, (λ hit. absurd (miss hit), λ _. refl)))

  pub claims_at : (new : S → A) (n id : ℕ) (m : Seat S A) (i : ℕ) (offer : Option S) (x : S) → offer ≡ Some x → i < slots
      → Allows (IsInOrder At over) n id m i (λ r. either (eqb r free) with_client r) (claimed new (step n i free with_client (some offer)) m)
  claims_at new n id m i offer x e inside = subst (λ (z : Option S). Allows (IsInOrder At over) n id m i (λ r. either (eqb r free) with_client r) (claimed new (step n i free with_client (some z)) m)) (sym e) (claims new n id m.0 i x m.1 inside)

  -- a client gives its session back
  gives_back : (back : A → S → A) (Made : S → S → Type 0) (n id : ℕ) (v : View S A) (i new : ℕ) (p : PassData S A) (y x : S) (more : List (ℕ × Option S)) → i < slots → pass_of i v ≡ Some p → p.out ≡ Some y
      → At (back p.account x) x → Made y x → IsWordOf (over x) new
      → Allows (IsInOrder At over) n id (v, (i, Some x) ∷ more) i (λ _. new) (λ _. given back Made (step n i new 0 none) (v, (i, Some x) ∷ more) new)
  gives_back back Made n id v i new p y x more inside mine out fits made is s k wide me _ =
      let q : PassData S A = pass_in (back p.account x) new in let w : View S A = with_handed (with_pass v i (Some q)) (handing i y x new) in
      let P = passes_at s.views i in let T = notes_at s.views i in
      let had : Out (word_at s i) (get_elem? s.homes i) P T id p = out_case (word_at s i) (get_elem? s.homes i) P T id p y (k.each i inside) (pass_here s k i id v w inside me p mine) out in (
        w,
        gives,
        tt,
        moved_pass s k i id v w inside me new (some (Some x)) (Some q) refl refl
            (stands_home (record {
              owner = id;
              pass = q;
              session = x;
              is = subst (λ (z : ℕ). IsWordOf (over x) z) (sym (word_set s k i id v w inside me new)) is;
              here = place_set s k i id v w inside me (some (Some x));
              owned = sole_set P (passes_at (set s.views id w) i) id (passes_else s k i id v w inside me) p q had.sole (pass_set s k i id v w inside me (Some q) refl);
              unnoted = nobody_as T (notes_at (set s.views id w) i) (notes_same s k i id v w inside me refl) had.bare;
              fits = fits;
              home = refl;
              stood = inl refl;
            })),
        λ p' y' x' mine' out' took.
            let e : p ≡ p' = one_pass i v p p' mine mine' in
            let f : x ≡ x' = one_session i x x' more more took in
            let g : y ≡ y' = one_out p p' y y' e out out' in
            (subst (λ (z : S). Made z x') g (subst (λ (z : S). Made y z) f made), λ j. (with_handed (with_pass v i (Some (pass_in (back (e j).account (f j)) new))) (handing i (g j) (f j) new), more)),
      )

  pub gives_back_at : (back : A → S → A) (Made : S → S → Type 0) (n id : ℕ) (m : Seat S A) (v : View S A) (i new : ℕ) (p : PassData S A) (y x : S) (more : List (ℕ × Option S)) → m ≡ (v, (i, Some x) ∷ more) → i < slots → pass_of i v ≡ Some p → p.out ≡ Some y
      → At (back p.account x) x → Made y x → IsWordOf (over x) new
      → Allows (IsInOrder At over) n id m i (λ _. new) (λ _. given back Made (step n i new 0 none) m new)
  gives_back_at back Made n id m v i new p y x more at inside mine out fits made is =
      subst (λ (z : Seat S A). Allows (IsInOrder At over) n id z i (λ _. new) (λ _. given back Made (step n i new 0 none) z new)) (sym at) (gives_back back Made n id v i new p y x more inside mine out fits made is)

  -- a client frees its slot, which keeps whatever the client puts there
  frees : (n id : ℕ) (v : View S A) (i : ℕ) (p : PassData S A) (y : S) (kept : Option S) (more : List (ℕ × Option S)) → i < slots → pass_of i v ≡ Some p → p.out ≡ Some y
      → Allows (IsInOrder At over) n id (v, (i, kept) ∷ more) i (λ _. free) (λ _. freed (step n i free 0 none) (v, (i, kept) ∷ more) free)
  frees n id v i p y kept more inside mine out s k wide me _ =
      let w : View S A = with_pass v i None in let P = passes_at s.views i in let T = notes_at s.views i in
      let had : Out (word_at s i) (get_elem? s.homes i) P T id p = out_case (word_at s i) (get_elem? s.homes i) P T id p y (k.each i inside) (pass_here s k i id v w inside me p mine) out in (
        w,
        gives,
        tt,
        moved_pass s k i id v w inside me free (some kept) None refl refl
            (stands_free (record {
              is = word_set s k i id v w inside me free;
              kept = kept;
              here = place_set s k i id v w inside me (some kept);
              unowned = nobody_set P (passes_at (set s.views id w) i) id (passes_else s k i id v w inside me) p had.sole (pass_set s k i id v w inside me None refl);
              unnoted = nobody_as T (notes_at (set s.views id w) i) (notes_same s k i id v w inside me refl) had.bare;
            })),
        refl,
      )

  pub frees_at : (n id : ℕ) (m : Seat S A) (v : View S A) (i : ℕ) (p : PassData S A) (y : S) (kept : Option S) (more : List (ℕ × Option S)) → m ≡ (v, (i, kept) ∷ more) → i < slots → pass_of i v ≡ Some p → p.out ≡ Some y
      → Allows (IsInOrder At over) n id m i (λ _. free) (λ _. freed (step n i free 0 none) m free)
  frees_at n id m v i p y kept more at inside mine out = subst (λ (z : Seat S A). Allows (IsInOrder At over) n id z i (λ _. free) (λ _. freed (step n i free 0 none) z free)) (sym at) (frees n id v i p y kept more inside mine out)

  -- a client takes its own session, where it expects `ready` or the word that it found to stay
  abbrev pub MayExpect : ℕ → PassData S A → Type 0
  MayExpect old p = (old ≡ ready) ⊎ ((free < old) × (old < with_client) × (p.stood ≡ old))

  module _ (n id : ℕ) (v : View S A) (i old : ℕ) (p : PassData S A) (more : List (ℕ × Option S)) (said : Maybe (Option S)) (inside : i < slots) (mine : pass_of i v ≡ Some p) (from : MayExpect old p)
      (s : St) (k : IsInOrder At over s) (me : get_elem? s.views id ≡ some v) where
    abbrev mine_then : ℕ → Seat S A → Type 0
    mine_then = taken At over (step n i old with_client said) (v, more)

    -- it finds the word that it expects
    takes_home : Home (word_at s i) (get_elem? s.homes i) (passes_at s.views i) (notes_at s.views i) id p → word_at s i ≡ old → Went s i id (v, more) mine_then with_client
    takes_home h hit =
        let r : ℕ = word_at s i in let P = passes_at s.views i in let T = notes_at s.views i in
        let x : S = h.session in let q : PassData S A = pass_out p x in let w : View S A = with_pass (with_found v i r) i (Some q) in (
          w,
          takes i (Some x),
          h.here,
          moved_pass s k i id v w inside me with_client none (Some q) refl refl
              (stands_with_client (record {
                owner = id;
                pass = q;
                session = x;
                is = word_set s k i id v w inside me with_client;
                here = place_set s k i id v w inside me none;
                owned = sole_set P (passes_at (set s.views id w) i) id (passes_else s k i id v w inside me) p q h.sole (pass_set s k i id v w inside me (Some q) refl);
                unnoted = nobody_as T (notes_at (set s.views id w) i) (notes_same s k i id v w inside me refl) h.bare;
                out = refl;
                stood = refl;
              })),
          λ q' mine'. let e : p ≡ q' = one_pass i v p q' mine mine' in
              (λ _. subst (λ (y : PassData S A). TakesOwn At over i y (v, more) r (w, (i, Some x) ∷ more)) e (record { session = x; fits = h.fits; is = h.is; after = refl }), λ miss. absurd (miss hit)),
        )

    -- it finds another word, which stays
    finds_home : Home (word_at s i) (get_elem? s.homes i) (passes_at s.views i) (notes_at s.views i) id p → p.out ≡ None → word_at s i ≢ old → Went s i id (v, more) mine_then (word_at s i)
    finds_home h home miss =
        let r : ℕ = word_at s i in let P = passes_at s.views i in let T = notes_at s.views i in
        let q : PassData S A = pass_stood p r in let w : View S A = with_pass (with_found v i r) i (Some q) in
        let word : get_or (set s.words i r) i 0 ≡ r = word_set s k i id v w inside me r in
        let apart : p.stood ≢ old = λ z. ⊎_elim (λ (a : p.stood ≡ free). ⊎_elim (λ (y : old ≡ ready). (let b = z in omega arith)) (λ (y : (free < old) × (old < with_client) × (p.stood ≡ old)). (let b = z in omega arith)) from) (λ (a : (p.stood ≡ r) × (r ≢ ready)). miss (sym a.0 ∙ z)) h.stood in
        let unready : r ≢ ready = λ z. ⊎_elim (λ (y : old ≡ ready). miss (z ∙ sym y)) (λ (y : (free < old) × (old < with_client) × (p.stood ≡ old)). apart y.2) from in (
          w,
          keeps,
          tt,
          moved s k i id v w (set s.words i r) s.homes me (length-set s.words i r) refl
              (λ x ne. get_or-set_other s.words i x r 0 ne) (λ x ne. refl) (same_pass v w i (Some q) refl refl)
              (stands_home (record {
                owner = id;
                pass = q;
                session = h.session;
                is = subst (λ (z : ℕ). IsWordOf (over h.session) z) (sym word) h.is;
                here = h.here;
                owned = sole_set P (passes_at (set s.views id w) i) id (passes_else s k i id v w inside me) p q h.sole (pass_set s k i id v w inside me (Some q) refl);
                unnoted = nobody_as T (notes_at (set s.views id w) i) (notes_same s k i id v w inside me refl) h.bare;
                fits = h.fits;
                home = home;
                stood = inr (sym word, λ e. unready (sym word ∙ e));
              })),
          λ q' mine'. let e : p ≡ q' = one_pass i v p q' mine mine' in (
            λ hit. absurd (miss hit),
            λ _. record {
              stood = (λ z. apart (ap (λ (y : PassData S A). y.stood) e ∙ z));
              taken = h.is.0;
              absent = (λ z. let y = h.is.1 in omega arith);
              most = (let y = h.is.1 in omega arith);
              busy = (λ z. absurd (let y = h.is.1 in omega arith));
              stays = λ _ j. (with_pass (with_found v i r) i (Some (pass_stood (e j) r)), more);
            },
          ),
        )

    -- a worker has the session
    finds_away : Away (word_at s i) (get_elem? s.homes i) (passes_at s.views i) (notes_at s.views i) p → word_at s i ≢ old → Went s i id (v, more) mine_then (word_at s i)
    finds_away a miss = let r : ℕ = word_at s i in (
      with_found v i r,
      keeps,
      tt,
      looks s k id v i r inside me,
      λ q' mine'. let e : p ≡ q' = one_pass i v p q' mine mine' in (
        λ hit. absurd (miss hit),
        λ _. record {
          stood = (λ z. let o = a.stood in let b : p.stood ≡ old = ap (λ (y : PassData S A). y.stood) e ∙ z in ⊎_elim (λ (y : old ≡ ready). omega arith) (λ (y : (free < old) × (old < with_client) × (p.stood ≡ old)). omega arith) from);
          taken = (let z = a.word in omega arith);
          absent = (λ z. let y = a.word in omega arith);
          most = (let z = a.word in omega arith);
          busy = (λ _. refl);
          stays = λ z. absurd (z a.word);
        },
      ),
    )

    not_away : Away (word_at s i) (get_elem? s.homes i) (passes_at s.views i) (notes_at s.views i) p → word_at s i ≢ old
    not_away a hit = ⊎_elim (λ (z : old ≡ ready). (let b = a.word in omega arith)) (λ (z : (free < old) × (old < with_client) × (p.stood ≡ old)). (let b = a.word in omega arith)) from

  pub takes_own : (n id : ℕ) (v : View S A) (i old : ℕ) (p : PassData S A) (more : List (ℕ × Option S)) (said : Maybe (Option S)) → i < slots → pass_of i v ≡ Some p → p.out ≡ None → MayExpect old p
      → Allows (IsInOrder At over) n id (v, more) i (λ r. either (eqb r old) with_client r) (taken At over (step n i old with_client said) (v, more))
  takes_own n id v i old p more said inside mine home from s k wide me small =
      let r : ℕ = word_at s i in let P = passes_at s.views i in let T = notes_at s.views i in let H = get_elem? s.homes i in
      let then : ℕ → Seat S A → Type 0 = taken At over (step n i old with_client said) (v, more) in
      let which = in_case r H P T id p (k.each i inside) (pass_here s k i id v v inside me p mine) home in
      exchanged r old with_client (Went s i id (v, more) then)
      (λ hit. ⊎_elim (λ (h : Home r H P T id p). takes_home n id v i old p more said inside mine from s k me h hit) (λ (a : Away r H P T p). absurd (not_away n id v i old p more said inside mine from s k me a hit)) which)
      (λ miss. ⊎_elim (λ (h : Home r H P T id p). finds_home n id v i old p more said inside mine from s k me h home miss) (λ (a : Away r H P T p). finds_away n id v i old p more said inside mine from s k me a miss) which)

  -- ---- workers

  -- a worker takes a ready session
  pub steals : (n id : ℕ) (v : View S A) (i : ℕ) (more : List (ℕ × Option S)) (said : Maybe (Option S)) → i < slots
      → Allows (IsInOrder At over) n id (v, more) i (λ r. either (eqb r ready) with_worker r) (stolen over (step n i ready with_worker said) (v, more))
  steals n id v i more said inside s k wide me small =
      let m : Seat S A = (v, more) in let r : ℕ = word_at s i in let then : ℕ → Seat S A → Type 0 = stolen over (step n i ready with_worker said) m in let P = passes_at s.views i in let T = notes_at s.views i in
      exchanged r ready with_worker (Went s i id m then)
      (λ hit. let c = ready_case r (get_elem? s.homes i) P T (k.each i inside) hit in let h : IsHome r (get_elem? s.homes i) P T At over = c.0 in
      let t : S = h.session in let w : View S A = with_note (with_found v i r) i (Some t) in (
        w,
        takes i (Some t),
        h.here,
        moved_note s k i id v w inside me with_worker none (Some t) refl refl
            (stands_with_worker (record {
              owner = h.owner;
              pass = h.pass;
              worker = id;
              note = t;
              is = word_set s k i id v w inside me with_worker;
              here = place_set s k i id v w inside me none;
              owned = sole_as P (passes_at (set s.views id w) i) (passes_same s k i id v w inside me refl) h.owner h.pass h.owned;
              noted = sole_first T (notes_at (set s.views id w) i) id (notes_else s k i id v w inside me) t h.unnoted (note_set s k i id v w inside me (Some t) refl);
              fits = h.fits;
              home = h.home;
              stood = c.1.stood;
            })),
        (λ _. record { inside = (let z = (k.rows id v me).1 in omega arith); session = t; running = c.1.running; after = refl }, λ miss. absurd (miss hit)),
      ))
      (λ miss. (with_found v i r, keeps, tt, looks s k id v i r inside me, (λ hit. absurd (miss hit), λ _. refl)))

  -- a worker gives back the session of its note, which still fits whatever account the session of the note fits
  returns_it : (Made : S → S → Type 0) (n id : ℕ) (v : View S A) (i new : ℕ) (t x : S) (more : List (ℕ × Option S)) → i < slots → note_of i v ≡ Some t
      → ((a : A) → At a t → At a x) → Made t x → IsWordOf (over x) new
      → Allows (IsInOrder At over) n id (v, (i, Some x) ∷ more) i (λ _. new) (λ _. returned Made (step n i new 0 none) (v, (i, Some x) ∷ more) new)
  returns_it Made n id v i new t x more inside mine fits made is s k wide me _ =
      let w : View S A = with_handed (with_note v i None) (handing i t x new) in let P = passes_at s.views i in let T = notes_at s.views i in
      let had : Worked (word_at s i) (get_elem? s.homes i) P T id t = worker_case (word_at s i) (get_elem? s.homes i) P T id t (k.each i inside) (note_here s k i id v w inside me t mine) in (
        w,
        gives,
        tt,
        moved_note s k i id v w inside me new (some (Some x)) None refl refl
            (stands_home (record {
              owner = had.owner;
              pass = had.pass;
              session = x;
              is = subst (λ (z : ℕ). IsWordOf (over x) z) (sym (word_set s k i id v w inside me new)) is;
              here = place_set s k i id v w inside me (some (Some x));
              owned = sole_as P (passes_at (set s.views id w) i) (passes_same s k i id v w inside me refl) had.owner had.pass had.sole;
              unnoted = nobody_set T (notes_at (set s.views id w) i) id (notes_else s k i id v w inside me) t had.noted (note_set s k i id v w inside me None refl);
              fits = fits had.pass.account had.fits;
              home = had.inside;
              stood = inl had.stood;
            })),
        λ t' x' mine' took. let e : t ≡ t' = one_note i v t t' mine mine' in let f : x ≡ x' = one_session i x x' more more took in
            (subst (λ (z : S). Made z x') e (subst (λ (z : S). Made t z) f made), λ j. (with_handed (with_note v i None) (handing i (e j) (f j) new), more)),
      )

  pub returns_it_at : (Made : S → S → Type 0) (n id : ℕ) (m : Seat S A) (v : View S A) (i new : ℕ) (t x : S) (more : List (ℕ × Option S)) → m ≡ (v, (i, Some x) ∷ more) → i < slots → note_of i v ≡ Some t
      → ((a : A) → At a t → At a x) → Made t x → IsWordOf (over x) new
      → Allows (IsInOrder At over) n id m i (λ _. new) (λ _. returned Made (step n i new 0 none) m new)
  returns_it_at Made n id m v i new t x more at inside mine fits made is =
      subst (λ (z : Seat S A). Allows (IsInOrder At over) n id z i (λ _. new) (λ _. returned Made (step n i new 0 none) z new)) (sym at) (returns_it Made n id v i new t x more inside mine fits made is)

  -- ---- the start

  vacant_at : (A : Type 0) (n r : ℕ) → get_or (vacant {A = A} n) r None ≡ None
  unfolding vacant
  vacant_at A n r = let e : Option A = None in dite (dec_le n r) (λ past. get_or_past (replicate n e) r e (omega (arith, length-replicate n e))) (λ ne. get_or-replicate n r e e (omega arith))

  vacant_long : (A : Type 0) (n : ℕ) → length (vacant {A = A} n) ≡ n
  unfolding vacant
  vacant_long A n = let e : Option A = None in length-replicate n e

  -- a new seat
  pub splits : (id : ℕ) (v : View S A) → Splits (IsInOrder At over) id v v blank
  splits id v s k me = let same : set s.views id v ≡ s.views = set_again s.views id v me in
      subst (λ (l : List (View S A)). IsInOrder At over (table s.words s.homes (l ++ blank ∷ []))) (sym same) (record {
        words = k.words;
        places = k.places;
        each = λ i h. stands_as (word_at s i) (get_elem? s.homes i) (passes_at s.views i) (passes_at (s.views ++ blank ∷ []) i) (notes_at s.views i) (notes_at (s.views ++ blank ∷ []) i)
            (look_new (pass_of i) None s.views blank (vacant_at (PassData S A) slots i)) (look_new (note_of i) None s.views blank (vacant_at S slots i)) (k.each i h);
        rows = λ j u e. ⊎_elim (k.rows j u) (λ (t : blank ≡ u). subst (λ (x : View S A). (length x.passes ≡ slots) × (length x.notes ≡ slots)) t (vacant_long (PassData S A) slots, vacant_long S slots)) (at_snoc s.views blank u j e);
      })

  nobody_yet : {B : Type 0} (f : View S A → Option B) → f blank ≡ None → (j : ℕ) → look f None (get_elem? (blank ∷ []) j) ≡ None
  nobody_yet f e zero = e
  nobody_yet f e (suc j) = refl

  -- the table at the start, each slot of which is free and empty
  pub opens : (ws : List ℕ) (n : ℕ) → n ≡ slots → length ws ≡ slots → ((i : ℕ) → i < slots → get_or ws i 0 ≡ free) → IsInOrder At over (opening ws (replicate n None) blank)
  opens ws n is long zeros = let e : Option S = None in record {
    words = long;
    places = length-map (replicate n e) some ∙ (length-replicate n e ∙ is);
    each = λ i h. stands_free (record {
      is = zeros i h;
      kept = None;
      here = at_map some (replicate n e) i e (at_index (replicate n e) i e (omega (arith, length-replicate n e)) (sym (get_or-replicate n i e e (omega arith))));
      unowned = nobody_yet (pass_of i) (vacant_at (PassData S A) slots i);
      unnoted = nobody_yet (note_of i) (vacant_at S slots i);
    });
    rows = λ j u e. ⊎_elim (λ (x : get_elem? [] j ≡ some u). absurd (some-ne-none u (sym x))) (λ (t : blank ≡ u). subst (λ (x : View S A). (length x.passes ≡ slots) × (length x.notes ≡ slots)) t (vacant_long (PassData S A) slots, vacant_long S slots)) (at_snoc [] blank u j e);
  }
