-- Namespaces, each where it first comes: they only grow, and none comes twice.
use Rattle.std.proofs.Common.{◌≡◌, ◌≤◌, ℕ, zero, suc, ◌+◌, List, [], ◌∷◌, ◌++◌, length, Bool, true, false, cond, ltb, ◌||◌, Some, None, slice_get, refl, sym, ap, subst, ◌∙◌, arith}
use Rattle.std.specs.List.{position_from}
use Rattle.std.specs.Str.{bytes_eq}
use Rattle.std.proofs.lemmas.Bool.{ltb-true, ltb-false}
use Rattle.std.proofs.lemmas.Option.{slice_get_within}
use Rattle.std.proofs.lemmas.Slice.Eq.{bytes_eq-Decides}
use Rattle.spec_avro.specs.FullNames.{namespace_of}
use Rattle.avro_types.specs.Laws.Placed.{place-behind, place-none, or_last, used-push}
use Rattle.spec_schema.specs.Head.{Head, NullHead, BooleanHead, IntHead, LongHead, BytesHead, TextHead, ArrayHead, MapHead, UnionHead, Named, defined_at, defines}
use Rattle.avro_schema_names.specs.Index.{namespaces_after, namespaces_of, with_namespace}
use Rattle.spec_avro.specs.Symbols.{is_used, place_of}
use Rattle.avro_types.specs.Laws.Booleans.{no_true}
use Rattle.avro_schema_names.proofs.DraftLists.{get-front}

-- ---- they only grow

with-keeps : (before : List (List ℕ)) (h : Head) (n : ℕ) (s : List ℕ) → slice_get before n ≡ Some s → slice_get (with_namespace before h) n ≡ Some s
with-keeps before (Named full) n s e = at (is_used (namespace_of full) before)
  where
    at : (b : Bool) → slice_get (cond b before (before ++ namespace_of full ∷ [])) n ≡ Some s
    at true = e
    at false = get-front before (namespace_of full ∷ []) n (slice_get_within before n s e) ∙ e
with-keeps before NullHead n s e = e
with-keeps before BooleanHead n s e = e
with-keeps before IntHead n s e = e
with-keeps before LongHead n s e = e
with-keeps before BytesHead n s e = e
with-keeps before TextHead n s e = e
with-keeps before ArrayHead n s e = e
with-keeps before MapHead n s e = e
with-keeps before UnionHead n s e = e

behind-keeps : (before : List (List ℕ)) (hs : List Head) (n : ℕ) (s : List ℕ) → slice_get before n ≡ Some s → slice_get (namespaces_after before hs) n ≡ Some s
behind-keeps before [] n s e = e
behind-keeps before (h ∷ hs) n s e = behind-keeps (with_namespace before h) hs n s (with-keeps before h n s e)

behind-append : (before : List (List ℕ)) (hs gs : List Head) → namespaces_after before (hs ++ gs) ≡ namespaces_after (namespaces_after before hs) gs
behind-append before [] gs = refl
behind-append before (h ∷ hs) gs = behind-append (with_namespace before h) hs gs

-- a namespace keeps its number
pub namespaces-keep : (hs gs : List Head) (n : ℕ) (s : List ℕ) → slice_get (namespaces_of hs) n ≡ Some s → slice_get (namespaces_of (hs ++ gs)) n ≡ Some s
unfolding namespaces_of
namespaces-keep hs gs n s e = rw (behind-append ([] ∷ []) hs gs) (behind-keeps (namespaces_after ([] ∷ []) hs) gs n s e)

pub namespaces-one : (hs : List Head) (h : Head) → namespaces_of (hs ++ h ∷ []) ≡ with_namespace (namespaces_of hs) h
unfolding namespaces_of
namespaces-one hs h = behind-append ([] ∷ []) hs (h ∷ [])

-- ---- none comes twice

abbrev AreNumbered : List (List ℕ) → Type 0
AreNumbered namespaces = (n : ℕ) (s : List ℕ) → slice_get namespaces n ≡ Some s → place_of s namespaces ≡ Some n

pub at-last : {A : Type 0} (namespaces : List A) (t : A) (n : ℕ) (s : A) → length namespaces ≤ n → slice_get (namespaces ++ t ∷ []) n ≡ Some s → (n ≡ length namespaces) × (t ≡ s)
at-last [] t zero s le e = (refl, let same : t ≡ s = cc in same)
at-last [] t (suc n) s le e = absurd (let no : ⊥ = cc in no)
at-last (x ∷ namespaces) t zero s le e = absurd (omega arith)
at-last (x ∷ namespaces) t (suc n) s le e = let k = at-last namespaces t n s (omega arith) e in (ap suc k.0, k.1)

pushed-numbered : (namespaces : List (List ℕ)) (t : List ℕ) → is_used t namespaces ≡ false → AreNumbered namespaces → AreNumbered (namespaces ++ t ∷ [])
pushed-numbered namespaces t new known n s e = place-behind s namespaces t ∙ at (ltb n (length namespaces)) refl
  where
    at : (b : Bool) → ltb n (length namespaces) ≡ b → or_last (bytes_eq t s) (length namespaces) (place_of s namespaces) ≡ Some n
    at true lt = ap (or_last (bytes_eq t s) (length namespaces)) (known n s (sym (get-front namespaces (t ∷ []) n (ltb-true n (length namespaces) lt)) ∙ e))
    at false ge =
        let k = at-last namespaces t n s (ltb-false n (length namespaces) ge) e in
        rw (ap (λ x. place_of x namespaces) (sym k.1) ∙ place-none t namespaces new, (bytes_eq-Decides t s).1 k.1) (ap Some (sym k.0))

with-numbered : (namespaces : List (List ℕ)) (h : Head) → AreNumbered namespaces → AreNumbered (with_namespace namespaces h)
with-numbered namespaces (Named full) known = at (is_used (namespace_of full) namespaces) refl
  where
    at : (b : Bool) → is_used (namespace_of full) namespaces ≡ b → AreNumbered (cond b namespaces (namespaces ++ namespace_of full ∷ []))
    at true e = known
    at false e = pushed-numbered namespaces (namespace_of full) e known
with-numbered namespaces NullHead known = known
with-numbered namespaces BooleanHead known = known
with-numbered namespaces IntHead known = known
with-numbered namespaces LongHead known = known
with-numbered namespaces BytesHead known = known
with-numbered namespaces TextHead known = known
with-numbered namespaces ArrayHead known = known
with-numbered namespaces MapHead known = known
with-numbered namespaces UnionHead known = known

behind-numbered : (namespaces : List (List ℕ)) (hs : List Head) → AreNumbered namespaces → AreNumbered (namespaces_after namespaces hs)
behind-numbered namespaces [] known = known
behind-numbered namespaces (h ∷ hs) known = behind-numbered (with_namespace namespaces h) hs (with-numbered namespaces h known)

null-numbered : AreNumbered ([] ∷ [])
null-numbered zero s e = let same : [] ≡ s = cc in rw (← same) refl
null-numbered (suc n) s e = absurd (let no : ⊥ = cc in no)

-- a namespace is found under its number
pub namespaces-numbered : (hs : List Head) (n : ℕ) (s : List ℕ) → slice_get (namespaces_of hs) n ≡ Some s → place_of s (namespaces_of hs) ≡ Some n
unfolding namespaces_of
namespaces-numbered hs = behind-numbered ([] ∷ []) hs null-numbered

-- ---- each name's namespace is there

with-used : (namespace : List ℕ) (before : List (List ℕ)) (h : Head) → is_used namespace before ≡ true → is_used namespace (with_namespace before h) ≡ true
with-used namespace before (Named full) e = at (is_used (namespace_of full) before)
  where
    or_true : (b : Bool) → (b || is_used namespace before) ≡ true
    or_true true = refl
    or_true false = e

    at : (b : Bool) → is_used namespace (cond b before (before ++ namespace_of full ∷ [])) ≡ true
    at true = e
    at false = used-push namespace before (namespace_of full) ∙ or_true (bytes_eq (namespace_of full) namespace)
with-used namespace before NullHead e = e
with-used namespace before BooleanHead e = e
with-used namespace before IntHead e = e
with-used namespace before LongHead e = e
with-used namespace before BytesHead e = e
with-used namespace before TextHead e = e
with-used namespace before ArrayHead e = e
with-used namespace before MapHead e = e
with-used namespace before UnionHead e = e

behind-used : (namespace : List ℕ) (before : List (List ℕ)) (hs : List Head) → is_used namespace before ≡ true → is_used namespace (namespaces_after before hs) ≡ true
behind-used namespace before [] e = e
behind-used namespace before (h ∷ hs) e = behind-used namespace (with_namespace before h) hs (with-used namespace before h e)

own-used : (before : List (List ℕ)) (full : List ℕ) → is_used (namespace_of full) (with_namespace before (Named full)) ≡ true
own-used before full = at (is_used (namespace_of full) before) refl
  where
    at : (b : Bool) → is_used (namespace_of full) before ≡ b → is_used (namespace_of full) (cond b before (before ++ namespace_of full ∷ [])) ≡ true
    at true e = e
    at false e = used-push (namespace_of full) before (namespace_of full) ∙ rw ((bytes_eq-Decides (namespace_of full) (namespace_of full)).1 refl) refl

unspaced : (full : List ℕ) (i : ℕ) (before : List (List ℕ)) (hs : List Head) → is_used (namespace_of full) (namespaces_after before hs) ≡ false → position_from (defines full) i hs ≡ None
unspaced full i before [] e = refl
unspaced full i before (Named other ∷ hs) e = at (bytes_eq other full) refl (unspaced full (i + 1) (with_namespace before (Named other)) hs e)
  where
    at : (b : Bool) → bytes_eq other full ≡ b → position_from (defines full) (i + 1) hs ≡ None → cond b (Some i) (position_from (defines full) (i + 1) hs) ≡ None
    at true t later =
        let same : other ≡ full = (bytes_eq-Decides other full).0 t in
        let used : is_used (namespace_of full) (with_namespace before (Named other)) ≡ true = subst (λ o. is_used (namespace_of full) (with_namespace before (Named o)) ≡ true) (sym same) (own-used before full) in
        absurd (no_true (is_used (namespace_of full) (namespaces_after (with_namespace before (Named other)) hs)) (behind-used (namespace_of full) (with_namespace before (Named other)) hs used) e)
    at false t later = later
unspaced full i before (NullHead ∷ hs) e = unspaced full (i + 1) before hs e
unspaced full i before (BooleanHead ∷ hs) e = unspaced full (i + 1) before hs e
unspaced full i before (IntHead ∷ hs) e = unspaced full (i + 1) before hs e
unspaced full i before (LongHead ∷ hs) e = unspaced full (i + 1) before hs e
unspaced full i before (BytesHead ∷ hs) e = unspaced full (i + 1) before hs e
unspaced full i before (TextHead ∷ hs) e = unspaced full (i + 1) before hs e
unspaced full i before (ArrayHead ∷ hs) e = unspaced full (i + 1) before hs e
unspaced full i before (MapHead ∷ hs) e = unspaced full (i + 1) before hs e
unspaced full i before (UnionHead ∷ hs) e = unspaced full (i + 1) before hs e

-- a name whose namespace is not there is not there either
pub spaceless : (full : List ℕ) (hs : List Head) → is_used (namespace_of full) (namespaces_of hs) ≡ false → defined_at full hs ≡ None
unfolding defined_at namespaces_of
spaceless full hs e = unspaced full 0 ([] ∷ []) hs e
