-- Where the aliases of a type are found, kept while their texts are gone through.
use Rattle.std.proofs.Common.{◌≡◌, ◌<◌, ◌++◌, ◌&&◌, ◌||◌, ℕ, ◌+◌, List, [], ◌∷◌, length, take, get_or, Bool, true, false, arith, eqb, cond, Option, Some, None, refl, sym, ap, ◌∙◌, String, Global, string_bytes}
use Rattle.std.specs.BTreeMap.{BTreeMap, UpdatesBy, get_by_text}
use Rattle.std.specs.BTreeSet as set
use Rattle.std.specs.Ordering.{nat_cmp}
use Rattle.std.specs.Cmp.Lexicographic.{slice_cmp}
use Rattle.std.specs.Str.{bytes_eq}
use Rattle.std.specs.Str.Pattern.{RFindsChar, SplitsAroundMatch}
use Rattle.std.specs.String.{string_cmp}
use Rattle.std.proofs.lemmas.Bool.{eqb-true}
use Rattle.std.proofs.lemmas.List.{map-append}
use Rattle.std.proofs.lemmas.List.Folds.{list_any-append}
use Rattle.std.proofs.lemmas.Map.Text.{btree_map_updates_text, btree_set_updates_text}
use Rattle.std.proofs.lemmas.Slice.Eq.{bytes_eq-Decides}
use Rattle.avro_types.specs.Aliases.{AreFound, has_last, is_found, stands_under}
use Rattle.spec_avro.specs.Aliases.{full_names}
use Rattle.spec_avro.specs.FullNames.{AreParts, full_name, has_dot, inside, namespace_of, unqualified}
use Rattle.spec_avro.specs.Symbols.{is_used}
use Rattle.avro_types.specs.Laws.Booleans.{both, false_by, no_true, or_false, same_by}
use Rattle.avro_types.specs.Laws.Dots.{back-undotted, dotted-behind, namespace-inside, split-parts, unqualified-behind, unqualified-inside}
use Rattle.avro_types.specs.Laws.NameParts.{name-undotted}
use Rattle.avro_types.proofs.SymbolPositions.{names-take}
use Rattle.avro_types.specs.Laws.Plain.{names}

abbrev Lasts : Type 0
Lasts = set.BTreeSet (String Global)

abbrev Under : Type 0
Under = BTreeMap (String Global) Lasts

-- ---- full names, by their parts

pub inside-eq : (a s b t : List ℕ) → has_dot s ≡ false → has_dot t ≡ false → bytes_eq (inside a s) (inside b t) ≡ (bytes_eq a b && bytes_eq s t)
inside-eq a s b t s_none t_none =
    same_by (bytes_eq (inside a s) (inside b t)) (bytes_eq a b && bytes_eq s t)
    (λ e.
    let one = (bytes_eq-Decides (inside a s) (inside b t)).0 e in
    let spaces : a ≡ b = sym (namespace-inside a s s_none) ∙ ap namespace_of one ∙ namespace-inside b t t_none in
    let lasts : s ≡ t = sym (unqualified-inside a s s_none) ∙ ap unqualified one ∙ unqualified-inside b t t_none in
    rw ((bytes_eq-Decides a b).1 spaces, (bytes_eq-Decides s t).1 lasts) refl)
    (λ e.
    let parts = both (bytes_eq a b) (bytes_eq s t) e in
    (bytes_eq-Decides (inside a s) (inside b t)).1 (ap (λ x. inside x s) ((bytes_eq-Decides a b).0 parts.0) ∙ ap (inside b) ((bytes_eq-Decides s t).0 parts.1)))

no-length : (s : List ℕ) → eqb (length s) 0 ≡ true → s ≡ []
no-length [] z = refl
no-length (c ∷ cs) z = absurd (omega (arith, eqb-true (length (c ∷ cs)) 0 z))

-- what begins with its only dot is no undotted part in a namespace
beginning : (back space last : List ℕ) → has_dot back ≡ false → has_dot last ≡ false → bytes_eq (46 ∷ back) (inside space last) ≡ false
beginning back [] last none undotted =
    false_by (bytes_eq (46 ∷ back) last)
    (λ e. no_true (has_dot last) (ap has_dot (sym ((bytes_eq-Decides (46 ∷ back) last).0 e))) undotted)
beginning back (c ∷ cs) last none undotted =
    false_by (bytes_eq (46 ∷ back) (inside (c ∷ cs) last))
    (λ e.
    let same : 46 ∷ back ≡ c ∷ (cs ++ 46 ∷ last) = (bytes_eq-Decides (46 ∷ back) (inside (c ∷ cs) last)).0 e in
    let rest : back ≡ cs ++ 46 ∷ last = cc in
    no_true (has_dot back) (ap has_dot rest ∙ dotted-behind cs last) none)

-- ---- one text more

one_more : (own full : List ℕ) (ts : List (String Global)) (i : ℕ) (t : String Global) → i < length ts → t ≡ get_or ts i t
    → is_used full (full_names own (names (take (i + 1) ts))) ≡ (is_used full (full_names own (names (take i ts))) || bytes_eq (full_name own (string_bytes t)) full)
one_more own full ts i t lt is =
    rw (names-take ts i t lt is, map-append (full_name own) (names (take i ts)) (string_bytes t ∷ []))
    (list_any-append (λ other. bytes_eq other full) (full_names own (names (take i ts))) (full_name own (string_bytes t) ∷ [])
    ∙ ap (λ b. is_used full (full_names own (names (take i ts))) || b) (or_false (bytes_eq (full_name own (string_bytes t)) full)))

join-alone : (n r q s : Bool) → (((n && r) || q) || (n && s)) ≡ ((n && cond s true r) || q)
join-alone true true q true = refl
join-alone true true q false = refl
join-alone true false true true = refl
join-alone true false true false = refl
join-alone true false false true = refl
join-alone true false false false = refl
join-alone false r true s = refl
join-alone false r false s = refl

join-under : (x q y : Bool) → ((x || q) || y) ≡ (x || (y || q))
join-under true q y = refl
join-under false true true = refl
join-under false true false = refl
join-under false false true = refl
join-under false false false = refl

eq-turned : (a b : List ℕ) → bytes_eq a b ≡ bytes_eq b a
eq-turned a b = same_by (bytes_eq a b) (bytes_eq b a) (λ e. (bytes_eq-Decides b a).1 (sym ((bytes_eq-Decides a b).0 e))) (λ e. (bytes_eq-Decides a b).1 (sym ((bytes_eq-Decides b a).0 e)))

-- the text has no dot
pub put-alone : (own text : List ℕ) (relative more : Lasts) (qualified : Under) → has_dot text ≡ false → set.UpdatesBy string_cmp (λ k. slice_cmp nat_cmp text (string_bytes k)) relative more true
    → (space last : List ℕ) → has_dot last ≡ false → is_found own more qualified space last ≡ (is_found own relative qualified space last || bytes_eq (full_name own text) (inside space last))
put-alone own text relative more qualified none updates space last undotted =
    let means : full_name own text ≡ inside own text = rw none refl in
    let new : bytes_eq (full_name own text) (inside space last) ≡ (bytes_eq space own && bytes_eq text last) =
    ap (λ s. bytes_eq s (inside space last)) means ∙ inside-eq own text space last none undotted ∙ ap (λ b. b && bytes_eq text last) (eq-turned own space) in
    ap (λ b. (bytes_eq space own && b) || stands_under qualified space last) (btree_set_updates_text text relative more true updates last)
    ∙ sym (join-alone (bytes_eq space own) (set.contains_text relative last) (stands_under qualified space last) (bytes_eq text last))
    ∙ ap (λ b. is_found own relative qualified space last || b) (sym new)

-- the text is a namespace and a last part
module _ (own text front back : List ℕ) (split : SplitsAroundMatch (RFindsChar 46) text front back) (relative : Lasts) (qualified : Under) where
  means : full_name own text ≡ front ++ 46 ∷ back
  means = rw (split-parts text front back split, dotted-behind front back) refl

  behind : (front : List ℕ) → (front ≡ [] → ⊥) → (space last : List ℕ) → has_dot last ≡ false → bytes_eq (front ++ 46 ∷ back) (inside space last) ≡ (bytes_eq front space && bytes_eq back last)
  behind [] some space last undotted = absurd (some refl)
  behind (c ∷ cs) some space last undotted = inside-eq (c ∷ cs) back space last (back-undotted text front back split) undotted

  pub put-behind : (more : Under) → (front ≡ [] → ⊥) → ((space last : List ℕ) → stands_under more space last ≡ ((bytes_eq front space && bytes_eq back last) || stands_under qualified space last))
      → (space last : List ℕ) → has_dot last ≡ false → is_found own relative more space last ≡ (is_found own relative qualified space last || bytes_eq (full_name own text) (inside space last))
  put-behind more some put space last undotted =
      ap (λ b. (bytes_eq space own && set.contains_text relative last) || b) (put space last)
      ∙ sym (join-under (bytes_eq space own && set.contains_text relative last) (stands_under qualified space last) (bytes_eq front space && bytes_eq back last))
      ∙ ap (λ b. is_found own relative qualified space last || b) (sym (ap (λ s. bytes_eq s (inside space last)) means ∙ behind front some space last undotted))

  put-nowhere : front ≡ [] → (space last : List ℕ) → has_dot last ≡ false → is_found own relative qualified space last ≡ (is_found own relative qualified space last || bytes_eq (full_name own text) (inside space last))
  put-nowhere none space last undotted =
      sym (or_false (is_found own relative qualified space last))
      ∙ ap (λ b. is_found own relative qualified space last || b) (sym (ap (λ s. bytes_eq s (inside space last)) (means ∙ ap (λ s. s ++ 46 ∷ back) none) ∙ beginning back space last (back-undotted text front back split) undotted))

  pub put-nothing : eqb (length front) 0 ≡ true → (space last : List ℕ) → has_dot last ≡ false → is_found own relative qualified space last ≡ (is_found own relative qualified space last || bytes_eq (full_name own text) (inside space last))
  put-nothing none = put-nowhere (no-length front none)

  pub has-front : eqb (length front) 0 ≡ false → front ≡ [] → ⊥
  has-front some none = no_true (eqb (length front) 0) (ap (λ s. eqb (length s) 0) none) some

-- one text more is found
pub found-on : (own : List ℕ) (ts : List (String Global)) (i : ℕ) (t : String Global) → i < length ts → t ≡ get_or ts i t → (relative more : Lasts) (qualified others : Under) → AreFound own (take i ts) relative qualified
    → ((space last : List ℕ) → has_dot last ≡ false → is_found own more others space last ≡ (is_found own relative qualified space last || bytes_eq (full_name own (string_bytes t)) (inside space last)))
    → AreFound own (take (i + 1) ts) more others
found-on own ts i t lt is relative more qualified others found put space last undotted =
    one_more own (inside space last) ts i t lt is
    ∙ ap (λ b. b || bytes_eq (full_name own (string_bytes t)) (inside space last)) (found space last undotted)
    ∙ sym (put space last undotted)

-- ---- before the first text, and after the last

pub none-found : (own : List ℕ) (ts : List (String Global)) (relative : Lasts) (qualified : Under) → set.IsEmpty relative → qualified.entries ≡ [] → AreFound own (take 0 ts) relative qualified
none-found own ts relative qualified no_relative no_qualified space last undotted = rw (no_relative, no_qualified) (nothing (bytes_eq space own))
  where
    nothing : (b : Bool) → false ≡ ((b && false) || false)
    nothing true = refl
    nothing false = refl

-- ---- a full name is looked for

pub found-name : (own : List ℕ) (ts : List (String Global)) (relative : Lasts) (qualified : Under) → AreFound own ts relative qualified → (aliases : List (List ℕ)) → full_names own (names ts) ≡ aliases
    → (full : List ℕ) → AreParts (namespace_of full) (unqualified full) → inside (namespace_of full) (unqualified full) ≡ full
    → is_used full aliases ≡ ((bytes_eq (namespace_of full) own && set.contains_text relative (unqualified full)) || stands_under qualified (namespace_of full) (unqualified full))
found-name own ts relative qualified found aliases view full parts joined =
    ap (is_used full) (sym view)
    ∙ ap (λ s. is_used s (full_names own (names ts))) (sym joined)
    ∙ found (namespace_of full) (unqualified full) (name-undotted (unqualified full) parts.last_is)

-- ---- a last part is put under its namespace

held : (b c : Bool) (s o : Option Lasts) (last : List ℕ) (u : Lasts) → (b ≡ true → s ≡ o) → set.contains_text u last ≡ cond c true (has_last o last) → has_last (cond b (Some u) s) last ≡ ((b && c) || has_last s last)
held true true s o last u same h = h
held true false s o last u same h = h ∙ ap (λ x. has_last x last) (sym (same refl))
held false c s o last u same h = refl

pub put-on : (space last : List ℕ) (old taken new : Under) (before after : Lasts)
    → UpdatesBy string_cmp (λ k. slice_cmp nat_cmp space (string_bytes k)) old taken None
    → ((other : List ℕ) → set.contains_text before other ≡ has_last (get_by_text old space) other)
    → set.UpdatesBy string_cmp (λ k. slice_cmp nat_cmp last (string_bytes k)) before after true
    → UpdatesBy string_cmp (λ k. slice_cmp nat_cmp space (string_bytes k)) taken new (Some after)
    → (other another : List ℕ) → stands_under new other another ≡ ((bytes_eq space other && bytes_eq last another) || stands_under old other another)
put-on space last old taken new before after removed known put inserted other another =
    ap (λ o. has_last o another) (
    btree_map_updates_text space taken new (Some after) inserted other
    ∙ ap (cond (bytes_eq space other) (Some after)) (btree_map_updates_text space old taken None removed other)
    ∙ twice (bytes_eq space other) (Some after) None (get_by_text old other))
    ∙ held (bytes_eq space other) (bytes_eq last another) (get_by_text old other) (get_by_text old space) another after
    (λ e. ap (get_by_text old) (sym ((bytes_eq-Decides space other).0 e)))
    (btree_set_updates_text last before after true put another ∙ ap (cond (bytes_eq last another) true) (known another))
  where
    twice : {A : Type 0} (b : Bool) (x y z : A) → cond b x (cond b y z) ≡ cond b x z
    twice true x y z = refl
    twice false x y z = refl

pub found-alone : (r x y u : Bool) → u ≡ (x || y) → r ≡ x → r ≡ true → r ≡ u
found-alone r true y u found same _ = same ∙ sym found
found-alone r false y u found same never = absurd (let no : ⊥ = cc in no)

pub found-under : (r s x y u : Bool) → u ≡ (x || y) → r ≡ x → r ≡ false → s ≡ y → s ≡ u
found-under r s true y u found same none here = absurd (let never : ⊥ = cc in never)
found-under r s false y u found same none here = here ∙ sym found

-- ---- the last part of what a text means

pub last-alone : (own text : List ℕ) → has_dot text ≡ false → text ≡ unqualified (full_name own text)
last-alone own text none =
    let full : full_name own text ≡ inside own text = rw none refl in
    sym (ap unqualified full ∙ unqualified-inside own text none)

pub last-behind : (own text front back : List ℕ) → SplitsAroundMatch (RFindsChar 46) text front back → back ≡ unqualified (full_name own text)
last-behind own text front back split =
    let parts : text ≡ front ++ 46 ∷ back = split-parts text front back split in
    let dotted : has_dot text ≡ true = ap has_dot parts ∙ dotted-behind front back in
    let full : full_name own text ≡ text = rw dotted refl in
    sym (ap unqualified (full ∙ parts) ∙ unqualified-behind front back (back-undotted text front back split))
