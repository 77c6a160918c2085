-- The pointer of a path leads where the path does: each part of the text is one step.
use Rattle.std.proofs.Common.{◌≡◌, ℕ, zero, suc, ◌^◌, ◌<◌, ◌≤◌, subst, ◌==◌, ◌||◌, true, false, not, List, [], ◌∷◌, ◌++◌, length, slice_index, Option, Some, None, option_and_then, codes, decimal, refl, sym, ap, ◌∙◌, arith, append-nil, lt-ltb, eq-eqb, ne_eqb}
use Rattle.std.proofs.lemmas.Bool.{or_left, or_right}
use Rattle.std.proofs.lemmas.Fmt.{decimal_is_IsNumeral, decimal_nonempty, first_decimal, length-decimal-le_succ}
use Rattle.std.specs.Prelude.{⊤}
use Rattle.std.specs.Char.{digit_value}
use Rattle.std.specs.List.{AllByRecursion}
use Rattle.std.specs.Str.Parse.{AllDigits}
use Rattle.fast_float.specs.Text.{Parts, IsWellFormed, digits_of, scan}
use Rattle.fast_float.proofs.Writing.{scan-text_of}
use Rattle.serde_json.specs.Data.{Data, array, object}
use Rattle.serde_json.specs.Find.{at, get, get_item, get_member, index_of, step, walk}
use Rattle.serde_json.proofs.Paths.{Lacks, unescape_plain, walk_last, walk_part}
use Rattle.avro_schema_paths.specs.Following.{follow, step_in}
use Rattle.avro_schema_paths.specs.Places.{Path}
use Rattle.avro_schema_paths.specs.Pointers.{HasShortPosition, PointersLeadThere, pointer_of, word}
use Rattle.avro_schema_paths.specs.declared.step.Step.{Step}
use Rattle.avro_schema_paths.specs.declared.step.Step.TheVariants as steps

-- ---- words have no slash and no tilde

abbrev IsLetter : ℕ → Type 0
IsLetter x = (97 ≤ x) × (x ≤ 122)

lacks_all : (c : ℕ) (P : ℕ → Type 0) → (P c → ⊥) → (xs : List ℕ) → AllByRecursion P xs → Lacks c xs
lacks_all c P outside [] a i lt = absurd (omega arith)
lacks_all c P outside (x ∷ xs) a zero lt = λ e. outside (subst P e a.0)
lacks_all c P outside (x ∷ xs) a (suc i) lt = lacks_all c P outside xs a.1 i (omega arith)

digits_each : (ds : List ℕ) → AllDigits 10 ds → AllByRecursion (λ x. digit_value x < 10) ds
digits_each [] a = tt
digits_each (d ∷ ds) a = (a.0, digits_each ds a.1)

abbrev IsKey : Step → Type 0
IsKey (steps.At i) = ⊥
IsKey _ = ⊤

letters : (s : Step) → IsKey s → AllByRecursion IsLetter (word s)
letters steps.Type k = ((omega arith, omega arith), ((omega arith, omega arith), ((omega arith, omega arith), ((omega arith, omega arith), tt))))
letters steps.Items k = ((omega arith, omega arith), ((omega arith, omega arith), ((omega arith, omega arith), ((omega arith, omega arith), ((omega arith, omega arith), tt)))))
letters steps.Values k = ((omega arith, omega arith), ((omega arith, omega arith), ((omega arith, omega arith), ((omega arith, omega arith), ((omega arith, omega arith), ((omega arith, omega arith), tt))))))
letters steps.Fields k = ((omega arith, omega arith), ((omega arith, omega arith), ((omega arith, omega arith), ((omega arith, omega arith), ((omega arith, omega arith), ((omega arith, omega arith), tt))))))
letters (steps.At i) k = absurd k

key_lacks_slash : (s : Step) → IsKey s → Lacks 47 (word s)
key_lacks_slash s k = lacks_all 47 IsLetter (λ h. omega (arith, h.0)) (word s) (letters s k)

key_lacks_tilde : (s : Step) → IsKey s → Lacks 126 (word s)
key_lacks_tilde s k = lacks_all 126 IsLetter (λ h. omega (arith, h.1)) (word s) (letters s k)

no_slash : digit_value 47 < 10 → ⊥
no_slash h = grind arith

word_lacks_slash : (s : Step) → HasShortPosition s → Lacks 47 (word s)
word_lacks_slash steps.Type h = key_lacks_slash steps.Type tt
word_lacks_slash steps.Items h = key_lacks_slash steps.Items tt
word_lacks_slash steps.Values h = key_lacks_slash steps.Values tt
word_lacks_slash steps.Fields h = key_lacks_slash steps.Fields tt
word_lacks_slash (steps.At i) h = lacks_all 47 (λ x. digit_value x < 10) no_slash (decimal i) (digits_each (decimal i) (decimal_is_IsNumeral i h).0.1)

-- ---- digits are the index that they are of

abbrev parts_of : List ℕ → Parts
parts_of ds = record { whole = ds; point = false; fraction = []; exponent_negative = false; exponent = []; len = length (ds ++ []) }

scan_decimal : (n : ℕ) → n < 2 ^ 64 → scan (decimal n) ≡ parts_of (decimal n)
scan_decimal n h =
    let e = decimal_is_IsNumeral n h in
    let formed : IsWellFormed (parts_of (decimal n)) = record { whole_digits = e.0.1; fraction_digits = tt; exponent_digits = tt; no_point = λ _. refl; no_exponent = λ _. refl; len_is = refl } in
    ap scan (sym (append-nil (decimal n))) ∙ scan-text_of (parts_of (decimal n)) formed

no_zero_before : (n : ℕ) → n < 2 ^ 64 → (length (decimal n) == 1 || not (slice_index (decimal n) 0 == 48)) ≡ true
no_zero_before zero h =
    let most = length-decimal-le_succ 0 h in
    or_left _ _ (eq-eqb (length (decimal 0)) 1 (omega (arith, most, decimal_nonempty 0 h)))
no_zero_before (suc n) h =
    let first = first_decimal (suc n) (omega arith) h in
    or_right _ _ (ap not (ne_eqb (slice_index (decimal (suc n)) 0) 48 (λ e. omega (arith, first, e))))

index_of_decimal : (n : ℕ) → n < 2 ^ 64 → index_of (decimal n) ≡ Some n
unfolding index_of
index_of_decimal n h =
    let e = decimal_is_IsNumeral n h in
    let some = decimal_nonempty n h in
    let small : digits_of (parts_of (decimal n)) ≡ n = rw append-nil e.1 in
    rw (scan_decimal n h) (rw (lt-ltb _ _ some, small, lt-ltb _ _ h, no_zero_before n h, append-nil (decimal n), eq-eqb (length (decimal n)) (length (decimal n)) refl) refl)

-- ---- a part of the text is a step

key_leads : (k : List ℕ) (d x : Data) → Lacks 126 k → get k d ≡ Some x → step k d ≡ Some x
key_leads k (object ms) x l e = ap (λ j. get_member j ms) (unescape_plain k l) ∙ e
key_leads k d x l e = absurd cc

position_leads : (i : ℕ) (d x : Data) → i < 2 ^ 64 → at i d ≡ Some x → step (decimal i) d ≡ Some x
position_leads i (array ds) x h e = ap (option_and_then (λ j. get_item j ds)) (index_of_decimal i h) ∙ e
position_leads i d x h e = absurd cc

word_leads : (s : Step) (d x : Data) → HasShortPosition s → step_in s d ≡ Some x → step (word s) d ≡ Some x
word_leads steps.Type d x h e = key_leads (codes "type") d x (key_lacks_tilde steps.Type tt) e
word_leads steps.Items d x h e = key_leads (codes "items") d x (key_lacks_tilde steps.Items tt) e
word_leads steps.Values d x h e = key_leads (codes "values") d x (key_lacks_tilde steps.Values tt) e
word_leads steps.Fields d x h e = key_leads (codes "fields") d x (key_lacks_tilde steps.Fields tt) e
word_leads (steps.At i) d x h e = position_leads i d x h e

-- ---- and the text is one part after another

record Between (o : Option Data) (f : Data → Option Data) (x : Data) : Type 0 where
  pub y : Data
  pub first : o ≡ Some y
  pub then : f y ≡ Some x

between : (o : Option Data) (f : Data → Option Data) (x : Data) → option_and_then f o ≡ Some x → Between o f x
between None f x e = absurd cc
between (Some y) f x e = record { y = y; first = refl; then = e }

walk_leads : (s : Step) (path : Path) (d x : Data) → HasShortPosition s → AllByRecursion HasShortPosition path → follow (s ∷ path) d ≡ Some x → walk [] (word s ++ pointer_of path) d ≡ Some x
walk_leads s [] d x h a e =
    let b = between (step_in s d) (follow []) x e in
    let one : step_in s d ≡ Some x = b.first ∙ b.then in
    ap (λ l. walk [] l d) (append-nil (word s)) ∙ walk_last (word s) d (word_lacks_slash s h) ∙ word_leads s d x h one
walk_leads s (t ∷ path) d x h a e =
    let b = between (step_in s d) (follow (t ∷ path)) x e in
    let rest = word t ++ pointer_of path in
    walk_part (word s) rest d (word_lacks_slash s h) ∙ ap (option_and_then (walk [] rest)) (word_leads s d b.y h b.first) ∙ walk_leads t path b.y x a.0 a.1 b.then

pub pointers_lead : PointersLeadThere
pointers_lead [] a = λ root found e. e
pointers_lead (s ∷ path) a = λ root found e. walk_leads s path root found a.0 a.1 e
