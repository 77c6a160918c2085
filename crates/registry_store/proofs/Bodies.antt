-- A line says one command.
use Rattle.std.proofs.Common.{◌≡◌, ◌≢◌, ◌∙◌, ℕ, eqb, List, [], ◌∷◌, ◌++◌, Option, Some, None, get_or, sym, refl, ap, arith, codes}
use Rattle.std.specs.Prelude.{decimal}
use Rattle.std.specs.List.{AllByRecursion}
use Rattle.std.specs.Str.{IsUtf8}
use Rattle.std.proofs.lemmas.Bool.{false≢true}
use Rattle.std.proofs.lemmas.Fmt.{decimal_injective}
use Rattle.std.proofs.lemmas.List.Elements.{All-append, All-cons, All-head, All-tail}
use Rattle.registry_store.proofs.Checks.{checked_injective}
use Rattle.registry_store.proofs.Fields.{Lacks, Lacks-from_test, check_lacks_newline, decimal_lacks, split_same, text_lacks_newline, word_lacks_newline, word_lacks_space, word_lacks_star}
use Rattle.registry_store.proofs.Texts.{percent_encode_injective}
use Rattle.registry_store.specs.Line.{IsOneLine, body_of, check_of, checked, line_of, readable, subject_word, word}
use Rattle.registry_store.specs.Stored.{IsSubject, LevelSet, MayBeStored, Registered, Stored}
use Rattle.registry_store.specs.declared.format.TheConstants.{TEXT_ESCAPES, WORD_ESCAPES}

pub verb_register : Lacks 32 (codes "register")
verb_register = Lacks-from_test 32 (codes "register") refl

pub verb_level : Lacks 32 (codes "level")
verb_level = Lacks-from_test 32 (codes "level") refl

-- a registration is written as no level is
pub not_both : (a b : List ℕ) → codes "register" ++ 32 ∷ a ≡ codes "level" ++ 32 ∷ b → ⊥
not_both a b e = false≢true (ap (λ (x : List ℕ). eqb (get_or x 0 0) 108) e)

pub subject_lacks_space : (subject : Option (List ℕ)) → Lacks 32 (subject_word subject)
subject_lacks_space None = Lacks-from_test 32 (codes "*") refl
subject_lacks_space (Some subject) = word_lacks_space subject

-- `*` is no subject's field
pub star_is_no_word : (subject : List ℕ) → word subject ≢ codes "*"
star_is_no_word subject e = star_apart (word subject) (word_lacks_star subject) e
  where
    star_apart : (field : List ℕ) → Lacks 42 field → field ≢ codes "*"
    star_apart [] lacks e = cc e
    star_apart (b ∷ field) lacks e = All-head (λ x. x ≢ 42) b field lacks cc

subject_injective : (a b : Option (List ℕ)) → IsSubject a → IsSubject b → subject_word a ≡ subject_word b → a ≡ b
subject_injective None None is_a is_b e = refl
subject_injective None (Some b) is_a is_b e = absurd (star_is_no_word b (sym e))
subject_injective (Some a) None is_a is_b e = absurd (star_is_no_word a e)
subject_injective (Some a) (Some b) is_a is_b e = ap Some (percent_encode_injective WORD_ESCAPES a b refl is_a is_b e)

body_injective : (s t : Stored) → MayBeStored s → MayBeStored t → body_of s ≡ body_of t → s ≡ t
body_injective (Registered i a x) (Registered j b y) is_s is_t e =
    let verb = split_same 32 (codes "register") _ (codes "register") _ verb_register verb_register e in
    let id = split_same 32 _ _ _ _ (decimal_lacks 32 i (omega arith) (omega (arith, is_s.0))) (decimal_lacks 32 j (omega arith) (omega (arith, is_t.0))) verb.1 in
    let subject = split_same 32 _ _ _ _ (word_lacks_space a) (word_lacks_space b) id.1 in
    let same_id : i ≡ j = decimal_injective i j (omega (arith, is_s.0)) (omega (arith, is_t.0)) id.0 in
    let same_subject : a ≡ b = percent_encode_injective WORD_ESCAPES a b refl is_s.1 is_t.1 subject.0 in
    let same_text : x ≡ y = percent_encode_injective TEXT_ESCAPES x y refl is_s.2 is_t.2 subject.1 in
    cc
body_injective (Registered i a x) (LevelSet b l) is_s is_t e = absurd (not_both _ _ e)
body_injective (LevelSet a k) (Registered j b y) is_s is_t e = absurd (not_both _ _ (sym e))
body_injective (LevelSet a k) (LevelSet b l) is_s is_t e =
    let verb = split_same 32 (codes "level") _ (codes "level") _ verb_level verb_level e in
    let subject = split_same 32 _ _ _ _ (subject_lacks_space a) (subject_lacks_space b) verb.1 in
    let same_subject : a ≡ b = subject_injective a b is_s.0 is_t.0 subject.0 in
    let same_level : k ≡ l = percent_encode_injective WORD_ESCAPES k l refl is_s.1 is_t.1 subject.1 in
    cc

-- two commands of one line are one command
pub line_injective : (s t : Stored) → MayBeStored s → MayBeStored t → line_of s ≡ line_of t → s ≡ t
line_injective s t is_s is_t e = body_injective s t is_s is_t (checked_injective (body_of s) (body_of t) e)

-- ---- no newline

abbrev IsNot : ℕ → Type 0
IsNot x = x ≢ 10

field_and_rest : (field rest : List ℕ) → Lacks 10 field → Lacks 10 rest → Lacks 10 (field ++ 32 ∷ rest)
field_and_rest field rest in_field in_rest =
    All-append IsNot field (32 ∷ rest) in_field (All-cons IsNot 32 rest (λ e. omega arith) in_rest)

subject_lacks_newline : (subject : Option (List ℕ)) → Lacks 10 (subject_word subject)
subject_lacks_newline None = Lacks-from_test 10 (codes "*") refl
subject_lacks_newline (Some subject) = word_lacks_newline subject

body_lacks_newline : (s : Stored) → MayBeStored s → Lacks 10 (body_of s)
body_lacks_newline (Registered id subject text) may =
    field_and_rest (codes "register") _ (Lacks-from_test 10 (codes "register") refl)
    (field_and_rest _ _ (decimal_lacks 10 id (omega arith) (omega (arith, may.0)))
    (field_and_rest _ _ (word_lacks_newline subject) (text_lacks_newline text)))
body_lacks_newline (LevelSet subject level) may =
    field_and_rest (codes "level") _ (Lacks-from_test 10 (codes "level") refl)
    (field_and_rest _ _ (subject_lacks_newline subject) (word_lacks_newline level))

by_recursion : (xs : List ℕ) → Lacks 10 xs → AllByRecursion (λ b. b ≢ 10) xs
by_recursion [] lacks = tt
by_recursion (x ∷ xs) lacks = (All-head IsNot x xs lacks, by_recursion xs (All-tail IsNot x xs lacks))

-- no line has a newline within it
pub line_is_one : (s : Stored) → MayBeStored s → IsOneLine (line_of s)
line_is_one s may = by_recursion (line_of s) (field_and_rest (body_of s) (check_of (body_of s)) (body_lacks_newline s may) (check_lacks_newline (body_of s)))

-- ---- reading a level's subject

pub subject_is_star : (subject : Option (List ℕ)) → codes "*" ≡ subject_word subject → None ≡ subject
subject_is_star None e = refl
subject_is_star (Some subject) e = absurd (star_is_no_word subject (sym e))

-- a field that is not `*` is a subject's
pub subject_from_word : (field read : List ℕ) (subject : Option (List ℕ)) → (field ≡ codes "*" → ⊥) → ((s : List ℕ) → IsUtf8 s → field ≡ word s → read ≡ s) → IsSubject subject → field ≡ subject_word subject → Some read ≡ subject
subject_from_word field read None other reads is_subject e = absurd (other e)
subject_from_word field read (Some s) other reads is_subject e = ap Some (reads s is_subject e)

-- ---- reading a line before its check

-- a body is a verb, a space and the fields
pub record IsSplit (body : List ℕ) : Type 0 where
  pub verb : List ℕ
  pub fields : List ℕ
  pub lacks : Lacks 32 verb
  pub split : body ≡ verb ++ 32 ∷ fields

pub body_splits : (stored : Stored) → IsSplit (body_of stored)
body_splits (Registered id subject text) = record { verb = codes "register"; fields = decimal id ++ 32 ∷ (word subject ++ 32 ∷ readable text); lacks = verb_register; split = refl }
body_splits (LevelSet subject level) = record { verb = codes "level"; fields = subject_word subject ++ 32 ∷ word level; lacks = verb_level; split = refl }

-- the body splits in one way, into this verb and these fields
abbrev pub SplitsInto : List ℕ → List ℕ → List ℕ → Type 0
SplitsInto body verb fields = (field rest : List ℕ) → Lacks 32 field → body ≡ field ++ 32 ∷ rest → (verb ≡ field) × (fields ≡ rest)

-- a body with the verb `register` is a registration's
pub register_reads : (P : Stored → Type 0) (body verb fields : List ℕ) → verb ≡ codes "register" → SplitsInto body verb fields
    → ((id : ℕ) (subject text : List ℕ) → MayBeStored (Registered id subject text) → fields ≡ decimal id ++ 32 ∷ (word subject ++ 32 ∷ readable text) → P (Registered id subject text))
    → (stored : Stored) → MayBeStored stored → body ≡ body_of stored → P stored
register_reads P body verb fields is splits reads (Registered id subject text) may e =
    reads id subject text may (splits (codes "register") (decimal id ++ 32 ∷ (word subject ++ 32 ∷ readable text)) verb_register e).1
register_reads P body verb fields is splits reads (LevelSet subject level) may e =
    let other = (splits (codes "level") (subject_word subject ++ 32 ∷ word level) verb_level e).0 in
    absurd (not_both [] [] (ap (λ (x : List ℕ). x ++ 32 ∷ []) (sym is ∙ other)))

-- a body with the verb `level` is a level's
pub level_reads : (P : Stored → Type 0) (body verb fields : List ℕ) → verb ≡ codes "level" → SplitsInto body verb fields
    → ((subject : Option (List ℕ)) (level : List ℕ) → MayBeStored (LevelSet subject level) → fields ≡ subject_word subject ++ 32 ∷ word level → P (LevelSet subject level))
    → (stored : Stored) → MayBeStored stored → body ≡ body_of stored → P stored
level_reads P body verb fields is splits reads (Registered id subject text) may e =
    let other = (splits (codes "register") (decimal id ++ 32 ∷ (word subject ++ 32 ∷ readable text)) verb_register e).0 in
    absurd (not_both [] [] (ap (λ (x : List ℕ). x ++ 32 ∷ []) (sym other ∙ is)))
level_reads P body verb fields is splits reads (LevelSet subject level) may e =
    reads subject level may (splits (codes "level") (subject_word subject ++ 32 ∷ word level) verb_level e).1

-- a body with another verb is no command's
pub no_verb : (body verb fields : List ℕ) → (verb ≡ codes "register" → ⊥) → (verb ≡ codes "level" → ⊥) → SplitsInto body verb fields → (stored : Stored) → body ≡ body_of stored → ⊥
no_verb body verb fields no_register no_level splits (Registered id subject text) e =
    no_register (splits (codes "register") (decimal id ++ 32 ∷ (word subject ++ 32 ∷ readable text)) verb_register e).0
no_verb body verb fields no_register no_level splits (LevelSet subject level) e =
    no_level (splits (codes "level") (subject_word subject ++ 32 ∷ word level) verb_level e).0

-- the body of a command's line
pub body_from_line : (line body : List ℕ) (stored : Stored) → line ≡ checked body → line ≡ line_of stored → body ≡ body_of stored
body_from_line line body stored found e = checked_injective body (body_of stored) (sym found ∙ e)
