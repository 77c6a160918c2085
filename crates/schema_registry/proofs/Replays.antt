-- What was stored of accepted commands is done again without a fault.
use Rattle.std.proofs.Common.{◌≡◌, ◌≢◌, ◌⊎◌, inl, inr, ℕ, List, [], ◌∷◌, ◌++◌, map, Bool, true, false, cond, Option, Some, None, Result, Ok, Err, OnErr, OnOk, IfErr, refl, sym, ◌∙◌, ap, subst}
use Rattle.std.specs.Prelude.{find}
use Rattle.std.specs.Option.{ok_or}
use Rattle.std.specs.Str.{bytes_eq}
use Rattle.std.proofs.lemmas.List.{append-nil, map-append}
use Rattle.std.proofs.lemmas.Slice.Eq.{bytes_eq-Decides}
use Rattle.registry_store.specs.Stored.{Stored, LevelSet}
use Rattle.spec_registry.specs.declared.level.Level.{Level}
use Rattle.spec_registry.specs.declared.refusal.Refusal.{Refusal}
use Rattle.spec_registry.specs.declared.refusal.Refusal.TheVariants.{BadLevel, NoMemory}
use Rattle.schema_registry.specs.declared.registry.replaying.ReplayFault.{ReplayFault}
use Rattle.schema_registry.specs.declared.registry.replaying.ReplayFault.TheVariants.{Refused, OtherId, KnownAlready}
use Rattle.spec_registry.specs.Accepting.{registry_after}
use Rattle.spec_registry.specs.Answer.{Answer, Told, WhereSafe, IsAnswer}
use Rattle.spec_registry.specs.Answers.{AreAccepted, no_command, one_more, answer_to}
use Rattle.spec_registry.specs.Command.{Command}
use Rattle.schema_registry.specs.Keeping.{KeptCommand, KeptLevel, KeptRegistration, command_for, kept_in, kept_of}
use Rattle.spec_registry.specs.Level.{all_levels, level_name, level_named}
use Rattle.spec_registry.specs.Lists.{Lists, no_lists}
use Rattle.schema_registry.specs.Replaying.{IsWhyNotReplayed, stored_as, stored_in, with_id}
use Rattle.spec_registry.specs.Reply.{Reply}
use Rattle.schema_registry.proofs.KeptAgain.{Few, few}
use Rattle.schema_registry.proofs.Levels.{by_name, named}
use Rattle.schema_registry.proofs.Replayed.{kept-more, replayed}
use Rattle.registry_store.specs.Laws.Plain.{on-ok}

-- ---- one command has what is stored of it

level-is : (l m : Level) → level_name l ≡ level_name m → l ≡ m
level-is l m same =
    let e : Some l ≡ Some m = named l ∙ ap (λ (word : List ℕ). level_named word) same ∙ sym (named m) in
    cc

pub kept-is : (j k : KeptCommand) → stored_as j ≡ stored_as k → j ≡ k
kept-is (KeptRegistration i s t) (KeptRegistration j u v) same = cc
kept-is (KeptRegistration i s t) (KeptLevel u m) same = let never : ⊥ = cc in absurd never
kept-is (KeptLevel s l) (KeptRegistration j u v) same = let never : ⊥ = cc in absurd never
kept-is (KeptLevel s l) (KeptLevel u m) same =
    let subjects : s ≡ u = cc in
    let names : level_name l ≡ level_name m = cc in
    rw (subjects, level-is l m names) refl

pub kept-are : (js ks : List KeptCommand) → map stored_as js ≡ map stored_as ks → js ≡ ks
kept-are [] [] same = refl
kept-are [] (k ∷ ks) same = let never : ⊥ = cc in absurd never
kept-are (j ∷ js) [] same = let never : ⊥ = cc in absurd never
kept-are (j ∷ js) (k ∷ ks) same =
    let first : stored_as j ≡ stored_as k = cc in
    let rest : map stored_as js ≡ map stored_as ks = cc in
    rw (kept-is j k first, kept-are js ks rest) refl

-- a level is not read of a name that no level has
pub no-level : (e : Refusal) (word : List ℕ) (subject : Option (List ℕ)) → Err e ≡ ok_or (level_named word) BadLevel → (k : KeptCommand) → stored_as k ≡ LevelSet subject word → ⊥
no-level e word subject none (KeptRegistration i s t) same = cc
no-level e word subject none (KeptLevel s l) same =
    let name : level_name l ≡ word = cc in
    let read = by_name word l name in cc

-- the level that is read of a name has it
found-at : (word : List ℕ) (m l : Level) (others : Option Level) → (others ≡ Some l → level_name l ≡ word) → (b : Bool) → bytes_eq word (level_name m) ≡ b
    → cond b (Some m) others ≡ Some l → level_name l ≡ word
found-at word m l others later true same is = let one : m ≡ l = cc in ap level_name (sym one) ∙ sym ((bytes_eq-Decides word (level_name m)).0 same)
found-at word m l others later false other is = later is

found-by : (word : List ℕ) (ls : List Level) (l : Level) → find (λ level. bytes_eq word (level_name level)) ls ≡ Some l → level_name l ≡ word
found-by word [] l is = let never : ⊥ = cc in absurd never
found-by word (m ∷ ls) l is =
    found-at word m l (find (λ level. bytes_eq word (level_name level)) ls) (found-by word ls l) (bytes_eq word (level_name m)) refl is

named-by : (word : List ℕ) (l : Level) → level_named word ≡ Some l → level_name l ≡ word
unfolding level_named
named-by word l is = found-by word all_levels l is

some-read : (o : Option Level) (l : Level) → Ok l ≡ ok_or o BadLevel → o ≡ Some l
some-read (Some m) l is = cc
some-read None l is = let never : ⊥ = cc in absurd never

pub level-read-of : (word : List ℕ) (l : Level) → Ok l ≡ ok_or (level_named word) BadLevel → level_name l ≡ word
level-read-of word l is = named-by word l (some-read (level_named word) l is)

-- what is stored of a level that was read of a name
pub level-stored : (old new : List Command) (subject : Option (List ℕ)) (word : List ℕ) (l : Level) → level_name l ≡ word
    → kept_in new ≡ kept_in old ++ KeptLevel subject l ∷ [] → stored_in new ≡ stored_in old ++ LevelSet subject word ∷ []
level-stored old new subject word l name is =
    ap (map stored_as) is ∙ map-append stored_as (kept_in old) (KeptLevel subject l ∷ []) ∙ ap (λ (w : List ℕ). stored_in old ++ LevelSet subject w ∷ []) name

pub level-why : (lists : Lists) (subject : Option (List ℕ)) (word : List ℕ) (l : Level) → level_name l ≡ word → (fault : ReplayFault)
    → IsWhyNotReplayed lists (KeptLevel subject l) fault → (k : KeptCommand) → stored_as k ≡ LevelSet subject word → IsWhyNotReplayed lists k fault
level-why lists subject word l name fault why k same =
    let is : KeptLevel subject l ≡ k = kept-is (KeptLevel subject l) k (ap (λ (w : List ℕ). LevelSet subject w) name ∙ sym same) in
    subst (λ (j : KeptCommand). IsWhyNotReplayed lists j fault) is why

-- ---- results

pub on-err : {T E : Type 0} (A B : Type 0) → (A → B) → (r : Result T E) → OnErr r A → OnErr r B
on-err A B f (Ok t) a = tt
on-err A B f (Err e) a = f a

pub if-err : {T E : Type 0} (P Q : E → Type 0) → ((e : E) → P e → Q e) → (r : Result T E) → IfErr r P → IfErr r Q
if-err P Q f (Ok t) p = tt
if-err P Q f (Err e) p = f e p

-- commands of which these are stored, then one more and others
pub record Split (ks : List KeptCommand) (first : List Stored) (s : Stored) : Type 0 where
  pub before : List KeptCommand
  pub here : KeptCommand
  pub after : List KeptCommand
  pub are : ks ≡ before ++ here ∷ after
  pub stored_before : map stored_as before ≡ first
  pub stored_here : stored_as here ≡ s

pub split : (ks : List KeptCommand) (first : List Stored) (s : Stored) (rest : List Stored) → map stored_as ks ≡ first ++ s ∷ rest → Split ks first s
split [] [] s rest same = let never : ⊥ = cc in absurd never
split [] (f ∷ first) s rest same = let never : ⊥ = cc in absurd never
split (k ∷ ks) [] s rest same = record { before = []; here = k; after = ks; are = refl; stored_before = refl; stored_here = (let e : stored_as k ≡ s = cc in e) }
split (k ∷ ks) (f ∷ first) s rest same =
    let one : stored_as k ≡ f = cc in
    let others : map stored_as ks ≡ first ++ s ∷ rest = cc in
    let more = split ks first s rest others in
    record {
      before = k ∷ more.before;
      here = more.here;
      after = more.after;
      are = ap (λ (l : List KeptCommand). k ∷ l) more.are;
      stored_before = rw (one, more.stored_before) refl;
      stored_here = more.stored_here;
    }

-- ---- each that is kept is accepted after those before it, and kept again

pub record IsNext (before : List KeptCommand) (k : KeptCommand) : Type 0 where
  pub reply : Reply
  pub accepted : IsAnswer (answer_to (registry_after (map command_for before)) (command_for k)) (Ok reply)
  pub kept : kept_of (registry_after (map command_for before)) (command_for k) ≡ k ∷ []

-- a list that ends with one more is cut before the end, or there
ends : {A : Type 0} (before : List A) (k : A) (after xs : List A) (y : A) → before ++ k ∷ after ≡ xs ++ y ∷ []
    → ((before ≡ xs) × (k ≡ y)) ⊎ ((left : List A) × (before ++ k ∷ left ≡ xs))
ends [] k [] [] y same = inl (refl, (let e : k ≡ y = cc in e))
ends [] k (a ∷ after) [] y same = let never : ⊥ = cc in absurd never
ends [] k after (x ∷ xs) y same = inr (xs, (let e : k ≡ x = cc in ap (λ a. a ∷ xs) e))
ends (b ∷ []) k after [] y same = let never : ⊥ = cc in absurd never
ends (b ∷ c ∷ before) k after [] y same = let never : ⊥ = cc in absurd never
ends (b ∷ before) k after (x ∷ xs) y same =
    let one : b ≡ x = cc in
    let others : before ++ k ∷ after ≡ xs ++ y ∷ [] = cc in
    elim (ends before k after xs y others) [
      | inl at ↦ inl (rw (one, at.0) refl, at.1)
      | inr more ↦ inr (more.0, rw (one, more.1) refl)
    ]

module _ (commands : List Command) (c : Command) (reply : Reply) (answer : IsAnswer (answer_to (registry_after commands) c) (Ok reply)) where
  at-end : (k : KeptCommand) → kept_of (registry_after commands) c ≡ k ∷ [] → command_for k ≡ c → (before : List KeptCommand) → before ≡ kept_in commands → IsNext before k
  at-end k kept is before are =
      let lists : registry_after (map command_for before) ≡ registry_after commands = ap (λ (l : List KeptCommand). registry_after (map command_for l)) are ∙ replayed commands in
      record { reply = reply; accepted = rw (lists, is) answer; kept = rw (lists, is) kept }

  by-few : Few (kept_of (registry_after commands) c) c
      → ((before : List KeptCommand) (k : KeptCommand) (after : List KeptCommand) → kept_in commands ≡ before ++ k ∷ after → IsNext before k)
      → (before : List KeptCommand) (k : KeptCommand) (after : List KeptCommand)
      → kept_in commands ++ kept_of (registry_after commands) c ≡ before ++ k ∷ after → IsNext before k
  by-few (inl none) earlier before k after are =
      earlier before k after (sym (ap (λ (l : List KeptCommand). kept_in commands ++ l) none ∙ append-nil (kept_in commands)) ∙ are)
  by-few (inr (j, one, is)) earlier before k after are =
      elim (ends before k after (kept_in commands) j (sym are ∙ ap (λ (l : List KeptCommand). kept_in commands ++ l) one)) [
        | inl at ↦ at-end k (one ∙ ap (λ (i : KeptCommand). i ∷ []) (sym at.1)) (ap command_for at.1 ∙ is) before at.0
        | inr more ↦ earlier before k more.0 (sym more.1)
      ]

next : (commands : List Command) → AreAccepted commands → (before : List KeptCommand) (k : KeptCommand) (after : List KeptCommand)
    → kept_in commands ≡ before ++ k ∷ after → IsNext before k
next _ no_command [] k after are = let never : ⊥ = cc in absurd never
next _ no_command (b ∷ before) k after are = let never : ⊥ = cc in absurd never
next _ (one_more commands c reply accepted answer) before k after are =
    by-few commands c reply answer (few (registry_after commands) c) (next commands accepted) before k after (sym (kept-more no_lists commands c) ∙ are)

-- ---- so no fault comes but want of memory

abbrev Replied : Result Reply Refusal → Result Reply Refusal → Type 0
Replied one other = one ≡ other

one-answer : (answer : Answer) (reply : Reply) (refusal : Refusal) → IsAnswer answer (Ok reply) → IsAnswer answer (Err refusal) → ⊥
one-answer (Told told) reply refusal is other =
    let e : Replied (Ok reply) (Err refusal) = is ∙ sym other in cc
one-answer (WhereSafe pairs one two) reply refusal (inl (safe, is)) (inl (also, other)) =
    let e : Replied (Ok reply) (Err refusal) = is ∙ sym other in cc
one-answer (WhereSafe pairs one two) reply refusal (inl (safe, is)) (inr (unsafe, other)) = unsafe safe
one-answer (WhereSafe pairs one two) reply refusal (inr (unsafe, is)) (inl (safe, other)) = unsafe safe
one-answer (WhereSafe pairs one two) reply refusal (inr (unsafe, is)) (inr (also, other)) =
    let e : Replied (Ok reply) (Err refusal) = is ∙ sym other in cc

abbrev Kept : List KeptCommand → List KeptCommand → Type 0
Kept one other = one ≡ other

no-fault : (before : List KeptCommand) (k : KeptCommand) → IsNext before k → (fault : ReplayFault) → fault ≢ Refused NoMemory
    → IsWhyNotReplayed (registry_after (map command_for before)) k fault → ⊥
no-fault before k it (Refused refusal) known why =
    one-answer (answer_to (registry_after (map command_for before)) (command_for k)) it.reply refusal it.accepted (why (λ is. known (ap (λ (r : Refusal). Refused r) is)))
no-fault before k it (OtherId id) known why =
    let e : Kept (with_id id k ∷ []) (k ∷ []) = sym why.0 ∙ it.kept in why.1 cc
no-fault before k it KnownAlready known why = let e : Kept [] (k ∷ []) = sym why ∙ it.kept in cc

-- a fault at one of what is stored: it is of no registry
pub of-none : (commands : List Command) (s : Stored) (rest all : List Stored) (fault : ReplayFault) → stored_in commands ++ s ∷ rest ≡ all → fault ≢ Refused NoMemory
    → ((k : KeptCommand) → stored_as k ≡ s → IsWhyNotReplayed (registry_after commands) k fault)
    → (others : List Command) → AreAccepted others → stored_in others ≡ all → ⊥
of-none commands s rest all fault are known why others accepted same =
    let it = split (kept_in others) (stored_in commands) s rest (same ∙ sym are) in
    let before : it.before ≡ kept_in commands = kept-are it.before (kept_in commands) it.stored_before in
    let lists : registry_after (map command_for it.before) ≡ registry_after commands = ap (λ (l : List KeptCommand). registry_after (map command_for l)) before ∙ replayed commands in
    no-fault it.before it.here (next others accepted it.before it.here it.after it.are) fault known
    (subst (λ (l : Lists). IsWhyNotReplayed l it.here fault) (sym lists) (why it.here it.stored_here))
