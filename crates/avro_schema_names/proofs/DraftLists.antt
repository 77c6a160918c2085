-- Lists of drafts, and of their heads, and more of them.
use Rattle.std.proofs.Common.{◌≡◌, ℕ, zero, suc, ◌<◌, List, [], ◌∷◌, ◌++◌, length, map, Bool, true, false, cond, refl, ap, ◌∙◌, arith, slice_get, set}
use Rattle.avro_schema_names.specs.declared.draft.Draft as rust
use Rattle.spec_schema.specs.Draft.{Draft}
use Rattle.avro_schema_names.specs.Draft.{draft_of, drafts_of}
use Rattle.spec_schema.specs.Head.{head_of, heads_of}
use Rattle.avro_schema_names.specs.Laws.Plain.{map-push}

pub length-drafts_of : (ks : List rust.Draft) → length (drafts_of ks) ≡ length ks
length-drafts_of [] = refl
length-drafts_of (k ∷ ks) = ap suc (length-drafts_of ks)

pub length-heads_of : (ns : List Draft) → length (heads_of ns) ≡ length ns
length-heads_of [] = refl
length-heads_of (n ∷ ns) = ap suc (length-heads_of ns)

pub drafts_of-append : (ks ls : List rust.Draft) → drafts_of (ks ++ ls) ≡ drafts_of ks ++ drafts_of ls
drafts_of-append [] ls = refl
drafts_of-append (k ∷ ks) ls = ap (λ ns. draft_of k ∷ ns) (drafts_of-append ks ls)

-- one more, where it was put there
pub drafts_of-pushed : (pushed : Bool) (ks ls : List rust.Draft) (k : rust.Draft) → ls ≡ cond pushed (ks ++ k ∷ []) ks → drafts_of ls ≡ cond pushed (drafts_of ks ++ draft_of k ∷ []) (drafts_of ks)
drafts_of-pushed true ks ls k e = ap drafts_of e ∙ drafts_of-append ks (k ∷ [])
drafts_of-pushed false ks ls k e = ap drafts_of e

pub heads_of-append : (ns ms : List Draft) → heads_of (ns ++ ms) ≡ heads_of ns ++ heads_of ms
heads_of-append [] ms = refl
heads_of-append (n ∷ ns) ms = ap (λ hs. head_of n ∷ hs) (heads_of-append ns ms)

pub drafts_of-set : (ks : List rust.Draft) (i : ℕ) (k : rust.Draft) → drafts_of (set ks i k) ≡ set (drafts_of ks) i (draft_of k)
drafts_of-set [] i k = refl
drafts_of-set (l ∷ ks) zero k = refl
drafts_of-set (l ∷ ks) (suc i) k = ap (λ ns. draft_of l ∷ ns) (drafts_of-set ks i k)

-- ---- lists, and more of them

pub get-front : {A : Type 0} (xs ys : List A) (n : ℕ) → n < length xs → slice_get (xs ++ ys) n ≡ slice_get xs n
get-front [] ys n lt = absurd (omega arith)
get-front (x ∷ xs) ys zero lt = refl
get-front (x ∷ xs) ys (suc n) lt = get-front xs ys n (omega arith)

pub get-extended : {A : Type 0} (all xs ys : List A) (n : ℕ) → all ≡ xs ++ ys → n < length xs → slice_get all n ≡ slice_get xs n
get-extended all xs ys n e lt = ap (λ zs. slice_get zs n) e ∙ get-front xs ys n lt
