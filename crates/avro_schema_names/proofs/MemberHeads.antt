-- The head of a node among those of all.
use Rattle.std.proofs.Common.{◌≡◌, ℕ, zero, suc, ◌+◌, ◌<◌, ◌≤◌, List, [], ◌∷◌, ◌++◌, length, map, take, drop, get_or, Bool, not, ◌&&◌, ◌||◌, refl, sym, ap, ◌∙◌, arith, add-one, true}
use Rattle.std.specs.List.{list_any}
use Rattle.std.proofs.Math.Seq.{drop-cons}
use Rattle.std.proofs.Math.ListN.{drop_of_length-le}
use Rattle.avro_schema_names.specs.declared.draft.Draft as rust
use Rattle.avro_schema_names.specs.Draft.{draft_of, drafts_of}
use Rattle.spec_schema.specs.Head.{Head, head_of, heads_of, is_same_type, is_union_head, head_at, are_apart}
use Rattle.avro_types.specs.Laws.Plain.{map-one}

at_place : (ds : List rust.Draft) (n : ℕ) (d : rust.Draft) → n < length ds → head_at (heads_of (drafts_of ds)) n ≡ head_of (draft_of (get_or ds n d))
at_place [] n d lt = absurd (omega arith)
at_place (x ∷ ds) zero d lt = refl
at_place (x ∷ ds) (suc n) d lt = at_place ds n d (omega arith)

pub head_here : (ds : List rust.Draft) (n : ℕ) (d : rust.Draft) → n < length ds → d ≡ get_or ds n d → head_at (heads_of (drafts_of ds)) n ≡ head_of (draft_of d)
head_here ds n d lt is = at_place ds n d lt ∙ ap (λ x. head_of (draft_of x)) (sym is)

pub any_mapped : {A B : Type 0} (p : B → Bool) (f : A → B) (xs : List A) → list_any p (map f xs) ≡ list_any (λ a. p (f a)) xs
any_mapped p f [] = refl
any_mapped p f (x ∷ xs) = ap (λ b. p (f x) || b) (any_mapped p f xs)

-- ---- members, one after another

abbrev pub heads_at : List Head → List ℕ → List Head
heads_at heads ns = map (head_at heads) ns

-- the members from a place on are apart from each other and from those before
abbrev pub apart_from : List Head → List ℕ → ℕ → Bool
apart_from heads ns i = are_apart (heads_at heads (take i ns)) (heads_at heads (drop i ns))

take-one : (ns : List ℕ) (i n : ℕ) → i < length ns → n ≡ get_or ns i n → take (suc i) ns ≡ take i ns ++ n ∷ []
take-one [] i n lt is = absurd (omega arith)
take-one (m ∷ ns) zero n lt is = ap (λ x. x ∷ []) (sym is)
take-one (m ∷ ns) (suc i) n lt is = ap (λ xs. m ∷ xs) (take-one ns i n (omega arith) is)

pub apart-step : (heads : List Head) (ns : List ℕ) (i n : ℕ) → i < length ns → n ≡ get_or ns i n
    → apart_from heads ns i ≡ ((not (is_union_head (head_at heads n)) && not (list_any (is_same_type (head_at heads n)) (heads_at heads (take i ns)))) && apart_from heads ns (i + 1))
apart-step heads ns i n lt is =
    let there : drop i ns ≡ n ∷ drop (suc i) ns = drop-cons ns i n lt ∙ ap (λ x. x ∷ drop (suc i) ns) (sym is) in
    let before : heads_at heads (take (suc i) ns) ≡ heads_at heads (take i ns) ++ head_at heads n ∷ [] = ap (heads_at heads) (take-one ns i n lt is) ∙ map-one (head_at heads) (take i ns) n in
    rw (there, add-one i, before) refl

pub apart-end : (heads : List Head) (ns : List ℕ) (i : ℕ) → length ns ≤ i → apart_from heads ns i ≡ true
apart-end heads ns i le = rw (drop_of_length-le ns le) refl

any_other : (ns : List ℕ) (i d e : ℕ) → i < length ns → get_or ns i d ≡ get_or ns i e
any_other [] i d e lt = absurd (omega arith)
any_other (m ∷ ns) zero d e lt = refl
any_other (m ∷ ns) (suc i) d e lt = any_other ns i d e (omega arith)

pub apart-at : (heads : List Head) (ns : List ℕ) (i : ℕ) → i < length ns
    → apart_from heads ns i ≡ ((not (is_union_head (head_at heads (get_or ns i 0))) && not (list_any (is_same_type (head_at heads (get_or ns i 0))) (heads_at heads (take i ns)))) && apart_from heads ns (i + 1))
apart-at heads ns i lt = apart-step heads ns i (get_or ns i 0) lt (any_other ns i 0 (get_or ns i 0) lt)

-- one member more
pub take-at : (ns : List ℕ) (i : ℕ) → i < length ns → take (i + 1) ns ≡ take i ns ++ get_or ns i 0 ∷ []
take-at ns i lt = ap (λ n. take n ns) (add-one i) ∙ take-one ns i (get_or ns i 0) lt (any_other ns i 0 (get_or ns i 0) lt)
