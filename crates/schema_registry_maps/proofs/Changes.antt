-- What a map has under its texts once one text has something else.
use Rattle.std.proofs.Common.{◌≡◌, ℕ, ◌+◌, List, [], ◌∷◌, ◌++◌, Bool, true, false, cond, Option, Some, None, refl, sym, ap, subst, ◌∙◌, String, Global}
use Rattle.std.specs.BTreeMap.{BTreeMap, get_by_text}
use Rattle.std.specs.Str.{bytes_eq}
use Rattle.std.proofs.lemmas.Slice.Eq.{bytes_eq-Decides}
use Rattle.schema_registry_maps.specs.Maps.{AreSame, Puts, id_or_next, ids_in}

module _ {X : Type 0} (m n : BTreeMap (String Global) X) (text : List ℕ) where
  -- what the map has under the text and under each other one
  pub at-text : (o : Option X) → get_by_text m text ≡ o → (t : List ℕ) → cond (bytes_eq text t) o (get_by_text m t) ≡ get_by_text m t
  at-text o is t = at (bytes_eq text t) refl
    where
      at : (b : Bool) → bytes_eq text t ≡ b → cond b o (get_by_text m t) ≡ get_by_text m t
      at true same = sym (subst (λ t. get_by_text m t ≡ o) ((bytes_eq-Decides text t).0 same) is)
      at false other = refl

  -- what the text has is put again
  pub put-again : (x : X) → get_by_text m text ≡ Some x → Puts m m text x
  put-again x is t = sym (at-text (Some x) is t)

  -- where the text has again what it had
  pub same-put : (x : X) → get_by_text m text ≡ Some x → Puts m n text x → AreSame m n
  same-put x is put t = put t ∙ at-text (Some x) is t

  -- put, and taken back
  pub same-taken : (after : BTreeMap (String Global) X) (x : X) → get_by_text m text ≡ None → Puts m n text x
      → ((t : List ℕ) → get_by_text after t ≡ cond (bytes_eq text t) None (get_by_text n t)) → AreSame m after
  same-taken after x is put taken t = taken t ∙ at (bytes_eq text t) (put t) ∙ at-text None is t
    where
      at : (b : Bool) → get_by_text n t ≡ cond b (Some x) (get_by_text m t) → cond b None (get_by_text n t) ≡ cond b None (get_by_text m t)
      at true e = refl
      at false e = e

-- one more version under the name of a subject, in terms of what was there
pub versions-put : (m n : BTreeMap (String Global) (List ℕ)) (subject : List ℕ) (o : Option (List ℕ)) (id : ℕ) (ids : List ℕ) → get_by_text m subject ≡ o → ids ≡ ids_in o ++ id ∷ []
    → Puts m n subject ids → Puts m n subject (ids_in (get_by_text m subject) ++ id ∷ [])
versions-put m n subject o id ids is are put = subst (Puts m n subject) (are ∙ ap (λ o. ids_in o ++ id ∷ []) (sym is)) put

-- ---- the id of a text

module _ (ids : BTreeMap (String Global) ℕ) (text : List ℕ) (count : ℕ) where
  pub known-id : (id : ℕ) → get_by_text ids text ≡ Some id → id ≡ id_or_next ids text count
  known-id id is = rw is refl

  pub next-id : get_by_text ids text ≡ None → count + 1 ≡ id_or_next ids text count
  next-id lacking = rw lacking refl
