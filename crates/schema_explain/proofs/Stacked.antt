-- The lines so far and those of the stack are the lines of all, one entry after another.
use Rattle.std.proofs.Common.{◌≡◌, ℕ, ◌+◌, ◌-◌, ◌*◌, ◌<◌, ◌≤◌, List, [], ◌∷◌, ◌++◌, length, reverse, refl, sym, ap, subst, ◌∙◌, append_assoc, arith}
use Rattle.std.proofs.lemmas.List.{append-nil, length-append, length-reverse, reverse-append}
use Rattle.spec_avro.specs.Node.{Node}
use Rattle.spec_avro.specs.Safety.{Pair}
use Rattle.schema_explain.specs.Explanation.{Explained, IsExplanation, nothing, entry, step}
use Rattle.schema_explain.specs.declared.entries.Entry.{Entry}
use Rattle.schema_explain.specs.declared.line.Line.{Line}

-- what is on top of a stack comes first
pub top_first : (old new : List Entry) (e : Entry) → old ≡ new ++ e ∷ [] → reverse old ≡ e ∷ reverse new
top_first old new e is = ap reverse is ∙ reverse-append new (e ∷ [])

module _ (W R : List Node) where
  -- whatever the lines of the entries are, these before them are the lines of all
  abbrev pub Leads : List Entry → List Pair → List Line → Type 0
  Leads entries explained lines = (rest : List Line) → Explained W R entries explained rest → IsExplanation W R (lines ++ rest)

  pub leads_on : (before entries parts after : List Entry) (explained more : List Pair) (lines now : List Line) (e : Entry) (line : Line)
      → before ≡ e ∷ entries → line ≡ (step W R e explained).line → parts ≡ (step W R e explained).parts → more ≡ (step W R e explained).explained
      → after ≡ parts ++ entries → now ≡ lines ++ line ∷ [] → Leads before explained lines → Leads after more now
  leads_on before entries parts after explained more lines now e line first line_is parts_are more_are put added leads rest is =
      let s = step W R e explained in
      let there : Explained W R (s.parts ++ entries) s.explained rest = subst (λ (x : List Entry). Explained W R x s.explained rest) (put ∙ ap (λ (x : List Entry). x ++ entries) parts_are) (subst (λ (x : List Pair). Explained W R after x rest) more_are is) in
      subst (IsExplanation W R) (sym (ap (λ (x : List Line). x ++ rest) (added ∙ ap (λ (x : Line). lines ++ x ∷ []) line_is) ∙ append_assoc lines (s.line ∷ []) rest))
      (leads (s.line ∷ rest) (subst (λ (x : List Entry). Explained W R x explained (s.line ∷ rest)) (sym first) (entry e entries explained rest there)))

  pub all_done : (entries : List Entry) (explained : List Pair) (lines : List Line) → entries ≡ [] → Leads entries explained lines → IsExplanation W R lines
  all_done entries explained lines none leads =
      subst (IsExplanation W R) (append-nil lines) (leads [] (subst (λ (x : List Entry). Explained W R x explained []) (sym none) (nothing explained)))

-- a stack with these in place of its top
pub length_after : (before new after : List Entry) (parts : List Entry) (e : Entry) → before ≡ new ++ e ∷ [] → reverse after ≡ parts ++ reverse new → length after + 1 ≡ length parts + length before
length_after before new after parts e was put =
    omega (arith, length-reverse after, length-reverse new, ap length put, ap length was, length-append parts (reverse new), length-append new (e ∷ []))

-- each pair that is explained is worth more than its parts
pub less_left : (total old new parts before after : ℕ) → new ≤ total → parts + 4096 * old ≤ 4096 * new → after + 1 ≡ parts + before → (total - new) * 4097 + after < (total - old) * 4097 + before
less_left total old new parts before after few more put = omega (arith, few, more, put)

pub nothing_left : (entries : List Entry) → length entries ≡ 0 → reverse entries ≡ []
nothing_left [] none = refl
nothing_left (e ∷ entries) none = absurd (omega (arith, none))
