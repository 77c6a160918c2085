-- Each entry comes to its line, and each pair that is explained to lines of its parts.
use Rattle.std.proofs.Common.{◌≡◌, ℕ, ◌+◌, Bool, true, false, cond, List, [], ◌∷◌, ◌++◌, slice_get, Some, refl, sym, subst, inl, inr, ◌⊎◌}
use Rattle.std.specs.List.{AllByRecursion}
use Rattle.spec_avro.specs.Node.{Node}
use Rattle.spec_avro.specs.Safety.{Pair}
use Rattle.schema_explain.specs.Arrivals.{arrival}
use Rattle.schema_explain.specs.Explanation.{Explained, Step, alone, entry, has_parts, line_at, nothing, step, whole_of}
use Rattle.schema_explain.specs.Lines.{IsLineOf, SomeLine}
use Rattle.schema_explain.specs.Pairs.{is_among}
use Rattle.schema_explain.specs.Parts.{parts_of}
use Rattle.schema_explain.specs.declared.arrivals.Arrival.{Arrival}
use Rattle.schema_explain.specs.declared.entries.Entry.{Entry}
use Rattle.schema_explain.specs.declared.entries.Entry.TheVariants.{Ready, Due}
use Rattle.schema_explain.specs.declared.entries.Task.{Task}
use Rattle.schema_explain.specs.declared.line.Fate.{Fate}
use Rattle.schema_explain.specs.declared.line.Fate.TheVariants.{AsAbove, Parts}
use Rattle.schema_explain.specs.declared.line.Line.{Line}
use Rattle.schema_explain.proofs.Finding.{all_front, all_rest}
use Rattle.schema_explain.proofs.Marked.{among_last, among_more, one_last}

-- only one fate has parts
pub parts_alone : (f : Fate) → has_parts f ≡ true → f ≡ Parts
parts_alone Parts e = refl
parts_alone f e = absurd cc

-- the line of parts that follow
pub record IsLineOfParts (p : Pair) (line : Line) : Type 0 where
  pub writer : line.writer ≡ Some p.0
  pub reader : line.reader ≡ Some p.1
  pub fate : line.fate ≡ Parts

module _ (W R : List Node) where
  abbrev pub at_pair : Pair → Arrival
  at_pair p = arrival W R p.0 p.1

  -- a pair that is due has its line, or is explained where it has parts
  abbrev pub ShownAs : Bool → List Line → List Pair → Pair → Type 0
  ShownAs true lines final p = is_among (p.0, (at_pair p).node) final ≡ true
  ShownAs false lines final p = SomeLine (IsLineOf W R p) lines

  abbrev pub Shown : List Line → List Pair → Pair → Type 0
  Shown lines final p = ShownAs (has_parts (at_pair p).fate) lines final p

  abbrev pub ShownEntry : List Line → List Pair → Entry → Type 0
  ShownEntry lines final (Ready line) = SomeLine (λ l. l ≡ line) lines
  ShownEntry lines final (Due t) = Shown lines final (t.writer, t.reader)

  -- an explained pair has a line, and its parts are shown
  pub record Accounted (lines : List Line) (final : List Pair) (p : Pair) : Type 0 where
    pub line : SomeLine (IsLineOfParts p) lines
    pub depth : ℕ
    pub parts : AllByRecursion (ShownEntry lines final) (parts_of (record { depth = depth; writer = p.0; reader = p.1 }) (slice_get W p.0) (slice_get R p.1))

  pub record Complete (entries : List Entry) (explained : List Pair) (lines : List Line) : Type 0 where
    pub final : List Pair
    pub kept : (p : Pair) → is_among p explained ≡ true → is_among p final ≡ true
    pub shown : AllByRecursion (ShownEntry lines final) entries
    pub accounted : (p : Pair) → is_among p final ≡ true → (is_among p explained ≡ true) ⊎ Accounted lines final p

  -- ---- one line more

  shown_more : (b : Bool) (line : Line) (lines : List Line) (final : List Pair) (p : Pair) → ShownAs b lines final p → ShownAs b (line ∷ lines) final p
  shown_more true line lines final p h = h
  shown_more false line lines final p h = inr h

  entry_more : (line : Line) (lines : List Line) (final : List Pair) (e : Entry) → ShownEntry lines final e → ShownEntry (line ∷ lines) final e
  entry_more line lines final (Ready l) h = inr h
  entry_more line lines final (Due t) h = shown_more (has_parts (at_pair (t.writer, t.reader)).fate) line lines final (t.writer, t.reader) h

  entries_more : (line : Line) (lines : List Line) (final : List Pair) (es : List Entry) → AllByRecursion (ShownEntry lines final) es → AllByRecursion (ShownEntry (line ∷ lines) final) es
  entries_more line lines final [] h = tt
  entries_more line lines final (e ∷ es) h = (entry_more line lines final e h.0, entries_more line lines final es h.1)

  accounted_more : (line : Line) (lines : List Line) (final : List Pair) (p : Pair) → Accounted lines final p → Accounted (line ∷ lines) final p
  accounted_more line lines final p a = record { line = inr a.line; depth = a.depth; parts = entries_more line lines final _ a.parts }

  -- ---- one entry more

  ready_complete : (line : Line) (entries : List Entry) (explained : List Pair) (lines : List Line) → Complete entries explained lines → Complete (Ready line ∷ entries) explained (line ∷ lines)
  ready_complete line entries explained lines c = record {
    final = c.final;
    kept = c.kept;
    shown = (inl refl, entries_more line lines c.final entries c.shown);
    accounted = λ p a. elim (c.accounted p a) [ inl e ↦ inl e | inr b ↦ inr (accounted_more line lines c.final p b) ];
  }

  leaf_complete : (t : Task) (entries : List Entry) (explained : List Pair) (lines : List Line) → has_parts (at_pair (t.writer, t.reader)).fate ≡ false
      → Complete entries explained lines → Complete (Due t ∷ entries) explained (line_at t (at_pair (t.writer, t.reader)) (at_pair (t.writer, t.reader)).fate ∷ lines)
  leaf_complete t entries explained lines leaf c = record {
    final = c.final;
    kept = c.kept;
    shown = (subst (λ (b : Bool). ShownAs b (line_at t (at_pair (t.writer, t.reader)) (at_pair (t.writer, t.reader)).fate ∷ lines) c.final (t.writer, t.reader)) (sym leaf) (inl (record { writer = refl; reader = refl; fate = refl })), entries_more _ lines c.final entries c.shown);
    accounted = λ p a. elim (c.accounted p a) [ inl e ↦ inl e | inr b ↦ inr (accounted_more _ lines c.final p b) ];
  }

  above_complete : (t : Task) (entries : List Entry) (explained : List Pair) (lines : List Line) → has_parts (at_pair (t.writer, t.reader)).fate ≡ true
      → is_among (t.writer, (at_pair (t.writer, t.reader)).node) explained ≡ true
      → Complete entries explained lines → Complete (Due t ∷ entries) explained (line_at t (at_pair (t.writer, t.reader)) AsAbove ∷ lines)
  above_complete t entries explained lines whole there c = record {
    final = c.final;
    kept = c.kept;
    shown = (subst (λ (b : Bool). ShownAs b (line_at t (at_pair (t.writer, t.reader)) AsAbove ∷ lines) c.final (t.writer, t.reader)) (sym whole) (c.kept (t.writer, (at_pair (t.writer, t.reader)).node) there), entries_more _ lines c.final entries c.shown);
    accounted = λ p a. elim (c.accounted p a) [ inl e ↦ inl e | inr b ↦ inr (accounted_more _ lines c.final p b) ];
  }

  module _ (t : Task) (entries : List Entry) (explained : List Pair) (lines : List Line) where
    abbrev new_pair : Pair
    new_pair = (t.writer, (at_pair (t.writer, t.reader)).node)

    abbrev new_parts : List Entry
    new_parts = parts_of (whole_of t (at_pair (t.writer, t.reader))) (slice_get W t.writer) (slice_get R (at_pair (t.writer, t.reader)).node)

    abbrev new_line : Line
    new_line = line_at t (at_pair (t.writer, t.reader)) Parts

    parts_complete : has_parts (at_pair (t.writer, t.reader)).fate ≡ true → Complete (new_parts ++ entries) (explained ++ new_pair ∷ []) lines → Complete (Due t ∷ entries) explained (new_line ∷ lines)
    parts_complete whole c = record {
      final = c.final;
      kept = λ p a. c.kept p (among_more p new_pair explained a);
      shown = (subst (λ (b : Bool). ShownAs b (new_line ∷ lines) c.final (t.writer, t.reader)) (sym whole) (c.kept new_pair (among_last new_pair explained)), entries_more new_line lines c.final entries (all_rest (ShownEntry lines c.final) new_parts entries c.shown));
      accounted = λ p a. elim (c.accounted p a) [ inl e ↦ elim (one_last p new_pair explained e) [ inl old ↦ inl old | inr same ↦ inr (here p same) ] | inr b ↦ inr (accounted_more new_line lines c.final p b) ];
    } where
      here : (p : Pair) → p ≡ new_pair → Accounted (new_line ∷ lines) c.final p
      here p same = subst (Accounted (new_line ∷ lines) c.final) (sym same) (record {
        line = inl (record { writer = refl; reader = refl; fate = refl });
        depth = t.depth + 1;
        parts = entries_more new_line lines c.final new_parts (all_front (ShownEntry lines c.final) new_parts entries c.shown);
      })

    -- by whether it has parts, and whether they are explained
    abbrev step_by : Bool → Bool → Step
    step_by b c =
        cond b (cond c (alone (line_at t (at_pair (t.writer, t.reader)) AsAbove) explained) (record { line = new_line; parts = new_parts; explained = explained ++ new_pair ∷ [] }))
        (alone (line_at t (at_pair (t.writer, t.reader)) (at_pair (t.writer, t.reader)).fate) explained)

    due_complete : (b c : Bool) → has_parts (at_pair (t.writer, t.reader)).fate ≡ b → is_among new_pair explained ≡ c
        → Complete ((step_by b c).parts ++ entries) (step_by b c).explained lines → Complete (Due t ∷ entries) explained ((step_by b c).line ∷ lines)
    due_complete true true whole there c = above_complete t entries explained lines whole there c
    due_complete true false whole new c = parts_complete whole c
    due_complete false b leaf there c = leaf_complete t entries explained lines leaf c

  entry_complete : (e : Entry) (entries : List Entry) (explained : List Pair) (lines : List Line) → Complete ((step W R e explained).parts ++ entries) (step W R e explained).explained lines → Complete (e ∷ entries) explained ((step W R e explained).line ∷ lines)
  entry_complete (Ready line) entries explained lines c = ready_complete line entries explained lines c
  entry_complete (Due t) entries explained lines c = due_complete t entries explained lines (has_parts (at_pair (t.writer, t.reader)).fate) (is_among (t.writer, (at_pair (t.writer, t.reader)).node) explained) refl refl c

  pub complete : (entries : List Entry) (explained : List Pair) (lines : List Line) → Explained W R entries explained lines → Complete entries explained lines
  complete entries explained lines (nothing seen) = record { final = seen; kept = λ p a. a; shown = tt; accounted = λ p a. inl a }
  complete entries explained lines (entry e rest seen more is) = entry_complete e rest seen more (complete _ _ more is)
