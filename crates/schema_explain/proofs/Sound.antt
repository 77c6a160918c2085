-- Each line with a mismatch is at a bad pair that is reached.
use Rattle.std.proofs.Common.{◌≡◌, ℕ, zero, suc, ◌+◌, Bool, true, false, cond, List, [], ◌∷◌, ◌++◌, slice_get, Some, refl, sym, ap, subst, ◌∙◌}
use Rattle.std.specs.List.{AllByRecursion}
use Rattle.spec_avro.specs.Node.{Node}
use Rattle.spec_avro.specs.WellFormed.{IsWellFormed, is_union}
use Rattle.spec_avro.specs.declared.mismatch.MismatchKind.{MismatchKind}
use Rattle.spec_avro.specs.declared.mismatch.MismatchKind.TheVariants.{NoMatch, NoBranch}
use Rattle.spec_avro.specs.Matching.{place}
use Rattle.spec_avro.specs.declared.place.Destination.{Destination}
use Rattle.spec_avro.specs.declared.place.Destination.TheVariants.{Straight, IntoMember, Nowhere, Unmatched}
use Rattle.spec_avro.specs.Safety.{GoesStraight, Pair, Reached, no_branch, no_match, root, step, to_branch}
use Rattle.schema_explain.specs.Arrivals.{arrival, placed_at, straight}
use Rattle.schema_explain.specs.Explanation.{Explained, Step, alone, entry, has_parts, line_at, nothing, roots, whole_of}
use Rattle.schema_explain.specs.Explanation as explanation
use Rattle.schema_explain.specs.Lines as claims
use Rattle.schema_explain.specs.Lines.{IsAtBadPair, MismatchesAreAtBadPairs}
use Rattle.schema_explain.specs.Pairs.{is_among}
use Rattle.schema_explain.specs.Parts.{parts_of}
use Rattle.schema_explain.specs.declared.arrivals.Arrival.{Arrival}
use Rattle.schema_explain.specs.declared.entries.Entry.{Entry}
use Rattle.schema_explain.specs.declared.entries.Entry.TheVariants.{Ready, Due}
use Rattle.schema_explain.specs.declared.entries.Task.{Task}
use Rattle.schema_explain.specs.declared.line.Fate.TheVariants.{AsAbove, Mismatch, Parts}
use Rattle.schema_explain.specs.declared.line.Line.{Line}
use Rattle.schema_explain.proofs.Arriving.{arrival_at_place, arrival_of_union, branch_straight}
use Rattle.resolver.proofs.Fitting.{is_a_union}
use Rattle.schema_explain.proofs.GoodParts.{Good, GoodLine, good_both, kind_same, never_mismatched, parts_good}

module _ (W R : List Node) where
  -- ---- a pair that is due

  module _ (formed : IsWellFormed R) where
    -- where it arrives is reached, and its parts go straight
    pub record IsArrived (w node : ℕ) : Type 0 where
      pub reached : Reached W R (w, node)
      pub goes : is_union (slice_get W w) ≡ false → GoesStraight W R w node

    arrived : (w r : ℕ) → Reached W R (w, r) → has_parts (arrival W R w r).fate ≡ true → IsArrived w (arrival W R w r).node
    arrived w r reach parts = by_union (is_union (slice_get W w)) refl where
      at_node : (a : Arrival) → arrival W R w r ≡ a → IsArrived w a.node → IsArrived w (arrival W R w r).node
      at_node a is h = subst (λ (x : Arrival). IsArrived w x.node) (sym is) h

      fated : (a : Arrival) → arrival W R w r ≡ a → has_parts a.fate ≡ true
      fated a is = ap (λ (x : Arrival). has_parts x.fate) (sym is) ∙ parts

      by_place : is_union (slice_get W w) ≡ false → (x : Destination) → place W R w r ≡ x → arrival W R w r ≡ placed_at R x (slice_get W w) r → IsArrived w (arrival W R w r).node
      by_place u Straight is to = at_node (placed_at R Straight (slice_get W w) r) to (record { reached = reach; goes = λ v. record { no_union = v; straight = is } })
      by_place u (IntoMember position node) is to = at_node (placed_at R (IntoMember position node) (slice_get W w) r) to (record { reached = step (w, r) (w, node) reach (to_branch position u is); goes = λ v. record { no_union = v; straight = branch_straight W R formed w r position node is } })
      by_place u Nowhere is to = absurd (let clash : false ≡ true = fated (placed_at R Nowhere (slice_get W w) r) to in cc)
      by_place u Unmatched is to = absurd (let clash : false ≡ true = fated (placed_at R Unmatched (slice_get W w) r) to in cc)

      by_union : (b : Bool) → is_union (slice_get W w) ≡ b → IsArrived w (arrival W R w r).node
      by_union true u =
          let m = is_a_union (slice_get W w) u in
          at_node (straight r Parts) (arrival_of_union W R w r m.0 m.1) (record { reached = reach; goes = λ v. absurd (let clash : true ≡ false = sym u ∙ v in cc) })
      by_union false u = by_place u (place W R w r) refl (arrival_at_place W R w r (place W R w r) u refl)

    line_good : (t : Task) → Reached W R (t.writer, t.reader) → GoodLine W R (line_at t (arrival W R t.writer t.reader) (arrival W R t.writer t.reader).fate)
    line_good t reach kind e = by_union (is_union (slice_get W t.writer)) refl where
      a : Arrival
      a = arrival W R t.writer t.reader

      fated : (x : Arrival) → arrival W R t.writer t.reader ≡ x → x.fate ≡ Mismatch kind
      fated x is = ap (λ (y : Arrival). y.fate) (sym is) ∙ e

      by_place : is_union (slice_get W t.writer) ≡ false → (x : Destination) → place W R t.writer t.reader ≡ x → arrival W R t.writer t.reader ≡ placed_at R x (slice_get W t.writer) t.reader → IsAtBadPair W R kind (line_at t (arrival W R t.writer t.reader) (arrival W R t.writer t.reader).fate)
      by_place u Straight is to = absurd (never_mismatched (slice_get W t.writer) (slice_get R t.reader) kind (fated (placed_at R Straight (slice_get W t.writer) t.reader) to))
      by_place u (IntoMember position node) is to = absurd (never_mismatched (slice_get W t.writer) (slice_get R node) kind (fated (placed_at R (IntoMember position node) (slice_get W t.writer) t.reader) to))
      by_place u Nowhere is to = record {
        pair = (t.writer, t.reader);
        reached = reach;
        bad = no_branch u is;
        at = subst (λ (x : MismatchKind). claims.IsMismatchAt W R x (t.writer, t.reader) (line_at t (arrival W R t.writer t.reader) (arrival W R t.writer t.reader).fate)) (kind_same NoBranch kind (fated (placed_at R Nowhere (slice_get W t.writer) t.reader) to)) (claims.no_branch refl (ap (λ (y : Arrival). Some y.node) to));
      }
      by_place u Unmatched is to = record {
        pair = (t.writer, t.reader);
        reached = reach;
        bad = no_match u is;
        at = subst (λ (x : MismatchKind). claims.IsMismatchAt W R x (t.writer, t.reader) (line_at t (arrival W R t.writer t.reader) (arrival W R t.writer t.reader).fate)) (kind_same NoMatch kind (fated (placed_at R Unmatched (slice_get W t.writer) t.reader) to)) (claims.no_match refl (ap (λ (y : Arrival). Some y.node) to));
      }

      by_union : (b : Bool) → is_union (slice_get W t.writer) ≡ b → IsAtBadPair W R kind (line_at t (arrival W R t.writer t.reader) (arrival W R t.writer t.reader).fate)
      by_union true u =
          let m = is_a_union (slice_get W t.writer) u in
          absurd (let clash : Parts ≡ Mismatch kind = fated (straight t.reader Parts) (arrival_of_union W R t.writer t.reader m.0 m.1) in cc)
      by_union false u = by_place u (place W R t.writer t.reader) refl (arrival_at_place W R t.writer t.reader (place W R t.writer t.reader) u refl)

    -- ---- all entries

    module _ (t : Task) (explained : List Pair) where
      abbrev goes_to_arrival : Arrival
      goes_to_arrival = arrival W R t.writer t.reader

      abbrev new_parts : List Entry
      new_parts = parts_of (whole_of t (arrival W R t.writer t.reader)) (slice_get W t.writer) (slice_get R (arrival W R t.writer t.reader).node)

      abbrev step_by : Bool → Bool → Step
      step_by b c =
          cond b (cond c (alone (line_at t (arrival W R t.writer t.reader) AsAbove) explained) (record { line = line_at t (arrival W R t.writer t.reader) Parts; parts = new_parts; explained = explained ++ (t.writer, (arrival W R t.writer t.reader).node) ∷ [] }))
          (alone (line_at t (arrival W R t.writer t.reader) (arrival W R t.writer t.reader).fate) explained)

      due_good : (b c : Bool) → has_parts (arrival W R t.writer t.reader).fate ≡ b → Reached W R (t.writer, t.reader) → GoodLine W R (step_by b c).line × AllByRecursion (Good W R) (step_by b c).parts
      due_good true true is reach = ((λ kind e. absurd cc), tt)
      due_good true false is reach =
          let here = arrived t.writer t.reader reach is in
          ((λ kind e. absurd cc), parts_good W R (t.depth + 1) t.writer (arrival W R t.writer t.reader).node here.reached here.goes)
      due_good false c is reach = (line_good t reach, tt)

    entry_good : (e : Entry) (explained : List Pair) → Good W R e → GoodLine W R (explanation.step W R e explained).line × AllByRecursion (Good W R) (explanation.step W R e explained).parts
    entry_good (Ready line) explained good = (good, tt)
    entry_good (Due t) explained good = due_good t explained (has_parts (arrival W R t.writer t.reader).fate) (is_among (t.writer, (arrival W R t.writer t.reader).node) explained) refl good

    lines_good : (entries : List Entry) (explained : List Pair) (lines : List Line) → Explained W R entries explained lines → AllByRecursion (Good W R) entries → AllByRecursion (GoodLine W R) lines
    lines_good entries explained lines (nothing seen) good = tt
    lines_good entries explained lines (entry e rest seen more is) good =
        let here = entry_good e seen good.0 in
        (here.0, lines_good _ _ more is (good_both W R (explanation.step W R e seen).parts rest here.1 good.1))

  line_at_place : (lines : List Line) (i : ℕ) (line : Line) → slice_get lines i ≡ Some line → AllByRecursion (GoodLine W R) lines → GoodLine W R line
  line_at_place [] i line at all = absurd cc
  line_at_place (l ∷ lines) zero line at all = let same : l ≡ line = cc in subst (GoodLine W R) same all.0
  line_at_place (l ∷ lines) (suc i) line at all = line_at_place lines i line at all.1

  pub at_bad_pairs : IsWellFormed R → MismatchesAreAtBadPairs W R
  at_bad_pairs formed lines i line kind is at e = line_at_place lines i line at (lines_good formed (Due roots ∷ []) [] lines is (root, tt)) kind e
