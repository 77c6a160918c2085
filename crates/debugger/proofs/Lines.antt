-- The line of a frame by what is seen of it, and lines one after another.
use Rattle.std.proofs.Common.{◌≡◌, ℕ, zero, suc, ◌+◌, List, [], ◌∷◌, ◌++◌, take, Option, Some, None, slice_get, refl, sym, ap, ◌∙◌, append_assoc, add-one}
use Rattle.std.specs.Prelude.{codes, option_map, option_to_list}
use Rattle.std.specs.List.{flat_map}
use Rattle.std.proofs.lemmas.List.{append-nil}
use Rattle.spec_machine.specs.State.{Blocks, Frame, Rec, Skip, SkipBlocks}
use Rattle.machine_store.specs.declared.views.FrameView.TheVariants as views
use Rattle.machine_store.specs.Viewing.{slots_in, view_of}
use Rattle.spec_lines.specs.Show.{frame_line}
use Rattle.spec_lines.specs.ShownWords.{bytes, number_or_none}

abbrev line_of : Option Frame → List ℕ
line_of o = flat_map frame_line (option_to_list o)

-- ---- by what is seen

pub record_line : (o : Option Frame) (cur : Option ℕ) (n : ℕ) → option_map view_of o ≡ Some (views.Record cur n) → line_of o ≡ codes "rec" ++ number_or_none cur ++ flat_map bytes (slots_in o) ++ 10 ∷ []
record_line None cur n e = absurd cc
record_line (Some (Rec other slots)) cur n e =
    let z : other ≡ cur = cc in
    append-nil (frame_line (Rec other slots)) ∙ ap (λ (x : Option ℕ). codes "rec" ++ number_or_none x ++ flat_map bytes slots ++ 10 ∷ []) z
record_line (Some Skip) cur n e = absurd cc
record_line (Some (Blocks w items buffer)) cur n e = absurd cc
record_line (Some (SkipBlocks w)) cur n e = absurd cc

-- ---- one after another

module _ {A : Type 0} (line : A → List ℕ) where
  taken : (i : ℕ) (xs : List A) → flat_map line (take (suc i) xs) ≡ flat_map line (take i xs) ++ flat_map line (option_to_list (slice_get xs i))
  taken zero [] = refl
  taken (suc i) [] = refl
  taken zero (x ∷ xs) = refl
  taken (suc i) (x ∷ xs) = ap (λ (y : List ℕ). line x ++ y) (taken i xs) ∙ sym (append_assoc (line x) (flat_map line (take i xs)) (flat_map line (option_to_list (slice_get xs i))))

  pub one_more : (start out : List ℕ) (i : ℕ) (xs : List A) → out ≡ start ++ flat_map line (take i xs) → out ++ flat_map line (option_to_list (slice_get xs i)) ≡ start ++ flat_map line (take (i + 1) xs)
  one_more start out i xs so_far =
      ap (λ (y : List ℕ). y ++ flat_map line (option_to_list (slice_get xs i))) so_far
      ∙ append_assoc start (flat_map line (take i xs)) (flat_map line (option_to_list (slice_get xs i)))
      ∙ ap (λ (y : List ℕ). start ++ y) (sym (taken i xs))
      ∙ ap (λ (k : ℕ). start ++ flat_map line (take k xs)) (sym (add-one i))

  -- the same, where the line of one that is there was added
  pub one_more_there : (start out new : List ℕ) (i : ℕ) (xs : List A) → Some new ≡ option_map (λ (x : A). out ++ line x) (slice_get xs i) → out ≡ start ++ flat_map line (take i xs) → new ≡ start ++ flat_map line (take (i + 1) xs)
  one_more_there start out new i xs e so_far = by_one (slice_get xs i) refl e
    where
      by_one : (o : Option A) → slice_get xs i ≡ o → Some new ≡ option_map (λ (x : A). out ++ line x) o → new ≡ start ++ flat_map line (take (i + 1) xs)
      by_one None is e = absurd cc
      by_one (Some x) is e =
          let z : new ≡ out ++ line x = cc in
          z ∙ ap (λ (y : List ℕ). out ++ y) (sym (append-nil (line x))) ∙ ap (λ (o : Option A). out ++ flat_map line (option_to_list o)) (sym is) ∙ one_more start out i xs so_far
