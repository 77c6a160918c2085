-- The steps that a trail ends with.
use Rattle.std.proofs.Common.{◌≡◌, ℕ, zero, suc, ◌-◌, [], ◌∷◌, ◌++◌, length, take, arith, refl, sym, ap, ◌∙◌, append_assoc, append-nil}
use Rattle.spec_schema.specs.declared.schema_error.SchemaError.{SchemaError}
use Rattle.avro_schema_paths.specs.Places.{Path}
use Rattle.avro_schema_paths.specs.declared.step.Step.{Step}
use Rattle.avro_schema_faults.specs.Faults.{ComesTo, Fails, HasSoundParts, Visit, here, within}
use Rattle.avro_schema_faults.specs.Trail.{Ends}

-- the value itself is at fault
pub ends-here : (e : SchemaError) (v : Visit) (before after : Path) → after ≡ before → Fails e v → HasSoundParts v → Ends e v before after
ends-here e v before after same fails sound = record { path = []; is = same ∙ sym (append-nil before); fault = here fails sound }

-- a part is
pub ends-within : (e : SchemaError) (v w : Visit) (s : Step) (before after : Path) → ComesTo v s w → Ends e w (before ++ s ∷ []) after → Ends e v before after
ends-within e v w s before after comes h = record { path = s ∷ h.path; is = h.is ∙ append_assoc before (s ∷ []) h.path; fault = within comes h.fault }

take-front : (front : Path) (s : Step) (n : ℕ) → n ≡ length front → take n (front ++ s ∷ []) ≡ front
take-front [] s n e = rw e refl
take-front (x ∷ front) s zero e = absurd (omega (arith, e))
take-front (x ∷ front) s (suc n) e = ap (λ xs. x ∷ xs) (take-front front s n (omega (arith, e)))

length-more : (front : Path) (s : Step) → length (front ++ s ∷ []) ≡ suc (length front)
length-more [] s = refl
length-more (x ∷ front) s = ap suc (length-more front s)

-- a trail without its last step
pub popped : (front all : Path) (s : Step) (n : ℕ) → all ≡ front ++ s ∷ [] → n ≡ length all → take (n - 1) all ≡ front
popped front all s n e is = let len : n - 1 ≡ length front = (let l = length-more front s in let m = is ∙ ap length e in omega (arith, l, m)) in rw (e, len) (take-front front s (length front) refl)
