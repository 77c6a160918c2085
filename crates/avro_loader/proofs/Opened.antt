-- The head of an image: it is the letters and the byte of its version, and is read again.
use Rattle.std.proofs.Common.{◌≡◌, ℕ, zero, suc, cond, List, [], ◌∷◌, ◌++◌, Ok, Err, refl, ap, subst, ◌∙◌, arith, eqb}
use Rattle.std.proofs.lemmas.Bool.{eqb-true}
use Rattle.std.specs.Prelude.{codes}
use Rattle.std.specs.Int.{w32}
use Rattle.avro_loader.specs.ImageReading.{◌>>=◌, Read, number_at, version_at, opened, ended}
use Rattle.spec_machine.specs.ImageSpelling.{long, version_byte}
use Rattle.avro_loader.specs.declared.image_fault.ImageFault.TheVariants.{BadMagic}
use Rattle.avro_loader.specs.declared.head.TheConstants.{MAGIC}
use Rattle.avro_loader.specs.declared.version.Format.{Format}
use Rattle.spec_machine.specs.declared.version.Version.{Version}
use Rattle.spec_machine.specs.declared.version.Version.TheVariants.{One, Two}
use Rattle.avro_loader.proofs.Spelled.{longs}
use Rattle.avro_loader.proofs.Steps.{bind_ok, where_true, ok_is}
use Rattle.avro_loader.proofs.Taking.{IsBytes, IsBytes-rest, Takes, Takes-then}

version_taken : (bytes : List ℕ) (x : Version × List ℕ) → IsBytes bytes → version_at bytes ≡ Ok x → Takes bytes (version_byte x.0 ∷ []) x.1
version_taken [] x fits e = absurd cc
version_taken (zero ∷ bytes) x fits e = absurd cc
version_taken (suc zero ∷ bytes) x fits e =
    subst (λ (y : Version × List ℕ). Takes (1 ∷ bytes) (version_byte y.0 ∷ []) y.1) (ok_is (One, bytes) x e) (record { parts = refl; rest_fits = IsBytes-rest 1 bytes fits })
version_taken (suc (suc zero) ∷ bytes) x fits e =
    subst (λ (y : Version × List ℕ). Takes (2 ∷ bytes) (version_byte y.0 ∷ []) y.1) (ok_is (Two, bytes) x e) (record { parts = refl; rest_fits = IsBytes-rest 2 bytes fits })
version_taken (suc (suc (suc b)) ∷ bytes) x fits e = absurd cc

abbrev versioned : ℕ × List ℕ → Read Version
versioned magic = cond (eqb magic.0 MAGIC) (version_at magic.1) (Err BadMagic)

pub opened_taken : (bytes : List ℕ) (x : Version × List ℕ) → IsBytes bytes → opened bytes ≡ Ok x → Takes bytes (codes "AVRP" ++ (version_byte x.0 ∷ [])) x.1
unfolding opened
opened_taken bytes x fits e =
    let n = bind_ok (number_at w32 bytes) versioned x e in
    let w = where_true (eqb n.0.0 MAGIC) (version_at n.0.1) BadMagic x n.2 in
    let first = longs.takes bytes n.0 fits n.1 in
    let magic : Takes bytes (codes "AVRP") n.0.1 = subst (λ (m : ℕ). Takes bytes (long m) n.0.1) (eqb-true _ _ w.0) first in
    Takes-then bytes (codes "AVRP") n.0.1 (version_byte x.0 ∷ []) x.1 magic (version_taken n.0.1 x first.rest_fits w.1)

version_again : (v : Version) (rest : List ℕ) → version_at (version_byte v ∷ rest) ≡ Ok (v, rest)
version_again One rest = refl
version_again Two rest = refl

pub opened_again : (v : Version) (rest : List ℕ) → opened (codes "AVRP" ++ (version_byte v ∷ rest)) ≡ Ok (v, rest)
unfolding opened
opened_again v rest = ap (λ (r : Read ℕ). r >>= versioned) (longs.again MAGIC (version_byte v ∷ rest) (omega arith)) ∙ version_again v rest

-- where an image has ended, nothing is left
pub ended_ok : (f : Format) (left : List ℕ) → ended f left ≡ Ok tt → left ≡ []
ended_ok f [] e = refl
ended_ok f (b ∷ left) e = absurd cc
