-- Stores at which `left` more records, arrays and maps may be opened.
use Rattle.std.proofs.Common.{◌≡◌, ℕ, suc, ◌-◌, ◌≤◌, ◌<◌, true, List, length, refl, arith}
use Rattle.spec_avro.specs.declared.limits.TheConstants.{MOST_DEPTH}
use Rattle.spec_machine.specs.State.{Store, has_current}
use Rattle.program_correctness.proofs.Stores.{IsFit}

pub record HasRoom (left : ℕ) (calls : List ℕ) (s : Store) : Type 0 where
  pub room : left ≡ MOST_DEPTH - length s.frames
  pub shallow : length s.frames ≤ MOST_DEPTH
  -- each call that is open has a frame
  pub few : length calls ≤ length s.frames

-- bytes may be added too
pub record IsReady (left : ℕ) (calls : List ℕ) (s : Store) : Type 0 where
  pub fit : IsFit s
  pub current : has_current s.frames ≡ true
  pub has_room : HasRoom left calls s

-- as many frames
pub room_as : (left : ℕ) (calls : List ℕ) (s t : Store) → HasRoom left calls s → length t.frames ≡ length s.frames → HasRoom left calls t
room_as left calls s t h e = record { room = omega (arith, h.room, e); shallow = omega (arith, h.shallow, e); few = omega (arith, h.few, e) }

-- one frame more
pub record IsDeeper (left : ℕ) (s : Store) (less : ℕ) : Type 0 where
  pub room : left ≡ suc less
  pub inside : less ≡ MOST_DEPTH - suc (length s.frames)
  pub shallow : suc (length s.frames) ≤ MOST_DEPTH

pub one_frame : (left : ℕ) (calls : List ℕ) (s : Store) → HasRoom left calls s → length s.frames < MOST_DEPTH → IsDeeper left s (MOST_DEPTH - suc (length s.frames))
one_frame left calls s h lt = record { room = omega (arith, h.room, lt); inside = refl; shallow = omega (arith, lt) }

pub room_inside : (left less : ℕ) (calls : List ℕ) (s t : Store) → HasRoom left calls s → IsDeeper left s less → length t.frames ≡ suc (length s.frames) → HasRoom less calls t
room_inside left less calls s t h d e = record { room = omega (arith, d.inside, e); shallow = omega (arith, d.shallow, e); few = omega (arith, h.few, e) }
