-- Ropes: lists of segments, each of a segment between two earlier ones. All of this is this project's own.
use Rattle.std.specs.Prelude.{◌≡◌, ℕ, suc, ◌≤◌, ◌-◌, ◌^◌, min, length, List, [], ◌∷◌, ◌++◌, get_or}
use Rattle.machine_store.specs.declared.ropes.Joint.{Joint}
use Rattle.machine_store.specs.declared.ropes.Segment.{Segment}

abbrev pub rope_at : List (List Segment) → ℕ → List Segment
rope_at ropes number = get_or ropes number []

abbrev pub joined_by : List (List Segment) → Joint → List Segment
joined_by ropes j = rope_at ropes j.before ++ j.segment ∷ rope_at ropes j.behind

-- earlier ropes, and then one of each joint
abbrev pub ropes_from : List (List Segment) → List Joint → List (List Segment)
ropes_from ropes [] = ropes
ropes_from ropes (j ∷ joints) = ropes_from (ropes ++ joined_by ropes j ∷ []) joints

abbrev pub ropes_of : List Joint → List (List Segment)
ropes_of joints = ropes_from ([] ∷ []) joints

-- a joint of ropes at an index of at most `number`
pub record IsJoint (number : ℕ) (j : Joint) : Type 0 where
  pub before : j.before ≤ number
  pub behind : j.behind ≤ number

abbrev pub AreJoints : ℕ → List Joint → Type 0
AreJoints number [] = Unit {0}
AreJoints number (j ∷ joints) = IsJoint number j × AreJoints (suc number) joints

-- how many segments there are, as far as can be counted
abbrev pub counted : List Segment → ℕ
counted rope = min (length rope) (2 ^ 64 - 1)

-- each joint says how many segments are in its rope, after earlier ropes
abbrev pub AreCounted : List (List Segment) → List Joint → Type 0
AreCounted ropes [] = Unit {0}
AreCounted ropes (j ∷ joints) =
    (j.len ≡ counted (joined_by ropes j)) × AreCounted (ropes ++ joined_by ropes j ∷ []) joints

pub record IsRoped (joints : List Joint) : Type 0 where
  pub ordered : AreJoints 0 joints
  pub counts : AreCounted ([] ∷ []) joints
