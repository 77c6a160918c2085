-- Where decoding gives a value, and what the bytes of a place spell. This project's own.
use Rattle.std.specs.Prelude.{◌≡◌, ℕ, ◌+◌, List, ◌++◌, length, drop}
use Rattle.spec_decoding.specs.Decoding.{Decoding, Complete, Failed}

abbrev pub IsComplete : {V : Type 0} → Decoding V → Type 0
IsComplete (Complete v to m) = Unit {0}
IsComplete (Failed d) = ⊥

abbrev pub map_decoding : {A B : Type 0} → (A → B) → Decoding A → Decoding B
map_decoding f (Complete v to m) = Complete (f v) to m
map_decoding f (Failed d) = Failed d

-- the bytes from one offset up to another satisfy `P`
pub record Stands (P : List ℕ → Type 0) (all : List ℕ) (at to : ℕ) : Type 0 where
  pub bytes : List ℕ
  pub rest : List ℕ
  pub parts : drop at all ≡ bytes ++ rest
  pub end : to ≡ at + length bytes
  pub spelled : P bytes
