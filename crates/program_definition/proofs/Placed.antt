-- What a program has for a statement, and for statements.
use Rattle.std.proofs.Common.{◌≡◌, ℕ, ◌+◌, ◌-◌, List, [], ◌∷◌, ◌++◌, length, map, Some, subst, arith}
use Rattle.std.specs.Prelude.{slice_get}
use Rattle.spec_machine.specs.declared.entry.Entry.{Entry}
use Rattle.spec_machine.specs.declared.entry.Entry.TheVariants as entries
use Rattle.spec_machine.specs.declared.instr.Instr.TheVariants as op
use Rattle.spec_machine.specs.Program.{Program}
use Rattle.spec_machine.specs.Statements.{Section, Statement, Op, Put, Miss, BytesText, Enum, Call, Ahead, Back, Branch, Lost, Target, To, Lacks}
use Rattle.program_definition.specs.SkipStands.{At}

-- an entry says what a symbol becomes
abbrev pub IsTarget : Program → Entry → Target → Type 0
IsTarget P (entries.Position n) (To m) = n ≡ m
IsTarget P (entries.Miss n) (Lacks m) = slice_get P.misses n ≡ Some m
IsTarget P _ _ = ⊥

abbrev pub AreTargets : Program → List Entry → List Target → Type 0
AreTargets P [] [] = Unit {0}
AreTargets P (entry ∷ es) (target ∷ targets) = IsTarget P entry target × AreTargets P es targets
AreTargets P _ _ = ⊥

module _ (P : Program) (Begins : Section → ℕ → Type 0) where
  abbrev pub Stand : ℕ → Statement → Type 0
  Stand pc (Op i) = At P pc i
  Stand pc (Put bytes) = (c : ℕ) × At P pc (op.Put c) × (slice_get P.constants c ≡ Some bytes)
  Stand pc (Miss x) = (m : ℕ) × At P pc (op.Miss m) × (slice_get P.misses m ≡ Some x)
  Stand pc (BytesText x) = (m : ℕ) × At P pc (op.BytesText m) × (slice_get P.misses m ≡ Some x)
  Stand pc (Enum targets) = (t : ℕ) × (es : List Entry) × At P pc (op.Enum t) × (slice_get P.maps t ≡ Some es) × AreTargets P es targets
  Stand pc (Call s) = (a : ℕ) × At P pc (op.Call a) × Begins s a
  Stand pc (Ahead go far) = At P pc (go (pc + far))
  Stand pc (Back far) = At P pc (op.Jump (pc - far))
  Stand pc (Branch fars) = (t : ℕ) × At P pc (op.Branch t) × (slice_get P.jumps t ≡ Some (map (λ far. pc + far) fars))
  Stand pc Lost = ⊥

  abbrev pub Placed : ℕ → List Statement → Type 0
  Placed pc [] = Unit {0}
  Placed pc (l ∷ ls) = Stand pc l × Placed (pc + 1) ls

  pub placed_front : (pc : ℕ) (a b : List Statement) → Placed pc (a ++ b) → Placed pc a
  placed_front pc [] b h = tt
  placed_front pc (l ∷ a) b h = (h.0, placed_front (pc + 1) a b h.1)

  pub placed_back : (pc : ℕ) (a b : List Statement) → Placed pc (a ++ b) → Placed (pc + length a) b
  placed_back pc [] b h = subst (λ n. Placed n b) (let e : pc ≡ pc + 0 = omega arith in e) h
  placed_back pc (l ∷ a) b h = subst (λ n. Placed n b) (let e : pc + 1 + length a ≡ pc + length (l ∷ a) = omega arith in e) (placed_back (pc + 1) a b h.1)
