-- A run follows what decoding gives, in few enough rows: each byte and each unit pays for some.
use Rattle.std.proofs.Common.{◌≡◌, ℕ, suc, ◌+◌, ◌*◌, ◌≤◌, true, List, length, Option, Some, refl, ◌∙◌, subst, arith}
use Rattle.spec_avro.specs.declared.malformed.MalformedKind.TheVariants.{Truncated}
use Rattle.spec_avro.specs.declared.meter.Meter.{Meter}
use Rattle.spec_decoding.specs.Decoding.{Decoding, Complete, Failed, ◌>>=◌}
use Rattle.avro_bytes.specs.Decoding.{map_decoding}
use Rattle.spec_avro.specs.Defect.{Defect, Malformed, Need}
use Rattle.spec_avro.specs.Outcome.{Outcome}
use Rattle.spec_avro.specs.Outcome as outcomes
use Rattle.spec_machine.specs.Program.{Program}
use Rattle.spec_machine.specs.State.{Out, State}
use Rattle.spec_machine.specs.Table.{reads, stop}
use Rattle.program_correctness.proofs.Plain.{plain_row}

module _ (P : Program) (p : List ℕ) (L : ℕ) where
  -- n rows lead from one state to another
  pub data Takes : ℕ → State → State → Type 0 where
    no_row : {s : State} → Takes 0 s s
    a_row : {n : ℕ} {s e : State} (d : State) → plain_row P p s ≡ Some d → Takes n d e → Takes (suc n) s e

  -- what a state has paid: its place, and L rows for each unit
  abbrev pub cost : State → ℕ
  cost s = s.pos + L * s.units

  -- a run leads on, in at most `k` rows more than are paid
  pub record Comes (k : ℕ) (s d : State) : Type 0 where
    pub rows : ℕ
    pub taken : Takes rows s d
    pub bound : rows + cost s ≤ k + cost d

  pub record Ends (k : ℕ) (s : State) (o : Outcome) : Type 0 where
    pub last : State
    pub comes : Comes k s last
    pub is_end : last.end ≡ Some (Out o)

  -- the outcome of a payload that has a defect
  abbrev pub told : Defect → Outcome
  told (Malformed kind at) = outcomes.Malformed kind at
  told Need = outcomes.Malformed Truncated (length p)

  -- the run comes to a state that is such, where a value is decoded, and else ends with the defect
  abbrev pub Follows : {A : Type 0} → ℕ → State → Decoding A → (A → ℕ → Meter → State → Type 0) → Type 0
  Follows k s (Complete a to m) Q = (d : State) × Comes k s d × Q a to m d
  Follows k s (Failed defect) Q = Ends (k + 1) s (told defect)

  -- ---- rows

  pub stay : (k : ℕ) (s : State) → Comes k s s
  stay k s = record { rows = 0; taken = no_row; bound = omega arith }

  pub one_row : (k : ℕ) (s d : State) → plain_row P p s ≡ Some d → 1 + cost s ≤ k + cost d → Comes k s d
  one_row k s d r h = record { rows = 1; taken = a_row d r no_row; bound = h }

  pub row_then : {A : Type 0} (k l : ℕ) (s d : State) (g : Decoding A) (Q : A → ℕ → Meter → State → Type 0) → plain_row P p s ≡ Some d → Follows k d g Q → 1 + k + cost s ≤ l + cost d → Follows l s g Q
  row_then k l s d (Complete a to m) Q r f h = (f.0, record { rows = suc f.1.rows; taken = a_row d r f.1.taken; bound = omega (arith, f.1.bound) }, f.2)
  row_then k l s d (Failed defect) Q r f h = record { last = f.last; comes = record { rows = suc f.comes.rows; taken = a_row d r f.comes.taken; bound = omega (arith, f.comes.bound) }; is_end = f.is_end }

  pub end_row : (k : ℕ) (s : State) (o : Outcome) → plain_row P p s ≡ stop (Out o) s → Ends (k + 1) s o
  end_row k s o r = record { last = record s { end = Some (Out o) }; comes = one_row (k + 1) s (record s { end = Some (Out o) }) r (omega arith); is_end = refl }

  defect_row : {A : Type 0} (k : ℕ) (s : State) (d : Defect) (row : A → ℕ → Meter → Option State) → plain_row P p s ≡ reads P p true s (Failed d) row → Ends (k + 1) s (told d)
  defect_row k s (Malformed kind at) row r = end_row k s (outcomes.Malformed kind at) r
  defect_row k s Need row r = end_row k s (outcomes.Malformed Truncated (length p)) r

  -- where a row leads after what it reads, and what follows from there
  pub record Leads {B : Type 0} (k : ℕ) (s : State) (next : Option State) (g : Decoding B) (Q : B → ℕ → Meter → State → Type 0) : Type 0 where
    pub new : State
    pub row_is : next ≡ Some new
    pub left : ℕ
    pub follows : Follows left new g Q
    pub pays : 1 + left + cost s ≤ k + cost new

  -- a row that reads, and what follows it
  pub reads_then : {A B : Type 0} (k : ℕ) (s : State) (g : Decoding A) (f : A → ℕ → Meter → Decoding B) (row : A → ℕ → Meter → Option State) (Q : B → ℕ → Meter → State → Type 0) → plain_row P p s ≡ reads P p true s g row
      → ((a : A) (to : ℕ) (m : Meter) → g ≡ Complete a to m → Leads k s (row a to m) (f a to m) Q) → Follows k s (g >>= f) Q
  reads_then k s (Complete a to m) f row Q r rest = let x = rest a to m refl in row_then x.left k s x.new (f a to m) Q (r ∙ x.row_is) x.follows x.pays
  reads_then k s (Failed d) f row Q r rest = defect_row k s d row r

  -- where a row lands after what it reads
  pub record Lands (k : ℕ) (s : State) (next : Option State) (Q : State → Type 0) : Type 0 where
    pub new : State
    pub row_is : next ≡ Some new
    pub is_such : Q new
    pub pays : 1 + cost s ≤ k + cost new

  -- a row that reads all there is
  pub reads_all : {A : Type 0} (k : ℕ) (s : State) (g : Decoding A) (row : A → ℕ → Meter → Option State) (Q : A → ℕ → Meter → State → Type 0) → plain_row P p s ≡ reads P p true s g row
      → ((a : A) (to : ℕ) (m : Meter) → g ≡ Complete a to m → Lands k s (row a to m) (Q a to m)) → Follows k s g Q
  reads_all k s (Complete a to m) row Q r rest = let x = rest a to m refl in (x.new, one_row k s x.new (r ∙ x.row_is) x.pays, x.is_such)
  reads_all k s (Failed d) row Q r rest = defect_row k s d row r

  -- ---- one part after another

  takes_on : {m n : ℕ} {c d e : State} → Takes m c d → Takes n d e → Takes (m + n) c e
  takes_on {n = n} {d = d} {e = e} no_row t = let z : n ≡ 0 + n = omega arith in subst (λ (k : ℕ). Takes k d e) z t
  takes_on {n = n} {e = e} (a_row {n = m} {s = c} d r s) t = let z : suc (m + n) ≡ suc m + n = omega arith in subst (λ (k : ℕ). Takes k c e) z (a_row d r (takes_on s t))

  pub comes_on : (k l m : ℕ) (c d e : State) → Comes k c d → Comes l d e → k + l ≤ m → Comes m c e
  comes_on k l m c d e a b h = record { rows = a.rows + b.rows; taken = takes_on a.taken b.taken; bound = omega (arith, a.bound, b.bound) }

  pub ends_on : (k l m : ℕ) (c d : State) (o : Outcome) → Comes k c d → Ends l d o → k + l ≤ m → Ends m c o
  ends_on k l m c d o a b h = record { last = b.last; comes = comes_on k l m c d b.last a b.comes h; is_end = b.is_end }

  pub ends_later : (j k : ℕ) (s : State) (o : Outcome) → j ≤ k → Ends j s o → Ends k s o
  ends_later j k s o h e = record { last = e.last; comes = record { rows = e.comes.rows; taken = e.comes.taken; bound = omega (arith, e.comes.bound) }; is_end = e.is_end }

  comes_then : {A : Type 0} (j k m : ℕ) (c d : State) (g : Decoding A) (Q : A → ℕ → Meter → State → Type 0) → Comes j c d → Follows k d g Q → j + k ≤ m → Follows m c g Q
  comes_then j k m c d (Complete a to u) Q r f h = (f.0, comes_on j k m c d f.0 r f.1 h, f.2)
  comes_then j k m c d (Failed defect) Q r f h = ends_on j (k + 1) (m + 1) c d (told defect) r f (omega arith)

  pub follows_then : {A B : Type 0} (j k m : ℕ) (c : State) (g : Decoding A) (f : A → ℕ → Meter → Decoding B) (Q : A → ℕ → Meter → State → Type 0) (Q' : B → ℕ → Meter → State → Type 0) → Follows j c g Q
      → ((a : A) (to : ℕ) (u : Meter) (d : State) → Q a to u d → Follows k d (f a to u) Q') → j + k ≤ m → Follows m c (g >>= f) Q'
  follows_then j k m c (Complete a to u) f Q Q' r rest h = comes_then j k m c r.0 (f a to u) Q' r.1 (rest a to u r.0 r.2) h
  follows_then j k m c (Failed defect) f Q Q' r rest h = ends_later (j + 1) (m + 1) c (told defect) (omega arith) r

  -- what is made of a value
  pub follows_map : {A B : Type 0} (k : ℕ) (c : State) (g : Decoding A) (f : A → B) (Q : A → ℕ → Meter → State → Type 0) (Q' : B → ℕ → Meter → State → Type 0) → Follows k c g Q
      → ((a : A) (to : ℕ) (u : Meter) (d : State) → Q a to u d → Q' (f a) to u d) → Follows k c (map_decoding f g) Q'
  follows_map k c (Complete a to u) f Q Q' r h = (r.0, r.1, h a to u r.0 r.2)
  follows_map k c (Failed defect) f Q Q' r h = r

  -- what is known of the value, and less of the state
  pub follows_so : {A : Type 0} (j k : ℕ) (c : State) (g : Decoding A) (Q Q' : A → ℕ → Meter → State → Type 0) → j ≤ k → Follows j c g Q
      → ((a : A) (to : ℕ) (u : Meter) (d : State) → g ≡ Complete a to u → Q a to u d → Q' a to u d) → Follows k c g Q'
  follows_so j k c (Complete a to u) Q Q' le r h = (r.0, record { rows = r.1.rows; taken = r.1.taken; bound = omega (arith, r.1.bound) }, h a to u r.0 refl r.2)
  follows_so j k c (Failed defect) Q Q' le r h = ends_later (j + 1) (k + 1) c (told defect) (omega arith) r

  -- a row after what was read
  pub follows_row : {A : Type 0} (j k : ℕ) (c : State) (g : Decoding A) (Q Q' : A → ℕ → Meter → State → Type 0) → j + 1 ≤ k → Follows j c g Q
      → ((a : A) (to : ℕ) (u : Meter) (d : State) → Q a to u d → Lands 1 d (plain_row P p d) (Q' a to u)) → Follows k c g Q'
  follows_row j k c (Complete a to u) Q Q' le r h = let x = h a to u r.0 r.2 in (x.new, comes_on j 1 k c r.0 x.new r.1 (one_row 1 r.0 x.new x.row_is x.pays) le, x.is_such)
  follows_row j k c (Failed defect) Q Q' le r h = ends_later (j + 1) (k + 1) c (told defect) (omega arith) r
