-- Code that reads a datum of the writer's and writes what the reader makes of it, as it is in a program.
-- All of this is this project's own.
use Rattle.std.specs.Prelude.{◌≡◌, ℕ, suc, ◌+◌, ◌<◌, pos, true, false, List, [], ◌∷◌, length, Option, Some, None, slice_get}
use Rattle.spec_avro.specs.Shortest.{shortest}
use Rattle.spec_avro.specs.Datum.{Datum}
use Rattle.spec_avro.specs.Node.{Node, Names, FieldNode, NullNode, BooleanNode, IntNode, LongNode, BytesNode, TextNode, FixedNode, EnumNode, ArrayNode, MapNode, UnionNode, RecordNode}
use Rattle.spec_avro.specs.WellFormed.{is_union}
use Rattle.spec_avro.specs.Writing.{written}
use Rattle.spec_avro.specs.declared.mismatch.MismatchKind.TheVariants as kinds
use Rattle.spec_avro.specs.declared.place.Partner.{Partner}
use Rattle.spec_avro.specs.declared.place.Route.{Route}
use Rattle.spec_avro.specs.declared.place.Destination.TheVariants.{Straight, IntoMember, Nowhere, Unmatched}
use Rattle.spec_avro.specs.Matching.{place}
use Rattle.spec_avro.specs.Partners.{has_partner, routes}
use Rattle.spec_avro.specs.Resolution.{lacking, symbol_for}
use Rattle.spec_machine.specs.declared.entry.Entry.{Entry}
use Rattle.spec_machine.specs.declared.entry.Entry.TheVariants as entries
use Rattle.spec_machine.specs.declared.instr.Instr.TheVariants as op
use Rattle.spec_machine.specs.Program.{Program}
use Rattle.spec_machine.specs.Statements.{Section, Write, miss}
use Rattle.program_definition.specs.SkipStands.{At, Skips}
use Rattle.spec_machine.specs.Writing.{is_text}

-- what a symbol becomes: its position with the reader, or a miss
abbrev pub IsEntry : Program → (w r : ℕ) → Option ℕ → Entry → Type 0
IsEntry P w r (Some n) entry = entry ≡ entries.Position n
IsEntry P w r None entry = (m : ℕ) × (entry ≡ entries.Miss m) × (slice_get P.misses m ≡ Some (miss kinds.NoSymbol w r))

-- entries say what the symbols become
abbrev pub AreEntries : Program → (w r : ℕ) → Option Node → List (List ℕ) → List Entry → Type 0
AreEntries P w r reader [] [] = Unit {0}
AreEntries P w r reader (symbol ∷ symbols) (entry ∷ es) =
    IsEntry P w r (symbol_for reader symbol) entry × AreEntries P w r reader symbols es
AreEntries P w r reader _ _ = ⊥

-- a default that is not there, or whose written form is empty
abbrev pub PutsNothing : Option Datum → Type 0
PutsNothing None = Unit {0}
PutsNothing (Some d) = written d ≡ []

-- Begins s a: the routine of section s begins at address a
module _ (W R : List Node) (P : Program) (Begins : Section → ℕ → Type 0) where
  mutual
    -- X(w, r) from one address up to another, where the code after it begins
    pub data Writes : ℕ → ℕ → ℕ → ℕ → Type 0 where
      x_plain : {pc w r q : ℕ} → is_union (slice_get W w) ≡ false → WritesPlain pc w r q → Writes pc w r q
      -- w is a union: BRANCH t; X(member, r) for each member; t holds where each begins
      x_union : {pc w r q : ℕ} (members places : List ℕ) (t : ℕ) → slice_get W w ≡ Some (UnionNode members)
          → At P pc (op.Branch t) → slice_get P.jumps t ≡ Some places → WritesMembers (pc + 1) members r places q
          → Writes pc w r q

    -- X(w, r) where w is no union
    pub data WritesPlain : ℕ → ℕ → ℕ → ℕ → Type 0 where
      -- r is a union, member j is the first that matches: PUT spelling of j; X(w, j)
      x_into : {pc w r q : ℕ} (j member c : ℕ) → place W R w r ≡ IntoMember j member → At P pc (op.Put c)
          → slice_get P.constants c ≡ Some (shortest (pos j)) → Straights (pc + 1) w member q → WritesPlain pc w r q
      -- r is a union, none matches: MISS NoBranch; K(w)
      x_nowhere : {pc w r q : ℕ} (m : ℕ) → place W R w r ≡ Nowhere → At P pc (op.Miss m)
          → slice_get P.misses m ≡ Some (miss kinds.NoBranch w r) → Skips W P Begins (pc + 1) w q → WritesPlain pc w r q
      -- no match: MISS NoMatch; K(w)
      x_unmatched : {pc w r q : ℕ} (m : ℕ) → place W R w r ≡ Unmatched → At P pc (op.Miss m)
          → slice_get P.misses m ≡ Some (miss kinds.NoMatch w r) → Skips W P Begins (pc + 1) w q → WritesPlain pc w r q
      x_straight : {pc w r q : ℕ} → place W R w r ≡ Straight → Straights pc w r q → WritesPlain pc w r q

    -- X(w, r) for nodes that match, neither a union
    pub data Straights : ℕ → ℕ → ℕ → ℕ → Type 0 where
      -- null: nothing
      s_null : {pc w r : ℕ} → slice_get W w ≡ Some NullNode → Straights pc w r pc
      s_boolean : {pc w r : ℕ} → slice_get W w ≡ Some BooleanNode → At P pc op.Bool → Straights pc w r (pc + 1)
      s_int : {pc w r : ℕ} → slice_get W w ≡ Some IntNode → At P pc op.Int → Straights pc w r (pc + 1)
      s_long : {pc w r : ℕ} → slice_get W w ≡ Some LongNode → At P pc op.Long → Straights pc w r (pc + 1)
      -- bytes to bytes; bytes to string
      s_bytes : {pc w r : ℕ} → slice_get W w ≡ Some BytesNode → is_text (slice_get R r) ≡ false → At P pc op.Bytes
          → Straights pc w r (pc + 1)
      s_bytes_text : {pc w r : ℕ} (m : ℕ) → slice_get W w ≡ Some BytesNode → slice_get R r ≡ Some TextNode
          → At P pc (op.BytesText m) → slice_get P.misses m ≡ Some (miss kinds.BytesNotText w r)
          → Straights pc w r (pc + 1)
      s_text : {pc w r : ℕ} → slice_get W w ≡ Some TextNode → At P pc op.Text → Straights pc w r (pc + 1)
      -- FIXED size
      s_fixed : {pc w r : ℕ} (names : Names) (size : ℕ) → slice_get W w ≡ Some (FixedNode names size)
          → At P pc (op.Fixed size) → Straights pc w r (pc + 1)
      -- ENUM t; t says what each symbol becomes
      s_enum : {pc w r : ℕ} (names : Names) (symbols : List (List ℕ)) (default : Option ℕ) (t : ℕ) (es : List Entry)
          → slice_get W w ≡ Some (EnumNode names symbols default) → At P pc (op.Enum t) → slice_get P.maps t ≡ Some es
          → AreEntries P w r (slice_get R r) symbols es → Straights pc w r (pc + 1)
      -- array: BLOCKS; L: NEXT e; X(items); JUMP L; e:
      s_array : {pc w r : ℕ} (item other q : ℕ) → slice_get W w ≡ Some (ArrayNode item)
          → slice_get R r ≡ Some (ArrayNode other) → At P pc op.Blocks → At P (pc + 1) (op.Next (q + 1))
          → Writes (pc + 1 + 1) item other q → At P q (op.Jump (pc + 1)) → Straights pc w r (q + 1)
      -- map: BLOCKS; L: NEXT e; TEXT; X(values); JUMP L; e:
      s_map : {pc w r : ℕ} (value other q : ℕ) → slice_get W w ≡ Some (MapNode value)
          → slice_get R r ≡ Some (MapNode other) → At P pc op.Blocks → At P (pc + 1) (op.Next (q + 1))
          → At P (pc + 1 + 1) op.Text → Writes (pc + 1 + 1 + 1) value other q → At P q (op.Jump (pc + 1))
          → Straights pc w r (q + 1)
      -- records, a default is missing: MISS NoDefault; K(w)
      s_lacking : {pc w r q : ℕ} (names others : Names) (fs gs : List FieldNode) (g : FieldNode) (m : ℕ)
          → slice_get W w ≡ Some (RecordNode names fs) → slice_get R r ≡ Some (RecordNode others gs)
          → lacking fs gs ≡ Some g → At P pc (op.Miss m) → slice_get P.misses m ≡ Some (miss kinds.NoDefault w g.node)
          → Skips W P Begins (pc + 1) w q → Straights pc w r q
      -- records: CALL routine of (w, r)
      s_record : {pc w r : ℕ} (names others : Names) (fs gs : List FieldNode) (a : ℕ)
          → slice_get W w ≡ Some (RecordNode names fs) → slice_get R r ≡ Some (RecordNode others gs)
          → lacking fs gs ≡ None → Begins (Write w r) a → At P pc (op.Call a) → Straights pc w r (pc + 1)

    -- the code of each branch, which begins at its place, after each but the last a JUMP to where the last ends
    pub data WritesMembers : ℕ → List ℕ → ℕ → List ℕ → ℕ → Type 0 where
      x_no_member : {pc r : ℕ} → WritesMembers pc [] r [] pc
      x_last : {pc member r q : ℕ} → is_union (slice_get W member) ≡ false → WritesPlain pc member r q
          → WritesMembers pc (member ∷ []) r (pc ∷ []) q
      x_member : {pc member other r e : ℕ} {members places : List ℕ} (q : ℕ) → is_union (slice_get W member) ≡ false
          → WritesPlain pc member r q → At P q (op.Jump e) → WritesMembers (q + 1) (other ∷ members) r places e
          → WritesMembers pc (member ∷ other ∷ members) r (pc ∷ places) e

  -- for each of w's fields, in order: SLOT j and X where its partner is r's field j, else K
  pub data Fields : ℕ → List Route → ℕ → Type 0 where
    no_field : {pc : ℕ} → Fields pc [] pc
    dropped : {pc e : ℕ} {route : Route} {others : List Route} (q : ℕ) → route.partner ≡ None
        → Skips W P Begins pc route.node q → Fields q others e → Fields pc (route ∷ others) e
    kept : {pc e : ℕ} {route : Route} {others : List Route} (p : Partner) (q : ℕ) → route.partner ≡ Some p
        → At P pc (op.Slot p.position) → Writes (pc + 1) route.node p.node q → Fields q others e
        → Fields pc (route ∷ others) e

  -- for each of r's fields without a partner, in order, whose default's written form is not empty, SLOT j and PUT: of
  -- those from position j on
  pub data Defaults (all : List Route) (gs : List FieldNode) : ℕ → ℕ → ℕ → Type 0 where
    no_default : {pc j : ℕ} → slice_get gs j ≡ None → Defaults all gs pc j pc
    partnered : {pc j e : ℕ} (g : FieldNode) → slice_get gs j ≡ Some g → has_partner j all ≡ true
        → Defaults all gs pc (suc j) e → Defaults all gs pc j e
    none_put : {pc j e : ℕ} (g : FieldNode) → slice_get gs j ≡ Some g → has_partner j all ≡ false
        → PutsNothing g.default → Defaults all gs pc (suc j) e → Defaults all gs pc j e
    one_put : {pc j e : ℕ} (g : FieldNode) (d : Datum) (c : ℕ) → slice_get gs j ≡ Some g → has_partner j all ≡ false
        → g.default ≡ Some d → 0 < length (written d) → At P pc (op.Slot j) → At P (pc + 1) (op.Put c)
        → slice_get P.constants c ≡ Some (written d) → Defaults all gs (pc + 1 + 1) (suc j) e
        → Defaults all gs pc j e

  -- the routine of (w, r) begins here: RECORD number of r's fields; the fields; the defaults; ENDREC; RET
  pub record Routine (pc w r : ℕ) : Type 0 where
    pub names : Names
    pub others : Names
    pub fs : List FieldNode
    pub gs : List FieldNode
    pub m : ℕ
    pub q : ℕ
    pub is_writers : slice_get W w ≡ Some (RecordNode names fs)
    pub is_readers : slice_get R r ≡ Some (RecordNode others gs)
    pub opens : At P pc (op.Record (length gs))
    pub fields : Fields (pc + 1) (routes fs gs) m
    pub defaults : Defaults (routes fs gs) gs m 0 q
    pub closes : At P q op.EndRecord
    pub returns : At P (q + 1) op.Return

  -- X(0, 0), HALT
  pub record Opening : Type 0 where
    pub q : ℕ
    pub writes : Writes 0 0 0 q
    pub halts : At P q op.Halt
