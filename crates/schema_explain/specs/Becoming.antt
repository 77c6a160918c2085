-- What the fates say: what resolution makes of a datum of a pair.
use Rattle.std.specs.Prelude.{◌≡◌, ℕ, if◌then◌else◌, List, Option, Some, None, Ok}
use Rattle.std.specs.Str.{is_utf8}
use Rattle.spec_avro.specs.Conforming.{Conforms}
use Rattle.spec_avro.specs.Datum.{Datum, IntDatum, LongDatum, BytesDatum, TextDatum, UnionDatum}
use Rattle.spec_avro.specs.Node.{Node}
use Rattle.spec_avro.specs.declared.mismatch.MismatchKind.{MismatchKind}
use Rattle.spec_avro.specs.declared.mismatch.MismatchKind.TheVariants.{BytesNotText}
use Rattle.spec_avro.specs.Resolution.{Resolved, mismatch, resolved}
use Rattle.schema_explain.specs.Arrivals.{arrival}
use Rattle.schema_explain.specs.declared.arrivals.Arrival.{Arrival}
use Rattle.schema_explain.specs.declared.line.Fate.TheVariants.{Copied, Promoted, PromotedIfText, Mismatch}

-- "int is promotable to long", "string is promotable to bytes"
abbrev pub promoted : Datum → Datum
promoted (IntDatum n) = LongDatum n
promoted (TextDatum text) = BytesDatum text
promoted d = d

-- in the branch at that position of the reader's union, where there is one
abbrev pub in_branch : Option ℕ → Datum → Datum
in_branch None d = d
in_branch (Some position) d = UnionDatum position d

-- the bytes as a string, where they are UTF-8
abbrev pub text_in : Arrival → ℕ → List ℕ → Resolved Datum
text_in a w bytes =
    if is_utf8 bytes then Ok (in_branch a.branch (TextDatum bytes)) else mismatch BytesNotText w a.node

-- what becomes of a datum of the writer's node w with the reader's node r, by where it arrives
pub record BecomesAsFated (W R : List Node) (w r : ℕ) (d : Datum) (a : Arrival) : Type 0 where
  pub copied : a.fate ≡ Copied → resolved W R w r d ≡ Ok (in_branch a.branch d)
  pub promotes : a.fate ≡ Promoted → resolved W R w r d ≡ Ok (in_branch a.branch (promoted d))
  pub if_text : (bytes : List ℕ) → d ≡ BytesDatum bytes → a.fate ≡ PromotedIfText
      → resolved W R w r d ≡ text_in a w bytes
  pub mismatches : (kind : MismatchKind) → a.fate ≡ Mismatch kind → resolved W R w r d ≡ mismatch kind w r

-- each datum of a writer's node becomes what the fate of the pair says
abbrev pub FatesAreMet : List Node → List Node → Type 0
FatesAreMet W R = (w r : ℕ) (d : Datum) → Conforms W w d → BecomesAsFated W R w r d (arrival W R w r)
