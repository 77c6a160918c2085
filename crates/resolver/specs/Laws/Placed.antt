-- A datum that is no union's goes by its place.
use Rattle.std.proofs.Common.{◌≡◌, ℕ, Bool, true, false, List, refl}
use Rattle.spec_avro.specs.Node.{Node}
use Rattle.spec_avro.specs.Datum.{Datum, NullDatum, BooleanDatum, IntDatum, LongDatum, BytesDatum, TextDatum, FixedDatum, EnumDatum, ArrayDatum, MapDatum, UnionDatum, RecordDatum}
use Rattle.spec_avro.specs.Matching.{place}
use Rattle.spec_avro.specs.Resolution.{placed, resolved}
use Rattle.resolver.specs.Steps.{inside}

abbrev pub is_union_datum : Datum → Bool
is_union_datum (UnionDatum n d) = true
is_union_datum _ = false

pub by_place : (W R : List Node) (w r : ℕ) (d : Datum) → is_union_datum d ≡ false → resolved W R w r d ≡ placed (place W R w r) w r (λ node. inside W R w node d)
unfolding resolved inside
by_place W R w r NullDatum h = refl
by_place W R w r (BooleanDatum b) h = refl
by_place W R w r (IntDatum n) h = refl
by_place W R w r (LongDatum n) h = refl
by_place W R w r (BytesDatum bytes) h = refl
by_place W R w r (TextDatum text) h = refl
by_place W R w r (FixedDatum bytes) h = refl
by_place W R w r (EnumDatum n) h = refl
by_place W R w r (ArrayDatum ds) h = refl
by_place W R w r (MapDatum ps) h = refl
by_place W R w r (RecordDatum ds) h = refl
by_place W R w r (UnionDatum n d) h = absurd cc
