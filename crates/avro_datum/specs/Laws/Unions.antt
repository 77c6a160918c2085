-- Unions: what is read is spelled so, what is spelled is read, and the first fault, both ways.
use Rattle.std.proofs.Common.{◌≡◌, ◌≢◌, ℕ, ◌+◌, ◌-◌, ◌≤◌, List, ◌++◌, length, drop, get_or, Option, Some, None, Bool, true, false, refl, sym, ap, subst, ◌∙◌, append_assoc, arith, slice_get}
use Rattle.std.proofs.lemmas.List.{length-append}
use Rattle.std.proofs.lemmas.Option.{slice_get-get_or}
use Rattle.spec_avro.specs.declared.malformed.MalformedKind.TheVariants.{BadBranch}
use Rattle.spec_avro.specs.declared.meter.Meter.{Meter}
use Rattle.spec_avro.specs.Meter.{Counts}
use Rattle.avro_bytes.specs.Laws.Binds.{rest_after, defect_as, defect_after, defect_map, defect_then, failing_map, failing_shifted, failing_then, stands_within, then_complete, then_steady}
use Rattle.spec_avro.specs.Node.{Node, UnionNode}
use Rattle.spec_avro.specs.WellFormed.{is_union}
use Rattle.spec_avro.specs.Datum.{Datum, UnionDatum}
use Rattle.avro_datum.specs.Decoding.{Decoder, member_at, union_at}
use Rattle.spec_avro.specs.FaultyDatum.{FaultyDatum, faulty as is_faulty, faulty_branch, faulty_member, no_member}
use Rattle.spec_avro.specs.Position.{FaultyPosition, SpellsPosition}
use Rattle.spec_decoding.specs.PositionDecoding.{position_at}
use Rattle.spec_avro.specs.Spelling.{Spells, depth_of, units_of}
use Rattle.avro_datum.specs.Laws.Decoders.{IsSound, IsSteady}
use Rattle.avro_datum.specs.Laws.Parts.{map_steady, mapped}
use Rattle.avro_bytes.specs.Laws.Positions.{position_again, position_defect, position_sound, position_steady, position_told}
use Rattle.spec_decoding.specs.Decoding.{Complete, Decoding, Failed, ◌>>=◌}
use Rattle.avro_bytes.specs.Decoding.{Stands, map_decoding}
use Rattle.spec_avro.specs.Defect.{Defect, Need}
use Rattle.avro_bytes.specs.Fault.{HasDefect, failing}
use Rattle.spec_avro.specs.Fault.{shifted}
use Rattle.spec_avro.specs.declared.limits.TheConstants.{MOST_DEPTH}

member_is : (decoder : Decoder) (o : Option ℕ) (at : ℕ) (m : Meter) (d : Datum) (to : ℕ) (after : Meter) → member_at decoder o at m ≡ Complete d to after → (member : ℕ) × (o ≡ Some member) × (decoder member at m ≡ Complete d to after)
member_is decoder (Some member) at m d to after e = (member, refl, e)
member_is decoder None at m d to after e = absurd cc

module _ (nodes : List Node) (node left : ℕ) (all members : List ℕ) (decoder : Decoder) (is : slice_get nodes node ≡ Some (UnionNode members)) where
  pub union_sound : IsSound nodes all decoder left → ((member at : ℕ) (m : Meter) (d : Datum) (to : ℕ) (after : Meter) → decoder member at m ≡ Complete d to after → is_union (slice_get nodes member) ≡ false)
      → (at : ℕ) (m : Meter) (d : Datum) (to : ℕ) (after : Meter) → left ≡ MOST_DEPTH - m.depth → union_at decoder all members at m ≡ Complete d to after → Stands (Spells nodes node d) all at to × Counts (depth_of d) (units_of d) m after
  union_sound sound no_union at m d to after l e =
      let t = then_complete (position_at BadBranch (length members) all at m) (λ n to after. map_decoding (UnionDatum n) (member_at decoder (slice_get members n) to after)) d to after e in
      let p = position_sound BadBranch (length members) all at m t.first t.mid t.meter t.first_is in
      let v = mapped (UnionDatum t.first) (member_at decoder (slice_get members t.first) t.mid t.meter) d to after t.next_is in
      let k = member_is decoder (slice_get members t.first) t.mid t.meter v.0 to after v.1 in
      let s = sound k.0 t.mid t.meter v.0 to after (l ∙ ap (λ (x : Meter). MOST_DEPTH - x.depth) p.1) k.2 in
      let here : drop t.mid all ≡ p.0.rest = rest_after p.0.bytes p.0.rest all at t.mid p.0.parts p.0.end in
      let made : Stands (Spells nodes node (UnionDatum t.first v.0)) all at to = record {
        bytes = p.0.bytes ++ s.0.bytes;
        rest = s.0.rest;
        parts = p.0.parts ∙ ap (λ (r : List ℕ). p.0.bytes ++ r) (sym here ∙ s.0.parts) ∙ sym (append_assoc p.0.bytes s.0.bytes s.0.rest);
        end = omega (arith, p.0.end, s.0.end, length-append p.0.bytes s.0.bytes);
        spelled = (members, is, k.0, k.1, no_union k.0 t.mid t.meter v.0 to after k.2, p.0.bytes, s.0.bytes, refl, p.0.spelled, s.0.spelled);
      } in
      let counts : Counts (depth_of v.0) (units_of v.0) m after = subst (λ (x : Meter). Counts (depth_of v.0) (units_of v.0) x after) (sym p.1) s.1 in
      subst (λ (x : Datum). Stands (Spells nodes node x) all at to × Counts (depth_of x) (units_of x) m after) (sym v.2) (made, counts)

  -- after its position
  chosen : (n member : ℕ) (before front rest : List ℕ) (m : Meter) → all ≡ before ++ (front ++ rest) → SpellsPosition (length members) n front → slice_get members n ≡ Some member → union_at decoder all members (length before) m ≡ map_decoding (UnionDatum n) (decoder member (length before + length front) m)
  chosen n member before front rest m e s got =
      ap (λ (x : Decoding ℕ). x >>= λ n to after. map_decoding (UnionDatum n) (member_at decoder (slice_get members n) to after)) (ap (λ (b : List ℕ). position_at BadBranch (length members) b (length before) m) e ∙ position_again BadBranch (length members) before front rest n m s)
      ∙ ap (λ (o : Option ℕ). map_decoding (UnionDatum n) (member_at decoder o (length before + length front) m)) got

  pub union_complete : (n member : ℕ) (d : Datum) (before front rest more : List ℕ) (m after : Meter) → all ≡ before ++ ((front ++ rest) ++ more) → SpellsPosition (length members) n front → slice_get members n ≡ Some member
      → ((before bytes rest : List ℕ) → all ≡ before ++ (bytes ++ rest) → Spells nodes member d bytes → decoder member (length before) m ≡ Complete d (length before + length bytes) after) → Spells nodes member d rest
      → union_at decoder all members (length before) m ≡ Complete (UnionDatum n d) (length before + length (front ++ rest)) after
  union_complete n member d before front rest more m after e s got complete t =
      let is1 : all ≡ before ++ (front ++ (rest ++ more)) = e ∙ ap (λ (b : List ℕ). before ++ b) (append_assoc front rest more) in
      let is2 : all ≡ (before ++ front) ++ (rest ++ more) = is1 ∙ sym (append_assoc before front (rest ++ more)) in
      let datum : decoder member (length before + length front) m ≡ Complete d ((length before + length front) + length rest) after = subst (λ (k : ℕ). decoder member k m ≡ Complete d (k + length rest) after) (length-append before front) (complete (before ++ front) rest more is2 t) in
      let end : (length before + length front) + length rest ≡ length before + length (front ++ rest) = omega (arith, length-append front rest) in
      chosen n member before front (rest ++ more) m is1 s got ∙ ap (map_decoding (UnionDatum n)) datum ∙ ap (λ (k : ℕ). Complete (UnionDatum n d) k after) end

  member_steady : (further : Decoder) (o : Option ℕ) (at : ℕ) (m : Meter) → left ≡ MOST_DEPTH - m.depth → at ≤ length all → IsSteady all decoder further left → member_at decoder o at m ≢ Failed Need → member_at further o at m ≡ member_at decoder o at m
  member_steady further (Some member) at m l le steady c = steady member at m l le c
  member_steady further None at m l le steady c = refl

  pub union_steady : (others : List ℕ) (further : Decoder) → IsSteady all decoder further left → (at : ℕ) (m : Meter) → left ≡ MOST_DEPTH - m.depth → at ≤ length all → union_at decoder all members at m ≢ Failed Need → union_at further (all ++ others) members at m ≡ union_at decoder all members at m
  union_steady others further steady at m l le c =
      then_steady (position_at BadBranch (length members) all at m) (position_at BadBranch (length members) (all ++ others) at m)
      (λ n to after. map_decoding (UnionDatum n) (member_at decoder (slice_get members n) to after)) (λ n to after. map_decoding (UnionDatum n) (member_at further (slice_get members n) to after))
      (position_steady BadBranch (length members) all others at m le)
      (λ n mid after e d.
      let p = position_sound BadBranch (length members) all at m n mid after e in
      map_steady (UnionDatum n) (member_at decoder (slice_get members n) mid after) (member_at further (slice_get members n) mid after)
      (member_steady further (slice_get members n) mid after (l ∙ ap (λ (x : Meter). MOST_DEPTH - x.depth) p.1) (stands_within (SpellsPosition (length members) n) all at mid le p.0) steady) d)
      c

  -- ---- the first fault

  module _ (no_unions : (member at : ℕ) (m : Meter) → is_union (slice_get nodes member) ≡ true → decoder member at m ≡ Failed Need) where
    union_in_union : (n member at mid : ℕ) (m after : Meter) (p : Stands (SpellsPosition (length members) n) all at mid) → slice_get members n ≡ Some member → is_union (slice_get nodes member) ≡ true → HasDefect (decoder member mid after) at (FaultyDatum nodes node (drop at all) m)
    union_in_union n member at mid m after p got inner =
        subst (λ (x : Decoding Datum). HasDefect x at (FaultyDatum nodes node (drop at all) m)) (sym (no_unions member mid after inner)) (is_faulty (UnionNode members) is (no_member n member p.bytes p.rest got inner p.parts p.spelled))

    module _ (faulty : (member at : ℕ) (m : Meter) → left ≡ MOST_DEPTH - m.depth → is_union (slice_get nodes member) ≡ false → HasDefect (decoder member at m) at (FaultyDatum nodes member (drop at all) m)) where
      member_defect : (n member at mid : ℕ) (m after : Meter) (b : Bool) → left ≡ MOST_DEPTH - m.depth → (p : Stands (SpellsPosition (length members) n) all at mid) → m ≡ after → slice_get members n ≡ Some member → is_union (slice_get nodes member) ≡ b → HasDefect (decoder member mid after) at (FaultyDatum nodes node (drop at all) m)
      member_defect n member at mid m after true l p same got inner = union_in_union n member at mid m after p got inner
      member_defect n member at mid m after false l p same got inner =
          let here : drop mid all ≡ p.rest = rest_after p.bytes p.rest all at mid p.parts p.end in
          defect_after (decoder member mid after) at (length p.bytes) mid (FaultyDatum nodes member (drop mid all) after) (FaultyDatum nodes node (drop at all) m) p.end
          (λ further h. is_faulty (UnionNode members) is (faulty_member n member p.bytes p.rest further got inner p.parts p.spelled (subst (λ (x : Meter). FaultyDatum nodes member p.rest x further) (sym same) (subst (λ (b : List ℕ). FaultyDatum nodes member b after further) here h)) refl))
          (faulty member mid after (l ∙ ap (λ (x : Meter). MOST_DEPTH - x.depth) same) inner)

      option_defect : (n at mid : ℕ) (m after : Meter) (o : Option ℕ) → left ≡ MOST_DEPTH - m.depth → (p : Stands (SpellsPosition (length members) n) all at mid) → m ≡ after → slice_get members n ≡ o → HasDefect (member_at decoder o mid after) at (FaultyDatum nodes node (drop at all) m)
      option_defect n at mid m after (Some member) l p same got = member_defect n member at mid m after (is_union (slice_get nodes member)) l p same got refl
      option_defect n at mid m after None l p same got = absurd (let there : slice_get members n ≡ Some (get_or members n 0) = slice_get-get_or members n 0 p.spelled.0 in cc)

      pub union_defect : (at : ℕ) (m : Meter) → left ≡ MOST_DEPTH - m.depth → HasDefect (union_at decoder all members at m) at (FaultyDatum nodes node (drop at all) m)
      union_defect at m l =
          let P = FaultyDatum nodes node (drop at all) m in
          defect_then (position_at BadBranch (length members) all at m) (λ n to after. map_decoding (UnionDatum n) (member_at decoder (slice_get members n) to after)) at P
          (defect_as (position_at BadBranch (length members) all at m) at (FaultyPosition BadBranch (length members) (drop at all)) P (λ d h. is_faulty (UnionNode members) is (faulty_branch h)) (position_defect BadBranch (length members) all at m))
          (λ n mid after e.
          let p = position_sound BadBranch (length members) all at m n mid after e in
          defect_map (UnionDatum n) (member_at decoder (slice_get members n) mid after) at P (option_defect n at mid m after (slice_get members n) l p.0 p.1 refl))

    pub branch_told : (before bytes : List ℕ) (m : Meter) (d : Defect) → all ≡ before ++ bytes → FaultyPosition BadBranch (length members) bytes d → union_at decoder all members (length before) m ≡ failing (length before) d
    branch_told before bytes m d e h =
        ap (λ (x : Decoding ℕ). x >>= λ n to after. map_decoding (UnionDatum n) (member_at decoder (slice_get members n) to after)) (ap (λ (b : List ℕ). position_at BadBranch (length members) b (length before) m) e ∙ position_told BadBranch (length members) before bytes m d h)
        ∙ failing_then (length before) d (λ n to after. map_decoding (UnionDatum n) (member_at decoder (slice_get members n) to after))

    pub member_told : (n member : ℕ) (before front rest bytes : List ℕ) (m : Meter) (further d : Defect) → all ≡ before ++ bytes → bytes ≡ front ++ rest → SpellsPosition (length members) n front → slice_get members n ≡ Some member
        → decoder member (length before + length front) m ≡ failing (length before + length front) further → d ≡ shifted (length front) further → union_at decoder all members (length before) m ≡ failing (length before) d
    member_told n member before front rest bytes m further d e parts s got told place =
        chosen n member before front rest m (e ∙ ap (λ (b : List ℕ). before ++ b) parts) s got ∙ ap (map_decoding (UnionDatum n)) told ∙ failing_map (length before + length front) further (UnionDatum n)
        ∙ failing_shifted (length before) (length front) further ∙ ap (failing (length before)) (sym place)

    pub no_member_told : (n member : ℕ) (before front rest bytes : List ℕ) (m : Meter) → all ≡ before ++ bytes → bytes ≡ front ++ rest → SpellsPosition (length members) n front → slice_get members n ≡ Some member → is_union (slice_get nodes member) ≡ true → union_at decoder all members (length before) m ≡ Failed Need
    no_member_told n member before front rest bytes m e parts s got inner =
        chosen n member before front rest m (e ∙ ap (λ (b : List ℕ). before ++ b) parts) s got ∙ ap (map_decoding (UnionDatum n)) (no_unions member (length before + length front) m inner)
