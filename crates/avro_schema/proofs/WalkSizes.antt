-- The nodes that a value declares hold no default with longer texts than the value has, nor with more parts.
use Rattle.std.proofs.Common.{◌≡◌, ℕ, List, [], ◌∷◌, ◌++◌, Option, Some, IfSome, codes, subst}
use Rattle.std.specs.List.{AllByRecursion}
use Rattle.std.specs.Ordering.{nat_cmp, match_ordering}
use Rattle.std.specs.Cmp.Lexicographic.{slice_cmp}
use Rattle.std.specs.declared.cmp.Ordering.{Ordering}
use Rattle.std.specs.declared.cmp.Ordering.TheVariants.{Less, Equal, Greater}
use Rattle.serde_json.specs.Data.{Data, array, Items, Members, no_members, member}
use Rattle.serde_json.specs.Find.{get_member}
use Rattle.spec_schema.specs.Declaring.{DeclareFields, DeclareMembers, Declares, a_field, a_fixed, a_map, a_member, a_primitive, a_record, a_reference, a_union, an_array, an_enum, another, no_more_fields, no_more_members}
use Rattle.spec_schema.specs.Draft.{Draft, Whole, RecordDraft, DraftField}
use Rattle.avro_schema.proofs.ReadSizes.{HasDataWithin, HaveItemsWithin, HaveMembersWithin}

module _ (most : ℕ) where
  abbrev pub DefaultWithin : DraftField → Type 0
  DefaultWithin f = IfSome f.default (HasDataWithin most)

  abbrev pub DraftWithin : Draft → Type 0
  DraftWithin (Whole n) = Unit {0}
  DraftWithin (RecordDraft names fs) = AllByRecursion DefaultWithin fs

  abbrev AllWithin : List Draft → Type 0
  AllWithin ds = AllByRecursion DraftWithin ds

  both-within : (front back : List Draft) → AllWithin front → AllWithin back → AllWithin (front ++ back)
  both-within [] back f g = g
  both-within (d ∷ front) back f g = (f.0, both-within front back f.1 g)

  -- ---- what is at a key

  one-within : (o : Ordering) (rest : Option Data) (d : Data) → IfSome rest (HasDataWithin most) → HasDataWithin most d → IfSome (match_ordering o rest (Some d) rest) (HasDataWithin most)
  one-within Less rest d f h = f
  one-within Equal rest d f h = h
  one-within Greater rest d f h = f

  get-within : (k : List ℕ) (ms : Members) → HaveMembersWithin most ms → IfSome (get_member k ms) (HasDataWithin most)
  get-within k no_members h = tt
  get-within k (member l d ms) h = one-within (slice_cmp nat_cmp k l) (get_member k ms) d (get-within k ms h.2) h.1

  pub found-within : (k : List ℕ) (ms : Members) (d : Data) → get_member k ms ≡ Some d → HaveMembersWithin most ms → HasDataWithin most d
  found-within k ms d at h = subst (λ o. IfSome o (HasDataWithin most)) at (get-within k ms h)

  -- ---- values

  mutual
    pub within : {d : Data} {enclosing : List ℕ} {before : List Draft} {n : ℕ} {added : List Draft} → Declares d enclosing before n added → HasDataWithin most d → AllWithin added
    within (a_primitive p lt) h = (tt, tt)
    within (a_reference p at) h = tt
    within (a_union lt parts apart) h = (tt, members-within parts h.1)
    within (an_array {ms = ms} {d = d} is lt at part) h = (tt, within part (found-within (codes "items") ms d at h.1))
    within (a_map {ms = ms} {d = d} is lt at part) h = (tt, within part (found-within (codes "values") ms d at h.1))
    within (a_record {ms = ms} {ds = ds} is lt name at parts apart few) h = fields-within parts (found-within (codes "fields") ms (array ds) at h.1).1
    within (an_enum is lt name a b) h = (tt, tt)
    within (a_fixed is lt name a) h = (tt, tt)
    within (another {ms = ms} {d = d} at none part) h = within part (found-within (codes "type") ms d at h.1)

    members-within : {ds : Items} {enclosing : List ℕ} {before : List Draft} {ns : List ℕ} {added : List Draft} → DeclareMembers ds enclosing before ns added → HaveItemsWithin most ds → AllWithin added
    members-within no_more_members h = tt
    members-within (a_member {added = added} {more = more} first rest) h = both-within added more (within first h.0) (members-within rest h.1)

    fields-within : {ds : Items} {enclosing : List ℕ} {before : List Draft} {fs : List DraftField} {added : List Draft} → DeclareFields ds enclosing before fs added → HaveItemsWithin most ds
        → AllByRecursion DefaultWithin fs × AllWithin added
    fields-within no_more_fields h = (tt, tt)
    fields-within (a_field {ms = ms} {d = d} {added = added} {more = more} name rule aliases at first rest) h =
        let k = fields-within rest h.1 in
        ((get-within (codes "default") ms h.0.1, k.0), both-within added more (within first (found-within (codes "type") ms d at h.0.1)) k.1)
