use Rattle.std.proofs.Common.{◌≡◌, ◌≤◌, ◌+◌, ◌-◌, ◌∙◌, ◌++◌, [], ℕ, suc, length, None, Some, Option, Ok, arith, refl, sym, ap, subst, codes, rules, drop}
use Rattle.std.specs.Vec.{vec_len}
use Rattle.std.specs.declared.alloc.AllocError.{AllocError}
use Rattle.serde_json.specs.Data.{Items, array, string, depth, items_depth}
use Rattle.serde_json.specs.View.{view, items_view}
use Rattle.serde_json.specs.declared.value.Value.{the_lemmas}
use Rattle.avro_schema_names.proofs.Depths.{item-depth}
use Rattle.spec_schema.specs.Word.{form_of}
use Rattle.spec_schema.specs.declared.word.Form.TheVariants as forms
use Rattle.avro_schema_paths.specs.Places.{Path}
use Rattle.avro_schema_paths.specs.declared.step.Step.TheVariants as steps
use Rattle.avro_schema.proofs.Members.{walk-scalar}
use Rattle.avro_schema_faults.specs.Faults.{IsOfForm}
use Rattle.avro_schema_faults.specs.Searching.{Behind, Searches, SoughtIn, SoughtInField, SoughtInFields, SoughtInList, SoughtInMembers}
use Rattle.avro_schema_faults.proofs.Ending.{popped}
use Rattle.avro_schema_faults.proofs.Leaving.{inner-depth, listed-depth}
use Rattle.avro_schema_faults.proofs.Searching.{at-more, at-zero, scalar-never, sought-never, sought-next, union-first, union-later}
use Rattle.avro_schema_faults.proofs.SearchingLists.{fields-end, fields-next, fields-this, members-end, members-next, members-this, rest_ends, rest_is}
use Rattle.avro_schema_faults.proofs.SearchingObjects.{array-first, array-later, array-none, enum-adds, error-never, field-none, field-part, fixed-adds, list-none, list-part, map-first, map-later, map-none, record-first, record-later, record-none, wrapper-none, wrapper-part}
use Rattle.avro_schema_faults.proofs.SearchingTrail.{behind-map, found-in-part, passed-part, passed-trail, searched, searched-here}
use Rattle.avro_schema_faults.proofs.seeking.+seek.Goals as goal

-- ---- a value

pub seek-returns-in-String : goal.seek-returns-in-String
seek-returns-in-String t c =
    let seen : string c.as_str.result.now ≡ view c.args.value.now = rw c.in-String.is (search (rules, the_lemmas)) in
    searched-here AllocError (SoughtIn (view c.args.value.now) c.args.left) c.seek_in_text.result c.args.trail.now.items (rw (← seen) c.seek_in_text.ensures)

pub seek-returns-in-Null : goal.seek-returns-in-Null
seek-returns-in-Null t c = searched-here AllocError (SoughtIn (view c.args.value.now) c.args.left) (Some c.args.left) c.args.trail.now.items (sought-never (view c.args.value.now) (scalar-never (view c.args.value.now) (walk-scalar c.args.value.now c.in-Null.is)) c.args.left (Some c.args.left) [])

pub seek-returns-in-Null-2 : goal.seek-returns-in-Null-2
seek-returns-in-Null-2 t c = searched-here AllocError (SoughtIn (view c.args.value.now) c.args.left) (Some c.args.left) c.args.trail.now.items (sought-never (view c.args.value.now) (scalar-never (view c.args.value.now) (walk-scalar c.args.value.now c.in-Null.is)) c.args.left (Some c.args.left) [])

pub seek-returns-in-Null-3 : goal.seek-returns-in-Null-3
seek-returns-in-Null-3 t c = searched-here AllocError (SoughtIn (view c.args.value.now) c.args.left) (Some c.args.left) c.args.trail.now.items (sought-never (view c.args.value.now) (scalar-never (view c.args.value.now) (walk-scalar c.args.value.now c.in-Null.is)) c.args.left (Some c.args.left) [])

-- ---- unions

pub seek_in_union-returns-then-left-eq0 : goal.seek_in_union-returns-then-left-eq0
seek_in_union-returns-then-left-eq0 t c = searched-here AllocError (SoughtIn (array (items_view c.args.items.now)) c.args.left) None c.args.trail.now.items (at-zero (array (items_view c.args.items.now)) c.args.left (omega arith) (union-first (items_view c.args.items.now)))

pub seek_in_union-returns : goal.seek_in_union-returns
seek_in_union-returns t c =
    let more : c.args.left ≡ suc (c.args.left - 1) = omega arith in
    searched (SoughtInMembers (items_view c.args.items.now) 0 (c.args.left - 1)) (SoughtIn (array (items_view c.args.items.now)) c.args.left) c.args.trail.now.items c.seek_in_members.new.trail.items c.seek_in_members.result (λ r p s. at-more (array (items_view c.args.items.now)) c.args.left r p more (union-later (items_view c.args.items.now) (c.args.left - 1) r p s)) c.seek_in_members.ensures

pub seek_in_members-seek_in_part-requires : goal.seek_in_members-seek_in_part-requires
seek_in_members-seek_in_part-requires t c =
    let here : depth (view c.index-items-i.result) ≤ items_depth (items_view c.args.items.now) = rw c.index-items-i.is (item-depth c.args.items.now c.loop-i.i c.index-items-i.result (omega arith)) in
    (omega (arith, here), tt)

pub seek_in_members-returns-in-None : goal.seek_in_members-returns-in-None
seek_in_members-returns-in-None t c =
    let l = c.loop-i in
    let is = rest_is c.args.items.now l.i c.index-items-i.result (omega arith) c.index-items-i.is in
    let s = subst (λ (o : Option ℕ). Searches {E = AllocError} (Ok o) (Behind (steps.At l.i) (SoughtIn (view c.index-items-i.result) l.rest)) l.trail.items c.seek_in_part.new.trail.items) c.in-None.is c.in_ok-fewer.ensures in
    (s.0, s.1 ∙ ap (λ (b : Path). b ++ s.0) l.invariant.0, l.invariant.1 None s.0 (subst (λ (ds : Items). SoughtInMembers ds l.i l.rest None s.0) (sym is) (members-this (view c.index-items-i.result) (items_view (drop (l.i + 1) c.args.items.now)) l.i l.rest s.0 s.2)))

pub seek_in_members-loop-i-preserved : goal.seek_in_members-loop-i-preserved
seek_in_members-loop-i-preserved t c =
    let l = c.loop-i in
    let is = rest_is c.args.items.now l.i c.index-items-i.result (omega arith) c.index-items-i.is in
    let s = subst (λ (o : Option ℕ). Searches {E = AllocError} (Ok o) (Behind (steps.At l.i) (SoughtIn (view c.index-items-i.result) l.rest)) l.trail.items c.seek_in_part.new.trail.items) c.in-Some.is c.in_ok-fewer.ensures in
    (s.0 ∙ l.invariant.0, λ r p h. l.invariant.1 r p (subst (λ (ds : Items). SoughtInMembers ds l.i l.rest r p) (sym is) (members-next (view c.index-items-i.result) (items_view (drop (l.i + 1) c.args.items.now)) l.i l.rest c.in-Some.fewer r p s.1 h)))

pub seek_in_members-returns : goal.seek_in_members-returns
seek_in_members-returns t c =
    let l = c.loop-i in
    let ends = rest_ends c.args.items.now l.i (omega arith) in
    (l.invariant.0, l.invariant.1 (Some l.rest) [] (subst (λ (ds : Items). SoughtInMembers ds l.i l.rest (Some l.rest) []) (sym ends) (members-end l.i l.rest)))

-- ---- objects

pub seek_in_object-returns-in-Enum : goal.seek_in_object-returns-in-Enum
seek_in_object-returns-in-Enum t c =
    let form : IsOfForm forms.Enum (view c.args.value.now) = record { object = c.requires.object; form = ap form_of (sym c.get.ensures) ∙ sym c.form_of_type.ensures ∙ c.in-Enum.is } in
    searched-here AllocError (SoughtIn (view c.args.value.now) c.args.left) c.checked_sub.result c.args.trail.now.items (sought-next (view c.args.value.now) (enum-adds (view c.args.value.now) form) c.args.left c.checked_sub.result c.checked_sub.ensures)

pub seek_in_object-returns-in-Fixed : goal.seek_in_object-returns-in-Fixed
seek_in_object-returns-in-Fixed t c =
    let form : IsOfForm forms.Fixed (view c.args.value.now) = record { object = c.requires.object; form = ap form_of (sym c.get.ensures) ∙ sym c.form_of_type.ensures ∙ c.in-Fixed.is } in
    searched-here AllocError (SoughtIn (view c.args.value.now) c.args.left) c.checked_sub-in-Fixed.result c.args.trail.now.items (sought-next (view c.args.value.now) (fixed-adds (view c.args.value.now) form) c.args.left c.checked_sub-in-Fixed.result c.checked_sub-in-Fixed.ensures)

pub seek_in_object-returns-in-Error : goal.seek_in_object-returns-in-Error
seek_in_object-returns-in-Error t c =
    let form : IsOfForm forms.Error (view c.args.value.now) = record { object = c.requires.object; form = ap form_of (sym c.get.ensures) ∙ sym c.form_of_type.ensures ∙ c.in-Error.is } in
    searched-here AllocError (SoughtIn (view c.args.value.now) c.args.left) (Some c.args.left) c.args.trail.now.items (sought-never (view c.args.value.now) (error-never (view c.args.value.now) form) c.args.left (Some c.args.left) [])

pub seek_in_wrapper-seek_in_part-requires : goal.seek_in_wrapper-seek_in_part-requires
seek_in_wrapper-seek_in_part-requires t c = (let less = inner-depth (codes "type") (view c.args.value.now) (view c.in-Some.inner.now) c.in-Some.ensures in omega (arith, less), tt)

pub seek_in_wrapper-returns-in-Some : goal.seek_in_wrapper-returns-in-Some
seek_in_wrapper-returns-in-Some t c = searched (Behind steps.Type (SoughtIn (view c.in-Some.inner.now) c.args.left)) (SoughtIn (view c.args.value.now) c.args.left) c.args.trail.now.items c.seek_in_part.new.trail.items c.seek_in_part.result (wrapper-part (view c.args.value.now) c.requires.form (view c.in-Some.inner.now) c.in-Some.ensures c.args.left) c.seek_in_part.ensures

pub seek_in_wrapper-returns-in-None : goal.seek_in_wrapper-returns-in-None
seek_in_wrapper-returns-in-None t c = searched-here AllocError (SoughtIn (view c.args.value.now) c.args.left) (Some c.args.left) c.args.trail.now.items (wrapper-none (view c.args.value.now) c.requires.form c.in-None.ensures c.args.left (Some c.args.left) [])

pub seek_in_array-returns-then-left-eq0 : goal.seek_in_array-returns-then-left-eq0
seek_in_array-returns-then-left-eq0 t c = searched-here AllocError (SoughtIn (view c.args.value.now) c.args.left) None c.args.trail.now.items (at-zero (view c.args.value.now) c.args.left (omega arith) (array-first (view c.args.value.now) c.requires.form))

pub seek_in_array-seek_in_part-requires : goal.seek_in_array-seek_in_part-requires
seek_in_array-seek_in_part-requires t c = (let less = inner-depth (codes "items") (view c.args.value.now) (view c.in-Some.items.now) c.in-Some.ensures in omega (arith, less), tt)

pub seek_in_array-returns-in-Some : goal.seek_in_array-returns-in-Some
seek_in_array-returns-in-Some t c =
    let more : c.args.left ≡ suc (c.args.left - 1) = omega arith in
    searched (Behind steps.Items (SoughtIn (view c.in-Some.items.now) (c.args.left - 1))) (SoughtIn (view c.args.value.now) c.args.left) c.args.trail.now.items c.seek_in_part.new.trail.items c.seek_in_part.result (λ r p s. at-more (view c.args.value.now) c.args.left r p more (array-later (view c.args.value.now) c.requires.form (view c.in-Some.items.now) c.in-Some.ensures (c.args.left - 1) r p s)) c.seek_in_part.ensures

pub seek_in_array-returns-in-None : goal.seek_in_array-returns-in-None
seek_in_array-returns-in-None t c = searched-here AllocError (SoughtIn (view c.args.value.now) c.args.left) (Some (c.args.left - 1)) c.args.trail.now.items (array-none (view c.args.value.now) c.requires.form c.in-None.ensures c.args.left (Some (c.args.left - 1)) [])

pub seek_in_map-returns-then-left-eq0 : goal.seek_in_map-returns-then-left-eq0
seek_in_map-returns-then-left-eq0 t c = searched-here AllocError (SoughtIn (view c.args.value.now) c.args.left) None c.args.trail.now.items (at-zero (view c.args.value.now) c.args.left (omega arith) (map-first (view c.args.value.now) c.requires.form))

pub seek_in_map-seek_in_part-requires : goal.seek_in_map-seek_in_part-requires
seek_in_map-seek_in_part-requires t c = (let less = inner-depth (codes "values") (view c.args.value.now) (view c.in-Some.values.now) c.in-Some.ensures in omega (arith, less), tt)

pub seek_in_map-returns-in-Some : goal.seek_in_map-returns-in-Some
seek_in_map-returns-in-Some t c =
    let more : c.args.left ≡ suc (c.args.left - 1) = omega arith in
    searched (Behind steps.Values (SoughtIn (view c.in-Some.values.now) (c.args.left - 1))) (SoughtIn (view c.args.value.now) c.args.left) c.args.trail.now.items c.seek_in_part.new.trail.items c.seek_in_part.result (λ r p s. at-more (view c.args.value.now) c.args.left r p more (map-later (view c.args.value.now) c.requires.form (view c.in-Some.values.now) c.in-Some.ensures (c.args.left - 1) r p s)) c.seek_in_part.ensures

pub seek_in_map-returns-in-None : goal.seek_in_map-returns-in-None
seek_in_map-returns-in-None t c = searched-here AllocError (SoughtIn (view c.args.value.now) c.args.left) (Some (c.args.left - 1)) c.args.trail.now.items (map-none (view c.args.value.now) c.requires.form c.in-None.ensures c.args.left (Some (c.args.left - 1)) [])

pub seek_in_record-returns-then-left-eq0 : goal.seek_in_record-returns-then-left-eq0
seek_in_record-returns-then-left-eq0 t c = searched-here AllocError (SoughtIn (view c.args.value.now) c.args.left) None c.args.trail.now.items (at-zero (view c.args.value.now) c.args.left (omega arith) (record-first (view c.args.value.now) c.requires.form))

pub seek_in_record-seek_in_fields-requires : goal.seek_in_record-seek_in_fields-requires
seek_in_record-seek_in_fields-requires t c = (let less = inner-depth (codes "fields") (view c.args.value.now) (view c.in-Some.listed.now) c.in-Some.ensures in omega (arith, less), tt)

pub seek_in_record-returns-in-Some : goal.seek_in_record-returns-in-Some
seek_in_record-returns-in-Some t c =
    let more : c.args.left ≡ suc (c.args.left - 1) = omega arith in
    searched (Behind steps.Fields (SoughtInList (view c.in-Some.listed.now) (c.args.left - 1))) (SoughtIn (view c.args.value.now) c.args.left) c.args.trail.now.items c.seek_in_fields.new.trail.items c.seek_in_fields.result (λ r p s. at-more (view c.args.value.now) c.args.left r p more (record-later (view c.args.value.now) c.requires.form (view c.in-Some.listed.now) c.in-Some.ensures (c.args.left - 1) r p s)) c.seek_in_fields.ensures

pub seek_in_record-returns-in-None : goal.seek_in_record-returns-in-None
seek_in_record-returns-in-None t c = searched-here AllocError (SoughtIn (view c.args.value.now) c.args.left) (Some (c.args.left - 1)) c.args.trail.now.items (record-none (view c.args.value.now) c.requires.form c.in-None.ensures c.args.left (Some (c.args.left - 1)) [])

-- ---- fields

pub seek_in_fields-seek_in_listed-requires : goal.seek_in_fields-seek_in_listed-requires
seek_in_fields-seek_in_listed-requires t c = (let less = listed-depth (view c.args.value.now) (items_view c.in-Some.items.now.items) c.in-Some.ensures in rw c.deref.ensures.value (omega (arith, less)), tt)

pub seek_in_fields-returns-in-None : goal.seek_in_fields-returns-in-None
seek_in_fields-returns-in-None t c = (refl, list-none (view c.args.value.now) c.in-None.ensures c.args.left (Some c.args.left) [])

pub seek_in_fields-returns-then-is_some : goal.seek_in_fields-returns-then-is_some
seek_in_fields-returns-then-is_some t c =
    let S = SoughtInFields (items_view c.in-Some.items.now.items) 0 c.args.left in
    let s : Searches {E = AllocError} (Ok c.in_ok-found-in-Some.found) S c.push.new.self.items c.seek_in_listed.new.trail.items = rw c.deref.ensures.value at c.in_ok-found-in-Some.ensures in
    let some = c.if-is_some.ensures in
    let n : vec_len c.seek_in_listed.new.trail ≡ length c.seek_in_listed.new.trail.items = search rules in
    let mid = passed-trail AllocError S steps.Fields c.args.trail.now.items c.push.new.self.items c.seek_in_listed.new.trail.items c.in_ok-push-in-Some.ensures.items c.in_ok-found-in-Some.found some s in
    let back = c.pop.ensures.rest ∙ popped c.args.trail.now.items c.seek_in_listed.new.trail.items steps.Fields (vec_len c.seek_in_listed.new.trail) mid n in
    let part = passed-part AllocError S steps.Fields c.args.trail.now.items c.push.new.self.items c.seek_in_listed.new.trail.items c.in_ok-push-in-Some.ensures.items c.in_ok-found-in-Some.found c.pop.new.self.items some s back in
    searched {E = AllocError} (Behind steps.Fields S) (Behind steps.Fields (SoughtInList (view c.args.value.now) c.args.left)) c.args.trail.now.items c.pop.new.self.items (Ok c.in_ok-found-in-Some.found)
    (behind-map steps.Fields S (SoughtInList (view c.args.value.now) c.args.left) (list-part (view c.args.value.now) (items_view c.in-Some.items.now.items) c.in-Some.ensures c.args.left)) part

pub seek_in_fields-returns-else-is_some : goal.seek_in_fields-returns-else-is_some
seek_in_fields-returns-else-is_some t c =
    let S = SoughtInFields (items_view c.in-Some.items.now.items) 0 c.args.left in
    let s : Searches {E = AllocError} (Ok c.in_ok-found-in-Some.found) S c.push.new.self.items c.seek_in_listed.new.trail.items = rw c.deref.ensures.value at c.in_ok-found-in-Some.ensures in
    let none = c.if-is_some.ensures in
    let part = found-in-part AllocError S steps.Fields c.args.trail.now.items c.push.new.self.items c.seek_in_listed.new.trail.items c.in_ok-push-in-Some.ensures.items c.in_ok-found-in-Some.found none s in
    searched {E = AllocError} (Behind steps.Fields S) (Behind steps.Fields (SoughtInList (view c.args.value.now) c.args.left)) c.args.trail.now.items c.seek_in_listed.new.trail.items (Ok c.in_ok-found-in-Some.found)
    (behind-map steps.Fields S (SoughtInList (view c.args.value.now) c.args.left) (list-part (view c.args.value.now) (items_view c.in-Some.items.now.items) c.in-Some.ensures c.args.left)) part

pub seek_in_listed-seek_in_field-requires : goal.seek_in_listed-seek_in_field-requires
seek_in_listed-seek_in_field-requires t c =
    let here : depth (view c.index-items-i.result) ≤ items_depth (items_view c.args.items.now) = rw c.index-items-i.is (item-depth c.args.items.now c.loop-i.i c.index-items-i.result (omega arith)) in
    (omega (arith, here), tt)

pub seek_in_listed-returns-in-None : goal.seek_in_listed-returns-in-None
seek_in_listed-returns-in-None t c =
    let l = c.loop-i in
    let is = rest_is c.args.items.now l.i c.index-items-i.result (omega arith) c.index-items-i.is in
    let s = subst (λ (o : Option ℕ). Searches {E = AllocError} (Ok o) (Behind (steps.At l.i) (SoughtInField (view c.index-items-i.result) l.rest)) l.trail.items c.seek_in_field.new.trail.items) c.in-None.is c.in_ok-fewer.ensures in
    (s.0, s.1 ∙ ap (λ (b : Path). b ++ s.0) l.invariant.0, l.invariant.1 None s.0 (subst (λ (ds : Items). SoughtInFields ds l.i l.rest None s.0) (sym is) (fields-this (view c.index-items-i.result) (items_view (drop (l.i + 1) c.args.items.now)) l.i l.rest s.0 s.2)))

pub seek_in_listed-loop-i-preserved : goal.seek_in_listed-loop-i-preserved
seek_in_listed-loop-i-preserved t c =
    let l = c.loop-i in
    let is = rest_is c.args.items.now l.i c.index-items-i.result (omega arith) c.index-items-i.is in
    let s = subst (λ (o : Option ℕ). Searches {E = AllocError} (Ok o) (Behind (steps.At l.i) (SoughtInField (view c.index-items-i.result) l.rest)) l.trail.items c.seek_in_field.new.trail.items) c.in-Some.is c.in_ok-fewer.ensures in
    (s.0 ∙ l.invariant.0, λ r p h. l.invariant.1 r p (subst (λ (ds : Items). SoughtInFields ds l.i l.rest r p) (sym is) (fields-next (view c.index-items-i.result) (items_view (drop (l.i + 1) c.args.items.now)) l.i l.rest c.in-Some.fewer r p s.1 h)))

pub seek_in_listed-returns : goal.seek_in_listed-returns
seek_in_listed-returns t c =
    let l = c.loop-i in
    let ends = rest_ends c.args.items.now l.i (omega arith) in
    (l.invariant.0, l.invariant.1 (Some l.rest) [] (subst (λ (ds : Items). SoughtInFields ds l.i l.rest (Some l.rest) []) (sym ends) (fields-end l.i l.rest)))

pub seek_in_field-seek_in_part-requires : goal.seek_in_field-seek_in_part-requires
seek_in_field-seek_in_part-requires t c = (let less = inner-depth (codes "type") (view c.args.value.now) (view c.in-Some.inner.now) c.in-Some.ensures in omega (arith, less), tt)

pub seek_in_field-returns-in-None : goal.seek_in_field-returns-in-None
seek_in_field-returns-in-None t c = (refl, field-none (view c.args.value.now) c.in-None.ensures c.args.left (Some c.args.left) [])

pub seek_in_field-returns-then-is_some : goal.seek_in_field-returns-then-is_some
seek_in_field-returns-then-is_some t c =
    let S = Behind steps.Type (SoughtIn (view c.in-Some.inner.now) c.args.left) in
    let at = steps.At c.args.position in
    let s : Searches {E = AllocError} (Ok c.in_ok-found-in-Some.found) S c.push.new.self.items c.seek_in_part.new.trail.items = c.in_ok-found-in-Some.ensures in
    let some = c.if-is_some.ensures in
    let n : vec_len c.seek_in_part.new.trail ≡ length c.seek_in_part.new.trail.items = search rules in
    let mid = passed-trail AllocError S at c.args.trail.now.items c.push.new.self.items c.seek_in_part.new.trail.items c.in_ok-push-in-Some.ensures.items c.in_ok-found-in-Some.found some s in
    let back = c.pop.ensures.rest ∙ popped c.args.trail.now.items c.seek_in_part.new.trail.items at (vec_len c.seek_in_part.new.trail) mid n in
    let part = passed-part AllocError S at c.args.trail.now.items c.push.new.self.items c.seek_in_part.new.trail.items c.in_ok-push-in-Some.ensures.items c.in_ok-found-in-Some.found c.pop.new.self.items some s back in
    searched {E = AllocError} (Behind at S) (Behind at (SoughtInField (view c.args.value.now) c.args.left)) c.args.trail.now.items c.pop.new.self.items (Ok c.in_ok-found-in-Some.found)
    (behind-map at S (SoughtInField (view c.args.value.now) c.args.left) (field-part (view c.args.value.now) (view c.in-Some.inner.now) c.in-Some.ensures c.args.left)) part

pub seek_in_field-returns-else-is_some : goal.seek_in_field-returns-else-is_some
seek_in_field-returns-else-is_some t c =
    let S = Behind steps.Type (SoughtIn (view c.in-Some.inner.now) c.args.left) in
    let at = steps.At c.args.position in
    let s : Searches {E = AllocError} (Ok c.in_ok-found-in-Some.found) S c.push.new.self.items c.seek_in_part.new.trail.items = c.in_ok-found-in-Some.ensures in
    let none = c.if-is_some.ensures in
    let part = found-in-part AllocError S at c.args.trail.now.items c.push.new.self.items c.seek_in_part.new.trail.items c.in_ok-push-in-Some.ensures.items c.in_ok-found-in-Some.found none s in
    searched {E = AllocError} (Behind at S) (Behind at (SoughtInField (view c.args.value.now) c.args.left)) c.args.trail.now.items c.seek_in_part.new.trail.items (Ok c.in_ok-found-in-Some.found)
    (behind-map at S (SoughtInField (view c.args.value.now) c.args.left) (field-part (view c.args.value.now) (view c.in-Some.inner.now) c.in-Some.ensures c.args.left)) part
