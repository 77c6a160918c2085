-- Opening a record, an item, and an array or a map: when it is refused, and what is inside, both ways.
use Rattle.std.proofs.Common.{◌≡◌, ℕ, ◌+◌, ◌<◌, ◌≤◌, Ok, Err, Bool, true, false, cond, refl, sym, ap, ◌∙◌, arith, inl, inr}
use Rattle.std.specs.Prelude.{nat_le}
use Rattle.std.proofs.lemmas.Bool.{leb-true, leb-false, le-leb, lt-leb}
use Rattle.spec_avro.specs.declared.meter.Meter.{Meter}
use Rattle.spec_decoding.specs.declared.fault.Fault.TheVariants as fault
use Rattle.spec_avro.specs.declared.malformed.MalformedKind.{MalformedKind}
use Rattle.spec_avro.specs.declared.malformed.MalformedKind.TheVariants.{TooDeep, TooMany}
use Rattle.spec_decoding.specs.Opening.{opened_record, opened_item, opened_blocks}
use Rattle.spec_avro.specs.Meter.{OpensRecord, OpensItem, OpensBlocks, RefusesRecord, RefusesItem, RefusesBlocks}
use Rattle.spec_decoding.specs.Decoding.{Decoding, Failed, inside}
use Rattle.spec_avro.specs.Defect.{Defect, Malformed}
use Rattle.avro_bytes.specs.Fault.{HasDefect, failing}
use Rattle.spec_avro.specs.declared.limits.TheConstants.{MOST_DEPTH, MOST_UNITS}

abbrev within_record : Meter → Meter
within_record m = record { depth = m.depth + 1; units = m.units + 1 }

opens : (b c : Bool) (at : ℕ) (m within : Meter) → cond b (Err (fault.Malformed TooDeep at)) (cond c (Err (fault.Malformed TooMany at)) (Ok m)) ≡ Ok within → (b ≡ false) × (c ≡ false) × (m ≡ within)
opens true c at m within e = absurd cc
opens false true at m within e = absurd cc
opens false false at m within e = (refl, refl, cc)

pub was_opened : (at : ℕ) (m within : Meter) → opened_record at m ≡ Ok within → OpensRecord m within
was_opened at m within h =
    let o = opens (nat_le MOST_DEPTH m.depth) (nat_le MOST_UNITS m.units) at (within_record m) within h in
    record { shallow = leb-false MOST_DEPTH m.depth o.0; few = leb-false MOST_UNITS m.units o.1; deeper = sym (ap (λ (x : Meter). x.depth) o.2); counted = sym (ap (λ (x : Meter). x.units) o.2) }

pub same_meter : (a b : Meter) → a.depth ≡ b.depth → a.units ≡ b.units → a ≡ b
same_meter a b p q = ap (λ (k : ℕ). record { depth = k; units = a.units }) p ∙ ap (λ (k : ℕ). record { depth = b.depth; units = k }) q

pub opened_again : (at : ℕ) (m within : Meter) → OpensRecord m within → opened_record at m ≡ Ok within
opened_again at m within o =
    let deep : m.depth < MOST_DEPTH = o.shallow in
    let few : m.units < MOST_UNITS = o.few in
    rw (lt-leb MOST_DEPTH m.depth deep, lt-leb MOST_UNITS m.units few) (ap Ok (sym (same_meter within (within_record m) o.deeper o.counted)))

record_cases : {V : Type 0} (b c : Bool) (f : Meter → Decoding V) (at : ℕ) (m : Meter) (P : Defect → Type 0) → nat_le MOST_DEPTH m.depth ≡ b → nat_le MOST_UNITS m.units ≡ c
    → ((d : Defect) → RefusesRecord m d → P d) → ((within : Meter) → OpensRecord m within → HasDefect (f within) at P)
    → HasDefect (inside (cond b (Err (fault.Malformed TooDeep at)) (cond c (Err (fault.Malformed TooMany at)) (Ok (within_record m)))) f) at P
record_cases true c f at m P deep many refused opened = (0, omega arith, refused (Malformed TooDeep 0) (inl (leb-true MOST_DEPTH m.depth deep, refl)))
record_cases false true f at m P deep many refused opened = (0, omega arith, refused (Malformed TooMany 0) (inr (leb-false MOST_DEPTH m.depth deep, leb-true MOST_UNITS m.units many, refl)))
record_cases false false f at m P deep many refused opened = opened (within_record m) (record { shallow = leb-false MOST_DEPTH m.depth deep; few = leb-false MOST_UNITS m.units many; deeper = refl; counted = refl })

pub record_defect : {V : Type 0} (f : Meter → Decoding V) (at : ℕ) (m : Meter) (P : Defect → Type 0) → ((d : Defect) → RefusesRecord m d → P d) → ((within : Meter) → OpensRecord m within → HasDefect (f within) at P) → HasDefect (inside (opened_record at m) f) at P
record_defect f at m P refused opened = record_cases (nat_le MOST_DEPTH m.depth) (nat_le MOST_UNITS m.units) f at m P refl refl refused opened

place : (at : ℕ) → at ≡ at + 0
place at = omega arith

pub refused_told : {V : Type 0} (f : Meter → Decoding V) (at : ℕ) (m : Meter) (d : Defect) → RefusesRecord m d → inside (opened_record at m) f ≡ failing at d
refused_told f at m d (inl r) =
    let deep : MOST_DEPTH ≤ m.depth = r.0 in
    rw (le-leb MOST_DEPTH m.depth deep) (ap (λ k. Failed (Malformed TooDeep k)) (place at)) ∙ ap (failing at) (sym r.1)
refused_told f at m d (inr r) =
    let shallow : m.depth < MOST_DEPTH = r.0 in
    let many : MOST_UNITS ≤ m.units = r.1 in
    rw (lt-leb MOST_DEPTH m.depth shallow, le-leb MOST_UNITS m.units many) (ap (λ k. Failed (Malformed TooMany k)) (place at)) ∙ ap (failing at) (sym r.2)

-- ---- items, and arrays and maps: one limit each

opens_one : (b : Bool) (kind : MalformedKind) (at : ℕ) (m within : Meter) → cond b (Err (fault.Malformed kind at)) (Ok m) ≡ Ok within → (b ≡ false) × (m ≡ within)
opens_one true kind at m within e = absurd cc
opens_one false kind at m within e = (refl, cc)

abbrev one_unit_more : Meter → Meter
one_unit_more m = record { depth = m.depth; units = m.units + 1 }

pub item_was_opened : (at : ℕ) (m within : Meter) → opened_item at m ≡ Ok within → OpensItem m within
item_was_opened at m within h =
    let o = opens_one (nat_le MOST_UNITS m.units) TooMany at (one_unit_more m) within h in
    record { few = leb-false MOST_UNITS m.units o.0; same_depth = sym (ap (λ (x : Meter). x.depth) o.1); counted = sym (ap (λ (x : Meter). x.units) o.1) }

pub item_opened_again : (at : ℕ) (m within : Meter) → OpensItem m within → opened_item at m ≡ Ok within
item_opened_again at m within o =
    let few : m.units < MOST_UNITS = o.few in
    rw (lt-leb MOST_UNITS m.units few) (ap Ok (sym (same_meter within (one_unit_more m) o.same_depth o.counted)))

item_cases : {V : Type 0} (b : Bool) (f : Meter → Decoding V) (at : ℕ) (m : Meter) (P : Defect → Type 0) → nat_le MOST_UNITS m.units ≡ b
    → ((d : Defect) → RefusesItem m d → P d) → ((within : Meter) → OpensItem m within → HasDefect (f within) at P)
    → HasDefect (inside (cond b (Err (fault.Malformed TooMany at)) (Ok (one_unit_more m))) f) at P
item_cases true f at m P many refused opened = (0, omega arith, refused (Malformed TooMany 0) (leb-true MOST_UNITS m.units many, refl))
item_cases false f at m P many refused opened = opened (one_unit_more m) (record { few = leb-false MOST_UNITS m.units many; same_depth = refl; counted = refl })

pub item_defect : {V : Type 0} (f : Meter → Decoding V) (at : ℕ) (m : Meter) (P : Defect → Type 0) → ((d : Defect) → RefusesItem m d → P d) → ((within : Meter) → OpensItem m within → HasDefect (f within) at P) → HasDefect (inside (opened_item at m) f) at P
item_defect f at m P refused opened = item_cases (nat_le MOST_UNITS m.units) f at m P refl refused opened

pub item_refused_told : {V : Type 0} (f : Meter → Decoding V) (at : ℕ) (m : Meter) (d : Defect) → RefusesItem m d → inside (opened_item at m) f ≡ failing at d
item_refused_told f at m d r =
    let many : MOST_UNITS ≤ m.units = r.0 in
    rw (le-leb MOST_UNITS m.units many) (ap (λ k. Failed (Malformed TooMany k)) (place at)) ∙ ap (failing at) (sym r.1)

abbrev one_deeper : Meter → Meter
one_deeper m = record { depth = m.depth + 1; units = m.units }

pub blocks_were_opened : (at : ℕ) (m within : Meter) → opened_blocks at m ≡ Ok within → OpensBlocks m within
blocks_were_opened at m within h =
    let o = opens_one (nat_le MOST_DEPTH m.depth) TooDeep at (one_deeper m) within h in
    record { shallow = leb-false MOST_DEPTH m.depth o.0; deeper = sym (ap (λ (x : Meter). x.depth) o.1); same_units = sym (ap (λ (x : Meter). x.units) o.1) }

pub blocks_opened_again : (at : ℕ) (m within : Meter) → OpensBlocks m within → opened_blocks at m ≡ Ok within
blocks_opened_again at m within o =
    let shallow : m.depth < MOST_DEPTH = o.shallow in
    rw (lt-leb MOST_DEPTH m.depth shallow) (ap Ok (sym (same_meter within (one_deeper m) o.deeper o.same_units)))

blocks_cases : {V : Type 0} (b : Bool) (f : Meter → Decoding V) (at : ℕ) (m : Meter) (P : Defect → Type 0) → nat_le MOST_DEPTH m.depth ≡ b
    → ((d : Defect) → RefusesBlocks m d → P d) → ((within : Meter) → OpensBlocks m within → HasDefect (f within) at P)
    → HasDefect (inside (cond b (Err (fault.Malformed TooDeep at)) (Ok (one_deeper m))) f) at P
blocks_cases true f at m P deep refused opened = (0, omega arith, refused (Malformed TooDeep 0) (leb-true MOST_DEPTH m.depth deep, refl))
blocks_cases false f at m P deep refused opened = opened (one_deeper m) (record { shallow = leb-false MOST_DEPTH m.depth deep; deeper = refl; same_units = refl })

pub blocks_defect : {V : Type 0} (f : Meter → Decoding V) (at : ℕ) (m : Meter) (P : Defect → Type 0) → ((d : Defect) → RefusesBlocks m d → P d) → ((within : Meter) → OpensBlocks m within → HasDefect (f within) at P) → HasDefect (inside (opened_blocks at m) f) at P
blocks_defect f at m P refused opened = blocks_cases (nat_le MOST_DEPTH m.depth) f at m P refl refused opened

pub blocks_refused_told : {V : Type 0} (f : Meter → Decoding V) (at : ℕ) (m : Meter) (d : Defect) → RefusesBlocks m d → inside (opened_blocks at m) f ≡ failing at d
blocks_refused_told f at m d r =
    let deep : MOST_DEPTH ≤ m.depth = r.0 in
    rw (le-leb MOST_DEPTH m.depth deep) (ap (λ k. Failed (Malformed TooDeep k)) (place at)) ∙ ap (failing at) (sym r.1)
