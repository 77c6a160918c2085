-- What a batch has reported of its first items stays true while a later output is written after theirs, and so it is
-- one item more that it has reported.
use Rattle.std.proofs.Common.{◌≡◌, ◌≤◌, ◌<◌, ◌+◌, ◌-◌, ℕ, List, [], ◌∷◌, ◌++◌, length, take, drop, refl, sym, ap, ◌∙◌, subst, arith}
use Rattle.std.proofs.lemmas.List.{drop-take, length-drop, length-take-le, take-take, append-nil}
use Rattle.std.proofs.Math.ListN.{drop_of_length-le}
use Rattle.std.proofs.Math.Seq.{drop_at}
use borrow.Rule.Slice.PartMut.{put_mid}
use Rattle.embedding.specs.declared.batch.BatchItem.{BatchItem}
use Rattle.embedding.specs.declared.numbers.ReportNumbers.{ReportNumbers}
use Rattle.spec_library.specs.declared.report.PayloadReport.{PayloadReport}
use Rattle.spec_library.specs.declared.report.PayloadReport.TheVariants as payloads
use Rattle.spec_library.specs.declared.report.Report.{Report}
use Rattle.spec_library.specs.declared.report.Report.TheVariants as reports
use Rattle.embedding.specs.Batch.{IsBatch, IsItem, ReportsItem, length_told, output_length, payload_of}
use Rattle.embedding.specs.Numbers.{numbers_of, payload_numbers}
use Rattle.spec_library.specs.Pair.{Pair}
use Rattle.spec_library.specs.Report.{IsOutput, IsPayloadReport}

-- the part of a room from an offset on, after a call has written to it
written_part : (at : ℕ) (room part : List ℕ) → at ≤ length room
    → drop at (put_mid at (length room - at) room part) ≡ part
written_part at room part within =
    let long = length-drop at room in
    drop_at _ _ at (length-take-le at room within)
    ∙ ap (λ rest. part ++ rest) (drop_of_length-le (drop at room) (omega (arith, long)))
    ∙ append-nil part

-- what is reported of a payload is reported of the item whose payload it is
pub item_reported : (pair : Pair) (payloads room room' part payload : List ℕ) (at : ℕ) (item : BatchItem)
    (report told : PayloadReport) → at ≤ length room
    → (item.payload_offset + item.payload_length ≤ length payloads) × (payload ≡ payload_of payloads item)
    → report ≡ told → room' ≡ put_mid at (length room - at) room part
    → IsPayloadReport pair [] payload part report
    → ReportsItem pair payloads (drop at room') item (reports.Payload told)
item_reported pair payloads room room' part payload at item report told fits range same written reported =
    let to : part ≡ drop at room' = sym (ap (drop at) written ∙ written_part at room part fits) in (
      range.0,
      subst (λ (it : List ℕ × List ℕ × PayloadReport). IsPayloadReport pair [] it.0 it.1 it.2)
          (λ i. (range.1 i, to i, same i)) reported,
    )

-- where the outputs of items end, the first of which begins at an offset
abbrev pub end_of : ℕ → List BatchItem → ℕ
end_of at [] = at
end_of at (item ∷ items) = end_of (at + output_length item) items

end_grows : (at : ℕ) (items : List BatchItem) → at ≤ end_of at items
end_grows at [] = omega arith
end_grows at (item ∷ items) = let later = end_grows (at + output_length item) items in omega (arith, later)

pub end_of-append : (at : ℕ) (items : List BatchItem) (item : BatchItem)
    → end_of at (items ++ item ∷ []) ≡ end_of at items + output_length item
end_of-append at [] item = refl
end_of-append at (first ∷ items) item = end_of-append (at + output_length first) items item

-- two rooms that are as long, and alike up to an end
pub record AreAlike (end : ℕ) (room room' : List ℕ) : Type 0 where
  pub long : length room ≡ length room'
  pub front : take end room ≡ take end room'

rest_long : (at end : ℕ) (room room' : List ℕ) → AreAlike end room room'
    → length (drop at room) ≡ length (drop at room')
rest_long at end room room' alike =
    length-drop at room ∙ ap (λ n. n - at) alike.long ∙ sym (length-drop at room')

alike_part : (at n end : ℕ) (room room' : List ℕ) → AreAlike end room room' → at + n ≤ end
    → take n (drop at room) ≡ take n (drop at room')
alike_part at n end room room' alike within =
    sym (drop-take at n room)
    ∙ ap (drop at) (sym (take-take (at + n) end room within)
    ∙ ap (take (at + n)) alike.front ∙ take-take (at + n) end room' within)
    ∙ drop-take at n room'

-- what was reported of a payload is still so where its output ends before what has been written
report_stays : (pair : Pair) (payload room room' : List ℕ) (at end : ℕ) (report : PayloadReport)
    → AreAlike end room room' → at + length_told (payload_numbers report) ≤ end
    → IsPayloadReport pair [] payload (drop at room) report → IsPayloadReport pair [] payload (drop at room') report
report_stays pair payload room room' at end (payloads.Done len) alike within is = (
  subst (λ n. len ≤ n) (rest_long at end room room' alike) is.0,
  subst (IsOutput pair [] payload) (alike_part at len end room room' alike within) is.1,
)
report_stays pair payload room room' at end (payloads.RoomTooSmall len) alike within is =
    (subst (λ n. n < len) (rest_long at end room room' alike) is.0, is.1, is.2, is.3)
report_stays pair payload room room' at end (payloads.Mismatch m) alike within is = is
report_stays pair payload room room' at end (payloads.Malformed kind place) alike within is = is
report_stays pair payload room room' at end payloads.OutputTooLarge alike within is = is
report_stays pair payload room room' at end payloads.PayloadTooLarge alike within is = is
report_stays pair payload room room' at end payloads.NoMemory alike within is = is

holds_stays : (pair : Pair) (payloads room room' : List ℕ) (at end : ℕ) (item : BatchItem) (report : Report)
    → AreAlike end room room' → at + length_told (numbers_of report) ≤ end
    → ReportsItem pair payloads (drop at room) item report → ReportsItem pair payloads (drop at room') item report
holds_stays pair payloads room room' at end item (reports.Payload report) alike within is =
    (is.0, report_stays pair (payload_of payloads item) room room' at end report alike within is.1)
holds_stays pair payloads room room' at end item reports.OutOfRange alike within is = is
holds_stays pair payloads room room' at end item reports.Closed alike within is = absurd is
holds_stays pair payloads room room' at end item (reports.BadEnvelope error) alike within is = absurd is
holds_stays pair payloads room room' at end item (reports.OtherWriter id) alike within is = absurd is

item_stays : (pair : Pair) (payloads room room' : List ℕ) (at end : ℕ) (item : BatchItem) → AreAlike end room room'
    → at + output_length item ≤ end → IsItem pair payloads room at item → IsItem pair payloads room' at item
item_stays pair payloads room room' at end item alike within is =
    let ends : at + length_told (numbers_of is.1) ≤ end =
    subst (λ (numbers : ReportNumbers). at + length_told numbers ≤ end) is.3 within in
    (is.0, is.1, holds_stays pair payloads room room' at end item is.1 alike ends is.2, is.3)

-- one item more
pub one_more : (pair : Pair) (payloads room room' : List ℕ) (at : ℕ) (items : List BatchItem) (item : BatchItem)
    → AreAlike (end_of at items) room room' → IsBatch pair payloads room at items
    → IsItem pair payloads room' (end_of at items) item → IsBatch pair payloads room' at (items ++ item ∷ [])
one_more pair payloads room room' at [] item alike is last = (last, tt)
one_more pair payloads room room' at (first ∷ items) item alike is last = (
  item_stays pair payloads room room' at _ first alike (end_grows (at + output_length first) items) is.0,
  one_more pair payloads room room' (at + output_length first) items item alike is.1 last,
)
