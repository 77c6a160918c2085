-- Frames and buffers by index, the oldest frame first: what is seen of them. All of this is this project's own.
use Rattle.std.specs.Prelude.{ℕ, ◌+◌, ◌-◌, List, [], ◌∷◌, length, get_or, reverse, slice_get, Option, Some, None, ◌==◌, nat_lt, if◌then◌else◌}
use Rattle.spec_machine.specs.State as state
use Rattle.spec_machine.specs.State.{Store}
use Rattle.machine_store.specs.declared.buffers.TargetBuffer.{TargetBuffer}
use Rattle.machine_store.specs.declared.buffers.TargetBuffer.TheVariants as places
use Rattle.machine_store.specs.declared.ropes.Segment.{Segment}
use Rattle.machine_store.specs.declared.store.Frame.{Frame}
use Rattle.machine_store.specs.declared.store.Frame.TheVariants as frames
use Rattle.machine_store.specs.declared.views.BufferAt.{BufferAt}
use Rattle.machine_store.specs.declared.views.BufferAt.TheVariants as at
use Rattle.machine_store.specs.declared.views.FrameView.{FrameView}
use Rattle.machine_store.specs.declared.views.FrameView.TheVariants as views
use Rattle.machine_store.specs.Frames.{slot_of}
use Rattle.machine_store.specs.Store.{Layout}

-- a frame, less the bytes of its buffers
abbrev pub view_of : state.Frame → FrameView
view_of (state.Rec cur slots) = views.Record cur (length slots)
view_of state.Skip = views.Skip
view_of (state.Blocks walk items buffer) = views.Blocks walk items
view_of (state.SkipBlocks walk) = views.SkipBlocks walk

-- the buffers of the slots, where it is a record
abbrev pub slots_in : Option state.Frame → List (List ℕ)
slots_in (Some (state.Rec cur slots)) = slots
slots_in frame = []

-- the buffer, where it is an array or a map
abbrev pub gathered_in : Option state.Frame → Option (List ℕ)
gathered_in (Some (state.Blocks walk items buffer)) = Some buffer
gathered_in frame = None

-- the bytes of a buffer, where it is there
abbrev pub buffer_of : BufferAt → Store → Option (List ℕ)
buffer_of at.Out s = Some s.out
buffer_of (at.Slot frame slot) s = slice_get (slots_in (slice_get (reverse s.frames) frame)) slot
buffer_of (at.Gathered frame) s = gathered_in (slice_get (reverse s.frames) frame)

-- the segments of a buffer that is there
abbrev pub segments_of_buffer : BufferAt → Layout → List Segment
segments_of_buffer at.Out l = l.out
segments_of_buffer (at.Slot frame slot) l = get_or (get_or (reverse l.frames) frame []) slot []
segments_of_buffer (at.Gathered frame) l = get_or (get_or (reverse l.frames) frame []) 0 []

abbrev pub place_and_length : Segment → ℕ × ℕ
place_and_length s = (s.place, s.end - s.place)

-- ---- how they are found: frames, the newest first, down to the bottom one, over n slots

-- where the slots of the frames below one end
abbrev pub end_below : Frame → ℕ → ℕ
end_below (frames.Record first selected) end = first
end_below (frames.Blocks first walk items) end = first
end_below frame end = end

-- where the slots of the frames below some end
abbrev pub end_over : List Frame → ℕ → ℕ
end_over [] end = end
end_over (frame ∷ newer) end = end_over newer (end_below frame end)

-- the frame at an index, and where its own slots end
abbrev pub frame_numbered : ℕ → List Frame → ℕ → Option (Frame × ℕ)
frame_numbered number [] end = None
frame_numbered number (frame ∷ below) end =
    if length below == number + 1 then Some (frame, end) else frame_numbered number below (end_below frame end)

abbrev pub view_at : Frame → ℕ → Option FrameView
view_at frames.Bottom end = None
view_at (frames.Record first selected) end = Some (views.Record (slot_of first selected) (end - first))
view_at frames.Skip end = Some views.Skip
view_at (frames.Blocks first walk items) end = Some (views.Blocks walk items)
view_at (frames.SkipBlocks walk) end = Some (views.SkipBlocks walk)

abbrev pub view_in : Option (Frame × ℕ) → Option FrameView
view_in (Some found) = view_at found.0 found.1
view_in None = None

abbrev pub slot_place : ℕ → Option (Frame × ℕ) → Option TargetBuffer
slot_place slot (Some (frames.Record first selected, end)) =
    if nat_lt slot (end - first) then Some (places.Slot (first + slot)) else None
slot_place slot found = None

abbrev pub gathered_place : Option (Frame × ℕ) → Option TargetBuffer
gathered_place (Some (frames.Blocks first walk items, end)) = Some (places.Slot first)
gathered_place found = None

abbrev pub place_named : BufferAt → List Frame → ℕ → Option TargetBuffer
place_named at.Out fs end = Some places.Out
place_named (at.Slot frame slot) fs end = slot_place slot (frame_numbered frame fs end)
place_named (at.Gathered frame) fs end = gathered_place (frame_numbered frame fs end)
