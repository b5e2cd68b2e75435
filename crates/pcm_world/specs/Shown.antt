-- What a world tells: the answer of a step, what a client has read, and what a card has taken.
use Rattle.std.specs.Prelude.{ℕ, Bool, true, false, ◌&&◌, nat_eq, List, [], drop, slice_get, if◌then◌else◌}
use Rattle.std.specs.declared.option.Option.{Option}
use Rattle.std.specs.declared.option.Option.TheVariants.{Some, None}
use Rattle.pcm_base.specs.declared.call.Call.{Call}
use Rattle.pcm_base.specs.declared.call.Call.TheVariants as call
use Rattle.pcm_base.specs.declared.call.Event.{Event}
use Rattle.pcm_base.specs.declared.ids.ClientId.{ClientId}
use Rattle.pcm_base.specs.declared.ids.SubId.{SubId}
use Rattle.pcm_base.specs.declared.reply.Reply.{Reply}
use Rattle.pcm_base.specs.declared.reply.Reply.TheVariants as reply
use Rattle.pcm_base.specs.declared.reply.Told.{Told as Shown}
use Rattle.pcm_base.specs.model.Sleep.{mask_of}
use Rattle.pcm_base.specs.model.World.{World, Told, InProgress, call_of}
use Rattle.std.specs.Prelude.{Vec}
use Rattle.pcm_world.specs.declared.world.Taken.{Taken}
use Rattle.pcm_world.specs.declared.world.World.{World as CodeWorld}
use Rattle.pcm_world.specs.Calls.{read_layout, task_of}
use Rattle.pcm_world.specs.Groups.{taken_of}
use Rattle.pcm_world.specs.Stands.{AreWorld}

abbrev pub IsWorld : CodeWorld → World → Type 0
IsWorld c w = AreWorld c.long_max c.groups.items.items c.calls w

-- what a step tells, with the clients that it marked awake as a mask
abbrev pub shown : Told → Shown
shown t = record { reply = t.reply; state = t.state; woken = mask_of t.woken }

-- the substreams of an event are numbered from 0 to 15
abbrev pub second_of : Call → SubId → SubId
second_of (call.Link j) k = j
second_of e k = k

-- ---- what a client has read

abbrev pub slot_bytes : {Z : Type 0} → Option (Option (Vec ℕ Z)) → List ℕ
slot_bytes (Some (Some v)) = v.items
slot_bytes _ = []

-- what a card took since a movement, where this is its substream
abbrev pub taken_since : Option Taken → SubId → List ℕ → List ℕ
taken_since None k bytes = []
taken_since (Some t) k bytes = if nat_eq t.sub.0 k.0 then drop t.before bytes else []

abbrev pub bytes_or_none : Option (List ℕ) → List ℕ
bytes_or_none None = []
bytes_or_none (Some bytes) = bytes

abbrev pub is_some_layout : {X : Type 0} → Option X → Bool
is_some_layout None = false
is_some_layout (Some l) = true

-- the client's call in progress reads
abbrev pub is_reading : Option InProgress → World → Bool
is_reading None w = false
is_reading (Some p) w = is_some_layout (read_layout (task_of p w.groups))

-- the call reads or loads, in the world before its step
abbrev pub reads : Call → ClientId → World → Bool
reads (call.Read l m n) c w = true
reads (call.Load o n) c w = true
reads call.Go c w = is_reading (call_of c w.calls) w
reads e c w = false

abbrev pub is_frames : Reply → Bool
is_frames (reply.Frames n) = true
is_frames _ = false

-- it is the client's own event
abbrev pub is_by : ClientId → Option ClientId → Bool
is_by c None = false
is_by c (Some d) = nat_eq d.0 c.0

-- what a client has read after a step: the bytes of a read or a load of its own that this step answered with frames, else what it had read before
abbrev pub result_after : ClientId → Event → World → Told → List ℕ → List ℕ
result_after c e w t before = if is_by c e.client && (reads e.call c w && is_frames t.reply) then t.bytes else before

-- ---- what a card has taken

abbrev pub is_movement : Call → Bool
is_movement (call.MoveBy n) = true
is_movement _ = false

-- what a card took in a step
abbrev pub moved_after : SubId → Event → Told → List ℕ
moved_after k e t = if is_movement e.call && nat_eq e.sub.0 k.0 then t.bytes else []

-- what a client has read, none before its first read
abbrev pub result_in : CodeWorld → ClientId → List ℕ
result_in c k = slot_bytes (slice_get c.results k.0)

-- what a card took in the last event
abbrev pub moved_in : CodeWorld → SubId → List ℕ
moved_in c k = taken_since c.taken k (taken_of k c.groups.items.items)
