-- What a step of a group tells and leaves.
use Rattle.std.specs.Prelude.{ℕ, Bool, true, false}
use Rattle.std.specs.declared.option.Option.{Option}
use Rattle.std.specs.declared.option.Option.TheVariants.{Some, None}
use Rattle.pcm_base.specs.declared.call.Call.{Call}
use Rattle.pcm_base.specs.declared.call.Call.TheVariants as call
use Rattle.pcm_base.specs.declared.call.Event.{Event}
use Rattle.pcm_base.specs.declared.ids.ClientId.{ClientId}
use Rattle.pcm_base.specs.model.World.{nobody}

-- Link and Unlink are no events of one group
abbrev pub is_group_call : Call → Bool
is_group_call (call.Link j) = false
is_group_call call.Unlink = false
is_group_call _ = true

-- the events of a card
abbrev pub is_card_event : Call → Bool
is_card_event (call.MoveBy n) = true
is_card_event call.Irq = true
is_card_event (call.FailAt k) = true
is_card_event call.Give = true
is_card_event call.Unplug = true
is_card_event _ = false

abbrev pub caller_of : Option ClientId → ClientId
caller_of None = nobody
caller_of (Some c) = c

-- the call's own client; nobody for an event of the card
abbrev pub caller : Event → ClientId
caller e = caller_of e.client

-- the calls that can want memory
abbrev pub may_want_memory : Call → Bool
may_want_memory (call.HwParams g) = true
may_want_memory (call.MoveBy n) = true
may_want_memory call.Give = true
may_want_memory _ = false

-- The frames of an answer that moved between the call's bytes and the buffer: those that a card moves, or is handed to give, are none of them.
abbrev pub frames_moved : Call → ℕ → ℕ
frames_moved (call.MoveBy n) count = 0
frames_moved call.Give count = 0
frames_moved _ count = count
