-- A link as its entries and its event tell it. This project's own.
use Rattle.std.specs.declared.option.Option.TheVariants.{Some}
use Rattle.pcm_base.specs.declared.call.Call.TheVariants as call
use Rattle.pcm_base.specs.declared.call.Event.{Event}
use Rattle.floor_rule.specs.declared.entry.Entry.{Entry}
use Rattle.floor_rule.specs.declared.entry.Entry.TheVariants as entry
use Rattle.room_parts.specs.declared.calling.Linked.{Linked}

abbrev pub link_entry : Linked → Entry
link_entry l = entry.Linkage l.client l.first l.second l.first_state l.second_state l.second_linked l.reply

abbrev pub link_event : Linked → Event
link_event l = record { client = Some l.client; sub = l.first; call = call.Link l.second }
