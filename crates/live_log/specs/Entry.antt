-- The text of an entry. The marks of entries are not shown. This project's own.
use Rattle.std.specs.Prelude.{ℕ, Bool, List, [], ◌++◌, codes, if◌then◌else◌}
use Rattle.std.specs.List.{flat_map}
use Rattle.std.specs.declared.option.Option.TheVariants.{Some, None}
use Rattle.pcm_base.specs.declared.call.Call.TheVariants as call
use Rattle.pcm_base.specs.declared.call.Event.{Event}
use Rattle.pcm_base.specs.declared.ids.ClientId.{ClientId}
use Rattle.pcm_base.specs.declared.ids.SubId.{SubId}
use Rattle.pcm_base.specs.declared.reply.Reply.{Reply}
use Rattle.pcm_base.specs.declared.state.Dir.{Dir}
use Rattle.pcm_base.specs.declared.state.State.{State}
use Rattle.floor_rule.specs.declared.entry.Entry.{Entry}
use Rattle.floor_rule.specs.declared.entry.Entry.TheVariants as entry
use Rattle.floor_rule.specs.declared.entry.Joint.{Joint}
use Rattle.pcm_line.specs.declared.line.Line.TheVariants as line
use Rattle.pcm_line.specs.Spelling.{spelling}
use Rattle.pcm_text.specs.Names.{state_name}
use Rattle.pcm_text.specs.Told.{answer_text}
use Rattle.live_log.specs.Event.{answer_shown, event_text}
use Rattle.live_log.specs.Joint.{joint_text, room_word}

-- behind an event stand its parts in the acts that it made
abbrev pub added_joint : Joint → List ℕ
added_joint j = codes " + " ++ joint_text j

-- an event of the substream: its line, the answer, the state after the step, and the acts
abbrev pub own_text : Dir → Event → List ℕ → List Joint → Reply → State → List ℕ
own_text dir e bytes joints r after =
    event_text e r bytes ++ codes " = " ++ answer_shown dir e.call r bytes ++ codes " " ++ state_name after ++ flat_map added_joint joints

-- the link of the second substream to the group of the first, as a script has it
abbrev pub link_line : ClientId → SubId → SubId → List ℕ
link_line client first second = spelling (line.Event (record { client = Some client; sub = first; call = call.Link second }) [])

-- whether the second substream was in a group already
abbrev pub linked_word : Bool → List ℕ
linked_word linked = if linked then codes "linked" else codes "free"

-- a link: its line, the states of both substreams, whether the second was free, and the answer
abbrev pub linkage_text : ClientId → SubId → SubId → State → State → Bool → Reply → List ℕ
linkage_text client first second first_state second_state linked r =
    link_line client first second ++ codes " " ++ state_name first_state ++ codes " " ++ state_name second_state ++ codes " "
    ++ linked_word linked ++ codes " = " ++ answer_text r None

abbrev pub entry_text : Dir → Entry → List ℕ
entry_text dir (entry.Own e bytes joints r after) = own_text dir e bytes joints r after
entry_text dir (entry.Shared j) = codes "joint " ++ joint_text j
entry_text dir (entry.Linkage client first second first_state second_state linked r) = linkage_text client first second first_state second_state linked r
entry_text dir (entry.Moved room) = codes "moved " ++ room_word room
