-- What each act asks of a member's card (the do column of the acts; snd_pcm_do_start, snd_pcm_do_stop and their kin).
use Rattle.std.specs.Prelude.{Bool, false, ◌&&◌, if◌then◌else◌}
use Rattle.std.specs.declared.option.Option.{Option}
use Rattle.std.specs.declared.option.Option.TheVariants.{Some, None}
use Rattle.pcm_base.specs.declared.act.Act.{Act}
use Rattle.pcm_base.specs.declared.act.Act.TheVariants as act
use Rattle.pcm_base.specs.declared.act.Trigger.{Trigger}
use Rattle.pcm_base.specs.declared.act.Trigger.TheVariants as trigger
use Rattle.pcm_base.specs.model.Words.{is_playback, is_running}
use Rattle.pcm_base.specs.model.Stream.{Stream}
use Rattle.pcm_base.specs.model.Acts.{ran, starts_drain}

-- the trigger, where the test holds
abbrev pub only_if : Bool → Trigger → Option Trigger
only_if b t = if b then Some t else None

-- a drain starts the card of what was written, and stops that of a capture
abbrev pub drain_trigger : Bool → Bool → Option Trigger
drain_trigger starts stops = if starts then Some trigger.Start else only_if stops trigger.Stop

abbrev pub stops_capture : Stream → Bool
stops_capture s = if is_playback s.dir then false else is_running s.state

abbrev pub trigger_for : Act → Stream → Option Trigger
trigger_for act.Start s = Some trigger.Start
trigger_for (act.Stop t) s = only_if s.card.runs trigger.Stop
trigger_for (act.Prepare first) s = only_if (first && s.card.runs) trigger.Stop
trigger_for act.Pause s = Some trigger.PausePush
trigger_for act.Release s = Some trigger.PauseRelease
trigger_for act.Suspend s = only_if s.card.runs trigger.Suspend
trigger_for act.Resume s = only_if (ran s.dir s.kept) trigger.Resume
trigger_for act.Drain s = drain_trigger (starts_drain s) (stops_capture s)
trigger_for act.Watch s = None
