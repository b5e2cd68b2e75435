-- A call in progress that goes on.
use Rattle.std.specs.Prelude.{ℕ, Bool, true, false, List}
use Rattle.pcm_base.specs.declared.ids.ClientId.{ClientId}
use Rattle.pcm_base.specs.declared.reply.Reply.TheVariants as reply
use Rattle.pcm_base.specs.declared.sleeper.Xfer.{Xfer}
use Rattle.pcm_base.specs.declared.state.Dir.{Dir}
use Rattle.pcm_base.specs.declared.state.Dir.TheVariants as dir
use Rattle.pcm_base.specs.declared.state.Errno.TheVariants as errno
use Rattle.pcm_base.specs.declared.state.State.{State}
use Rattle.pcm_base.specs.declared.state.State.TheVariants as state
use Rattle.pcm_base.specs.model.Events.{go_on, left_by}
use Rattle.pcm_base.specs.model.Program.{Program, says}
use Rattle.pcm_base.specs.model.Stream.{Stream}
use Rattle.pcm_base.specs.model.Transfer.{frames_or}
use Rattle.pcm_group.specs.declared.go.Fate.{Fate}
use Rattle.pcm_group.specs.declared.go.Fate.TheVariants as fate

-- what a transfer comes to
abbrev pub comes_to : ClientId → Xfer → List ℕ → Stream → Fate → Program
comes_to c x io s fate.Waits = says reply.Asleep s
comes_to c x io s (fate.Ends e) = says (frames_or x.moved e) (left_by c s)
comes_to c x io s fate.GoesOn = go_on c x io (left_by c s)

-- in a state in which transfers wait, where the test tells whether too few frames are available
abbrev pub waits_or_goes : Bool → Fate
waits_or_goes true = fate.Waits
waits_or_goes false = fate.GoesOn

-- in each state
abbrev pub fate_in : State → Dir → Bool → Fate
fate_in state.Prepared d b = waits_or_goes b
fate_in state.Running d b = waits_or_goes b
fate_in state.Paused d b = waits_or_goes b
fate_in state.Suspended d b = fate.Ends errno.Estrpipe
fate_in state.Xrun d b = fate.Ends errno.Epipe
fate_in state.Draining dir.Playback b = fate.Ends errno.Epipe
fate_in state.Draining dir.Capture b = fate.GoesOn
fate_in _ d b = fate.Ends errno.Ebadfd
