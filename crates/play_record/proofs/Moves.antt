-- A movement of the card and its interrupt, whatever the stream.
use Rattle.std.proofs.Common.{ℕ, ◌≡◌, ◌≢◌, Bool, true, false, cond, ◌&&◌, List, [], refl, sym, subst}
use Rattle.pcm_base.specs.declared.act.Updated.{Updated}
use Rattle.pcm_base.specs.declared.act.Updated.TheVariants as updated
use Rattle.pcm_base.specs.declared.call.Call.{Call}
use Rattle.pcm_base.specs.declared.call.Call.TheVariants as call
use Rattle.pcm_base.specs.declared.ids.ClientId.{ClientId}
use Rattle.pcm_base.specs.declared.reply.Reply.TheVariants as reply
use Rattle.pcm_base.specs.declared.state.Errno.TheVariants as errno
use Rattle.pcm_base.specs.model.Events.{event, program}
use Rattle.pcm_base.specs.model.Movement.{move}
use Rattle.pcm_base.specs.model.Program.{Answer, after_found, fails, says}
use Rattle.pcm_base.specs.model.Stream.{Stream}
use Rattle.pcm_base.specs.model.Update.{update}
use Rattle.pcm_base.specs.model.Words.{is_closed}
use Rattle.play_record.specs.Steps.{GoesTo}
use Rattle.play_record.proofs.PlayEvents.{plain}

abbrev pub moved_answer : ℕ → Stream → Answer
moved_answer n s = record { reply = (move n s).reply; first = 0; frames = (move n s).frames }

pub goes-any_move : (k : ClientId) (io : List ℕ) (n : ℕ) (s : Stream) → is_closed s.state ≡ false → GoesTo (program (call.MoveBy n) k false io s) (moved_answer n s) (move n s).stream
goes-any_move k io n s opened = subst (λ b. GoesTo (cond (b && true) (fails errno.Enxio s) (event (call.MoveBy n) k false io s)) (moved_answer n s) (move n s).stream) (sym opened) (refl, refl)

no_underrun : (u : Updated) (s : Stream) → u ≢ updated.StopXrun → GoesTo (after_found (λ v. says reply.Ok) u s) (plain reply.Ok) s
no_underrun updated.Nothing s h = (refl, refl)
no_underrun updated.DrainDone s h = (refl, refl)
no_underrun updated.StopXrun s h = absurd (h refl)

pub goes-any_irq : (k : ClientId) (io : List ℕ) (s : Stream) → is_closed s.state ≡ false → (update s).found ≢ updated.StopXrun → GoesTo (program call.Irq k false io s) (plain reply.Ok) (update s).stream
goes-any_irq k io s opened quiet =
    subst (λ b. GoesTo (cond (b && true) (fails errno.Enxio s) (event call.Irq k false io s)) (plain reply.Ok) (update s).stream) (sym opened) (no_underrun (update s).found (update s).stream quiet)
