use Rattle.std.proofs.Common.{◌≡◌, true, false, []}
use Rattle.pcm_base.specs.model.World.{nobody}
use Rattle.pcm_group.specs.Inside.{members_in}
use Rattle.play_record.specs.Devices.{IsAt}
use Rattle.pcm_base.specs.declared.reply.Reply.TheVariants as reply
use Rattle.pcm_base.specs.model.Movement.{move}
use Rattle.play_record.specs.Steps.{moved_on}
use Rattle.play_record.proofs.Moves.{goes-any_irq, goes-any_move, moved_answer}
use Rattle.play_record.proofs.PlayEvents.{plain}
use Rattle.play_record.proofs.device.move_on.Goals as goal

pub step-requires-in-Moved-clause-device : goal.step-requires-in-Moved-clause-device
step-requires-in-Moved-clause-device g c =
    let s = c.requires.0 in
    let n = c.args.frames in
    ((move n s).stream, (c.step.ensures.goes s (move n s).stream (moved_answer n s) c.requires.1 (goes-any_move nobody [] n s c.requires.2.is_open) c.requires.2.calls (λ e. absurd (cc))).1)

pub returns-in-Moved-clause-ok : goal.returns-in-Moved-clause-ok
returns-in-Moved-clause-ok g c = λ s at can.
    let n = c.args.frames in
    let there : IsAt c.args.sub (move n s).stream (members_in c.step.new.group) = (c.step.ensures.goes s (move n s).stream (moved_answer n s) at (goes-any_move nobody [] n s can.is_open) can.calls (λ e. absurd (cc))).1 in
    (c.step-in-Moved.ensures.goes (move n s).stream (moved_on n s) (plain reply.Ok) there (goes-any_irq nobody [] (move n s).stream can.still_open can.quiet) can.calls_after
    (λ e. absurd (let w : false ≡ true = c.step-in-Moved.ensures.wants e in cc))).1
