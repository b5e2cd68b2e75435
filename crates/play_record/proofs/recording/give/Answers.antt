use Rattle.std.proofs.Common.{ℕ, ◌≡◌, ◌/◌, ◌%◌, [], List, length, refl, sym, ap, ◌∙◌, subst, false}
use Rattle.pcm_base.specs.declared.reply.Reply.TheVariants as reply
use Rattle.pcm_base.specs.declared.state.Dir.TheVariants.{Capture}
use Rattle.pcm_base.specs.declared.state.State.TheVariants.{Setup}
use Rattle.pcm_base.specs.model.Allowed.{frame_bytes_of}
use Rattle.pcm_base.specs.model.Events.{setup_of}
use Rattle.pcm_base.specs.model.Frame.{frames_of}
use Rattle.pcm_base.specs.model.World.{nobody}
use Rattle.pcm_group.specs.Inside.{members_in}
use Rattle.play_record.specs.Devices.{IsAt}
use Rattle.play_record.specs.Stages.{device_at, long_max}
use Rattle.play_record.proofs.SetupEvents.{goes-give}
use Rattle.play_record.proofs.recording.give.Goals as goal

pub returns-in-Ok-clause-ok : goal.returns-in-Ok-clause-ok
returns-in-Ok-clause-ok g c = λ h whole at.
    let w : ℕ = frame_bytes_of h in
    let io : List ℕ = c.deref_mut.result.now in
    let same : io ≡ c.args.bytes.now = c.deref_mut.ensures.value ∙ c.in_ok-copy.ensures.items_if_clones_equal (λ x y e. e) in
    let given = frames_of (length io / w) w io in
    let there : IsAt c.args.sub (device_at Capture (setup_of h long_max) Setup false 0 0 0 [] [] given) (members_in c.step.new.group) =
    (c.step.ensures.goes (device_at Capture (setup_of h long_max) Setup false 0 0 0 [] [] []) (device_at Capture (setup_of h long_max) Setup false 0 0 0 [] [] given)
    (record { reply = reply.Ok; first = 0; frames = given }) at (goes-give nobody io h (subst (λ l. length l % w ≡ 0) (sym same) whole)) refl (λ e. absurd (cc))).1 in
    subst (λ l. IsAt c.args.sub (device_at Capture (setup_of h long_max) Setup false 0 0 0 [] [] (frames_of (length l / w) w l)) (members_in c.step.new.group)) same there
