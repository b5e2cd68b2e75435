-- How a device is set up.
use Rattle.std.proofs.Common.{ℕ, ◌≡◌, ◌+◌, ◌-◌, ◌%◌, ◌/◌, Bool, true, false, cond, not, nat_eq, List, [], length, replicate, refl, sym, ap, ◌∙◌, subst, arith}
use Rattle.std.proofs.lemmas.Bool.Decides.{nat_tests}
use Rattle.std.specs.declared.option.Option.TheVariants.{Some, None}
use Rattle.pcm_base.specs.declared.call.Call.TheVariants as call
use Rattle.pcm_base.specs.declared.config.Config.{Config}
use Rattle.pcm_base.specs.declared.ids.ClientId.{ClientId}
use Rattle.pcm_base.specs.declared.reply.Reply.TheVariants as reply
use Rattle.pcm_base.specs.declared.state.Dir.{Dir}
use Rattle.pcm_base.specs.declared.state.Dir.TheVariants as dir
use Rattle.pcm_base.specs.declared.state.Errno.TheVariants as errno
use Rattle.pcm_base.specs.declared.state.State.TheVariants as state
use Rattle.pcm_base.specs.model.Allowed.{accepts}
use Rattle.pcm_base.specs.model.Events.{freed, hands, program, set_setup, setup_of}
use Rattle.pcm_base.specs.model.Frame.{Frame, frames_of}
use Rattle.pcm_base.specs.model.Program.{Answer, fails, says, unless}
use Rattle.pcm_base.specs.model.Standing.{Put}
use Rattle.pcm_base.specs.model.Stream.{Positions, Setup, Stream}
use Rattle.pcm_base.specs.model.Transfer.{is_whole}
use Rattle.pcm_base.specs.model.Words.{when}
use Rattle.card_emul.specs.Limits.{duplex}
use Rattle.play_record.specs.Stages.{long_max}
use Rattle.play_record.specs.Stages.{device_at, opened_with}
use Rattle.play_record.specs.Steps.{GoesTo}
use Rattle.play_record.proofs.PlayEvents.{plain}

-- positions at the origin l, which all are equal
abbrev at_place : ℕ → ℕ → Positions
at_place l i = record { hw = i; appl = i; card = i; filled = l }

origin : (l : ℕ) → at_place l l ≡ at_place l (l + 0)
origin l = let e : l ≡ l + 0 = omega arith in ap (at_place l) e

pub goes-hw_params : (k : ClientId) (io : List ℕ) (d : Dir) (g : Config) (puts : List Put) → accepts duplex long_max g ≡ true
    → GoesTo (program (call.HwParams g) k false io (opened_with d puts)) (plain reply.Ok) (device_at d (setup_of g long_max) state.Setup false 0 0 0 [] [] [])
goes-hw_params k io d g puts accepted =
    let s : Stream = opened_with d puts in
    let p : Setup = setup_of g long_max in
    let t : Stream = device_at d p state.Setup false 0 0 0 [] [] [] in
    let at : set_setup p state.Setup p.boundary s ≡ t = ap (λ a. record t { at = a }) (origin p.boundary) in
    subst (λ b. GoesTo (cond b (says reply.Ok (set_setup p state.Setup p.boundary s)) (fails errno.Einval (freed s))) (plain reply.Ok) t) (sym accepted) (refl, at)

pub goes-prepare : (k : ClientId) (io : List ℕ) (d : Dir) (p : Setup) (give : List Frame)
    → GoesTo (program call.Prepare k false io (device_at d p state.Setup false 0 0 0 [] [] give)) (plain reply.Ok) (device_at d p state.Prepared false 0 0 0 [] [] give)
goes-prepare k io d p give = (refl, refl, (refl, ap (λ a. record (device_at d p state.Prepared false 0 0 0 [] [] give) { at = a }) (origin p.boundary)))

-- the frames that are given
pub goes-give : (k : ClientId) (io : List ℕ) (g : Config) → length io % (setup_of g long_max).frame_bytes ≡ 0
    → GoesTo (program call.Give k false io (device_at dir.Capture (setup_of g long_max) state.Setup false 0 0 0 [] [] []))
    (record { reply = reply.Ok; first = 0; frames = frames_of (length io / (setup_of g long_max).frame_bytes) (setup_of g long_max).frame_bytes io })
    (device_at dir.Capture (setup_of g long_max) state.Setup false 0 0 0 [] [] (frames_of (length io / (setup_of g long_max).frame_bytes) (setup_of g long_max).frame_bytes io))
goes-give k io g whole =
    let w : ℕ = (setup_of g long_max).frame_bytes in
    let s : Stream = device_at dir.Capture (setup_of g long_max) state.Setup false 0 0 0 [] [] [] in
    let fs : List Frame = frames_of (length io / w) w io in
    let t : Stream = device_at dir.Capture (setup_of g long_max) state.Setup false 0 0 0 [] [] fs in
    let answer : Answer = record { reply = reply.Ok; first = 0; frames = fs } in
    let is : nat_eq (length io % w) 0 ≡ true = grind (arith, nat_tests, whole) in
    subst (λ b. GoesTo (unless (when (not b) errno.Einval) s (hands reply.Ok fs t)) answer t) (sym is) (refl, refl)

-- a card that records starts
pub goes-start : (k : ClientId) (io : List ℕ) (p : Setup) (give : List Frame)
    → GoesTo (program call.Start k false io (device_at dir.Capture p state.Prepared false 0 0 0 [] [] give)) (plain reply.Ok) (device_at dir.Capture p state.Running true 0 0 0 [] [] give)
goes-start k io p give = (refl, refl, (refl, refl))
