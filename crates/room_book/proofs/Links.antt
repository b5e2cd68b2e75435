-- Wake checks leave the streams, and a link replies what its entry tells.
use Rattle.std.proofs.Common.{◌≡◌, Bool, not, nat_eq, List, [], ◌∷◌, refl, ap, ◌∙◌}
use Rattle.std.specs.declared.option.Option.{Option}
use Rattle.std.specs.Prelude.{if◌then◌else◌}
use Rattle.pcm_base.specs.declared.call.CallKind.TheVariants as kind
use Rattle.pcm_base.specs.declared.ids.SubId.{SubId}
use Rattle.pcm_base.specs.declared.state.Dir.{Dir}
use Rattle.pcm_base.specs.declared.state.Dir.TheVariants as dir
use Rattle.pcm_base.specs.declared.state.Errno.{Errno}
use Rattle.pcm_base.specs.declared.state.Errno.TheVariants as errno
use Rattle.pcm_base.specs.declared.state.State.{State}
use Rattle.pcm_base.specs.declared.state.State.TheVariants as state
use Rattle.pcm_base.specs.model.Acts.{subs}
use Rattle.pcm_base.specs.model.Group.{stream_of}
use Rattle.pcm_base.specs.model.Permit.{permit}
use Rattle.pcm_base.specs.model.Sleep.{group_drains, wake_members}
use Rattle.pcm_base.specs.model.Stream.{Member}
use Rattle.pcm_base.specs.model.Words.{when, ◌then◌, is_closed, same_state}
use Rattle.pcm_base.specs.model.World.{is_linked, state_in, stream_in}
use Rattle.room_book.specs.Laws.{LinkRepliesAgree, WakesKeep}
use Rattle.room_book.specs.Logs.{answered}

subs_awake : (g : Bool) (ms : List Member) → subs (wake_members g ms) ≡ subs ms
subs_awake g [] = refl
subs_awake g (m ∷ ms) = ap (λ l. m.sub ∷ l) (subs_awake g ms)

stream_awake : (g : Bool) (j : SubId) (ms : List Member) → stream_of j (wake_members g ms) ≡ stream_of j ms
stream_awake g j [] = refl
stream_awake g j (m ∷ ms) = ap (λ s. if nat_eq m.sub.0 j.0 then m.stream else s) (stream_awake g j ms)

pub wakes_keep : WakesKeep
wakes_keep ms = (subs_awake (group_drains ms) ms, λ j. stream_awake (group_drains ms) j ms)

-- the table's row of a link is the same in both directions
either_way : (s : State) (d : Dir) → permit kind.Link s dir.Playback ≡ permit kind.Link s d
either_way s dir.Playback = refl
either_way state.Closed dir.Capture = refl
either_way state.Opened dir.Capture = refl
either_way state.Setup dir.Capture = refl
either_way state.Prepared dir.Capture = refl
either_way state.Running dir.Capture = refl
either_way state.Xrun dir.Capture = refl
either_way state.Draining dir.Capture = refl
either_way state.Paused dir.Capture = refl
either_way state.Suspended dir.Capture = refl
either_way state.Disconnected dir.Capture = refl

pub link_replies_agree : LinkRepliesAgree
link_replies_agree k j w open_first =
    let s = stream_in k w in
    let t = state_in j w in
    let rest : Option Errno → Option Errno = λ row. when (is_closed t) errno.Enxio then (when (nat_eq j.0 k.0) errno.Einval then (row then (when (not (same_state t s.state)) errno.Ebadfd then when (is_linked j w) errno.Ealready))) in
    ap (λ b. answered (when b errno.Enxio then rest (permit kind.Link s.state dir.Playback))) open_first
    ∙ ap (λ row. answered (rest row)) (either_way s.state s.dir)
