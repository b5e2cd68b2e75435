-- What an unlink replies is the world's reply.
use Rattle.std.proofs.Common.{◌≡◌, Bool, true, false, not, ◌&&◌, ◌||◌, List, [], ◌∷◌, refl, sym, ap, ◌∙◌}
use Rattle.std.specs.Prelude.{if◌then◌else◌}
use Rattle.std.specs.declared.option.Option.{Option}
use Rattle.std.specs.declared.option.Option.TheVariants.{Some, None}
use Rattle.pcm_base.specs.declared.call.Call.TheVariants as call
use Rattle.pcm_base.specs.declared.ids.SubId.{SubId}
use Rattle.pcm_base.specs.declared.reply.Reply.TheVariants as reply
use Rattle.pcm_base.specs.declared.state.Errno.TheVariants as errno
use Rattle.pcm_base.specs.declared.state.State.TheVariants as state
use Rattle.pcm_base.specs.model.Group.{stream_of}
use Rattle.pcm_base.specs.model.Stream.{Member}
use Rattle.pcm_base.specs.model.Words.{when, ◌then◌, is_closed}
use Rattle.pcm_base.specs.model.World.{InProgress, Told, World, begun, group_of, holds, is_declared, is_go, is_linked, named, state_in, stays, unlink}
use Rattle.room_book.specs.Logs.{answered}
use Rattle.room_lock.specs.Staying.{UnlinkRepliesAgree}

-- what is not declared is closed

closed_within : (k : SubId) (g rest : List Member) (b : Bool) → holds k g ≡ b → (holds k rest ≡ false → is_closed (stream_of k rest).state ≡ true) → holds k (if b then g else rest) ≡ false → is_closed (stream_of k (if b then g else rest)).state ≡ true
closed_within k g rest true here behind out = absurd (let none : ⊥ = cc in none)
closed_within k g rest false here behind out = behind out

closed_outside : (k : SubId) (gs : List (List Member)) → holds k (group_of k gs) ≡ false → is_closed (stream_of k (group_of k gs)).state ≡ true
closed_outside k [] out = refl
closed_outside k (g ∷ gs) out = closed_within k g (group_of k gs) (holds k g) refl (closed_outside k gs) out

-- the world's reply by whether the substream is declared, closed and linked
abbrev told : SubId → World → Bool → Bool → Bool → Told
told k w declared closed linked =
    if not declared || (closed && true) then stays (reply.Err errno.Enxio) (Some state.Closed) w
    else if linked then unlink k w else stays (reply.Err errno.Ealready) (Some (state_in k w)) w

by_each : (k : SubId) (w : World) (declared closed linked : Bool) → (declared ≡ false → closed ≡ true) → answered (when closed errno.Enxio then when (not linked) errno.Ealready) ≡ (told k w declared closed linked).reply
by_each k w true true linked out = refl
by_each k w true false true out = refl
by_each k w true false false out = refl
by_each k w false true linked out = refl
by_each k w false false linked out = absurd (let no : false ≡ true = out refl in let none : ⊥ = cc in none)

pub unlink_replies_agree : UnlinkRepliesAgree
unlink_replies_agree c k io number w idle here =
    ap (λ (b : Bool). answered (when (is_closed (state_in k w)) errno.Enxio then when (not b) errno.Ealready)) (sym here)
    ∙ by_each k w (is_declared k w) (is_closed (state_in k w)) (is_linked k w) (closed_outside k w.groups)
    ∙ ap (λ (o : Option InProgress). (let t : Told = elim o [
      | Some p ↦ if is_go call.Unlink then named call.Unlink p w else stays (reply.Busy c) (Some (state_in k w)) w
      | None ↦ if is_go call.Unlink then stays (reply.Err errno.Einval) None w else named call.Unlink (begun c k io) w
    ] in t).reply) (sym idle)
