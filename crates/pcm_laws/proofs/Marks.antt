-- The marks and the wake check change no stream.
use Rattle.std.proofs.Common.{ℕ, ◌≡◌, Bool, true, false, cond, ◌||◌, nat_eq, List, [], ◌∷◌, refl, ap, ◌∙◌}
use Rattle.std.proofs.Math.Path.{ap₂}
use Rattle.pcm_base.specs.declared.call.Call.{Call}
use Rattle.pcm_base.specs.declared.ids.ClientId.{ClientId}
use Rattle.pcm_base.specs.declared.ids.SubId.{SubId}
use Rattle.pcm_base.specs.declared.reply.Reply.{Reply}
use Rattle.pcm_base.specs.model.Acts.{drains, subs}
use Rattle.pcm_base.specs.model.Group.{Run, group_step, mark, put_stream, run_event, stream_of}
use Rattle.pcm_base.specs.model.Replay.{Distinct, is_member}
use Rattle.pcm_base.specs.model.Sleep.{group_drains, wake_members}
use Rattle.pcm_base.specs.model.Stream.{Member, Stream}
use Rattle.pcm_laws.proofs.Decomposition.{own_number, left_of, right_of}

pub stream_of-wake_members : (g : Bool) (k : SubId) (ms : List Member) → stream_of k (wake_members g ms) ≡ stream_of k ms
stream_of-wake_members g k [] = refl
stream_of-wake_members g k (m ∷ ms) = ap (λ t. cond (nat_eq m.sub.0 k.0) m.stream t) (stream_of-wake_members g k ms)

pub stream_of-mark : (i : SubId) (r : Reply) (c : ClientId) (k : SubId) (ms : List Member) → stream_of k (mark i r c ms) ≡ stream_of k ms
stream_of-mark i r c k [] = refl
stream_of-mark i r c k (m ∷ ms) = ap (λ t. cond (nat_eq m.sub.0 k.0) m.stream t) (stream_of-mark i r c k ms)

pub subs-wake_members : (g : Bool) (ms : List Member) → subs (wake_members g ms) ≡ subs ms
subs-wake_members g [] = refl
subs-wake_members g (m ∷ ms) = ap (λ l. m.sub ∷ l) (subs-wake_members g ms)

pub subs-mark : (i : SubId) (r : Reply) (c : ClientId) (ms : List Member) → subs (mark i r c ms) ≡ subs ms
subs-mark i r c [] = refl
subs-mark i r c (m ∷ ms) = ap (λ l. m.sub ∷ l) (subs-mark i r c ms)

pub group_drains-wake_members : (g : Bool) (ms : List Member) → group_drains (wake_members g ms) ≡ group_drains ms
group_drains-wake_members g [] = refl
group_drains-wake_members g (m ∷ ms) = ap (λ b. drains m.stream || b) (group_drains-wake_members g ms)

-- the streams of a step are those of the run
pub stream_of-group_step : (e : Call) (c : ClientId) (i : SubId) (io : List ℕ) (k : SubId) (ms : List Member)
    → stream_of k (group_step e c i io ms).members ≡ stream_of k (run_event e c i io ms).members
stream_of-group_step e c i io k ms =
    let r : Run = run_event e c i io ms in
    let now : List Member = mark i r.answer.reply c r.members in
    stream_of-wake_members (group_drains now) k now ∙ stream_of-mark i r.answer.reply c k r.members

-- putting a member's own stream changes nothing, where the numbers are distinct
put_absent : (k : SubId) (s : Stream) (ms : List Member) → is_member k (subs ms) ≡ false → put_stream k s ms ≡ ms
put_absent k s [] h = refl
put_absent k s (m ∷ ms) h =
    ap₂ (λ b l. record m { stream = cond b s m.stream } ∷ l) (left_of (nat_eq m.sub.0 k.0) (is_member k (subs ms)) h) (put_absent k s ms (right_of (nat_eq m.sub.0 k.0) (is_member k (subs ms)) h))

put_head : (k : SubId) (m : Member) (ms : List Member) (b : Bool) → nat_eq m.sub.0 k.0 ≡ b → is_member m.sub (subs ms) ≡ false → (b ≡ false → put_stream k (stream_of k ms) ms ≡ ms)
    → record m { stream = cond b (cond b m.stream (stream_of k ms)) m.stream } ∷ put_stream k (cond b m.stream (stream_of k ms)) ms ≡ m ∷ ms
put_head k m ms true e n h = ap (λ l. m ∷ l) (put_absent k m.stream ms (own_number m.sub k (subs ms) n e))
put_head k m ms false e n h = ap (λ l. m ∷ l) (h refl)

pub put_stream-own : (k : SubId) (ms : List Member) → Distinct (subs ms) → put_stream k (stream_of k ms) ms ≡ ms
put_stream-own k [] d = refl
put_stream-own k (m ∷ ms) d = put_head k m ms (nat_eq m.sub.0 k.0) refl d.0 (λ e. put_stream-own k ms d.1)
