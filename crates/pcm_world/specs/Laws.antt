-- Laws over the groups of a world.
use Rattle.std.specs.Prelude.{◌≡◌, ℕ, true, false, nat_eq, List, []}
use Rattle.pcm_base.specs.declared.call.Call.{Call}
use Rattle.pcm_base.specs.declared.ids.ClientId.{ClientId}
use Rattle.pcm_base.specs.declared.ids.SubId.{SubId}
use Rattle.pcm_base.specs.model.Acts.{subs}
use Rattle.pcm_base.specs.model.Group.{group_step, stream_of}
use Rattle.pcm_base.specs.model.Replay.{Distinct, is_member}
use Rattle.pcm_base.specs.model.Sleep.{woken}
use Rattle.pcm_base.specs.model.Stream.{Member}
use Rattle.pcm_base.specs.model.World.{group_of, holds, with_group}
use Rattle.pcm_group.specs.Waiting.{all_wait}
use Rattle.pcm_world.specs.Waiting.{IsEntered, IsStepped}

-- Where each client that is marked asleep may wait, as after every step, the wake check marks nobody awake: so it is before a link or an unlink.
abbrev pub ChecksBeforeWakeNobody : Type 0
ChecksBeforeWakeNobody = (xs : List Member) → all_wait xs ≡ true → woken xs ≡ []

-- A step of one group leaves every other group as it was.
abbrev pub OtherGroupsStay : Type 0
OtherGroupsStay = (k j : SubId) (now : List Member) (xs : List (List Member)) → holds j (group_of k xs) ≡ false → holds j now ≡ false → group_of j (with_group k now xs) ≡ group_of j xs

-- A step leaves each call in progress on the named stream but the caller's as it was; the caller waits exactly where the answer is Asleep, and the stream of who waits keeps its frames.
abbrev pub NamedStreamIsStepped : Type 0
NamedStreamIsStepped = (e : Call) (c : ClientId) (k : SubId) (io : List ℕ) (ms : List Member) → Distinct (subs ms) → is_member k (subs ms) ≡ true → IsEntered e c io (stream_of k ms)
    → IsStepped e c io (stream_of k ms) (group_step e c k io ms).answer (stream_of k (group_step e c k io ms).members)

-- every other stream keeps its set-up and the calls in progress
abbrev pub OtherStreamsKeepCalls : Type 0
OtherStreamsKeepCalls = (e : Call) (c : ClientId) (k : SubId) (io : List ℕ) (ms : List Member) → Distinct (subs ms) → is_member k (subs ms) ≡ true → (j : SubId) → nat_eq j.0 k.0 ≡ false
    → ((stream_of j (group_step e c k io ms).members).setup ≡ (stream_of j ms).setup) × ((stream_of j (group_step e c k io ms).members).sleepers ≡ (stream_of j ms).sleepers)
