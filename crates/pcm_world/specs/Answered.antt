-- What the parts of a world's step tell and leave.
use Rattle.std.specs.Prelude.{◌≡◌, ℕ, Bool, true, false, List, if◌then◌else◌}
use Rattle.std.specs.declared.option.Option.{Option}
use Rattle.std.specs.declared.option.Option.TheVariants.{Some, None}
use Rattle.pcm_base.specs.declared.call.Event.{Event}
use Rattle.pcm_base.specs.declared.call.Layout.{Layout}
use Rattle.pcm_base.specs.declared.config.Shape.{Shape}
use Rattle.pcm_base.specs.declared.ids.ClientId.{ClientId}
use Rattle.pcm_base.specs.declared.ids.SubId.{SubId}
use Rattle.pcm_base.specs.declared.reply.Reply.{Reply}
use Rattle.pcm_base.specs.declared.reply.Reply.TheVariants as reply
use Rattle.pcm_base.specs.declared.reply.Told.{Told as Shown}
use Rattle.pcm_base.specs.declared.state.Errno.TheVariants as errno
use Rattle.pcm_base.specs.model.Group.{GroupStep, stream_of}
use Rattle.pcm_base.specs.model.Sleep.{mask_of}
use Rattle.pcm_base.specs.model.World.{Told, World, is_linked, link, link_refusal, state_in, stays, unlink}
use Rattle.pcm_world.specs.declared.world.World.{World as CodeWorld}
use Rattle.pcm_world.specs.Bytes.{first_by}
use Rattle.pcm_world.specs.Shown.{IsWorld, result_after, result_in, shown}

-- a step of one group, as it is shown
abbrev pub shown_step : SubId → GroupStep → Shown
shown_step k g = record { reply = g.answer.reply; state = Some (stream_of k g.members).state; woken = mask_of g.woken }

-- a link and an unlink of substreams of which the first is open
abbrev pub link_event : SubId → SubId → World → Told
link_event k j w = elim (link_refusal k j w) [ Some r ↦ stays (reply.Err r) (Some (state_in k w)) w | None ↦ link k j w ]

abbrev pub unlink_event : SubId → World → Told
unlink_event k w = if is_linked k w then unlink k w else stays (reply.Err errno.Ealready) (Some (state_in k w)) w

-- what a client's call in progress leaves in its place
abbrev pub is_asleep : Reply → Bool
is_asleep reply.Asleep = true
is_asleep _ = false

-- the call is left in its client's place: it sleeps, or there was no memory to go on
abbrev pub is_left : Reply → Bool
is_left reply.Asleep = true
is_left reply.Memory = true
is_left _ = false

-- what a client has read, once its call was answered so with these bytes
abbrev pub bytes_told : Reply → Option Layout → Option Shape → List ℕ → List ℕ → List ℕ
bytes_told (reply.Frames n) (Some l) (Some h) bytes before = first_by l h n bytes
bytes_told _ _ _ bytes before = before

-- The answer is the model's, the world stands for the one that it leaves, and each client has read what it is to have read.
pub record IsAnswered (old now : CodeWorld) (e : Event) (w : World) (t : Told) (r : Shown) : Type 0 where
  pub told : r ≡ shown t
  pub world : IsWorld now t.world
  pub result : (c : ClientId) → result_in now c ≡ result_after c e w t (result_in old c)
