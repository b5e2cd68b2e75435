-- Soundness of a stream is kept by all that a stream can come to.
use Rattle.std.specs.Prelude.{◌≡◌, ℕ, Bool, true, false, List, [], ◌∷◌, length, ◌≤◌}
use Rattle.pcm_base.specs.declared.act.Act.{Act}
use Rattle.pcm_base.specs.declared.act.Outcome.{Outcome}
use Rattle.pcm_base.specs.declared.act.Vote.{Vote}
use Rattle.pcm_base.specs.declared.call.Call.{Call}
use Rattle.pcm_base.specs.declared.config.CardModel.{CardModel}
use Rattle.pcm_base.specs.declared.ids.ClientId.{ClientId}
use Rattle.pcm_base.specs.declared.ids.SubId.{SubId}
use Rattle.pcm_base.specs.declared.reply.Reply.{Reply}
use Rattle.pcm_base.specs.declared.state.Dir.{Dir}
use Rattle.pcm_base.specs.declared.state.State.{State}
use Rattle.pcm_base.specs.model.Acts.{after, stopped, subs}
use Rattle.pcm_base.specs.model.Events.{program, unplugged}
use Rattle.pcm_base.specs.model.Frame.{Frame}
use Rattle.pcm_base.specs.model.Group.{stream_of, group_step}
use Rattle.pcm_base.specs.model.Movement.{move}
use Rattle.pcm_base.specs.model.PointerCalls.{hw_avail, back_by, on_by, sync_to}
use Rattle.pcm_base.specs.model.Replay.{Fits, Joins, Part, PlaysOwn, is_member, Distinct}
use Rattle.pcm_base.specs.model.Sound.{Sound, is_stop, KeepsSound}
use Rattle.pcm_base.specs.model.Stream.{Stream, Member, avail, fresh}
use Rattle.pcm_base.specs.model.Transfer.{put_next}
use Rattle.pcm_base.specs.model.Update.{update}

abbrev pub FreshIsSound : Type 0
FreshIsSound = (m : CardModel) (d : Dir) (long_max : ℕ) → Sound (fresh m d long_max)

-- each stream that an event's program comes to is sound, whatever acts fit
abbrev pub ProgramsKeepSound : Type 0
ProgramsKeepSound = (k : SubId) (e : Call) (c : ClientId) (linked : Bool) (io : List ℕ) (s : Stream) → Sound s → KeepsSound k (program e c linked io s)

-- a vote and an outcome that fit an act; a stop is to SETUP or XRUN
abbrev pub ActsKeepSound : Type 0
ActsKeepSound = (k : SubId) (a : Act) (v : Vote) (o : Outcome) (s : Stream) → is_stop a ≡ true → Fits k s a v o → Sound s → Sound (after a v o s)

-- every member of a group is sound
abbrev pub AllSound : List Member → Type 0
AllSound ms = (j : SubId) → is_member j (subs ms) ≡ true → Sound (stream_of j ms)

abbrev pub StepsKeepSound : Type 0
StepsKeepSound = (e : Call) (c : ClientId) (k : SubId) (io : List ℕ) (ms : List Member) → Distinct (subs ms) → is_member k (subs ms) ≡ true → AllSound ms → AllSound (group_step e c k io ms).members

-- each stop in these parts is to SETUP or XRUN
abbrev pub AllStop : List Part → Type 0
AllStop [] = Unit {0}
AllStop (p ∷ ps) = (is_stop p.act ≡ true) × AllStop ps

-- the replay of an own entry, whose stops are such
abbrev pub OwnEntriesKeepSound : Type 0
OwnEntriesKeepSound = (k : SubId) (e : Call) (c : ClientId) (linked : Bool) (count : ℕ) (bytes : List ℕ) (ps : List Part) (r : Reply) (s t : Stream)
    → PlaysOwn k e c linked count bytes ps r s t → Sound s → Sound t × AllStop ps

-- the replay of the joints of others
abbrev pub JointsKeepSound : Type 0
JointsKeepSound = (k : SubId) (s : Stream) (ps : List Part) (t : Stream) → Joins k s ps t → AllStop ps → Sound s → Sound t

-- the changes of which programs are made

abbrev pub UpdateKeepsSound : Type 0
UpdateKeepsSound = (s : Stream) → Sound s → Sound (update s).stream

abbrev pub MoveKeepsSound : Type 0
MoveKeepsSound = (n : ℕ) (s : Stream) → Sound s → Sound (move n s).stream

abbrev pub RewindKeepsSound : Type 0
RewindKeepsSound = (n : ℕ) (s : Stream) → n ≤ hw_avail s → Sound s → Sound (back_by n s)

abbrev pub ForwardKeepsSound : Type 0
ForwardKeepsSound = (n : ℕ) (s : Stream) → n ≤ avail s → Sound s → Sound (on_by n s)

abbrev pub SyncKeepsSound : Type 0
SyncKeepsSound = (p : ℕ) (s : Stream) → Sound s → Sound (sync_to p s)

-- a stop leaves no card running, and a card that stands may be unplugged
abbrev pub StopsStand : Type 0
StopsStand = (t : State) (s : Stream) → Sound s → (stopped t s).card.runs ≡ false

abbrev pub UnplugKeepsSound : Type 0
UnplugKeepsSound = (s : Stream) → s.card.runs ≡ false → Sound s → Sound (unplugged s)

abbrev pub PutKeepsSound : Type 0
PutKeepsSound = (fs : List Frame) (s : Stream) → length fs ≤ avail s → Sound s → Sound (put_next fs s)
