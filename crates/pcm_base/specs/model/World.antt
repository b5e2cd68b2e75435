-- The world: the groups of the declared substreams (snd_pcm_link), the calls in progress with their bytes, and one step of it.
use Rattle.std.specs.Prelude.{ℕ, Bool, true, false, not, ◌&&◌, ◌||◌, nat_eq, nat_lt, nat_le, List, [], ◌∷◌, ◌++◌, length, replicate, ◌*◌, ◌^◌, if◌then◌else◌}
use Rattle.std.specs.declared.option.Option.{Option}
use Rattle.std.specs.declared.option.Option.TheVariants.{Some, None}
use Rattle.pcm_base.specs.declared.call.Call.{Call}
use Rattle.pcm_base.specs.declared.call.Call.TheVariants as call
use Rattle.pcm_base.specs.declared.call.CallKind.TheVariants as kind
use Rattle.pcm_base.specs.declared.call.Event.{Event}
use Rattle.pcm_base.specs.declared.call.Layout.{Layout}
use Rattle.pcm_base.specs.declared.config.CardModel.{CardModel}
use Rattle.pcm_base.specs.declared.ids.ClientId.{ClientId}
use Rattle.pcm_base.specs.declared.ids.SubId.{SubId}
use Rattle.pcm_base.specs.declared.reply.Reply.{Reply}
use Rattle.pcm_base.specs.declared.reply.Reply.TheVariants as reply
use Rattle.pcm_base.specs.declared.sleeper.Task.{Task}
use Rattle.pcm_base.specs.declared.sleeper.Task.TheVariants as task
use Rattle.pcm_base.specs.declared.state.Dir.{Dir}
use Rattle.pcm_base.specs.declared.state.Errno.{Errno}
use Rattle.pcm_base.specs.declared.state.Errno.TheVariants as errno
use Rattle.pcm_base.specs.declared.state.State.{State}
use Rattle.pcm_base.specs.declared.state.State.TheVariants as state
use Rattle.pcm_base.specs.model.Acts.{table}
use Rattle.pcm_base.specs.model.Events.{waiting_of, opens}
use Rattle.pcm_base.specs.model.Frame.{Frame, bytes_of}
use Rattle.pcm_base.specs.model.Group.{stream_of, group_step}
use Rattle.pcm_base.specs.model.Replay.{bytes_by}
use Rattle.pcm_base.specs.model.Sleep.{wake, woken}
use Rattle.pcm_base.specs.model.Stream.{Stream, Member, fresh}
use Rattle.pcm_base.specs.model.Words.{when, ◌then◌, is_closed, same_state}

-- a client's call in progress: the bytes that it handed in, and the frames that it has moved so far
pub record InProgress : Type 0 where
  pub client : ClientId
  pub sub : SubId
  pub bytes : List ℕ
  pub frames : List Frame

-- Every declared substream is a member of one group, and the members of a group stand in link order.
pub record World : Type 0 where
  pub long_max : ℕ
  pub groups : List (List Member)
  pub calls : List InProgress

-- What a step tells: its answer, the state shown, the clients marked awake, the bytes that were read or taken, and the next world. No state is shown where no substream is named.
pub record Told : Type 0 where
  pub reply : Reply
  pub state : Option State
  pub woken : List ClientId
  pub bytes : List ℕ
  pub world : World

-- no card is declared
abbrev pub empty : World
empty = record { long_max = 2147483647; groups = []; calls = [] }

-- k is a member
abbrev pub holds : SubId → List Member → Bool
holds k [] = false
holds k (m ∷ ms) = nat_eq m.sub.0 k.0 || holds k ms

-- the group of a substream, empty where it is not declared
abbrev pub group_of : SubId → List (List Member) → List Member
group_of k [] = []
group_of k (g ∷ gs) = if holds k g then g else group_of k gs

-- the groups with this one in the place of that of k
abbrev pub with_group : SubId → List Member → List (List Member) → List (List Member)
with_group k now [] = []
with_group k now (g ∷ gs) = if holds k g then now ∷ gs else g ∷ with_group k now gs

abbrev pub without_group : SubId → List (List Member) → List (List Member)
without_group k [] = []
without_group k (g ∷ gs) = if holds k g then gs else g ∷ without_group k gs

-- the groups with these two in the place of that of k
abbrev pub apart : SubId → List Member → List Member → List (List Member) → List (List Member)
apart k one others [] = []
apart k one others (g ∷ gs) = if holds k g then one ∷ others ∷ gs else g ∷ apart k one others gs

abbrev pub only_member : SubId → List Member → List Member
only_member k [] = []
only_member k (m ∷ ms) = if nat_eq m.sub.0 k.0 then m ∷ [] else only_member k ms

abbrev pub without_member : SubId → List Member → List Member
without_member k [] = []
without_member k (m ∷ ms) = if nat_eq m.sub.0 k.0 then ms else m ∷ without_member k ms

abbrev pub is_declared : SubId → World → Bool
is_declared k w = holds k (group_of k w.groups)

abbrev pub is_linked : SubId → World → Bool
is_linked k w = nat_lt 1 (length (group_of k w.groups))

-- the stream of a substream; a fresh one stands for that of an undeclared one
abbrev pub stream_in : SubId → World → Stream
stream_in k w = stream_of k (group_of k w.groups)

abbrev pub state_in : SubId → World → State
state_in k w = (stream_in k w).state

abbrev pub call_of : ClientId → List InProgress → Option InProgress
call_of c [] = None
call_of c (p ∷ ps) = if nat_eq p.client.0 c.0 then Some p else call_of c ps

abbrev pub without_call : ClientId → List InProgress → List InProgress
without_call c [] = []
without_call c (p ∷ ps) = if nat_eq p.client.0 c.0 then ps else p ∷ without_call c ps

-- an answer that changes nothing
abbrev pub stays : Reply → Option State → World → Told
stays r t w = record { reply = r; state = t; woken = []; bytes = []; world = w }

-- LONG_MAX of the session, before the first card
abbrev pub set_long : ℕ → World → Told
set_long n w =
    if nat_lt 0 (length w.groups) then stays (reply.Err errno.Ebusy) None w
    else if nat_lt n 15 || nat_le (2 ^ 36) n then stays (reply.Err errno.Einval) None w
    else stays reply.Ok None (record w { long_max = n })

abbrev pub lone : SubId → CardModel → Dir → ℕ → List Member
lone k m d n = record { sub = k; stream = fresh m d n; asleep = [] } ∷ []

-- a card for a substream
abbrev pub declare : SubId → CardModel → Dir → World → Told
declare k m d w =
    if is_declared k w then stays (reply.Err errno.Ebusy) (Some (state_in k w)) w
    else stays reply.Ok (Some state.Closed) (record w { groups = w.groups ++ lone k m d w.long_max ∷ [] })

-- the refusal of a link of j to the group of k
abbrev pub link_refusal : SubId → SubId → World → Option Errno
link_refusal k j w =
    when (is_closed (state_in j w)) errno.Enxio
    then (when (nat_eq j.0 k.0) errno.Einval
    then (table kind.Link (stream_in k w)
    then (when (not (same_state (state_in j w) (state_in k w))) errno.Ebadfd
    then when (is_linked j w) errno.Ealready)))

-- j joins at the end of the group of k; the wake check is made of both groups before and of the one after
abbrev pub link : SubId → SubId → World → Told
link k j w =
    let a = group_of k w.groups in
    let b = group_of j w.groups in
    let both = wake a ++ wake b in
    record {
      reply = reply.Ok;
      state = Some (state_in k w);
      woken = woken a ++ woken b ++ woken both;
      bytes = [];
      world = record w { groups = with_group k (wake both) (without_group j w.groups) };
    }

-- k leaves its group; the wake check is made of that group before and of both after
abbrev pub unlink : SubId → World → Told
unlink k w =
    let g = group_of k w.groups in
    let one = only_member k (wake g) in
    let others = without_member k (wake g) in
    record {
      reply = reply.Ok;
      state = Some (state_in k w);
      woken = woken g ++ woken one ++ woken others;
      bytes = [];
      world = record w { groups = apart k (wake one) (wake others) w.groups };
    }

-- the bytes that a call keeps when it falls asleep: its own, those of a read's length, or none
abbrev pub kept_bytes : Call → Stream → List ℕ → List ℕ
kept_bytes (call.Read l m n) s io = replicate (n * s.setup.frame_bytes) 0
kept_bytes (call.Drain m) s io = []
kept_bytes e s io = io

abbrev pub calls_after : Reply → InProgress → List InProgress → List InProgress
calls_after reply.Asleep p ps = p ∷ without_call p.client ps
calls_after _ p ps = without_call p.client ps

-- the bytes that a read tells, where it answers frames
abbrev pub read_bytes : Reply → Layout → Stream → List Frame → List ℕ
read_bytes (reply.Frames n) l s fs = bytes_by l s fs
read_bytes _ l s fs = []

-- a transfer in progress that reads tells what it has read in all its steps
abbrev pub task_bytes : Option Task → Reply → Stream → List Frame → List ℕ
task_bytes (Some (task.Transfer x wanted)) r s fs = if x.writing then [] else read_bytes r x.layout s fs
task_bytes _ r s fs = []

-- told_bytes call client reply stream before here: what was read or taken, where the call had moved some frames before this step and these in it
abbrev pub told_bytes : Call → ClientId → Reply → Stream → List Frame → List Frame → List ℕ
told_bytes (call.Read l m n) c r s before here = read_bytes r l s here
told_bytes (call.Load o n) c r s before here = bytes_of here
told_bytes (call.MoveBy n) c r s before here = bytes_of here
told_bytes call.Go c r s before here = task_bytes (waiting_of c s.sleepers) r s (before ++ here)
told_bytes e c r s before here = []

-- the step of a call on one group
abbrev pub in_group : Call → InProgress → World → Told
in_group e p w =
    let ms = group_of p.sub w.groups in
    let s = stream_of p.sub ms in
    let g = group_step e p.client p.sub p.bytes ms in
    record {
      reply = g.answer.reply;
      state = Some (stream_of p.sub g.members).state;
      woken = g.woken;
      bytes = told_bytes e p.client g.answer.reply s p.frames g.answer.frames;
      world = record w {
        groups = with_group p.sub g.members w.groups;
        calls = calls_after g.answer.reply (record p { bytes = kept_bytes e s p.bytes; frames = p.frames ++ g.answer.frames }) w.calls;
      };
    }

-- an event of a declared substream that is open or is opened
abbrev pub chosen : Call → InProgress → World → Told
chosen (call.Link j) p w = elim (link_refusal p.sub j w) [ Some r ↦ stays (reply.Err r) (Some (state_in p.sub w)) w | None ↦ link p.sub j w ]
chosen call.Unlink p w = if is_linked p.sub w then unlink p.sub w else stays (reply.Err errno.Ealready) (Some (state_in p.sub w)) w
chosen e p w = in_group e p w

abbrev pub named : Call → InProgress → World → Told
named e p w =
    if not (is_declared p.sub w) || (is_closed (state_in p.sub w) && not (opens e))
    then stays (reply.Err errno.Enxio) (Some state.Closed) w
    else chosen e p w

abbrev pub is_go : Call → Bool
is_go call.Go = true
is_go _ = false

-- a call that begins
abbrev pub begun : ClientId → SubId → List ℕ → InProgress
begun c k io = record { client = c; sub = k; bytes = io; frames = [] }

-- a client's event: first whether it has a call in progress
abbrev pub by_client : ClientId → SubId → Call → List ℕ → World → Told
by_client c k e io w = elim (call_of c w.calls) [
  | Some p ↦ if is_go e then named e p w else stays (reply.Busy c) (Some (state_in k w)) w
  | None ↦ if is_go e then stays (reply.Err errno.Einval) None w else named e (begun c k io) w
]

-- what stands for the client of a card's event
abbrev pub nobody : ClientId
nobody = record { 0 = 16 }

abbrev pub step : World → Event → List ℕ → Told
step w e io = elim e.client [ Some c ↦ by_client c e.sub e.call io w | None ↦ named e.call (begun nobody e.sub io) w ]
