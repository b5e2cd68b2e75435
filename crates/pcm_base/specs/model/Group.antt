-- The step of a group: the own program of one member, its acts made over all members.
use Rattle.std.specs.Prelude.{ℕ, nat_eq, nat_lt, List, [], ◌∷◌, length, if◌then◌else◌}
use Rattle.pcm_base.specs.declared.call.Call.{Call}
use Rattle.pcm_base.specs.declared.ids.ClientId.{ClientId}
use Rattle.pcm_base.specs.declared.ids.SubId.{SubId}
use Rattle.pcm_base.specs.declared.reply.Reply.{Reply}
use Rattle.pcm_base.specs.declared.reply.Reply.TheVariants as reply
use Rattle.pcm_base.specs.declared.votes.Acted.{Acted}
use Rattle.pcm_base.specs.model.Acts.{acted, members_after}
use Rattle.pcm_base.specs.model.Events.{program}
use Rattle.pcm_base.specs.model.Program.{Answer, Program, Ends, Makes}
use Rattle.pcm_base.specs.model.Sleep.{without_client, wake, woken}
use Rattle.pcm_base.specs.model.Stream.{Stream, Member, no_stream}
use Rattle.pcm_base.specs.model.Words.{◌then◌}

-- the stream of member k
abbrev pub stream_of : SubId → List Member → Stream
stream_of k [] = no_stream
stream_of k (m ∷ ms) = if nat_eq m.sub.0 k.0 then m.stream else stream_of k ms

-- member k has this stream
abbrev pub put_stream : SubId → Stream → List Member → List Member
put_stream k s [] = []
put_stream k s (m ∷ ms) = record m { stream = if nat_eq m.sub.0 k.0 then s else m.stream } ∷ put_stream k s ms

-- the answer, the acts that were made, and the members afterwards
pub record Run : Type 0 where
  pub answer : Answer
  pub acts : List Acted
  pub members : List Member

-- the run, and an act before it
abbrev pub behind : Acted → Run → Run
behind d r = record r { acts = d ∷ r.acts }

-- the program run on member k of a group: each act is made over all members, and what follows gets its outcome and the stream of k after it
abbrev pub run : Program → SubId → List Member → Run
run (Ends a s) k ms = record { answer = a; acts = []; members = put_stream k s ms }
run (Makes a s f) k ms =
    let now = put_stream k s ms in
    let d = acted a now in
    let next = members_after d now in
    behind d (run (f d.outcome (stream_of k next)) k next)

-- the client's mark on member k: it is asleep exactly where the answer is Asleep
abbrev pub marked : Reply → ClientId → List ClientId → List ClientId
marked reply.Asleep c cs = c ∷ without_client c cs
marked _ c cs = without_client c cs

abbrev pub mark : SubId → Reply → ClientId → List Member → List Member
mark k r c [] = []
mark k r c (m ∷ ms) = record m { asleep = if nat_eq m.sub.0 k.0 then marked r c m.asleep else m.asleep } ∷ mark k r c ms

-- one step, before the wake check
abbrev pub run_event : Call → ClientId → SubId → List ℕ → List Member → Run
run_event e c k io ms = run (program e c (nat_lt 1 (length ms)) io (stream_of k ms)) k ms

-- a step: its answer, its acts, the clients that it marked awake and the members afterwards
pub record GroupStep : Type 0 where
  pub answer : Answer
  pub acts : List Acted
  pub woken : List ClientId
  pub members : List Member

-- group_step call client sub bytes members
abbrev pub group_step : Call → ClientId → SubId → List ℕ → List Member → GroupStep
group_step e c k io ms =
    let r = run_event e c k io ms in
    let now = mark k r.answer.reply c r.members in
    record { answer = r.answer; acts = r.acts; woken = woken now; members = wake now }
