-- The step of a group against the replay of each member. The votes and the logs that hold them are this project's own.
use Rattle.std.specs.Prelude.{◌≡◌, ℕ, Bool, true, false, nat_eq, nat_lt, List, length, ◌≤◌}
use Rattle.pcm_base.specs.declared.act.Act.{Act}
use Rattle.pcm_base.specs.declared.act.Outcome.{Outcome}
use Rattle.pcm_base.specs.declared.act.Vote.{Vote}
use Rattle.pcm_base.specs.declared.call.Call.{Call}
use Rattle.pcm_base.specs.declared.ids.ClientId.{ClientId}
use Rattle.pcm_base.specs.declared.ids.SubId.{SubId}
use Rattle.pcm_base.specs.model.Acts.{after, subs}
use Rattle.pcm_base.specs.model.Events.{program}
use Rattle.pcm_base.specs.model.Group.{stream_of, put_stream, run, run_event, group_step}
use Rattle.pcm_base.specs.model.Program.{Program}
use Rattle.pcm_base.specs.model.Replay.{AtMost, IsLent, PlaysOwn, Joins, bytes_by, is_link, layout_of, reading_length, parts_of, is_member, Distinct, Decided, Decomposes}
use Rattle.pcm_base.specs.model.Stream.{Stream, Member}

-- what no act changes of a stream
pub record IsSameBesideActs (s t : Stream) : Type 0 where
  pub dir : t.dir ≡ s.dir
  pub model : t.model ≡ s.model
  pub long_max : t.long_max ≡ s.long_max
  pub setup : t.setup ≡ s.setup
  pub mappings : t.mappings ≡ s.mappings
  pub moved : t.moved ≡ s.moved
  pub taken : t.card.taken ≡ s.card.taken
  pub to_give : t.card.to_give ≡ s.card.to_give
  pub sleepers : t.sleepers ≡ s.sleepers

abbrev pub ActsLeaveTheRest : Type 0
ActsLeaveTheRest = (a : Act) (v : Vote) (o : Outcome) (s : Stream) → IsSameBesideActs s (after a v o s)

-- the run of any program is made of the members' own steps
abbrev pub RunsDecompose : Type 0
RunsDecompose = (p : Program) (k : SubId) (ms : List Member) → Distinct (subs ms) → is_member k (subs ms) ≡ true → Decomposes p k ms (run p k ms)

-- no event makes more than three acts
abbrev pub EventsMakeFewActs : Type 0
EventsMakeFewActs = (e : Call) (c : ClientId) (linked : Bool) (io : List ℕ) (s : Stream) → AtMost 3 (program e c linked io s)

-- putting a member's own stream changes nothing
abbrev pub PutsOwnStream : Type 0
PutsOwnStream = (k : SubId) (ms : List Member) → Distinct (subs ms) → put_stream k (stream_of k ms) ms ≡ ms

-- a step leaves the members' numbers and their order
abbrev pub StepsKeepNumbers : Type 0
StepsKeepNumbers = (e : Call) (c : ClientId) (k : SubId) (io : List ℕ) (ms : List Member) → subs (group_step e c k io ms).members ≡ subs ms

-- marks and the wake check leave the streams as the program left them
abbrev pub MarksLeaveStreams : Type 0
MarksLeaveStreams = (e : Call) (c : ClientId) (k : SubId) (io : List ℕ) (ms : List Member) (j : SubId) → stream_of j (group_step e c k io ms).members ≡ stream_of j (run_event e c k io ms).members

abbrev pub StepsMakeFewActs : Type 0
StepsMakeFewActs = (e : Call) (c : ClientId) (k : SubId) (io : List ℕ) (ms : List Member) → Distinct (subs ms) → is_member k (subs ms) ≡ true → length (group_step e c k io ms).acts ≤ 3

-- one vote for each member in each act, and the outcome that the votes tell
abbrev pub VotesDecideSteps : Type 0
VotesDecideSteps = (e : Call) (c : ClientId) (k : SubId) (io : List ℕ) (ms : List Member) → Distinct (subs ms) → is_member k (subs ms) ≡ true → Decided (subs ms) (group_step e c k io ms).acts

-- The named member's part is an entry of its log: the count of bytes that were handed in, of which the event was lent these, its reply and the bytes that moved. A link is no step of a group.
abbrev pub NamedMemberPlaysOwn : Type 0
NamedMemberPlaysOwn = (e : Call) (c : ClientId) (k : SubId) (count : ℕ) (io : List ℕ) (ms : List Member) → Distinct (subs ms) → is_member k (subs ms) ≡ true
    → is_link e ≡ false → IsLent (reading_length e c (stream_of k ms)) count (length io)
    → PlaysOwn k e c (nat_lt 1 (length ms)) count (bytes_by (layout_of e c (stream_of k ms)) (stream_of k ms) (group_step e c k io ms).answer.frames)
    (parts_of k (subs ms) (group_step e c k io ms).acts) (group_step e c k io ms).answer.reply (stream_of k ms) (stream_of k (group_step e c k io ms).members)

-- the part of each other member is its joints alone
abbrev pub OtherMembersJoin : Type 0
OtherMembersJoin = (e : Call) (c : ClientId) (k : SubId) (io : List ℕ) (ms : List Member) → Distinct (subs ms) → is_member k (subs ms) ≡ true
    → (j : SubId) → nat_eq j.0 k.0 ≡ false → is_member j (subs ms) ≡ true
    → Joins j (stream_of j ms) (parts_of j (subs ms) (group_step e c k io ms).acts) (stream_of j (group_step e c k io ms).members)
