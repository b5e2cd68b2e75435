-- The replay of one stream's part in a step: its own program with the joints that its log holds, or the joints alone.
use Rattle.std.specs.Prelude.{◌≡◌, ◌≢◌, ℕ, Bool, true, false, ◌||◌, nat_eq, List, [], ◌∷◌, length, zero, suc, ◌*◌, ◌/◌, ◌≤◌, if◌then◌else◌}
use Rattle.std.specs.declared.option.Option.{Option}
use Rattle.std.specs.declared.option.Option.TheVariants.{Some, None}
use Rattle.pcm_base.specs.declared.act.Act.{Act}
use Rattle.pcm_base.specs.declared.act.Outcome.{Outcome}
use Rattle.pcm_base.specs.declared.act.Outcome.TheVariants as outcome
use Rattle.pcm_base.specs.declared.act.Vote.{Vote}
use Rattle.pcm_base.specs.declared.act.Vote.TheVariants as vote
use Rattle.pcm_base.specs.declared.call.Call.{Call}
use Rattle.pcm_base.specs.declared.call.Call.TheVariants as call
use Rattle.pcm_base.specs.declared.call.Layout.{Layout}
use Rattle.pcm_base.specs.declared.call.Layout.TheVariants as layout
use Rattle.pcm_base.specs.declared.ids.ClientId.{ClientId}
use Rattle.pcm_base.specs.declared.ids.SubId.{SubId}
use Rattle.pcm_base.specs.declared.reply.Reply.{Reply}
use Rattle.pcm_base.specs.declared.sleeper.Task.{Task}
use Rattle.pcm_base.specs.declared.sleeper.Task.TheVariants as task
use Rattle.pcm_base.specs.declared.votes.Acted.{Acted}
use Rattle.pcm_base.specs.model.Acts.{pre, trips, subs, decide, after}
use Rattle.pcm_base.specs.model.Events.{waiting_of, length_of, program}
use Rattle.pcm_base.specs.model.Frame.{Frame, bytes_of, bytes_across}
use Rattle.pcm_base.specs.model.Group.{stream_of, Run}
use Rattle.pcm_base.specs.model.Program.{Answer, Program, Ends, Makes}
use Rattle.pcm_base.specs.model.Stream.{Stream, Member}
use Rattle.pcm_base.specs.model.Transfer.{channels_of}
use Rattle.pcm_base.specs.model.Words.{◌then◌}

-- an act as one member's log has it
pub record Part : Type 0 where
  pub act : Act
  pub vote : Vote
  pub outcome : Outcome

-- vote v of member k fits an act with this outcome
abbrev pub Fits : SubId → Stream → Act → Vote → Outcome → Type 0
Fits k s a (vote.Refuse e) (outcome.Refused j e') = (j ≡ k) × (e' ≡ e) × (pre s a ≡ Some e)
Fits k s a vote.Fail (outcome.Failed j) = (j ≡ k) × (pre s a ≡ None) × (trips s a ≡ true)
Fits k s a vote.Yes outcome.Done = (pre s a ≡ None) × (trips s a ≡ false)
Fits k s a vote.Yes (outcome.Refused j e) = (j ≢ k) × (pre s a ≡ None)
Fits k s a vote.Yes (outcome.Failed j) = (j ≢ k) × (pre s a ≡ None) × (trips s a ≡ false)
Fits k s a vote.Unasked (outcome.Refused j e) = j ≢ k
Fits k s a vote.Unasked (outcome.Failed j) = (j ≢ k) × (pre s a ≡ None)
Fits k s a v o = ⊥

abbrev pub joined : Part → Stream → Stream
joined p s = after p.act p.vote p.outcome s

-- the joints alone lead member k from one stream to another
abbrev pub Joins : SubId → Stream → List Part → Stream → Type 0
Joins k s [] t = t ≡ s
Joins k s (p ∷ ps) t = Fits k s p.act p.vote p.outcome × Joins k (joined p s) ps t

-- member k's program with these joints gives this answer and this stream
abbrev pub Plays : SubId → Program → List Part → Answer → Stream → Type 0
Plays k (Ends a s) [] b t = (b ≡ a) × (t ≡ s)
Plays k (Ends a s) (p ∷ ps) b t = ⊥
Plays k (Makes a s f) [] b t = ⊥
Plays k (Makes a s f) (p ∷ ps) b t = (p.act ≡ a) × Fits k s p.act p.vote p.outcome × Plays k (f p.outcome (joined p s)) ps b t

-- at most n acts
abbrev pub AtMost : ℕ → Program → Type 0
AtMost n (Ends a s) = Unit {0}
AtMost zero (Makes a s f) = ⊥
AtMost (suc n) (Makes a s f) = (o : Outcome) (t : Stream) → AtMost n (f o t)

-- the layout of an event's bytes
abbrev pub task_layout : Option Task → Layout
task_layout (Some (task.Transfer x wanted)) = x.layout
task_layout _ = layout.Interleaved

abbrev pub layout_of : Call → ClientId → Stream → Layout
layout_of (call.Write w m) c s = w
layout_of (call.Read w m n) c s = w
layout_of call.Go c s = task_layout (waiting_of c s.sleepers)
layout_of _ c s = layout.Interleaved

abbrev pub bytes_by : Layout → Stream → List Frame → List ℕ
bytes_by layout.Interleaved s fs = bytes_of fs
bytes_by layout.Planar s fs = bytes_across (channels_of s.setup.config) (s.setup.frame_bytes / channels_of s.setup.config) fs

-- the bytes of a read that goes on
abbrev pub going_length : Option Task → Stream → Option ℕ
going_length (Some (task.Transfer x wanted)) s = if x.writing then None else Some (length_of (task.Transfer x wanted) s)
going_length _ s = None

-- the bytes of a call that reads: of a read that begins, of a load, and of a read that goes on
abbrev pub reading_length : Call → ClientId → Stream → Option ℕ
reading_length (call.Read w m n) c s = Some (n * s.setup.frame_bytes)
reading_length (call.Load o n) c s = Some (n * s.setup.frame_bytes)
reading_length call.Go c s = going_length (waiting_of c s.sleepers) s
reading_length _ c s = None

-- Of the bytes that its caller handed in, a call that reads is lent the front of its own length, which they have; any other is lent all.
abbrev pub IsLent : Option ℕ → ℕ → ℕ → Type 0
IsLent None count lent = lent ≡ count
IsLent (Some n) count lent = (lent ≡ n) × (n ≤ count)

-- a link is no event of one member
abbrev pub is_link : Call → Bool
is_link (call.Link j) = true
is_link _ = false

-- An own entry of member j, marked with the count of bytes that its caller handed in: some bytes that the event was lent, of which those that the step moves are the entry's, give its reply with its joints.
pub record PlaysOwn (j : SubId) (e : Call) (c : ClientId) (linked : Bool) (count : ℕ) (bytes : List ℕ) (ps : List Part) (r : Reply) (s t : Stream) : Type 0 where
  pub io : List ℕ
  pub answer : Answer
  pub handed : IsLent (reading_length e c s) count (length io)
  pub no_link : is_link e ≡ false
  pub plays : Plays j (program e c linked io s) ps answer t
  pub says : answer.reply ≡ r
  pub moved : bytes_by (layout_of e c s) s answer.frames ≡ bytes

-- what an act is for one member
abbrev pub vote_of : SubId → List SubId → List Vote → Vote
vote_of k (j ∷ js) (v ∷ vs) = if nat_eq j.0 k.0 then v else vote_of k js vs
vote_of k _ _ = vote.Unasked

abbrev pub part_of : SubId → List SubId → Acted → Part
part_of k ks d = record { act = d.act; vote = vote_of k ks d.votes; outcome = d.outcome }

abbrev pub parts_of : SubId → List SubId → List Acted → List Part
parts_of k ks [] = []
parts_of k ks (d ∷ ds) = part_of k ks d ∷ parts_of k ks ds

abbrev pub is_member : SubId → List SubId → Bool
is_member k [] = false
is_member k (j ∷ js) = nat_eq j.0 k.0 || is_member k js

abbrev pub Distinct : List SubId → Type 0
Distinct [] = Unit {0}
Distinct (j ∷ js) = (is_member j js ≡ false) × Distinct js

-- one vote for each member, and the outcome that the votes tell
abbrev pub Decided : List SubId → List Acted → Type 0
Decided ks [] = Unit {0}
Decided ks (d ∷ ds) = (length d.votes ≡ length ks) × (d.outcome ≡ decide ks d.votes) × Decided ks ds

-- A run is made of the members' own steps: the named member's program with its joints, the joints alone at every other.
pub record Decomposes (p : Program) (k : SubId) (ms : List Member) (r : Run) : Type 0 where
  pub numbers : subs r.members ≡ subs ms
  pub decided : Decided (subs ms) r.acts
  pub own : Plays k p (parts_of k (subs ms) r.acts) r.answer (stream_of k r.members)
  pub others : (j : SubId) → nat_eq j.0 k.0 ≡ false → is_member j (subs ms) ≡ true → Joins j (stream_of j ms) (parts_of j (subs ms) r.acts) (stream_of j r.members)
  pub few : (n : ℕ) → AtMost n p → length r.acts ≤ n
