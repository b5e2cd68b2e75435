-- What a program of one member of a group answers and leaves, its acts made as the members decide them.
use Rattle.std.specs.Prelude.{◌≡◌, ◌≢◌, ℕ, Bool, List, [], ◌∷◌, ◌++◌, length, slice_get, Result, MatchResult}
use Rattle.std.specs.declared.option.Option.{Option}
use Rattle.std.specs.declared.option.Option.TheVariants.{Some, None}
use Rattle.pcm_base.specs.declared.act.Act.{Act}
use Rattle.pcm_base.specs.declared.act.Outcome.{Outcome}
use Rattle.pcm_base.specs.declared.act.Outcome.TheVariants as outcome
use Rattle.pcm_base.specs.declared.act.Updated.{Updated}
use Rattle.pcm_base.specs.declared.act.Updated.TheVariants as updated
use Rattle.pcm_base.specs.declared.card.Card.{Ghosts}
use Rattle.pcm_base.specs.declared.ids.ClientId.{ClientId}
use Rattle.pcm_base.specs.declared.ids.SubId.{SubId}
use Rattle.pcm_base.specs.declared.reply.Reply.{Reply}
use Rattle.pcm_base.specs.declared.state.Errno.{Errno}
use Rattle.pcm_base.specs.declared.state.Errno.TheVariants as errno
use Rattle.pcm_base.specs.declared.votes.Acted.{Acted}
use Rattle.pcm_base.specs.model.Acts.{members_after, subs}
use Rattle.pcm_base.specs.model.Group.{mark, put_stream, stream_of}
use Rattle.pcm_base.specs.model.Program.{Answer, Program, Ends, Makes, updating}
use Rattle.pcm_base.specs.model.Replay.{Distinct}
use Rattle.pcm_base.specs.model.Stream.{Stream, Member as ModelMember}
use Rattle.pcm_base.specs.model.Update.{update}
use Rattle.pcm_stream.specs.declared.members.Member.{Member}
use Rattle.pcm_stream.specs.declared.substream.Substream.{Substream}
use Rattle.pcm_stream.specs.MembersStand.{AllStandFor, CallsFit}
use Rattle.pcm_stream.specs.StandsFor.{StandsFor}
use Rattle.group_trigger.specs.Votes.{IsActed, all_tell}

-- The members stand for these, whose numbers are distinct. k is the number at the place, and tells says whose card tells its fault plan.
pub record IsAt {C : Type 0} {g : Ghosts C} (ms : List (Member C g)) (place : ℕ) (k : SubId) (tells : List Bool) (xs : List ModelMember) : Type 0 where
  pub stands : AllStandFor ms xs
  pub distinct : Distinct (subs xs)
  pub number : slice_get (subs xs) place ≡ Some k
  pub told : all_tell ms ≡ tells

-- Member k's program, run on these members with these acts, answers so and leaves these members.
abbrev pub RunsTo : List Bool → Program → SubId → List ModelMember → List Acted → Answer → List ModelMember → Type 0
RunsTo tells (Ends a s) k xs [] b ys = (b ≡ a) × (ys ≡ put_stream k s xs)
RunsTo tells (Ends a s) k xs (d ∷ ds) b ys = ⊥
RunsTo tells (Makes a s f) k xs [] b ys = ⊥
RunsTo tells (Makes a s f) k xs (d ∷ ds) b ys =
    IsActed tells a (put_stream k s xs) d
    × RunsTo tells (f d.outcome (stream_of k (members_after d (put_stream k s xs)))) k (members_after d (put_stream k s xs)) ds b ys

-- The program's acts were made behind the old ones, and the members stand for those that it leaves. It answers r, and moved n frames of the call from the f-th on.
pub record IsEnded {C : Type 0} {g : Ghosts C} (tells : List Bool) (p : Program) (k : SubId) (xs : List ModelMember) (old new : List Acted) (r : Reply) (f n : ℕ) (ms : List (Member C g)) : Type 0 where
  pub made : List Acted
  pub answer : Answer
  pub left : List ModelMember
  pub acts : new ≡ old ++ made
  pub runs : RunsTo tells p k xs made answer left
  pub reply : r ≡ answer.reply
  pub first : f ≡ answer.first
  pub moved : n ≡ length answer.frames
  pub stands : AllStandFor ms left

-- The same, where the call of client c may fall asleep: its mark is set by the answer.
pub record IsEndedBy {C : Type 0} {g : Ghosts C} (c : ClientId) (tells : List Bool) (p : Program) (k : SubId) (xs : List ModelMember) (old new : List Acted) (r : Reply) (f n : ℕ) (ms : List (Member C g)) : Type 0 where
  pub made : List Acted
  pub answer : Answer
  pub left : List ModelMember
  pub acts : new ≡ old ++ made
  pub runs : RunsTo tells p k xs made answer left
  pub reply : r ≡ answer.reply
  pub first : f ≡ answer.first
  pub moved : n ≡ length answer.frames
  pub stands : AllStandFor ms (mark k r c left)

-- ---- on one stream

-- the calls in progress stay, and fit as before
pub record KeepsCalls (s t : Stream) : Type 0 where
  pub same : t.sleepers ≡ s.sleepers
  pub fit : CallsFit s s.sleepers → CallsFit t t.sleepers

-- a program that makes no act, of a stream s
abbrev pub IsOwnEnd : {C : Type 0} {g : Ghosts C} → Stream → Program → Reply → ℕ → ℕ → Substream C g → Type 0
IsOwnEnd s (Ends a t) r f n sub = (r ≡ a.reply) × (f ≡ a.first) × (n ≡ length a.frames) × KeepsCalls s t × StandsFor sub t
IsOwnEnd s (Makes a t f') r f n sub = ⊥

-- ---- acts and updates

-- the error of an act that was not done
abbrev pub error_of : Outcome → Option Errno
error_of outcome.Done = None
error_of (outcome.Refused j e) = Some e
error_of (outcome.Failed j) = Some errno.Eio

-- An act was made over these members, behind the old acts.
pub record IsMade {C : Type 0} {g : Ghosts C} (tells : List Bool) (a : Act) (place : ℕ) (k : SubId) (xs : List ModelMember) (old new : List Acted) (r : Result (Unit {0}) Errno) (ms : List (Member C g)) : Type 0 where
  pub acted : Acted
  pub acts : new ≡ old ++ acted ∷ []
  pub decided : IsActed tells a xs acted
  pub answer : MatchResult r (λ _. error_of acted.outcome ≡ None) (λ e. error_of acted.outcome ≡ Some e)
  pub now : IsAt ms place k tells (members_after acted xs)

-- Member k was updated, and the group stopped where that asked for it: what then follows in a program follows here.
pub record IsUpdated {C : Type 0} {g : Ghosts C} (tells : List Bool) (place : ℕ) (k : SubId) (xs : List ModelMember) (old new : List Acted) (found : Updated) (ms : List (Member C g)) : Type 0 where
  pub made : List Acted
  pub left : List ModelMember
  pub acts : new ≡ old ++ made
  pub what : found ≡ (update (stream_of k xs)).found
  pub now : IsAt ms place k tells left
  pub unstopped : found ≢ updated.StopXrun → stream_of k left ≡ (update (stream_of k xs)).stream
  pub goes_on : (f : Updated → Stream → Program) (ds : List Acted) (b : Answer) (ys : List ModelMember) → RunsTo tells (f found (stream_of k left)) k left ds b ys
      → RunsTo tells (updating (stream_of k xs) f) k xs (made ++ ds) b ys
