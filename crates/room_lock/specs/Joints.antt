-- What the log of the member at a place of the group gains by the acts of one event. This project's own.
use Rattle.std.specs.Prelude.{◌≡◌, ℕ, ◌+◌, ◌<◌, ◌≤◌, List, [], ◌∷◌, length, get_or, if◌then◌else◌}
use Rattle.pcm_base.specs.declared.act.Vote.TheVariants as vote
use Rattle.pcm_base.specs.declared.ids.SubId.{SubId}
use Rattle.pcm_base.specs.declared.state.State.{State}
use Rattle.pcm_base.specs.declared.state.State.TheVariants as state
use Rattle.pcm_base.specs.declared.votes.Acted.{Acted}
use Rattle.floor_rule.specs.declared.entry.Entry.TheVariants as entry
use Rattle.floor_rule.specs.declared.entry.EntryMark.TheVariants as mark
use Rattle.floor_rule.specs.declared.entry.Joint.{Joint}
use Rattle.floor_rule.specs.declared.rule.Marked.{Marked}
use Rattle.room_lock.specs.Between.{is_watch}

abbrev pub joint_at : ℕ → ℕ → ℕ → Acted → Joint
joint_at place room n a = record { act = a.act; room = room; serial = n; vote = get_or a.votes place vote.Unasked; outcome = a.outcome }

abbrev pub joints_at : ℕ → ℕ → ℕ → List Acted → List Joint
joints_at place room n [] = []
joints_at place room n (a ∷ acts) = joint_at place room n a ∷ joints_at place room (n + 1) acts

-- the member at the place has voted in each
abbrev pub AllVoted : ℕ → List Acted → Type 0
AllVoted place [] = Unit {0}
AllVoted place (a ∷ acts) = (place < length a.votes) × AllVoted place acts

-- each act has a vote for each of so many members
abbrev pub AreVotes : ℕ → List Acted → Type 0
AreVotes n [] = Unit {0}
AreVotes n (a ∷ acts) = (length a.votes ≡ n) × AreVotes n acts

-- no act has more votes than there are members in a group
abbrev pub FewVoted : List Acted → Type 0
FewVoted [] = Unit {0}
FewVoted (a ∷ acts) = (length a.votes ≤ 16) × FewVoted acts

-- the state after an act that these follow, where t is the state after the last
abbrev pub state_after : List Acted → State → State
state_after [] t = t
state_after (a ∷ acts) t = if is_watch a.act then t else state.Running

-- The entries of the acts, which come from the entry of sub at this place of its log: the state and the shown hardware position are those after the last act.
abbrev pub shared_at : ℕ → ℕ → ℕ → List Acted → State → ℕ → SubId → ℕ → List Marked
shared_at place room n [] t h sub at = []
shared_at place room n (a ∷ acts) t h sub at =
    record { entry = entry.Shared (joint_at place room n a); mark = mark.Caused (state_after acts t) h sub at } ∷ shared_at place room (n + 1) acts t h sub at
