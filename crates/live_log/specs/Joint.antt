-- One substream's part in an act, as a log shows it. This project's own.
use Rattle.std.specs.Prelude.{ℕ, List, ◌++◌, codes, decimal, if◌then◌else◌}
use Rattle.pcm_base.specs.declared.act.Act.{Act}
use Rattle.pcm_base.specs.declared.act.Act.TheVariants as act
use Rattle.pcm_base.specs.declared.act.Outcome.{Outcome}
use Rattle.pcm_base.specs.declared.act.Outcome.TheVariants as outcome
use Rattle.pcm_base.specs.declared.act.Vote.{Vote}
use Rattle.pcm_base.specs.declared.act.Vote.TheVariants as vote
use Rattle.floor_rule.specs.declared.entry.Joint.{Joint}
use Rattle.pcm_line.specs.Kinds.{OfSub, spelled}
use Rattle.pcm_text.specs.Names.{errno_name, state_name}

-- a stop is named with the state that it leaves
abbrev pub act_word : Act → List ℕ
act_word act.Start = codes "start"
act_word (act.Stop to) = codes "stop-" ++ state_name to
act_word (act.Prepare stop_first) = if stop_first then codes "prepare-stop" else codes "prepare"
act_word act.Pause = codes "pause"
act_word act.Release = codes "release"
act_word act.Suspend = codes "suspend"
act_word act.Resume = codes "resume"
act_word act.Drain = codes "drain"
act_word act.Watch = codes "watch"

-- what the substream said to the act
abbrev pub vote_word : Vote → List ℕ
vote_word vote.Yes = codes "yes"
vote_word (vote.Refuse errno) = codes "refuse-" ++ errno_name errno
vote_word vote.Fail = codes "fail"
vote_word vote.Unasked = codes "unasked"

-- what became of the act, and by whom
abbrev pub outcome_word : Outcome → List ℕ
outcome_word outcome.Done = codes "done"
outcome_word (outcome.Refused by errno) = codes "refused-" ++ spelled OfSub by ++ codes "-" ++ errno_name errno
outcome_word (outcome.Failed by) = codes "failed-" ++ spelled OfSub by

-- a room by its number
abbrev pub room_word : ℕ → List ℕ
room_word room = codes "r" ++ decimal room

-- the act, the room and the act's place among its acts, the vote, and the outcome
abbrev pub joint_text : Joint → List ℕ
joint_text j =
    act_word j.act ++ codes " " ++ room_word j.room ++ codes " " ++ decimal j.serial ++ codes " " ++ vote_word j.vote
    ++ codes " " ++ outcome_word j.outcome
