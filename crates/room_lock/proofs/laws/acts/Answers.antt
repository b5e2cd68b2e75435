use Rattle.room_lock.proofs.FollowingActs.{acts_follow}
use Rattle.room_lock.proofs.MarksBetween.{marks_show}
use Rattle.room_lock.proofs.laws.acts.Goals as goal

pub returns-clause-follow : goal.returns-clause-follow
returns-clause-follow c = acts_follow c.runs.ensures

pub returns-clause-marks : goal.returns-clause-marks
returns-clause-marks c = marks_show c.acts.ensures
