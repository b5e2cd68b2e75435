use Rattle.room_lock.proofs.UnlinkReplies.{unlink_replies_agree}
use Rattle.room_lock.proofs.laws.unlinks.Goals as goal

pub returns : goal.returns
returns c = unlink_replies_agree
