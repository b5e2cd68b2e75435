use Rattle.std.proofs.Common.{length, refl, arith}
use Rattle.std.proofs.lemmas.Option.{slice_get_read}
use Rattle.room_lock.proofs.JointLemmas.{few_at}
use Rattle.room_lock.proofs.noting.note_acts.Goals as goal

pub copied-requires : goal.copied-requires
copied-requires c = few_at c.args.acts.now c.loop-i.i c.index-acts-i.result c.requires.voted (slice_get_read c.args.acts.now (length c.args.acts.now) c.loop-i.i c.index-acts-i.result refl (omega (arith, c.loop-i-test.true)) c.index-acts-i.is)
