use Rattle.std.proofs.Common.{List}
use Rattle.pcm_base.specs.model.Stream.{Member}
use Rattle.pcm_stream.specs.Members.{members_of}
use Rattle.pcm_stream.specs.MembersStand.{AllStandFor}
use Rattle.room_lock.specs.Shared.{SharedTo, Untouched, shared_by}
use Rattle.room_lock.proofs.recs.share_all.Given as goal

abbrev pub invariant-loop-i : goal.invariant-loop-i
invariant-loop-i g l = record {
  shared : (xs : List Member) → AllStandFor (members_of l.members) xs → SharedTo l.i l.own (shared_by xs l.number l.serial l.acts l.sub l.place) l.fn.recs.items l.recs.items;
  untouched : Untouched l.i l.own l.fn.recs.items l.recs.items;
}
