use Rattle.std.proofs.Common.{◌≡◌, ◌-◌, ◌<◌, true, length, drop}
use Rattle.pcm_base.specs.model.Replay.{is_member}
use Rattle.room_parts.specs.Recs.{subs_of}
use Rattle.room_lock.proofs.contents.place_of.Given as goal

abbrev pub invariant-places : goal.invariant-places
invariant-places g l = record {
  within : l.i < length l.recs.items;
  behind : is_member l.sub (subs_of (drop l.i l.recs.items)) ≡ true;
}

abbrev pub decreases-places : goal.decreases-places
decreases-places g l = length l.recs.items - l.i
