use Rattle.std.proofs.Common.{◌≡◌, ◌≤◌, ◌++◌, ℕ, List, length}
use Rattle.std.specs.Prelude.{vec_len, vec_capacity}
use Rattle.floor_rule.specs.Rule.{Among}
use Rattle.floor_rule.specs.declared.rule.Marked.{Marked}
use Rattle.live_gather.specs.Ordered.{HasSub, IsOneOf}
use Rattle.live_gather.specs.Pieces.{numbers_of}
use Rattle.live_gather.specs.Told.{Each}
use Rattle.live_gather.proofs.gathering.take_in.Given as goal

abbrev pub invariant-loop-piece : goal.invariant-loop-piece
invariant-loop-piece g l = record {
  done : List (ℕ × List Marked);
  pieces : l.pieces.items ++ done ≡ l.fn.pieces.items;
  table : l.maker.table ≡ g.N.FloorName.table;
  recs : l.maker.knows.recs ≡ length g.N.FloorName.cards;
  roll : l.maker.knows.roll ≡ numbers_of done;
  count : vec_len l.all ≡ length done;
  room : length g.N.FloorName.cards ≤ vec_capacity l.all;
  whole : (j : ℕ) → Among j (numbers_of done) → HasSub j l.all.items;
  gathered : Each (IsOneOf g.N.FloorName.cards g.N.FloorName.long_max l.fn.pieces.items) l.all.items;
}

abbrev pub decreases-loop-piece : goal.decreases-loop-piece
decreases-loop-piece g l = goal.left-loop-piece g l
