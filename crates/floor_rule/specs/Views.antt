-- What a view says of its seat; empty where it is the view of another kind of seat. This project's own.
use Rattle.std.specs.Prelude.{[], ◌++◌}
use Rattle.floor_rule.specs.declared.rule.Lists.{Lists}
use Rattle.floor_rule.specs.declared.rule.MakerKnows.{MakerKnows}
use Rattle.floor_rule.specs.declared.rule.PassKnows.{PassKnows}
use Rattle.floor_rule.specs.declared.rule.RecKnows.{RecKnows}
use Rattle.floor_rule.specs.declared.rule.View.{View}
use Rattle.floor_rule.specs.declared.rule.View.TheVariants.{Maker, Rec, Pass, Note}

abbrev pub no_lists : Lists
no_lists = record { logs = []; calls = []; reads = [] }

-- the lists of two seats
abbrev pub both_lists : Lists → Lists → Lists
both_lists a b = record { logs = a.logs ++ b.logs; calls = a.calls ++ b.calls; reads = a.reads ++ b.reads }

abbrev pub maker_of : View → MakerKnows
maker_of (Maker m) = m
maker_of _ = record { recs = 0; passes = 0; roll = [] }

abbrev pub rec_of : View → RecKnows
rec_of (Rec r) = r
rec_of _ = record { sub = 0; log = []; place = 0; held = no_lists }

abbrev pub pass_of : View → PassKnows
pass_of (Pass p) = p
pass_of _ = record { number = 0; calls = []; receipts = []; reads = []; held = no_lists }

abbrev pub note_of : View → Lists
note_of (Note l) = l
note_of _ = no_lists
