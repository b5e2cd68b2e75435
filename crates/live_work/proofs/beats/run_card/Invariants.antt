use Rattle.live_work.specs.Beats.{HasBeaten}
use Rattle.live_work.proofs.beats.run_card.Given as goal

-- so many beats were made
abbrev pub invariant-loop-beat : goal.invariant-loop-beat
invariant-loop-beat g l = record {
  beaten : HasBeaten g.N.FloorName.cards g.N.FloorName.long_max l.fn.beats.sub l.fn.beats.frames l._beat l.fn.pass l.pass;
}
