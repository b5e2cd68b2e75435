use Rattle.std.proofs.Common.{◌≡◌, ◌++◌}
use Rattle.pcm_base.specs.model.World.{World}
use Rattle.pcm_world.specs.Shown.{IsWorld}
use Rattle.pcm_top.proofs.SessionLemmas.{ends_below}
use Rattle.pcm_top.proofs.session.push_ends.Given as goal

-- the lines of the substreams so far stand behind the text
abbrev pub invariant-subs : goal.invariant-subs
invariant-subs l = record {
  world : l.session.world ≡ l.initial.session.world;
  lines : (w : World) → IsWorld l.initial.session.world w → l.session.text.items ≡ l.initial.session.text.items ++ ends_below w l.number;
}
