use Rattle.std.proofs.Common.{sym, subst, ◌+◌}
use Rattle.std.proofs.lemmas.List.{take_rest}
use Rattle.pcm_help.specs.Recent.{IsBehind}
use Rattle.pcm_help.proofs.RecentLemmas.{behind-more}
use Rattle.pcm_help.proofs.recent.behind_feeds.Goals as goal

pub feeds-preserved : goal.feeds-preserved
feeds-preserved c =
    subst (IsBehind (c.feeds.counter + 1) c.args.bytes.now) (sym (take_rest c.feeds.rest.now (c.in-Some.at + 1)))
    (behind-more c.feeds.counter c.args.bytes.now c.feeds.rest.now c.in-Some.at c.feeds.invariant c.in-Some.ensures)
