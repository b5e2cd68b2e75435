use Rattle.pcm_help.specs.Recent.{IsBehind}
use Rattle.pcm_help.proofs.recent.behind_feeds.Given as goal

abbrev pub invariant-feeds : goal.invariant-feeds
invariant-feeds l = IsBehind l.counter l.fn.bytes l.rest
