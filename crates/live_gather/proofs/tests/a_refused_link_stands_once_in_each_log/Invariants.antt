use Rattle.std.specs.Prelude.{[], ◌∷◌}
use Rattle.card_emul.specs.Limits.{basic}
use Rattle.pcm_base.specs.declared.state.Dir.TheVariants.{Playback}
use Rattle.live_gather.proofs.tests.a_refused_link_stands_once_in_each_log.Given as goal

-- the words that were just made, over two playback cards
abbrev pub ghosts-gathering : goal.ghosts-gathering
ghosts-gathering g a = record { table = a.words.table; cards = (basic, Playback) ∷ (basic, Playback) ∷ []; long_max = 2147483647 }
