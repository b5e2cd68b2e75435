use Rattle.std.specs.Prelude.{[], ◌∷◌}
use Rattle.card_emul.specs.Limits.{basic}
use Rattle.pcm_base.specs.declared.state.Dir.TheVariants.{Playback}
use Rattle.room_lock.proofs.tests.substreams_are_linked.Given as goal

abbrev pub ghosts-linking : goal.ghosts-linking
ghosts-linking g a = record { table = a.words.table; cards = (basic, Playback) ∷ (basic, Playback) ∷ (basic, Playback) ∷ []; long_max = 2147483647 }
