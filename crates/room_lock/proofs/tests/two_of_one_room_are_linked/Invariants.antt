use Rattle.std.specs.Prelude.{[], ◌∷◌}
use Rattle.card_emul.specs.Limits.{basic}
use Rattle.pcm_base.specs.declared.state.Dir.TheVariants.{Playback}
use Rattle.room_lock.proofs.tests.two_of_one_room_are_linked.Given as goal

abbrev pub ghosts-linking_again : goal.ghosts-linking_again
ghosts-linking_again g a = record { table = a.words.table; cards = (basic, Playback) ∷ (basic, Playback) ∷ []; long_max = 2147483647 }
