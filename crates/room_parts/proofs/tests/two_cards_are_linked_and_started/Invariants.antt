use Rattle.std.specs.Prelude.{[], ◌∷◌}
use Rattle.pcm_base.specs.declared.state.Dir.TheVariants.{Playback, Capture}
use Rattle.pcm_base.specs.model.Stream.{no_model}
use Rattle.room_parts.proofs.tests.two_cards_are_linked_and_started.Given as goal

abbrev pub ghosts-linking : goal.ghosts-linking
ghosts-linking g a = record { table = a.words.table; cards = (no_model, Playback) ∷ (no_model, Capture) ∷ []; long_max = 2147483647 }
