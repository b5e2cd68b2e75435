use Rattle.std.specs.Prelude.{[], ◌∷◌}
use Rattle.card_emul.specs.Limits.{basic}
use Rattle.pcm_base.specs.declared.state.Dir.TheVariants.{Playback}
use Rattle.live_floor.proofs.worked_tests.a_group_of_two_ends_when_one_leaves.Given as goal

-- the words that were just made, over three playback cards
abbrev pub ghosts-parting-N-FloorName : goal.ghosts-parting-N-FloorName
ghosts-parting-N-FloorName g a = record { table = a.words.table; cards = (basic, Playback) ∷ (basic, Playback) ∷ (basic, Playback) ∷ []; long_max = 2147483647 }

abbrev pub ghosts-parting-N-Ledger : goal.ghosts-parting-N-Ledger
ghosts-parting-N-Ledger g a = record { name = a.blank.name; parts = a.blank.parts }
