use Rattle.std.specs.Prelude.{[], ◌∷◌}
use Rattle.card_emul.specs.Limits.{basic}
use Rattle.pcm_base.specs.declared.state.Dir.TheVariants.{Playback}
use Rattle.room_lock.proofs.tests.one_member_plays.Given as goal

abbrev pub ghosts-playing : goal.ghosts-playing
ghosts-playing g a = record { table = a.words.table; cards = (basic, Playback) ∷ []; long_max = 2147483647 }
