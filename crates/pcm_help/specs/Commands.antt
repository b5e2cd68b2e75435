-- The names of the commands. This project's own.
use Rattle.std.specs.Prelude.{ℕ, List, codes}
use Rattle.pcm_help.specs.declared.command.Command.{Command}
use Rattle.pcm_help.specs.declared.command.Command.TheVariants.{Run, Refine, Play, Capture, Gen}

abbrev pub name_of : Command → List ℕ
name_of Run = codes "run"
name_of Refine = codes "refine"
name_of Play = codes "play"
name_of Capture = codes "capture"
name_of Gen = codes "gen"
