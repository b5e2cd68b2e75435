-- What the words of a command line ask for. This project's own.
use Rattle.std.specs.Prelude.{◌≡◌, ◌<◌, ◌^◌, ℕ, true, List, [], ◌∷◌, codes, decimal, if◌then◌else◌}
use Rattle.std.specs.Str.{bytes_eq}
use Rattle.std.specs.declared.option.Option.{Option}
use Rattle.std.specs.declared.option.Option.TheVariants.{Some, None}
use Rattle.pcm_base.specs.Name.{is_name}
use Rattle.pcm_top.specs.declared.command.Command.{Command}
use Rattle.pcm_top.specs.declared.command.Command.TheVariants.{Run, Refine}
use Rattle.pcm_top.specs.declared.request.Request.{Request}
use Rattle.pcm_top.specs.declared.request.Request.TheVariants as request

-- the script's command of one word, and that of a command line
abbrev pub command_named : List ℕ → Option Command
command_named word = if bytes_eq word (codes "run") then Some Run else if bytes_eq word (codes "refine") then Some Refine else None

abbrev pub asked : List (List ℕ) → Option Command
asked [] = None
asked (word ∷ []) = command_named word
asked (word ∷ more ∷ rest) = None

-- The word is the number in its one spelling, which is below 2^63.
pub record IsNumber (word : List ℕ) (n : ℕ) : Type 0 where
  pub spelled : word ≡ decimal n
  pub small : n < 2 ^ 63

-- Two names of files stand behind the command.
pub record AreNames (from to : List ℕ) : Type 0 where
  pub input : is_name from ≡ true
  pub output : is_name to ≡ true

-- the words ask for the one thing: `run`, `refine`, `play IN OUT PERIOD PERIODS`, `capture IN OUT N` or `gen N`
abbrev pub Asks : List (List ℕ) → Request → Type 0
Asks words (request.Script command) = asked words ≡ Some command
Asks words (request.Play from to period periods) =
    (p q : List ℕ) × (words ≡ codes "play" ∷ from ∷ to ∷ p ∷ q ∷ []) × AreNames from to × IsNumber p period × IsNumber q periods
Asks words (request.Capture from to frames) = (n : List ℕ) × (words ≡ codes "capture" ∷ from ∷ to ∷ n ∷ []) × AreNames from to × IsNumber n frames
Asks words (request.Gen number) = (n : List ℕ) × (words ≡ codes "gen" ∷ n ∷ []) × IsNumber n number
