-- What is gathered, in the order of the numbers. This project's own.
use Rattle.std.specs.Prelude.{◌≡◌, ℕ, ◌<◌, List, slice_get}
use Rattle.std.specs.declared.option.Option.TheVariants.{Some}
use Rattle.pcm_base.specs.declared.config.CardModel.{CardModel}
use Rattle.pcm_base.specs.declared.state.Dir.{Dir}
use Rattle.floor_rule.specs.declared.rule.Marked.{Marked}
use Rattle.live_gather.specs.Gathered.{IsGatheredOf}
use Rattle.live_gather.specs.declared.gathered.Gathered.{Gathered}

-- that of substream j is at this place, or among them

abbrev pub IsAt : ℕ → ℕ → List Gathered → Type 0
IsAt j i gs = (g : Gathered) × (slice_get gs i ≡ Some g) × (g.log.sub.0 ≡ j)

abbrev pub HasSub : ℕ → List Gathered → Type 0
HasSub j gs = (i : ℕ) × IsAt j i gs

-- each of so many substreams is among them
abbrev pub HasAll : ℕ → List Gathered → Type 0
HasAll n gs = (j : ℕ) → j < n → HasSub j gs

-- the first n are those of the substreams of the first n numbers, in order
abbrev pub AreInOrder : ℕ → List Gathered → Type 0
AreInOrder n gs = (j : ℕ) (g : Gathered) → j < n → slice_get gs j ≡ Some g → g.log.sub.0 ≡ j

-- each of the one is among the other
abbrev pub AreAmong : List Gathered → List Gathered → Type 0
AreAmong new old = (j : ℕ) (g : Gathered) → slice_get new j ≡ Some g → (i : ℕ) × (slice_get old i ≡ Some g)

-- it is gathered of one of these logs
abbrev pub IsOneOf : List (CardModel × Dir) → ℕ → List (ℕ × List Marked) → Gathered → Type 0
IsOneOf cards long_max ls g = (i : ℕ) × (l : ℕ × List Marked) × (slice_get ls i ≡ Some l) × IsGatheredOf cards long_max l.0 l.1 g
