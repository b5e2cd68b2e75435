-- The rooms of a floor at rest. This project's own.
use Rattle.std.specs.Prelude.{◌≡◌, ℕ, suc, nat_eq, ◌<◌, List, [], ◌∷◌, ◌++◌, length, map, slice_get, if◌then◌else◌}
use Rattle.std.specs.declared.option.Option.TheVariants.{Some}
use Rattle.pcm_base.specs.declared.config.CardModel.{CardModel}
use Rattle.pcm_base.specs.declared.state.Dir.{Dir}
use Rattle.pcm_base.specs.model.Stream.{Member as ModelMember}
use Rattle.floor_rule.specs.declared.rule.Marked.{Marked}
use Rattle.room_book.specs.Rooms.{fresh_streams}
use Rattle.room_parts.specs.Passes.{PassView}
use Rattle.room_parts.specs.Recs.{RecView}
use Rattle.room_lock.specs.InRoom.{IsRoomOf, RoomView}
use Rattle.live_gather.specs.Gathered.{IsGathered}
use Rattle.live_gather.specs.Pieces.{with_logs}
use Rattle.live_gather.specs.declared.gathered.Gathered.{Gathered}

-- the room fits: its members stand for streams to which their logs play, and which fit its book
abbrev pub IsFit : List (CardModel × Dir) → ℕ → RoomView → Type 0
IsFit cards long_max v = (xs : List ModelMember) × IsRoomOf (fresh_streams cards long_max) (length cards) v xs

abbrev pub AllFit : List (CardModel × Dir) → ℕ → List RoomView → Type 0
AllFit cards long_max vs = (i : ℕ) (v : RoomView) → slice_get vs i ≡ Some v → IsFit cards long_max v

-- the numbers of those that stand in some rooms, in link order, one room after another
abbrev pub all_in : List RoomView → List ℕ
all_in [] = []
all_in (v ∷ vs) = map (λ r. r.knows.sub) v.recs ++ all_in vs

-- how often a number is among some
abbrev pub times : ℕ → List ℕ → ℕ
times j [] = 0
times j (i ∷ is) = if nat_eq i j then suc (times j is) else times j is

-- Each room fits. The rec of each of its members has this log of the member's substream, which is a card. Each card stands once in one room.
pub record AreRooms (cards : List (CardModel × Dir)) (long_max : ℕ) (logs : ℕ → List Marked) (vs : List RoomView) : Type 0 where
  pub fit : AllFit cards long_max vs
  pub logs_are : (i k : ℕ) (v : RoomView) (r : RecView) → slice_get vs i ≡ Some v → slice_get v.recs k ≡ Some r → (r.knows.sub < length cards) × (r.knows.log ≡ logs r.knows.sub)
  pub once : (j : ℕ) → j < length cards → times j (all_in vs) ≡ 1

-- What is gathered of a floor at rest, and the rooms in which its logs stood.
pub record IsAtRest (cards : List (CardModel × Dir)) (long_max : ℕ) (ps : List PassView) (gs : List Gathered) : Type 0 where
  pub gathered : IsGathered cards long_max ps gs
  pub rooms : List RoomView
  pub stood : AreRooms cards long_max gathered.logs rooms

-- the logs in some rooms, those of the first room last, and of each room the last first
abbrev pub logs_in : List RoomView → List (ℕ × List Marked)
logs_in [] = []
logs_in (v ∷ vs) = with_logs (logs_in vs) v.recs

-- these logs are those of rooms that fit
abbrev pub AreTaken : List (CardModel × Dir) → ℕ → List (ℕ × List Marked) → Type 0
AreTaken cards long_max ls = (vs : List RoomView) × AllFit cards long_max vs × (ls ≡ logs_in vs)
