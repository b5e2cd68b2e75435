-- Pointers as clients see them: remainders by the boundary, which is a whole number of buffers. Slots and distances follow from them.
use Rattle.std.specs.Prelude.{◌≡◌, ℕ, true, ◌+◌, ◌-◌, ◌*◌, ◌%◌, ◌^◌, ◌<◌, ◌≤◌}
use Rattle.pcm_base.specs.CardFacts.{HasChannels}
use Rattle.pcm_base.specs.Shape.{IsSoundShape}
use Rattle.pcm_base.specs.declared.config.CardModel.{CardModel}
use Rattle.pcm_base.specs.model.Allowed.{accepts, shape_of}
use Rattle.pcm_base.specs.declared.config.Config.{Config}
use Rattle.pcm_base.specs.declared.state.Dir.TheVariants as dir
use Rattle.pcm_base.specs.Boundary.{boundary_of}
use Rattle.pcm_base.specs.model.PointerCalls.{sync_to}
use Rattle.pcm_base.specs.model.Sound.{IsConfigured}
use Rattle.pcm_base.specs.model.Stream.{Stream, head, avail, shown}

-- l is b doubled so many times
pub record IsDoubled (b l : ℕ) : Type 0 where
  pub times : ℕ
  pub doublings : l ≡ b * 2 ^ times

abbrev pub BoundaryIsDoubled : Type 0
BoundaryIsDoubled = (buffer long_max : ℕ) → IsDoubled buffer (boundary_of buffer long_max)

abbrev pub BoundaryIsWhole : Type 0
BoundaryIsWhole = (buffer long_max : ℕ) → boundary_of buffer long_max % buffer ≡ 0

-- from four buffers on, long_max has room for two buffers below the boundary and for one above it
abbrev pub BoundaryHasTwo : Type 0
BoundaryHasTwo = (buffer long_max : ℕ) → 0 < buffer → 4 * buffer ≤ long_max → 2 * buffer ≤ boundary_of buffer long_max

abbrev pub BoundaryLeavesOne : Type 0
BoundaryLeavesOne = (buffer long_max : ℕ) → 2 * buffer ≤ long_max → boundary_of buffer long_max + buffer ≤ long_max

-- the boundary is that of the least long_max that leaves room for it
abbrev pub BoundaryIsItsOwn : Type 0
BoundaryIsItsOwn = (buffer long_max : ℕ) → 0 < buffer → boundary_of buffer long_max ≡ boundary_of buffer (boundary_of buffer long_max + buffer)

-- the shape of an accepted configuration is one that a card can be set up with
abbrev pub AcceptedShapeIsSound : Type 0
AcceptedShapeIsSound = (m : CardModel) (long_max : ℕ) (c : Config) → HasChannels m → long_max < 2 ^ 36 → accepts m long_max c ≡ true → IsSoundShape (shape_of c long_max)

-- a shown pointer has the slot of its position
abbrev pub ShownSlot : Type 0
ShownSlot = (buffer boundary p : ℕ) → boundary % buffer ≡ 0 → p % boundary % buffer ≡ p % buffer

-- positions that count from the boundary show what those that count from 0 show
abbrev pub OriginShown : Type 0
OriginShown = (boundary p : ℕ) → (boundary + p) % boundary ≡ p % boundary

abbrev pub OriginSlot : Type 0
OriginSlot = (buffer boundary p : ℕ) → boundary % buffer ≡ 0 → (boundary + p) % buffer ≡ p % buffer

abbrev pub OriginDistance : Type 0
OriginDistance = (boundary p q : ℕ) → (boundary + p) - (boundary + q) ≡ p - q

-- a distance below the boundary, from the two shown pointers
abbrev pub ShownDistance : Type 0
ShownDistance = (boundary high low : ℕ) → low ≤ high → high - low < boundary → (high % boundary + boundary - low % boundary) % boundary ≡ high - low

-- the distance up to n above the high one
abbrev pub ShownDistanceAbove : Type 0
ShownDistanceAbove = (boundary high n low : ℕ) → low ≤ high + n → high + n - low < boundary → (high % boundary + n + boundary - low % boundary) % boundary ≡ high + n - low

-- a pointer that moves on, and one that moves back
abbrev pub ShownSum : Type 0
ShownSum = (boundary p n : ℕ) → (p % boundary + n) % boundary ≡ (p + n) % boundary

abbrev pub ShownDifference : Type 0
ShownDifference = (boundary p n : ℕ) → n ≤ p → n < boundary → (p % boundary + boundary - n) % boundary ≡ (p - n) % boundary

-- what a client may move, from what it sees of a configured stream
abbrev pub ShownAvail : Type 0
ShownAvail = (c : Config) (s : Stream) → IsConfigured c s → avail s ≡ (head s % s.setup.boundary + s.setup.boundary - shown s s.at.appl) % s.setup.boundary

abbrev pub ShownPlaybackAvail : Type 0
ShownPlaybackAvail = (c : Config) (s : Stream) → IsConfigured c s → s.dir ≡ dir.Playback
    → avail s ≡ (shown s s.at.hw + s.setup.buffer + s.setup.boundary - shown s s.at.appl) % s.setup.boundary

abbrev pub ShownCaptureAvail : Type 0
ShownCaptureAvail = (c : Config) (s : Stream) → IsConfigured c s → s.dir ≡ dir.Capture
    → avail s ≡ (shown s s.at.hw + s.setup.boundary - shown s s.at.appl) % s.setup.boundary

-- the frames that the card moved since it last reported
abbrev pub ShownUnreported : Type 0
ShownUnreported = (c : Config) (s : Stream) → IsConfigured c s → s.at.card - s.at.hw ≡ (shown s s.at.card + s.setup.boundary - shown s s.at.hw) % s.setup.boundary

-- any position of a configured stream has the slot of what is shown of it
abbrev pub ShownStreamSlot : Type 0
ShownStreamSlot = (c : Config) (s : Stream) (p : ℕ) → IsConfigured c s → shown s p % s.setup.buffer ≡ p % s.setup.buffer

-- a sync to p shows p
abbrev pub SyncShows : Type 0
SyncShows = (c : Config) (s : Stream) (p : ℕ) → IsConfigured c s → p < s.setup.boundary → shown s (sync_to p s).at.appl ≡ p
