-- What stands in a ring after puts, by slot; and runs of frames.
use Rattle.std.specs.Prelude.{◌≡◌, ◌≢◌, ℕ, List, [], ◌++◌, length, get_or, nat_lt, if◌then◌else◌, ◌+◌, ◌-◌, ◌%◌, ◌<◌, ◌≤◌}
use Rattle.pcm_base.specs.model.Frame.{Frame}
use Rattle.pcm_base.specs.model.Words.{◌then◌}
use Rattle.pcm_base.specs.model.Standing.{Put, standing, put_at, standing_at}

-- what stands at a position depends on its slot alone
abbrev pub StandsBySlot : Type 0
StandsBySlot = (puts : List Put) (buffer p q : ℕ) (z : Frame) → p % buffer ≡ q % buffer → standing puts buffer p z ≡ standing puts buffer q z

-- later puts stand over earlier ones
abbrev pub LaterPutsStand : Type 0
LaterPutsStand = (earlier later : List Put) (buffer p : ℕ) (z : Frame) → standing (earlier ++ later) buffer p z ≡ standing later buffer p (standing earlier buffer p z)

-- frames that are put one after another: at most a buffer of them stand in the slots that they hit
abbrev pub FramesHit : Type 0
FramesHit = (fs : List Frame) (p : ℕ) (puts : List Put) (buffer x i : ℕ) (z none : Frame) → length fs ≤ buffer → i < length fs → (p + i) % buffer ≡ x % buffer
    → standing (put_at p fs puts) buffer x z ≡ get_or fs i none

-- and in the other slots stands what stood there
abbrev pub FramesMiss : Type 0
FramesMiss = (fs : List Frame) (p : ℕ) (puts : List Put) (buffer x : ℕ) (z : Frame) → ((i : ℕ) → i < length fs → (p + i) % buffer ≢ x % buffer)
    → standing (put_at p fs puts) buffer x z ≡ standing puts buffer x z

-- from the slot of p on, that of x comes after so many
abbrev pub slot_distance : ℕ → ℕ → ℕ → ℕ
slot_distance buffer p x = (x % buffer + buffer - p % buffer) % buffer

-- both in one
abbrev pub SlotsAfterPuts : Type 0
SlotsAfterPuts = (fs : List Frame) (p : ℕ) (puts : List Put) (buffer x : ℕ) (z none : Frame) → 0 < buffer → length fs ≤ buffer
    → standing (put_at p fs puts) buffer x z ≡ (if nat_lt (slot_distance buffer p x) (length fs) then get_or fs (slot_distance buffer p x) none else standing puts buffer x z)

-- up to the ring's end slots follow one another, and behind it comes slot 0
abbrev pub SlotsFollow : Type 0
SlotsFollow = (buffer p i : ℕ) → p % buffer + i < buffer → (p + i) % buffer ≡ p % buffer + i

abbrev pub RingEnds : Type 0
RingEnds = (buffer p n : ℕ) → p % buffer + n ≡ buffer → (p + n) % buffer ≡ 0

-- frames that are put from another position of the same slot are as good
abbrev pub PutsGoBySlot : Type 0
PutsGoBySlot = (fs : List Frame) (p q : ℕ) (puts : List Put) (buffer x : ℕ) (z : Frame) → p % buffer ≡ q % buffer
    → standing (put_at p fs puts) buffer x z ≡ standing (put_at q fs puts) buffer x z

-- frames put in two parts
abbrev pub PutsSplit : Type 0
PutsSplit = (p : ℕ) (fs gs : List Frame) (puts : List Put) → put_at p (fs ++ gs) puts ≡ put_at (p + length fs) gs (put_at p fs puts)

-- frames are put behind the puts that are there
abbrev pub PutsGoBehind : Type 0
PutsGoBehind = (p : ℕ) (fs : List Frame) (puts : List Put) → put_at p fs puts ≡ puts ++ put_at p fs []

abbrev pub RunsHaveLength : Type 0
RunsHaveLength = (puts : List Put) (buffer p n : ℕ) (z : Frame) → length (standing_at puts buffer p n z) ≡ n

abbrev pub RunsHaveElements : Type 0
RunsHaveElements = (puts : List Put) (buffer p n i : ℕ) (z none : Frame) → i < n → get_or (standing_at puts buffer p n z) i none ≡ standing puts buffer (p + i) z

abbrev pub RunsSplit : Type 0
RunsSplit = (puts : List Put) (buffer p m n : ℕ) (z : Frame) → standing_at puts buffer p (m + n) z ≡ standing_at puts buffer p m z ++ standing_at puts buffer (p + m) n z

abbrev pub RunsGoBySlot : Type 0
RunsGoBySlot = (puts : List Put) (buffer p q n : ℕ) (z : Frame) → p % buffer ≡ q % buffer → standing_at puts buffer p n z ≡ standing_at puts buffer q n z

-- at most a buffer of frames stand where they were put
abbrev pub RunsShowPuts : Type 0
RunsShowPuts = (fs : List Frame) (p : ℕ) (puts : List Put) (buffer : ℕ) (z : Frame) → length fs ≤ buffer → standing_at (put_at p fs puts) buffer p (length fs) z ≡ fs
