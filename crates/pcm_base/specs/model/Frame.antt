-- Frames, and how a transfer's bytes hold them (asound.h). A frame is its bytes, sample after sample by channel.
use Rattle.std.specs.Prelude.{ℕ, List, [], ◌∷◌, ◌++◌, take, drop, map, zero, suc, ◌*◌}

abbrev pub Frame : Type 0
Frame = List ℕ

-- the first n frames of w bytes in bytes that hold frame after frame
abbrev pub frames_of : ℕ → ℕ → List ℕ → List Frame
frames_of zero w bytes = []
frames_of (suc n) w bytes = take w bytes ∷ frames_of n w (drop w bytes)

-- frame after frame
abbrev pub bytes_of : List Frame → List ℕ
bytes_of [] = []
bytes_of (f ∷ fs) = f ++ bytes_of fs

-- n frames of areas, one for each channel: sample j of each in turn, w bytes each
abbrev pub frames_across : ℕ → ℕ → List (List ℕ) → List Frame
frames_across zero w areas = []
frames_across (suc n) w areas = bytes_of (map (take w) areas) ∷ frames_across n w (map (drop w) areas)

-- n frames of planar bytes: n samples of w bytes for each of so many channels, channel after channel
abbrev pub planar_frames : ℕ → ℕ → ℕ → List ℕ → List Frame
planar_frames n channels w bytes = frames_across n w (frames_of channels (n * w) bytes)

-- the samples of channel 0, w bytes each, then those of channel 1 and so on
abbrev pub bytes_across : ℕ → ℕ → List Frame → List ℕ
bytes_across zero w fs = []
bytes_across (suc channels) w fs = bytes_of (map (take w) fs) ++ bytes_across channels w (map (drop w) fs)
