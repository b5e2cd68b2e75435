-- What of the frames that a card took is still to be given to another. This project's own.
use Rattle.std.specs.Prelude.{ℕ, List, drop, ◌*◌}

-- the bytes without their first frames; none where there are not so many
abbrev pub rest_of : List ℕ → ℕ → ℕ → List ℕ
rest_of taken frame_bytes moved = drop (moved * frame_bytes) taken
