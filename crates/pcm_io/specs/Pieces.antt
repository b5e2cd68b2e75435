-- Text that is written in whole pieces. This project's own.
use Rattle.std.specs.Prelude.{ℕ, ◌*◌, ◌/◌}

-- how many of so many bytes are in whole pieces of 4096
abbrev pub in_pieces : ℕ → ℕ
in_pieces n = n / 4096 * 4096
