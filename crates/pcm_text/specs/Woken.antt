-- The clients that a step marked awake, as a line shows them. This project's own.
use Rattle.std.specs.Prelude.{ℕ, List, [], ◌++◌, codes, decimal, if◌then◌else◌, ◌==◌}
use Rattle.std.specs.List.{flat_map, range_with_len}
use Rattle.pcm_base.specs.model.Allowed.{has_bit}

-- a client whose bit is set
abbrev pub text_where_marked : ℕ → ℕ → List ℕ
text_where_marked mask client = if has_bit mask client then codes " c" ++ decimal client else []

-- the marked ones of the 16 clients, by rising number; nothing where nobody was marked
abbrev pub wake_text : ℕ → List ℕ
wake_text mask = if mask == 0 then [] else codes " wake" ++ flat_map (text_where_marked mask) (range_with_len 0 16)
