-- The chunks of a RIFF file, each at its place: an id and a size of four bytes each, a body of that size, and a byte more where the size is odd.
use Rattle.std.specs.Prelude.{◌≡◌, ℕ, Bool, ◌||◌, nat_eq, List, [], ◌∷◌, length, take, drop, codes, ◌+◌, ◌%◌, ◌<◌, ◌≤◌, if◌then◌else◌, Option, Some, None}
use Rattle.std.specs.List.{starts_with}
use Rattle.wav_file.specs.declared.chunk.Chunk.{Chunk}
use Rattle.wav_file.specs.declared.chunk.Stop.{Stop}
use Rattle.wav_file.specs.declared.chunk.Stop.TheVariants.{FormatOrData, Data}
use Rattle.wav_file.specs.Recordings.{number_at}

-- an offset in the file, and all bytes from there on
pub record Place : Type 0 where
  pub at : ℕ
  pub bytes : List ℕ

abbrev pub place_of : Chunk → Place
place_of c = record { at = c.at; bytes = c.bytes.now }

-- the chunk at the front has this id
abbrev pub has_id : List ℕ → List ℕ → Bool
has_id id bytes = starts_with nat_eq bytes id

-- the size of its body, as its head says
abbrev pub size_at : List ℕ → ℕ
size_at bytes = number_at 4 4 bytes

-- how far the next chunk is
abbrev pub past_chunk : List ℕ → ℕ
past_chunk bytes = 8 + size_at bytes + size_at bytes % 2

abbrev pub next_place : Place → Place
next_place p = record { at = p.at + past_chunk p.bytes; bytes = drop (past_chunk p.bytes) p.bytes }

-- the chunks from a place on; fewer than eight bytes end them
abbrev pub AreChunks : Place → List Place → Type 0
AreChunks p [] = length p.bytes < 8
AreChunks p (c ∷ cs) = (8 ≤ length p.bytes) × (c ≡ p) × AreChunks (next_place p) cs

-- the chunks from the first on that passes the test
abbrev pub from_first : (List ℕ → Bool) → List Place → List Place
from_first test [] = []
from_first test (c ∷ cs) = if test c.bytes then c ∷ cs else from_first test cs

-- the body of the chunk at the front, or as much of it as is there
abbrev pub body_at : List ℕ → List ℕ
body_at bytes = take (size_at bytes) (drop 8 bytes)

abbrev pub is_data : List ℕ → Bool
is_data bytes = has_id (codes "data") bytes

abbrev pub is_format_or_data : List ℕ → Bool
is_format_or_data bytes = has_id (codes "fmt ") bytes || is_data bytes

-- the test of a search
abbrev pub stops : Stop → List ℕ → Bool
stops FormatOrData bytes = is_format_or_data bytes
stops Data bytes = is_data bytes

-- what a search returns is the first of these chunks
abbrev pub Finds : Option Chunk → List Place → Type 0
Finds None chunks = chunks ≡ []
Finds (Some c) chunks = AreChunks (place_of c) chunks
