-- Which bytes are a WAV file of which recording: RIFF chunks before the first "data" chunk, and what that holds.
use Rattle.std.specs.Prelude.{◌≡◌, ◌≢◌, ◌⊎◌, ℕ, List, [], ◌∷◌, ◌++◌, length, take, drop, replicate, codes, ◌==◌, ◌+◌, ◌*◌, ◌/◌, ◌%◌, ◌^◌, ◌<◌, ◌≤◌, if◌then◌else◌, Option, Some, None, flat_map, ⊤}
use Rattle.std.specs.List.{AllByRecursion}
use Rattle.std.specs.Str.{bytes_eq}
use Rattle.pcm_base.specs.declared.format.Format.{Format}
use Rattle.pcm_base.specs.declared.format.Format.TheVariants as format
use Rattle.pcm_base.specs.Numbers.{sample_bytes}
use Rattle.byteorder.specs.Endian.{little_number, little_bytes}
use Rattle.wav_file.specs.Recordings.{Recording, number_at, format_of, frame_bytes, whole_frames, frames_from, bytes_for}

-- an id, the bytes of the size, a body, and what pads it
pub record WholeChunk : Type 0 where
  pub id : List ℕ
  pub size : List ℕ
  pub body : List ℕ
  pub pad : List ℕ

pub record IsWhole (c : WholeChunk) : Type 0 where
  pub id : length c.id ≡ 4
  pub size : length c.size ≡ 4
  pub body : little_number 4 c.size ≡ length c.body
  pub pad : length c.pad ≡ length c.body % 2

abbrev pub chunk_bytes : WholeChunk → List ℕ
chunk_bytes c = c.id ++ (c.size ++ (c.body ++ c.pad))

-- the body of the first "fmt " chunk
abbrev pub first_format : List WholeChunk → Option (List ℕ)
first_format [] = None
first_format (c ∷ cs) = if bytes_eq (codes "fmt ") c.id then Some c.body else first_format cs

-- a plain body of PCM (WAVE_FORMAT_PCM)
pub record IsPlain (body : List ℕ) : Type 0 where
  pub size : (length body ≡ 16) ⊎ (length body ≡ 18)
  pub tag : number_at 2 0 body ≡ 1

-- the subtype of PCM (KSDATAFORMAT_SUBTYPE_PCM)
abbrev pub pcm_subtype : List ℕ
pcm_subtype = 1 ∷ 0 ∷ 0 ∷ 0 ∷ 0 ∷ 0 ∷ 16 ∷ 0 ∷ 128 ∷ 0 ∷ 0 ∷ 170 ∷ 0 ∷ 56 ∷ 155 ∷ 113 ∷ []

-- a body that names PCM by its subtype (WAVE_FORMAT_EXTENSIBLE)
pub record IsExtensible (body : List ℕ) : Type 0 where
  pub size : length body ≡ 40
  pub tag : number_at 2 0 body ≡ 65534
  pub subtype : drop 24 body ≡ pcm_subtype

-- the valid bits of a sample: an extensible body tells them, and in a plain one all are valid
abbrev pub valid_bits : List ℕ → ℕ
valid_bits body = if number_at 2 0 body == 65534 then number_at 2 18 body else number_at 2 14 body

-- this body says so: PCM, and a frame of a sample for each channel
pub record IsFormat (body : List ℕ) (f : Format) (channels rate : ℕ) : Type 0 where
  pub kind : IsPlain body ⊎ IsExtensible body
  pub channels_are : number_at 2 2 body ≡ channels
  pub least : 1 ≤ channels
  pub most : channels ≤ 8
  pub rate_is : number_at 4 4 body ≡ rate
  pub some_rate : 0 < rate
  pub valid : valid_bits body ≤ number_at 2 14 body
  pub bits : format_of (number_at 2 14 body) (valid_bits body) ≡ Some f
  pub align : number_at 2 12 body ≡ channels * number_at 2 14 body / 8

-- the bytes are a WAV file of this recording
pub record IsWav (bytes : List ℕ) (r : Recording) : Type 0 where
  pub riff_size : List ℕ
  pub chunks : List WholeChunk
  pub data_size : List ℕ
  pub rest : List ℕ
  pub spelled : bytes ≡ codes "RIFF" ++ (riff_size ++ (codes "WAVE" ++ (flat_map chunk_bytes chunks ++ (codes "data" ++ (data_size ++ rest)))))
  pub riff_four : length riff_size ≡ 4
  pub data_four : length data_size ≡ 4
  pub whole : AllByRecursion IsWhole chunks
  pub before_data : AllByRecursion (λ c. c.id ≢ codes "data") chunks
  pub body : List ℕ
  pub first : first_format chunks ≡ Some body
  pub says : IsFormat body r.format r.channels r.rate
  -- the first bytes of the rest, as many as the size says or fewer
  pub frames : r.frames ≡ frames_from r.format (whole_frames (frame_bytes r.format r.channels) (take (little_number 4 data_size) rest))

-- the formats that a WAV file has
abbrev pub IsWavFormat : Format → Type 0
IsWavFormat format.S8 = ⊥
IsWavFormat format.U8 = ⊤
IsWavFormat format.S16Le = ⊤
IsWavFormat format.S16Be = ⊥
IsWavFormat format.S24Le = ⊤
IsWavFormat format.S32Le = ⊤
IsWavFormat format.S32Be = ⊥
IsWavFormat format.S24Le3 = ⊤

-- what can be written
pub record CanWrite (r : Recording) : Type 0 where
  pub format : IsWavFormat r.format
  pub least : 1 ≤ r.channels
  pub most : r.channels ≤ 8
  pub some_rate : 1 ≤ r.rate
  pub rate : r.rate < 2 ^ 32
  pub whole : length r.frames % frame_bytes r.format r.channels ≡ 0

-- the size of the body of its "fmt " chunk: S24_LE alone is written as extensible
abbrev pub body_size : Format → ℕ
body_size format.S24Le = 40
body_size _ = 16

abbrev pub tag_of : Format → ℕ
tag_of format.S24Le = 65534
tag_of _ = 1

-- what an extensible body has more: the size of the rest, the valid bits, no channel mask, and the subtype
abbrev pub extension : Format → List ℕ
extension format.S24Le = little_bytes 2 22 ++ little_bytes 2 24 ++ little_bytes 4 0 ++ pcm_subtype
extension _ = []

-- the "fmt " chunk that is written
abbrev pub format_body : Recording → List ℕ
format_body r =
    let align = frame_bytes r.format r.channels in
    little_bytes 2 (tag_of r.format) ++ little_bytes 2 r.channels ++ little_bytes 4 r.rate ++ little_bytes 4 (r.rate * align % 2 ^ 32) ++ little_bytes 2 align ++ little_bytes 2 (8 * sample_bytes r.format) ++ extension r.format

abbrev pub format_chunk : Recording → List ℕ
format_chunk r = codes "fmt " ++ little_bytes 4 (body_size r.format) ++ format_body r

-- the file that is written
abbrev pub wav_bytes : Recording → List ℕ
wav_bytes r =
    let size = length r.frames in
    let pad = size % 2 in
    codes "RIFF" ++ little_bytes 4 (20 + body_size r.format + size + pad) ++ codes "WAVE" ++ format_chunk r ++ codes "data" ++ little_bytes 4 size ++ bytes_for r.format r.frames ++ replicate pad 0
