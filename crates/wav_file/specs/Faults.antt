-- Which bytes are refused as a WAV file, with which error: the first one that applies when the chunk heads are taken in order.
use Rattle.std.specs.Prelude.{◌≡◌, ℕ, Bool, ◌&&◌, ◌||◌, not, nat_lt, nat_le, nat_eq, ◌==◌, List, [], ◌∷◌, length, drop, codes, ◌+◌, ◌*◌, ◌/◌, if◌then◌else◌, Option, Some, None, Result, Ok, Err, MatchBool}
use Rattle.std.specs.List.{starts_with}
use Rattle.pcm_base.specs.declared.format.Format.{Format}
use Rattle.wav_file.specs.declared.layout.Layout.{Layout}
use Rattle.wav_file.specs.declared.wav.WavError.{WavError}
use Rattle.wav_file.specs.declared.wav.WavError.TheVariants.{NotRiff, NoFmt, NoData, BadFmt, NotPcm, Width}
use Rattle.wav_file.specs.Recordings.{Recording, number_at, format_of, frame_bytes, whole_frames, frames_from}
use Rattle.wav_file.specs.Chunks.{Place, AreChunks, has_id, size_at, from_first, body_at, is_data, is_format_or_data}
use Rattle.wav_file.specs.Grammar.{pcm_subtype}

abbrev pub is_riff : List ℕ → Bool
is_riff bytes = nat_le 12 (length bytes) && (has_id (codes "RIFF") bytes && has_id (codes "WAVE") (drop 8 bytes))

-- where the chunks begin
abbrev pub after_riff : List ℕ → Place
after_riff bytes = record { at = 12; bytes = drop 12 bytes }

-- of a "fmt " chunk: its tag, the bits of a sample, and how many of them are valid, in a plain one all
abbrev pub tag_at : List ℕ → ℕ
tag_at bytes = number_at 2 8 bytes

abbrev pub bits_at : List ℕ → ℕ
bits_at bytes = number_at 2 22 bytes

abbrev pub valid_at : List ℕ → ℕ
valid_at bytes = if tag_at bytes == 65534 then number_at 2 26 bytes else bits_at bytes

abbrev pub samples_at : Place → ℕ → ℕ → ℕ → ℕ → Option Format → Result Layout WavError
samples_at c channels rate bits valid None = Err (Width bits)
samples_at c channels rate bits valid (Some f) =
    if nat_lt bits valid then Err (Width valid)
    else (if number_at 2 20 c.bytes == channels * bits / 8 then Ok (record { format = f; channels = channels; rate = rate })
    else Err (BadFmt (c.at + 20)))

-- the fields of a "fmt " chunk, or the first that is wrong
unfoldable pub fields_at : Place → Result Layout WavError
fields_at c =
    let channels = number_at 2 10 c.bytes in
    let rate = number_at 4 12 c.bytes in
    let bits = bits_at c.bytes in
    let valid = valid_at c.bytes in
    if nat_lt channels 1 || nat_lt 8 channels then Err (BadFmt (c.at + 10))
    else (if rate == 0 then Err (BadFmt (c.at + 12))
    else samples_at c channels rate bits valid (format_of bits valid))

-- the tag of a plain or of an extensible body
abbrev pub is_known_tag : ℕ → Bool
is_known_tag tag = tag == 1 || tag == 65534

-- a body with this tag may have this size
abbrev pub has_size : ℕ → ℕ → Bool
has_size tag size = if tag == 65534 then size == 40 else (size == 16 || size == 18)

abbrev pub has_pcm_subtype : List ℕ → Bool
has_pcm_subtype bytes = starts_with nat_eq (drop 32 bytes) pcm_subtype

-- an extensible chunk has another subtype than that of PCM
abbrev pub has_other_subtype : List ℕ → Bool
has_other_subtype bytes = tag_at bytes == 65534 && not (has_pcm_subtype bytes)

-- what a "fmt " chunk says, or the first thing that is wrong with it
unfoldable pub format_at : Place → Result Layout WavError
format_at c =
    let size = size_at c.bytes in
    let tag = tag_at c.bytes in
    if nat_lt size 16 then Err (BadFmt (c.at + 4))
    else (if nat_lt (length c.bytes) (8 + size) then Err (BadFmt c.at)
    else (if not (is_known_tag tag) then Err (NotPcm tag)
    else (if not (has_size tag size) then Err (BadFmt (c.at + 4))
    else (if has_other_subtype c.bytes then Err (NotPcm (number_at 2 32 c.bytes))
    else fields_at c))))

-- the recording whose frames stand so in the file
abbrev pub recording_of : Layout → List ℕ → Recording
recording_of l bytes = record { format = l.format; channels = l.channels; rate = l.rate; frames = frames_from l.format bytes }

-- the recording of a format whose "data" chunk is the first of these
abbrev pub with_data : Result Layout WavError → List Place → Result Recording WavError
with_data (Err e) chunks = Err e
with_data (Ok l) [] = Err NoData
with_data (Ok l) (d ∷ ds) =
    Ok (recording_of l (whole_frames (frame_bytes l.format l.channels) (body_at d.bytes)))

abbrev pub from_format : List Place → Result Recording WavError
from_format [] = Err NoFmt
from_format (c ∷ cs) = if is_data c.bytes then Err NoFmt else with_data (format_at c) (from_first is_data (c ∷ cs))

-- what these chunks hold, or the first refusal
abbrev pub told : List Place → Result Recording WavError
told chunks = from_format (from_first is_format_or_data chunks)

-- the bytes are refused so
abbrev pub WavFault : List ℕ → WavError → Type 0
WavFault bytes e = MatchBool (is_riff bytes) ((chunks : List Place) × AreChunks (after_riff bytes) chunks × (told chunks ≡ Err e)) (e ≡ NotRiff)

-- a reader of the bytes answers so, if it has the memory
abbrev pub Answers : List ℕ → Result Recording WavError → Type 0
Answers bytes r = MatchBool (is_riff bytes) ((chunks : List Place) → AreChunks (after_riff bytes) chunks → told chunks ≡ r) (Err NotRiff ≡ r)
