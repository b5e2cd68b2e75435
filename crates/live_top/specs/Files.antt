-- The files that a run loads and stores. This project's own.
use Rattle.std.specs.Prelude.{◌≡◌, ◌⊎◌, ◌≤◌, ◌<◌, ◌+◌, ◌^◌, ⊤, ℕ, Bool, true, false, not, ◌&&◌, nat_eq, List, [], ◌∷◌, length, take, drop, if◌then◌else◌}
use Rattle.std.specs.FinMap.{get, insert}
use Rattle.std.specs.declared.option.Option.{Option}
use Rattle.std.specs.declared.option.Option.TheVariants.{Some, None}
use Rattle.pcm_base.specs.declared.config.Config.{Config}
use Rattle.pcm_base.specs.declared.format.Format.{Format}
use Rattle.pcm_base.specs.declared.format.Format.TheVariants as format
use Rattle.pcm_base.specs.Numbers.{format_number}
use Rattle.pcm_base.specs.model.Frame.{bytes_of}
use Rattle.pcm_base.specs.model.Stream.{Stream}
use Rattle.pcm_base.specs.model.Words.{is_closed, is_playback}
use Rattle.pcm_io.specs.Shelf.{Files, OthersStay, Stay}
use Rattle.pcm_line.specs.declared.line.Line.{Line}
use Rattle.pcm_line.specs.declared.line.Line.TheVariants.{Save}
use Rattle.pcm_text.specs.declared.status.Status.{Status}
use Rattle.pcm_text.specs.declared.status.Status.TheVariants as status
use Rattle.pcm_text.specs.declared.status.Which.TheVariants as which
use Rattle.wav_file.specs.Grammar.{IsWav, wav_bytes}
use Rattle.wav_file.specs.Faults.{WavFault}
use Rattle.wav_file.specs.Recordings.{Recording}

-- the most bytes of a WAV file
abbrev pub wav_limit : ℕ
wav_limit = 68157440

-- what the shelf has under the name, where it tells its files
abbrev pub Finds : Option Files → List ℕ → Option (List ℕ) → Type 0
Finds None name found = ⊤
Finds (Some files) name found = found ≡ get files name

-- the file under the name is a WAV file of the recording, and not too long
pub record IsLoaded (files : Option Files) (name : List ℕ) (r : Recording) : Type 0 where
  pub bytes : List ℕ
  pub found : Finds files name (Some bytes)
  pub few : length bytes ≤ wav_limit
  pub says : IsWav bytes r

-- how a run ends that finds this under the name of a file that it loads: nothing, a file that is too long, or one that is no WAV file
abbrev pub IsFileEnd : List ℕ → Option (List ℕ) → Status → Type 0
IsFileEnd name None (status.Missing named) = named ≡ name
IsFileEnd name (Some bytes) (status.Limit which.WavBytes value) = (wav_limit < length bytes) × (value ≡ wav_limit + 1)
IsFileEnd name (Some bytes) (status.BadWav named fault) = (named ≡ name) × (length bytes ≤ wav_limit) × WavFault bytes fault
IsFileEnd name found _ = ⊥

-- it ends so where these bytes are found, or for want of memory
abbrev pub IsBytesEnd : List ℕ → List ℕ → Status → Type 0
IsBytesEnd name bytes status.Memory = ⊤
IsBytesEnd name bytes s = IsFileEnd name (Some bytes) s

-- it ends by what it finds, by a fault of the shelf, or for want of memory
abbrev pub IsLoadEnd : Option Files → List ℕ → Status → Type 0
IsLoadEnd files name status.ShelfFault = ⊤
IsLoadEnd files name status.Memory = ⊤
IsLoadEnd files name s = (found : Option (List ℕ)) × Finds files name found × IsFileEnd name found s

-- the recording has the format, the channels and the rate of the configuration
abbrev pub is_of_config : Recording → Config → Bool
is_of_config r c = nat_eq (format_number r.format) (format_number c.format) && (nat_eq r.channels c.channels && nat_eq r.rate c.rate)

-- the formats that a WAV file has
abbrev pub is_wav_format : Format → Bool
is_wav_format format.U8 = true
is_wav_format format.S16Le = true
is_wav_format format.S24Le = true
is_wav_format format.S24Le3 = true
is_wav_format format.S32Le = true
is_wav_format _ = false

-- a WAV file can have the channels and the rate
pub record HasWavNumbers (c : Config) : Type 0 where
  pub least : 1 ≤ c.channels
  pub most : c.channels ≤ 8
  pub some_rate : 1 ≤ c.rate
  pub rate : c.rate < 2 ^ 32

-- the WAV file of frames of a configuration, where there is one of such a format
abbrev pub file_by : Option Config → List ℕ → Option (List ℕ)
file_by None bytes = None
file_by (Some c) bytes = if is_wav_format c.format then Some (wav_bytes (record { format = c.format; channels = c.channels; rate = c.rate; frames = bytes })) else None

abbrev pub takes : Stream → Bool
takes s = not (is_closed s.state) && is_playback s.dir

-- the WAV file of what the card took; none where the substream is closed, on capture, and without a configuration of such a format
abbrev pub file_of : Stream → Option (List ℕ)
file_of s = if takes s then file_by s.setup.config (bytes_of s.card.taken) else None

-- the files with this one under the name, where there is one
abbrev pub with_file : List ℕ → Option (List ℕ) → Option Files → Option Files
with_file name (Some file) (Some files) = Some (insert files name file)
with_file name _ files = files

-- the files that the saves leave, one after another, each of what the card of its substream took
abbrev pub saved : (ℕ → Stream) → List Line → Option Files → Option Files
saved streams [] files = files
saved streams (Save k name ∷ lines) files = saved streams lines (with_file name (file_of (streams k.0)) files)
saved streams (line ∷ lines) files = saved streams lines files

-- how saves end that are not all made: a store failed, or there was no memory
abbrev pub IsSaveEnd : Status → Type 0
IsSaveEnd s = (s ≡ status.ShelfFault) ⊎ (s ≡ status.Memory)

-- where saves end so before the first of these lines, the files stay, but for the one whose store failed
abbrev pub AreLeft : List Line → Status → Option Files → Option Files → Type 0
AreLeft (Save k name ∷ lines) status.ShelfFault files files_now = OthersStay files files_now name
AreLeft lines s files files_now = Stay files files_now

-- the files are those that the first of the saves leave, but for the next one's where its store failed
pub record IsSavedUpTo (streams : ℕ → Stream) (lines : List Line) (files files_now : Option Files) (s : Status) : Type 0 where
  pub count : ℕ
  pub within : count < length lines
  pub left : AreLeft (drop count lines) s (saved streams (take count lines) files) files_now
