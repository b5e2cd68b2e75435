-- What `run` does with a line: the transcript, and the files that are stored. This project's own.
use Rattle.std.specs.Prelude.{◌≡◌, ◌⊎◌, ◌≤◌, ⊤, length, nat_eq, ℕ, Bool, true, false, not, ◌&&◌, ◌||◌, ◌==◌, List, [], ◌++◌, min, ◌-◌, ◌^◌, if◌then◌else◌}
use Rattle.std.specs.List.{flat_map, range_with_len}
use Rattle.std.specs.FinMap.{get, insert}
use Rattle.std.specs.declared.option.Option.{Option}
use Rattle.std.specs.declared.option.Option.TheVariants.{Some, None}
use Rattle.pcm_base.specs.declared.config.Config.{Config}
use Rattle.pcm_base.specs.declared.format.Format.{Format}
use Rattle.pcm_base.specs.declared.format.Format.TheVariants as format
use Rattle.pcm_base.specs.declared.call.Call.TheVariants.{Give}
use Rattle.pcm_base.specs.declared.call.Event.{Event as CoreEvent}
use Rattle.pcm_base.specs.declared.ids.SubId.{SubId}
use Rattle.pcm_base.specs.declared.reply.Reply.TheVariants as reply
use Rattle.pcm_base.specs.declared.state.Errno.{Errno}
use Rattle.pcm_base.specs.declared.state.Errno.TheVariants as errno
use Rattle.pcm_base.specs.model.Events.{page}
use Rattle.pcm_base.specs.model.Frame.{bytes_of}
use Rattle.pcm_base.specs.Numbers.{format_number}
use Rattle.pcm_base.specs.model.Stream.{Stream, is_bare}
use Rattle.pcm_base.specs.model.Words.{when, ◌then◌, is_playback, is_closed}
use Rattle.pcm_base.specs.model.World.{World, Told, set_long, declare, is_declared, state_in, stays, step, stream_in}
use Rattle.pcm_io.specs.Shelf.{Files}
use Rattle.pcm_line.specs.declared.line.Line.{Line}
use Rattle.pcm_line.specs.declared.line.Line.TheVariants.{LongMax, Card, Event, Feed, Save, Version, Carry}
use Rattle.pcm_text.specs.End.{end_line}
use Rattle.pcm_text.specs.Told.{told_line}
use Rattle.card_emul.specs.Limits.{limits_of}
use Rattle.loop_card.specs.Rest.{rest_of}
use Rattle.wav_file.specs.Grammar.{IsWav, wav_bytes}
use Rattle.wav_file.specs.Recordings.{Recording}
use Rattle.pcm_world.specs.Shown.{is_frames, is_movement, reads, shown}
use Rattle.pcm_top.specs.Session.{Session}

-- the lines of `run` that are built
abbrev pub is_built : Line → Bool
is_built (LongMax n) = true
is_built (Card k model dir) = true
is_built (Event e bytes) = true
is_built (Feed k name) = true
is_built (Save k name) = true
is_built (Carry k j) = true
is_built _ = false

-- so is the line in the place of this number: version 1 or 2 may stand as line 1
abbrev pub is_built_at : ℕ → Line → Bool
is_built_at number (Version n) = number == 1 && (n == 1 || n == 2)
is_built_at number line = is_built line

-- the client's event reads or loads, in the world before its step
abbrev pub reads_by : CoreEvent → World → Bool
reads_by e w = elim e.client [ Some c ↦ reads e.call c w | None ↦ false ]

-- the card of a playback substream moves, in the world after its step
abbrev pub takes_by : CoreEvent → World → Bool
takes_by e w = is_movement e.call && is_playback (stream_in e.sub w).dir

-- the bytes that stand in the line of a step from this world: all that a read or a load has read where it is answered with frames, and what a playback card took
abbrev pub bytes_shown : CoreEvent → World → Told → Option (List ℕ)
bytes_shown e w t = if (reads_by e w && is_frames t.reply) || takes_by e t.world then Some t.bytes else None

-- the line of this number tells a step
abbrev pub tells : ℕ → Told → Option (List ℕ) → Session → Session
tells number t bytes s = record s { world = t.world; text = s.text ++ told_line number (shown t) bytes }

-- the formats that a WAV file has
abbrev pub is_wav_format : Format → Bool
is_wav_format format.U8 = true
is_wav_format format.S16Le = true
is_wav_format format.S24Le = true
is_wav_format format.S24Le3 = true
is_wav_format format.S32Le = true
is_wav_format _ = false

abbrev pub has_wav_format : Option Config → Bool
has_wav_format None = false
has_wav_format (Some c) = is_wav_format c.format

-- why what a card took is not stored
abbrev pub save_refusal : SubId → World → Option Errno
save_refusal k w =
    when (is_closed (state_in k w)) errno.Enxio
    then when (not (is_playback (stream_in k w).dir && has_wav_format (stream_in k w).setup.config)) errno.Einval

-- the WAV file of what the card took
abbrev pub file_by : Option Config → List ℕ → List ℕ
file_by None bytes = []
file_by (Some c) bytes = wav_bytes (record { format = c.format; channels = c.channels; rate = c.rate; frames = bytes })

abbrev pub saved_file : Stream → List ℕ
saved_file s = file_by s.setup.config (bytes_of s.card.taken)

-- the files with these bytes under the name
abbrev pub stored : List ℕ → List ℕ → Option Files → Option Files
stored name bytes None = None
stored name bytes (Some files) = Some (insert files name bytes)

-- the answer of a save, which leaves the world
abbrev pub save_answer : SubId → World → Told
save_answer k w = elim (save_refusal k w) [
  | Some e ↦ stays (reply.Err e) (Some (state_in k w)) w
  | None ↦ stays reply.Ok (Some (state_in k w)) w
]

abbrev pub files_saved : SubId → List ℕ → World → Option Files → Option Files
files_saved k name w files = elim (save_refusal k w) [ Some e ↦ files | None ↦ stored name (saved_file (stream_in k w)) files ]

-- what is given to a card
abbrev pub giving : SubId → CoreEvent
giving k = record { client = None; sub = k; call = Give }

-- why nothing is fed to a card, before the file is looked at
abbrev pub feed_refusal : SubId → World → Option Errno
feed_refusal k w =
    when (is_closed (state_in k w)) errno.Enxio
    then when (is_playback (stream_in k w).dir || is_bare (stream_in k w)) errno.Einval

-- the recording has the format, the channels and the rate of the configuration
abbrev pub fits_config : Recording → Option Config → Bool
fits_config r None = false
fits_config r (Some c) = nat_eq (format_number r.format) (format_number c.format) && (nat_eq r.channels c.channels && nat_eq r.rate c.rate)

-- the answer of a feed of this recording, whose frames the card is then given
abbrev pub feed_answer : SubId → Recording → World → Told
feed_answer k r w =
    if fits_config r (stream_in k w).setup.config then step w (giving k) r.frames
    else stays (reply.Err errno.Einval) (Some (state_in k w)) w

-- what the shelf has under the name, where it tells its files
abbrev pub Finds : Option Files → List ℕ → Option (List ℕ) → Type 0
Finds None name found = ⊤
Finds (Some files) name found = found ≡ get files name

-- the most bytes of a WAV file
abbrev pub wav_limit : ℕ
wav_limit = 68157440

-- the file under the name is a WAV file of the recording, and not too long
pub record IsLoaded (files : Option Files) (name : List ℕ) (r : Recording) : Type 0 where
  pub bytes : List ℕ
  pub found : Finds files name (Some bytes)
  pub few : length bytes ≤ wav_limit
  pub says : IsWav bytes r

-- a feed is refused, or the recording of its file is looked at
abbrev pub Feeds : ℕ → SubId → List ℕ → Session → Session → Type 0
Feeds number k name s t =
    ((e : Errno) × (feed_refusal k s.world ≡ Some e) × (t ≡ tells number (stays (reply.Err e) (Some (state_in k s.world)) s.world) None s))
    ⊎ ((feed_refusal k s.world ≡ None) × (r : Recording) × IsLoaded s.files name r × (t ≡ tells number (feed_answer k r s.world) None s))

-- why what the first card took is not carried to the second
abbrev pub carries : Stream → Stream → Bool
carries a b = is_playback a.dir && not (is_playback b.dir) && not (is_bare a) && not (is_bare b) && nat_eq a.setup.frame_bytes b.setup.frame_bytes

abbrev pub carry_refusal : SubId → SubId → World → Option Errno
carry_refusal k j w =
    when (is_closed (state_in k w) || is_closed (state_in j w)) errno.Enxio
    then when (not (carries (stream_in k w) (stream_in j w))) errno.Einval

-- what the first card took, without as many frames as the second has moved
abbrev pub carried : Stream → Stream → List ℕ
carried a b = rest_of (bytes_of a.card.taken) a.setup.frame_bytes b.moved

-- the answer of a carry, which shows the state of the first substream
abbrev pub shows_state : SubId → Told → Told
shows_state k t = record t { state = Some (state_in k t.world) }

abbrev pub carry_answer : SubId → SubId → World → Told
carry_answer k j w = elim (carry_refusal k j w) [
  | Some e ↦ stays (reply.Err e) (Some (state_in k w)) w
  | None ↦ shows_state k (step w (giving j) (carried (stream_in k w) (stream_in j w)))
]

-- what the line of this number leads to, but for a feed
abbrev pub run_line : ℕ → Line → Session → Session
run_line number (LongMax n) s = tells number (set_long n s.world) None s
run_line number (Card k model dir) s = tells number (declare k (limits_of model) dir s.world) None s
run_line number (Event e bytes) s = let t = step s.world e bytes in tells number t (bytes_shown e s.world t) s
run_line number (Save k name) s = tells number (save_answer k s.world) None (record s { files = files_saved k name s.world s.files })
run_line number (Carry k j) s = tells number (carry_answer k j s.world) None s
run_line number (Version n) s = tells number (stays reply.Ok None s.world) None (record s { version = n })
run_line number _ s = s

-- what the line of this number leads to
abbrev pub LineLeads : ℕ → Line → Session → Session → Type 0
LineLeads number (Feed k name) s t = Feeds number k name s t
LineLeads number line s t = t ≡ run_line number line s

-- the lines after the last line, one for each declared substream
abbrev pub end_line_of : World → ℕ → List ℕ
end_line_of w j =
    let k : SubId = record { 0 = j } in
    if is_declared k w then end_line k (page (stream_in k w)) (min (stream_in k w).moved (2 ^ 64 - 1)) else []

abbrev pub end_lines : World → List ℕ
end_lines w = flat_map (end_line_of w) (range_with_len 0 16)
