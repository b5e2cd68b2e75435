-- The one spelling of a line, by cases on the line.
use Rattle.std.specs.Prelude.{ℕ, List, [], ◌∷◌, ◌++◌, codes}
use Rattle.std.specs.declared.option.Option.{Option}
use Rattle.std.specs.declared.option.Option.TheVariants.{Some, None}
use Rattle.pcm_base.specs.declared.ids.ClientId.{ClientId}
use Rattle.pcm_base.specs.declared.ids.SubId.{SubId}
use Rattle.pcm_base.specs.declared.config.Config.{Config}
use Rattle.pcm_base.specs.declared.config.SwParams.{SwParams as Software}
use Rattle.pcm_base.specs.declared.config.Space.{Space as ConfigSpace}
use Rattle.pcm_base.specs.declared.call.Layout.{Layout}
use Rattle.pcm_base.specs.declared.call.Layout.TheVariants.{Interleaved, Planar}
use Rattle.pcm_base.specs.declared.call.Call.{Call}
use Rattle.pcm_base.specs.declared.call.Event.{Event as CoreEvent}
use Rattle.pcm_base.specs.declared.call.Call.TheVariants.{OpenSub, CloseSub, HwParams, HwFree, SwParams, Prepare, Start, DropNow, Drain, PausePush, PauseRelease, Suspend, Resume, Xrun, Write, Read, Rewind, Forward, Hwsync, Delay, SyncPtr, Status, PageNow, Poll, Map, Unmap, Store, Load, Link, Unlink, Go, MoveBy, Irq, FailAt, Give, Unplug}
use Rattle.pcm_line.specs.declared.line.Line.{Line}
use Rattle.pcm_line.specs.declared.line.Line.TheVariants.{LongMax, Card, Event, Feed, Save, Space, Beat, Threads, Join, Version, Carry, Wire}
use Rattle.pcm_line.specs.Kinds.{OfNumber, OfClient, OfSub, OfMode, OfDir, OfModel, OfAccess, OfFormat, OfHex, OfName, spelled}
use Rattle.pcm_line.specs.Pieces.{joined}

abbrev pub write_word : Layout → List ℕ
write_word Interleaved = codes "writei"
write_word Planar = codes "writen"

abbrev pub read_word : Layout → List ℕ
read_word Interleaved = codes "readi"
read_word Planar = codes "readn"

abbrev pub call_word : Call → List ℕ
call_word Status = codes "status"
call_word Hwsync = codes "hwsync"
call_word Delay = codes "delay"
call_word PageNow = codes "page"
call_word Poll = codes "poll"
call_word Prepare = codes "prepare"
call_word Start = codes "start"
call_word DropNow = codes "drop"
call_word Xrun = codes "xrun"
call_word PausePush = codes "pause"
call_word PauseRelease = codes "release"
call_word Suspend = codes "suspend"
call_word Resume = codes "resume"
call_word Unlink = codes "unlink"
call_word Map = codes "mmap"
call_word Unmap = codes "munmap"
call_word OpenSub = codes "open"
call_word CloseSub = codes "close"
call_word HwFree = codes "hwfree"
call_word (Rewind n) = codes "rewind"
call_word (Forward n) = codes "forward"
call_word (SyncPtr n) = codes "sync"
call_word (HwParams p) = codes "hw"
call_word (SwParams p) = codes "sw"
call_word (Drain mode) = codes "drain"
call_word (Write layout mode) = write_word layout
call_word (Read layout mode n) = read_word layout
call_word (Store n) = codes "store"
call_word (Load n m) = codes "load"
call_word (Link other) = codes "link"
call_word Go = codes "go"
call_word (MoveBy n) = codes "move"
call_word Irq = codes "irq"
call_word (FailAt n) = codes "fail"
call_word Give = codes "give"
call_word Unplug = codes "unplug"

abbrev pub config_texts : Config → List (List ℕ)
config_texts p = spelled OfAccess p.access ∷ spelled OfFormat p.format ∷ spelled OfNumber p.channels ∷ spelled OfNumber p.rate ∷ spelled OfNumber p.period ∷ spelled OfNumber p.periods ∷ []

abbrev pub software_texts : Software → List (List ℕ)
software_texts p = spelled OfNumber p.avail_min ∷ spelled OfNumber p.start_threshold ∷ spelled OfNumber p.stop_threshold ∷ spelled OfNumber p.silence_threshold ∷ spelled OfNumber p.silence_size ∷ []

-- the pieces after client and substream
abbrev pub call_texts : Call → List ℕ → List (List ℕ)
call_texts (HwParams p) bytes = config_texts p
call_texts (SwParams p) bytes = software_texts p
call_texts (Drain mode) bytes = spelled OfMode mode ∷ []
call_texts (Write layout mode) bytes = spelled OfMode mode ∷ spelled OfHex bytes ∷ []
call_texts (Read layout mode n) bytes = spelled OfMode mode ∷ spelled OfNumber n ∷ []
call_texts (Rewind n) bytes = spelled OfNumber n ∷ []
call_texts (Forward n) bytes = spelled OfNumber n ∷ []
call_texts (SyncPtr n) bytes = spelled OfNumber n ∷ []
call_texts (Store n) bytes = spelled OfNumber n ∷ spelled OfHex bytes ∷ []
call_texts (Load n m) bytes = spelled OfNumber n ∷ spelled OfNumber m ∷ []
call_texts (Link other) bytes = spelled OfSub other ∷ []
call_texts (MoveBy n) bytes = spelled OfNumber n ∷ []
call_texts (FailAt n) bytes = spelled OfNumber n ∷ []
call_texts Give bytes = spelled OfHex bytes ∷ []
call_texts _ bytes = []

abbrev pub client_texts : Option ClientId → List (List ℕ)
client_texts None = []
client_texts (Some c) = spelled OfClient c ∷ []

-- a go names no substream
abbrev pub sub_texts : Call → SubId → List (List ℕ)
sub_texts Go s = []
sub_texts _ s = spelled OfSub s ∷ []

abbrev pub event_texts : CoreEvent → List ℕ → List (List ℕ)
event_texts e bytes = client_texts e.client ++ (sub_texts e.call e.sub ++ call_texts e.call bytes)

abbrev pub space_texts : ConfigSpace → List (List ℕ)
space_texts p = spelled OfNumber p.accesses ∷ spelled OfNumber p.formats ∷ spelled OfNumber p.channels.least ∷ spelled OfNumber p.channels.most ∷ spelled OfNumber p.rate.least ∷ spelled OfNumber p.rate.most ∷ spelled OfNumber p.period.least ∷ spelled OfNumber p.period.most ∷ spelled OfNumber p.periods.least ∷ spelled OfNumber p.periods.most ∷ spelled OfNumber p.buffer.least ∷ spelled OfNumber p.buffer.most ∷ []

abbrev pub line_word : Line → List ℕ
line_word (LongMax n) = codes "long"
line_word (Card s m d) = codes "card"
line_word (Event e bytes) = call_word e.call
line_word (Feed s n) = codes "feed"
line_word (Save s n) = codes "save"
line_word (Space m p) = codes "space"
line_word (Beat s n m) = codes "beat"
line_word Threads = codes "threads"
line_word Join = codes "join"
line_word (Version n) = codes "version"
line_word (Carry from to) = codes "carry"
line_word (Wire from to) = codes "wire"

abbrev pub line_texts : Line → List (List ℕ)
line_texts (LongMax n) = spelled OfNumber n ∷ []
line_texts (Card s m d) = spelled OfSub s ∷ spelled OfModel m ∷ spelled OfDir d ∷ []
line_texts (Event e bytes) = event_texts e bytes
line_texts (Feed s n) = spelled OfSub s ∷ spelled OfName n ∷ []
line_texts (Save s n) = spelled OfSub s ∷ spelled OfName n ∷ []
line_texts (Space m p) = spelled OfModel m ∷ space_texts p
line_texts (Beat s n m) = spelled OfSub s ∷ spelled OfNumber n ∷ spelled OfNumber m ∷ []
line_texts Threads = []
line_texts Join = []
line_texts (Version n) = spelled OfNumber n ∷ []
line_texts (Carry from to) = spelled OfSub from ∷ spelled OfSub to ∷ []
line_texts (Wire from to) = spelled OfSub from ∷ spelled OfSub to ∷ []

abbrev pub spelling : Line → List ℕ
spelling line = joined (line_word line) (line_texts line)
