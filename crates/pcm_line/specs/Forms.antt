-- The forms: for each keyword the kinds of the pieces after it, and the line that they mean. This project's own.
use Rattle.std.specs.Prelude.{ℕ, List, [], ◌∷◌}
use Rattle.std.specs.declared.option.Option.TheVariants.{Some, None}
use Rattle.pcm_base.specs.declared.ids.ClientId.{ClientId}
use Rattle.pcm_base.specs.declared.ids.SubId.{SubId}
use Rattle.pcm_base.specs.declared.call.Call.{Call}
use Rattle.pcm_base.specs.declared.call.Call.TheVariants.{OpenSub, CloseSub, HwParams, HwFree, SwParams, Prepare, Start, DropNow, Drain, PausePush, PauseRelease, Suspend, Resume, Xrun, Write, Read, Rewind, Forward, Hwsync, Delay, SyncPtr, Status, PageNow, Poll, Map, Unmap, Store, Load, Link, Unlink, Go, MoveBy, Irq, FailAt, Give, Unplug}
use Rattle.pcm_base.specs.declared.call.Layout.{Layout}
use Rattle.pcm_base.specs.declared.call.Layout.TheVariants.{Interleaved, Planar}
use Rattle.pcm_line.specs.declared.keyword.Keyword.{Keyword}
use Rattle.pcm_line.specs.declared.keyword.Keyword.TheVariants as keyword
use Rattle.pcm_line.specs.declared.line.Line.{Line}
use Rattle.pcm_line.specs.declared.line.Line.TheVariants.{LongMax, Card, Event, Feed, Save, Space, Beat, Threads, Join, Version, Carry, Wire}
use Rattle.pcm_line.specs.Kinds.{Kind, OfNumber, OfClient, OfSub, OfMode, OfDir, OfModel, OfAccess, OfFormat, OfHex, OfName, Value}

-- one value of each of these kinds
abbrev pub Values : List Kind → Type 0
Values [] = Unit {0}
Values (k ∷ kinds) = Value k × Values kinds

pub record Form : Type 0 where
  pub kinds : List Kind
  pub means : Values kinds → Line

-- a client's call, with the bytes that stand beside it
abbrev pub of_client : ClientId → SubId → Call → List ℕ → Line
of_client c s call bytes = Event (record { client = Some c; sub = s; call = call }) bytes

-- an event of the card
abbrev pub of_card : SubId → Call → List ℕ → Line
of_card s call bytes = Event (record { client = None; sub = s; call = call }) bytes

-- client sub
abbrev pub plain_form : Call → Form
plain_form call = record { kinds = OfClient ∷ OfSub ∷ []; means = λ v. of_client v.0 v.1.0 call [] }

-- client sub number
abbrev pub counted_form : (ℕ → Call) → Form
counted_form call = record { kinds = OfClient ∷ OfSub ∷ OfNumber ∷ []; means = λ v. of_client v.0 v.1.0 (call v.1.1.0) [] }

abbrev pub write_form : Layout → Form
write_form layout = record { kinds = OfClient ∷ OfSub ∷ OfMode ∷ OfHex ∷ []; means = λ v. of_client v.0 v.1.0 (Write layout v.1.1.0) v.1.1.1.0 }

abbrev pub read_form : Layout → Form
read_form layout = record { kinds = OfClient ∷ OfSub ∷ OfMode ∷ OfNumber ∷ []; means = λ v. of_client v.0 v.1.0 (Read layout v.1.1.0 v.1.1.1.0) [] }

-- offset, frames
abbrev pub store_form : Form
store_form = record { kinds = OfClient ∷ OfSub ∷ OfNumber ∷ OfHex ∷ []; means = λ v. of_client v.0 v.1.0 (Store v.1.1.0) v.1.1.1.0 }

-- offset, count of frames
abbrev pub load_form : Form
load_form = record { kinds = OfClient ∷ OfSub ∷ OfNumber ∷ OfNumber ∷ []; means = λ v. of_client v.0 v.1.0 (Load v.1.1.0 v.1.1.1.0) [] }

abbrev pub drain_form : Form
drain_form = record { kinds = OfClient ∷ OfSub ∷ OfMode ∷ []; means = λ v. of_client v.0 v.1.0 (Drain v.1.1.0) [] }

abbrev pub link_form : Form
link_form = record { kinds = OfClient ∷ OfSub ∷ OfSub ∷ []; means = λ v. of_client v.0 v.1.0 (Link v.1.1.0) [] }

-- a go names no substream: it stands as s0
abbrev pub go_form : Form
go_form = record { kinds = OfClient ∷ []; means = λ v. of_client v.0 (record { 0 = 0 }) Go [] }

-- channels, rate, period, periods
abbrev pub hw_form : Form
hw_form = record {
  kinds = OfClient ∷ OfSub ∷ OfAccess ∷ OfFormat ∷ OfNumber ∷ OfNumber ∷ OfNumber ∷ OfNumber ∷ [];
  means = λ v. of_client v.0 v.1.0 (HwParams (record {
    access = v.1.1.0;
    format = v.1.1.1.0;
    channels = v.1.1.1.1.0;
    rate = v.1.1.1.1.1.0;
    period = v.1.1.1.1.1.1.0;
    periods = v.1.1.1.1.1.1.1.0;
  })) [];
}

abbrev pub sw_form : Form
sw_form = record {
  kinds = OfClient ∷ OfSub ∷ OfNumber ∷ OfNumber ∷ OfNumber ∷ OfNumber ∷ OfNumber ∷ [];
  means = λ v. of_client v.0 v.1.0 (SwParams (record {
    avail_min = v.1.1.0;
    start_threshold = v.1.1.1.0;
    stop_threshold = v.1.1.1.1.0;
    silence_threshold = v.1.1.1.1.1.0;
    silence_size = v.1.1.1.1.1.1.0;
  })) [];
}

abbrev pub move_form : Form
move_form = record { kinds = OfSub ∷ OfNumber ∷ []; means = λ v. of_card v.0 (MoveBy v.1.0) [] }

abbrev pub irq_form : Form
irq_form = record { kinds = OfSub ∷ []; means = λ v. of_card v.0 Irq [] }

abbrev pub unplug_form : Form
unplug_form = record { kinds = OfSub ∷ []; means = λ v. of_card v.0 Unplug [] }

abbrev pub fail_form : Form
fail_form = record { kinds = OfSub ∷ OfNumber ∷ []; means = λ v. of_card v.0 (FailAt v.1.0) [] }

abbrev pub give_form : Form
give_form = record { kinds = OfSub ∷ OfHex ∷ []; means = λ v. of_card v.0 Give v.1.0 }

abbrev pub long_form : Form
long_form = record { kinds = OfNumber ∷ []; means = λ v. LongMax v.0 }

abbrev pub card_form : Form
card_form = record { kinds = OfSub ∷ OfModel ∷ OfDir ∷ []; means = λ v. Card v.0 v.1.0 v.1.1.0 }

abbrev pub feed_form : Form
feed_form = record { kinds = OfSub ∷ OfName ∷ []; means = λ v. Feed v.0 v.1.0 }

abbrev pub save_form : Form
save_form = record { kinds = OfSub ∷ OfName ∷ []; means = λ v. Save v.0 v.1.0 }

-- the two masks, then the least and the greatest of each span
abbrev pub space_form : Form
space_form = record {
  kinds = OfModel ∷ OfNumber ∷ OfNumber ∷ OfNumber ∷ OfNumber ∷ OfNumber ∷ OfNumber ∷ OfNumber ∷ OfNumber ∷ OfNumber ∷ OfNumber ∷ OfNumber ∷ OfNumber ∷ [];
  means = λ v. Space v.0 (record {
    accesses = v.1.0;
    formats = v.1.1.0;
    channels = record { least = v.1.1.1.0; most = v.1.1.1.1.0 };
    rate = record { least = v.1.1.1.1.1.0; most = v.1.1.1.1.1.1.0 };
    period = record { least = v.1.1.1.1.1.1.1.0; most = v.1.1.1.1.1.1.1.1.0 };
    periods = record { least = v.1.1.1.1.1.1.1.1.1.0; most = v.1.1.1.1.1.1.1.1.1.1.0 };
    buffer = record { least = v.1.1.1.1.1.1.1.1.1.1.1.0; most = v.1.1.1.1.1.1.1.1.1.1.1.1.0 };
  });
}

-- frames of a beat, count of beats
abbrev pub beat_form : Form
beat_form = record { kinds = OfSub ∷ OfNumber ∷ OfNumber ∷ []; means = λ v. Beat v.0 v.1.0 v.1.1.0 }

abbrev pub threads_form : Form
threads_form = record { kinds = []; means = λ v. Threads }

abbrev pub join_form : Form
join_form = record { kinds = []; means = λ v. Join }

-- the version of the script's language
abbrev pub version_form : Form
version_form = record { kinds = OfNumber ∷ []; means = λ v. Version v.0 }

-- from a playback card to a capture card
abbrev pub carry_form : Form
carry_form = record { kinds = OfSub ∷ OfSub ∷ []; means = λ v. Carry v.0 v.1.0 }

abbrev pub wire_form : Form
wire_form = record { kinds = OfSub ∷ OfSub ∷ []; means = λ v. Wire v.0 v.1.0 }

abbrev pub form_of : Keyword → Form
form_of keyword.Writei = write_form Interleaved
form_of keyword.Move = move_form
form_of keyword.Irq = irq_form
form_of keyword.Status = plain_form Status
form_of keyword.Readi = read_form Interleaved
form_of keyword.Writen = write_form Planar
form_of keyword.Readn = read_form Planar
form_of keyword.Store = store_form
form_of keyword.Load = load_form
form_of keyword.Rewind = counted_form (λ n. Rewind n)
form_of keyword.Forward = counted_form (λ n. Forward n)
form_of keyword.Sync = counted_form (λ n. SyncPtr n)
form_of keyword.Hwsync = plain_form Hwsync
form_of keyword.Delay = plain_form Delay
form_of keyword.Page = plain_form PageNow
form_of keyword.Poll = plain_form Poll
form_of keyword.Prepare = plain_form Prepare
form_of keyword.Start = plain_form Start
form_of keyword.Drop = plain_form DropNow
form_of keyword.Drain = drain_form
form_of keyword.Xrun = plain_form Xrun
form_of keyword.Pause = plain_form PausePush
form_of keyword.Release = plain_form PauseRelease
form_of keyword.Suspend = plain_form Suspend
form_of keyword.Resume = plain_form Resume
form_of keyword.Go = go_form
form_of keyword.Link = link_form
form_of keyword.Unlink = plain_form Unlink
form_of keyword.Mmap = plain_form Map
form_of keyword.Munmap = plain_form Unmap
form_of keyword.Open = plain_form OpenSub
form_of keyword.Close = plain_form CloseSub
form_of keyword.Hw = hw_form
form_of keyword.Hwfree = plain_form HwFree
form_of keyword.Sw = sw_form
form_of keyword.Long = long_form
form_of keyword.Card = card_form
form_of keyword.Fail = fail_form
form_of keyword.Unplug = unplug_form
form_of keyword.Give = give_form
form_of keyword.Feed = feed_form
form_of keyword.Save = save_form
form_of keyword.Space = space_form
form_of keyword.Beat = beat_form
form_of keyword.Threads = threads_form
form_of keyword.Join = join_form
form_of keyword.Version = version_form
form_of keyword.Carry = carry_form
form_of keyword.Wire = wire_form
