-- The lines that have a spelling, in words. This project's own.
use Rattle.std.specs.Prelude.{◌≡◌, ℕ, ◌<◌, ◌^◌, Bool, true, false, List, []}
use Rattle.std.specs.List.{AllByRecursion}
use Rattle.std.specs.declared.option.Option.{Option}
use Rattle.std.specs.declared.option.Option.TheVariants.{Some, None}
use Rattle.pcm_base.specs.Name.{is_name}
use Rattle.pcm_base.specs.declared.ids.ClientId.{ClientId}
use Rattle.pcm_base.specs.declared.ids.SubId.{SubId}
use Rattle.pcm_base.specs.declared.config.Space.{Space as ConfigSpace}
use Rattle.pcm_base.specs.declared.config.Span.{Span}
use Rattle.pcm_base.specs.declared.call.Event.{Event as CoreEvent}
use Rattle.pcm_base.specs.declared.call.Call.{Call}
use Rattle.pcm_base.specs.declared.call.Call.TheVariants.{HwParams, SwParams, Write, Read, Rewind, Forward, SyncPtr, Store, Load, Link, Go, MoveBy, Irq, FailAt, Give, Unplug}
use Rattle.pcm_line.specs.declared.line.Line.{Line}
use Rattle.pcm_line.specs.declared.line.Line.TheVariants.{LongMax, Card, Event, Feed, Save, Space, Beat, Threads, Join, Version, Carry, Wire}

abbrev pub IsSub : SubId → Type 0
IsSub s = s.0 < 16

abbrev pub IsNumber : ℕ → Type 0
IsNumber n = n < 2 ^ 63

-- the numbers and the second substream of a call
abbrev pub OperandsFit : Call → Type 0
OperandsFit (HwParams p) = IsNumber p.channels × IsNumber p.rate × IsNumber p.period × IsNumber p.periods
OperandsFit (SwParams p) = IsNumber p.avail_min × IsNumber p.start_threshold × IsNumber p.stop_threshold × IsNumber p.silence_threshold × IsNumber p.silence_size
OperandsFit (Read layout mode frames) = IsNumber frames
OperandsFit (Rewind frames) = IsNumber frames
OperandsFit (Forward frames) = IsNumber frames
OperandsFit (SyncPtr flags) = IsNumber flags
OperandsFit (Store offset) = IsNumber offset
OperandsFit (Load offset frames) = IsNumber offset × IsNumber frames
OperandsFit (MoveBy frames) = IsNumber frames
OperandsFit (FailAt k) = IsNumber k
OperandsFit (Link second) = IsSub second
OperandsFit _ = Unit {0}

-- the events of a card, that no client calls
abbrev pub is_of_card : Call → Bool
is_of_card (MoveBy frames) = true
is_of_card Irq = true
is_of_card (FailAt k) = true
is_of_card Give = true
is_of_card Unplug = true
is_of_card _ = false

-- a client exactly where the call has one
abbrev pub IsCaller : Bool → Option ClientId → Type 0
IsCaller true None = Unit {0}
IsCaller true (Some client) = ⊥
IsCaller false None = ⊥
IsCaller false (Some client) = client.0 < 16

-- a go stands with s0
abbrev pub IsSubOf : Call → SubId → Type 0
IsSubOf Go s = s.0 ≡ 0
IsSubOf _ s = IsSub s

-- bytes stand only beside a Write, a Store and a Give
abbrev pub BytesOnlyWhereTaken : Call → List ℕ → Type 0
BytesOnlyWhereTaken (Write layout mode) bytes = Unit {0}
BytesOnlyWhereTaken (Store offset) bytes = Unit {0}
BytesOnlyWhereTaken Give bytes = Unit {0}
BytesOnlyWhereTaken _ bytes = bytes ≡ []

pub record IsSayableEvent (event : CoreEvent) (bytes : List ℕ) : Type 0 where
  pub caller : IsCaller (is_of_card event.call) event.client
  pub sub : IsSubOf event.call event.sub
  pub operands : OperandsFit event.call
  pub only : BytesOnlyWhereTaken event.call bytes

abbrev pub SpanFits : Span → Type 0
SpanFits span = IsNumber span.least × IsNumber span.most

pub record SpaceFits (space : ConfigSpace) : Type 0 where
  pub accesses : IsNumber space.accesses
  pub formats : IsNumber space.formats
  pub channels : SpanFits space.channels
  pub rate : SpanFits space.rate
  pub period : SpanFits space.period
  pub periods : SpanFits space.periods
  pub buffer : SpanFits space.buffer

-- The line has a spelling: numbers are below 2 ^ 63, clients and substreams below 16, a client stands exactly where the call has one, s0 in a Go, and bytes only beside a Write, a Store and a Give.
abbrev pub Sayable : Line → Type 0
Sayable (LongMax n) = IsNumber n
Sayable (Card s model dir) = IsSub s
Sayable (Event event bytes) = IsSayableEvent event bytes
Sayable (Feed s name) = IsSub s
Sayable (Save s name) = IsSub s
Sayable (Space model space) = SpaceFits space
Sayable (Beat s frames count) = IsSub s × IsNumber frames × IsNumber count
Sayable Threads = Unit {0}
Sayable Join = Unit {0}
Sayable (Version n) = IsNumber n
Sayable (Carry from to) = IsSub from × IsSub to
Sayable (Wire from to) = IsSub from × IsSub to

-- What the types Bytes and Name make true of every line: its bytes are bytes, and its name is a name.
abbrev pub IsWellTyped : Line → Type 0
IsWellTyped (Event event bytes) = AllByRecursion (λ b. b < 256) bytes
IsWellTyped (Feed s name) = is_name name ≡ true
IsWellTyped (Save s name) = is_name name ≡ true
IsWellTyped _ = Unit {0}
