-- What a configured substream keeps, and the stream that it stands for.
use Rattle.std.specs.Prelude.{◌≡◌, ◌+◌, ◌-◌, ◌^◌, ◌%◌, ℕ, List, min, []}
use Rattle.std.specs.declared.option.Option.TheVariants.{Some}
use Rattle.pcm_base.specs.declared.config.Config.{Config}
use Rattle.pcm_base.specs.declared.config.Shape.{Shape}
use Rattle.pcm_base.specs.declared.state.Dir.{Dir}
use Rattle.pcm_base.specs.model.Frame.{Frame}
use Rattle.pcm_base.specs.model.Standing.{Put}
use Rattle.pcm_base.specs.model.Stream.{Stream, Setup, Positions, head_of}
use Rattle.pcm_base.specs.model.Allowed.{shape_of}
use Rattle.ring_memory.specs.Ring.{StandsForPuts}
use Rattle.pcm_stream.specs.declared.runtime.Runtime.{Runtime}
use Rattle.pcm_stream.specs.Wide.{AreWide, PutsAreWide}

-- what of a stream its runtime knows
pub record Known : Type 0 where
  pub long_max : ℕ
  pub setup : Setup
  pub mappings : ℕ
  pub at : Positions
  pub puts : List Put
  pub moved : ℕ
  pub taken : List Frame
  pub to_give : List Frame

abbrev pub known : Stream → Known
known s = record { long_max = s.long_max; setup = s.setup; mappings = s.mappings; at = s.at; puts = s.puts; moved = s.moved; taken = s.card.taken; to_give = s.card.to_give }

abbrev pub with_puts : List Put → Known → Known
with_puts puts s = record s { puts = puts }

abbrev pub with_count : ℕ → Known → Known
with_count n s = record s { moved = n }

-- The configuration, its sizes, the software parameters and the mappings are these.
pub record HasSetup (r : Runtime) (s : Known) : Type 0 where
  pub config : s.setup.config ≡ Some r.config
  pub shape : r.shape ≡ shape_of r.config s.long_max
  pub frame_bytes : s.setup.frame_bytes ≡ r.shape.frame_bytes
  pub buffer : s.setup.buffer ≡ r.shape.buffer
  pub boundary : s.setup.boundary ≡ r.shape.boundary
  pub sw : s.setup.sw ≡ r.sw
  pub mappings : s.mappings ≡ r.mappings

-- The pointers show the positions, and the last fill's end lies as far ahead of the hardware position.
pub record HasPointers (r : Runtime) (s : Known) : Type 0 where
  pub hw : r.ptr.hw ≡ s.at.hw % r.shape.boundary
  pub appl : r.appl ≡ s.at.appl % r.shape.boundary
  pub filled : s.at.filled - s.at.hw ≡ r.filled

-- The buffer holds the frames that were put, all frames are as wide as the configuration has them, and as many are counted as moved.
pub record HoldsFrames (r : Runtime) (s : Known) : Type 0 where
  pub ring : StandsForPuts r.ring s.puts
  pub puts : PutsAreWide r.shape.frame_bytes s.puts
  pub taken : AreWide r.shape.frame_bytes s.taken
  pub to_give : AreWide r.shape.frame_bytes s.to_give
  pub moved : r.moved ≡ min s.moved (2 ^ 64 - 1)

-- The set-up, the pointers and the frames are these.
pub record Keeps (r : Runtime) (s : Known) : Type 0 where
  pub setup : HasSetup r s
  pub pointers : HasPointers r s
  pub frames : HoldsFrames r s

-- the runtime is that of the stream
abbrev pub RunsFor : Runtime → Stream → Type 0
RunsFor r s = Keeps r (known s)

-- the frames that a client may move, by the pointers
abbrev pub avail_in : Dir → Runtime → ℕ
avail_in d r = (head_of d r.shape.buffer r.ptr.hw + r.shape.boundary - r.appl) % r.shape.boundary

-- what a configuration sets up
pub record IsNewRuntime (c : Config) (shape : Shape) (r : Runtime) : Type 0 where
  pub config : r.config ≡ c
  pub sizes : r.shape ≡ shape
  pub sw : r.sw ≡ record { avail_min = shape.period; start_threshold = 1; stop_threshold = shape.buffer; silence_threshold = 0; silence_size = 0 }
  pub mappings : r.mappings ≡ 0
  pub hw : r.ptr.hw ≡ 0
  pub appl : r.appl ≡ 0
  pub filled : r.filled ≡ 0
  pub moved : r.moved ≡ 0
  pub empty : StandsForPuts r.ring []
