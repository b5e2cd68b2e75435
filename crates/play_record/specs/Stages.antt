-- Where a device stands while it plays or records. This project's own.
use Rattle.std.specs.Prelude.{◌≡◌, ◌≤◌, ℕ, Bool, List, [], ◌∷◌, ◌+◌, ◌%◌, drop, replicate}
use Rattle.std.specs.declared.option.Option.TheVariants.{None}
use Rattle.pcm_base.specs.declared.config.Config.{Config}
use Rattle.pcm_base.specs.declared.format.Access.TheVariants as access
use Rattle.pcm_base.specs.declared.ids.SubId.{SubId}
use Rattle.pcm_base.specs.declared.state.Dir.{Dir}
use Rattle.pcm_base.specs.declared.state.Dir.TheVariants as dir
use Rattle.pcm_base.specs.declared.state.State.{State}
use Rattle.pcm_base.specs.declared.state.State.TheVariants as state
use Rattle.pcm_base.specs.Shape.{IsSoundShape}
use Rattle.pcm_base.specs.model.Allowed.{shape_of}
use Rattle.pcm_base.specs.model.Events.{setup_of}
use Rattle.pcm_base.specs.model.Frame.{Frame, frames_of}
use Rattle.pcm_base.specs.model.Movement.{padded}
use Rattle.pcm_base.specs.model.Standing.{Put, put_at}
use Rattle.pcm_base.specs.model.Stream.{Setup, Stream, Member as ModelMember, fresh, no_plan}
use Rattle.card_emul.specs.Limits.{duplex}

-- the LONG_MAX of a device
abbrev pub long_max : ℕ
long_max = 2147483647

-- the one member of a device, of whose clients none is asleep
abbrev pub lone : SubId → Stream → ModelMember
lone k s = record { sub = k; stream = s; asleep = [] }

-- a device that is open and not set up
abbrev pub opened_with : Dir → List Put → Stream
opened_with d puts = record (fresh duplex d long_max) { state = state.Opened; puts = puts }

-- A device that is set up so, in this state. Its card runs or not; h frames are reported, u are the application's and c the card's; it has these puts, and has taken and is to give these frames.
abbrev pub device_at : Dir → Setup → State → Bool → ℕ → ℕ → ℕ → List Put → List Frame → List Frame → Stream
device_at d p t runs h u c puts taken to_give = record {
  dir = d;
  model = duplex;
  long_max = long_max;
  state = t;
  kept = None;
  setup = p;
  mappings = 0;
  at = record { hw = p.boundary + h; appl = p.boundary + u; card = p.boundary + c; filled = p.boundary };
  puts = puts;
  moved = c;
  card = record { runs = runs; plan = no_plan; taken = taken; to_give = to_give };
  sleepers = [];
}

-- of these bytes u frames are written, h are reported as played and c are played
abbrev pub plays : Config → List ℕ → State → Bool → ℕ → ℕ → ℕ → Stream
plays g bytes t runs h u c =
    let p = setup_of g long_max in
    device_at dir.Playback p t runs h u c (put_at p.boundary (frames_of u p.frame_bytes bytes) []) (frames_of c p.frame_bytes bytes) []

-- of these frames, which the card was given, c are recorded, h are reported and u are read
abbrev pub records : Config → List Frame → State → Bool → ℕ → ℕ → ℕ → Stream
records g given t runs h u c =
    let p = setup_of g long_max in
    device_at dir.Capture p t runs h u c (put_at p.boundary (padded c given (replicate p.frame_bytes 0)) []) [] (drop c given)

-- The sizes of a configuration of a device, whose frames are interleaved: at least two periods, and the boundary is a whole number of buffers.
pub record IsSized (g : Config) : Type 0 where
  pub access : g.access ≡ access.RwInterleaved
  pub some : 1 ≤ g.period
  pub two : 2 ≤ g.periods
  pub sound : IsSoundShape (shape_of g long_max)
  pub whole : (shape_of g long_max).boundary % (shape_of g long_max).buffer ≡ 0
