-- The bytes that a call's step is lent, and the first frames of the bytes of a read.
use Rattle.std.specs.Prelude.{ℕ, nat_le, List, [], length, take, map, replicate, ◌+◌, ◌*◌, ◌/◌, if◌then◌else◌}
use Rattle.std.specs.declared.option.Option.{Option}
use Rattle.std.specs.declared.option.Option.TheVariants.{Some, None}
use Rattle.pcm_base.specs.declared.call.Call.{Call}
use Rattle.pcm_base.specs.declared.call.Call.TheVariants as call
use Rattle.pcm_base.specs.declared.call.Layout.{Layout}
use Rattle.pcm_base.specs.declared.call.Layout.TheVariants as layout
use Rattle.pcm_base.specs.declared.config.Shape.{Shape}
use Rattle.pcm_base.specs.model.Frame.{bytes_of, frames_of}

-- how the bytes lie that a call reads
abbrev pub layout_begun : Call → Option Layout
layout_begun (call.Read w m n) = Some w
layout_begun (call.Load o n) = Some layout.Interleaved
layout_begun _ = None

-- how many bytes a read or a load reads, where its rules can let it through
abbrev pub length_begun : Call → Shape → ℕ
length_begun (call.Read w m n) h = if nat_le n 1048576 then n * h.frame_bytes else 0
length_begun (call.Load o n) h = if nat_le (o + n) h.buffer then n * h.frame_bytes else 0
length_begun _ h = 0

-- the sizes by which bytes are read that lie so, none where nothing is read
abbrev pub shape_for : Option Layout → Option Shape → Option Shape
shape_for (Some l) shape = shape
shape_for None shape = None

-- zeros for what a call reads, nothing for a drain, else what was handed in
abbrev pub lent_bytes : Call → Option Shape → List ℕ → List ℕ
lent_bytes (call.Read w m n) (Some h) io = replicate (length_begun (call.Read w m n) h) 0
lent_bytes (call.Read w m n) None io = []
lent_bytes (call.Load o n) (Some h) io = replicate (length_begun (call.Load o n) h) 0
lent_bytes (call.Load o n) None io = []
lent_bytes (call.Drain m) h io = []
lent_bytes _ h io = io

-- the fronts of the channels' areas, one after another
abbrev pub fronts : ℕ → ℕ → ℕ → List ℕ → List ℕ
fronts channels area front bytes = bytes_of (map (take front) (frames_of channels area bytes))

-- the first n frames of the bytes, as they lie there
abbrev pub first_by : Layout → Shape → ℕ → List ℕ → List ℕ
first_by layout.Interleaved h n bytes = take (n * h.frame_bytes) bytes
first_by layout.Planar h n bytes = fronts h.channels (length bytes / h.channels) (n * h.frame_bytes / h.channels) bytes
