-- What refuses the mapped calls, in order.
use Rattle.std.specs.Prelude.{ℕ, not, ◌||◌, nat_eq, nat_le, nat_lt, List, length, ◌+◌, ◌/◌}
use Rattle.std.specs.declared.option.Option.{Option}
use Rattle.pcm_base.specs.declared.call.CallKind.TheVariants as kind
use Rattle.pcm_base.specs.declared.state.Errno.{Errno}
use Rattle.pcm_base.specs.declared.state.Errno.TheVariants as errno
use Rattle.pcm_base.specs.model.Acts.{table}
use Rattle.pcm_base.specs.model.Events.{is_mapped_access}
use Rattle.pcm_base.specs.model.Stream.{Stream}
use Rattle.pcm_base.specs.model.Transfer.{is_whole}
use Rattle.pcm_base.specs.model.Words.{when, ◌then◌, is_playback}

abbrev pub map_refusal : Stream → Option Errno
map_refusal s = table kind.Map s then (when (not (is_mapped_access s.setup.config)) errno.Einval then when (nat_le 65535 s.mappings) errno.Ebusy)

abbrev pub unmap_refusal : Stream → Option Errno
unmap_refusal s = when (nat_eq s.mappings 0) errno.Einval

-- the frames in these bytes
abbrev pub count_in : Stream → List ℕ → ℕ
count_in s bytes = length bytes / s.setup.frame_bytes

-- frames in these bytes, stored from an offset on
abbrev pub store_refusal : ℕ → List ℕ → Stream → Option Errno
store_refusal o bytes s = when (not (is_playback s.dir) || nat_eq s.mappings 0 || not (is_whole s bytes) || nat_lt s.setup.buffer (o + count_in s bytes)) errno.Einval

-- n frames loaded from an offset on
abbrev pub load_refusal : ℕ → ℕ → Stream → Option Errno
load_refusal o n s = when (nat_eq s.mappings 0 || nat_lt s.setup.buffer (o + n)) errno.Einval
