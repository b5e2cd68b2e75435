-- The software parameters that are refused (snd_pcm_sw_params of pcm_native.c; avail_min 0 is checked there too).
use Rattle.std.specs.Prelude.{ℕ, Bool, not, ◌&&◌, ◌||◌, nat_eq, nat_lt, nat_le}
use Rattle.pcm_base.specs.declared.config.SwParams.{SwParams}

-- refuses_sw buffer boundary w: no avail_min; or silence without end and a threshold for it; or a silence size above its threshold, or a threshold above the buffer
abbrev pub refuses_sw : ℕ → ℕ → SwParams → Bool
refuses_sw buffer boundary w =
    nat_eq w.avail_min 0
    || ((nat_le boundary w.silence_size && not (nat_eq w.silence_threshold 0))
    || (nat_lt w.silence_size boundary && (nat_lt w.silence_threshold w.silence_size || nat_lt buffer w.silence_threshold)))
