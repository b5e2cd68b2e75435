-- The number below which pointers are shown (snd_pcm_hw_params of pcm_native.c).
use Rattle.std.specs.Prelude.{ℕ, true, false, nat_le, zero, suc, ◌-◌, ◌*◌}

-- doubled times buffer long_max b: b doubled as long as the next doubling leaves room for a buffer below long_max, so many times at most
abbrev pub doubled : ℕ → ℕ → ℕ → ℕ → ℕ
doubled zero buffer long_max b = b
doubled (suc n) buffer long_max b = elim (nat_le (b * 2) (long_max - buffer)) [ true ↦ doubled n buffer long_max (b * 2) | false ↦ b ]

-- the boundary of a buffer
abbrev pub boundary_of : ℕ → ℕ → ℕ
boundary_of buffer long_max = doubled long_max buffer long_max buffer
