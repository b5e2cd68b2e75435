use Rattle.std.proofs.Common.{◌≡◌, ◌≤◌, ◌<◌, ◌+◌, ◌-◌, ◌*◌, ◌/◌, ◌^◌, ℕ, arith}
use Rattle.std.proofs.Math.Nat.{add-mul, div-mul-le_self, mul-le-mul, mul-le-mul_right}
use Rattle.play_record.proofs.sound.played_bytes.Goals as goal

-- frames of at most 32 bytes that are in memory, up to a whole period
bounded : (n p f len : ℕ) → n * f ≤ len → len < 2 ^ 63 → p ≤ 65536 → f ≤ 32 → (n + (p - 1)) / p * p * f < 2 ^ 64
bounded n p f len h small short few =
    let up : (n + (p - 1)) / p * p * f ≤ (n + (p - 1)) * f = mul-le-mul_right f (div-mul-le_self (n + (p - 1)) p) in
    let parts : (n + (p - 1)) * f ≡ n * f + (p - 1) * f = add-mul n (p - 1) f in
    let fewer : p - 1 ≤ 65535 = omega (arith, short) in
    let rest : (p - 1) * f ≤ 65535 * 32 = mul-le-mul fewer few in
    omega (arith, up, parts, rest)

pub overflow_mul-result-2 : goal.overflow_mul-result-2
overflow_mul-result-2 c =
    let frames = c.args.wav.now.frames in
    let small = bounded (c.len.result / c.frame_bytes_of-frame.result) c.args.period c.frame_bytes_of-frame.result c.len.result (div-mul-le_self c.len.result c.frame_bytes_of-frame.result) (omega (arith, frames.ok.0, frames.ok.1, frames.small)) c.requires.short c.frame_bytes_of-frame.ensures.few in
    omega (arith, small)
