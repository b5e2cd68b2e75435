-- A number of few digits is small.
use Rattle.std.proofs.Common.{◌<◌, ◌≤◌, ◌^◌, ℕ, arith}
use Rattle.std.proofs.Math.Nat.{pow-le-pow_right}

pub below-pow : (n i : ℕ) → n < 10 ^ i → i ≤ 18 → n < 10 ^ 18
below-pow n i lt le =
    let more : 10 ^ i ≤ 10 ^ 18 = pow-le-pow_right {n = 10} (omega arith) {i = i} {j = 18} le in
    omega arith
