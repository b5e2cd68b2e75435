-- What contracts see of a source and a sink in memory. This project's own.
use Rattle.std.specs.Prelude.{ℕ, List, min, ◌+◌, ◌-◌, ◌^◌}

-- the bytes left, the numbers of the calls that fail, the most bytes of one read, the calls and the faults so far
pub record SourceState : Type 0 where
  pub left : List ℕ
  pub failing : List ℕ
  pub piece : ℕ
  pub calls : ℕ
  pub faults : ℕ

-- the bytes written, those for which there is memory, the numbers of the calls that fail, the calls and the faults so far
pub record SinkState : Type 0 where
  pub written : List ℕ
  pub room : ℕ
  pub failing : List ℕ
  pub calls : ℕ
  pub faults : ℕ

-- one more, or the last value of 64 bits
abbrev pub one_more : ℕ → ℕ
one_more n = min (n + 1) (2 ^ 64 - 1)
