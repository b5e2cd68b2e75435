use Rattle.std.proofs.Common.{◌≡◌, ◌^◌, ◌<◌, drop}
use Rattle.std.specs.Str.{all_ascii_digits}
use Rattle.pcm_line.specs.Reading.{digits_value_on}
use Rattle.pcm_line.proofs.kinds.digits.Given as goal

abbrev pub invariant-loop-b : goal.invariant-loop-b
invariant-loop-b l = record {
  digits : all_ascii_digits (drop l.b-index l.piece) ≡ all_ascii_digits l.piece;
  value : digits_value_on l.n (drop l.b-index l.piece) ≡ digits_value_on 0 l.piece;
  below : l.n < 10 ^ l.b-index;
}
