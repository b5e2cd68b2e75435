-- What the bytes of a sample say (the formats of asound.h). A signed sample is in two's complement, and a U8 sample is the number 0 to 255 that is stored.
use Rattle.std.specs.Prelude.{ℕ, suc, ℤ, pos, negsuc, neg_ℤ, List, [], ◌∷◌, ◌++◌, ◌-◌, ◌*◌, ◌^◌, ◌≤ℤ◌, ◌<ℤ◌}
use Rattle.pcm_base.specs.declared.format.Format.{Format}
use Rattle.pcm_base.specs.declared.format.Format.TheVariants as format
use Rattle.byteorder.specs.Endian.{little_number, big_number, little_bytes, big_bytes, twos_complement}

-- the byte of every silent sample
abbrev pub silence_of_format : Format → ℕ
silence_of_format format.S8 = 0
silence_of_format format.U8 = 128
silence_of_format format.S16Le = 0
silence_of_format format.S16Be = 0
silence_of_format format.S24Le = 0
silence_of_format format.S32Le = 0
silence_of_format format.S32Be = 0
silence_of_format format.S24Le3 = 0

-- the value of a sample with these bytes
abbrev pub sample_of : Format → List ℕ → ℤ
sample_of format.S8 bytes = twos_complement 1 (little_number 1 bytes)
sample_of format.U8 bytes = pos (little_number 1 bytes)
sample_of format.S16Le bytes = twos_complement 2 (little_number 2 bytes)
sample_of format.S16Be bytes = twos_complement 2 (big_number 2 bytes)
sample_of format.S24Le bytes = twos_complement 3 (little_number 3 bytes)
sample_of format.S32Le bytes = twos_complement 4 (little_number 4 bytes)
sample_of format.S32Be bytes = twos_complement 4 (big_number 4 bytes)
sample_of format.S24Le3 bytes = twos_complement 3 (little_number 3 bytes)

-- a number of n bytes in two's complement, as it is stored
abbrev pub stored : ℕ → ℤ → ℕ
stored n (pos x) = x
stored n (negsuc x) = 2 ^ (8 * n) - suc x

-- the bytes of a sample with this value
abbrev pub bytes_of_sample : Format → ℤ → List ℕ
bytes_of_sample format.S8 value = little_bytes 1 (stored 1 value)
bytes_of_sample format.U8 value = little_bytes 1 (stored 1 value)
bytes_of_sample format.S16Le value = little_bytes 2 (stored 2 value)
bytes_of_sample format.S16Be value = big_bytes 2 (stored 2 value)
bytes_of_sample format.S24Le value = little_bytes 3 (stored 3 value) ++ 0 ∷ []
bytes_of_sample format.S32Le value = little_bytes 4 (stored 4 value)
bytes_of_sample format.S32Be value = big_bytes 4 (stored 4 value)
bytes_of_sample format.S24Le3 value = little_bytes 3 (stored 3 value)

-- the signed numbers of n bytes
abbrev pub IsSigned : ℕ → ℤ → Type 0
IsSigned n value = (neg_ℤ (pos (2 ^ (8 * n - 1))) ≤ℤ value) × (value <ℤ pos (2 ^ (8 * n - 1)))

-- the value is one of a sample's
abbrev pub FitsSample : Format → ℤ → Type 0
FitsSample format.S8 value = IsSigned 1 value
FitsSample format.U8 value = (pos 0 ≤ℤ value) × (value ≤ℤ pos 255)
FitsSample format.S16Le value = IsSigned 2 value
FitsSample format.S16Be value = IsSigned 2 value
FitsSample format.S24Le value = IsSigned 3 value
FitsSample format.S32Le value = IsSigned 4 value
FitsSample format.S32Be value = IsSigned 4 value
FitsSample format.S24Le3 value = IsSigned 3 value
