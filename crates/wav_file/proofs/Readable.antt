-- A recording that was read can be written.
use Rattle.std.proofs.Common.{◌≡◌, ℕ, zero, suc, ◌-◌, ◌*◌, ◌/◌, ◌%◌, ◌^◌, ◌<◌, Bool, true, false, ◌&&◌, cond, eqb, List, [], ◌∷◌, length, take, Some, None, refl, ap, subst, ◌∙◌, arith}
use Rattle.std.proofs.lemmas.List.{length-take-le}
use Rattle.std.proofs.Math.Nat.{mul-mod_left, mod-zero}
use Rattle.pcm_base.specs.declared.format.Format.{Format}
use Rattle.pcm_base.specs.declared.format.Format.TheVariants as format
use Rattle.byteorder.specs.Endian.{little_number}
use Rattle.wav_file.specs.Recordings.{Recording, number_at, format_of, frame_bytes, whole_frames, low_samples, frames_from}
use Rattle.wav_file.specs.Grammar.{IsWav, IsWavFormat, CanWrite, valid_bits}

wav_format_at : (f g : Format) → IsWavFormat f → Some f ≡ Some g → IsWavFormat g
wav_format_at f g is e = let same : f ≡ g = cc in subst IsWavFormat same is

-- a format that counts of bits name
has_format : (b c d e h : Bool) (f : Format) → cond b (Some format.S24Le) (cond c (Some format.U8) (cond d (Some format.S16Le) (cond e (Some format.S24Le3) (cond h (Some format.S32Le) None)))) ≡ Some f → IsWavFormat f
has_format true c d e h f is = wav_format_at format.S24Le f tt is
has_format false true d e h f is = wav_format_at format.U8 f tt is
has_format false false true e h f is = wav_format_at format.S16Le f tt is
has_format false false false true h f is = wav_format_at format.S24Le3 f tt is
has_format false false false false true f is = wav_format_at format.S32Le f tt is
has_format false false false false false f is = absurd cc

is_wav_format : (bits valid : ℕ) (f : Format) → format_of bits valid ≡ Some f → IsWavFormat f
is_wav_format bits valid f is = has_format (eqb bits 32 && eqb valid 24) (eqb bits 8) (eqb bits 16) (eqb bits 24) (eqb bits 32) f is

length-low : (xs : List ℕ) → length (low_samples xs) ≡ length xs
length-low [] = refl
length-low (a ∷ []) = refl
length-low (a ∷ b ∷ []) = refl
length-low (a ∷ b ∷ c ∷ []) = refl
length-low (a ∷ b ∷ c ∷ d ∷ rest) = ap (λ (n : ℕ). suc (suc (suc (suc n)))) (length-low rest)

length-from : (f : Format) (bytes : List ℕ) → length (frames_from f bytes) ≡ length bytes
length-from format.S24Le bytes = length-low bytes
length-from _ bytes = refl

whole_length : (size n : ℕ) → (n - n % size) % size ≡ 0
whole_length zero n = rw (mod-zero n) (omega arith)
whole_length (suc k) n = let e : n - n % suc k ≡ (n / suc k) * suc k = omega arith in ap (λ (m : ℕ). m % suc k) e ∙ mul-mod_left (n / suc k) (suc k)

whole_frames-length : (size : ℕ) (bytes : List ℕ) → length (whole_frames size bytes) % size ≡ 0
whole_frames-length size bytes =
    let n = length bytes in
    ap (λ (m : ℕ). m % size) (length-take-le (n - n % size) bytes (omega arith)) ∙ whole_length size n

pub can_write : (bytes : List ℕ) (r : Recording) → IsWav bytes r → r.rate < 2 ^ 32 → CanWrite r
can_write bytes r wav small =
    let size = frame_bytes r.format r.channels in
    let stored = whole_frames size (take (little_number 4 wav.data_size) wav.rest) in
    record {
      format = is_wav_format (number_at 2 14 wav.body) (valid_bits wav.body) r.format wav.says.bits;
      least = wav.says.least;
      most = wav.says.most;
      some_rate = omega (arith, wav.says.some_rate);
      rate = small;
      whole = ap (λ (m : ℕ). m % size) (ap length wav.frames ∙ length-from r.format stored) ∙ whole_frames-length size (take (little_number 4 wav.data_size) wav.rest);
    }
