-- What is written is a WAV file of the recording.
use Rattle.std.proofs.Common.{◌≡◌, ℕ, ◌+◌, ◌-◌, ◌*◌, ◌/◌, ◌%◌, ◌≤◌, List, [], ◌∷◌, ◌++◌, length, get_or, take, replicate, Some, refl, sym, ap, ◌∙◌, arith, lit≤, inl, inr, ◌⊎◌, suc}
use Rattle.std.specs.Prelude.{codes, flat_map}
use Rattle.std.proofs.lemmas.List.{take_at, take_all}
use Rattle.std.proofs.lemmas.Nat.{mul-le}
use Rattle.pcm_base.specs.declared.format.Format.{Format}
use Rattle.pcm_base.specs.declared.format.Format.TheVariants as format
use Rattle.pcm_base.specs.Numbers.{sample_bytes}
use Rattle.byteorder.specs.Endian.{little_number, little_bytes}
use Rattle.byteorder.specs.Numbers.{little_number-reads_back}
use Rattle.wav_file.specs.Recordings.{Recording, number_at, format_of, frame_bytes, whole_frames, low_samples, high_samples, clear_samples, frames_from, bytes_for, clear_frames, clear_recording}
use Rattle.wav_file.specs.Grammar.{WholeChunk, IsWhole, chunk_bytes, IsPlain, IsExtensible, valid_bits, IsFormat, IsWav, IsWavFormat, CanWrite, body_size, format_body, wav_bytes}

-- what stands in the body of the "fmt " chunk of a format
record Spelled (f : Format) (body : List ℕ) : Type 0 where
  size : little_number 4 (little_bytes 4 (body_size f)) ≡ length body
  even : 0 ≡ length body % 2
  kind : IsPlain body ⊎ IsExtensible body
  bits : number_at 2 14 body ≡ 8 * sample_bytes f
  valid : valid_bits body ≤ number_at 2 14 body
  format : format_of (number_at 2 14 body) (valid_bits body) ≡ Some f

abbrev body_of : Format → ℕ → ℕ → List ℕ → List ℕ
body_of f channels rate frames = format_body (record { format = f; channels = channels; rate = rate; frames = frames })

spelled_is : (f : Format) (channels rate : ℕ) (frames : List ℕ) → IsWavFormat f → Spelled f (body_of f channels rate frames)
spelled_is format.S8 channels rate frames is = absurd is
spelled_is format.U8 channels rate frames is = record { size = refl; even = refl; kind = inl (record { size = inl refl; tag = refl }); bits = refl; valid = lit≤ tt; format = refl }
spelled_is format.S16Le channels rate frames is = record { size = refl; even = refl; kind = inl (record { size = inl refl; tag = refl }); bits = refl; valid = lit≤ tt; format = refl }
spelled_is format.S16Be channels rate frames is = absurd is
spelled_is format.S24Le channels rate frames is = record { size = refl; even = refl; kind = inr (record { size = refl; tag = refl; subtype = refl }); bits = refl; valid = lit≤ tt; format = refl }
spelled_is format.S32Le channels rate frames is = record { size = refl; even = refl; kind = inl (record { size = inl refl; tag = refl }); bits = refl; valid = lit≤ tt; format = refl }
spelled_is format.S32Be channels rate frames is = absurd is
spelled_is format.S24Le3 channels rate frames is = record { size = refl; even = refl; kind = inl (record { size = inl refl; tag = refl }); bits = refl; valid = lit≤ tt; format = refl }

sample_small : (f : Format) → sample_bytes f ≤ 4
sample_small format.S8 = omega arith
sample_small format.U8 = omega arith
sample_small format.S16Le = omega arith
sample_small format.S16Be = omega arith
sample_small format.S24Le = omega arith
sample_small format.S32Le = omega arith
sample_small format.S32Be = omega arith
sample_small format.S24Le3 = omega arith

body_says : (r : Recording) → CanWrite r → IsFormat (format_body r) r.format r.channels r.rate
body_says r can =
    let width = sample_bytes r.format in
    let align = frame_bytes r.format r.channels in
    let small = sample_small r.format in
    let few : align ≤ 8 * 4 = mul-le r.channels width 8 4 can.most small in
    let spelled = spelled_is r.format r.channels r.rate r.frames can.format in
    let whole : align ≡ r.channels * (8 * width) / 8 = omega arith in
    record {
      kind = spelled.kind;
      channels_are = little_number-reads_back 2 r.channels [] (omega (arith, can.most));
      least = can.least;
      most = can.most;
      rate_is = little_number-reads_back 4 r.rate [] can.rate;
      some_rate = omega (arith, can.some_rate);
      valid = spelled.valid;
      bits = spelled.format;
      align = little_number-reads_back 2 align [] (omega arith) ∙ whole ∙ ap (λ (n : ℕ). r.channels * n / 8) (sym spelled.bits);
    }

all_whole : (size : ℕ) (frames : List ℕ) → length frames % size ≡ 0 → whole_frames size frames ≡ frames
all_whole size frames whole = take_all (length frames - length frames % size) frames (omega (arith, whole))

-- ---- samples of S24_LE, to a file and back

low-high : (xs : List ℕ) → low_samples (high_samples xs) ≡ clear_samples xs
low-high [] = refl
low-high (a ∷ []) = refl
low-high (a ∷ b ∷ []) = refl
low-high (a ∷ b ∷ c ∷ []) = refl
low-high (a ∷ b ∷ c ∷ d ∷ rest) = ap (λ (x : List ℕ). a ∷ b ∷ c ∷ 0 ∷ x) (low-high rest)

length-high : (xs : List ℕ) → length (high_samples xs) ≡ length xs
length-high [] = refl
length-high (a ∷ []) = refl
length-high (a ∷ b ∷ []) = refl
length-high (a ∷ b ∷ c ∷ []) = refl
length-high (a ∷ b ∷ c ∷ d ∷ rest) = ap (λ (n : ℕ). suc (suc (suc (suc n)))) (length-high rest)

from-for : (f : Format) (frames : List ℕ) → frames_from f (bytes_for f frames) ≡ clear_frames f frames
from-for format.S24Le frames = low-high frames
from-for _ frames = refl

length-for : (f : Format) (frames : List ℕ) → length (bytes_for f frames) ≡ length frames
length-for format.S24Le frames = length-high frames
length-for _ frames = refl

-- its one chunk before the "data" chunk
abbrev chunk_of : Recording → WholeChunk
chunk_of r = record { id = codes "fmt "; size = little_bytes 4 (body_size r.format); body = format_body r; pad = [] }

abbrev in_pieces : Recording → List ℕ
in_pieces r =
    let size = length r.frames in
    let pad : List ℕ = replicate (size % 2) 0 in
    codes "RIFF" ++ (little_bytes 4 (20 + body_size r.format + size + size % 2) ++ (codes "WAVE" ++ (flat_map chunk_bytes (chunk_of r ∷ []) ++ (codes "data" ++ (little_bytes 4 size ++ (bytes_for r.format r.frames ++ pad))))))

pieces_of : (f : Format) (channels rate : ℕ) (frames : List ℕ) → let r : Recording = record { format = f; channels = channels; rate = rate; frames = frames } in wav_bytes r ≡ in_pieces r
pieces_of format.S24Le channels rate frames = refl
pieces_of _ channels rate frames = refl

pub written_is_wav : (r : Recording) → CanWrite r → length r.frames ≤ 67108864 → IsWav (wav_bytes r) (clear_recording r)
written_is_wav r can short =
    let f = r.format in
    let size = length r.frames in
    let data_size = little_bytes 4 size in
    let frame = frame_bytes f r.channels in
    let stored = bytes_for f r.frames in
    let pad : List ℕ = replicate (size % 2) 0 in
    let spelled = spelled_is f r.channels r.rate r.frames can.format in
    let k = chunk_of r in
    let whole : IsWhole k = record { id = refl; size = refl; body = spelled.size; pad = spelled.even } in
    let back : little_number 4 data_size ≡ size = little_number-reads_back 4 size [] (omega arith) in
    let len : length stored ≡ size = length-for f r.frames in
    record {
      riff_size = little_bytes 4 (20 + body_size f + size + size % 2);
      chunks = k ∷ [];
      data_size = data_size;
      rest = stored ++ pad;
      spelled = pieces_of f r.channels r.rate r.frames;
      riff_four = refl;
      data_four = refl;
      whole = (whole, tt);
      before_data = (λ e. let first : 102 ≡ 100 = ap (λ (id : List ℕ). get_or id 0 0) e in omega arith, tt);
      body = format_body r;
      first = refl;
      says = body_says r can;
      frames =
          sym (ap (λ (n : ℕ). frames_from f (whole_frames frame (take n (stored ++ pad)))) back
          ∙ ap (λ (x : List ℕ). frames_from f (whole_frames frame x)) (take_at stored pad size len)
          ∙ ap (frames_from f) (all_whole frame stored (ap (λ (n : ℕ). n % frame) len ∙ can.whole))
          ∙ from-for f r.frames);
    }
