-- The files that saves leave.
use Rattle.std.proofs.Common.{◌≡◌, ◌+◌, ◌<◌, ◌%◌, ℕ, Bool, true, if◌then◌else◌, List, [], ◌∷◌, ◌++◌, length, get_or, take, drop, refl, sym, ◌∙◌, ap, subst, mul_comm}
use Rattle.std.specs.FinMap.{insert}
use Rattle.std.specs.declared.option.Option.{Option}
use Rattle.std.specs.declared.option.Option.TheVariants.{Some, None}
use Rattle.std.proofs.lemmas.List.{drop_more, take_more}
use Rattle.pcm_base.specs.declared.config.Config.{Config}
use Rattle.pcm_base.specs.declared.format.Format.{Format}
use Rattle.pcm_base.specs.declared.format.Format.TheVariants as format
use Rattle.pcm_base.specs.model.Frame.{bytes_of}
use Rattle.pcm_base.specs.model.Sound.{Sound, SoundAt, IsConfigured}
use Rattle.pcm_base.specs.model.Stream.{Stream}
use Rattle.pcm_base.specs.Numbers.{sample_bytes}
use Rattle.pcm_io.specs.Shelf.{Files, OthersStay, Stay, Stores}
use Rattle.pcm_line.specs.declared.line.Line.{Line}
use Rattle.pcm_line.specs.declared.line.Line.TheVariants as line_of
use Rattle.pcm_text.specs.declared.status.Status.{Status}
use Rattle.pcm_text.specs.declared.status.Status.TheVariants as status
use Rattle.wav_file.specs.Grammar.{CanWrite, IsWavFormat, wav_bytes}
use Rattle.live_top.specs.Files.{AreLeft, HasWavNumbers, IsSavedUpTo, file_by, file_of, is_wav_format, saved, takes, with_file}

wav-format : (f : Format) → is_wav_format f ≡ true → IsWavFormat f
wav-format format.S8 h = cc
wav-format format.U8 h = tt
wav-format format.S16Le h = tt
wav-format format.S16Be h = cc
wav-format format.S24Le h = tt
wav-format format.S32Le h = tt
wav-format format.S32Be h = cc
wav-format format.S24Le3 h = tt

pub can_write : (s : Stream) (c : Config) (frames : List ℕ) → HasWavNumbers c → Sound s → s.setup.config ≡ Some c → is_wav_format c.format ≡ true
    → length frames % s.setup.frame_bytes ≡ 0 → CanWrite (record { format = c.format; channels = c.channels; rate = c.rate; frames = frames })
can_write s c frames numbers sound has f whole =
    let set : IsConfigured c s = subst (λ (o : Option Config). SoundAt o s) has sound in
    let shaped = subst (λ (k : ℕ). length frames % k ≡ 0) set.shaped.frame_bytes whole in
    record {
      format = wav-format c.format f;
      least = numbers.least;
      most = numbers.most;
      some_rate = numbers.some_rate;
      rate = numbers.rate;
      whole = rw (mul_comm c.channels (sample_bytes c.format)) shaped;
    }

-- the file by what the stream has
pub file_is : (s : Stream) (c : Config) (frames file : List ℕ) → takes s ≡ true → s.setup.config ≡ Some c → is_wav_format c.format ≡ true → frames ≡ bytes_of s.card.taken
    → file ≡ wav_bytes (record { format = c.format; channels = c.channels; rate = c.rate; frames = frames }) → Some file ≡ file_of s
file_is s c frames file t has wav took e =
    let of : List ℕ → List ℕ = λ (l : List ℕ). wav_bytes (record { format = c.format; channels = c.channels; rate = c.rate; frames = l }) in
    let bytes = bytes_of s.card.taken in
    ap (λ (l : List ℕ). Some l) (e ∙ ap of took)
    ∙ sym (ap (λ (b : Bool). if b then Some (of bytes) else None) wav)
    ∙ ap (λ (o : Option Config). file_by o bytes) (sym has)
    ∙ sym (ap (λ (b : Bool). if b then file_by s.setup.config bytes else None) t)

pub stays_along : (files before now : Option Files) → Stay files before → Stay before now → Stay files now
stays_along None before now a b = tt
stays_along (Some f) None now a b = absurd a
stays_along (Some f) (Some g) None a b = absurd b
stays_along (Some f) (Some g) (Some h) a b = b ∙ a

others_along : (files before now : Option Files) (name : List ℕ) → Stay files before → OthersStay before now name → OthersStay files now name
others_along None before now name a b = tt
others_along (Some f) None now name a b = absurd a
others_along (Some f) (Some g) None name a b = absurd b
others_along (Some f) (Some g) (Some h) name a b = subst (λ (k : Files). OthersStay (Some k) (Some h) name) a b

-- a file is stored
pub store_one : (name file : List ℕ) (o : Option (List ℕ)) (before now : Option Files) → Some file ≡ o → Stores before now name file → Stay (with_file name o before) now
store_one name file None before now e s = cc
store_one name file (Some f) None now e s = tt
store_one name file (Some f) (Some b) None e s = absurd s
store_one name file (Some f) (Some b) (Some n) e s = let h : f ≡ file = cc in s ∙ ap (λ (l : List ℕ). insert b name l) (sym h)

with_along : (name : List ℕ) (o : Option (List ℕ)) (files before : Option Files) → Stay files before → Stay (with_file name o files) (with_file name o before)
with_along name None files before a = a
with_along name (Some f) None before a = tt
with_along name (Some f) (Some b) None a = absurd a
with_along name (Some f) (Some b) (Some n) a = ap (λ (l : Files). insert l name f) a

-- one line more, from files that are the same where they are told
line_along : (streams : ℕ → Stream) (l : Line) (files before : Option Files) → Stay files before → Stay (saved streams (l ∷ []) files) (saved streams (l ∷ []) before)
line_along streams (line_of.Save k name) files before a = with_along name (file_of (streams k.0)) files before a
line_along streams _ files before a = a

saved_more : (streams : ℕ → Stream) (ls : List Line) (l : Line) (files : Option Files) → saved streams (ls ++ l ∷ []) files ≡ saved streams (l ∷ []) (saved streams ls files)
saved_more streams [] l files = refl
saved_more streams (line_of.Save k name ∷ ls) l files = saved_more streams ls l (with_file name (file_of (streams k.0)) files)
saved_more streams (_ ∷ ls) l files = saved_more streams ls l files

pub save_more : (streams : ℕ → Stream) (ls : List Line) (i : ℕ) (l : Line) (files before now : Option Files) → i < length ls → l ≡ get_or ls i l
    → Stay (saved streams (take i ls) files) before → Stay (saved streams (l ∷ []) before) now → Stay (saved streams (take (i + 1) ls) files) now
save_more streams ls i l files before now lt at h k =
    let more : take (i + 1) ls ≡ take i ls ++ l ∷ [] = take_more ls i l lt ∙ ap (λ (x : Line). take i ls ++ x ∷ []) (sym at) in
    subst (λ (f : Option Files). Stay f now) (sym (ap (λ (x : List Line). saved streams x files) more ∙ saved_more streams (take i ls) l files))
    (stays_along _ _ now (line_along streams l (saved streams (take i ls) files) before h) k)

left_along : (l : Line) (ls : List Line) (s : Status) (files before now : Option Files) → Stay files before → AreLeft (l ∷ []) s before now → AreLeft (l ∷ ls) s files now
left_along (line_of.Save k name) ls status.ShelfFault files before now a b = others_along files before now name a b
left_along (line_of.Save k name) ls _ files before now a b = stays_along files before now a b
left_along _ ls s files before now a b = stays_along files before now a b

pub saved_up_to : (streams : ℕ → Stream) (ls : List Line) (i : ℕ) (l : Line) (s : Status) (files before now : Option Files) → i < length ls → l ≡ get_or ls i l
    → Stay (saved streams (take i ls) files) before → AreLeft (l ∷ []) s before now → IsSavedUpTo streams ls files now s
saved_up_to streams ls i l s files before now lt at h k =
    let front : drop i ls ≡ l ∷ drop (i + 1) ls = drop_more ls i l lt ∙ ap (λ (x : Line). x ∷ drop (i + 1) ls) (sym at) in
    record {
      count = i;
      within = lt;
      left = subst (λ (x : List Line). AreLeft x s (saved streams (take i ls) files) now) (sym front) (left_along l (drop (i + 1) ls) s (saved streams (take i ls) files) before now h k);
    }
