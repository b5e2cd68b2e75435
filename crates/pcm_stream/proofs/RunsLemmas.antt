-- What moves of the pointers leave of what a runtime stands for.
use Rattle.std.proofs.Common.{ℕ, ◌≡◌, ◌+◌, ◌-◌, ◌*◌, ◌%◌, ◌<◌, ◌≤◌, zero, suc, Bool, true, false, refl, sym, ◌∙◌, ap, arith, List, [], ◌∷◌, length, drop, replicate, ◌++◌, length-take, length-drop}
use Rattle.std.specs.Prelude.{if◌then◌else◌}
use Rattle.std.proofs.Math.Nat.{add-mod_right}
use Rattle.pcm_base.specs.declared.config.Shape.{Shape}
use Rattle.pcm_base.specs.Shape.{IsSoundShape}
use Rattle.pcm_base.specs.model.Frame.{Frame, frames_of}
use Rattle.pcm_base.specs.model.Standing.{Put, put_at}
use Rattle.pcm_laws.proofs.Sizes.{boundary_of-whole}
use Rattle.pcm_laws.proofs.Remainders.{mod-mod_whole, mod-add_same}
use Rattle.std.specs.declared.option.Option.TheVariants.{Some}
use Rattle.std.specs.Prelude.{nat_eq}
use Rattle.std.proofs.lemmas.Bool.Decides.{nat_tests}
use Rattle.pcm_base.specs.declared.config.Config.{Config}
use Rattle.pcm_base.specs.declared.state.Dir.{Dir}
use Rattle.pcm_base.specs.declared.state.Dir.TheVariants as dir
use Rattle.pcm_base.specs.model.Stream.{Stream, avail, head, head_of}
use Rattle.pcm_base.specs.model.Update.{fill_start, fill_count, fill_count_at, silence_byte, silent_frame}
use Rattle.ring_memory.specs.Ring.{RingFacts, IsMadeFor, SameSizes}
use Rattle.pcm_stream.specs.Sized.{IsSized}
use Rattle.pcm_stream.specs.Wide.{AreWide, PutsAreWide}

-- a lap leaves what is shown
pub lapped-shown : (b : Bool) (u l m : ℕ) → l ≡ m → (if b then u + l else u) % m ≡ u % m
lapped-shown true u l m e = ap (λ x. (u + x) % m) e ∙ add-mod_right u m
lapped-shown false u l m e = refl

-- a boundary is whole buffers
pub sound-whole : (s : Shape) → IsSoundShape s → s.boundary % s.buffer ≡ 0
sound-whole s h = ap (λ l. l % s.buffer) h.boundary ∙ boundary_of-whole s.buffer (s.boundary + s.buffer)

-- a shown position lies in the slot of the position
pub shown-slot : (s : Shape) → IsSoundShape s → (p : ℕ) → p % s.boundary % s.buffer ≡ p % s.buffer
shown-slot s h p = mod-mod_whole s.buffer s.boundary p (sound-whole s h)

-- ---- frames of one width

pub AreWide-frames_of : (n w : ℕ) (bytes : List ℕ) → n * w ≤ length bytes → AreWide w (frames_of n w bytes)
AreWide-frames_of zero w bytes h = tt
AreWide-frames_of (suc n) w bytes h =
    let first : w ≤ length bytes = grind (arith, h) in
    let rest : n * w ≤ length (drop w bytes) = grind (arith, length-drop w bytes, h) in
    ((grind (arith, length-take w bytes, first)), AreWide-frames_of n w (drop w bytes) rest)

pub AreWide-replicate : (n w : ℕ) (f : Frame) → length f ≡ w → AreWide w (replicate n f)
AreWide-replicate zero w f h = tt
AreWide-replicate (suc n) w f h = (h, AreWide-replicate n w f h)

PutsAreWide-snoc : (w : ℕ) (qs : List Put) (q : Put) → PutsAreWide w qs → length q.frame ≡ w → PutsAreWide w (qs ++ q ∷ [])
PutsAreWide-snoc w [] q k h = (h, tt)
PutsAreWide-snoc w (r ∷ qs) q k h = (k.0, PutsAreWide-snoc w qs q k.1 h)

pub PutsAreWide-put_at : (w p : ℕ) (fs : List Frame) (qs : List Put) → AreWide w fs → PutsAreWide w qs → PutsAreWide w (put_at p fs qs)
PutsAreWide-put_at w p [] qs h k = k
PutsAreWide-put_at w p (f ∷ fs) qs h k = PutsAreWide-put_at w (p + 1) fs (qs ++ record { at = p; frame = f } ∷ []) h.1 (PutsAreWide-snoc w qs (record { at = p; frame = f }) k h.0)

pub length-frames_of : (n w : ℕ) (bytes : List ℕ) → length (frames_of n w bytes) ≡ n
length-frames_of zero w bytes = refl
length-frames_of (suc n) w bytes = ap suc (length-frames_of n w (drop w bytes))

-- ---- silence

-- where the application position lies ahead of the hardware position, by the frames that are free
pub queued-frames : (h b u avail queued : ℕ) → avail ≡ h + b - u → queued ≡ b - avail → u ≤ h + b → u - h ≡ queued
queued-frames h b u avail queued e q k = omega arith

pub playback-avail : (s : Stream) → s.dir ≡ dir.Playback → avail s ≡ s.at.hw + s.setup.buffer - s.at.appl
playback-avail s e = ap (λ (d : Dir). head_of d s.setup.buffer s.at.hw - s.at.appl) e

pub playback-head : (s : Stream) → s.dir ≡ dir.Playback → head s ≡ s.at.hw + s.setup.buffer
playback-head s e = ap (λ (d : Dir). head_of d s.setup.buffer s.at.hw) e

pub playback-fill_count : (s : Stream) → s.dir ≡ dir.Playback → fill_count s ≡ fill_count_at (fill_start s) s
playback-fill_count s e = ap (λ (d : Dir). elim d as (λ _. ℕ) [ dir.Playback ↦ fill_count_at (fill_start s) s | dir.Capture ↦ 0 ]) e

pub filled-ahead : (n x start count h e : ℕ) → n ≡ count → x ≡ h + start → 0 < count → (if nat_eq n 0 then e else x + n) - h ≡ start + count
filled-ahead n x start count h e a b k = grind (arith, nat_tests)

-- a sum of a shown position lies in the slot of the sum of the position
pub shown-slot-add : (s : Shape) → IsSoundShape s → (p x : ℕ) → (p % s.boundary + x) % s.buffer ≡ (p + x) % s.buffer
shown-slot-add s h p x = mod-add_same s.buffer (p % s.boundary) p x (shown-slot s h p)

pub silent-frames : (s : Stream) (n m w b : ℕ) (c : Config) → n ≡ m → s.setup.frame_bytes ≡ w → s.setup.config ≡ Some c → silence_byte (Some c) ≡ b
    → replicate m (replicate w b) ≡ replicate n (silent_frame s)
silent-frames s n m w b c en ew ec eb =
    let byte : silence_byte s.setup.config ≡ b = ap silence_byte ec ∙ eb in
    sym (ap (λ x. replicate x (silent_frame s)) en ∙ ap (λ x. replicate m (replicate x (silence_byte s.setup.config))) ew ∙ ap (λ x. replicate m (replicate w x)) byte)

-- ---- sizes

pub sized_made : (s : Shape) (b : Bool) (r : RingFacts) → IsMadeFor s b r → IsSized s r
sized_made s b r h = record { frame_bytes = h.frame_bytes; channels = h.channels; buffer = h.buffer }

pub sized_same : (s : Shape) (r t : RingFacts) → SameSizes r t → IsSized s r → IsSized s t
sized_same s r t h k = record { frame_bytes = h.frame_bytes ∙ k.frame_bytes; channels = h.channels ∙ k.channels; buffer = h.buffer ∙ k.buffer }
