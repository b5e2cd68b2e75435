-- Where a pointer lies in the buffer, and how far the card has gone.
use Rattle.std.proofs.Common.{ℕ, ◌≡◌, ◌+◌, ◌-◌, ◌*◌, ◌/◌, ◌%◌, ◌<◌, ◌≤◌, refl, sym, ◌∙◌, ap, arith, List, length, take, drop, length-take, replicate, ◌++◌, [], ◌∷◌, length-append}
use Rattle.std.proofs.lemmas.Grind.{common_steps}
use Rattle.std.proofs.Math.Seq.{take-append_seam, drop-append_seam}
use Rattle.std.proofs.Math.Nat.{mod-eq_of_lt, mod-mod, add-mod_right, mul-mod_left, mul-div_cancel, mul-le-mul_right}
use Rattle.pcm_base.specs.declared.config.Shape.{Shape}
use Rattle.pcm_base.specs.Shape.{IsSoundShape}
use Rattle.hw_update.specs.declared.HwPtr.{HwPtr}
use Rattle.hw_update.specs.HwPtr.{IsBased}
use Rattle.pcm_laws.proofs.Remainders.{add-mod_whole, sub-mod_small}
use Rattle.pcm_base.specs.model.Frame.{Frame, bytes_of, frames_of}
use Rattle.pcm_base.specs.model.Standing.{Put, standing_at}
use Rattle.ring_memory.specs.Ring.{RingFacts, frames_in}
use Rattle.pcm_stream.specs.Wide.{AreWide}
use Rattle.pcm_stream.specs.Sized.{IsSized}
use Rattle.pcm_stream.proofs.RunsLemmas.{shown-slot}

-- the offset from the base is the slot
pub slot-offset : (s : Shape) (p : HwPtr) → IsBased s p → p.hw % s.buffer ≡ p.hw - p.base
slot-offset s p h =
    let sum : p.hw ≡ p.base + (p.hw - p.base) = omega (arith, h.low) in
    let small : p.hw - p.base < s.buffer = omega (arith, h.low, h.high) in
    ap (λ n. n % s.buffer) sum ∙ add-mod_whole s.buffer p.base (p.hw - p.base) h.whole ∙ mod-eq_of_lt small

-- distances round the buffer
pub gone-below : (b p q d : ℕ) → (p + b - q) % b ≡ d → p < q → q < b → p + b - q ≡ d
gone-below b p q d e h k = let small : p + b - q < b = omega arith in sym (mod-eq_of_lt small) ∙ e

pub gone-above : (b p q d : ℕ) → (p + b - q) % b ≡ d → q ≤ p → p < b → p - q ≡ d
gone-above b p q d e h k =
    let small : p - q < b = omega arith in
    let sum : p + b - q ≡ (p - q) + b = omega arith in
    sym (mod-eq_of_lt small) ∙ sym (add-mod_right (p - q) b) ∙ ap (λ n. n % b) (sym sum) ∙ e

-- how far the card has gone, by the slots of both
pub gone-slots : (b c h q : ℕ) → h ≤ c → c < h + b → q ≡ h % b → (c % b + b - q) % b ≡ c - h
gone-slots b c h q below near e = ap (λ n. (c % b + b - n) % b) e ∙ sub-mod_small b c h below (omega arith)

-- the slot of the reported pointer, from what is shown of it
pub slot-shown_ptr : (s : Shape) (p : HwPtr) → IsSoundShape s → IsBased s p → (h : ℕ) → p.hw ≡ h % s.boundary → p.hw - p.base ≡ h % s.buffer
slot-shown_ptr s p sound based h e = sym (slot-offset s p based) ∙ ap (λ n. n % s.buffer) e ∙ shown-slot s sound h

-- ---- whole frames

pub size-whole : (s : Shape) (r : RingFacts) (n : ℕ) → IsSized s r → (n * s.frame_bytes) % r.frame_bytes ≡ 0
size-whole s r n h = ap (λ w. (n * s.frame_bytes) % w) h.frame_bytes ∙ mul-mod_left n s.frame_bytes

pub size-count : (s : Shape) (r : RingFacts) (n : ℕ) → IsSoundShape s → IsSized s r → n * s.frame_bytes / r.frame_bytes ≡ n
size-count s r n sound h = ap (λ w. n * s.frame_bytes / w) h.frame_bytes ∙ (let some : 0 < s.frame_bytes = omega (arith, sound.frame) in mul-div_cancel n some)

-- frames read from a ring of the stream's sizes
pub read-as : (puts : List Put) (a b p m n w x : ℕ) → a ≡ b → m ≡ n → w ≡ x → bytes_of (standing_at puts a p m (replicate w 0)) ≡ bytes_of (standing_at puts b p n (replicate x 0))
read-as puts a b p m n w x ea em ew =
    ap (λ y. bytes_of (standing_at puts y p m (replicate w 0))) ea
    ∙ ap (λ y. bytes_of (standing_at puts b p y (replicate w 0))) em
    ∙ ap (λ y. bytes_of (standing_at puts b p n (replicate y 0))) ew

-- a vector that was written whole through a slice
pub written_whole : (n : ℕ) (new old : List ℕ) → length new ≡ length old → length old ≡ n → take n (new ++ drop (length new) old) ≡ new
written_whole n new old e k = grind (arith, common_steps)

-- a position and its slot lie in one slot
pub slot-again : (b a p c : ℕ) → a ≡ b → p ≡ c % b → c % a ≡ p % a
slot-again b a p c e h = let m : p % a ≡ c % b % a = ap (λ n. n % a) h in let k : c % b % a ≡ c % a % a = ap (λ n. c % n % a) (sym e) in sym (m ∙ k ∙ mod-mod c a)

-- bytes of so many frames of one width, read as frames again
pub frames_of-bytes_of : (w : ℕ) (fs : List Frame) → AreWide w fs → frames_of (length fs) w (bytes_of fs) ≡ fs
frames_of-bytes_of w [] h = refl
frames_of-bytes_of w (f ∷ fs) h =
    let front : take w (f ++ bytes_of fs) ≡ f = ap (λ n. take n (f ++ bytes_of fs)) (sym h.0) ∙ take-append_seam f (bytes_of fs) in
    let back : drop w (f ++ bytes_of fs) ≡ bytes_of fs = ap (λ n. drop n (f ++ bytes_of fs)) (sym h.0) ∙ drop-append_seam f (bytes_of fs) in
    ap (λ x. x ∷ frames_of (length fs) w (drop w (f ++ bytes_of fs))) front ∙ ap (λ x. f ∷ x) (ap (frames_of (length fs) w) back ∙ frames_of-bytes_of w fs h.1)

pub length-bytes_of : (w : ℕ) (fs : List Frame) → AreWide w fs → length (bytes_of fs) ≡ length fs * w
length-bytes_of w [] h = omega arith
length-bytes_of w (f ∷ fs) h = let r : length (bytes_of fs) ≡ length fs * w = length-bytes_of w fs h.1 in length-append f (bytes_of fs) ∙ grind (arith, r, h.0)

-- what a ring finds in them
pub frames_in-bytes_of : (s : Shape) (r : RingFacts) (n : ℕ) (bytes : List ℕ) (fs : List Frame) → IsSoundShape s → IsSized s r → length fs ≡ n → AreWide s.frame_bytes fs → bytes ≡ bytes_of fs
    → frames_in r bytes ≡ fs
frames_in-bytes_of s r n bytes fs sound h count wide e =
    let whole : length (bytes_of fs) / s.frame_bytes ≡ length fs =
    ap (λ x. x / s.frame_bytes) (length-bytes_of s.frame_bytes fs wide) ∙ (let some : 0 < s.frame_bytes = omega (arith, sound.frame) in mul-div_cancel (length fs) some) in
    ap (frames_in r) e ∙ ap (λ w. frames_of (length (bytes_of fs) / w) w (bytes_of fs)) h.frame_bytes
    ∙ ap (λ k. frames_of k s.frame_bytes (bytes_of fs)) whole ∙ frames_of-bytes_of s.frame_bytes fs wide

pub length-front : (n b w : ℕ) (xs : List ℕ) → length xs ≡ b * w → n ≤ b → length (take (n * w) xs) ≡ n * w
length-front n b w xs e h =
    let small : n * w ≤ b * w = mul-le-mul_right w h in
    grind (arith, length-take (n * w) xs, small, e)
