-- The frames that are recorded, a period at a time.
use Rattle.std.proofs.Common.{ℕ, zero, suc, ◌≡◌, ◌+◌, ◌-◌, ◌*◌, ◌/◌, ◌%◌, ◌<◌, ◌≤◌, List, [], ◌∷◌, ◌++◌, length, take, drop, min, replicate, refl, sym, ap, ◌∙◌, ◌⊎◌, inl, inr, subst, arith, length-take, length-drop}
use Rattle.std.proofs.Math.Path.{ap₂}
use Rattle.std.proofs.Math.Nat.{add-mul, le_of_mul-le-mul_right, mod-add-div', mul-le-mul_right, mul-mod_left, mul-sub, mul_comm}
use Rattle.std.proofs.lemmas.Grind.{div_ceil_times}
use Rattle.std.proofs.lemmas.List.{take_all, take_min}
use Rattle.std.proofs.lemmas.Slice.{take-put_mid}
use borrow.Rule.Slice.PartMut.{mid_of, put_mid, same_len_mid}
use Rattle.pcm_base.specs.model.Frame.{Frame, bytes_of, frames_of}
use Rattle.pcm_base.specs.model.Movement.{padded}
use Rattle.play_record.proofs.Frames.{bytes_of-append, bytes_of-frames_of, bytes_of-replicate, length-frames_of, padded-add}

-- turn i of n frames by 256: e are moved in it
pub record IsTurn (i n e : ℕ) : Type 0 where
  pub before : i * 256 < n
  pub some : 1 ≤ e
  pub few : e ≤ 256
  pub inside : i * 256 + e ≤ n
  pub done : min (i * 256) n ≡ i * 256
  pub next : min ((i + 1) * 256) n ≡ i * 256 + e

pub turn-is : (i n e turns : ℕ) → i < turns → turns ≡ n / 256 + min 1 (n % 256) → e ≡ min 256 (n - i * 256) → IsTurn i n e
turn-is i n e turns less is rest =
    let least : 0 < 256 = omega arith in
    let bounds = div_ceil_times n 256 least in
    let upper : turns * 256 < n + 256 = subst (λ x. x * 256 < n + 256) (sym is) bounds.1 in
    let next : (i + 1) * 256 ≤ turns * 256 = mul-le-mul_right 256 (omega (arith, less)) in
    let before : i * 256 < n = omega (arith, upper, next) in
    record {
      before = before;
      some = omega (arith, before, rest);
      few = omega (arith, rest);
      inside = omega (arith, before, rest);
      done = omega (arith, before);
      next = omega (arith, before, rest);
    }

pub turns-end : (n turns : ℕ) → turns ≡ n / 256 + min 1 (n % 256) → n ≤ turns * 256
turns-end n turns is = let least : 0 < 256 = omega arith in subst (λ x. n ≤ x * 256) (sym is) (div_ceil_times n 256 least).0

-- the bytes of a turn
pub turn-fits : (i n e f : ℕ) → IsTurn i n e → i * 256 * f + e * f ≤ n * f
turn-fits i n e f t =
    let h : (i * 256 + e) * f ≤ n * f = mul-le-mul_right f t.inside in
    omega (arith, h, add-mul (i * 256) e f)

pub turn-length : (a k all : ℕ) (out : List ℕ) → a + k ≤ all → length out ≡ all → length (take (a + k - a) (drop a out)) ≡ k
turn-length a k all out fits size =
    let count : a + k - a ≡ k = omega arith in
    ap (λ x. length (take x (drop a out))) count ∙ (length-take k (drop a out) ∙ (let rest : length (drop a out) ≡ length out - a = length-drop a out in omega (arith, rest, fits, size)))

-- the bytes after a turn are those before it and those of the turn
pub turn-put : (i n e f : ℕ) (out piece : List ℕ) (given : List Frame) (z : Frame) → IsTurn i n e → length out ≡ n * f → length piece ≡ e * f
    → take (min (i * 256) n * f) out ≡ bytes_of (padded (min (i * 256) n) given z) → piece ≡ bytes_of (padded e (drop (i * 256) given) z)
    → take (min ((i + 1) * 256) n * f) (put_mid (i * 256 * f) (i * 256 * f + e * f - i * 256 * f) out piece) ≡ bytes_of (padded (min ((i + 1) * 256) n) given z)
turn-put i n e f out piece given z t size len was is =
    let d : ℕ = i * 256 in
    let all : d * f + e * f ≤ n * f = turn-fits i n e f t in
    let place : (d + e) * f ≡ d * f + length piece = add-mul d e f ∙ ap (λ x. d * f + x) (sym len) in
    let within : d * f ≤ length out = omega (arith, all, size) in
    let front : take (d * f) out ≡ bytes_of (padded d given z) = subst (λ x. take (x * f) out ≡ bytes_of (padded x given z)) t.done was in
    let now : take ((d + e) * f) (put_mid (d * f) (d * f + e * f - d * f) out piece) ≡ bytes_of (padded (d + e) given z) =
    take-put_mid (d * f) (d * f + e * f - d * f) out piece ((d + e) * f) place within
    ∙ (ap₂ (λ x y. x ++ y) front is ∙ (sym (bytes_of-append (padded d given z) (padded e (drop d given) z)) ∙ ap bytes_of (sym (padded-add d e given z)))) in
    subst (λ x. take (x * f) (put_mid (d * f) (d * f + e * f - d * f) out piece) ≡ bytes_of (padded x given z)) (sym t.next) now

pub put-length : (a k n : ℕ) (out piece : List ℕ) → length out ≡ n → length piece ≡ length (take k (drop a out)) → length (put_mid a k out piece) ≡ n
put-length a k n out piece size len = same_len_mid a k out piece len ∙ size

pub none_of : (n : ℕ) → 0 ≡ min 0 n
none_of n = omega arith

-- nothing is recorded
pub none-put : (n f : ℕ) (out : List ℕ) (given : List Frame) (z : Frame) → take (min 0 n * f) out ≡ bytes_of (padded (min 0 n) given z)
none-put n f out given z =
    let none : 0 ≡ min 0 n = omega arith in
    let no_bytes : 0 * f ≡ 0 = omega arith in
    let no_frames : 0 - length given ≡ 0 = omega arith in
    subst (λ x. take (x * f) out ≡ bytes_of (padded x given z)) none
    (ap (λ x. take x out) no_bytes ∙ sym (ap (λ x. bytes_of (replicate x z)) no_frames))

-- all is recorded
pub all-put : (m n f : ℕ) (out : List ℕ) (given : List Frame) (z : Frame) → n ≤ m → length out ≡ n * f → take (min m n * f) out ≡ bytes_of (padded (min m n) given z) → out ≡ bytes_of (padded n given z)
all-put m n f out given z end size was =
    let is : min m n ≡ n = omega (arith, end) in
    sym (take_all (n * f) out (omega (arith, size))) ∙ subst (λ x. take (x * f) out ≡ bytes_of (padded x given z)) is was

-- ---- the frames that are given, and what is recorded of them

whole_of : (len w : ℕ) → len % w ≡ 0 → len / w * w ≡ len
whole_of len w h = let e : len % w + len / w * w ≡ len = mod-add-div' len w in omega (arith, e, h)

-- the lesser of two counts of whole frames is one of them
by_order : (a b c : ℕ) (P : ℕ → Type 0) → min a b ≡ c → P a → P b → (d : ℕ) → (a ≡ b + d) ⊎ (b ≡ a + d) → P c
by_order a b c P is p q d (inl e) = subst P (let k : b ≡ c = omega (arith, e, is) in k) q
by_order a b c P is p q d (inr e) = subst P (let k : a ≡ c = omega (arith, e, is) in k) p

order : (a b : ℕ) → (d : ℕ) × ((a ≡ b + d) ⊎ (b ≡ a + d))
order zero b = (b, inr (omega arith))
order (suc a) zero = (suc a, inl (omega arith))
order (suc a) (suc b) = up (order a b)
  where
    up : (d : ℕ) × ((a ≡ b + d) ⊎ (b ≡ a + d)) → (d : ℕ) × ((suc a ≡ suc b + d) ⊎ (suc b ≡ suc a + d))
    up (d, inl e) = (d, inl (omega (arith, e)))
    up (d, inr e) = (d, inr (omega (arith, e)))

pub min-whole : (n len w : ℕ) → len % w ≡ 0 → min (n * w) len % w ≡ 0
min-whole n len w h =
    let o : (d : ℕ) × ((n * w ≡ len + d) ⊎ (len ≡ n * w + d)) = order (n * w) len in
    by_order (n * w) len (min (n * w) len) (λ x. x % w ≡ 0) refl (mul-mod_left n w) h o.0 o.1

-- the first frames of a sound, zero frames past its end
pub recorded-bytes : (n w : ℕ) (frames : List ℕ) → 1 ≤ w → length frames % w ≡ 0
    → bytes_of (padded n (frames_of (length (take (min (n * w) (length frames)) frames) / w) w (take (min (n * w) (length frames)) frames)) (replicate w 0)) ≡ take (n * w) frames ++ replicate (n * w - length frames) 0
recorded-bytes n w frames wide whole =
    let k : ℕ = min (n * w) (length frames) in
    let s : List ℕ = take k frames in
    let long : length s ≡ k = length-take k frames ∙ omega arith in
    let q : ℕ = length s / w in
    let parts : q * w ≡ k = whole_of (length s) w (ap (λ x. x % w) long ∙ min-whole n (length frames) w whole) ∙ long in
    let gs : List Frame = frames_of q w s in
    let count : length gs ≡ q = length-frames_of q w s in
    let fewer : q * w ≤ n * w = omega (arith, parts) in
    let less : q ≤ n = le_of_mul-le-mul_right fewer (omega (arith, wide)) in
    let all : take n gs ≡ gs = take_all n gs (omega (arith, count, less)) in
    let front : bytes_of gs ≡ take (n * w) frames = bytes_of-frames_of q w s ∙ (take_all (q * w) s (omega (arith, long, parts)) ∙ take_min (n * w) frames) in
    let left_over : n * w - q * w ≡ n * w - length frames = omega (arith, parts) in
    let rest : (n - q) * w ≡ n * w - length frames = (mul_comm (n - q) w ∙ (mul-sub w n q ∙ ap₂ (λ x y. x - y) (mul_comm w n) (mul_comm w q))) ∙ left_over in
    ap (λ l. bytes_of (l ++ replicate (n - length gs) (replicate w 0))) all
    ∙ (ap (λ x. bytes_of (gs ++ replicate (n - x) (replicate w 0))) count
    ∙ (bytes_of-append gs (replicate (n - q) (replicate w 0))
    ∙ ap₂ (λ x y. x ++ y) front (bytes_of-replicate (n - q) w ∙ ap (λ x. replicate x 0) rest)))
