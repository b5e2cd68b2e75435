-- What a movement does, case by case.
use Rattle.std.proofs.Common.{ℕ, ◌≡◌, ◌+◌, ◌-◌, ◌*◌, ◌<◌, ◌≤◌, Bool, true, false, not, List, [], ◌∷◌, ◌++◌, length, take, drop, refl, sym, ◌∙◌, ap, arith, append_assoc, zero, suc, min}
use Rattle.std.specs.Prelude.{nat_le, nat_lt, if◌then◌else◌, ◌^◌}
use Rattle.std.proofs.lemmas.Bool.Decides.{nat_tests}
use Rattle.pcm_base.specs.declared.reply.Reply.TheVariants as reply
use Rattle.pcm_base.specs.declared.state.Dir.{Dir}
use Rattle.pcm_base.specs.declared.state.Dir.TheVariants as dir
use Rattle.pcm_base.specs.model.Frame.{Frame, bytes_of}
use Rattle.pcm_base.specs.model.Standing.{Put, same_slot, standing, standing_at, put_at}
use Rattle.pcm_base.specs.model.Stream.{Stream}
use Rattle.pcm_base.specs.model.Movement.{Movement, bytes_taken, carried, carried_by, carried_frames, given_by, move, taken_by, taken_bytes}
use Rattle.pcm_stream.specs.Wide.{AreWide, PutsAreWide}

abbrev idle : Stream → Movement
idle s = record { reply = reply.Idle; frames = []; stream = s }

abbrev late : Stream → Movement
late s = record { reply = reply.Late (s.setup.buffer - 1 - (s.at.card - s.at.hw)); frames = []; stream = s }

abbrev limited : ℕ → Stream → Movement
limited n s = record { reply = reply.Limit (taken_bytes n s); frames = []; stream = s }

abbrev moved : ℕ → Stream → Movement
moved n s = record { reply = reply.Moved n; frames = carried_frames n s; stream = carried n s }

abbrev by_tests : ℕ → Stream → Bool → Bool → Bool → Movement
by_tests n s stands far much = if stands then idle s else if far then late s else if much then limited n s else moved n s

pub move-idle : (n : ℕ) (s : Stream) → s.card.runs ≡ false → move n s ≡ record { reply = reply.Idle; frames = []; stream = s }
move-idle n s h = ap (λ b. by_tests n s (not b) (nat_le (s.at.hw + s.setup.buffer) (s.at.card + n)) (nat_lt 67108864 (taken_bytes n s))) h

pub move-late : (n : ℕ) (s : Stream) → s.card.runs ≡ true → s.at.hw + s.setup.buffer ≤ s.at.card + n
    → move n s ≡ record { reply = reply.Late (s.setup.buffer - 1 - (s.at.card - s.at.hw)); frames = []; stream = s }
move-late n s h k =
    let e : nat_le (s.at.hw + s.setup.buffer) (s.at.card + n) ≡ true = grind (arith, nat_tests, k) in
    ap (λ b. by_tests n s (not b) (nat_le (s.at.hw + s.setup.buffer) (s.at.card + n)) (nat_lt 67108864 (taken_bytes n s))) h
    ∙ ap (λ b. by_tests n s false b (nat_lt 67108864 (taken_bytes n s))) e

pub move-limit : (n : ℕ) (s : Stream) → s.card.runs ≡ true → s.at.card + n < s.at.hw + s.setup.buffer → 67108864 < taken_bytes n s
    → move n s ≡ record { reply = reply.Limit (taken_bytes n s); frames = []; stream = s }
move-limit n s h k l =
    let e : nat_le (s.at.hw + s.setup.buffer) (s.at.card + n) ≡ false = grind (arith, nat_tests, k) in
    let f : nat_lt 67108864 (taken_bytes n s) ≡ true = grind (arith, nat_tests, l) in
    ap (λ b. by_tests n s (not b) (nat_le (s.at.hw + s.setup.buffer) (s.at.card + n)) (nat_lt 67108864 (taken_bytes n s))) h
    ∙ ap (λ b. by_tests n s false b (nat_lt 67108864 (taken_bytes n s))) e
    ∙ ap (λ b. by_tests n s false false b) f

pub move-done : (n : ℕ) (s : Stream) → s.card.runs ≡ true → s.at.card + n < s.at.hw + s.setup.buffer → taken_bytes n s ≤ 67108864
    → move n s ≡ record { reply = reply.Moved n; frames = carried_frames n s; stream = carried n s }
move-done n s h k l =
    let e : nat_le (s.at.hw + s.setup.buffer) (s.at.card + n) ≡ false = grind (arith, nat_tests, k) in
    let f : nat_lt 67108864 (taken_bytes n s) ≡ false = grind (arith, nat_tests, l) in
    ap (λ b. by_tests n s (not b) (nat_le (s.at.hw + s.setup.buffer) (s.at.card + n)) (nat_lt 67108864 (taken_bytes n s))) h
    ∙ ap (λ b. by_tests n s false b (nat_lt 67108864 (taken_bytes n s))) e
    ∙ ap (λ b. by_tests n s false false b) f

-- a playback card's
abbrev pub played : ℕ → Stream → Stream
played n s = record s { card = record s.card { taken = s.card.taken ++ taken_by n s }; at = record s.at { card = s.at.card + n }; moved = s.moved + n }

-- a capture card's
abbrev pub captured : ℕ → Stream → Stream
captured n s = record s { card = record s.card { to_give = drop n s.card.to_give }; puts = put_at s.at.card (given_by n s) s.puts; at = record s.at { card = s.at.card + n }; moved = s.moved + n }

pub carried-playback : (n : ℕ) (s : Stream) → s.dir ≡ dir.Playback → carried n s ≡ played n s
carried-playback n s e = ap (λ (d : Dir). carried_by d n s) e

pub carried-capture : (n : ℕ) (s : Stream) → s.dir ≡ dir.Capture → carried n s ≡ captured n s
carried-capture n s e = ap (λ (d : Dir). carried_by d n s) e

pub taken_bytes-playback : (n : ℕ) (s : Stream) → s.dir ≡ dir.Playback → taken_bytes n s ≡ (length s.card.taken + n) * s.setup.frame_bytes
taken_bytes-playback n s e = ap (λ (d : Dir). bytes_taken d n s) e

pub taken_bytes-capture : (n : ℕ) (s : Stream) → s.dir ≡ dir.Capture → taken_bytes n s ≡ 0
taken_bytes-capture n s e = ap (λ (d : Dir). bytes_taken d n s) e

-- ---- widths

standing-wide : (w : ℕ) (qs : List Put) (b p : ℕ) (z : Frame) → PutsAreWide w qs → length z ≡ w → length (standing qs b p z) ≡ w
standing-wide w [] b p z h k = k
standing-wide w (q ∷ qs) b p z h k = standing-wide w qs b p (if same_slot b q.at p then q.frame else z) h.1 (by (same_slot b q.at p))
  where
    by : (t : Bool) → length (if t then q.frame else z) ≡ w
    by true = h.0
    by false = k

pub AreWide-standing_at : (w : ℕ) (qs : List Put) (b p n : ℕ) (z : Frame) → PutsAreWide w qs → length z ≡ w → AreWide w (standing_at qs b p n z)
AreWide-standing_at w qs b p zero z h k = tt
AreWide-standing_at w qs b p (suc n) z h k = (standing-wide w qs b p z h k, AreWide-standing_at w qs b (p + 1) n z h k)

pub AreWide-append : (w : ℕ) (fs gs : List Frame) → AreWide w fs → AreWide w gs → AreWide w (fs ++ gs)
AreWide-append w [] gs h k = k
AreWide-append w (f ∷ fs) gs h k = (h.0, AreWide-append w fs gs h.1 k)

pub bytes_of-append : (fs gs : List Frame) → bytes_of (fs ++ gs) ≡ bytes_of fs ++ bytes_of gs
bytes_of-append [] gs = refl
bytes_of-append (f ∷ fs) gs = ap (λ x. f ++ x) (bytes_of-append fs gs) ∙ sym (append_assoc f (bytes_of fs) (bytes_of gs))

pub AreWide-take : (w n : ℕ) (fs : List Frame) → AreWide w fs → AreWide w (take n fs)
AreWide-take w zero fs h = tt
AreWide-take w (suc n) [] h = tt
AreWide-take w (suc n) (f ∷ fs) h = (h.0, AreWide-take w n fs h.1)

pub AreWide-drop : (w n : ℕ) (fs : List Frame) → AreWide w fs → AreWide w (drop n fs)
AreWide-drop w zero fs h = h
AreWide-drop w (suc n) [] h = h
AreWide-drop w (suc n) (f ∷ fs) h = AreWide-drop w n fs h.1

-- ---- the count of moved frames, which stays at its last value

pub count-more : (m n r : ℕ) → r ≡ min m (2 ^ 64 - 1) → min (r + n) (2 ^ 64 - 1) ≡ min (m + n) (2 ^ 64 - 1)
count-more m n r e = omega arith
