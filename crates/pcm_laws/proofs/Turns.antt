-- One turn of the loop, followed by the closed form of what is left, is the closed form of all.
use Rattle.std.proofs.Common.{ℕ, zero, suc, ◌≡◌, ◌+◌, ◌-◌, ◌%◌, ◌≤◌, ◌<◌, Bool, true, false, cond, nat_eq, List, [], ◌∷◌, ◌++◌, length, take, drop, min, refl, sym, ap, ◌∙◌, arith, append_assoc, length-take, length-drop, length-append}
use Rattle.std.proofs.Math.Path.{ap₂}
use Rattle.std.proofs.Math.Seq.{take-add}
use Rattle.std.proofs.lemmas.Bool.Decides.{nat_tests}
use Rattle.std.specs.declared.option.Option.{Option}
use Rattle.std.specs.declared.option.Option.TheVariants.{Some, None}
use Rattle.std.specs.Option.{option_map}
use Rattle.pcm_base.specs.declared.act.Act.TheVariants as act
use Rattle.pcm_base.specs.declared.ids.ClientId.{ClientId}
use Rattle.pcm_base.specs.declared.reply.Reply.TheVariants as reply
use Rattle.pcm_base.specs.declared.sleeper.Xfer.{Xfer}
use Rattle.pcm_base.specs.model.Frame.{Frame}
use Rattle.pcm_base.specs.model.PointerCalls.{on_by}
use Rattle.pcm_base.specs.model.Program.{Makes}
use Rattle.pcm_base.specs.model.Stream.{Stream, avail, zero_frame}
use Rattle.pcm_base.specs.model.Transfer.{after_moves, after_start, is_filled, least, put_next, read_next, read_on, starting_halt, stuck, tells, write_from, write_on, write_plain}
use Rattle.pcm_base.specs.model.Words.{is_prepared}
use Rattle.pcm_laws.proofs.Puts.{put_at-append, standing_at-add}
use Rattle.pcm_laws.proofs.Halts.{starting_halt-turn, turn_starts, starts}

pub put_next-append : (fs gs : List Frame) (s : Stream) → put_next (fs ++ gs) s ≡ put_next gs (put_next fs s)
put_next-append fs gs s =
    let e : s.at.appl + length (fs ++ gs) ≡ s.at.appl + length fs + length gs = omega (arith, length-append fs gs) in
    ap₂ (λ qs u. record s { puts = qs; at = record s.at { appl = u } }) (put_at-append s.at.appl fs gs s.puts) e

pub avail-put_next : (fs : List Frame) (s : Stream) → avail (put_next fs s) ≡ avail s - length fs
avail-put_next fs s = omega arith

pub take-split : (c n : ℕ) (ws : List Frame) → c ≤ n → take n ws ≡ take c ws ++ take (n - c) (drop c ws)
take-split c n ws h = let e : n ≡ c + (n - c) = omega (arith, h) in ap (λ i. take i ws) e ∙ take-add c (n - c) ws

pub drop-split : (c n : ℕ) (ws : List Frame) → drop (n + c) ws ≡ drop n (drop c ws)
drop-split zero n ws = let e : n + 0 ≡ n = omega arith in ap (λ i. drop i ws) e
drop-split (suc c) n [] = none (n + suc c) n
  where
    none : (i j : ℕ) → drop {A = Frame} i [] ≡ drop j []
    none zero zero = refl
    none zero (suc j) = refl
    none (suc i) zero = refl
    none (suc i) (suc j) = refl
drop-split (suc c) n (w ∷ ws) = let e : n + suc c ≡ suc (n + c) = omega arith in ap (λ i. drop i (w ∷ ws)) e ∙ drop-split c n ws

same_moves : (c : ClientId) (x : Xfer) (fs gs : List Frame) (r q : ℕ) (s t : Stream) → fs ≡ gs → r ≡ q → s ≡ t → after_moves c x fs r s ≡ after_moves c x gs q t
same_moves c x fs gs r q s t e f g = ap (λ l. after_moves c x l r s) e ∙ ap₂ (λ i u. after_moves c x gs i u) f g

-- what is left of the frames that can move
left_over : (c : ℕ) (ws : List Frame) (s : Stream) → c ≤ min (length ws) (avail s) → min (length (drop c ws)) (avail (put_next (take c ws) s)) ≡ min (length ws) (avail s) - c
left_over c ws s h =
    let e1 : length (drop c ws) ≡ length ws - c = length-drop c ws in
    let e2 : length (take c ws) ≡ c = length-take c ws ∙ omega (arith, h) in
    let e3 : avail (put_next (take c ws) s) ≡ avail s - c = avail-put_next (take c ws) s ∙ ap (λ i. avail s - i) e2 in
    ap₂ min e1 e3 ∙ omega arith

pub write_plain-turn : (ct : ClientId) (x : Xfer) (fs ws : List Frame) (s : Stream) (c : ℕ) → c ≤ min (length ws) (avail s)
    → write_plain ct x fs ws s ≡ write_plain ct x (fs ++ take c ws) (drop c ws) (put_next (take c ws) s)
write_plain-turn ct x fs ws s c h =
    let n : ℕ = min (length ws) (avail s) in
    let s1 : Stream = put_next (take c ws) s in
    let m : ℕ = min (length (drop c ws)) (avail s1) in
    let e : m ≡ n - c = left_over c ws s h in
    let pieces : take n ws ≡ take c ws ++ take m (drop c ws) = take-split c n ws h ∙ ap (λ i. take c ws ++ take i (drop c ws)) (sym e) in
    let frames : fs ++ take n ws ≡ (fs ++ take c ws) ++ take m (drop c ws) = ap (λ l. fs ++ l) pieces ∙ sym (append_assoc fs (take c ws) (take m (drop c ws))) in
    let rest : length ws - n ≡ length (drop c ws) - m = omega (arith, e, length-drop c ws, h) in
    same_moves ct x (fs ++ take n ws) ((fs ++ take c ws) ++ take m (drop c ws)) (length ws - n) (length (drop c ws) - m) (put_next (take n ws) s) (put_next (take m (drop c ws)) s1)
    frames rest (ap (λ l. put_next l s) pieces ∙ put_next-append (take c ws) (take m (drop c ws)) s)

-- a write in another state than PREPARED starts nothing
no_start : (b : Bool) (o : Option ℕ) → b ≡ false → cond b o None ≡ None
no_start true o h = absurd (cc)
no_start false o h = refl

pub write_on-started : (ct : ClientId) (x : Xfer) (fs ws : List Frame) (s : Stream) → is_prepared s.state ≡ false → write_on ct x fs ws s ≡ write_plain ct x fs ws s
write_on-started ct x fs ws s h =
    let n : ℕ = min (length ws) (avail s) in
    ap (write_from ct x fs ws s) (no_start (is_prepared s.state) (least (starts s n) 1 n) h)

-- a turn that starts the group
pub write_on-starting_turn : (ct : ClientId) (x : Xfer) (fs ws : List Frame) (s : Stream) (c : ℕ) → 0 < s.setup.buffer → 0 < min (length ws) (avail s)
    → c ≡ min (min (length ws) (avail s)) (s.setup.buffer - s.at.appl % s.setup.buffer) → is_prepared s.state ≡ true → is_filled s c ≡ true
    → write_on ct x fs ws s ≡ Makes act.Start (put_next (take c ws) s) (after_start ct x (fs ++ take c ws) (drop c ws))
write_on-starting_turn ct x fs ws s c z p e q f =
    let n : ℕ = min (length ws) (avail s) in
    ap (write_from ct x fs ws s) (ap (λ b. cond b (least (starts s n) 1 n) None) q ∙ turn_starts s n c z p e f)

-- a turn that does not start the group
pub write_on-quiet_turn : (ct : ClientId) (x : Xfer) (fs ws : List Frame) (s : Stream) (c : ℕ) → 0 < s.setup.buffer → 0 < min (length ws) (avail s)
    → c ≡ min (min (length ws) (avail s)) (s.setup.buffer - s.at.appl % s.setup.buffer) → is_filled s c ≡ false
    → write_on ct x fs ws s ≡ write_on ct x (fs ++ take c ws) (drop c ws) (put_next (take c ws) s)
write_on-quiet_turn ct x fs ws s c z p e f =
    let n : ℕ = min (length ws) (avail s) in
    let s1 : Stream = put_next (take c ws) s in
    let h : c ≤ n = omega (arith, e) in
    let len : length (take c ws) ≡ c = length-take c ws ∙ omega (arith, h) in
    let agree : starting_halt s n ≡ option_map (λ i. i + c) (starting_halt s1 (n - c)) = starting_halt-turn s n c (take c ws) len (omega (arith, h)) z p e f in
    let left : starting_halt s1 (n - c) ≡ starting_halt s1 (min (length (drop c ws)) (avail s1)) = ap (starting_halt s1) (sym (left_over c ws s h)) in
    ap (write_from ct x fs ws s) (agree ∙ ap (option_map (λ i. i + c)) left) ∙ by (starting_halt s1 (min (length (drop c ws)) (avail s1)))
  where
    same_makes : (t t' : Stream) (gs gs' vs vs' : List Frame) → t ≡ t' → gs ≡ gs' → vs ≡ vs' → Makes act.Start t (after_start ct x gs vs) ≡ Makes act.Start t' (after_start ct x gs' vs')
    same_makes t t' gs gs' vs vs' a b d = ap (λ u. Makes act.Start u (after_start ct x gs vs)) a ∙ ap₂ (λ l k. Makes act.Start t' (after_start ct x l k)) b d

    by : (o : Option ℕ) → write_from ct x fs ws s (option_map (λ i. i + c) o) ≡ write_from ct x (fs ++ take c ws) (drop c ws) (put_next (take c ws) s) o
    by None = write_plain-turn ct x fs ws s c (omega (arith, e))
    by (Some t) =
        let order : t + c ≡ c + t = omega arith in
        let pieces : take (t + c) ws ≡ take c ws ++ take t (drop c ws) = ap (λ i. take i ws) order ∙ take-add c t ws in
        same_makes (put_next (take (t + c) ws) s) (put_next (take t (drop c ws)) (put_next (take c ws) s)) (fs ++ take (t + c) ws) ((fs ++ take c ws) ++ take t (drop c ws)) (drop (t + c) ws) (drop t (drop c ws))
        (ap (λ l. put_next l s) pieces ∙ put_next-append (take c ws) (take t (drop c ws)) s)
        (ap (λ l. fs ++ l) pieces ∙ sym (append_assoc fs (take c ws) (take t (drop c ws))))
        (drop-split c t ws)

-- nothing can move

append_none : (fs : List Frame) → fs ++ [] ≡ fs
append_none [] = refl
append_none (f ∷ fs) = ap (λ l. f ∷ l) (append_none fs)

put_none : (s : Stream) → put_next [] s ≡ s
put_none s = let e : s.at.appl + 0 ≡ s.at.appl = omega arith in ap (λ u. record s { at = record s.at { appl = u } }) e

on_none : (s : Stream) → on_by 0 s ≡ s
on_none s = let e : s.at.appl + 0 ≡ s.at.appl = omega arith in ap (λ u. record s { at = record s.at { appl = u } }) e

moves_stuck : (ct : ClientId) (x : Xfer) (fs : List Frame) (r : ℕ) (s : Stream) → 0 < r → after_moves ct x fs r s ≡ stuck ct x fs r s
moves_stuck ct x fs r s h = let e : nat_eq r 0 ≡ false = grind (arith, nat_tests, h) in ap (λ b. cond b (tells (reply.Frames (x.moved + length fs)) x fs s) (stuck ct x fs r s)) e

pub write_plain-stuck : (ct : ClientId) (x : Xfer) (fs ws : List Frame) (s : Stream) → avail s ≡ 0 → 0 < length ws → write_plain ct x fs ws s ≡ stuck ct x fs (length ws) s
write_plain-stuck ct x fs ws s h p =
    let e : min (length ws) (avail s) ≡ 0 = omega (arith, h) in
    ap (λ n. after_moves ct x (fs ++ take n ws) (length ws - n) (put_next (take n ws) s)) e
    ∙ (let e1 : length ws - 0 ≡ length ws = omega arith in
    same_moves ct x (fs ++ []) fs (length ws - 0) (length ws) (put_next [] s) s (append_none fs) e1 (put_none s)
    ∙ moves_stuck ct x fs (length ws) s p)

no_least : (b : Bool) (t : ℕ → Bool) (n : ℕ) → n ≡ 0 → cond b (least t 1 n) None ≡ None
no_least true t n h = ap (least t 1) h
no_least false t n h = refl

pub write_on-stuck : (ct : ClientId) (x : Xfer) (fs ws : List Frame) (s : Stream) → avail s ≡ 0 → 0 < length ws → write_on ct x fs ws s ≡ stuck ct x fs (length ws) s
write_on-stuck ct x fs ws s h p =
    let e : min (length ws) (avail s) ≡ 0 = omega (arith, h) in
    ap (write_from ct x fs ws s) (no_least (is_prepared s.state) (starts s (min (length ws) (avail s))) (min (length ws) (avail s)) e) ∙ write_plain-stuck ct x fs ws s h p

pub write_plain-whole : (ct : ClientId) (x : Xfer) (fs : List Frame) (s : Stream) → write_plain ct x fs [] s ≡ tells (reply.Frames (x.moved + length fs)) x fs s
write_plain-whole ct x fs s =
    let e : min 0 (avail s) ≡ 0 = omega arith in
    ap (λ n. after_moves ct x (fs ++ take n []) (0 - n) (put_next (take n []) s)) e
    ∙ same_moves ct x (fs ++ []) fs 0 0 (put_next [] s) s (append_none fs) refl (put_none s)

pub write_on-whole : (ct : ClientId) (x : Xfer) (fs : List Frame) (s : Stream) → write_on ct x fs [] s ≡ tells (reply.Frames (x.moved + length fs)) x fs s
write_on-whole ct x fs s =
    let e : min 0 (avail s) ≡ 0 = omega arith in
    ap (write_from ct x fs [] s) (no_least (is_prepared s.state) (starts s (min 0 (avail s))) (min 0 (avail s)) e) ∙ write_plain-whole ct x fs s

-- reads

pub avail-on_by : (n : ℕ) (s : Stream) → avail (on_by n s) ≡ avail s - n
avail-on_by n s = omega arith

pub on_by-add : (m n : ℕ) (s : Stream) → on_by (m + n) s ≡ on_by n (on_by m s)
on_by-add m n s = let e : s.at.appl + (m + n) ≡ s.at.appl + m + n = omega arith in ap (λ u. record s { at = record s.at { appl = u } }) e

pub read_on-turn : (ct : ClientId) (x : Xfer) (fs : List Frame) (r : ℕ) (s : Stream) (c : ℕ) → c ≤ min r (avail s)
    → read_on ct x fs r s ≡ read_on ct x (fs ++ read_next c s) (r - c) (on_by c s)
read_on-turn ct x fs r s c h =
    let n : ℕ = min r (avail s) in
    let s1 : Stream = on_by c s in
    let m : ℕ = min (r - c) (avail s1) in
    let e : m ≡ n - c = ap (λ i. min (r - c) i) (avail-on_by c s) ∙ omega arith in
    let sum : n ≡ c + m = omega (arith, e, h) in
    let pieces : read_next n s ≡ read_next c s ++ read_next m s1 = ap (λ i. read_next i s) sum ∙ standing_at-add s.puts s.setup.buffer s.at.appl c m (zero_frame s) in
    let rest : r - n ≡ r - c - m = omega (arith, e, h) in
    same_moves ct x (fs ++ read_next n s) ((fs ++ read_next c s) ++ read_next m s1) (r - n) (r - c - m) (on_by n s) (on_by m s1)
    (ap (λ l. fs ++ l) pieces ∙ sym (append_assoc fs (read_next c s) (read_next m s1))) rest (ap (λ i. on_by i s) sum ∙ on_by-add c m s)

pub read_on-stuck : (ct : ClientId) (x : Xfer) (fs : List Frame) (r : ℕ) (s : Stream) → avail s ≡ 0 → 0 < r → read_on ct x fs r s ≡ stuck ct x fs r s
read_on-stuck ct x fs r s h p =
    let e : min r (avail s) ≡ 0 = omega (arith, h) in
    ap (λ n. after_moves ct x (fs ++ read_next n s) (r - n) (on_by n s)) e
    ∙ (let e1 : r - 0 ≡ r = omega arith in
    same_moves ct x (fs ++ []) fs (r - 0) r (on_by 0 s) s (append_none fs) e1 (on_none s) ∙ moves_stuck ct x fs r s p)

pub read_on-whole : (ct : ClientId) (x : Xfer) (fs : List Frame) (s : Stream) → read_on ct x fs 0 s ≡ tells (reply.Frames (x.moved + length fs)) x fs s
read_on-whole ct x fs s =
    let e : min 0 (avail s) ≡ 0 = omega arith in
    ap (λ n. after_moves ct x (fs ++ read_next n s) (0 - n) (on_by n s)) e
    ∙ same_moves ct x (fs ++ []) fs 0 0 (on_by 0 s) s (append_none fs) refl (on_none s)
