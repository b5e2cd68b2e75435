-- What keeps a stream sound: updates, silence, the pointer calls, the card's movement.
use Rattle.std.proofs.Common.{ℕ, ◌≡◌, ◌+◌, ◌-◌, ◌%◌, ◌≤◌, ◌<◌, Bool, true, false, cond, not, ◌&&◌, ◌||◌, nat_eq, nat_le, nat_lt, List, ◌++◌, length, drop, min, max, refl, sym, ap, ◌∙◌, subst, arith}
use Rattle.std.proofs.lemmas.Bool.Decides.{nat_tests}
use Rattle.std.proofs.Math.Nat.{mod-lt}
use Rattle.std.specs.declared.option.Option.{Option}
use Rattle.std.specs.declared.option.Option.TheVariants.{Some, None}
use Rattle.pcm_base.specs.Boundary.{boundary_of}
use Rattle.pcm_base.specs.declared.act.Updated.{Updated}
use Rattle.pcm_base.specs.declared.act.Updated.TheVariants as updated
use Rattle.pcm_base.specs.declared.config.Config.{Config}
use Rattle.pcm_base.specs.declared.config.SwParams.{SwParams}
use Rattle.pcm_base.specs.declared.state.Dir.{Dir}
use Rattle.pcm_base.specs.declared.state.Dir.TheVariants as dir
use Rattle.pcm_base.specs.declared.state.State.{State}
use Rattle.pcm_base.specs.declared.state.State.TheVariants as state
use Rattle.pcm_base.specs.model.Allowed.{accepts, buffer_of}
use Rattle.pcm_base.specs.model.Frame.{Frame}
use Rattle.pcm_base.specs.model.Movement.{carried, given_by, taken_by, carried_by}
use Rattle.pcm_base.specs.model.PointerCalls.{back_by, hw_avail, on_by, sync_to}
use Rattle.pcm_base.specs.model.Software.{refuses_sw}
use Rattle.pcm_base.specs.model.Sound.{IsBare, IsConfigured, IsPlaced, IsShaped, Sound, SoundAt, may_be_set_up, keeps}
use Rattle.pcm_base.specs.model.Standing.{Put, put_at}
use Rattle.pcm_base.specs.model.Stream.{Stream, avail, head, head_of}
use Rattle.pcm_base.specs.model.Transfer.{put_next}
use Rattle.pcm_base.specs.model.Update.{Refreshed, fill, fill_count_at, fill_start, found, found_in, lap, lapped, moved_up, reported, set_runs, set_state, settled, update}
use Rattle.pcm_base.specs.model.Words.{runs_in}
use Rattle.pcm_laws.proofs.Sizes.{Sizes, sizes}
use Rattle.pcm_laws.proofs.Tests.{is_le, not_le, is_lt, not_lt}

-- a stream of the same set-up
pub Sound-as : (s t : Stream) → t.setup ≡ s.setup → ((c : Config) → IsConfigured c s → IsConfigured c t) → (IsBare s → IsBare t) → Sound s → Sound t
Sound-as s t e f g h = by t.setup.config (subst (λ q. SoundAt q.config s) (sym e) h)
  where
    by : (o : Option Config) → SoundAt o s → SoundAt o t
    by (Some c) k = f c k
    by None k = g k

-- silence

second : (a b : Bool) → (a || b) ≡ false → b ≡ false
second true b h = absurd (cc)
second false b h = h

when_true : (a b : Bool) → (a && b) ≡ false → a ≡ true → b ≡ false
when_true true b h e = h
when_true false b h e = absurd (cc)

pub threshold_fits : (buffer boundary : ℕ) (w : SwParams) → refuses_sw buffer boundary w ≡ false → w.silence_size < boundary → w.silence_threshold ≤ buffer
threshold_fits buffer boundary w h l =
    let p1 : Bool = nat_eq w.avail_min 0 in
    let p2 : Bool = nat_le boundary w.silence_size && not (nat_eq w.silence_threshold 0) in
    let p3 : Bool = nat_lt w.silence_size boundary in
    let p4 : Bool = nat_lt w.silence_threshold w.silence_size in
    let p5 : Bool = nat_lt buffer w.silence_threshold in
    let small : p3 ≡ true = grind (arith, nat_tests, l) in
    not_lt buffer w.silence_threshold (second p4 p5 (when_true p3 (p4 || p5) (second p2 (p3 && (p4 || p5)) (second p1 (p2 || (p3 && (p4 || p5))) h)) small))

count_fits : (x h b l size thr : ℕ) → x ≤ h + b → (size < l → thr ≤ b) → x + cond (nat_le l size) (h + b - x) (cond (nat_lt x (h + thr)) (min size (h + thr - x)) 0) ≤ h + b
count_fits x h b l size thr k f = by (nat_le l size) (nat_lt x (h + thr)) refl refl
  where
    by : (p q : Bool) → nat_le l size ≡ p → nat_lt x (h + thr) ≡ q → x + cond p (h + b - x) (cond q (min size (h + thr - x)) 0) ≤ h + b
    by true q e e' = omega (arith, k)
    by false true e e' = let t : thr ≤ b = f (not_le l size e) in let i : x < h + thr = is_lt x (h + thr) e' in omega (arith, t, i)
    by false false e e' = omega (arith, k)

end_fits : (d : Dir) (n x e u h b : ℕ) → u ≤ head_of d b h → e ≤ h + b → x ≡ max (max u e) h → (x ≤ h + b → x + n ≤ h + b)
    → cond (nat_eq (elim d as (λ _. ℕ) [ dir.Playback ↦ n | dir.Capture ↦ 0 ]) 0) e (x + elim d as (λ _. ℕ) [ dir.Playback ↦ n | dir.Capture ↦ 0 ]) ≤ h + b
end_fits dir.Playback n x e u h b p q r f = by (nat_eq n 0)
  where
    by : (t : Bool) → cond t e (x + n) ≤ h + b
    by true = q
    by false = f (omega (arith, p, q, r))
end_fits dir.Capture n x e u h b p q r f = q

pub IsPlaced-fill : (s : Stream) → refuses_sw s.setup.buffer s.setup.boundary s.setup.sw ≡ false → IsPlaced s → IsPlaced (fill s)
IsPlaced-fill s w p = record {
  reported = p.reported;
  near = p.near;
  origin = p.origin;
  written = p.written;
  fewer = p.fewer;
  filled = end_fits s.dir (fill_count_at (fill_start s) s) (fill_start s) s.at.filled s.at.appl s.at.hw s.setup.buffer p.written p.filled refl
      (λ k. count_fits (fill_start s) s.at.hw s.setup.buffer s.setup.boundary s.setup.sw.silence_size s.setup.sw.silence_threshold k (threshold_fits s.setup.buffer s.setup.boundary s.setup.sw w));
}

pub IsShaped-as : (c : Config) (s t : Stream) → t.model ≡ s.model → t.long_max ≡ s.long_max → t.setup ≡ s.setup → IsShaped c s → IsShaped c t
IsShaped-as c s t e f g h = record { allowed = cc_allowed; frame_bytes = ap (λ q. q.frame_bytes) g ∙ h.frame_bytes; buffer = ap (λ q. q.buffer) g ∙ h.buffer; boundary = ap (λ q. q.boundary) g ∙ (h.boundary ∙ ap (λ n. boundary_of (buffer_of c) n) (sym f)); sw = ap (λ q. refuses_sw q.buffer q.boundary q.sw) g ∙ h.sw }
  where
    cc_allowed : accepts t.model t.long_max c ≡ true
    cc_allowed = ap (λ m. accepts m t.long_max c) e ∙ (ap (λ n. accepts s.model n c) f ∙ h.allowed)

-- the same set-up, state, direction and card's motion, other positions
pub IsConfigured-at : (c : Config) (s t : Stream) → IsShaped c t → IsPlaced t → t.state ≡ s.state → t.dir ≡ s.dir → t.kept ≡ s.kept → t.card.runs ≡ s.card.runs → IsConfigured c s → IsConfigured c t
IsConfigured-at c s t a p e f g r h = record {
  shaped = a;
  placed = p;
  state = ap may_be_set_up e ∙ h.state;
  running = r ∙ (h.running ∙ (ap (λ d. runs_in d s.state) (sym f) ∙ ap (λ q. runs_in t.dir q) (sym e)));
  kept = ap (λ q. keeps q t.kept) e ∙ (ap (λ k. keeps s.state k) g ∙ h.kept);
}

pub IsConfigured-fill : (c : Config) (s : Stream) → IsConfigured c s → IsConfigured c (fill s)
IsConfigured-fill c s h = IsConfigured-at c s (fill s) (IsShaped-as c s (fill s) refl refl refl h.shaped) (IsPlaced-fill s h.shaped.sw h.placed) refl refl refl refl h

-- updates

head_shift : (d : Dir) (b h c : ℕ) → h ≤ c → head_of d b c ≡ head_of d b h + (c - h)
head_shift dir.Playback b h c p = omega (arith, p)
head_shift dir.Capture b h c p = omega (arith, p)

lap_fits : (x y u l : ℕ) → x ≤ y → y - x < l → u ≤ x → x - u < l → (cond (nat_le l (y - u)) (u + l) u ≤ y) × (y - cond (nat_le l (y - u)) (u + l) u < l)
lap_fits x y u l p q r f = by (nat_le l (y - u)) refl
  where
    by : (t : Bool) → nat_le l (y - u) ≡ t → (cond t (u + l) u ≤ y) × (y - cond t (u + l) u < l)
    by true e = let k : l ≤ y - u = is_le l (y - u) e in (omega (arith, p, k, r), omega (arith, p, q, r, f, k))
    by false e = let k : y - u < l = not_le l (y - u) e in (omega (arith, p, r), k)

pub IsPlaced-lap : (s : Stream) → Sizes s → IsPlaced s → IsPlaced (lap (reported s))
IsPlaced-lap s z p =
    let e : head_of s.dir s.setup.buffer s.at.card ≡ head s + (s.at.card - s.at.hw) = head_shift s.dir s.setup.buffer s.at.hw s.at.card p.reported in
    let both : (lapped (reported s) ≤ head_of s.dir s.setup.buffer s.at.card) × (head_of s.dir s.setup.buffer s.at.card - lapped (reported s) < s.setup.boundary) =
    lap_fits (head s) (head_of s.dir s.setup.buffer s.at.card) s.at.appl s.setup.boundary (omega (arith, e)) (omega (arith, e, p.near, p.reported, z.room, z.least)) p.written p.fewer in
    record {
      reported = (let k : s.at.card ≤ s.at.card = omega arith in k);
      near = (let k : s.at.card < s.at.card + s.setup.buffer = omega (arith, z.least) in k);
      origin = (let k : s.setup.boundary ≤ s.at.card = omega (arith, p.origin, p.reported) in k);
      written = both.0;
      fewer = both.1;
      filled = (let k : s.at.filled ≤ s.at.card + s.setup.buffer = omega (arith, p.filled, p.reported) in k);
    }

pub IsConfigured-moved_up : (c : Config) (s : Stream) → IsConfigured c s → IsConfigured c (moved_up s)
IsConfigured-moved_up c s h =
    let t : Stream = lap (reported s) in
    IsConfigured-fill c t (IsConfigured-at c s t (IsShaped-as c s t refl refl refl h.shaped) (IsPlaced-lap s (sizes c s h.shaped) h.placed) refl refl refl refl h)

-- a drain ends in DRAINING alone
drain_state : (t : State) (b stop a : ℕ) → found_in t b stop a ≡ updated.DrainDone → t ≡ state.Draining
drain_state state.Draining b stop a h = refl
drain_state state.Running b stop a h = absurd (by (nat_le stop a) h)
  where
    by : (t : Bool) → cond t updated.StopXrun updated.Nothing ≡ updated.DrainDone → ⊥
    by true e = cc
    by false e = cc
drain_state state.Closed b stop a h = absurd (cc)
drain_state state.Opened b stop a h = absurd (cc)
drain_state state.Setup b stop a h = absurd (cc)
drain_state state.Prepared b stop a h = absurd (cc)
drain_state state.Xrun b stop a h = absurd (cc)
drain_state state.Paused b stop a h = absurd (cc)
drain_state state.Suspended b stop a h = absurd (cc)
drain_state state.Disconnected b stop a h = absurd (cc)

stands_in_setup : (d : Dir) → false ≡ runs_in d state.Setup
stands_in_setup dir.Playback = refl
stands_in_setup dir.Capture = refl

pub IsConfigured-settled : (c : Config) (u : Updated) (s : Stream) → found s ≡ u → IsConfigured c s → IsConfigured c (settled u s)
IsConfigured-settled c updated.Nothing s e h = h
IsConfigured-settled c updated.StopXrun s e h = h
IsConfigured-settled c updated.DrainDone s e h =
    let t : Stream = set_runs false (set_state state.Setup s) in
    let draining : s.state ≡ state.Draining = drain_state s.state s.setup.buffer s.setup.sw.stop_threshold (avail s) e in
    let none : keeps state.Draining s.kept ≡ true = subst (λ q. keeps q s.kept ≡ true) draining h.kept in
    record {
      shaped = IsShaped-as c s t refl refl refl h.shaped;
      placed = record { reported = h.placed.reported; near = h.placed.near; origin = h.placed.origin; written = h.placed.written; fewer = h.placed.fewer; filled = h.placed.filled };
      state = refl;
      running = stands_in_setup s.dir;
      kept = none;
    }

setup_settled : (u : Updated) (s : Stream) → (settled u s).setup ≡ s.setup
setup_settled updated.Nothing s = refl
setup_settled updated.StopXrun s = refl
setup_settled updated.DrainDone s = refl

abbrev refreshed : Stream → Bool → Refreshed
refreshed s b = cond b (record { found = found (moved_up s); stream = settled (found (moved_up s)) (moved_up s) }) (record { found = updated.Nothing; stream = s })

pub Sound-update : (s : Stream) → Sound s → Sound (update s).stream
Sound-update s h = Sound-as s (update s).stream (same s.card.runs) (λ c k. moves c k s.card.runs) bare h
  where
    same : (b : Bool) → (refreshed s b).stream.setup ≡ s.setup
    same true = setup_settled (found (moved_up s)) (moved_up s)
    same false = refl

    moves : (c : Config) → IsConfigured c s → (b : Bool) → IsConfigured c (refreshed s b).stream
    moves c k true = IsConfigured-settled c (found (moved_up s)) (moved_up s) refl (IsConfigured-moved_up c s k)
    moves c k false = k

    bare : IsBare s → IsBare (update s).stream
    bare k = subst (λ b. IsBare (refreshed s b).stream) (sym k.stands) k

-- the pointer calls

pub head_most : (d : Dir) (b h : ℕ) → h ≤ head_of d b h
head_most dir.Playback b h = omega arith
head_most dir.Capture b h = omega arith

pub IsConfigured-back_by : (c : Config) (n : ℕ) (s : Stream) → n ≤ hw_avail s → IsConfigured c s → IsConfigured c (back_by n s)
IsConfigured-back_by c n s l h =
    let p : IsPlaced s = h.placed in
    let z : Sizes s = sizes c s h.shaped in
    let top : s.at.hw ≤ head s = head_most s.dir s.setup.buffer s.at.hw in
    IsConfigured-at c s (back_by n s) (IsShaped-as c s (back_by n s) refl refl refl h.shaped)
    (record {
      reported = p.reported;
      near = p.near;
      origin = p.origin;
      filled = p.filled;
      written = (let k : s.at.appl - n ≤ head s = omega (arith, p.written) in k);
      fewer = (let k : head s - (s.at.appl - n) < s.setup.boundary = omega (arith, l, p.written, p.fewer, p.origin, top, z.room, z.least) in k);
    }) refl refl refl refl h

pub IsConfigured-on_by : (c : Config) (n : ℕ) (s : Stream) → n ≤ avail s → IsConfigured c s → IsConfigured c (on_by n s)
IsConfigured-on_by c n s l h =
    let p : IsPlaced s = h.placed in
    IsConfigured-at c s (on_by n s) (IsShaped-as c s (on_by n s) refl refl refl h.shaped)
    (record {
      reported = p.reported;
      near = p.near;
      origin = p.origin;
      filled = p.filled;
      written = (let k : s.at.appl + n ≤ head s = omega (arith, l, p.written) in k);
      fewer = (let k : head s - (s.at.appl + n) < s.setup.boundary = omega (arith, p.fewer) in k);
    }) refl refl refl refl h

pub IsConfigured-puts : (c : Config) (qs : List Put) (s : Stream) → IsConfigured c s → IsConfigured c (record s { puts = qs })
IsConfigured-puts c qs s h =
    let p : IsPlaced s = h.placed in
    let t : Stream = record s { puts = qs } in
    IsConfigured-at c s t (IsShaped-as c s t refl refl refl h.shaped)
    (record { reported = p.reported; near = p.near; origin = p.origin; filled = p.filled; written = p.written; fewer = p.fewer }) refl refl refl refl h

pub IsConfigured-put_next : (c : Config) (fs : List Frame) (s : Stream) → length fs ≤ avail s → IsConfigured c s → IsConfigured c (put_next fs s)
IsConfigured-put_next c fs s l h = IsConfigured-on_by c (length fs) (record s { puts = put_at s.at.appl fs s.puts }) l (IsConfigured-puts c (put_at s.at.appl fs s.puts) s h)

pub IsConfigured-sync_to : (c : Config) (q : ℕ) (s : Stream) → IsConfigured c s → IsConfigured c (sync_to q s)
IsConfigured-sync_to c q s h =
    let p : IsPlaced s = h.placed in
    let z : Sizes s = sizes c s h.shaped in
    let top : s.at.hw ≤ head s = head_most s.dir s.setup.buffer s.at.hw in
    let some : 0 < s.setup.boundary = omega (arith, z.room, z.least) in
    let r : ℕ = (head s - q) % s.setup.boundary in
    let small : (head s - q) % s.setup.boundary < s.setup.boundary = mod-lt (head s - q) some in
    IsConfigured-at c s (sync_to q s) (IsShaped-as c s (sync_to q s) refl refl refl h.shaped)
    (record {
      reported = p.reported;
      near = p.near;
      origin = p.origin;
      filled = p.filled;
      written = (let k : head s - (head s - q) % s.setup.boundary ≤ head s = omega arith in k);
      fewer = (let k : head s - (head s - (head s - q) % s.setup.boundary) < s.setup.boundary = omega (arith, small, p.origin, top) in k);
    }) refl refl refl refl h

-- the card's movement

pub IsConfigured-carried : (c : Config) (n : ℕ) (s : Stream) → s.at.card + n < s.at.hw + s.setup.buffer → IsConfigured c s → IsConfigured c (carried n s)
IsConfigured-carried c n s l h = by s.dir
  where
    past : s.at.hw ≤ s.at.card + n
    past = let p : s.at.hw ≤ s.at.card = h.placed.reported in omega (arith, p)

    one : IsConfigured c (record s { card = record s.card { taken = s.card.taken ++ taken_by n s }; at = record s.at { card = s.at.card + n }; moved = s.moved + n })
    one = let t : Stream = record s { card = record s.card { taken = s.card.taken ++ taken_by n s }; at = record s.at { card = s.at.card + n }; moved = s.moved + n } in
        IsConfigured-at c s t (IsShaped-as c s t refl refl refl h.shaped)
        (record { reported = past; near = l; origin = h.placed.origin; written = h.placed.written; fewer = h.placed.fewer; filled = h.placed.filled }) refl refl refl refl h

    two : IsConfigured c (record s { card = record s.card { to_give = drop n s.card.to_give }; puts = put_at s.at.card (given_by n s) s.puts; at = record s.at { card = s.at.card + n }; moved = s.moved + n })
    two = let t : Stream = record s { card = record s.card { to_give = drop n s.card.to_give }; puts = put_at s.at.card (given_by n s) s.puts; at = record s.at { card = s.at.card + n }; moved = s.moved + n } in
        IsConfigured-at c s t (IsShaped-as c s t refl refl refl h.shaped)
        (record { reported = past; near = l; origin = h.placed.origin; written = h.placed.written; fewer = h.placed.fewer; filled = h.placed.filled }) refl refl refl refl h

    by : (d : Dir) → IsConfigured c (carried_by d n s)
    by dir.Playback = one
    by dir.Capture = two
