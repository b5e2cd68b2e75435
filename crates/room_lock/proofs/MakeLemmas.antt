-- What a step of the group leaves in the bytes of its call.
use Rattle.std.proofs.Common.{◌≡◌, ◌≢◌, ℕ, ◌+◌, ◌-◌, ◌*◌, ◌/◌, ◌%◌, ◌<◌, ◌≤◌, Bool, true, false, cond, not, ◌&&◌, nat_eq, nat_le, nat_lt, List, [], ◌∷◌, ◌++◌, length, drop, refl, sym, ap, subst, ◌∙◌, arith, append-nil}
use Rattle.std.specs.Prelude.{◌||◌}
use Rattle.std.proofs.lemmas.Nat.{div-add-mod'}
use Rattle.std.proofs.Math.Nat.{mul-div_cancel}
use Rattle.std.specs.declared.option.Option.{Option}
use Rattle.std.specs.declared.option.Option.TheVariants.{Some, None}
use Rattle.pcm_base.specs.declared.call.Call.{Call}
use Rattle.pcm_base.specs.declared.call.Call.TheVariants as call
use Rattle.pcm_base.specs.declared.config.Shape.{Shape}
use Rattle.pcm_base.specs.declared.ids.ClientId.{ClientId}
use Rattle.pcm_base.specs.declared.ids.SubId.{SubId}
use Rattle.pcm_base.specs.declared.reply.Reply.TheVariants as reply
use Rattle.pcm_base.specs.declared.sleeper.Task.{Task}
use Rattle.pcm_base.specs.declared.sleeper.Task.TheVariants as task
use Rattle.pcm_base.specs.declared.sleeper.Xfer.{Xfer}
use Rattle.pcm_base.specs.declared.state.Dir.{Dir}
use Rattle.pcm_base.specs.declared.state.Dir.TheVariants as dir
use Rattle.pcm_base.specs.declared.state.Errno.TheVariants as errno
use Rattle.pcm_base.specs.model.Acts.{subs}
use Rattle.pcm_base.specs.model.Events.{hands, waiting_of}
use Rattle.pcm_base.specs.model.Frame.{Frame, bytes_of}
use Rattle.pcm_base.specs.model.Group.{group_step, put_stream, run, stream_of}
use Rattle.pcm_base.specs.model.Movement.{Movement, carried, carried_by, carried_frames, frames_taken, move, taken_by, taken_bytes}
use Rattle.pcm_base.specs.model.Program.{Answer, fails}
use Rattle.pcm_base.specs.model.Replay.{IsLent, is_member, reading_length}
use Rattle.pcm_base.specs.model.Stream.{Member, Stream}
use Rattle.pcm_base.specs.model.Words.{is_closed}
use Rattle.pcm_laws.specs.Steps.{MarksLeaveStreams}
use Rattle.pcm_group.specs.Bytes.{HasLength}
use Rattle.room_lock.specs.Moved.{IsMovedBy, Moves, MovesTask}
use Rattle.room_lock.specs.Shaped.{IsSized}
use Rattle.room_lock.specs.Told.{is_movement, is_transfer}
use Rattle.room_lock.proofs.HandedWalk.{Sizes, SizesTask}
use Rattle.room_lock.proofs.PartLemmas.{bytes-both}

multiple : (n b size : ℕ) → 0 < b → size ≡ n * b → (size % b ≡ 0) × (size / b ≡ n)
multiple n b size some e =
    let q : size / b ≡ n = ap (λ (k : ℕ). k / b) e ∙ mul-div_cancel n some in
    let d = div-add-mod' size b in
    let m : size / b * b ≡ n * b = ap (λ (k : ℕ). k * b) q in
    (omega (arith, d, m, e), q)

-- the bytes of a call that reads have its length
pub has_length : (e : Call) (c : ClientId) (s : Stream) (count : ℕ) (io : List ℕ) → IsLent (reading_length e c s) count (length io) → HasLength e io s
has_length (call.Read w m n) c s count io h = λ a b d. h.0
has_length (call.Load o n) c s count io h = λ a. h.0
has_length _ c s count io h = tt

-- the frames of a transfer lie within its bytes, which are whole
AreWithin : Answer → Shape → List ℕ → Type 0
AreWithin a h io = length a.frames ≢ 0 → (length io % h.frame_bytes ≡ 0) × (a.first + length a.frames ≤ length io / h.frame_bytes)

within-by : (y : Xfer) (all : List Frame) (s : Stream) (h : Shape) (io : List ℕ) (a : Answer) → IsMovedBy y all a → IsSized s h → (length a.frames ≢ 0 → length io ≡ (y.moved + y.rest) * s.setup.frame_bytes) → AreWithin a h io
unfolding AreWithin
within-by y all s h io a m z sizes ne =
    let two = multiple (y.moved + y.rest) h.frame_bytes (length io) z.some (sizes ne ∙ ap (λ (b : ℕ). (y.moved + y.rest) * b) z.frame) in
    let first = m.first ne in
    let most = m.most in
    let q = two.1 in
    (two.0, omega (arith, first, most, q))

within-go : (k : Option Task) (s : Stream) (h : Shape) (io : List ℕ) (a : Answer) → IsSized s h → MovesTask k io s a → SizesTask k io s a → AreWithin a h io
unfolding AreWithin
within-go None s h io a z m si ne = absurd (ne (ap length m))
within-go (Some task.Drain) s h io a z m si ne = absurd (ne (ap length m))
within-go (Some (task.Transfer x v)) s h io a z m si ne = within-by x _ s h io a m z si ne

pub within_is : (e : Call) (c : ClientId) (s : Stream) (h : Shape) (count : ℕ) (io : List ℕ) (a : Answer) → IsSized s h → Moves e c io s a → Sizes e c io s a → IsLent (reading_length e c s) count (length io) → is_transfer e ≡ true
    → length a.frames ≢ 0 → (length io % h.frame_bytes ≡ 0) × (a.first + length a.frames ≤ length io / h.frame_bytes)
unfolding AreWithin
within_is (call.Write w m) c s h count io a z mo si le t ne =
    let first = mo.first ne in
    let most = mo.most in
    let frame : length io / s.setup.frame_bytes ≡ length io / h.frame_bytes = ap (λ (b : ℕ). length io / b) z.frame in
    (ap (λ (b : ℕ). length io % b) (sym z.frame) ∙ si ne, omega (arith, first, most, frame))
within_is (call.Read w m n) c s h count io a z mo si le t ne = within-by _ [] s h io a mo z (λ ne. le.0 ∙ (let o : 0 + n ≡ n = omega arith in ap (λ (k : ℕ). k * s.setup.frame_bytes) (sym o))) ne
within_is call.Go c s h count io a z mo si le t ne = within-go (waiting_of c s.sleepers) s h io a z mo si ne
within_is _ c s h count io a z mo si le t ne = absurd (let no : ⊥ = cc in no)

-- ---- what a card takes in a movement

stream-put : (k : SubId) (s : Stream) (ms : List Member) → is_member k (subs ms) ≡ true → stream_of k (put_stream k s ms) ≡ s
stream-put k s [] h = absurd (let no : ⊥ = cc in no)
stream-put k s (m ∷ ms) h = by (nat_eq m.sub.0 k.0) h (stream-put k s ms)
  where
    by : (b : Bool) → (b || is_member k (subs ms)) ≡ true → (is_member k (subs ms) ≡ true → stream_of k (put_stream k s ms) ≡ s) → cond b (cond b s m.stream) (stream_of k (put_stream k s ms)) ≡ s
    by true g r = refl
    by false g r = r g

pub record Takes (s t : Stream) (fs : List Frame) (n : ℕ) : Type 0 where
  pub taken : bytes_of t.card.taken ≡ bytes_of s.card.taken ++ bytes_of fs
  pub most : length (bytes_of fs) ≤ length (bytes_of (move n s).frames)

none-taken : (s : Stream) → bytes_of s.card.taken ≡ bytes_of s.card.taken ++ []
none-taken s = sym (append-nil (bytes_of s.card.taken))

moved-takes : (s : Stream) (n : ℕ) (a b c : Bool) → (let m : Movement = cond a (let m : Movement = record { reply = reply.Idle; frames = []; stream = s } in m) (cond b (let m : Movement = record { reply = reply.Late (s.setup.buffer - 1 - (s.at.card - s.at.hw)); frames = []; stream = s } in m)
    (cond c (let m : Movement = record { reply = reply.Limit (taken_bytes n s); frames = []; stream = s } in m) (record { reply = reply.Moved n; frames = carried_frames n s; stream = carried n s }))) in bytes_of m.stream.card.taken ≡ bytes_of s.card.taken ++ bytes_of m.frames)
moved-takes s n true b c = none-taken s
moved-takes s n false true c = none-taken s
moved-takes s n false false true = none-taken s
moved-takes s n false false false = by s.dir
  where
    by : (d : Dir) → bytes_of (carried_by d n s).card.taken ≡ bytes_of s.card.taken ++ bytes_of (frames_taken d n s)
    by dir.Playback = bytes-both s.card.taken (taken_by n s)
    by dir.Capture = none-taken s

pub movement_takes : MarksLeaveStreams → (n : ℕ) (c : ClientId) (k : SubId) (io : List ℕ) (ms : List Member) → is_member k (subs ms) ≡ true → Takes (stream_of k ms) (stream_of k (group_step (call.MoveBy n) c k io ms).members) (group_step (call.MoveBy n) c k io ms).answer.frames n
movement_takes law n c k io ms there =
    subst (λ (t : Stream). Takes s t (group_step (call.MoveBy n) c k io ms).answer.frames n) (sym (law (call.MoveBy n) c k io ms k)) (by (is_closed s.state && true))
  where
    s : Stream
    s = stream_of k ms

    by : (b : Bool) → Takes s (stream_of k (run (cond b (fails errno.Enxio s) (hands (move n s).reply (move n s).frames (move n s).stream)) k ms).members) (run (cond b (fails errno.Enxio s) (hands (move n s).reply (move n s).frames (move n s).stream)) k ms).answer.frames n
    by true = record { taken = ap (λ (t : Stream). bytes_of t.card.taken) (stream-put k s ms there) ∙ none-taken s; most = omega arith }
    by false = record {
      taken = ap (λ (t : Stream). bytes_of t.card.taken) (stream-put k (move n s).stream ms there) ∙ moved-takes s n (not s.card.runs) (nat_le (s.at.hw + s.setup.buffer) (s.at.card + n)) (nat_lt 67108864 (taken_bytes n s));
      most = omega arith;
    }

drop-front : (xs ys : List ℕ) → drop (length xs) (xs ++ ys) ≡ ys
drop-front [] [] = refl
drop-front [] (y ∷ ys) = refl
drop-front (x ∷ xs) ys = drop-front xs ys

-- what the card has taken in a step, and that it has room
pub tail_is : MarksLeaveStreams → (e : Call) (c : ClientId) (k : SubId) (io : List ℕ) (ms : List Member) (taken : ℕ) (now : List ℕ) → is_member k (subs ms) ≡ true → taken ≡ length (bytes_of (stream_of k ms).card.taken)
    → now ≡ bytes_of (stream_of k (group_step e c k io ms).members).card.taken → is_movement e ≡ true → drop taken now ≡ bytes_of (group_step e c k io ms).answer.frames
tail_is law (call.MoveBy n) c k io ms taken now there before after t =
    let m = movement_takes law n c k io ms there in
    ap (λ (z : ℕ × List ℕ). drop z.0 z.1) (λ i. (before i, (after ∙ m.taken) i)) ∙ drop-front (bytes_of (stream_of k ms).card.taken) (bytes_of (group_step (call.MoveBy n) c k io ms).answer.frames)
tail_is law _ c k io ms taken now there before after t = absurd (let no : ⊥ = cc in no)

pub tail_most : MarksLeaveStreams → (e : Call) (c : ClientId) (k : SubId) (io : List ℕ) (ms : List Member) (most : ℕ) → is_member k (subs ms) ≡ true → ((n : ℕ) → e ≡ call.MoveBy n → length (bytes_of (move n (stream_of k ms)).frames) ≤ most)
    → is_movement e ≡ true → length (bytes_of (group_step e c k io ms).answer.frames) ≤ most
tail_most law (call.MoveBy n) c k io ms most there room t = (let m = movement_takes law n c k io ms there in let a = m.most in let b = room n refl in omega (arith, a, b))
tail_most law _ c k io ms most there room t = absurd (let no : ⊥ = cc in no)
