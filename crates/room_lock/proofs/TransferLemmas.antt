-- What the own entry of an event has of its bytes is what the model's step moved.
use Rattle.std.proofs.Common.{◌≡◌, ◌≢◌, ℕ, zero, suc, ◌+◌, ◌*◌, ◌/◌, ◌%◌, ◌<◌, ◌≤◌, Bool, true, false, cond, nat_eq, List, [], ◌∷◌, ◌++◌, length, take, drop, refl, sym, ap, ◌∙◌, arith, length-append}
use Rattle.std.proofs.lemmas.Nat.{div-add-mod'}
use Rattle.std.specs.Option.{is_some}
use Rattle.std.proofs.Math.Nat.{mul-div_cancel}
use Rattle.std.proofs.lemmas.Bool.Decides.{nat_tests}
use Rattle.std.specs.declared.option.Option.{Option}
use Rattle.std.specs.declared.option.Option.TheVariants.{Some, None}
use Rattle.pcm_base.specs.declared.call.Call.{Call}
use Rattle.pcm_base.specs.declared.call.Call.TheVariants as call
use Rattle.pcm_base.specs.declared.call.Layout.{Layout}
use Rattle.pcm_base.specs.declared.call.Layout.TheVariants as layout
use Rattle.pcm_base.specs.declared.config.Shape.{Shape}
use Rattle.pcm_base.specs.declared.ids.ClientId.{ClientId}
use Rattle.pcm_base.specs.declared.reply.Reply.{Reply}
use Rattle.pcm_base.specs.declared.reply.Reply.TheVariants as reply
use Rattle.pcm_base.specs.declared.sleeper.Task.{Task}
use Rattle.pcm_base.specs.declared.sleeper.Task.TheVariants as task
use Rattle.pcm_base.specs.declared.sleeper.Xfer.{Xfer}
use Rattle.pcm_base.specs.model.Events.{waiting_of}
use Rattle.pcm_base.specs.model.Frame.{Frame, bytes_across, bytes_of}
use Rattle.pcm_base.specs.model.Program.{Answer}
use Rattle.pcm_base.specs.model.Replay.{IsLent, bytes_by, going_length, layout_of, reading_length, task_layout}
use Rattle.pcm_base.specs.model.Stream.{Stream}
use Rattle.pcm_base.specs.model.Transfer.{channels_of, fits, frames_by}
use Rattle.ring_memory.specs.Round.{over}
use Rattle.pcm_stream.specs.Buffer.{loaded_from}
use Rattle.pcm_stream.specs.MembersStand.{TaskFits}
use Rattle.pcm_group.specs.Lent.{Loads}
use Rattle.pcm_group.specs.Turn.{frames_moved}
use Rattle.pcm_group.specs.Transfers.{bytes_with}
use Rattle.room_lock.specs.Moved.{IsMovedBy, Moves, MovesTask, part_by}
use Rattle.room_lock.specs.Told.{is_movement, moved_part, on_frames, on_ok, told_bytes}
use Rattle.room_lock.specs.Shaped.{HasShape, IsLeft, IsSized}
use Rattle.room_lock.proofs.HandedWalk.{Handed, IsLoaded, Sizes, SizesTask}
use Rattle.room_lock.proofs.PartLemmas.{bytes-both, part-read, part-written}

no-frames : (fs : List Frame) → length fs ≡ 0 → fs ≡ []
no-frames [] e = refl
no-frames (f ∷ fs) e = absurd (let no : ⊥ = omega (arith, e) in no)

across-none : (c w : ℕ) → bytes_across c w [] ≡ []
across-none zero w = refl
across-none (suc c) w = across-none c w

pub bytes-none : (l : Layout) (s : Stream) → bytes_by l s [] ≡ []
bytes-none layout.Interleaved s = refl
bytes-none layout.Planar s = across-none (channels_of s.setup.config) (s.setup.frame_bytes / channels_of s.setup.config)

-- ---- a transfer on a stream of this shape, whose bytes are whole and hold all its frames

pub record IsFull (y : Xfer) (h : Shape) (io : List ℕ) (a : Answer) : Type 0 where
  pub whole : length a.frames ≢ 0 → length io % h.frame_bytes ≡ 0
  pub all : length a.frames ≢ 0 → y.moved + y.rest ≤ length io / h.frame_bytes

transfer-told : (y : Xfer) (s : Stream) (h : Shape) (io out : List ℕ) (a : Answer) → IsMovedBy y (frames_by y.layout s io) a → IsSized s h → IsFull y h io a → out ≡ bytes_with y.writing y.layout a.first a.frames s io → length out ≡ length io
    → moved_part y.layout (Some h) a.first (length a.frames) out ≡ bytes_by y.layout s a.frames
transfer-told y s h io out a m z f left same = by (nat_eq (length a.frames) 0) refl
  where
    n : ℕ
    n = length a.frames

    some : nat_eq n 0 ≡ false → n ≢ 0
    some e is = (let t : nat_eq n 0 ≡ true = grind (arith, nat_tests, is) in let no : ⊥ = cc in no)

    way : (b : Bool) → y.writing ≡ b → nat_eq n 0 ≡ false → part_by y.layout h a.first n out ≡ bytes_by y.layout s a.frames
    way true w e =
        let ne = some e in
        let first = m.first ne in
        let most = m.most in
        let all = f.all ne in
        let within : y.moved + n ≤ length io / h.frame_bytes = omega (arith, most, all) in
        let stays : out ≡ io = left ∙ ap (λ (b : Bool). bytes_with b y.layout a.first a.frames s io) w in
        ap (λ (z : ℕ × List ℕ). part_by y.layout h z.0 n z.1) (λ i. (first i, stays i)) ∙ sym (part-written y.layout s h y.moved n io z (f.whole ne) within) ∙ ap (bytes_by y.layout s) (sym (m.frames w))
    way false w e =
        let ne = some e in
        let first = m.first ne in
        let most = m.most in
        let all = f.all ne in
        let within : a.first + n ≤ length io / h.frame_bytes = omega (arith, most, all, first) in
        let now : out ≡ bytes_by y.layout s (over a.first a.frames (frames_by y.layout s io)) =
        left ∙ ap (λ (b : Bool). bytes_with b y.layout a.first a.frames s io) w ∙ ap (λ (b : Bool). cond b io (bytes_by y.layout s (over a.first a.frames (frames_by y.layout s io)))) e in
        sym (part-read y.layout s h a.first a.frames io out z (f.whole ne) within now same)

    by : (b : Bool) → nat_eq n 0 ≡ b → cond b [] (part_by y.layout h a.first n out) ≡ bytes_by y.layout s a.frames
    by true e = (let zero_ : n ≡ 0 = grind (arith, nat_tests, e) in sym (ap (bytes_by y.layout s) (no-frames a.frames zero_) ∙ bytes-none y.layout s))
    by false e = way y.writing refl e

-- ---- every event

multiple : (n b size : ℕ) → 0 < b → size ≡ n * b → (size % b ≡ 0) × (size / b ≡ n)
multiple n b size some e =
    let q : size / b ≡ n = ap (λ (k : ℕ). k / b) e ∙ mul-div_cancel n some in
    let d = div-add-mod' size b in
    let m : size / b * b ≡ n * b = ap (λ (k : ℕ). k * b) q in
    (omega (arith, d, m, e), q)

no-bytes : (xs : List ℕ) → length xs ≡ 0 → xs ≡ []
no-bytes [] e = refl
no-bytes (x ∷ xs) e = absurd (let no : ⊥ = omega (arith, e) in no)

still-told : (l : Layout) (o : Option Shape) (s : Stream) (a : Answer) (out : List ℕ) → a.frames ≡ [] → moved_part l o a.first (length a.frames) out ≡ bytes_by l s a.frames
still-told l o s a out e = ap (λ (fs : List Frame). moved_part l o a.first (length fs) out) e ∙ by o ∙ sym (ap (bytes_by l s) e ∙ bytes-none l s)
  where
    by : (o : Option Shape) → moved_part l o a.first 0 out ≡ []
    by None = refl
    by (Some h) = refl

write-told : (o : Option Shape) (y : Xfer) (s : Stream) (io out : List ℕ) (a : Answer) → HasShape s o → y.writing ≡ true → y.moved ≡ 0 → y.rest ≡ length io / s.setup.frame_bytes → IsMovedBy y (frames_by y.layout s io) a
    → (length a.frames ≢ 0 → length io % s.setup.frame_bytes ≡ 0) → out ≡ io → moved_part y.layout o a.first (length a.frames) out ≡ bytes_by y.layout s a.frames
write-told None y s io out a h w begun rest m sizes stays =
    let most = m.most in
    let z : y.rest ≡ length io / 0 = rest ∙ ap (λ (b : ℕ). length io / b) (h.none refl) in
    let none : length a.frames ≡ 0 = omega (arith, most, z) in
    still-told y.layout None s a out (no-frames a.frames none)
write-told (Some h) y s io out a sh w begun rest m sizes stays =
    let z = sh.sized h refl in
    transfer-told y s h io out a m z
    (record {
      whole = λ ne. ap (λ (b : ℕ). length io % b) (sym z.frame) ∙ sizes ne;
      all = λ ne. (let q : y.rest ≡ length io / h.frame_bytes = rest ∙ ap (λ (b : ℕ). length io / b) z.frame in omega (arith, begun, q));
    })
    (stays ∙ ap (λ (b : Bool). bytes_with b y.layout a.first a.frames s io) (sym w)) (ap length stays)

read-told : (o : Option Shape) (y : Xfer) (s : Stream) (io out : List ℕ) (a : Answer) → HasShape s o → y.writing ≡ false → IsMovedBy y [] a → (length a.frames ≢ 0 → length io ≡ (y.moved + y.rest) * s.setup.frame_bytes)
    → out ≡ bytes_with false y.layout a.first a.frames s io → length out ≡ length io → moved_part y.layout o a.first (length a.frames) out ≡ bytes_by y.layout s a.frames
read-told (Some h) y s io out a sh w m sizes left same =
    let z = sh.sized h refl in
    transfer-told y s h io out a (record { first = m.first; most = m.most; frames = λ t. absurd (let no : ⊥ = cc in no) }) z
    (record {
      whole = λ ne. (multiple (y.moved + y.rest) h.frame_bytes (length io) z.some (sizes ne ∙ ap (λ (b : ℕ). (y.moved + y.rest) * b) z.frame)).0;
      all = λ ne. (let q = (multiple (y.moved + y.rest) h.frame_bytes (length io) z.some (sizes ne ∙ ap (λ (b : ℕ). (y.moved + y.rest) * b) z.frame)).1 in omega (arith, q));
    })
    (left ∙ ap (λ (b : Bool). bytes_with b y.layout a.first a.frames s io) (sym w)) same
read-told None y s io out a sh w m sizes left same = by (nat_eq (length a.frames) 0) refl
  where
    n : ℕ
    n = length a.frames

    way : (l : Layout) → nat_eq n 0 ≡ false → out ≡ bytes_by l s (over a.first a.frames (frames_by l s io)) → [] ≡ bytes_by l s a.frames
    way layout.Planar e now = sym (ap (λ (c : ℕ). bytes_across c (s.setup.frame_bytes / c) a.frames) (ap channels_of (sh.bare refl)))
    way layout.Interleaved e now =
        let ne : n ≢ 0 = (λ is. (let t : nat_eq n 0 ≡ true = grind (arith, nat_tests, is) in let no : ⊥ = cc in no)) in
        let none : length io ≡ 0 = sizes ne ∙ ap (λ (b : ℕ). (y.moved + y.rest) * b) (sh.none refl) ∙ (let z : (y.moved + y.rest) * 0 ≡ 0 = grind arith in z) in
        let all : List Frame = frames_by layout.Interleaved s io in
        let parts_ = bytes-both (take a.first all) (a.frames ++ drop (a.first + n) all) in
        let rest = bytes-both a.frames (drop (a.first + n) all) in
        let p = ap length (now ∙ parts_) ∙ length-append (bytes_of (take a.first all)) (bytes_of (a.frames ++ drop (a.first + n) all)) in
        let q = ap length rest ∙ length-append (bytes_of a.frames) (bytes_of (drop (a.first + n) all)) in
        let zero_ : length (bytes_of a.frames) ≡ 0 = omega (arith, p, q, same, none) in
        sym (no-bytes (bytes_of a.frames) zero_)

    by : (b : Bool) → nat_eq n 0 ≡ b → [] ≡ bytes_by y.layout s a.frames
    by true e = (let zero_ : n ≡ 0 = grind (arith, nat_tests, e) in sym (ap (bytes_by y.layout s) (no-frames a.frames zero_) ∙ bytes-none y.layout s))
    by false e = way y.layout e (left ∙ ap (λ (b : Bool). cond b io (bytes_by y.layout s (over a.first a.frames (frames_by y.layout s io)))) e)

-- a call that goes on
go-told : (k : Option Task) (o : Option Shape) (s : Stream) (io out : List ℕ) (a : Answer) → HasShape s o → MovesTask k io s a → SizesTask k io s a → ((t : Task) → k ≡ Some t → TaskFits s t)
    → out ≡ cond (is_some (going_length k s)) (bytes_with false (task_layout k) a.first a.frames s io) io → length out ≡ length io → moved_part (task_layout k) o a.first (length a.frames) out ≡ bytes_by (task_layout k) s a.frames
go-told None o s io out a sh m z fit left same = still-told layout.Interleaved o s a out m
go-told (Some task.Drain) o s io out a sh m z fit left same = still-told layout.Interleaved o s a out m
go-told (Some (task.Transfer x v)) o s io out a sh m z fit left same = by x.writing refl o sh
  where
    n : ℕ
    n = (x.moved + x.rest) * s.setup.frame_bytes

    no-shape : o ≡ None → ⊥
    no-shape e = (let f = (fit (task.Transfer x v) refl).layout in let g : fits x.layout None ≡ true = ap (fits x.layout) (sym (sh.bare e)) ∙ f in unfit x.layout g)
      where
        unfit : (l : Layout) → fits l None ≡ true → ⊥
        unfit layout.Interleaved h = cc
        unfit layout.Planar h = cc

    by : (b : Bool) → x.writing ≡ b → (p : Option Shape) → HasShape s p → moved_part x.layout o a.first (length a.frames) out ≡ bytes_by x.layout s a.frames
    by false w p hp = read-told o x s io out a sh w (record { first = m.first; most = m.most; frames = λ t. absurd (let no : ⊥ = cc in no) }) z (left ∙ ap (λ (b : Bool). cond (is_some (cond b None (Some n))) (bytes_with false x.layout a.first a.frames s io) io) w) same
    by true w p hp = shaped o refl
      where
        stays : out ≡ io
        stays = left ∙ ap (λ (b : Bool). cond (is_some (cond b None (Some n))) (bytes_with false x.layout a.first a.frames s io) io) w

        shaped : (q : Option Shape) → o ≡ q → moved_part x.layout o a.first (length a.frames) out ≡ bytes_by x.layout s a.frames
        shaped None e = absurd (no-shape e)
        shaped (Some h) e =
            let g = sh.sized h e in
            ap (λ (r : Option Shape). moved_part x.layout r a.first (length a.frames) out) e
            ∙ transfer-told x s h io out a m g
            (record {
              whole = λ ne. (multiple (x.moved + x.rest) h.frame_bytes (length io) g.some (z ne ∙ ap (λ (b : ℕ). (x.moved + x.rest) * b) g.frame)).0;
              all = λ ne. (let q = (multiple (x.moved + x.rest) h.frame_bytes (length io) g.some (z ne ∙ ap (λ (b : ℕ). (x.moved + x.rest) * b) g.frame)).1 in omega (arith, q));
            })
            (stays ∙ ap (λ (b : Bool). bytes_with b x.layout a.first a.frames s io) (sym w)) same

load-told : (r : Reply) (s : Stream) (fs loaded : List Frame) (io out : List ℕ) (o n : ℕ) → IsLoaded r fs loaded → loaded ≡ loaded_from o n s → Loads (call.Load o n) s r io out → on_frames r out ≡ bytes_of fs
load-told (reply.Frames m) s fs loaded io out o n h is l = l ∙ sym (ap bytes_of (h ∙ is))
load-told _ s fs loaded io out o n h is l = sym (ap bytes_of h)

-- what the own entry of an event has of its bytes
pub told_is : (e : Call) (c : ClientId) (s : Stream) (o : Option Shape) (count : ℕ) (io out tail : List ℕ) (a : Answer) → HasShape s o → Moves e c io s a → Sizes e c io s a → Handed e io s a → IsLent (reading_length e c s) count (length io)
    → ((t : Task) → waiting_of c s.sleepers ≡ Some t → TaskFits s t) → IsLeft e c s a io out → (is_movement e ≡ true → tail ≡ bytes_of a.frames)
    → told_bytes e (layout_of e c s) o a.reply a.first (frames_moved e (length a.frames)) out tail ≡ bytes_by (layout_of e c s) s a.frames
told_is (call.Write w m) c s o count io out tail a sh mo si ha le fit is ta = write-told o _ s io out a sh refl refl refl mo si (is.left refl)
told_is (call.Read w m n) c s o count io out tail a sh mo si ha le fit is ta = read-told o _ s io out a sh refl mo (λ ne. le.0 ∙ (let z : 0 + n ≡ n = omega arith in ap (λ (k : ℕ). k * s.setup.frame_bytes) (sym z))) (is.left refl) is.size
told_is call.Go c s o count io out tail a sh mo si ha le fit is ta = go-told (waiting_of c s.sleepers) o s io out a sh mo si fit (is.left refl) is.size
told_is (call.Store k) c s o count io out tail a sh mo si ha le fit is ta = ap (on_frames a.reply) (is.same refl refl) ∙ ha
told_is (call.Load k n) c s o count io out tail a sh mo si ha le fit is ta = load-told a.reply s a.frames _ io out k n ha refl is.loads
told_is call.Give c s o count io out tail a sh mo si ha le fit is ta = ap (on_ok a.reply) (is.same refl refl) ∙ ha
told_is (call.MoveBy n) c s o count io out tail a sh mo si ha le fit is ta = ta refl
told_is _ c s o count io out tail a sh mo si ha le fit is ta = sym (ap bytes_of mo)
