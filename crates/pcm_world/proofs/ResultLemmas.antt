-- What a client has read, once its call is answered.
use Rattle.std.proofs.Common.{◌≡◌, ℕ, ◌+◌, ◌*◌, ◌/◌, ◌%◌, ◌<◌, ◌≤◌, Bool, true, false, cond, not, ◌&&◌, nat_le, List, [], length, take, Option, Some, None, refl, sym, ap, ◌∙◌, subst, arith}
use Rattle.std.proofs.Math.Nat.{mul-div_cancel, mul-mod_left}
use Rattle.std.proofs.lemmas.List.{length-replicate, take_all}
use Rattle.pcm_base.specs.declared.call.Call.{Call}
use Rattle.pcm_base.specs.declared.call.Call.TheVariants as call
use Rattle.pcm_base.specs.declared.call.Layout.{Layout}
use Rattle.pcm_base.specs.declared.call.Layout.TheVariants as layout
use Rattle.pcm_base.specs.declared.call.Mode.{Mode}
use Rattle.pcm_base.specs.declared.config.Shape.{Shape}
use Rattle.pcm_base.specs.declared.ids.ClientId.{ClientId}
use Rattle.pcm_base.specs.declared.ids.SubId.{SubId}
use Rattle.pcm_base.specs.declared.reply.Reply.{Reply}
use Rattle.pcm_base.specs.declared.reply.Reply.TheVariants as reply
use Rattle.pcm_base.specs.model.Events.{opens}
use Rattle.pcm_base.specs.model.Frame.{Frame, bytes_of}
use Rattle.pcm_base.specs.model.Group.{group_step, stream_of}
use Rattle.pcm_base.specs.model.Program.{Answer}
use Rattle.pcm_base.specs.model.Replay.{bytes_by}
use Rattle.pcm_base.specs.model.Stream.{Member, Stream, is_bare}
use Rattle.pcm_base.specs.model.Transfer.{channels_of, frames_by}
use Rattle.pcm_base.specs.model.Words.{is_closed}
use Rattle.pcm_base.specs.model.World.{World, begun, is_go, told_bytes}
use Rattle.pcm_stream.specs.declared.runtime.Runtime.{Runtime}
use Rattle.pcm_stream.specs.Runs.{RunsFor}
use Rattle.mmap_pages.specs.Mapped.{load_refusal}
use Rattle.pcm_group.specs.Bytes.{bytes_left}
use Rattle.pcm_group.specs.Lent.{Loads, is_lent_call}
use Rattle.pcm_world.specs.Answered.{bytes_told}
use Rattle.pcm_world.specs.Bytes.{first_by, layout_begun, lent_bytes}
use Rattle.pcm_world.specs.Shown.{is_frames, reads}
use Rattle.pcm_world.specs.Waiting.{IsTold, IsTransferTold, task_begun}
use Rattle.pcm_world.proofs.BeginLemmas.{HasShape, IsGiven, IsShapeAt, load-length, load-let, load-lies, mapped-set, read-length, read-let, shape-some}
use Rattle.pcm_world.proofs.ReadLemmas.{read-told}
use Rattle.pcm_world.proofs.StandingLemmas.{IsFit}
use Rattle.pcm_world.proofs.WorldSteps.{IsLentFor, bytes-kept}

pub frames-or-not : (r : Reply) → is_frames r ≡ true → (n : ℕ) × (r ≡ reply.Frames n)
frames-or-not reply.Ok h = absurd (let no : ⊥ = cc in no)
frames-or-not (reply.Frames n) h = (n, refl)
frames-or-not (reply.Moved m) h = absurd (let no : ⊥ = cc in no)
frames-or-not (reply.Delay m) h = absurd (let no : ⊥ = cc in no)
frames-or-not (reply.Ptrs p) h = absurd (let no : ⊥ = cc in no)
frames-or-not (reply.Poll p) h = absurd (let no : ⊥ = cc in no)
frames-or-not reply.Asleep h = absurd (let no : ⊥ = cc in no)
frames-or-not (reply.Err e) h = absurd (let no : ⊥ = cc in no)
frames-or-not (reply.Late m) h = absurd (let no : ⊥ = cc in no)
frames-or-not reply.Idle h = absurd (let no : ⊥ = cc in no)
frames-or-not (reply.Limit m) h = absurd (let no : ⊥ = cc in no)
frames-or-not (reply.Busy c) h = absurd (let no : ⊥ = cc in no)
frames-or-not reply.Memory h = absurd (let no : ⊥ = cc in no)

pub told-other : (r : Reply) (l : Option Layout) (h : Option Shape) (bytes before : List ℕ) → is_frames r ≡ false → bytes_told r l h bytes before ≡ before
told-other reply.Ok l h bytes before f = refl
told-other (reply.Frames n) l h bytes before f = absurd (let no : ⊥ = cc in no)
told-other (reply.Moved m) l h bytes before f = refl
told-other (reply.Delay m) l h bytes before f = refl
told-other (reply.Ptrs p) l h bytes before f = refl
told-other (reply.Poll p) l h bytes before f = refl
told-other reply.Asleep l h bytes before f = refl
told-other (reply.Err e) l h bytes before f = refl
told-other (reply.Late m) l h bytes before f = refl
told-other reply.Idle l h bytes before f = refl
told-other (reply.Limit m) l h bytes before f = refl
told-other (reply.Busy c) l h bytes before f = refl
told-other reply.Memory l h bytes before f = refl

pub none-told : (r : Reply) (h : Option Shape) (bytes before : List ℕ) → bytes_told r None h bytes before ≡ before
none-told reply.Ok h bytes before = refl
none-told (reply.Frames n) h bytes before = refl
none-told (reply.Moved m) h bytes before = refl
none-told (reply.Delay m) h bytes before = refl
none-told (reply.Ptrs p) h bytes before = refl
none-told (reply.Poll p) h bytes before = refl
none-told reply.Asleep h bytes before = refl
none-told (reply.Err e) h bytes before = refl
none-told (reply.Late m) h bytes before = refl
none-told reply.Idle h bytes before = refl
none-told (reply.Limit m) h bytes before = refl
none-told (reply.Busy c) h bytes before = refl
none-told reply.Memory h bytes before = refl

-- ---- what the first frames are

pub record AreFirst (h : Shape) (n : ℕ) (now : List ℕ) : Type 0 where
  pub whole : length now % h.frame_bytes ≡ 0
  pub count : n * h.frame_bytes ≤ length now

pub first-of : (h : Shape) (n all : ℕ) (now : List ℕ) → length now ≡ all * h.frame_bytes → n ≤ all → AreFirst h n now
first-of h n all now size le = record {
  whole = ap (λ (k : ℕ). k % h.frame_bytes) size ∙ mul-mod_left all h.frame_bytes;
  count = (let few : n * h.frame_bytes ≤ all * h.frame_bytes = grind (arith, le) in omega (arith, few, size));
}

pub read-first : (l : Layout) (s : Stream) (r : Runtime) (h : Shape) (now : List ℕ) (all : List Frame) (n most : ℕ) → RunsFor r s → s.setup.frame_bytes ≡ h.frame_bytes → channels_of s.setup.config ≡ h.channels
    → length now ≡ most * s.setup.frame_bytes → n ≤ most → n ≡ length all → take (length all) (frames_by l s now) ≡ all → first_by l h n now ≡ bytes_by l s all
read-first l s r h now all n most k e f size le count is =
    let some : 0 < s.setup.frame_bytes = (let a : 1 ≤ r.shape.frame_bytes = r.sound.frame in let q : s.setup.frame_bytes ≡ r.shape.frame_bytes = k.setup.frame_bytes in omega (arith, a, q)) in
    let whole : length now % s.setup.frame_bytes ≡ 0 = ap (λ (m : ℕ). m % s.setup.frame_bytes) size ∙ mul-mod_left most s.setup.frame_bytes in
    let frames : length now / s.setup.frame_bytes ≡ most = ap (λ (m : ℕ). m / s.setup.frame_bytes) size ∙ mul-div_cancel most some in
    read-told l s r h now all n k e f whole (omega (arith, frames, le)) count is

-- ---- a call that begins

-- a step that began with these bytes lent, and left others
pub record IsBegun (e : Call) (c : ClientId) (k : SubId) (shape : Option Shape) (io now : List ℕ) (ms : List Member) : Type 0 where
  pub begins : is_go e ≡ false
  pub opened : (is_closed (stream_of k ms).state && not (opens e)) ≡ false
  pub fit : IsFit (stream_of k ms)
  pub shaped : IsShapeAt shape (stream_of k ms)
  pub told : IsTold (task_begun e c io (stream_of k ms)) (stream_of k ms) (group_step e c k io ms).answer
  pub size : length now ≡ length (lent_bytes e shape io)
  pub left : is_lent_call e ≡ false → now ≡ bytes_left e c (stream_of k ms) (group_step e c k io ms).answer (lent_bytes e shape io)
  pub loaded : Loads e (stream_of k ms) (group_step e c k io ms).answer.reply (lent_bytes e shape io) now

pub read-lent : (c : ClientId) (k : SubId) (w : Layout) (m : Mode) (n : ℕ) (shape : Option Shape) (io : List ℕ) (s : Stream) → IsFit s → IsShapeAt shape s → is_bare s ≡ false → nat_le n 1048576 ≡ true
    → IsLentFor (call.Read w m n) (begun c k io) s (lent_bytes (call.Read w m n) shape io)
read-lent c k w m n shape io s fit shaped set le = record {
  size = read-length w m n shape io s shaped set le ∙ sym (length-replicate (n * s.setup.frame_bytes) 0);
  bytes = refl;
  runs = fit.runs;
}

-- the frames that a read has in its bytes
read-frames : (c : ClientId) (k : SubId) (w : Layout) (m : Mode) (n : ℕ) (shape : Option Shape) (io now : List ℕ) (ms : List Member) → IsBegun (call.Read w m n) c k shape io now ms → is_bare (stream_of k ms) ≡ false → nat_le n 1048576 ≡ true
    → take (length (group_step (call.Read w m n) c k io ms).answer.frames) (frames_by w (stream_of k ms) now) ≡ (group_step (call.Read w m n) c k io ms).answer.frames
read-frames c k w m n shape io now ms h set le =
    let s : Stream = stream_of k ms in
    bytes-kept (call.Read w m n) (begun c k io) s (group_step (call.Read w m n) c k io ms).answer (lent_bytes (call.Read w m n) shape io) now refl tt (read-lent c k w m n shape io s h.fit h.shaped set le) h.told (λ z. set) (h.left refl)

read-told-all : (c : ClientId) (k : SubId) (w : Layout) (m : Mode) (n t : ℕ) (shape : Option Shape) (io now before : List ℕ) (ms : List Member) → IsBegun (call.Read w m n) c k shape io now ms → (group_step (call.Read w m n) c k io ms).answer.reply ≡ reply.Frames t
    → bytes_told (reply.Frames t) (Some w) shape now before ≡ bytes_by w (stream_of k ms) (group_step (call.Read w m n) c k io ms).answer.frames
read-told-all c k w m n t shape io now before ms h is =
    let s : Stream = stream_of k ms in
    let a : Answer = (group_step (call.Read w m n) c k io ms).answer in
    let let_in = read-let c k w m n io ms h.opened (subst IsGiven (sym is) tt) in
    let q : (z : Shape) × HasShape shape s z = shape-some shape s let_in.0 h.shaped in
    let r : (r : Runtime) × RunsFor r s = h.fit.runs let_in.0 in
    let told : IsTransferTold (record { writing = false; layout = w; mode = m; rest = n; moved = 0 }) s a = h.told in
    let count : t ≡ length a.frames = (let z : t ≡ 0 + length a.frames = told.count t is in omega (arith, z)) in
    ap (λ (o : Option Shape). bytes_told (reply.Frames t) (Some w) o now before) q.1.is
    ∙ read-first w s r.0 q.0 now a.frames t n r.1 q.1.frame_bytes q.1.channels (h.size ∙ read-length w m n shape io s h.shaped let_in.0 let_in.1) (omega (arith, count, told.most)) count
    (read-frames c k w m n shape io now ms h let_in.0 let_in.1)

loads-set : (s : Stream) (o n : ℕ) → IsFit s → load_refusal o n s ≡ None → is_bare s ≡ false
loads-set s o n fit none = mapped-set s fit.sound (load-lies o n s none).0

load-told-all : (c : ClientId) (k : SubId) (o n t : ℕ) (shape : Option Shape) (io now before : List ℕ) (ms : List Member) → IsBegun (call.Load o n) c k shape io now ms → (group_step (call.Load o n) c k io ms).answer.reply ≡ reply.Frames t
    → bytes_told (reply.Frames t) (Some layout.Interleaved) shape now before ≡ bytes_of (group_step (call.Load o n) c k io ms).answer.frames
load-told-all c k o n t shape io now before ms h is =
    let s : Stream = stream_of k ms in
    let a : Answer = (group_step (call.Load o n) c k io ms).answer in
    let let_in = load-let c k o n io ms h.opened (subst IsGiven (sym is) tt) in
    let q : (z : Shape) × HasShape shape s z = shape-some shape s (loads-set s o n h.fit let_in.0) h.shaped in
    let count : t ≡ n = (let two : reply.Frames t ≡ reply.Frames n = sym is ∙ ap (λ (a : Answer). a.reply) let_in.1 in cc) in
    let loaded : now ≡ bytes_of a.frames = subst (λ (r : Reply). Loads (call.Load o n) s r (lent_bytes (call.Load o n) shape io) now) is h.loaded ∙ ap (λ (a : Answer). bytes_of a.frames) (sym let_in.1) in
    let size : length now ≡ t * q.0.frame_bytes = h.size ∙ load-length o n shape io s h.shaped h.fit.sound let_in.0 ∙ ap (λ (b : ℕ). n * b) q.1.frame_bytes ∙ ap (λ (b : ℕ). b * q.0.frame_bytes) (sym count) in
    ap (λ (p : Option Shape). bytes_told (reply.Frames t) (Some layout.Interleaved) p now before) q.1.is
    ∙ take_all (t * q.0.frame_bytes) now (omega (arith, size)) ∙ loaded

-- what the client has read, once its call that began is answered
pub result-begun : (e : Call) (c : ClientId) (k : SubId) (shape : Option Shape) (io now before : List ℕ) (ms : List Member) (w : World) → IsBegun e c k shape io now ms
    → bytes_told (group_step e c k io ms).answer.reply (layout_begun e) shape now before
    ≡ cond (reads e c w && is_frames (group_step e c k io ms).answer.reply) (told_bytes e c (group_step e c k io ms).answer.reply (stream_of k ms) [] (group_step e c k io ms).answer.frames) before
result-begun (call.Read q m n) c k shape io now before ms w h = by (group_step (call.Read q m n) c k io ms).answer.reply refl (is_frames (group_step (call.Read q m n) c k io ms).answer.reply) refl
  where
    by : (r : Reply) → (group_step (call.Read q m n) c k io ms).answer.reply ≡ r → (b : Bool) → is_frames r ≡ b → bytes_told r (Some q) shape now before
        ≡ cond (is_frames r) (told_bytes (call.Read q m n) c r (stream_of k ms) [] (group_step (call.Read q m n) c k io ms).answer.frames) before
    by r is false f = told-other r (Some q) shape now before f ∙ sym (ap (λ (b : Bool). cond b (told_bytes (call.Read q m n) c r (stream_of k ms) [] (group_step (call.Read q m n) c k io ms).answer.frames) before) f)
    by r is true f =
        let t : (n : ℕ) × (r ≡ reply.Frames n) = frames-or-not r f in
        subst (λ (x : Reply). bytes_told x (Some q) shape now before ≡ cond (is_frames x) (told_bytes (call.Read q m n) c x (stream_of k ms) [] (group_step (call.Read q m n) c k io ms).answer.frames) before) (sym t.1)
        (read-told-all c k q m n t.0 shape io now before ms h (is ∙ t.1))
result-begun (call.Load o n) c k shape io now before ms w h = by (group_step (call.Load o n) c k io ms).answer.reply refl (is_frames (group_step (call.Load o n) c k io ms).answer.reply) refl
  where
    by : (r : Reply) → (group_step (call.Load o n) c k io ms).answer.reply ≡ r → (b : Bool) → is_frames r ≡ b → bytes_told r (Some layout.Interleaved) shape now before
        ≡ cond (is_frames r) (bytes_of (group_step (call.Load o n) c k io ms).answer.frames) before
    by r is false f = told-other r (Some layout.Interleaved) shape now before f ∙ sym (ap (λ (b : Bool). cond b (bytes_of (group_step (call.Load o n) c k io ms).answer.frames) before) f)
    by r is true f =
        let t : (n : ℕ) × (r ≡ reply.Frames n) = frames-or-not r f in
        subst (λ (x : Reply). bytes_told x (Some layout.Interleaved) shape now before ≡ cond (is_frames x) (bytes_of (group_step (call.Load o n) c k io ms).answer.frames) before) (sym t.1)
        (load-told-all c k o n t.0 shape io now before ms h (is ∙ t.1))
result-begun call.Go c k shape io now before ms w h = absurd (let two : true ≡ false = h.begins in let no : ⊥ = cc in no)
result-begun call.OpenSub c k shape io now before ms w h = none-told (group_step call.OpenSub c k io ms).answer.reply shape now before
result-begun call.CloseSub c k shape io now before ms w h = none-told (group_step call.CloseSub c k io ms).answer.reply shape now before
result-begun (call.HwParams g) c k shape io now before ms w h = none-told (group_step (call.HwParams g) c k io ms).answer.reply shape now before
result-begun call.HwFree c k shape io now before ms w h = none-told (group_step call.HwFree c k io ms).answer.reply shape now before
result-begun (call.SwParams w') c k shape io now before ms w h = none-told (group_step (call.SwParams w') c k io ms).answer.reply shape now before
result-begun call.Prepare c k shape io now before ms w h = none-told (group_step call.Prepare c k io ms).answer.reply shape now before
result-begun call.Start c k shape io now before ms w h = none-told (group_step call.Start c k io ms).answer.reply shape now before
result-begun call.DropNow c k shape io now before ms w h = none-told (group_step call.DropNow c k io ms).answer.reply shape now before
result-begun call.PausePush c k shape io now before ms w h = none-told (group_step call.PausePush c k io ms).answer.reply shape now before
result-begun call.PauseRelease c k shape io now before ms w h = none-told (group_step call.PauseRelease c k io ms).answer.reply shape now before
result-begun call.Suspend c k shape io now before ms w h = none-told (group_step call.Suspend c k io ms).answer.reply shape now before
result-begun call.Resume c k shape io now before ms w h = none-told (group_step call.Resume c k io ms).answer.reply shape now before
result-begun call.Xrun c k shape io now before ms w h = none-told (group_step call.Xrun c k io ms).answer.reply shape now before
result-begun (call.Rewind u) c k shape io now before ms w h = none-told (group_step (call.Rewind u) c k io ms).answer.reply shape now before
result-begun (call.Forward u) c k shape io now before ms w h = none-told (group_step (call.Forward u) c k io ms).answer.reply shape now before
result-begun call.Hwsync c k shape io now before ms w h = none-told (group_step call.Hwsync c k io ms).answer.reply shape now before
result-begun call.Delay c k shape io now before ms w h = none-told (group_step call.Delay c k io ms).answer.reply shape now before
result-begun (call.SyncPtr u) c k shape io now before ms w h = none-told (group_step (call.SyncPtr u) c k io ms).answer.reply shape now before
result-begun call.Status c k shape io now before ms w h = none-told (group_step call.Status c k io ms).answer.reply shape now before
result-begun call.PageNow c k shape io now before ms w h = none-told (group_step call.PageNow c k io ms).answer.reply shape now before
result-begun call.Poll c k shape io now before ms w h = none-told (group_step call.Poll c k io ms).answer.reply shape now before
result-begun call.Map c k shape io now before ms w h = none-told (group_step call.Map c k io ms).answer.reply shape now before
result-begun call.Unmap c k shape io now before ms w h = none-told (group_step call.Unmap c k io ms).answer.reply shape now before
result-begun (call.Store o) c k shape io now before ms w h = none-told (group_step (call.Store o) c k io ms).answer.reply shape now before
result-begun (call.MoveBy u) c k shape io now before ms w h = none-told (group_step (call.MoveBy u) c k io ms).answer.reply shape now before
result-begun call.Irq c k shape io now before ms w h = none-told (group_step call.Irq c k io ms).answer.reply shape now before
result-begun (call.FailAt i) c k shape io now before ms w h = none-told (group_step (call.FailAt i) c k io ms).answer.reply shape now before
result-begun call.Give c k shape io now before ms w h = none-told (group_step call.Give c k io ms).answer.reply shape now before
result-begun call.Unplug c k shape io now before ms w h = none-told (group_step call.Unplug c k io ms).answer.reply shape now before
result-begun (call.Link j) c k shape io now before ms w h = none-told (group_step (call.Link j) c k io ms).answer.reply shape now before
result-begun call.Unlink c k shape io now before ms w h = none-told (group_step call.Unlink c k io ms).answer.reply shape now before
result-begun (call.Drain m) c k shape io now before ms w h = none-told (group_step (call.Drain m) c k io ms).answer.reply shape now before
result-begun (call.Write q m) c k shape io now before ms w h = none-told (group_step (call.Write q m) c k io ms).answer.reply shape now before

-- so many frames are in its bytes
pub first-begun : (e : Call) (c : ClientId) (k : SubId) (shape : Option Shape) (io now : List ℕ) (ms : List Member) → IsBegun e c k shape io now ms → (z : Shape) (l : Layout) (t : ℕ) → shape ≡ Some z → layout_begun e ≡ Some l
    → (group_step e c k io ms).answer.reply ≡ reply.Frames t → AreFirst z t now
first-begun (call.Read q m n) c k shape io now ms h z l t of lay is =
    let s : Stream = stream_of k ms in
    let let_in = read-let c k q m n io ms h.opened (subst IsGiven (sym is) tt) in
    let found : (z : Shape) × HasShape shape s z = shape-some shape s let_in.0 h.shaped in
    let same : found.0 ≡ z = (let two : Some found.0 ≡ Some z = sym found.1.is ∙ of in cc) in
    let told : IsTransferTold (record { writing = false; layout = q; mode = m; rest = n; moved = 0 }) s (group_step (call.Read q m n) c k io ms).answer = h.told in
    let count : t ≡ 0 + length (group_step (call.Read q m n) c k io ms).answer.frames = told.count t is in
    subst (λ (y : Shape). AreFirst y t now) same
    (first-of found.0 t n now (h.size ∙ read-length q m n shape io s h.shaped let_in.0 let_in.1 ∙ ap (λ (b : ℕ). n * b) found.1.frame_bytes) (omega (arith, count, told.most)))
first-begun (call.Load o n) c k shape io now ms h z l t of lay is =
    let s : Stream = stream_of k ms in
    let let_in = load-let c k o n io ms h.opened (subst IsGiven (sym is) tt) in
    let found : (z : Shape) × HasShape shape s z = shape-some shape s (loads-set s o n h.fit let_in.0) h.shaped in
    let same : found.0 ≡ z = (let two : Some found.0 ≡ Some z = sym found.1.is ∙ of in cc) in
    let count : t ≡ n = (let two : reply.Frames t ≡ reply.Frames n = sym is ∙ ap (λ (a : Answer). a.reply) let_in.1 in cc) in
    subst (λ (y : Shape). AreFirst y t now) same
    (first-of found.0 t n now (h.size ∙ load-length o n shape io s h.shaped h.fit.sound let_in.0 ∙ ap (λ (b : ℕ). n * b) found.1.frame_bytes) (omega (arith, count)))
first-begun call.Go c k shape io now ms h z l t of lay is = absurd (let two : true ≡ false = h.begins in let no : ⊥ = cc in no)
first-begun call.OpenSub c k shape io now ms h z l t of lay is = absurd (let no : ⊥ = cc in no)
first-begun call.CloseSub c k shape io now ms h z l t of lay is = absurd (let no : ⊥ = cc in no)
first-begun (call.HwParams g) c k shape io now ms h z l t of lay is = absurd (let no : ⊥ = cc in no)
first-begun call.HwFree c k shape io now ms h z l t of lay is = absurd (let no : ⊥ = cc in no)
first-begun (call.SwParams w') c k shape io now ms h z l t of lay is = absurd (let no : ⊥ = cc in no)
first-begun call.Prepare c k shape io now ms h z l t of lay is = absurd (let no : ⊥ = cc in no)
first-begun call.Start c k shape io now ms h z l t of lay is = absurd (let no : ⊥ = cc in no)
first-begun call.DropNow c k shape io now ms h z l t of lay is = absurd (let no : ⊥ = cc in no)
first-begun call.PausePush c k shape io now ms h z l t of lay is = absurd (let no : ⊥ = cc in no)
first-begun call.PauseRelease c k shape io now ms h z l t of lay is = absurd (let no : ⊥ = cc in no)
first-begun call.Suspend c k shape io now ms h z l t of lay is = absurd (let no : ⊥ = cc in no)
first-begun call.Resume c k shape io now ms h z l t of lay is = absurd (let no : ⊥ = cc in no)
first-begun call.Xrun c k shape io now ms h z l t of lay is = absurd (let no : ⊥ = cc in no)
first-begun (call.Rewind u) c k shape io now ms h z l t of lay is = absurd (let no : ⊥ = cc in no)
first-begun (call.Forward u) c k shape io now ms h z l t of lay is = absurd (let no : ⊥ = cc in no)
first-begun call.Hwsync c k shape io now ms h z l t of lay is = absurd (let no : ⊥ = cc in no)
first-begun call.Delay c k shape io now ms h z l t of lay is = absurd (let no : ⊥ = cc in no)
first-begun (call.SyncPtr u) c k shape io now ms h z l t of lay is = absurd (let no : ⊥ = cc in no)
first-begun call.Status c k shape io now ms h z l t of lay is = absurd (let no : ⊥ = cc in no)
first-begun call.PageNow c k shape io now ms h z l t of lay is = absurd (let no : ⊥ = cc in no)
first-begun call.Poll c k shape io now ms h z l t of lay is = absurd (let no : ⊥ = cc in no)
first-begun call.Map c k shape io now ms h z l t of lay is = absurd (let no : ⊥ = cc in no)
first-begun call.Unmap c k shape io now ms h z l t of lay is = absurd (let no : ⊥ = cc in no)
first-begun (call.Store o) c k shape io now ms h z l t of lay is = absurd (let no : ⊥ = cc in no)
first-begun (call.MoveBy u) c k shape io now ms h z l t of lay is = absurd (let no : ⊥ = cc in no)
first-begun call.Irq c k shape io now ms h z l t of lay is = absurd (let no : ⊥ = cc in no)
first-begun (call.FailAt i) c k shape io now ms h z l t of lay is = absurd (let no : ⊥ = cc in no)
first-begun call.Give c k shape io now ms h z l t of lay is = absurd (let no : ⊥ = cc in no)
first-begun call.Unplug c k shape io now ms h z l t of lay is = absurd (let no : ⊥ = cc in no)
first-begun (call.Link j) c k shape io now ms h z l t of lay is = absurd (let no : ⊥ = cc in no)
first-begun call.Unlink c k shape io now ms h z l t of lay is = absurd (let no : ⊥ = cc in no)
first-begun (call.Drain m) c k shape io now ms h z l t of lay is = absurd (let no : ⊥ = cc in no)
first-begun (call.Write q m) c k shape io now ms h z l t of lay is = absurd (let no : ⊥ = cc in no)
