-- The sizes of a stream's configuration, and those by which a call reads.
use Rattle.std.proofs.Common.{◌≡◌, ℕ, Bool, true, false, List, Option, Some, None, IfSome, option_map, refl, sym, ap, ◌∙◌, subst}
use Rattle.pcm_base.specs.declared.call.Call.{Call}
use Rattle.pcm_base.specs.declared.call.Call.TheVariants as call
use Rattle.pcm_base.specs.declared.call.Layout.{Layout}
use Rattle.pcm_base.specs.declared.config.Config.{Config}
use Rattle.pcm_base.specs.declared.config.Shape.{Shape}
use Rattle.pcm_base.specs.declared.reply.Reply.{Reply}
use Rattle.pcm_base.specs.declared.reply.Reply.TheVariants as reply
use Rattle.pcm_base.specs.model.Allowed.{shape_of}
use Rattle.pcm_base.specs.model.Stream.{Stream, is_bare}
use Rattle.pcm_stream.specs.StandsFor.{IsShapeOf}
use Rattle.pcm_world.specs.Answered.{bytes_told}
use Rattle.pcm_world.specs.Bytes.{layout_begun, lent_bytes, shape_for}
use Rattle.pcm_world.proofs.BeginLemmas.{IsShapeAt}
use Rattle.pcm_world.proofs.StandingLemmas.{IsFit}

abbrev pub shape_at : Stream → Option Shape
shape_at s = option_map (λ (c : Config). shape_of c s.long_max) s.setup.config

pub shaped-fit : (s : Stream) → IsFit s → IsShapeAt (shape_at s) s
shaped-fit s h = record { is = refl; frames = by s.setup.config refl }
  where
    by : (o : Option Config) → s.setup.config ≡ o → IfSome (option_map (λ (c : Config). shape_of c s.long_max) o) (IsShapeOf s)
    by None e = tt
    by (Some c) e =
        let some : is_bare s ≡ false = ap (λ (o : Option Config). elim o as (λ _. Bool) [ None ↦ true | Some c ↦ false ]) e in
        let r = h.runs some in
        let both : Some r.0.config ≡ Some c = sym r.1.setup.config ∙ e in
        let same : r.0.config ≡ c = cc in
        let is : r.0.shape ≡ shape_of c s.long_max = r.1.setup.shape ∙ ap (λ (x : Config). shape_of x s.long_max) same in
        subst (IsShapeOf s) is (record { frame_bytes = r.1.setup.frame_bytes; buffer = r.1.setup.buffer; boundary = r.1.setup.boundary; sound = r.0.sound })

-- for a call that reads nothing, the sizes change nothing of what it is lent
lent-for : (e : Call) (shape : Option Shape) (io : List ℕ) → lent_bytes e (shape_for (layout_begun e) shape) io ≡ lent_bytes e shape io
lent-for call.OpenSub shape io = refl
lent-for call.CloseSub shape io = refl
lent-for (call.HwParams g) shape io = refl
lent-for call.HwFree shape io = refl
lent-for (call.SwParams w) shape io = refl
lent-for call.Prepare shape io = refl
lent-for call.Start shape io = refl
lent-for call.DropNow shape io = refl
lent-for (call.Drain m) shape io = refl
lent-for call.PausePush shape io = refl
lent-for call.PauseRelease shape io = refl
lent-for call.Suspend shape io = refl
lent-for call.Resume shape io = refl
lent-for call.Xrun shape io = refl
lent-for (call.Write w m) shape io = refl
lent-for (call.Read w m n) shape io = refl
lent-for (call.Rewind n) shape io = refl
lent-for (call.Forward n) shape io = refl
lent-for call.Hwsync shape io = refl
lent-for call.Delay shape io = refl
lent-for (call.SyncPtr v) shape io = refl
lent-for call.Status shape io = refl
lent-for call.PageNow shape io = refl
lent-for call.Poll shape io = refl
lent-for call.Map shape io = refl
lent-for call.Unmap shape io = refl
lent-for (call.Store o) shape io = refl
lent-for (call.Load o n) shape io = refl
lent-for (call.Link j) shape io = refl
lent-for call.Unlink shape io = refl
lent-for call.Go shape io = refl
lent-for (call.MoveBy n) shape io = refl
lent-for call.Irq shape io = refl
lent-for (call.FailAt i) shape io = refl
lent-for call.Give shape io = refl
lent-for call.Unplug shape io = refl

-- nor of what is told
told-for : (r : Reply) (o : Option Layout) (shape : Option Shape) (bytes before : List ℕ) → bytes_told r o (shape_for o shape) bytes before ≡ bytes_told r o shape bytes before
told-for r (Some l) shape bytes before = refl
told-for reply.Ok None shape bytes before = refl
told-for (reply.Frames m) None shape bytes before = refl
told-for (reply.Moved m) None shape bytes before = refl
told-for (reply.Delay m) None shape bytes before = refl
told-for (reply.Ptrs p) None shape bytes before = refl
told-for (reply.Poll p) None shape bytes before = refl
told-for reply.Asleep None shape bytes before = refl
told-for (reply.Err e) None shape bytes before = refl
told-for (reply.Late m) None shape bytes before = refl
told-for reply.Idle None shape bytes before = refl
told-for (reply.Limit m) None shape bytes before = refl
told-for (reply.Busy c) None shape bytes before = refl
told-for reply.Memory None shape bytes before = refl

for-some : (o : Option Layout) (l : Layout) (shape : Option Shape) (z : Shape) → o ≡ Some l → shape_for o shape ≡ Some z → shape ≡ Some z
for-some (Some w) l shape z lay is = is
for-some None l shape z lay is = absurd (let no : ⊥ = cc in no)

-- what the code finds by the sizes that it reads by, by the stream's own
pub lent-whole : (e : Call) (l : Option Layout) (o : Option Shape) (s : Stream) (io lent : List ℕ) → l ≡ layout_begun e → o ≡ shape_for l (shape_at s) → lent ≡ lent_bytes e o io → lent ≡ lent_bytes e (shape_at s) io
lent-whole e l o s io lent lay by is = is ∙ ap (λ (x : Option Shape). lent_bytes e x io) (by ∙ ap (λ (w : Option Layout). shape_for w (shape_at s)) lay) ∙ lent-for e (shape_at s) io

pub told-whole : (r : Reply) (l : Option Layout) (o : Option Shape) (s : Stream) (bytes before now : List ℕ) → o ≡ shape_for l (shape_at s) → now ≡ bytes_told r l o bytes before → now ≡ bytes_told r l (shape_at s) bytes before
told-whole r l o s bytes before now by is = is ∙ ap (λ (x : Option Shape). bytes_told r l x bytes before) by ∙ told-for r l (shape_at s) bytes before

pub some-whole : (l : Option Layout) (w : Layout) (o : Option Shape) (z : Shape) (s : Stream) → o ≡ shape_for l (shape_at s) → l ≡ Some w → o ≡ Some z → shape_at s ≡ Some z
some-whole l w o z s by lay is = for-some l w (shape_at s) z lay (sym by ∙ is)
