use Rattle.std.proofs.Common.{◌≡◌, ℕ, ◌≤◌, ◌<◌, Bool, true, false, not, nat_le, List, Some, None, refl, ◌∙◌, ap, subst, arith}
use Rattle.std.proofs.lemmas.Bool.Decides.{nat_tests}
use Rattle.pcm_base.specs.declared.call.Layout.{Layout}
use Rattle.pcm_base.specs.declared.call.Mode.{Mode}
use Rattle.pcm_base.specs.declared.ids.ClientId.{ClientId}
use Rattle.pcm_base.specs.declared.reply.Reply.{Reply}
use Rattle.pcm_base.specs.declared.reply.Reply.TheVariants as reply
use Rattle.pcm_base.specs.declared.sleeper.Xfer.{Xfer}
use Rattle.pcm_base.specs.declared.state.Errno.TheVariants as errno
use Rattle.pcm_base.specs.model.Group.{stream_of}
use Rattle.pcm_base.specs.model.Program.{Program}
use Rattle.pcm_base.specs.model.Stream.{Stream}
use Rattle.pcm_base.specs.model.Transfer.{frames_by, misfit, read}
use Rattle.pcm_base.specs.model.Words.{when}
use Rattle.pcm_stream.specs.Members.{members_of}
use Rattle.pcm_group.specs.Ended.{RunsTo}
use Rattle.pcm_group.specs.Transfers.{IsFit, begun}
use Rattle.pcm_group.proofs.AsleepLemmas.{IsEndedBy-at, IsEndedBy-of}
use Rattle.pcm_group.proofs.BeginLemmas.{quiet_bytes, read_fits}
use Rattle.pcm_group.proofs.CarryLemmas.{IsEndedBy-told}
use Rattle.pcm_group.proofs.EndedLemmas.{IsEnded-refused, allowed-is}
use Rattle.pcm_group.proofs.FaultLemmas.{KeepsCards-same}
use Rattle.pcm_group.proofs.write_read.read_frames.Goals as goal

few_through : (w : Layout) (n : ℕ) (s : Stream) (frame : ℕ) → IsFit s false w frame → n ≤ 1048576 → misfit s false w (nat_le n 1048576) ≡ None
few_through w n s frame fit few =
    let test : nat_le n 1048576 ≡ true = grind (arith, nat_tests, few) in
    fit.refused (nat_le n 1048576) ∙ ap (λ (b : Bool). when (not b) errno.Einval) test

many_refused : (w : Layout) (n : ℕ) (s : Stream) (frame : ℕ) → IsFit s false w frame → 1048576 < n → misfit s false w (nat_le n 1048576) ≡ Some errno.Einval
many_refused w n s frame fit many =
    let test : nat_le n 1048576 ≡ false = grind (arith, nat_tests, many) in
    fit.refused (nat_le n 1048576) ∙ ap (λ (b : Bool). when (not b) errno.Einval) test

reads_so : (c : ClientId) (w : Layout) (m : Mode) (n : ℕ) (io : List ℕ) (s : Stream) (frame : ℕ) → IsFit s false w frame → n ≤ 1048576
    → read c w m n s ≡ begun false c (record { writing = false; layout = w; mode = m; rest = n; moved = 0 }) (frames_by w s io) s
reads_so c w m n io s frame fit few = allowed-is (misfit s false w (nat_le n 1048576)) s _ (few_through w n s frame fit few)

pub returns-then-n-gt1048576-clause-done : goal.returns-then-n-gt1048576-clause-done
returns-then-n-gt1048576-clause-done g c = λ k tells xs frame h fit long.
    let cl = c.args.client in
    let s = stream_of k xs in
    let ms = members_of c.args.members.now in
    let old = c.args.acts.now in
    let r : Reply = reply.Err errno.Einval in
    let p = read cl c.args.layout c.args.mode c.args.n s in
    IsEndedBy-told cl tells p p k xs old old c.said.result.reply r c.said.result.first 0 c.said.result.moved 0 ms refl c.said.ensures.reply c.said.ensures.first c.said.ensures.moved
    (IsEndedBy-of cl tells p k xs old old r 0 0 ms (λ e. let no : ⊥ = cc in no) c.requires.free
    (IsEnded-refused tells (misfit s false c.args.layout (nat_le c.args.n 1048576)) _ errno.Einval k xs old ms c.args.place h (many_refused c.args.layout c.args.n s frame fit c.if-n-gt1048576.true)))

pub returns-then-n-gt1048576-clause-bytes : goal.returns-then-n-gt1048576-clause-bytes
returns-then-n-gt1048576-clause-bytes g c = λ k tells xs frame b ys h fit long runs.
    quiet_bytes c.args.client tells (read c.args.client c.args.layout c.args.mode c.args.n (stream_of k xs)) k xs c.args.acts.now c.args.acts.now c.said.result.reply c.said.result.first c.said.result.moved (members_of c.args.members.now) false c.args.layout (stream_of k xs) c.args.io.now b ys
    (returns-then-n-gt1048576-clause-done g c k tells xs frame h fit long) c.said.ensures.moved c.requires.none runs

pub returns-clause-done : goal.returns-clause-done
returns-clause-done g c = λ k tells xs frame h fit long.
    let cl = c.args.client in
    let io = c.args.io.now in
    let s = stream_of k xs in
    let x : Xfer = record { writing = false; layout = c.args.layout; mode = c.args.mode; rest = c.args.n; moved = 0 } in
    let few : c.args.n ≤ 1048576 = omega (arith, c.if-n-gt1048576.false) in
    let e = c.begin.ensures.done k tells xs h (read_fits s c.args.layout x frame fit refl refl refl few) refl (λ some free. long (few_through c.args.layout c.args.n s frame fit few) some free) in
    IsEndedBy-at cl tells (read cl c.args.layout c.args.mode c.args.n s) (begun false cl x (frames_by c.args.layout s io) s) k xs c.args.acts.now c.begin.new.acts c.begin.result.reply c.begin.result.first c.begin.result.moved (members_of c.begin.new.members)
    (reads_so cl c.args.layout c.args.mode c.args.n io s frame fit few) e

pub returns-clause-bytes : goal.returns-clause-bytes
returns-clause-bytes g c = λ k tells xs frame b ys h fit long runs.
    let cl = c.args.client in
    let io = c.args.io.now in
    let s = stream_of k xs in
    let x : Xfer = record { writing = false; layout = c.args.layout; mode = c.args.mode; rest = c.args.n; moved = 0 } in
    let few : c.args.n ≤ 1048576 = omega (arith, c.if-n-gt1048576.false) in
    c.begin.ensures.bytes k tells xs b ys h (read_fits s c.args.layout x frame fit refl refl refl few) refl (λ some free. long (few_through c.args.layout c.args.n s frame fit few) some free)
    (subst (λ (p : Program). RunsTo tells p k xs c.begin.new.acts b ys) (reads_so cl c.args.layout c.args.mode c.args.n io s frame fit few) runs)

pub returns-then-n-gt1048576-clause-cards : goal.returns-then-n-gt1048576-clause-cards
returns-then-n-gt1048576-clause-cards g c = KeepsCards-same c.args.acts.now (members_of c.args.members.now)
