use Rattle.std.proofs.Common.{◌≡◌, ℕ, ◌*◌, ◌/◌, ◌%◌, Bool, true, false, not, nat_eq, List, length, Some, None, refl, sym, ◌∙◌, ap, subst, arith}
use Rattle.std.proofs.lemmas.Bool.Decides.{nat_tests}
use Rattle.pcm_base.specs.declared.call.Layout.{Layout}
use Rattle.pcm_base.specs.declared.call.Mode.{Mode}
use Rattle.pcm_base.specs.declared.ids.ClientId.{ClientId}
use Rattle.pcm_base.specs.declared.reply.Reply.{Reply}
use Rattle.pcm_base.specs.declared.reply.Reply.TheVariants as reply
use Rattle.pcm_base.specs.declared.sleeper.Xfer.{Xfer}
use Rattle.pcm_base.specs.declared.state.Errno.TheVariants as errno
use Rattle.pcm_base.specs.model.Group.{stream_of}
use Rattle.pcm_base.specs.model.Program.{Program}
use Rattle.pcm_base.specs.model.Stream.{Stream}
use Rattle.pcm_base.specs.model.Transfer.{frames_by, is_whole, misfit, write}
use Rattle.pcm_base.specs.model.Words.{when}
use Rattle.pcm_stream.specs.Members.{members_of}
use Rattle.pcm_group.specs.Ended.{RunsTo}
use Rattle.pcm_group.specs.Transfers.{IsFit, begun}
use Rattle.pcm_group.proofs.AsleepLemmas.{IsEndedBy-at, IsEndedBy-of}
use Rattle.pcm_group.proofs.BeginLemmas.{all_whole, write_fits}
use Rattle.pcm_group.proofs.CarryLemmas.{IsEndedBy-told}
use Rattle.pcm_group.proofs.EndedLemmas.{IsEnded-refused, allowed-is}
use Rattle.pcm_group.proofs.FaultLemmas.{KeepsCards-same}
use Rattle.pcm_group.proofs.write_read.write_frames.Goals as goal

writes_so : (c : ClientId) (w : Layout) (m : Mode) (io : List ℕ) (s : Stream) (size frame : ℕ) → IsFit s true w frame → size ≡ length io → size % frame ≡ 0
    → write c w m io s ≡ begun true c (record { writing = true; layout = w; mode = m; rest = size / frame; moved = 0 }) (frames_by w s io) s
writes_so c w m io s size frame fit count none =
    let even : length io % frame ≡ 0 = ap (λ (n : ℕ). n % frame) (sym count) ∙ none in
    let test : is_whole s io ≡ true = ap (λ (b : ℕ). nat_eq (length io % b) 0) fit.frame ∙ (let yes : nat_eq (length io % frame) 0 ≡ true = grind (arith, nat_tests, even) in yes) in
    let through : misfit s true w (is_whole s io) ≡ None = fit.refused (is_whole s io) ∙ ap (λ (b : Bool). when (not b) errno.Einval) test in
    allowed-is (misfit s true w (is_whole s io)) s _ through
    ∙ ap (λ (b : ℕ). begun true c (record { writing = true; layout = w; mode = m; rest = length io / b; moved = 0 }) (frames_by w s io) s) fit.frame
    ∙ ap (λ (n : ℕ). begun true c (record { writing = true; layout = w; mode = m; rest = n / frame; moved = 0 }) (frames_by w s io) s) (sym count)

long_enough : (w : Layout) (io : List ℕ) (s : Stream) (size frame : ℕ) → IsFit s true w frame → size ≡ length io → size % frame ≡ 0 → length io ≡ size / frame * s.setup.frame_bytes
long_enough w io s size frame fit count none = sym count ∙ all_whole size frame none ∙ ap (λ (b : ℕ). size / frame * b) (sym fit.frame)

odd_refused : (w : Layout) (io : List ℕ) (s : Stream) (frame : ℕ) → IsFit s true w frame → (length io % frame ≡ 0 → ⊥) → misfit s true w (is_whole s io) ≡ Some errno.Einval
odd_refused w io s frame fit odd =
    let test : is_whole s io ≡ false = ap (λ (b : ℕ). nat_eq (length io % b) 0) fit.frame ∙ (let no : nat_eq (length io % frame) 0 ≡ false = grind (arith, nat_tests, odd) in no) in
    fit.refused (is_whole s io) ∙ ap (λ (b : Bool). when (not b) errno.Einval) test

pub returns-then-size-frame-ne0-clause-done : goal.returns-then-size-frame-ne0-clause-done
returns-then-size-frame-ne0-clause-done g c = λ k tells xs h fit.
    let cl = c.args.client in
    let s = stream_of k xs in
    let ms = members_of c.args.members.now in
    let old = c.args.acts.now in
    let r : Reply = reply.Err errno.Einval in
    let p = write cl c.args.layout c.args.mode c.args.io.now s in
    IsEndedBy-told cl tells p p k xs old old c.said.result.reply r c.said.result.first 0 c.said.result.moved 0 ms refl c.said.ensures.reply c.said.ensures.first c.said.ensures.moved
    (IsEndedBy-of cl tells p k xs old old r 0 0 ms (λ e. let no : ⊥ = cc in no) c.requires.free
    (IsEnded-refused tells (misfit s true c.args.layout (is_whole s c.args.io.now)) _ errno.Einval k xs old ms c.args.place h (odd_refused c.args.layout c.args.io.now s c.args.frame fit (λ e. c.if-size-frame-ne0.true (subst (λ (n : ℕ). n % c.args.frame ≡ 0) (sym c.size_of-size.ensures.count) e)))))

pub returns-clause-done : goal.returns-clause-done
returns-clause-done g c = λ k tells xs h fit.
    let cl = c.args.client in
    let io = c.args.io.now in
    let s = stream_of k xs in
    let w = c.args.layout in
    let size = c.size_of-size.result in
    let frame = c.args.frame in
    let x : Xfer = record { writing = true; layout = w; mode = c.args.mode; rest = size / frame; moved = 0 } in
    let of = write_fits s w x size frame fit refl refl refl refl c.size_of-size.ensures.bound in
    let e = c.begin.ensures.done k tells xs h of refl (λ _ _. long_enough w io s size frame fit c.size_of-size.ensures.count c.if-size-frame-ne0.false) in
    IsEndedBy-at cl tells (write cl w c.args.mode io s) (begun true cl x (frames_by w s io) s) k xs c.args.acts.now c.begin.new.acts c.begin.result.reply c.begin.result.first c.begin.result.moved (members_of c.begin.new.members)
    (writes_so cl w c.args.mode io s size frame fit c.size_of-size.ensures.count c.if-size-frame-ne0.false) e

pub returns-clause-bytes : goal.returns-clause-bytes
returns-clause-bytes g c = λ k tells xs b ys h fit runs.
    let cl = c.args.client in
    let io = c.args.io.now in
    let s = stream_of k xs in
    let w = c.args.layout in
    let size = c.size_of-size.result in
    let frame = c.args.frame in
    let x : Xfer = record { writing = true; layout = w; mode = c.args.mode; rest = size / frame; moved = 0 } in
    let of = write_fits s w x size frame fit refl refl refl refl c.size_of-size.ensures.bound in
    c.begin.ensures.bytes k tells xs b ys h of refl (λ _ _. long_enough w io s size frame fit c.size_of-size.ensures.count c.if-size-frame-ne0.false)
    (subst (λ (p : Program). RunsTo tells p k xs c.begin.new.acts b ys) (writes_so cl w c.args.mode io s size frame fit c.size_of-size.ensures.count c.if-size-frame-ne0.false) runs)

pub returns-then-size-frame-ne0-clause-cards : goal.returns-then-size-frame-ne0-clause-cards
returns-then-size-frame-ne0-clause-cards g c = KeepsCards-same c.args.acts.now (members_of c.args.members.now)
