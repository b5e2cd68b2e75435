use Rattle.std.proofs.Common.{◌≡◌, ◌≢◌, ℕ, ◌<◌, Bool, true, false, cond, nat_eq, List, [], ◌++◌, length, drop, refl, sym, ◌∙◌, ap, subst}
use Rattle.pcm_base.specs.declared.act.Act.TheVariants as act
use Rattle.pcm_base.specs.declared.reply.Reply.{Reply}
use Rattle.pcm_base.specs.declared.reply.Reply.TheVariants as reply
use Rattle.pcm_base.specs.model.Acts.{members_after}
use Rattle.pcm_base.specs.model.Frame.{Frame}
use Rattle.pcm_base.specs.model.Group.{put_stream, stream_of}
use Rattle.pcm_base.specs.model.Program.{Makes}
use Rattle.pcm_base.specs.model.Stream.{Stream}
use Rattle.pcm_base.specs.model.Transfer.{after_start, frames_by, frames_or, tells as telling}
use Rattle.pcm_stream.specs.Members.{members_of}
use Rattle.pcm_stream.specs.MembersStand.{IsTransferOn}
use Rattle.xfer_loop.specs.Loop.{after_stuck}
use Rattle.xfer_loop.specs.declared.XferStep.TheVariants as step
use Rattle.pcm_group.specs.Transfers.{IsWait, bytes_with, going, halted}
use Rattle.pcm_group.specs.Waiting.{calls_of, is_free}
use Rattle.pcm_group.proofs.AsleepLemmas.{IsEndedBy-at, IsEndedBy-of, IsEndedBy-then}
use Rattle.pcm_group.proofs.CarryLemmas.{IsEnded-telling, IsEndedBy-told, first_now, frames_now}
use Rattle.pcm_group.proofs.EndedLemmas.{IsEnded-at, IsEnded-then}
use Rattle.pcm_group.proofs.GoOnLemmas.{AreBytesOf-fixed, IsEndedBy-turned, IsTransferOf-same, IsTransferOn-of, dir_after, halted_stuck, length-fixed, setup_after, start_done, start_fails, started, turned-stream}
use Rattle.pcm_group.proofs.PlaceLemmas.{calls-fixed, numbers-fixed}
use Rattle.pcm_group.proofs.TransferLemmas.{itself, same_frames}
use Rattle.pcm_group.proofs.FaultLemmas.{KeepsCards-then}
use Rattle.pcm_group.proofs.transfer.start_and_go_on.Goals as goal

pub turns_at-halt-requires-clause-place : goal.turns_at-halt-requires-clause-place
turns_at-halt-requires-clause-place g c = subst (λ (n : ℕ). c.args.place < n) (sym (length-fixed (members_of c.args.members.now) (members_of c.make.new.members) c.make.ensures.fixed)) c.requires.place

pub turns_at-halt-requires-clause-bytes : goal.turns_at-halt-requires-clause-bytes
turns_at-halt-requires-clause-bytes g c = AreBytesOf-fixed (members_of c.args.members.now) (members_of c.make.new.members) c.args.place c.args.xfer c.args.xfer c.args.io.now c.args.io.now c.make.ensures.fixed refl refl c.requires.bytes

pub end-requires-clause-place : goal.end-requires-clause-place
end-requires-clause-place g c =
    subst (λ (n : ℕ). c.args.place < n) (sym (length-fixed (members_of c.args.members.now) (members_of c.turns_at-halt.new.members) (c.turns_at-halt.ensures.fixed ∙ c.make.ensures.fixed))) c.requires.place

pub end-requires-clause-free : goal.end-requires-clause-free
end-requires-clause-free g c = ap (is_free c.args.client) (calls-fixed (members_of c.args.members.now) (members_of c.turns_at-halt.new.members) (c.turns_at-halt.ensures.fixed ∙ c.make.ensures.fixed)) ∙ c.requires.free

pub returns-in-Ok-clause-done : goal.returns-in-Ok-clause-done
returns-in-Ok-clause-done g c = λ k tells xs x fs all h fit way same layout writing is.
    let cl = c.args.client in
    let y = c.args.xfer in
    let made = c.in-Ok.ensures.made c.args.place k tells xs h in
    let ys = members_after made.acted xs in
    let s = stream_of k xs in
    let t = stream_of k ys in
    let z = c.turns_at-halt.new.xfer in
    let p = c.turns_at-halt.result in
    let ms = members_of c.make.new.members in
    let ns = members_of c.turns_at-halt.new.members in
    let os = members_of c.end.new.members in
    let mid = c.make.new.acts in
    let acts = c.end.new.acts in
    let a = frames_by y.layout t c.args.io.now in
    let u = c.turns_at-halt.ensures.turned cl x fs k tells ys made.now way in
    let v = u.halted in
    let zs = put_stream k v.left ys in
    let left : stream_of k zs ≡ v.left = turned-stream cl x y z fs a c.args.place k tells ys c.args.io.now c.turns_at-halt.new.io p ms ns made.now u in
    let quiet = started tells xs made.acted k made.decided made.answer in
    let never : p ≢ step.WantsStart = λ e. (let two : true ≡ false = sym ((v.starts e).1) ∙ quiet in cc) in
    let whose : IsWait p → IsTransferOn (stream_of k zs) z = λ w.
    IsTransferOn-of (stream_of k zs) z (IsTransferOf-same s (stream_of k zs) y z (ap (λ (q : Stream). q.dir) left ∙ v.turned.dir ∙ dir_after made.acted k xs) (ap (λ (q : Stream). q.setup) left ∙ v.turned.setup ∙ setup_after made.acted k xs)
    (sym v.way.writing ∙ way.writing) v.layout c.turns_at-halt.ensures.sum fit) (v.waits w).0 (v.waits w).1 in
    let r = c.end.result.reply in
    let f = c.end.result.first in
    let n = c.end.result.moved in
    let e = c.end.ensures.done k tells zs x (fs ++ v.moved) u.at v.way same (layout ∙ sym v.layout) whose in
    let e2 = IsEndedBy-at cl tells (halted cl x z (fs ++ v.moved) a (stream_of k zs) p) (after_stuck cl x z (fs ++ v.moved) (stream_of k zs) p) k zs mid acts r f n os (halted_stuck cl x z (fs ++ v.moved) a (stream_of k zs) p never) e in
    let e3 = IsEndedBy-turned cl x y z fs a c.args.place k tells ys c.args.io.now c.turns_at-halt.new.io p ms ns os mid acts r f n made.now u e2 in
    let frames : all ≡ a = is ∙ sym (same_frames y.layout s t c.args.io.now (setup_after made.acted k xs)) in
    IsEndedBy-then cl tells act.Start (after_start cl x fs (drop y.moved all)) c.args.place k xs c.args.acts.now mid acts _ ms os r f n h.distinct made
    (IsEndedBy-at cl tells (after_start cl x fs (drop y.moved all) made.acted.outcome t) (going cl x y fs a t) k ys mid acts r f n os
    (ap (λ (l : List Frame). after_start cl x fs (drop y.moved l) made.acted.outcome t) frames ∙ start_done cl x y fs a made.acted.outcome t made.answer quiet writing) e3)

pub returns-in-Err-clause-done : goal.returns-in-Err-clause-done
returns-in-Err-clause-done g c = λ k tells xs x fs all h fit way same layout writing is.
    let cl = c.args.client in
    let z = c.args.xfer in
    let made = c.in-Err.ensures.made c.args.place k tells xs h in
    let ys = members_after made.acted xs in
    let s = stream_of k xs in
    let t = stream_of k ys in
    let ns = members_of c.make.new.members in
    let old = c.args.acts.now in
    let new = c.make.new.acts in
    let r : Reply = frames_or z.moved c.in-Err.e in
    let first = cond (nat_eq (length fs) 0) 0 x.moved in
    let P = Makes act.Start s (after_start cl x fs (drop z.moved all)) in
    let free : is_free cl (calls_of ns) ≡ true = ap (is_free cl) (calls-fixed (members_of c.args.members.now) ns c.make.ensures.fixed) ∙ c.requires.free in
    IsEndedBy-told cl tells P P k xs old new c.ended_with.result.reply r c.ended_with.result.first first c.ended_with.result.moved (length fs) ns
    refl (c.ended_with.ensures.reply ∙ c.moved_or.ensures.answer) (c.ended_with.ensures.first ∙ first_now x z fs c.args.before way same) (c.ended_with.ensures.moved ∙ frames_now x z fs c.args.before way same)
    (IsEndedBy-of cl tells P k xs old new r first (length fs) ns (subst (λ (q : Reply). q ≢ reply.Asleep) c.moved_or.ensures.answer c.moved_or.ensures.awake) free
    (IsEnded-then tells act.Start (after_start cl x fs (drop z.moved all)) c.args.place k xs old new new _ ns ns r first (length fs) h.distinct made
    (IsEnded-at tells (after_start cl x fs (drop z.moved all) made.acted.outcome t) (telling r x fs t) k ys new new r first (length fs) ns
    (start_fails cl x fs (drop z.moved all) made.acted.outcome t c.in-Err.e made.answer ∙ ap (λ (m : ℕ). telling (frames_or m c.in-Err.e) x fs t) way.moved) (IsEnded-telling tells k ys new r x fs ns c.args.place made.now))))

pub returns-in-Ok-clause-written : goal.returns-in-Ok-clause-written
returns-in-Ok-clause-written g c = λ k tells xs h writing.
    let made = c.in-Ok.ensures.made c.args.place k tells xs h in
    let y = c.args.xfer in
    let u = c.turns_at-halt.ensures.turned c.args.client y [] k tells (members_after made.acted xs) made.now (itself y) in
    u.halted.into.bytes ∙ ap (λ (b : Bool). bytes_with b y.layout y.moved u.halted.moved (stream_of k (members_after made.acted xs)) c.args.io.now) writing

pub returns-in-Ok-clause-numbers : goal.returns-in-Ok-clause-numbers
returns-in-Ok-clause-numbers g c = c.end.ensures.numbers ∙ numbers-fixed (members_of c.args.members.now) (members_of c.turns_at-halt.new.members) (c.turns_at-halt.ensures.fixed ∙ c.make.ensures.fixed)

pub returns-in-Err-clause-numbers : goal.returns-in-Err-clause-numbers
returns-in-Err-clause-numbers g c = numbers-fixed (members_of c.args.members.now) (members_of c.make.new.members) c.make.ensures.fixed

pub returns-in-Ok-clause-cards : goal.returns-in-Ok-clause-cards
returns-in-Ok-clause-cards g c =
    let ms = members_of c.args.members.now in
    let ns = members_of c.turns_at-halt.new.members in
    let mid = c.make.new.acts in
    KeepsCards-then c.args.acts.now mid c.end.new.acts ms ns (members_of c.end.new.members) (KeepsCards-then c.args.acts.now mid mid ms (members_of c.make.new.members) ns c.make.ensures.cards (c.turns_at-halt.ensures.cards mid)) c.end.ensures.cards

pub returns-in-Err-clause-cards : goal.returns-in-Err-clause-cards
returns-in-Err-clause-cards g c = c.make.ensures.cards
