use Rattle.std.proofs.Common.{◌≡◌, ℕ, ◌<◌, Bool, true, List, [], ◌++◌, drop, refl, sym, ◌∙◌, ap, subst}
use Rattle.pcm_base.specs.declared.act.Act.TheVariants as act
use Rattle.pcm_base.specs.model.Group.{put_stream, stream_of}
use Rattle.pcm_base.specs.model.Program.{Makes, Program}
use Rattle.pcm_base.specs.model.Stream.{Stream}
use Rattle.pcm_base.specs.model.Transfer.{after_start, frames_by}
use Rattle.pcm_base.specs.declared.call.Layout.{Layout}
use Rattle.pcm_stream.specs.Members.{members_of}
use Rattle.pcm_stream.specs.MembersStand.{IsTransferOn}
use Rattle.xfer_loop.specs.Loop.{after_stuck}
use Rattle.xfer_loop.specs.declared.XferStep.{XferStep}
use Rattle.pcm_group.specs.Ended.{RunsTo}
use Rattle.pcm_group.specs.Transfers.{IsWait, bytes_with, halted}
use Rattle.pcm_group.specs.Waiting.{is_free}
use Rattle.pcm_group.proofs.AsleepLemmas.{IsEndedBy-at}
use Rattle.pcm_group.proofs.GoOnLemmas.{AreBytesOf-fixed, IsEndedBy-turned, IsTransferOf-same, IsTransferOn-of, bytes_told, halted_stuck, length-fixed, stuck_tells, turned-stream}
use Rattle.pcm_group.proofs.PlaceLemmas.{calls-fixed, numbers-fixed}
use Rattle.pcm_group.proofs.TransferLemmas.{itself, same_frames}
use Rattle.pcm_group.proofs.FaultLemmas.{KeepsCards-then}
use Rattle.pcm_group.proofs.transfer.carry_on.Goals as goal

pub end-requires-clause-place : goal.end-requires-clause-place
end-requires-clause-place g c = subst (λ (n : ℕ). c.args.place < n) (sym (length-fixed (members_of c.args.members.now) (members_of c.turns_at.new.members) c.turns_at.ensures.fixed)) c.requires.place

pub end-requires-clause-free : goal.end-requires-clause-free
end-requires-clause-free g c = ap (is_free c.args.client) (calls-fixed (members_of c.args.members.now) (members_of c.turns_at.new.members) c.turns_at.ensures.fixed) ∙ c.requires.free

pub start_and_go_on-requires-clause-place : goal.start_and_go_on-requires-clause-place
start_and_go_on-requires-clause-place g c = subst (λ (n : ℕ). c.args.place < n) (sym (length-fixed (members_of c.args.members.now) (members_of c.turns_at.new.members) c.turns_at.ensures.fixed)) c.requires.place

pub start_and_go_on-requires-clause-free : goal.start_and_go_on-requires-clause-free
start_and_go_on-requires-clause-free g c = ap (is_free c.args.client) (calls-fixed (members_of c.args.members.now) (members_of c.turns_at.new.members) c.turns_at.ensures.fixed) ∙ c.requires.free

pub start_and_go_on-requires-clause-bytes : goal.start_and_go_on-requires-clause-bytes
start_and_go_on-requires-clause-bytes g c =
    AreBytesOf-fixed (members_of c.args.members.now) (members_of c.turns_at.new.members) c.args.place c.args.xfer c.turns_at.new.xfer c.args.io.now c.turns_at.new.io c.turns_at.ensures.fixed c.turns_at.ensures.sum c.turns_at.auto.io c.requires.bytes

pub returns-in_default-clause-done : goal.returns-in_default-clause-done
returns-in_default-clause-done g c = λ k tells xs h fit.
    let cl = c.args.client in
    let y = c.args.xfer in
    let s = stream_of k xs in
    let z = c.turns_at.new.xfer in
    let p = c.turns_at.result in
    let ms = members_of c.args.members.now in
    let ns = members_of c.turns_at.new.members in
    let os = members_of c.end.new.members in
    let old = c.args.acts.now in
    let acts = c.end.new.acts in
    let a = frames_by y.layout s c.args.io.now in
    let u = c.turns_at.ensures.turned cl y [] k tells xs h (itself y) in
    let v = u.halted in
    let zs = put_stream k v.left xs in
    let left : stream_of k zs ≡ v.left = turned-stream cl y y z [] a c.args.place k tells xs c.args.io.now c.turns_at.new.io p ms ns h u in
    let whose : IsWait p → IsTransferOn (stream_of k zs) z = λ w.
    IsTransferOn-of (stream_of k zs) z (IsTransferOf-same s (stream_of k zs) y z (ap (λ (q : Stream). q.dir) left ∙ v.turned.dir) (ap (λ (q : Stream). q.setup) left ∙ v.turned.setup) (sym v.way.writing) v.layout c.turns_at.ensures.sum fit) (v.waits w).0 (v.waits w).1 in
    let r = c.end.result.reply in
    let f = c.end.result.first in
    let n = c.end.result.moved in
    let e = c.end.ensures.done k tells zs y ([] ++ v.moved) u.at v.way refl (sym v.layout) whose in
    IsEndedBy-turned cl y y z [] a c.args.place k tells xs c.args.io.now c.turns_at.new.io p ms ns os old acts r f n h u
    (IsEndedBy-at cl tells (halted cl y z ([] ++ v.moved) a (stream_of k zs) p) (after_stuck cl y z ([] ++ v.moved) (stream_of k zs) p) k zs old acts r f n os (halted_stuck cl y z ([] ++ v.moved) a (stream_of k zs) p c.in_default.not-WantsStart) e)

pub returns-in_default-clause-bytes : goal.returns-in_default-clause-bytes
returns-in_default-clause-bytes g c = λ k tells xs ds b ys h runs.
    let cl = c.args.client in
    let y = c.args.xfer in
    let s = stream_of k xs in
    let z = c.turns_at.new.xfer in
    let p = c.turns_at.result in
    let a = frames_by y.layout s c.args.io.now in
    let u = c.turns_at.ensures.turned cl y [] k tells xs h (itself y) in
    let v = u.halted in
    let told = stuck_tells tells cl y z v.moved v.left p k xs ds b ys
    (subst (λ (q : Program). RunsTo tells q k xs ds b ys) (v.goes_on ∙ halted_stuck cl y z v.moved a v.left p c.in_default.not-WantsStart) runs) in
    v.into.bytes ∙ bytes_told y y.writing y.layout v.moved b s c.args.io.now told

pub returns-in-WantsStart-clause-done : goal.returns-in-WantsStart-clause-done
returns-in-WantsStart-clause-done g c = λ k tells xs h fit.
    let cl = c.args.client in
    let y = c.args.xfer in
    let s = stream_of k xs in
    let z = c.turns_at.new.xfer in
    let p = c.turns_at.result in
    let ms = members_of c.args.members.now in
    let ns = members_of c.turns_at.new.members in
    let os = members_of c.start_and_go_on.new.members in
    let old = c.args.acts.now in
    let acts = c.start_and_go_on.new.acts in
    let io = c.args.io.now in
    let now = c.turns_at.new.io in
    let a = frames_by y.layout s io in
    let u = c.turns_at.ensures.turned cl y [] k tells xs h (itself y) in
    let v = u.halted in
    let zs = put_stream k v.left xs in
    let left : stream_of k zs ≡ v.left = turned-stream cl y y z [] a c.args.place k tells xs io now p ms ns h u in
    let setup : (stream_of k zs).setup ≡ s.setup = ap (λ (q : Stream). q.setup) left ∙ v.turned.setup in
    let writes = (v.starts c.in-WantsStart.is).0 in
    let wrote : y.writing ≡ true = v.way.writing ∙ writes in
    let stays : now ≡ io = v.into.bytes ∙ ap (λ (b : Bool). bytes_with b y.layout y.moved v.moved s io) wrote in
    let of = IsTransferOf-same s (stream_of k zs) y z (ap (λ (q : Stream). q.dir) left ∙ v.turned.dir) setup (sym v.way.writing) v.layout c.turns_at.ensures.sum fit in
    let r = c.start_and_go_on.result.reply in
    let f = c.start_and_go_on.result.first in
    let n = c.start_and_go_on.result.moved in
    let frames : a ≡ frames_by z.layout (stream_of k zs) now =
    sym (same_frames y.layout s (stream_of k zs) io setup) ∙ ap (λ (w : Layout). frames_by w (stream_of k zs) io) (sym v.layout) ∙ ap (λ (l : List ℕ). frames_by z.layout (stream_of k zs) l) (sym stays) in
    let e = c.start_and_go_on.ensures.done k tells zs y ([] ++ v.moved) a u.at of v.way refl (sym v.layout) writes frames in
    IsEndedBy-turned cl y y z [] a c.args.place k tells xs io now p ms ns os old acts r f n h u
    (IsEndedBy-at cl tells (halted cl y z ([] ++ v.moved) a (stream_of k zs) p) (Makes act.Start (stream_of k zs) (after_start cl y ([] ++ v.moved) (drop z.moved a))) k zs old acts r f n os
    (ap (λ (q : XferStep). halted cl y z ([] ++ v.moved) a (stream_of k zs) q) c.in-WantsStart.is) e)

pub returns-in-WantsStart-clause-bytes : goal.returns-in-WantsStart-clause-bytes
returns-in-WantsStart-clause-bytes g c = λ k tells xs ds b ys h runs.
    let y = c.args.xfer in
    let s = stream_of k xs in
    let u = c.turns_at.ensures.turned c.args.client y [] k tells xs h (itself y) in
    let v = u.halted in
    let writes = (v.starts c.in-WantsStart.is).0 in
    let wrote : y.writing ≡ true = v.way.writing ∙ writes in
    c.start_and_go_on.ensures.written k tells (put_stream k v.left xs) u.at writes
    ∙ v.into.bytes ∙ ap (λ (q : Bool). bytes_with q y.layout y.moved v.moved s c.args.io.now) wrote
    ∙ sym (ap (λ (q : Bool). bytes_with q y.layout b.first b.frames s c.args.io.now) wrote)

pub returns-in_default-clause-numbers : goal.returns-in_default-clause-numbers
returns-in_default-clause-numbers g c = c.end.ensures.numbers ∙ numbers-fixed (members_of c.args.members.now) (members_of c.turns_at.new.members) c.turns_at.ensures.fixed

pub returns-in-WantsStart-clause-numbers : goal.returns-in-WantsStart-clause-numbers
returns-in-WantsStart-clause-numbers g c = c.start_and_go_on.ensures.numbers ∙ numbers-fixed (members_of c.args.members.now) (members_of c.turns_at.new.members) c.turns_at.ensures.fixed

pub returns-in_default-clause-cards : goal.returns-in_default-clause-cards
returns-in_default-clause-cards g c =
    let old = c.args.acts.now in
    KeepsCards-then old old c.end.new.acts (members_of c.args.members.now) (members_of c.turns_at.new.members) (members_of c.end.new.members) (c.turns_at.ensures.cards old) c.end.ensures.cards

pub returns-in-WantsStart-clause-cards : goal.returns-in-WantsStart-clause-cards
returns-in-WantsStart-clause-cards g c =
    let old = c.args.acts.now in
    KeepsCards-then old old c.start_and_go_on.new.acts (members_of c.args.members.now) (members_of c.turns_at.new.members) (members_of c.start_and_go_on.new.members) (c.turns_at.ensures.cards old) c.start_and_go_on.ensures.cards
