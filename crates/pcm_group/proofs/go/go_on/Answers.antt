use Rattle.std.proofs.Common.{◌≡◌, ℕ, ◌<◌, [], refl, sym, ap, ◌∙◌, subst}
use Rattle.pcm_base.specs.model.Acts.{subs}
use Rattle.pcm_base.specs.model.Events.{go_on, left_by}
use Rattle.pcm_base.specs.model.Group.{put_stream, stream_of}
use Rattle.pcm_base.specs.model.Stream.{Stream}
use Rattle.pcm_base.specs.model.Transfer.{frames_by}
use Rattle.pcm_laws.proofs.Decomposition.{stream_of-put_stream_same}
use Rattle.pcm_stream.specs.Members.{members_of}
use Rattle.pcm_group.specs.Ended.{IsEndedBy, RunsTo}
use Rattle.pcm_group.specs.Transfers.{IsTransferOf, bytes_with, going}
use Rattle.pcm_group.proofs.BeginLemmas.{bytes_with-same}
use Rattle.pcm_group.proofs.FaultLemmas.{KeepsCards-then}
use Rattle.pcm_group.proofs.GoOnLemmas.{IsEndedBy-put, IsTransferOf-same}
use Rattle.pcm_group.proofs.GoingLemmas.{RunsTo-with, length-numbers}
use Rattle.pcm_group.proofs.PlaceLemmas.{is_member-at}
use Rattle.pcm_group.proofs.go.go_on.Goals as goal

pub carry_on-requires-clause-place : goal.carry_on-requires-clause-place
carry_on-requires-clause-place g c = subst (λ (n : ℕ). c.args.place < n) (sym (length-numbers (members_of c.args.members.now) (members_of c.leave.new.members) c.leave.ensures.numbers)) c.requires.place

pub returns-clause-done : goal.returns-clause-done
returns-clause-done g c = λ k tells xs h fit.
    let cl = c.args.client in
    let x = c.args.xfer in
    let io = c.args.io.now in
    let s = stream_of k xs in
    let t = left_by cl s in
    let ys = put_stream k t xs in
    let q = c.carry_on.result in
    let ms = members_of c.carry_on.new.members in
    let old = c.args.acts.now in
    let new = c.carry_on.new.acts in
    let mine : stream_of k ys ≡ t = stream_of-put_stream_same k t xs (is_member-at (subs xs) c.args.place k h.number) in
    let fits : IsTransferOf (stream_of k ys) x = subst (λ (u : Stream). IsTransferOf u x) (sym mine) (IsTransferOf-same s t x x refl refl refl refl refl fit) in
    IsEndedBy-put cl tells (go_on cl x io t) k t xs old new q.reply q.first q.moved ms
    (subst (λ (u : Stream). IsEndedBy cl tells (going cl x x [] (frames_by x.layout u io) u) k ys old new q.reply q.first q.moved ms) mine
    (c.carry_on.ensures.done k tells ys (c.leave.ensures.left k tells xs h) fits))

pub returns-clause-bytes : goal.returns-clause-bytes
returns-clause-bytes g c = λ k tells xs b ws h runs.
    let cl = c.args.client in
    let x = c.args.xfer in
    let io = c.args.io.now in
    let s = stream_of k xs in
    let t = left_by cl s in
    let ys = put_stream k t xs in
    let new = c.carry_on.new.acts in
    let mine : stream_of k ys ≡ t = stream_of-put_stream_same k t xs (is_member-at (subs xs) c.args.place k h.number) in
    let there : RunsTo tells (go_on cl x io t) k ys new b ws = RunsTo-with tells (go_on cl x io t) k t xs new b ws runs in
    c.carry_on.ensures.bytes k tells ys new b ws (c.leave.ensures.left k tells xs h) (subst (λ (u : Stream). RunsTo tells (going cl x x [] (frames_by x.layout u io) u) k ys new b ws) (sym mine) there)
    ∙ ap (λ (u : Stream). bytes_with x.writing x.layout b.first b.frames u io) mine ∙ bytes_with-same x.writing x.layout b.first b.frames s t io refl

pub returns-clause-cards : goal.returns-clause-cards
returns-clause-cards g c =
    let old = c.args.acts.now in
    KeepsCards-then old old c.carry_on.new.acts (members_of c.args.members.now) (members_of c.leave.new.members) (members_of c.carry_on.new.members) (c.leave.ensures.cards old) c.carry_on.ensures.cards
