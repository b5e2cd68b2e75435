use Rattle.std.proofs.Common.{◌≡◌, ℕ, ◌<◌, Bool, true, false, ◌&&◌, nat_le, List, [], ◌∷◌, ◌++◌, refl, sym, ◌∙◌, ap, subst}
use Rattle.pcm_base.specs.declared.act.Act.TheVariants as act
use Rattle.pcm_base.specs.declared.ids.ClientId.{ClientId}
use Rattle.pcm_base.specs.declared.reply.Reply.{Reply}
use Rattle.pcm_base.specs.declared.reply.Reply.TheVariants as reply
use Rattle.pcm_base.specs.declared.sleeper.Xfer.{Xfer}
use Rattle.pcm_base.specs.declared.votes.Acted.{Acted}
use Rattle.pcm_base.specs.model.Acts.{members_after}
use Rattle.pcm_base.specs.model.Frame.{Frame}
use Rattle.pcm_base.specs.model.Group.{stream_of}
use Rattle.pcm_base.specs.model.Program.{Answer, Program, going_on, making}
use Rattle.pcm_base.specs.model.Stream.{Stream}
use Rattle.pcm_base.specs.model.Transfer.{frames_by, read_on, start_reading}
use Rattle.pcm_base.specs.model.Words.{is_prepared}
use Rattle.pcm_stream.specs.Members.{members_of}
use Rattle.pcm_group.specs.Ended.{RunsTo}
use Rattle.pcm_group.specs.Transfers.{IsStartingRead, bytes_with, going, going_by}
use Rattle.pcm_group.specs.Waiting.{calls_of, is_free}
use Rattle.pcm_group.proofs.AsleepLemmas.{IsEndedBy-at, IsEndedBy-done, IsEndedBy-of}
use Rattle.pcm_group.proofs.BeginLemmas.{bytes_with-same, quiet_bytes, run_alike}
use Rattle.pcm_group.proofs.CarryLemmas.{IsEndedBy-told}
use Rattle.pcm_group.proofs.EndedLemmas.{IsEnded-not_done, RunsTo-act, goes, then-is}
use Rattle.pcm_group.proofs.GoOnLemmas.{AreBytesOf-fixed, IsTransferOf-same, dir_after, length-fixed, setup_after}
use Rattle.pcm_group.proofs.PlaceLemmas.{calls-fixed, numbers-fixed}
use Rattle.pcm_group.proofs.FaultLemmas.{KeepsCards-then}
use Rattle.pcm_group.proofs.write_read.start_reading.Goals as goal

-- a read that starts its group
starts_so : (cl : ClientId) (x : Xfer) (s : Stream) → IsStartingRead x s → start_reading cl x s ≡ making act.Start s (read_on cl x [] x.rest)
starts_so cl x s h = then-is (is_prepared s.state && nat_le s.setup.sw.start_threshold x.rest) (making act.Start s (read_on cl x [] x.rest)) (read_on cl x [] x.rest s) h.starts

reads_on : (cl : ClientId) (x : Xfer) (all : List Frame) (t : Stream) → x.writing ≡ false → read_on cl x [] x.rest t ≡ going cl x x [] all t
reads_on cl x all t e = sym (ap (λ (b : Bool). going_by b cl x x [] all t) e)

pub carry_on-requires-clause-place : goal.carry_on-requires-clause-place
carry_on-requires-clause-place g c = subst (λ (n : ℕ). c.args.place < n) (sym (length-fixed (members_of c.args.members.now) (members_of c.make.new.members) c.make.ensures.fixed)) c.requires.place

pub carry_on-requires-clause-free : goal.carry_on-requires-clause-free
carry_on-requires-clause-free g c = ap (is_free c.args.client) (calls-fixed (members_of c.args.members.now) (members_of c.make.new.members) c.make.ensures.fixed) ∙ c.requires.free

pub carry_on-requires-clause-bytes : goal.carry_on-requires-clause-bytes
carry_on-requires-clause-bytes g c = AreBytesOf-fixed (members_of c.args.members.now) (members_of c.make.new.members) c.args.place c.args.xfer c.args.xfer c.args.io.now c.args.io.now c.make.ensures.fixed refl refl c.requires.bytes

pub returns-in-Ok-clause-done : goal.returns-in-Ok-clause-done
returns-in-Ok-clause-done g c = λ k tells xs h fit st.
    let cl = c.args.client in
    let x = c.args.xfer in
    let made = c.in-Ok.ensures.made c.args.place k tells xs h in
    let ys = members_after made.acted xs in
    let s = stream_of k xs in
    let t = stream_of k ys in
    let all = frames_by x.layout t c.args.io.now in
    let old = c.args.acts.now in
    let mid = c.make.new.acts in
    let new = c.carry_on.new.acts in
    let ms = members_of c.make.new.members in
    let os = members_of c.carry_on.new.members in
    let r = c.carry_on.result.reply in
    let f = c.carry_on.result.first in
    let n = c.carry_on.result.moved in
    let e = c.carry_on.ensures.done k tells ys made.now (IsTransferOf-same s t x x (dir_after made.acted k xs) (setup_after made.acted k xs) refl refl refl fit) in
    IsEndedBy-at cl tells (start_reading cl x s) (making act.Start s (read_on cl x [] x.rest)) k xs old new r f n os (starts_so cl x s st)
    (IsEndedBy-done cl tells act.Start (read_on cl x [] x.rest) c.args.place k xs old mid new _ ms os r f n h.distinct made made.answer
    (IsEndedBy-at cl tells (read_on cl x [] x.rest t) (going cl x x [] all t) k ys mid new r f n os (reads_on cl x all t st.writing) e))

pub returns-in-Ok-clause-bytes : goal.returns-in-Ok-clause-bytes
returns-in-Ok-clause-bytes g c = λ k tells xs b zs h fit st runs.
    let cl = c.args.client in
    let x = c.args.xfer in
    let made = c.in-Ok.ensures.made c.args.place k tells xs h in
    let ys = members_after made.acted xs in
    let s = stream_of k xs in
    let t = stream_of k ys in
    let all = frames_by x.layout t c.args.io.now in
    let new = c.carry_on.new.acts in
    let e = c.carry_on.ensures.done k tells ys made.now (IsTransferOf-same s t x x (dir_after made.acted k xs) (setup_after made.acted k xs) refl refl refl fit) in
    let acts : new ≡ made.acted ∷ e.made = e.acts ∙ ap (λ (l : List Acted). l ++ e.made) (made.acts ∙ ap (λ (l : List Acted). l ++ made.acted ∷ []) c.requires.none) in
    let goes_so : going_on (read_on cl x [] x.rest) made.acted.outcome t ≡ going cl x x [] all t = goes (read_on cl x [] x.rest) made.acted.outcome t made.answer ∙ reads_on cl x all t st.writing in
    let full : RunsTo tells (making act.Start s (read_on cl x [] x.rest)) k xs (made.acted ∷ e.made) e.answer e.left = RunsTo-act tells act.Start (going_on (read_on cl x [] x.rest)) k xs made.acted e.made e.answer e.left h.distinct made.decided
    (subst (λ (p : Program). RunsTo tells p k ys e.made e.answer e.left) (sym goes_so) e.runs) in
    let mine : RunsTo tells (making act.Start s (read_on cl x [] x.rest)) k xs (made.acted ∷ e.made) b zs =
    subst (λ (p : Program). RunsTo tells p k xs (made.acted ∷ e.made) b zs) (starts_so cl x s st) (subst (λ (ds : List Acted). RunsTo tells (start_reading cl x s) k xs ds b zs) acts runs) in
    let same : b ≡ e.answer = run_alike tells (making act.Start s (read_on cl x [] x.rest)) k xs (made.acted ∷ e.made) b e.answer zs e.left mine full in
    c.carry_on.ensures.bytes k tells ys e.made e.answer e.left made.now e.runs ∙ bytes_with-same x.writing x.layout e.answer.first e.answer.frames s t c.args.io.now (setup_after made.acted k xs)
    ∙ sym (ap (λ (a : Answer). bytes_with x.writing x.layout a.first a.frames s c.args.io.now) same)

pub returns-in-Err-clause-done : goal.returns-in-Err-clause-done
returns-in-Err-clause-done g c = λ k tells xs h fit st.
    let cl = c.args.client in
    let x = c.args.xfer in
    let made = c.in-Err.ensures.made c.args.place k tells xs h in
    let s = stream_of k xs in
    let ms = members_of c.make.new.members in
    let old = c.args.acts.now in
    let new = c.make.new.acts in
    let p = making act.Start s (read_on cl x [] x.rest) in
    let r : Reply = reply.Err c.in-Err.e in
    let free : is_free cl (calls_of ms) ≡ true = ap (is_free cl) (calls-fixed (members_of c.args.members.now) ms c.make.ensures.fixed) ∙ c.requires.free in
    IsEndedBy-told cl tells (start_reading cl x s) p k xs old new c.said.result.reply r c.said.result.first 0 c.said.result.moved 0 ms (starts_so cl x s st) c.said.ensures.reply c.said.ensures.first c.said.ensures.moved
    (IsEndedBy-of cl tells p k xs old new r 0 0 ms (λ e. let no : ⊥ = cc in no) free
    (IsEnded-not_done tells act.Start (read_on cl x [] x.rest) c.args.place k xs old new _ c.in-Err.e ms h.distinct made made.answer))

pub returns-in-Err-clause-bytes : goal.returns-in-Err-clause-bytes
returns-in-Err-clause-bytes g c = λ k tells xs b ys h fit st runs.
    let x = c.args.xfer in
    quiet_bytes c.args.client tells (start_reading c.args.client x (stream_of k xs)) k xs c.args.acts.now c.make.new.acts c.said.result.reply c.said.result.first c.said.result.moved (members_of c.make.new.members) x.writing x.layout (stream_of k xs) c.args.io.now b ys
    (returns-in-Err-clause-done g c k tells xs h fit st) c.said.ensures.moved c.requires.none runs

pub returns-in-Ok-clause-numbers : goal.returns-in-Ok-clause-numbers
returns-in-Ok-clause-numbers g c = c.carry_on.ensures.numbers ∙ numbers-fixed (members_of c.args.members.now) (members_of c.make.new.members) c.make.ensures.fixed

pub returns-in-Err-clause-numbers : goal.returns-in-Err-clause-numbers
returns-in-Err-clause-numbers g c = numbers-fixed (members_of c.args.members.now) (members_of c.make.new.members) c.make.ensures.fixed

pub returns-in-Ok-clause-cards : goal.returns-in-Ok-clause-cards
returns-in-Ok-clause-cards g c =
    KeepsCards-then c.args.acts.now c.make.new.acts c.carry_on.new.acts (members_of c.args.members.now) (members_of c.make.new.members) (members_of c.carry_on.new.members) c.make.ensures.cards c.carry_on.ensures.cards

pub returns-in-Err-clause-cards : goal.returns-in-Err-clause-cards
returns-in-Err-clause-cards g c = c.make.ensures.cards
