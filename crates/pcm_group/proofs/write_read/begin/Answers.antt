use Rattle.std.proofs.Common.{◌≡◌, ◌≢◌, ◌⊎◌, inl, inr, ℕ, ◌+◌, ◌*◌, ◌<◌, Bool, true, false, nat_eq, List, [], ◌++◌, length, Some, None, refl, sym, ◌∙◌, ap, subst, arith}
use Rattle.std.proofs.lemmas.Bool.Decides.{nat_tests}
use Rattle.pcm_base.specs.declared.act.Updated.{Updated}
use Rattle.pcm_base.specs.declared.act.Updated.TheVariants as updated
use Rattle.pcm_base.specs.declared.call.CallKind.{CallKind}
use Rattle.pcm_base.specs.declared.config.Config.{Config}
use Rattle.pcm_base.specs.declared.ids.ClientId.{ClientId}
use Rattle.pcm_base.specs.declared.reply.Reply.{Reply}
use Rattle.pcm_base.specs.declared.reply.Reply.TheVariants as reply
use Rattle.pcm_base.specs.declared.sleeper.Xfer.{Xfer}
use Rattle.pcm_base.specs.declared.state.Errno.TheVariants as errno
use Rattle.pcm_base.specs.declared.votes.Acted.{Acted}
use Rattle.std.specs.Option.{is_some}
use Rattle.std.specs.declared.option.Option.{Option}
use Rattle.pcm_base.specs.model.Acts.{table}
use Rattle.pcm_base.specs.model.Frame.{Frame}
use Rattle.pcm_base.specs.model.Group.{stream_of}
use Rattle.pcm_base.specs.model.Program.{Answer, Program, says, unless, updated_or_epipe}
use Rattle.pcm_base.specs.model.Stream.{Stream}
use Rattle.pcm_base.specs.model.Transfer.{frames_by}
use Rattle.pcm_base.specs.model.Update.{update}
use Rattle.pcm_stream.specs.Members.{members_of}
use Rattle.pcm_group.specs.Ended.{RunsTo}
use Rattle.pcm_group.specs.Transfers.{IsLong, begun, bytes_with, entering, kind_by}
use Rattle.pcm_group.specs.Waiting.{calls_of, is_free}
use Rattle.pcm_group.proofs.AsleepLemmas.{IsEndedBy-at, IsEndedBy-of}
use Rattle.pcm_group.proofs.BeginLemmas.{IsEndedBy-reported, RunsTo-reported, begun_none, begun_on, bytes_with-same, fits_config, is_quiet, keeps_setup, quiet_bytes, run_alike}
use Rattle.pcm_group.proofs.CarryLemmas.{IsEndedBy-told}
use Rattle.pcm_group.proofs.EndedLemmas.{IsEnded-epipe, IsEnded-refused, IsEnded-says, allowed-is, stands-there}
use Rattle.pcm_group.proofs.GoOnLemmas.{AreBytesOf-fixed, IsTransferOf-same, length-fixed}
use Rattle.pcm_group.proofs.PlaceLemmas.{calls-fixed, numbers-fixed}
use Rattle.pcm_group.proofs.SizeLemmas.{AreBytesOf-at}
use Rattle.pcm_group.proofs.TransferLemmas.{same_frames}
use Rattle.pcm_group.proofs.FaultLemmas.{KeepsCards-same, KeepsCards-then}
use Rattle.pcm_group.proofs.write_read.begin.Goals as goal

some : (u : Updated) → (u ≡ updated.DrainDone) ⊎ (u ≡ updated.StopXrun) → u ≢ updated.Nothing
some u (inl h) e = let no : ⊥ = cc in no
some u (inr h) e = let no : ⊥ = cc in no

allowed : (w : CallKind) (b : Bool) (s : Stream) → w ≡ kind_by b → table w s ≡ None → table (kind_by b) s ≡ None
allowed w b s e h = ap (λ (k : CallKind). table k s) (sym e) ∙ h

-- what a transfer is that has frames and is allowed
begun_allowed : (w : CallKind) (b : Bool) (cl : ClientId) (x : Xfer) (all : List Frame) (s : Stream) → x.rest ≢ 0 → w ≡ kind_by b → table w s ≡ None → begun b cl x all s ≡ updated_or_epipe s (entering b cl x all)
begun_allowed w b cl x all s some e h = begun_on b cl x all s some ∙ allowed-is (table (kind_by b) s) s (updated_or_epipe s (entering b cl x all)) (allowed w b s e h)

-- no bytes of another length are handed in
never_short : (test : Bool) (w : CallKind) (x : Xfer) (io : List ℕ) (s : Stream) → test ≡ nat_eq (length io) ((x.moved + x.rest) * s.setup.frame_bytes) → test ≡ false → x.moved ≡ 0 → IsLong x io s → x.rest ≢ 0 → w ≡ kind_by x.writing → table w s ≡ None → ⊥
never_short test w x io s is short none long some e h =
    let size : length io ≡ x.rest * s.setup.frame_bytes = long some (allowed w x.writing s e h) in
    let all : x.moved + x.rest ≡ x.rest = omega (arith, none) in
    let same : nat_eq (length io) (x.rest * s.setup.frame_bytes) ≡ true = grind (arith, nat_tests, size) in
    let yes : true ≡ false = sym same ∙ ap (λ (n : ℕ). nat_eq (length io) (n * s.setup.frame_bytes)) (sym all) ∙ sym is ∙ short in
    cc

pub returns-then-xfer-eq0-clause-done : goal.returns-then-xfer-eq0-clause-done
returns-then-xfer-eq0-clause-done g c = λ k tells xs h fit none long.
    let cl = c.args.client in
    let x = c.args.xfer in
    let s = stream_of k xs in
    let ms = members_of c.args.members.now in
    let old = c.args.acts.now in
    let all = frames_by x.layout s c.args.io.now in
    let r : Reply = reply.Frames 0 in
    IsEndedBy-told cl tells (begun x.writing cl x all s) (says r s) k xs old old c.said.result.reply r c.said.result.first 0 c.said.result.moved 0 ms (begun_none x.writing cl x all s c.if-xfer-eq0.true) c.said.ensures.reply c.said.ensures.first c.said.ensures.moved
    (IsEndedBy-of cl tells (says r s) k xs old old r 0 0 ms (λ e. let no : ⊥ = cc in no) c.requires.free (IsEnded-says tells k xs old r ms c.args.place h))

pub returns-then-xfer-eq0-clause-bytes : goal.returns-then-xfer-eq0-clause-bytes
returns-then-xfer-eq0-clause-bytes g c = λ k tells xs b ys h fit none long runs.
    let x = c.args.xfer in
    let s = stream_of k xs in
    let all = frames_by x.layout s c.args.io.now in
    quiet_bytes c.args.client tells (begun x.writing c.args.client x all s) k xs c.args.acts.now c.args.acts.now c.said.result.reply c.said.result.first c.said.result.moved (members_of c.args.members.now) x.writing x.layout s c.args.io.now b ys
    (returns-then-xfer-eq0-clause-done g c k tells xs h fit none long) c.said.ensures.moved c.requires.none runs

pub returns-in-Err-clause-done : goal.returns-in-Err-clause-done
returns-in-Err-clause-done g c = λ k tells xs h fit none long.
    let cl = c.args.client in
    let x = c.args.xfer in
    let s = stream_of k xs in
    let ms = members_of c.args.members.now in
    let old = c.args.acts.now in
    let all = frames_by x.layout s c.args.io.now in
    let r : Reply = reply.Err c.in-Err.e in
    let p = unless (table (kind_by x.writing) s) s (updated_or_epipe s (entering x.writing cl x all)) in
    let refused : table (kind_by x.writing) s ≡ Some c.in-Err.e = ap (λ (w : CallKind). table w s) (sym c.kind_of.ensures) ∙ c.in-Err.ensures k tells xs h in
    IsEndedBy-told cl tells (begun x.writing cl x all s) p k xs old old c.said-in-Err.result.reply r c.said-in-Err.result.first 0 c.said-in-Err.result.moved 0 ms (begun_on x.writing cl x all s c.if-xfer-eq0.false) c.said-in-Err.ensures.reply c.said-in-Err.ensures.first c.said-in-Err.ensures.moved
    (IsEndedBy-of cl tells p k xs old old r 0 0 ms (λ e. let no : ⊥ = cc in no) c.requires.free
    (IsEnded-refused tells (table (kind_by x.writing) s) (updated_or_epipe s (entering x.writing cl x all)) c.in-Err.e k xs old ms c.args.place h refused))

pub returns-in-Err-clause-bytes : goal.returns-in-Err-clause-bytes
returns-in-Err-clause-bytes g c = λ k tells xs b ys h fit none long runs.
    let x = c.args.xfer in
    let s = stream_of k xs in
    let all = frames_by x.layout s c.args.io.now in
    quiet_bytes c.args.client tells (begun x.writing c.args.client x all s) k xs c.args.acts.now c.args.acts.now c.said-in-Err.result.reply c.said-in-Err.result.first c.said-in-Err.result.moved (members_of c.args.members.now) x.writing x.layout s c.args.io.now b ys
    (returns-in-Err-clause-done g c k tells xs h fit none long) c.said-in-Err.ensures.moved c.requires.none runs

pub returns-then-not-has_bytes-clause-done : goal.returns-then-not-has_bytes-clause-done
returns-then-not-has_bytes-clause-done g c = λ k tells xs h fit none long.
    let s = stream_of k xs in
    let x = c.args.xfer in
    let sh = stands-there (members_of c.args.members.now) c.args.place c.at.result.now k tells xs h c.at.ensures in
    let has = fits_config x.layout s fit.layout in
    absurd (never_short c.has_bytes.result c.kind_of.result x c.args.io.now s (c.has_bytes.ensures.model s sh (ap (λ (o : Option Config). is_some o) has.is)) c.if-not-has_bytes.true none long c.if-xfer-eq0.false c.kind_of.ensures (c.in_default.ensures k tells xs h))

pub returns-then-not-has_bytes-clause-bytes : goal.returns-then-not-has_bytes-clause-bytes
returns-then-not-has_bytes-clause-bytes g c = λ k tells xs b ys h fit none long runs.
    let s = stream_of k xs in
    let x = c.args.xfer in
    let sh = stands-there (members_of c.args.members.now) c.args.place c.at.result.now k tells xs h c.at.ensures in
    let has = fits_config x.layout s fit.layout in
    absurd (never_short c.has_bytes.result c.kind_of.result x c.args.io.now s (c.has_bytes.ensures.model s sh (ap (λ (o : Option Config). is_some o) has.is)) c.if-not-has_bytes.true none long c.if-xfer-eq0.false c.kind_of.ensures (c.in_default.ensures k tells xs h))

pub enter-requires-clause-place : goal.enter-requires-clause-place
enter-requires-clause-place g c = subst (λ (n : ℕ). c.args.place < n) (sym (length-fixed (members_of c.args.members.now) (members_of c.refresh.new.members) c.refresh.ensures.fixed)) c.requires.place

pub enter-requires-clause-none : goal.enter-requires-clause-none
enter-requires-clause-none g c = c.refresh.ensures.quiet c.in-Nothing.is ∙ c.requires.none

pub enter-requires-clause-free : goal.enter-requires-clause-free
enter-requires-clause-free g c = ap (is_free c.args.client) (calls-fixed (members_of c.args.members.now) (members_of c.refresh.new.members) c.refresh.ensures.fixed) ∙ c.requires.free

pub enter-requires-clause-bytes : goal.enter-requires-clause-bytes
enter-requires-clause-bytes g c = AreBytesOf-fixed (members_of c.args.members.now) (members_of c.refresh.new.members) c.args.place c.args.xfer c.args.xfer c.args.io.now c.args.io.now c.refresh.ensures.fixed refl refl
    (AreBytesOf-at (members_of c.args.members.now) c.args.place c.at.result.now c.args.xfer c.args.io.now c.at.ensures (c.has_bytes.ensures.sizes c.if-not-has_bytes.false))

pub returns-in-Nothing-clause-done : goal.returns-in-Nothing-clause-done
returns-in-Nothing-clause-done g c = λ k tells xs h fit none long.
    let cl = c.args.client in
    let x = c.args.xfer in
    let io = c.args.io.now in
    let s = stream_of k xs in
    let all = frames_by x.layout s io in
    let u = c.refresh.ensures.updated k tells xs h in
    let t = stream_of k u.left in
    let old = c.args.acts.now in
    let mid = c.refresh.new.acts in
    let new = c.enter.new.acts in
    let ms = members_of c.refresh.new.members in
    let os = members_of c.enter.new.members in
    let r = c.enter.result.reply in
    let f = c.enter.result.first in
    let n = c.enter.result.moved in
    let mine : t ≡ (update s).stream = u.unstopped (is_quiet c.refresh.result c.in-Nothing.is) in
    let setup : t.setup ≡ s.setup = ap (λ (q : Stream). q.setup) mine ∙ (keeps_setup s).setup in
    let dir : t.dir ≡ s.dir = ap (λ (q : Stream). q.dir) mine ∙ (keeps_setup s).dir in
    let e = c.enter.ensures.done k tells u.left u.now (IsTransferOf-same s t x x dir setup refl refl refl fit) none in
    let e2 = IsEndedBy-at cl tells (entering x.writing cl x all t) (entering x.writing cl x (frames_by x.layout t io) t) k u.left mid new r f n os (sym (ap (λ (l : List Frame). entering x.writing cl x l t) (same_frames x.layout s t io setup))) e in
    IsEndedBy-at cl tells (begun x.writing cl x all s) (updated_or_epipe s (entering x.writing cl x all)) k xs old new r f n os
    (begun_allowed c.kind_of.result x.writing cl x all s c.if-xfer-eq0.false c.kind_of.ensures (c.in_default.ensures k tells xs h))
    (IsEndedBy-reported cl tells (entering x.writing cl x all) c.args.place k xs old mid new c.refresh.result ms os r f n u c.in-Nothing.is e2)

pub returns-in-Nothing-clause-bytes : goal.returns-in-Nothing-clause-bytes
returns-in-Nothing-clause-bytes g c = λ k tells xs b zs h fit none long runs.
    let cl = c.args.client in
    let x = c.args.xfer in
    let io = c.args.io.now in
    let s = stream_of k xs in
    let all = frames_by x.layout s io in
    let u = c.refresh.ensures.updated k tells xs h in
    let t = stream_of k u.left in
    let mid = c.refresh.new.acts in
    let new = c.enter.new.acts in
    let mine : t ≡ (update s).stream = u.unstopped (is_quiet c.refresh.result c.in-Nothing.is) in
    let setup : t.setup ≡ s.setup = ap (λ (q : Stream). q.setup) mine ∙ (keeps_setup s).setup in
    let dir : t.dir ≡ s.dir = ap (λ (q : Stream). q.dir) mine ∙ (keeps_setup s).dir in
    let fit' = IsTransferOf-same s t x x dir setup refl refl refl fit in
    let e = c.enter.ensures.done k tells u.left u.now fit' none in
    let frames : frames_by x.layout t io ≡ all = same_frames x.layout s t io setup in
    let begins : mid ≡ [] = c.refresh.ensures.quiet c.in-Nothing.is ∙ c.requires.none in
    let first : new ≡ e.made = e.acts ∙ ap (λ (l : List Acted). l ++ e.made) begins in
    let mids : mid ≡ u.made = u.acts ∙ ap (λ (l : List Acted). l ++ u.made) c.requires.none in
    let acts : new ≡ u.made ++ e.made = e.acts ∙ ap (λ (l : List Acted). l ++ e.made) mids in
    let is = begun_allowed c.kind_of.result x.writing cl x all s c.if-xfer-eq0.false c.kind_of.ensures (c.in_default.ensures k tells xs h) in
    let inner : RunsTo tells (entering x.writing cl x all t) k u.left e.made e.answer e.left = subst (λ (l : List Frame). RunsTo tells (entering x.writing cl x l t) k u.left e.made e.answer e.left) frames e.runs in
    let full : RunsTo tells (updated_or_epipe s (entering x.writing cl x all)) k xs (u.made ++ e.made) e.answer e.left =
    RunsTo-reported tells (entering x.writing cl x all) c.args.place k xs c.args.acts.now mid c.refresh.result (members_of c.refresh.new.members) e.made e.answer e.left u c.in-Nothing.is inner in
    let own : RunsTo tells (updated_or_epipe s (entering x.writing cl x all)) k xs (u.made ++ e.made) b zs =
    subst (λ (p : Program). RunsTo tells p k xs (u.made ++ e.made) b zs) is (subst (λ (ds : List Acted). RunsTo tells (begun x.writing cl x all s) k xs ds b zs) acts runs) in
    let same : b ≡ e.answer = run_alike tells (updated_or_epipe s (entering x.writing cl x all)) k xs (u.made ++ e.made) b e.answer zs e.left own full in
    let inner_runs : RunsTo tells (entering x.writing cl x (frames_by x.layout t io) t) k u.left new e.answer e.left = subst (λ (ds : List Acted). RunsTo tells (entering x.writing cl x (frames_by x.layout t io) t) k u.left ds e.answer e.left) (sym first) e.runs in
    c.enter.ensures.bytes k tells u.left e.answer e.left u.now fit' none inner_runs ∙ bytes_with-same x.writing x.layout e.answer.first e.answer.frames s t io setup
    ∙ sym (ap (λ (a : Answer). bytes_with x.writing x.layout a.first a.frames s io) same)

pub returns-in-Nothing-clause-numbers : goal.returns-in-Nothing-clause-numbers
returns-in-Nothing-clause-numbers g c = c.enter.ensures.numbers ∙ numbers-fixed (members_of c.args.members.now) (members_of c.refresh.new.members) c.refresh.ensures.fixed

pub returns-in-DrainDone-clause-done : goal.returns-in-DrainDone-clause-done
returns-in-DrainDone-clause-done g c = λ k tells xs h fit none long.
    let cl = c.args.client in
    let x = c.args.xfer in
    let s = stream_of k xs in
    let all = frames_by x.layout s c.args.io.now in
    let old = c.args.acts.now in
    let new = c.refresh.new.acts in
    let ms = members_of c.refresh.new.members in
    let r : Reply = reply.Err errno.Epipe in
    let q = c.said-in-DrainDone.result in
    let p = updated_or_epipe s (entering x.writing cl x all) in
    let free : is_free cl (calls_of ms) ≡ true = ap (is_free cl) (calls-fixed (members_of c.args.members.now) ms c.refresh.ensures.fixed) ∙ c.requires.free in
    IsEndedBy-told cl tells (begun x.writing cl x all s) p k xs old new q.reply r q.first 0 q.moved 0 ms
    (begun_allowed c.kind_of.result x.writing cl x all s c.if-xfer-eq0.false c.kind_of.ensures (c.in_default.ensures k tells xs h)) c.said-in-DrainDone.ensures.reply c.said-in-DrainDone.ensures.first c.said-in-DrainDone.ensures.moved
    (IsEndedBy-of cl tells p k xs old new r 0 0 ms (λ e. let no : ⊥ = cc in no) free
    (IsEnded-epipe tells (entering x.writing cl x all) c.args.place k xs old new c.refresh.result ms (c.refresh.ensures.updated k tells xs h) (some c.refresh.result c.in-DrainDone.is)))

pub returns-in-DrainDone-clause-bytes : goal.returns-in-DrainDone-clause-bytes
returns-in-DrainDone-clause-bytes g c = λ k tells xs b ys h fit none long runs.
    let x = c.args.xfer in
    let s = stream_of k xs in
    let q = c.said-in-DrainDone.result in
    quiet_bytes c.args.client tells (begun x.writing c.args.client x (frames_by x.layout s c.args.io.now) s) k xs c.args.acts.now c.refresh.new.acts q.reply q.first q.moved (members_of c.refresh.new.members) x.writing x.layout s c.args.io.now b ys
    (returns-in-DrainDone-clause-done g c k tells xs h fit none long) c.said-in-DrainDone.ensures.moved c.requires.none runs

pub returns-in-DrainDone-clause-numbers : goal.returns-in-DrainDone-clause-numbers
returns-in-DrainDone-clause-numbers g c = numbers-fixed (members_of c.args.members.now) (members_of c.refresh.new.members) c.refresh.ensures.fixed

pub returns-then-xfer-eq0-clause-cards : goal.returns-then-xfer-eq0-clause-cards
returns-then-xfer-eq0-clause-cards g c = KeepsCards-same c.args.acts.now (members_of c.args.members.now)

pub returns-in-Err-clause-cards : goal.returns-in-Err-clause-cards
returns-in-Err-clause-cards g c = KeepsCards-same c.args.acts.now (members_of c.args.members.now)

pub returns-then-not-has_bytes-clause-cards : goal.returns-then-not-has_bytes-clause-cards
returns-then-not-has_bytes-clause-cards g c = KeepsCards-same c.args.acts.now (members_of c.args.members.now)

pub returns-in-Nothing-clause-cards : goal.returns-in-Nothing-clause-cards
returns-in-Nothing-clause-cards g c =
    KeepsCards-then c.args.acts.now c.refresh.new.acts c.enter.new.acts (members_of c.args.members.now) (members_of c.refresh.new.members) (members_of c.enter.new.members) c.refresh.ensures.cards c.enter.ensures.cards

pub returns-in-DrainDone-clause-cards : goal.returns-in-DrainDone-clause-cards
returns-in-DrainDone-clause-cards g c = c.refresh.ensures.cards
