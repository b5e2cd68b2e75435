use Rattle.std.proofs.Common.{Bool, [], sym, ◌∙◌, ap, subst}
use Rattle.pcm_base.specs.model.Group.{stream_of}
use Rattle.pcm_base.specs.model.Program.{Program}
use Rattle.pcm_base.specs.model.Transfer.{frames_by, start_reading}
use Rattle.pcm_stream.specs.Members.{members_of}
use Rattle.pcm_group.specs.Ended.{RunsTo}
use Rattle.pcm_group.specs.Transfers.{entering, going}
use Rattle.pcm_group.proofs.AsleepLemmas.{IsEndedBy-at}
use Rattle.pcm_group.proofs.BeginLemmas.{enters_on, fits_config, starting}
use Rattle.pcm_group.proofs.EndedLemmas.{stands-there}
use Rattle.pcm_group.proofs.write_read.enter.Goals as goal

pub returns-then-starts_read-clause-done : goal.returns-then-starts_read-clause-done
returns-then-starts_read-clause-done g c = λ k tells xs h fit none.
    let cl = c.args.client in
    let x = c.args.xfer in
    let s = stream_of k xs in
    let has = fits_config x.layout s fit.layout in
    let sh = stands-there (members_of c.args.members.now) c.args.place c.at.result.now k tells xs h c.at.ensures in
    let st = starting x s (sym (c.starts_read.ensures s has.config sh has.is) ∙ c.if-starts_read.true) in
    IsEndedBy-at cl tells (entering x.writing cl x (frames_by x.layout s c.args.io.now) s) (start_reading cl x s) k xs c.args.acts.now c.start_reading.new.acts c.start_reading.result.reply c.start_reading.result.first c.start_reading.result.moved (members_of c.start_reading.new.members)
    (ap (λ (b : Bool). entering b cl x (frames_by x.layout s c.args.io.now) s) st.writing) (c.start_reading.ensures.done k tells xs h fit st)

pub returns-then-starts_read-clause-bytes : goal.returns-then-starts_read-clause-bytes
returns-then-starts_read-clause-bytes g c = λ k tells xs b ys h fit none runs.
    let cl = c.args.client in
    let x = c.args.xfer in
    let s = stream_of k xs in
    let has = fits_config x.layout s fit.layout in
    let sh = stands-there (members_of c.args.members.now) c.args.place c.at.result.now k tells xs h c.at.ensures in
    let st = starting x s (sym (c.starts_read.ensures s has.config sh has.is) ∙ c.if-starts_read.true) in
    c.start_reading.ensures.bytes k tells xs b ys h fit st
    (subst (λ (p : Program). RunsTo tells p k xs c.start_reading.new.acts b ys) (ap (λ (d : Bool). entering d cl x (frames_by x.layout s c.args.io.now) s) st.writing) runs)

pub returns-else-starts_read-clause-done : goal.returns-else-starts_read-clause-done
returns-else-starts_read-clause-done g c = λ k tells xs h fit none.
    let cl = c.args.client in
    let x = c.args.xfer in
    let s = stream_of k xs in
    let all = frames_by x.layout s c.args.io.now in
    let has = fits_config x.layout s fit.layout in
    let sh = stands-there (members_of c.args.members.now) c.args.place c.at.result.now k tells xs h c.at.ensures in
    let on = enters_on cl x all s none (sym (c.starts_read.ensures s has.config sh has.is) ∙ c.if-starts_read.false) in
    IsEndedBy-at cl tells (entering x.writing cl x all s) (going cl x x [] all s) k xs c.args.acts.now c.carry_on.new.acts c.carry_on.result.reply c.carry_on.result.first c.carry_on.result.moved (members_of c.carry_on.new.members)
    on (c.carry_on.ensures.done k tells xs h fit)

pub returns-else-starts_read-clause-bytes : goal.returns-else-starts_read-clause-bytes
returns-else-starts_read-clause-bytes g c = λ k tells xs b ys h fit none runs.
    let cl = c.args.client in
    let x = c.args.xfer in
    let s = stream_of k xs in
    let all = frames_by x.layout s c.args.io.now in
    let has = fits_config x.layout s fit.layout in
    let sh = stands-there (members_of c.args.members.now) c.args.place c.at.result.now k tells xs h c.at.ensures in
    let on = enters_on cl x all s none (sym (c.starts_read.ensures s has.config sh has.is) ∙ c.if-starts_read.false) in
    c.carry_on.ensures.bytes k tells xs c.carry_on.new.acts b ys h (subst (λ (p : Program). RunsTo tells p k xs c.carry_on.new.acts b ys) on runs)
