use Rattle.std.proofs.Common.{◌∙◌, ap, sym, subst, Err}
use Rattle.pcm_text.specs.declared.status.Status.{Status}
use Rattle.pcm_text.specs.declared.status.Which.TheVariants as which
use Rattle.wav_file.specs.Recordings.{recording}
use Rattle.pcm_top.specs.declared.end.Unanswered.{Unanswered}
use Rattle.pcm_top.specs.Sound.{Job, JobEnds, capturing}
use Rattle.pcm_top.proofs.SoundLemmas.{calm-kept, ends-untouched, made-for, recorded-sound, stored-ends, unloaded-ends, unmade-ends, unmade-never}
use Rattle.pcm_top.proofs.sound.capture_file.Goals as goal

pub returns-in-Err-clause-ends : goal.returns-in-Err-clause-ends
returns-in-Err-clause-ends g c =
    let job : Job = capturing c.args.frames in
    let written = g.K.Sink.written c.args.out.now in
    let files = g.F.Shelf.files c.args.shelf.now in
    let now = g.F.Shelf.files c.load.new.shelf in
    let ends = unloaded-ends job c.args.from.now c.args.to.now files now written c.in-Err.why (λ e is. c.load.ensures.ended e (c.in-Err.is ∙ ap (λ (x : Unanswered). Err x) is)) c.load.ensures.stay in
    subst (λ (s : Status). JobEnds job c.args.from.now c.args.to.now files now written written s) (sym c.unloaded.ensures) ends

pub returns-in-Err-record_frames-clause-ends : goal.returns-in-Err-record_frames-clause-ends
returns-in-Err-record_frames-clause-ends g c =
    let job : Job = capturing c.args.frames in
    let written = g.K.Sink.written c.args.out.now in
    let files = g.F.Shelf.files c.args.shelf.now in
    let now = g.F.Shelf.files c.load.new.shelf in
    let made = c.record_frames.ensures in
    let ends =
    unmade-ends job c.args.from.now c.args.to.now files now written (recording c.in-Ok.wav) c.record_frames.result c.in-Err-record_frames.error c.in-Err-record_frames.is c.in-Ok.ensures.found made.refused made.too_much c.in-Ok.ensures.stay in
    subst (λ (s : Status). JobEnds job c.args.from.now c.args.to.now files now written written s) (sym c.unmade.ensures) ends

pub returns-in-Err-record_frames-clause-moved : goal.returns-in-Err-record_frames-clause-moved
returns-in-Err-record_frames-clause-moved g c = λ ok. absurd ((unmade-never which.CaptureBytes c.in-Err-record_frames.error).0.ok (sym c.unmade.ensures ∙ ok))

pub store_and_tell-requires-clause-writable : goal.store_and_tell-requires-clause-writable
store_and_tell-requires-clause-writable g c =
    let r = recording c.in-Ok.wav in
    let files = g.F.Shelf.files c.args.shelf.now in
    let made = c.record_frames.ensures in
    let fits = made-for (capturing c.args.frames) c.args.from.now files r c.record_frames.result c.in-Ok-record_frames.recorded _ c.in-Ok-record_frames.is c.in-Ok.ensures.found made.refused made.too_much in
    (recorded-sound c.args.from.now files r (recording c.in-Ok-record_frames.recorded) c.args.frames fits c.in-Ok.ensures.writable c.in-Ok-record_frames.ensures.recorded).0

pub store_and_tell-requires-clause-few : goal.store_and_tell-requires-clause-few
store_and_tell-requires-clause-few g c =
    let r = recording c.in-Ok.wav in
    let files = g.F.Shelf.files c.args.shelf.now in
    let made = c.record_frames.ensures in
    let fits = made-for (capturing c.args.frames) c.args.from.now files r c.record_frames.result c.in-Ok-record_frames.recorded _ c.in-Ok-record_frames.is c.in-Ok.ensures.found made.refused made.too_much in
    (recorded-sound c.args.from.now files r (recording c.in-Ok-record_frames.recorded) c.args.frames fits c.in-Ok.ensures.writable c.in-Ok-record_frames.ensures.recorded).1

pub returns-in-Ok-captured_line-clause-ends : goal.returns-in-Ok-captured_line-clause-ends
returns-in-Ok-captured_line-clause-ends g c =
    let job : Job = capturing c.args.frames in
    let r = recording c.in-Ok.wav in
    let files = g.F.Shelf.files c.args.shelf.now in
    let made = c.record_frames.ensures in
    let fits = made-for job c.args.from.now files r c.record_frames.result c.in-Ok-record_frames.recorded _ c.in-Ok-record_frames.is c.in-Ok.ensures.found made.refused made.too_much in
    stored-ends job c.args.from.now c.args.to.now files _ _ _ _ r (recording c.in-Ok-record_frames.recorded) c.deref.result.now c.store_and_tell.result fits c.in-Ok.ensures.stay c.in-Ok-record_frames.ensures.recorded
    (c.deref.ensures.value ∙ c.in-Ok-captured_line.ensures) c.store_and_tell.ensures.ends

pub returns-in-Ok-captured_line-clause-calm_shelf : goal.returns-in-Ok-captured_line-clause-calm_shelf
returns-in-Ok-captured_line-clause-calm_shelf g c = λ other. c.store_and_tell.ensures.calm_shelf other ∙ calm-kept c.load.result c.in-Ok.wav c.in-Ok.is c.load.ensures.calm

pub returns-clause-ends : goal.returns-clause-ends
returns-clause-ends g c = ends-untouched (g.F.Shelf.files c.args.shelf.now) (g.F.Shelf.files c.load.new.shelf) (g.K.Sink.written c.args.out.now) c.in-Ok.ensures.stay
