use Rattle.std.proofs.Common.{◌∙◌, ap, sym, subst, Err}
use Rattle.pcm_text.specs.declared.status.Status.{Status}
use Rattle.pcm_text.specs.declared.status.Which.TheVariants as which
use Rattle.wav_file.specs.Recordings.{recording}
use Rattle.pcm_top.specs.declared.end.Unanswered.{Unanswered}
use Rattle.pcm_top.specs.Sound.{Job, JobEnds, playing}
use Rattle.pcm_top.proofs.SoundLemmas.{calm-kept, ends-untouched, line-played, made-for, played-sound, stored-ends, stored-taken, unloaded-ends, unmade-ends, unmade-never}
use Rattle.pcm_top.proofs.sound.play_file.Goals as goal

pub returns-in-Err-clause-ends : goal.returns-in-Err-clause-ends
returns-in-Err-clause-ends g c =
    let job : Job = playing c.args.period c.args.periods in
    let written = g.K.Sink.written c.args.out.now in
    let files = g.F.Shelf.files c.args.shelf.now in
    let now = g.F.Shelf.files c.load.new.shelf in
    let ends = unloaded-ends job c.args.from.now c.args.to.now files now written c.in-Err.why (λ e is. c.load.ensures.ended e (c.in-Err.is ∙ ap (λ (x : Unanswered). Err x) is)) c.load.ensures.stay in
    subst (λ (s : Status). JobEnds job c.args.from.now c.args.to.now files now written written s) (sym c.unloaded.ensures) ends

pub returns-in-Err-play-clause-ends : goal.returns-in-Err-play-clause-ends
returns-in-Err-play-clause-ends g c =
    let job : Job = playing c.args.period c.args.periods in
    let written = g.K.Sink.written c.args.out.now in
    let files = g.F.Shelf.files c.args.shelf.now in
    let now = g.F.Shelf.files c.load.new.shelf in
    let made = c.play.ensures in
    let ends =
    unmade-ends job c.args.from.now c.args.to.now files now written (recording c.in-Ok.wav) c.play.result c.in-Err-play.error c.in-Err-play.is c.in-Ok.ensures.found made.refused made.too_much c.in-Ok.ensures.stay in
    subst (λ (s : Status). JobEnds job c.args.from.now c.args.to.now files now written written s) (sym c.unmade.ensures) ends

pub returns-in-Err-play-clause-taken : goal.returns-in-Err-play-clause-taken
returns-in-Err-play-clause-taken g c = λ ok. absurd ((unmade-never which.TakenBytes c.in-Err-play.error).0.ok (sym c.unmade.ensures ∙ ok))

pub frame_count-requires-2 : goal.frame_count-requires-2
frame_count-requires-2 g c =
    let r = recording c.in-Ok.wav in
    let files = g.F.Shelf.files c.args.shelf.now in
    let made = c.play.ensures in
    let fits = made-for (playing c.args.period c.args.periods) c.args.from.now files r c.play.result c.in-Ok-play.played _ c.in-Ok-play.is c.in-Ok.ensures.found made.refused made.too_much in
    (played-sound c.args.from.now files r (recording c.in-Ok-play.played) c.args.period c.args.periods fits c.in-Ok.ensures.writable c.in-Ok-play.ensures.played).can

pub store_and_tell-requires-clause-writable : goal.store_and_tell-requires-clause-writable
store_and_tell-requires-clause-writable g c =
    let r = recording c.in-Ok.wav in
    let files = g.F.Shelf.files c.args.shelf.now in
    let made = c.play.ensures in
    let fits = made-for (playing c.args.period c.args.periods) c.args.from.now files r c.play.result c.in-Ok-play.played _ c.in-Ok-play.is c.in-Ok.ensures.found made.refused made.too_much in
    (played-sound c.args.from.now files r (recording c.in-Ok-play.played) c.args.period c.args.periods fits c.in-Ok.ensures.writable c.in-Ok-play.ensures.played).can

pub store_and_tell-requires-clause-few : goal.store_and_tell-requires-clause-few
store_and_tell-requires-clause-few g c =
    let r = recording c.in-Ok.wav in
    let files = g.F.Shelf.files c.args.shelf.now in
    let made = c.play.ensures in
    let fits = made-for (playing c.args.period c.args.periods) c.args.from.now files r c.play.result c.in-Ok-play.played _ c.in-Ok-play.is c.in-Ok.ensures.found made.refused made.too_much in
    (played-sound c.args.from.now files r (recording c.in-Ok-play.played) c.args.period c.args.periods fits c.in-Ok.ensures.writable c.in-Ok-play.ensures.played).few

pub returns-in-Ok-played_line-clause-ends : goal.returns-in-Ok-played_line-clause-ends
returns-in-Ok-played_line-clause-ends g c =
    let job : Job = playing c.args.period c.args.periods in
    let r = recording c.in-Ok.wav in
    let files = g.F.Shelf.files c.args.shelf.now in
    let made = c.play.ensures in
    let fits = made-for job c.args.from.now files r c.play.result c.in-Ok-play.played _ c.in-Ok-play.is c.in-Ok.ensures.found made.refused made.too_much in
    stored-ends job c.args.from.now c.args.to.now files _ _ _ _ r (recording c.in-Ok-play.played) c.deref.result.now c.store_and_tell.result fits c.in-Ok.ensures.stay c.in-Ok-play.ensures.played
    (line-played c.deref.result.now _ _ _ _ _ c.deref.ensures.value c.in-Ok-played_line.ensures c.frame_count.ensures
    (c.frame_count-2.ensures ∙ (played-sound c.args.from.now files r (recording c.in-Ok-play.played) c.args.period c.args.periods fits c.in-Ok.ensures.writable c.in-Ok-play.ensures.played).frames)) c.store_and_tell.ensures.ends

pub returns-in-Ok-played_line-clause-calm_shelf : goal.returns-in-Ok-played_line-clause-calm_shelf
returns-in-Ok-played_line-clause-calm_shelf g c = λ other. c.store_and_tell.ensures.calm_shelf other ∙ calm-kept c.load.result c.in-Ok.wav c.in-Ok.is c.load.ensures.calm

pub returns-in-Ok-played_line-clause-taken : goal.returns-in-Ok-played_line-clause-taken
returns-in-Ok-played_line-clause-taken g c = λ ok.
    let job : Job = playing c.args.period c.args.periods in
    let r = recording c.in-Ok.wav in
    let files = g.F.Shelf.files c.args.shelf.now in
    let made = c.play.ensures in
    let fits = made-for job c.args.from.now files r c.play.result c.in-Ok-play.played _ c.in-Ok-play.is c.in-Ok.ensures.found made.refused made.too_much in
    stored-taken job c.args.from.now c.args.to.now files _ _ _ _ r (recording c.in-Ok-play.played) c.deref.result.now c.store_and_tell.result _ fits c.in-Ok.ensures.stay c.in-Ok-play.ensures.played c.store_and_tell.ensures.ends
    c.in-Ok-play.ensures.taken ok

pub returns-clause-ends : goal.returns-clause-ends
returns-clause-ends g c = ends-untouched (g.F.Shelf.files c.args.shelf.now) (g.F.Shelf.files c.load.new.shelf) (g.K.Sink.written c.args.out.now) c.in-Ok.ensures.stay
