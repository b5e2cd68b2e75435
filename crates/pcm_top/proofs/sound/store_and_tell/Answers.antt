use Rattle.std.proofs.Common.{ap, take, Err}
use Rattle.pcm_io.specs.declared.shelf.ShelfError.{ShelfError}
use Rattle.wav_file.specs.Recordings.{recording}
use Rattle.pcm_top.proofs.SoundLemmas.{front-taken, stored-file}
use Rattle.pcm_top.proofs.StreamLemmas.{appends-nothing}
use Rattle.pcm_top.proofs.sound.store_and_tell.Goals as goal

pub returns-in-Ok-write_all-clause-ends : goal.returns-in-Ok-write_all-clause-ends
returns-in-Ok-write_all-clause-ends g c =
    (stored-file (recording c.args.wav.now) c.args.to.now _ _ _ _ c.deref.ensures.value c.in-Ok.ensures.bytes c.in-Ok-store.ensures.stored, c.in-Ok-write_all.ensures.all)

pub returns-in-Ok-store-clause-ends : goal.returns-in-Ok-store-clause-ends
returns-in-Ok-store-clause-ends g c =
    let front = c.write_all.ensures.front in
    let line = c.args.line.now in
    (stored-file (recording c.args.wav.now) c.args.to.now _ _ _ _ c.deref.ensures.value c.in-Ok.ensures.bytes c.in-Ok-store.ensures.stored, take front.0 line, front.2, front-taken front.0 line)

pub returns-in-Err-Failed-clause-ends : goal.returns-in-Err-Failed-clause-ends
returns-in-Err-Failed-clause-ends g c = (c.in-Err-Failed.ensures.others (ap (λ (x : ShelfError). Err x) c.in-Err-Failed.field-0-is), appends-nothing (g.K.Sink.written c.args.out.now))

pub returns-clause-ends : goal.returns-clause-ends
returns-clause-ends g c = (c.in-Err-Memory.ensures.memory (ap (λ (x : ShelfError). Err x) c.in-Err-Memory.field-0-is), appends-nothing (g.K.Sink.written c.args.out.now))
