use Rattle.std.proofs.Common.{Err, ap, inr}
use Rattle.std.proofs.lemmas.Result.{err_from_is_err_and}
use Rattle.wav_file.specs.declared.wav.WavError.{WavError}
use Rattle.wav_file.specs.Faults.{recording_of}
use Rattle.wav_file.proofs.Files.{ok_is_wav, err_is_fault, wav_is_answer, one_fault, one_recording}
use Rattle.wav_file.proofs.Readable.{can_write}
use Rattle.wav_file.proofs.reading.read_wav.Goals as goal

pub returns-in_err-layout-clause-only : goal.returns-in_err-layout-clause-only
returns-in_err-layout-clause-only c = λ r wav. let one = wav_is_answer c.args.bytes.now r _ wav c.in_err-layout.ensures.answers in absurd (cc)

pub returns-in_err-layout-clause-fault : goal.returns-in_err-layout-clause-fault
returns-in_err-layout-clause-fault c =
    let p = err_from_is_err_and c.from_residual.result c.from_residual.ensures.1 in
    rw (p.1, p.2) (inr (err_is_fault c.args.bytes.now c.in_err-layout.field-0.0 c.in_err-layout.ensures.answers))

pub returns-in_err-layout-clause-only_fault : goal.returns-in_err-layout-clause-only_fault
returns-in_err-layout-clause-only_fault c =
    let p = err_from_is_err_and c.from_residual.result c.from_residual.ensures.1 in
    rw (p.1, p.2) (λ e fault. ap (λ (d : WavError). Err d) (one_fault c.args.bytes.now c.in_err-layout.field-0.0 e (err_is_fault c.args.bytes.now c.in_err-layout.field-0.0 c.in_err-layout.ensures.answers) fault))

pub returns-clause-found : goal.returns-clause-found
returns-clause-found c =
    rw c.in_ok-frames.ensures (ok_is_wav c.args.bytes.now (recording_of c.in_ok-layout.layout c.in_ok-layout.frames.now) c.in_ok-layout.ensures.answers)

pub returns-clause-only : goal.returns-clause-only
returns-clause-only c = λ r wav.
    rw c.in_ok-frames.ensures (one_recording c.args.bytes.now (recording_of c.in_ok-layout.layout c.in_ok-layout.frames.now) r (ok_is_wav c.args.bytes.now (recording_of c.in_ok-layout.layout c.in_ok-layout.frames.now) c.in_ok-layout.ensures.answers) wav)

pub returns-clause-writable : goal.returns-clause-writable
returns-clause-writable c =
    let r = recording_of c.in_ok-layout.layout c.in_ok-layout.frames.now in
    rw c.in_ok-frames.ensures (can_write c.args.bytes.now r (ok_is_wav c.args.bytes.now r c.in_ok-layout.ensures.answers) c.in_ok-layout.ensures.rate)
