use Rattle.wav_file.proofs.Files.{wav_or_fault, not_both, one_recording, one_fault}
use Rattle.wav_file.proofs.reading.wav_or_fault.Goals as goal

pub returns-clause-one : goal.returns-clause-one
returns-clause-one c = wav_or_fault

pub returns-clause-not_both : goal.returns-clause-not_both
returns-clause-not_both c = not_both

pub returns-clause-one_recording : goal.returns-clause-one_recording
returns-clause-one_recording c = one_recording

pub returns-clause-one_fault : goal.returns-clause-one_fault
returns-clause-one_fault c = one_fault
