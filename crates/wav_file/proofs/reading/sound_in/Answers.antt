use Rattle.std.proofs.Common.{List, ℕ, arith, sym, subst}
use Rattle.std.proofs.lemmas.List.{take_rest}
use Rattle.wav_file.specs.Chunks.{AreChunks, place_of}
use Rattle.wav_file.proofs.Files.{found_both}
use Rattle.wav_file.proofs.reading.sound_in.Goals as goal

pub returns-clause-answers : goal.returns-clause-answers
returns-clause-answers c =
    found_both c.args.bytes.now c.frames_in.result.now (place_of c.in-Some.first) (place_of c.in-Some-find_chunk.data) c.in_ok-layout.layout
    (cc) (λ cs are. c.in-Some.ensures.found cs (subst (λ (bytes : List ℕ). AreChunks (record { at = 12; bytes = bytes }) cs) (sym (take_rest c.args.bytes.now 12)) are))
    (omega (arith, c.in-Some.ensures.head)) (cc) (sym c.in_ok-layout.ensures.value) c.in-Some-find_chunk.ensures.found (omega (arith, c.in-Some-find_chunk.ensures.head)) c.frames_in.ensures
