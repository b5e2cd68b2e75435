use Rattle.std.proofs.Common.{◌++◌, List, ℕ, take, ap, ◌∙◌}
use Rattle.std.proofs.lemmas.List.{take_rest}
use Rattle.wav_file.specs.Recordings.{high_samples}
use Rattle.wav_file.proofs.SampleMoves.{rest_written}
use Rattle.wav_file.proofs.samples.move_high_from.Goals as goal

pub returns : goal.returns
returns c =
    let old = c.args.bytes.now in
    let start = c.args.start in
    rest_written old c.move_high.new.samples start c.requires
    ∙ ap (λ (x : List ℕ). take start old ++ x) (c.move_high.ensures ∙ ap high_samples (take_rest old start))
