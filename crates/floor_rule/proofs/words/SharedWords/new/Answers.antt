use Rattle.std.proofs.Common.{◌≡◌, ◌+◌, ◌*◌, ◌∙◌, arith, length, take}
use Rattle.std.proofs.lemmas.List.{length-take-le, get_or-take}
use Rattle.floor_rule.proofs.MakerSteps.{opens}
use Rattle.floor_rule.proofs.words.SharedWords.new.Goals as goal

pub of_words-requires : goal.of_words-requires
of_words-requires c =
    let ws = c.laid-words.result in
    let long = c.laid-words.ensures.length in
    let all : length (take (2 * c.args.cards) ws) ≡ c.args.cards + c.args.cards = length-take-le (2 * c.args.cards) ws (omega (arith, long, c.requires.few)) ∙ omega arith in
    opens c.args.cards (take (2 * c.args.cards) ws) c.requires.few all (λ j lt.
    let laid = c.laid-words.ensures.words j lt in
    (get_or-take (2 * c.args.cards) ws j 0 (omega (arith, lt)) ∙ laid.0, get_or-take (2 * c.args.cards) ws (c.args.cards + j) 0 (omega (arith, lt)) ∙ laid.1))
