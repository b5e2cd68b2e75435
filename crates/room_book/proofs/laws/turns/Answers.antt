use Rattle.room_book.proofs.Turns.{turns_keep}
use Rattle.room_book.proofs.laws.turns.Goals as goal

pub returns : goal.returns
returns c = turns_keep c.steps.ensures.own c.steps.ensures.others c.steps.ensures.decided c.marks.ensures.numbers
