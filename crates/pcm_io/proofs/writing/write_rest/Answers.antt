use Rattle.std.proofs.Common.{◌∙◌, arith, length}
use Rattle.pcm_io.specs.Pieces.{in_pieces}
use Rattle.pcm_io.proofs.Taken.{appends_rest}
use Rattle.pcm_io.proofs.writing.write_rest.Goals as goal

pub returns-clause-front : goal.returns-clause-front
returns-clause-front g c =
    let n = c.write_all.ensures.front in
    appends_rest _ _ _ c.args.text.now.items _ (in_pieces (length c.args.text.now.items)) n.0 c.in_ok-write_pieces.ensures.pieces n.2 (c.deref.ensures.value ∙ c.in_ok-write_pieces.ensures.rest) (omega arith) n.1
