use Rattle.std.proofs.Common.{rules}
use Rattle.pcm_line.specs.declared.line.Line.{Line}
use Rattle.pcm_line.specs.Reading.{Gives, read_bytes}
use Rattle.pcm_line.proofs.GrammarLaws.{is-line, is-fault, reads-line, finds-fault}
use Rattle.pcm_line.proofs.read.read_line.Goals as goal

pub returns : goal.returns
returns c =
    let gives : Gives (λ (line : Line). line) c.line_after.result (read_bytes c.args.bytes.now) = search rules in
    record {
      line = is-line c.args.bytes.now c.line_after.result gives;
      fault = is-fault c.args.bytes.now c.line_after.result gives;
      only = reads-line c.args.bytes.now c.line_after.result gives;
      exact = finds-fault c.args.bytes.now c.line_after.result gives;
    }
