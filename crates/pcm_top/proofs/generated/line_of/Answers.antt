use Rattle.std.proofs.Common.{◌≡◌, true, subst}
use Rattle.pcm_line.specs.declared.line.Line.{Line}
use Rattle.pcm_top.specs.Gen.{is_generated}
use Rattle.pcm_top.proofs.GenLemmas.{no-fault, same-line}
use Rattle.pcm_top.proofs.generated.line_of.Goals as goal

pub unreachable-requires : goal.unreachable-requires
unreachable-requires c = no-fault c.read_line.result c.in-Err.error c.requires.line c.in-Err.is c.in_default.not-Memory (c.read_line.ensures.only c.requires.line c.requires.says)

pub returns-in-Ok-clause-kind : goal.returns-in-Ok-clause-kind
returns-in-Ok-clause-kind c =
    let same = same-line c.read_line.result c.in-Ok.line c.requires.line c.in-Ok.is (c.read_line.ensures.only c.requires.line c.requires.says) in
    subst (λ (x : Line). is_generated x ≡ true) same c.requires.kind
