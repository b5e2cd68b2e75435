use Rattle.std.proofs.Common.{rules, arith, length-drop}
use Rattle.std.proofs.lemmas.List.{take_all}
use Rattle.pcm_io.proofs.Taken.{appends_next}
use Rattle.pcm_io.proofs.writing.write_all.Goals as goal

pub parts-preserved : goal.parts-preserved
parts-preserved g c =
    let size = length-drop c.parts.done c.args.bytes.now in
    record {
      within = search rules;
      front = appends_next _ _ _ c.args.bytes.now _ c.parts.done c.in_ok-done.field-0 c.parts.invariant.front c.in_ok-done.ensures.bytes (take_all _ _ (omega arith));
      kept = search rules;
    }
