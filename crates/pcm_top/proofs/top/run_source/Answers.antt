use Rattle.std.proofs.Common.{length, ap}
use Rattle.std.specs.Prelude.{Err, Ok}
use Rattle.pcm_top.specs.declared.end.Cut.{Cut}
use Rattle.pcm_top.specs.declared.end.End.{End}
use Rattle.pcm_top.proofs.OutputLemmas.{if-some-map, ran-output, ran-front, fault-told, fault-front, short-front, whole-front}
use Rattle.pcm_top.proofs.top.run_source.Goals as goal

pub returns-in-Ok-write_rest-clause-ran : goal.returns-in-Ok-write_rest-clause-ran
returns-in-Ok-write_rest-clause-ran g c =
    if-some-map _ _ (g.S.Source.left c.args.source.now) (λ script ran.
    ran-output c.args.command script _ _ _ _ _ c.run_lines.new.session.text.items c.in-Ok.ended ran c.in-Ok-write_rest.ensures.all) c.in-Ok.ensures.ran

pub returns-in-Ok-write_rest-clause-front : goal.returns-in-Ok-write_rest-clause-front
returns-in-Ok-write_rest-clause-front g c =
    if-some-map _ _ (g.S.Source.left c.args.source.now) (λ script ran.
    ran-front c.args.command script _ _ _ _ _ _ _ c.run_lines.new.session.text.items c.in-Ok.ended (length c.run_lines.new.session.text.items) ran
    (λ e. c.in-Ok.ensures.store (ap (λ (x : End). Ok x) e)) (whole-front _ _ _ c.in-Ok-write_rest.ensures.all)) c.in-Ok.ensures.ran

pub returns-in-Ok-clause-front : goal.returns-in-Ok-clause-front
returns-in-Ok-clause-front g c =
    let n = c.write_rest.ensures.front in
    if-some-map _ _ (g.S.Source.left c.args.source.now) (λ script ran.
    ran-front c.args.command script _ _ _ _ _ _ _ c.run_lines.new.session.text.items c.in-Ok.ended n.0 ran (λ e. c.in-Ok.ensures.store (ap (λ (x : End). Ok x) e)) n.2) c.in-Ok.ensures.ran

pub returns-in-Ok-write_rest-2-clause-front : goal.returns-in-Ok-write_rest-2-clause-front
returns-in-Ok-write_rest-2-clause-front g c =
    if-some-map _ _ (g.S.Source.left c.args.source.now) (λ script ran.
    fault-front c.args.command script _ _ _ _ _ _ _ _ c.run_lines.new.session.text.items (length c.run_lines.new.session.text.items) ran (whole-front _ _ _ c.in-Ok-write_rest-2.ensures.all))
    (c.in-Err-ReadFault.ensures.faulted (ap (λ (x : Cut). Err x) c.in-Err-ReadFault.field-0-is))

pub returns-in-Ok-write_rest-2-clause-faulted : goal.returns-in-Ok-write_rest-2-clause-faulted
returns-in-Ok-write_rest-2-clause-faulted g c = λ is.
    if-some-map _ _ (g.S.Source.left c.args.source.now) (λ script ran.
    fault-told c.args.command script _ _ _ _ _ _ c.run_lines.new.session.text.items ran c.in-Ok-write_rest-2.ensures.all)
    (c.in-Err-ReadFault.ensures.faulted (ap (λ (x : Cut). Err x) c.in-Err-ReadFault.field-0-is))

pub returns-in-Err-ReadFault-clause-front : goal.returns-in-Err-ReadFault-clause-front
returns-in-Err-ReadFault-clause-front g c =
    let n = c.write_rest-in-Err-ReadFault.ensures.front in
    if-some-map _ _ (g.S.Source.left c.args.source.now) (λ script ran.
    fault-front c.args.command script _ _ _ _ _ _ _ _ c.run_lines.new.session.text.items n.0 ran n.2)
    (c.in-Err-ReadFault.ensures.faulted (ap (λ (x : Cut). Err x) c.in-Err-ReadFault.field-0-is))

pub returns-in-Err-WriteFault-clause-front : goal.returns-in-Err-WriteFault-clause-front
returns-in-Err-WriteFault-clause-front g c =
    let is = c.in-Err-WriteFault.field-0-is in
    if-some-map _ _ (g.S.Source.left c.args.source.now) (λ script ran. short-front c.args.command script _ _ _ _ _ _ ran) (c.in-Err-WriteFault.ensures.cut (λ e. cc))

pub returns-clause-front : goal.returns-clause-front
returns-clause-front g c =
    let is = c.in-Err-Memory.field-0-is in
    if-some-map _ _ (g.S.Source.left c.args.source.now) (λ script ran. short-front c.args.command script _ _ _ _ _ _ ran) (c.in-Err-Memory.ensures.cut (λ e. cc))
