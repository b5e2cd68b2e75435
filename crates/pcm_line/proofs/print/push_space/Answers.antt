use Rattle.std.proofs.Common.{◌≡◌, ◌-◌, drop, take, refl, arith, ◌∙◌}
use Rattle.std.proofs.lemmas.List.{take_all, length-drop}
use Rattle.pcm_line.specs.Spelling.{space_texts}
use Rattle.pcm_line.proofs.Spaced.{spaced, pushed}
use Rattle.pcm_line.proofs.print.push_space.Goals as goal

pub returns : goal.returns
returns c =
    let text : drop c.write_number_before-accesses.result c.write_number_before-accesses.new.area ≡ spaced (space_texts c.args.space.now) =
    rw (c.write_number_before-accesses.ensures.written, c.write_number_before-formats.ensures.written, c.write_span_before-channels.ensures.written, c.write_span_before-rate.ensures.written, c.write_span_before-period.ensures.written, c.write_span_before-periods.ensures.written, c.write_span_before-buffer.ensures.written) refl in
    let area = c.write_number_before-accesses.new.area in
    let start = c.write_number_before-accesses.result in
    let all : take (252 - start) (drop start area) ≡ drop start area = take_all _ _ (omega (arith, length-drop start area, c.write_number_before-accesses.auto.area, c.write_number_before-formats.auto.area, c.write_span_before-channels.auto.area, c.write_span_before-rate.auto.area, c.write_span_before-period.auto.area, c.write_span_before-periods.auto.area, c.write_span_before-buffer.auto.area)) in
    pushed c.extend_from_slice.result c.args.out.now.items _ c.extend_from_slice.new.self.items (space_texts c.args.space.now) c.extend_from_slice.ensures.items (all ∙ text)
