use Rattle.std.proofs.Common.{Bool, cond, Option, Some, slice_get, sym, ap, ◌∙◌, arith}
use Rattle.pcm_base.specs.declared.call.Layout.{Layout}
use Rattle.pcm_base.specs.declared.config.Shape.{Shape}
use Rattle.pcm_base.specs.declared.reply.Reply.{Reply}
use Rattle.pcm_base.specs.declared.reply.Reply.TheVariants as reply
use Rattle.pcm_world.specs.Answered.{bytes_told, is_asleep}
use Rattle.pcm_world.specs.Shown.{slot_bytes}
use Rattle.pcm_world.specs.declared.calls.Kept.{Kept}
use Rattle.pcm_world.proofs.SlotLemmas.{set-elsewhere, set-here}
use Rattle.pcm_world.proofs.steps.end_call.Goals as goal

pub first_frames-requires-clause-whole : goal.first_frames-requires-clause-whole
first_frames-requires-clause-whole c = (c.requires.frames c.in-Frames-Some-Some.shape c.in-Frames-Some-Some.layout c.in-Frames-Some-Some.count c.in-Frames-Some-Some.is-2 c.in-Frames-Some-Some.is-1 c.in-Frames-Some-Some.is-0).0

pub first_frames-requires-clause-count : goal.first_frames-requires-clause-count
first_frames-requires-clause-count c = (c.requires.frames c.in-Frames-Some-Some.shape c.in-Frames-Some-Some.layout c.in-Frames-Some-Some.count c.in-Frames-Some-Some.is-2 c.in-Frames-Some-Some.is-1 c.in-Frames-Some-Some.is-0).1

pub returns-in-Asleep-default-default-clause-call : goal.returns-in-Asleep-default-default-clause-call
returns-in-Asleep-default-default-clause-call c =
    set-here c.args.calls.now c.args.client.0 (Some c.take.result) (omega (arith, c.told-calls, c.requires.client))
    ∙ ap (λ (q : Kept). Some (Some q)) c.take.ensures
    ∙ sym (ap (λ (b : Bool). cond b (Some (Some c.args.kept.now)) (slice_get c.args.calls.now c.args.client.0)) (ap is_asleep c.in-Asleep-default-default.is-0))

pub returns-in-Asleep-default-default-clause-calls : goal.returns-in-Asleep-default-default-clause-calls
returns-in-Asleep-default-default-clause-calls c = λ k n. set-elsewhere c.args.calls.now c.args.client.0 k (Some c.take.result) n

pub returns-in-Frames-Some-Some-clause-result : goal.returns-in-Frames-Some-Some-clause-result
returns-in-Frames-Some-Some-clause-result c =
    let before = slot_bytes (slice_get c.args.results.now c.args.client.0) in
    ap slot_bytes (set-here c.args.results.now c.args.client.0 c.put_result.new.slot (omega (arith, c.told-results, c.requires.client)))
    ∙ c.put_result.ensures
    ∙ c.first_frames.ensures
    ∙ sym (ap (λ (r : Reply). bytes_told r c.args.kept.now.layout c.args.shape.now c.args.kept.now.bytes.items before) c.in-Frames-Some-Some.is-0
    ∙ ap (λ (l : Option Layout). bytes_told (reply.Frames c.in-Frames-Some-Some.count) l c.args.shape.now c.args.kept.now.bytes.items before) c.in-Frames-Some-Some.is-1
    ∙ ap (λ (h : Option Shape). bytes_told (reply.Frames c.in-Frames-Some-Some.count) (Some c.in-Frames-Some-Some.layout) h c.args.kept.now.bytes.items before) c.in-Frames-Some-Some.is-2)

pub returns-in-Frames-Some-Some-clause-results : goal.returns-in-Frames-Some-Some-clause-results
returns-in-Frames-Some-Some-clause-results c = λ k n. set-elsewhere c.args.results.now c.args.client.0 k c.put_result.new.slot n
