use Rattle.std.proofs.Common.{◌∙◌, ◌&&◌, ap, rules, Bool, List, ℕ}
use Rattle.std.specs.Prelude.{◌≢◌}
use Rattle.pcm_base.specs.declared.ids.ClientId.{ClientId}
use Rattle.pcm_base.specs.declared.reply.Reply.TheVariants as reply
use Rattle.pcm_base.specs.declared.reply.Told.{Told}
use Rattle.pcm_base.specs.model.World.{step}
use Rattle.pcm_world.specs.Shown.{is_frames, result_in}
use Rattle.pcm_top.specs.CodeSession.{bytes_in}
use Rattle.pcm_top.specs.Run.{reads_by}
use Rattle.pcm_top.proofs.EventLemmas.{shown-behind, event-with}
use Rattle.pcm_top.proofs.SessionLemmas.{tells-shown}
use Rattle.pcm_top.proofs.session.event_line.Goals as goal

pub returns : goal.returns
returns c = λ s keeps.
    let e = c.args.event.now in
    let w = s.world in
    let t = step w e c.as_slice.result.now in
    let no : c.step-told.result.reply ≢ reply.Memory = search rules in
    let told = c.step-told.ensures.told w keeps.world no in
    let world = c.step-told.ensures.world w keeps.world no in
    let code = c.step-told.new.self in
    let reads = c.tells_read-reads.ensures ∙ ap (λ (b : Bool). b && is_frames c.step-told.result.reply) (c.is_reading-reads.ensures w keeps.world) ∙ ap (λ (x : Told). reads_by e w && is_frames x.reply) told in
    let old : ClientId → List ℕ = λ d. result_in c.args.session.now.world d in
    let bytes =
    c.shown-bytes.ensures t.world world
    ∙ ap (λ (b : Bool). bytes_in code e t.world b) reads
    ∙ shown-behind code e w t old (λ d. c.step-told.ensures.result w d keeps.world no) (c.step-told.ensures.moved w e.sub keeps.world no) in
    event-with c.push_told.result _ c.args.number e c.as_slice.result.now c.args.bytes.now s c.as_slice.ensures
    (tells-shown c.push_told.result code c.args.session.now.version c.args.number c.step-told.result t _ _ s c.args.session.now.text.items c.push_told.new.text c.push_told.ensures.ok told bytes keeps.text keeps.version world)
