use Rattle.std.proofs.Common.{ℕ, ◌≡◌, ◌+◌, ◌*◌, true, false, List, [], length, replicate, drop, refl, sym, ap, ◌∙◌, subst}
use Rattle.pcm_base.specs.declared.config.Config.{Config}
use Rattle.pcm_base.specs.declared.reply.Reply.TheVariants as reply
use Rattle.pcm_base.specs.declared.state.State.TheVariants.{Running}
use Rattle.pcm_base.specs.model.Allowed.{frame_bytes_of}
use Rattle.pcm_base.specs.model.Frame.{Frame}
use Rattle.pcm_base.specs.model.Movement.{padded}
use Rattle.pcm_base.specs.model.Program.{Answer}
use Rattle.pcm_base.specs.model.Stream.{Stream}
use Rattle.pcm_group.specs.Inside.{members_in}
use Rattle.play_record.specs.Devices.{IsAt}
use Rattle.play_record.specs.Stages.{records}
use Rattle.play_record.proofs.At.{frame-at}
use Rattle.play_record.proofs.Frames.{length-padded}
use Rattle.play_record.proofs.PlayEvents.{RingLaws}
use Rattle.play_record.proofs.RecordEvents.{ReadLaws}
use Rattle.play_record.proofs.Records.{read_bytes, reads-next, records-on}
use Rattle.play_record.proofs.recording.record_piece.Goals as goal

pub move_on-requires : goal.move_on-requires
move_on-requires g c =
    let h = c.requires.device.0 in
    let given = c.requires.device.1 in
    let d = c.requires.device.2 in
    let laws : RingLaws = record { puts_split = c.puts.ensures.split; runs_shown = c.runs.ensures.shown; runs_split = c.runs.ensures.split; runs_counted = c.runs.ensures.counted } in
    let reads : ReadLaws = record { part = c.reads.ensures.part; whole = c.reads.ensures.whole } in
    (records h given Running true d d d, c.requires.device.6, (records-on laws reads h c.requires.device.3 c.requires.device.4 given d).0)

pub step-requires-clause-device : goal.step-requires-clause-device
step-requires-clause-device g c =
    let h = c.requires.device.0 in
    let given = c.requires.device.1 in
    let d = c.requires.device.2 in
    let laws : RingLaws = record { puts_split = c.puts.ensures.split; runs_shown = c.runs.ensures.shown; runs_split = c.runs.ensures.split; runs_counted = c.runs.ensures.counted } in
    let reads : ReadLaws = record { part = c.reads.ensures.part; whole = c.reads.ensures.whole } in
    let on = records-on laws reads h c.requires.device.3 c.requires.device.4 given d in (
      records h given Running true (d + 256) d (d + 256),
      subst (λ t. IsAt c.args.sub t (members_in c.move_on.new.group)) on.1 (c.in_ok-move_on.ensures.ok (records h given Running true d d d) c.requires.device.6 on.0),
    )

pub step-requires-clause-length : goal.step-requires-clause-length
step-requires-clause-length g c = λ s at fits some allowed.
    let h = c.requires.device.0 in
    let given = c.requires.device.1 in
    let d = c.requires.device.2 in
    let laws : RingLaws = record { puts_split = c.puts.ensures.split; runs_shown = c.runs.ensures.shown; runs_split = c.runs.ensures.split; runs_counted = c.runs.ensures.counted } in
    let reads : ReadLaws = record { part = c.reads.ensures.part; whole = c.reads.ensures.whole } in
    let on = records-on laws reads h c.requires.device.3 c.requires.device.4 given d in
    let t : Stream = records h given Running true (d + 256) d (d + 256) in
    let there : IsAt c.args.sub t (members_in c.move_on.new.group) =
    subst (λ v. IsAt c.args.sub v (members_in c.move_on.new.group)) on.1 (c.in_ok-move_on.ensures.ok (records h given Running true d d d) c.requires.device.6 on.0) in
    c.requires.device.5 ∙ ap (λ x. c.args.frames * x) (sym (frame-at (members_in c.move_on.new.group) c.args.sub t s h there at refl))

pub returns-clause-ok : goal.returns-clause-ok
returns-clause-ok g c = λ h given d sized period size at.
    let n = c.args.frames in
    let w = frame_bytes_of h in
    let laws : RingLaws = record { puts_split = c.puts.ensures.split; runs_shown = c.runs.ensures.shown; runs_split = c.runs.ensures.split; runs_counted = c.runs.ensures.counted } in
    let reads : ReadLaws = record { part = c.reads.ensures.part; whole = c.reads.ensures.whole } in
    let on = records-on laws reads h sized period given d in
    let s : Stream = records h given Running true (d + 256) d (d + 256) in
    let t : Stream = records h given Running true (d + 256) (d + n) (d + 256) in
    let fs : List Frame = padded n (drop d given) (replicate w 0) in
    let answer : Answer = record { reply = reply.Frames n; first = 0; frames = fs } in
    let io = c.args.piece.now in
    let there : IsAt c.args.sub s (members_in c.move_on.new.group) =
    subst (λ v. IsAt c.args.sub v (members_in c.move_on.new.group)) on.1 (c.in_ok-move_on.ensures.ok (records h given Running true d d d) at on.0) in
    let goes = reads-next laws reads h sized period given (record { 0 = 0 }) io d n c.requires.some c.requires.few in
    let got = λ (e : c.step.result ≡ reply.Memory). absurd (let wants : false ≡ true = c.step.ensures.wants e in cc) in (
      (c.step.ensures.goes s t answer there goes refl got).1,
      c.step.ensures.bytes s t answer there goes refl refl got ∙ read_bytes n w io fs c.requires.some sized.sound.frame size (length-padded n (drop d given) (replicate w 0)),
    )
