use Rattle.std.proofs.Common.{refl}
use Rattle.pcm_stream.specs.StandsFor.{shape_in}
use Rattle.pcm_group.proofs.MappedLemmas.{counted, leaves_as, loads_as, whole_bytes}
use Rattle.pcm_group.proofs.mapped.load.Goals as goal

pub load_frames-requires : goal.load_frames-requires
load_frames-requires g c = record { whole = λ mapped shape is. whole_bytes c.args.count shape.frame_bytes c.args.io.now (c.holds.ensures.length c.if-not-holds.false shape is) }

pub returns-clause-done : goal.returns-clause-done
returns-clause-done g c client linked bytes s h long =
    let o = shape_in c.args.stream.now in
    let count = counted o s c.args.io.now c.args.count (c.in_default.ensures.shape refl) c.in_default.ensures.sound (c.in_default.ensures.sized s h) (c.holds.ensures.length c.if-not-holds.false) in
    loads_as client linked bytes c.args.offset c.args.count c.args.io.now c.load_frames.new.out s c.load_frames.result c.moved_all-2.result.reply c.moved_all-2.result.first c.moved_all-2.result.moved c.args.stream.now
    h (c.in_default.ensures.answer s h) count (c.load_frames.ensures.ok s h) (c.load_frames.ensures.refused s h) c.moved_all-2.ensures.reply c.moved_all-2.ensures.moved c.moved_all-2.ensures.first

pub returns-clause-loaded : goal.returns-clause-loaded
returns-clause-loaded g c s h =
    let o = shape_in c.args.stream.now in
    let count = counted o s c.args.io.now c.args.count (c.in_default.ensures.shape refl) c.in_default.ensures.sound (c.in_default.ensures.sized s h) (c.holds.ensures.length c.if-not-holds.false) in
    leaves_as c.args.offset c.args.count c.args.io.now c.load_frames.new.out s c.load_frames.result c.moved_all-2.result.reply count (c.load_frames.ensures.ok s h) c.load_frames.ensures.same c.moved_all-2.ensures.reply
