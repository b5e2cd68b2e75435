use Rattle.pcm_stream.specs.Members.{members_of, numbers_of}
use Rattle.room_lock.proofs.MemberLemmas.{distinct_of}
use Rattle.room_lock.proofs.ShapeLemmas.{bare_still, movement_most}
use Rattle.room_lock.proofs.members.most_taken.Goals as goal

pub returns-in-Some : goal.returns-in-Some
returns-in-Some c = λ k xs is h.
    let ms = members_of c.args.members.now in
    movement_most ms xs c.args.place k c.args.frames c.in-Some.shape _ (distinct_of (numbers_of ms) c.requires.apart) h c.requires.place is (c.in-Some.ensures.shape k xs is h) c.min.ensures

pub returns-in-None : goal.returns-in-None
returns-in-None c = λ k xs is h.
    let ms = members_of c.args.members.now in
    bare_still ms xs c.args.place k c.args.frames (distinct_of (numbers_of ms) c.requires.apart) h c.requires.place is (c.in-None.ensures.shape k xs is h)
