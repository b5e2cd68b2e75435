use Rattle.std.proofs.Common.{ap, sym, ◌∙◌}
use Rattle.pcm_base.specs.model.Stream.{Stream}
use Rattle.pcm_stream.specs.Members.{members_of, numbers_of}
use Rattle.pcm_stream.specs.StandsFor.{shape_in}
use Rattle.room_lock.proofs.MemberLemmas.{bare_frame, distinct_of, shape_frame, stands_at}
use Rattle.room_lock.proofs.members.frame_bytes_at.Goals as goal

pub returns-in-Some : goal.returns-in-Some
returns-in-Some c = λ k xs is h.
    let ms = members_of c.args.members.now in
    let st = stands_at ms xs c.args.place c.at.result.now k (distinct_of (numbers_of ms) c.requires.apart) h c.at.ensures is in
    sym (shape_frame (shape_in c.at.result.now.stream) c.in-Some.shape.now st.one.stream c.in-Some.ensures.value (c.in-Some.ensures.model st.one.stream st.stands.stream)) ∙ ap (λ (s : Stream). s.setup.frame_bytes) st.stream

pub returns-in-None : goal.returns-in-None
returns-in-None c = λ k xs is h.
    let ms = members_of c.args.members.now in
    let st = stands_at ms xs c.args.place c.at.result.now k (distinct_of (numbers_of ms) c.requires.apart) h c.at.ensures is in
    bare_frame (shape_in c.at.result.now.stream) st.one.stream c.in-None.ensures.value (c.in-None.ensures.none st.one.stream st.stands.stream) st.stands.stream.sound ∙ ap (λ (s : Stream). s.setup.frame_bytes) st.stream
