use Rattle.std.proofs.Common.{subst, ◌∙◌}
use Rattle.pcm_base.specs.model.Stream.{Stream}
use Rattle.pcm_stream.specs.Members.{members_of, numbers_of}
use Rattle.room_lock.specs.Shaped.{HasShape}
use Rattle.room_lock.proofs.MemberLemmas.{distinct_of, stands_at}
use Rattle.room_lock.proofs.ShapeLemmas.{has_shape}
use Rattle.room_lock.proofs.members.shape_at.Goals as goal

pub returns-clause-shape : goal.returns-clause-shape
returns-clause-shape c = λ k xs is h.
    let ms = members_of c.args.members.now in
    let st = stands_at ms xs c.args.place c.at.result.now k (distinct_of (numbers_of ms) c.requires.apart) h c.at.ensures is in
    subst (λ (s : Stream). HasShape s c.copied.result) st.stream
    (has_shape c.at.result.now.stream st.one.stream c.copied.result (c.copied.ensures ∙ c.shape.ensures.value) st.stands.stream (c.shape.ensures.model st.one.stream st.stands.stream) (c.shape.ensures.none st.one.stream st.stands.stream) (c.shape.ensures.exact st.one.stream st.stands.stream))
