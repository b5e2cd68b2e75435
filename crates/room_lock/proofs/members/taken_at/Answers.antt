use Rattle.std.proofs.Common.{ap, ◌∙◌}
use Rattle.pcm_base.specs.model.Frame.{bytes_of}
use Rattle.pcm_base.specs.model.Stream.{Stream}
use Rattle.pcm_stream.specs.Members.{members_of, numbers_of}
use Rattle.room_lock.proofs.MemberLemmas.{distinct_of, stands_at}
use Rattle.room_lock.proofs.members.taken_at.Goals as goal

pub returns : goal.returns
returns c = λ k xs is h.
    let ms = members_of c.args.members.now in
    let st = stands_at ms xs c.args.place c.at.result.now k (distinct_of (numbers_of ms) c.requires.apart) h c.at.ensures is in
    c.taken.ensures ∙ c.card.ensures.taken st.one.stream st.stands.stream ∙ ap (λ (s : Stream). bytes_of s.card.taken) st.stream
