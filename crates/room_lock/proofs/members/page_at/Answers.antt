use Rattle.std.proofs.Common.{subst}
use Rattle.pcm_stream.specs.Members.{members_of, numbers_of}
use Rattle.room_lock.specs.InGroup.{IsPageIn}
use Rattle.room_lock.proofs.MemberLemmas.{distinct_of, page_in, stands_at}
use Rattle.room_lock.proofs.members.page_at.Goals as goal

pub returns-clause-shows : goal.returns-clause-shows
returns-clause-shows c = λ k xs is h.
    let ms = members_of c.args.members.now in
    let st = stands_at ms xs c.args.place c.at.result.now k (distinct_of (numbers_of ms) c.requires.apart) h c.at.ensures is in
    subst (IsPageIn c.page.result) st.stream (page_in c.page.result st.one.stream st.stands.stream.sound (c.page.ensures.page st.one.stream st.stands.stream))
