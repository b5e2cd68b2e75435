use Rattle.std.proofs.Common.{List, ap, ◌∙◌}
use Rattle.pcm_base.specs.model.Events.{waiting_of}
use Rattle.pcm_base.specs.model.Stream.{Stream, Waiting}
use Rattle.pcm_stream.specs.Members.{members_of, numbers_of}
use Rattle.room_lock.proofs.MemberLemmas.{distinct_of, stands_at}
use Rattle.room_lock.proofs.members.task_at.Goals as goal

pub returns : goal.returns
returns c = λ k xs is h.
    let ms = members_of c.args.members.now in
    let st = stands_at ms xs c.args.place c.at.result.now k (distinct_of (numbers_of ms) c.requires.apart) h c.at.ensures is in
    c.task.ensures ∙ ap (λ (l : List Waiting). waiting_of c.args.client l) st.stands.member.calls ∙ ap (λ (s : Stream). waiting_of c.args.client s.sleepers) st.stream
