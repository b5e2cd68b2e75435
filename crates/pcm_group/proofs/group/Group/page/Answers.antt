use Rattle.pcm_base.specs.model.Group.{stream_of}
use Rattle.pcm_stream.specs.Members.{members_of}
use Rattle.group_trigger.specs.Votes.{all_tell}
use Rattle.pcm_group.proofs.EndedLemmas.{stands-there}
use Rattle.pcm_group.proofs.PlaceLemmas.{IsAt-of}
use Rattle.pcm_group.proofs.group.Group.page.Goals as goal

pub returns : goal.returns
returns g c = λ xs h.
    let ms = members_of c.args.self.now.members in
    c.page.ensures.page (stream_of c.args.sub xs)
    (stands-there ms c.place_of.result c.at.result.now c.args.sub (all_tell ms) xs (IsAt-of ms c.place_of.result c.args.sub xs c.args.self.now.distinct c.place_of.ensures.number h) c.at.ensures)
