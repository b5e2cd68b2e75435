use Rattle.std.proofs.Common.{◌≡◌, Option, IfSome, sym, ap, ◌∙◌, subst}
use Rattle.pcm_stream.specs.declared.members.Member.{Member}
use Rattle.pcm_stream.specs.Members.{members_of, numbers_of}
use Rattle.pcm_stream.specs.StandsFor.{shape_in}
use Rattle.pcm_base.specs.Shape.{IsSoundShape}
use Rattle.pcm_base.specs.declared.config.Shape.{Shape}
use Rattle.pcm_base.specs.model.Group.{stream_of}
use Rattle.group_trigger.specs.Votes.{all_tell}
use Rattle.pcm_group.proofs.EndedLemmas.{stands-there}
use Rattle.pcm_group.proofs.PlaceLemmas.{IsAt-of, distinct_of, number_at, one_member, one_place}
use Rattle.pcm_group.proofs.group.Group.shape.Goals as goal

pub returns-clause-value : goal.returns-clause-value
returns-clause-value g c = λ i m at is.
    let ms = members_of c.args.self.now.members in
    let ks = numbers_of ms in
    let place : i ≡ c.place_of.result = one_place ks i c.place_of.result c.args.sub (distinct_of ks c.args.self.now.distinct) (number_at ms i m c.args.sub at (ap (λ k. k.0) is)) c.place_of.ensures.number in
    c.shape.ensures.value ∙ ap (λ (x : Member g.row.C.Denot g.C.Card). shape_in x.stream) (one_member ms i c.place_of.result m c.at.result.now place at c.at.ensures)

pub returns-clause-sound : goal.returns-clause-sound
returns-clause-sound g c = subst (λ (o : Option Shape). IfSome o IsSoundShape) (sym c.shape.ensures.value) c.shape.ensures.sound

pub returns-clause-model : goal.returns-clause-model
returns-clause-model g c = λ xs h.
    let ms = members_of c.args.self.now.members in
    c.shape.ensures.value
    ∙ c.shape.ensures.exact (stream_of c.args.sub xs)
    (stands-there ms c.place_of.result c.at.result.now c.args.sub (all_tell ms) xs (IsAt-of ms c.place_of.result c.args.sub xs c.args.self.now.distinct c.place_of.ensures.number h) c.at.ensures)
