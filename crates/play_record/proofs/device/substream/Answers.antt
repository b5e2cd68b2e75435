use Rattle.std.proofs.Common.{◌≡◌, [], ◌∷◌, ap, ◌∙◌, subst, slice_get}
use Rattle.std.specs.declared.option.Option.TheVariants.{Some}
use Rattle.pcm_stream.specs.Members.{numbers_of}
use Rattle.pcm_group.specs.Inside.{members_in}
use Rattle.play_record.proofs.At.{only-member}
use Rattle.play_record.proofs.device.substream.Goals as goal

pub returns : goal.returns
returns g c =
    let first = subst (λ ms. slice_get ms 0 ≡ Some c.at.result.now) c.members.ensures.members c.at.ensures in
    ap numbers_of (only-member (members_in c.args.group.now) c.requires.0 c.at.result.now c.requires.1 first)
