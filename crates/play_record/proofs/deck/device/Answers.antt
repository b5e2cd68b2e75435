use Rattle.std.proofs.Common.{◌≡◌, List, [], ◌∷◌, ◌++◌, Bool, true, ◌&&◌, refl, ap, sym, subst, ◌∙◌, rules}
use Rattle.pcm_base.specs.model.Stream.{Member as ModelMember}
use Rattle.pcm_stream.specs.MembersStand.{AllStandFor}
use Rattle.pcm_stream.specs.Members.{members_of}
use Rattle.group_trigger.specs.Votes.{all_tell}
use Rattle.pcm_group.specs.Stepped.{all_true}
use Rattle.play_record.specs.Stages.{lone, opened_with}
use Rattle.play_record.proofs.deck.device.Goals as goal

pub returns : goal.returns
returns c =
    let x : ModelMember = lone c.open_member.result.sub (opened_with c.args.dir []) in
    let are : members_of c.add.new.self ≡ c.open_member.result ∷ [] = c.add.ensures ∙ ap (λ ms. ms ++ c.open_member.result ∷ []) c.in_ok-members.ensures in
    record {
      member = x;
      stands = c.of-group.ensures.stands (x ∷ []) (subst (λ ms. AllStandFor ms (x ∷ [])) (sym are) (c.open_member.ensures.stands, tt));
      is_open = record { state = refl; dir = refl; model = refl; long_max = refl; plan = refl; calls = refl };
      tells = ap all_true (c.of-group.ensures.tells) ∙ (ap (λ ms. all_true (all_tell ms)) are ∙ ap (λ b. b && true) c.open_member.ensures.tells);
    }
