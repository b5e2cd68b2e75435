use Rattle.std.proofs.Common.{◌≡◌, ℕ, Bool, List, length, replicate, refl, sym, ◌∙◌, ap, subst}
use Rattle.pcm_base.specs.declared.act.Act.{Act}
use Rattle.pcm_base.specs.declared.act.Outcome.{Outcome}
use Rattle.pcm_base.specs.declared.act.Outcome.TheVariants as outcome
use Rattle.pcm_base.specs.declared.act.Vote.{Vote}
use Rattle.pcm_base.specs.declared.act.Vote.TheVariants as vote
use Rattle.pcm_base.specs.declared.ids.SubId.{SubId}
use Rattle.pcm_base.specs.declared.votes.Acted.{Acted}
use Rattle.pcm_base.specs.model.Acts.{after_all, members_after}
use Rattle.pcm_base.specs.model.Stream.{Member as ModelMember}
use Rattle.pcm_stream.specs.Members.{all_faults, all_fixed, members_of}
use Rattle.pcm_stream.specs.MembersStand.{AllStandFor}
use Rattle.group_trigger.specs.Phases.{undone_to}
use Rattle.group_trigger.specs.Votes.{FaultsBy, all_tell, votes_at}
use Rattle.group_trigger.proofs.ListLemmas.{faults_length, fixed_at, fixed_length, present}
use Rattle.group_trigger.proofs.PhaseLemmas.{AllStandFor-failed, AllStandFor-made, after_refused, undone_to-above, undone_to-up}
use Rattle.group_trigger.proofs.VoteLemmas.{IsActed-refused, IsActed-tried, acted_told, allowed_by, failed_by, failed_faults, made_by, refused_by, refused_faults, yes_faults}
use Rattle.group_trigger.proofs.action.act.Goals as goal

-- the members after an act that is known by its parts
after-by : (d : Acted) (a : Act) (o : Outcome) (vs : List Vote) (ms : List ModelMember) → d.act ≡ a → d.outcome ≡ o → d.votes ≡ vs → members_after d ms ≡ after_all a o vs ms
after-by d a o vs ms act outcome votes =
    ap (λ (x : Act). after_all x d.outcome d.votes ms) act ∙ ap (λ (x : Outcome). after_all a x d.votes ms) outcome ∙ ap (λ (x : List Vote). after_all a o x ms) votes

pub returns-in-Some-clause-acted : goal.returns-in-Some-clause-acted
returns-in-Some-clause-acted g c ms h =
    let first = members_of c.args.members.now in
    let p = present first c.in-Some.place c.in-Some.ensures.place in
    IsActed-refused (all_tell first) c.args.act (length first) c.in-Some.place c.in-Some.errno p.0.sub ms c.refused.result c.refused.ensures.act c.refused.ensures.votes (c.refused.ensures.outcome p.0 p.1)
    (refused_by c.args.act c.in-Some.place c.in-Some.errno p.0 first ms h c.in-Some.ensures.before p.1 c.in-Some.ensures.refuses)

pub returns-in-Some-clause-stands : goal.returns-in-Some-clause-stands
returns-in-Some-clause-stands g c ms h =
    let first = members_of c.args.members.now in
    let p = present first c.in-Some.place c.in-Some.ensures.place in
    let d = c.refused.result in
    let same : members_after d ms ≡ ms = ap (λ (o : Outcome). after_all d.act o d.votes ms) (c.refused.ensures.outcome p.0 p.1) ∙ after_refused d.act p.0.sub c.in-Some.errno d.votes ms in
    subst (λ (l : List ModelMember). AllStandFor first l) (sym same) h

pub returns-in-Some-clause-cause : goal.returns-in-Some-clause-cause
returns-in-Some-clause-cause g c =
    let first = members_of c.args.members.now in
    subst (λ (vs : List Vote). FaultsBy vs (all_faults first) (all_faults first)) (sym c.refused.ensures.votes)
    (refused_faults (length first) c.in-Some.place c.in-Some.errno (all_faults first) (faults_length first) c.in-Some.ensures.place)

pub returns-in-Some-do_all-clause-acted : goal.returns-in-Some-do_all-clause-acted
returns-in-Some-do_all-clause-acted g c ms h =
    let first = members_of c.args.members.now in
    let last = members_of c.undo_before.new.members in
    let k = c.in-Some-do_all.place in
    let kept : all_fixed last ≡ all_fixed first = c.undo_before.ensures.fixed ∙ c.do_all.ensures.fixed in
    let p = present first k c.in-Some-do_all.ensures.place in
    let q = fixed_at first last k p.0 kept p.1 in
    IsActed-tried (all_tell first) c.args.act (votes_at (length first) k vote.Fail) (outcome.Failed p.0.sub) ms c.failed.result
    c.failed.ensures.act
    (c.failed.ensures.votes ∙ ap (λ (n : ℕ). votes_at n k vote.Fail) (fixed_length first last kept))
    (c.failed.ensures.outcome q.0 q.1 ∙ ap (λ (s : SubId). outcome.Failed s) q.2)
    (allowed_by c.args.act first ms h c.in_default.ensures.none)
    (failed_by c.args.act k p.0 first ms h c.in-Some-do_all.ensures.before p.1 c.in-Some-do_all.ensures.fails)

pub returns-in-Some-do_all-clause-stands : goal.returns-in-Some-do_all-clause-stands
returns-in-Some-do_all-clause-stands g c ms h =
    let first = members_of c.args.members.now in
    let last = members_of c.undo_before.new.members in
    let k = c.in-Some-do_all.place in
    let kept : all_fixed last ≡ all_fixed first = c.undo_before.ensures.fixed ∙ c.do_all.ensures.fixed in
    let p = present first k c.in-Some-do_all.ensures.place in
    let q = fixed_at first last k p.0 kept p.1 in
    let d = c.failed.result in
    subst (λ (l : List ModelMember). AllStandFor last l)
    (sym (after-by d c.args.act (outcome.Failed q.0.sub) (votes_at (length last) k vote.Fail) ms c.failed.ensures.act (c.failed.ensures.outcome q.0 q.1) c.failed.ensures.votes))
    (AllStandFor-failed c.args.act q.0.sub k _ (undone_to k k) last ms (λ j le. undone_to-up k j le) (λ j lt. undone_to-above k j lt)
    (c.undo_before.ensures.undone ms (c.in-Some-do_all.ensures.failed ms h)))

pub returns-in-Some-do_all-clause-cause : goal.returns-in-Some-do_all-clause-cause
returns-in-Some-do_all-clause-cause g c =
    let first = members_of c.args.members.now in
    let last = members_of c.undo_before.new.members in
    let k = c.in-Some-do_all.place in
    let kept : all_fixed last ≡ all_fixed first = c.undo_before.ensures.fixed ∙ c.do_all.ensures.fixed in
    subst (λ (ns : List ℕ). FaultsBy c.failed.result.votes (all_faults first) ns) (sym c.undo_before.ensures.faults)
    (subst (λ (vs : List Vote). FaultsBy vs (all_faults first) (all_faults (members_of c.do_all.new.members)))
    (sym (c.failed.ensures.votes ∙ ap (λ (n : ℕ). votes_at n k vote.Fail) (fixed_length first last kept)))
    (failed_faults (length first) k (all_faults first) (all_faults (members_of c.do_all.new.members)) (faults_length first) c.in-Some-do_all.ensures.place c.in-Some-do_all.ensures.rose))

pub returns-clause-acted : goal.returns-clause-acted
returns-clause-acted g c ms h =
    let first = members_of c.args.members.now in
    let last = members_of c.post_all.new.members in
    let kept : all_fixed last ≡ all_fixed first = c.post_all.ensures.fixed ∙ c.do_all.ensures.fixed in
    IsActed-tried (all_tell first) c.args.act (replicate (length first) vote.Yes) outcome.Done ms c.done.result
    c.done.ensures.act
    (c.done.ensures.votes ∙ ap (λ (n : ℕ). replicate n vote.Yes) (fixed_length first last kept))
    c.done.ensures.outcome
    (allowed_by c.args.act first ms h c.in_default.ensures.none)
    (made_by c.args.act first ms h c.in_default-do_all.ensures.makes)

pub returns-clause-stands : goal.returns-clause-stands
returns-clause-stands g c ms h =
    let last = members_of c.post_all.new.members in
    subst (λ (l : List ModelMember). AllStandFor last l)
    (sym (after-by c.done.result c.args.act outcome.Done (replicate (length last) vote.Yes) ms c.done.ensures.act c.done.ensures.outcome c.done.ensures.votes))
    (AllStandFor-made c.args.act last ms (c.post_all.ensures.made ms (c.in_default-do_all.ensures.done ms h)))

pub returns-clause-cause : goal.returns-clause-cause
returns-clause-cause g c =
    let first = members_of c.args.members.now in
    let last = members_of c.post_all.new.members in
    let kept : all_fixed last ≡ all_fixed first = c.post_all.ensures.fixed ∙ c.do_all.ensures.fixed in
    subst (λ (ns : List ℕ). FaultsBy c.done.result.votes (all_faults first) ns) (sym (c.post_all.ensures.faults ∙ c.in_default-do_all.ensures.faults))
    (subst (λ (vs : List Vote). FaultsBy vs (all_faults first) (all_faults first)) (sym (c.done.ensures.votes ∙ ap (λ (n : ℕ). replicate n vote.Yes) (fixed_length first last kept)))
    (yes_faults (length first) (all_faults first) (faults_length first)))

pub returns-in-Some-clause-told : goal.returns-in-Some-clause-told
returns-in-Some-clause-told g c ms h t = acted_told (all_tell (members_of c.args.members.now)) c.args.act ms c.refused.result t (returns-in-Some-clause-acted g c ms h)

pub returns-in-Some-do_all-clause-told : goal.returns-in-Some-do_all-clause-told
returns-in-Some-do_all-clause-told g c ms h t = acted_told (all_tell (members_of c.args.members.now)) c.args.act ms c.failed.result t (returns-in-Some-do_all-clause-acted g c ms h)

pub returns-clause-told : goal.returns-clause-told
returns-clause-told g c ms h t = acted_told (all_tell (members_of c.args.members.now)) c.args.act ms c.done.result t (returns-clause-acted g c ms h)
