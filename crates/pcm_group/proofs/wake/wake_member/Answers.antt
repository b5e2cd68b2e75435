use Rattle.std.proofs.Common.{◌≡◌, ℕ, true, false, List, Option, Some, None, refl, sym, ◌∙◌, ap, subst}
use Rattle.std.specs.List.{AllByRecursion}
use Rattle.std.proofs.lemmas.List.Elements.{recursion_from_All}
use Rattle.pcm_base.specs.declared.config.Config.{Config}
use Rattle.pcm_base.specs.declared.reply.Page.{Page}
use Rattle.pcm_base.specs.declared.sleeper.Sleeper.{Sleeper}
use Rattle.pcm_base.specs.declared.state.State.{State}
use Rattle.pcm_base.specs.model.Sleep.{is_among, mask_of, sleepers_that}
use Rattle.pcm_base.specs.model.Stream.{Waiting, Member as ModelMember, avail}
use Rattle.sleepers.specs.Marks.{IsModelCheck, waiting}
use Rattle.sleepers.specs.Wake.{may_wait_on}
use Rattle.pcm_stream.specs.MembersStand.{CallsFit, MemberStandsFor}
use Rattle.pcm_stream.specs.StandsFor.{StandsFor}
use Rattle.pcm_group.specs.Waiting.{calls_wait}
use Rattle.pcm_group.proofs.WakeLemmas.{IsMember-checked, avail-page, empty_check, none_waits, state-page, waits_all}
use Rattle.pcm_group.proofs.wake.wake_member.Given.{Over}
use Rattle.pcm_group.proofs.wake.wake_member.Goals as goal

-- the check is the model's
checked : (g : Over) (c : goal.After-wake_check g) (x : ModelMember) → MemberStandsFor c.args.member.now x → (o : Option Config) → x.stream.setup.config ≡ o
    → IsModelCheck c.args.group_drains x.stream x.asleep c.args.member.now.sleepers c.wake_check.new.self c.wake_check.result
checked g c x h (Some k) is =
    c.wake_check.ensures.model x.stream x.asleep
    (sym (ap (λ (p : Page). p.state) (c.page-page.ensures.page x.stream h.stream) ∙ state-page x.stream))
    (sym (ap (λ (p : Page). p.avail) (c.page-page.ensures.page x.stream h.stream) ∙ avail-page k x.stream is))
    h.member.marks
checked g c x h None is =
    empty_check c.args.group_drains x.stream x.asleep c.args.member.now.sleepers c.wake_check.new.self c.wake_check.result c.page-page.result.state c.page-page.result.avail
    (h.member.calls ∙ none_waits x.stream x.stream.sleepers is h.member.fit) c.wake_check.ensures.after c.wake_check.ensures.mask

pub returns-clause-stands : goal.returns-clause-stands
returns-clause-stands g c = λ x h. record {
  member = IsMember-checked c.args.group_drains x c.args.member.now.sub c.args.member.now.sleepers c.wake_check.new.self c.wake_check.result h.member c.wake_check.ensures.apart (checked g c x h x.stream.setup.config refl);
  stream = h.stream;
}

pub returns-clause-mask : goal.returns-clause-mask
returns-clause-mask g c = λ x h.
    (checked g c x h x.stream.setup.config refl).mask_is ∙ ap (λ (ps : List Waiting). mask_of (sleepers_that false c.args.group_drains x.stream x.asleep ps)) h.member.calls

waits_by : (g : Over) (c : goal.After-wake_check g) (x : ModelMember) → StandsFor c.args.member.now.stream x.stream → AllByRecursion (λ (y : Sleeper). is_among y.client x.asleep ≡ y.asleep) c.wake_check.new.self → waiting c.wake_check.new.self ≡ x.stream.sleepers
    → CallsFit x.stream x.stream.sleepers → (o : Option Config) → x.stream.setup.config ≡ o → calls_wait c.args.group_drains x.stream x.asleep x.stream.sleepers ≡ true
waits_by g c x stands marks calls fit None is = ap (λ (ps : List Waiting). calls_wait c.args.group_drains x.stream x.asleep ps) (none_waits x.stream x.stream.sleepers is fit)
waits_by g c x stands marks calls fit (Some k) is =
    let at_state : c.page-page.result.state ≡ x.stream.state = ap (λ (p : Page). p.state) (c.page-page.ensures.page x.stream stands) ∙ state-page x.stream in
    let at_avail : c.page-page.result.avail ≡ avail x.stream = ap (λ (p : Page). p.avail) (c.page-page.ensures.page x.stream stands) ∙ avail-page k x.stream is in
    let each = recursion_from_All _ c.wake_check.new.self c.wake_check.ensures.asleep in
    let moved = subst (λ (t : State). AllByRecursion (λ (y : Sleeper). y.asleep ≡ true → may_wait_on t c.page-page.result.avail c.args.group_drains y.task ≡ true) c.wake_check.new.self) at_state each in
    let moved' = subst (λ (a : ℕ). AllByRecursion (λ (y : Sleeper). y.asleep ≡ true → may_wait_on x.stream.state a c.args.group_drains y.task ≡ true) c.wake_check.new.self) at_avail moved in
    ap (λ (ps : List Waiting). calls_wait c.args.group_drains x.stream x.asleep ps) (sym calls) ∙ waits_all c.args.group_drains x.stream x.asleep c.wake_check.new.self marks moved'

pub returns-clause-waiting : goal.returns-clause-waiting
returns-clause-waiting g c = λ x h.
    waits_by g c x h.stream (recursion_from_All _ c.wake_check.new.self h.member.marks) h.member.calls h.member.fit x.stream.setup.config refl
