use Rattle.std.proofs.Common.{◌≡◌, ◌+◌, ◌≤◌, ℕ, suc, Bool, true, List, length, length-set, set, bit_or, sym, ◌∙◌, ap, subst, arith}
use Rattle.pcm_base.specs.declared.ids.ClientId.{ClientId}
use Rattle.pcm_base.specs.model.Sleep.{group_drains, mask_of, wake_members, woken_in}
use Rattle.pcm_base.specs.model.Stream.{Member as ModelMember}
use Rattle.pcm_stream.specs.declared.members.Member.{Member}
use Rattle.pcm_stream.specs.declared.substream.Substream.{Substream}
use Rattle.pcm_stream.specs.StandsFor.{faults_of, tells_plan}
use Rattle.pcm_stream.specs.Members.{members_of}
use Rattle.pcm_stream.specs.MembersStand.{AllStandFor}
use Rattle.pcm_group.specs.Waiting.{checked_first, members_wait, woken_first}
use Rattle.pcm_group.proofs.WakeLemmas.{all_waits, check_next, checked_all, streams_kept, streams_of, waits_next, woken_all, woken_next}
use Rattle.pcm_group.proofs.FaultLemmas.{map-at}
use Rattle.pcm_group.proofs.wake.wake_all.Goals as goal

pub loop-i-preserved : goal.loop-i-preserved
loop-i-preserved g c =
    let i = c.loop-i.i in
    let b = c.group_drains-group_drains.result in
    let cur = members_of c.loop-i.members in
    let m = c.at_mut.result.now in
    let n = c.wake_member-woken.new.member in
    let next : i + 1 ≡ suc i = omega arith in
    record {
      size = length-set cur i n ∙ c.loop-i.invariant.size;
      stands = λ xs h. subst (λ (k : ℕ). AllStandFor (set cur i n) (checked_first k b xs)) (sym next) (check_next b cur i m n xs c.at_mut.ensures.value c.wake_member-woken.ensures.stands (c.loop-i.invariant.stands xs h));
      mask = λ xs h. ap (λ (k : ℕ). bit_or k c.wake_member-woken.result) (c.loop-i.invariant.mask xs h)
          ∙ woken_next b cur i m c.wake_member-woken.result xs c.at_mut.ensures.value c.wake_member-woken.ensures.mask (c.loop-i.invariant.stands xs h)
          ∙ ap (λ (k : ℕ). mask_of (woken_first k b xs)) (sym next);
      waiting = λ j k lt at x h. waits_next b cur i j m n k c.at_mut.ensures.value c.wake_member-woken.ensures.waiting c.loop-i.invariant.waiting lt at x h;
      streams = λ xs h. c.loop-i.invariant.streams xs (streams_kept cur i m n xs c.at_mut.ensures.value c.wake_member-woken.ensures.stream h);
      numbers = map-at (λ (y : Member g.row.C.Denot g.C.Card). y.sub) cur i m n c.at_mut.ensures.value c.wake_member-woken.ensures.sub ∙ c.loop-i.invariant.numbers;
      tells = map-at (λ (y : Member g.row.C.Denot g.C.Card). tells_plan y.stream) cur i m n c.at_mut.ensures.value (ap (λ (t : Substream g.row.C.Denot g.C.Card). tells_plan t) c.wake_member-woken.ensures.stream) ∙ c.loop-i.invariant.tells;
      faults = map-at (λ (y : Member g.row.C.Denot g.C.Card). faults_of y.stream) cur i m n c.at_mut.ensures.value (ap (λ (t : Substream g.row.C.Denot g.C.Card). faults_of t) c.wake_member-woken.ensures.stream) ∙ c.loop-i.invariant.faults;
    }

pub returns : goal.returns
returns g c =
    let b = c.group_drains-group_drains.result in
    let old = members_of c.args.members.now in
    let cur = members_of c.loop-i.members in
    let size : length old ≤ c.loop-i.i = omega (arith, c.len-i-end.ensures.value, c.loop-i-test.false) in
    let now : length cur ≤ c.loop-i.i = omega (arith, c.loop-i.invariant.size, size) in
    record {
      stands = λ xs h.
          let e : b ≡ group_drains xs = c.group_drains-group_drains.ensures xs (streams_of old xs h) in
          subst (λ (l : List ModelMember). AllStandFor cur l) (checked_all b old c.loop-i.i xs h size ∙ ap (λ (d : Bool). wake_members d xs) e) (c.loop-i.invariant.stands xs h);
      mask = λ xs h.
          let e : b ≡ group_drains xs = c.group_drains-group_drains.ensures xs (streams_of old xs h) in
          c.loop-i.invariant.mask xs h ∙ ap (λ (l : List ClientId). mask_of l) (woken_all b old c.loop-i.i xs h size ∙ ap (λ (d : Bool). woken_in d xs) e);
      waiting = λ xs h.
          let e : b ≡ group_drains xs = c.group_drains-group_drains.ensures xs (c.loop-i.invariant.streams xs (streams_of cur xs h)) in
          subst (λ (d : Bool). members_wait d xs ≡ true) e (all_waits b cur xs h (λ j m lt at x k. c.loop-i.invariant.waiting j m (omega (arith, lt, now)) at x k));
      numbers = c.loop-i.invariant.numbers;
      tells = c.loop-i.invariant.tells;
      faults = c.loop-i.invariant.faults;
    }
