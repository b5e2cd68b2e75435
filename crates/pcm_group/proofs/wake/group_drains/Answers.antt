use Rattle.std.proofs.Common.{◌≡◌, ◌+◌, ◌≤◌, ℕ, suc, length, sym, ◌∙◌, ap, arith}
use Rattle.pcm_stream.specs.Members.{members_of}
use Rattle.pcm_group.proofs.WakeLemmas.{drains_all, drains_first, drains_next, drains_there}
use Rattle.pcm_group.proofs.wake.group_drains.Goals as goal

pub returns-then-drains : goal.returns-then-drains
returns-then-drains g c = λ xs h. sym (drains_there (members_of c.args.members.now) c.loop-i.i c.at.result.now xs h c.at.ensures (λ s k. sym (c.drains.ensures s k) ∙ c.if-drains.true))

pub loop-i-preserved : goal.loop-i-preserved
loop-i-preserved g c = λ xs h.
    let next : c.loop-i.i + 1 ≡ suc c.loop-i.i = omega arith in
    ap (λ (n : ℕ). drains_first n xs) next
    ∙ drains_next (members_of c.args.members.now) c.loop-i.i c.at.result.now xs h c.at.ensures (λ s k. sym (c.drains.ensures s k) ∙ c.if-drains.false) (c.loop-i.invariant xs h)

pub returns : goal.returns
returns g c = λ xs h.
    let size : length (members_of c.args.members.now) ≤ c.loop-i.i = omega (arith, c.len-i-end.ensures.value, c.loop-i-test.false) in
    sym (drains_all (members_of c.args.members.now) c.loop-i.i xs h size (c.loop-i.invariant xs h))
