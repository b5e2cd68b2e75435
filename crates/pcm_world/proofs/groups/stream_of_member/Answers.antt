use Rattle.std.proofs.Common.{◌≡◌, ℕ, suc, ◌+◌, sym, ◌∙◌, ap, arith}
use Rattle.pcm_stream.specs.Members.{members_of, numbers_of}
use Rattle.pcm_world.proofs.GroupLemmas.{free_all, free_first, free_next, found_at}
use Rattle.pcm_world.proofs.groups.stream_of_member.Goals as goal

pub returns-then-at-sub : goal.returns-then-at-sub
returns-then-at-sub c = λ xs h.
    let ms = members_of c.args.members.now in
    let same : c.at.result.now ≡ c.at-then-at-sub.result.now = (let e : c.at.result.now ≡ c.at-then-at-sub.result.now = cc in e) in
    let r = found_at ms xs c.loop-i.i c.args.sub c.at-then-at-sub.result.now h c.at-then-at-sub.ensures (ap (λ q. q.sub.0) (sym same) ∙ c.if-at-sub.true) c.loop-i.invariant in
    (r.held, r.stands)

pub loop-i-preserved : goal.loop-i-preserved
loop-i-preserved c =
    let ms = members_of c.args.members.now in
    let next : c.loop-i.i + 1 ≡ suc c.loop-i.i = omega arith in
    ap (λ (n : ℕ). free_first n c.args.sub (numbers_of ms)) next ∙ free_next ms c.loop-i.i c.args.sub c.at.result.now c.at.ensures c.if-at-sub.false c.loop-i.invariant

pub returns : goal.returns
returns c = λ xs h.
    let ms = members_of c.args.members.now in
    free_all ms xs c.loop-i.i c.args.sub h (omega (arith, c.len-i-end.ensures.value, c.loop-i-test.false)) c.loop-i.invariant
