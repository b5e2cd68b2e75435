use Rattle.std.proofs.Common.{◌≡◌, ◌+◌, ℕ, suc, List, [], drop, sym, ap, ◌∙◌, arith}
use Rattle.pcm_base.specs.declared.ids.SubId.{SubId}
use Rattle.pcm_base.specs.model.Replay.{is_member}
use Rattle.pcm_stream.specs.Members.{members_of, numbers_of}
use Rattle.pcm_group.proofs.PlaceLemmas.{drop_at, drop_last, is_member-at, member_not_here, number_at, numbers-length}
use Rattle.pcm_group.proofs.group.Group.holds.Goals as goal

pub returns-then-at-sub : goal.returns-then-at-sub
returns-then-at-sub g c =
    let ms = members_of c.args.self.now.members in
    sym (is_member-at (numbers_of ms) c.loop-i.i c.args.sub (number_at ms c.loop-i.i c.at.result.now c.args.sub c.at.ensures c.if-at-sub.true))

pub loop-i-preserved : goal.loop-i-preserved
loop-i-preserved g c =
    let ms = members_of c.args.self.now.members in
    let ks = numbers_of ms in
    let m = c.at.result.now in
    let next : c.loop-i.i + 1 ≡ suc c.loop-i.i = omega arith in
    ap (λ (n : ℕ). is_member c.args.sub (drop n ks)) next
    ∙ sym (member_not_here c.args.sub m.sub (drop (suc c.loop-i.i) ks) c.if-at-sub.false)
    ∙ ap (λ (l : List SubId). is_member c.args.sub l) (sym (drop_at ms c.loop-i.i m c.at.ensures)) ∙ c.loop-i.invariant

pub returns : goal.returns
returns g c =
    let ms = members_of c.args.self.now.members in
    let ks = numbers_of ms in
    let last : drop c.loop-i.i ks ≡ [] = drop_last ks c.loop-i.i (omega (arith, c.len-i-end.ensures.value, c.loop-i-test.false, numbers-length ms)) in
    sym (ap (λ (l : List SubId). is_member c.args.sub l) last) ∙ c.loop-i.invariant
