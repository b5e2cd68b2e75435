use Rattle.std.proofs.Common.{◌≡◌, ℕ, suc, ◌+◌, ◌≤◌, List, drop, length, refl, sym, ◌∙◌, ap, arith}
use Rattle.std.proofs.lemmas.Option.{slice_get_read}
use Rattle.pcm_base.specs.declared.ids.SubId.{SubId}
use Rattle.pcm_stream.specs.Members.{numbers_of}
use Rattle.pcm_group.specs.Inside.{members_in}
use Rattle.pcm_world.specs.Groups.{numbers_in, place_from}
use Rattle.pcm_world.proofs.GroupLemmas.{drop_all, drop_group, numbers-count, place_here, place_later}
use Rattle.pcm_world.proofs.groups.place_of.Goals as goal

pub returns-then-holds : goal.returns-then-holds
returns-then-holds c =
    let gs = c.args.groups.now in
    let at = slice_get_read gs (length gs) c.loop-i.i c.index-groups-i.result refl c.loop-i-test.true c.index-groups-i.is in
    sym (place_here c.loop-i.i c.args.sub (numbers_of (members_in c.index-groups-i.result)) (drop (suc c.loop-i.i) (numbers_in gs)) (sym c.holds.ensures ∙ c.if-holds.true))
    ∙ ap (λ (l : List (List SubId)). place_from c.loop-i.i c.args.sub l) (sym (drop_group gs c.loop-i.i c.index-groups-i.result at)) ∙ c.loop-i.invariant

pub loop-i-preserved : goal.loop-i-preserved
loop-i-preserved c =
    let gs = c.args.groups.now in
    let next : c.loop-i.i + 1 ≡ suc c.loop-i.i = omega arith in
    let at = slice_get_read gs (length gs) c.loop-i.i c.index-groups-i.result refl c.loop-i-test.true c.index-groups-i.is in
    ap (λ (n : ℕ). place_from (c.loop-i.i + 1) c.args.sub (drop n (numbers_in gs))) next
    ∙ sym (place_later c.loop-i.i c.args.sub (numbers_of (members_in c.index-groups-i.result)) (drop (suc c.loop-i.i) (numbers_in gs)) (sym c.holds.ensures ∙ c.if-holds.false))
    ∙ ap (λ (l : List (List SubId)). place_from c.loop-i.i c.args.sub l) (sym (drop_group gs c.loop-i.i c.index-groups-i.result at)) ∙ c.loop-i.invariant

pub returns : goal.returns
returns c =
    let gs = c.args.groups.now in
    let size : length (numbers_in gs) ≤ c.loop-i.i = omega (arith, c.loop-i-test.false, numbers-count gs) in
    ap (λ (l : List (List SubId)). place_from c.loop-i.i c.args.sub l) (sym (drop_all (numbers_in gs) c.loop-i.i size)) ∙ c.loop-i.invariant
