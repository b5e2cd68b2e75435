use Rattle.std.proofs.Common.{◌≡◌, ◌≤◌, ◌<◌, ◌+◌, ℕ, List, length, slice_get, get_or, Some, sym, ap, ◌∙◌, subst, arith}
use Rattle.pcm_base.specs.declared.ids.SubId.{SubId}
use Rattle.pcm_base.specs.declared.state.State.{State}
use Rattle.room_parts.specs.Recs.{RecView, sub_of}
use Rattle.room_lock.specs.Joined.{Gains}
use Rattle.room_lock.specs.Joints.{shared_at}
use Rattle.room_lock.specs.Shared.{SharedTo, Untouched, shared_by}
use Rattle.room_lock.proofs.RecLemmas.{found, no_rec}
use Rattle.card_emul.specs.declared.any_card.AnyCard.{AnyCard}
use Rattle.card_emul.specs.contracts.any_card.AnyCardCard.TheImpl.{ghosts}
use Rattle.pcm_stream.specs.declared.members.Member.{Member}
use Rattle.pcm_stream.specs.Members.{members_of, numbers_of}
use Rattle.room_lock.proofs.Records.{all_voted, get_map, length_map}
use Rattle.room_lock.proofs.SharedLemmas.{shared_on, shared_own, untouched_on, untouched_own}
use Rattle.room_lock.proofs.recs.share_all.Goals as goal
use Rattle.room_lock.proofs.recs.share_all.Goals.{then-i-own, else-i-own}

pub page_at-page-requires-clause-place : goal.page_at-page-requires-clause-place
page_at-page-requires-clause-place g c =
    let size = c.loop-i.invariant.untouched.size in
    let many = ap length c.requires.members in
    let subs_ = length_map sub_of c.args.recs.now.items in
    let numbers = length_map (λ (m : Member AnyCard ghosts). m.sub) (members_of c.args.members.now) in
    omega (arith, size, many, subs_, numbers, c.len-i-end.ensures, c.loop-i-test.true)

pub share-requires-clause-room : goal.share-requires-clause-room
share-requires-clause-room g c = λ a at.
    let u = c.loop-i.invariant.untouched in
    let le : c.loop-i.i ≤ c.loop-i.i = omega arith in
    c.requires.room c.loop-i.i a c.if-i-own.true (sym (u.after c.loop-i.i le) ∙ at)

pub share-requires-clause-own_entry : goal.share-requires-clause-own_entry
share-requires-clause-own_entry g c = λ a at. c.requires.own_entry a (sym c.loop-i.invariant.untouched.own_same ∙ at)

pub loop-i-preserved : goal.loop-i-preserved
loop-i-preserved g c =
    elim c.if-i-own.branch [
      | then-i-own w ↦ (
          let old = c.args.recs.now.items in
          let cur = c.loop-i.recs.items in
          let i = c.loop-i.i in
          let u = c.loop-i.invariant.untouched in
          let size = u.size in
          let here : i < length old = omega (arith, c.len-i-end.ensures, c.loop-i-test.true) in
          let lt : i < length cur = omega (arith, size, here) in
          let le : i ≤ i = omega arith in
          let r = get_or cur i no_rec in
          let at = found cur i lt in
          let before = sym (u.after i le) ∙ at in
          let is : slice_get (numbers_of (members_of c.args.members.now)) i ≡ Some (sub_of r) = ap (λ (l : List SubId). slice_get l i) (sym c.requires.members) ∙ get_map sub_of old i r before in
          let got = w.share.ensures.gains r at in
          let now = ap (λ v. v.items) w.recs-is in
          record {
            shared = λ xs st.
                let page = w.page_at-page.ensures.shows (sub_of r) xs is st in
                let state_is = page.state in
                let hw_is = page.hw in
                shared_on i c.args.own (shared_by xs c.args.number c.args.serial c.args.acts.now c.args.sub c.args.place) old cur c.if-i-own.recs.items r (c.loop-i.invariant.shared xs st) u here before
                (subst (λ (l : List RecView). Gains cur l i (shared_by xs c.args.number c.args.serial c.args.acts.now c.args.sub c.args.place i r)) (sym now)
                (subst (λ (z : State × ℕ). Gains cur w.share.new.recs.items i (shared_at i c.args.number c.args.serial c.args.acts.now z.0 z.1 c.args.sub c.args.place)) (λ j. (state_is j, hw_is j)) w.share.ensures.gains));
            untouched = untouched_on i c.args.own old cur c.if-i-own.recs.items got.0 u w.if-i-own.true (now ∙ got.1);
          })
      | else-i-own w ↦ (
          let old = c.args.recs.now.items in
          let cur = c.loop-i.recs.items in
          let now = ap (λ v. v.items) w.recs-is in
          record {
            shared = λ xs st.
                subst (λ (l : List RecView). SharedTo (c.loop-i.i + 1) c.args.own (shared_by xs c.args.number c.args.serial c.args.acts.now c.args.sub c.args.place) old l) (sym now)
                (shared_own c.loop-i.i c.args.own (shared_by xs c.args.number c.args.serial c.args.acts.now c.args.sub c.args.place) old cur (c.loop-i.invariant.shared xs st) w.if-i-own.false);
            untouched = subst (Untouched (c.loop-i.i + 1) c.args.own old) (sym now) (untouched_own c.loop-i.i c.args.own old cur c.loop-i.invariant.untouched);
          })
    ]

pub share-requires-clause-voted : goal.share-requires-clause-voted
share-requires-clause-voted g c = all_voted (length c.args.recs.now.items) c.args.acts.now c.loop-i.i c.requires.voted (omega (arith, c.len-i-end.ensures, c.loop-i-test.true))
