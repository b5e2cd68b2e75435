use Rattle.std.proofs.Common.{◌≡◌, inl, ◌≤◌, ◌<◌, ◌+◌, ℕ, ◌∷◌, [], List, length, length-set, drop, slice_get, get_or, Some, refl, sym, ap, ◌∙◌, subst, arith}
use Rattle.std.proofs.lemmas.Option.{slice_get_read}
use Rattle.pcm_base.specs.declared.state.State.{State}
use Rattle.floor_rule.specs.Causes.{Causes}
use Rattle.floor_rule.specs.Lists.{Stands}
use Rattle.floor_rule.specs.declared.entry.Entry.TheVariants.{Shared as SharedEntry}
use Rattle.floor_rule.specs.declared.entry.EntryMark.TheVariants.{Caused}
use Rattle.floor_rule.specs.declared.entry.Joint.{Joint}
use Rattle.floor_rule.specs.declared.rule.Lists.{Lists}
use Rattle.floor_rule.specs.declared.rule.Marked.{Marked}
use Rattle.room_parts.specs.Recs.{RecView}
use Rattle.room_lock.specs.Joined.{Gains, HasRoom}
use Rattle.room_lock.specs.Joints.{joint_at, joints_at, shared_at, state_after}
use Rattle.room_lock.proofs.RecLemmas.{found, gained_all, gained_none, gained_on, get_other, get_set, has_joint, no_rec, own_causes, room_left, shared_end, shared_next, some_one}
use Rattle.room_lock.proofs.recs.share.Goals as goal

pub loop-i-init : goal.loop-i-init
loop-i-init g c =
    let e : c.args.serial + 0 ≡ c.args.serial = omega arith in
    record {
      gained = λ r at. gained_none c.args.recs.now.items c.args.other r _ _ at (ap (λ (n : ℕ). shared_at c.args.other c.args.number n c.args.acts.now c.args.last c.args.hw c.args.sub c.args.place) e);
      size = refl;
    }

pub join-requires-clause-table : goal.join-requires-clause-table
join-requires-clause-table g c =
    let cur = c.loop-i.recs.items in
    let size = c.loop-i.invariant.size in
    let own : c.args.own < length cur = subst (λ (n : ℕ). c.args.own < n) (sym size) c.requires.places.0 in
    (c.requires.table, ap (λ n. n.table) (c.tell-news.ensures.note (get_or cur c.args.own no_rec) (found cur c.args.own own)))

pub join-requires-clause-room : goal.join-requires-clause-room
join-requires-clause-room g c = λ a at.
    let xs = c.args.recs.now.items in
    let r = get_or xs c.args.other no_rec in
    let here = found xs c.args.other c.requires.places.1 in
    let got = c.loop-i.invariant.gained r here in
    let is = some_one got.rec a (sym (ap (λ (l : List RecView). slice_get l c.args.other) (c.tell-news.ensures.same ∙ got.items) ∙ get_set xs c.args.other got.rec c.requires.places.1) ∙ at) in
    let few : c.loop-i.i < 3 = omega (arith, c.loop-i-test.true, c.requires.few) in
    subst (HasRoom 1) is (room_left r got.rec got.gained c.loop-i.i got.joined got.count few (c.requires.room r here))

pub join-requires-clause-cause : goal.join-requires-clause-cause
join-requires-clause-cause g c =
    let xs = c.args.recs.now.items in
    let got = c.loop-i.invariant.gained (get_or xs c.args.other no_rec) (found xs c.args.other c.requires.places.1) in
    let r = get_or xs c.args.own no_rec in
    let here = found xs c.args.own c.requires.places.0 in
    let now : slice_get c.loop-i.recs.items c.args.own ≡ Some r = ap (λ (l : List RecView). slice_get l c.args.own) got.items ∙ get_other xs c.args.other c.args.own got.rec c.requires.places.2 ∙ here in
    let note = c.tell-news.ensures.note r now in
    let own = c.requires.own_entry r here in
    let entry : Marked = own.1.0 in
    let i = c.loop-i.i in (
      entry,
      subst (λ (l : Lists). Stands l.logs c.args.sub.0 c.args.place entry) (sym (ap (λ n. n.lists) note)) (inl (own.0, own.1.1)),
      subst (λ (j : Joint). Causes entry.entry (SharedEntry j)) (sym c.joint-part.ensures)
          (own_causes entry.entry (joints_at c.args.own c.args.number c.args.serial c.args.acts.now) (joint_at c.args.other c.args.number (c.args.serial + i) c.index-acts-i.result) own.1.2
          (has_joint c.args.own c.args.other c.args.number c.args.serial c.args.acts.now i c.index-acts-i.result (slice_get_read c.args.acts.now (length c.args.acts.now) c.loop-i.i c.index-acts-i.result refl (omega (arith, c.loop-i-test.true)) c.index-acts-i.is))),
    )

pub loop-i-preserved : goal.loop-i-preserved
loop-i-preserved g c =
    let xs = c.args.recs.now.items in
    let i = c.loop-i.i in
    let acts = c.args.acts.now in
    let e : Marked = record { entry = SharedEntry c.joint-part.result; mark = Caused c.state_at-state.result c.args.hw c.args.sub c.args.place } in
    let d : Marked = record { entry = SharedEntry (joint_at c.args.other c.args.number (c.args.serial + i) c.index-acts-i.result); mark = Caused (state_after (drop (i + 1) acts) c.args.last) c.args.hw c.args.sub c.args.place } in
    let is : e ≡ d = ap (λ (z : Joint × State). let m : Marked = record { entry = SharedEntry z.0; mark = Caused z.1 c.args.hw c.args.sub c.args.place } in m) (λ k. (c.joint-part.ensures k, c.state_at-state.ensures k)) in
    let r0 = get_or xs c.args.other no_rec in
    let got = c.loop-i.invariant.gained r0 (found xs c.args.other c.requires.places.1) in
    let there = ap (λ (l : List RecView). slice_get l c.args.other) (c.tell-news.ensures.same ∙ got.items) ∙ get_set xs c.args.other got.rec c.requires.places.1 in
    let set_ = c.join.ensures.gains got.rec there in
    record {
      gained = λ r at.
          gained_on xs c.loop-i.recs.items c.join.new.recs.items c.args.other r i e d _ _ _ c.requires.places.1 is
          (shared_next c.args.other c.args.number c.args.serial acts i c.index-acts-i.result c.args.last c.args.hw c.args.sub c.args.place (slice_get_read c.args.acts.now (length c.args.acts.now) c.loop-i.i c.index-acts-i.result refl (omega (arith, c.loop-i-test.true)) c.index-acts-i.is))
          (subst (λ (l : List RecView). Gains l c.join.new.recs.items c.args.other (e ∷ [])) c.tell-news.ensures.same c.join.ensures.gains)
          (c.loop-i.invariant.gained r at);
      size = ap length set_.1 ∙ length-set c.tell-news.new.recs.items c.args.other set_.0 ∙ ap length c.tell-news.ensures.same ∙ c.loop-i.invariant.size;
    }

pub returns : goal.returns
returns g c =
    let le : length c.args.acts.now ≤ c.loop-i.i = omega (arith, c.loop-i-test.false) in
    record {
      gains = λ r at.
          gained_all c.args.recs.now.items c.loop-i.recs.items c.args.other r c.loop-i.i _ _
          (shared_end c.args.other c.args.number (c.args.serial + c.loop-i.i) c.args.acts.now c.loop-i.i c.args.last c.args.hw c.args.sub c.args.place le)
          (c.loop-i.invariant.gained r at);
    }
