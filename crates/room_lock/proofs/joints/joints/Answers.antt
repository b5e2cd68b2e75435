use Rattle.std.proofs.Common.{◌≡◌, ◌+◌, ◌++◌, ◌∷◌, [], List, length, length-append, refl, ap, ◌∙◌, arith}
use Rattle.floor_rule.specs.declared.entry.Joint.{Joint}
use Rattle.room_lock.specs.Joints.{joints_at}
use Rattle.std.proofs.Common.{drop}
use Rattle.std.proofs.lemmas.Option.{slice_get_read}
use Rattle.room_lock.proofs.JointLemmas.{joints_on, voted_at}
use Rattle.room_lock.proofs.joints.joints.Goals as goal

pub joint-requires : goal.joint-requires
joint-requires c = voted_at c.args.place c.args.acts.now c.loop-i.i c.index-acts-i.result c.requires.voted (slice_get_read c.args.acts.now (length c.args.acts.now) c.loop-i.i c.index-acts-i.result refl (omega (arith, c.loop-i-test.true)) c.index-acts-i.is)

pub loop-i-preserved : goal.loop-i-preserved
loop-i-preserved c =
    let i = c.loop-i.i in
    let size : length c.push.new.self ≡ length c.loop-i.found + 1 = ap length c.push.ensures ∙ length-append c.loop-i.found (c.joint.result ∷ []) in
    record {
      told = ap (λ (l : List Joint). l ++ joints_at c.args.place c.args.room (c.args.serial + (i + 1)) (drop (i + 1) c.args.acts.now)) c.push.ensures
          ∙ joints_on c.args.place c.args.room c.args.serial c.args.acts.now i c.index-acts-i.result c.loop-i.found c.joint.result (slice_get_read c.args.acts.now (length c.args.acts.now) c.loop-i.i c.index-acts-i.result refl (omega (arith, c.loop-i-test.true)) c.index-acts-i.is) c.joint.ensures c.loop-i.invariant.told;
      count = omega (arith, size, c.loop-i.invariant.count);
    }
