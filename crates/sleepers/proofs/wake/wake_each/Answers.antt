use Rattle.std.proofs.Common.{◌≡◌, ◌<◌, ◌^◌, true, false, length, get_or, bit_or, sym, ◌∙◌, ap, subst, add-one, arith}
use Rattle.std.proofs.lemmas.List.{set-get_or}
use Rattle.std.proofs.lemmas.Nat.{one_shl}
use Rattle.pcm_base.specs.declared.sleeper.Sleeper.{Sleeper}
use Rattle.sleepers.specs.Wake.{wakes}
use Rattle.sleepers.proofs.WakeLemmas.{item-done, step-woken, step-kept, mask-woken, mask-kept}
use Rattle.sleepers.proofs.wake.wake_each.Goals as goal
use Rattle.sleepers.proofs.wake.wake_each.Goals.{then-wakes, else-wakes}

pub loop-place-preserved : goal.loop-place-preserved
loop-place-preserved c =
    let s = c.args.state in
    let available = c.args.avail in
    let group_drains = c.args.group_drains in
    let before = c.args.places.now in
    let i = c.loop-place.place-index in
    let x = c.place.inside.sleeper in
    let so_far = c.loop-place.invariant in
    let within : i < length before = omega arith in
    let item : x ≡ get_or c.loop-place.places i x =
    subst (λ (z : Sleeper). z ≡ get_or c.loop-place.places i z) (c.place-item.is ∙ sym c.place.view_is) c.place-item.is in
    let here = item-done s available group_drains before c.loop-place.places i x within so_far.0 item in
    let below : x.client.0 < 16 = subst (λ (z : Sleeper). z.client.0 < 16) (sym here) (c.requires i x within) in
    elim c.if-wakes.branch [
      | then-wakes w ↦
          let woken : wakes s available group_drains x ≡ true = sym c.wakes.ensures ∙ w.if-wakes.true in
          rw add-one (
            w.places-is ∙ step-woken s available group_drains before c.loop-place.places i x within so_far.0 here woken,
            w.woken-is ∙ ap (bit_or c.loop-place.woken) (one_shl x.client.0 16 below)
                ∙ ap (λ m. bit_or m (2 ^ x.client.0)) so_far.1 ∙ mask-woken s available group_drains before i x within here woken,
          )
      | else-wakes w ↦
          let kept : wakes s available group_drains x ≡ false = sym c.wakes.ensures ∙ w.if-wakes.false in
          rw add-one (
            w.places-is ∙ set-get_or c.loop-place.places i c.place-item.result
                ∙ step-kept s available group_drains before c.loop-place.places i x within so_far.0 here kept,
            w.woken-is ∙ so_far.1 ∙ mask-kept s available group_drains before i x within here kept,
          )
    ]
