use Rattle.std.proofs.Common.{◌≡◌, ◌<◌, if◌then◌else◌, Bool, List, length, get_or, sym, ◌∙◌, ap, subst, add-one, arith}
use Rattle.std.proofs.Math.ListN.{set}
use Rattle.std.proofs.lemmas.List.{set-get_or}
use Rattle.pcm_base.specs.declared.sleeper.Sleeper.{Sleeper}
use Rattle.sleepers.specs.Wake.{marked}
use Rattle.sleepers.proofs.WakeLemmas.{get_or-done, done-kept, done-set}
use Rattle.sleepers.proofs.wake.mark_each.Goals as goal
use Rattle.sleepers.proofs.wake.mark_each.Goals.{then-eq, else-eq}

pub loop-place-preserved : goal.loop-place-preserved
loop-place-preserved c =
    let client = c.args.client in
    let mark_one = marked client c.args.asleep in
    let before = c.args.places.now in
    let i = c.loop-place.place-index in
    let x = c.place.inside.sleeper in
    let so_far = c.loop-place.invariant in
    let within : i < length before = omega arith in
    let item : x ≡ get_or c.loop-place.places i x =
    subst (λ (z : Sleeper). z ≡ get_or c.loop-place.places i z) (c.place-item.is ∙ sym c.place.view_is) c.place-item.is in
    let here : x ≡ get_or before i x = item ∙ ap (λ (l : List Sleeper). get_or l i x) so_far ∙ get_or-done mark_one before i x within in
    elim c.if-eq.branch [
      | then-eq w ↦
          let value : record { client = x.client; asleep = c.args.asleep; task = x.task } ≡ mark_one (get_or before i x) =
          ap (λ (b : Bool). record { client = x.client; asleep = if b then c.args.asleep else x.asleep; task = x.task }) (sym w.if-eq.true ∙ c.eq.ensures) ∙ ap mark_one here in
          rw add-one (w.places-is ∙ ap (λ (l : List Sleeper). set l i (record { client = x.client; asleep = c.args.asleep; task = x.task })) so_far
          ∙ done-set mark_one before i x (record { client = x.client; asleep = c.args.asleep; task = x.task }) within value)
      | else-eq w ↦
          let stays : x ≡ mark_one x =
          ap (λ (b : Bool). record { client = x.client; asleep = if b then c.args.asleep else x.asleep; task = x.task }) (sym w.if-eq.false ∙ c.eq.ensures) in
          let kept : get_or before i x ≡ mark_one (get_or before i x) = subst (λ (z : Sleeper). z ≡ mark_one z) here stays in
          rw add-one (w.places-is ∙ set-get_or c.loop-place.places i c.place-item.result ∙ so_far ∙ done-kept mark_one before i x within kept)
    ]
