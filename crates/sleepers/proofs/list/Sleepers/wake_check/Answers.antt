use Rattle.std.proofs.Common.{◌≡◌, length, sym, ◌∙◌, ap, subst}
use Rattle.std.proofs.lemmas.List.Elements.{All-from_recursion}
use Rattle.arrayvec.proofs.ArrayVecLemmas.{items-with_items}
use Rattle.arrayvec.specs.ArrayVec.{with_items}
use Rattle.sleepers.specs.Clients.{AreApart}
use Rattle.sleepers.specs.Wake.{after_check, woken_sleepers}
use Rattle.sleepers.proofs.ClientLemmas.{AreApart-below}
use Rattle.sleepers.proofs.MarkLemmas.{model_check}
use Rattle.sleepers.proofs.WakeLemmas.{AreApart-checked, asleep-checked, IsBitSet-mask_of, length-checked}
use Rattle.sleepers.proofs.list.Sleepers.wake_check.Goals as goal

pub wake_each-requires : goal.wake_each-requires
wake_each-requires c = rw c.as_mut_slice.ensures.value (All-from_recursion _ _ (AreApart-below _ c.self.invariant))

-- what the slice leaves is the check of what it was
left : (c : goal.After-self-1) → (with_items c.self.inside.items c.wake_each.new.places).items
    ≡ after_check c.args.state c.args.avail c.args.group_drains c.self.inside.items.items
left c =
    let before = c.self.inside.items.items in
    let places : c.wake_each.new.places ≡ after_check c.args.state c.args.avail c.args.group_drains before =
    c.wake_each.ensures.after ∙ ap (after_check c.args.state c.args.avail c.args.group_drains) c.as_mut_slice.ensures.value in
    let same : length c.wake_each.new.places ≡ length before =
    ap length places ∙ length-checked c.args.state c.args.avail c.args.group_drains before in
    items-with_items c.self.inside.items c.wake_each.new.places same ∙ places

pub invariant_of-self : goal.invariant_of-self
invariant_of-self c =
    subst AreApart (sym (left c))
    (AreApart-checked c.args.state c.args.avail c.args.group_drains c.self.inside.items.items c.self.invariant)

pub returns-clause-asleep : goal.returns-clause-asleep
returns-clause-asleep c =
    rw (left c) (asleep-checked c.args.state c.args.avail c.args.group_drains c.self.inside.items.items)

pub returns-clause-bits : goal.returns-clause-bits
returns-clause-bits c =
    rw (c.wake_each.ensures.woken, c.as_mut_slice.ensures.value, ← c.self.view_is)
    (λ i. IsBitSet-mask_of (woken_sleepers c.args.state c.args.avail c.args.group_drains c.self.inside.items.items) i)

pub returns-clause-model : goal.returns-clause-model
returns-clause-model c =
    rw (c.wake_each.ensures.woken, c.as_mut_slice.ensures.value, ← c.self.view_is, left c)
    (λ s marks at_state at_avail h. rw (← at_state, ← at_avail)
    (model_check c.args.group_drains s marks c.self.inside.items.items c.self.invariant h))

pub returns-clause-apart : goal.returns-clause-apart
returns-clause-apart c =
    subst AreApart (sym (left c))
    (AreApart-checked c.args.state c.args.avail c.args.group_drains c.self.inside.items.items c.self.invariant)
