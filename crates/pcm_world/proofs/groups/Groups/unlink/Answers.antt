use Rattle.std.proofs.Common.{◌≡◌, ◌<◌, ◌≤◌, ◌+◌, ◌++◌, ◌∷◌, [], ℕ, List, Some, true, length, sym, ◌∙◌, ap, ap₂, subst, arith}
use Rattle.std.proofs.lemmas.List.Edits.{length-insert, length-remove}
use Rattle.std.specs.Int.RustNames.{bit_or}
use Rattle.std.specs.List.{slice_get, insert, remove}
use Rattle.card_emul.specs.declared.any_card.AnyCard.{AnyCard}
use Rattle.card_emul.specs.contracts.any_card.AnyCardCard.TheImpl.{ghosts}
use Rattle.link_group.specs.Numbers.{first_of}
use Rattle.pcm_base.specs.declared.ids.ClientId.{ClientId}
use Rattle.pcm_base.specs.model.Replay.{is_member}
use Rattle.pcm_base.specs.model.Sleep.{mask_of, wake, woken}
use Rattle.pcm_base.specs.model.Stream.{Member as ModelMember}
use Rattle.pcm_base.specs.model.World.{group_of, holds}
use Rattle.pcm_stream.specs.declared.members.Member.{Member}
use Rattle.pcm_stream.specs.Members.{members_of, numbers_of}
use Rattle.pcm_stream.specs.MembersStand.{AllStandFor}
use Rattle.pcm_group.specs.declared.group.Group.{Group}
use Rattle.pcm_group.specs.Inside.{members_in}
use Rattle.pcm_world.specs.Groups.{AreNumbers, GroupsStand, numbers_in, one_of, others_of, place_in, taken_by, taken_of, unlinked}
use Rattle.pcm_world.proofs.GroupLemmas.{group_there, holds_as, place_within}
use Rattle.pcm_world.proofs.LinkLemmas.{ArePart, IsThereToPart, groups_apart, least, place_seen, there_to_part, unlink_numbers}
use Rattle.pcm_world.proofs.MaskLemmas.{mask_of-append}
use Rattle.pcm_world.proofs.StreamLemmas.{unlink_streams}
use Rattle.pcm_world.proofs.TakenLemmas.{taken_woken, unlink_taken}
use Rattle.pcm_world.proofs.groups.Groups.unlink.Goals as goal

pub take_out-others-requires : goal.take_out-others-requires
take_out-others-requires c =
    let gs = c.reserve.new.self.items in
    let i = c.place_of_declared-place.result in
    place_within gs i c.args.sub (place_seen gs c.deref.result.now c.args.sub i c.deref.ensures.value c.place_of_declared-place.ensures)

pub leave_member-left-requires-clause-member : goal.leave_member-left-requires-clause-member
leave_member-left-requires-clause-member c =
    let gs = c.args.self.now.items.items in
    let i = c.place_of_declared-place.result in
    let h : IsThereToPart c.args.sub gs i = there_to_part c.args.sub gs c.deref.result.now i c.requires.linked (c.deref.ensures.value ∙ c.reserve.ensures.items) c.place_of_declared-place.ensures in
    let at : slice_get c.reserve.new.self.items i ≡ Some h.group = ap (λ (l : List (Group AnyCard ghosts)). slice_get l i) c.reserve.ensures.items ∙ h.at in
    ap (λ (l : List (Member AnyCard ghosts)). is_member c.args.sub (numbers_of l)) (c.take_out-others.ensures.members h.group at) ∙ h.member

pub leave_member-left-requires-clause-two : goal.leave_member-left-requires-clause-two
leave_member-left-requires-clause-two c =
    let gs = c.args.self.now.items.items in
    let i = c.place_of_declared-place.result in
    let h : IsThereToPart c.args.sub gs i = there_to_part c.args.sub gs c.deref.result.now i c.requires.linked (c.deref.ensures.value ∙ c.reserve.ensures.items) c.place_of_declared-place.ensures in
    let at : slice_get c.reserve.new.self.items i ≡ Some h.group = ap (λ (l : List (Group AnyCard ghosts)). slice_get l i) c.reserve.ensures.items ∙ h.at in
    subst (λ (l : List (Member AnyCard ghosts)). 2 ≤ length l) (sym (c.take_out-others.ensures.members h.group at)) h.two

pub put_in-requires-clause-place : goal.put_in-requires-clause-place
put_in-requires-clause-place c =
    let gs = c.reserve.new.self.items in
    let i = c.place_of_declared-place.result in
    let b : i < length gs = place_within gs i c.args.sub (place_seen gs c.deref.result.now c.args.sub i c.deref.ensures.value c.place_of_declared-place.ensures) in
    subst (λ (l : List (Group AnyCard ghosts)). i ≤ length l) (sym c.take_out-others.ensures.items) (least gs i b)

pub put_in-requires-clause-room : goal.put_in-requires-clause-room
put_in-requires-clause-room c =
    let gs = c.reserve.new.self.items in
    let i = c.place_of_declared-place.result in
    let b : i < length gs = place_within gs i c.args.sub (place_seen gs c.deref.result.now c.args.sub i c.deref.ensures.value c.place_of_declared-place.ensures) in
    let once : length c.take_out-others.new.groups.items + 1 ≡ length gs = ap (λ (l : List (Group AnyCard ghosts)). length l + 1) c.take_out-others.ensures.items ∙ length-remove gs i b in
    omega (arith, once, c.take_out-others.ensures.room, c.reserve.new.self.ok.0, c.reserve.new.self.ok.1)

pub put_in-requires-2-clause-place : goal.put_in-requires-2-clause-place
put_in-requires-2-clause-place c =
    let gs = c.reserve.new.self.items in
    let rest = c.take_out-others.new.groups.items in
    let i = c.place_of_declared-place.result in
    let b : i < length gs = place_within gs i c.args.sub (place_seen gs c.deref.result.now c.args.sub i c.deref.ensures.value c.place_of_declared-place.ensures) in
    let fits : i ≤ length rest = subst (λ (l : List (Group AnyCard ghosts)). i ≤ length l) (sym c.take_out-others.ensures.items) (least gs i b) in
    let more : length c.put_in.new.groups.items ≡ length rest + 1 = ap (λ (l : List (Group AnyCard ghosts)). length l) c.put_in.ensures.items ∙ length-insert rest i c.of-others.result.0 fits in
    omega (arith, fits, more)

pub put_in-requires-2-clause-room : goal.put_in-requires-2-clause-room
put_in-requires-2-clause-room c =
    let gs = c.reserve.new.self.items in
    let rest = c.take_out-others.new.groups.items in
    let i = c.place_of_declared-place.result in
    let b : i < length gs = place_within gs i c.args.sub (place_seen gs c.deref.result.now c.args.sub i c.deref.ensures.value c.place_of_declared-place.ensures) in
    let fits : i ≤ length rest = subst (λ (l : List (Group AnyCard ghosts)). i ≤ length l) (sym c.take_out-others.ensures.items) (least gs i b) in
    let once : length rest + 1 ≡ length gs = ap (λ (l : List (Group AnyCard ghosts)). length l + 1) c.take_out-others.ensures.items ∙ length-remove gs i b in
    let more : length c.put_in.new.groups.items ≡ length rest + 1 = ap (λ (l : List (Group AnyCard ghosts)). length l) c.put_in.ensures.items ∙ length-insert rest i c.of-others.result.0 fits in
    omega (arith, once, more, c.put_in.ensures.room, c.take_out-others.ensures.room, c.in_ok-reserve.ensures.ok, c.reserve.new.self.ok.0)

pub invariant_of-self-2 : goal.invariant_of-self-2
invariant_of-self-2 c =
    let gs = c.args.self.now.items.items in
    let i = c.place_of_declared-place.result in
    let y = c.of-one.result.0 in
    let w = c.of-others.result.0 in
    let m = c.leave_member-left.result.gone in
    let q = first_of c.args.sub (numbers_of (members_of c.take_out-others.result)) in
    let h : IsThereToPart c.args.sub gs i = there_to_part c.args.sub gs c.deref.result.now i c.requires.linked (c.deref.ensures.value ∙ c.reserve.ensures.items) c.place_of_declared-place.ensures in
    let at : slice_get c.reserve.new.self.items i ≡ Some h.group = ap (λ (l : List (Group AnyCard ghosts)). slice_get l i) c.reserve.ensures.items ∙ h.at in
    let same : members_of c.take_out-others.result ≡ members_in h.group = c.take_out-others.ensures.members h.group at in
    let all : c.put_in-2.new.groups.items ≡ insert (insert (remove gs i) i w) i y =
    c.put_in-2.ensures.items
    ∙ ap (λ (l : List (Group AnyCard ghosts)). insert l i y) c.put_in.ensures.items
    ∙ ap (λ (l : List (Group AnyCard ghosts)). insert (insert l i w) i y) (c.take_out-others.ensures.items ∙ ap (λ (l : List (Group AnyCard ghosts)). remove l i) c.reserve.ensures.items) in
    let one : members_of c.add.new.self ≡ m ∷ [] = c.add.ensures ∙ ap (λ (l : List (Member AnyCard ghosts)). l ++ m ∷ []) c.in_ok-one.ensures in
    let others : members_of c.with_alone.result ≡ remove (members_in h.group) q = c.with_alone.ensures ∙ c.leave_member-left.ensures.kept ∙ ap (λ (l : List (Member AnyCard ghosts)). remove l q) same in
    let part : ArePart gs i q h.group y w m =
    record {
      group = h.at;
      within = h.within;
      gone = ap (λ (l : List (Member AnyCard ghosts)). slice_get l q) (sym same) ∙ c.leave_member-left.ensures.taken;
      one = c.of-one.ensures.numbers ∙ ap (λ (l : List (Member AnyCard ghosts)). numbers_of l) one;
      others = c.of-others.ensures.numbers ∙ ap (λ (l : List (Member AnyCard ghosts)). numbers_of l) others;
    } in
    record {
      placed = λ k b. c.places_of-self.ensures k b ∙ ap (λ (l : List (Group AnyCard ghosts)). Some (place_in (record { 0 = k }) (numbers_in l))) c.deref-2.ensures.value;
      numbered = subst (λ (l : List (Group AnyCard ghosts)). AreNumbers (numbers_in l)) (sym all) (unlink_numbers gs i q h.group y w m part c.args.self.now.numbered);
    }

-- ---- what the groups are at the end

found : (c : goal.After-self-2-1) → IsThereToPart c.args.sub c.args.self.now.items.items c.place_of_declared-place.result
found c = there_to_part c.args.sub c.args.self.now.items.items c.deref.result.now _ c.requires.linked (c.deref.ensures.value ∙ c.reserve.ensures.items) c.place_of_declared-place.ensures

-- all groups
at_end : (c : goal.After-self-2-1) → c.put_in-2.new.groups.items
    ≡ insert (insert (remove c.args.self.now.items.items c.place_of_declared-place.result) c.place_of_declared-place.result c.of-others.result.0) c.place_of_declared-place.result c.of-one.result.0
at_end c =
    let i = c.place_of_declared-place.result in
    let y = c.of-one.result.0 in
    c.put_in-2.ensures.items
    ∙ ap (λ (l : List (Group AnyCard ghosts)). insert l i y) c.put_in.ensures.items
    ∙ ap (λ (l : List (Group AnyCard ghosts)). insert (insert l i c.of-others.result.0) i y) (c.take_out-others.ensures.items ∙ ap (λ (l : List (Group AnyCard ghosts)). remove l i) c.reserve.ensures.items)

members : (c : goal.After-self-2-1) → members_of c.take_out-others.result ≡ members_in (found c).group
members c =
    c.take_out-others.ensures.members (found c).group
    (ap (λ (l : List (Group AnyCard ghosts)). slice_get l c.place_of_declared-place.result) c.reserve.ensures.items ∙ (found c).at)

-- the place of the member among the others
place : goal.After-self-2-1 → ℕ
place c = first_of c.args.sub (numbers_of (members_of c.take_out-others.result))

one_member : (c : goal.After-self-2-1) → members_of c.add.new.self ≡ c.leave_member-left.result.gone ∷ []
one_member c = c.add.ensures ∙ ap (λ (l : List (Member AnyCard ghosts)). l ++ c.leave_member-left.result.gone ∷ []) c.in_ok-one.ensures

other_members : (c : goal.After-self-2-1) → members_of c.with_alone.result ≡ remove (members_in (found c).group) (place c)
unfolding place
other_members c = c.with_alone.ensures ∙ c.leave_member-left.ensures.kept ∙ ap (λ (l : List (Member AnyCard ghosts)). remove l (place c)) (members c)

part : (c : goal.After-self-2-1) → ArePart c.args.self.now.items.items c.place_of_declared-place.result (place c) (found c).group c.of-one.result.0 c.of-others.result.0 c.leave_member-left.result.gone
unfolding place
part c = record {
  group = (found c).at;
  within = (found c).within;
  gone = ap (λ (l : List (Member AnyCard ghosts)). slice_get l (place c)) (sym (members c)) ∙ c.leave_member-left.ensures.taken;
  one = c.of-one.ensures.numbers ∙ ap (λ (l : List (Member AnyCard ghosts)). numbers_of l) (one_member c);
  others = c.of-others.ensures.numbers ∙ ap (λ (l : List (Member AnyCard ghosts)). numbers_of l) (other_members c);
}

module _ (c : goal.After-self-2-1) (xs : List (List ModelMember)) (s : GroupsStand c.args.self.now.items.items xs) where
  before : AllStandFor (members_of c.take_out-others.result) (group_of c.args.sub xs)
  before =
      let h = found c in
      subst (λ (l : List (Member AnyCard ghosts)). AllStandFor l (group_of c.args.sub xs)) (sym (members c)) (group_there c.args.self.now.items.items xs _ c.args.sub h.group s h.place h.at).stands

  at_rest : AllStandFor (members_of c.take_out-others.result) (wake (group_of c.args.sub xs))
  at_rest = c.take_out-others.ensures.stands (group_of c.args.sub xs) before

  one_stands : AllStandFor (members_of c.add.new.self) (one_of c.args.sub xs)
  one_stands = subst (λ (l : List (Member AnyCard ghosts)). AllStandFor l (one_of c.args.sub xs)) (sym (one_member c)) (c.leave_member-left.ensures.gone (wake (group_of c.args.sub xs)) at_rest)

  others_stand : AllStandFor (members_of c.with_alone.result) (others_of c.args.sub xs)
  others_stand = subst (λ (l : List (Member AnyCard ghosts)). AllStandFor l (others_of c.args.sub xs)) (sym c.with_alone.ensures) (c.leave_member-left.ensures.others (wake (group_of c.args.sub xs)) at_rest)

pub returns-clause-stands : goal.returns-clause-stands
returns-clause-stands c = λ xs s.
    subst (λ (l : List (Group AnyCard ghosts)). GroupsStand l (unlinked c.args.sub xs)) (sym (at_end c))
    (groups_apart c.args.self.now.items.items xs _ c.args.sub c.of-one.result.0 c.of-others.result.0 (wake (one_of c.args.sub xs)) (wake (others_of c.args.sub xs)) s (found c).place
    (c.of-one.ensures.stands (one_of c.args.sub xs) (one_stands c xs s))
    (c.of-others.ensures.stands (others_of c.args.sub xs) (others_stand c xs s)))

pub returns-clause-woken : goal.returns-clause-woken
returns-clause-woken c = λ xs s.
    let one = one_of c.args.sub xs in
    let others = others_of c.args.sub xs in
    ap₂ bit_or (c.of-one.ensures.woken one (one_stands c xs s)) (c.of-others.ensures.woken others (others_stand c xs s))
    ∙ sym (mask_of-append (woken one) (woken others))
    ∙ sym (ap (λ (cs : List ClientId). mask_of (cs ++ woken one ++ woken others)) (c.take_out-others.ensures.nobody (group_of c.args.sub xs) (before c xs s)))

pub returns-clause-taken : goal.returns-clause-taken
returns-clause-taken c = λ xs s l.
    let y = c.of-one.result.0 in
    let w = c.of-others.result.0 in
    let one = one_stands c xs s in
    let others = others_stand c xs s in
    let cards_here : taken_by l (members_in y) ≡ taken_by l (c.leave_member-left.result.gone ∷ []) =
    taken_woken l (members_of c.add.new.self) (members_in y) (one_of c.args.sub xs) one (c.of-one.ensures.stands (one_of c.args.sub xs) one) ∙ ap (λ (p : List (Member AnyCard ghosts)). taken_by l p) (one_member c) in
    let cards_there : taken_by l (members_in w) ≡ taken_by l (remove (members_in (found c).group) (place c)) =
    taken_woken l (members_of c.with_alone.result) (members_in w) (others_of c.args.sub xs) others (c.of-others.ensures.stands (others_of c.args.sub xs) others) ∙ ap (λ (p : List (Member AnyCard ghosts)). taken_by l p) (other_members c) in
    ap (λ (p : List (Group AnyCard ghosts)). taken_of l p) (at_end c)
    ∙ unlink_taken l c.args.self.now.items.items _ _ (found c).group y w c.leave_member-left.result.gone (part c) c.args.self.now.numbered cards_here cards_there

pub returns-clause-streams : goal.returns-clause-streams
returns-clause-streams c = λ xs s l.
    let gs = c.args.self.now.items.items in
    let h = found c in
    let declared : holds c.args.sub (group_of c.args.sub xs) ≡ true = holds_as c.args.sub (members_in h.group) _ (group_there gs xs _ c.args.sub h.group s h.place h.at).stands ∙ h.member in
    unlink_streams l c.args.sub gs xs s c.args.self.now.numbered declared
