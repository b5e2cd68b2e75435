use Rattle.std.proofs.Common.{◌≡◌, ◌<◌, ◌≤◌, ◌+◌, ◌++◌, ◌∷◌, [], List, Some, true, false, length, sym, ◌∙◌, ap, subst, arith}
use Rattle.std.proofs.lemmas.List.Edits.{length-remove}
use Rattle.std.specs.List.{slice_get, insert, remove}
use Rattle.card_emul.specs.declared.any_card.AnyCard.{AnyCard}
use Rattle.card_emul.specs.contracts.any_card.AnyCardCard.TheImpl.{ghosts}
use Rattle.pcm_base.specs.declared.ids.ClientId.{ClientId}
use Rattle.pcm_base.specs.declared.ids.SubId.{SubId}
use Rattle.pcm_base.specs.model.Replay.{is_member}
use Rattle.pcm_base.specs.model.Sleep.{mask_of, wake, woken}
use Rattle.pcm_base.specs.model.Stream.{Member as ModelMember}
use Rattle.pcm_base.specs.model.World.{group_of, holds}
use Rattle.pcm_stream.specs.declared.members.Member.{Member}
use Rattle.pcm_stream.specs.Members.{members_of, numbers_of}
use Rattle.pcm_stream.specs.MembersStand.{AllStandFor}
use Rattle.pcm_group.specs.declared.group.Group.{Group}
use Rattle.pcm_group.specs.Inside.{members_in}
use Rattle.pcm_world.specs.Groups.{AreNumbers, GroupsStand, both, linked, numbers_at, numbers_in, place_in, taken_by, taken_of}
use Rattle.pcm_world.proofs.GroupLemmas.{held_there, holds_as, place_within}
use Rattle.pcm_world.proofs.LinkLemmas.{AreThere, absent_first, absent_second, are_there, first_declared, first_stands, least, link_numbers, link_stands, lone_stands, numbers-length, numbers_of-append, place_seen, room_for_second}
use Rattle.pcm_world.proofs.StreamLemmas.{link_streams}
use Rattle.pcm_world.proofs.TakenLemmas.{link_taken, taken_woken}
use Rattle.pcm_world.proofs.groups.Groups.link.Goals as goal

pub take_out-lone-requires : goal.take_out-lone-requires
take_out-lone-requires c =
    let gs = c.args.self.now.items.items in
    place_within gs c.place_of_declared-from.result c.args.second (place_seen gs c.deref.result.now c.args.second c.place_of_declared-from.result c.deref.ensures.value c.place_of_declared-from.ensures)

pub place_of_declared-to-requires : goal.place_of_declared-to-requires
place_of_declared-to-requires c =
    let gs = c.args.self.now.items.items in
    let i = c.place_of_declared-from.result in
    ap (λ (l : List (Group AnyCard ghosts)). is_member c.args.first (numbers_at c.args.first (numbers_in l))) (c.deref-2.ensures.value ∙ c.take_out-lone.ensures.items)
    ∙ first_declared c.args.first c.args.second gs i c.requires.ready c.requires.apart (place_seen gs c.deref.result.now c.args.second i c.deref.ensures.value c.place_of_declared-from.ensures)

pub take_out-members-requires : goal.take_out-members-requires
take_out-members-requires c =
    let rest = c.take_out-lone.new.groups.items in
    let p = c.place_of_declared-to.result in
    place_within rest p c.args.first (place_seen rest c.deref-2.result.now c.args.first p c.deref-2.ensures.value c.place_of_declared-to.ensures)

pub join_members-requires-clause-one : goal.join_members-requires-clause-one
join_members-requires-clause-one c =
    let gs = c.args.self.now.items.items in
    let h : AreThere c.args.first c.args.second gs c.place_of_declared-from.result c.place_of_declared-to.result =
    are_there c.args.first c.args.second gs c.deref.result.now c.take_out-lone.new.groups.items c.deref-2.result.now _ _ c.requires.ready c.requires.apart
    c.deref.ensures.value c.place_of_declared-from.ensures c.take_out-lone.ensures.items c.deref-2.ensures.value c.place_of_declared-to.ensures in
    ap (λ (l : List (Member AnyCard ghosts)). length l) (c.take_out-lone.ensures.members h.lone h.placed.lone)
    ∙ sym (numbers-length (members_in h.lone))
    ∙ ap (λ (ks : List SubId). length ks) h.placed.lone_number

pub join_members-requires-clause-room : goal.join_members-requires-clause-room
join_members-requires-clause-room c =
    let gs = c.args.self.now.items.items in
    let p = c.place_of_declared-to.result in
    let h : AreThere c.args.first c.args.second gs c.place_of_declared-from.result p =
    are_there c.args.first c.args.second gs c.deref.result.now c.take_out-lone.new.groups.items c.deref-2.result.now _ _ c.requires.ready c.requires.apart
    c.deref.ensures.value c.place_of_declared-from.ensures c.take_out-lone.ensures.items c.deref-2.ensures.value c.place_of_declared-to.ensures in
    let at : slice_get c.take_out-lone.new.groups.items p ≡ Some h.group = ap (λ (l : List (Group AnyCard ghosts)). slice_get l p) c.take_out-lone.ensures.items ∙ h.placed.group in
    subst (λ (l : List (Member AnyCard ghosts)). length l < 16) (sym (c.take_out-members.ensures.members h.group at)) (room_for_second _ _ gs _ p h.lone h.group h.placed c.args.self.now.numbered)

pub of-group-requires : goal.of-group-requires
of-group-requires c =
    let gs = c.args.self.now.items.items in
    let p = c.place_of_declared-to.result in
    let h : AreThere c.args.first c.args.second gs c.place_of_declared-from.result p =
    are_there c.args.first c.args.second gs c.deref.result.now c.take_out-lone.new.groups.items c.deref-2.result.now _ _ c.requires.ready c.requires.apart
    c.deref.ensures.value c.place_of_declared-from.ensures c.take_out-lone.ensures.items c.deref-2.ensures.value c.place_of_declared-to.ensures in
    let at : slice_get c.take_out-lone.new.groups.items p ≡ Some h.group = ap (λ (l : List (Group AnyCard ghosts)). slice_get l p) c.take_out-lone.ensures.items ∙ h.placed.group in
    let number : numbers_of (members_of c.take_out-lone.result) ≡ c.args.second ∷ [] = ap (λ (l : List (Member AnyCard ghosts)). numbers_of l) (c.take_out-lone.ensures.members h.lone h.placed.lone) ∙ h.placed.lone_number in
    let absent : is_member c.args.second (numbers_of (members_of c.take_out-members.result)) ≡ false =
    ap (λ (l : List (Member AnyCard ghosts)). is_member c.args.second (numbers_of l)) (c.take_out-members.ensures.members h.group at) ∙ absent_second _ _ gs _ p h.lone h.group h.placed c.args.self.now.numbered in
    c.join_members.ensures.distinct c.args.second number absent c.take_out-members.ensures.distinct

pub put_in-requires-clause-place : goal.put_in-requires-clause-place
put_in-requires-clause-place c =
    let rest = c.take_out-lone.new.groups.items in
    let p = c.place_of_declared-to.result in
    let b : p < length rest = place_within rest p c.args.first (place_seen rest c.deref-2.result.now c.args.first p c.deref-2.ensures.value c.place_of_declared-to.ensures) in
    subst (λ (l : List (Group AnyCard ghosts)). p ≤ length l) (sym c.take_out-members.ensures.items) (least rest p b)

pub put_in-requires-clause-room : goal.put_in-requires-clause-room
put_in-requires-clause-room c =
    let gs = c.args.self.now.items.items in
    let rest = c.take_out-lone.new.groups.items in
    let i = c.place_of_declared-from.result in
    let p = c.place_of_declared-to.result in
    let a : i < length gs = place_within gs i c.args.second (place_seen gs c.deref.result.now c.args.second i c.deref.ensures.value c.place_of_declared-from.ensures) in
    let b : p < length rest = place_within rest p c.args.first (place_seen rest c.deref-2.result.now c.args.first p c.deref-2.ensures.value c.place_of_declared-to.ensures) in
    let once : length rest + 1 ≡ length gs = ap (λ (l : List (Group AnyCard ghosts)). length l + 1) c.take_out-lone.ensures.items ∙ length-remove gs i a in
    let twice : length c.take_out-members.new.groups.items + 1 ≡ length rest = ap (λ (l : List (Group AnyCard ghosts)). length l + 1) c.take_out-members.ensures.items ∙ length-remove rest p b in
    omega (arith, once, twice, c.take_out-members.ensures.room, c.take_out-lone.ensures.room, c.args.self.now.items.ok.0, c.args.self.now.items.ok.1)

pub invariant_of-self : goal.invariant_of-self
invariant_of-self c =
    let gs = c.args.self.now.items.items in
    let i = c.place_of_declared-from.result in
    let p = c.place_of_declared-to.result in
    let z = c.of-group.result.0 in
    let h : AreThere c.args.first c.args.second gs i p =
    are_there c.args.first c.args.second gs c.deref.result.now c.take_out-lone.new.groups.items c.deref-2.result.now _ _ c.requires.ready c.requires.apart
    c.deref.ensures.value c.place_of_declared-from.ensures c.take_out-lone.ensures.items c.deref-2.ensures.value c.place_of_declared-to.ensures in
    let at : slice_get c.take_out-lone.new.groups.items p ≡ Some h.group = ap (λ (l : List (Group AnyCard ghosts)). slice_get l p) c.take_out-lone.ensures.items ∙ h.placed.group in
    let all : c.put_in.new.groups.items ≡ insert (remove (remove gs i) p) p z =
    c.put_in.ensures.items
    ∙ ap (λ (l : List (Group AnyCard ghosts)). insert l p z) (c.take_out-members.ensures.items ∙ ap (λ (l : List (Group AnyCard ghosts)). remove l p) c.take_out-lone.ensures.items) in
    let numbers : numbers_of (members_in z) ≡ numbers_of (members_in h.group) ++ numbers_of (members_in h.lone) =
    c.of-group.ensures.numbers
    ∙ ap (λ (l : List (Member AnyCard ghosts)). numbers_of l) c.join_members.ensures.joined
    ∙ numbers_of-append (members_of c.take_out-members.result) (members_of c.take_out-lone.result)
    ∙ ap (λ (l : List (Member AnyCard ghosts)). numbers_of l ++ numbers_of (members_of c.take_out-lone.result)) (c.take_out-members.ensures.members h.group at)
    ∙ ap (λ (l : List (Member AnyCard ghosts)). numbers_of (members_in h.group) ++ numbers_of l) (c.take_out-lone.ensures.members h.lone h.placed.lone) in
    record {
      placed = λ k b. c.places_of-self.ensures k b ∙ ap (λ (l : List (Group AnyCard ghosts)). Some (place_in (record { 0 = k }) (numbers_in l))) c.deref-3.ensures.value;
      numbered = subst (λ (l : List (Group AnyCard ghosts)). AreNumbers (numbers_in l)) (sym all) (link_numbers c.args.first c.args.second gs i p h.lone h.group z h.placed numbers c.args.self.now.numbered);
    }

-- ---- what the groups are at the end

found : (c : goal.After-drop-lone) → AreThere c.args.first c.args.second c.args.self.now.items.items c.place_of_declared-from.result c.place_of_declared-to.result
found c =
    are_there c.args.first c.args.second c.args.self.now.items.items c.deref.result.now c.take_out-lone.new.groups.items c.deref-2.result.now _ _ c.requires.ready c.requires.apart
    c.deref.ensures.value c.place_of_declared-from.ensures c.take_out-lone.ensures.items c.deref-2.ensures.value c.place_of_declared-to.ensures

-- all groups
at_end : (c : goal.After-drop-lone) → c.put_in.new.groups.items
    ≡ insert (remove (remove c.args.self.now.items.items c.place_of_declared-from.result) c.place_of_declared-to.result) c.place_of_declared-to.result c.of-group.result.0
at_end c =
    let p = c.place_of_declared-to.result in
    c.put_in.ensures.items
    ∙ ap (λ (l : List (Group AnyCard ghosts)). insert l p c.of-group.result.0) (c.take_out-members.ensures.items ∙ ap (λ (l : List (Group AnyCard ghosts)). remove l p) c.take_out-lone.ensures.items)

lone_members : (c : goal.After-drop-lone) → members_of c.take_out-lone.result ≡ members_in (found c).lone
lone_members c = c.take_out-lone.ensures.members (found c).lone (found c).placed.lone

first_members : (c : goal.After-drop-lone) → members_of c.take_out-members.result ≡ members_in (found c).group
first_members c =
    c.take_out-members.ensures.members (found c).group
    (ap (λ (l : List (Group AnyCard ghosts)). slice_get l c.place_of_declared-to.result) c.take_out-lone.ensures.items ∙ (found c).placed.group)

lone_at_rest : (c : goal.After-drop-lone) (xs : List (List ModelMember)) → GroupsStand c.args.self.now.items.items xs → AllStandFor (members_of c.take_out-lone.result) (group_of c.args.second xs)
lone_at_rest c xs s =
    subst (λ (l : List (Member AnyCard ghosts)). AllStandFor l (group_of c.args.second xs)) (sym (lone_members c))
    (lone_stands c.args.first c.args.second c.args.self.now.items.items xs _ _ (found c).lone (found c).group (found c).placed s)

first_at_rest : (c : goal.After-drop-lone) (xs : List (List ModelMember)) → GroupsStand c.args.self.now.items.items xs → AllStandFor (members_of c.take_out-members.result) (group_of c.args.first xs)
first_at_rest c xs s =
    subst (λ (l : List (Member AnyCard ghosts)). AllStandFor l (group_of c.args.first xs)) (sym (first_members c))
    (first_stands c.args.first c.args.second c.args.self.now.items.items xs _ _ (found c).lone (found c).group (found c).placed s)

joined : (c : goal.After-drop-lone) (xs : List (List ModelMember)) → GroupsStand c.args.self.now.items.items xs → AllStandFor (members_of c.join_members.new.group) (both c.args.first c.args.second xs)
joined c xs s =
    c.join_members.ensures.stands (wake (group_of c.args.first xs)) (wake (group_of c.args.second xs))
    (c.take_out-members.ensures.stands (group_of c.args.first xs) (first_at_rest c xs s))
    (c.take_out-lone.ensures.stands (group_of c.args.second xs) (lone_at_rest c xs s))

pub returns-clause-stands : goal.returns-clause-stands
returns-clause-stands c = λ xs s.
    subst (λ (l : List (Group AnyCard ghosts)). GroupsStand l (linked c.args.first c.args.second xs)) (sym (at_end c))
    (link_stands c.args.first c.args.second c.args.self.now.items.items xs _ _ (found c).lone (found c).group c.of-group.result.0 (found c).placed s
    (c.of-group.ensures.stands (both c.args.first c.args.second xs) (joined c xs s)))

pub returns-clause-woken : goal.returns-clause-woken
returns-clause-woken c = λ xs s.
    let after = woken (both c.args.first c.args.second xs) in
    c.of-group.ensures.woken (both c.args.first c.args.second xs) (joined c xs s)
    ∙ sym (ap (λ (cs : List ClientId). mask_of (cs ++ after)) (c.take_out-lone.ensures.nobody (group_of c.args.second xs) (lone_at_rest c xs s)))
    ∙ sym (ap (λ (cs : List ClientId). mask_of (cs ++ woken (group_of c.args.second xs) ++ after)) (c.take_out-members.ensures.nobody (group_of c.args.first xs) (first_at_rest c xs s)))

pub returns-clause-taken : goal.returns-clause-taken
returns-clause-taken c = λ xs s l.
    let gs = c.args.self.now.items.items in
    let z = c.of-group.result.0 in
    let h = found c in
    let now = both c.args.first c.args.second xs in
    let members : members_of c.join_members.new.group ≡ members_in h.group ++ members_in h.lone =
    c.join_members.ensures.joined
    ∙ ap (λ (q : List (Member AnyCard ghosts)). q ++ members_of c.take_out-lone.result) (first_members c)
    ∙ ap (λ (q : List (Member AnyCard ghosts)). members_in h.group ++ q) (lone_members c) in
    let numbers : numbers_of (members_in z) ≡ numbers_of (members_in h.group) ++ numbers_of (members_in h.lone) =
    c.of-group.ensures.numbers ∙ ap (λ (q : List (Member AnyCard ghosts)). numbers_of q) members ∙ numbers_of-append (members_in h.group) (members_in h.lone) in
    let cards : taken_by l (members_in z) ≡ taken_by l (members_in h.group ++ members_in h.lone) =
    taken_woken l (members_of c.join_members.new.group) (members_in z) now (joined c xs s) (c.of-group.ensures.stands now (joined c xs s)) ∙ ap (λ (q : List (Member AnyCard ghosts)). taken_by l q) members in
    ap (λ (q : List (Group AnyCard ghosts)). taken_of l q) (at_end c)
    ∙ link_taken l c.args.first c.args.second gs _ _ h.lone h.group z h.placed c.args.self.now.numbered
    (link_numbers c.args.first c.args.second gs _ _ h.lone h.group z h.placed numbers c.args.self.now.numbered) numbers cards

pub returns-clause-streams : goal.returns-clause-streams
returns-clause-streams c = λ xs s l.
    let gs = c.args.self.now.items.items in
    let h = found c in
    let declared : holds c.args.first (group_of c.args.first xs) ≡ true =
    holds_as c.args.first (members_in h.group) _ (first_stands c.args.first c.args.second gs xs _ _ h.lone h.group h.placed s) ∙ held_there (remove gs _) _ c.args.first h.group h.placed.place h.placed.group in
    let elsewhere : holds c.args.first (group_of c.args.second xs) ≡ false =
    holds_as c.args.first (members_in h.lone) _ (lone_stands c.args.first c.args.second gs xs _ _ h.lone h.group h.placed s) ∙ absent_first c.args.first c.args.second h.lone h.placed.lone_number h.placed.other in
    link_streams l c.args.first c.args.second gs xs s c.args.self.now.numbered declared elsewhere
