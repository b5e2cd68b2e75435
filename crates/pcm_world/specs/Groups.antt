-- The groups of a world: their numbers, where each substream stands among them, and the groups of the model that they stand for.
use Rattle.std.specs.Prelude.{◌≡◌, ◌<◌, ◌≤◌, ℕ, Bool, true, false, ◌&&◌, nat_eq, nat_lt, List, [], ◌∷◌, ◌++◌, length, map, slice_get, ◌+◌, if◌then◌else◌}
use Rattle.std.specs.declared.option.Option.{Option}
use Rattle.std.specs.declared.option.Option.TheVariants.{Some, None}
use Rattle.pcm_base.specs.declared.call.Call.{Call}
use Rattle.pcm_base.specs.declared.card.Card.{Ghosts}
use Rattle.pcm_base.specs.declared.ids.SubId.{SubId}
use Rattle.pcm_base.specs.declared.ids.ClientId.{ClientId}
use Rattle.pcm_base.specs.model.Events.{waiting_of}
use Rattle.pcm_base.specs.model.Replay.{is_member}
use Rattle.pcm_base.specs.model.Sleep.{wake, woken}
use Rattle.pcm_base.specs.model.Stream.{Member as ModelMember}
use Rattle.pcm_base.specs.model.World.{apart, group_of, only_member, with_group, without_group, without_member}
use Rattle.pcm_stream.specs.Members.{all_differ, numbers_of}
use Rattle.pcm_stream.specs.declared.members.Member.{Member}
use Rattle.pcm_stream.specs.MembersStand.{AllStandFor}
use Rattle.pcm_stream.specs.StandsFor.{card_of}
use Rattle.pcm_group.specs.declared.group.Group.{Group}
use Rattle.pcm_group.specs.Inside.{members_in}
use Rattle.pcm_group.specs.Waiting.{is_its_own}

-- the numbers of each group's members, in link order
abbrev pub numbers_in : {C : Type 0} {g : Ghosts C} → List (Group C g) → List (List SubId)
numbers_in gs = map (λ x. numbers_of (members_in x)) gs

-- the numbers of all groups
abbrev pub all_numbers : List (List SubId) → List SubId
all_numbers [] = []
all_numbers (ks ∷ kss) = ks ++ all_numbers kss

-- the place of the group that has a substream, where the first is the n-th
abbrev pub place_from : ℕ → SubId → List (List SubId) → Option ℕ
place_from n k [] = None
place_from n k (ks ∷ kss) = if is_member k ks then Some n else place_from (n + 1) k kss

abbrev pub place_in : SubId → List (List SubId) → Option ℕ
place_in k kss = place_from 0 k kss

-- Each of the sixteen places tells the group of its substream.
abbrev pub ArePlaces : List (Option ℕ) → List (List SubId) → Type 0
ArePlaces places kss = (k : ℕ) → k < 16 → slice_get places k ≡ Some (place_in (record { 0 = k }) kss)

-- each number is below sixteen
abbrev pub are_below : List SubId → Bool
are_below [] = true
are_below (k ∷ ks) = nat_lt k.0 16 && are_below ks

-- No two members have one number, and each number is below sixteen.
pub record AreNumbers (kss : List (List SubId)) : Type 0 where
  pub distinct : all_differ (all_numbers kss) ≡ true
  pub below : are_below (all_numbers kss) ≡ true

-- Each group stands for the group of the model in its place.
abbrev pub GroupsStand : {C : Type 0} {g : Ghosts C} → List (Group C g) → List (List ModelMember) → Type 0
GroupsStand [] [] = Unit {0}
GroupsStand [] (ms ∷ xs) = ⊥
GroupsStand (x ∷ gs) [] = ⊥
GroupsStand (x ∷ gs) (ms ∷ xs) = AllStandFor (members_in x) ms × GroupsStand gs xs

-- no call of the client is in progress on these members but the one that goes on with this event of k
abbrev pub AreFreeFor : Call → SubId → ClientId → List ModelMember → Type 0
AreFreeFor e k c [] = Unit {0}
AreFreeFor e k c (m ∷ ms) = (is_its_own e k m.sub ≡ false → waiting_of c m.stream.sleepers ≡ None) × AreFreeFor e k c ms

-- the numbers of the group that has a substream
abbrev pub numbers_at : SubId → List (List SubId) → List SubId
numbers_at k [] = []
numbers_at k (ks ∷ kss) = if is_member k ks then ks else numbers_at k kss

-- the first is declared, and the second stands alone
pub record AreReadyToLink (k j : SubId) (kss : List (List SubId)) : Type 0 where
  pub first : is_member k (numbers_at k kss) ≡ true
  pub second : is_member j (numbers_at j kss) ≡ true
  pub alone : length (numbers_at j kss) ≡ 1

abbrev pub IsLinked : SubId → List (List SubId) → Type 0
IsLinked k kss = (is_member k (numbers_at k kss) ≡ true) × (2 ≤ length (numbers_at k kss))

-- ---- the groups of the model after a link and an unlink, and the clients that are marked awake

abbrev pub both : SubId → SubId → List (List ModelMember) → List ModelMember
both k j xs = wake (group_of k xs) ++ wake (group_of j xs)

abbrev pub linked : SubId → SubId → List (List ModelMember) → List (List ModelMember)
linked k j xs = with_group k (wake (both k j xs)) (without_group j xs)

abbrev pub linked_woken : SubId → SubId → List (List ModelMember) → List ClientId
linked_woken k j xs = woken (group_of k xs) ++ woken (group_of j xs) ++ woken (both k j xs)

abbrev pub one_of : SubId → List (List ModelMember) → List ModelMember
one_of k xs = only_member k (wake (group_of k xs))

abbrev pub others_of : SubId → List (List ModelMember) → List ModelMember
others_of k xs = without_member k (wake (group_of k xs))

abbrev pub unlinked : SubId → List (List ModelMember) → List (List ModelMember)
unlinked k xs = apart k (wake (one_of k xs)) (wake (others_of k xs)) xs

abbrev pub unlinked_woken : SubId → List (List ModelMember) → List ClientId
unlinked_woken k xs = woken (group_of k xs) ++ woken (one_of k xs) ++ woken (others_of k xs)

-- ---- what cards have taken

-- what the card of a member has taken; none where there is no such member
abbrev pub taken_by : {C : Type 0} {g : Ghosts C} → SubId → List (Member C g) → List ℕ
taken_by k [] = []
taken_by k (m ∷ ms) = if nat_eq m.sub.0 k.0 then (card_of m.stream).taken else taken_by k ms

abbrev pub taken_of : {C : Type 0} {g : Ghosts C} → SubId → List (Group C g) → List ℕ
taken_of k [] = []
taken_of k (x ∷ gs) = if is_member k (numbers_of (members_in x)) then taken_by k (members_in x) else taken_of k gs
