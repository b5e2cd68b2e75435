-- What a link on a floor is, of the rooms that it finds. This project's own.
use Rattle.std.specs.Prelude.{◌≡◌, ◌≢◌, ◌⊎◌, ℕ, nat_le, ◌≤◌, ◌<◌, List, [], true, false, length}
use Rattle.pcm_base.specs.declared.call.Call.TheVariants as call
use Rattle.pcm_base.specs.declared.call.Event.{Event}
use Rattle.pcm_base.specs.declared.config.CardModel.{CardModel}
use Rattle.pcm_base.specs.declared.ids.SubId.{SubId}
use Rattle.pcm_base.specs.declared.reply.Reply.{Reply}
use Rattle.pcm_base.specs.declared.state.Dir.{Dir}
use Rattle.pcm_base.specs.model.Group.{stream_of}
use Rattle.pcm_base.specs.model.Replay.{is_member}
use Rattle.pcm_base.specs.model.Stream.{Member as ModelMember}
use Rattle.pcm_stream.specs.Members.{numbers_of}
use Rattle.floor_rule.specs.declared.rule.PassKnows.{PassKnows}
use Rattle.room_book.specs.Logs.{client_of}
use Rattle.room_book.specs.Rooms.{fresh_streams}
use Rattle.room_parts.specs.Passes.{PassView, client_of as client_by}
use Rattle.room_parts.specs.Recs.{RecView}
use Rattle.room_parts.specs.declared.calling.Linked.{Linked}
use Rattle.room_parts.specs.declared.pass.Caller.{Caller}
use Rattle.room_lock.specs.Answers.{log_in}
use Rattle.room_lock.specs.InRoom.{IsRoomOf, RoomView}
use Rattle.room_lock.specs.Joining.{IsJoining, joined_by}
use Rattle.room_lock.specs.Linked.{link_of, linked_to}
use Rattle.room_lock.specs.Met.{IsMeeting, met, stay}
use Rattle.room_lock.specs.Ready.{IsFull}
use Rattle.room_lock.specs.Refused.{AreFull, AreRefused}
use Rattle.room_lock.specs.Staying.{IsLinkRefused, lone_link}
use Rattle.room_lock.specs.Within.{IsLinkWithin}
use Rattle.room_lock.specs.declared.recording.Receipt.{Receipt}
use Rattle.live_floor.specs.Turns.{IsRefusedInRoom, IsRoomWith}

-- a link of j to the group of k, by this caller
abbrev pub link_from : Caller → SubId → SubId → Event
link_from c k j = record { client = client_by c; sub = k; call = call.Link j }

-- the link as its entries tell it, where its substreams have these streams, the second in a room of this number
abbrev pub link_between : Event → List ModelMember → List ModelMember → ℕ → Linked
link_between e xs ys number = link_of (client_of e.client) e.sub (linked_to e.call) (stream_of e.sub xs).state (stream_of (linked_to e.call) ys).state (nat_le 16 number)

-- The two stood alone, in the rooms v and w, and nobody stood in u. The link leaves the three as v', w' and u', by its answer: both stand in u', or each where it stood.
pub record IsMeetingOf (cards : List (CardModel × Dir)) (long_max : ℕ) (e : Event) (p : PassKnows) (reply : Reply) (receipt : Receipt) (woken : ℕ) (v v' w w' u u' : RoomView) (xs ys : List ModelMember) : Type 0 where
  pub first : IsRoomWith cards long_max e.sub v xs
  pub second : IsRoomWith cards long_max (linked_to e.call) w ys
  pub alone : (v.number < 16) × (w.number < 16)
  pub apart : v.number ≢ w.number
  pub empty : (u.members ≡ []) × (16 ≤ u.number) × (u.number < 32)
  pub none_full : AreFull v.recs w.recs → ⊥
  pub meeting : IsMeeting (link_of (client_of e.client) e.sub (linked_to e.call) (stream_of e.sub xs).state (stream_of (linked_to e.call) ys).state false) p v v' w w' u u' xs ys reply woken
  pub index : receipt.index ≡ length (log_in e.sub v.recs)
  pub first_after : IsRoomOf (fresh_streams cards long_max) (length cards) v' (stay reply xs)
  pub second_after : IsRoomOf (fresh_streams cards long_max) (length cards) w' (stay reply ys)
  pub group_after : IsRoomOf (fresh_streams cards long_max) (length cards) u' (met reply xs ys)

-- The two stood in the rooms v and w, of which at least one had a group. The link leaves these as v' and w', by its answer: the second stands in v' too, or each where it stood.
pub record IsJoiningOf (cards : List (CardModel × Dir)) (long_max : ℕ) (e : Event) (p : PassKnows) (reply : Reply) (receipt : Receipt) (woken : ℕ) (v v' w w' : RoomView) (xs ys : List ModelMember) : Type 0 where
  pub first : IsRoomWith cards long_max e.sub v xs
  pub second : IsRoomWith cards long_max (linked_to e.call) w ys
  pub apart : is_member (linked_to e.call) (numbers_of v.members) ≡ false
  pub group : (16 ≤ v.number) ⊎ (16 ≤ w.number)
  pub none_full : AreFull v.recs w.recs → ⊥
  pub joining : IsJoining (link_between e xs ys w.number) p v v' w w' xs ys reply woken
  pub index : receipt.index ≡ length (log_in e.sub v.recs)
  pub first_after : IsRoomOf (fresh_streams cards long_max) (length cards) v' (joined_by reply xs ys)
  pub second_after : IsRoomOf (fresh_streams cards long_max) (length cards) w' (stay reply ys)

-- The link named the same substream twice, or a second that is no card of the floor. It was refused, and the room is v'.
pub record IsLoneLinkOf (cards : List (CardModel × Dir)) (long_max : ℕ) (e : Event) (p : PassKnows) (reply : Reply) (receipt : Receipt) (woken : ℕ) (v v' : RoomView) (xs : List ModelMember) : Type 0 where
  pub first : IsRoomWith cards long_max e.sub v xs
  pub alone : ((linked_to e.call).0 ≡ e.sub.0) ⊎ (length cards ≤ (linked_to e.call).0)
  pub none_full : (k : ℕ) → IsFull k v.recs → ⊥
  pub refusal : IsLinkRefused (lone_link (client_of e.client) e.sub (linked_to e.call) (stream_of e.sub xs).state v.number) p v v' xs reply woken
  pub index : receipt.index ≡ length (log_in e.sub v.recs)
  pub after : IsRoomOf (fresh_streams cards long_max) (length cards) v' xs

-- Both stood in the room v, and the link did not name one of them twice. It was refused, and the room is v'.
pub record IsInnerLinkOf (cards : List (CardModel × Dir)) (long_max : ℕ) (e : Event) (p : PassKnows) (reply : Reply) (receipt : Receipt) (woken : ℕ) (v v' : RoomView) (xs : List ModelMember) : Type 0 where
  pub first : IsRoomWith cards long_max e.sub v xs
  pub second : is_member (linked_to e.call) (numbers_of v.members) ≡ true
  pub apart : e.sub.0 ≢ (linked_to e.call).0
  pub none_full : (k : ℕ) → IsFull k v.recs → ⊥
  pub refusal : IsLinkWithin (link_of (client_of e.client) e.sub (linked_to e.call) (stream_of e.sub xs).state (stream_of (linked_to e.call) xs).state true) p v v' xs reply woken
  pub index : receipt.index ≡ length (log_in e.sub v.recs)
  pub after : IsRoomOf (fresh_streams cards long_max) (length cards) v' xs

-- there were such rooms

abbrev pub IsMeetingOfRooms : List (CardModel × Dir) → ℕ → Event → PassKnows → Reply → Receipt → ℕ → Type 0
IsMeetingOfRooms cards long_max e p reply receipt woken = (v v' w w' u u' : RoomView) × (xs ys : List ModelMember) × IsMeetingOf cards long_max e p reply receipt woken v v' w w' u u' xs ys

abbrev pub IsJoiningOfRooms : List (CardModel × Dir) → ℕ → Event → PassKnows → Reply → Receipt → ℕ → Type 0
IsJoiningOfRooms cards long_max e p reply receipt woken = (v v' w w' : RoomView) × (xs ys : List ModelMember) × IsJoiningOf cards long_max e p reply receipt woken v v' w w' xs ys

abbrev pub IsLoneLinkOfRoom : List (CardModel × Dir) → ℕ → Event → PassKnows → Reply → Receipt → ℕ → Type 0
IsLoneLinkOfRoom cards long_max e p reply receipt woken = (v v' : RoomView) × (xs : List ModelMember) × IsLoneLinkOf cards long_max e p reply receipt woken v v' xs

abbrev pub IsInnerLinkOfRoom : List (CardModel × Dir) → ℕ → Event → PassKnows → Reply → Receipt → ℕ → Type 0
IsInnerLinkOfRoom cards long_max e p reply receipt woken = (v v' : RoomView) × (xs : List ModelMember) × IsInnerLinkOf cards long_max e p reply receipt woken v v' xs

abbrev pub IsLinkOfRooms : List (CardModel × Dir) → ℕ → Event → PassKnows → Reply → Receipt → ℕ → Type 0
IsLinkOfRooms cards long_max e p reply receipt woken =
    IsMeetingOfRooms cards long_max e p reply receipt woken
    ⊎ (IsJoiningOfRooms cards long_max e p reply receipt woken ⊎ (IsLoneLinkOfRoom cards long_max e p reply receipt woken ⊎ IsInnerLinkOfRoom cards long_max e p reply receipt woken))

-- there were two rooms with the substreams, the first full log of which, those of the first room before those of the second, is that of sub, with this count: the pass has read its page
abbrev pub AreRefusedInRooms : List (CardModel × Dir) → ℕ → Event → PassView → PassView → SubId → ℕ → Type 0
AreRefusedInRooms cards long_max e p q sub count = (v w : RoomView) × (xs ys : List ModelMember) × (now now2 : List RecView)
    × IsRoomWith cards long_max e.sub v xs × IsRoomWith cards long_max (linked_to e.call) w ys × AreRefused v.recs now w.recs now2 p q sub count

-- the same of the one room that a link touches, or of two
abbrev pub IsLinkFull : List (CardModel × Dir) → ℕ → Event → PassView → PassView → SubId → ℕ → Type 0
IsLinkFull cards long_max e p q sub count = AreRefusedInRooms cards long_max e p q sub count ⊎ IsRefusedInRoom cards long_max e p q sub count
