-- What an unlink on a floor is, of the rooms that it finds. This project's own.
use Rattle.std.specs.Prelude.{◌≡◌, ◌≢◌, ◌⊎◌, ℕ, ◌≤◌, ◌<◌, List, [], true, length}
use Rattle.pcm_base.specs.declared.call.Call.TheVariants as call
use Rattle.pcm_base.specs.declared.call.Event.{Event}
use Rattle.pcm_base.specs.declared.config.CardModel.{CardModel}
use Rattle.pcm_base.specs.declared.ids.SubId.{SubId}
use Rattle.pcm_base.specs.declared.reply.Reply.{Reply}
use Rattle.pcm_base.specs.declared.state.Dir.{Dir}
use Rattle.pcm_base.specs.model.Replay.{is_member}
use Rattle.pcm_base.specs.model.Stream.{Member as ModelMember}
use Rattle.pcm_stream.specs.Members.{numbers_of}
use Rattle.floor_rule.specs.declared.rule.PassKnows.{PassKnows}
use Rattle.room_book.specs.Rooms.{fresh_streams}
use Rattle.room_parts.specs.Passes.{client_of as client_by}
use Rattle.room_parts.specs.declared.pass.Caller.{Caller}
use Rattle.room_lock.specs.Answers.{log_in}
use Rattle.room_lock.specs.InRoom.{IsRoomOf, RoomView}
use Rattle.room_lock.specs.Leaving.{IsLeaving, gone_home, left_by}
use Rattle.room_lock.specs.Met.{stay}
use Rattle.room_lock.specs.Parting.{IsParting, at_home, left_home}
use Rattle.room_lock.specs.Ready.{IsFull}
use Rattle.room_lock.specs.Staying.{IsUnlinkRefused}
use Rattle.room_lock.specs.declared.recording.Receipt.{Receipt}
use Rattle.live_floor.specs.Turns.{IsRoomWith}

-- an unlink of k, by this caller
abbrev pub unlink_from : Caller → SubId → Event
unlink_from c k = record { client = client_by c; sub = k; call = call.Unlink }

-- the room is that in which k stands while it is not linked, and nobody stands in it
abbrev pub IsHomeOf : SubId → RoomView → Type 0
IsHomeOf k a = (a.number ≡ k.0) × (a.number < 16) × (a.members ≡ [])

-- It stood alone, in the room v. The unlink was refused, and the room is v'.
pub record IsLoneUnlinkOf (cards : List (CardModel × Dir)) (long_max : ℕ) (e : Event) (p : PassKnows) (reply : Reply) (receipt : Receipt) (woken : ℕ) (v v' : RoomView) (xs : List ModelMember) : Type 0 where
  pub before : IsRoomWith cards long_max e.sub v xs
  pub alone : v.number < 16
  pub none_full : (k : ℕ) → IsFull k v.recs → ⊥
  pub refusal : IsUnlinkRefused e p v v' xs reply woken
  pub index : receipt.index ≡ length (log_in e.sub v.recs)
  pub after : IsRoomOf (fresh_streams cards long_max) (length cards) v' xs

-- It stood in the room v with two others or more, and a is its own room. The unlink leaves these as v' and a', by its answer: it stands in a', or where it stood.
pub record IsLeavingOf (cards : List (CardModel × Dir)) (long_max : ℕ) (e : Event) (p : PassKnows) (reply : Reply) (receipt : Receipt) (woken : ℕ) (v v' a a' : RoomView) (xs : List ModelMember) : Type 0 where
  pub before : IsRoomWith cards long_max e.sub v xs
  pub three : 3 ≤ length v.members
  pub own : IsHomeOf e.sub a
  pub none_full : (k : ℕ) → IsFull k v.recs → ⊥
  pub leaving : IsLeaving e p v v' a a' xs reply woken
  pub index : receipt.index ≡ length (log_in e.sub v.recs)
  pub after : IsRoomOf (fresh_streams cards long_max) (length cards) v' (left_by reply e.sub xs)
  pub own_after : IsRoomOf (fresh_streams cards long_max) (length cards) a' (gone_home reply e.sub xs)

-- It stood in the room v with one other, and a and b are their own rooms. The unlink leaves the three as v', a' and b', by its answer: each stands in its own, or both where they stood.
pub record IsPartingOf (cards : List (CardModel × Dir)) (long_max : ℕ) (e : Event) (p : PassKnows) (reply : Reply) (receipt : Receipt) (woken : ℕ) (v v' a a' b b' : RoomView) (xs : List ModelMember) : Type 0 where
  pub before : IsRoomWith cards long_max e.sub v xs
  pub two : length v.members ≡ 2
  pub own : IsHomeOf e.sub a
  pub other : (is_member (at_home b) (numbers_of v.members) ≡ true) × (b.number ≢ e.sub.0) × IsHomeOf (at_home b) b
  pub none_full : (k : ℕ) → IsFull k v.recs → ⊥
  pub parting : IsParting e p v v' a a' b b' xs reply woken
  pub index : receipt.index ≡ length (log_in e.sub v.recs)
  pub after : IsRoomOf (fresh_streams cards long_max) (length cards) v' (stay reply xs)
  pub own_after : IsRoomOf (fresh_streams cards long_max) (length cards) a' (gone_home reply e.sub xs)
  pub other_after : IsRoomOf (fresh_streams cards long_max) (length cards) b' (left_home reply e.sub xs)

-- there were such rooms

abbrev pub IsLoneUnlinkOfRoom : List (CardModel × Dir) → ℕ → Event → PassKnows → Reply → Receipt → ℕ → Type 0
IsLoneUnlinkOfRoom cards long_max e p reply receipt woken = (v v' : RoomView) × (xs : List ModelMember) × IsLoneUnlinkOf cards long_max e p reply receipt woken v v' xs

abbrev pub IsLeavingOfRooms : List (CardModel × Dir) → ℕ → Event → PassKnows → Reply → Receipt → ℕ → Type 0
IsLeavingOfRooms cards long_max e p reply receipt woken = (v v' a a' : RoomView) × (xs : List ModelMember) × IsLeavingOf cards long_max e p reply receipt woken v v' a a' xs

abbrev pub IsPartingOfRooms : List (CardModel × Dir) → ℕ → Event → PassKnows → Reply → Receipt → ℕ → Type 0
IsPartingOfRooms cards long_max e p reply receipt woken = (v v' a a' b b' : RoomView) × (xs : List ModelMember) × IsPartingOf cards long_max e p reply receipt woken v v' a a' b b' xs

abbrev pub IsUnlinkOfRooms : List (CardModel × Dir) → ℕ → Event → PassKnows → Reply → Receipt → ℕ → Type 0
IsUnlinkOfRooms cards long_max e p reply receipt woken =
    IsLoneUnlinkOfRoom cards long_max e p reply receipt woken ⊎ (IsLeavingOfRooms cards long_max e p reply receipt woken ⊎ IsPartingOfRooms cards long_max e p reply receipt woken)
