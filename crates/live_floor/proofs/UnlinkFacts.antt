-- What an unlink in its rooms is, from what the rooms tell of it.
use Rattle.std.proofs.Common.{◌≡◌, ◌≢◌, ◌≤◌, ◌<◌, ℕ, List, length, true, false, inl, inr, refl, subst}
use Rattle.std.specs.Option.{is_none}
use Rattle.std.specs.Prelude.{IfSome}
use Rattle.std.specs.declared.option.Option.{Option}
use Rattle.std.specs.declared.option.Option.TheVariants.{Some}
use Rattle.pcm_base.specs.declared.call.Event.{Event}
use Rattle.pcm_base.specs.declared.config.CardModel.{CardModel}
use Rattle.pcm_base.specs.declared.ids.SubId.{SubId}
use Rattle.pcm_base.specs.declared.state.Dir.{Dir}
use Rattle.pcm_base.specs.model.Replay.{is_member}
use Rattle.pcm_base.specs.model.Stream.{Member}
use Rattle.pcm_stream.specs.Members.{numbers_of}
use Rattle.room_book.specs.Rooms.{fresh_streams}
use Rattle.room_parts.specs.Passes.{IsBy, PassView, client_of as caller_of}
use Rattle.room_parts.specs.Recs.{RecView}
use Rattle.room_parts.specs.declared.pass.Caller.{Caller}
use Rattle.room_parts.specs.declared.pass.Caller.TheVariants.{Client, Card}
use Rattle.room_lock.specs.declared.answer.Answer.{Answer}
use Rattle.room_lock.specs.declared.answer.Answer.TheVariants.{Done, LogFull, Memory}
use Rattle.room_lock.specs.Answers.{OnDone, OnFull, OnMemory, log_in}
use Rattle.room_lock.specs.InRoom.{IsRoomOf, RoomView}
use Rattle.room_lock.specs.Leaving.{IsLeaving, gone_home, left_by}
use Rattle.room_lock.specs.Met.{stay}
use Rattle.room_lock.specs.Parting.{IsParting, at_home, left_home}
use Rattle.room_lock.specs.Ready.{IsFull}
use Rattle.room_lock.specs.Refused.{IsRefused}
use Rattle.room_lock.specs.Staying.{IsUnlinkRefused}
use Rattle.live_floor.specs.Turns.{IsRefusedInRoom, IsRoomWith}
use Rattle.live_floor.specs.Unlinks.{IsHomeOf, IsUnlinkOfRooms, unlink_from}

module _ (cards : List (CardModel × Dir)) (long_max : ℕ) (e : Event) (p : PassView) (v v' : RoomView) (xs : List Member) (before : IsRoomWith cards long_max e.sub v xs) where
  pub stays_in : (answer : Answer) → v.number < 16
      → ((k : ℕ) → IsFull k v.recs → OnDone answer (λ reply receipt woken. ⊥) × OnMemory answer ⊥)
      → OnDone answer (λ reply receipt woken. IsRoomOf (fresh_streams cards long_max) (length cards) v' xs)
      → OnDone answer (λ reply receipt woken. IsUnlinkRefused e p.knows v v' xs reply woken)
      → OnDone answer (λ reply receipt woken. (receipt.sub ≡ e.sub) × (receipt.index ≡ length (log_in e.sub v.recs)))
      → OnDone answer (λ reply receipt woken. IsUnlinkOfRooms cards long_max e p.knows reply receipt woken)
  stays_in (Done reply receipt woken) alone full after refusal index = inl (
    v,
    v',
    xs,
    record {
      before = before;
      alone = alone;
      none_full = λ k f. (full k f).0;
      refusal = refusal;
      index = index.1;
      after = after;
    },
  )
  stays_in (LogFull sub count) alone full after refusal index = tt
  stays_in Memory alone full after refusal index = tt

  pub leaves_in : (a a' : RoomView) (answer : Answer) → 3 ≤ length v.members → IsHomeOf e.sub a
      → ((k : ℕ) → IsFull k v.recs → OnDone answer (λ reply receipt woken. ⊥) × OnMemory answer ⊥)
      → OnDone answer (λ reply receipt woken. IsRoomOf (fresh_streams cards long_max) (length cards) v' (left_by reply e.sub xs) × IsRoomOf (fresh_streams cards long_max) (length cards) a' (gone_home reply e.sub xs))
      → OnDone answer (λ reply receipt woken. IsLeaving e p.knows v v' a a' xs reply woken)
      → OnDone answer (λ reply receipt woken. (receipt.sub ≡ e.sub) × (receipt.index ≡ length (log_in e.sub v.recs)))
      → OnDone answer (λ reply receipt woken. IsUnlinkOfRooms cards long_max e p.knows reply receipt woken)
  leaves_in a a' (Done reply receipt woken) three own full after leaving index = inr (inl (
    v,
    v',
    a,
    a',
    xs,
    record {
      before = before;
      three = three;
      own = own;
      none_full = λ k f. (full k f).0;
      leaving = leaving;
      index = index.1;
      after = after.0;
      own_after = after.1;
    },
  ))
  leaves_in a a' (LogFull sub count) three own full after leaving index = tt
  leaves_in a a' Memory three own full after leaving index = tt

  pub parts_in : (a a' b b' : RoomView) (answer : Answer) → length v.members ≡ 2 → IsHomeOf e.sub a
      → (is_member (at_home b) (numbers_of v.members) ≡ true) × (b.number ≢ e.sub.0) × IsHomeOf (at_home b) b
      → ((k : ℕ) → IsFull k v.recs → OnDone answer (λ reply receipt woken. ⊥) × OnMemory answer ⊥)
      → OnDone answer (λ reply receipt woken. IsRoomOf (fresh_streams cards long_max) (length cards) v' (stay reply xs) × IsRoomOf (fresh_streams cards long_max) (length cards) a' (gone_home reply e.sub xs) × IsRoomOf (fresh_streams cards long_max) (length cards) b' (left_home reply e.sub xs))
      → OnDone answer (λ reply receipt woken. IsParting e p.knows v v' a a' b b' xs reply woken)
      → OnDone answer (λ reply receipt woken. (receipt.sub ≡ e.sub) × (receipt.index ≡ length (log_in e.sub v.recs)))
      → OnDone answer (λ reply receipt woken. IsUnlinkOfRooms cards long_max e p.knows reply receipt woken)
  parts_in a a' b b' (Done reply receipt woken) two own other full after parting index = inr (inr (
    v,
    v',
    a,
    a',
    b,
    b',
    xs,
    record {
      before = before;
      two = two;
      own = own;
      other = other;
      none_full = λ k f. (full k f).0;
      parting = parting;
      index = index.1;
      after = after.0;
      own_after = after.1;
      other_after = after.2;
    },
  ))
  parts_in a a' b b' (LogFull sub count) two own other full after parting index = tt
  parts_in a a' b b' Memory two own other full after parting index = tt

  pub full_room : (answer : Answer) (q : PassView) (now : List RecView)
      → OnFull answer (λ sub count. (k : ℕ) × IsRefused k v.recs now p q sub count)
      → OnFull answer (λ sub count. IsRefusedInRoom cards long_max e p q sub count)
  full_room (LogFull sub count) q now h = (v, xs, now, h.0, before, h.1)
  full_room (Done reply receipt woken) q now h = tt
  full_room Memory q now h = tt

-- an unlink from a client is by that client
pub by_client : (c : Caller) (k : SubId) → is_none (caller_of c) ≡ false → IsBy c (unlink_from c k)
by_client (Client c) k h = refl
by_client (Card s) k h = absurd (let no : ⊥ = cc in no)

-- ---- the same of equal events and passes

module _ (cards : List (CardModel × Dir)) (long_max : ℕ) (e d : Event) (p q : PassView) (found : Option Answer) (a : Answer) (is : found ≡ Some a) (event : e ≡ d) (pass : p ≡ q) where
  pub same_unlink : IfSome found (λ b. OnDone b (λ reply receipt woken. IsUnlinkOfRooms cards long_max e p.knows reply receipt woken)) → OnDone a (λ reply receipt woken. IsUnlinkOfRooms cards long_max d q.knows reply receipt woken)
  same_unlink h =
      let one = subst (λ o. IfSome o (λ b. OnDone b (λ reply receipt woken. IsUnlinkOfRooms cards long_max e p.knows reply receipt woken))) is h in
      let two = subst (λ x. OnDone a (λ reply receipt woken. IsUnlinkOfRooms cards long_max x p.knows reply receipt woken)) event one in
      subst (λ x. OnDone a (λ reply receipt woken. IsUnlinkOfRooms cards long_max d x.knows reply receipt woken)) pass two
