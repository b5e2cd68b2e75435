-- What a link in its rooms is, from what the rooms tell of it.
use Rattle.std.proofs.Common.{◌≡◌, ◌≢◌, ◌⊎◌, ◌≤◌, ◌<◌, ℕ, List, [], length, true, false, inl, inr, refl, subst}
use Rattle.std.specs.Option.{is_none}
use Rattle.std.specs.Prelude.{IfSome}
use Rattle.std.specs.declared.option.Option.{Option}
use Rattle.std.specs.declared.option.Option.TheVariants.{Some}
use Rattle.pcm_base.specs.declared.call.Event.{Event}
use Rattle.pcm_base.specs.declared.config.CardModel.{CardModel}
use Rattle.pcm_base.specs.declared.state.Dir.{Dir}
use Rattle.pcm_base.specs.model.Group.{stream_of}
use Rattle.pcm_base.specs.model.Replay.{is_member}
use Rattle.pcm_base.specs.model.Stream.{Member}
use Rattle.pcm_stream.specs.Members.{numbers_of}
use Rattle.room_book.specs.Logs.{client_of}
use Rattle.room_book.specs.Rooms.{fresh_streams}
use Rattle.pcm_base.specs.declared.ids.SubId.{SubId}
use Rattle.room_parts.specs.Passes.{IsBy, PassView, client_of as caller_of}
use Rattle.room_parts.specs.declared.pass.Caller.{Caller}
use Rattle.room_parts.specs.declared.pass.Caller.TheVariants.{Client, Card}
use Rattle.room_parts.specs.Recs.{RecView}
use Rattle.room_lock.specs.declared.answer.Answer.{Answer}
use Rattle.room_lock.specs.declared.answer.Answer.TheVariants.{Done, LogFull, Memory}
use Rattle.room_lock.specs.Answers.{OnDone, OnFull, OnMemory, log_in}
use Rattle.room_lock.specs.InRoom.{IsRoomOf, RoomView}
use Rattle.room_lock.specs.Joining.{IsJoining, joined_by}
use Rattle.room_lock.specs.Linked.{link_of, linked_to}
use Rattle.room_lock.specs.Met.{IsMeeting, met, stay}
use Rattle.room_lock.specs.Ready.{IsFull}
use Rattle.room_lock.specs.Refused.{AreFull, AreRefused, IsRefused}
use Rattle.room_lock.specs.Staying.{IsLinkRefused, lone_link}
use Rattle.room_lock.specs.Within.{IsLinkWithin}
use Rattle.live_floor.specs.Links.{IsLinkFull, IsLinkOfRooms, link_between, link_from}
use Rattle.live_floor.specs.Turns.{IsRoomWith}

module _ (cards : List (CardModel × Dir)) (long_max : ℕ) (e : Event) (p q : PassView) (v v' w w' : RoomView) (xs ys : List Member) (first : IsRoomWith cards long_max e.sub v xs) (second : IsRoomWith cards long_max (linked_to e.call) w ys) where
  pub met_in : (u u' : RoomView) (a : Answer) → (v.number < 16) × (w.number < 16) → v.number ≢ w.number → (u.members ≡ []) × (16 ≤ u.number) × (u.number < 32)
      → (AreFull v.recs w.recs → OnDone a (λ reply receipt woken. ⊥) × OnMemory a ⊥)
      → OnDone a (λ reply receipt woken. IsRoomOf (fresh_streams cards long_max) (length cards) v' (stay reply xs) × IsRoomOf (fresh_streams cards long_max) (length cards) w' (stay reply ys) × IsRoomOf (fresh_streams cards long_max) (length cards) u' (met reply xs ys))
      → OnDone a (λ reply receipt woken. IsMeeting (link_of (client_of e.client) e.sub (linked_to e.call) (stream_of e.sub xs).state (stream_of (linked_to e.call) ys).state false) p.knows v v' w w' u u' xs ys reply woken)
      → OnDone a (λ reply receipt woken. (receipt.sub ≡ e.sub) × (receipt.index ≡ length (log_in e.sub v.recs)))
      → OnDone a (λ reply receipt woken. IsLinkOfRooms cards long_max e p.knows reply receipt woken)
  met_in u u' (Done reply receipt woken) alone apart empty full after meeting index = inl (
    v,
    v',
    w,
    w',
    u,
    u',
    xs,
    ys,
    record {
      first = first;
      second = second;
      alone = alone;
      apart = apart;
      empty = empty;
      none_full = λ f. (full f).0;
      meeting = meeting;
      index = index.1;
      first_after = after.0;
      second_after = after.1;
      group_after = after.2;
    },
  )
  met_in u u' (LogFull sub count) alone apart empty full after meeting index = tt
  met_in u u' Memory alone apart empty full after meeting index = tt

  pub joined_in : (a : Answer) → is_member (linked_to e.call) (numbers_of v.members) ≡ false → (16 ≤ v.number) ⊎ (16 ≤ w.number)
      → (AreFull v.recs w.recs → OnDone a (λ reply receipt woken. ⊥) × OnMemory a ⊥)
      → OnDone a (λ reply receipt woken. IsRoomOf (fresh_streams cards long_max) (length cards) v' (joined_by reply xs ys) × IsRoomOf (fresh_streams cards long_max) (length cards) w' (stay reply ys))
      → OnDone a (λ reply receipt woken. IsJoining (link_between e xs ys w.number) p.knows v v' w w' xs ys reply woken)
      → OnDone a (λ reply receipt woken. (receipt.sub ≡ e.sub) × (receipt.index ≡ length (log_in e.sub v.recs)))
      → OnDone a (λ reply receipt woken. IsLinkOfRooms cards long_max e p.knows reply receipt woken)
  joined_in (Done reply receipt woken) apart group full after joining index = inr (inl (
    v,
    v',
    w,
    w',
    xs,
    ys,
    record {
      first = first;
      second = second;
      apart = apart;
      group = group;
      none_full = λ f. (full f).0;
      joining = joining;
      index = index.1;
      first_after = after.0;
      second_after = after.1;
    },
  ))
  joined_in (LogFull sub count) apart group full after joining index = tt
  joined_in Memory apart group full after joining index = tt

  pub full_in : (a : Answer) (now now2 : List RecView)
      → OnFull a (λ sub count. AreRefused v.recs now w.recs now2 p q sub count)
      → OnFull a (λ sub count. IsLinkFull cards long_max e p q sub count)
  full_in (LogFull sub count) now now2 h = inl (v, w, xs, ys, now, now2, first, second, h)
  full_in (Done reply receipt woken) now now2 h = tt
  full_in Memory now now2 h = tt

module _ (cards : List (CardModel × Dir)) (long_max : ℕ) (e : Event) (p : PassView) (v v' : RoomView) (xs : List Member) (first : IsRoomWith cards long_max e.sub v xs) where
  pub refused_in : (a : Answer) → ((linked_to e.call).0 ≡ e.sub.0) ⊎ (length cards ≤ (linked_to e.call).0)
      → ((k : ℕ) → IsFull k v.recs → OnDone a (λ reply receipt woken. ⊥) × OnMemory a ⊥)
      → OnDone a (λ reply receipt woken. IsRoomOf (fresh_streams cards long_max) (length cards) v' xs)
      → OnDone a (λ reply receipt woken. IsLinkRefused (lone_link (client_of e.client) e.sub (linked_to e.call) (stream_of e.sub xs).state v.number) p.knows v v' xs reply woken)
      → OnDone a (λ reply receipt woken. (receipt.sub ≡ e.sub) × (receipt.index ≡ length (log_in e.sub v.recs)))
      → OnDone a (λ reply receipt woken. IsLinkOfRooms cards long_max e p.knows reply receipt woken)
  refused_in (Done reply receipt woken) alone full after refusal index = inr (inr (inl (
    v,
    v',
    xs,
    record {
      first = first;
      alone = alone;
      none_full = λ k f. (full k f).0;
      refusal = refusal;
      index = index.1;
      after = after;
    },
  )))
  refused_in (LogFull sub count) alone full after refusal index = tt
  refused_in Memory alone full after refusal index = tt

  pub both_refused_in : (a : Answer) → is_member (linked_to e.call) (numbers_of v.members) ≡ true → e.sub.0 ≢ (linked_to e.call).0
      → ((k : ℕ) → IsFull k v.recs → OnDone a (λ reply receipt woken. ⊥) × OnMemory a ⊥)
      → OnDone a (λ reply receipt woken. IsRoomOf (fresh_streams cards long_max) (length cards) v' xs)
      → OnDone a (λ reply receipt woken. IsLinkWithin (link_of (client_of e.client) e.sub (linked_to e.call) (stream_of e.sub xs).state (stream_of (linked_to e.call) xs).state true) p.knows v v' xs reply woken)
      → OnDone a (λ reply receipt woken. (receipt.sub ≡ e.sub) × (receipt.index ≡ length (log_in e.sub v.recs)))
      → OnDone a (λ reply receipt woken. IsLinkOfRooms cards long_max e p.knows reply receipt woken)
  both_refused_in (Done reply receipt woken) there apart full after refusal index = inr (inr (inr (
    v,
    v',
    xs,
    record {
      first = first;
      second = there;
      apart = apart;
      none_full = λ k f. (full k f).0;
      refusal = refusal;
      index = index.1;
      after = after;
    },
  )))
  both_refused_in (LogFull sub count) there apart full after refusal index = tt
  both_refused_in Memory there apart full after refusal index = tt

  pub full_one : (a : Answer) (q : PassView) (now : List RecView)
      → OnFull a (λ sub count. (k : ℕ) × IsRefused k v.recs now p q sub count)
      → OnFull a (λ sub count. IsLinkFull cards long_max e p q sub count)
  full_one (LogFull sub count) q now h = inr (v, xs, now, h.0, first, h.1)
  full_one (Done reply receipt woken) q now h = tt
  full_one Memory q now h = tt

-- a link from a client is by that client
pub by_client : (c : Caller) (k j : SubId) → is_none (caller_of c) ≡ false → IsBy c (link_from c k j)
by_client (Client c) k j h = refl
by_client (Card s) k j h = absurd (let no : ⊥ = cc in no)

-- ---- the same of equal events and passes

module _ (cards : List (CardModel × Dir)) (long_max : ℕ) (e d : Event) (p q : PassView) (found : Option Answer) (a : Answer) (is : found ≡ Some a) (event : e ≡ d) (pass : p ≡ q) where
  pub same_link : IfSome found (λ b. OnDone b (λ reply receipt woken. IsLinkOfRooms cards long_max e p.knows reply receipt woken)) → OnDone a (λ reply receipt woken. IsLinkOfRooms cards long_max d q.knows reply receipt woken)
  same_link h =
      let one = subst (λ o. IfSome o (λ b. OnDone b (λ reply receipt woken. IsLinkOfRooms cards long_max e p.knows reply receipt woken))) is h in
      let two = subst (λ x. OnDone a (λ reply receipt woken. IsLinkOfRooms cards long_max x p.knows reply receipt woken)) event one in
      subst (λ x. OnDone a (λ reply receipt woken. IsLinkOfRooms cards long_max d x.knows reply receipt woken)) pass two

  pub same_full : (r s : PassView) → r ≡ s → IfSome found (λ b. OnFull b (λ sub count. IsLinkFull cards long_max e p r sub count)) → OnFull a (λ sub count. IsLinkFull cards long_max d q s sub count)
  same_full r s after h =
      let one = subst (λ o. IfSome o (λ b. OnFull b (λ sub count. IsLinkFull cards long_max e p r sub count))) is h in
      let two = subst (λ x. OnFull a (λ sub count. IsLinkFull cards long_max x p r sub count)) event one in
      let three = subst (λ x. OnFull a (λ sub count. IsLinkFull cards long_max d x r sub count)) pass two in
      subst (λ x. OnFull a (λ sub count. IsLinkFull cards long_max d q x sub count)) after three
