-- How many members the rooms of a link or an unlink have after it: as many as before it, all together.
use Rattle.std.proofs.Common.{◌≡◌, ◌≤◌, ◌+◌, ℕ, suc, Bool, true, false, nat_eq, List, [], ◌∷◌, ◌++◌, length, refl, ap, arith, length-append}
use Rattle.std.specs.Prelude.{if◌then◌else◌}
use Rattle.card_emul.specs.declared.any_card.AnyCard.{AnyCard}
use Rattle.card_emul.specs.contracts.any_card.AnyCardCard.TheImpl.{ghosts}
use Rattle.pcm_base.specs.declared.ids.SubId.{SubId}
use Rattle.pcm_base.specs.model.Acts.{subs}
use Rattle.pcm_base.specs.model.Sleep.{group_drains, wake, wake_members}
use Rattle.pcm_base.specs.model.Stream.{Member as ModelMember, Stream}
use Rattle.pcm_base.specs.model.World.{only_member, without_member}
use Rattle.pcm_stream.specs.MembersStand.{AllStandFor}
use Rattle.pcm_stream.specs.declared.members.Member.{Member}
use Rattle.room_book.specs.Logs.{is_ok}
use Rattle.room_lock.specs.Answers.{OnDone, OnFull, OnMemory}
use Rattle.room_lock.specs.InRoom.{IsRoomOf, RoomView}
use Rattle.room_lock.specs.Joining.{joined_by}
use Rattle.room_lock.specs.Leaving.{gone_home, left_by}
use Rattle.room_lock.specs.Met.{met, stay}
use Rattle.room_lock.specs.Parting.{left_home}
use Rattle.room_parts.specs.Recs.{RecView, subs_of}
use Rattle.room_lock.specs.declared.answer.Answer.{Answer}
use Rattle.room_lock.specs.declared.answer.Answer.TheVariants.{Done, LogFull, Memory}

-- ---- a wake check keeps the count, and so does one that goes

each_wakes : (g : Bool) (xs : List ModelMember) → length (wake_members g xs) ≡ length xs
each_wakes g [] = refl
each_wakes g (x ∷ xs) = ap suc (each_wakes g xs)

all_wake : (xs : List ModelMember) → length (wake xs) ≡ length xs
all_wake xs = each_wakes (group_drains xs) xs

both_wake : (xs ys : List ModelMember) → length (wake (wake xs ++ wake ys)) ≡ length xs + length ys
both_wake xs ys = omega (arith, all_wake (wake xs ++ wake ys), length-append (wake xs) (wake ys), all_wake xs, all_wake ys)

one_goes : (k : SubId) (xs : List ModelMember) → length (only_member k xs) + length (without_member k xs) ≡ length xs
one_goes k [] = refl
one_goes k (x ∷ xs) = by (one_goes k xs) (nat_eq x.sub.0 k.0)
  where
    by : length (only_member k xs) + length (without_member k xs) ≡ length xs → (b : Bool) → length (if b then x ∷ [] else only_member k xs) + length (if b then xs else x ∷ without_member k xs) ≡ length (x ∷ xs)
    by h true = omega arith
    by h false = omega (arith, h)

-- with the wake checks of an unlink
apart_wakes : (k : SubId) (xs : List ModelMember) → length (wake (only_member k (wake xs))) + length (wake (without_member k (wake xs))) ≡ length xs
apart_wakes k xs = omega (arith, all_wake (only_member k (wake xs)), all_wake (without_member k (wake xs)), one_goes k (wake xs), all_wake xs)

-- ---- the members of a room are as many as their streams

stand : (ms : List (Member AnyCard ghosts)) (xs : List ModelMember) → AllStandFor ms xs → length ms ≡ length xs
stand [] [] h = refl
stand [] (x ∷ xs) h = absurd h
stand (m ∷ ms) [] h = absurd h
stand (m ∷ ms) (x ∷ xs) h = ap suc (stand ms xs h.1)

-- how many stand in a room
abbrev pub count : RoomView → ℕ
count v = length v.members

named : (rs : List RecView) → length (subs_of rs) ≡ length rs
named [] = refl
named (r ∷ rs) = ap suc (named rs)

numbered : (xs : List ModelMember) → length (subs xs) ≡ length xs
numbered [] = refl
numbered (x ∷ xs) = ap suc (numbered xs)

module _ (origin : SubId → Stream) (cards : ℕ) where
  pub counts : (v : RoomView) (xs : List ModelMember) → IsRoomOf origin cards v xs → count v ≡ length xs
  counts v xs h = stand v.members xs h.stand

  -- each has its rec
  pub recs_count : (v : RoomView) (xs : List ModelMember) → IsRoomOf origin cards v xs → length v.recs ≡ count v
  recs_count v xs h = omega (arith, counts v xs h, named v.recs, numbered xs, ap length h.fits_in.recs_are)

  -- ---- two that meet

  abbrev pub Met : (v v' w w' u u' : RoomView) → Type 0
  Met v v' w w' u u' = (count v' ≤ count v) × (count w' ≤ count w) × (count u' + (count v' + count w') ≡ count v + count w)

  meet_by : (b : Bool) (xs ys : List ModelMember) → (length (if b then [] else xs) ≤ length xs) × (length (if b then [] else ys) ≤ length ys)
      × (length (if b then wake (wake xs ++ wake ys) else []) + (length (if b then [] else xs) + length (if b then [] else ys)) ≡ length xs + length ys)
  meet_by true xs ys = (omega arith, omega arith, omega (arith, both_wake xs ys))
  meet_by false xs ys = (omega arith, omega arith, omega arith)

  pub two_meet : (v v' w w' u u' : RoomView) (xs ys : List ModelMember) (a : Answer) → IsRoomOf origin cards v xs → IsRoomOf origin cards w ys → u.members ≡ []
      → OnDone a (λ reply receipt woken. IsRoomOf origin cards v' (stay reply xs) × IsRoomOf origin cards w' (stay reply ys) × IsRoomOf origin cards u' (met reply xs ys))
      → OnFull a (λ sub full. (v'.members ≡ v.members) × (w'.members ≡ w.members) × (v'.book ≡ v.book) × (w'.book ≡ w.book) × (u' ≡ u))
      → OnMemory a ((v'.members ≡ v.members) × (w'.members ≡ w.members) × (u'.members ≡ u.members))
      → Met v v' w w' u u'
  two_meet v v' w w' u u' xs ys (Done reply receipt woken) one two none done full memory =
      let by = meet_by (is_ok reply) xs ys in
      let c1 = counts v xs one in let c2 = counts w ys two in
      let d1 = counts v' (stay reply xs) done.0 in let d2 = counts w' (stay reply ys) done.1 in let d3 = counts u' (met reply xs ys) done.2 in
      (omega (arith, by.0, c1, d1), omega (arith, by.1, c2, d2), omega (arith, by.2, c1, c2, d1, d2, d3))
  two_meet v v' w w' u u' xs ys (LogFull sub n) one two none done full memory =
      let d1 = ap length full.0 in let d2 = ap length full.1 in let d3 = ap count full.4 in let d0 = ap length none in
      (omega (arith, d1), omega (arith, d2), omega (arith, d0, d1, d2, d3))
  two_meet v v' w w' u u' xs ys Memory one two none done full memory =
      let d1 = ap length memory.0 in let d2 = ap length memory.1 in let d3 = ap length memory.2 in let d0 = ap length none in
      (omega (arith, d1), omega (arith, d2), omega (arith, d0, d1, d2, d3))

  -- ---- one that joins

  abbrev pub Joined : (v v' w w' : RoomView) → Type 0
  Joined v v' w w' = (count w' ≤ count w) × (count v' + count w' ≡ count v + count w)

  join_by : (b : Bool) (xs ys : List ModelMember) → (length (if b then [] else ys) ≤ length ys) × (length (if b then wake (wake xs ++ wake ys) else xs) + length (if b then [] else ys) ≡ length xs + length ys)
  join_by true xs ys = (omega arith, omega (arith, both_wake xs ys))
  join_by false xs ys = (omega arith, omega arith)

  pub one_joins : (v v' w w' : RoomView) (xs ys : List ModelMember) (a : Answer) → IsRoomOf origin cards v xs → IsRoomOf origin cards w ys
      → OnDone a (λ reply receipt woken. IsRoomOf origin cards v' (joined_by reply xs ys) × IsRoomOf origin cards w' (stay reply ys))
      → OnFull a (λ sub full. (v'.members ≡ v.members) × (w'.members ≡ w.members) × (v'.book ≡ v.book) × (w'.book ≡ w.book))
      → OnMemory a ((v'.members ≡ v.members) × (w'.members ≡ w.members) × (v'.book ≡ v.book) × (w'.book ≡ w.book))
      → Joined v v' w w'
  one_joins v v' w w' xs ys (Done reply receipt woken) one two done full memory =
      let by = join_by (is_ok reply) xs ys in
      let c1 = counts v xs one in let c2 = counts w ys two in
      let d1 = counts v' (joined_by reply xs ys) done.0 in let d2 = counts w' (stay reply ys) done.1 in
      (omega (arith, by.0, c2, d2), omega (arith, by.1, c1, c2, d1, d2))
  one_joins v v' w w' xs ys (LogFull sub n) one two done full memory =
      let d1 = ap length full.0 in let d2 = ap length full.1 in
      (omega (arith, d2), omega (arith, d1, d2))
  one_joins v v' w w' xs ys Memory one two done full memory =
      let d1 = ap length memory.0 in let d2 = ap length memory.1 in
      (omega (arith, d2), omega (arith, d1, d2))

  -- ---- one that leaves

  abbrev pub Left : (v v' a a' : RoomView) → Type 0
  Left v v' a a' = (count v' ≤ count v) × (count a' + count v' ≡ count v)

  leave_by : (b : Bool) (k : SubId) (xs : List ModelMember) → length (if b then wake (only_member k (wake xs)) else []) + length (if b then wake (without_member k (wake xs)) else xs) ≡ length xs
  leave_by true k xs = apart_wakes k xs
  leave_by false k xs = omega arith

  pub one_leaves : (v v' a a' : RoomView) (k : SubId) (xs : List ModelMember) (answer : Answer) → IsRoomOf origin cards v xs → a.members ≡ []
      → OnDone answer (λ reply receipt woken. IsRoomOf origin cards v' (left_by reply k xs) × IsRoomOf origin cards a' (gone_home reply k xs))
      → OnFull answer (λ sub full. (v'.members ≡ v.members) × (v'.book ≡ v.book) × (a' ≡ a))
      → OnMemory answer ((v'.members ≡ v.members) × (a'.members ≡ a.members) × (a'.book ≡ a.book))
      → Left v v' a a'
  one_leaves v v' a a' k xs (Done reply receipt woken) one none done full memory =
      let by = leave_by (is_ok reply) k xs in
      let c1 = counts v xs one in
      let d1 = counts v' (left_by reply k xs) done.0 in let d2 = counts a' (gone_home reply k xs) done.1 in
      (omega (arith, by, c1, d1, d2), omega (arith, by, c1, d1, d2))
  one_leaves v v' a a' k xs (LogFull sub n) one none done full memory =
      let d1 = ap length full.0 in let d2 = ap count full.2 in let d0 = ap length none in
      (omega (arith, d1), omega (arith, d0, d1, d2))
  one_leaves v v' a a' k xs Memory one none done full memory =
      let d1 = ap length memory.0 in let d2 = ap length memory.1 in let d0 = ap length none in
      (omega (arith, d1), omega (arith, d0, d1, d2))

  -- ---- two that part

  abbrev pub Parted : (v v' a a' b b' : RoomView) → Type 0
  Parted v v' a a' b b' = count v' + (count a' + count b') ≡ count v

  part_by : (b : Bool) (k : SubId) (xs : List ModelMember)
      → length (if b then [] else xs) + (length (if b then wake (only_member k (wake xs)) else []) + length (if b then wake (without_member k (wake xs)) else [])) ≡ length xs
  part_by true k xs = omega (arith, apart_wakes k xs)
  part_by false k xs = omega arith

  pub two_part : (v v' a a' b b' : RoomView) (k : SubId) (xs : List ModelMember) (answer : Answer) → IsRoomOf origin cards v xs → a.members ≡ [] → b.members ≡ []
      → OnDone answer (λ reply receipt woken. IsRoomOf origin cards v' (stay reply xs) × IsRoomOf origin cards a' (gone_home reply k xs) × IsRoomOf origin cards b' (left_home reply k xs))
      → OnFull answer (λ sub full. (v'.members ≡ v.members) × (v'.book ≡ v.book) × (a' ≡ a) × (b' ≡ b))
      → OnMemory answer ((v'.members ≡ v.members) × (a'.members ≡ a.members) × (b'.members ≡ b.members) × (a'.book ≡ a.book) × (b'.book ≡ b.book))
      → Parted v v' a a' b b'
  two_part v v' a a' b b' k xs (Done reply receipt woken) one none none2 done full memory =
      let by = part_by (is_ok reply) k xs in
      let c1 = counts v xs one in
      let d1 = counts v' (stay reply xs) done.0 in let d2 = counts a' (gone_home reply k xs) done.1 in let d3 = counts b' (left_home reply k xs) done.2 in
      omega (arith, by, c1, d1, d2, d3)
  two_part v v' a a' b b' k xs (LogFull sub n) one none none2 done full memory =
      let d1 = ap length full.0 in let d2 = ap count full.2 in let d3 = ap count full.3 in let d0 = ap length none in let e0 = ap length none2 in
      omega (arith, d0, e0, d1, d2, d3)
  two_part v v' a a' b b' k xs Memory one none none2 done full memory =
      let d1 = ap length memory.0 in let d2 = ap length memory.1 in let d3 = ap length memory.2 in let d0 = ap length none in let e0 = ap length none2 in
      omega (arith, d0, e0, d1, d2, d3)
