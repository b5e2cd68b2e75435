-- A link on rooms, from the link on what is in them.
use Rattle.std.proofs.Common.{◌≡◌, ◌⊎◌, ◌≤◌, ◌<◌, ℕ, Bool, true, false, nat_eq, nat_lt, List, [], ◌∷◌, length, refl, sym, ap, ◌∙◌, subst, arith}
use Rattle.std.specs.Prelude.{◌||◌, MatchBool}
use Rattle.std.proofs.lemmas.Bool.Decides.{nat_tests}
use Rattle.pcm_base.specs.declared.ids.SubId.{SubId}
use Rattle.pcm_base.specs.model.Replay.{is_member}
use Rattle.pcm_base.specs.model.Stream.{Member, Stream}
use Rattle.room_book.specs.Rooms.{IsOwnOrNone, RightSize, acts_in}
use Rattle.room_lock.specs.InRoom.{FitsIn, IsIn, IsRoomOf, RoomView}
use Rattle.room_lock.proofs.RoomLemmas.{acts_fit}

-- a room below 16 has its own substream alone
own_only : (number : ℕ) (k : SubId) (js : List SubId) → IsOwnOrNone number js → is_member k js ≡ true → (js ≡ k ∷ []) × (k.0 ≡ number)
own_only number k [] h m = absurd (let no : ⊥ = cc in no)
own_only number k (i ∷ j ∷ js) h m = absurd h
own_only number k (j ∷ []) h m = by (nat_eq j.0 k.0) refl m
  where
    by : (b : Bool) → nat_eq j.0 k.0 ≡ b → (b || false) ≡ true → (◌≡◌ {A = List SubId} (j ∷ []) (k ∷ [])) × (k.0 ≡ number)
    by true e t =
        let n : j.0 ≡ k.0 = grind (arith, nat_tests, e) in
        (ap (λ (x : ℕ). let i : SubId = record { 0 = x } in i ∷ []) n, sym n ∙ h)
    by false e t = absurd (let no : ⊥ = cc in no)

pub own_room : (number : ℕ) (k : SubId) (js : List SubId) → RightSize number js → number < 16 → is_member k js ≡ true → (js ≡ k ∷ []) × (k.0 ≡ number)
own_room number k js h low m =
    let test : nat_lt number 16 ≡ true = grind (arith, nat_tests, low) in
    own_only number k js (subst (λ (b : Bool). MatchBool b (IsOwnOrNone number js) ((length js ≡ 0) ⊎ (2 ≤ length js))) test h) m

pub room_inside : (origin : SubId → Stream) (cards serial : ℕ) (u v : RoomView) (xs : List Member) → u ≡ v → serial ≡ acts_in u.book → IsRoomOf origin cards v xs → IsIn origin cards serial u xs
room_inside origin cards serial u v xs is acts h =
    let there : IsRoomOf origin cards u xs = subst (λ (z : RoomView). IsRoomOf origin cards z xs) (sym is) h in
    record { stand = there.stand; fits_in = subst (λ (n : ℕ). FitsIn origin cards n u.number xs u.recs u.book) (sym acts) there.fits_in }

pub room_outside : (origin : SubId → Stream) (cards serial : ℕ) (v : RoomView) (xs : List Member) → IsIn origin cards serial v xs → IsRoomOf origin cards v xs
room_outside origin cards serial v xs h = record { stand = h.stand; fits_in = acts_fit origin cards serial v.number xs v.recs v.book h.fits_in }
