-- A link of members of two rooms, one of which holds a group: its entries, and what they lead to.
use Rattle.std.proofs.Common.{◌≡◌, ◌≢◌, inl, inr, ◌≤◌, ◌<◌, ℕ, Bool, true, false, cond, nat_le, List, [], ◌∷◌, ◌++◌, length, slice_get, slice_set, Some, refl, sym, ap, ◌∙◌, subst, arith}
use Rattle.std.specs.Prelude.{MatchBool}
use Rattle.std.proofs.lemmas.List.{map-append}
use Rattle.std.proofs.lemmas.Option.{slice_get_within}
use Rattle.pcm_base.specs.declared.config.CardModel.{CardModel}
use Rattle.pcm_base.specs.declared.ids.ClientId.{ClientId}
use Rattle.pcm_base.specs.declared.ids.SubId.{SubId}
use Rattle.pcm_base.specs.declared.reply.Page.{Page}
use Rattle.pcm_base.specs.declared.state.Dir.{Dir}
use Rattle.pcm_base.specs.declared.state.State.{State}
use Rattle.pcm_base.specs.model.Acts.{subs}
use Rattle.pcm_base.specs.model.Group.{stream_of}
use Rattle.pcm_base.specs.model.Replay.{Distinct, is_member}
use Rattle.pcm_base.specs.model.Sleep.{mask_of, wake, woken}
use Rattle.pcm_base.specs.model.Stream.{Member, Stream}
use Rattle.pcm_stream.specs.MembersStand.{AllStandFor}
use Rattle.pcm_laws.specs.Waiting.{AllHaveDistinctClients, WakeLeavesWaiting}
use Rattle.floor_rule.specs.declared.rule.Marked.{Marked}
use Rattle.room_book.specs.Laws.{ComingIn, EntriesFollow, GoingOut, LogOfMember, OneLogChanges, SameStreamsFit, WakesKeep}
use Rattle.room_book.specs.Logs.{is_ok, link_reply}
use Rattle.room_book.specs.Rooms.{fresh_streams}
use Rattle.room_book.specs.declared.book.BookEntry.{BookEntry}
use Rattle.room_book.specs.declared.book.BookEntry.TheVariants.{In, Out}
use Rattle.room_parts.specs.Passes.{PassView}
use Rattle.room_parts.specs.Links.{link_event}
use Rattle.room_parts.specs.Recs.{RecView, sub_of, subs_of}
use Rattle.room_parts.specs.declared.calling.Linked.{Linked}
use Rattle.room_lock.specs.declared.recording.Receipt.{Receipt}
use Rattle.room_lock.specs.Answers.{log_in}
use Rattle.room_lock.specs.InGroup.{IsPageIn}
use Rattle.room_lock.specs.InRoom.{FitsIn, IsIn, RoomView}
use Rattle.room_lock.specs.Joining.{HasJoined, IsJoining, StayApart, logs_linked}
use Rattle.room_lock.specs.Known.{Knows}
use Rattle.room_lock.specs.Linked.{HasLinked, HasMoved, IsToldAt, link_by, link_marked, link_of, moved_to}
use Rattle.room_lock.specs.Met.{move_of, with_link, with_move}
use Rattle.room_lock.specs.Turning.{logs_of}
use Rattle.room_lock.proofs.JoinLemmas.{join_fits, linked_alone}
use Rattle.room_lock.proofs.LinkLemmas.{LinkOn, Standing, nobody_left, none_due, room_fits, standing_of}
use Rattle.room_lock.proofs.LinkRoomLemmas.{own_room}
use Rattle.room_lock.proofs.MeetLemmas.{Leaves}
use Rattle.room_lock.proofs.Records.{among, number_at}
use Rattle.room_lock.proofs.SharedLemmas.{get_last}
use Rattle.room_lock.proofs.TellingLemmas.{Alone, alone_rec, first_is}
use Rattle.room_lock.proofs.ToldLemmas.{after_at, after_log, after_sub, distinct_recs, log_of_rec, logs_told, told_known, told_stays}

-- a member, and one that is none, are two
pub apart_of : (js : List SubId) (k j : SubId) → is_member k js ≡ true → is_member j js ≡ false → k.0 ≢ j.0
apart_of js k j there none e =
    let same : k ≡ j = ap (λ (n : ℕ). let x : SubId = record { 0 = n } in x) e in
    let both : is_member k js ≡ false = ap (λ (x : SubId). is_member x js) same ∙ none in absurd (cc)

-- what a link tells of its first, and of its second

pub on_first : (c : ClientId) (k j : SubId) (s t : State) (b : Bool) (x : Stream) (number : ℕ) → s ≡ x.state → k.0 ≢ j.0 → LinkOn k x number (link_of c k j s t b)
on_first c k j s t b x number state apart = record { names = inl refl; reply_is = refl; first_is = λ e. state; second_is = λ e. absurd (apart (sym e)) }

pub on_second : (c : ClientId) (k j : SubId) (s t : State) (b : Bool) (y : Stream) (number : ℕ) → t ≡ y.state → b ≡ nat_le 16 number → k.0 ≢ j.0 → LinkOn j y number (link_of c k j s t b)
on_second c k j s t b y number state linked apart = record { names = inr refl; reply_is = refl; first_is = λ e. absurd (apart e); second_is = λ e. (state, linked) }

-- the members of a room, of which all but the recs and the streams is as in another
pub in_again : (origin : SubId → Stream) (cards s s' : ℕ) (v v' : RoomView) (book : List BookEntry) (xs : List Member) → s' ≡ s → v'.number ≡ v.number → v'.book ≡ book → AllStandFor v'.members xs → FitsIn origin cards s v.number xs v'.recs book → IsIn origin cards s' v' xs
in_again origin cards s s' v v' book xs serial number is stand fits = record {
  stand = stand;
  fits_in = subst (λ (z : ℕ × ℕ × List BookEntry). FitsIn origin cards z.0 z.1 xs v'.recs z.2) (λ i. (sym serial i, sym number i, sym is i)) fits;
}

-- the only rec of a room
pub only_one : (rs : List RecView) (k : SubId) (i : ℕ) (r : RecView) → Alone rs k → slice_get rs i ≡ Some r → (i ≡ 0) × (rs ≡ r ∷ [])
only_one rs k i r a at =
    let size : length rs ≡ 1 = ap length a.recs in
    let lt = slice_get_within rs i r at in
    let zero_is : i ≡ 0 = omega (arith, size, lt) in
    let at0 : slice_get rs 0 ≡ Some r = ap (slice_get rs) (sym zero_is) ∙ at in
    let there = first_is rs k a in
    let same : a.rec ≡ r = cc in (zero_is, a.recs ∙ ap (λ (x : RecView). x ∷ []) same)

-- The link is told in the log of k, at place i of room v, and in that of j, at place m of room w.
pub record ToldBoth (cs : List (CardModel × Dir)) (long_max s1 s2 : ℕ) (xs ys : List Member) (v w : RoomView) (now now2 : List RecView) (c : ClientId) (k j : SubId) (i m : ℕ) (l : Linked) (one two : Page) (receipt : Receipt) (p p' : PassView) : Type 0 where
  pub fits : FitsIn (fresh_streams cs long_max) (length cs) s1 v.number xs v.recs v.book
  pub fits2 : FitsIn (fresh_streams cs long_max) (length cs) s2 w.number ys w.recs w.book
  pub told : IsToldAt i k l one xs v.recs now p.knows
  pub told2 : IsToldAt m j l two ys w.recs now2 p.knows
  pub link_is : l ≡ link_of c k j one.state two.state (nat_le 16 w.number)
  pub linked : HasLinked i l receipt v.recs now p p'
  pub apart : k.0 ≢ j.0

module _ (cs : List (CardModel × Dir)) (long_max s1 s2 : ℕ) (xs ys : List Member) (v w : RoomView) (now now2 : List RecView) (c : ClientId) (k j : SubId) (i m : ℕ) (l : Linked) (one two : Page) (receipt : Receipt) (p p' : PassView) (t : ToldBoth cs long_max s1 s2 xs ys v w now now2 c k j i m l one two receipt p p') where
  abbrev origin : SubId → Stream
  origin = fresh_streams cs long_max

  -- the link, as it finds the streams
  abbrev found_link : Linked
  found_link = link_of c k j (stream_of k xs).state (stream_of j ys).state (nat_le 16 w.number)

  link_same : l ≡ found_link
  link_same = t.link_is ∙ ap (λ (z : State × State). link_of c k j z.0 z.1 (nat_le 16 w.number)) (λ n. (t.told.shows.state n, t.told2.shows.state n))

  on_one : LinkOn k (stream_of k xs) v.number l
  on_one = subst (LinkOn k (stream_of k xs) v.number) (sym t.link_is) (on_first c k j one.state two.state (nat_le 16 w.number) (stream_of k xs) v.number t.told.shows.state t.apart)

  on_two : LinkOn j (stream_of j ys) w.number l
  on_two = subst (LinkOn j (stream_of j ys) w.number) (sym t.link_is) (on_second c k j one.state two.state (nat_le 16 w.number) (stream_of j ys) w.number t.told2.shows.state refl t.apart)

  standing : Standing (fresh_streams cs long_max) (length cs) s1 v.number xs v.recs v.book
  standing = standing_of origin (length cs) s1 v.number xs v.recs v.book t.fits

  standing2 : Standing (fresh_streams cs long_max) (length cs) s2 w.number ys w.recs w.book
  standing2 = standing_of origin (length cs) s2 w.number ys w.recs w.book t.fits2

  apart1 : Distinct (subs_of v.recs)
  apart1 = distinct_recs origin (length cs) s1 v.number xs v.recs v.book standing

  apart2 : Distinct (subs_of w.recs)
  apart2 = distinct_recs origin (length cs) s2 w.number ys w.recs w.book standing2

  logs1 : logs_of now ≡ logs_linked k l xs p.knows v.recs
  logs1 = logs_told i k l one xs v.recs now p.knows t.told apart1

  logs2 : logs_of now2 ≡ logs_linked j l ys p.knows w.recs
  logs2 = logs_told m j l two ys w.recs now2 p.knows t.told2 apart2

  -- ---- it was refused

  pub both_stay : EntriesFollow → LogOfMember → OneLogChanges → is_ok l.reply ≡ false → FitsIn (fresh_streams cs long_max) (length cs) s1 v.number xs now v.book × FitsIn (fresh_streams cs long_max) (length cs) s2 w.number ys now2 w.book
  both_stay follow of_member change refused = (
    room_fits origin (length cs) s1 v.number xs now v.book (told_stays i k l one xs v.recs now p.knows t.told follow of_member change origin (length cs) s1 v.number v.book standing on_one (none_due l.reply v.number refused)) t.fits.fits.size t.fits.fits.asleep,
    room_fits origin (length cs) s2 w.number ys now2 w.book (told_stays m j l two ys w.recs now2 p.knows t.told2 follow of_member change origin (length cs) s2 w.number w.book standing2 on_two (none_due l.reply w.number refused)) t.fits2.fits.size t.fits2.fits.asleep,
  )

  pub both_refused : (v' w' : RoomView) → v'.recs ≡ now → v'.book ≡ v.book → w'.recs ≡ now2 → w'.book ≡ w.book → is_ok l.reply ≡ false
      → IsJoining (link_of c k j (stream_of k xs).state (stream_of j ys).state (nat_le 16 w.number)) p.knows v v' w w' xs ys l.reply 0
  both_refused v' w' recs book recs2 book2 refused =
      let stays : StayApart found_link p.knows v v' w w' xs ys = record {
        first_logs = ap logs_of recs ∙ logs1 ∙ ap (λ (z : Linked). logs_linked k z xs p.knows v.recs) link_same;
        second_logs = ap logs_of recs2 ∙ logs2 ∙ ap (λ (z : Linked). logs_linked j z ys p.knows w.recs) link_same;
        books = (book, book2);
      } in
      record {
        reply_is = ap (λ (z : Linked). z.reply) link_same;
        rooms = subst (λ (b : Bool). MatchBool b (HasJoined found_link p.knows v v' w w' xs ys) (StayApart found_link p.knows v v' w w' xs ys)) (sym refused) stays;
        woken = ap (λ (b : Bool). mask_of (cond b (woken xs ++ woken ys ++ woken (wake xs ++ wake ys)) [])) (sym refused);
      }

  -- ---- the second joins the first

  pub second_low : is_ok l.reply ≡ true → w.number < 16
  second_low ok = linked_alone l w.number (on_two.reply_is ∙ ap (link_reply l.first.0 l.second.0 l.first_state l.second_state) (ap (λ (z : Linked). z.second_linked) t.link_is)) ok

  alone2 : is_ok l.reply ≡ true → Alone w.recs j
  alone2 ok =
      let number_is : slice_get (subs ys) m ≡ Some j = number_at (subs ys) w.recs m t.told2.before j t.fits2.recs_are t.told2.at t.told2.sub in
      let only = own_room w.number j (subs ys) t.fits2.fits.size (second_low ok) (among (subs ys) m j number_is) in
      alone_rec w.recs j (t.fits2.recs_are ∙ only.0)

  -- its rec, before and after the link is told
  pub second_recs : is_ok l.reply ≡ true → (w.recs ≡ t.told2.before ∷ []) × (now2 ≡ t.told2.after ∷ [])
  second_recs ok =
      let one_rec = only_one w.recs j m t.told2.before (alone2 ok) t.told2.at in (
        one_rec.1,
        t.told2.recs ∙ ap (λ (z : List RecView × ℕ). slice_set z.0 z.1 t.told2.after) (λ n. (one_rec.1 n, one_rec.0 n)),
      )

  pub second_sub : sub_of t.told2.after ≡ j
  second_sub = after_sub m j l two ys w.recs now2 p.knows t.told2

  -- where the link stands, from which the move comes
  pub cause_at : (slice_get now i ≡ Some t.told.after) × (sub_of t.told.after ≡ k) × (slice_get t.told.after.knows.log receipt.index ≡ Some (link_marked l one.state one.hw p.knows))
  cause_at =
      let did = t.linked t.told.before t.told.after t.told.at (after_at i k l one xs v.recs now p.knows t.told) in (
        after_at i k l one xs v.recs now p.knows t.told,
        after_sub i k l one xs v.recs now p.knows t.told,
        ap (λ (z : List Marked × ℕ). slice_get z.0 z.1) (λ n. (t.told.joined.log n, did.2 n)) ∙ get_last t.told.before.knows.log (link_marked l one.state one.hw p.knows),
      )

  pub receipt_is : (receipt.sub ≡ k) × (receipt.index ≡ length (log_in k v.recs))
  receipt_is =
      let did = t.linked t.told.before t.told.after t.told.at (after_at i k l one xs v.recs now p.knows t.told) in
      (did.1 ∙ ap (λ (z : Linked). z.first) t.link_is, did.2 ∙ ap length (sym (log_of_rec v.recs i t.told.before k apart1 t.told.at t.told.sub)))

  pub both_joined : (v' w' : RoomView) (mask : ℕ) (q3 : RecView) → is_ok l.reply ≡ true → v'.recs ≡ now ++ q3 ∷ [] → HasMoved t.told2.after q3 v.number two receipt → v'.book ≡ v.book ++ In j ∷ [] → w'.book ≡ w.book ++ Out j ∷ []
      → mask ≡ mask_of (woken xs ++ woken ys ++ woken (wake xs ++ wake ys)) → IsJoining (link_of c k j (stream_of k xs).state (stream_of j ys).state (nat_le 16 w.number)) p.knows v v' w w' xs ys l.reply mask
  both_joined v' w' mask q3 ok recs moved book book2 woken_is =
      let place = receipt_is in
      let move_is : moved_to v.number two receipt ≡ move_of v.number (stream_of j ys) k (length (log_in k v.recs)) =
      ap (λ (z : State × ℕ × SubId × ℕ). moved_to v.number (record two { state = z.0; hw = z.1 }) (record { sub = z.2; index = z.3 })) (λ n. (t.told2.shows.state n, t.told2.shows.hw n, place.0 n, place.1 n)) in
      let log_is : q3.knows.log ≡ with_move (log_in j w.recs) found_link (stream_of j ys) p.knows v.number (length (log_in k v.recs)) =
      moved.log ∙ ap (λ (z : List Marked × Marked). z.0 ++ z.1 ∷ []) (λ n. ((after_log m j l two ys w.recs now2 p.knows t.told2 apart2 ∙ ap (λ (z : Linked). with_link (log_in j w.recs) z (stream_of j ys) p.knows) link_same) n, move_is n)) in
      let joins : HasJoined found_link p.knows v v' w w' xs ys = record {
        logs = ap logs_of recs ∙ map-append (λ (x : RecView). x.knows.log) now (q3 ∷ [])
            ∙ ap (λ (z : List (List Marked) × List Marked). z.0 ++ z.1 ∷ []) (λ n. ((logs1 ∙ ap (λ (z : Linked). logs_linked k z xs p.knows v.recs) link_same) n, log_is n));
        first_book = book;
        second_book = book2;
      } in
      record {
        reply_is = ap (λ (z : Linked). z.reply) link_same;
        rooms = subst (λ (b : Bool). MatchBool b (HasJoined found_link p.knows v v' w w' xs ys) (StayApart found_link p.knows v v' w w' xs ys)) (sym ok) joins;
        woken = woken_is ∙ ap (λ (b : Bool). mask_of (cond b (woken xs ++ woken ys ++ woken (wake xs ++ wake ys)) [])) (sym ok);
      }

  pub joined_fits : EntriesFollow → LogOfMember → OneLogChanges → ComingIn → SameStreamsFit → WakesKeep → WakeLeavesWaiting → (v' : RoomView) (q3 : RecView) → is_ok l.reply ≡ true → 16 ≤ v.number → is_member j (subs xs) ≡ false
      → v'.recs ≡ now ++ q3 ∷ [] → HasMoved t.told2.after q3 v.number two receipt → v'.book ≡ v.book ++ In j ∷ [] → AllHaveDistinctClients (wake (wake xs ++ wake ys)) → FitsIn (fresh_streams cs long_max) (length cs) s1 v.number (wake (wake xs ++ wake ys)) v'.recs v'.book
  joined_fits follow of_member change coming same keep law v' q3 ok high none recs moved book clients =
      let q : RecView = t.told2.before in
      let b : Leaves origin (length cs) s2 w.number v.number ys w.book q t.told2.after q3 l two.state two p.knows receipt = record {
        fits = subst (λ (rs : List RecView). FitsIn origin (length cs) s2 w.number ys rs w.book) (second_recs ok).0 t.fits2;
        joined = t.told2.joined;
        on = subst (λ (x : SubId). LinkOn x (stream_of x ys) w.number l) (sym t.told2.sub) on_two;
        shows = subst (λ (x : SubId). IsPageIn two (stream_of x ys)) (sym t.told2.sub) t.told2.shows;
        state = refl;
        moved = moved;
        low = second_low ok;
      } in
      let new : is_member (sub_of q) (subs xs) ≡ false = ap (λ (x : SubId). is_member x (subs xs)) t.told2.sub ∙ none in
      subst (λ (z : List RecView × List BookEntry). FitsIn origin (length cs) s1 v.number (wake (wake xs ++ wake ys)) z.0 z.1) (λ n. (sym recs n, (ap (λ (x : SubId). v.book ++ In x ∷ []) t.told2.sub ∙ sym book) n))
      (join_fits follow of_member change coming same keep law origin (length cs) s1 v.number s2 w.number xs ys v.book w.book v.recs now i k q t.told2.after q3 l one two p.knows receipt t.fits t.told on_one b ok high new clients)

  pub second_gone : GoingOut → is_ok l.reply ≡ true → (book : List BookEntry) → book ≡ w.book ++ Out j ∷ [] → FitsIn (fresh_streams cs long_max) (length cs) s2 w.number [] [] book
  second_gone out ok book is =
      let fits = subst (λ (rs : List RecView). FitsIn origin (length cs) s2 w.number ys rs w.book) (second_recs ok).0 t.fits2 in
      subst (λ (b : List BookEntry). FitsIn origin (length cs) s2 w.number [] [] b) (ap (λ (x : SubId). w.book ++ Out x ∷ []) t.told2.sub ∙ sym is)
      (nobody_left out origin (length cs) s2 w.number ys t.told2.before w.book (standing_of origin (length cs) s2 w.number ys (t.told2.before ∷ []) w.book fits))

  -- ---- the pass

  pub both_known : EntriesFollow → LogOfMember → Knows cs long_max (link_by c k j) 0 l.reply receipt p p'
  both_known follow of_member =
      subst (λ (z : Linked). Knows cs long_max (link_event z) 0 l.reply receipt p p') t.link_is
      (told_known follow of_member cs long_max s1 v.number v.book i k l one xs v.recs now p p' receipt l.reply standing t.told on_one t.linked (ap (λ (z : Linked). z.first) t.link_is) refl)
