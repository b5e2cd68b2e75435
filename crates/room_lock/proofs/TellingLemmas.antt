-- The link of two that stand alone: its entries, and what they lead to.
use Rattle.std.proofs.Common.{◌≡◌, ◌≢◌, inl, inr, ◌≤◌, ◌<◌, ℕ, Bool, true, false, cond, nat_eq, nat_le, List, [], ◌∷◌, ◌++◌, length, slice_get, slice_set, Some, refl, sym, ap, ◌∙◌, subst, arith}
use Rattle.std.specs.Prelude.{MatchBool, not}
use Rattle.std.proofs.lemmas.Bool.Decides.{nat_tests}
use Rattle.std.specs.declared.option.Option.{Option}
use Rattle.std.specs.declared.option.Option.TheVariants.{None}
use mathlib.Core.List.{IsPrefix}
use Rattle.pcm_base.specs.declared.call.CallKind.TheVariants as kind
use Rattle.pcm_base.specs.declared.config.CardModel.{CardModel}
use Rattle.pcm_base.specs.declared.ids.ClientId.{ClientId}
use Rattle.pcm_base.specs.declared.ids.SubId.{SubId}
use Rattle.pcm_base.specs.declared.reply.Page.{Page}
use Rattle.pcm_base.specs.declared.reply.Reply.{Reply}
use Rattle.pcm_base.specs.declared.reply.Reply.TheVariants as reply
use Rattle.pcm_base.specs.declared.state.Dir.{Dir}
use Rattle.pcm_base.specs.declared.state.Dir.TheVariants as dir
use Rattle.pcm_base.specs.declared.state.Errno.{Errno}
use Rattle.pcm_base.specs.declared.state.Errno.TheVariants as errno
use Rattle.pcm_base.specs.declared.state.State.{State}
use Rattle.pcm_base.specs.model.Acts.{subs}
use Rattle.pcm_base.specs.model.Group.{stream_of}
use Rattle.pcm_base.specs.model.Permit.{permit}
use Rattle.pcm_base.specs.model.Sleep.{mask_of, wake, woken}
use Rattle.pcm_base.specs.model.Stream.{Member, Stream, shown}
use Rattle.pcm_base.specs.model.Words.{when, ◌then◌, is_closed, same_state}
use Rattle.pcm_stream.specs.Members.{numbers_of}
use Rattle.pcm_stream.specs.MembersStand.{AllStandFor}
use Rattle.pcm_laws.specs.Waiting.{AllHaveDistinctClients, WakeLeavesWaiting}
use Rattle.floor_rule.specs.Causes.{Causes}
use Rattle.floor_rule.specs.Lists.{Stands, longest}
use Rattle.floor_rule.specs.Seats.{NoteSees}
use Rattle.floor_rule.specs.Steps.{told_by_rec}
use Rattle.floor_rule.specs.declared.entry.Entry.TheVariants as entry
use Rattle.floor_rule.specs.declared.rule.Marked.{Marked}
use Rattle.floor_rule.specs.declared.rule.PassKnows.{PassKnows}
use Rattle.room_book.specs.Laws.{ComingIn, EntriesFollow, GoingOut, LogOfMember, OneLogChanges, SameStreamsFit, WakesKeep}
use Rattle.room_book.specs.Logs.{PlaysLog, Replayed, answered, due_link, is_ok, link_reply}
use Rattle.room_book.specs.Rooms.{LogFits, fresh_streams, joints_now, log_of, start}
use Rattle.room_book.specs.declared.book.BookEntry.{BookEntry}
use Rattle.room_book.specs.declared.book.BookEntry.TheVariants.{In, Out}
use Rattle.room_parts.specs.Passes.{PassView, asleep_on}
use Rattle.room_parts.specs.Recs.{RecView, sub_of, subs_of}
use Rattle.room_parts.specs.declared.calling.Linked.{Linked}
use Rattle.room_lock.specs.declared.recording.Receipt.{Receipt}
use Rattle.room_lock.specs.Answers.{log_in}
use Rattle.room_lock.specs.InGroup.{IsPageIn}
use Rattle.room_lock.specs.InRoom.{FitsIn, IsIn, RoomView}
use Rattle.room_lock.specs.Known.{Knows, told_log}
use Rattle.room_lock.specs.Linked.{HasMoved, IsLinkRecorded, link_by, link_marked, link_of, moved_to}
use Rattle.room_lock.specs.Met.{HaveMet, IsMeeting, StayAlone, move_of, with_link, with_move}
use Rattle.room_lock.specs.Turning.{logs_of}
use Rattle.room_lock.proofs.DoneLemmas.{both_same}
use Rattle.room_lock.proofs.LinkLemmas.{LinkOn, link_played, nobody_left, standing_of}
use Rattle.room_lock.proofs.MeetLemmas.{Leaves, lone_told, meet_fits}
use Rattle.room_lock.proofs.MemberLemmas.{numbers_are}
use Rattle.room_lock.proofs.SharedLemmas.{get_last}

-- the rec of one that stands alone
pub record Alone (rs : List RecView) (k : SubId) : Type 0 where
  pub rec : RecView
  pub recs : rs ≡ rec ∷ []
  pub sub : sub_of rec ≡ k

pub alone_rec : (rs : List RecView) (k : SubId) → subs_of rs ≡ k ∷ [] → Alone rs k
alone_rec [] k e = absurd (let no : ⊥ = cc in no)
alone_rec (r ∷ []) k e = record { rec = r; recs = refl; sub = (let is : sub_of r ≡ k = cc in is) }
alone_rec (r ∷ q ∷ rs) k e = absurd (let no : ⊥ = cc in no)

pub first_is : (rs : List RecView) (k : SubId) (a : Alone rs k) → slice_get rs 0 ≡ Some a.rec
first_is rs k a = ap (λ (l : List RecView). slice_get l 0) a.recs

pub same_first : (rs : List RecView) (k : SubId) (a : Alone rs k) (r : RecView) → slice_get rs 0 ≡ Some r → a.rec ≡ r
same_first rs k a r at = let there = first_is rs k a in cc

-- the log of the only member
pub log_in_alone : (rs : List RecView) (k : SubId) (a : Alone rs k) → log_in k rs ≡ a.rec.knows.log
log_in_alone rs k a =
    let n : (sub_of a.rec).0 ≡ k.0 = ap (λ (j : SubId). j.0) a.sub in
    let test : nat_eq a.rec.knows.sub k.0 ≡ true = grind (arith, nat_tests, n) in
    ap (λ (l : List RecView). log_in k l) a.recs ∙ ap (λ (b : Bool). cond b a.rec.knows.log (log_of k [] [])) test

-- its log fits
alone_fit : (cs : List (CardModel × Dir)) (long_max serial : ℕ) (xs : List Member) (v : RoomView) (r : RecView) → FitsIn (fresh_streams cs long_max) (length cs) serial v.number xs (r ∷ []) v.book → LogFits (fresh_streams cs long_max) v.number v.book (sub_of r) r.knows.log (stream_of (sub_of r) xs)
alone_fit cs long_max serial [] v r fits = absurd (let e = fits.recs_are in let no : ⊥ = cc in no)
alone_fit cs long_max serial (m ∷ []) v r fits =
    let is : m.sub ≡ sub_of r = (let e = fits.recs_are in cc) in
    subst (λ (x : SubId). LogFits (fresh_streams cs long_max) v.number v.book x r.knows.log (stream_of x (m ∷ []))) is fits.fits.fits.each.0
alone_fit cs long_max serial (m ∷ n ∷ xs) v r fits = absurd (let e = fits.recs_are in let no : ⊥ = cc in no)

-- the note of a rec tells of what stands in its log
pub noted : (n : NoteSees) (r : RecView) (sub place : ℕ) (m : Marked) → n.lists ≡ told_by_rec r.knows → r.knows.sub ≡ sub → slice_get r.knows.log place ≡ Some m → Stands n.lists.logs sub place m
noted n r sub place m is here at = subst (λ l. Stands l.logs sub place m) (sym is) (inl (here, at))

pub head_same : {A : Type 0} (xs : List A) (x y : A) → xs ≡ x ∷ [] → xs ≡ y ∷ [] → x ≡ y
head_same xs x y a b = cc

-- nobody

pub no_streams : (xs : List Member) → subs xs ≡ [] → xs ≡ []
no_streams [] e = refl
no_streams (x ∷ xs) e = absurd (let no : ⊥ = cc in no)

pub no_recs_of : (rs : List RecView) → subs_of rs ≡ [] → rs ≡ []
no_recs_of [] e = refl
no_recs_of (r ∷ rs) e = absurd (let no : ⊥ = cc in no)

-- a link is never answered Asleep
awake : (k : SubId) (o : Option Errno) → asleep_on k (answered o) ≡ None
awake k (Some e) = refl
awake k None = refl

pub awake_link : (k : SubId) (first second : ℕ) (s t : State) (linked : Bool) → asleep_on k (link_reply first second s t linked) ≡ None
awake_link k first second s t linked =
    awake k (when (is_closed s) errno.Enxio then (when (is_closed t) errno.Enxio then (when (nat_eq second first) errno.Einval then (permit kind.Link s dir.Playback then (when (not (same_state t s)) errno.Ebadfd then when linked errno.Ealready)))))

pub ok_is : (r : Reply) → is_ok r ≡ true → r ≡ reply.Ok
ok_is reply.Ok h = refl
ok_is _ h = absurd (let no : ⊥ = cc in no)

-- the entry of a link that was answered Ok may cause a move
pub link_moves : (l : Linked) (st : State) (h : ℕ) (p : PassKnows) (room : ℕ) → is_ok l.reply ≡ true → Causes (link_marked l st h p).entry (entry.Moved room)
link_moves l st h p room ok = ok_is l.reply ok

-- Both logs have gained the link: r is now r2 in room v, and q is now q2 in room w. The pages show the two.
pub record Telling (cs : List (CardModel × Dir)) (long_max s1 s2 : ℕ) (xs ys : List Member) (v w : RoomView) (now now2 : List RecView) (c : ClientId) (k j : SubId) (one two : Page) (p p' : PassView) : Type 0 where
  pub here : Alone v.recs k
  pub there : Alone w.recs j
  pub fits : FitsIn (fresh_streams cs long_max) (length cs) s1 v.number xs v.recs v.book
  pub fits2 : FitsIn (fresh_streams cs long_max) (length cs) s2 w.number ys w.recs w.book
  pub recorded : IsLinkRecorded 0 0 (link_of c k j one.state two.state false) one two here.rec there.rec v.recs now w.recs now2 p p'
  pub shows : IsPageIn one (stream_of k xs)
  pub shows2 : IsPageIn two (stream_of j ys)
  pub apart : k.0 ≢ j.0
  pub low : v.number < 16
  pub low2 : w.number < 16

-- how it is known
pub telling : (cs : List (CardModel × Dir)) (long_max s1 s2 : ℕ) (xs ys : List Member) (v w : RoomView) (now now2 : List RecView) (c : ClientId) (k j : SubId) (one two : Page) (p p' : PassView) (l : Linked)
    → IsIn (fresh_streams cs long_max) (length cs) s1 v xs → IsIn (fresh_streams cs long_max) (length cs) s2 w ys → numbers_of v.members ≡ k ∷ [] → numbers_of w.members ≡ j ∷ []
    → ((r q : RecView) → slice_get v.recs 0 ≡ Some r → slice_get w.recs 0 ≡ Some q → IsLinkRecorded 0 0 l one two r q v.recs now w.recs now2 p p') → l ≡ link_of c k j one.state two.state false
    → ((m : SubId) (zs : List Member) → slice_get (numbers_of v.members) 0 ≡ Some m → AllStandFor v.members zs → IsPageIn one (stream_of m zs)) → ((m : SubId) (zs : List Member) → slice_get (numbers_of w.members) 0 ≡ Some m → AllStandFor w.members zs → IsPageIn two (stream_of m zs))
    → k.0 ≢ j.0 → v.number < 16 → w.number < 16 → Telling cs long_max s1 s2 xs ys v w now now2 c k j one two p p'
telling cs long_max s1 s2 xs ys v w now now2 c k j one two p p' l in1 in2 numbers numbers2 recorded is shows shows2 apart low low2 =
    let here : Alone v.recs k = alone_rec v.recs k (in1.fits_in.recs_are ∙ numbers_are v.members xs in1.stand ∙ numbers) in
    let there : Alone w.recs j = alone_rec w.recs j (in2.fits_in.recs_are ∙ numbers_are w.members ys in2.stand ∙ numbers2) in
    record {
      here = here;
      there = there;
      fits = in1.fits_in;
      fits2 = in2.fits_in;
      recorded = subst (λ (m : Linked). IsLinkRecorded 0 0 m one two here.rec there.rec v.recs now w.recs now2 p p') is (recorded here.rec there.rec (first_is v.recs k here) (first_is w.recs j there));
      shows = shows k xs (ap (λ (ks : List SubId). slice_get ks 0) numbers) in1.stand;
      shows2 = shows2 j ys (ap (λ (ks : List SubId). slice_get ks 0) numbers2) in2.stand;
      apart = apart;
      low = low;
      low2 = low2;
    }

module _ (cs : List (CardModel × Dir)) (long_max s1 s2 : ℕ) (xs ys : List Member) (v w : RoomView) (now now2 : List RecView) (c : ClientId) (k j : SubId) (one two : Page) (p p' : PassView) (t : Telling cs long_max s1 s2 xs ys v w now now2 c k j one two p p') where
  abbrev link : Linked
  link = link_of c k j one.state two.state false

  abbrev origin : SubId → Stream
  origin = fresh_streams cs long_max

  pub now_is : now ≡ t.recorded.first ∷ []
  now_is = t.recorded.recs ∙ ap (λ (l : List RecView). slice_set l 0 t.recorded.first) t.here.recs

  pub now2_is : now2 ≡ t.recorded.second ∷ []
  now2_is = t.recorded.others ∙ ap (λ (l : List RecView). slice_set l 0 t.recorded.second) t.there.recs

  on_first : LinkOn k (stream_of k xs) v.number (link_of c k j one.state two.state false)
  on_first = record { names = inl refl; reply_is = refl; first_is = λ e. t.shows.state; second_is = λ e. absurd (t.apart (sym e)) }

  on_second : LinkOn j (stream_of j ys) w.number (link_of c k j one.state two.state false)
  on_second = record {
    names = inr refl;
    reply_is = refl;
    first_is = λ e. absurd (t.apart e);
    second_is = λ e. (t.shows2.state, let low = t.low2 in let test : nat_le 16 w.number ≡ false = grind (arith, nat_tests, low) in sym test);
  }

  fits_one : FitsIn (fresh_streams cs long_max) (length cs) s1 v.number xs (t.here.rec ∷ []) v.book
  fits_one = subst (λ (l : List RecView). FitsIn origin (length cs) s1 v.number xs l v.book) t.here.recs t.fits

  fits_two : FitsIn (fresh_streams cs long_max) (length cs) s2 w.number ys (t.there.rec ∷ []) w.book
  fits_two = subst (λ (l : List RecView). FitsIn origin (length cs) s2 w.number ys l w.book) t.there.recs t.fits2

  -- the link, as it finds the streams
  pub link_same : link_of c k j one.state two.state false ≡ link_of c k j (stream_of k xs).state (stream_of j ys).state false
  link_same = ap (λ (z : State × State). link_of c k j z.0 z.1 false) (λ i. (t.shows.state i, t.shows2.state i))

  -- the two logs
  pub first_log : t.recorded.first.knows.log ≡ with_link (log_in k v.recs) (link_of c k j one.state two.state false) (stream_of k xs) p.knows
  first_log = t.recorded.joined.log ∙ ap (λ (z : List Marked × State × ℕ). z.0 ++ link_marked link z.1 z.2 p.knows ∷ []) (λ i. (sym (log_in_alone v.recs k t.here) i, t.shows.state i, t.shows.hw i))

  pub second_log : t.recorded.second.knows.log ≡ with_link (log_in j w.recs) (link_of c k j one.state two.state false) (stream_of j ys) p.knows
  second_log = t.recorded.joined_other.log ∙ ap (λ (z : List Marked × State × ℕ). z.0 ++ link_marked link z.1 z.2 p.knows ∷ []) (λ i. (sym (log_in_alone w.recs j t.there) i, t.shows2.state i, t.shows2.hw i))

  -- ---- it was refused

  pub stay_fits : EntriesFollow → LogOfMember → OneLogChanges → is_ok (link_of c k j one.state two.state false).reply ≡ false → FitsIn (fresh_streams cs long_max) (length cs) s1 v.number xs now v.book
  stay_fits follow of_member change not_ok =
      let r : RecView = t.here.rec in
      let on : LinkOn (sub_of r) (stream_of (sub_of r) xs) v.number link = subst (λ (x : SubId). LinkOn x (stream_of x xs) v.number link) (sym t.here.sub) on_first in
      let shows : IsPageIn one (stream_of (sub_of r) xs) = subst (λ (x : SubId). IsPageIn one (stream_of x xs)) (sym t.here.sub) t.shows in
      subst (λ (l : List RecView). FitsIn origin (length cs) s1 v.number xs l v.book) (sym now_is)
      (lone_told follow of_member change origin (length cs) s1 v.number xs v.book r t.recorded.first link one.state one.hw p.knows fits_one t.recorded.joined on shows.state shows.hw not_ok)

  pub stay_fits2 : EntriesFollow → LogOfMember → OneLogChanges → is_ok (link_of c k j one.state two.state false).reply ≡ false → FitsIn (fresh_streams cs long_max) (length cs) s2 w.number ys now2 w.book
  stay_fits2 follow of_member change not_ok =
      let q : RecView = t.there.rec in
      let on : LinkOn (sub_of q) (stream_of (sub_of q) ys) w.number link = subst (λ (x : SubId). LinkOn x (stream_of x ys) w.number link) (sym t.there.sub) on_second in
      let shows : IsPageIn two (stream_of (sub_of q) ys) = subst (λ (x : SubId). IsPageIn two (stream_of x ys)) (sym t.there.sub) t.shows2 in
      subst (λ (l : List RecView). FitsIn origin (length cs) s2 w.number ys l w.book) (sym now2_is)
      (lone_told follow of_member change origin (length cs) s2 w.number ys w.book q t.recorded.second link two.state two.hw p.knows fits_two t.recorded.joined_other on shows.state shows.hw not_ok)

  pub refused_meeting : (v' w' u : RoomView) (reply : Reply) → v'.recs ≡ now → v'.book ≡ v.book → w'.recs ≡ now2 → w'.book ≡ w.book → reply ≡ (link_of c k j one.state two.state false).reply → is_ok reply ≡ false
      → IsMeeting (link_of c k j (stream_of k xs).state (stream_of j ys).state false) p.knows v v' w w' u u xs ys reply 0
  refused_meeting v' w' u reply recs book recs2 book2 is not_ok =
      let stays : StayAlone link p.knows v v' w w' u u (stream_of k xs) (stream_of j ys) = record {
        first_log = ap logs_of (recs ∙ now_is) ∙ ap (λ (l : List Marked). l ∷ []) first_log;
        second_log = ap logs_of (recs2 ∙ now2_is) ∙ ap (λ (l : List Marked). l ∷ []) second_log;
        books = (book, book2);
        same = refl;
      } in
      subst (λ (l : Linked). IsMeeting l p.knows v v' w w' u u xs ys reply 0) link_same (record {
        reply_is = is;
        rooms = subst (λ (b : Bool). MatchBool b (HaveMet link p.knows v v' w w' u u (stream_of k xs) (stream_of j ys)) (StayAlone link p.knows v v' w w' u u (stream_of k xs) (stream_of j ys))) (sym not_ok) stays;
        woken = ap (λ (b : Bool). mask_of (cond b (woken xs ++ woken ys ++ woken (wake xs ++ wake ys)) [])) (sym not_ok);
      })

  -- ---- they have met

  pub met_meeting : (v' w' u u' : RoomView) (reply : Reply) (mask : ℕ) (r3 q3 : RecView) (cause : Receipt) → reply ≡ (link_of c k j one.state two.state false).reply → is_ok reply ≡ true → cause.sub ≡ k → cause.index ≡ length t.here.rec.knows.log
      → u'.recs ≡ r3 ∷ q3 ∷ [] → HasMoved t.recorded.first r3 u.number one cause → HasMoved t.recorded.second q3 u.number two cause → v'.book ≡ v.book ++ Out k ∷ [] → w'.book ≡ w.book ++ Out j ∷ [] → u'.book ≡ u.book ++ In k ∷ In j ∷ []
      → mask ≡ mask_of (woken xs ++ woken ys ++ woken (wake xs ++ wake ys)) → IsMeeting (link_of c k j (stream_of k xs).state (stream_of j ys).state false) p.knows v v' w w' u u' xs ys reply mask
  met_meeting v' w' u u' reply mask r3 q3 cause is ok sub index recs moved moved2 book book2 book3 woken_is =
      let place : cause.index ≡ length (log_in k v.recs) = index ∙ ap length (sym (log_in_alone v.recs k t.here)) in
      let first_move : moved_to u.number one cause ≡ move_of u.number (stream_of k xs) k (length (log_in k v.recs)) =
      ap (λ (z : State × ℕ × SubId × ℕ). moved_to u.number (record one { state = z.0; hw = z.1 }) (record { sub = z.2; index = z.3 })) (λ i. (t.shows.state i, t.shows.hw i, sub i, place i)) in
      let second_move : moved_to u.number two cause ≡ move_of u.number (stream_of j ys) k (length (log_in k v.recs)) =
      ap (λ (z : State × ℕ × SubId × ℕ). moved_to u.number (record two { state = z.0; hw = z.1 }) (record { sub = z.2; index = z.3 })) (λ i. (t.shows2.state i, t.shows2.hw i, sub i, place i)) in
      let one_is : r3.knows.log ≡ with_move (log_in k v.recs) link (stream_of k xs) p.knows u.number (length (log_in k v.recs)) = moved.log ∙ ap (λ (z : List Marked × Marked). z.0 ++ z.1 ∷ []) (λ i. (first_log i, first_move i)) in
      let two_is : q3.knows.log ≡ with_move (log_in j w.recs) link (stream_of j ys) p.knows u.number (length (log_in k v.recs)) = moved2.log ∙ ap (λ (z : List Marked × Marked). z.0 ++ z.1 ∷ []) (λ i. (second_log i, second_move i)) in
      let meets : HaveMet link p.knows v v' w w' u u' (stream_of k xs) (stream_of j ys) = record {
        logs = ap logs_of recs ∙ ap (λ (z : List Marked × List Marked). z.0 ∷ z.1 ∷ []) (λ i. (one_is i, two_is i));
        first_book = book;
        second_book = book2;
        group_book = book3;
      } in
      subst (λ (l : Linked). IsMeeting l p.knows v v' w w' u u' xs ys reply mask) link_same (record {
        reply_is = is;
        rooms = subst (λ (b : Bool). MatchBool b (HaveMet link p.knows v v' w w' u u' (stream_of k xs) (stream_of j ys)) (StayAlone link p.knows v v' w w' u u' (stream_of k xs) (stream_of j ys))) (sym ok) meets;
        woken = woken_is ∙ ap (λ (b : Bool). mask_of (cond b (woken xs ++ woken ys ++ woken (wake xs ++ wake ys)) [])) (sym ok);
      })

  pub gone_fits : GoingOut → (now_book : List BookEntry) → now_book ≡ v.book ++ Out k ∷ [] → FitsIn (fresh_streams cs long_max) (length cs) s1 v.number [] [] now_book
  gone_fits out b is = subst (λ (l : List BookEntry). FitsIn origin (length cs) s1 v.number [] [] l) (ap (λ (x : SubId). v.book ++ Out x ∷ []) t.here.sub ∙ sym is)
      (nobody_left out origin (length cs) s1 v.number xs t.here.rec v.book (standing_of origin (length cs) s1 v.number xs (t.here.rec ∷ []) v.book fits_one))

  pub gone_fits2 : GoingOut → (now_book : List BookEntry) → now_book ≡ w.book ++ Out j ∷ [] → FitsIn (fresh_streams cs long_max) (length cs) s2 w.number [] [] now_book
  gone_fits2 out b is = subst (λ (l : List BookEntry). FitsIn origin (length cs) s2 w.number [] [] l) (ap (λ (x : SubId). w.book ++ Out x ∷ []) t.there.sub ∙ sym is)
      (nobody_left out origin (length cs) s2 w.number ys t.there.rec w.book (standing_of origin (length cs) s2 w.number ys (t.there.rec ∷ []) w.book fits_two))

  pub met_fits : EntriesFollow → ComingIn → SameStreamsFit → WakesKeep → WakeLeavesWaiting → (s3 : ℕ) (u u' : RoomView) (r3 q3 : RecView) (cause : Receipt) → FitsIn (fresh_streams cs long_max) (length cs) s3 u.number [] [] u.book → is_ok (link_of c k j one.state two.state false).reply ≡ true → 16 ≤ u.number
      → u'.recs ≡ r3 ∷ q3 ∷ [] → HasMoved t.recorded.first r3 u.number one cause → HasMoved t.recorded.second q3 u.number two cause → u'.book ≡ u.book ++ In k ∷ In j ∷ [] → AllHaveDistinctClients (wake (wake xs ++ wake ys))
      → FitsIn (fresh_streams cs long_max) (length cs) s3 u.number (wake (wake xs ++ wake ys)) u'.recs u'.book
  met_fits follow coming same keep law s3 u u' r3 q3 cause empty ok high recs moved moved2 book clients =
      let r : RecView = t.here.rec in
      let q : RecView = t.there.rec in
      let a : Leaves origin (length cs) s1 v.number u.number xs v.book r t.recorded.first r3 link one.state one p.knows cause = record {
        fits = fits_one;
        joined = t.recorded.joined;
        on = subst (λ (x : SubId). LinkOn x (stream_of x xs) v.number link) (sym t.here.sub) on_first;
        shows = subst (λ (x : SubId). IsPageIn one (stream_of x xs)) (sym t.here.sub) t.shows;
        state = refl;
        moved = moved;
        low = t.low;
      } in
      let b : Leaves origin (length cs) s2 w.number u.number ys w.book q t.recorded.second q3 link two.state two p.knows cause = record {
        fits = fits_two;
        joined = t.recorded.joined_other;
        on = subst (λ (x : SubId). LinkOn x (stream_of x ys) w.number link) (sym t.there.sub) on_second;
        shows = subst (λ (x : SubId). IsPageIn two (stream_of x ys)) (sym t.there.sub) t.shows2;
        state = refl;
        moved = moved2;
        low = t.low2;
      } in
      let ne : r.knows.sub ≢ q.knows.sub = (λ e. t.apart (sym (ap (λ (x : SubId). x.0) t.here.sub) ∙ e ∙ ap (λ (x : SubId). x.0) t.there.sub)) in
      let fits = meet_fits follow coming same keep law origin (length cs) s1 v.number s2 w.number s3 u.number xs ys v.book w.book u.book r t.recorded.first r3 q t.recorded.second q3 link one.state two.state one two p.knows cause a b empty ok high ne clients in
      subst (λ (z : List RecView × List BookEntry). FitsIn origin (length cs) s3 u.number (wake (wake xs ++ wake ys)) z.0 z.1)
      (λ i. (sym recs i, (ap (λ (z : SubId × SubId). u.book ++ In z.0 ∷ In z.1 ∷ []) (λ m. (t.here.sub m, t.there.sub m)) ∙ sym book) i)) fits

  -- ---- the pass

  pub link_known : EntriesFollow → LogOfMember → (reply : Reply) (receipt : Receipt) → reply ≡ (link_of c k j one.state two.state false).reply → receipt.sub ≡ k → receipt.index ≡ length t.here.rec.knows.log → Knows cs long_max (link_by c k j) 0 reply receipt p p'
  link_known follow of_member reply receipt is sub index =
      let r : RecView = t.here.rec in
      let cb = t.recorded.called_by in
      let s : Stream = stream_of k xs in
      let sub0 : receipt.sub.0 ≡ r.knows.sub = ap (λ (x : SubId). x.0) (sub ∙ sym t.here.sub) in
      let told : told_log receipt p'.knows ≡ t.recorded.first.knows.log = ap (λ (n : ℕ). longest n p'.knows.held.logs) sub0 ∙ cb.list in
      let on : LinkOn (sub_of r) (stream_of (sub_of r) xs) v.number link = subst (λ (x : SubId). LinkOn x (stream_of x xs) v.number link) (sym t.here.sub) on_first in
      let fit : LogFits origin v.number v.book (sub_of r) r.knows.log (stream_of (sub_of r) xs) = alone_fit cs long_max s1 xs v r fits_one in
      let end : Replayed = record { stream = stream_of (sub_of r) xs; room = v.number; since = joints_now (sub_of r) v.number v.book; due = due_link link.reply v.number } in
      let played = link_played follow origin v.number v.book (sub_of r) r.knows.log (stream_of (sub_of r) xs) link p.knows fit on in
      let log_is : r.knows.log ++ link_marked link (stream_of (sub_of r) xs).state (shown (stream_of (sub_of r) xs) (stream_of (sub_of r) xs).at.hw) p.knows ∷ [] ≡ told_log receipt p'.knows =
      ap (λ (x : SubId). r.knows.log ++ link_marked link (stream_of x xs).state (shown (stream_of x xs) (stream_of x xs).at.hw) p.knows ∷ []) t.here.sub
      ∙ ap (λ (l : List Marked). l ++ link_marked link s.state (shown s s.at.hw) p.knows ∷ []) (sym (log_in_alone v.recs k t.here)) ∙ sym first_log ∙ sym told in
      record {
        same = (cb.caller, cb.number, cb.reads);
        busy = cb.busy ∙ sym (ap (asleep_on k) is ∙ awake_link k k.0 j.0 one.state two.state false);
        calls = cb.calls;
        receipts = cb.receipts ∙ ap (λ (z : ℕ × ℕ). p.knows.receipts ++ (z.0, z.1) ∷ []) (λ i. (sym sub0 i, sym index i));
        plays = (end, subst (λ (z : SubId × List Marked). PlaysLog z.0 (start origin z.0) z.1 end) (λ i. ((t.here.sub ∙ sym sub) i, log_is i)) played);
        onward = subst (λ (n : ℕ). IsPrefix (longest n p.knows.held.logs) (longest n p'.knows.held.logs)) (sym sub0) cb.onward;
        held = cb.held;
        has = record {
          entry = link_marked link one.state one.hw p.knows;
          at = ap (λ (z : List Marked × ℕ). slice_get z.0 z.1) (λ i. ((told ∙ t.recorded.joined.log) i, index i)) ∙ get_last r.knows.log (link_marked link one.state one.hw p.knows);
          tells = (refl, sym is);
          call = both_same p.knows.number (length p.knows.calls);
          count_is = refl;
        };
      }
