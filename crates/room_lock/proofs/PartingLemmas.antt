-- A group of two parts: what fits in the rooms then.
use Rattle.std.proofs.Common.{◌≡◌, ◌≢◌, ◌≤◌, ◌<◌, ◌-◌, ℕ, suc, zero, Bool, true, false, cond, nat_eq, List, [], ◌∷◌, ◌++◌, length, slice_get, get_or, Some, append_assoc, refl, sym, ap, ◌∙◌, subst, arith}
use Rattle.std.specs.List.{remove}
use Rattle.std.specs.Prelude.{◌||◌, MatchBool}
use Rattle.std.proofs.lemmas.Bool.Decides.{nat_tests}
use Rattle.pcm_base.specs.declared.call.Event.{Event}
use Rattle.pcm_base.specs.declared.config.CardModel.{CardModel}
use Rattle.pcm_base.specs.declared.ids.ClientId.{ClientId}
use Rattle.pcm_base.specs.declared.ids.SubId.{SubId}
use Rattle.pcm_base.specs.declared.reply.Page.{Page}
use Rattle.pcm_base.specs.declared.reply.Reply.{Reply}
use Rattle.pcm_base.specs.declared.state.Dir.{Dir}
use Rattle.pcm_base.specs.declared.state.State.{State}
use Rattle.pcm_base.specs.model.Acts.{subs}
use Rattle.pcm_base.specs.model.Group.{stream_of}
use Rattle.pcm_base.specs.model.Replay.{is_member}
use Rattle.pcm_base.specs.model.Sleep.{mask_of, wake}
use Rattle.pcm_base.specs.model.Stream.{Member, Stream}
use Rattle.pcm_base.specs.model.World.{without_member}
use Rattle.pcm_laws.specs.Waiting.{AllHaveDistinctClients, WakeLeavesWaiting}
use Rattle.floor_rule.specs.declared.rule.Marked.{Marked}
use Rattle.floor_rule.specs.declared.rule.PassKnows.{PassKnows}
use Rattle.room_book.specs.Laws.{ComingIn, GoingOut, LogOfMember, SameStreamsFit, WakesKeep}
use Rattle.room_book.specs.Logs.{Replayed, is_ok, nothing}
use Rattle.room_book.specs.Rooms.{LogFits, fresh_streams, joints_now}
use Rattle.room_book.specs.declared.book.BookEntry.{BookEntry}
use Rattle.room_book.specs.declared.book.BookEntry.TheVariants.{In, Out}
use Rattle.room_parts.specs.Passes.{PassView}
use Rattle.room_parts.specs.Recs.{RecView, sub_of, subs_of}
use Rattle.room_lock.specs.declared.recording.Receipt.{Receipt}
use Rattle.room_lock.specs.declared.unlinking.UnlinkTold.{UnlinkTold}
use Rattle.room_lock.specs.Answers.{log_in}
use Rattle.room_lock.specs.InGroup.{IsPageIn}
use Rattle.room_lock.specs.InRoom.{FitsIn, RoomView}
use Rattle.room_lock.specs.Leaving.{woken_apart}
use Rattle.room_lock.specs.Linked.{HasMoved, moved_to}
use Rattle.room_lock.specs.Met.{move_of}
use Rattle.room_lock.specs.Parting.{HaveParted, IsParting, StayLinked, at_home}
use Rattle.room_lock.specs.Turning.{logs_of}
use Rattle.room_lock.specs.Staying.{unlink_by, unlink_marked, unlink_reply}
use Rattle.room_lock.proofs.KnownLemmas.{Knows as RoomKnows, log_in_known}
use Rattle.room_lock.proofs.LeavingLemmas.{ToldIn, gone_log, home_fits, in_apart, in_receipt, in_standing, left_standing, linked_high, state_reply, still_logs, unlinked_known}
use Rattle.room_lock.proofs.LinkLemmas.{Standing, log_before, nobody_left}
use Rattle.room_lock.proofs.MeetLemmas.{only_stream}
use Rattle.room_lock.proofs.RecLemmas.{found, no_rec, some_one}
use Rattle.room_lock.proofs.ToldLemmas.{log_of_rec}

-- the others have the streams that they had, and stand there
pub other_stream : (j k : SubId) (xs : List Member) → nat_eq k.0 j.0 ≡ false → stream_of j (without_member k xs) ≡ stream_of j xs
other_stream j k [] ne = refl
other_stream j k (x ∷ xs) ne = by (nat_eq x.sub.0 k.0) refl (other_stream j k xs ne)
  where
    by : (b : Bool) → nat_eq x.sub.0 k.0 ≡ b → stream_of j (without_member k xs) ≡ stream_of j xs → stream_of j (cond b xs (x ∷ without_member k xs)) ≡ cond (nat_eq x.sub.0 j.0) x.stream (stream_of j xs)
    by true e rest = let test : nat_eq x.sub.0 j.0 ≡ false = grind (arith, nat_tests, e, ne) in sym (ap (λ (c : Bool). cond c x.stream (stream_of j xs)) test)
    by false e rest = ap (λ (s : Stream). cond (nat_eq x.sub.0 j.0) x.stream s) rest

pub still_member : (j k : SubId) (xs : List Member) → nat_eq k.0 j.0 ≡ false → is_member j (subs xs) ≡ true → is_member j (subs (without_member k xs)) ≡ true
still_member j k [] ne there = there
still_member j k (x ∷ xs) ne there = by (nat_eq x.sub.0 k.0) refl there (λ h. still_member j k xs ne h)
  where
    by : (b : Bool) → nat_eq x.sub.0 k.0 ≡ b → (nat_eq x.sub.0 j.0 || is_member j (subs xs)) ≡ true → (is_member j (subs xs) ≡ true → is_member j (subs (without_member k xs)) ≡ true) → is_member j (subs (cond b xs (x ∷ without_member k xs))) ≡ true
    by true e h rest = let test : nat_eq x.sub.0 j.0 ≡ false = grind (arith, nat_tests, e, ne) in sym (ap (λ (c : Bool). c || is_member j (subs xs)) test) ∙ h
    by false e h rest = either (nat_eq x.sub.0 j.0) h
      where
        either : (c : Bool) → (c || is_member j (subs xs)) ≡ true → (c || is_member j (subs (without_member k xs))) ≡ true
        either true g = refl
        either false g = rest g

-- the other goes home, to which its log may go on
pub last_home : LogOfMember → ComingIn → SameStreamsFit → WakesKeep → WakeLeavesWaiting → (origin : SubId → Stream) (cards serial number serial' home : ℕ) (ys : List Member) (q s : RecView) (book own : List BookEntry) (page : Page) (cause : Receipt) → Standing origin cards serial number ys (q ∷ []) book
    → 16 ≤ number → FitsIn origin cards serial' home [] [] own → HasMoved q s home page cause → IsPageIn page (stream_of (sub_of q) ys) → home ≡ (sub_of q).0 → home < 16 → AllHaveDistinctClients (wake ys) → FitsIn origin cards serial' home (wake ys) (s ∷ []) (own ++ In (sub_of q) ∷ [])
last_home of_member coming same keep law origin cards serial number serial' home [] q s book own page cause stand high empty moved shows is small clients = absurd (let e = stand.recs_are in let no : ⊥ = cc in no)
last_home of_member coming same keep law origin cards serial number serial' home (m ∷ n ∷ ys) q s book own page cause stand high empty moved shows is small clients = absurd (let e = stand.recs_are in let no : ⊥ = cc in no)
last_home of_member coming same keep law origin cards serial number serial' home (m ∷ []) q s book own page cause stand high empty moved shows is small clients =
    let sub : sub_of q ≡ m.sub = (let e = stand.recs_are in cc) in
    let stream : stream_of (sub_of q) (m ∷ []) ≡ m.stream = only_stream (sub_of q) m sub in
    let fit : LogFits origin number book m.sub q.knows.log m.stream = subst (λ (z : SubId × Stream). LogFits origin number book z.0 q.knows.log z.1) (λ i. (sub i, stream i)) (log_before of_member origin cards serial number (m ∷ []) (q ∷ []) book 0 q stand refl) in
    let end : Replayed = record { stream = m.stream; room = number; since = joints_now m.sub number book; due = nothing } in
    let home_is : home ≡ m.sub.0 = is ∙ ap (λ (k : SubId). k.0) sub in
    subst (λ (k : SubId). FitsIn origin cards serial' home (wake (m ∷ [])) (s ∷ []) (own ++ In k ∷ [])) (sym sub)
    (home_fits coming same keep law origin cards serial' home own m q s end page cause empty sub fit refl (high, home_is) (subst (λ (z : Stream). IsPageIn page z) stream shows) moved (stand.placed 0 q refl).1 home_is small clients)

-- and nobody is left
pub parted : GoingOut → (origin : SubId → Stream) (cards serial number : ℕ) (ys : List Member) (q : RecView) (book : List BookEntry) (k : SubId) → Standing origin cards serial number ys (q ∷ []) (book ++ Out k ∷ []) → FitsIn origin cards serial number [] [] (book ++ Out k ∷ Out (sub_of q) ∷ [])
parted out origin cards serial number ys q book k stand =
    subst (λ (b : List BookEntry). FitsIn origin cards serial number [] [] b) (append_assoc book (Out k ∷ []) (Out (sub_of q) ∷ [])) (nobody_left out origin cards serial number ys q (book ++ Out k ∷ []) stand)

-- ---- two by their places

pair_left : (rs : List RecView) (i : ℕ) (q : RecView) → length rs ≡ 2 → i < 2 → slice_get rs (1 - i) ≡ Some q → remove rs i ≡ q ∷ []
pair_left [] i q two lt at = absurd (omega (arith, two))
pair_left (x ∷ []) i q two lt at = absurd (omega (arith, two))
pair_left (x ∷ y ∷ z ∷ rs) i q two lt at = absurd (omega (arith, two))
pair_left (x ∷ y ∷ []) zero q two lt at = ap (λ (r : RecView). r ∷ []) (some_one y q at)
pair_left (x ∷ y ∷ []) (suc zero) q two lt at = ap (λ (r : RecView). r ∷ []) (some_one x q at)
pair_left (x ∷ y ∷ []) (suc (suc i)) q two lt at = absurd (omega (arith, lt))

-- the recs of the two
pub record Pair (rs : List RecView) (i : ℕ) : Type 0 where
  pub here : RecView
  pub there : RecView
  pub here_at : slice_get rs i ≡ Some here
  pub there_at : slice_get rs (1 - i) ≡ Some there
  pub rest : remove rs i ≡ there ∷ []

pub pair_of : (rs : List RecView) (i : ℕ) → length rs ≡ 2 → i < 2 → Pair rs i
pair_of rs i two lt =
    let there_at : slice_get rs (1 - i) ≡ Some (get_or rs (1 - i) no_rec) = found rs (1 - i) (omega (arith, two, lt)) in
    record {
      here = get_or rs i no_rec;
      there = get_or rs (1 - i) no_rec;
      here_at = found rs i (omega (arith, two, lt));
      there_at = there_at;
      rest = pair_left rs i (get_or rs (1 - i) no_rec) two lt there_at;
    }

only_member_is : (j k : SubId) → is_member j (k ∷ []) ≡ true → k ≡ j
only_member_is j k there = by (nat_eq k.0 j.0) refl there
  where
    by : (b : Bool) → nat_eq k.0 j.0 ≡ b → (b || false) ≡ true → k ≡ j
    by true e h = let n : k.0 ≡ j.0 = grind (arith, nat_tests, e) in ap (λ (i : ℕ). let x : SubId = record { 0 = i } in x) n
    by false e h = absurd (let never : ⊥ = cc in never)

module _ {cs : List (CardModel × Dir)} {long_max serial : ℕ} {xs : List Member} {v : RoomView} {i : ℕ} {c : ClientId} {k : SubId} {told : UnlinkTold} {now : List RecView} {p p' : PassView} (t : ToldIn cs long_max serial xs v i c k told now p p') where
  abbrev origin : SubId → Stream
  origin = fresh_streams cs long_max

  -- what is known of the other, whose rec is q and whose own room is j
  pub record IsOther (j : SubId) (q : RecView) : Type 0 where
    pub rest : remove v.recs i ≡ q ∷ []
    pub sub : sub_of q ≡ j
    pub apart : nat_eq k.0 j.0 ≡ false
    pub at : slice_get v.recs (1 - i) ≡ Some q

  pub other_of : GoingOut → SameStreamsFit → WakesKeep → (j : SubId) (q : RecView) → length v.recs ≡ 2 → i < 2 → slice_get v.recs (1 - i) ≡ Some q → is_member j (subs xs) ≡ true → j.0 ≢ k.0 → IsOther j q
  other_of out same keep j q two lt at there ne =
      let rest : remove v.recs i ≡ q ∷ [] = pair_left v.recs i q two lt at in
      let apart : nat_eq k.0 j.0 ≡ false = grind (arith, nat_tests, ne) in
      let stand = left_standing out same keep origin (length cs) serial v.number xs v.recs v.book i t.told_is.before k (in_standing t) t.told_is.at t.told_is.sub in
      let among_all : is_member j (subs (wake xs)) ≡ true = ap (is_member j) (keep xs).0 ∙ there in
      let left : is_member j (subs (without_member k (wake xs))) ≡ true = still_member j k (wake xs) apart among_all in
      let one : is_member j (sub_of q ∷ []) ≡ true = ap (is_member j) (sym (ap subs_of rest) ∙ stand.recs_are) ∙ left in
      record { rest = rest; sub = only_member_is j (sub_of q) one; apart = apart; at = at }

  module _ {j : SubId} {q : RecView} (o : IsOther j q) where
    -- the room that the other is left alone in
    pub alone_standing : GoingOut → SameStreamsFit → WakesKeep → Standing (fresh_streams cs long_max) (length cs) serial v.number (without_member k (wake xs)) (q ∷ []) (v.book ++ Out k ∷ [])
    alone_standing out same keep =
        subst (λ (rs : List RecView). Standing (fresh_streams cs long_max) (length cs) serial v.number (without_member k (wake xs)) rs (v.book ++ Out k ∷ [])) o.rest
        (left_standing out same keep origin (length cs) serial v.number xs v.recs v.book i t.told_is.before k (in_standing t) t.told_is.at t.told_is.sub)

    pub nobody_stays : GoingOut → SameStreamsFit → WakesKeep → FitsIn (fresh_streams cs long_max) (length cs) serial v.number [] [] (v.book ++ Out k ∷ Out j ∷ [])
    nobody_stays out same keep =
        subst (λ (x : SubId). FitsIn (fresh_streams cs long_max) (length cs) serial v.number [] [] (v.book ++ Out k ∷ Out x ∷ [])) o.sub
        (parted out origin (length cs) serial v.number (without_member k (wake xs)) q v.book k (alone_standing out same keep))

    pub other_home : GoingOut → LogOfMember → ComingIn → SameStreamsFit → WakesKeep → WakeLeavesWaiting → (serial' room : ℕ) (own : List BookEntry) (u : RecView) (left : Page) → is_ok told.reply ≡ true → FitsIn (fresh_streams cs long_max) (length cs) serial' room [] [] own → HasMoved q u room left told.receipt
        → IsPageIn left (stream_of j xs) → room ≡ j.0 → room < 16 → AllHaveDistinctClients (wake (without_member k (wake xs))) → FitsIn (fresh_streams cs long_max) (length cs) serial' room (wake (without_member k (wake xs))) (u ∷ []) (own ++ In j ∷ [])
    other_home out of_member coming same keep law serial' room own u left ok empty moved shows is small clients =
        let ys : List Member = without_member k (wake xs) in
        let stream : stream_of j ys ≡ stream_of j xs = other_stream j k (wake xs) o.apart ∙ (keep xs).1 j in
        let page : IsPageIn left (stream_of (sub_of q) ys) = subst (λ (z : Stream). IsPageIn left z) (sym (ap (λ (x : SubId). stream_of x ys) o.sub ∙ stream)) shows in
        subst (λ (x : SubId). FitsIn (fresh_streams cs long_max) (length cs) serial' room (wake ys) (u ∷ []) (own ++ In x ∷ [])) o.sub
        (last_home of_member coming same keep law origin (length cs) serial v.number serial' room ys q u (v.book ++ Out k ∷ []) own left told.receipt (alone_standing out same keep) (linked_high t ok) empty moved page (is ∙ ap (λ (x : SubId). x.0) (sym o.sub)) small clients)

    -- its log, once it has moved
    pub other_gone : (u : RecView) (room : ℕ) (left : Page) → HasMoved q u room left told.receipt → IsPageIn left (stream_of j xs) → u.knows.log ≡ log_in j v.recs ++ move_of room (stream_of j xs) k (length (log_in k v.recs)) ∷ []
    other_gone u room left moved shows =
        let place = in_receipt t in
        let move_is : moved_to room left told.receipt ≡ move_of room (stream_of j xs) k (length (log_in k v.recs)) =
        ap (λ (z : State × ℕ × SubId × ℕ). moved_to room (record left { state = z.0; hw = z.1 }) (record { sub = z.2; index = z.3 })) (λ n. (shows.state n, shows.hw n, place.0 n, place.1 n)) in
        moved.log ∙ ap (λ (z : List Marked × Marked). z.0 ++ z.1 ∷ []) (λ n. (sym (log_of_rec v.recs (1 - i) q j (in_apart t) o.at o.sub) n, move_is n))

  pub is_parted : (v' a a' b b' : RoomView) (mask : ℕ) (q s u : RecView) (left : Page) → IsOther (at_home b) q → is_ok told.reply ≡ true → a'.recs ≡ s ∷ [] → b'.recs ≡ u ∷ [] → HasMoved t.told_is.recorded.rec s a.number told.page told.receipt → HasMoved q u b.number left told.receipt → IsPageIn left (stream_of (at_home b) xs)
      → v'.book ≡ v.book ++ Out k ∷ Out (at_home b) ∷ [] → a'.book ≡ a.book ++ In k ∷ [] → b'.book ≡ b.book ++ In (at_home b) ∷ [] → mask ≡ mask_of (woken_apart k xs) → IsParting (unlink_by c k) p.knows v v' a a' b b' xs told.reply mask
  is_parted v' a a' b b' mask q s u left o ok own_recs other_recs moved other_moved shows book own_book other_book woken_is =
      let did : HaveParted (unlink_by c k) told.reply p.knows v v' a a' b b' xs = record {
        own_log = ap logs_of own_recs ∙ ap (λ (l : List Marked). l ∷ []) (gone_log t s a.number moved);
        other_log = ap logs_of other_recs ∙ ap (λ (l : List Marked). l ∷ []) (other_gone o u b.number left other_moved shows);
        book = book;
        own_book = own_book;
        other_book = other_book;
      } in
      record {
        reply_is = state_reply t;
        rooms = subst (λ (x : Bool). MatchBool x (HaveParted (unlink_by c k) told.reply p.knows v v' a a' b b' xs) (StayLinked (unlink_by c k) told.reply p.knows v v' a a' b b' xs)) (sym ok) did;
        woken = woken_is ∙ ap (λ (x : Bool). mask_of (cond x (woken_apart k xs) [])) (sym ok);
      }

  pub is_kept : (v' a a' b b' : RoomView) → v'.recs ≡ now → v'.book ≡ v.book → a' ≡ a → b' ≡ b → is_ok told.reply ≡ false → IsParting (unlink_by c k) p.knows v v' a a' b b' xs told.reply 0
  is_kept v' a a' b b' recs book same same2 refused =
      let stays : StayLinked (unlink_by c k) told.reply p.knows v v' a a' b b' xs = record { logs = ap logs_of recs ∙ still_logs t; book = book; same = (same, same2) } in
      record {
        reply_is = state_reply t;
        rooms = subst (λ (x : Bool). MatchBool x (HaveParted (unlink_by c k) told.reply p.knows v v' a a' b b' xs) (StayLinked (unlink_by c k) told.reply p.knows v v' a a' b b' xs)) (sym refused) stays;
        woken = ap (λ (x : Bool). mask_of (cond x (woken_apart k xs) [])) (sym refused);
      }

-- ---- rooms that know what others do

pub parting_known : (s s' : ℕ) (e : Event) (p : PassKnows) (v v2 v' a a2 a' b b2 b' : RoomView) (xs : List Member) (reply : Reply) (mask : ℕ) → RoomKnows s s' v v2 → a2 ≡ a → b2 ≡ b → IsParting e p v2 v' a2 a' b2 b' xs reply mask → IsParting e p v v' a a' b b' xs reply mask
parting_known s s' e p v v2 v' a a2 a' b b2 b' xs reply mask k same same2 h = record {
  reply_is = h.reply_is ∙ ap (λ (n : ℕ). unlink_reply (stream_of e.sub xs).state n) k.number;
  rooms = by (is_ok reply) h.rooms;
  woken = h.woken;
}
  where
    by : (x : Bool) → MatchBool x (HaveParted e reply p v2 v' a2 a' b2 b' xs) (StayLinked e reply p v2 v' a2 a' b2 b' xs) → MatchBool x (HaveParted e reply p v v' a a' b b' xs) (StayLinked e reply p v v' a a' b b' xs)
    by true m = record {
      own_log = m.own_log ∙ ap (λ (z : List Marked × ℕ). (z.0 ++ unlink_marked e reply (stream_of e.sub xs) p ∷ move_of z.1 (stream_of e.sub xs) e.sub (length z.0) ∷ []) ∷ []) (λ i. (log_in_known e.sub v.recs v2.recs k.recs i, (same i).number));
      other_log = m.other_log
          ∙ ap (λ (z : RoomView). (log_in (at_home z) v2.recs ++ move_of z.number (stream_of (at_home z) xs) e.sub (length (log_in e.sub v2.recs)) ∷ []) ∷ []) same2
          ∙ ap (λ (z : List Marked × List Marked). (z.0 ++ move_of b.number (stream_of (at_home b) xs) e.sub (length z.1) ∷ []) ∷ []) (λ i. (log_in_known (at_home b) v.recs v2.recs k.recs i, log_in_known e.sub v.recs v2.recs k.recs i));
      book = m.book ∙ ap (λ (z : List BookEntry × RoomView). z.0 ++ Out e.sub ∷ Out (at_home z.1) ∷ []) (λ i. (k.book i, same2 i));
      own_book = m.own_book ∙ ap (λ (r : RoomView). r.book ++ In e.sub ∷ []) same;
      other_book = m.other_book ∙ ap (λ (r : RoomView). r.book ++ In (at_home r) ∷ []) same2;
    }
    by false m = record {
      logs = m.logs ∙ unlinked_known e reply xs p v.recs v2.recs k.recs;
      book = m.book ∙ k.book;
      same = (m.same.0 ∙ same, m.same.1 ∙ same2);
    }
