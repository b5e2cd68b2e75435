-- A member goes home from a group: what fits in its room, and in the one that it leaves.
use Rattle.std.proofs.Common.{◌≡◌, ◌⊎◌, inr, ◌≤◌, ◌<◌, ◌+◌, ℕ, zero, suc, Bool, true, false, cond, nat_eq, nat_le, nat_lt, List, [], ◌∷◌, ◌++◌, length, length-append, map, slice_get, slice_set, Some, append_assoc, refl, sym, ap, ◌∙◌, subst, arith}
use Rattle.std.specs.List.{remove}
use Rattle.std.specs.Prelude.{◌||◌, not, MatchBool}
use Rattle.std.proofs.lemmas.Bool.Decides.{nat_tests}
use Rattle.std.proofs.lemmas.Option.{slice_get_within}
use Rattle.card_emul.specs.declared.any_card.AnyCard.{AnyCard}
use Rattle.card_emul.specs.contracts.any_card.AnyCardCard.TheImpl.{ghosts}
use Rattle.pcm_base.specs.declared.call.Call.TheVariants as call
use Rattle.pcm_base.specs.declared.call.Event.{Event}
use Rattle.pcm_base.specs.declared.config.CardModel.{CardModel}
use Rattle.pcm_base.specs.declared.ids.ClientId.{ClientId}
use Rattle.pcm_base.specs.declared.ids.SubId.{SubId}
use Rattle.pcm_base.specs.declared.reply.Page.{Page}
use Rattle.pcm_base.specs.declared.reply.Reply.{Reply}
use Rattle.pcm_base.specs.declared.state.Dir.{Dir}
use Rattle.pcm_base.specs.declared.state.Errno.TheVariants as errno
use Rattle.pcm_base.specs.declared.state.State.{State}
use Rattle.pcm_base.specs.model.Acts.{subs}
use Rattle.pcm_base.specs.model.Group.{stream_of}
use Rattle.pcm_base.specs.model.Replay.{Distinct, is_member}
use Rattle.pcm_base.specs.model.Sleep.{mask_of, wake}
use Rattle.pcm_base.specs.model.Stream.{Member, Stream}
use Rattle.pcm_base.specs.model.Words.{when, ◌then◌, is_closed}
use Rattle.pcm_base.specs.model.World.{only_member, without_member}
use Rattle.pcm_laws.specs.Waiting.{AllHaveDistinctClients, WakeLeavesWaiting}
use Rattle.pcm_stream.specs.Members.{numbers_of}
use Rattle.pcm_stream.specs.declared.members.Member.{Member as GroupMember}
use Rattle.floor_rule.specs.Causes.{Causes}
use Rattle.floor_rule.specs.declared.entry.Entry.TheVariants as entry
use Rattle.floor_rule.specs.declared.rule.Marked.{Marked}
use Rattle.floor_rule.specs.declared.rule.PassKnows.{PassKnows}
use Rattle.room_book.specs.Laws.{ComingIn, EntriesFollow, GoingOut, LogOfMember, OneLogChanges, SameStreamsFit, WakesKeep}
use Rattle.room_book.specs.Logs.{Due, MayMove, PlaysLog, Replayed, answered, due_own, home, is_ok, nothing}
use Rattle.room_book.specs.Rooms.{BookFits, IsOwnOrNone, RightSize, fresh_streams, joints_now, start, with_log, without_log}
use Rattle.room_book.specs.declared.book.BookEntry.{BookEntry}
use Rattle.room_book.specs.declared.book.BookEntry.TheVariants.{In, Out}
use Rattle.room_parts.specs.Passes.{PassView}
use Rattle.room_parts.specs.Recs.{RecView, sub_of, subs_of}
use Rattle.room_lock.specs.declared.recording.Receipt.{Receipt}
use Rattle.room_lock.specs.declared.unlinking.UnlinkTold.{UnlinkTold}
use Rattle.room_lock.specs.Answers.{log_in}
use Rattle.room_lock.specs.InGroup.{IsPageIn}
use Rattle.room_lock.specs.InRoom.{AllPlaced, FitsIn, InRoom, IsIn, RoomView}
use Rattle.room_lock.specs.Joined.{HasRoom}
use Rattle.room_lock.specs.Known.{Knows}
use Rattle.room_lock.specs.Leaving.{HasLeft, IsLeaving, StayTogether, log_gone, logs_unlinked, woken_apart}
use Rattle.room_lock.specs.Linked.{HasMoved, moved_to}
use Rattle.room_lock.specs.Met.{move_of}
use Rattle.room_lock.specs.Ready.{knows_of}
use Rattle.room_lock.specs.Recorded.{called}
use Rattle.room_lock.specs.Staying.{IsUnlinkTold, unlink_by, unlink_marked, unlink_reply}
use Rattle.room_lock.specs.Turning.{logs_of}
use Rattle.room_lock.proofs.KnownLemmas.{Knows as RoomKnows, log_in_known, none_known}
use Rattle.room_lock.proofs.LinkLemmas.{Standing, acts_out_line, asleep_wait, come_in, map_set_place, room_fits, standing_of, wake_standing, with_log_at}
use Rattle.room_lock.proofs.MemberLemmas.{numbers_are}
use Rattle.room_lock.proofs.NewLemmas.{alone_right}
use Rattle.room_lock.proofs.ReadyLemmas.{logs_known, subs_known}
use Rattle.room_lock.proofs.RecLemmas.{get_set}
use Rattle.room_lock.proofs.Records.{among, later, length_map, number_at}
use Rattle.room_lock.proofs.SharedLemmas.{get_last, subs_set}
use Rattle.room_lock.proofs.TellingLemmas.{no_recs_of, no_streams, ok_is}
use Rattle.room_lock.proofs.ToldLemmas.{distinct_recs, log_of_rec}
use Rattle.room_lock.proofs.UnlinkLemmas.{unlink_known, unlink_stays, unlink_told, unlinked_log}

-- ---- lists without the one at a place

pub remove_set : {A : Type 0} (xs : List A) (i : ℕ) (y : A) → remove (slice_set xs i y) i ≡ remove xs i
remove_set [] i y = refl
remove_set (x ∷ xs) zero y = refl
remove_set {A} (x ∷ xs) (suc i) y = ap (λ (l : List A). x ∷ l) (remove_set xs i y)

pub map_remove : {A B : Type 0} (f : A → B) (xs : List A) (i : ℕ) → map f (remove xs i) ≡ remove (map f xs) i
map_remove f [] zero = refl
map_remove f [] (suc i) = refl
map_remove f (x ∷ xs) zero = refl
map_remove {A} {B} f (x ∷ xs) (suc i) = ap (λ (l : List B). f x ∷ l) (map_remove f xs i)

pub length_remove : {A : Type 0} (xs : List A) (i : ℕ) → i < length xs → length (remove xs i) + 1 ≡ length xs
length_remove [] i lt = absurd (omega (arith, lt))
length_remove (x ∷ xs) zero lt = omega arith
length_remove (x ∷ xs) (suc i) lt = (let rest = length_remove xs i (omega (arith, lt)) in omega (arith, rest))

without_log_at : (js : List SubId) (ls : List (List Marked)) (i : ℕ) (k : SubId) → Distinct js → slice_get js i ≡ Some k → length js ≡ length ls → without_log k js ls ≡ remove ls i
without_log_at [] ls i k d at size = absurd (cc)
without_log_at (j ∷ js) [] i k d at size = absurd (omega (arith, size))
without_log_at (j ∷ js) (l ∷ ls) zero k d at size =
    let e : j ≡ k = cc in
    let n : j.0 ≡ k.0 = ap (λ (x : SubId). x.0) e in
    let test : nat_eq j.0 k.0 ≡ true = grind (arith, nat_tests, n) in
    ap (λ (b : Bool). cond b ls (l ∷ without_log k js ls)) test
without_log_at (j ∷ js) (l ∷ ls) (suc i) k d at size =
    ap (λ (z : Bool × List (List Marked)). cond z.0 ls (l ∷ z.1)) (λ m. (later j js i k d.0 at m, without_log_at js ls i k d.1 at (omega (arith, size)) m))

subs_without : (xs : List Member) (i : ℕ) (k : SubId) → Distinct (subs xs) → slice_get (subs xs) i ≡ Some k → subs (without_member k xs) ≡ remove (subs xs) i
subs_without [] i k d at = absurd (cc)
subs_without (x ∷ xs) zero k d at =
    let e : x.sub ≡ k = cc in
    let n : x.sub.0 ≡ k.0 = ap (λ (j : SubId). j.0) e in
    let test : nat_eq x.sub.0 k.0 ≡ true = grind (arith, nat_tests, n) in
    ap (λ (b : Bool). subs (cond b xs (x ∷ without_member k xs))) test
subs_without (x ∷ xs) (suc i) k d at =
    ap (λ (b : Bool). subs (cond b xs (x ∷ without_member k xs))) (later x.sub (subs xs) i k d.0 at) ∙ ap (λ (l : List SubId). x.sub ∷ l) (subs_without xs i k d.1 at)

placed_remove : (number cards : ℕ) (rs : List RecView) (i : ℕ) → AllPlaced number cards rs → AllPlaced number cards (remove rs i)
placed_remove number cards [] zero h j r at = absurd (let no : ⊥ = cc in no)
placed_remove number cards [] (suc i) h j r at = absurd (let no : ⊥ = cc in no)
placed_remove number cards (x ∷ rs) zero h j r at = h (suc j) r at
placed_remove number cards (x ∷ rs) (suc i) h zero r at = h 0 r at
placed_remove number cards (x ∷ rs) (suc i) h (suc j) r at = placed_remove number cards rs i (λ m s t. h (suc m) s t) j r at

-- a group of two or more is of the right number
pub many_fit : (number : ℕ) (js : List SubId) → 16 ≤ number → 2 ≤ length js → RightSize number js
many_fit number js high two =
    let test : nat_lt number 16 ≡ false = grind (arith, nat_tests, high) in
    subst (λ (b : Bool). MatchBool b (IsOwnOrNone number js) ((length js ≡ 0) ⊎ (2 ≤ length js))) (sym test) (inr two)

-- the member that goes
pub record OneOf (k : SubId) (xs : List Member) : Type 0 where
  pub one : Member
  pub only : only_member k xs ≡ one ∷ []
  pub sub : one.sub ≡ k
  pub stream : stream_of k xs ≡ one.stream

pub one_of : (k : SubId) (xs : List Member) → is_member k (subs xs) ≡ true → OneOf k xs
one_of k [] there = absurd (let no : ⊥ = cc in no)
one_of k (x ∷ xs) there = by (nat_eq x.sub.0 k.0) refl there (λ h. one_of k xs h)
  where
    by : (b : Bool) → nat_eq x.sub.0 k.0 ≡ b → (b || is_member k (subs xs)) ≡ true → (is_member k (subs xs) ≡ true → OneOf k xs) → OneOf k (x ∷ xs)
    by true e h rest =
        let n : x.sub.0 ≡ k.0 = grind (arith, nat_tests, e) in
        record {
          one = x;
          only = ap (λ (b : Bool). cond b (x ∷ []) (only_member k xs)) e;
          sub = ap (λ (m : ℕ). let j : SubId = record { 0 = m } in j) n;
          stream = ap (λ (b : Bool). cond b x.stream (stream_of k xs)) e;
        }
    by false e h rest =
        let o = rest h in
        record {
          one = o.one;
          only = ap (λ (b : Bool). cond b (x ∷ []) (only_member k xs)) e ∙ o.only;
          sub = o.sub;
          stream = ap (λ (b : Bool). cond b x.stream (stream_of k xs)) e ∙ o.stream;
        }

-- ---- rooms

-- the others stay
pub left_standing : GoingOut → SameStreamsFit → WakesKeep → (origin : SubId → Stream) (cards serial number : ℕ) (xs : List Member) (rs : List RecView) (book : List BookEntry) (i : ℕ) (r : RecView) (k : SubId) → Standing origin cards serial number xs rs book → slice_get rs i ≡ Some r → sub_of r ≡ k
    → Standing origin cards serial number (without_member k (wake xs)) (remove rs i) (book ++ Out k ∷ [])
left_standing out same keep origin cards serial number xs rs book i r k stand at is =
    let zs : List Member = wake xs in
    let st = wake_standing same keep origin cards serial number xs rs book stand in
    let number_is : slice_get (subs zs) i ≡ Some k = number_at (subs zs) rs i r k st.recs_are at is in
    let went = out origin number zs (logs_of rs) book k st.fits (among (subs zs) i k number_is) in
    let sizes : length (subs zs) ≡ length (logs_of rs) = sym (ap length st.recs_are) ∙ length_map sub_of rs ∙ sym (length_map (λ (x : RecView). x.knows.log) rs) in
    let logs_are : without_log k (subs zs) (logs_of rs) ≡ logs_of (remove rs i) = without_log_at (subs zs) (logs_of rs) i k st.fits.apart number_is sizes ∙ sym (map_remove (λ (x : RecView). x.knows.log) rs i) in
    record {
      recs_are = map_remove sub_of rs i ∙ ap (λ (l : List SubId). remove l i) st.recs_are ∙ sym (subs_without zs i k st.fits.apart number_is);
      fits = subst (λ (ls : List (List Marked)). BookFits origin number (without_member k zs) ls (book ++ Out k ∷ [])) logs_are went;
      placed = placed_remove number cards rs i st.placed;
      acts = stand.acts ∙ sym (acts_out_line book k);
    }

-- and are two or more
pub left_fit : GoingOut → SameStreamsFit → WakesKeep → WakeLeavesWaiting → (origin : SubId → Stream) (cards serial number : ℕ) (xs : List Member) (rs : List RecView) (book : List BookEntry) (i : ℕ) (r : RecView) (k : SubId) → Standing origin cards serial number xs rs book → slice_get rs i ≡ Some r → sub_of r ≡ k
    → 16 ≤ number → 3 ≤ length rs → AllHaveDistinctClients (wake (without_member k (wake xs))) → FitsIn origin cards serial number (wake (without_member k (wake xs))) (remove rs i) (book ++ Out k ∷ [])
left_fit out same keep law origin cards serial number xs rs book i r k stand at is high three clients =
    let ys : List Member = without_member k (wake xs) in
    let st = wake_standing same keep origin cards serial number ys (remove rs i) (book ++ Out k ∷ []) (left_standing out same keep origin cards serial number xs rs book i r k stand at is) in
    let less = length_remove rs i (slice_get_within rs i r at) in
    let as_many = sym (ap length st.recs_are) ∙ length_map sub_of (remove rs i) in
    room_fits origin cards serial number (wake ys) (remove rs i) (book ++ Out k ∷ []) st (many_fit number (subs (wake ys)) high (omega (arith, less, as_many, three))) (asleep_wait law ys clients)

-- one that comes home
pub home_fits : ComingIn → SameStreamsFit → WakesKeep → WakeLeavesWaiting → (origin : SubId → Stream) (cards serial number : ℕ) (book : List BookEntry) (m : Member) (r s : RecView) (q : Replayed) (p : Page) (cause : Receipt)
    → FitsIn origin cards serial number [] [] book → sub_of r ≡ m.sub → PlaysLog m.sub (start origin m.sub) r.knows.log q → q.stream ≡ m.stream → MayMove m.sub.0 q.due q.room number → IsPageIn p m.stream → HasMoved r s number p cause → r.knows.sub < cards → number ≡ m.sub.0 → number < 16
    → AllHaveDistinctClients (wake (m ∷ [])) → FitsIn origin cards serial number (wake (m ∷ [])) (s ∷ []) (book ++ In m.sub ∷ [])
home_fits coming same keep law origin cards serial number book m r s q p cause empty is plays stream may page moved low home_is small clients =
    let came = come_in coming same keep origin cards serial number [] [] book m r s q p cause (standing_of origin cards serial number [] [] book empty) is refl plays stream may page moved low in
    let kept : subs (wake (m ∷ [])) ≡ m.sub ∷ [] = (keep (m ∷ [])).0 in
    let size : RightSize number (subs (wake (m ∷ []))) = subst (λ (z : ℕ × List SubId). RightSize z.0 z.1) (λ i. (sym home_is i, sym kept i)) (alone_right m.sub (subst (λ (n : ℕ). n < 16) home_is small)) in
    room_fits origin cards serial number (wake (m ∷ [])) (s ∷ []) (book ++ In m.sub ∷ []) came size (asleep_wait law (m ∷ []) clients)

-- ---- an unlink is told in the log of k, at place i of room v

pub record ToldIn (cs : List (CardModel × Dir)) (long_max serial : ℕ) (xs : List Member) (v : RoomView) (i : ℕ) (c : ClientId) (k : SubId) (told : UnlinkTold) (now : List RecView) (p q : PassView) : Type 0 where
  pub fits : FitsIn (fresh_streams cs long_max) (length cs) serial v.number xs v.recs v.book
  pub told_is : IsUnlinkTold i (unlink_by c k) told.reply told.page xs v.recs now p q told.receipt
  pub reply_is : told.reply ≡ unlink_reply told.page.state v.number

module _ {cs : List (CardModel × Dir)} {long_max serial : ℕ} {xs : List Member} {v : RoomView} {i : ℕ} {c : ClientId} {k : SubId} {told : UnlinkTold} {now : List RecView} {p q : PassView} (t : ToldIn cs long_max serial xs v i c k told now p q) where
  abbrev origin : SubId → Stream
  origin = fresh_streams cs long_max

  pub in_standing : Standing (fresh_streams cs long_max) (length cs) serial v.number xs v.recs v.book
  in_standing = standing_of origin (length cs) serial v.number xs v.recs v.book t.fits

  pub in_apart : Distinct (subs_of v.recs)
  in_apart = distinct_recs origin (length cs) serial v.number xs v.recs v.book in_standing

  pub in_known : EntriesFollow → LogOfMember → Knows cs long_max (unlink_by c k) 0 told.reply told.receipt p q
  in_known follow of_member = unlink_known follow of_member cs long_max serial v.number v.book i c k told.reply told.page xs v.recs now p q told.receipt in_standing t.told_is t.reply_is

  pub in_receipt : (told.receipt.sub ≡ k) × (told.receipt.index ≡ length (log_in k v.recs))
  in_receipt = (t.told_is.receipt_is.0, t.told_is.receipt_is.1 ∙ ap length (sym (log_of_rec v.recs i t.told_is.before k in_apart t.told_is.at t.told_is.sub)))

  -- its rec, once it is told
  pub rec_at : slice_get now i ≡ Some t.told_is.recorded.rec
  rec_at = ap (λ (rs : List RecView). slice_get rs i) t.told_is.recorded.recs ∙ get_set v.recs i t.told_is.recorded.rec (slice_get_within v.recs i t.told_is.before t.told_is.at)

  pub rec_sub : sub_of t.told_is.recorded.rec ≡ k
  rec_sub = ap (λ (n : ℕ). let j : SubId = record { 0 = n } in j) t.told_is.recorded.joined.sub ∙ t.told_is.sub

  pub rec_low : t.told_is.recorded.rec.knows.sub < length cs
  rec_low = subst (λ (n : ℕ). n < length cs) (sym t.told_is.recorded.joined.sub) (t.fits.placed i t.told_is.before t.told_is.at).1

  pub rec_log : t.told_is.recorded.rec.knows.log ≡ log_in k v.recs ++ unlink_marked (unlink_by c k) told.reply (stream_of k xs) p.knows ∷ []
  rec_log = unlinked_log i c k told.reply told.page xs v.recs now p q told.receipt t.told_is in_apart

  -- it has room for the move
  pub rec_room : HasRoom 3 t.told_is.before → HasRoom 1 t.told_is.recorded.rec
  rec_room room =
      let enough = room.0 in
      let short = room.1 in
      let spare = t.told_is.recorded.joined.spare in
      let size = ap (λ (l : List Marked). length l) t.told_is.recorded.joined.log ∙ length-append t.told_is.before.knows.log (called p.knows 0 (entry.Own (unlink_by c k) [] [] told.reply told.page.state) told.page.state told.page.hw ∷ []) in
      (omega (arith, enough, spare), omega (arith, short, size))

  pub told_subs : subs_of now ≡ subs_of v.recs
  told_subs = ap subs_of t.told_is.recorded.recs ∙ subs_set v.recs i t.told_is.before t.told_is.recorded.rec t.told_is.at t.told_is.recorded.joined.sub

  -- one that is answered Ok stands in a group's room
  pub linked_high : is_ok told.reply ≡ true → 16 ≤ v.number
  linked_high ok = by (is_closed told.page.state) (nat_le 16 v.number) refl (ap is_ok (sym t.reply_is) ∙ ok)
    where
      by : (b d : Bool) → nat_le 16 v.number ≡ d → is_ok (answered (when b errno.Enxio then when (not d) errno.Ealready)) ≡ true → 16 ≤ v.number
      by true d e h = absurd (let no : ⊥ = cc in no)
      by false false e h = absurd (let no : ⊥ = cc in no)
      by false true e h = grind (arith, nat_tests, e)

  pub state_reply : told.reply ≡ unlink_reply (stream_of k xs).state v.number
  state_reply = t.reply_is ∙ ap (λ (s : State). unlink_reply s v.number) t.told_is.shows.state

  -- the unlink, from which a move comes where it was answered Ok
  pub in_cause : is_ok told.reply ≡ true → (m : Marked) × (slice_get t.told_is.recorded.rec.knows.log told.receipt.index ≡ Some m) × ((room : ℕ) → Causes m.entry (entry.Moved room))
  in_cause ok = (
    called p.knows 0 (entry.Own (unlink_by c k) [] [] told.reply told.page.state) told.page.state told.page.hw,
    ap (λ (z : List Marked × ℕ). slice_get z.0 z.1) (λ m. (t.told_is.recorded.joined.log m, t.told_is.receipt_is.1 m)) ∙ get_last t.told_is.before.knows.log (called p.knows 0 (entry.Own (unlink_by c k) [] [] told.reply told.page.state) told.page.state told.page.hw),
    λ room. (refl, ok_is told.reply ok),
  )

  -- ---- it was refused

  pub still_fits : EntriesFollow → LogOfMember → OneLogChanges → is_ok told.reply ≡ false → FitsIn (fresh_streams cs long_max) (length cs) serial v.number xs now v.book
  still_fits follow of_member change refused =
      room_fits origin (length cs) serial v.number xs now v.book
      (unlink_stays i c k told.reply told.page xs v.recs now p q told.receipt t.told_is follow of_member change origin (length cs) serial v.number v.book in_standing t.reply_is refused) t.fits.fits.size t.fits.fits.asleep

  pub still_logs : logs_of now ≡ logs_unlinked (unlink_by c k) told.reply xs p.knows v.recs
  still_logs =
      let number_is : slice_get (subs_of v.recs) i ≡ Some k = number_at (subs_of v.recs) v.recs i t.told_is.before k refl t.told_is.at t.told_is.sub in
      let sizes : length (subs_of v.recs) ≡ length (logs_of v.recs) = length_map sub_of v.recs ∙ sym (length_map (λ (x : RecView). x.knows.log) v.recs) in
      ap logs_of t.told_is.recorded.recs ∙ map_set_place (λ (x : RecView). x.knows.log) v.recs i t.told_is.recorded.rec ∙ sym (with_log_at (subs_of v.recs) (logs_of v.recs) i k t.told_is.recorded.rec.knows.log in_apart number_is sizes)
      ∙ ap (λ (log : List Marked). with_log k log (subs_of v.recs) (logs_of v.recs)) rec_log

  pub is_refused : (v' a a' : RoomView) → v'.recs ≡ now → v'.book ≡ v.book → a' ≡ a → is_ok told.reply ≡ false → IsLeaving (unlink_by c k) p.knows v v' a a' xs told.reply 0
  is_refused v' a a' recs book same refused =
      let stays : StayTogether (unlink_by c k) told.reply p.knows v v' a a' xs = record { logs = ap logs_of recs ∙ still_logs; book = book; same = same } in
      record {
        reply_is = state_reply;
        rooms = subst (λ (b : Bool). MatchBool b (HasLeft (unlink_by c k) told.reply p.knows v v' a a' xs) (StayTogether (unlink_by c k) told.reply p.knows v v' a a' xs)) (sym refused) stays;
        woken = ap (λ (b : Bool). mask_of (cond b (woken_apart k xs) [])) (sym refused);
      }

  -- ---- it goes home

  pub is_here : is_member k (subs xs) ≡ true
  is_here = among (subs xs) i k (number_at (subs xs) v.recs i t.told_is.before k t.fits.recs_are t.told_is.at t.told_is.sub)

  -- its log, once it has moved
  pub gone_log : (s : RecView) (room : ℕ) → HasMoved t.told_is.recorded.rec s room told.page told.receipt → s.knows.log ≡ log_gone (unlink_by c k) told.reply xs p.knows v.recs room
  gone_log s room moved =
      let place = in_receipt in
      let move_is : moved_to room told.page told.receipt ≡ move_of room (stream_of k xs) k (length (log_in k v.recs)) =
      ap (λ (z : State × ℕ × SubId × ℕ). moved_to room (record told.page { state = z.0; hw = z.1 }) (record { sub = z.2; index = z.3 })) (λ n. (t.told_is.shows.state n, t.told_is.shows.hw n, place.0 n, place.1 n)) in
      moved.log ∙ ap (λ (z : List Marked × Marked). z.0 ++ z.1 ∷ []) (λ n. (rec_log n, move_is n))
      ∙ append_assoc (log_in k v.recs) (unlink_marked (unlink_by c k) told.reply (stream_of k xs) p.knows ∷ []) (move_of room (stream_of k xs) k (length (log_in k v.recs)) ∷ [])

  pub gone_fits : EntriesFollow → LogOfMember → ComingIn → SameStreamsFit → WakesKeep → WakeLeavesWaiting → (serial' : ℕ) (a : RoomView) (s : RecView) → is_ok told.reply ≡ true → FitsIn (fresh_streams cs long_max) (length cs) serial' a.number [] [] a.book
      → HasMoved t.told_is.recorded.rec s a.number told.page told.receipt → a.number ≡ k.0 → a.number < 16 → AllHaveDistinctClients (wake (only_member k (wake xs)))
      → FitsIn (fresh_streams cs long_max) (length cs) serial' a.number (wake (only_member k (wake xs))) (s ∷ []) (a.book ++ In k ∷ [])
  gone_fits follow of_member coming same keep law serial' a s ok empty moved home_is small clients =
      let kept = keep xs in
      let o = one_of k (wake xs) (ap (is_member k) kept.0 ∙ is_here) in
      let stream : stream_of k xs ≡ o.one.stream = sym (kept.1 k) ∙ o.stream in
      let end : Replayed = record { stream = stream_of k xs; room = v.number; since = joints_now k v.number v.book; due = due_own call.Unlink told.reply } in
      let played : PlaysLog k (start origin k) t.told_is.recorded.rec.knows.log end =
      unlink_told i c k told.reply told.page xs v.recs now p q told.receipt t.told_is follow of_member origin (length cs) serial v.number v.book in_standing t.reply_is in
      let due : due_own call.Unlink told.reply ≡ home = ap (λ (b : Bool). cond b home nothing) ok in
      let may : MayMove o.one.sub.0 end.due v.number a.number = subst (λ (d : Due). MayMove o.one.sub.0 d v.number a.number) (sym due) (home_is ∙ ap (λ (j : SubId). j.0) (sym o.sub)) in
      let plays : PlaysLog o.one.sub (start origin o.one.sub) t.told_is.recorded.rec.knows.log end = subst (λ (j : SubId). PlaysLog j (start origin j) t.told_is.recorded.rec.knows.log end) (sym o.sub) played in
      let page : IsPageIn told.page o.one.stream = subst (λ (z : Stream). IsPageIn told.page z) stream t.told_is.shows in
      subst (λ (z : List Member × SubId). FitsIn (fresh_streams cs long_max) (length cs) serial' a.number (wake z.0) (s ∷ []) (a.book ++ In z.1 ∷ [])) (λ n. (sym o.only n, o.sub n))
      (home_fits coming same keep law origin (length cs) serial' a.number a.book o.one t.told_is.recorded.rec s end told.page told.receipt empty (rec_sub ∙ sym o.sub) plays stream may page moved rec_low (home_is ∙ ap (λ (j : SubId). j.0) (sym o.sub)) small
      (subst (λ (z : List Member). AllHaveDistinctClients (wake z)) o.only clients))

  -- the recs of the others are as before
  pub others_are : remove now i ≡ remove v.recs i
  others_are = ap (λ (rs : List RecView). remove rs i) t.told_is.recorded.recs ∙ remove_set v.recs i t.told_is.recorded.rec

  pub others_fit : GoingOut → SameStreamsFit → WakesKeep → WakeLeavesWaiting → 16 ≤ v.number → 3 ≤ length v.recs → AllHaveDistinctClients (wake (without_member k (wake xs)))
      → FitsIn (fresh_streams cs long_max) (length cs) serial v.number (wake (without_member k (wake xs))) (remove now i) (v.book ++ Out k ∷ [])
  others_fit out same keep law high three clients =
      subst (λ (rs : List RecView). FitsIn (fresh_streams cs long_max) (length cs) serial v.number (wake (without_member k (wake xs))) rs (v.book ++ Out k ∷ [])) (sym others_are)
      (left_fit out same keep law origin (length cs) serial v.number xs v.recs v.book i t.told_is.before k in_standing t.told_is.at t.told_is.sub high three clients)

  pub is_leaving : (v' a a' : RoomView) (mask : ℕ) (s : RecView) → is_ok told.reply ≡ true → v'.recs ≡ remove now i → a'.recs ≡ s ∷ [] → HasMoved t.told_is.recorded.rec s a.number told.page told.receipt → v'.book ≡ v.book ++ Out k ∷ [] → a'.book ≡ a.book ++ In k ∷ []
      → mask ≡ mask_of (woken_apart k xs) → IsLeaving (unlink_by c k) p.knows v v' a a' xs told.reply mask
  is_leaving v' a a' mask s ok recs own_recs moved book own_book woken_is =
      let number_is : slice_get (subs_of v.recs) i ≡ Some k = number_at (subs_of v.recs) v.recs i t.told_is.before k refl t.told_is.at t.told_is.sub in
      let sizes : length (subs_of v.recs) ≡ length (logs_of v.recs) = length_map sub_of v.recs ∙ sym (length_map (λ (x : RecView). x.knows.log) v.recs) in
      let left : HasLeft (unlink_by c k) told.reply p.knows v v' a a' xs = record {
        own_log = ap logs_of own_recs ∙ ap (λ (l : List Marked). l ∷ []) (gone_log s a.number moved);
        other_logs = ap logs_of (recs ∙ others_are) ∙ map_remove (λ (x : RecView). x.knows.log) v.recs i ∙ sym (without_log_at (subs_of v.recs) (logs_of v.recs) i k in_apart number_is sizes);
        book = book;
        own_book = own_book;
      } in
      record {
        reply_is = state_reply;
        rooms = subst (λ (b : Bool). MatchBool b (HasLeft (unlink_by c k) told.reply p.knows v v' a a' xs) (StayTogether (unlink_by c k) told.reply p.knows v v' a a' xs)) (sym ok) left;
        woken = woken_is ∙ ap (λ (b : Bool). mask_of (cond b (woken_apart k xs) [])) (sym ok);
      }

-- it is told so
pub told_in : (cs : List (CardModel × Dir)) (long_max serial : ℕ) (xs : List Member) (v : RoomView) (i : ℕ) (c : ClientId) (k : SubId) (told : UnlinkTold) (now : List RecView) (p q : PassView) → FitsIn (fresh_streams cs long_max) (length cs) serial v.number xs v.recs v.book
    → IsUnlinkTold i (unlink_by c k) told.reply told.page xs v.recs now p q told.receipt → told.reply ≡ unlink_reply told.page.state v.number → ToldIn cs long_max serial xs v i c k told now p q
told_in cs long_max serial xs v i c k told now p q fits is reply_is = record { fits = fits; told_is = is; reply_is = reply_is }

-- ---- rooms that know what others do

pub empty_recs : (origin : SubId → Stream) (cards serial : ℕ) (a : RoomView) → InRoom origin cards serial a → a.members ≡ [] → a.recs ≡ []
empty_recs origin cards serial a h nobody =
    let none : h.streams ≡ [] = no_streams h.streams (numbers_are a.members h.streams h.stand ∙ ap (λ (l : List (GroupMember AnyCard ghosts)). numbers_of l) nobody) in
    no_recs_of a.recs (h.fits_in.recs_are ∙ ap subs none)

pub empty_in : (origin : SubId → Stream) (cards serial : ℕ) (a : RoomView) → InRoom origin cards serial a → a.members ≡ [] → IsIn origin cards serial a []
empty_in origin cards serial a h nobody =
    let none : h.streams ≡ [] = no_streams h.streams (numbers_are a.members h.streams h.stand ∙ ap (λ (l : List (GroupMember AnyCard ghosts)). numbers_of l) nobody) in
    subst (λ (ys : List Member). IsIn origin cards serial a ys) none (record { stand = h.stand; fits_in = h.fits_in })

pub empty_known : (origin : SubId → Stream) (cards serial : ℕ) (a a2 : RoomView) → InRoom origin cards serial a → a.members ≡ [] → a2.number ≡ a.number → a2.members ≡ a.members → knows_of a2.recs ≡ knows_of a.recs → a2.book ≡ a.book → a2 ≡ a
empty_known origin cards serial a a2 h nobody number members recs book =
    let no_recs : a.recs ≡ [] = empty_recs origin cards serial a h nobody in
    let no_recs2 : a2.recs ≡ [] = none_known a.recs a2.recs recs no_recs in
    ap (λ (z : ℕ × List (GroupMember AnyCard ghosts) × List RecView × List BookEntry). let r : RoomView = record { number = z.0; members = z.1; recs = z.2; book = z.3 } in r) (λ i. (number i, members i, (no_recs2 ∙ sym no_recs) i, book i))

pub unlinked_known : (e : Event) (r : Reply) (xs : List Member) (p : PassKnows) (rs ts : List RecView) → knows_of ts ≡ knows_of rs → logs_unlinked e r xs p ts ≡ logs_unlinked e r xs p rs
unlinked_known e r xs p rs ts h =
    ap (λ (z : List Marked × List SubId × List (List Marked)). with_log e.sub (z.0 ++ unlink_marked e r (stream_of e.sub xs) p ∷ []) z.1 z.2) (λ i. (log_in_known e.sub rs ts h i, subs_known rs ts h i, logs_known rs ts h i))

pub leaving_known : (s s' : ℕ) (e : Event) (p : PassKnows) (v v2 v' a a2 a' : RoomView) (xs : List Member) (reply : Reply) (mask : ℕ) → RoomKnows s s' v v2 → a2 ≡ a → IsLeaving e p v2 v' a2 a' xs reply mask → IsLeaving e p v v' a a' xs reply mask
leaving_known s s' e p v v2 v' a a2 a' xs reply mask k same h = record {
  reply_is = h.reply_is ∙ ap (λ (n : ℕ). unlink_reply (stream_of e.sub xs).state n) k.number;
  rooms = by (is_ok reply) h.rooms;
  woken = h.woken;
}
  where
    by : (b : Bool) → MatchBool b (HasLeft e reply p v2 v' a2 a' xs) (StayTogether e reply p v2 v' a2 a' xs) → MatchBool b (HasLeft e reply p v v' a a' xs) (StayTogether e reply p v v' a a' xs)
    by true m = record {
      own_log = m.own_log ∙ ap (λ (z : List Marked × ℕ). (z.0 ++ unlink_marked e reply (stream_of e.sub xs) p ∷ move_of z.1 (stream_of e.sub xs) e.sub (length z.0) ∷ []) ∷ []) (λ i. (log_in_known e.sub v.recs v2.recs k.recs i, (same i).number));
      other_logs = m.other_logs ∙ ap (λ (z : List SubId × List (List Marked)). without_log e.sub z.0 z.1) (λ i. (subs_known v.recs v2.recs k.recs i, logs_known v.recs v2.recs k.recs i));
      book = m.book ∙ ap (λ (b : List BookEntry). b ++ Out e.sub ∷ []) k.book;
      own_book = m.own_book ∙ ap (λ (r : RoomView). r.book ++ In e.sub ∷ []) same;
    }
    by false m = record {
      logs = m.logs ∙ unlinked_known e reply xs p v.recs v2.recs k.recs;
      book = m.book ∙ k.book;
      same = m.same ∙ same;
    }
