-- A link of two members of one room: its entries, and what they lead to.
use Rattle.std.proofs.Common.{◌≡◌, ◌≢◌, ◌<◌, ℕ, Bool, true, false, nat_le, List, [], ◌∷◌, length, slice_get, get_or, Some, refl, sym, ap, ◌∙◌, subst, arith}
use Rattle.std.proofs.lemmas.Bool.Decides.{nat_tests}
use Rattle.card_emul.specs.declared.any_card.AnyCard.{AnyCard}
use Rattle.card_emul.specs.contracts.any_card.AnyCardCard.TheImpl.{ghosts}
use Rattle.pcm_base.specs.declared.config.CardModel.{CardModel}
use Rattle.pcm_base.specs.declared.ids.ClientId.{ClientId}
use Rattle.pcm_base.specs.declared.ids.SubId.{SubId}
use Rattle.pcm_base.specs.declared.reply.Page.{Page}
use Rattle.pcm_base.specs.declared.reply.Reply.{Reply}
use Rattle.pcm_base.specs.declared.state.Dir.{Dir}
use Rattle.pcm_base.specs.declared.state.State.{State}
use Rattle.pcm_base.specs.model.Acts.{subs}
use Rattle.pcm_base.specs.model.Group.{stream_of}
use Rattle.pcm_base.specs.model.Replay.{Distinct, is_member}
use Rattle.pcm_base.specs.model.Stream.{Member, Stream}
use Rattle.pcm_stream.specs.Members.{numbers_of}
use Rattle.pcm_stream.specs.MembersStand.{AllStandFor}
use Rattle.pcm_stream.specs.declared.members.Member.{Member as CardMember}
use Rattle.floor_rule.specs.Lists.{longest}
use Rattle.floor_rule.specs.declared.rule.Marked.{Marked}
use Rattle.floor_rule.specs.declared.rule.PassKnows.{PassKnows}
use Rattle.room_book.specs.Laws.{EntriesFollow, LogOfMember, OneLogChanges}
use Rattle.room_book.specs.Logs.{is_ok}
use Rattle.room_book.specs.Rooms.{RightSize, fresh_streams, with_log}
use Rattle.room_parts.specs.Links.{link_entry, link_event}
use Rattle.room_parts.specs.Passes.{PassView}
use Rattle.room_parts.specs.Recs.{RecView, sub_of, subs_of}
use Rattle.room_parts.specs.declared.calling.Linked.{Linked}
use Rattle.room_lock.specs.declared.recording.Receipt.{Receipt}
use Rattle.room_lock.specs.Answers.{log_in}
use Rattle.room_lock.specs.InGroup.{IsPageIn}
use Rattle.room_lock.specs.InRoom.{FitsIn, IsIn, RoomView}
use Rattle.room_lock.specs.Joined.{HoldsAt, IsJoined}
use Rattle.room_lock.specs.Joining.{logs_linked}
use Rattle.room_lock.specs.Known.{Knows, told_log}
use Rattle.room_lock.specs.Linked.{HasLinked, IsLinkRecorded, IsToldAt, link_by, link_marked, link_of}
use Rattle.room_lock.specs.Met.{with_link}
use Rattle.room_lock.specs.Recorded.{HasCalled}
use Rattle.room_lock.specs.Turning.{logs_of}
use Rattle.room_lock.specs.Within.{IsLinkWithin}
use Rattle.room_lock.proofs.JoinLemmas.{linked_refused}
use Rattle.room_lock.proofs.JoinedLemmas.{on_first, on_second}
use Rattle.room_lock.proofs.KnownLemmas.{Knows as Known, log_in_known, logs_linked_known}
use Rattle.room_lock.proofs.LinkLemmas.{LinkOn, Standing, none_due, room_fits, standing_of}
use Rattle.room_lock.proofs.LinkRoomLemmas.{own_room}
use Rattle.room_lock.proofs.ReadyLemmas.{subs_known}
use Rattle.room_lock.proofs.MemberLemmas.{numbers_are}
use Rattle.room_lock.proofs.RecLemmas.{found, get_other, get_set, no_rec, some_one}
use Rattle.room_lock.proofs.Records.{among, get_map, number_at}
use Rattle.room_lock.proofs.SharedLemmas.{subs_set}
use Rattle.room_lock.proofs.ToldLemmas.{after_at, after_sub, distinct_recs, log_of_rec, logs_told, told_known, told_stays}

-- a room in which two stand is a group's
pub group_number : (number : ℕ) (k j : SubId) (js : List SubId) → RightSize number js → is_member k js ≡ true → is_member j js ≡ true → k.0 ≢ j.0 → true ≡ nat_le 16 number
group_number number k j js size one two apart = by (nat_le 16 number) refl
  where
    by : (b : Bool) → nat_le 16 number ≡ b → true ≡ b
    by true e = refl
    by false e =
        let low : number < 16 = grind (arith, nat_tests, e) in
        let first = (own_room number k js size low one).1 in
        let second = (own_room number j js size low two).1 in
        absurd (apart (first ∙ sym second))

-- two members have two places
pub places_apart : (rs : List RecView) (i m : ℕ) (r q : RecView) (k j : SubId) → slice_get rs i ≡ Some r → slice_get rs m ≡ Some q → sub_of r ≡ k → sub_of q ≡ j → k.0 ≢ j.0 → i ≢ m
places_apart rs i m r q k j at at' one two apart e =
    let same : r ≡ q = some_one r q (sym at ∙ ap (slice_get rs) e ∙ at') in
    apart (ap (λ (x : SubId). x.0) (sym one ∙ ap sub_of same ∙ two))

-- The link is told in the log of k, at place i of room v, and then in that of j, at place m. The pass's list of the second log is that log.
pub record ToldWithin (cs : List (CardModel × Dir)) (long_max serial : ℕ) (xs : List Member) (v : RoomView) (mid now : List RecView) (c : ClientId) (k j : SubId) (i m : ℕ) (l : Linked) (one two : Page) (receipt : Receipt) (p q : PassView) : Type 0 where
  pub fits : FitsIn (fresh_streams cs long_max) (length cs) serial v.number xs v.recs v.book
  pub told : IsToldAt i k l one xs v.recs mid p.knows
  pub told2 : IsToldAt m j l two xs mid now p.knows
  pub link_is : l ≡ link_of c k j one.state two.state true
  pub linked : HasLinked i l receipt v.recs mid p q
  pub list : (r : RecView) → slice_get now m ≡ Some r → longest r.knows.sub q.knows.held.logs ≡ r.knows.log
  pub apart : k.0 ≢ j.0

module _ (cs : List (CardModel × Dir)) (long_max serial : ℕ) (xs : List Member) (v : RoomView) (mid now : List RecView) (c : ClientId) (k j : SubId) (i m : ℕ) (l : Linked) (one two : Page) (receipt : Receipt) (p q : PassView) (t : ToldWithin cs long_max serial xs v mid now c k j i m l one two receipt p q) where
  abbrev origin : SubId → Stream
  origin = fresh_streams cs long_max

  -- the link, as it finds the streams
  abbrev found_link : Linked
  found_link = link_of c k j (stream_of k xs).state (stream_of j xs).state true

  link_same : l ≡ found_link
  link_same = t.link_is ∙ ap (λ (z : State × State). link_of c k j z.0 z.1 true) (λ n. (t.told.shows.state n, t.told2.shows.state n))

  standing : Standing (fresh_streams cs long_max) (length cs) serial v.number xs v.recs v.book
  standing = standing_of origin (length cs) serial v.number xs v.recs v.book t.fits

  apart0 : Distinct (subs_of v.recs)
  apart0 = distinct_recs origin (length cs) serial v.number xs v.recs v.book standing

  subs_mid : subs_of mid ≡ subs_of v.recs
  subs_mid = ap subs_of t.told.recs ∙ subs_set v.recs i t.told.before t.told.after t.told.at t.told.joined.sub

  apart1 : Distinct (subs_of mid)
  apart1 = subst Distinct (sym subs_mid) apart0

  subs_now : subs_of now ≡ subs_of v.recs
  subs_now = ap subs_of t.told2.recs ∙ subs_set mid m t.told2.before t.told2.after t.told2.at t.told2.joined.sub ∙ subs_mid

  apart2 : Distinct (subs_of now)
  apart2 = subst Distinct (sym subs_now) apart0

  -- the rec of the first, before the second is told
  first_mid : slice_get mid i ≡ Some t.told.after
  first_mid = after_at i k l one xs v.recs mid p.knows t.told

  first_sub : sub_of t.told.after ≡ k
  first_sub = after_sub i k l one xs v.recs mid p.knows t.told

  two_places : i ≢ m
  two_places = places_apart mid i m t.told.after t.told2.before k j first_mid t.told2.at first_sub t.told2.sub t.apart

  -- the log of the second is as it was
  second_before : log_in j mid ≡ log_in j v.recs
  second_before =
      let other : m ≢ i = λ e. two_places (sym e) in
      let was : slice_get v.recs m ≡ Some t.told2.before = sym (get_other v.recs i m t.told.after other) ∙ ap (λ (rs : List RecView). slice_get rs m) (sym t.told.recs) ∙ t.told2.at in
      log_of_rec mid m t.told2.before j apart1 t.told2.at t.told2.sub ∙ sym (log_of_rec v.recs m t.told2.before j apart0 was t.told2.sub)

  high : true ≡ nat_le 16 v.number
  high =
      let first : slice_get (subs xs) i ≡ Some k = number_at (subs xs) v.recs i t.told.before k t.fits.recs_are t.told.at t.told.sub in
      let second : slice_get (subs xs) m ≡ Some j = number_at (subs xs) mid m t.told2.before j (subs_mid ∙ t.fits.recs_are) t.told2.at t.told2.sub in
      group_number v.number k j (subs xs) t.fits.fits.size (among (subs xs) i k first) (among (subs xs) m j second) t.apart

  on_one : LinkOn k (stream_of k xs) v.number l
  on_one = subst (LinkOn k (stream_of k xs) v.number) (sym t.link_is) (on_first c k j one.state two.state true (stream_of k xs) v.number t.told.shows.state t.apart)

  on_two : LinkOn j (stream_of j xs) v.number l
  on_two = subst (LinkOn j (stream_of j xs) v.number) (sym t.link_is) (on_second c k j one.state two.state true (stream_of j xs) v.number t.told2.shows.state high t.apart)

  pub within_refused : is_ok l.reply ≡ false
  within_refused = ap (λ (z : Linked). is_ok z.reply) t.link_is ∙ linked_refused k.0 j.0 one.state two.state

  -- the room fits as before
  pub within_fits : EntriesFollow → LogOfMember → OneLogChanges → FitsIn (fresh_streams cs long_max) (length cs) serial v.number xs now v.book
  within_fits follow of_member change =
      let none = none_due l.reply v.number within_refused in
      let first = told_stays i k l one xs v.recs mid p.knows t.told follow of_member change origin (length cs) serial v.number v.book standing on_one none in
      let second = told_stays m j l two xs mid now p.knows t.told2 follow of_member change origin (length cs) serial v.number v.book first on_two none in
      room_fits origin (length cs) serial v.number xs now v.book second t.fits.fits.size t.fits.fits.asleep

  pub within_done : (v' : RoomView) → v'.recs ≡ now → v'.book ≡ v.book → IsLinkWithin (link_of c k j (stream_of k xs).state (stream_of j xs).state true) p.knows v v' xs l.reply 0
  within_done v' recs book =
      let first : logs_of mid ≡ logs_linked k l xs p.knows v.recs = logs_told i k l one xs v.recs mid p.knows t.told apart0 in
      let second : logs_of now ≡ logs_linked j l xs p.knows mid = logs_told m j l two xs mid now p.knows t.told2 apart1 in
      let both : logs_linked j l xs p.knows mid ≡ with_log j (with_link (log_in j v.recs) found_link (stream_of j xs) p.knows) (subs_of v.recs) (logs_linked k found_link xs p.knows v.recs) =
      ap (λ (z : Linked × List Marked × List SubId × List (List Marked)). with_log j (with_link z.1 z.0 (stream_of j xs) p.knows) z.2 z.3)
      (λ n. (link_same n, second_before n, subs_mid n, (first ∙ ap (λ (z : Linked). logs_linked k z xs p.knows v.recs) link_same) n)) in
      record {
        reply_is = ap (λ (z : Linked). z.reply) link_same;
        logs = ap logs_of recs ∙ second ∙ both;
        book = book;
        woken = refl;
      }

  first_is : l.first ≡ k
  first_is = ap (λ (z : Linked). z.first) t.link_is

  pub within_known : EntriesFollow → LogOfMember → Knows cs long_max (link_by c k j) 0 l.reply receipt p q
  within_known follow of_member =
      let known = told_known follow of_member cs long_max serial v.number v.book i k l one xs v.recs mid p q receipt l.reply standing t.told on_one t.linked first_is refl in
      subst (λ (z : Linked). Knows cs long_max (link_event z) 0 l.reply receipt p q) t.link_is known

  pub within_receipt : (receipt.sub ≡ k) × (receipt.index ≡ length (log_in k v.recs))
  within_receipt =
      let did = t.linked t.told.before t.told.after t.told.at first_mid in
      (did.1 ∙ first_is, did.2 ∙ ap length (sym (log_of_rec v.recs i t.told.before k apart0 t.told.at t.told.sub)))

  -- the pass's lists of both logs are these logs
  pub within_lists : (told_log receipt q.knows ≡ log_in k now) × (longest j.0 q.knows.held.logs ≡ log_in j now)
  within_lists =
      let did = t.linked t.told.before t.told.after t.told.at first_mid in
      let first_now : slice_get now i ≡ Some t.told.after = ap (λ (rs : List RecView). slice_get rs i) t.told2.recs ∙ get_other mid m i t.told2.after two_places ∙ first_mid in
      let second_now = after_at m j l two xs mid now p.knows t.told2 in
      let second_sub = after_sub m j l two xs mid now p.knows t.told2 in
      let sub : receipt.sub.0 ≡ t.told.before.knows.sub = ap (λ (x : SubId). x.0) (did.1 ∙ first_is ∙ sym t.told.sub) in (
        ap (λ (n : ℕ). longest n q.knows.held.logs) sub ∙ did.0.list ∙ sym (log_of_rec now i t.told.after k apart2 first_now first_sub),
        ap (λ (x : SubId). longest x.0 q.knows.held.logs) (sym second_sub) ∙ t.list t.told2.after second_now ∙ sym (log_of_rec now m t.told2.after j apart2 second_now second_sub),
      )

-- ---- how it is told

-- the page shows the stream of the member at a place
abbrev ShowsAt : List (CardMember AnyCard ghosts) → ℕ → Page → Type 0
ShowsAt ms i page = (n : SubId) (zs : List Member) → slice_get (numbers_of ms) i ≡ Some n → AllStandFor ms zs → IsPageIn page (stream_of n zs)

pub told_within : (cs : List (CardModel × Dir)) (long_max serial : ℕ) (xs : List Member) (v : RoomView) (now : List RecView) (c : ClientId) (k j : SubId) (i m : ℕ) (l : Linked) (one two : Page) (receipt : Receipt) (p q : PassView)
    → IsIn (fresh_streams cs long_max) (length cs) serial v xs → (i < length v.recs) × (m < length v.recs) → HoldsAt (λ r. sub_of r ≡ k) i v.recs → HoldsAt (λ r. sub_of r ≡ j) m v.recs → k.0 ≢ j.0 → l ≡ link_of c k j one.state two.state true → ShowsAt v.members i one → ShowsAt v.members m two
    → ((r s : RecView) → slice_get v.recs i ≡ Some r → slice_get v.recs m ≡ Some s → (mid : List RecView) × IsLinkRecorded i m l one two r s v.recs mid mid now p q) → HoldsAt (λ r. longest r.knows.sub q.knows.held.logs ≡ r.knows.log) m now
    → receipt.sub ≡ k → HoldsAt (λ r. receipt.index ≡ length r.knows.log) i v.recs → (mid : List RecView) × ToldWithin cs long_max serial xs v mid now c k j i m l one two receipt p q
told_within cs long_max serial xs v now c k j i m l one two receipt p q here places first second apart link_is shows shows2 recorded list sub index =
    let rs = v.recs in
    let r = get_or rs i no_rec in
    let s = get_or rs m no_rec in
    let at = found rs i places.0 in
    let at' = found rs m places.1 in
    let did = recorded r s at at' in
    let mid = did.0 in
    let rec = did.1 in
    let numbers : numbers_of v.members ≡ subs_of rs = sym (here.fits_in.recs_are ∙ numbers_are v.members xs here.stand) in
    let number_is : slice_get (numbers_of v.members) i ≡ Some k = ap (λ (ks : List SubId). slice_get ks i) numbers ∙ get_map sub_of rs i r at ∙ ap Some (first r at) in
    let number_is2 : slice_get (numbers_of v.members) m ≡ Some j = ap (λ (ks : List SubId). slice_get ks m) numbers ∙ get_map sub_of rs m s at' ∙ ap Some (second s at') in
    let other : m ≢ i = places_apart rs m i s r j k at' at (second s at') (first r at) (λ e. apart (sym e)) in
    let there : slice_get mid i ≡ Some rec.first = ap (λ (l' : List RecView). slice_get l' i) rec.recs ∙ get_set rs i rec.first places.0 in (
      mid,
      record {
        fits = here.fits_in;
        told = record {
          before = r;
          after = rec.first;
          at = at;
          sub = first r at;
          recs = rec.recs;
          joined = subst (λ (t : State). IsJoined r rec.first (link_marked l t one.hw p.knows ∷ [])) (ap (λ (z : Linked). z.first_state) link_is) rec.joined;
          shows = shows k xs number_is here.stand;
        };
        told2 = record {
          before = s;
          after = rec.second;
          at = ap (λ (l' : List RecView). slice_get l' m) rec.recs ∙ get_other rs i m rec.first other ∙ at';
          sub = second s at';
          recs = rec.others;
          joined = subst (λ (t : State). IsJoined s rec.second (link_marked l t two.hw p.knows ∷ [])) (ap (λ (z : Linked). z.second_state) link_is) rec.joined_other;
          shows = shows2 j xs number_is2 here.stand;
        };
        link_is = link_is;
        linked = λ r' s' at1 at2. (
          subst (λ (z : RecView × RecView). HasCalled (link_event l) 0 (link_entry l) z.0.knows.sub z.0.knows.log z.1.knows.log p q) (λ n. (some_one r r' (sym at ∙ at1) n, some_one rec.first s' (sym there ∙ at2) n)) rec.called_by,
          sub ∙ sym (ap (λ (z : Linked). z.first) link_is),
          index r' at1,
        );
        list = list;
        apart = apart;
      },
    )

-- ---- in a room that knows the same

pub within_same : (s s' : ℕ) (l : Linked) (p : PassKnows) (v v2 v' : RoomView) (xs : List Member) (reply : Reply) (mask : ℕ) → Known s s' v v2 → IsLinkWithin l p v2 v' xs reply mask → IsLinkWithin l p v v' xs reply mask
within_same s s' l p v v2 v' xs reply mask known h = record {
  reply_is = h.reply_is;
  logs = h.logs
      ∙ ap (λ (z : List Marked × List SubId × List (List Marked)). with_log l.second (with_link z.0 l (stream_of l.second xs) p) z.1 z.2)
      (λ i. (log_in_known l.second v.recs v2.recs known.recs i, subs_known v.recs v2.recs known.recs i, logs_linked_known l.first l xs p v.recs v2.recs known.recs i));
  book = h.book ∙ known.book;
  woken = h.woken;
}
