-- A link that is told in the log of a member of a room.
use Rattle.std.proofs.Common.{◌≡◌, ℕ, List, [], ◌∷◌, ◌++◌, length, slice_get, Some, refl, sym, ap, ◌∙◌, subst}
use Rattle.std.proofs.lemmas.Option.{slice_get_within}
use mathlib.Core.List.{IsPrefix}
use Rattle.pcm_base.specs.declared.config.CardModel.{CardModel}
use Rattle.pcm_base.specs.declared.ids.SubId.{SubId}
use Rattle.pcm_base.specs.declared.reply.Page.{Page}
use Rattle.pcm_base.specs.declared.reply.Reply.{Reply}
use Rattle.pcm_base.specs.declared.state.Dir.{Dir}
use Rattle.pcm_base.specs.declared.state.State.{State}
use Rattle.pcm_base.specs.model.Acts.{subs}
use Rattle.pcm_base.specs.model.Group.{stream_of}
use Rattle.pcm_base.specs.model.Replay.{Distinct}
use Rattle.pcm_base.specs.model.Stream.{Member, Stream, shown}
use Rattle.floor_rule.specs.Lists.{longest}
use Rattle.floor_rule.specs.declared.rule.Marked.{Marked}
use Rattle.floor_rule.specs.declared.rule.PassKnows.{PassKnows}
use Rattle.room_book.specs.Laws.{EntriesFollow, LogOfMember, OneLogChanges}
use Rattle.room_book.specs.Logs.{PlaysLog, due_link, nothing}
use Rattle.room_book.specs.Rooms.{LogFits, fresh_streams, joints_now, log_of, start, with_log}
use Rattle.room_book.specs.declared.book.BookEntry.{BookEntry}
use Rattle.room_parts.specs.Links.{link_event}
use Rattle.room_parts.specs.Passes.{PassView, asleep_on}
use Rattle.room_parts.specs.Recs.{RecView, sub_of, subs_of}
use Rattle.room_parts.specs.declared.calling.Linked.{Linked}
use Rattle.room_lock.specs.declared.recording.Receipt.{Receipt}
use Rattle.room_lock.specs.Answers.{log_in}
use Rattle.room_lock.specs.Joining.{logs_linked}
use Rattle.room_lock.specs.Known.{Knows, told_log}
use Rattle.room_lock.specs.Linked.{HasLinked, IsToldAt, link_marked}
use Rattle.room_lock.specs.Met.{with_link}
use Rattle.room_lock.specs.Turning.{logs_of}
use Rattle.room_lock.proofs.DoneLemmas.{both_same}
use Rattle.room_lock.proofs.LinkLemmas.{LinkOn, Standing, link_played, link_stays, map_set_place, with_log_at}
use Rattle.room_lock.proofs.RecLemmas.{get_set}
use Rattle.room_lock.proofs.Records.{among, get_map, length_map, log_at_place, number_at}
use Rattle.room_lock.proofs.SharedLemmas.{get_last}
use Rattle.room_lock.proofs.TellingLemmas.{awake_link}

-- the log of the rec at a place
pub log_of_rec : (rs : List RecView) (i : ℕ) (r : RecView) (k : SubId) → Distinct (subs_of rs) → slice_get rs i ≡ Some r → sub_of r ≡ k → log_in k rs ≡ r.knows.log
log_of_rec rs i r k d at is = log_at_place (subs_of rs) (logs_of rs) i k r.knows.log d (number_at (subs_of rs) rs i r k refl at is) (get_map (λ (x : RecView). x.knows.log) rs i r at)

pub distinct_recs : (origin : SubId → Stream) (cards serial number : ℕ) (xs : List Member) (rs : List RecView) (book : List BookEntry) → Standing origin cards serial number xs rs book → Distinct (subs_of rs)
distinct_recs origin cards serial number xs rs book h = subst Distinct (sym h.recs_are) h.fits.apart

module _ (i : ℕ) (k : SubId) (l : Linked) (page : Page) (xs : List Member) (rs now : List RecView) (p : PassKnows) (t : IsToldAt i k l page xs rs now p) where
  -- the rec is there, after it was told
  pub after_at : slice_get now i ≡ Some t.after
  after_at = ap (λ (rs' : List RecView). slice_get rs' i) t.recs ∙ get_set rs i t.after (slice_get_within rs i t.before t.at)

  pub after_sub : sub_of t.after ≡ k
  after_sub = ap (λ (n : ℕ). let j : SubId = record { 0 = n } in j) t.joined.sub ∙ t.sub

  pub after_log : Distinct (subs_of rs) → t.after.knows.log ≡ with_link (log_in k rs) l (stream_of k xs) p
  after_log d =
      let was : log_in k rs ≡ t.before.knows.log = log_of_rec rs i t.before k d t.at t.sub in
      t.joined.log ∙ ap (λ (z : List Marked × State × ℕ). z.0 ++ link_marked l z.1 z.2 p ∷ []) (λ m. (sym was m, t.shows.state m, t.shows.hw m))

  pub logs_told : Distinct (subs_of rs) → logs_of now ≡ logs_linked k l xs p rs
  logs_told d =
      let number_is : slice_get (subs_of rs) i ≡ Some k = number_at (subs_of rs) rs i t.before k refl t.at t.sub in
      let sizes : length (subs_of rs) ≡ length (logs_of rs) = length_map sub_of rs ∙ sym (length_map (λ (x : RecView). x.knows.log) rs) in
      ap logs_of t.recs ∙ map_set_place (λ (x : RecView). x.knows.log) rs i t.after ∙ sym (with_log_at (subs_of rs) (logs_of rs) i k t.after.knows.log d number_is sizes)
      ∙ ap (λ (log : List Marked). with_log k log (subs_of rs) (logs_of rs)) (after_log d)

  on_rec : (number : ℕ) → LinkOn k (stream_of k xs) number l → LinkOn (sub_of t.before) (stream_of (sub_of t.before) xs) number l
  on_rec number on = subst (λ (x : SubId). LinkOn x (stream_of x xs) number l) (sym t.sub) on

  pub told_stays : EntriesFollow → LogOfMember → OneLogChanges → (origin : SubId → Stream) (cards serial number : ℕ) (book : List BookEntry) → Standing origin cards serial number xs rs book → LinkOn k (stream_of k xs) number l → due_link l.reply number ≡ nothing
      → Standing origin cards serial number xs now book
  told_stays follow of_member change origin cards serial number book stand on no_move =
      let state : page.state ≡ (stream_of (sub_of t.before) xs).state = subst (λ (x : SubId). page.state ≡ (stream_of x xs).state) (sym t.sub) t.shows.state in
      let hw : page.hw ≡ shown (stream_of (sub_of t.before) xs) (stream_of (sub_of t.before) xs).at.hw = subst (λ (x : SubId). page.hw ≡ shown (stream_of x xs) (stream_of x xs).at.hw) (sym t.sub) t.shows.hw in
      subst (λ (rs' : List RecView). Standing origin cards serial number xs rs' book) (sym t.recs)
      (link_stays follow of_member change origin cards serial number xs rs book i t.before t.after l page.state page.hw p stand t.at t.joined (on_rec number on) state hw no_move)

  pub told_played : EntriesFollow → LogOfMember → (origin : SubId → Stream) (cards serial number : ℕ) (book : List BookEntry) → Standing origin cards serial number xs rs book → LinkOn k (stream_of k xs) number l
      → PlaysLog k (start origin k) t.after.knows.log (record { stream = stream_of k xs; room = number; since = joints_now k number book; due = due_link l.reply number })
  told_played follow of_member origin cards serial number book stand on =
      let number_is : slice_get (subs xs) i ≡ Some k = number_at (subs xs) rs i t.before k stand.recs_are t.at t.sub in
      let log_is : log_of k (subs xs) (logs_of rs) ≡ log_in k rs = ap (λ (ks : List SubId). log_of k ks (logs_of rs)) (sym stand.recs_are) in
      let was : LogFits origin number book k (log_in k rs) (stream_of k xs) = subst (λ (z : List Marked). LogFits origin number book k z (stream_of k xs)) log_is (of_member origin number xs (logs_of rs) book k stand.fits (among (subs xs) i k number_is)) in
      subst (λ (z : List Marked). PlaysLog k (start origin k) z (record { stream = stream_of k xs; room = number; since = joints_now k number book; due = due_link l.reply number })) (sym (after_log (distinct_recs origin cards serial number xs rs book stand)))
      (link_played follow origin number book k (log_in k rs) (stream_of k xs) l p was on)

-- what the pass knows then
pub told_known : EntriesFollow → LogOfMember → (cs : List (CardModel × Dir)) (long_max serial number : ℕ) (book : List BookEntry) (i : ℕ) (k : SubId) (l : Linked) (page : Page) (xs : List Member) (rs now : List RecView) (p q : PassView) (receipt : Receipt) (reply : Reply)
    → Standing (fresh_streams cs long_max) (length cs) serial number xs rs book → IsToldAt i k l page xs rs now p.knows → LinkOn k (stream_of k xs) number l → HasLinked i l receipt rs now p q → l.first ≡ k → reply ≡ l.reply → Knows cs long_max (link_event l) 0 reply receipt p q
told_known follow of_member cs long_max serial number book i k l page xs rs now p q receipt reply stand t on has first is =
    let did = has t.before t.after t.at (after_at i k l page xs rs now p.knows t) in
    let cb = did.0 in
    let sub : receipt.sub ≡ sub_of t.before = did.1 ∙ first ∙ sym t.sub in
    let sub0 : receipt.sub.0 ≡ t.before.knows.sub = ap (λ (x : SubId). x.0) sub in
    let told : told_log receipt q.knows ≡ t.after.knows.log = ap (λ (n : ℕ). longest n q.knows.held.logs) sub0 ∙ cb.list in
    let asleep : asleep_on l.first reply ≡ asleep_on l.first l.reply = ap (asleep_on l.first) is in
    let awake = ap (asleep_on l.first) on.reply_is ∙ awake_link l.first l.first.0 l.second.0 l.first_state l.second_state l.second_linked in
    let origin : SubId → Stream = fresh_streams cs long_max in
    let played = told_played i k l page xs rs now p.knows t follow of_member origin (length cs) serial number book stand on in
    record {
      same = (cb.caller, cb.number, cb.reads);
      busy = cb.busy ∙ sym (asleep ∙ awake);
      calls = cb.calls;
      receipts = cb.receipts ∙ ap (λ (z : ℕ × ℕ). p.knows.receipts ++ (z.0, z.1) ∷ []) (λ m. (sym sub0 m, sym did.2 m));
      plays = (
        record { stream = stream_of k xs; room = number; since = joints_now k number book; due = due_link l.reply number },
        subst (λ (z : SubId × List Marked). PlaysLog z.0 (start origin z.0) z.1 (record { stream = stream_of k xs; room = number; since = joints_now k number book; due = due_link l.reply number })) (λ m. (sym (did.1 ∙ first) m, sym told m)) played,
      );
      onward = subst (λ (n : ℕ). IsPrefix (longest n p.knows.held.logs) (longest n q.knows.held.logs)) (sym sub0) cb.onward;
      held = cb.held;
      has = record {
        entry = link_marked l page.state page.hw p.knows;
        at = ap (λ (z : List Marked × ℕ). slice_get z.0 z.1) (λ m. ((told ∙ t.joined.log) m, did.2 m)) ∙ get_last t.before.knows.log (link_marked l page.state page.hw p.knows);
        tells = (refl, sym is);
        call = both_same p.knows.number (length p.knows.calls);
        count_is = refl;
      };
    }
