-- An unlink that is told in the log of its substream.
use Rattle.std.proofs.Common.{◌≡◌, ℕ, Bool, true, false, cond, nat_le, List, [], ◌∷◌, ◌++◌, length, slice_get, append-nil, refl, sym, ap, ◌∙◌, subst}
use Rattle.std.specs.Prelude.{◌&&◌, not}
use mathlib.Core.List.{IsPrefix}
use Rattle.pcm_base.specs.declared.call.Call.TheVariants as call
use Rattle.pcm_base.specs.declared.config.CardModel.{CardModel}
use Rattle.pcm_base.specs.declared.ids.ClientId.{ClientId}
use Rattle.pcm_base.specs.declared.ids.SubId.{SubId}
use Rattle.pcm_base.specs.declared.reply.Page.{Page}
use Rattle.pcm_base.specs.declared.reply.Reply.{Reply}
use Rattle.pcm_base.specs.declared.reply.Reply.TheVariants as reply
use Rattle.pcm_base.specs.declared.state.Dir.{Dir}
use Rattle.pcm_base.specs.declared.state.Errno.TheVariants as errno
use Rattle.pcm_base.specs.declared.state.State.{State}
use Rattle.pcm_base.specs.model.Program.{Answer, fails, says, unless}
use Rattle.pcm_base.specs.model.Group.{stream_of}
use Rattle.pcm_base.specs.model.Replay.{Distinct, Plays, PlaysOwn}
use Rattle.pcm_base.specs.model.Stream.{Member, Stream}
use Rattle.pcm_base.specs.model.Words.{when, ◌then◌, is_closed}
use Rattle.floor_rule.specs.Lists.{longest}
use Rattle.floor_rule.specs.declared.entry.Entry.TheVariants as entry
use Rattle.floor_rule.specs.declared.rule.PassKnows.{PassKnows}
use Rattle.room_book.specs.Laws.{EntriesFollow, LogOfMember, OneLogChanges}
use Rattle.room_book.specs.Logs.{Due, PlaysLog, Replayed, answered, due_own, home, is_ok, nothing}
use Rattle.room_book.specs.Rooms.{LogFits, fresh_streams, joints_now, start}
use Rattle.room_book.specs.declared.book.BookEntry.{BookEntry}
use Rattle.floor_rule.specs.declared.rule.Marked.{Marked}
use Rattle.room_parts.specs.Passes.{PassView}
use Rattle.room_parts.specs.Recs.{RecView, sub_of, subs_of}
use Rattle.room_lock.specs.declared.recording.Receipt.{Receipt}
use Rattle.room_lock.specs.Answers.{log_in}
use Rattle.room_lock.specs.Known.{Knows, told_log}
use Rattle.room_lock.specs.Recorded.{called}
use Rattle.room_lock.specs.Staying.{IsUnlinkTold, unlink_by, unlink_marked, unlink_reply}
use Rattle.room_lock.proofs.DoneLemmas.{both_same}
use Rattle.room_lock.proofs.LinkLemmas.{Standing, log_before, log_stays}
use Rattle.room_lock.proofs.SharedLemmas.{get_last}
use Rattle.room_lock.proofs.ToldLemmas.{log_of_rec}

abbrev unlinked : Reply → Answer
unlinked r = record { reply = r; first = 0; frames = [] }

plays_unlink : (k : SubId) (c : ClientId) (s : Stream) (number : ℕ) → PlaysOwn k call.Unlink c (nat_le 16 number) 0 [] [] (unlink_reply s.state number) s s
plays_unlink k c s number = record {
  io = [];
  answer = unlinked (unlink_reply s.state number);
  handed = refl;
  no_link = refl;
  plays = by (is_closed s.state) (nat_le 16 number);
  says = refl;
  moved = refl;
}
  where
    by : (b d : Bool) → Plays k (cond (b && not false) (fails errno.Enxio s) (unless (when (not d) errno.Ealready) s (says reply.Ok s))) [] (unlinked (answered (when b errno.Enxio then when (not d) errno.Ealready))) s
    by true d = (refl, refl)
    by false true = (refl, refl)
    by false false = (refl, refl)

-- the log goes on with it
pub unlink_played : EntriesFollow → (origin : SubId → Stream) (number : ℕ) (book : List BookEntry) (c : ClientId) (k : SubId) (log : List Marked) (s : Stream) (p : PassKnows) → LogFits origin number book k log s
    → PlaysLog k (start origin k) (log ++ unlink_marked (unlink_by c k) (unlink_reply s.state number) s p ∷ []) (record { stream = s; room = number; since = joints_now k number book; due = due_own call.Unlink (unlink_reply s.state number) })
unlink_played follow origin number book c k log s p fits =
    let r : Reply = unlink_reply s.state number in
    let q : Replayed = record { stream = s; room = number; since = joints_now k number book; due = nothing } in
    let t : Replayed = record { stream = s; room = number; since = joints_now k number book; due = due_own call.Unlink r } in
    follow k (start origin k) log q (unlink_marked (unlink_by c k) r s p) t fits
    (record {
      own = refl;
      plays = plays_unlink k c s number;
      here = tt;
      state_is = refl;
      none_due = refl;
      room = refl;
      since = sym (append-nil (joints_now k number book));
      due = refl;
    }) (refl, refl)

module _ (i : ℕ) (c : ClientId) (k : SubId) (r : Reply) (page : Page) (xs : List Member) (rs now : List RecView) (p q : PassView) (receipt : Receipt) (t : IsUnlinkTold i (unlink_by c k) r page xs rs now p q receipt) where
  pub unlinked_log : Distinct (subs_of rs) → t.recorded.rec.knows.log ≡ log_in k rs ++ unlink_marked (unlink_by c k) r (stream_of k xs) p.knows ∷ []
  unlinked_log d =
      t.recorded.joined.log ∙ ap (λ (z : List Marked × State × ℕ). z.0 ++ called p.knows 0 (entry.Own (unlink_by c k) [] [] r z.1) z.1 z.2 ∷ []) (λ m. (sym (log_of_rec rs i t.before k d t.at t.sub) m, t.shows.state m, t.shows.hw m))

  -- the log of its substream leads to its stream, and what then must follow
  pub unlink_told : EntriesFollow → LogOfMember → (origin : SubId → Stream) (cards serial number : ℕ) (book : List BookEntry) → Standing origin cards serial number xs rs book → r ≡ unlink_reply page.state number
      → PlaysLog k (start origin k) t.recorded.rec.knows.log (record { stream = stream_of k xs; room = number; since = joints_now k number book; due = due_own call.Unlink r })
  unlink_told follow of_member origin cards serial number book stand is =
      let s : Stream = stream_of k xs in
      let reply_is : unlink_reply s.state number ≡ r = sym (is ∙ ap (λ (z : State). unlink_reply z number) t.shows.state) in
      let was : LogFits origin number book k t.before.knows.log s =
      subst (λ (x : SubId). LogFits origin number book x t.before.knows.log (stream_of x xs)) t.sub (log_before of_member origin cards serial number xs rs book i t.before stand t.at) in
      let played = unlink_played follow origin number book c k t.before.knows.log s p.knows was in
      let log_is : t.before.knows.log ++ unlink_marked (unlink_by c k) r s p.knows ∷ [] ≡ t.recorded.rec.knows.log =
      ap (λ (z : State × ℕ). t.before.knows.log ++ called p.knows 0 (entry.Own (unlink_by c k) [] [] r z.0) z.0 z.1 ∷ []) (λ m. (sym t.shows.state m, sym t.shows.hw m)) ∙ sym t.recorded.joined.log in
      subst (λ (z : List Marked). PlaysLog k (start origin k) z (record { stream = s; room = number; since = joints_now k number book; due = due_own call.Unlink r })) log_is
      (subst (λ (z : Reply). PlaysLog k (start origin k) (t.before.knows.log ++ unlink_marked (unlink_by c k) z s p.knows ∷ []) (record { stream = s; room = number; since = joints_now k number book; due = due_own call.Unlink z })) reply_is played)

  pub unlink_stays : EntriesFollow → LogOfMember → OneLogChanges → (origin : SubId → Stream) (cards serial number : ℕ) (book : List BookEntry) → Standing origin cards serial number xs rs book → r ≡ unlink_reply page.state number → is_ok r ≡ false
      → Standing origin cards serial number xs now book
  unlink_stays follow of_member change origin cards serial number book stand is refused =
      let none : due_own call.Unlink r ≡ nothing = ap (λ (b : Bool). cond b home nothing) refused in
      let told : LogFits origin number book k t.recorded.rec.knows.log (stream_of k xs) =
      subst (λ (d : Due). PlaysLog k (start origin k) t.recorded.rec.knows.log (record { stream = stream_of k xs; room = number; since = joints_now k number book; due = d })) none
      (unlink_told follow of_member origin cards serial number book stand is) in
      let fits : LogFits origin number book (sub_of t.before) t.recorded.rec.knows.log (stream_of (sub_of t.before) xs) = subst (λ (x : SubId). LogFits origin number book x t.recorded.rec.knows.log (stream_of x xs)) (sym t.sub) told in
      subst (λ (rs' : List RecView). Standing origin cards serial number xs rs' book) (sym t.recorded.recs)
      (log_stays change origin cards serial number xs rs book i t.before t.recorded.rec (called p.knows 0 (entry.Own (unlink_by c k) [] [] r page.state) page.state page.hw ∷ []) stand t.at t.recorded.joined fits)

-- what the pass knows then
pub unlink_known : EntriesFollow → LogOfMember → (cs : List (CardModel × Dir)) (long_max serial number : ℕ) (book : List BookEntry) (i : ℕ) (c : ClientId) (k : SubId) (r : Reply) (page : Page) (xs : List Member) (rs now : List RecView) (p q : PassView) (receipt : Receipt)
    → Standing (fresh_streams cs long_max) (length cs) serial number xs rs book → IsUnlinkTold i (unlink_by c k) r page xs rs now p q receipt → r ≡ unlink_reply page.state number → Knows cs long_max (unlink_by c k) 0 r receipt p q
unlink_known follow of_member cs long_max serial number book i c k r page xs rs now p q receipt stand t is =
    let cb = t.recorded.called_by in
    let sub : receipt.sub ≡ sub_of t.before = t.receipt_is.0 ∙ sym t.sub in
    let sub0 : receipt.sub.0 ≡ t.before.knows.sub = ap (λ (x : SubId). x.0) sub in
    let told : told_log receipt q.knows ≡ t.recorded.rec.knows.log = ap (λ (n : ℕ). longest n q.knows.held.logs) sub0 ∙ cb.list in
    let origin : SubId → Stream = fresh_streams cs long_max in
    let end : Replayed = record { stream = stream_of k xs; room = number; since = joints_now k number book; due = due_own call.Unlink r } in
    record {
      same = (cb.caller, cb.number, cb.reads);
      busy = cb.busy;
      calls = cb.calls;
      receipts = cb.receipts ∙ ap (λ (z : ℕ × ℕ). p.knows.receipts ++ (z.0, z.1) ∷ []) (λ m. (sym sub0 m, sym t.receipt_is.1 m));
      plays = (
        end,
        subst (λ (z : SubId × List Marked). PlaysLog z.0 (start origin z.0) z.1 end) (λ m. (sym t.receipt_is.0 m, sym told m))
            (unlink_told i c k r page xs rs now p q receipt t follow of_member origin (length cs) serial number book stand is),
      );
      onward = subst (λ (n : ℕ). IsPrefix (longest n p.knows.held.logs) (longest n q.knows.held.logs)) (sym sub0) cb.onward;
      held = cb.held;
      has = record {
        entry = called p.knows 0 (entry.Own (unlink_by c k) [] [] r page.state) page.state page.hw;
        at = ap (λ (z : List Marked × ℕ). slice_get z.0 z.1) (λ m. ((told ∙ t.recorded.joined.log) m, t.receipt_is.1 m)) ∙ get_last t.before.knows.log (called p.knows 0 (entry.Own (unlink_by c k) [] [] r page.state) page.state page.hw);
        tells = (refl, refl);
        call = both_same p.knows.number (length p.knows.calls);
        count_is = refl;
      };
    }
