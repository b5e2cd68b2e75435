-- What a pass has called stands in the logs that are gathered.
use Rattle.std.proofs.Common.{◌≡◌, ◌<◌, ◌+◌, ℕ, zero, suc, true, List, [], ◌∷◌, ◌++◌, length, map, slice_get, Some, inl, inr, sym, ap, ◌∙◌, subst, arith}
use Rattle.std.proofs.lemmas.Option.{same_Some, slice_get_within}
use mathlib.Core.List.{IsPrefix}
use Rattle.pcm_base.specs.declared.config.CardModel.{CardModel}
use Rattle.pcm_base.specs.declared.ids.SubId.{SubId}
use Rattle.pcm_base.specs.declared.state.Dir.{Dir}
use Rattle.floor_rule.specs.Lists.{AllOf, Stands}
use Rattle.floor_rule.specs.Marks.{is_call}
use Rattle.floor_rule.specs.declared.rule.Made.{Made}
use Rattle.floor_rule.specs.declared.rule.Marked.{Marked}
use Rattle.floor_rule.specs.declared.rule.PassKnows.{PassKnows}
use Rattle.room_book.specs.Logs.{PlaysLog}
use Rattle.room_book.specs.Rooms.{fresh_streams, start}
use Rattle.room_parts.specs.Passes.{PassView}
use Rattle.room_lock.specs.Handed.{IsHanded}
use Rattle.live_plan.specs.declared.plan.Plan.{Plan}
use Rattle.live_gather.specs.Gathered.{AgreesWith, AreCalls, HasCall}
use Rattle.live_work.specs.Called.{AllHandedIn, Call, HandedIn, HasCalled, WasAnswered, as_made}
use Rattle.live_top.specs.Callers.{Answered}
use Rattle.live_top.specs.Outcome.{AreMadeBy, HaveReplies, card_count, cards_of}
use Rattle.live_top.specs.Passes.{AreAnswered}
use Rattle.live_top.proofs.PrefixLemmas.{prefix_at, prefix_of, prefix_take}

-- what stands in a list of j stands in a list of which each of those is a beginning
stands_at : (logs : List (ℕ × List Marked)) (j : ℕ) (whole : List Marked) (i : ℕ) (e : Marked) → AllOf j (λ log. IsPrefix log whole) logs → Stands logs j i e → slice_get whole i ≡ Some e
stands_at [] j whole i e all h = absurd h
stands_at (p ∷ ps) j whole i e all (inl h) = prefix_at p.1 whole i e (all.0 h.0) h.1
stands_at (p ∷ ps) j whole i e all (inr h) = stands_at ps j whole i e all.1 h

-- an entry that was handed its bytes in a beginning of a log was in the log
handed_in : (cards : List (CardModel × Dir)) (long_max : ℕ) (j : SubId) (log whole : List Marked) (place : ℕ) (io : List ℕ) → IsPrefix log whole → IsHanded cards long_max j log place io → IsHanded cards long_max j whole place io
handed_in cards long_max j log whole place io p h =
    let within : place < length log = slice_get_within log place _ h.at in
    record {
      event = h.event;
      bytes = h.bytes;
      joints = h.joints;
      reply = h.reply;
      state = h.state;
      mark = h.mark;
      at = prefix_at log whole place _ p h.at;
      before = h.before;
      after = h.after;
      plays = subst (λ (l : List Marked). PlaysLog j (start (fresh_streams cards long_max) j) l h.before) (prefix_take log whole place p (omega (arith, within))) h.plays;
      step = h.step;
      lent = h.lent;
    }

-- the call of a number, and its receipt
made_at : (calls : List Call) (k : ℕ) (c : Call) → slice_get calls k ≡ Some c → slice_get (map as_made calls) k ≡ Some (as_made c)
made_at [] k c at = absurd (cc)
made_at (d ∷ calls) zero c at = ap (λ (x : Call). Some (as_made x)) (same_Some d c at)
made_at (d ∷ calls) (suc k) c at = made_at calls k c at

receipt_at : (cards : List (CardModel × Dir)) (long_max : ℕ) (calls : List Call) (rs : List (ℕ × ℕ)) (p : PassKnows) (k : ℕ) (c : Call) (r : ℕ × ℕ) → AllHandedIn cards long_max calls rs p → slice_get calls k ≡ Some c → slice_get rs k ≡ Some r
    → HandedIn cards long_max c r p
receipt_at cards long_max [] rs p k c r all at is = absurd (cc)
receipt_at cards long_max (d ∷ calls) [] p k c r all at is = absurd (cc)
receipt_at cards long_max (d ∷ calls) (s ∷ rs) p zero c r all at is =
    subst (λ (x : Call). HandedIn cards long_max x r p) (same_Some d c at) (subst (λ (y : ℕ × ℕ). HandedIn cards long_max d y p) (same_Some s r is) all.0)
receipt_at cards long_max (d ∷ calls) (s ∷ rs) p (suc k) c r all at is = receipt_at cards long_max calls rs p k c r all.1 at is

module _ (plan : Plan) (logs : ℕ → List Marked) where
  -- A pass that had made no call made these, and agrees with the logs.
  pub are_made : (calls : List Call) (p q : PassView) (caller : ℕ) → p.knows.calls ≡ [] → p.knows.receipts ≡ [] → p.knows.number ≡ caller → HasCalled (cards_of plan) plan.long_max calls p q → AgreesWith (card_count plan) logs q → AreMadeBy plan logs caller calls
  are_made calls p q caller none no_receipts number h a =
      let made_is : q.knows.calls ≡ map as_made calls = h.made ∙ ap (λ (l : List Made). l ++ map as_made calls) none in
      let receipts_are : q.knows.receipts ≡ h.receipts = h.received ∙ ap (λ (l : List (ℕ × ℕ)). l ++ h.receipts) no_receipts in
      let is_caller : q.knows.number ≡ caller = h.same.1 ∙ number in
      record {
        made = subst (λ (n : ℕ). AreCalls (card_count plan) logs n (map as_made calls)) is_caller (subst (λ (l : List Made). AreCalls (card_count plan) logs q.knows.number l) made_is a.calls);
        handed = λ k c at moves.
            let got = a.receipts k (as_made c) (subst (λ (l : List Made). slice_get l k ≡ Some (as_made c)) (sym made_is) (made_at calls k c at)) in
            let is : slice_get h.receipts k ≡ Some (c.event.sub.0, got.1.0) = subst (λ (l : List (ℕ × ℕ)). slice_get l k ≡ Some (c.event.sub.0, got.1.0)) receipts_are got.1.1 in
            let told = receipt_at (cards_of plan) plan.long_max calls h.receipts q.knows k c (c.event.sub.0, got.1.0) h.handed at is moves in
            let begins = prefix_of told.0 (logs c.event.sub.0) (λ i e in_log. stands_at q.knows.held.logs c.event.sub.0 (logs c.event.sub.0) i e (a.begins c.event.sub.0 got.0) (told.1 i e in_log)) in
            (got.1.0, subst (λ (n : ℕ). HasCall logs n k (as_made c) c.event.sub.0 got.1.0) is_caller got.1.2, handed_in (cards_of plan) plan.long_max c.event.sub told.0 (logs c.event.sub.0) got.1.0 c.io begins told.2);
      }

  -- what it was answered in these calls stands in the logs
  pub are_replies : (answered : List Answered) (p q : PassView) (caller : ℕ) → p.knows.calls ≡ [] → q.knows.number ≡ caller → AreAnswered (length p.knows.calls) answered q.knows → AgreesWith (card_count plan) logs q → HaveReplies logs caller answered
  are_replies answered p q caller none is_caller w a k x at =
      let zero_more : 0 + k ≡ k = omega arith in
      let same : length p.knows.calls + k ≡ k = ap (λ (l : List Made). length l + k) none ∙ zero_more in
      let t : WasAnswered k x.call x.reply q.knows = subst (λ (n : ℕ). WasAnswered n x.call x.reply q.knows) same (w k x at) in
      let sub = x.call.event.sub.0 in
      let got = a.receipts k (as_made x.call) t.made in
      record {
        place = t.place;
        entry = t.entry;
        at = stands_at q.knows.held.logs sub (logs sub) t.place t.entry (a.begins sub got.0) t.stands;
        call = subst (λ (n : ℕ). is_call n k t.entry.mark ≡ true) is_caller t.call;
        tells = t.tells;
      }
