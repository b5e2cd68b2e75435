-- What a floor tells of a pass is what a worker needs.
use Rattle.std.proofs.Common.{◌≡◌, ◌⊎◌, ℕ, Bool, true, false, nat_eq, leb, List, [], ◌∷◌, ◌++◌, length, Some, inl, inr, if◌then◌else◌, slice_get, refl, sym, ap, ◌∙◌, subst, arith, append-nil}
use Rattle.std.proofs.lemmas.Bool.Decides.{nat_tests}
use Rattle.pcm_base.specs.declared.call.Event.{Event}
use Rattle.pcm_base.specs.declared.config.CardModel.{CardModel}
use Rattle.pcm_base.specs.declared.ids.SubId.{SubId}
use Rattle.pcm_base.specs.declared.reply.Reply.{Reply}
use Rattle.pcm_base.specs.declared.state.Dir.{Dir}
use Rattle.floor_rule.specs.Lists.{longer, longest}
use Rattle.floor_rule.specs.Marks.{is_call}
use Rattle.floor_rule.specs.Steps.{HoldsMore}
use Rattle.floor_rule.specs.declared.rule.Made.{Made}
use Rattle.floor_rule.specs.declared.rule.Marked.{Marked}
use Rattle.room_parts.specs.Passes.{PassView}
use Rattle.room_parts.specs.Recs.{RecView}
use Rattle.room_lock.specs.Answers.{OnDone, OnFull, OnMemory}
use Rattle.room_lock.specs.Known.{Knows, told_log}
use Rattle.room_lock.specs.Refused.{AreRefused, IsRefused}
use Rattle.room_lock.specs.declared.answer.Answer.{Answer}
use Rattle.room_lock.specs.declared.answer.Answer.TheVariants.{Done, LogFull, Memory}
use Rattle.room_lock.specs.declared.recording.Receipt.{Receipt}
use Rattle.live_floor.specs.Links.{IsLinkFull, link_from}
use Rattle.live_floor.specs.Turns.{IsRefusedInRoom}
use Rattle.live_floor.specs.Unlinks.{unlink_from}
use Rattle.live_work.specs.Called.{AllStandIn, Call, HasCalled, MovesBytes}
use Rattle.live_work.specs.Calls.{HasMade, HasMadeNone, IsMadeIfDone}
use Rattle.room_lock.specs.Handed.{IsHanded}
use Rattle.live_work.proofs.Called.{none_called}

-- what stands in the longest list of a number stands in a list of it

in_longer : (b : Bool) (k j : ℕ) (xs ys : List Marked) (i : ℕ) (e : Marked) → k ≡ j → slice_get (if b then ys else xs) i ≡ Some e → ((k ≡ j) × (slice_get xs i ≡ Some e)) ⊎ (slice_get ys i ≡ Some e)
in_longer true k j xs ys i e is at = inr at
in_longer false k j xs ys i e is at = inl (is, at)

same_number : (k j : ℕ) → nat_eq k j ≡ true → k ≡ j
same_number k j h = grind (arith, nat_tests, h)

in_either : (b : Bool) (k j : ℕ) (xs ys : List Marked) (i : ℕ) (e : Marked) → nat_eq k j ≡ b → slice_get (if b then longer xs ys else ys) i ≡ Some e → ((k ≡ j) × (slice_get xs i ≡ Some e)) ⊎ (slice_get ys i ≡ Some e)
in_either true k j xs ys i e is at = in_longer (leb (length xs) (length ys)) k j xs ys i e (same_number k j is) at
in_either false k j xs ys i e is at = inr at

or_so : {A B C : Type 0} → (B → C) → A ⊎ B → A ⊎ C
or_so f (inl a) = inl a
or_so f (inr b) = inr (f b)

longest_stands : (j : ℕ) (ps : List (ℕ × List Marked)) → AllStandIn ps j (longest j ps)
longest_stands j [] i e at = absurd (cc)
longest_stands j (p ∷ ps) i e at = or_so (λ rest. longest_stands j ps i e rest) (in_either (nat_eq p.0 j) p.0 j p.1 (longest j ps) i e refl at)

-- what stands at the end of a list
at_end : {A : Type 0} (xs : List A) (a : A) → slice_get (xs ++ a ∷ []) (length xs) ≡ Some a
at_end [] a = refl
at_end (x ∷ xs) a = at_end xs a

module _ (cards : List (CardModel × Dir)) (long_max : ℕ) where
  -- a call that was answered

  told_stands : (sub : SubId) (receipt : Receipt) (q : PassView) → receipt.sub ≡ sub → AllStandIn q.knows.held.logs sub.0 (told_log receipt q.knows)
  told_stands sub receipt q is = subst (λ (k : SubId). AllStandIn q.knows.held.logs k.0 (told_log receipt q.knows)) is (longest_stands receipt.sub.0 q.knows.held.logs)

  made_by : (e : Event) (io : List ℕ) (r : Reply) (receipt : Receipt) (p q : PassView) → receipt.sub ≡ e.sub → Knows cards long_max e (length io) r receipt p q → HoldsMore p.knows.held q.knows.held
      → (MovesBytes e.call → IsHanded cards long_max e.sub (told_log receipt q.knows) receipt.index io) → HasMade cards long_max e io r p q
  made_by e io r receipt p q is k held handed =
      let called : HasCalled cards long_max ((let c : Call = record { event = e; io = io } in c) ∷ []) p q = record {
        made = k.calls;
        receipts = (receipt.sub.0, receipt.index) ∷ [];
        received = k.receipts;
        handed = ((λ moves. (told_log receipt q.knows, told_stands e.sub receipt q is, handed moves)), tt);
        held = held;
        same = (k.same.0, k.same.1);
      } in
      record {
        called = called;
        answered = record {
          made = ap (λ (ms : List Made). slice_get ms (length p.knows.calls)) k.calls ∙ at_end p.knows.calls (record { event = e; count = length io });
          place = receipt.index;
          entry = k.has.entry;
          stands = told_stands e.sub receipt q is receipt.index k.has.entry k.has.at;
          call = subst (λ (n : ℕ). is_call n (length p.knows.calls) k.has.entry.mark ≡ true) (sym k.same.1) k.has.call;
          tells = k.has.tells;
        };
        busy = k.busy;
      }

  -- one that was refused

  none_by : (p q : PassView) → (q.knows.number ≡ p.knows.number) × (q.knows.calls ≡ p.knows.calls) × (q.knows.receipts ≡ p.knows.receipts) × (q.caller ≡ p.caller) × (q.busy ≡ p.busy)
      → HoldsMore p.knows.held q.knows.held → HasMadeNone cards long_max p q
  none_by p q same held =
      let called : HasCalled cards long_max [] p q = record {
        made = same.1 ∙ sym (append-nil p.knows.calls);
        receipts = [];
        received = same.2 ∙ sym (append-nil p.knows.receipts);
        handed = tt;
        held = held;
        same = (same.3, same.0);
      } in
      record { called = called; busy = same.4 }

  none_at_all : (p q : PassView) → q ≡ p → HasMadeNone cards long_max p q
  none_at_all p q is = subst (λ (z : PassView). HasMadeNone cards long_max p z) (sym is) (record { called = none_called cards long_max p; busy = refl })

  by_refusal : (k : ℕ) (old now : List RecView) (p q : PassView) (sub : SubId) (count : ℕ) → IsRefused k old now p q sub count → HasMadeNone cards long_max p q
  by_refusal k old now p q sub count r = none_by p q r.calls r.held

  in_room : (e : Event) (p q : PassView) (sub : SubId) (count : ℕ) → IsRefusedInRoom cards long_max e p q sub count → HasMadeNone cards long_max p q
  in_room e p q sub count r = by_refusal r.3 r.0.recs r.2 p q sub count r.5

  in_either_room : (old now old2 now2 : List RecView) (p q : PassView) (sub : SubId) (count : ℕ) → AreRefused old now old2 now2 p q sub count → HasMadeNone cards long_max p q
  in_either_room old now old2 now2 p q sub count (inl r) = by_refusal r.0 old now p q sub count r.1
  in_either_room old now old2 now2 p q sub count (inr r) = by_refusal r.1.0 old2 now2 p q sub count r.1.1

  in_rooms : (e : Event) (p q : PassView) (sub : SubId) (count : ℕ) → IsLinkFull cards long_max e p q sub count → HasMadeNone cards long_max p q
  in_rooms e p q sub count (inl r) = in_either_room r.0.recs r.4 r.1.recs r.5 p q sub count r.8
  in_rooms e p q sub count (inr r) = in_room e p q sub count r

  -- the call of an event, a link and an unlink

  pub by_call : (a : Answer) (e : Event) (io now : List ℕ) (p q : PassView) → OnDone a (λ reply receipt woken. receipt.sub ≡ e.sub) → OnDone a (λ reply receipt woken. Knows cards long_max e (length io) reply receipt p q)
      → OnDone a (λ reply receipt woken. IsHanded cards long_max e.sub (told_log receipt q.knows) receipt.index io) → OnFull a (λ sub count. IsRefusedInRoom cards long_max e p q sub count × (now ≡ io)) → OnMemory a ((q ≡ p) × (now ≡ io))
      → IsMadeIfDone cards long_max a e io p q
  by_call (Done reply receipt woken) e io now p q sub k handed f m = made_by e io reply receipt p q sub k k.held (λ _. handed)
  by_call (LogFull sub full) e io now p q s k handed f m = in_room e p q sub full f.0
  by_call Memory e io now p q sub k handed f m = none_at_all p q m.0

  pub by_link : (a : Answer) (first second : SubId) (p q : PassView) → OnDone a (λ reply receipt woken. receipt.sub ≡ first) → OnDone a (λ reply receipt woken. Knows cards long_max (link_from p.caller first second) 0 reply receipt p q)
      → OnFull a (λ sub count. IsLinkFull cards long_max (link_from p.caller first second) p q sub count) → OnMemory a (q ≡ p) → IsMadeIfDone cards long_max a (link_from p.caller first second) [] p q
  by_link (Done reply receipt woken) first second p q sub k f m = made_by (link_from p.caller first second) [] reply receipt p q sub k k.held (λ moves. absurd moves)
  by_link (LogFull sub full) first second p q s k f m = in_rooms (link_from p.caller first second) p q sub full f
  by_link Memory first second p q sub k f m = none_at_all p q m

  pub by_unlink : (a : Answer) (own : SubId) (p q : PassView) → OnDone a (λ reply receipt woken. receipt.sub ≡ own) → OnDone a (λ reply receipt woken. Knows cards long_max (unlink_from p.caller own) 0 reply receipt p q)
      → OnFull a (λ sub count. IsRefusedInRoom cards long_max (unlink_from p.caller own) p q sub count) → OnMemory a (q ≡ p) → IsMadeIfDone cards long_max a (unlink_from p.caller own) [] p q
  by_unlink (Done reply receipt woken) own p q sub k f m = made_by (unlink_from p.caller own) [] reply receipt p q sub k k.held (λ moves. absurd moves)
  by_unlink (LogFull sub full) own p q s k f m = in_room (unlink_from p.caller own) p q sub full f
  by_unlink Memory own p q sub k f m = none_at_all p q m
