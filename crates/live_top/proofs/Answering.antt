-- Calls of a pass with their replies.
use Rattle.std.proofs.Common.{◌≡◌, ◌⊎◌, ◌+◌, ℕ, zero, suc, Bool, true, false, List, [], ◌∷◌, ◌++◌, length, slice_get, Some, inl, inr, refl, sym, ap, ◌∙◌, subst, arith, if◌then◌else◌}
use Rattle.std.specs.Prelude.{map}
use Rattle.std.proofs.lemmas.List.{length-append, length-map, map-append}
use Rattle.pcm_base.specs.declared.call.Event.{Event}
use Rattle.pcm_base.specs.declared.config.CardModel.{CardModel}
use Rattle.pcm_base.specs.declared.reply.Reply.{Reply}
use Rattle.pcm_base.specs.declared.state.Dir.{Dir}
use Rattle.floor_rule.specs.Marks.{is_call}
use Rattle.floor_rule.specs.declared.rule.Made.{Made}
use Rattle.room_parts.specs.Passes.{PassView}
use Rattle.live_work.specs.Called.{Call, HasCalled, WasAnswered, as_made}
use Rattle.live_top.specs.Callers.{Answered, answered_for, asked, calls_for}
use Rattle.live_top.specs.Passes.{AreAnswered, HasAnswered}
use Rattle.live_top.proofs.Called.{both_called, none_called}

at_front : {A : Type 0} (xs ys : List A) (i : ℕ) (a : A) → slice_get xs i ≡ Some a → slice_get (xs ++ ys) i ≡ Some a
at_front [] ys i a at = absurd (cc)
at_front (x ∷ xs) ys zero a at = at
at_front (x ∷ xs) ys (suc i) a at = at_front xs ys i a at

one_more : (k n j : ℕ) → k ≡ n + j → suc k ≡ suc n + j
one_more k n j e = omega (arith, e)

-- an element of two lists is one of the first or of the second
of_both : {A : Type 0} (xs ys : List A) (k : ℕ) (a : A) → slice_get (xs ++ ys) k ≡ Some a → (slice_get xs k ≡ Some a) ⊎ ((j : ℕ) × (k ≡ length xs + j) × (slice_get ys j ≡ Some a))
of_both [] ys k a at = let is : k ≡ 0 + k = omega arith in inr (k, is, at)
of_both (x ∷ xs) ys zero a at = inl at
of_both (x ∷ xs) ys (suc k) a at = elim (of_both xs ys k a at) [ inl h ↦ inl h | inr h ↦ inr (h.0, one_more k (length xs) h.0 h.1, h.2) ]

asked_next : (b : Bool) (a : Answered) (answered : List Answered) (calls : List Call) → map asked answered ≡ calls → map asked (if b then a ∷ answered else answered) ≡ (if b then a.call ∷ calls else calls)
asked_next true a answered calls e = ap (λ (l : List Call). a.call ∷ l) e
asked_next false a answered calls e = e

-- the calls for a caller, asked and answered
pub asked_for : (is : Event → Bool) (answered : List Answered) → map asked (answered_for is answered) ≡ calls_for is (map asked answered)
asked_for is [] = refl
asked_for is (a ∷ answered) = asked_next (is a.call.event) a (answered_for is answered) (calls_for is (map asked answered)) (asked_for is answered)

placed : (m n j k : ℕ) → k ≡ n + j → m + n + j ≡ m + k
placed m n j k e = omega (arith, e)

module _ (cards : List (CardModel × Dir)) (long_max : ℕ) where
  -- a call that was answered was so later too

  answered_still : (n : ℕ) (c : Call) (r : Reply) (calls : List Call) (p q : PassView) → HasCalled cards long_max calls p q → WasAnswered n c r p.knows → WasAnswered n c r q.knows
  answered_still n c r calls p q h w = record {
    made = subst (λ (ms : List Made). slice_get ms n ≡ Some (as_made c)) (sym h.made) (at_front p.knows.calls (map as_made calls) n (as_made c) w.made);
    place = w.place;
    entry = w.entry;
    stands = h.held.logs c.event.sub.0 w.place w.entry w.stands;
    call = subst (λ (m : ℕ). is_call m n w.entry.mark ≡ true) (sym h.same.1) w.call;
    tells = w.tells;
  }

  pub all_still : (first : ℕ) (answered : List Answered) (calls : List Call) (p q : PassView) → HasCalled cards long_max calls p q → AreAnswered first answered p.knows → AreAnswered first answered q.knows
  all_still first answered calls p q h a k x at = answered_still (first + k) x.call x.reply calls p q h (a k x at)

  -- a pass has made no call
  pub none_answered : (p : PassView) → HasAnswered cards long_max [] p p
  none_answered p = record { called = none_called cards long_max p; answers = λ k a at. absurd (cc) }

  -- some calls, and then others
  pub both_answered : (answered others : List Answered) (p q r : PassView) → HasAnswered cards long_max answered p q → HasAnswered cards long_max others q r → HasAnswered cards long_max (answered ++ others) p r
  both_answered answered others p q r a b =
      let count : length q.knows.calls ≡ length p.knows.calls + length answered = ap length a.called.made ∙ length-append p.knows.calls (map as_made (map asked answered))
      ∙ ap (λ (n : ℕ). length p.knows.calls + n) (length-map (map asked answered) as_made ∙ length-map answered asked) in
      record {
        called = subst (λ (cs : List Call). HasCalled cards long_max cs p r) (sym (map-append asked answered others)) (both_called cards long_max (map asked answered) (map asked others) p q r a.called b.called);
        answers = λ k x at. elim (of_both answered others k x at) [
          | inl h ↦ answered_still (length p.knows.calls + k) x.call x.reply (map asked others) q r b.called (a.answers k x h)
          | inr h ↦ (let same : length q.knows.calls + h.0 ≡ length p.knows.calls + k = ap (λ (n : ℕ). n + h.0) count ∙ placed (length p.knows.calls) (length answered) h.0 k h.1 in
              subst (λ (n : ℕ). WasAnswered n x.call x.reply r.knows) same (b.answers h.0 x h.2))
        ];
      }
