-- What a pass has called grows from call to call.
use Rattle.std.proofs.Common.{ℕ, List, [], ◌∷◌, ◌++◌, refl, sym, ap, ◌∙◌, subst, append-nil, append_assoc}
use Rattle.std.specs.Prelude.{map}
use Rattle.std.proofs.lemmas.List.{map-append}
use Rattle.pcm_base.specs.declared.config.CardModel.{CardModel}
use Rattle.pcm_base.specs.declared.state.Dir.{Dir}
use Rattle.floor_rule.specs.Steps.{HoldsMore}
use Rattle.floor_rule.specs.declared.rule.Lists.{Lists}
use Rattle.floor_rule.specs.declared.rule.Made.{Made}
use Rattle.floor_rule.specs.declared.rule.Marked.{Marked}
use Rattle.floor_rule.specs.declared.rule.PassKnows.{PassKnows}
use Rattle.room_parts.specs.Passes.{PassView}
use Rattle.live_work.specs.Called.{AllHandedIn, AllStandIn, Call, HasCalled, as_made}

holds_all : (l : Lists) → HoldsMore l l
holds_all l = record { logs = λ j i e s. s; calls = λ p n c s. s }

holds_then : (a b c : Lists) → HoldsMore a b → HoldsMore b c → HoldsMore a c
holds_then a b c x y = record { logs = λ j i e s. y.logs j i e (x.logs j i e s); calls = λ p n m s. y.calls p n m (x.calls p n m s) }

stand_still : (a b : Lists) (j : ℕ) (log : List Marked) → HoldsMore a b → AllStandIn a.logs j log → AllStandIn b.logs j log
stand_still a b j log h all i e at = h.logs j i e (all i e at)

module _ (cards : List (CardModel × Dir)) (long_max : ℕ) where
  -- what was handed in by what a pass holds was so by what it holds later
  handed_still : (calls : List Call) (rs : List (ℕ × ℕ)) (p q : PassKnows) → HoldsMore p.held q.held → AllHandedIn cards long_max calls rs p → AllHandedIn cards long_max calls rs q
  handed_still [] [] p q h a = tt
  handed_still [] (r ∷ rs) p q h a = absurd a
  handed_still (c ∷ calls) [] p q h a = absurd a
  handed_still (c ∷ calls) (r ∷ rs) p q h a =
      (λ moves. (let was = a.0 moves in (was.0, stand_still p.held q.held c.event.sub.0 was.0 h was.1, was.2)), handed_still calls rs p q h a.1)

  handed_both : (calls others : List Call) (rs ss : List (ℕ × ℕ)) (p : PassKnows) → AllHandedIn cards long_max calls rs p → AllHandedIn cards long_max others ss p → AllHandedIn cards long_max (calls ++ others) (rs ++ ss) p
  handed_both [] others [] ss p a b = b
  handed_both [] others (r ∷ rs) ss p a b = absurd a
  handed_both (c ∷ calls) others [] ss p a b = absurd a
  handed_both (c ∷ calls) others (r ∷ rs) ss p a b = (a.0, handed_both calls others rs ss p a.1 b)

  -- a pass has made no call
  pub none_called : (p : PassView) → HasCalled cards long_max [] p p
  none_called p = record {
    made = sym (append-nil p.knows.calls);
    receipts = [];
    received = sym (append-nil p.knows.receipts);
    handed = tt;
    held = holds_all p.knows.held;
    same = (refl, refl);
  }

  -- some calls, and then others
  pub both_called : (calls others : List Call) (p q r : PassView) → HasCalled cards long_max calls p q → HasCalled cards long_max others q r → HasCalled cards long_max (calls ++ others) p r
  both_called calls others p q r a b = record {
    made = b.made ∙ ap (λ (ms : List Made). ms ++ map as_made others) a.made ∙ append_assoc p.knows.calls (map as_made calls) (map as_made others)
        ∙ ap (λ (ms : List Made). p.knows.calls ++ ms) (sym (map-append as_made calls others));
    receipts = a.receipts ++ b.receipts;
    received = b.received ∙ ap (λ (rs : List (ℕ × ℕ)). rs ++ b.receipts) a.received ∙ append_assoc p.knows.receipts a.receipts b.receipts;
    handed = handed_both calls others a.receipts b.receipts r.knows (handed_still calls a.receipts q.knows r.knows b.held a.handed) b.handed;
    held = holds_then p.knows.held q.knows.held r.knows.held a.held b.held;
    same = (b.same.0 ∙ a.same.0, b.same.1 ∙ a.same.1);
  }

  -- no call before these, or after them

  pub none_before : (calls : List Call) (p q r : PassView) → HasCalled cards long_max [] p q → HasCalled cards long_max calls q r → HasCalled cards long_max calls p r
  none_before calls p q r a b = both_called [] calls p q r a b

  pub none_after : (calls : List Call) (p q r : PassView) → HasCalled cards long_max calls p q → HasCalled cards long_max [] q r → HasCalled cards long_max calls p r
  none_after calls p q r a b = subst (λ (cs : List Call). HasCalled cards long_max cs p r) (append-nil calls) (both_called calls [] p q r a b)
