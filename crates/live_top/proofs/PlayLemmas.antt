-- What the passes of a floor have called in a run, first in the setup and then by their workers.
use Rattle.std.proofs.Common.{◌≡◌, ◌<◌, ℕ, zero, suc, Bool, true, false, List, [], ◌∷◌, ◌++◌, length, map, slice_get, Some, refl, sym, ap, ◌∙◌, subst, arith, append-nil, append_assoc}
use Rattle.std.specs.declared.option.Option.{Option}
use Rattle.std.proofs.Math.Seq.{take-length}
use Rattle.std.proofs.lemmas.Option.{slice_get_within}
use Rattle.pcm_base.specs.declared.call.Event.{Event}
use Rattle.pcm_base.specs.declared.config.CardModel.{CardModel}
use Rattle.pcm_base.specs.declared.state.Dir.{Dir}
use Rattle.pcm_io.specs.Shelf.{Files}
use Rattle.pcm_line.specs.declared.line.Line.{Line}
use Rattle.room_parts.specs.Passes.{PassView}
use Rattle.live_plan.specs.declared.plan.Plan.{Plan}
use Rattle.live_work.specs.Called.{Call, HasCalled}
use Rattle.live_top.specs.Callers.{Answered, answered_for, asked, beats_in, calls_for, card_events, is_of_card, is_of_client, lines_of}
use Rattle.live_top.specs.Outcome.{IsSetupBy}
use Rattle.live_top.specs.Passes.{AreAnswered, AreWhose, HasAnswered, HasMoved, HasWorked, HaveCalled, HaveWorked}
use Rattle.live_top.specs.Played.{HasCalledSuch, HavePlayed, IsOfCard, IsOfClient, IsSetUp}
use Rattle.live_top.specs.Setup.{HaveSetUp, HaveSetUpFirst, at_first}
use Rattle.live_top.proofs.Answering.{all_still, asked_for}
use Rattle.live_top.proofs.Called.{both_called}

at_place : {A : Type 0} (xs : List A) (i : ℕ) → i < length xs → (a : A) × (slice_get xs i ≡ Some a)
at_place [] i lt = absurd (omega (arith, lt))
at_place (x ∷ xs) zero lt = (x, refl)
at_place (x ∷ xs) (suc i) lt = at_place xs i (omega (arith, lt))

module _ (cards : List (CardModel × Dir)) (long_max : ℕ) (plan : Plan) (files : Option Files) where
  -- what the setup has of a caller

  asked_of : (is : Event → Bool) (setup : List Answered) (p q : PassView) → HasAnswered cards long_max (answered_for is setup) p q → HasCalled cards long_max (calls_for is (map asked setup)) p q
  asked_of is setup p q a = subst (λ (l : List Call). HasCalled cards long_max l p q) (asked_for is setup) a.called

  answers_still : (answered : List Answered) (calls : List Call) (p q r : PassView) → HasAnswered cards long_max answered p q → HasCalled cards long_max calls q r → AreAnswered (length p.knows.calls) answered r.knows
  answers_still answered calls p q r a h = all_still cards long_max (length p.knows.calls) answered calls q r h a.answers

  -- a client's calls of the setup, and then those of its lines, to the end or not

  client_calls : (is_whole : Bool) (setup : List Answered) (c : ℕ) (p q r : PassView) → HasAnswered cards long_max (answered_for (is_of_client c) setup) p q → HasWorked cards long_max is_whole (lines_of plan c) q r
      → HasCalledSuch cards long_max (IsOfClient is_whole plan (map asked setup) c) (answered_for (is_of_client c) setup) p r
  client_calls true setup c p q r a w =
      let first = calls_for (is_of_client c) (map asked setup) in
      record {
        calls = first ++ w.0;
        such = record { worked = w.0; both = refl; lines = w.1 };
        called = both_called cards long_max first w.0 p q r (asked_of (is_of_client c) setup p q a) w.2;
        answers = answers_still (answered_for (is_of_client c) setup) w.0 p q r a w.2;
      }
  client_calls false setup c p q r a w =
      let first = calls_for (is_of_client c) (map asked setup) in
      record {
        calls = first ++ w.1.0;
        such = record { worked = w.1.0; both = refl; count = w.0; lines = w.1.1 };
        called = both_called cards long_max first w.1.0 p q r (asked_of (is_of_client c) setup p q a) w.1.2;
        answers = answers_still (answered_for (is_of_client c) setup) w.1.0 p q r a w.1.2;
      }

  card_calls : (is_whole : Bool) (setup : List Answered) (k : ℕ) (p q r : PassView) → HasAnswered cards long_max (answered_for (is_of_card k) setup) p q → HasMoved cards long_max is_whole (beats_in k plan.beats.items) q r
      → HasCalledSuch cards long_max (IsOfCard is_whole plan (map asked setup) k) (answered_for (is_of_card k) setup) p r
  card_calls true setup k p q r a m =
      let first = calls_for (is_of_card k) (map asked setup) in
      record {
        calls = card_events plan (map asked setup) k;
        such = refl;
        called = both_called cards long_max first (beats_in k plan.beats.items) p q r (asked_of (is_of_card k) setup p q a) m;
        answers = answers_still (answered_for (is_of_card k) setup) (beats_in k plan.beats.items) p q r a m;
      }
  card_calls false setup k p q r a m =
      let first = calls_for (is_of_card k) (map asked setup) in
      record {
        calls = first ++ m.0;
        such = (m.1.0, append_assoc first m.0 m.1.0 ∙ ap (λ (l : List Call). first ++ l) m.1.1);
        called = both_called cards long_max first m.0 p q r (asked_of (is_of_card k) setup p q a) m.2;
        answers = answers_still (answered_for (is_of_card k) setup) m.0 p q r a m.2;
      }

  module _ (ps qs rs us vs ws : List PassView) (count : ℕ) (before : AreWhose count ps us) (between : AreWhose count qs vs) where
    middle : (i : ℕ) (p : PassView) → slice_get ps i ≡ Some p → (q : PassView) × (slice_get qs i ≡ Some q)
    middle i p at = at_place qs i (subst (λ n. i < n) (before.clients ∙ sym between.clients) (slice_get_within ps i p at))

    middle_card : (i : ℕ) (p : PassView) → slice_get us i ≡ Some p → (q : PassView) × (slice_get vs i ≡ Some q)
    middle_card i p at = at_place vs i (subst (λ n. i < n) (before.of_cards ∙ sym between.of_cards) (slice_get_within us i p at))

    played : (is_whole : Bool) (setup : List Answered) → IsSetUp is_whole plan files setup → HaveCalled cards long_max setup ps qs us vs → HaveWorked cards long_max is_whole plan qs rs vs ws
        → HavePlayed cards long_max is_whole plan files ps rs us ws
    played is_whole setup is a w = record {
      setup = setup;
      set_up = is;
      clients = λ c p r at here. let q = middle c p at in client_calls is_whole setup c p q.0 r (a.clients c p q.0 at q.1) (w.clients c q.0 r q.1 here);
      cards = λ k p r at here. let q = middle_card k p at in card_calls is_whole setup k p q.0 r (a.cards k p q.0 at q.1) (w.cards k q.0 r q.1 here);
    }

    pub played_whole : HaveSetUp cards long_max (at_first plan.cards.items files) plan.setup.items ps qs us vs → HaveWorked cards long_max true plan qs rs vs ws → HavePlayed cards long_max true plan files ps rs us ws
    played_whole s w = played true s.1.0 (s.0, s.1.1) s.1.2 w

    pub played_first : HaveSetUp cards long_max (at_first plan.cards.items files) plan.setup.items ps qs us vs → HaveWorked cards long_max false plan qs rs vs ws → HavePlayed cards long_max false plan files ps rs us ws
    played_first s w =
        let lines = subst (λ (l : List Line). IsSetupBy plan files l s.1.0) (sym (take-length plan.setup.items)) (s.0, s.1.1) in
        played false s.1.0 (length plan.setup.items, lines) s.1.2 w

  -- a setup that a full log stopped
  pub played_setup : (ps qs us vs : List PassView) → HaveSetUpFirst cards long_max (at_first plan.cards.items files) plan.setup.items ps qs us vs → HavePlayed cards long_max false plan files ps qs us vs
  played_setup ps qs us vs s =
      let setup = s.1.1.0 in
      let h = s.1.1.2 in
      record {
        setup = setup;
        set_up = (s.0, (s.1.0, s.1.1.1));
        clients = λ c p q at here. (let first = calls_for (is_of_client c) (map asked setup) in let a = h.clients c p q at here in
            record { calls = first; such = record { worked = []; both = sym (append-nil first); count = 0; lines = refl }; called = asked_of (is_of_client c) setup p q a; answers = a.answers });
        cards = λ k p q at here. (let first = calls_for (is_of_card k) (map asked setup) in let a = h.cards k p q at here in
            record { calls = first; such = (beats_in k plan.beats.items, refl); called = asked_of (is_of_card k) setup p q a; answers = a.answers });
      }
