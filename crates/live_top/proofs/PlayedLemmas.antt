-- What is gathered of a floor whose passes have called a run of a plan.
use Rattle.std.proofs.Common.{◌≡◌, ◌<◌, ◌+◌, ℕ, zero, suc, Bool, true, false, List, [], ◌∷◌, ◌++◌, length, map, slice_get, Some, None, refl, sym, ap, ◌∙◌, subst, arith}
use Rattle.std.specs.declared.option.Option.{Option}
use Rattle.std.proofs.lemmas.List.{length-map}
use Rattle.std.proofs.lemmas.Option.{same_Some, slice_get_within}
use mathlib.Core.List.{IsPrefix}
use Rattle.pcm_base.specs.declared.config.CardModel.{CardModel}
use Rattle.pcm_base.specs.declared.state.Dir.{Dir}
use Rattle.pcm_io.specs.Shelf.{Files}
use Rattle.room_book.specs.Logs.{PlaysLog, Replayed, nothing}
use Rattle.room_book.specs.Rooms.{fresh_streams, start}
use Rattle.room_parts.specs.Passes.{PassView}
use Rattle.room_parts.specs.declared.pass.Caller.TheVariants as caller
use Rattle.live_floor.specs.Cards.{limits}
use Rattle.live_floor.specs.Passes.{OfCards, OfClients}
use Rattle.live_floor.specs.Rooms.{IsAtRest}
use Rattle.live_gather.specs.Gathered.{AgreesWith, HasCause}
use Rattle.live_gather.specs.declared.gathered.Gathered.{Gathered}
use Rattle.live_plan.specs.declared.plan.Plan.{Plan}
use Rattle.live_work.specs.Called.{Call}
use Rattle.live_top.specs.Callers.{Answered, IsClientRun, IsClientStart, answered_for, asked, card_events, is_of_card, is_of_client}
use Rattle.live_top.specs.Ends.{IsOf, sub_at}
use Rattle.live_top.specs.Outcome.{AreMadeBy, HaveReplies, Played, card_count, cards_of, entries_by}
use Rattle.live_top.specs.Passes.{AreWhose}
use Rattle.live_top.specs.Played.{HasCalledSuch, HavePlayed, IsGatheredRun, IsRunTo}
use Rattle.live_top.proofs.MadeLemmas.{are_made, are_replies}

at_place : {A : Type 0} (xs : List A) (i : ℕ) → i < length xs → (a : A) × (slice_get xs i ≡ Some a)
at_place [] i lt = absurd (omega (arith, lt))
at_place (x ∷ xs) zero lt = (x, refl)
at_place (x ∷ xs) (suc i) lt = at_place xs i (omega (arith, lt))

at_front : {A : Type 0} (xs ys : List A) (i : ℕ) (a : A) → slice_get xs i ≡ Some a → slice_get (xs ++ ys) i ≡ Some a
at_front [] ys i a at = absurd (cc)
at_front (x ∷ xs) ys zero a at = at
at_front (x ∷ xs) ys (suc i) a at = at_front xs ys i a at

behind : {A : Type 0} (xs ys : List A) (i : ℕ) → slice_get (xs ++ ys) (length xs + i) ≡ slice_get ys i
behind [] ys i = let e : 0 + i ≡ i = omega arith in ap (λ n. slice_get ys n) e
behind (x ∷ xs) ys i = let e : suc (length xs + i) ≡ suc (length xs) + i = omega arith in subst (λ n. slice_get (x ∷ (xs ++ ys)) n ≡ slice_get ys i) e (behind xs ys i)

module _ (plan : Plan) (ps : List PassView) (gs : List Gathered) (rest : IsAtRest (cards_of plan) plan.long_max ps gs) where
  count_is : length (cards_of plan) ≡ card_count plan
  count_is = length-map plan.cards.items limits

  size_is : length gs ≡ card_count plan
  size_is = rest.gathered.size ∙ count_is

  -- what the log of a card plays to

  abbrev end_at : (j : ℕ) (o : Option Gathered) → slice_get gs j ≡ o → Replayed
  end_at j (Some g) at = (rest.gathered.each j g at).played.replayed
  end_at j None at = start (fresh_streams (cards_of plan) plan.long_max) (sub_at j)

  nobody : (j : ℕ) → j < card_count plan → slice_get gs j ≡ None → ⊥
  nobody j lt at = let t = at_place gs j (subst (λ n. j < n) (sym size_is) lt) in absurd (cc)

  plays_at : (j : ℕ) (o : Option Gathered) (at : slice_get gs j ≡ o) → j < card_count plan → PlaysLog (sub_at j) (start (fresh_streams (cards_of plan) plan.long_max) (sub_at j)) (rest.gathered.logs j) (end_at j o at)
  plays_at j (Some g) at lt = (rest.gathered.each j g at).played.plays
  plays_at j None at lt = absurd (nobody j lt at)

  settled_at : (j : ℕ) (o : Option Gathered) (at : slice_get gs j ≡ o) → j < card_count plan → (end_at j o at).due ≡ nothing
  settled_at j (Some g) at lt = (rest.gathered.each j g at).played.settled
  settled_at j None at lt = absurd (nobody j lt at)

  is_of : (j : ℕ) (g : Gathered) (o : Option Gathered) (at : slice_get gs j ≡ o) → o ≡ Some g → IsOf j (entries_by rest.gathered.logs j) (end_at j o at).stream g
  is_of j g (Some h) at is =
      let e = rest.gathered.each j h at in
      subst (λ (x : Gathered). IsOf j (entries_by rest.gathered.logs j) e.played.replayed.stream x) (same_Some h g is) (record { sub = e.sub; entries_are = e.entries; stands = e.played.stands })
  is_of j g None at is = absurd (cc)

  abbrev played : Played plan
  played = record {
    logs = rest.gathered.logs;
    ends = λ j. end_at j (slice_get gs j) refl;
    plays = λ j lt. plays_at j (slice_get gs j) refl lt;
    settled = λ j lt. settled_at j (slice_get gs j) refl lt;
    caused = λ j i e at. subst (λ n. HasCause n rest.gathered.logs j e.entry e.mark) count_is (rest.gathered.caused j i e at);
    rooms = rest.rooms;
    stood = rest.stood;
  }

  agrees : (i : ℕ) (p : PassView) → slice_get ps i ≡ Some p → AgreesWith (card_count plan) rest.gathered.logs p
  agrees i p at = subst (λ n. AgreesWith n rest.gathered.logs p) count_is (rest.gathered.passes i p at)

module _ (plan : Plan) (files : Option Files) (clients clients_now of_cards of_cards_now : List PassView) (gs : List Gathered)
    (new_clients : OfClients 16 clients) (new_cards : OfCards (card_count plan) of_cards) (whose : AreWhose (card_count plan) clients_now of_cards_now)
    (rest : IsAtRest (cards_of plan) plan.long_max (clients_now ++ of_cards_now) gs) where
  -- the calls of a client's pass, and those of a card's
  by_pass : (caller : ℕ) (p q : PassView) (Is : List Call → Type 0) (answered : List Answered) → p.knows.calls ≡ [] → p.knows.receipts ≡ [] → p.knows.number ≡ caller
      → HasCalledSuch (cards_of plan) plan.long_max Is answered p q → AgreesWith (card_count plan) rest.gathered.logs q
      → ((calls : List Call) × Is calls × AreMadeBy plan rest.gathered.logs caller calls) × HaveReplies rest.gathered.logs caller answered
  by_pass caller p q Is answered none no_receipts number t agreed = (
    (t.calls, t.such, are_made plan rest.gathered.logs t.calls p q caller none no_receipts number t.called agreed),
    are_replies plan rest.gathered.logs answered p q caller none (t.called.same.1 ∙ number) t.answers agreed,
  )

  by_client : (c : ℕ) (lt : c < 16) (Is : List Call → Type 0) (answered : List Answered) → ((p q : PassView) → slice_get clients c ≡ Some p → slice_get clients_now c ≡ Some q → HasCalledSuch (cards_of plan) plan.long_max Is answered p q)
      → ((calls : List Call) × Is calls × AreMadeBy plan rest.gathered.logs c calls) × HaveReplies rest.gathered.logs c answered
  by_client c lt Is answered h =
      let at = new_clients.1 c lt in
      let q = at_place clients_now c (subst (λ n. c < n) (sym whose.clients) lt) in
      by_pass c _ q.0 Is answered refl refl refl (h _ q.0 at q.1) (agrees plan (clients_now ++ of_cards_now) gs rest c q.0 (at_front clients_now of_cards_now c q.0 q.1))

  by_card : (k : ℕ) (lt : k < card_count plan) (Is : List Call → Type 0) (answered : List Answered) → ((p q : PassView) → slice_get of_cards k ≡ Some p → slice_get of_cards_now k ≡ Some q → HasCalledSuch (cards_of plan) plan.long_max Is answered p q)
      → ((calls : List Call) × Is calls × AreMadeBy plan rest.gathered.logs (16 + k) calls) × HaveReplies rest.gathered.logs (16 + k) answered
  by_card k lt Is answered h =
      let at = new_cards.1 k lt in
      let q = at_place of_cards_now k (subst (λ n. k < n) (sym whose.of_cards) lt) in
      let place : slice_get (clients_now ++ of_cards_now) (16 + k) ≡ Some q.0 = subst (λ n. slice_get (clients_now ++ of_cards_now) (n + k) ≡ Some q.0) whose.clients (behind clients_now of_cards_now k ∙ q.1) in
      by_pass (16 + k) _ q.0 Is answered refl refl refl (h _ q.0 at q.1) (agrees plan (clients_now ++ of_cards_now) gs rest (16 + k) q.0 place)

  run_to : (is_whole : Bool) → HavePlayed (cards_of plan) plan.long_max is_whole plan files clients clients_now of_cards of_cards_now → IsRunTo is_whole plan files rest.gathered.logs
  run_to true h =
      let asks = map asked h.setup in
      let client = λ (c : ℕ) (lt : c < 16). by_client c lt (λ calls. IsClientRun plan asks c calls) (answered_for (is_of_client c) h.setup) (h.clients c) in
      let card = λ (k : ℕ) (lt : k < card_count plan). by_card k lt (λ calls. calls ≡ card_events plan asks k) (answered_for (is_of_card k) h.setup) (h.cards k) in
      record {
        setup = h.setup;
        set_up = h.set_up;
        clients = λ c lt. (client c lt).0;
        cards = λ k lt. let t = (card k lt).0 in subst (λ (l : List Call). AreMadeBy plan rest.gathered.logs (16 + k) l) t.1 t.2;
        client_replies = λ c lt. (client c lt).1;
        card_replies = λ k lt. (card k lt).1;
      }
  run_to false h =
      let asks = map asked h.setup in
      let client = λ (c : ℕ) (lt : c < 16). by_client c lt (λ calls. IsClientStart plan asks c calls) (answered_for (is_of_client c) h.setup) (h.clients c) in
      let card = λ (k : ℕ) (lt : k < card_count plan). by_card k lt (λ calls. IsPrefix calls (card_events plan asks k)) (answered_for (is_of_card k) h.setup) (h.cards k) in
      record {
        setup = h.setup;
        lines = h.set_up.0;
        set_up = h.set_up.1;
        clients = λ c lt. (client c lt).0;
        cards = λ k lt. (card k lt).0;
        client_replies = λ c lt. (client c lt).1;
        card_replies = λ k lt. (card k lt).1;
      }

  pub gathered_run : (is_whole : Bool) → HavePlayed (cards_of plan) plan.long_max is_whole plan files clients clients_now of_cards of_cards_now → IsGatheredRun is_whole plan files gs
  gathered_run is_whole h = record {
    played = played plan (clients_now ++ of_cards_now) gs rest;
    size = size_is plan (clients_now ++ of_cards_now) gs rest;
    are = record { each = λ j g at. is_of plan (clients_now ++ of_cards_now) gs rest j g (slice_get gs j) refl at };
    run = run_to is_whole h;
  }

-- new passes are those of their numbers

new_client : (ps : List PassView) → OfClients 16 ps → (c : ℕ) (p : PassView) → slice_get ps c ≡ Some p → p.caller ≡ caller.Client (record { 0 = c })
new_client ps new c p at =
    let lt : c < 16 = subst (λ n. c < n) new.0 (slice_get_within ps c p at) in
    ap (λ (x : PassView). x.caller) (same_Some p _ (sym at ∙ new.1 c lt))

new_card : (n : ℕ) (us : List PassView) → OfCards n us → (k : ℕ) (p : PassView) → slice_get us k ≡ Some p → p.caller ≡ caller.Card (record { 0 = k })
new_card n us new k p at =
    let lt : k < n = subst (λ m. k < m) new.0 (slice_get_within us k p at) in
    ap (λ (x : PassView). x.caller) (same_Some p _ (sym at ∙ new.1 k lt))

pub new_whose : (n : ℕ) (ps us : List PassView) → OfClients 16 ps → OfCards n us → AreWhose n ps us
new_whose n ps us new_clients new_cards = record { clients = new_clients.0; of_cards = new_cards.0; client = new_client ps new_clients; card = new_card n us new_cards }

-- the same, of a floor over the cards of the plan
pub gathered_by : (plan : Plan) (files : Option Files) (cards : List (CardModel × Dir)) (long_max : ℕ) (ps ps_now us us_now : List PassView) (gs all : List Gathered)
    → cards ≡ cards_of plan → long_max ≡ plan.long_max → OfClients 16 ps → OfCards (card_count plan) us → AreWhose (length cards) ps_now us_now → IsAtRest cards long_max (ps_now ++ us_now) gs → all ≡ gs
    → (is_whole : Bool) → HavePlayed cards long_max is_whole plan files ps ps_now us us_now → IsGatheredRun is_whole plan files all
gathered_by plan files cards long_max ps ps_now us us_now gs all is is_long new_clients new_cards whose rest same is_whole h =
    let count : length cards ≡ card_count plan = ap length is ∙ length-map plan.cards.items limits in
    let rest_here : IsAtRest (cards_of plan) plan.long_max (ps_now ++ us_now) gs = subst (λ n. IsAtRest (cards_of plan) n (ps_now ++ us_now) gs) is_long (subst (λ (l : List (CardModel × Dir)). IsAtRest l long_max (ps_now ++ us_now) gs) is rest) in
    let played_here : HavePlayed (cards_of plan) plan.long_max is_whole plan files ps ps_now us us_now = subst (λ n. HavePlayed (cards_of plan) n is_whole plan files ps ps_now us us_now) is_long (subst (λ (l : List (CardModel × Dir)). HavePlayed l long_max is_whole plan files ps ps_now us us_now) is h) in
    subst (λ (l : List Gathered). IsGatheredRun is_whole plan files l) (sym same)
    (gathered_run plan files ps ps_now us us_now gs new_clients new_cards (subst (λ n. AreWhose n ps_now us_now) count whose) rest_here is_whole played_here)
