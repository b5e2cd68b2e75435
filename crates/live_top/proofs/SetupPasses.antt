-- The passes of a setup: whose they are, and what each has called.
use Rattle.std.proofs.Common.{◌≡◌, ◌≢◌, ◌⊎◌, ◌<◌, ◌+◌, ℕ, zero, suc, ◌≤◌, Bool, true, false, nat_eq, List, [], ◌∷◌, ◌++◌, length, set, get_or, slice_get, Some, None, inl, inr, refl, sym, ap, ◌∙◌, subst, arith, if◌then◌else◌}
use Rattle.std.specs.Option.{ForSome}
use Rattle.std.specs.declared.option.Option.{Option}
use Rattle.std.proofs.lemmas.Bool.Decides.{nat_tests}
use Rattle.std.proofs.lemmas.List.{length-set}
use Rattle.std.proofs.lemmas.Option.{slice_get_read}
use Rattle.pcm_base.specs.declared.call.Event.{Event}
use Rattle.pcm_base.specs.declared.config.CardModel.{CardModel}
use Rattle.pcm_base.specs.declared.ids.ClientId.{ClientId}
use Rattle.pcm_base.specs.declared.ids.SubId.{SubId}
use Rattle.pcm_base.specs.declared.reply.Reply.{Reply}
use Rattle.pcm_base.specs.declared.state.Dir.{Dir}
use Rattle.room_parts.specs.Passes.{PassView}
use Rattle.room_parts.specs.declared.pass.Caller.{Caller}
use Rattle.room_parts.specs.declared.pass.Caller.TheVariants.{Card, Client}
use Rattle.room_lock.specs.declared.answer.Answer.{Answer}
use Rattle.room_lock.specs.declared.answer.Answer.TheVariants.{Done, LogFull, Memory}
use Rattle.live_work.specs.Called.{WasAnswered}
use Rattle.live_work.specs.Calls.{HasMade, HasMadeNone, IsMadeIfDone}
use Rattle.live_top.specs.Callers.{Answered, answered_for, is_by_card, is_by_client, is_of_card, is_of_client}
use Rattle.live_top.specs.Passes.{AreWhose, EachCalled, HasAnswered, HaveCalled}
use Rattle.live_top.specs.Setup.{HaveMade}
use Rattle.live_top.proofs.Answering.{both_answered, none_answered}

some_is : {A : Type 0} (x y : A) → Some x ≡ Some y → x ≡ y
some_is x y e = cc

-- what stands at a place of a list in which one element was put in place of another
pub at_set : {A : Type 0} (xs : List A) (i j : ℕ) (a x : A) → i < length xs → slice_get (set xs i a) j ≡ Some x → ((j ≡ i) × (x ≡ a)) ⊎ ((j ≢ i) × (slice_get xs j ≡ Some x))
at_set [] i j a x lt at = absurd (omega arith)
at_set (y ∷ ys) zero zero a x lt at = inl (refl, sym (some_is a x at))
at_set (y ∷ ys) zero (suc j) a x lt at = inr ((λ e. absurd (omega arith)), at)
at_set (y ∷ ys) (suc i) zero a x lt at = inr ((λ e. absurd (omega arith)), at)
at_set (y ∷ ys) (suc i) (suc j) a x lt at = elim (at_set ys i j a x (omega arith) at) [ inl h ↦ inl (ap suc h.0, h.1) | inr h ↦ inr ((λ e. h.0 (omega arith)), h.1) ]

-- a list as long has an element there too
pub also_at : {A B : Type 0} (xs : List A) (ys : List B) (i : ℕ) (x : A) → length ys ≡ length xs → slice_get xs i ≡ Some x → (y : B) × (slice_get ys i ≡ Some y)
also_at [] ys i x e at = absurd (cc)
also_at (x' ∷ xs) [] i x e at = absurd (omega arith)
also_at (x' ∷ xs) (y ∷ ys) zero x e at = (y, refl)
also_at (x' ∷ xs) (y ∷ ys) (suc i) x e at = also_at xs ys i x (omega arith) at

-- the passes are whose they were, where one is put in place of another of the same caller

same_place : (P : ℕ → Caller) (ps : List PassView) (i : ℕ) (p q : PassView) → i < length ps → slice_get ps i ≡ Some p → q.caller ≡ p.caller
    → ((j : ℕ) (r : PassView) → slice_get ps j ≡ Some r → r.caller ≡ P j) → (j : ℕ) (r : PassView) → slice_get (set ps i q) j ≡ Some r → r.caller ≡ P j
same_place P ps i p q lt at same all j r here = elim (at_set ps i j q r lt here) [
  | inl h ↦ ap (λ (z : PassView). z.caller) h.1 ∙ same ∙ all i p at ∙ ap P (sym h.0)
  | inr h ↦ all j r h.1
]

pub whose_client : (cards : ℕ) (clients of_cards : List PassView) (i : ℕ) (p q : PassView) → i < length clients → slice_get clients i ≡ Some p → q.caller ≡ p.caller
    → AreWhose cards clients of_cards → AreWhose cards (set clients i q) of_cards
whose_client cards clients of_cards i p q lt at same w = record {
  clients = length-set clients i q ∙ w.clients;
  of_cards = w.of_cards;
  client = same_place (λ c. Client (record { 0 = c })) clients i p q lt at same w.client;
  card = w.card;
}

pub whose_card : (cards : ℕ) (clients of_cards : List PassView) (i : ℕ) (p q : PassView) → i < length of_cards → slice_get of_cards i ≡ Some p → q.caller ≡ p.caller
    → AreWhose cards clients of_cards → AreWhose cards clients (set of_cards i q)
whose_card cards clients of_cards i p q lt at same w = record {
  clients = w.clients;
  of_cards = length-set of_cards i q ∙ w.of_cards;
  client = w.client;
  card = same_place (λ k. Card (record { 0 = k })) of_cards i p q lt at same w.card;
}

-- the calls for a caller, of one call

for_one : (is : Event → Bool) (c : Answered) (b : Bool) → is c.call.event ≡ b → answered_for is (c ∷ []) ≡ (if b then c ∷ [] else [])
for_one is c b e = ap (λ (t : Bool). if t then c ∷ [] else []) e

is_same : (n : ℕ) → nat_eq n n ≡ true
is_same n = grind (arith, nat_tests)

is_other : (m n : ℕ) → n ≢ m → nat_eq m n ≡ false
is_other m n h = grind (arith, nat_tests)

next_of : (b : Bool) (c : Answered) (calls mine others all : List Answered) → all ≡ mine ++ others → (if b then c ∷ all else all) ≡ (if b then c ∷ mine else mine) ++ others
next_of true c calls mine others all e = ap (λ (l : List Answered). c ∷ l) e
next_of false c calls mine others all e = e

for_both : (is : Event → Bool) (calls others : List Answered) → answered_for is (calls ++ others) ≡ answered_for is calls ++ answered_for is others
for_both is [] others = refl
for_both is (c ∷ calls) others = next_of (is c.call.event) c calls (answered_for is calls) (answered_for is others) (answered_for is (calls ++ others)) (for_both is calls others)

module _ (cards : List (CardModel × Dir)) (long_max : ℕ) where
  -- of each pass, of those of which one alone has called

  called_at : (is : ℕ → Event → Bool) (calls : List Answered) (ps : List PassView) (i : ℕ) (p q : PassView) → i < length ps → slice_get ps i ≡ Some p → HasAnswered cards long_max calls p q
      → answered_for (is i) calls ≡ calls → ((j : ℕ) → j ≢ i → answered_for (is j) calls ≡ []) → EachCalled cards long_max is calls ps (set ps i q)
  called_at is calls ps i p q lt at called mine none j r s was now = elim (at_set ps i j q s lt now) [
    | inl h ↦ (let same : p ≡ r = some_is p r (sym at ∙ ap (λ (n : ℕ). slice_get ps n) (sym h.0) ∙ was) in
        let by = ap (λ (n : ℕ). answered_for (is n) calls) h.0 ∙ mine in
        subst (λ (z : PassView). HasAnswered cards long_max (answered_for (is j) calls) r z) (sym h.1)
        (subst (λ (z : PassView). HasAnswered cards long_max (answered_for (is j) calls) z q) same
        (subst (λ (cs : List Answered). HasAnswered cards long_max cs p q) (sym by) called)))
    | inr h ↦ (let same : r ≡ s = some_is r s (sym was ∙ h.1) in
        subst (λ (z : PassView). HasAnswered cards long_max (answered_for (is j) calls) r z) same
        (subst (λ (cs : List Answered). HasAnswered cards long_max cs r r) (sym (none j h.0)) (none_answered cards long_max r)))
  ]

  called_still : (is : ℕ → Event → Bool) (calls : List Answered) (ps : List PassView) → ((j : ℕ) → answered_for (is j) calls ≡ []) → EachCalled cards long_max is calls ps ps
  called_still is calls ps none j r s was now =
      let same : r ≡ s = some_is r s (sym was ∙ now) in
      subst (λ (z : PassView). HasAnswered cards long_max (answered_for (is j) calls) r z) same
      (subst (λ (cs : List Answered). HasAnswered cards long_max cs r r) (sym (none j)) (none_answered cards long_max r))

  -- nothing was called

  pub none_have : (clients of_cards : List PassView) → HaveCalled cards long_max [] clients clients of_cards of_cards
  none_have clients of_cards = record {
    clients = called_still is_of_client [] clients (λ j. refl);
    cards = called_still is_of_card [] of_cards (λ j. refl);
  }

  client_none : (clients of_cards : List PassView) (i : ℕ) (p q : PassView) → i < length clients → slice_get clients i ≡ Some p → HasAnswered cards long_max [] p q
      → HaveCalled cards long_max [] clients (set clients i q) of_cards of_cards
  client_none clients of_cards i p q lt at called = record {
    clients = called_at is_of_client [] clients i p q lt at called refl (λ j ne. refl);
    cards = called_still is_of_card [] of_cards (λ j. refl);
  }

  card_none : (clients of_cards : List PassView) (i : ℕ) (p q : PassView) → i < length of_cards → slice_get of_cards i ≡ Some p → HasAnswered cards long_max [] p q
      → HaveCalled cards long_max [] clients clients of_cards (set of_cards i q)
  card_none clients of_cards i p q lt at called = record {
    clients = called_still is_of_client [] clients (λ j. refl);
    cards = called_at is_of_card [] of_cards i p q lt at called refl (λ j ne. refl);
  }

  -- a client, or a card, made one call

  by_client : (n : ℕ) (d : ClientId) (o : Option ClientId) (b : Bool) → o ≡ Some d → nat_eq d.0 n ≡ b → is_by_client n o ≡ b
  by_client n d o b e h = ap (λ (z : Option ClientId). is_by_client n z) e ∙ h

  by_no_card : (k : ℕ) (d : ClientId) (sub : SubId) (o : Option ClientId) → o ≡ Some d → is_by_card k o sub ≡ false
  by_no_card k d sub o e = ap (λ (z : Option ClientId). is_by_card k z sub) e

  by_card : (k : ℕ) (sub : SubId) (o : Option ClientId) (b : Bool) → o ≡ None → nat_eq sub.0 k ≡ b → is_by_card k o sub ≡ b
  by_card k sub o b e h = ap (λ (z : Option ClientId). is_by_card k z sub) e ∙ h

  by_no_client : (n : ℕ) (o : Option ClientId) → o ≡ None → is_by_client n o ≡ false
  by_no_client n o e = ap (λ (z : Option ClientId). is_by_client n z) e

  client_one : (c : Answered) (d : ClientId) (clients of_cards : List PassView) (p q : PassView) → c.call.event.client ≡ Some d → d.0 < length clients → slice_get clients d.0 ≡ Some p
      → HasAnswered cards long_max (c ∷ []) p q → HaveCalled cards long_max (c ∷ []) clients (set clients d.0 q) of_cards of_cards
  client_one c d clients of_cards p q by lt at called = record {
    clients = called_at is_of_client (c ∷ []) clients d.0 p q lt at called
        (for_one (is_of_client d.0) c true (by_client d.0 d c.call.event.client true by (is_same d.0)))
        (λ j ne. for_one (is_of_client j) c false (by_client j d c.call.event.client false by (is_other d.0 j ne)));
    cards = called_still is_of_card (c ∷ []) of_cards (λ k. for_one (is_of_card k) c false (by_no_card k d c.call.event.sub c.call.event.client by));
  }

  card_one : (c : Answered) (clients of_cards : List PassView) (p q : PassView) → c.call.event.client ≡ None → c.call.event.sub.0 < length of_cards → slice_get of_cards c.call.event.sub.0 ≡ Some p
      → HasAnswered cards long_max (c ∷ []) p q → HaveCalled cards long_max (c ∷ []) clients clients of_cards (set of_cards c.call.event.sub.0 q)
  card_one c clients of_cards p q by lt at called = record {
    clients = called_still is_of_client (c ∷ []) clients (λ n. for_one (is_of_client n) c false (by_no_client n c.call.event.client by));
    cards = called_at is_of_card (c ∷ []) of_cards c.call.event.sub.0 p q lt at called
        (for_one (is_of_card c.call.event.sub.0) c true (by_card c.call.event.sub.0 c.call.event.sub c.call.event.client true by (is_same c.call.event.sub.0)))
        (λ j ne. for_one (is_of_card j) c false (by_card j c.call.event.sub c.call.event.client false by (is_other c.call.event.sub.0 j ne)));
  }

  abbrev answered : Event → List ℕ → Reply → Answered
  answered e io r = record { call = record { event = e; io = io }; reply = r }

  one_only : (e : Event) (io : List ℕ) (r : Reply) (p q : PassView) → HasMade cards long_max e io r p q → (k : ℕ) (x : Answered) → slice_get (answered e io r ∷ []) k ≡ Some x → WasAnswered (length p.knows.calls + k) x.call x.reply q.knows
  one_only e io r p q m zero x at =
      let same : answered e io r ≡ x = some_is (answered e io r) x at in
      let here : length p.knows.calls ≡ length p.knows.calls + 0 = omega arith in
      subst (λ (y : Answered). WasAnswered (length p.knows.calls + 0) y.call y.reply q.knows) same (subst (λ (n : ℕ). WasAnswered n (answered e io r).call r q.knows) here m.answered)
  one_only e io r p q m (suc k) x at = absurd (cc)

  one_answered : (e : Event) (io : List ℕ) (r : Reply) (p q : PassView) → HasMade cards long_max e io r p q → HasAnswered cards long_max (answered e io r ∷ []) p q
  one_answered e io r p q m = record { called = m.called; answers = one_only e io r p q m }

  none_answered_by : (p q : PassView) → HasMadeNone cards long_max p q → HasAnswered cards long_max [] p q
  none_answered_by p q m = record { called = m.called; answers = λ k x at. absurd (cc) }

  pub made_by_client : (a : Answer) (e : Event) (io : List ℕ) (d : ClientId) (clients of_cards : List PassView) (p q : PassView) → e.client ≡ Some d → d.0 < length clients
      → slice_get clients d.0 ≡ Some p → IsMadeIfDone cards long_max a e io p q → HaveMade cards long_max a e io clients (set clients d.0 q) of_cards of_cards
  made_by_client (Done answer receipt woken) e io d clients of_cards p q by lt at m = client_one (answered e io answer) d clients of_cards p q by lt at (one_answered e io answer p q m)
  made_by_client (LogFull sub full) e io d clients of_cards p q by lt at m = client_none clients of_cards d.0 p q lt at (none_answered_by p q m)
  made_by_client Memory e io d clients of_cards p q by lt at m = client_none clients of_cards d.0 p q lt at (none_answered_by p q m)

  pub made_by_card : (a : Answer) (e : Event) (io : List ℕ) (clients of_cards : List PassView) (p q : PassView) → e.client ≡ None → e.sub.0 < length of_cards
      → slice_get of_cards e.sub.0 ≡ Some p → IsMadeIfDone cards long_max a e io p q → HaveMade cards long_max a e io clients clients of_cards (set of_cards e.sub.0 q)
  made_by_card (Done answer receipt woken) e io clients of_cards p q by lt at m = card_one (answered e io answer) clients of_cards p q by lt at (one_answered e io answer p q m)
  made_by_card (LogFull sub full) e io clients of_cards p q by lt at m = card_none clients of_cards e.sub.0 p q lt at (none_answered_by p q m)
  made_by_card Memory e io clients of_cards p q by lt at m = card_none clients of_cards e.sub.0 p q lt at (none_answered_by p q m)

  -- the pass has the caller that it had
  pub same_caller : (a : Answer) (e : Event) (io : List ℕ) (p q : PassView) → IsMadeIfDone cards long_max a e io p q → q.caller ≡ p.caller
  same_caller (Done answer receipt woken) e io p q m = m.called.same.0
  same_caller (LogFull sub full) e io p q m = m.called.same.0
  same_caller Memory e io p q m = m.called.same.0

  -- some calls, and then others

  each_both : (is : ℕ → Event → Bool) (calls others : List Answered) (ps qs rs : List PassView) → length qs ≡ length ps → EachCalled cards long_max is calls ps qs → EachCalled cards long_max is others qs rs
      → EachCalled cards long_max is (calls ++ others) ps rs
  each_both is calls others ps qs rs size a b i p r was now =
      let q = also_at ps qs i p size was in
      subst (λ (cs : List Answered). HasAnswered cards long_max cs p r) (sym (for_both (is i) calls others))
      (both_answered cards long_max (answered_for (is i) calls) (answered_for (is i) others) p q.0 r (a i p q.0 was q.1) (b i q.0 r q.1 now))

  pub both_have : (count : ℕ) (calls others : List Answered) (cs ds es ks ls ms : List PassView) → AreWhose count cs ks → AreWhose count ds ls → HaveCalled cards long_max calls cs ds ks ls → HaveCalled cards long_max others ds es ls ms
      → HaveCalled cards long_max (calls ++ others) cs es ks ms
  both_have count calls others cs ds es ks ls ms v w a b = record {
    clients = each_both is_of_client calls others cs ds es (w.clients ∙ sym v.clients) a.clients b.clients;
    cards = each_both is_of_card calls others ks ls ms (w.of_cards ∙ sym v.of_cards) a.cards b.cards;
  }

  -- the same of a pass that was read at a number

  pub client_made : (a : Answer) (e : Event) (io : List ℕ) (d : ClientId) (i count : ℕ) (clients of_cards : List PassView) (p q : PassView) → AreWhose count clients of_cards → e.client ≡ Some d
      → ForSome e.client (λ c. c.0 ≤ 15) → i ≡ d.0 → p ≡ get_or clients i p → IsMadeIfDone cards long_max a e io p q → HaveMade cards long_max a e io clients (set clients i q) of_cards of_cards
  client_made a e io d i count clients of_cards p q whose by few is at m =
      let size = whose.clients in
      let small : d.0 ≤ 15 = few d by in
      let lt : d.0 < length clients = omega arith in
      let here : i < length clients = omega arith in
      subst (λ (n : ℕ). HaveMade cards long_max a e io clients (set clients n q) of_cards of_cards) (sym is)
      (made_by_client a e io d clients of_cards p q by lt (ap (λ (n : ℕ). slice_get clients n) (sym is) ∙ slice_get_read clients (length clients) i p refl here at) m)

  pub card_made : (a : Answer) (e : Event) (io : List ℕ) (i count : ℕ) (clients of_cards : List PassView) (p q : PassView) → AreWhose count clients of_cards → e.client ≡ None
      → e.sub.0 < count → i ≡ e.sub.0 → p ≡ get_or of_cards i p → IsMadeIfDone cards long_max a e io p q → HaveMade cards long_max a e io clients clients of_cards (set of_cards i q)
  card_made a e io i count clients of_cards p q whose by few is at m =
      let size = whose.of_cards in
      let lt : e.sub.0 < length of_cards = omega arith in
      let here : i < length of_cards = omega arith in
      subst (λ (n : ℕ). HaveMade cards long_max a e io clients clients of_cards (set of_cards n q)) (sym is)
      (made_by_card a e io clients of_cards p q by lt (ap (λ (n : ℕ). slice_get of_cards n) (sym is) ∙ slice_get_read of_cards (length of_cards) i p refl here at) m)

  pub card_whose : (a : Answer) (e : Event) (io : List ℕ) (i count : ℕ) (clients of_cards : List PassView) (p q : PassView) → AreWhose count clients of_cards
      → e.sub.0 < count → i ≡ e.sub.0 → p ≡ get_or of_cards i p → IsMadeIfDone cards long_max a e io p q → AreWhose count clients (set of_cards i q)
  card_whose a e io i count clients of_cards p q whose few is at m =
      let size = whose.of_cards in
      let here : i < length of_cards = omega arith in
      whose_card count clients of_cards i p q here (slice_get_read of_cards (length of_cards) i p refl here at) (same_caller a e io p q m) whose

  pub client_whose : (a : Answer) (e : Event) (io : List ℕ) (d : ClientId) (i count : ℕ) (clients of_cards : List PassView) (p q : PassView) → AreWhose count clients of_cards → e.client ≡ Some d
      → ForSome e.client (λ c. c.0 ≤ 15) → i ≡ d.0 → p ≡ get_or clients i p → IsMadeIfDone cards long_max a e io p q → AreWhose count (set clients i q) of_cards
  client_whose a e io d i count clients of_cards p q whose by few is at m =
      let size = whose.clients in
      let small : d.0 ≤ 15 = few d by in
      let here : i < length clients = omega arith in
      whose_client count clients of_cards i p q here (slice_get_read clients (length clients) i p refl here at) (same_caller a e io p q m) whose
