-- A sound beginning of a plan has what can be run.
use Rattle.std.proofs.Common.{◌≡◌, ◌==◌, ◌≤◌, ◌<◌, ℕ, ◌+◌, ◌^◌, Bool, true, false, ◌&&◌, ◌||◌, not, List, [], ◌∷◌, ◌++◌, length, None, Some, refl, sym, ◌∙◌, ap, subst, arith, nat_lt, nat_le, append-nil, length-append, eqb-true}
use Rattle.std.specs.List.{AllByRecursion, list_any}
use Rattle.std.specs.declared.option.Option.{Option}
use Rattle.std.proofs.lemmas.Bool.{ltb-true, leb-true}
use Rattle.std.proofs.lemmas.Bool.Decides.{nat_tests}
use Rattle.pcm_base.specs.declared.ids.SubId.{SubId}
use Rattle.pcm_base.specs.declared.call.Call.{Call}
use Rattle.pcm_base.specs.declared.call.Call.TheVariants.{Link}
use Rattle.pcm_base.specs.declared.call.Event.{Event as CoreEvent}
use Rattle.pcm_line.specs.declared.error.LineError.{LineError}
use Rattle.pcm_line.specs.declared.line.Line.{Line}
use Rattle.pcm_line.specs.declared.line.Line.TheVariants.{LongMax, Card, Event, Feed, Save, Beat, Threads, Join}
use Rattle.pcm_line.specs.Sayable.{Sayable, IsSayableEvent}
use Rattle.pcm_line.proofs.SayableLaws.{line-sayable}
use Rattle.live_plan.specs.declared.part.Part.{Part}
use Rattle.live_plan.specs.declared.part.Part.TheVariants.{Setup, Workers, End}
use Rattle.live_plan.specs.declared.plan.Plan.{Plan}
use Rattle.live_plan.specs.Lines.{beat_limit}
use Rattle.live_plan.specs.Plan.{Begins, HasAll}
use Rattle.live_plan.specs.Rules.{unless, fault_of, event_fault, is_declared, is_go, is_made_in, is_mode_of, waits, has_second}
use Rattle.live_plan.specs.Said.{Said, Nothing, Then, count_of, part_of, is_setup, is_workers, long_max_of, cards_of, card_count, setup_of, calls_of, beats_of, beat_sum, saves_of, only_if, is_client, is_beat_of, has_beat}
use Rattle.live_plan.specs.Sound.{IsPlanned, IsSetupLine, IsClientLine, IsBeatLine, IsSaveLine, IsOneEach, sum_of, IsSound}

-- ---- tests that held

pub held : (h : Bool) (f : LineError) (o : Option LineError) → unless h f o ≡ None → (h ≡ true) × (o ≡ None)
held true f o e = (refl, e)
held false f o e = let no : Some f ≡ None = e in cc

both : (a b : Bool) → (a && b) ≡ true → (a ≡ true) × (b ≡ true)
both true b e = (refl, e)
both false b e = let no : false ≡ true = e in cc

no_more : (a : Bool) → not a ≡ true → a ≡ false
no_more true e = let no : false ≡ true = e in cc
no_more false e = refl

neither : (a b : Bool) → (a || b) ≡ false → (a ≡ false) × (b ≡ false)
neither true b e = let no : true ≡ false = e in cc
neither false b e = (refl, e)

later : (p : Part) → is_setup p ≡ true → p ≡ Setup
later Setup e = refl
later Workers e = let no : false ≡ true = e in cc
later End e = let no : false ≡ true = e in cc

in_workers : (p : Part) → is_workers p ≡ true → is_setup p ≡ false
in_workers Setup e = let no : false ≡ true = e in cc
in_workers Workers e = refl
in_workers End e = refl

-- ---- lists that grow

all_push : {X : Type 0} (P : X → Type 0) (xs : List X) (y : X) → AllByRecursion P xs → P y → AllByRecursion P (xs ++ y ∷ [])
all_push P [] y h p = (p, tt)
all_push P (x ∷ xs) y h p = (h.0, all_push P xs y h.1 p)

all_map : {X : Type 0} (P Q : X → Type 0) → ((x : X) → P x → Q x) → (xs : List X) → AllByRecursion P xs → AllByRecursion Q xs
all_map P Q f [] h = tt
all_map P Q f (x ∷ xs) h = (f x h.0, all_map P Q f xs h.1)

all_same : {X : Type 0} (P : X → Type 0) (xs : List X) → AllByRecursion P xs → AllByRecursion P (xs ++ [])
all_same {X} P xs h = subst (λ (ys : List X). AllByRecursion P ys) (sym (append-nil xs)) h

-- ---- one card more

declared_more : (n : ℕ) (s : SubId) → is_declared n s ≡ true → is_declared (n + 1) s ≡ true
declared_more n s e = let below = ltb-true s.0 n e in grind (arith, nat_tests)

second_more : (n : ℕ) (call : Call) → has_second n call ≡ true → has_second (n + 1) call ≡ true
second_more n (Link second) e = declared_more n second e
second_more n _ e = refl

planned_more : (n : ℕ) (e : CoreEvent) (bytes : List ℕ) → IsPlanned n e bytes → IsPlanned (n + 1) e bytes
planned_more n e bytes h = record { sayable = h.sayable; no_go = h.no_go; declared = declared_more n e.sub h.declared; second = second_more n e.call h.second }

setup_more : (n : ℕ) (line : Line) → IsSetupLine n line → IsSetupLine (n + 1) line
setup_more n (Event e bytes) h = (planned_more n e bytes h.0, h.1)
setup_more n (Feed s name) h = declared_more n s h
setup_more n _ h = absurd h

client_more : (n c : ℕ) (line : Line) → IsClientLine n c line → IsClientLine (n + 1) c line
client_more n c (Event e bytes) h = (planned_more n e bytes h.0, h.1)
client_more n c _ h = absurd h

beat_more : (n : ℕ) (line : Line) → IsBeatLine n line → IsBeatLine (n + 1) line
beat_more n (Beat s frames count) h = (declared_more n s h.0, h.1, h.2)
beat_more n _ h = absurd h

save_more : (n : ℕ) (line : Line) → IsSaveLine n line → IsSaveLine (n + 1) line
save_more n (Save s name) h = declared_more n s h
save_more n _ h = absurd h

-- ---- an event

record IsPlaced (p : Part) (n : ℕ) (e : CoreEvent) (bytes : List ℕ) : Type 0 where
  made : is_made_in p e ≡ true
  planned : is_go e.call ≡ false → IsPlanned n e bytes
  mode : is_mode_of p e.call ≡ true

placed : (p : Part) (n : ℕ) (e : CoreEvent) (taken bytes : List ℕ) → event_fault p n e bytes ≡ None → IsSayableEvent e taken → IsPlaced p n e taken
placed p n e taken bytes none sayable =
    let a = held _ _ _ none in
    let b = held _ _ _ a.1 in
    let d = held _ _ _ b.1 in
    let m = both (is_mode_of p e.call) (has_second n e.call) d.0 in
    record { made = a.0; planned = λ no_go. record { sayable = sayable; no_go = no_go; declared = b.0; second = m.1 }; mode = m.0 }

event_setup : (p : Part) (n : ℕ) (e : CoreEvent) (taken bytes : List ℕ) (xs : List Line) → event_fault p n e bytes ≡ None → IsSayableEvent e taken
    → AllByRecursion (IsSetupLine n) xs → AllByRecursion (IsSetupLine n) (xs ++ only_if (is_setup p) (Event e taken))
event_setup Setup n e taken bytes xs none sayable all =
    let h = placed Setup n e taken bytes none sayable in
    all_push (IsSetupLine n) xs (Event e taken) all (h.planned (no_more (is_go e.call) h.made), no_more (waits e.call) h.mode)
event_setup Workers n e taken bytes xs none sayable all = all_same (IsSetupLine n) xs all
event_setup End n e taken bytes xs none sayable all = all_same (IsSetupLine n) xs all

client_push : (n c : ℕ) (e : CoreEvent) (taken : List ℕ) (xs : List Line) (own : Bool) → is_client c e.client ≡ own → IsPlanned n e taken
    → AllByRecursion (IsClientLine n c) xs → AllByRecursion (IsClientLine n c) (xs ++ only_if own (Event e taken))
client_push n c e taken xs true own planned all = all_push (IsClientLine n c) xs (Event e taken) all (planned, own)
client_push n c e taken xs false own planned all = all_same (IsClientLine n c) xs all

event_calls : (p : Part) (n c : ℕ) (e : CoreEvent) (taken bytes : List ℕ) (xs : List Line) → event_fault p n e bytes ≡ None → IsSayableEvent e taken
    → AllByRecursion (IsClientLine n c) xs → AllByRecursion (IsClientLine n c) (xs ++ only_if (is_workers p && is_client c e.client) (Event e taken))
event_calls Setup n c e taken bytes xs none sayable all = all_same (IsClientLine n c) xs all
event_calls Workers n c e taken bytes xs none sayable all =
    let h = placed Workers n e taken bytes none sayable in
    let made = both (not (is_go e.call)) _ h.made in
    client_push n c e taken xs (is_client c e.client) refl (h.planned (no_more (is_go e.call) made.0)) all
event_calls End n c e taken bytes xs none sayable all = all_same (IsClientLine n c) xs all

-- ---- one `beat` line more

flip : (a b : ℕ) → (a == b) ≡ false → (b == a) ≡ false
flip a b e = grind (arith, nat_tests)

any_push : (test : Line → Bool) (xs : List Line) (y : Line) → list_any test xs ≡ false → test y ≡ false → list_any test (xs ++ y ∷ []) ≡ false
any_push test [] y none other = simp other
any_push test (x ∷ xs) y none other = let n = neither (test x) (list_any test xs) none in simp n.0 (any_push test xs y n.1 other)

one_push : (xs : List Line) (s : SubId) (frames count : ℕ) → IsOneEach xs → has_beat s xs ≡ false → IsOneEach (xs ++ Beat s frames count ∷ [])
one_push [] s frames count each none = (refl, tt)
one_push (Beat t f n ∷ xs) s frames count each none =
    let other = neither (t.0 == s.0) (has_beat s xs) none in
    (any_push (is_beat_of t) xs (Beat s frames count) each.0 (flip t.0 s.0 other.0), one_push xs s frames count each.1 other.1)
one_push (_ ∷ xs) s frames count each none = one_push xs s frames count each none

sum_push : (xs : List Line) (s : SubId) (frames count : ℕ) → sum_of (xs ++ Beat s frames count ∷ []) ≡ sum_of xs + count
sum_push [] s frames count = omega arith
sum_push (Beat t f n ∷ xs) s frames count = let h = sum_push xs s frames count in omega (arith, h)
sum_push (_ ∷ xs) s frames count = sum_push xs s frames count

pub sum_is : (said : Said) → sum_of (beats_of said) ≡ beat_sum said
sum_is Nothing = refl
sum_is (Then said (Beat s frames count)) = let h = sum_is said in sum_push (beats_of said) s frames count ∙ omega (arith, h)
sum_is (Then said _) = sum_is said

pub count_cards : (said : Said) → length (cards_of said) ≡ card_count said
count_cards Nothing = refl
count_cards (Then said (Card s model dir)) = length-append (cards_of said) ((model, dir) ∷ []) ∙ ap (λ (n : ℕ). n + 1) (count_cards said)
count_cards (Then said _) = count_cards said

-- ---- what a sound beginning has

pub record AreSound (said : Said) : Type 0 where
  pub cards : card_count said ≤ 16
  pub some : is_setup (part_of said) ≡ false → 1 ≤ card_count said
  pub long : 15 ≤ long_max_of said
  pub longest : long_max_of said < 2 ^ 36
  pub setup : AllByRecursion (IsSetupLine (card_count said)) (setup_of said)
  pub calls : (c : ℕ) → AllByRecursion (IsClientLine (card_count said) c) (calls_of c said)
  pub beats : AllByRecursion (IsBeatLine (card_count said)) (beats_of said)
  pub one_each : IsOneEach (beats_of said)
  pub saves : AllByRecursion (IsSaveLine (card_count said)) (saves_of said)

nothing_sound : AreSound Nothing
nothing_sound = record {
  cards = omega arith;
  some = λ e. (let no : true ≡ false = e in cc);
  long = omega arith;
  longest = omega arith;
  setup = tt;
  calls = λ c. tt;
  beats = tt;
  one_each = tt;
  saves = tt;
}

card_few : (s n : ℕ) → s ≡ n → s < 16 → n + 1 ≤ 16
card_few s n e below = omega (arith, e, below)

some_more : (n : ℕ) → 1 ≤ n + 1
some_more n = omega arith

then_sound : (said : Said) (line : Line) (bytes : List ℕ) → AreSound said → Sayable line → fault_of said line bytes ≡ None → AreSound (Then said line)
then_sound said (LongMax n) bytes was sayable none =
    let b = both (nat_le 15 n) (nat_lt n (2 ^ 36)) (held _ _ _ (held _ _ _ none).1).0 in
    record {
      cards = was.cards;
      some = was.some;
      long = leb-true 15 n b.0;
      longest = ltb-true n (2 ^ 36) b.1;
      setup = was.setup;
      calls = was.calls;
      beats = was.beats;
      one_each = was.one_each;
      saves = was.saves;
    }
then_sound said (Card s model dir) bytes was sayable none =
    let n = card_count said in
    let next : s.0 ≡ n = eqb-true s.0 n (held _ _ _ (held _ _ _ none).1).0 in
    record {
      cards = card_few s.0 n next sayable;
      some = λ e. some_more n;
      long = was.long;
      longest = was.longest;
      setup = all_map (IsSetupLine n) (IsSetupLine (n + 1)) (setup_more n) (setup_of said) was.setup;
      calls = λ c. all_map (IsClientLine n c) (IsClientLine (n + 1) c) (client_more n c) (calls_of c said) (was.calls c);
      beats = all_map (IsBeatLine n) (IsBeatLine (n + 1)) (beat_more n) (beats_of said) was.beats;
      one_each = was.one_each;
      saves = all_map (IsSaveLine n) (IsSaveLine (n + 1)) (save_more n) (saves_of said) was.saves;
    }
then_sound said (Event e taken) bytes was sayable none =
    let n = card_count said in
    record {
      cards = was.cards;
      some = was.some;
      long = was.long;
      longest = was.longest;
      setup = event_setup (part_of said) n e taken bytes (setup_of said) none sayable was.setup;
      calls = λ c. event_calls (part_of said) n c e taken bytes (calls_of c said) none sayable (was.calls c);
      beats = was.beats;
      one_each = was.one_each;
      saves = was.saves;
    }
then_sound said (Feed s name) bytes was sayable none =
    let declared = (held _ _ _ (held _ _ _ none).1).0 in
    record {
      cards = was.cards;
      some = was.some;
      long = was.long;
      longest = was.longest;
      setup = all_push (IsSetupLine (card_count said)) (setup_of said) (Feed s name) was.setup declared;
      calls = was.calls;
      beats = was.beats;
      one_each = was.one_each;
      saves = was.saves;
    }
then_sound said (Save s name) bytes was sayable none =
    let declared = (held _ _ _ (held _ _ _ none).1).0 in
    record {
      cards = was.cards;
      some = was.some;
      long = was.long;
      longest = was.longest;
      setup = was.setup;
      calls = was.calls;
      beats = was.beats;
      one_each = was.one_each;
      saves = all_push (IsSaveLine (card_count said)) (saves_of said) (Save s name) was.saves declared;
    }
then_sound said (Beat s frames count) bytes was sayable none =
    let a = held _ _ _ (held _ _ _ none).1 in
    let other = no_more (has_beat s (beats_of said)) (held _ _ _ a.1).0 in
    record {
      cards = was.cards;
      some = was.some;
      long = was.long;
      longest = was.longest;
      setup = was.setup;
      calls = was.calls;
      beats = all_push (IsBeatLine (card_count said)) (beats_of said) (Beat s frames count) was.beats (a.0, sayable.1, sayable.2);
      one_each = one_push (beats_of said) s frames count was.one_each other;
      saves = was.saves;
    }
then_sound said Threads bytes was sayable none =
    let a = both (is_setup (part_of said)) (nat_lt 0 (card_count said)) (held _ _ _ none).0 in
    record {
      cards = was.cards;
      some = λ e. ltb-true 0 (card_count said) a.1;
      long = was.long;
      longest = was.longest;
      setup = was.setup;
      calls = was.calls;
      beats = was.beats;
      one_each = was.one_each;
      saves = was.saves;
    }
then_sound said Join bytes was sayable none =
    let a = held _ _ _ none in
    record {
      cards = was.cards;
      some = λ e. was.some (in_workers (part_of said) a.0);
      long = was.long;
      longest = was.longest;
      setup = was.setup;
      calls = was.calls;
      beats = was.beats;
      one_each = was.one_each;
      saves = was.saves;
    }
then_sound said _ bytes was sayable none = cc

pub begins_sound : (lines : List (List ℕ)) (said : Said) → Begins lines said → AreSound said
begins_sound lines Nothing b = nothing_sound
begins_sound lines (Then said line) b = then_sound said line b.bytes (begins_sound b.front said b.before) (line-sayable b.bytes line b.says) b.stands

pub begins_count : (lines : List (List ℕ)) (said : Said) → Begins lines said → length lines ≡ count_of said
begins_count lines Nothing b = ap length b
begins_count lines (Then said line) b =
    ap length b.cut ∙ length-append b.front (b.bytes ∷ []) ∙ ap (λ (n : ℕ). n + 1) (begins_count b.front said b.before)

-- ---- the plan

moved : (P : ℕ → Line → Type 0) (m n : ℕ) (xs ys : List Line) → m ≡ n → xs ≡ ys → AllByRecursion (P n) ys → AllByRecursion (P m) xs
moved P m n xs ys e f h = subst (λ (l : List Line). AllByRecursion (P m) l) (sym f) (subst (λ (k : ℕ). AllByRecursion (P k) ys) (sym e) h)

pub sound_plan : (plan : Plan) (said : Said) → HasAll plan said → AreSound said → part_of said ≡ End → beat_sum said ≤ beat_limit → IsSound plan
sound_plan plan said has are ended few =
    let n : length plan.cards.items ≡ card_count said = ap length has.cards ∙ count_cards said in
    let sum : sum_of plan.beats.items ≡ beat_sum said = ap sum_of has.beats ∙ sum_is said in
    let some : 1 ≤ card_count said = are.some (ap is_setup ended) in
    record {
      long = subst (λ (k : ℕ). 15 ≤ k) (sym has.long) are.long;
      longest = subst (λ (k : ℕ). k < 2 ^ 36) (sym has.long) are.longest;
      some_card = omega (arith, n, some);
      cards = (let most = are.cards in omega (arith, n, most));
      setup = moved IsSetupLine _ _ _ _ n has.setup are.setup;
      clients = has.clients;
      calls = λ c none below. moved (λ k. IsClientLine k c) _ _ _ _ n (has.calls c none below) (are.calls c);
      beats = moved IsBeatLine _ _ _ _ n has.beats are.beats;
      one_each = subst IsOneEach (sym has.beats) are.one_each;
      few = omega (arith, sum, few);
      saves = moved IsSaveLine _ _ _ _ n has.saves are.saves;
    }
