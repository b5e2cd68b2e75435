-- Jobs in order, and what the workers have done of them.
use Rattle.std.proofs.Common.{◌≡◌, ◌⊎◌, ◌<◌, ◌≤◌, ◌+◌, ℕ, zero, suc, Bool, true, false, ◌&&◌, List, [], ◌∷◌, ◌++◌, length, take, drop, map, Some, None, inl, inr, slice_get, slice_index_or, refl, sym, ap, ◌∙◌, subst, arith, length-append}
use Rattle.std.specs.Prelude.{Vec, OnOk}
use Rattle.std.specs.Global.{Global}
use Rattle.std.specs.List.{All, AllByRecursion, AllZip, list_all}
use Rattle.std.specs.Result.{is_ok}
use Rattle.std.specs.Option.{is_none}
use Rattle.std.specs.declared.option.Option.{Option}
use Rattle.std.specs.declared.result.Result.{Result}
use Rattle.std.specs.declared.result.Result.TheVariants.{Ok, Err}
use Rattle.std.proofs.lemmas.List.{length-map}
use Rattle.std.proofs.lemmas.List.Elements.{All-append}
use Rattle.std.proofs.lemmas.Option.{get_or_from_slice_get, slice_get-get_or, slice_get_within}
use Rattle.std.proofs.lemmas.Slice.Zip.{AllZip-long}
use Rattle.pcm_base.specs.declared.config.CardModel.{CardModel}
use Rattle.pcm_base.specs.declared.ids.ClientId.{ClientId}
use Rattle.pcm_base.specs.declared.ids.SubId.{SubId}
use Rattle.pcm_base.specs.declared.state.Dir.{Dir}
use Rattle.pcm_line.specs.declared.line.Line.{Line}
use Rattle.room_parts.specs.Passes.{PassView}
use Rattle.room_parts.specs.declared.pass.Caller.TheVariants as caller
use Rattle.live_plan.specs.declared.plan.Plan.{Plan}
use Rattle.live_plan.specs.Sound.{IsClientLine, IsSound}
use Rattle.live_work.specs.Called.{Call}
use Rattle.live_work.specs.declared.crew.Stop.{Stop}
use Rattle.live_top.specs.Callers.{beats_in, lines_of}
use Rattle.live_top.specs.Jobs.{AreJobs, CanDo, DoesPart, HasDone, IsJobOf, IsOfCard, IsOfClient, IsOfLines}
use Rattle.live_top.specs.Passes.{AreWhose, HasMoved, HasWorked, HaveWorked}
use Rattle.live_top.specs.declared.parts.Job.{Job}
use Rattle.live_top.specs.declared.parts.Part.{Part}
use Rattle.live_top.specs.declared.parts.Part.TheVariants as part
use Rattle.live_top.specs.declared.parts.Worked.{Worked}

-- places of lists

pub at_drop : {A : Type 0} (n : ℕ) (xs : List A) (x : A) (rest : List A) → drop n xs ≡ x ∷ rest → slice_get xs n ≡ Some x
at_drop zero [] x rest e = absurd (cc)
at_drop zero (y ∷ ys) x rest e = let same : y ≡ x = cc in ap (λ z. Some z) same
at_drop (suc n) [] x rest e = absurd (cc)
at_drop (suc n) (y ∷ ys) x rest e = at_drop n ys x rest e

drop_after : {A : Type 0} (n : ℕ) (xs : List A) (x : A) (rest : List A) → drop n xs ≡ x ∷ rest → rest ≡ drop (suc n) xs
drop_after zero [] x rest e = absurd (cc)
drop_after zero (y ∷ ys) x rest e = let same : ys ≡ rest = cc in sym same
drop_after (suc n) [] x rest e = absurd (cc)
drop_after (suc n) (y ∷ ys) x rest e = drop_after n ys x rest e

pub drop_next : {A : Type 0} (n : ℕ) (xs : List A) (x : A) (rest : List A) → drop n xs ≡ x ∷ rest → rest ≡ drop (n + 1) xs
drop_next n xs x rest e =
    let more : suc n ≡ n + 1 = omega arith in
    drop_after n xs x rest e ∙ ap (λ (m : ℕ). drop m xs) more

last_or_before : {A : Type 0} (xs : List A) (x : A) (i : ℕ) (y : A) → slice_get (xs ++ x ∷ []) i ≡ Some y → (slice_get xs i ≡ Some y) ⊎ ((i ≡ length xs) × (y ≡ x))
last_or_before [] x zero y e = inr (refl, cc)
last_or_before [] x (suc i) y e = absurd (cc)
last_or_before (z ∷ zs) x zero y e = inl e
last_or_before (z ∷ zs) x (suc i) y e = by (last_or_before zs x i y e)
  where
    by : (slice_get zs i ≡ Some y) ⊎ ((i ≡ length zs) × (y ≡ x)) → (slice_get zs i ≡ Some y) ⊎ ((suc i ≡ suc (length zs)) × (y ≡ x))
    by (inl h) = inl h
    by (inr h) = inr (ap (λ (m : ℕ). suc m) h.0, h.1)

at_map : {A B : Type 0} (f : A → B) (xs : List A) (i : ℕ) (y : B) → slice_get (map f xs) i ≡ Some y → (x : A) × (slice_get xs i ≡ Some x) × (f x ≡ y)
at_map f [] i y e = absurd (cc)
at_map f (x ∷ xs) zero y e = (x, refl, cc)
at_map f (x ∷ xs) (suc i) y e = at_map f xs i y e

zip_at : {A B : Type 0} (R : A → B → Type 0) (xs : List A) (ys : List B) → AllZip R xs ys → (i : ℕ) (y : B) → slice_get ys i ≡ Some y → (x : A) × (slice_get xs i ≡ Some x) × R x y
zip_at R [] [] h i y e = absurd (cc)
zip_at R [] (z ∷ zs) h i y e = absurd h
zip_at R (x ∷ xs) [] h i y e = absurd h
zip_at R (x ∷ xs) (z ∷ zs) h zero y e = let same : z ≡ y = cc in (x, refl, subst (λ w. R x w) same h.0)
zip_at R (x ∷ xs) (z ∷ zs) h (suc i) y e = zip_at R xs zs h.1 i y e

zip_parted : {A B : Type 0} (R : A → B → Type 0) (xs ys : List A) (zs : List B) → AllZip R (xs ++ ys) zs → AllZip R xs (take (length xs) zs) × AllZip R ys (drop (length xs) zs)
zip_parted R [] ys zs h = (tt, h)
zip_parted R (x ∷ xs) ys [] h = absurd h
zip_parted R (x ∷ xs) ys (z ∷ zs) h = let r = zip_parted R xs ys zs h.1 in ((h.0, r.0), r.1)

zip_more : {A B : Type 0} (R S : A → B → Type 0) → ((x : A) (y : B) → R x y → S x y) → (xs : List A) (ys : List B) → AllZip R xs ys → AllZip S xs ys
zip_more R S f [] [] h = tt
zip_more R S f [] (y ∷ ys) h = absurd h
zip_more R S f (x ∷ xs) [] h = absurd h
zip_more R S f (x ∷ xs) (y ∷ ys) h = (f x y h.0, zip_more R S f xs ys h.1)

both_true : (a b : Bool) → (a && b) ≡ true → (a ≡ true) × (b ≡ true)
both_true true b h = (refl, h)
both_true false b h = absurd (cc)

zip_all : {A B : Type 0} (R S : A → B → Type 0) (t : B → Bool) → ((x : A) (y : B) → R x y → t y ≡ true → S x y) → (xs : List A) (ys : List B) → AllZip R xs ys → list_all t ys ≡ true → AllZip S xs ys
zip_all R S t f [] [] h e = tt
zip_all R S t f [] (y ∷ ys) h e = absurd h
zip_all R S t f (x ∷ xs) [] h e = absurd h
zip_all R S t f (x ∷ xs) (y ∷ ys) h e = let each = both_true (t y) (list_all t ys) e in (f x y h.0 each.0, zip_all R S t f xs ys h.1 each.1)

-- jobs that are made

module _ {N : Type 0} (count : ℕ) (IsPart : ℕ → Part → Type 0) where
  pub jobs_more : (n : ℕ) (ps : List PassView) (jobs : List (Job N)) (p : PassView) (job : Job N) → slice_get ps n ≡ Some p → AreJobs count IsPart n ps jobs → IsJobOf count (IsPart n) p job → AreJobs count IsPart (n + 1) ps (jobs ++ job ∷ [])
  jobs_more n ps jobs p job at was is = (omega (arith, was.0, length-append jobs (job ∷ [])), λ i q j here there. by i q j here (last_or_before jobs job i j there))
    where
      by : (i : ℕ) (q : PassView) (j : Job N) → slice_get ps i ≡ Some q → (slice_get jobs i ≡ Some j) ⊎ ((i ≡ length jobs) × (j ≡ job)) → IsJobOf count (IsPart i) q j
      by i q j here (inl h) = was.1 i q j here h
      by i q j here (inr h) =
          let same : i ≡ n = h.0 ∙ was.0 in
          let there : slice_get ps n ≡ Some q = ap (λ (m : ℕ). slice_get ps m) (sym same) ∙ here in
          let who : p ≡ q = cc in
          subst (λ (m : ℕ). IsJobOf count (IsPart m) q j) (sym same)
          (subst (λ (z : PassView). IsJobOf count (IsPart n) z j) who (subst (λ (z : Job N). IsJobOf count (IsPart n) p z) (sym h.1) is))

  pub can_each : (n : ℕ) (ps : List PassView) (jobs : List (Job N)) → length ps ≡ n → AreJobs count IsPart n ps jobs → All (λ job. CanDo count job.part job.pass) jobs
  can_each n ps jobs many are k d lt =
      let job = slice_index_or jobs k d in
      let here = slice_get-get_or ps k job.pass (omega (arith, many, are.0)) in
      (are.1 k (slice_index_or ps k job.pass) job here (slice_get-get_or jobs k d lt)).can

lines_at : (plan : Plan) (n : ℕ) (own : Vec Line Global) → slice_get plan.clients.items n ≡ Some own → lines_of plan n ≡ own.items
lines_at plan n own at = ap (λ (o : Option (Vec Line Global)). (elim o [ Some lines ↦ lines.items | None ↦ [] ])) at

pub client_can : (cards : ℕ) (plan : Plan) → IsSound plan → cards ≡ length plan.cards.items → (n : ℕ) → n < 16 → (own : Vec Line Global) → slice_get plan.clients.items n ≡ Some own
    → (p : PassView) → p.caller ≡ caller.Client (record { 0 = n }) → p.busy ≡ None → (a : Part) → IsOfLines (record { 0 = n }) own.items a → IsOfClient plan n a × CanDo cards a p
client_can cards plan sound same n lt own at p by idle (part.Client d parker lines) of =
    let all = subst (λ (v : Vec Line Global). AllByRecursion (IsClientLine (length plan.cards.items) n) v.items) (get_or_from_slice_get plan.clients.items n own own at) (sound.calls n own lt) in
    let few = subst (λ (m : ℕ). AllByRecursion (IsClientLine m n) own.items) (sym same) all in
    let mine = subst (λ (c : ClientId). AllByRecursion (IsClientLine cards c.0) own.items) (sym of.0) few in (
      (of.0, of.1 ∙ sym (lines_at plan n own at)),
      (subst (λ (ls : List Line). AllByRecursion (IsClientLine cards d.0) ls) (sym of.1) mine, by ∙ ap (λ (c : ClientId). caller.Client c) (sym of.0), idle),
    )
client_can cards plan sound same n lt own at p by idle (part.Card b) of = absurd of
client_can cards plan sound same n lt own at p by idle part.Idle of = (lines_at plan n own at ∙ of, tt)

pub card_can : (cards : ℕ) (plan : Plan) (k : ℕ) → k < cards → (p : PassView) → p.caller ≡ caller.Card (record { 0 = k }) → (a : Part) → IsOfCard plan k a → CanDo cards a p
card_can cards plan k lt p by (part.Client d parker lines) of = absurd of
card_can cards plan k lt p by (part.Card b) of =
    (subst (λ (s : SubId). s.0 < cards) (sym of.0) lt, by ∙ ap (λ (s : SubId). caller.Card s) (sym of.0))
card_can cards plan k lt p by part.Idle of = tt

-- jobs that are done

module _ (cards : List (CardModel × Dir)) (long_max : ℕ) where
  client_did : (whole : Bool) (plan : Plan) (c : ℕ) (a : Part) (p q : PassView) → IsOfClient plan c a → DoesPart cards long_max whole a p q → HasWorked cards long_max whole (lines_of plan c) p q
  client_did whole plan c (part.Client d parker own) p q of h = subst (λ (ls : List Line). HasWorked cards long_max whole ls p q) of.1 h
  client_did whole plan c (part.Card b) p q of h = absurd of
  client_did true plan c part.Idle p q of h = subst (λ (ls : List Line). HasWorked cards long_max true ls p q) (sym of) ([], refl, h)
  client_did false plan c part.Idle p q of h = subst (λ (ls : List Line). HasWorked cards long_max false ls p q) (sym of) (0, ([], refl, h))

  card_did : (whole : Bool) (plan : Plan) (k : ℕ) (a : Part) (p q : PassView) → IsOfCard plan k a → DoesPart cards long_max whole a p q → HasMoved cards long_max whole (beats_in k plan.beats.items) p q
  card_did whole plan k (part.Client d parker own) p q of h = absurd of
  card_did whole plan k (part.Card b) p q of h = subst (λ (es : List Call). HasMoved cards long_max whole es p q) of.1 h
  card_did true plan k part.Idle p q of h = subst (λ (es : List Call). HasMoved cards long_max true es p q) (sym of) h
  card_did false plan k part.Idle p q of h = subst (λ (es : List Call). HasMoved cards long_max false es p q) (sym of) ([], ([], refl), h)

  same_caller : (a : Part) (p q : PassView) → DoesPart cards long_max false a p q → q.caller ≡ p.caller
  same_caller (part.Client d parker own) p q h = h.1.2.same.0
  same_caller (part.Card b) p q h = h.2.same.0
  same_caller part.Idle p q h = h.same.0

  on_ok : (r : Result (Unit {0}) Stop) (P : Type 0) → OnOk r P → is_ok r ≡ true → P
  on_ok (Ok u) P h e = h
  on_ok (Err stop) P h e = absurd (cc)

  module _ {N : Type 0} where
    abbrev pub Does : Bool → Job N → Worked N → Type 0
    Does whole job w = DoesPart cards long_max whole job.part job.pass w.pass

    -- where a pass stands among those that the workers hand back, its job was done
    done_at : (whole : Bool) (IsPart : ℕ → Part → Type 0) (n : ℕ) (ps : List PassView) (jobs : List (Job N)) (ws : List (Worked N)) → AreJobs (length cards) IsPart n ps jobs → AllZip (Does whole) jobs ws
        → (i : ℕ) (p q : PassView) → slice_get ps i ≡ Some p → slice_get (map (λ w. w.pass) ws) i ≡ Some q → (a : Part) × IsPart i a × DoesPart cards long_max whole a p q
    done_at whole IsPart n ps jobs ws are did i p q here there =
        let w = at_map (λ (w : Worked N). w.pass) ws i q there in
        let job = zip_at (Does whole) jobs ws did i w.0 w.1 in
        let is = are.1 i p job.0 here job.1 in
        let by = subst (λ (z : PassView). DoesPart cards long_max whole job.0.part z w.0.pass) is.is job.2 in
        (job.0.part, is.part, subst (λ (z : PassView). DoesPart cards long_max whole job.0.part p z) w.2 by)

    -- the pass that it was
    was_at : (IsPart : ℕ → Part → Type 0) (n : ℕ) (ps : List PassView) (jobs : List (Job N)) (ws : List (Worked N)) → length ps ≡ n → AreJobs (length cards) IsPart n ps jobs → AllZip (Does false) jobs ws
        → (i : ℕ) (q : PassView) → slice_get (map (λ w. w.pass) ws) i ≡ Some q → (p : PassView) × (slice_get ps i ≡ Some p) × (q.caller ≡ p.caller)
    was_at IsPart n ps jobs ws many are did i q there =
        let w = at_map (λ (w : Worked N). w.pass) ws i q there in
        let within = slice_get_within ws i w.0 w.1 in
        let p = slice_index_or ps i q in
        let here = slice_get-get_or ps i q (omega (arith, many, are.0, AllZip-long (Does false) jobs ws did, within)) in
        let done = done_at false IsPart n ps jobs ws are did i p q here there in
        (p, here, same_caller done.0 p q done.2)

    -- the jobs of the clients, and behind them those of the cards
    module _ (plan : Plan) (ps qs : List PassView) (cs ks jobs : List (Job N)) (whose : AreWhose (length cards) ps qs) (by_clients : AreJobs (length cards) (IsOfClient plan) 16 ps cs) (by_cards : AreJobs (length cards) (IsOfCard plan) (length cards) qs ks) (joined : jobs ≡ cs ++ ks) where
      pub all_can : All (λ job. CanDo (length cards) job.part job.pass) jobs
      all_can =
          let both = All-append (λ (job : Job N). CanDo (length cards) job.part job.pass) cs ks (can_each (length cards) (IsOfClient plan) 16 ps cs whose.clients by_clients) (can_each (length cards) (IsOfCard plan) (length cards) qs ks whose.of_cards by_cards) in
          subst (λ (js : List (Job N)). All (λ job. CanDo (length cards) job.part job.pass) js) (sym joined) both

      module _ (ws : List (Worked N)) (done : AllZip (HasDone cards long_max) jobs ws) where
        pub all_there : 16 ≤ length ws
        all_there = omega (arith, AllZip-long (HasDone cards long_max) jobs ws done, ap (λ (js : List (Job N)). length js) joined, length-append cs ks, by_clients.0)

        parts : (whole : Bool) → AllZip (Does whole) jobs ws → AllZip (Does whole) cs (take 16 ws) × AllZip (Does whole) ks (drop 16 ws)
        parts whole did =
            let both = zip_parted (Does whole) cs ks ws (subst (λ (js : List (Job N)). AllZip (Does whole) js ws) joined did) in
            (subst (λ (m : ℕ). AllZip (Does whole) cs (take m ws)) by_clients.0 both.0, subst (λ (m : ℕ). AllZip (Does whole) ks (drop m ws)) by_clients.0 both.1)

        first_done : AllZip (Does false) jobs ws
        first_done = zip_more (HasDone cards long_max) (Does false) (λ job w d. d.first) jobs ws done

        -- all did the whole of it where none was stopped
        whole_done : (stop : Option Stop) → is_none stop ≡ list_all (λ w. is_ok w.ran) ws → stop ≡ None → AllZip (Does true) jobs ws
        whole_done stop is none =
            let ok : list_all (λ (w : Worked N). is_ok w.ran) ws ≡ true = sym is ∙ ap (λ (o : Option Stop). is_none o) none in
            zip_all (HasDone cards long_max) (Does true) (λ (w : Worked N). is_ok w.ran) (λ job w d o. on_ok w.ran (Does true job w) d.whole o) jobs ws done ok

        module _ (ps2 qs2 : List PassView) (front : ps2 ≡ map (λ (w : Worked N). w.pass) (take 16 ws)) (back : qs2 ≡ map (λ (w : Worked N). w.pass) (drop 16 ws)) where
          have_worked : (whole : Bool) → AllZip (Does whole) jobs ws → HaveWorked cards long_max whole plan ps ps2 qs qs2
          have_worked whole did = record {
            clients = λ c p q here there. (
                let d = done_at whole (IsOfClient plan) 16 ps cs (take 16 ws) by_clients (parts whole did).0 c p q here (subst (λ (l : List PassView). slice_get l c ≡ Some q) front there) in
                client_did whole plan c d.0 p q d.1 d.2);
            cards = λ k p q here there. (
                let d = done_at whole (IsOfCard plan) (length cards) qs ks (drop 16 ws) by_cards (parts whole did).1 k p q here (subst (λ (l : List PassView). slice_get l k ≡ Some q) back there) in
                card_did whole plan k d.0 p q d.1 d.2);
          }

          pub first_worked : HaveWorked cards long_max false plan ps ps2 qs qs2
          first_worked = have_worked false first_done

          pub whole_worked : (stop : Option Stop) → is_none stop ≡ list_all (λ w. is_ok w.ran) ws → stop ≡ None → HaveWorked cards long_max true plan ps ps2 qs qs2
          whole_worked stop is none = have_worked true (whole_done stop is none)

          pub are_whose : AreWhose (length cards) ps2 qs2
          are_whose = record {
            clients = ap (λ (l : List PassView). length l) front ∙ length-map (take 16 ws) (λ (w : Worked N). w.pass) ∙ AllZip-long (Does false) cs (take 16 ws) (parts false first_done).0 ∙ by_clients.0;
            of_cards = ap (λ (l : List PassView). length l) back ∙ length-map (drop 16 ws) (λ (w : Worked N). w.pass) ∙ AllZip-long (Does false) ks (drop 16 ws) (parts false first_done).1 ∙ by_cards.0;
            client = λ c q there. (
                let was = was_at (IsOfClient plan) 16 ps cs (take 16 ws) whose.clients by_clients (parts false first_done).0 c q (subst (λ (l : List PassView). slice_get l c ≡ Some q) front there) in
                was.2 ∙ whose.client c was.0 was.1);
            card = λ k q there. (
                let was = was_at (IsOfCard plan) (length cards) qs ks (drop 16 ws) whose.of_cards by_cards (parts false first_done).1 k q (subst (λ (l : List PassView). slice_get l k ≡ Some q) back there) in
                was.2 ∙ whose.card k was.0 was.1);
          }
