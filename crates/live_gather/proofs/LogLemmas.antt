-- The logs of a floor at rest, of which each number has one, and what follows for them from what was told.
use Rattle.std.proofs.Common.{◌≡◌, ◌≢◌, inl, inr, ℕ, zero, suc, ◌+◌, ◌<◌, true, false, Bool, eq-eqb, ne_eqb, List, [], ◌∷◌, length, slice_get, Some, refl, sym, ap, ◌∙◌, subst, arith}
use Rattle.std.specs.Prelude.{nat_eq, if◌then◌else◌}
use Rattle.std.proofs.Math.Nat.{suc_inj}
use Rattle.std.proofs.lemmas.Option.{same_Some, slice_get_within}
use mathlib.Core.Logic.{dite}
use mathlib.Core.List.{IsPrefix}
use native.Mathlib.Decide.{ℕ_discrete}
use Rattle.pcm_base.specs.declared.call.Call.{Call}
use Rattle.pcm_base.specs.declared.call.Call.TheVariants as call
use Rattle.pcm_base.specs.declared.config.CardModel.{CardModel}
use Rattle.pcm_base.specs.declared.ids.SubId.{SubId}
use Rattle.pcm_base.specs.declared.state.Dir.{Dir}
use Rattle.floor_rule.specs.declared.entry.Entry.{Entry}
use Rattle.floor_rule.specs.declared.entry.EntryMark.{EntryMark}
use Rattle.floor_rule.specs.declared.entry.EntryMark.TheVariants as mark
use Rattle.floor_rule.specs.declared.rule.Made.{Made}
use Rattle.floor_rule.specs.declared.rule.Marked.{Marked}
use Rattle.floor_rule.specs.Causes.{At, Tells}
use Rattle.floor_rule.specs.Laws.{CallsStandOnce, OwnEntriesAreCalls, StandsInLog}
use Rattle.floor_rule.specs.Lists.{AllOf, Stands}
use Rattle.floor_rule.specs.Marks.{IsOnce, is_call}
use Rattle.floor_rule.specs.Pages.{AllReadOf}
use Rattle.floor_rule.specs.Rule.{Among, Distinct, IsNone}
use Rattle.floor_rule.specs.Steps.{AllBelow}
use Rattle.room_parts.specs.Passes.{AllAtSubs, AllLinked, AllStand, IsLinked, PassView}
use Rattle.live_gather.specs.Gathered.{AgreesWith, HasCall, HasCause, IsGatheredFrom, IsGatheredOf, IsNamed}
use Rattle.live_gather.specs.Ordered.{AreAmong, AreInOrder, IsOneOf}
use Rattle.live_gather.specs.Pieces.{numbers_of}
use Rattle.live_gather.specs.Told.{Each, IsFound, IsFoundIn, IsMet}
use Rattle.live_gather.specs.declared.gathered.Gathered.{Gathered}
use Rattle.live_gather.proofs.ToldLemmas.{first_read}

-- the log of a number, or none

abbrev pub log_at : List (ℕ × List Marked) → ℕ → List Marked
log_at [] j = []
log_at (l ∷ ls) j = if nat_eq l.0 j then l.1 else log_at ls j

log_here : (l : ℕ × List Marked) (ls : List (ℕ × List Marked)) (j : ℕ) → l.0 ≡ j → log_at (l ∷ ls) j ≡ l.1
log_here l ls j e = ap (λ b. if b then l.1 else log_at ls j) (eq-eqb l.0 j e)

log_there : (l : ℕ × List Marked) (ls : List (ℕ × List Marked)) (j : ℕ) → l.0 ≢ j → log_at (l ∷ ls) j ≡ log_at ls j
log_there l ls j ne = ap (λ b. if b then l.1 else log_at ls j) (ne_eqb l.0 j ne)

-- the log j that has the entry e at place i is one of the list
abbrev pub IsOf : List (ℕ × List Marked) → ℕ → ℕ → Marked → Type 0
IsOf ls j i e = (m : ℕ) × (l : ℕ × List Marked) × (slice_get ls m ≡ Some l) × (l.0 ≡ j) × (slice_get l.1 i ≡ Some e)

log_of_at : (ls : List (ℕ × List Marked)) (j i : ℕ) (e : Marked) → At (log_at ls) j i e → IsOf ls j i e
log_of_at [] j i e h = absurd (cc)
log_of_at (l ∷ ls) j i e h =
    dite (ℕ_discrete l.0 j)
    (λ same. (0, l, refl, same, ap (λ x. slice_get x i) (sym (log_here l ls j same)) ∙ h))
    (λ ne. let t = log_of_at ls j i e (ap (λ x. slice_get x i) (sym (log_there l ls j ne)) ∙ h) in (suc t.0, t.1, t.2, t.3, t.4))

each_once : (ls : List (ℕ × List Marked)) → Each (λ (l : ℕ × List Marked). IsOnce [] l.1) ls → (j : ℕ) → IsOnce [] (log_at ls j)
each_once [] h j = tt
each_once (l ∷ ls) h j =
    dite (ℕ_discrete l.0 j)
    (λ same. subst (IsOnce []) (sym (log_here l ls j same)) (h 0 l refl))
    (λ ne. subst (IsOnce []) (sym (log_there l ls j ne)) (each_once ls (λ m. h (suc m)) j))

none_at : (x : ℕ) (ls : List (ℕ × List Marked)) (m : ℕ) (l : ℕ × List Marked) → IsNone x (numbers_of ls) → slice_get ls m ≡ Some l → x ≢ l.0
none_at x [] m l none at = absurd (cc)
none_at x (y ∷ ls) zero l none at = λ e. none.0 (ap (λ z. z.0) (same_Some y l at) ∙ sym e)
none_at x (y ∷ ls) (suc m) l none at = none_at x ls m l none.1 at

at_log : (ls : List (ℕ × List Marked)) → Distinct (numbers_of ls) → (m : ℕ) (l : ℕ × List Marked) → slice_get ls m ≡ Some l → log_at ls l.0 ≡ l.1
at_log [] d m l at = absurd (cc)
at_log (x ∷ ls) d zero l at = let same = same_Some x l at in log_here x ls l.0 (ap (λ z. z.0) same) ∙ ap (λ z. z.1) same
at_log (x ∷ ls) d (suc m) l at = log_there x ls l.0 (none_at x.0 ls m l d.0 at) ∙ at_log ls d.1 m l at

below_at : (n : ℕ) (ls : List (ℕ × List Marked)) (m : ℕ) (l : ℕ × List Marked) → AllBelow n (numbers_of ls) → slice_get ls m ≡ Some l → l.0 < n
below_at n [] m l h at = absurd (cc)
below_at n (x ∷ ls) zero l h at = subst (λ (y : ℕ × List Marked). y.0 < n) (same_Some x l at) h.0
below_at n (x ∷ ls) (suc m) l h at = below_at n ls m l h.1 at

among_at : (j : ℕ) (ls : List (ℕ × List Marked)) → Among j (numbers_of ls) → (m : ℕ) × (l : ℕ × List Marked) × (slice_get ls m ≡ Some l) × (l.0 ≡ j)
among_at j [] h = absurd h
among_at j (l ∷ ls) (inl same) = (0, l, refl, same)
among_at j (l ∷ ls) (inr h) = let t = among_at j ls h in (suc t.0, t.1, t.2, t.3)

-- what a pass keeps of its call of one number

stand_at : (logs : List (ℕ × List Marked)) (number first : ℕ) (rs : List (ℕ × ℕ)) (k : ℕ) (r : ℕ × ℕ) → AllStand logs number first rs → slice_get rs k ≡ Some r
    → (e : Marked) × Stands logs r.0 r.1 e × (is_call number (first + k) e.mark ≡ true)
stand_at logs number first [] k r h at = absurd (cc)
stand_at logs number first (x ∷ rs) zero r h at =
    let same = same_Some x r at in (h.0.0, subst (λ (y : ℕ × ℕ). Stands logs y.0 y.1 h.0.0) same h.0.1, subst (λ n. is_call number n h.0.0.mark ≡ true) (omega arith) h.0.2)
stand_at logs number first (x ∷ rs) (suc k) r h at =
    let t = stand_at logs number (suc first) rs k r h.1 at in (t.0, t.1, subst (λ n. is_call number n t.0.mark ≡ true) (omega arith) t.2)

subs_at : (n : ℕ) (cs : List Made) (rs : List (ℕ × ℕ)) (k : ℕ) (c : Made) → AllAtSubs n cs rs → length cs ≡ length rs → slice_get cs k ≡ Some c
    → (r : ℕ × ℕ) × (slice_get rs k ≡ Some r) × (r.0 ≡ c.event.sub.0) × (r.0 < n)
subs_at n [] rs k c h size at = absurd (cc)
subs_at n (x ∷ cs) [] k c h size at = absurd (cc)
subs_at n (x ∷ cs) (r ∷ rs) zero c h size at = (r, refl, h.0 ∙ ap (λ (m : Made). m.event.sub.0) (same_Some x c at), h.1)
subs_at n (x ∷ cs) (r ∷ rs) (suc k) c h size at = subs_at n cs rs k c h.2 (suc_inj size) at

linked_at : (n : ℕ) (logs : List (ℕ × List Marked)) (number first : ℕ) (cs : List Made) (k : ℕ) (c : Made) → AllLinked n logs number first cs → slice_get cs k ≡ Some c → IsLinked n logs number (first + k) c.event.call
linked_at n logs number first [] k c h at = absurd (cc)
linked_at n logs number first (x ∷ cs) zero c h at =
    subst (λ (z : ℕ × Call). IsLinked n logs number z.0 z.1) (λ i. (here i, (same_Some x c at i).event.call)) h.0
  where
    here : first ≡ first + 0
    here = omega arith
linked_at n logs number first (x ∷ cs) (suc k) c h at =
    subst (λ i. IsLinked n logs number i c.event.call) (omega arith) (linked_at n logs number (suc first) cs k c h.1 at)

module _ (in_log : StandsInLog) (own_calls : OwnEntriesAreCalls) (stand_once : CallsStandOnce) (n : ℕ) (ls : List (ℕ × List Marked)) (apart : Distinct (numbers_of ls)) (whole : (j : ℕ) → j < n → Among j (numbers_of ls)) where
  there : (j : ℕ) → j < n → (m : ℕ) × (l : ℕ × List Marked) × (slice_get ls m ≡ Some l) × (l.0 ≡ j) × (log_at ls j ≡ l.1)
  there j lt = let a = among_at j ls (whole j lt) in (a.0, a.1, a.2, a.3, subst (λ k. log_at ls k ≡ a.1.1) a.3 (at_log ls apart a.0 a.1 a.2))

  -- an entry of a pass's caller is that of its call
  own_at : (p : PassView) → IsMet n ls p → (j i k : ℕ) (e : Marked) → At (log_at ls) j i e → is_call p.knows.number k e.mark ≡ true
      → (m : Made) × (slice_get p.knows.calls k ≡ Some m) × HasCall (log_at ls) p.knows.number k m j i
  own_at p met j i k e at is =
      let t = log_of_at ls j i e at in
      let c = own_calls p.knows.number p.knows.calls t.1.0 i k e (t.1 ∷ []) (met.own t.0 t.1 t.2, tt) (inl (refl, t.4)) is in
      (c.0, c.1, record { entry = e; at = at; call = is; tells = subst (λ s. Tells s e.entry c.0.event) t.3 c.3; count = sym c.2 })

  -- a call whose entry stands in what a pass holds has it in the log
  call_at : (p : PassView) → IsMet n ls p → (k j i : ℕ) (m : Made) (e : Marked) → slice_get p.knows.calls k ≡ Some m → j < n → Stands p.knows.held.logs j i e → is_call p.knows.number k e.mark ≡ true
      → HasCall (log_at ls) p.knows.number k m j i
  call_at p met k j i m e made lt st is =
      let t = there j lt in
      let here : slice_get t.1.1 i ≡ Some e = in_log t.1.0 i e t.1.1 p.knows.held.logs (met.agree t.0 t.1 t.2).lists (subst (λ s. Stands p.knows.held.logs s i e) (sym t.3) st) in
      let c = own_at p met j i k e (ap (λ x. slice_get x i) t.4 ∙ here) is in
      subst (λ (x : Made). HasCall (log_at ls) p.knows.number k x j i) (same_Some c.0 m (sym c.1 ∙ made)) c.2

  received : (p : PassView) → IsMet n ls p → (k : ℕ) (m : Made) → slice_get p.knows.calls k ≡ Some m
      → (m.event.sub.0 < n) × ((i : ℕ) × (slice_get p.knows.receipts k ≡ Some (m.event.sub.0, i)) × HasCall (log_at ls) p.knows.number k m m.event.sub.0 i)
  received p met k m made =
      let s = subs_at n p.knows.calls p.knows.receipts k m met.stands.at_subs met.stands.idle made in
      let t = stand_at p.knows.held.logs p.knows.number 0 p.knows.receipts k s.0 met.stands.stand s.1 in
      let card : m.event.sub.0 < n = subst (λ j. j < n) s.2 s.3 in
      let stands : Stands p.knows.held.logs m.event.sub.0 s.0.1 t.0 = subst (λ j. Stands p.knows.held.logs j s.0.1 t.0) s.2 t.1 in
      let call : is_call p.knows.number k t.0.mark ≡ true = subst (λ i. is_call p.knows.number i t.0.mark ≡ true) (omega arith) t.2 in
      (card, (s.0.1, s.1 ∙ ap (λ j. Some (j, s.0.1)) s.2, call_at p met k m.event.sub.0 s.0.1 m t.0 made card stands call))

  named : (p : PassView) → IsMet n ls p → (k j : ℕ) (m : Made) → slice_get p.knows.calls k ≡ Some m → IsNamed j m.event → j < n → (i : ℕ) × HasCall (log_at ls) p.knows.number k m j i
  named p met k j m made (inl own) lt = let r = (received p met k m made).1 in (r.0, subst (λ s. HasCall (log_at ls) p.knows.number k m s r.0) own r.2)
  named p met k j m made (inr second) lt =
      let at = linked_at n p.knows.held.logs p.knows.number 0 p.knows.calls k m met.stands.linked made in
      let to : IsLinked n p.knows.held.logs p.knows.number k (call.Link second.0) = subst (λ (z : ℕ × Call). IsLinked n p.knows.held.logs p.knows.number z.0 z.1) (λ i. (from_zero i, second.1 i)) at in
      let t = to (subst (λ s. s < n) (sym second.2) lt) in
      (t.0, call_at p met k j t.0 m t.1 made lt (subst (λ s. Stands p.knows.held.logs s t.0 t.1) second.2 t.2) t.3)
    where
      from_zero : 0 + k ≡ k
      from_zero = omega arith

  pub agrees_with : (p : PassView) → IsMet n ls p → AgreesWith n (log_at ls) p
  agrees_with p met = record {
    begins = λ j lt.
        let t = there j lt in
        let a = met.agree t.0 t.1 t.2 in
        subst (λ (z : ℕ × List Marked). AllOf z.0 (λ l. IsPrefix l z.1) p.knows.held.logs) (λ i. (t.3 i, sym t.4 i)) a.lists;
    pages = λ j lt.
        let t = there j lt in
        let a = met.agree t.0 t.1 t.2 in
        subst (λ (z : ℕ × List Marked). AllReadOf z.0 z.1 p.knows.reads) (λ i. (t.3 i, sym t.4 i)) (first_read t.1.0 t.1.1 p.knows.reads p.knows.held.reads a.pages);
    receipts = received p met;
    calls = record {
      named = named p met;
      made = own_at p met;
      once = λ j h i k d e at_d is_d at_e is_e. stand_once (log_at ls j) p.knows.number k h i d e (each_once ls (λ m l at. (met.agree m l at).once) j) at_d is_d at_e is_e;
    };
  }

  -- the cause of an entry, by its mark
  cause : (j : ℕ) (e : Entry) (m : EntryMark) → (k : ℕ) (l : ℕ × List Marked) → slice_get ls k ≡ Some l → ((i : ℕ) (x : ℕ × List Marked) → slice_get ls i ≡ Some x → IsFound n j e m x) → HasCause n (log_at ls) j e m
  cause j e (mark.Called state hw caller number count) k l at f = f k l at
  cause j e (mark.Caused state hw sub place) k l at f =
      let lt = (f k l at).0 in
      let t = there sub.0 lt in
      let c = (f t.0 t.1 t.2).1 (sym t.3) in
      (lt, (c.0, ap (λ x. slice_get x place) t.4 ∙ c.1, c.2))

  pub causes : Each (λ (k : ℕ × List Marked). Each (IsFoundIn n k) ls) ls → (j i : ℕ) (e : Marked) → At (log_at ls) j i e → HasCause n (log_at ls) j e.entry e.mark
  causes found j i e at =
      let t = log_of_at ls j i e at in
      cause j e.entry e.mark t.0 t.1 t.2 (λ k l there_. subst (λ s. IsFound n s e.entry e.mark l) t.3 (found t.0 t.1 t.2 k l there_ i e t.4))

  -- what stands in order is that of each number
  pub of_number : (cards : List (CardModel × Dir)) (long_max : ℕ) (old gs : List Gathered) → Each (IsOneOf cards long_max ls) old → AreAmong gs old → AreInOrder (length gs) gs
      → (j : ℕ) (g : Gathered) → slice_get gs j ≡ Some g → IsGatheredOf cards long_max j (log_at ls j) g
  of_number cards long_max old gs from among order j g at =
      let a = among j g at in
      let o = from a.0 g a.1 in
      let l = o.1 in
      let same : l.0 ≡ j = sym (ap (λ (s : SubId). s.0) o.3.sub) ∙ order j g (slice_get_within gs j g at) at in
      let log : l.1 ≡ log_at ls j = sym (at_log ls apart o.0 l o.2) ∙ ap (log_at ls) same in
      subst (λ (z : ℕ × List Marked). IsGatheredOf cards long_max z.0 z.1 g) (λ i. (same i, log i)) o.3

  pub gathered : (cards : List (CardModel × Dir)) (long_max : ℕ) (ps : List PassView) (old gs : List Gathered) → n ≡ length cards → length gs ≡ n → Each (IsMet n ls) ps → Each (λ (k : ℕ × List Marked). Each (IsFoundIn n k) ls) ls
      → Each (IsOneOf cards long_max ls) old → AreAmong gs old → AreInOrder (length gs) gs → AllBelow n (numbers_of ls) → IsGatheredFrom cards long_max ls ps gs
  gathered cards long_max ps old gs count size met found from among order below = record {
    gathered = record {
      logs = log_at ls;
      size = size ∙ count;
      each = of_number cards long_max old gs from among order;
      passes = λ i p at. subst (λ k. AgreesWith k (log_at ls) p) count (agrees_with p (met i p at));
      caused = λ j i e at. subst (λ k. HasCause k (log_at ls) j e.entry e.mark) count (causes found j i e at);
    };
    from = λ m l at. (subst (λ k. l.0 < k) count (below_at n ls m l below at), at_log ls apart m l at);
    every = λ j lt. whole j (subst (λ k. j < k) (sym count) lt);
    once = apart;
  }
