-- What a pass holds of its calls stays when more is told, and when it makes the next one.
use Rattle.std.proofs.Common.{◌≡◌, inl, inr, ℕ, suc, ◌+◌, ◌<◌, true, ◌&&◌, nat_eq, List, [], ◌∷◌, ◌++◌, length, append_assoc, length-append, refl, sym, ap, ◌∙◌, subst, arith}
use Rattle.std.proofs.Math.Nat.{suc_inj}
use Rattle.std.specs.declared.option.Option.{Option}
use Rattle.std.specs.declared.option.Option.TheVariants.{None as Nowhere}
use Rattle.std.proofs.lemmas.Bool.Decides.{nat_tests}
use Rattle.pcm_base.specs.declared.call.Call.{Call}
use Rattle.pcm_base.specs.declared.call.Call.TheVariants as call
use Rattle.pcm_base.specs.declared.ids.SubId.{SubId}
use Rattle.pcm_base.specs.declared.state.State.{State}
use Rattle.floor_rule.specs.declared.entry.EntryMark.TheVariants as mark
use Rattle.floor_rule.specs.declared.rule.Made.{Made}
use Rattle.floor_rule.specs.declared.rule.Marked.{Marked}
use Rattle.floor_rule.specs.declared.rule.PassKnows.{PassKnows}
use Rattle.floor_rule.specs.Lists.{Stands}
use Rattle.floor_rule.specs.declared.rule.Reading.{Reading}
use Rattle.floor_rule.specs.declared.rule.RecKnows.{RecKnows}
use Rattle.floor_rule.specs.Marks.{Shown, is_call}
use Rattle.floor_rule.specs.Pages.{AllReadOf, IsPageOf, pack_at}
use Rattle.floor_rule.specs.Steps.{IsPage, told_by_rec, with_page}
use Rattle.floor_rule.specs.Views.{both_lists}
use Rattle.room_parts.specs.declared.pass.Caller.{Caller}
use Rattle.room_parts.specs.Passes.{AllAtSubs, AllBy, AllLinked, AllStand, IsAlone, IsBusy, IsBy, IsLinked, PassStands, busy_after}

-- all that stands in the one stands in the other
abbrev pub More : List (ℕ × List Marked) → List (ℕ × List Marked) → Type 0
More logs now = (j i : ℕ) (c : Marked) → Stands logs j i c → Stands now j i c

by_push : (c : Caller) (ms : List Made) (m : Made) → AllBy c ms → IsBy c m.event → AllBy c (ms ++ m ∷ [])
by_push c [] m h b = (b, tt)
by_push c (x ∷ ms) m h b = (h.0, by_push c ms m h.1 b)

stand_more : (logs now : List (ℕ × List Marked)) (number k : ℕ) (rs : List (ℕ × ℕ)) → More logs now → AllStand logs number k rs → AllStand now number k rs
stand_more logs now number k [] more h = tt
stand_more logs now number k (r ∷ rs) more h = ((h.0.0, more r.0 r.1 h.0.0 h.0.1, h.0.2), stand_more logs now number (suc k) rs more h.1)

stand_push : (logs : List (ℕ × List Marked)) (number k : ℕ) (rs : List (ℕ × ℕ)) (r : ℕ × ℕ) (e : Marked) → AllStand logs number k rs → Stands logs r.0 r.1 e → is_call number (k + length rs) e.mark ≡ true → AllStand logs number k (rs ++ r ∷ [])
stand_push logs number k [] r e h at is = ((e, at, subst (λ n. is_call number n e.mark ≡ true) (omega arith) is), tt)
stand_push logs number k (x ∷ rs) r e h at is = (h.0, stand_push logs number (suc k) rs r e h.1 at (subst (λ n. is_call number n e.mark ≡ true) (omega arith) is))

subs_push : (n : ℕ) (cs : List Made) (rs : List (ℕ × ℕ)) (c : Made) (r : ℕ × ℕ) → length cs ≡ length rs → AllAtSubs n cs rs → r.0 ≡ c.event.sub.0 → r.0 < n → AllAtSubs n (cs ++ c ∷ []) (rs ++ r ∷ [])
subs_push n [] [] c r e h same card = (same, card, tt)
subs_push n (x ∷ cs) (y ∷ rs) c r e h same card = (h.0, h.1, subs_push n cs rs c r (suc_inj e) h.2 same card)
subs_push n [] (y ∷ rs) c r e h same card = absurd (cc)
subs_push n (x ∷ cs) [] c r e h same card = absurd (cc)

busy_more : (logs now : List (ℕ × List Marked)) (busy : Option SubId) (rs : List (ℕ × ℕ)) → More logs now → IsBusy logs busy rs → IsBusy now busy rs
busy_more logs now busy [] more h = h
busy_more logs now busy (r ∷ []) more h = (h.0, more r.0 r.1 h.0 h.1, h.2)
busy_more logs now busy (r ∷ q ∷ rs) more h = busy_more logs now busy (q ∷ rs) more h

busy_push : (logs : List (ℕ × List Marked)) (busy : Option SubId) (rs : List (ℕ × ℕ)) (r : ℕ × ℕ) (e : Marked) → Stands logs r.0 r.1 e → busy ≡ busy_after e.entry → IsBusy logs busy (rs ++ r ∷ [])
busy_push logs busy [] r e at is = (e, at, is)
busy_push logs busy (x ∷ []) r e at is = (e, at, is)
busy_push logs busy (x ∷ y ∷ rs) r e at is = busy_push logs busy (y ∷ rs) r e at is

linked_one : (n : ℕ) (logs now : List (ℕ × List Marked)) (number k : ℕ) (c : Call) → More logs now → IsLinked n logs number k c → IsLinked n now number k c
linked_one n logs now number k (call.Link second) more h = λ lt. let t = h lt in (t.0, t.1, more second.0 t.0 t.1 t.2, t.3)
linked_one n logs now number k c more h = h

linked_more : (n : ℕ) (logs now : List (ℕ × List Marked)) (number k : ℕ) (cs : List Made) → More logs now → AllLinked n logs number k cs → AllLinked n now number k cs
linked_more n logs now number k [] more h = tt
linked_more n logs now number k (c ∷ cs) more h = (linked_one n logs now number k c.event.call more h.0, linked_more n logs now number (suc k) cs more h.1)

linked_push : (n : ℕ) (logs : List (ℕ × List Marked)) (number k : ℕ) (cs : List Made) (c : Made) → AllLinked n logs number k cs → IsLinked n logs number (k + length cs) c.event.call → AllLinked n logs number k (cs ++ c ∷ [])
linked_push n logs number k [] c h is = (subst (λ i. IsLinked n logs number i c.event.call) (omega arith) is, tt)
linked_push n logs number k (x ∷ cs) c h is = (h.0, linked_push n logs number (suc k) cs c h.1 (subst (λ i. IsLinked n logs number i c.event.call) (omega arith) is))

-- a call that names no other card has all its entries where its receipt is
pub alone_linked : (n : ℕ) (logs : List (ℕ × List Marked)) (number k j i : ℕ) (e : Marked) (c : Call) → IsAlone n j c → Stands logs j i e → is_call number k e.mark ≡ true → IsLinked n logs number k c
alone_linked n logs number k j i e (call.Link second) (inl same) at is = λ lt. (i, e, subst (λ s. Stands logs s i e) (sym same) at, is)
alone_linked n logs number k j i e (call.Link second) (inr above) at is = λ lt. absurd (omega (arith, lt, above))
alone_linked n logs number k j i e c alone at is = tt

pub own_mark : (number n k count hw : ℕ) (state : State) → n ≡ k → is_call number k (mark.Called state hw number n count) ≡ true
own_mark number n k count hw state e =
    let a : nat_eq number number ≡ true = grind (arith, nat_tests) in
    let b : nat_eq n k ≡ true = grind (arith, nat_tests, e) in
    ap (λ x. x && nat_eq n k) a ∙ b

-- a pass without calls
pub stands_new : (n : ℕ) (c : Caller) (p : PassKnows) → p.calls ≡ [] → p.receipts ≡ [] → PassStands n c Nowhere p
stands_new n c p calls receipts = record {
  by = subst (AllBy c) (sym calls) tt;
  idle = ap length calls ∙ sym (ap length receipts);
  stand = subst (AllStand p.held.logs p.number 0) (sym receipts) tt;
  at_subs = subst (λ (z : List Made). AllAtSubs n z p.receipts) (sym calls) tt;
  busy_is = subst (IsBusy p.held.logs Nowhere) (sym receipts) refl;
  linked = subst (AllLinked n p.held.logs p.number 0) (sym calls) tt;
}

-- what a pass holds of its calls stays where more is told
pub stands_told : (n : ℕ) (c : Caller) (busy : Option SubId) (p now : PassKnows) → now.number ≡ p.number → now.calls ≡ p.calls → now.receipts ≡ p.receipts → More p.held.logs now.held.logs → PassStands n c busy p → PassStands n c busy now
stands_told n c busy p now number calls receipts more h = record {
  by = subst (AllBy c) (sym calls) h.by;
  idle = ap length calls ∙ h.idle ∙ sym (ap length receipts);
  stand = subst (λ (z : ℕ × List (ℕ × ℕ)). AllStand now.held.logs z.0 0 z.1) (λ i. (sym number i, sym receipts i)) (stand_more p.held.logs now.held.logs p.number 0 p.receipts more h.stand);
  at_subs = subst (λ (z : List Made × List (ℕ × ℕ)). AllAtSubs n z.0 z.1) (λ i. (sym calls i, sym receipts i)) h.at_subs;
  busy_is = subst (IsBusy now.held.logs busy) (sym receipts) (busy_more p.held.logs now.held.logs busy p.receipts more h.busy_is);
  linked = subst (λ (z : ℕ × List Made). AllLinked n now.held.logs z.0 0 z.1) (λ i. (sym number i, sym calls i)) (linked_more n p.held.logs now.held.logs p.number 0 p.calls more h.linked);
}

-- the next call, whose entry e stands at its receipt
pub stands_called : (n : ℕ) (c : Caller) (busy then : Option SubId) (p now : PassKnows) (made : Made) (r : ℕ × ℕ) (e : Marked) → now.number ≡ p.number → now.calls ≡ p.calls ++ made ∷ [] → now.receipts ≡ p.receipts ++ r ∷ [] → More p.held.logs now.held.logs
    → IsBy c made.event → Stands now.held.logs r.0 r.1 e → is_call p.number (length p.calls) e.mark ≡ true → then ≡ busy_after e.entry → IsLinked n now.held.logs p.number (length p.calls) made.event.call
    → r.0 ≡ made.event.sub.0 → r.0 < n → PassStands n c busy p → PassStands n c then now
stands_called n c busy then p now made r e number calls receipts more by at is then_is linked same card h =
    let logs = now.held.logs in
    let stand = stand_push logs p.number 0 p.receipts r e (stand_more p.held.logs logs p.number 0 p.receipts more h.stand) at (subst (λ k. is_call p.number k e.mark ≡ true) (omega (arith, h.idle)) is) in
    let links = linked_push n logs p.number 0 p.calls made (linked_more n p.held.logs logs p.number 0 p.calls more h.linked) (subst (λ k. IsLinked n logs p.number k made.event.call) (omega arith) linked) in
    record {
      by = subst (AllBy c) (sym calls) (by_push c p.calls made h.by by);
      idle = ap length calls ∙ length-append p.calls (made ∷ []) ∙ ap (λ k. k + 1) h.idle ∙ sym (ap length receipts ∙ length-append p.receipts (r ∷ []));
      stand = subst (λ (z : ℕ × List (ℕ × ℕ)). AllStand logs z.0 0 z.1) (λ i. (sym number i, sym receipts i)) stand;
      at_subs = subst (λ (z : List Made × List (ℕ × ℕ)). AllAtSubs n z.0 z.1) (λ i. (sym calls i, sym receipts i)) (subs_push n p.calls p.receipts made r h.idle h.at_subs same card);
      busy_is = subst (IsBusy logs then) (sym receipts) (busy_push logs then p.receipts r e at then_is);
      linked = subst (λ (z : ℕ × List Made). AllLinked n logs z.0 0 z.1) (λ i. (sym number i, sym calls i)) links;
    }

-- the last of some pages, among others
last_read : (sub : ℕ) (log : List Marked) (rs : List Reading) (r : Reading) (others : List Reading) → AllReadOf sub log ((rs ++ r ∷ []) ++ others) → r.sub ≡ sub → IsPageOf log r
last_read sub log [] r others h e = h.0 e
last_read sub log (x ∷ rs) r others h e = last_read sub log rs r others h.1 e

-- A pass that was told the whole log, and whose page of it the rec has confirmed, has read the page of the whole log.
pub full_read : (r : RecKnows) (p : PassKnows) (word k : ℕ) (shown : Shown) (others more : List Reading) → IsPage r.sub word (record p { held = both_lists (told_by_rec r) p.held }) k shown
    → AllReadOf r.sub r.log (((p.reads ++ record { sub = r.sub; count = k; word = word } ∷ []) ++ others) ++ more) → (k ≡ length r.log) × (word ≡ pack_at r.log (length r.log))
full_read r p word k shown others more page read =
    let seen : Reading = record { sub = r.sub; count = k; word = word } in
    let is : IsPageOf r.log seen = last_read r.sub r.log p.reads seen (others ++ more) (subst (AllReadOf r.sub r.log) (append_assoc (p.reads ++ seen ∷ []) others more) read) refl in
    let whole : k ≡ length r.log = omega (arith, page.lists.0 refl, is.0) in
    (whole, is.1 ∙ ap (pack_at r.log) whole)

-- the same, step by step: the pass hears the rec, reads the page, and tells the rec, whose page confirms it
pub full_after : (r : RecKnows) (p heard paged : PassKnows) (s word k : ℕ) (shown : Shown) (j : ℕ) (log : List Marked) (reads more : List Reading) → s ≡ r.sub → heard ≡ record p { held = both_lists (told_by_rec r) p.held }
    → IsPage s word heard k shown → paged ≡ with_page heard s k word → j ≡ r.sub → log ≡ r.log → reads ≡ (paged.reads ++ paged.held.reads) ++ more → AllReadOf j log reads
    → (k ≡ length r.log) × (paged.reads ≡ p.reads ++ record { sub = r.sub; count = length r.log; word = pack_at r.log (length r.log) } ∷ [])
full_after r p heard paged s word k shown j log reads more sub heard_is page paged_is j_is log_is reads_is read =
    let held : PassKnows = record p { held = both_lists (told_by_rec r) p.held } in
    let page' : IsPage r.sub word held k shown = subst (λ (z : ℕ × PassKnows). IsPage z.0 word z.1 k shown) (λ i. (sub i, heard_is i)) page in
    let paged' : paged ≡ with_page held r.sub k word = paged_is ∙ (λ i. with_page (heard_is i) (sub i) k word) in
    let reads' : reads ≡ ((p.reads ++ record { sub = r.sub; count = k; word = word } ∷ []) ++ held.held.reads) ++ more = reads_is ∙ ap (λ (q : PassKnows). (q.reads ++ q.held.reads) ++ more) paged' in
    let is = full_read r p word k shown held.held.reads more page' (subst (λ (z : ℕ × List Marked × List Reading). AllReadOf z.0 z.1 z.2) (λ i. (j_is i, log_is i, reads' i)) read) in
    (is.0, ap (λ (q : PassKnows). q.reads) paged' ∙ (λ i. p.reads ++ record { sub = r.sub; count = is.0 i; word = is.1 i } ∷ []))
