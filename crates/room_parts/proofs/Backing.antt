-- What backs the entries of a log stays when the log goes on and when more is told.
use Rattle.std.proofs.Common.{◌≡◌, inl, inr, ℕ, zero, suc, List, [], ◌∷◌, ◌++◌, Some, refl, sym, ap, ◌∙◌, subst}
use Rattle.std.specs.Prelude.{slice_get}
use Rattle.floor_rule.specs.declared.entry.Entry.{Entry}
use Rattle.floor_rule.specs.declared.entry.EntryMark.{EntryMark}
use Rattle.floor_rule.specs.declared.entry.EntryMark.TheVariants as mark
use Rattle.floor_rule.specs.declared.rule.Lists.{Lists}
use Rattle.floor_rule.specs.declared.rule.Made.{Made}
use Rattle.floor_rule.specs.declared.rule.Marked.{Marked}
use Rattle.floor_rule.specs.declared.rule.RecKnows.{RecKnows}
use Rattle.floor_rule.specs.Causes.{IsBacked}
use Rattle.floor_rule.specs.Lists.{Stands}
use Rattle.floor_rule.specs.Steps.{HoldsMore, MayEnter, with_entry}
use Rattle.floor_rule.specs.Views.{both_lists}
use Rattle.room_parts.specs.Recs.{AllFrom, IsBackedByItself, IsOfCard, entries_of}

get_front : {A : Type 0} (xs r : List A) (k : ℕ) (a : A) → slice_get xs k ≡ Some a → slice_get (xs ++ r) k ≡ Some a
get_front [] r k a h = absurd (cc)
get_front (x ∷ xs) r zero a h = h
get_front (x ∷ xs) r (suc k) a h = get_front xs r k a h

pub stands_more : {A : Type 0} (ps qs : List (ℕ × List A)) (j i : ℕ) (a : A) → Stands qs j i a → Stands (ps ++ qs) j i a
stands_more [] qs j i a h = h
stands_more (p ∷ ps) qs j i a h = inr (stands_more ps qs j i a h)

stands_grown : (s : ℕ) (log : List Marked) (e : Marked) (ps : List (ℕ × List Marked)) (j i : ℕ) (c : Marked) → Stands ((s, log) ∷ ps) j i c → Stands ((s, log ++ e ∷ []) ∷ ps) j i c
stands_grown s log e ps j i c (inl t) = inl (t.0, get_front log (e ∷ []) i c t.1)
stands_grown s log e ps j i c (inr t) = inr t

stands_told : (s : ℕ) (log : List Marked) (qs ps : List (ℕ × List Marked)) (j i : ℕ) (c : Marked) → Stands ((s, log) ∷ ps) j i c → Stands ((s, log) ∷ (qs ++ ps)) j i c
stands_told s log qs ps j i c (inl t) = inl t
stands_told s log qs ps j i c (inr t) = inr (stands_more qs ps j i c t)

backed_by : (s t : List (ℕ × List Marked)) (a b : List (ℕ × List Made)) → ((j i : ℕ) (c : Marked) → Stands s j i c → Stands t j i c) → ((p n : ℕ) (c : Made) → Stands a p n c → Stands b p n c)
    → (j : ℕ) (e : Entry) (m : EntryMark) → IsBacked (Stands s) (Stands a) j e m → IsBacked (Stands t) (Stands b) j e m
backed_by s t a b more made j e (mark.Called state hw caller number count) h = (h.0, made caller number h.0 h.1, h.2, h.3)
backed_by s t a b more made j e (mark.Caused state hw sub place) h = (h.0, more sub.0 place h.0 h.1, h.2)

all_from : (n : ℕ) (s t : List (ℕ × List Marked)) (a b : List (ℕ × List Made)) → ((j i : ℕ) (c : Marked) → Stands s j i c → Stands t j i c) → ((p k : ℕ) (c : Made) → Stands a p k c → Stands b p k c)
    → (j : ℕ) (es : List Marked) → AllFrom n s a j es → AllFrom n t b j es
all_from n s t a b more made j [] h = tt
all_from n s t a b more made j (e ∷ es) h = (backed_by s t a b more made j e.entry e.mark h.0, h.1, all_from n s t a b more made j es h.2)

from_push : (n : ℕ) (s : List (ℕ × List Marked)) (a : List (ℕ × List Made)) (j : ℕ) (es : List Marked) (e : Marked) → AllFrom n s a j es → IsBacked (Stands s) (Stands a) j e.entry e.mark → IsOfCard n e.mark → AllFrom n s a j (es ++ e ∷ [])
from_push n s a j [] e h b card = (b, card, tt)
from_push n s a j (x ∷ es) e h b card = (h.0, h.1, from_push n s a j es e h.2 b card)

pub entered : (n : ℕ) (r : RecKnows) (e : Marked) → IsBackedByItself n r → MayEnter r e → IsOfCard n e.mark → IsBackedByItself n (with_entry r e)
entered n r e h may card =
    let before : List (ℕ × List Marked) = (r.sub, r.log) ∷ r.held.logs in
    let now : List (ℕ × List Marked) = (r.sub, r.log ++ e ∷ []) ∷ r.held.logs in
    let grown = stands_grown r.sub r.log e r.held.logs in
    from_push n now r.held.calls r.sub r.log e
    (all_from n before now r.held.calls r.held.calls grown (λ p k c a. a) r.sub r.log h)
    (backed_by before now r.held.calls r.held.calls grown (λ p k c a. a) r.sub e.entry e.mark may)
    card

pub heard : (n : ℕ) (r : RecKnows) (l : Lists) → IsBackedByItself n r → IsBackedByItself n (record r { held = both_lists l r.held })
heard n r l h =
    all_from n ((r.sub, r.log) ∷ r.held.logs) ((r.sub, r.log) ∷ (l.logs ++ r.held.logs)) r.held.calls (l.calls ++ r.held.calls)
    (stands_told r.sub r.log l.logs r.held.logs) (stands_more l.calls r.held.calls) r.sub r.log h

pub entries_push : (log : List Marked) (e : Marked) → entries_of (log ++ e ∷ []) ≡ entries_of log ++ e.entry ∷ []
entries_push [] e = refl
entries_push (x ∷ log) e = ap (λ l. x.entry ∷ l) (entries_push log e)

-- after a call: the log has one entry more, and more is held
pub entered_after : (n : ℕ) (r now : RecKnows) (e : Marked) → now.sub ≡ r.sub → now.log ≡ r.log ++ e ∷ [] → HoldsMore r.held now.held → IsBackedByItself n r → MayEnter now e → IsOfCard n e.mark → IsBackedByItself n now
entered_after n r now e sub log more h may card =
    let lists : List (ℕ × List Marked) = (now.sub, now.log) ∷ now.held.logs in
    let old = all_from n ((r.sub, r.log) ∷ r.held.logs) lists r.held.calls now.held.calls held more.calls r.sub r.log h in
    let here : AllFrom n lists now.held.calls now.sub r.log = subst (λ j. AllFrom n lists now.held.calls j r.log) (sym sub) old in
    subst (AllFrom n lists now.held.calls now.sub) (sym log) (from_push n lists now.held.calls now.sub r.log e here may card)
  where
    held : (j i : ℕ) (c : Marked) → Stands ((r.sub, r.log) ∷ r.held.logs) j i c → Stands ((now.sub, now.log) ∷ now.held.logs) j i c
    held j i c (inl t) = inl (sub ∙ t.0, subst (λ l. slice_get l i ≡ Some c) (sym log) (get_front r.log (e ∷ []) i c t.1))
    held j i c (inr t) = inr (more.logs j i c t)

pub stands_first : {A : Type 0} → (ps qs : List (ℕ × List A)) (j i : ℕ) (a : A) → Stands ps j i a → Stands (ps ++ qs) j i a
stands_first [] qs j i a h = absurd h
stands_first (p ∷ ps) qs j i a (inl t) = inl t
stands_first (p ∷ ps) qs j i a (inr t) = inr (stands_first ps qs j i a t)

-- a rec that was told more holds more
pub holds_told : (l : Lists) (before : Lists) → HoldsMore before (both_lists l before)
holds_told l before = record { logs = λ j i e h. stands_more l.logs before.logs j i e h; calls = λ p n c h. stands_more l.calls before.calls p n c h }
