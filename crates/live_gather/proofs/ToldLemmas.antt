-- What the logs and the passes of a floor at rest tell each other.
use Rattle.std.proofs.Common.{◌≡◌, ℕ, zero, suc, List, [], ◌∷◌, ◌++◌, slice_get, Some, refl, subst}
use Rattle.std.proofs.lemmas.Option.{same_Some}
use Rattle.floor_rule.specs.declared.entry.Entry.{Entry}
use Rattle.floor_rule.specs.declared.entry.EntryMark.{EntryMark}
use Rattle.floor_rule.specs.declared.entry.EntryMark.TheVariants as mark
use Rattle.floor_rule.specs.declared.rule.Lists.{Lists}
use Rattle.floor_rule.specs.declared.rule.Made.{Made}
use Rattle.floor_rule.specs.declared.rule.Marked.{Marked}
use Rattle.floor_rule.specs.declared.rule.PassKnows.{PassKnows}
use Rattle.floor_rule.specs.declared.rule.Reading.{Reading}
use Rattle.floor_rule.specs.declared.rule.RecKnows.{RecKnows}
use Rattle.floor_rule.specs.Causes.{AllOwn, IsBacked}
use Rattle.floor_rule.specs.Laws.{StandsInLog}
use Rattle.floor_rule.specs.Lists.{AllOf, Stands}
use Rattle.floor_rule.specs.Pages.{AllReadOf}
use Rattle.floor_rule.specs.Steps.{IsConfirmed, KnowsOwn, told_by_rec}
use Rattle.floor_rule.specs.Views.{both_lists}
use Rattle.room_parts.specs.Recs.{AllFrom, IsBackedByItself, IsOfCard}
use Rattle.live_gather.specs.Pieces.{log_of}
use Rattle.live_gather.specs.Told.{Agrees, IsFound, IsFoundIn, IsTold, OwnsIn}

first_of : {A : Type 0} (j : ℕ) (P : List A → Type 0) (ps qs : List (ℕ × List A)) → AllOf j P (ps ++ qs) → AllOf j P ps
first_of j P [] qs h = tt
first_of j P (p ∷ ps) qs h = (h.0, first_of j P ps qs h.1)

pub first_read : (j : ℕ) (log : List Marked) (rs qs : List Reading) → AllReadOf j log (rs ++ qs) → AllReadOf j log rs
first_read j log [] qs h = tt
first_read j log (r ∷ rs) qs h = (h.0, first_read j log rs qs h.1)

-- a rec that was told of these lists and has confirmed them
pub confirmed : (r : RecKnows) (told : Lists) → IsConfirmed (record r { held = both_lists told r.held }) → Agrees told (log_of r)
confirmed r told h = record {
  lists = first_of r.sub _ told.logs r.held.logs h.lists;
  pages = first_read r.sub r.log told.reads r.held.reads h.reads;
  once = h.once;
}

-- what a rec tells
pub told_of : (n : ℕ) (r : RecKnows) → IsBackedByItself n r → IsTold n (log_of r) (told_by_rec r)
told_of n r h = record { rest = r.held.logs; logs = refl; from = h }

-- a pass that was told a log, and has looked
pub own_first : (n : ℕ) (p : PassKnows) (l : ℕ × List Marked) (told : Lists) → IsTold n l told → KnowsOwn (record p { held = both_lists told p.held }) → OwnsIn p.number p.calls l
own_first n p l told t k =
    let own : AllOwn p.number p.calls ((l ∷ t.rest) ++ p.held.logs) = subst (λ (ls : List (ℕ × List Marked)). AllOwn p.number p.calls (ls ++ p.held.logs)) t.logs k.own in
    own.0

-- what backs the entry at a place
from_at : (n : ℕ) (logs : List (ℕ × List Marked)) (calls : List (ℕ × List Made)) (j : ℕ) (es : List Marked) (i : ℕ) (e : Marked) → AllFrom n logs calls j es → slice_get es i ≡ Some e
    → IsBacked (Stands logs) (Stands calls) j e.entry e.mark × IsOfCard n e.mark
from_at n logs calls j [] i e h at = absurd (cc)
from_at n logs calls j (x ∷ es) zero e h at = subst (λ (y : Marked). IsBacked (Stands logs) (Stands calls) j y.entry y.mark × IsOfCard n y.mark) (same_Some x e at) (h.0, h.1)
from_at n logs calls j (x ∷ es) (suc i) e h at = from_at n logs calls j es i e h.2 at

found_by : StandsInLog → (n j : ℕ) (told : Lists) (l : ℕ × List Marked) → Agrees told l → (e : Entry) (m : EntryMark) → IsBacked (Stands told.logs) (Stands told.calls) j e m → IsOfCard n m → IsFound n j e m l
found_by in_log n j told l a e (mark.Called state hw caller number count) b card = (b.0.event, b.3)
found_by in_log n j told l a e (mark.Caused state hw sub place) b card =
    (card, λ same. (b.0, in_log l.0 place b.0 l.1 told.logs a.lists (subst (λ s. Stands told.logs s place b.0) same b.1), b.2))

-- a log that agrees with what another tells has the causes of its entries
pub found_in : StandsInLog → (n : ℕ) (k l : ℕ × List Marked) (told : Lists) → IsTold n k told → Agrees told l → IsFoundIn n k l
found_in in_log n k l told t a i e at =
    let by = from_at n told.logs told.calls k.0 k.1 i e t.from at in
    found_by in_log n k.0 told l a e.entry e.mark by.0 by.1
