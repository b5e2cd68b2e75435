-- A log that takes no more entries. This project's own.
use Rattle.std.specs.Prelude.{◌≡◌, ◌⊎◌, ℕ, List, [], ◌∷◌, ◌++◌, length, map}
use Rattle.pcm_base.specs.declared.ids.SubId.{SubId}
use Rattle.floor_rule.specs.Pages.{pack_at}
use Rattle.floor_rule.specs.Steps.{HoldsMore}
use Rattle.room_parts.specs.Passes.{PassView}
use Rattle.room_parts.specs.Recs.{RecView, sub_of, subs_of}
use Rattle.room_lock.specs.Joined.{HoldsAt}
use Rattle.room_lock.specs.Ready.{IsFull, ShortTo}
use Rattle.room_lock.specs.Turning.{logs_of}

abbrev pub places_of : List RecView → List ℕ
places_of rs = map (λ r. r.knows.place) rs

-- The first log without three entries free is that of sub, with this count: the pass has read its page, and nothing else has changed but that its lists may have gained.
pub record IsRefused (k : ℕ) (old now : List RecView) (p q : PassView) (sub : SubId) (count : ℕ) : Type 0 where
  pub first : IsFull k old
  pub whose : HoldsAt (λ r. (sub_of r ≡ sub) × (count ≡ length r.knows.log)) k old
  pub read : HoldsAt (λ r. q.knows.reads ≡ p.knows.reads ++ record { sub = sub.0; count = count; word = pack_at r.knows.log count } ∷ []) k old
  pub logs : logs_of now ≡ logs_of old
  pub subs : subs_of now ≡ subs_of old
  pub places : places_of now ≡ places_of old
  pub calls : (q.knows.number ≡ p.knows.number) × (q.knows.calls ≡ p.knows.calls) × (q.knows.receipts ≡ p.knows.receipts) × (q.caller ≡ p.caller) × (q.busy ≡ p.busy)
  pub held : HoldsMore p.knows.held q.knows.held

-- The same of two rooms, the first before the second: the recs of the other know what they did.
abbrev pub AreRefused : List RecView → List RecView → List RecView → List RecView → PassView → PassView → SubId → ℕ → Type 0
AreRefused old now old2 now2 p q sub count =
    ((k : ℕ) × IsRefused k old now p q sub count × (now2 ≡ old2)) ⊎ (ShortTo (length old) old × ((k : ℕ) × IsRefused k old2 now2 p q sub count) × (now ≡ old))

-- one of the two rooms has a log without three entries free
abbrev pub AreFull : List RecView → List RecView → Type 0
AreFull rs qs = ((k : ℕ) × IsFull k rs) ⊎ ((k : ℕ) × IsFull k qs)
