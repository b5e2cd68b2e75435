-- What a contract sees of a pass. This project's own.
use Rattle.std.specs.Prelude.{◌≡◌, ◌⊎◌, ℕ, suc, ◌<◌, ◌≤◌, true, List, [], ◌∷◌, length}
use Rattle.std.specs.declared.option.Option.{Option}
use Rattle.std.specs.declared.option.Option.TheVariants.{Some, None}
use Rattle.pcm_base.specs.declared.call.Call.{Call}
use Rattle.pcm_base.specs.declared.call.Call.TheVariants as call
use Rattle.pcm_base.specs.declared.call.Event.{Event}
use Rattle.pcm_base.specs.declared.ids.ClientId.{ClientId}
use Rattle.pcm_base.specs.declared.ids.SubId.{SubId}
use Rattle.pcm_base.specs.declared.reply.Reply.{Reply}
use Rattle.pcm_base.specs.declared.reply.Reply.TheVariants as reply
use Rattle.floor_rule.specs.declared.entry.Entry.{Entry}
use Rattle.floor_rule.specs.declared.entry.Entry.TheVariants as entry
use Rattle.floor_rule.specs.declared.rule.Made.{Made}
use Rattle.floor_rule.specs.declared.rule.Marked.{Marked}
use Rattle.floor_rule.specs.declared.rule.PassKnows.{PassKnows}
use Rattle.floor_rule.specs.Lists.{Stands}
use Rattle.floor_rule.specs.Marks.{is_call}
use Rattle.room_parts.specs.declared.pass.Caller.{Caller}
use Rattle.room_parts.specs.declared.pass.Caller.TheVariants.{Client, Card}

-- what the seat knows, whose calls they are, and on which substream a call is in progress
pub record PassView : Type 0 where
  pub knows : PassKnows
  pub caller : Caller
  pub busy : Option SubId

-- a card's events have no client
abbrev pub client_of : Caller → Option ClientId
client_of (Client c) = Some c
client_of (Card k) = None

-- the event is one of this caller's
abbrev pub IsBy : Caller → Event → Type 0
IsBy (Client c) e = e.client ≡ Some c
IsBy (Card k) e = (e.client ≡ None) × (e.sub ≡ k)

abbrev pub AllBy : Caller → List Made → Type 0
AllBy c [] = Unit {0}
AllBy c (m ∷ ms) = IsBy c m.event × AllBy c ms

-- the calls from k on have their entries at these receipts, in the lists that the pass holds
abbrev pub AllStand : List (ℕ × List Marked) → ℕ → ℕ → List (ℕ × ℕ) → Type 0
AllStand logs number k [] = Unit {0}
AllStand logs number k (r ∷ rs) = ((e : Marked) × Stands logs r.0 r.1 e × (is_call number k e.mark ≡ true)) × AllStand logs number (suc k) rs

-- the receipts of these calls are in the logs of their substreams, each one of so many cards
abbrev pub AllAtSubs : ℕ → List Made → List (ℕ × ℕ) → Type 0
AllAtSubs cards [] rs = Unit {0}
AllAtSubs cards (c ∷ cs) [] = Unit {0}
AllAtSubs cards (c ∷ cs) (r ∷ rs) = (r.0 ≡ c.event.sub.0) × (r.0 < cards) × AllAtSubs cards cs rs

-- a call that was answered Asleep is in progress

abbrev pub asleep_on : SubId → Reply → Option SubId
asleep_on k reply.Asleep = Some k
asleep_on k _ = None

abbrev pub busy_after : Entry → Option SubId
busy_after (entry.Own event bytes joints r s) = asleep_on event.sub r
busy_after _ = None

-- this is where the entry at the last of the receipts leaves the pass
abbrev pub IsBusy : List (ℕ × List Marked) → Option SubId → List (ℕ × ℕ) → Type 0
IsBusy logs busy [] = busy ≡ None
IsBusy logs busy (r ∷ []) = (e : Marked) × Stands logs r.0 r.1 e × (busy ≡ busy_after e.entry)
IsBusy logs busy (r ∷ q ∷ rs) = IsBusy logs busy (q ∷ rs)

-- a link of a second that is one of so many cards has an entry in the log of that one too
abbrev pub IsLinked : ℕ → List (ℕ × List Marked) → ℕ → ℕ → Call → Type 0
IsLinked cards logs number k (call.Link second) = second.0 < cards → (i : ℕ) × (e : Marked) × Stands logs second.0 i e × (is_call number k e.mark ≡ true)
IsLinked cards logs number k _ = Unit {0}

abbrev pub AllLinked : ℕ → List (ℕ × List Marked) → ℕ → ℕ → List Made → Type 0
AllLinked cards logs number k [] = Unit {0}
AllLinked cards logs number k (c ∷ cs) = IsLinked cards logs number k c.event.call × AllLinked cards logs number (suc k) cs

-- a call that names no card but j
abbrev pub IsAlone : ℕ → ℕ → Call → Type 0
IsAlone cards j (call.Link second) = (second.0 ≡ j) ⊎ (cards ≤ second.0)
IsAlone cards j _ = Unit {0}

-- Between two calls of a pass: each call is its caller's and has its receipt, and what it says of the entries stands in the lists that the pass holds.
pub record PassStands (cards : ℕ) (caller : Caller) (busy : Option SubId) (p : PassKnows) : Type 0 where
  pub by : AllBy caller p.calls
  pub idle : length p.calls ≡ length p.receipts
  pub stand : AllStand p.held.logs p.number 0 p.receipts
  pub at_subs : AllAtSubs cards p.calls p.receipts
  pub busy_is : IsBusy p.held.logs busy p.receipts
  pub linked : AllLinked cards p.held.logs p.number 0 p.calls
