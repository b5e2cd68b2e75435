-- What a pass has called, each call with the bytes that it was handed. This project's own.
use Rattle.std.specs.Prelude.{◌≡◌, ⊤, ℕ, true, List, [], ◌∷◌, ◌++◌, length, map, slice_get}
use Rattle.std.specs.declared.option.Option.TheVariants.{Some}
use Rattle.pcm_base.specs.declared.call.Call.{Call as CoreCall}
use Rattle.pcm_base.specs.declared.call.Call.TheVariants.{Link, Unlink}
use Rattle.pcm_base.specs.declared.call.Event.{Event}
use Rattle.pcm_base.specs.declared.config.CardModel.{CardModel}
use Rattle.pcm_base.specs.declared.reply.Reply.{Reply}
use Rattle.pcm_base.specs.declared.state.Dir.{Dir}
use Rattle.floor_rule.specs.Lists.{Stands}
use Rattle.floor_rule.specs.Marks.{is_call}
use Rattle.floor_rule.specs.Steps.{HoldsMore}
use Rattle.floor_rule.specs.declared.rule.Made.{Made}
use Rattle.floor_rule.specs.declared.rule.Marked.{Marked}
use Rattle.floor_rule.specs.declared.rule.PassKnows.{PassKnows}
use Rattle.room_parts.specs.Passes.{PassView}
use Rattle.room_lock.specs.Handed.{IsHanded}
use Rattle.room_lock.specs.Known.{IsEntryOf}

-- a call, and the bytes that it was handed
pub record Call : Type 0 where
  pub event : Event
  pub io : List ℕ

abbrev pub as_made : Call → Made
as_made c = record { event = c.event; count = length c.io }

-- a link and an unlink move no bytes
abbrev pub MovesBytes : CoreCall → Type 0
MovesBytes (Link second) = ⊥
MovesBytes Unlink = ⊥
MovesBytes _ = ⊤

-- the entries of this log of substream j stand in the lists
abbrev pub AllStandIn : List (ℕ × List Marked) → ℕ → List Marked → Type 0
AllStandIn logs j log = (i : ℕ) (e : Marked) → slice_get log i ≡ Some e → Stands logs j i e

-- A call that moves bytes was handed its own at this receipt, in a log whose entries the pass was told of. A link and an unlink are handed none.
abbrev pub HandedIn : List (CardModel × Dir) → ℕ → Call → ℕ × ℕ → PassKnows → Type 0
HandedIn cards long_max c r p = MovesBytes c.event.call → (log : List Marked) × AllStandIn p.held.logs c.event.sub.0 log × IsHanded cards long_max c.event.sub log r.1 c.io

-- each of the calls, at the receipt in its place
abbrev pub AllHandedIn : List (CardModel × Dir) → ℕ → List Call → List (ℕ × ℕ) → PassKnows → Type 0
AllHandedIn cards long_max [] [] p = ⊤
AllHandedIn cards long_max [] (r ∷ receipts) p = ⊥
AllHandedIn cards long_max (c ∷ calls) [] p = ⊥
AllHandedIn cards long_max (c ∷ calls) (r ∷ receipts) p = HandedIn cards long_max c r p × AllHandedIn cards long_max calls receipts p

-- the pass is whose it was
abbrev pub IsSameCaller : PassView → PassView → Type 0
IsSameCaller p q = (q.caller ≡ p.caller) × (q.knows.number ≡ p.knows.number)

-- Between p and q the pass has made these calls and no other, each has its receipt, and what stood in the lists that the pass held stands there still.
pub record HasCalled (cards : List (CardModel × Dir)) (long_max : ℕ) (calls : List Call) (p q : PassView) : Type 0 where
  pub made : q.knows.calls ≡ p.knows.calls ++ map as_made calls
  pub receipts : List (ℕ × ℕ)
  pub received : q.knows.receipts ≡ p.knows.receipts ++ receipts
  pub handed : AllHandedIn cards long_max calls receipts q.knows
  pub held : HoldsMore p.knows.held q.knows.held
  pub same : IsSameCaller p q

-- This is call n of the pass, and an entry of it that the pass was told of has this reply.
pub record WasAnswered (n : ℕ) (c : Call) (reply : Reply) (p : PassKnows) : Type 0 where
  pub made : slice_get p.calls n ≡ Some (as_made c)
  pub place : ℕ
  pub entry : Marked
  pub stands : Stands p.held.logs c.event.sub.0 place entry
  pub call : is_call p.number n entry.mark ≡ true
  pub tells : IsEntryOf c.event reply entry.entry
