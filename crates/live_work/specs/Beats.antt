-- The events of a card's worker. This project's own.
use Rattle.std.specs.Prelude.{ℕ, zero, suc, List, [], ◌∷◌, ◌++◌}
use Rattle.std.specs.declared.option.Option.TheVariants.{None}
use mathlib.Core.List.{IsPrefix}
use Rattle.pcm_base.specs.declared.call.Call.{Call as CoreCall}
use Rattle.pcm_base.specs.declared.call.Call.TheVariants.{MoveBy, Irq}
use Rattle.pcm_base.specs.declared.config.CardModel.{CardModel}
use Rattle.pcm_base.specs.declared.ids.SubId.{SubId}
use Rattle.pcm_base.specs.declared.state.Dir.{Dir}
use Rattle.room_parts.specs.Passes.{PassView}
use Rattle.live_work.specs.Called.{Call, HasCalled}

-- an event of the card, which is handed no bytes
abbrev pub by_card : SubId → CoreCall → Call
by_card k c = record { event = record { client = None; sub = k; call = c }; io = [] }

-- a movement of so many frames, then an interrupt
abbrev pub beat : SubId → ℕ → List Call
beat k frames = by_card k (MoveBy frames) ∷ by_card k Irq ∷ []

abbrev pub beats : SubId → ℕ → ℕ → List Call
beats k frames zero = []
beats k frames (suc count) = beats k frames count ++ beat k frames

-- the pass has made so many beats
abbrev pub HasBeaten : List (CardModel × Dir) → ℕ → SubId → ℕ → ℕ → PassView → PassView → Type 0
HasBeaten cards long_max k frames count p q = HasCalled cards long_max (beats k frames count) p q

-- events of so many beats, from the first on
abbrev pub HasBeatenFirst : List (CardModel × Dir) → ℕ → SubId → ℕ → ℕ → PassView → PassView → Type 0
HasBeatenFirst cards long_max k frames count p q = (calls : List Call) × IsPrefix calls (beats k frames count) × HasCalled cards long_max calls p q
