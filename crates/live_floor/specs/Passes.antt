-- The passes of a floor. This project's own.
use Rattle.std.specs.Prelude.{◌≡◌, ℕ, ◌+◌, ◌<◌, List, [], length, slice_get}
use Rattle.std.specs.declared.option.Option.TheVariants.{Some, None}
use Rattle.pcm_base.specs.declared.call.Call.TheVariants as call
use Rattle.pcm_base.specs.declared.call.Event.{Event}
use Rattle.pcm_base.specs.declared.ids.SubId.{SubId}
use Rattle.floor_rule.specs.Views.{no_lists}
use Rattle.room_parts.specs.Passes.{PassView}
use Rattle.room_parts.specs.declared.pass.Caller.{Caller}
use Rattle.room_parts.specs.declared.pass.Caller.TheVariants.{Card, Client}

-- a pass of this number, which has made no call and was told of nothing
abbrev pub new_pass : ℕ → Caller → PassView
new_pass n c = record { knows = record { number = n; calls = []; receipts = []; reads = []; held = no_lists }; caller = c; busy = None }

-- new passes of the first clients, so many, in order
abbrev pub OfClients : ℕ → List PassView → Type 0
OfClients n ps = (length ps ≡ n) × ((i : ℕ) → i < n → slice_get ps i ≡ Some (new_pass i (Client (record { 0 = i }))))

-- new passes of the first cards, behind those of the 16 clients
abbrev pub OfCards : ℕ → List PassView → Type 0
OfCards n ps = (length ps ≡ n) × ((j : ℕ) → j < n → slice_get ps j ≡ Some (new_pass (16 + j) (Card (record { 0 = j }))))

-- the event carries on the call in progress on k
abbrev pub IsGoOf : SubId → Event → Type 0
IsGoOf k e = (e.call ≡ call.Go) × (e.sub ≡ k)
