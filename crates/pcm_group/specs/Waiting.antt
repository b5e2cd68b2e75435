-- The wake check over the members of a group, and who is left asleep.
use Rattle.std.specs.Prelude.{◌≡◌, ℕ, zero, suc, Bool, true, false, not, ◌&&◌, ◌||◌, nat_eq, List, All, [], ◌∷◌, ◌++◌, map}
use Rattle.pcm_base.specs.declared.call.Call.{Call}
use Rattle.pcm_base.specs.declared.call.Call.TheVariants as call
use Rattle.pcm_base.specs.declared.card.Card.{Ghosts}
use Rattle.pcm_base.specs.declared.ids.ClientId.{ClientId}
use Rattle.pcm_base.specs.declared.ids.SubId.{SubId}
use Rattle.pcm_base.specs.declared.sleeper.Sleeper.{Sleeper}
use Rattle.pcm_base.specs.model.Sleep.{group_drains, is_among, may_wait, sleepers_that}
use Rattle.pcm_base.specs.model.Stream.{Stream, Waiting, Member as ModelMember}
use Rattle.pcm_stream.specs.declared.members.Member.{Member}
use Rattle.pcm_stream.specs.StandsFor.{StandsFor}
use Rattle.sleepers.specs.Clients.{has_client}

-- each of these calls that is marked asleep may wait
abbrev pub calls_wait : Bool → Stream → List ClientId → List Waiting → Bool
calls_wait g s marks [] = true
calls_wait g s marks (p ∷ ps) = (not (is_among p.client marks) || may_wait g s p.task) && calls_wait g s marks ps

-- and so on every member, where the test tells whether the group drains
abbrev pub members_wait : Bool → List ModelMember → Bool
members_wait g [] = true
members_wait g (x ∷ xs) = calls_wait g x.stream x.asleep x.stream.sleepers && members_wait g xs

-- in this group
abbrev pub all_wait : List ModelMember → Bool
all_wait xs = members_wait (group_drains xs) xs

-- a member after the wake check, and the clients that the check wakes there
abbrev pub woken_member : Bool → ModelMember → ModelMember
woken_member g x = record x { asleep = sleepers_that true g x.stream x.asleep x.stream.sleepers }

abbrev pub woken_at : Bool → ModelMember → List ClientId
woken_at g x = sleepers_that false g x.stream x.asleep x.stream.sleepers

-- the members after the check of the first k of them
abbrev pub checked_first : ℕ → Bool → List ModelMember → List ModelMember
checked_first zero g xs = xs
checked_first (suc k) g [] = []
checked_first (suc k) g (x ∷ xs) = woken_member g x ∷ checked_first k g xs

-- the clients that are woken on the first k
abbrev pub woken_first : ℕ → Bool → List ModelMember → List ClientId
woken_first zero g xs = []
woken_first (suc k) g [] = []
woken_first (suc k) g (x ∷ xs) = woken_at g x ++ woken_first k g xs

-- the calls in progress on each member
abbrev pub calls_of : {C : Type 0} {g : Ghosts C} → List (Member C g) → List (List Sleeper)
calls_of ms = map (λ m. m.sleepers) ms

-- The substreams stand for the members' streams.
abbrev pub StreamsStandFor : {C : Type 0} {g : Ghosts C} → List (Member C g) → List ModelMember → Type 0
StreamsStandFor [] [] = Unit {0}
StreamsStandFor [] (x ∷ xs) = ⊥
StreamsStandFor (m ∷ ms) [] = ⊥
StreamsStandFor (m ∷ ms) (x ∷ xs) = StandsFor m.stream x.stream × StreamsStandFor ms xs

-- no call of the client is in progress on these
abbrev pub is_free : ClientId → List (List Sleeper) → Bool
is_free c [] = true
is_free c (l ∷ ls) = not (has_client c l) && is_free c ls

-- and on these but the one at the place
abbrev pub is_free_but : ℕ → ClientId → List (List Sleeper) → Bool
is_free_but i c [] = true
is_free_but zero c (l ∷ ls) = is_free c ls
is_free_but (suc i) c (l ∷ ls) = not (has_client c l) && is_free_but i c ls

-- the client of an event of the member at the place has no call in progress, but on that member the one that goes on
abbrev pub is_free_for : Call → ℕ → ClientId → List (List Sleeper) → Bool
is_free_for call.Go i c ls = is_free_but i c ls
is_free_for _ i c ls = is_free c ls

-- j is the member that the client's own call to go on names
abbrev pub is_its_own : Call → SubId → SubId → Bool
is_its_own call.Go k j = nat_eq j.0 k.0
is_its_own _ k j = false

-- The client has no call in progress on these members, but on the one that its own Go names.
abbrev pub IsFreeFor : {C : Type 0} {g : Ghosts C} → Call → SubId → ClientId → List (Member C g) → Type 0
IsFreeFor e k c ms = All (λ m. is_its_own e k m.sub ≡ false → has_client c m.sleepers ≡ false) ms
