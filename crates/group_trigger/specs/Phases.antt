-- How far each member of a group is in an act.
use Rattle.std.specs.Prelude.{◌≡◌, ℕ, zero, suc, Bool, true, false, nat_eq, nat_lt, List, [], ◌∷◌, ◌<◌, ◌≤◌, slice_get, if◌then◌else◌}
use Rattle.std.specs.declared.option.Option.TheVariants.{Some, None}
use Rattle.pcm_base.specs.declared.act.Act.{Act}
use Rattle.pcm_base.specs.declared.act.Outcome.TheVariants as outcome
use Rattle.pcm_base.specs.declared.act.Vote.TheVariants as vote
use Rattle.pcm_base.specs.declared.card.Card.{Ghosts}
use Rattle.pcm_base.specs.declared.state.Errno.{Errno}
use Rattle.pcm_base.specs.Causes.{Rose}
use Rattle.pcm_base.specs.model.Acts.{pre, asks, trips, asked, after}
use Rattle.pcm_base.specs.model.Stream.{Stream, Member as ModelMember}
use Rattle.pcm_stream.specs.declared.members.Member.{Member}
use Rattle.pcm_stream.specs.declared.substream.Substream.{Substream}
use Rattle.pcm_stream.specs.MembersStand.{IsMember}
use Rattle.pcm_stream.specs.StandsFor.{StandsFor, HasDone, tells_plan}

-- as before the act; its card has done its part; as before, but for a plan that has moved on; the act is made
pub data Phase : Type 0 where
  Before : Phase
  Did : Phase
  Undone : Phase
  Made : Phase

abbrev pub StandsIn : {C : Type 0} {g : Ghosts C} → Act → Phase → Substream C g → Stream → Type 0
StandsIn a Before sub s = StandsFor sub s
StandsIn a Did sub s = HasDone a sub s
StandsIn a Undone sub s = StandsFor sub (asked s a)
StandsIn a Made sub s = StandsFor sub (after a vote.Yes outcome.Done s)

-- each member is in the phase of its place
abbrev pub AllStandIn : {C : Type 0} {g : Ghosts C} → Act → (ℕ → Phase) → List (Member C g) → List ModelMember → Type 0
AllStandIn a p [] [] = Unit {0}
AllStandIn a p [] (x ∷ xs) = ⊥
AllStandIn a p (m ∷ ms) [] = ⊥
AllStandIn a p (m ∷ ms) (x ∷ xs) = IsMember m.sub m.sleepers x × StandsIn a (p 0) m.stream x.stream × AllStandIn a (λ i. p (suc i)) ms xs

-- one phase for all
abbrev pub all_in : Phase → ℕ → Phase
all_in p i = p

-- the first k members are in one phase, the others in another
abbrev pub first_in : Phase → ℕ → Phase → ℕ → Phase
first_in p k q i = if nat_lt i k then p else q

-- the card of the member at place k failed, those before it have done their part
abbrev pub failed_at : ℕ → ℕ → Phase
failed_at k i = if nat_lt i k then Did else if nat_eq i k then Undone else Before

-- and the first j of these are undone
abbrev pub undone_to : ℕ → ℕ → ℕ → Phase
undone_to j k i = if nat_lt i j then Undone else failed_at k i

-- a fact of each member before place k, and of the one at it
abbrev pub AllBefore : {M : Type 0} → (M → Type 0) → ℕ → List M → Type 0
AllBefore {M} P k ms = (i : ℕ) (m : M) → i < k → slice_get ms i ≡ Some m → P m

abbrev pub HoldsAt : {M : Type 0} → (M → Type 0) → ℕ → List M → Type 0
HoldsAt {M} P k ms = (m : M) → slice_get ms k ≡ Some m → P m

-- the member refuses the act, or allows it
abbrev pub Refuses : {C : Type 0} {g : Ghosts C} → Act → Errno → Member C g → Type 0
Refuses a e m = (s : Stream) → StandsFor m.stream s → pre s a ≡ Some e

abbrev pub Allows : {C : Type 0} {g : Ghosts C} → Act → Member C g → Type 0
Allows a m = (s : Stream) → StandsFor m.stream s → pre s a ≡ None

-- its card fails to make the act, or makes it
abbrev pub Fails : {C : Type 0} {g : Ghosts C} → Act → Member C g → Type 0
Fails a m = (s : Stream) → StandsFor m.stream s → (asks s a ≡ true) × (tells_plan m.stream ≡ true → trips s a ≡ true)

abbrev pub Makes : {C : Type 0} {g : Ghosts C} → Act → Member C g → Type 0
Makes a m = (s : Stream) → StandsFor m.stream s → tells_plan m.stream ≡ true → trips s a ≡ false

-- Of these counts of faults, before and after, that at place k rose, and no other.
abbrev pub RoseAt : ℕ → List ℕ → List ℕ → Type 0
RoseAt k [] [] = ⊥
RoseAt k [] (n ∷ ns) = ⊥
RoseAt k (b ∷ bs) [] = ⊥
RoseAt zero (b ∷ bs) (n ∷ ns) = (b ≤ n) × Rose b n × (ns ≡ bs)
RoseAt (suc k) (b ∷ bs) (n ∷ ns) = (n ≡ b) × RoseAt k bs ns
