-- The members of a group as a list, and what the list is after one of them was lent.
use Rattle.std.specs.Prelude.{ℕ, Bool, true, not, ◌&&◌, List, [], ◌∷◌, map}
use Rattle.std.specs.Borrow.{Lends, MutBor, Fml, RattleType}
use Rattle.std.specs.Vec.{with_item}
use Rattle.std.specs.declared.option.Option.{Option}
use Rattle.pcm_base.specs.declared.card.Card.{Ghosts}
use Rattle.pcm_base.specs.declared.config.Shape.{Shape}
use Rattle.pcm_base.specs.declared.ids.SubId.{SubId}
use Rattle.pcm_base.specs.declared.sleeper.Sleeper.{Sleeper}
use Rattle.pcm_base.specs.model.Replay.{is_member}
use Rattle.pcm_stream.specs.declared.members.Member.{Member}
use Rattle.pcm_stream.specs.declared.members.Members.{Members}
use Rattle.pcm_stream.specs.contracts.members.Members.{the_row}
use Rattle.pcm_stream.specs.contracts.members.Member.{the_row as member_row}
use Rattle.pcm_stream.specs.StandsFor.{faults_of, shape_in, tells_plan}

-- the members, in link order
abbrev pub members_of : {C : Type 0} {g : Ghosts C} → Members C g → List (Member C g)
members_of ms = ms.items.items

-- the members with this one in the place of the i-th
abbrev pub with_member : {C : Type 0} {g : Ghosts C} → Members C g → ℕ → Member C g → Members C g
with_member ms i m = record { items = with_item ms.items i m; few = ms.few; room = ms.room }

module _ (C : RattleType) (g : Ghosts C.Denot) (ms : MutBor (Members C.Denot g)) where
  -- the members end with the last value behind r as the i-th
  abbrev pub LendsMember : ℕ → MutBor (Member C.Denot g) → Fml
  LendsMember i r = Lends (the_row C g) (member_row C g) ms r (with_member ms.now i)

-- the numbers of the members
abbrev pub numbers_of : {C : Type 0} {g : Ghosts C} → List (Member C g) → List SubId
numbers_of ms = map (λ m. m.sub) ms

-- no number comes twice
abbrev pub all_differ : List SubId → Bool
all_differ [] = true
all_differ (k ∷ ks) = not (is_member k ks) && all_differ ks

-- what no act changes of a member: its number, the calls in progress on it, the sizes of its configuration, and whether its card tells its fault plan
pub record Fixed : Type 0 where
  pub sub : SubId
  pub sleepers : List Sleeper
  pub shape : Option Shape
  pub tells : Bool

abbrev pub fixed_of : {C : Type 0} {g : Ghosts C} → Member C g → Fixed
fixed_of m = record { sub = m.sub; sleepers = m.sleepers; shape = shape_in m.stream; tells = tells_plan m.stream }

abbrev pub all_fixed : {C : Type 0} {g : Ghosts C} → List (Member C g) → List Fixed
all_fixed ms = map fixed_of ms

-- the counts of their cards' faults
abbrev pub all_faults : {C : Type 0} {g : Ghosts C} → List (Member C g) → List ℕ
all_faults ms = map (λ m. faults_of m.stream) ms
