-- What the members of a group say to an act, where a card may keep its fault plan to itself.
use Rattle.std.specs.Prelude.{◌≡◌, ℕ, Bool, true, false, ◌&&◌, List, [], ◌∷◌, ◌++◌, length, replicate, map, ◌-◌, ◌≤◌}
use Rattle.pcm_base.specs.declared.act.Act.{Act}
use Rattle.pcm_base.specs.declared.act.Vote.{Vote}
use Rattle.pcm_base.specs.declared.act.Vote.TheVariants as vote
use Rattle.pcm_base.specs.declared.card.Card.{Ghosts}
use Rattle.pcm_base.specs.declared.votes.Acted.{Acted}
use Rattle.pcm_base.specs.Causes.{Rose}
use Rattle.pcm_base.specs.model.Acts.{asks, trips, is_refused, refusing, subs, decide}
use Rattle.pcm_base.specs.model.Stream.{Member as ModelMember}
use Rattle.pcm_stream.specs.declared.members.Member.{Member}
use Rattle.pcm_stream.specs.StandsFor.{tells_plan}

-- n votes: this one at place k, yes before it, unasked after it
abbrev pub votes_at : ℕ → ℕ → Vote → List Vote
votes_at n k v = replicate k vote.Yes ++ v ∷ replicate (n - k - 1) vote.Unasked

-- for each member, whether its card tells its fault plan
abbrev pub all_tell : {C : Type 0} {g : Ghosts C} → List (Member C g) → List Bool
all_tell ms = map (λ m. tells_plan m.stream) ms

-- each card tells its fault plan
abbrev pub all_true : List Bool → Bool
all_true [] = true
all_true (b ∷ bs) = b && all_true bs

-- What the members say where none refuses, and tells says whose card tells its fault plan: such a card fails exactly where its plan says so, and any other only where it is asked.
abbrev pub TriedBy : List Bool → Act → List ModelMember → List Vote → Type 0
TriedBy [] a [] [] = Unit {0}
TriedBy (t ∷ ts) a (m ∷ ms) (vote.Yes ∷ vs) = (t ≡ true → trips m.stream a ≡ false) × TriedBy ts a ms vs
TriedBy (t ∷ ts) a (m ∷ ms) (vote.Fail ∷ vs) = (asks m.stream a ≡ true) × (t ≡ true → trips m.stream a ≡ true) × (vs ≡ replicate (length ms) vote.Unasked)
TriedBy _ a _ _ = ⊥

-- what they say, where the test tells whether one refuses
abbrev pub VotedBy : Bool → List Bool → Act → List ModelMember → List Vote → Type 0
VotedBy true tells a ms vs = vs ≡ refusing a ms
VotedBy false tells a ms vs = TriedBy tells a ms vs

-- an act over these members, as they decide it
pub record IsActed (tells : List Bool) (a : Act) (ms : List ModelMember) (d : Acted) : Type 0 where
  pub act : d.act ≡ a
  pub votes : VotedBy (is_refused a ms) tells a ms d.votes
  pub outcome : d.outcome ≡ decide (subs ms) d.votes

-- The counts of faults, before and after: one rises only where its card failed.
abbrev pub FaultsBy : List Vote → List ℕ → List ℕ → Type 0
FaultsBy [] [] [] = Unit {0}
FaultsBy (vote.Fail ∷ vs) (b ∷ bs) (n ∷ ns) = (b ≤ n) × Rose b n × FaultsBy vs bs ns
FaultsBy (v ∷ vs) (b ∷ bs) (n ∷ ns) = (n ≡ b) × FaultsBy vs bs ns
FaultsBy _ _ _ = ⊥
