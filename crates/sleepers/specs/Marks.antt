-- The calls in progress as the model has them: the waiting calls of a stream, and beside them the clients that are marked asleep.
use Rattle.std.specs.Prelude.{◌≡◌, ℕ, Bool, true, false, List, ◌∷◌, map, All}
use Rattle.pcm_base.specs.declared.ids.ClientId.{ClientId}
use Rattle.pcm_base.specs.declared.sleeper.Sleeper.{Sleeper}
use Rattle.pcm_base.specs.model.Sleep.{is_among, mask_of, sleepers_that, without_client}
use Rattle.pcm_base.specs.model.Stream.{Stream, Waiting}

-- the calls without their marks
abbrev pub waiting : List Sleeper → List Waiting
waiting xs = map (λ x. record { client = x.client; task = x.task }) xs

-- these clients are marked, among those that have a call here, exactly where their calls are asleep
abbrev pub AreMarks : List ClientId → List Sleeper → Type 0
AreMarks marks xs = All (λ x. is_among x.client marks ≡ x.asleep) xs

-- the marks once the client's call is asleep or awake
abbrev pub marks_with : ClientId → Bool → List ClientId → List ClientId
marks_with c true marks = c ∷ without_client c marks
marks_with c false marks = without_client c marks

-- a check as the model makes it: the mask is that of the clients that it wakes, the marks are those that it leaves, and the calls stay
pub record IsModelCheck (group_drains : Bool) (s : Stream) (marks : List ClientId) (old new : List Sleeper) (mask : ℕ) : Type 0 where
  pub mask_is : mask ≡ mask_of (sleepers_that false group_drains s marks (waiting old))
  pub marks_are : AreMarks (sleepers_that true group_drains s marks (waiting old)) new
  pub calls : waiting new ≡ waiting old
