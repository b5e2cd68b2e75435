-- What the workers of a run are to do, and what they have done. This project's own.
use Rattle.std.specs.Prelude.{◌≡◌, ◌<◌, ⊤, ℕ, Bool, true, false, List, [], length, slice_get, OnOk}
use Rattle.std.specs.List.{AllByRecursion}
use Rattle.std.specs.declared.option.Option.TheVariants.{Some, None}
use Rattle.pcm_base.specs.declared.config.CardModel.{CardModel}
use Rattle.pcm_base.specs.declared.ids.ClientId.{ClientId}
use Rattle.pcm_base.specs.declared.state.Dir.{Dir}
use Rattle.pcm_line.specs.declared.line.Line.{Line}
use Rattle.room_parts.specs.Passes.{PassView}
use Rattle.room_parts.specs.declared.pass.Caller.TheVariants as caller
use Rattle.live_plan.specs.declared.plan.Plan.{Plan}
use Rattle.live_plan.specs.Sound.{IsClientLine}
use Rattle.live_work.specs.Beats.{beats}
use Rattle.live_work.specs.Called.{HasCalled}
use Rattle.live_top.specs.Callers.{beats_in, lines_of}
use Rattle.live_top.specs.Passes.{HasMoved, HasWorked}
use Rattle.live_top.specs.declared.parts.Job.{Job}
use Rattle.live_top.specs.declared.parts.Part.{Part}
use Rattle.live_top.specs.declared.parts.Part.TheVariants.{Client, Card, Idle}
use Rattle.live_top.specs.declared.parts.Worked.{Worked}

-- a pass can do its part on so many cards: it is the client's, with no call in progress, or the card's
abbrev pub CanDo : ℕ → Part → PassView → Type 0
CanDo cards (Client c parker lines) p = AllByRecursion (IsClientLine cards c.0) lines.now × (p.caller ≡ caller.Client c) × (p.busy ≡ None)
CanDo cards (Card b) p = (b.sub.0 < cards) × (p.caller ≡ caller.Card b.sub)
CanDo cards Idle p = ⊤

-- the pass has done its part, to the end or not
abbrev pub DoesPart : List (CardModel × Dir) → ℕ → Bool → Part → PassView → PassView → Type 0
DoesPart cards long_max is_whole (Client c parker lines) p q = HasWorked cards long_max is_whole lines.now p q
DoesPart cards long_max is_whole (Card b) p q = HasMoved cards long_max is_whole (beats b.sub b.frames b.count) p q
DoesPart cards long_max is_whole Idle p q = HasCalled cards long_max [] p q

-- the part of a client: these lines, or nothing where there are none
abbrev pub IsOfLines : ClientId → List Line → Part → Type 0
IsOfLines c lines (Client d parker own) = (d ≡ c) × (own.now ≡ lines)
IsOfLines c lines (Card b) = ⊥
IsOfLines c lines Idle = lines ≡ []

-- the part of the client of this number in a plan: its lines
abbrev pub IsOfClient : Plan → ℕ → Part → Type 0
IsOfClient plan c part = IsOfLines (record { 0 = c }) (lines_of plan c) part

-- the part of the card of the substream of this number: its beats
abbrev pub IsOfCard : Plan → ℕ → Part → Type 0
IsOfCard plan k (Client c parker lines) = ⊥
IsOfCard plan k (Card b) = (b.sub ≡ record { 0 = k }) × (beats b.sub b.frames b.count ≡ beats_in k plan.beats.items)
IsOfCard plan k Idle = beats_in k plan.beats.items ≡ []

module _ {N : Type 0} where
  -- A worker has done its job where it ran to its end, and else the first of it.
  pub record HasDone (cards : List (CardModel × Dir)) (long_max : ℕ) (job : Job N) (worked : Worked N) : Type 0 where
    pub whole : OnOk worked.ran (DoesPart cards long_max true job.part job.pass worked.pass)
    pub first : DoesPart cards long_max false job.part job.pass worked.pass

  -- This pass has such a part of a plan, and can do it.
  pub record IsJobOf (cards : ℕ) (IsPart : Part → Type 0) (p : PassView) (job : Job N) : Type 0 where
    pub is : job.pass ≡ p
    pub part : IsPart job.part
    pub can : CanDo cards job.part job.pass

  -- each of the first passes, so many, has its job, in order
  abbrev pub AreJobs : ℕ → (ℕ → Part → Type 0) → ℕ → List PassView → List (Job N) → Type 0
  AreJobs cards IsPart n ps jobs = (length jobs ≡ n) × ((i : ℕ) (p : PassView) (job : Job N) → slice_get ps i ≡ Some p → slice_get jobs i ≡ Some job → IsJobOf cards (IsPart i) p job)
