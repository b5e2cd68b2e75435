-- The stream that a substream stands for.
use Rattle.std.specs.Prelude.{◌≡◌, ◌%◌, ℕ, Bool, Result, Ok, Err}
use Rattle.std.specs.Option.{ForSome, ForNone, is_some, option_map}
use Rattle.std.specs.declared.option.Option.{Option}
use Rattle.std.specs.declared.option.Option.TheVariants.{Some, None}
use Rattle.pcm_base.specs.declared.act.Act.{Act}
use Rattle.pcm_base.specs.declared.card.Card.{Ghosts}
use Rattle.pcm_base.specs.declared.config.Config.{Config}
use Rattle.pcm_base.specs.declared.config.Shape.{Shape}
use Rattle.pcm_base.specs.declared.reply.Reply.{Reply}
use Rattle.pcm_base.specs.declared.reply.Reply.TheVariants as reply
use Rattle.pcm_base.specs.CardFacts.{CardFacts}
use Rattle.pcm_base.specs.Shape.{IsSoundShape}
use Rattle.pcm_base.specs.model.Frame.{bytes_of}
use Rattle.pcm_base.specs.model.Stream.{Stream}
use Rattle.pcm_base.specs.model.Acts.{pre, asked, done}
use Rattle.pcm_base.specs.model.Sound.{Sound}
use Rattle.pcm_stream.specs.declared.substream.Substream.{Substream}
use Rattle.pcm_stream.specs.declared.substream.DmaRefusal.{DmaRefusal}
use Rattle.pcm_stream.specs.declared.substream.DmaRefusal.TheVariants as refusal
use Rattle.pcm_stream.specs.Runs.{RunsFor}

-- the facts of a substream's card, and the count of its faults
abbrev pub card_of : {C : Type 0} {g : Ghosts C} → Substream C g → CardFacts
card_of {C} {g} sub = g.facts sub.card

abbrev pub faults_of : {C : Type 0} {g : Ghosts C} → Substream C g → ℕ
faults_of {C} {g} sub = g.faults sub.card

-- whether its card tells the fault plan
abbrev pub tells_plan : {C : Type 0} {g : Ghosts C} → Substream C g → Bool
tells_plan {C} {g} sub = is_some (g.facts sub.card).plan

-- the sizes of a substream's configuration, where it has one
abbrev pub shape_in : {C : Type 0} {g : Ghosts C} → Substream C g → Option Shape
shape_in {C} {g} sub = option_map (λ r. r.shape) sub.runtime

-- the sizes are those of the stream
pub record IsShapeOf (s : Stream) (shape : Shape) : Type 0 where
  pub frame_bytes : s.setup.frame_bytes ≡ shape.frame_bytes
  pub buffer : s.setup.buffer ≡ shape.buffer
  pub boundary : s.setup.boundary ≡ shape.boundary
  pub sound : IsSoundShape shape

-- no configuration, and no frame moved
pub record IsUnset (config : Option Config) (count : ℕ) : Type 0 where
  pub unset : config ≡ None
  pub moved : count ≡ 0

-- All but whether the card runs, and its fault plan, are those of the stream.
pub record Shows {C : Type 0} {g : Ghosts C} (sub : Substream C g) (s : Stream) : Type 0 where
  pub dir : sub.dir ≡ s.dir
  pub model : (g.facts sub.card).model ≡ s.model
  pub long_max : sub.long_max ≡ s.long_max
  pub state : sub.state ≡ s.state
  pub kept : sub.kept ≡ s.kept
  pub taken : (g.facts sub.card).taken ≡ bytes_of s.card.taken
  pub to_give : (g.facts sub.card).to_give ≡ bytes_of s.card.to_give
  pub unset : ForNone sub.runtime (IsUnset s.setup.config s.moved)
  pub runs_for : ForSome sub.runtime (λ r. RunsFor r s)
  pub position : ForSome sub.runtime (λ r. (g.facts sub.card).position ≡ s.at.card % r.shape.buffer)

-- The substream stands for the stream, which is sound. A card that tells no fault plan stands for any.
pub record StandsFor {C : Type 0} {g : Ghosts C} (sub : Substream C g) (s : Stream) : Type 0 where
  pub shows : Shows sub s
  pub runs : (g.facts sub.card).runs ≡ s.card.runs
  pub plan : ForSome (g.facts sub.card).plan (λ plan. plan ≡ s.card.plan)
  pub sound : Sound s

-- The card has done its part of an act that the stream does not refuse, and nothing else has changed.
pub record HasDone {C : Type 0} {g : Ghosts C} (act : Act) (sub : Substream C g) (s : Stream) : Type 0 where
  pub shows : Shows sub s
  pub runs : (g.facts sub.card).runs ≡ (done act s).card.runs
  pub plan : ForSome (g.facts sub.card).plan (λ plan. plan ≡ (asked s act).card.plan)
  pub sound : Sound s
  pub voted : pre s act ≡ None

-- the answer that a movement gives, where memory was found
abbrev pub dma_reply : Result ℕ DmaRefusal → Option Reply
dma_reply (Ok n) = Some (reply.Moved n)
dma_reply (Err (refusal.Late room)) = Some (reply.Late room)
dma_reply (Err refusal.Idle) = Some reply.Idle
dma_reply (Err (refusal.Limit total)) = Some (reply.Limit total)
dma_reply (Err refusal.Memory) = None
