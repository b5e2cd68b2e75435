-- Two laws for a client that keeps up with the card, over runs of one stream of the model: what stands is what was put at the position itself, and not a frame that lies whole buffers before or behind it. This project's own.
use Rattle.std.specs.Prelude.{◌≡◌, ◌≢◌, ℕ, Bool, true, false, nat_eq, List, [], ◌∷◌, ◌++◌, length, get_or, ◌+◌, ◌-◌, ◌<◌, ◌≤◌, if◌then◌else◌}
use Rattle.std.specs.declared.option.Option.{Option}
use Rattle.std.specs.declared.option.Option.TheVariants.{Some, None}
use Rattle.pcm_base.specs.declared.act.Act.{Act}
use Rattle.pcm_base.specs.declared.act.Act.TheVariants as act
use Rattle.pcm_base.specs.declared.act.Outcome.{Outcome}
use Rattle.pcm_base.specs.declared.act.Outcome.TheVariants as outcome
use Rattle.pcm_base.specs.declared.call.Call.{Call}
use Rattle.pcm_base.specs.declared.call.Call.TheVariants as call
use Rattle.pcm_base.specs.declared.config.CardModel.{CardModel}
use Rattle.pcm_base.specs.declared.ids.ClientId.{ClientId}
use Rattle.pcm_base.specs.declared.ids.SubId.{SubId}
use Rattle.pcm_base.specs.declared.reply.Page.{Page}
use Rattle.pcm_base.specs.declared.reply.Reply.TheVariants as reply
use Rattle.pcm_base.specs.declared.state.Dir.{Dir}
use Rattle.pcm_base.specs.declared.state.Dir.TheVariants as dir
use Rattle.pcm_base.specs.model.Events.{program}
use Rattle.pcm_base.specs.model.Frame.{Frame}
use Rattle.pcm_base.specs.model.Movement.{move}
use Rattle.pcm_base.specs.model.Program.{Answer}
use Rattle.pcm_base.specs.model.Replay.{Part, Plays, Joins}
use Rattle.pcm_base.specs.model.Sound.{is_stop}
use Rattle.pcm_base.specs.model.Standing.{Put}
use Rattle.pcm_base.specs.model.Stream.{Stream, fresh}

-- the first of two that is there
abbrev pub first_of : Option Frame → Option Frame → Option Frame
first_of (Some f) y = Some f
first_of None y = y

-- the frame of the last put at the position p itself
abbrev pub frame_at : ℕ → List Put → Option Frame
frame_at p [] = None
frame_at p (q ∷ qs) = first_of (frame_at p qs) (if nat_eq q.at p then Some q.frame else None)

-- ---- runs

-- one event of the stream with its bytes, its joints and its answer, or a joint of an act that an event of another member made
pub data Moment : Type 0 where
  Own : Call → ClientId → Bool → List ℕ → List Part → Answer → Moment
  Shared : Part → Moment

-- The moment leads member k from one stream to another. What an event stops is to be in SETUP or XRUN.
abbrev pub Goes : SubId → Moment → Stream → Stream → Type 0
Goes k (Own e c linked io ps a) s t = Plays k (program e c linked io s) ps a t
Goes k (Shared p) s t = (is_stop p.act ≡ true) × Joins k s (p ∷ []) t

-- these moments lead member k from one stream to another, each of which is such that it holds of its moment and of the stream after it
abbrev pub Runs : SubId → (Moment → Stream → Type 0) → List Moment → Stream → Stream → Type 0
Runs k such [] s t = t ≡ s
Runs k such (m ∷ ms) s t = (u : Stream) × Goes k m s u × such m u × Runs k such ms u t

abbrev pub IsAny : Moment → Stream → Type 0
IsAny m t = Unit {0}

-- some moments lead member k to the stream from one that no client has opened yet
pub record IsReached (k : SubId) (d : Dir) (s : Stream) : Type 0 where
  pub model : CardModel
  pub long_max : ℕ
  pub moments : List Moment
  pub runs : Runs k IsAny moments (fresh model d long_max) s

-- ---- since a Prepare

abbrev pub is_prepare : Act → Outcome → Bool
is_prepare (act.Prepare first) outcome.Done = true
is_prepare _ _ = false

-- a Prepare that is done: the stream's own, or one of its group
abbrev pub Prepares : Moment → Type 0
Prepares (Own call.Prepare c linked io ps a) = a.reply ≡ reply.Ok
Prepares (Own e c linked io ps a) = ⊥
Prepares (Shared p) = is_prepare p.act p.outcome ≡ true

abbrev pub NonePrepares : List Part → Type 0
NonePrepares [] = Unit {0}
NonePrepares (p ∷ ps) = (is_prepare p.act p.outcome ≡ false) × NonePrepares ps

-- no act of this moment is a Prepare that is done
abbrev pub GoesOn : Moment → Stream → Type 0
GoesOn (Own e c linked io ps a) t = NonePrepares ps
GoesOn (Shared p) t = is_prepare p.act p.outcome ≡ false

-- no store, and no sync that leaves the application position behind the hardware position
abbrev pub StaysAhead : Call → Answer → Stream → Type 0
StaysAhead (call.Store o) a t = (n : ℕ) → a.reply ≢ reply.Frames n
StaysAhead (call.SyncPtr q) a t = (page : Page) → a.reply ≡ reply.Ptrs page → t.at.hw ≤ t.at.appl
StaysAhead _ a t = Unit {0}

-- none of the three
abbrev pub KeepsAhead : Moment → Stream → Type 0
KeepsAhead (Own e c linked io ps a) t = NonePrepares ps × StaysAhead e a t
KeepsAhead (Shared p) t = is_prepare p.act p.outcome ≡ false

-- ---- the laws

-- a write or one that goes on, and a read or one that goes on
abbrev pub writes : Call → Bool
writes (call.Write l m) = true
writes call.Go = true
writes _ = false

abbrev pub reads : Call → Bool
reads (call.Read l m n) = true
reads call.Go = true
reads _ = false

-- the event moves frames at the position p, which is one of those that it leaves behind the application position
abbrev pub Passes : ℕ → Answer → Stream → Type 0
Passes p a t = (t.at.appl ≤ p + length a.frames) × (p < t.at.appl)

-- the frame that the event moved at p
abbrev pub frame_passed : ℕ → Answer → Stream → Frame
frame_passed p a t = get_or a.frames (p + length a.frames - t.at.appl) []

-- the card takes n frames, that of position p among them
abbrev pub Takes : ℕ → ℕ → Stream → Type 0
Takes p n s = ((move n s).reply ≡ reply.Moved n) × (s.at.card ≤ p) × (p < s.at.card + n)

abbrev pub frame_taken : ℕ → ℕ → Stream → Frame
frame_taken p n s = get_or (move n s).frames (p - s.at.card) []

-- On playback a write, which leads from s to w, puts a frame at p. Since then there was no Prepare, no Store, and no SyncPtr that left the application position behind the hardware position. Then the card, where it takes p before the application position, takes the last frame that was put at p itself.
abbrev pub Ahead : Type 0
Ahead = (k : SubId) (e : Call) (c : ClientId) (linked : Bool) (io : List ℕ) (ps : List Part) (a : Answer) (ms : List Moment) (s w t : Stream) (p n : ℕ)
    → IsReached k dir.Playback s → writes e ≡ true → Goes k (Own e c linked io ps a) s w → Passes p a w
    → Runs k KeepsAhead ms w t
    → Takes p n t → p < t.at.appl
    → frame_at p t.puts ≡ Some (frame_taken p n t)

-- the frame was the last put at p itself among the puts after the first ones
abbrev pub IsPutSince : List Put → List Put → ℕ → Frame → Type 0
IsPutSince first all p f = (puts : List Put) × (all ≡ first ++ puts) × (frame_at p puts ≡ Some f)

-- On capture a Prepare leads to the stream s, and since then there was no other. A read, which leads from r to t, takes position p, not before the start and at most a buffer behind the card. Then it reads the last frame that the card has put at p itself since the Prepare: on capture only the card puts.
abbrev pub Behind : Type 0
Behind = (k : SubId) (m : Moment) (e : Call) (c : ClientId) (linked : Bool) (io : List ℕ) (ps : List Part) (a : Answer) (ms : List Moment) (q s r t : Stream) (p : ℕ)
    → IsReached k dir.Capture q → Prepares m → Goes k m q s → Runs k GoesOn ms s r
    → reads e ≡ true → Goes k (Own e c linked io ps a) r t → Passes p a t
    → s.setup.boundary ≤ p → p < t.at.card → t.at.card ≤ p + t.setup.buffer
    → IsPutSince s.puts t.puts p (frame_passed p a t)
