-- Clients with a call in progress, as the world keeps it, and that the calls in progress on the streams are theirs.
use Rattle.std.specs.Prelude.{◌≡◌, ◌≢◌, ◌<◌, ◌+◌, ◌*◌, ℕ, List, [], ◌∷◌, length, take, slice_get, if◌then◌else◌}
use Rattle.std.specs.declared.option.Option.{Option}
use Rattle.std.specs.declared.option.Option.TheVariants.{Some, None}
use Rattle.pcm_base.specs.declared.call.Layout.{Layout}
use Rattle.pcm_base.specs.declared.ids.ClientId.{ClientId}
use Rattle.pcm_base.specs.declared.ids.SubId.{SubId}
use Rattle.pcm_base.specs.declared.sleeper.Task.{Task}
use Rattle.pcm_base.specs.declared.sleeper.Task.TheVariants as task
use Rattle.pcm_base.specs.model.Events.{waiting_of}
use Rattle.pcm_base.specs.model.Group.{stream_of}
use Rattle.pcm_base.specs.model.Stream.{Member, Stream}
use Rattle.pcm_base.specs.model.Transfer.{frames_by}
use Rattle.pcm_base.specs.model.World.{InProgress, call_of, group_of}
use Rattle.pcm_world.specs.declared.calls.Kept.{Kept}

-- the stream of a substream in these groups; a fresh one stands for that of an undeclared one
abbrev pub stream_at : SubId → List (List Member) → Stream
stream_at k xs = stream_of k (group_of k xs)

-- the task that a client's call waits for, on the substream on which it was made
abbrev pub task_of : InProgress → List (List Member) → Option Task
task_of p xs = waiting_of p.client (stream_at p.sub xs).sleepers

-- the layout of a read that waits
abbrev pub read_layout : Option Task → Option Layout
read_layout (Some (task.Transfer x wanted)) = if x.writing then None else Some x.layout
read_layout _ = None

-- The kept bytes of a call that does not read are those that it handed in; those of a read begin with the frames that it has read.
abbrev pub KeepsBytes : Option Layout → Stream → List ℕ → InProgress → Type 0
KeepsBytes None s bytes p = bytes ≡ p.bytes
KeepsBytes (Some l) s bytes p = take (length p.frames) (frames_by l s bytes) ≡ p.frames

-- what a call waits for is its own: its bytes, and of a transfer that so many of its frames have moved
abbrev pub IsTaskOf : Task → Stream → InProgress → Type 0
IsTaskOf (task.Transfer x wanted) s p = (length p.bytes ≡ (x.moved + x.rest) * s.setup.frame_bytes) × (x.moved ≡ length p.frames)
IsTaskOf task.Drain s p = length p.bytes ≡ 0

-- there is such a task
abbrev pub IsWaitingFor : Option Task → Stream → InProgress → Type 0
IsWaitingFor None s p = ⊥
IsWaitingFor (Some t) s p = IsTaskOf t s p

-- A call in progress is kept as the model does.
pub record IsKept (xs : List (List Member)) (k : Kept) (c : ClientId) (p : InProgress) : Type 0 where
  pub client : p.client ≡ c
  pub sub : k.sub ≡ p.sub
  pub layout : k.layout ≡ read_layout (task_of p xs)
  pub size : length k.bytes.items ≡ length p.bytes
  pub bytes : KeepsBytes k.layout (stream_at p.sub xs) k.bytes.items p

abbrev pub IsCallOf : List (List Member) → ClientId → Option (Option Kept) → Option InProgress → Type 0
IsCallOf xs c (Some (Some k)) (Some p) = IsKept xs k c p
IsCallOf xs c (Some None) None = Unit {0}
IsCallOf xs c _ _ = ⊥

-- each client's call in progress is kept in its place
abbrev pub AreKept : List (Option Kept) → List (List Member) → List InProgress → Type 0
AreKept calls xs ps = (c : ClientId) → c.0 < 16 → IsCallOf xs c (slice_get calls c.0) (call_of c ps)

-- a client is numbered from 0 to 15, and none has two calls in progress
abbrev pub CallsApart : List InProgress → Type 0
CallsApart [] = Unit {0}
CallsApart (p ∷ ps) = (p.client.0 < 16) × (call_of p.client ps ≡ None) × CallsApart ps

-- The calls in progress on the streams are those of the clients: a client waits on a substream exactly where its call in progress was made there, and for what that call is.
pub record CallsAgree (xs : List (List Member)) (ps : List InProgress) : Type 0 where
  pub apart : CallsApart ps
  pub waits : (c : ClientId) (p : InProgress) → call_of c ps ≡ Some p → IsWaitingFor (task_of p xs) (stream_at p.sub xs) p
  pub made : (c : ClientId) (k : SubId) → waiting_of c (stream_at k xs).sleepers ≢ None → (p : InProgress) × (call_of c ps ≡ Some p) × (p.sub.0 ≡ k.0)
