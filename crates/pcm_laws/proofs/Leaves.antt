-- What acts leave as it was.
use Rattle.std.proofs.Common.{ℕ, List, ◌≡◌, Bool, true, false, cond, nat_lt, refl, ◌∙◌}
use Rattle.std.specs.declared.option.Option.{Option}
use Rattle.std.specs.declared.option.Option.TheVariants.{Some, None}
use Rattle.pcm_base.specs.declared.act.Act.{Act}
use Rattle.pcm_base.specs.declared.act.Act.TheVariants as act
use Rattle.pcm_base.specs.declared.act.Outcome.{Outcome}
use Rattle.pcm_base.specs.declared.act.Outcome.TheVariants as outcome
use Rattle.pcm_base.specs.declared.act.Vote.{Vote}
use Rattle.pcm_base.specs.declared.state.Dir.{Dir}
use Rattle.pcm_base.specs.declared.state.Dir.TheVariants as dir
use Rattle.pcm_base.specs.declared.state.State.{State}
use Rattle.pcm_base.specs.declared.state.State.TheVariants as state
use Rattle.pcm_base.specs.model.Acts.{after, asked, asks, consulted, done, was_asked, resumed_to, drained_from, stopped_in}
use Rattle.pcm_base.specs.model.Stream.{Positions, Setup, Stream, Waiting, all_at, avail}
use Rattle.pcm_base.specs.model.Update.{fill, set_runs, set_state}
use Rattle.pcm_base.specs.model.Words.{runs_in}
use Rattle.pcm_base.specs.declared.config.CardModel.{CardModel}
use Rattle.pcm_base.specs.model.Frame.{Frame}
use Rattle.pcm_laws.specs.Steps.{IsSameBesideActs}

-- a part of a stream that the changes of which acts are made leave
pub record IsLeft (A : Type 0) (f : Stream → A) : Type 0 where
  pub runs : (b : Bool) (s : Stream) → f (set_runs b s) ≡ f s
  pub state : (t : State) (k : Option State) (s : Stream) → f (record s { state = t; kept = k }) ≡ f s
  pub at : (p : Positions) (s : Stream) → f (record s { at = p }) ≡ f s
  pub fill : (s : Stream) → f (fill s) ≡ f s
  pub consulted : (s : Stream) → f (consulted s) ≡ f s

-- the state, the kept state and the motion
moves : (A : Type 0) (f : Stream → A) → IsLeft A f → (t : State) (k : Option State) (b : Bool) (s : Stream) → f (set_runs b (record s { state = t; kept = k })) ≡ f s
moves A f l t k b s = l.runs b (record s { state = t; kept = k }) ∙ l.state t k s

begins : (A : Type 0) (f : Stream → A) → IsLeft A f → (t : State) (s : Stream) → f (fill (set_runs true (set_state t s))) ≡ f s
begins A f l t s = l.fill (set_runs true (set_state t s)) ∙ moves A f l t s.kept true s

stops : (A : Type 0) (f : Stream → A) → IsLeft A f → (u : State) (s : Stream) (t : State)
    → f (stopped_in t u s) ≡ f s
stops A f l u s state.Closed = refl
stops A f l u s state.Opened = refl
stops A f l u s state.Setup = moves A f l u None false s
stops A f l u s state.Prepared = moves A f l u None false s
stops A f l u s state.Running = moves A f l u None false s
stops A f l u s state.Xrun = moves A f l u None false s
stops A f l u s state.Draining = moves A f l u None false s
stops A f l u s state.Paused = moves A f l u None false s
stops A f l u s state.Suspended = moves A f l u None false s
stops A f l u s state.Disconnected = refl

resumes : (A : Type 0) (f : Stream → A) → IsLeft A f → (s : Stream) (k : Option State) → f (resumed_to k s) ≡ f s
resumes A f l s None = refl
resumes A f l s (Some t) = moves A f l t None (runs_in s.dir t) s

one_of : (A : Type 0) (f : Stream → A) (b : Bool) (s t u : Stream) → f s ≡ f u → f t ≡ f u → f (cond b s t) ≡ f u
one_of A f true s t u e g = e
one_of A f false s t u e g = g

drains_as : (A : Type 0) (f : Stream → A) → IsLeft A f → (s : Stream) (d : Dir) (t : State) → f (drained_from d t s) ≡ f s
drains_as A f l s dir.Playback state.Closed = refl
drains_as A f l s dir.Playback state.Opened = refl
drains_as A f l s dir.Playback state.Setup = refl
drains_as A f l s dir.Playback state.Prepared = one_of A f (nat_lt (avail s) s.setup.buffer) (fill (set_runs true (set_state state.Draining s))) (set_state state.Setup s) s (begins A f l state.Draining s) (l.state state.Setup s.kept s)
drains_as A f l s dir.Playback state.Running = l.state state.Draining s.kept s
drains_as A f l s dir.Playback state.Xrun = l.state state.Setup s.kept s
drains_as A f l s dir.Playback state.Draining = refl
drains_as A f l s dir.Playback state.Paused = refl
drains_as A f l s dir.Playback state.Suspended = refl
drains_as A f l s dir.Playback state.Disconnected = refl
drains_as A f l s dir.Capture state.Closed = refl
drains_as A f l s dir.Capture state.Opened = refl
drains_as A f l s dir.Capture state.Setup = refl
drains_as A f l s dir.Capture state.Prepared = refl
drains_as A f l s dir.Capture state.Running =
    l.runs false (cond (nat_lt 0 (avail s)) (set_state state.Draining s) (set_state state.Setup s))
    ∙ one_of A f (nat_lt 0 (avail s)) (set_state state.Draining s) (set_state state.Setup s) s (l.state state.Draining s.kept s) (l.state state.Setup s.kept s)
drains_as A f l s dir.Capture state.Xrun = refl
drains_as A f l s dir.Capture state.Draining = refl
drains_as A f l s dir.Capture state.Paused = refl
drains_as A f l s dir.Capture state.Suspended = refl
drains_as A f l s dir.Capture state.Disconnected = refl

pub IsLeft-done : (A : Type 0) (f : Stream → A) → IsLeft A f → (a : Act) (s : Stream) → f (done a s) ≡ f s
IsLeft-done A f l act.Start s = begins A f l state.Running s
IsLeft-done A f l (act.Stop u) s = stops A f l u s s.state
IsLeft-done A f l (act.Prepare first) s =
    let here : Positions = all_at s.setup.boundary in
    moves A f l state.Prepared None false (record s { at = here }) ∙ l.at here s
IsLeft-done A f l act.Pause s = moves A f l state.Paused s.kept false s
IsLeft-done A f l act.Release s = moves A f l state.Running s.kept true s
IsLeft-done A f l act.Suspend s = moves A f l state.Suspended (Some s.state) false s
IsLeft-done A f l act.Resume s = resumes A f l s s.kept
IsLeft-done A f l act.Drain s = drains_as A f l s s.dir s.state
IsLeft-done A f l act.Watch s = refl

IsLeft-asked : (A : Type 0) (f : Stream → A) → IsLeft A f → (a : Act) (s : Stream) → f (asked s a) ≡ f s
IsLeft-asked A f l a s = one_of A f (asks s a) (consulted s) s s (l.consulted s) refl

pub IsLeft-after : (A : Type 0) (f : Stream → A) → IsLeft A f → (a : Act) (v : Vote) (o : Outcome) (s : Stream) → f (after a v o s) ≡ f s
IsLeft-after A f l a v outcome.Done s = IsLeft-done A f l a (asked s a) ∙ IsLeft-asked A f l a s
IsLeft-after A f l a v (outcome.Refused k e) s = refl
IsLeft-after A f l a v (outcome.Failed k) s = one_of A f (was_asked v) (asked s a) s s (IsLeft-asked A f l a s) refl

pub setup-done : (a : Act) (s : Stream) → (done a s).setup ≡ s.setup
setup-done a s = IsLeft-done Setup (λ t. t.setup) (record { runs = λ b t. refl; state = λ u k t. refl; at = λ p t. refl; fill = λ t. refl; consulted = λ t. refl }) a s

pub sleepers-after : (a : Act) (v : Vote) (o : Outcome) (s : Stream) → (after a v o s).sleepers ≡ s.sleepers
sleepers-after a v o s = IsLeft-after (List Waiting) (λ t. t.sleepers) (record { runs = λ b t. refl; state = λ u k t. refl; at = λ p t. refl; fill = λ t. refl; consulted = λ t. refl }) a v o s

pub IsSameBesideActs-after : (a : Act) (v : Vote) (o : Outcome) (s : Stream) → IsSameBesideActs s (after a v o s)
IsSameBesideActs-after a v o s = record {
  dir = IsLeft-after Dir (λ t. t.dir) (record { runs = λ b t. refl; state = λ u k t. refl; at = λ p t. refl; fill = λ t. refl; consulted = λ t. refl }) a v o s;
  model = IsLeft-after CardModel (λ t. t.model) (record { runs = λ b t. refl; state = λ u k t. refl; at = λ p t. refl; fill = λ t. refl; consulted = λ t. refl }) a v o s;
  long_max = IsLeft-after ℕ (λ t. t.long_max) (record { runs = λ b t. refl; state = λ u k t. refl; at = λ p t. refl; fill = λ t. refl; consulted = λ t. refl }) a v o s;
  setup = IsLeft-after Setup (λ t. t.setup) (record { runs = λ b t. refl; state = λ u k t. refl; at = λ p t. refl; fill = λ t. refl; consulted = λ t. refl }) a v o s;
  mappings = IsLeft-after ℕ (λ t. t.mappings) (record { runs = λ b t. refl; state = λ u k t. refl; at = λ p t. refl; fill = λ t. refl; consulted = λ t. refl }) a v o s;
  moved = IsLeft-after ℕ (λ t. t.moved) (record { runs = λ b t. refl; state = λ u k t. refl; at = λ p t. refl; fill = λ t. refl; consulted = λ t. refl }) a v o s;
  taken = IsLeft-after (List Frame) (λ t. t.card.taken) (record { runs = λ b t. refl; state = λ u k t. refl; at = λ p t. refl; fill = λ t. refl; consulted = λ t. refl }) a v o s;
  to_give = IsLeft-after (List Frame) (λ t. t.card.to_give) (record { runs = λ b t. refl; state = λ u k t. refl; at = λ p t. refl; fill = λ t. refl; consulted = λ t. refl }) a v o s;
  sleepers = sleepers-after a v o s;
}
