-- An act that no member refuses keeps each stream sound.
use Rattle.std.proofs.Common.{ℕ, ◌≡◌, ◌+◌, ◌-◌, ◌*◌, ◌≤◌, ◌<◌, Bool, true, false, cond, not, nat_lt, refl, sym, ap, ◌∙◌, subst, arith}
use Rattle.std.specs.declared.option.Option.{Option}
use Rattle.std.specs.declared.option.Option.TheVariants.{Some, None}
use Rattle.pcm_base.specs.declared.act.Act.{Act}
use Rattle.pcm_base.specs.declared.act.Act.TheVariants as act
use Rattle.pcm_base.specs.declared.call.CallKind.TheVariants as kind
use Rattle.pcm_base.specs.declared.config.Config.{Config}
use Rattle.pcm_base.specs.declared.state.Dir.{Dir}
use Rattle.pcm_base.specs.declared.state.Dir.TheVariants as dir
use Rattle.pcm_base.specs.declared.state.Errno.{Errno}
use Rattle.pcm_base.specs.declared.state.Errno.TheVariants as errno
use Rattle.pcm_base.specs.declared.state.State.{State}
use Rattle.pcm_base.specs.declared.state.State.TheVariants as state
use Rattle.pcm_base.specs.model.Acts.{done, drained, pre, stopped, table, resumed_to, drained_from, stopped_in}
use Rattle.pcm_base.specs.model.Permit.{permit}
use Rattle.pcm_base.specs.model.Sound.{IsConfigured, IsPlaced, may_be_set_up, is_stop, keeps, may_keep}
use Rattle.pcm_base.specs.model.Stream.{Stream, all_at, avail, head_of}
use Rattle.pcm_base.specs.model.Update.{fill, set_runs, set_state}
use Rattle.pcm_base.specs.model.Words.{runs_in, when, ◌then◌}
use Rattle.pcm_laws.proofs.Sizes.{Sizes, sizes}
use Rattle.pcm_laws.proofs.KeptByMoves.{IsShaped-as, IsConfigured-fill}

pub starts_from : (d : Dir) (t : State) → permit kind.Start t d ≡ None → t ≡ state.Prepared
starts_from d state.Closed h = absurd (cc)
starts_from d state.Opened h = absurd (cc)
starts_from d state.Setup h = absurd (cc)
starts_from d state.Prepared h = refl
starts_from d state.Running h = absurd (cc)
starts_from d state.Xrun h = absurd (cc)
starts_from dir.Playback state.Draining h = absurd (cc)
starts_from dir.Capture state.Draining h = absurd (cc)
starts_from d state.Paused h = absurd (cc)
starts_from d state.Suspended h = absurd (cc)
starts_from d state.Disconnected h = absurd (cc)

pub pauses_from : (d : Dir) (t : State) → permit kind.PausePush t d ≡ None → t ≡ state.Running
pauses_from d state.Closed h = absurd (cc)
pauses_from d state.Opened h = absurd (cc)
pauses_from d state.Setup h = absurd (cc)
pauses_from d state.Prepared h = absurd (cc)
pauses_from d state.Running h = refl
pauses_from d state.Xrun h = absurd (cc)
pauses_from dir.Playback state.Draining h = absurd (cc)
pauses_from dir.Capture state.Draining h = absurd (cc)
pauses_from d state.Paused h = absurd (cc)
pauses_from d state.Suspended h = absurd (cc)
pauses_from d state.Disconnected h = absurd (cc)

pub releases_from : (d : Dir) (t : State) → permit kind.PauseRelease t d ≡ None → t ≡ state.Paused
releases_from d state.Closed h = absurd (cc)
releases_from d state.Opened h = absurd (cc)
releases_from d state.Setup h = absurd (cc)
releases_from d state.Prepared h = absurd (cc)
releases_from d state.Running h = absurd (cc)
releases_from d state.Xrun h = absurd (cc)
releases_from dir.Playback state.Draining h = absurd (cc)
releases_from dir.Capture state.Draining h = absurd (cc)
releases_from d state.Paused h = refl
releases_from d state.Suspended h = absurd (cc)
releases_from d state.Disconnected h = absurd (cc)

pub resumes_from : (d : Dir) (t : State) → permit kind.Resume t d ≡ None → t ≡ state.Suspended
resumes_from d state.Closed h = absurd (cc)
resumes_from d state.Opened h = absurd (cc)
resumes_from d state.Setup h = absurd (cc)
resumes_from d state.Prepared h = absurd (cc)
resumes_from d state.Running h = absurd (cc)
resumes_from d state.Xrun h = absurd (cc)
resumes_from dir.Playback state.Draining h = absurd (cc)
resumes_from dir.Capture state.Draining h = absurd (cc)
resumes_from d state.Paused h = absurd (cc)
resumes_from d state.Suspended h = refl
resumes_from d state.Disconnected h = absurd (cc)

pub may_suspend : (d : Dir) (t : State) → permit kind.Suspend t d ≡ None → may_keep t ≡ true
may_suspend d state.Closed h = absurd (cc)
may_suspend d state.Opened h = absurd (cc)
may_suspend d state.Setup h = absurd (cc)
may_suspend d state.Prepared h = refl
may_suspend d state.Running h = refl
may_suspend d state.Xrun h = refl
may_suspend d state.Draining h = refl
may_suspend d state.Paused h = refl
may_suspend d state.Suspended h = absurd (cc)
may_suspend d state.Disconnected h = absurd (cc)

pub first_none : (x y : Option Errno) → (x then y) ≡ None → x ≡ None
first_none (Some e) y h = absurd (cc)
first_none None y h = refl

pub then_none : (x y : Option Errno) → (x then y) ≡ None → y ≡ None
then_none (Some e) y h = absurd (cc)
then_none None y h = h

-- another state, motion and kept state
pub IsConfigured-motion : (c : Config) (s : Stream) (t : State) (b : Bool) (k : Option State) → may_be_set_up t ≡ true → b ≡ runs_in s.dir t → keeps t k ≡ true → IsConfigured c s → IsConfigured c (record s { state = t; kept = k; card = record s.card { runs = b } })
IsConfigured-motion c s t b k e f g h =
    let u : Stream = record s { state = t; kept = k; card = record s.card { runs = b } } in
    let p : IsPlaced s = h.placed in
    record {
      shaped = IsShaped-as c s u refl refl refl h.shaped;
      placed = record { reported = p.reported; near = p.near; origin = p.origin; written = p.written; fewer = p.fewer; filled = p.filled };
      state = e;
      running = f;
      kept = g;
    }

runs_running : (d : Dir) → true ≡ runs_in d state.Running
runs_running dir.Playback = refl
runs_running dir.Capture = refl

stands_setup : (d : Dir) → false ≡ runs_in d state.Setup
stands_setup dir.Playback = refl
stands_setup dir.Capture = refl

stands_prepared : (d : Dir) → false ≡ runs_in d state.Prepared
stands_prepared dir.Playback = refl
stands_prepared dir.Capture = refl

stands_xrun : (d : Dir) → false ≡ runs_in d state.Xrun
stands_xrun dir.Playback = refl
stands_xrun dir.Capture = refl

stands_paused : (d : Dir) → false ≡ runs_in d state.Paused
stands_paused dir.Playback = refl
stands_paused dir.Capture = refl

stands_suspended : (d : Dir) → false ≡ runs_in d state.Suspended
stands_suspended dir.Playback = refl
stands_suspended dir.Capture = refl

IsConfigured-start : (c : Config) (s : Stream) → pre s act.Start ≡ None → IsConfigured c s → IsConfigured c (done act.Start s)
IsConfigured-start c s n h =
    let e : s.state ≡ state.Prepared = starts_from s.dir s.state (first_none (table kind.Start s) _ n) in
    let k : keeps state.Running s.kept ≡ true = subst (λ t. keeps t s.kept ≡ true) e h.kept in
    IsConfigured-fill c (set_runs true (set_state state.Running s)) (IsConfigured-motion c s state.Running true s.kept refl (runs_running s.dir) k h)

IsConfigured-stopped : (c : Config) (s : Stream) (u : State) → may_be_set_up u ≡ true → false ≡ runs_in s.dir u → keeps u None ≡ true → IsConfigured c s → IsConfigured c (stopped u s)
IsConfigured-stopped c s u e f g h = by s.state h.state
  where
    now : IsConfigured c (record s { state = u; kept = None; card = record s.card { runs = false } })
    now = IsConfigured-motion c s u false None e f g h

    by : (t : State) → may_be_set_up t ≡ true → IsConfigured c (stopped_in t u s)
    by state.Closed q = h
    by state.Opened q = h
    by state.Setup q = now
    by state.Prepared q = now
    by state.Running q = now
    by state.Xrun q = now
    by state.Draining q = now
    by state.Paused q = now
    by state.Suspended q = now
    by state.Disconnected q = h

IsConfigured-prepare : (c : Config) (s : Stream) → IsConfigured c s → IsConfigured c (set_runs false (record s { state = state.Prepared; kept = None; at = all_at s.setup.boundary }))
IsConfigured-prepare c s h =
    let t : Stream = set_runs false (record s { state = state.Prepared; kept = None; at = all_at s.setup.boundary }) in
    let z : Sizes s = sizes c s h.shaped in
    record {
      shaped = IsShaped-as c s t refl refl refl h.shaped;
      placed = at_origin s.dir s z;
      state = refl;
      running = stands_prepared s.dir;
      kept = refl;
    }
  where
    over : (d : Dir) (b l : ℕ) → 4 ≤ b → 2 * b ≤ l → (l ≤ head_of d b l) × (head_of d b l - l < l)
    over dir.Playback b l p q = (omega arith, omega (arith, p, q))
    over dir.Capture b l p q = (omega arith, omega (arith, p, q))

    at_origin : (d : Dir) (s : Stream) → Sizes s → IsPlaced (set_runs false (record s { state = state.Prepared; kept = None; at = all_at s.setup.boundary }))
    at_origin d s z =
        let both : (s.setup.boundary ≤ head_of s.dir s.setup.buffer s.setup.boundary) × (head_of s.dir s.setup.buffer s.setup.boundary - s.setup.boundary < s.setup.boundary) = over s.dir s.setup.buffer s.setup.boundary z.least z.room in
        record {
          reported = (let k : s.setup.boundary ≤ s.setup.boundary = omega arith in k);
          near = (let k : s.setup.boundary < s.setup.boundary + s.setup.buffer = omega (arith, z.least) in k);
          origin = (let k : s.setup.boundary ≤ s.setup.boundary = omega arith in k);
          written = both.0;
          fewer = both.1;
          filled = (let k : s.setup.boundary ≤ s.setup.boundary + s.setup.buffer = omega arith in k);
        }

IsConfigured-resumed : (c : Config) (s : Stream) (k : Option State) → keeps state.Suspended k ≡ true → IsConfigured c s → IsConfigured c (resumed_to k s)
IsConfigured-resumed c s None e h = h
IsConfigured-resumed c s (Some t) e h = by t e
  where
    by : (t : State) → may_keep t ≡ true → IsConfigured c (set_runs (runs_in s.dir t) (record s { state = t; kept = None }))
    by state.Closed q = absurd (cc)
    by state.Opened q = absurd (cc)
    by state.Setup q = absurd (cc)
    by state.Prepared q = IsConfigured-motion c s state.Prepared (runs_in s.dir state.Prepared) None refl refl refl h
    by state.Running q = IsConfigured-motion c s state.Running (runs_in s.dir state.Running) None refl refl refl h
    by state.Xrun q = IsConfigured-motion c s state.Xrun (runs_in s.dir state.Xrun) None refl refl refl h
    by state.Draining q = IsConfigured-motion c s state.Draining (runs_in s.dir state.Draining) None refl refl refl h
    by state.Paused q = IsConfigured-motion c s state.Paused (runs_in s.dir state.Paused) None refl refl refl h
    by state.Suspended q = absurd (cc)
    by state.Disconnected q = absurd (cc)

IsConfigured-suspend : (c : Config) (s : Stream) → pre s act.Suspend ≡ None → IsConfigured c s → IsConfigured c (done act.Suspend s)
IsConfigured-suspend c s n h = IsConfigured-motion c s state.Suspended false (Some s.state) refl (stands_suspended s.dir) (may_suspend s.dir s.state n) h

-- a drain, by direction and state
IsConfigured-drained : (c : Config) (s : Stream) → IsConfigured c s → IsConfigured c (drained s)
IsConfigured-drained c s h = by s.dir s.state refl refl
  where
    kept_in : (t u : State) → s.state ≡ t → keeps t s.kept ≡ true
    kept_in t u e = subst (λ q. keeps q s.kept ≡ true) e h.kept

    runs_now : (d : Dir) (t : State) → s.dir ≡ d → s.state ≡ t → s.card.runs ≡ runs_in d t
    runs_now d t e f = h.running ∙ (ap (λ q. runs_in q s.state) e ∙ ap (λ q. runs_in d q) f)

    at_way : (d : Dir) (b : Bool) (t : State) → s.dir ≡ d → b ≡ runs_in d t → b ≡ runs_in s.dir t
    at_way d b t e f = f ∙ ap (λ q. runs_in q t) (sym e)

    some_left : (b : Bool) → s.dir ≡ dir.Capture → s.state ≡ state.Running → IsConfigured c (set_runs false (cond b (set_state state.Draining s) (set_state state.Setup s)))
    some_left true e f = IsConfigured-motion c s state.Draining false s.kept refl (at_way dir.Capture false state.Draining e refl) (kept_in state.Running state.Draining f) h
    some_left false e f = IsConfigured-motion c s state.Setup false s.kept refl (at_way dir.Capture false state.Setup e refl) (kept_in state.Running state.Setup f) h

    written : (b : Bool) → s.dir ≡ dir.Playback → s.state ≡ state.Prepared → IsConfigured c (cond b (fill (set_runs true (set_state state.Draining s))) (set_state state.Setup s))
    written true e f = IsConfigured-fill c (set_runs true (set_state state.Draining s)) (IsConfigured-motion c s state.Draining true s.kept refl (at_way dir.Playback true state.Draining e refl) (kept_in state.Prepared state.Draining f) h)
    written false e f = IsConfigured-motion c s state.Setup s.card.runs s.kept refl (at_way dir.Playback s.card.runs state.Setup e (runs_now dir.Playback state.Prepared e f)) (kept_in state.Prepared state.Setup f) h

    by : (d : Dir) (t : State) → s.dir ≡ d → s.state ≡ t → IsConfigured c (drained_from d t s)
    by dir.Playback state.Prepared e f = written (nat_lt (avail s) s.setup.buffer) e f
    by dir.Playback state.Running e f = IsConfigured-motion c s state.Draining s.card.runs s.kept refl (at_way dir.Playback s.card.runs state.Draining e (runs_now dir.Playback state.Running e f)) (kept_in state.Running state.Draining f) h
    by dir.Playback state.Xrun e f = IsConfigured-motion c s state.Setup s.card.runs s.kept refl (at_way dir.Playback s.card.runs state.Setup e (runs_now dir.Playback state.Xrun e f)) (kept_in state.Xrun state.Setup f) h
    by dir.Playback state.Closed e f = h
    by dir.Playback state.Opened e f = h
    by dir.Playback state.Setup e f = h
    by dir.Playback state.Draining e f = h
    by dir.Playback state.Paused e f = h
    by dir.Playback state.Suspended e f = h
    by dir.Playback state.Disconnected e f = h
    by dir.Capture state.Running e f = some_left (nat_lt 0 (avail s)) e f
    by dir.Capture state.Closed e f = h
    by dir.Capture state.Opened e f = h
    by dir.Capture state.Setup e f = h
    by dir.Capture state.Prepared e f = h
    by dir.Capture state.Xrun e f = h
    by dir.Capture state.Draining e f = h
    by dir.Capture state.Paused e f = h
    by dir.Capture state.Suspended e f = h
    by dir.Capture state.Disconnected e f = h

pub IsConfigured-done : (c : Config) (a : Act) (s : Stream) → is_stop a ≡ true → pre s a ≡ None → IsConfigured c s → IsConfigured c (done a s)
IsConfigured-done c act.Start s i n h = IsConfigured-start c s n h
IsConfigured-done c (act.Stop u) s i n h = by u i
  where
    by : (u : State) → is_stop (act.Stop u) ≡ true → IsConfigured c (stopped u s)
    by state.Setup q = IsConfigured-stopped c s state.Setup refl (stands_setup s.dir) refl h
    by state.Xrun q = IsConfigured-stopped c s state.Xrun refl (stands_xrun s.dir) refl h
    by state.Closed q = absurd (cc)
    by state.Opened q = absurd (cc)
    by state.Prepared q = absurd (cc)
    by state.Running q = absurd (cc)
    by state.Draining q = absurd (cc)
    by state.Paused q = absurd (cc)
    by state.Suspended q = absurd (cc)
    by state.Disconnected q = absurd (cc)
IsConfigured-done c (act.Prepare first) s i n h = IsConfigured-prepare c s h
IsConfigured-done c act.Pause s i n h =
    let e : s.state ≡ state.Running = pauses_from s.dir s.state (then_none (when (not s.model.can_pause) errno.Enosys) (table kind.PausePush s) n) in
    let k : keeps state.Running s.kept ≡ true = subst (λ t. keeps t s.kept ≡ true) e h.kept in
    IsConfigured-motion c s state.Paused false s.kept refl (stands_paused s.dir) k h
IsConfigured-done c act.Release s i n h =
    let e : s.state ≡ state.Paused = releases_from s.dir s.state (then_none (when (not s.model.can_pause) errno.Enosys) (table kind.PauseRelease s) n) in
    let k : keeps state.Paused s.kept ≡ true = subst (λ t. keeps t s.kept ≡ true) e h.kept in
    IsConfigured-motion c s state.Running true s.kept refl (runs_running s.dir) k h
IsConfigured-done c act.Suspend s i n h = IsConfigured-suspend c s n h
IsConfigured-done c act.Resume s i n h =
    let e : s.state ≡ state.Suspended = resumes_from s.dir s.state (then_none (when (not s.model.can_resume) errno.Enosys) (table kind.Resume s) n) in
    IsConfigured-resumed c s s.kept (subst (λ t. keeps t s.kept ≡ true) e h.kept) h
IsConfigured-done c act.Drain s i n h = IsConfigured-drained c s h
IsConfigured-done c act.Watch s i n h = h
