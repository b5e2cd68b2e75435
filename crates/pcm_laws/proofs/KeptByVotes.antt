-- What a vote that fits makes of a sound stream is sound.
use Rattle.std.proofs.Common.{ℕ, ◌≡◌, Bool, true, false, cond, not, nat_lt, refl, sym, ◌∙◌, subst}
use Rattle.std.specs.declared.option.Option.TheVariants.{None}
use Rattle.pcm_base.specs.declared.act.Act.{Act}
use Rattle.pcm_base.specs.declared.act.Act.TheVariants as act
use Rattle.pcm_base.specs.declared.act.Outcome.{Outcome}
use Rattle.pcm_base.specs.declared.act.Outcome.TheVariants as outcome
use Rattle.pcm_base.specs.declared.act.Vote.{Vote}
use Rattle.pcm_base.specs.declared.act.Vote.TheVariants as vote
use Rattle.pcm_base.specs.declared.call.CallKind.TheVariants as kind
use Rattle.pcm_base.specs.declared.config.CardModel.{CardModel}
use Rattle.pcm_base.specs.declared.ids.SubId.{SubId}
use Rattle.pcm_base.specs.declared.state.Dir.{Dir}
use Rattle.pcm_base.specs.declared.state.Dir.TheVariants as dir
use Rattle.pcm_base.specs.declared.state.Errno.TheVariants as errno
use Rattle.pcm_base.specs.declared.state.State.{State}
use Rattle.pcm_base.specs.declared.state.State.TheVariants as state
use Rattle.pcm_base.specs.model.Acts.{after, asked, asks, consulted, done, pre, refuses_unopened, table, was_asked, drained_from, stopped_in}
use Rattle.pcm_base.specs.model.Permit.{permit}
use Rattle.pcm_base.specs.model.Replay.{Fits}
use Rattle.pcm_base.specs.model.Sound.{IsBare, Sound, is_set_up, is_stop, may_keep}
use Rattle.pcm_base.specs.model.Stream.{Stream, avail, fresh}
use Rattle.pcm_base.specs.model.Update.{fill, set_runs, set_state}
use Rattle.pcm_base.specs.model.Words.{when}
use Rattle.pcm_laws.proofs.KeptByActs.{first_none, then_none, starts_from, pauses_from, releases_from, resumes_from, may_suspend, IsConfigured-done}
use Rattle.pcm_laws.proofs.Leaves.{setup-done}
use Rattle.pcm_laws.proofs.KeptByMoves.{Sound-as, IsShaped-as, IsConfigured-at}

not_both : (t u : State) → t ≡ u → is_set_up t ≡ false → is_set_up u ≡ true → ⊥
not_both t u e f g = let k : is_set_up u ≡ false = subst (λ q. is_set_up q ≡ false) e f in cc

kept_set_up : (t : State) → may_keep t ≡ true → is_set_up t ≡ true
kept_set_up state.Closed h = absurd (cc)
kept_set_up state.Opened h = absurd (cc)
kept_set_up state.Setup h = refl
kept_set_up state.Prepared h = refl
kept_set_up state.Running h = refl
kept_set_up state.Xrun h = refl
kept_set_up state.Draining h = refl
kept_set_up state.Paused h = refl
kept_set_up state.Suspended h = refl
kept_set_up state.Disconnected h = absurd (cc)

prepares_from : (first : Bool) (d : Dir) (t : State) → cond first (refuses_unopened t) (permit kind.Prepare t d) ≡ None → is_set_up t ≡ true
prepares_from true d state.Closed h = absurd (cc)
prepares_from false d state.Closed h = absurd (cc)
prepares_from true d state.Opened h = absurd (cc)
prepares_from false d state.Opened h = absurd (cc)
prepares_from first d state.Setup h = refl
prepares_from first d state.Prepared h = refl
prepares_from first d state.Running h = refl
prepares_from first d state.Xrun h = refl
prepares_from first d state.Draining h = refl
prepares_from first d state.Paused h = refl
prepares_from first d state.Suspended h = refl
prepares_from true d state.Disconnected h = absurd (cc)
prepares_from false d state.Disconnected h = absurd (cc)

stopped_bare : (u : State) (s : Stream) (t : State) → is_set_up t ≡ false → stopped_in t u s ≡ s
stopped_bare u s state.Closed h = refl
stopped_bare u s state.Opened h = refl
stopped_bare u s state.Setup h = absurd (cc)
stopped_bare u s state.Prepared h = absurd (cc)
stopped_bare u s state.Running h = absurd (cc)
stopped_bare u s state.Xrun h = absurd (cc)
stopped_bare u s state.Draining h = absurd (cc)
stopped_bare u s state.Paused h = absurd (cc)
stopped_bare u s state.Suspended h = absurd (cc)
stopped_bare u s state.Disconnected h = refl

drained_bare : (s : Stream) (d : Dir) (t : State) → is_set_up t ≡ false → drained_from d t s ≡ s
drained_bare s dir.Playback state.Closed h = refl
drained_bare s dir.Playback state.Opened h = refl
drained_bare s dir.Playback state.Setup h = absurd (cc)
drained_bare s dir.Playback state.Prepared h = absurd (cc)
drained_bare s dir.Playback state.Running h = absurd (cc)
drained_bare s dir.Playback state.Xrun h = absurd (cc)
drained_bare s dir.Playback state.Draining h = absurd (cc)
drained_bare s dir.Playback state.Paused h = absurd (cc)
drained_bare s dir.Playback state.Suspended h = absurd (cc)
drained_bare s dir.Playback state.Disconnected h = refl
drained_bare s dir.Capture state.Closed h = refl
drained_bare s dir.Capture state.Opened h = refl
drained_bare s dir.Capture state.Setup h = absurd (cc)
drained_bare s dir.Capture state.Prepared h = absurd (cc)
drained_bare s dir.Capture state.Running h = absurd (cc)
drained_bare s dir.Capture state.Xrun h = absurd (cc)
drained_bare s dir.Capture state.Draining h = absurd (cc)
drained_bare s dir.Capture state.Paused h = absurd (cc)
drained_bare s dir.Capture state.Suspended h = absurd (cc)
drained_bare s dir.Capture state.Disconnected h = refl

-- a stream without a configuration is left as it is
pub bare_done : (a : Act) (s : Stream) → pre s a ≡ None → is_set_up s.state ≡ false → done a s ≡ s
bare_done act.Start s n h = absurd (not_both s.state state.Prepared (starts_from s.dir s.state (first_none (table kind.Start s) _ n)) h refl)
bare_done (act.Stop u) s n h = stopped_bare u s s.state h
bare_done (act.Prepare first) s n h = absurd (let k : is_set_up s.state ≡ true = prepares_from first s.dir s.state n in cc)
bare_done act.Pause s n h = absurd (not_both s.state state.Running (pauses_from s.dir s.state (then_none (when (not s.model.can_pause) errno.Enosys) (table kind.PausePush s) n)) h refl)
bare_done act.Release s n h = absurd (not_both s.state state.Paused (releases_from s.dir s.state (then_none (when (not s.model.can_pause) errno.Enosys) (table kind.PauseRelease s) n)) h refl)
bare_done act.Suspend s n h = absurd (let k : is_set_up s.state ≡ true = kept_set_up s.state (may_suspend s.dir s.state n) in cc)
bare_done act.Resume s n h = absurd (not_both s.state state.Suspended (resumes_from s.dir s.state (then_none (when (not s.model.can_resume) errno.Enosys) (table kind.Resume s) n)) h refl)
bare_done act.Drain s n h = drained_bare s s.dir s.state h
bare_done act.Watch s n h = refl

pub Sound-done : (a : Act) (s : Stream) → is_stop a ≡ true → pre s a ≡ None → Sound s → Sound (done a s)
Sound-done a s i n h = Sound-as s (done a s) (setup-done a s) (λ c k. IsConfigured-done c a s i n k) (λ k. subst IsBare (sym (bare_done a s n k.state)) k) h

-- a plan that moved on
pub Sound-consulted : (s : Stream) → Sound s → Sound (consulted s)
Sound-consulted s h = Sound-as s (consulted s) refl
    (λ c k. IsConfigured-at c s (consulted s) (IsShaped-as c s (consulted s) refl refl refl k.shaped)
    (record { reported = k.placed.reported; near = k.placed.near; origin = k.placed.origin; written = k.placed.written; fewer = k.placed.fewer; filled = k.placed.filled }) refl refl refl refl k)
    (λ k. record { state = k.state; setup = k.setup; at = k.at; moved = k.moved; stands = k.stands; unmapped = k.unmapped; taken = k.taken; to_give = k.to_give; kept = k.kept }) h

pub Sound-asked : (a : Act) (s : Stream) → Sound s → Sound (asked s a)
Sound-asked a s h = by (asks s a)
  where
    by : (b : Bool) → Sound (cond b (consulted s) s)
    by true = Sound-consulted s h
    by false = h

pre_consulted : (a : Act) (s : Stream) → pre (consulted s) a ≡ pre s a
pre_consulted act.Start s = refl
pre_consulted (act.Stop u) s = refl
pre_consulted (act.Prepare first) s = refl
pre_consulted act.Pause s = refl
pre_consulted act.Release s = refl
pre_consulted act.Suspend s = refl
pre_consulted act.Resume s = refl
pre_consulted act.Drain s = refl
pre_consulted act.Watch s = refl

pre_asked : (a : Act) (s : Stream) → pre (asked s a) a ≡ pre s a
pre_asked a s = by (asks s a)
  where
    by : (b : Bool) → pre (cond b (consulted s) s) a ≡ pre s a
    by true = pre_consulted a s
    by false = refl

failed : (b : Bool) (a : Act) (s : Stream) → Sound s → Sound (cond b (asked s a) s)
failed true a s h = Sound-asked a s h
failed false a s h = h

fits_done : (k : SubId) (s : Stream) (a : Act) (v : Vote) → Fits k s a v outcome.Done → pre s a ≡ None
fits_done k s a vote.Yes h = h.0
fits_done k s a (vote.Refuse e) h = absurd h
fits_done k s a vote.Fail h = absurd h
fits_done k s a vote.Unasked h = absurd h

pub Sound-after : (k : SubId) (a : Act) (v : Vote) (o : Outcome) (s : Stream) → is_stop a ≡ true → Fits k s a v o → Sound s → Sound (after a v o s)
Sound-after k a v outcome.Done s i f h = Sound-done a (asked s a) i (pre_asked a s ∙ fits_done k s a v f) (Sound-asked a s h)
Sound-after k a v (outcome.Refused j e) s i f h = h
Sound-after k a v (outcome.Failed j) s i f h = failed (was_asked v) a s h

pub Sound-fresh : (m : CardModel) (d : Dir) (n : ℕ) → Sound (fresh m d n)
Sound-fresh m d n = record { state = refl; setup = refl; at = refl; moved = refl; stands = refl; unmapped = refl; taken = refl; to_give = refl; kept = refl }
