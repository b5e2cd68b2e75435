-- What a member shows between the acts of one event.
use Rattle.std.proofs.Common.{◌≡◌, ℕ, ◌%◌, Bool, true, false, cond, not, ◌&&◌, ◌||◌, nat_lt, List, [], ◌∷◌, refl, sym, ap, ◌∙◌, subst}
use Rattle.std.specs.declared.option.Option.{Option}
use Rattle.std.specs.declared.option.Option.TheVariants.{Some, None}
use Rattle.pcm_base.specs.declared.act.Act.{Act}
use Rattle.pcm_base.specs.declared.act.Act.TheVariants as act
use Rattle.pcm_base.specs.declared.act.Outcome.{Outcome}
use Rattle.pcm_base.specs.declared.act.Outcome.TheVariants as outcome
use Rattle.pcm_base.specs.declared.act.Vote.{Vote}
use Rattle.pcm_base.specs.declared.act.Vote.TheVariants as vote
use Rattle.pcm_base.specs.declared.ids.SubId.{SubId}
use Rattle.pcm_base.specs.declared.state.Dir.{Dir}
use Rattle.pcm_base.specs.declared.state.Dir.TheVariants as dir
use Rattle.pcm_base.specs.declared.state.State.{State}
use Rattle.pcm_base.specs.declared.state.State.TheVariants as state
use Rattle.pcm_base.specs.model.Acts.{after, asked, asks, consulted, done, drained_from, resumed_to, stopped_in, was_asked}
use Rattle.pcm_base.specs.model.Replay.{Joins, Part, joined}
use Rattle.pcm_base.specs.model.Stream.{Setup, Stream, avail, shown}
use Rattle.pcm_base.specs.model.Update.{fill, set_runs, set_state}
use Rattle.pcm_laws.specs.Steps.{ActsLeaveTheRest}
use Rattle.room_lock.specs.Between.{MarksShow, follow, goes_before, is_done, is_watch, may_follow, sets_running, state_then, stays_at}

hw_of : Stream → ℕ
hw_of s = s.at.hw

one_of : (b : Bool) (s t u : Stream) → s.at.hw ≡ u.at.hw → t.at.hw ≡ u.at.hw → (cond b s t).at.hw ≡ u.at.hw
one_of true s t u e g = e
one_of false s t u e g = g

stop_at : (u : State) (s : Stream) (t : State)
    → (stopped_in t u s).at.hw ≡ s.at.hw
stop_at u s state.Closed = refl
stop_at u s state.Opened = refl
stop_at u s state.Setup = refl
stop_at u s state.Prepared = refl
stop_at u s state.Running = refl
stop_at u s state.Xrun = refl
stop_at u s state.Draining = refl
stop_at u s state.Paused = refl
stop_at u s state.Suspended = refl
stop_at u s state.Disconnected = refl

resume_at : (s : Stream) (k : Option State) → (resumed_to k s).at.hw ≡ s.at.hw
resume_at s None = refl
resume_at s (Some t) = refl

drain_at : (s : Stream) (d : Dir) (t : State) → (drained_from d t s).at.hw ≡ s.at.hw
drain_at s dir.Playback state.Closed = refl
drain_at s dir.Playback state.Opened = refl
drain_at s dir.Playback state.Setup = refl
drain_at s dir.Playback state.Prepared = one_of (nat_lt (avail s) s.setup.buffer) (fill (set_runs true (set_state state.Draining s))) (set_state state.Setup s) s refl refl
drain_at s dir.Playback state.Running = refl
drain_at s dir.Playback state.Xrun = refl
drain_at s dir.Playback state.Draining = refl
drain_at s dir.Playback state.Paused = refl
drain_at s dir.Playback state.Suspended = refl
drain_at s dir.Playback state.Disconnected = refl
drain_at s dir.Capture state.Closed = refl
drain_at s dir.Capture state.Opened = refl
drain_at s dir.Capture state.Setup = refl
drain_at s dir.Capture state.Prepared = refl
drain_at s dir.Capture state.Running = one_of (nat_lt 0 (avail s)) (set_state state.Draining s) (set_state state.Setup s) s refl refl
drain_at s dir.Capture state.Xrun = refl
drain_at s dir.Capture state.Draining = refl
drain_at s dir.Capture state.Paused = refl
drain_at s dir.Capture state.Suspended = refl
drain_at s dir.Capture state.Disconnected = refl

done_at : (a : Act) (s : Stream) → stays_at a ≡ true → (done a s).at.hw ≡ s.at.hw
done_at act.Start s h = refl
done_at (act.Stop u) s h = stop_at u s s.state
done_at (act.Prepare first) s h = absurd (cc)
done_at act.Pause s h = refl
done_at act.Release s h = refl
done_at act.Suspend s h = refl
done_at act.Resume s h = resume_at s s.kept
done_at act.Drain s h = drain_at s s.dir s.state
done_at act.Watch s h = refl

asked_at : (a : Act) (s : Stream) → (asked s a).at.hw ≡ s.at.hw
asked_at a s = one_of (asks s a) (consulted s) s s refl refl

after_at : (a : Act) (v : Vote) (o : Outcome) (s : Stream) → stays_at a ≡ true → (after a v o s).at.hw ≡ s.at.hw
after_at a v outcome.Done s h = done_at a (asked s a) h ∙ asked_at a s
after_at a v (outcome.Refused k e) s h = refl
after_at a v (outcome.Failed k) s h = one_of (was_asked v) (asked s a) s s (asked_at a s) refl

same_shown : ActsLeaveTheRest → (p : Part) (s : Stream) → stays_at p.act ≡ true → shown (joined p s) (joined p s).at.hw ≡ shown s s.at.hw
same_shown leaves p s h = ap (λ (z : ℕ × ℕ). z.0 % z.1) (λ i. (after_at p.act p.vote p.outcome s h i, (ap (λ (c : Setup). c.boundary) (leaves p.act p.vote p.outcome s).setup) i))

-- a watch changes nothing
watch_same : (v : Vote) (o : Outcome) (s : Stream) → after act.Watch v o s ≡ s
watch_same v outcome.Done s = refl
watch_same v (outcome.Refused k e) s = refl
watch_same vote.Yes (outcome.Failed k) s = refl
watch_same (vote.Refuse e) (outcome.Failed k) s = refl
watch_same vote.Fail (outcome.Failed k) s = refl
watch_same vote.Unasked (outcome.Failed k) s = refl

watched : (p : Part) (s : Stream) → is_watch p.act ≡ true → joined p s ≡ s
watched p s h = by p.act h
  where
    by : (a : Act) → is_watch a ≡ true → after a p.vote p.outcome s ≡ s
    by act.Watch e = watch_same p.vote p.outcome s
    by act.Start e = absurd (cc)
    by (act.Stop t) e = absurd (cc)
    by (act.Prepare b) e = absurd (cc)
    by act.Pause e = absurd (cc)
    by act.Release e = absurd (cc)
    by act.Suspend e = absurd (cc)
    by act.Resume e = absurd (cc)
    by act.Drain e = absurd (cc)

-- an act that sets its members running, where it is done
runs_now : (p : Part) (s : Stream) → sets_running p.act ≡ true → is_done p.outcome ≡ true → (joined p s).state ≡ state.Running
runs_now p s h k = by p.act p.outcome h k
  where
    by : (a : Act) (o : Outcome) → sets_running a ≡ true → is_done o ≡ true → (after a p.vote o s).state ≡ state.Running
    by a (outcome.Refused j e) h k = absurd (cc)
    by a (outcome.Failed j) h k = absurd (cc)
    by act.Start outcome.Done h k = refl
    by act.Release outcome.Done h k = refl
    by (act.Stop t) outcome.Done h k = absurd (cc)
    by (act.Prepare b) outcome.Done h k = absurd (cc)
    by act.Pause outcome.Done h k = absurd (cc)
    by act.Suspend outcome.Done h k = absurd (cc)
    by act.Resume outcome.Done h k = absurd (cc)
    by act.Drain outcome.Done h k = absurd (cc)
    by act.Watch outcome.Done h k = absurd (cc)

and_left : (a b : Bool) → (a && b) ≡ true → a ≡ true
and_left true b h = refl
and_left false b h = h

and_right : (a b : Bool) → (a && b) ≡ true → b ≡ true
and_right true b h = h
and_right false b h = absurd (cc)

-- what follows an act: a watch, or an act that leaves the position after one that set its members running
follows_watch : (a : Act) (o : Outcome) (b : Act) → may_follow a o b ≡ true → is_watch a ≡ false
follows_watch a o b h = by (is_watch a) (and_left (not (is_watch a)) (is_watch b || (sets_running a && (is_done o && stays_at b))) h)
  where
    by : (w : Bool) → not w ≡ true → w ≡ false
    by true e = absurd (cc)
    by false e = refl

follows_run : (a : Act) (o : Outcome) (b : Act) → may_follow a o b ≡ true → is_watch b ≡ false → (sets_running a && (is_done o && stays_at b)) ≡ true
follows_run a o b h w =
    let e = and_right (not (is_watch a)) (is_watch b || (sets_running a && (is_done o && stays_at b))) h in
    subst (λ (x : Bool). (x || (sets_running a && (is_done o && stays_at b))) ≡ true) w e

stays : (a : Act) → is_watch a ≡ true → stays_at a ≡ true
stays act.Watch e = refl
stays act.Start e = refl
stays (act.Stop t) e = refl
stays (act.Prepare b) e = absurd (cc)
stays act.Pause e = refl
stays act.Release e = refl
stays act.Suspend e = refl
stays act.Resume e = refl
stays act.Drain e = refl

follows_stays : (a : Act) (o : Outcome) (b : Act) → may_follow a o b ≡ true → stays_at b ≡ true
follows_stays a o b h = by (is_watch b) refl
  where
    by : (w : Bool) → is_watch b ≡ w → stays_at b ≡ true
    by true e = stays b e
    by false e = and_right (is_done o) (stays_at b) (and_right (sets_running a) (is_done o && stays_at b) (follows_run a o b h e))

-- after a first act that leaves the position, all that follow leave it
rest_shown : ActsLeaveTheRest → (j : SubId) (s : Stream) (p : Part) (ps : List Part) (t : Stream) → stays_at p.act ≡ true → follow (p ∷ ps) ≡ true → Joins j s (p ∷ ps) t → shown t t.at.hw ≡ shown s s.at.hw
rest_shown leaves j s p [] t h f run = ap (λ (x : Stream). shown x x.at.hw) run.1 ∙ same_shown leaves p s h
rest_shown leaves j s p (q ∷ ps) t h f run =
    let one = and_left (may_follow p.act p.outcome q.act) (follow (q ∷ ps)) f in
    let all = and_right (may_follow p.act p.outcome q.act) (follow (q ∷ ps)) f in
    rest_shown leaves j (joined p s) q ps t (follows_stays p.act p.outcome q.act one) all run.1 ∙ same_shown leaves p s h

-- a watch is the last
ends_there : (j : SubId) (s : Stream) (q : Part) (ps : List Part) (t : Stream) → is_watch q.act ≡ true → follow (q ∷ ps) ≡ true → Joins j s (q ∷ ps) t → t ≡ s
ends_there j s q [] t w f run = run.1 ∙ watched q s w
ends_there j s q (r ∷ ps) t w f run =
    let no = follows_watch q.act q.outcome r.act (and_left (may_follow q.act q.outcome r.act) (follow (r ∷ ps)) f) in absurd (cc)

first_shows : ActsLeaveTheRest → (j : SubId) (s : Stream) (p : Part) (ps : List Part) (t : Stream) → follow (p ∷ ps) ≡ true → Joins j s (p ∷ ps) t
    → (state_then ps t.state ≡ (joined p s).state) × (shown t t.at.hw ≡ shown (joined p s) (joined p s).at.hw)
first_shows leaves j s p [] t f run = (ap (λ (x : Stream). x.state) run.1, ap (λ (x : Stream). shown x x.at.hw) run.1)
first_shows leaves j s p (q ∷ ps) t f run = by (is_watch q.act) refl
  where
    one : may_follow p.act p.outcome q.act ≡ true
    one = and_left (may_follow p.act p.outcome q.act) (follow (q ∷ ps)) f

    all : follow (q ∷ ps) ≡ true
    all = and_right (may_follow p.act p.outcome q.act) (follow (q ∷ ps)) f

    by : (w : Bool) → is_watch q.act ≡ w → (cond w t.state state.Running ≡ (joined p s).state) × (shown t t.at.hw ≡ shown (joined p s) (joined p s).at.hw)
    by true e = let same : t ≡ joined p s = ends_there j (joined p s) q ps t e all run.1 in (ap (λ (x : Stream). x.state) same, ap (λ (x : Stream). shown x x.at.hw) same)
    by false e =
        let runs = follows_run p.act p.outcome q.act one e in (
          sym (runs_now p s (and_left (sets_running p.act) (is_done p.outcome && stays_at q.act) runs) (and_left (is_done p.outcome) (stays_at q.act) (and_right (sets_running p.act) (is_done p.outcome && stays_at q.act) runs))),
          rest_shown leaves j (joined p s) q ps t (follows_stays p.act p.outcome q.act one) all run.1,
        )

pub marks_show : ActsLeaveTheRest → MarksShow
marks_show leaves j s [] t k n f run = tt
marks_show leaves j s (p ∷ ps) t k n f run = (
  first_shows leaves j s p ps t f run,
  marks_show leaves j (joined p s) ps t k n (and_right (goes_before p ps) (follow ps) f) run.1,
)
