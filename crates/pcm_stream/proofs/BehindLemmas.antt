-- A read that keeps up: on capture what stands is what the card has put there.
use Rattle.std.proofs.Common.{ℕ, ◌≡◌, ◌+◌, ◌-◌, Bool, true, false, cond, not, nat_le, nat_lt, List, [], ◌++◌, length, if◌then◌else◌, refl, sym, ap, ◌∙◌, subst, arith, length-append}
use Rattle.std.specs.declared.option.Option.{Option}
use Rattle.std.specs.declared.option.Option.TheVariants.{Some, None}
use Rattle.pcm_base.specs.declared.act.Act.{Act}
use Rattle.pcm_base.specs.declared.act.Act.TheVariants as act
use Rattle.pcm_base.specs.declared.act.Outcome.{Outcome}
use Rattle.pcm_base.specs.declared.act.Outcome.TheVariants as outcome
use Rattle.pcm_base.specs.declared.act.Updated.{Updated}
use Rattle.pcm_base.specs.declared.act.Updated.TheVariants as updated
use Rattle.pcm_base.specs.declared.act.Vote.{Vote}
use Rattle.pcm_base.specs.declared.reply.Reply.TheVariants as reply
use Rattle.pcm_base.specs.declared.sleeper.Task.TheVariants as task
use Rattle.pcm_base.specs.declared.state.Dir.{Dir}
use Rattle.pcm_base.specs.declared.state.Dir.TheVariants as dir
use Rattle.pcm_base.specs.declared.state.State.{State}
use Rattle.pcm_base.specs.declared.state.State.TheVariants as state
use Rattle.pcm_base.specs.model.Acts.{after, asked, asks, consulted, done, drained_from, resumed_to, stopped_in, was_asked}
use Rattle.pcm_base.specs.model.Frame.{Frame}
use Rattle.pcm_base.specs.model.Movement.{Movement, move, given_by, carried, carried_frames, taken_bytes}
use Rattle.pcm_base.specs.model.Standing.{Put, put_at}
use Rattle.pcm_base.specs.model.Stream.{Stream, avail}
use Rattle.pcm_base.specs.model.Transfer.{waiting_for}
use Rattle.pcm_base.specs.model.Update.{Refreshed, fill, found, lap, moved_up, reported, set_runs, set_state, settled, update}
use Rattle.pcm_base.specs.model.Words.{runs_in}
use Rattle.pcm_laws.proofs.Puts.{put_at-append}
use Rattle.pcm_stream.specs.KeepingUp.{is_prepare}
use Rattle.pcm_stream.proofs.CardLemmas.{length-given}
use Rattle.pcm_stream.proofs.FitLemmas.{AllFit, fit-more, fit-of, fit-others}
use Rattle.pcm_stream.proofs.MoveLemmas.{captured, carried-capture}
use Rattle.pcm_stream.proofs.StreamLemmas.{fill-capture}
use Rattle.pcm_stream.proofs.Walk.{IsKept}

-- ---- what the card has put

-- since the positions were at the start l, where these puts stood before, the card has put these frames
pub record Recorded (l b : ℕ) (before : List Put) (s : Stream) : Type 0 where
  pub way : s.dir ≡ dir.Capture
  pub buffer : s.setup.buffer ≡ b
  pub frames : List Frame
  pub puts : s.puts ≡ put_at l frames before
  pub card : s.at.card ≡ l + length frames
  pub fit : AllFit dir.Capture s.sleepers

-- a stream that is the same in what counts
pub again : (l b : ℕ) (before : List Put) (s t : Stream) → t.dir ≡ s.dir → t.setup.buffer ≡ s.setup.buffer → t.puts ≡ s.puts → t.at.card ≡ s.at.card → t.sleepers ≡ s.sleepers
    → Recorded l b before s → Recorded l b before t
again l b before s t d u p c w h = record {
  way = d ∙ h.way;
  buffer = u ∙ h.buffer;
  frames = h.frames;
  puts = p ∙ h.puts;
  card = c ∙ h.card;
  fit = subst (AllFit dir.Capture) (sym w) h.fit;
}

recorded-fill : (l b : ℕ) (before : List Put) (s : Stream) → Recorded l b before s → Recorded l b before (fill s)
recorded-fill l b before s h = subst (Recorded l b before) (sym (fill-capture s h.way)) h

recorded-settled : (l b : ℕ) (before : List Put) (u : Updated) (s : Stream) → Recorded l b before s → Recorded l b before (settled u s)
recorded-settled l b before updated.Nothing s h = h
recorded-settled l b before updated.StopXrun s h = h
recorded-settled l b before updated.DrainDone s h = again l b before s (settled updated.DrainDone s) refl refl refl refl refl h

recorded-update : (l b : ℕ) (before : List Put) (s : Stream) → Recorded l b before s → Recorded l b before (update s).stream
recorded-update l b before s h = by s.card.runs
  where
    up : Recorded l b before (moved_up s)
    up = recorded-fill l b before (lap (reported s)) (again l b before s (lap (reported s)) refl refl refl refl refl h)

    by : (r : Bool) → (let q : Refreshed = if r then record { found = found (moved_up s); stream = settled (found (moved_up s)) (moved_up s) } else record { found = updated.Nothing; stream = s } in Recorded l b before q.stream)
    by true = recorded-settled l b before (found (moved_up s)) (moved_up s) up
    by false = h

-- ---- acts

starts : (l b : ℕ) (before : List Put) (t : State) (s : Stream) → Recorded l b before s → Recorded l b before (fill (set_runs true (set_state t s)))
starts l b before t s h = recorded-fill l b before (set_runs true (set_state t s)) (again l b before s (set_runs true (set_state t s)) refl refl refl refl refl h)

stops : (l b : ℕ) (before : List Put) (u : State) (s : Stream) (t : State) → Recorded l b before s
    → Recorded l b before (stopped_in t u s)
stops l b before u s state.Closed h = h
stops l b before u s state.Opened h = h
stops l b before u s state.Disconnected h = h
stops l b before u s _ h = again l b before s (set_runs false (record s { state = u; kept = None })) refl refl refl refl refl h

resumes : (l b : ℕ) (before : List Put) (s : Stream) (k : Option State) → Recorded l b before s
    → Recorded l b before (resumed_to k s)
resumes l b before s None h = h
resumes l b before s (Some t) h = again l b before s (set_runs (runs_in s.dir t) (record s { state = t; kept = None })) refl refl refl refl refl h

one_of : (l b : ℕ) (before : List Put) (c : Bool) (s t : Stream) → Recorded l b before s → Recorded l b before t → Recorded l b before (cond c s t)
one_of l b before true s t e g = e
one_of l b before false s t e g = g

drains-as : (l b : ℕ) (before : List Put) (s : Stream) (d : Dir) (t : State) → Recorded l b before s → Recorded l b before (drained_from d t s)
drains-as l b before s dir.Playback state.Prepared h =
    one_of l b before (nat_lt (avail s) s.setup.buffer) (fill (set_runs true (set_state state.Draining s))) (set_state state.Setup s) (starts l b before state.Draining s h) (again l b before s (set_state state.Setup s) refl refl refl refl refl h)
drains-as l b before s dir.Playback state.Running h = again l b before s (set_state state.Draining s) refl refl refl refl refl h
drains-as l b before s dir.Playback state.Xrun h = again l b before s (set_state state.Setup s) refl refl refl refl refl h
drains-as l b before s dir.Playback _ h = h
drains-as l b before s dir.Capture state.Running h =
    let u : Stream = cond (nat_lt 0 (avail s)) (set_state state.Draining s) (set_state state.Setup s) in
    let g : Recorded l b before u =
    one_of l b before (nat_lt 0 (avail s)) (set_state state.Draining s) (set_state state.Setup s) (again l b before s (set_state state.Draining s) refl refl refl refl refl h) (again l b before s (set_state state.Setup s) refl refl refl refl refl h) in
    again l b before u (set_runs false u) refl refl refl refl refl g
drains-as l b before s dir.Capture _ h = h

recorded-done : (l b : ℕ) (before : List Put) (a : Act) (s : Stream) → is_prepare a outcome.Done ≡ false → Recorded l b before s → Recorded l b before (done a s)
recorded-done l b before act.Start s z h = starts l b before state.Running s h
recorded-done l b before (act.Stop u) s z h = stops l b before u s s.state h
recorded-done l b before (act.Prepare first) s z h = absurd (cc)
recorded-done l b before act.Pause s z h = again l b before s (done act.Pause s) refl refl refl refl refl h
recorded-done l b before act.Release s z h = again l b before s (done act.Release s) refl refl refl refl refl h
recorded-done l b before act.Suspend s z h = again l b before s (done act.Suspend s) refl refl refl refl refl h
recorded-done l b before act.Resume s z h = resumes l b before s s.kept h
recorded-done l b before act.Drain s z h = drains-as l b before s s.dir s.state h
recorded-done l b before act.Watch s z h = h

recorded-asked : (l b : ℕ) (before : List Put) (a : Act) (s : Stream) → Recorded l b before s → Recorded l b before (asked s a)
recorded-asked l b before a s h = one_of l b before (asks s a) (consulted s) s (again l b before s (consulted s) refl refl refl refl refl h) h

pub recorded-after : (l b : ℕ) (before : List Put) (a : Act) (v : Vote) (o : Outcome) (s : Stream) → is_prepare a o ≡ false → Recorded l b before s → Recorded l b before (after a v o s)
recorded-after l b before a v outcome.Done s z h = recorded-done l b before a (asked s a) z (recorded-asked l b before a s h)
recorded-after l b before a v (outcome.Refused k e) s z h = h
recorded-after l b before a v (outcome.Failed k) s z h = one_of l b before (was_asked v) (asked s a) s (recorded-asked l b before a s h) h

-- ---- movements

recorded-captured : (l b : ℕ) (before : List Put) (n : ℕ) (s : Stream) → Recorded l b before s → Recorded l b before (captured n s)
recorded-captured l b before n s h =
    let given : List Frame = given_by n s in
    let puts : put_at s.at.card (given_by n s) s.puts ≡ put_at l (h.frames ++ given_by n s) before =
    ap (λ i. put_at i (given_by n s) s.puts) h.card ∙ ap (λ qs. put_at (l + length h.frames) (given_by n s) qs) h.puts ∙ sym (put_at-append l h.frames (given_by n s) before) in
    record {
      way = h.way;
      buffer = h.buffer;
      frames = h.frames ++ given;
      puts = puts;
      card = omega (arith, h.card, length-append h.frames (given_by n s), length-given n s);
      fit = h.fit;
    }

pub recorded-move : (l b : ℕ) (before : List Put) (n : ℕ) (s : Stream) → Recorded l b before s → Recorded l b before (move n s).stream
recorded-move l b before n s h = by (not s.card.runs) (nat_le (s.at.hw + s.setup.buffer) (s.at.card + n)) (nat_lt 67108864 (taken_bytes n s))
  where
    by : (stands far much : Bool) → (let m : Movement = if stands then record { reply = reply.Idle; frames = []; stream = s } else if far then record { reply = reply.Late (s.setup.buffer - 1 - (s.at.card - s.at.hw)); frames = []; stream = s } else if much then record { reply = reply.Limit (taken_bytes n s); frames = []; stream = s } else record { reply = reply.Moved n; frames = carried_frames n s; stream = carried n s } in Recorded l b before m.stream)
    by true far much = h
    by false true much = h
    by false false true = h
    by false false false = subst (Recorded l b before) (sym (carried-capture n s h.way)) (recorded-captured l b before n s h)

-- ---- all changes

pub recorded-kept : (l b : ℕ) (before : List Put) → IsKept is_prepare dir.Capture (Recorded l b before)
recorded-kept l b before = record {
  way = λ s h. h.way;
  fit = λ c x wanted s h e. fit-of dir.Capture c s.sleepers x wanted h.fit e;
  updated = λ s sound h. recorded-update l b before s h;
  acts = λ k a v o s i f z sound h. recorded-after l b before a v o s z h;
  backs = λ n s few sound h. again l b before s _ refl refl refl refl refl h;
  ons = λ n s few sound h. again l b before s _ refl refl refl refl refl h;
  puts = λ fs s i few sound h. absurd (cc);
  moves = λ n s sound h. recorded-move l b before n s h;
  sleeps = λ c x rest m wanted s y h. record { way = h.way; buffer = h.buffer; frames = h.frames; puts = h.puts; card = h.card; fit = fit-more dir.Capture (waiting_for c x rest m wanted) s.sleepers h.fit y };
  drains = λ c s h. record { way = h.way; buffer = h.buffer; frames = h.frames; puts = h.puts; card = h.card; fit = fit-more dir.Capture (record { client = c; task = task.Drain }) s.sleepers h.fit tt };
  leaves = λ c s h. record { way = h.way; buffer = h.buffer; frames = h.frames; puts = h.puts; card = h.card; fit = fit-others dir.Capture c s.sleepers h.fit };
  maps = λ n s h. again l b before s _ refl refl refl refl refl h;
  sws = λ v s h. again l b before s _ refl refl refl refl refl h;
  plans = λ n s h. again l b before s _ refl refl refl refl refl h;
  gives = λ gs s h. again l b before s _ refl refl refl refl refl h;
  unplugs = λ s h. again l b before s _ refl refl refl refl refl h;
}
