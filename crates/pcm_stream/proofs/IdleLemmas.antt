-- A stream that was set up anew or taken down, and not prepared since: its card does not run, and no transfer moves a frame.
use Rattle.std.proofs.Common.{ℕ, ◌≡◌, ◌+◌, ◌-◌, ◌/◌, ◌⊎◌, inl, inr, Bool, true, false, cond, not, ◌&&◌, ◌||◌, nat_eq, nat_le, nat_lt, List, [], length, if◌then◌else◌, refl, sym, ap, ◌∙◌, subst}
use Rattle.std.specs.declared.option.Option.{Option}
use Rattle.std.specs.declared.option.Option.TheVariants.{Some, None}
use Rattle.pcm_base.specs.Boundary.{boundary_of}
use Rattle.pcm_base.specs.declared.act.Act.{Act}
use Rattle.pcm_base.specs.declared.act.Act.TheVariants as act
use Rattle.pcm_base.specs.declared.act.Outcome.{Outcome}
use Rattle.pcm_base.specs.declared.act.Outcome.TheVariants as outcome
use Rattle.pcm_base.specs.declared.act.Updated.TheVariants as updated
use Rattle.pcm_base.specs.declared.act.Vote.{Vote}
use Rattle.pcm_base.specs.declared.act.Vote.TheVariants as vote
use Rattle.pcm_base.specs.declared.call.Call.{Call}
use Rattle.pcm_base.specs.declared.call.Call.TheVariants as call
use Rattle.pcm_base.specs.declared.call.CallKind.TheVariants as kind
use Rattle.pcm_base.specs.declared.ids.ClientId.{ClientId}
use Rattle.pcm_base.specs.declared.ids.SubId.{SubId}
use Rattle.pcm_base.specs.declared.reply.Reply.TheVariants as reply
use Rattle.pcm_base.specs.declared.sleeper.Task.TheVariants as task
use Rattle.pcm_base.specs.declared.state.Dir.{Dir}
use Rattle.pcm_base.specs.declared.state.Dir.TheVariants as dir
use Rattle.pcm_base.specs.declared.state.Errno.TheVariants as errno
use Rattle.pcm_base.specs.declared.state.State.{State}
use Rattle.pcm_base.specs.declared.state.State.TheVariants as state
use Rattle.pcm_base.specs.model.Acts.{after, asked, asks, consulted, done, pre, resumed_to, stopped_in, table, was_asked}
use Rattle.pcm_base.specs.model.Allowed.{accepts, buffer_of}
use Rattle.pcm_base.specs.model.Events.{closed, event, freed, hands, if_held, is_busy, opens, page, program, set_setup, setup_of}
use Rattle.pcm_base.specs.model.Movement.{Movement, move, carried, carried_frames, taken_bytes}
use Rattle.pcm_base.specs.model.Permit.{permit}
use Rattle.pcm_base.specs.model.PointerCalls.{sync_to}
use Rattle.pcm_base.specs.model.Program.{Answer, fails, says}
use Rattle.pcm_base.specs.model.Replay.{Fits, Part, Plays}
use Rattle.pcm_base.specs.model.Sound.{Sound, is_stop}
use Rattle.pcm_base.specs.model.Standing.{put_at}
use Rattle.pcm_base.specs.model.Stream.{Stream, avail}
use Rattle.pcm_base.specs.model.Transfer.{frames_in, is_whole, waiting_for}
use Rattle.pcm_base.specs.model.Update.{Refreshed, found, moved_up, settled, update}
use Rattle.pcm_base.specs.model.Words.{is_closed, is_playback, runs_in, when, ◌then◌}
use Rattle.pcm_laws.proofs.KeptByActs.{first_none, then_none}
use Rattle.pcm_stream.specs.KeepingUp.{NonePrepares, is_prepare}
use Rattle.pcm_stream.proofs.ActsLemmas.{Sound-runs}
use Rattle.pcm_stream.proofs.AheadLemmas.{drained_by}
use Rattle.pcm_stream.proofs.FitLemmas.{AllFit, fit-more, fit-of, fit-others}
use Rattle.pcm_stream.proofs.Walk.{IsKept, Keeps, Plays-kept, if-kept, is_plain, program-kept, unless-kept}

-- the states that only a Prepare leaves for one in which frames move
abbrev pub is_idle : State → Option State → Bool
is_idle state.Closed k = true
is_idle state.Opened k = true
is_idle state.Setup k = true
is_idle state.Xrun k = true
is_idle state.Disconnected k = true
is_idle state.Suspended (Some state.Xrun) = true
is_idle t k = false

pub record IsIdle (d : Dir) (s : Stream) : Type 0 where
  pub way : s.dir ≡ d
  pub idle : is_idle s.state s.kept ≡ true
  pub fit : AllFit d s.sleepers

idle-stands : (d : Dir) (t : State) (k : Option State) → is_idle t k ≡ true → runs_in d t ≡ false
idle-stands d state.Closed k h = refl
idle-stands d state.Opened k h = refl
idle-stands d state.Setup k h = refl
idle-stands d state.Prepared k h = refl
idle-stands d state.Running k h = absurd (cc)
idle-stands d state.Xrun k h = refl
idle-stands d state.Draining k h = absurd (cc)
idle-stands d state.Paused k h = refl
idle-stands d state.Suspended k h = refl
idle-stands d state.Disconnected k h = refl

-- its card stands
pub idle-card : (d : Dir) (s : Stream) → Sound s → IsIdle d s → s.card.runs ≡ false
idle-card d s sound h = Sound-runs s sound ∙ idle-stands s.dir s.state s.kept h.idle

-- the same state
idle-as : (d : Dir) (s t : Stream) → t.dir ≡ s.dir → t.state ≡ s.state → t.kept ≡ s.kept → t.sleepers ≡ s.sleepers → IsIdle d s → IsIdle d t
idle-as d s t way e k w h = record {
  way = way ∙ h.way;
  idle = ap (λ (x : State). is_idle x t.kept) e ∙ ap (λ (x : Option State). is_idle s.state x) k ∙ h.idle;
  fit = subst (AllFit d) (sym w) h.fit;
}

-- ---- acts

no-start : (v : Dir) (t : State) (k : Option State) → is_idle t k ≡ true → permit kind.Start t v ≡ None → ⊥
no-start v state.Closed k h e = cc
no-start v state.Opened k h e = cc
no-start v state.Setup k h e = cc
no-start v state.Prepared k h e = cc
no-start v state.Running k h e = cc
no-start v state.Xrun k h e = cc
no-start v state.Draining k h e = cc
no-start v state.Paused k h e = cc
no-start v state.Suspended k h e = cc
no-start v state.Disconnected k h e = cc

no-pause : (v : Dir) (t : State) (k : Option State) → is_idle t k ≡ true → permit kind.PausePush t v ≡ None → ⊥
no-pause v state.Closed k h e = cc
no-pause v state.Opened k h e = cc
no-pause v state.Setup k h e = cc
no-pause v state.Prepared k h e = cc
no-pause v state.Running k h e = cc
no-pause v state.Xrun k h e = cc
no-pause v state.Draining k h e = cc
no-pause v state.Paused k h e = cc
no-pause v state.Suspended k h e = cc
no-pause v state.Disconnected k h e = cc

no-release : (v : Dir) (t : State) (k : Option State) → is_idle t k ≡ true → permit kind.PauseRelease t v ≡ None → ⊥
no-release v state.Closed k h e = cc
no-release v state.Opened k h e = cc
no-release v state.Setup k h e = cc
no-release v state.Prepared k h e = cc
no-release v state.Running k h e = cc
no-release v state.Xrun k h e = cc
no-release v state.Draining k h e = cc
no-release v state.Paused k h e = cc
no-release v state.Suspended k h e = cc
no-release v state.Disconnected k h e = cc

-- only an underrun is suspended
suspends : (v : Dir) (t : State) (k : Option State) → is_idle t k ≡ true → permit kind.Suspend t v ≡ None → is_idle state.Suspended (Some t) ≡ true
suspends v state.Closed k h e = absurd (cc)
suspends v state.Opened k h e = absurd (cc)
suspends v state.Setup k h e = absurd (cc)
suspends v state.Prepared k h e = absurd (cc)
suspends v state.Running k h e = absurd (cc)
suspends v state.Xrun k h e = refl
suspends v state.Draining k h e = absurd (cc)
suspends v state.Paused k h e = absurd (cc)
suspends v state.Suspended k h e = absurd (cc)
suspends v state.Disconnected k h e = absurd (cc)

-- what is kept of it
back : (t : State) → is_idle state.Suspended (Some t) ≡ true → is_idle t None ≡ true
back state.Closed h = refl
back state.Opened h = refl
back state.Setup h = refl
back state.Prepared h = absurd (cc)
back state.Running h = absurd (cc)
back state.Xrun h = refl
back state.Draining h = absurd (cc)
back state.Paused h = absurd (cc)
back state.Suspended h = absurd (cc)
back state.Disconnected h = refl

resumed-from : (v : Dir) (u t : State) → permit kind.Resume u v ≡ None → is_idle u (Some t) ≡ true → is_idle t None ≡ true
resumed-from v state.Closed t e h = absurd (cc)
resumed-from v state.Opened t e h = absurd (cc)
resumed-from v state.Setup t e h = absurd (cc)
resumed-from v state.Prepared t e h = absurd (cc)
resumed-from v state.Running t e h = absurd (cc)
resumed-from v state.Xrun t e h = absurd (cc)
resumed-from v state.Draining t e h = absurd (cc)
resumed-from v state.Paused t e h = absurd (cc)
resumed-from v state.Suspended t e h = back t h
resumed-from v state.Disconnected t e h = absurd (cc)

resumes-idle : (d : Dir) (s : Stream) (k : Option State) → permit kind.Resume s.state s.dir ≡ None → is_idle s.state k ≡ true → IsIdle d s
    → IsIdle d (resumed_to k s)
resumes-idle d s None e i h = h
resumes-idle d s (Some t) e i h = record { way = h.way; idle = resumed-from s.dir s.state t e i; fit = h.fit }

stop-idle : (u : State) → is_stop (act.Stop u) ≡ true → is_idle u None ≡ true
stop-idle state.Setup h = refl
stop-idle state.Xrun h = refl
stop-idle _ h = absurd (cc)

stops-idle : (d : Dir) (u : State) (s : Stream) (t : State) → is_stop (act.Stop u) ≡ true → IsIdle d s
    → IsIdle d (stopped_in t u s)
stops-idle d u s state.Closed i h = h
stops-idle d u s state.Opened i h = h
stops-idle d u s state.Disconnected i h = h
stops-idle d u s _ i h = record { way = h.way; idle = stop-idle u i; fit = h.fit }

drains-idle : (d : Dir) (s : Stream) (v : Dir) (t : State) → is_idle t s.kept ≡ true → IsIdle d s → IsIdle d (drained_by s v t)
drains-idle d s dir.Playback state.Prepared i h = absurd (cc)
drains-idle d s dir.Playback state.Running i h = absurd (cc)
drains-idle d s dir.Playback state.Xrun i h = record { way = h.way; idle = refl; fit = h.fit }
drains-idle d s dir.Playback _ i h = h
drains-idle d s dir.Capture state.Running i h = absurd (cc)
drains-idle d s dir.Capture _ i h = h

idle-done : (d : Dir) (a : Act) (s : Stream) → is_stop a ≡ true → is_prepare a outcome.Done ≡ false → pre s a ≡ None → IsIdle d s → IsIdle d (done a s)
idle-done d act.Start s i y q h = absurd (no-start s.dir s.state s.kept h.idle (first_none (table kind.Start s) (when (is_playback s.dir && nat_lt s.setup.sw.stop_threshold s.setup.boundary && nat_le s.setup.buffer (avail s)) errno.Epipe) q))
idle-done d (act.Stop u) s i y q h = stops-idle d u s s.state i h
idle-done d (act.Prepare first) s i y q h = absurd (cc)
idle-done d act.Pause s i y q h = absurd (no-pause s.dir s.state s.kept h.idle (then_none (when (not s.model.can_pause) errno.Enosys) (table kind.PausePush s) q))
idle-done d act.Release s i y q h = absurd (no-release s.dir s.state s.kept h.idle (then_none (when (not s.model.can_pause) errno.Enosys) (table kind.PauseRelease s) q))
idle-done d act.Suspend s i y q h = record { way = h.way; idle = suspends s.dir s.state s.kept h.idle q; fit = h.fit }
idle-done d act.Resume s i y q h = resumes-idle d s s.kept (then_none (when (not s.model.can_resume) errno.Enosys) (table kind.Resume s) q) h.idle h
idle-done d act.Drain s i y q h = drains-idle d s s.dir s.state h.idle h
idle-done d act.Watch s i y q h = h

idle-consulted : (d : Dir) (s : Stream) → IsIdle d s → IsIdle d (consulted s)
idle-consulted d s h = record { way = h.way; idle = h.idle; fit = h.fit }

idle-asked : (d : Dir) (a : Act) (s : Stream) → IsIdle d s → IsIdle d (asked s a)
idle-asked d a s h = by (asks s a)
  where
    by : (b : Bool) → IsIdle d (cond b (consulted s) s)
    by true = idle-consulted d s h
    by false = h

pre-consulted : (a : Act) (s : Stream) → pre (consulted s) a ≡ pre s a
pre-consulted act.Start s = refl
pre-consulted (act.Stop u) s = refl
pre-consulted (act.Prepare first) s = refl
pre-consulted act.Pause s = refl
pre-consulted act.Release s = refl
pre-consulted act.Suspend s = refl
pre-consulted act.Resume s = refl
pre-consulted act.Drain s = refl
pre-consulted act.Watch s = refl

pre-asked : (a : Act) (s : Stream) → pre (asked s a) a ≡ pre s a
pre-asked a s = by (asks s a)
  where
    by : (b : Bool) → pre (cond b (consulted s) s) a ≡ pre s a
    by true = pre-consulted a s
    by false = refl

pub idle-after : (d : Dir) (k : SubId) (a : Act) (v : Vote) (o : Outcome) (s : Stream) → is_stop a ≡ true → Fits k s a v o → is_prepare a o ≡ false → IsIdle d s → IsIdle d (after a v o s)
idle-after d k a vote.Yes outcome.Done s i f y h = idle-done d a (asked s a) i y (pre-asked a s ∙ f.0) (idle-asked d a s h)
idle-after d k a vote.Fail outcome.Done s i f y h = absurd f
idle-after d k a (vote.Refuse e) outcome.Done s i f y h = absurd f
idle-after d k a vote.Unasked outcome.Done s i f y h = absurd f
idle-after d k a v (outcome.Refused j e) s i f y h = h
idle-after d k a v (outcome.Failed j) s i f y h = by (was_asked v)
  where
    by : (b : Bool) → IsIdle d (cond b (asked s a) s)
    by true = idle-asked d a s h
    by false = h

-- ---- the card

idle-update : (d : Dir) (s : Stream) → Sound s → IsIdle d s → IsIdle d (update s).stream
idle-update d s sound h = by s.card.runs (idle-card d s sound h)
  where
    by : (r : Bool) → r ≡ false → (let q : Refreshed = if r then record { found = found (moved_up s); stream = settled (found (moved_up s)) (moved_up s) } else record { found = updated.Nothing; stream = s } in IsIdle d q.stream)
    by true e = absurd (cc)
    by false e = h

idle-move : (d : Dir) (n : ℕ) (s : Stream) → Sound s → IsIdle d s → IsIdle d (move n s).stream
idle-move d n s sound h = by s.card.runs (idle-card d s sound h) (nat_le (s.at.hw + s.setup.buffer) (s.at.card + n)) (nat_lt 67108864 (taken_bytes n s))
  where
    by : (r : Bool) → r ≡ false → (far much : Bool) → (let m : Movement = if not r then record { reply = reply.Idle; frames = []; stream = s } else if far then record { reply = reply.Late (s.setup.buffer - 1 - (s.at.card - s.at.hw)); frames = []; stream = s } else if much then record { reply = reply.Limit (taken_bytes n s); frames = []; stream = s } else record { reply = reply.Moved n; frames = carried_frames n s; stream = carried n s } in IsIdle d m.stream)
    by true e far much = absurd (cc)
    by false e far much = h

-- ---- all changes but a Prepare

idle-kept : (d : Dir) → IsKept is_prepare d (IsIdle d)
idle-kept d = record {
  way = λ s h. h.way;
  fit = λ c x wanted s h e. fit-of d c s.sleepers x wanted h.fit e;
  updated = λ s sound h. idle-update d s sound h;
  acts = λ k a v o s i f y sound h. idle-after d k a v o s i f y h;
  backs = λ n s few sound h. idle-as d s _ refl refl refl refl h;
  ons = λ n s few sound h. idle-as d s _ refl refl refl refl h;
  puts = λ fs s i few sound h. idle-as d s _ refl refl refl refl h;
  moves = λ n s sound h. idle-move d n s sound h;
  sleeps = λ c x rest m wanted s y h. record { way = h.way; idle = h.idle; fit = fit-more d (waiting_for c x rest m wanted) s.sleepers h.fit y };
  drains = λ c s h. record { way = h.way; idle = h.idle; fit = fit-more d (record { client = c; task = task.Drain }) s.sleepers h.fit tt };
  leaves = λ c s h. record { way = h.way; idle = h.idle; fit = fit-others d c s.sleepers h.fit };
  maps = λ n s h. idle-as d s _ refl refl refl refl h;
  sws = λ v s h. idle-as d s _ refl refl refl refl h;
  plans = λ n s h. idle-as d s _ refl refl refl refl h;
  gives = λ gs s h. idle-as d s _ refl refl refl refl h;
  unplugs = λ s h. record { way = h.way; idle = refl; fit = h.fit };
}

-- ---- a stream that is set up anew or taken down

-- calls that give the stream another buffer, or take it away
abbrev pub renews : Call → Bool
renews (call.HwParams config) = true
renews call.HwFree = true
renews call.CloseSub = true
renews _ = false

abbrev pub OrIdle : (Stream → Type 0) → Dir → Stream → Type 0
OrIdle P d s = P s ⊎ IsIdle d s

-- they leave the stream as it was, or idle
pub renewed : (P : Stream → Type 0) (d : Dir) (k : SubId) (e : Call) (c : ClientId) (linked : Bool) (io : List ℕ) (s : Stream) → renews e ≡ true → s.dir ≡ d → AllFit d s.sleepers → P s
    → Keeps is_prepare (OrIdle P d) k (program e c linked io s)
renewed P d k call.CloseSub c linked io s y way fit h =
    let idle : IsIdle d (closed s) = record { way = way; idle = refl; fit = fit } in
    if-kept is_prepare (OrIdle P d) k (is_closed s.state && not (opens call.CloseSub)) (fails errno.Enxio s) (event call.CloseSub c linked io s) (λ _. inl h)
    (λ _. unless-kept is_prepare (OrIdle P d) k (when (linked || nat_lt 0 s.mappings || is_busy s) errno.Ebusy) s (says reply.Ok (closed s)) (inl h) (λ _. inr idle))
renewed P d k (call.HwParams w) c linked io s y way fit h =
    let set : Stream = set_setup (setup_of w s.long_max) state.Setup (boundary_of (buffer_of w) s.long_max) s in
    let idle : IsIdle d (set_setup (setup_of w s.long_max) state.Setup (boundary_of (buffer_of w) s.long_max) s) = record { way = way; idle = refl; fit = fit } in
    let bare : IsIdle d (freed s) = record { way = way; idle = refl; fit = fit } in
    if-kept is_prepare (OrIdle P d) k (is_closed s.state && not (opens (call.HwParams w))) (fails errno.Enxio s) (event (call.HwParams w) c linked io s) (λ _. inl h)
    (λ _. unless-kept is_prepare (OrIdle P d) k (table kind.HwParams s then if_held s) s (if accepts s.model s.long_max w then says reply.Ok set else fails errno.Einval (freed s)) (inl h)
    (λ _. if-kept is_prepare (OrIdle P d) k (accepts s.model s.long_max w) (says reply.Ok set) (fails errno.Einval (freed s)) (λ _. inr idle) (λ _. inr bare)))
renewed P d k call.HwFree c linked io s y way fit h =
    let bare : IsIdle d (freed s) = record { way = way; idle = refl; fit = fit } in
    if-kept is_prepare (OrIdle P d) k (is_closed s.state && not (opens call.HwFree)) (fails errno.Enxio s) (event call.HwFree c linked io s) (λ _. inl h)
    (λ _. unless-kept is_prepare (OrIdle P d) k (table kind.HwFree s then if_held s) s (says reply.Ok (freed s)) (inl h) (λ _. inr bare))
renewed P d k _ c linked io s y way fit h = absurd (cc)

both-idle : (d : Dir) (s : Stream) → OrIdle (IsIdle d) d s → IsIdle d s
both-idle d s (inl h) = h
both-idle d s (inr h) = h

-- ---- events

idle-renews : (d : Dir) (k : SubId) (e : Call) (c : ClientId) (linked : Bool) (io : List ℕ) (ps : List Part) (a : Answer) (s t : Stream) → renews e ≡ true → Plays k (program e c linked io s) ps a t
    → NonePrepares ps → IsIdle d s → IsIdle d t
idle-renews d k e c linked io ps a s t y h n r =
    both-idle d t (Plays-kept (OrIdle (IsIdle d) d) k (program e c linked io s) ps a t h n (renewed (IsIdle d) d k e c linked io s y r.way r.fit r))

pub idle-own : (d : Dir) (k : SubId) (e : Call) (c : ClientId) (linked : Bool) (io : List ℕ) (ps : List Part) (a : Answer) (s t : Stream) → Plays k (program e c linked io s) ps a t
    → NonePrepares ps → Sound s → IsIdle d s → IsIdle d t
idle-own d k call.OpenSub c linked io ps a s t h n sound r =
    let P : Stream → Type 0 = IsIdle d in
    let opened : Stream = record s { state = state.Opened } in
    let idle : IsIdle d (record s { state = state.Opened }) = record { way = r.way; idle = refl; fit = r.fit } in
    Plays-kept P k (program call.OpenSub c linked io s) ps a t h n
    (if-kept is_prepare P k (is_closed s.state && not (opens call.OpenSub)) (fails errno.Enxio s) (event call.OpenSub c linked io s) (λ _. r)
    (λ _. if-kept is_prepare P k (is_closed s.state) (says reply.Ok opened) (fails errno.Ebusy s) (λ _. idle) (λ _. r)))
idle-own d k call.CloseSub c linked io ps a s t h n sound r = idle-renews d k call.CloseSub c linked io ps a s t refl h n r
idle-own d k (call.HwParams w) c linked io ps a s t h n sound r = idle-renews d k (call.HwParams w) c linked io ps a s t refl h n r
idle-own d k call.HwFree c linked io ps a s t h n sound r = idle-renews d k call.HwFree c linked io ps a s t refl h n r
idle-own d k (call.SyncPtr p) c linked io ps a s t h n sound r =
    let P : Stream → Type 0 = IsIdle d in
    Plays-kept P k (program (call.SyncPtr p) c linked io s) ps a t h n
    (if-kept is_prepare P k (is_closed s.state && not (opens (call.SyncPtr p))) (fails errno.Enxio s) (event (call.SyncPtr p) c linked io s) (λ _. r)
    (λ _. unless-kept is_prepare P k (table kind.SyncPtr s then when (nat_le s.setup.boundary p) errno.Einval) s (says (reply.Ptrs (page (sync_to p s))) (sync_to p s)) r
    (λ _. idle-as d s (sync_to p s) refl refl refl refl r)))
idle-own d k (call.Store o) c linked io ps a s t h n sound r =
    let P : Stream → Type 0 = IsIdle d in
    let m : ℕ = length io / s.setup.frame_bytes in
    Plays-kept P k (program (call.Store o) c linked io s) ps a t h n
    (if-kept is_prepare P k (is_closed s.state && not (opens (call.Store o))) (fails errno.Enxio s) (event (call.Store o) c linked io s) (λ _. r)
    (λ _. unless-kept is_prepare P k (when (not (is_playback s.dir) || nat_eq s.mappings 0 || not (is_whole s io) || nat_lt s.setup.buffer (o + m)) errno.Einval) s
    (hands (reply.Frames m) (frames_in s io) (record s { puts = put_at o (frames_in s io) s.puts })) r
    (λ _. idle-as d s (record s { puts = put_at o (frames_in s io) s.puts }) refl refl refl refl r)))
idle-own d k e c linked io ps a s t h n sound r = by (is_plain e) refl
  where
    by : (x : Bool) → is_plain e ≡ x → IsIdle d t
    by true q = Plays-kept (IsIdle d) k (program e c linked io s) ps a t h n (program-kept is_prepare d (IsIdle d) (idle-kept d) k e c linked io s q sound r)
    by false q = absurd (cc)
