-- Acts over a group (the pre, do, undo and post actions of pcm_native.c, snd_pcm_action_group): what each member answers, what the group decides, and what each member is afterwards. The votes are this project's own.
use Rattle.std.specs.Prelude.{Bool, true, false, not, ◌&&◌, nat_lt, nat_le, List, [], ◌∷◌, ◌++◌, length, replicate, drop, get_or, if◌then◌else◌}
use Rattle.std.specs.declared.option.Option.{Option}
use Rattle.std.specs.declared.option.Option.TheVariants.{Some, None}
use Rattle.pcm_base.specs.declared.act.Act.{Act}
use Rattle.pcm_base.specs.declared.act.Act.TheVariants as act
use Rattle.pcm_base.specs.declared.act.Outcome.{Outcome}
use Rattle.pcm_base.specs.declared.act.Outcome.TheVariants as outcome
use Rattle.pcm_base.specs.declared.act.Vote.{Vote}
use Rattle.pcm_base.specs.declared.act.Vote.TheVariants as vote
use Rattle.pcm_base.specs.declared.call.CallKind.{CallKind}
use Rattle.pcm_base.specs.declared.call.CallKind.TheVariants as kind
use Rattle.pcm_base.specs.declared.ids.SubId.{SubId}
use Rattle.pcm_base.specs.declared.state.Dir.{Dir}
use Rattle.pcm_base.specs.declared.state.Dir.TheVariants as dir
use Rattle.pcm_base.specs.declared.state.Errno.{Errno}
use Rattle.pcm_base.specs.declared.state.Errno.TheVariants as errno
use Rattle.pcm_base.specs.declared.state.State.{State}
use Rattle.pcm_base.specs.declared.state.State.TheVariants as state
use Rattle.pcm_base.specs.declared.votes.Acted.{Acted}
use Rattle.pcm_base.specs.model.Permit.{permit}
use Rattle.pcm_base.specs.model.Stream.{Stream, Member, all_at, avail}
use Rattle.pcm_base.specs.model.Update.{set_state, set_runs, fill}
use Rattle.pcm_base.specs.model.Words.{when, ◌then◌, is_playback, runs_in, is_prepared, is_draining}

-- the error table's answer on a stream
abbrev pub table : CallKind → Stream → Option Errno
table k s = permit k s.state s.dir

-- only CLOSED, OPEN and DISCONNECTED refuse
abbrev pub refuses_unopened : State → Option Errno
refuses_unopened state.Closed = Some errno.Enxio
refuses_unopened state.Opened = Some errno.Ebadfd
refuses_unopened state.Disconnected = Some errno.Ebadfd
refuses_unopened _ = None

-- a playback stream that is on its way to its end
abbrev pub drains : Stream → Bool
drains s = is_playback s.dir && is_draining s.state

-- the refusal of one member, its causes in order
abbrev pub pre : Stream → Act → Option Errno
pre s act.Start = table kind.Start s then when (is_playback s.dir && nat_lt s.setup.sw.stop_threshold s.setup.boundary && nat_le s.setup.buffer (avail s)) errno.Epipe
pre s (act.Stop t) = None
pre s (act.Prepare first) = if first then refuses_unopened s.state else table kind.Prepare s
pre s act.Pause = when (not s.model.can_pause) errno.Enosys then table kind.PausePush s
pre s act.Release = when (not s.model.can_pause) errno.Enosys then table kind.PauseRelease s
pre s act.Suspend = table kind.Suspend s
pre s act.Resume = when (not s.model.can_resume) errno.Enosys then table kind.Resume s
pre s act.Drain = table kind.Drain s
pre s act.Watch = when (drains s) errno.Eagain

-- the card ran in the state that is kept
abbrev pub ran : Dir → Option State → Bool
ran d None = false
ran d (Some t) = runs_in d t

-- the act starts a drain of what was written
abbrev pub starts_drain : Stream → Bool
starts_drain s = is_playback s.dir && is_prepared s.state && nat_lt (avail s) s.setup.buffer

-- the act consults the fault plan of this stream's card
abbrev pub asks : Stream → Act → Bool
asks s act.Start = true
asks s act.Pause = true
asks s act.Release = true
asks s act.Resume = ran s.dir s.kept
asks s act.Drain = starts_drain s
asks s _ = false

-- and it fails there
abbrev pub trips : Stream → Act → Bool
trips s a = asks s a && get_or s.card.plan 0 false

-- the plan without its first entry, and with an unset one behind
abbrev pub consulted : Stream → Stream
consulted s = record s { card = record s.card { plan = drop 1 s.card.plan ++ false ∷ [] } }

abbrev pub asked : Stream → Act → Stream
asked s a = if asks s a then consulted s else s

abbrev pub subs : List Member → List SubId
subs [] = []
subs (m ∷ ms) = m.sub ∷ subs ms

-- Some member refuses. What the members say then: yes before the first that does, unasked after it.
abbrev pub is_refused : Act → List Member → Bool
is_refused a [] = false
is_refused a (m ∷ ms) = elim (pre m.stream a) [ Some e ↦ true | None ↦ is_refused a ms ]

abbrev pub refusing : Act → List Member → List Vote
refusing a [] = []
refusing a (m ∷ ms) = elim (pre m.stream a) [ Some e ↦ vote.Refuse e ∷ replicate (length ms) vote.Unasked | None ↦ vote.Yes ∷ refusing a ms ]

-- what they say where none refuses
abbrev pub trying : Act → List Member → List Vote
trying a [] = []
trying a (m ∷ ms) = if trips m.stream a then vote.Fail ∷ replicate (length ms) vote.Unasked else vote.Yes ∷ trying a ms

-- one vote for each member, in link order
abbrev pub votes : Act → List Member → List Vote
votes a ms = if is_refused a ms then refusing a ms else trying a ms

-- the outcome that the votes alone tell
abbrev pub decide : List SubId → List Vote → Outcome
decide (k ∷ ks) (vote.Yes ∷ vs) = decide ks vs
decide (k ∷ ks) (vote.Refuse e ∷ vs) = outcome.Refused k e
decide (k ∷ ks) (vote.Fail ∷ vs) = outcome.Failed k
decide _ _ = outcome.Done

-- The effect of a drain, by direction and state: what was written is played, what was recorded can still be read, and where nothing is left the stream stops.
abbrev pub drained_from : Dir → State → Stream → Stream
drained_from dir.Playback state.Prepared s = if nat_lt (avail s) s.setup.buffer then fill (set_runs true (set_state state.Draining s)) else set_state state.Setup s
drained_from dir.Playback state.Running s = set_state state.Draining s
drained_from dir.Playback state.Xrun s = set_state state.Setup s
drained_from dir.Capture state.Running s = set_runs false (if nat_lt 0 (avail s) then set_state state.Draining s else set_state state.Setup s)
drained_from _ _ s = s

abbrev pub drained : Stream → Stream
drained s = drained_from s.dir s.state s

-- The effect of a stop to state t, by the state before: nothing in OPEN, CLOSED and DISCONNECTED.
abbrev pub stopped_in : State → State → Stream → Stream
stopped_in state.Opened t s = s
stopped_in state.Closed t s = s
stopped_in state.Disconnected t s = s
stopped_in _ t s = set_runs false (record s { state = t; kept = None })

abbrev pub stopped : State → Stream → Stream
stopped t s = stopped_in s.state t s

-- the effect of a resume, by the state that was kept
abbrev pub resumed_to : Option State → Stream → Stream
resumed_to None s = s
resumed_to (Some t) s = set_runs (runs_in s.dir t) (record s { state = t; kept = None })

abbrev pub resumed : Stream → Stream
resumed s = resumed_to s.kept s

-- the effect of an act that is done
abbrev pub done : Act → Stream → Stream
done act.Start s = fill (set_runs true (set_state state.Running s))
done (act.Stop t) s = stopped t s
done (act.Prepare _) s = set_runs false (record s { state = state.Prepared; kept = None; at = all_at s.setup.boundary })
done act.Pause s = set_runs false (set_state state.Paused s)
done act.Release s = set_runs true (set_state state.Running s)
done act.Suspend s = set_runs false (record s { state = state.Suspended; kept = Some s.state })
done act.Resume s = resumed s
done act.Drain s = drained s
done act.Watch s = s

-- the vote says that the card was asked
abbrev pub was_asked : Vote → Bool
was_asked vote.Yes = true
was_asked vote.Fail = true
was_asked _ = false

-- a member after an act, by its own vote and the outcome alone
abbrev pub after : Act → Vote → Outcome → Stream → Stream
after a v (outcome.Refused k e) s = s
after a v (outcome.Failed k) s = if was_asked v then asked s a else s
after a v outcome.Done s = done a (asked s a)

abbrev pub after_all : Act → Outcome → List Vote → List Member → List Member
after_all a o [] ms = ms
after_all a o (v ∷ vs) [] = []
after_all a o (v ∷ vs) (m ∷ ms) = record m { stream = after a v o m.stream } ∷ after_all a o vs ms

-- an act over a group, as its members decide it
abbrev pub acted : Act → List Member → Acted
acted a ms = record { act = a; outcome = decide (subs ms) (votes a ms); votes = votes a ms }

abbrev pub members_after : Acted → List Member → List Member
members_after d ms = after_all d.act d.outcome d.votes ms
