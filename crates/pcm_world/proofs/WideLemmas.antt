-- The frames in a stream's buffer have as many bytes as its frames, whatever acts and updates do.
use Rattle.std.proofs.Common.{Bool, true, false, cond, nat_lt, replicate}
use Rattle.std.specs.declared.option.Option.{Option}
use Rattle.std.specs.declared.option.Option.TheVariants.{Some, None}
use Rattle.std.proofs.lemmas.List.{length-replicate}
use Rattle.pcm_base.specs.declared.act.Act.{Act}
use Rattle.pcm_base.specs.declared.act.Act.TheVariants as act
use Rattle.pcm_base.specs.declared.act.Outcome.{Outcome}
use Rattle.pcm_base.specs.declared.act.Outcome.TheVariants as outcome
use Rattle.pcm_base.specs.declared.act.Updated.{Updated}
use Rattle.pcm_base.specs.declared.act.Updated.TheVariants as updated
use Rattle.pcm_base.specs.declared.act.Vote.{Vote}
use Rattle.pcm_base.specs.declared.state.Dir.{Dir}
use Rattle.pcm_base.specs.declared.state.Dir.TheVariants as dir
use Rattle.pcm_base.specs.declared.state.State.{State}
use Rattle.pcm_base.specs.declared.state.State.TheVariants as state
use Rattle.pcm_base.specs.model.Acts.{after, asked, asks, consulted, done, drained_from, resumed_to, stopped_in, was_asked}
use Rattle.pcm_base.specs.model.Stream.{Stream, avail}
use Rattle.pcm_base.specs.model.Update.{Refreshed, fill, fill_count, fill_start, found, lap, moved_up, reported, set_runs, set_state, settled, silence_byte, silent_frame, update}
use Rattle.pcm_stream.specs.Wide.{PutsAreWide}
use Rattle.pcm_stream.proofs.RunsLemmas.{AreWide-replicate, PutsAreWide-put_at}

abbrev pub HasWidePuts : Stream → Type 0
HasWidePuts s = PutsAreWide s.setup.frame_bytes s.puts

wide-fill : (s : Stream) → HasWidePuts s → HasWidePuts (fill s)
wide-fill s h =
    PutsAreWide-put_at s.setup.frame_bytes (fill_start s) (replicate (fill_count s) (silent_frame s)) s.puts
    (AreWide-replicate (fill_count s) s.setup.frame_bytes (silent_frame s) (length-replicate s.setup.frame_bytes (silence_byte s.setup.config))) h

wide-one : (b : Bool) (s t : Stream) → HasWidePuts s → HasWidePuts t → HasWidePuts (cond b s t)
wide-one true s t h g = h
wide-one false s t h g = g

wide-stopped : (u : State) (s : Stream) (t : State) → HasWidePuts s
    → HasWidePuts (stopped_in t u s)
wide-stopped u s state.Closed h = h
wide-stopped u s state.Opened h = h
wide-stopped u s state.Setup h = h
wide-stopped u s state.Prepared h = h
wide-stopped u s state.Running h = h
wide-stopped u s state.Xrun h = h
wide-stopped u s state.Draining h = h
wide-stopped u s state.Paused h = h
wide-stopped u s state.Suspended h = h
wide-stopped u s state.Disconnected h = h

wide-resumed : (s : Stream) (k : Option State) → HasWidePuts s → HasWidePuts (resumed_to k s)
wide-resumed s None h = h
wide-resumed s (Some t) h = h

wide-begun : (t : State) (s : Stream) → HasWidePuts s → HasWidePuts (fill (set_runs true (set_state t s)))
wide-begun t s h = wide-fill (set_runs true (set_state t s)) h

wide-drained : (s : Stream) (d : Dir) (t : State) → HasWidePuts s → HasWidePuts (drained_from d t s)
wide-drained s dir.Playback state.Closed h = h
wide-drained s dir.Playback state.Opened h = h
wide-drained s dir.Playback state.Setup h = h
wide-drained s dir.Playback state.Prepared h = wide-one (nat_lt (avail s) s.setup.buffer) (fill (set_runs true (set_state state.Draining s))) (set_state state.Setup s) (wide-begun state.Draining s h) h
wide-drained s dir.Playback state.Running h = h
wide-drained s dir.Playback state.Xrun h = h
wide-drained s dir.Playback state.Draining h = h
wide-drained s dir.Playback state.Paused h = h
wide-drained s dir.Playback state.Suspended h = h
wide-drained s dir.Playback state.Disconnected h = h
wide-drained s dir.Capture state.Closed h = h
wide-drained s dir.Capture state.Opened h = h
wide-drained s dir.Capture state.Setup h = h
wide-drained s dir.Capture state.Prepared h = h
wide-drained s dir.Capture state.Running h = wide-one (nat_lt 0 (avail s)) (set_state state.Draining s) (set_state state.Setup s) h h
wide-drained s dir.Capture state.Xrun h = h
wide-drained s dir.Capture state.Draining h = h
wide-drained s dir.Capture state.Paused h = h
wide-drained s dir.Capture state.Suspended h = h
wide-drained s dir.Capture state.Disconnected h = h

wide-done : (a : Act) (s : Stream) → HasWidePuts s → HasWidePuts (done a s)
wide-done act.Start s h = wide-begun state.Running s h
wide-done (act.Stop u) s h = wide-stopped u s s.state h
wide-done (act.Prepare first) s h = h
wide-done act.Pause s h = h
wide-done act.Release s h = h
wide-done act.Suspend s h = h
wide-done act.Resume s h = wide-resumed s s.kept h
wide-done act.Drain s h = wide-drained s s.dir s.state h
wide-done act.Watch s h = h

wide-asked : (a : Act) (s : Stream) → HasWidePuts s → HasWidePuts (asked s a)
wide-asked a s h = wide-one (asks s a) (consulted s) s h h

pub wide-after : (a : Act) (v : Vote) (o : Outcome) (s : Stream) → HasWidePuts s → HasWidePuts (after a v o s)
wide-after a v outcome.Done s h = wide-done a (asked s a) (wide-asked a s h)
wide-after a v (outcome.Refused k e) s h = h
wide-after a v (outcome.Failed k) s h = wide-one (was_asked v) (asked s a) s (wide-asked a s h) h

wide-settled : (u : Updated) (s : Stream) → HasWidePuts s → HasWidePuts (settled u s)
wide-settled updated.Nothing s h = h
wide-settled updated.StopXrun s h = h
wide-settled updated.DrainDone s h = h

pub wide-update : (s : Stream) → HasWidePuts s → HasWidePuts (update s).stream
wide-update s h = by s.card.runs (wide-settled (found (moved_up s)) (moved_up s) (wide-fill (lap (reported s)) h))
  where
    by : (b : Bool) → HasWidePuts (settled (found (moved_up s)) (moved_up s))
        → HasWidePuts (cond b (record { found = found (moved_up s); stream = settled (found (moved_up s)) (moved_up s) }) (let r : Refreshed = record { found = updated.Nothing; stream = s } in r)).stream
    by true g = g
    by false g = h
