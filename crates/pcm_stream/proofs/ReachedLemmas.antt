-- What holds of every stream that a fresh one has come to: it is sound, and its transfers in progress go its way.
use Rattle.std.proofs.Common.{ℕ, ◌≡◌, ◌+◌, ◌-◌, ◌/◌, Bool, true, false, cond, not, ◌&&◌, ◌||◌, nat_eq, nat_le, nat_lt, List, [], ◌∷◌, length, if◌then◌else◌, refl, sym, ◌∙◌, subst}
use Rattle.pcm_base.specs.Boundary.{boundary_of}
use Rattle.pcm_base.specs.declared.act.Act.{Act}
use Rattle.pcm_base.specs.declared.act.Act.TheVariants as act
use Rattle.pcm_base.specs.declared.act.Outcome.{Outcome}
use Rattle.pcm_base.specs.declared.act.Outcome.TheVariants as outcome
use Rattle.pcm_base.specs.declared.act.Updated.{Updated}
use Rattle.pcm_base.specs.declared.act.Updated.TheVariants as updated
use Rattle.pcm_base.specs.declared.act.Vote.{Vote}
use Rattle.pcm_base.specs.declared.call.Call.{Call}
use Rattle.pcm_base.specs.declared.call.Call.TheVariants as call
use Rattle.pcm_base.specs.declared.call.CallKind.TheVariants as kind
use Rattle.pcm_base.specs.declared.config.CardModel.{CardModel}
use Rattle.pcm_base.specs.declared.ids.ClientId.{ClientId}
use Rattle.pcm_base.specs.declared.ids.SubId.{SubId}
use Rattle.pcm_base.specs.declared.reply.Reply.TheVariants as reply
use Rattle.pcm_base.specs.declared.sleeper.Task.TheVariants as task
use Rattle.pcm_base.specs.declared.state.Dir.{Dir}
use Rattle.pcm_base.specs.declared.state.Dir.TheVariants as dir
use Rattle.pcm_base.specs.declared.state.Errno.TheVariants as errno
use Rattle.pcm_base.specs.declared.state.State.TheVariants as state
use Rattle.pcm_base.specs.model.Acts.{after, table}
use Rattle.pcm_base.specs.model.Allowed.{accepts, buffer_of}
use Rattle.pcm_base.specs.model.Events.{closed, event, freed, hands, if_held, is_busy, opens, page, program, set_setup, setup_of}
use Rattle.pcm_base.specs.model.Movement.{Movement, carried, carried_by, carried_frames, move, taken_bytes}
use Rattle.pcm_base.specs.model.PointerCalls.{sync_to}
use Rattle.pcm_base.specs.model.Program.{Answer, Ends, Makes, Program, fails, going_on, says}
use Rattle.pcm_base.specs.model.Replay.{Fits, Part, Plays, joined}
use Rattle.pcm_base.specs.model.Sound.{Sound}
use Rattle.pcm_base.specs.model.Standing.{put_at}
use Rattle.pcm_base.specs.model.Stream.{Stream, all_at, fresh}
use Rattle.pcm_base.specs.model.Transfer.{frames_in, is_whole, waiting_for}
use Rattle.pcm_base.specs.model.Update.{Refreshed, found, moved_up, settled, update}
use Rattle.pcm_base.specs.model.Words.{is_closed, is_paused, is_playback, is_suspended, when, ◌then◌}
use Rattle.pcm_laws.proofs.KeptByEvents.{KeepsSound-program}
use Rattle.pcm_laws.proofs.KeptByReplays.{Plays-sound}
use Rattle.pcm_laws.proofs.KeptByVotes.{Sound-after}
use Rattle.pcm_laws.proofs.Leaves.{IsSameBesideActs-after}
use Rattle.pcm_stream.specs.KeepingUp.{Goes, IsAny, IsReached, Moment, Own, Prepares, Runs, Shared, is_prepare}
use Rattle.pcm_stream.proofs.FitLemmas.{AllFit, fit-more, fit-of, fit-others}
use Rattle.pcm_stream.proofs.Walk.{IsKept, Keeps, Plays-kept_by, bars_none, if-kept, is_plain, none-barred, program-kept, unless-kept}

-- its direction, and that of its transfers in progress
pub record HasWay (d : Dir) (s : Stream) : Type 0 where
  pub way : s.dir ≡ d
  pub fit : AllFit d s.sleepers

way-as : (d : Dir) (s t : Stream) → t.dir ≡ s.dir → t.sleepers ≡ s.sleepers → HasWay d s → HasWay d t
way-as d s t way w h = record { way = way ∙ h.way; fit = subst (AllFit d) (sym w) h.fit }

way-settled : (d : Dir) (u : Updated) (s : Stream) → HasWay d s → HasWay d (settled u s)
way-settled d updated.Nothing s h = h
way-settled d updated.StopXrun s h = h
way-settled d updated.DrainDone s h = way-as d s (settled updated.DrainDone s) refl refl h

way-update : (d : Dir) (s : Stream) → HasWay d s → HasWay d (update s).stream
way-update d s h = by s.card.runs
  where
    by : (r : Bool) → (let q : Refreshed = if r then record { found = found (moved_up s); stream = settled (found (moved_up s)) (moved_up s) } else record { found = updated.Nothing; stream = s } in HasWay d q.stream)
    by true = way-settled d (found (moved_up s)) (moved_up s) (way-as d s (moved_up s) refl refl h)
    by false = h

way-after : (d : Dir) (a : Act) (v : Vote) (o : Outcome) (s : Stream) → HasWay d s → HasWay d (after a v o s)
way-after d a v o s h = let q = IsSameBesideActs-after a v o s in way-as d s (after a v o s) q.dir q.sleepers h

way-carried : (d : Dir) (n : ℕ) (s : Stream) → HasWay d s → HasWay d (carried n s)
way-carried d n s h = by s.dir
  where
    by : (v : Dir) → HasWay d (carried_by v n s)
    by dir.Playback = record { way = h.way; fit = h.fit }
    by dir.Capture = record { way = h.way; fit = h.fit }

way-move : (d : Dir) (n : ℕ) (s : Stream) → HasWay d s → HasWay d (move n s).stream
way-move d n s h = by (not s.card.runs) (nat_le (s.at.hw + s.setup.buffer) (s.at.card + n)) (nat_lt 67108864 (taken_bytes n s))
  where
    by : (stands far much : Bool) → (let m : Movement = if stands then record { reply = reply.Idle; frames = []; stream = s } else if far then record { reply = reply.Late (s.setup.buffer - 1 - (s.at.card - s.at.hw)); frames = []; stream = s } else if much then record { reply = reply.Limit (taken_bytes n s); frames = []; stream = s } else record { reply = reply.Moved n; frames = carried_frames n s; stream = carried n s } in HasWay d m.stream)
    by true far much = h
    by false true much = h
    by false false true = h
    by false false false = way-carried d n s h

way-kept : (d : Dir) → IsKept bars_none d (HasWay d)
way-kept d = record {
  way = λ s h. h.way;
  fit = λ c x wanted s h e. fit-of d c s.sleepers x wanted h.fit e;
  updated = λ s sound h. way-update d s h;
  acts = λ k a v o s i f y sound h. way-after d a v o s h;
  backs = λ n s few sound h. way-as d s _ refl refl h;
  ons = λ n s few sound h. way-as d s _ refl refl h;
  puts = λ fs s i few sound h. way-as d s _ refl refl h;
  moves = λ n s sound h. way-move d n s h;
  sleeps = λ c x rest m wanted s y h. record { way = h.way; fit = fit-more d (waiting_for c x rest m wanted) s.sleepers h.fit y };
  drains = λ c s h. record { way = h.way; fit = fit-more d (record { client = c; task = task.Drain }) s.sleepers h.fit tt };
  leaves = λ c s h. record { way = h.way; fit = fit-others d c s.sleepers h.fit };
  maps = λ n s h. way-as d s _ refl refl h;
  sws = λ v s h. way-as d s _ refl refl h;
  plans = λ n s h. way-as d s _ refl refl h;
  gives = λ gs s h. way-as d s _ refl refl h;
  unplugs = λ s h. way-as d s _ refl refl h;
}

-- ---- moments

way-program : (d : Dir) (k : SubId) (e : Call) (c : ClientId) (linked : Bool) (io : List ℕ) (s : Stream) → Sound s → HasWay d s → Keeps bars_none (HasWay d) k (program e c linked io s)
way-program d k call.OpenSub c linked io s sound r =
    let P : Stream → Type 0 = HasWay d in
    let opened : Stream = record s { state = state.Opened } in
    if-kept bars_none P k (is_closed s.state && not (opens call.OpenSub)) (fails errno.Enxio s) (event call.OpenSub c linked io s) (λ _. r)
    (λ _. if-kept bars_none P k (is_closed s.state) (says reply.Ok opened) (fails errno.Ebusy s) (λ _. way-as d s opened refl refl r) (λ _. r))
way-program d k call.CloseSub c linked io s sound r =
    let P : Stream → Type 0 = HasWay d in
    if-kept bars_none P k (is_closed s.state && not (opens call.CloseSub)) (fails errno.Enxio s) (event call.CloseSub c linked io s) (λ _. r)
    (λ _. unless-kept bars_none P k (when (linked || nat_lt 0 s.mappings || is_busy s) errno.Ebusy) s (says reply.Ok (closed s)) r (λ _. way-as d s (closed s) refl refl r))
way-program d k (call.HwParams w) c linked io s sound r =
    let P : Stream → Type 0 = HasWay d in
    let set : Stream = set_setup (setup_of w s.long_max) state.Setup (boundary_of (buffer_of w) s.long_max) s in
    if-kept bars_none P k (is_closed s.state && not (opens (call.HwParams w))) (fails errno.Enxio s) (event (call.HwParams w) c linked io s) (λ _. r)
    (λ _. unless-kept bars_none P k (table kind.HwParams s then if_held s) s (if accepts s.model s.long_max w then says reply.Ok set else fails errno.Einval (freed s)) r
    (λ _. if-kept bars_none P k (accepts s.model s.long_max w) (says reply.Ok set) (fails errno.Einval (freed s)) (λ _. way-as d s set refl refl r) (λ _. way-as d s (freed s) refl refl r)))
way-program d k call.HwFree c linked io s sound r =
    let P : Stream → Type 0 = HasWay d in
    if-kept bars_none P k (is_closed s.state && not (opens call.HwFree)) (fails errno.Enxio s) (event call.HwFree c linked io s) (λ _. r)
    (λ _. unless-kept bars_none P k (table kind.HwFree s then if_held s) s (says reply.Ok (freed s)) r (λ _. way-as d s (freed s) refl refl r))
way-program d k (call.SyncPtr p) c linked io s sound r =
    let P : Stream → Type 0 = HasWay d in
    if-kept bars_none P k (is_closed s.state && not (opens (call.SyncPtr p))) (fails errno.Enxio s) (event (call.SyncPtr p) c linked io s) (λ _. r)
    (λ _. unless-kept bars_none P k (table kind.SyncPtr s then when (nat_le s.setup.boundary p) errno.Einval) s (says (reply.Ptrs (page (sync_to p s))) (sync_to p s)) r (λ _. way-as d s (sync_to p s) refl refl r))
way-program d k (call.Store o) c linked io s sound r =
    let P : Stream → Type 0 = HasWay d in
    let m : ℕ = length io / s.setup.frame_bytes in
    if-kept bars_none P k (is_closed s.state && not (opens (call.Store o))) (fails errno.Enxio s) (event (call.Store o) c linked io s) (λ _. r)
    (λ _. unless-kept bars_none P k (when (not (is_playback s.dir) || nat_eq s.mappings 0 || not (is_whole s io) || nat_lt s.setup.buffer (o + m)) errno.Einval) s
    (hands (reply.Frames m) (frames_in s io) (record s { puts = put_at o (frames_in s io) s.puts })) r
    (λ _. way-as d s (record s { puts = put_at o (frames_in s io) s.puts }) refl refl r))
way-program d k e c linked io s sound r = by (is_plain e) refl
  where
    by : (x : Bool) → is_plain e ≡ x → Keeps bars_none (HasWay d) k (program e c linked io s)
    by true q = program-kept bars_none d (HasWay d) (way-kept d) k e c linked io s q sound r
    by false q = absurd (cc)

-- a moment leaves a sound stream, and its way
pub record IsBorne (d : Dir) (s : Stream) : Type 0 where
  pub sound : Sound s
  pub has : HasWay d s

pub borne-on : (d : Dir) (k : SubId) (m : Moment) (s t : Stream) → Goes k m s t → IsBorne d s → IsBorne d t
borne-on d k (Own e c linked io ps a) s t h r = record {
  sound = (Plays-sound k (program e c linked io s) ps a t h (KeepsSound-program k e c linked io s r.sound)).0;
  has = Plays-kept_by bars_none (HasWay d) k (program e c linked io s) ps a t h (none-barred ps) (way-program d k e c linked io s r.sound r.has);
}
borne-on d k (Shared q) s t h r =
    let joint : Stream = joined q s in
    let now : IsBorne d (joined q s) = record { sound = Sound-after k q.act q.vote q.outcome s h.0 h.1.0 r.sound; has = way-after d q.act q.vote q.outcome s r.has } in
    subst (IsBorne d) (sym h.1.1) now

borne-runs : (d : Dir) (k : SubId) (ms : List Moment) (s t : Stream) → Runs k IsAny ms s t → IsBorne d s → IsBorne d t
borne-runs d k [] s t h r = subst (IsBorne d) (sym h) r
borne-runs d k (m ∷ ms) s t h r = borne-runs d k ms h.0 t h.3 (borne-on d k m s h.0 h.1 r)

borne-fresh : (d : Dir) (m : CardModel) (n : ℕ) → IsBorne d (fresh m d n)
borne-fresh d m n = record {
  sound = record { state = refl; setup = refl; at = refl; moved = refl; stands = refl; unmapped = refl; taken = refl; to_give = refl; kept = refl };
  has = record { way = refl; fit = tt };
}

pub reached : (k : SubId) (d : Dir) (s : Stream) → IsReached k d s → IsBorne d s
reached k d s h = borne-runs d k h.moments (fresh h.model d h.long_max) s h.runs (borne-fresh d h.model h.long_max)

-- ---- a Prepare

-- each answer of the program, and the stream with it
abbrev pub Always : (Answer → Stream → Type 0) → SubId → Program → Type 0
Always Q k (Ends a s) = Q a s
Always Q k (Makes a s f) = (v : Vote) (o : Outcome) → Fits k s a v o → Always Q k (f o (after a v o s))

pub Plays-always : (Q : Answer → Stream → Type 0) (k : SubId) (p : Program) (ps : List Part) (b : Answer) (t : Stream) → Plays k p ps b t → Always Q k p → Q b t
Plays-always Q k (Ends a s) [] b t h g = subst (λ (u : Stream). Q b u) (sym h.1) (subst (λ (x : Answer). Q x s) (sym h.0) g)
Plays-always Q k (Ends a s) (q ∷ ps) b t h g = absurd h
Plays-always Q k (Makes a s f) [] b t h g = absurd h
Plays-always Q k (Makes a s f) (q ∷ ps) b t h g =
    let fit : Fits k s a q.vote q.outcome = subst (λ x. Fits k s x q.vote q.outcome) h.0 h.1 in
    let next : Always Q k (f q.outcome (joined q s)) = subst (λ x. Always Q k (f q.outcome (joined (record { act = x; vote = q.vote; outcome = q.outcome }) s))) (sym h.0) (g q.vote q.outcome fit) in
    Plays-always Q k (f q.outcome (joined q s)) ps b t h.2 next

abbrev pub AtStart : Stream → Type 0
AtStart s = s.at ≡ all_at s.setup.boundary

abbrev StartsWhereOk : Answer → Stream → Type 0
StartsWhereOk a s = a.reply ≡ reply.Ok → AtStart s

prepared-act : (first : Bool) (v : Vote) (s : Stream) → AtStart (after (act.Prepare first) v outcome.Done s)
prepared-act first v s = refl

prepared-alone : (k : SubId) (first : Bool) (v : Vote) (o : Outcome) (s : Stream) → Always StartsWhereOk k (going_on (says reply.Ok) o (after (act.Prepare first) v o s))
prepared-alone k first v outcome.Done s = λ _. prepared-act first v s
prepared-alone k first v (outcome.Refused j e) s = λ q. absurd (cc)
prepared-alone k first v (outcome.Failed j) s = λ q. absurd (cc)

prepared-program : (k : SubId) (c : ClientId) (linked : Bool) (io : List ℕ) (s : Stream) → Always StartsWhereOk k (program call.Prepare c linked io s)
prepared-program k c linked io s = by (is_closed s.state && not (opens call.Prepare))
  where
    by : (b : Bool) → Always StartsWhereOk k (cond b (fails errno.Enxio s) (event call.Prepare c linked io s))
    by true = λ q. absurd (cc)
    by false = λ v o f. prepared-alone k (is_paused s.state || is_suspended s.state) v o s

prepared-joint : (a : Act) (v : Vote) (o : Outcome) (s : Stream) → is_prepare a o ≡ true → AtStart (after a v o s)
prepared-joint (act.Prepare first) v outcome.Done s h = prepared-act first v s
prepared-joint _ v _ s h = absurd (cc)

pub prepares-start : (k : SubId) (m : Moment) (s t : Stream) → Prepares m → Goes k m s t → AtStart t
prepares-start k (Own call.Prepare c linked io ps a) s t h g = Plays-always StartsWhereOk k (program call.Prepare c linked io s) ps a t g (prepared-program k c linked io s) h
prepares-start k (Shared q) s t h g = subst AtStart (sym g.1.1) (prepared-joint q.act q.vote q.outcome s h)
prepares-start k (Own _ c linked io ps a) s t h g = absurd h
