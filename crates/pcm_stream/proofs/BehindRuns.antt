-- The law of a read that keeps up, over runs.
use Rattle.std.proofs.Common.{ℕ, ◌≡◌, inl, inr, ◌+◌, ◌/◌, Bool, true, false, not, ◌&&◌, ◌||◌, nat_eq, nat_le, nat_lt, List, [], ◌∷◌, length, if◌then◌else◌, refl, sym, subst}
use Rattle.std.specs.declared.option.Option.TheVariants.{None}
use Rattle.pcm_base.specs.declared.call.Call.{Call}
use Rattle.pcm_base.specs.declared.call.Call.TheVariants as call
use Rattle.pcm_base.specs.declared.call.CallKind.TheVariants as kind
use Rattle.pcm_base.specs.declared.ids.ClientId.{ClientId}
use Rattle.pcm_base.specs.declared.ids.SubId.{SubId}
use Rattle.pcm_base.specs.declared.reply.Reply.TheVariants as reply
use Rattle.pcm_base.specs.declared.state.Dir.{Dir}
use Rattle.pcm_base.specs.declared.state.Dir.TheVariants as dir
use Rattle.pcm_base.specs.declared.state.Errno.TheVariants as errno
use Rattle.pcm_base.specs.declared.state.State.TheVariants as state
use Rattle.pcm_base.specs.model.Acts.{table}
use Rattle.pcm_base.specs.model.Events.{event, hands, opens, page, program}
use Rattle.pcm_base.specs.model.PointerCalls.{sync_to}
use Rattle.pcm_base.specs.model.Program.{Answer, fails, says}
use Rattle.pcm_base.specs.model.Replay.{Part, Plays}
use Rattle.pcm_base.specs.model.Sound.{Sound}
use Rattle.pcm_base.specs.model.Standing.{Put, put_at}
use Rattle.pcm_base.specs.model.Stream.{Stream}
use Rattle.pcm_base.specs.model.Transfer.{frames_in, is_whole}
use Rattle.pcm_base.specs.model.Words.{is_closed, is_playback, when, ◌then◌}
use Rattle.pcm_stream.specs.KeepingUp.{Goes, GoesOn, Moment, NonePrepares, Own, Runs, Shared, is_prepare}
use Rattle.pcm_stream.proofs.BehindLemmas.{Recorded, again, recorded-after, recorded-kept}
use Rattle.pcm_stream.proofs.IdleLemmas.{IsIdle, OrIdle, idle-after, idle-own, renewed, renews}
use Rattle.pcm_stream.proofs.ReachedLemmas.{IsBorne, borne-on}
use Rattle.pcm_stream.proofs.Walk.{Plays-kept, if-kept, is_plain, program-kept, unless-kept}

-- ---- events

no_store : (d : Dir) (b : Bool) → d ≡ dir.Capture → when (not (is_playback d) || b) errno.Einval ≡ None → ⊥
no_store dir.Capture b e h = absurd (cc)
no_store dir.Playback b e h = absurd (cc)

-- a call that sets the stream up anew or takes it down
recorded-renewed : (l b : ℕ) (before : List Put) (k : SubId) (e : Call) (c : ClientId) (linked : Bool) (io : List ℕ) (ps : List Part) (a : Answer) (s t : Stream) → renews e ≡ true
    → Plays k (program e c linked io s) ps a t → NonePrepares ps → Recorded l b before s → OrIdle (Recorded l b before) dir.Capture t
recorded-renewed l b before k e c linked io ps a s t y h n r =
    Plays-kept (OrIdle (Recorded l b before) dir.Capture) k (program e c linked io s) ps a t h n (renewed (Recorded l b before) dir.Capture k e c linked io s y r.way r.fit r)

recorded-own : (l b : ℕ) (before : List Put) (k : SubId) (e : Call) (c : ClientId) (linked : Bool) (io : List ℕ) (ps : List Part) (a : Answer) (s t : Stream) → Plays k (program e c linked io s) ps a t
    → NonePrepares ps → Sound s → Recorded l b before s → OrIdle (Recorded l b before) dir.Capture t
recorded-own l b before k call.OpenSub c linked io ps a s t h n sound r =
    let P : Stream → Type 0 = Recorded l b before in
    let opened : Stream = record s { state = state.Opened } in
    inl (Plays-kept P k (program call.OpenSub c linked io s) ps a t h n
    (if-kept is_prepare P k (is_closed s.state && not (opens call.OpenSub)) (fails errno.Enxio s) (event call.OpenSub c linked io s) (λ _. r)
    (λ _. if-kept is_prepare P k (is_closed s.state) (says reply.Ok opened) (fails errno.Ebusy s) (λ _. again l b before s opened refl refl refl refl refl r) (λ _. r))))
recorded-own l b before k call.CloseSub c linked io ps a s t h n sound r = recorded-renewed l b before k call.CloseSub c linked io ps a s t refl h n r
recorded-own l b before k (call.HwParams w) c linked io ps a s t h n sound r = recorded-renewed l b before k (call.HwParams w) c linked io ps a s t refl h n r
recorded-own l b before k call.HwFree c linked io ps a s t h n sound r = recorded-renewed l b before k call.HwFree c linked io ps a s t refl h n r
recorded-own l b before k (call.SyncPtr p) c linked io ps a s t h n sound r =
    let P : Stream → Type 0 = Recorded l b before in
    inl (Plays-kept P k (program (call.SyncPtr p) c linked io s) ps a t h n
    (if-kept is_prepare P k (is_closed s.state && not (opens (call.SyncPtr p))) (fails errno.Enxio s) (event (call.SyncPtr p) c linked io s) (λ _. r)
    (λ _. unless-kept is_prepare P k (table kind.SyncPtr s then when (nat_le s.setup.boundary p) errno.Einval) s (says (reply.Ptrs (page (sync_to p s))) (sync_to p s)) r
    (λ _. again l b before s (sync_to p s) refl refl refl refl refl r))))
recorded-own l b before k (call.Store o) c linked io ps a s t h n sound r =
    let P : Stream → Type 0 = Recorded l b before in
    let count : ℕ = length io / s.setup.frame_bytes in
    let rest : Bool = nat_eq s.mappings 0 || not (is_whole s io) || nat_lt s.setup.buffer (o + count) in
    inl (Plays-kept P k (program (call.Store o) c linked io s) ps a t h n
    (if-kept is_prepare P k (is_closed s.state && not (opens (call.Store o))) (fails errno.Enxio s) (event (call.Store o) c linked io s) (λ _. r)
    (λ _. unless-kept is_prepare P k (when (not (is_playback s.dir) || nat_eq s.mappings 0 || not (is_whole s io) || nat_lt s.setup.buffer (o + count)) errno.Einval) s
    (hands (reply.Frames count) (frames_in s io) (record s { puts = put_at o (frames_in s io) s.puts })) r
    (λ q. absurd (stored s.dir (nat_eq s.mappings 0) (not (is_whole s io)) (nat_lt s.setup.buffer (o + count)) r.way q)))))
  where
    stored : (d : Dir) (x y z : Bool) → d ≡ dir.Capture → when (not (is_playback d) || x || y || z) errno.Einval ≡ None → ⊥
    stored dir.Capture x y z e h = cc
    stored dir.Playback x y z e h = cc
recorded-own l b before k e c linked io ps a s t h n sound r = by (is_plain e) refl
  where
    by : (x : Bool) → is_plain e ≡ x → OrIdle (Recorded l b before) dir.Capture t
    by true q = inl (Plays-kept (Recorded l b before) k (program e c linked io s) ps a t h n (program-kept is_prepare dir.Capture (Recorded l b before) (recorded-kept l b before) k e c linked io s q sound r))
    by false q = absurd (cc)

-- ---- runs

-- one moment
recorded-on : (l b : ℕ) (before : List Put) (k : SubId) (m : Moment) (s t : Stream) → Goes k m s t → GoesOn m t → Sound s → OrIdle (Recorded l b before) dir.Capture s → OrIdle (Recorded l b before) dir.Capture t
recorded-on l b before k (Own e c linked io ps a) s t h n sound (inl r) = recorded-own l b before k e c linked io ps a s t h n sound r
recorded-on l b before k (Own e c linked io ps a) s t h n sound (inr r) = inr (idle-own dir.Capture k e c linked io ps a s t h n sound r)
recorded-on l b before k (Shared p) s t h n sound (inl r) = inl (subst (Recorded l b before) (sym h.1.1) (recorded-after l b before p.act p.vote p.outcome s n r))
recorded-on l b before k (Shared p) s t h n sound (inr r) = inr (subst (IsIdle dir.Capture) (sym h.1.1) (idle-after dir.Capture k p.act p.vote p.outcome s h.0 h.1.0 n r))

pub recorded-runs : (l b : ℕ) (before : List Put) (k : SubId) (ms : List Moment) (s t : Stream) → Runs k GoesOn ms s t → IsBorne dir.Capture s → OrIdle (Recorded l b before) dir.Capture s
    → IsBorne dir.Capture t × OrIdle (Recorded l b before) dir.Capture t
recorded-runs l b before k [] s t h borne r = (subst (IsBorne dir.Capture) (sym h) borne, subst (OrIdle (Recorded l b before) dir.Capture) (sym h) r)
recorded-runs l b before k (m ∷ ms) s t h borne r =
    recorded-runs l b before k ms h.0 t h.3 (borne-on dir.Capture k m s h.0 h.1 borne) (recorded-on l b before k m s h.0 h.1 h.2 borne.sound r)
