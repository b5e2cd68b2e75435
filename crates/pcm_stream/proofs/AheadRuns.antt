-- The law of a write that keeps ahead, over runs.
use Rattle.std.proofs.Common.{ℕ, ◌≡◌, inl, inr, ◌+◌, ◌-◌, ◌/◌, ◌≤◌, ◌<◌, Bool, true, false, cond, not, ◌&&◌, ◌||◌, nat_eq, nat_le, nat_lt, List, [], ◌∷◌, length, get_or, if◌then◌else◌, refl, sym, ap, ◌∙◌, subst, arith}
use Rattle.std.specs.declared.option.Option.{Option}
use Rattle.std.specs.declared.option.Option.TheVariants.{Some, None}
use Rattle.pcm_base.specs.declared.call.Call.{Call}
use Rattle.pcm_base.specs.declared.call.Call.TheVariants as call
use Rattle.pcm_base.specs.declared.call.CallKind.TheVariants as kind
use Rattle.pcm_base.specs.declared.config.Config.{Config}
use Rattle.pcm_base.specs.declared.ids.ClientId.{ClientId}
use Rattle.pcm_base.specs.declared.ids.SubId.{SubId}
use Rattle.pcm_base.specs.declared.reply.Reply.TheVariants as reply
use Rattle.pcm_base.specs.declared.state.Dir.{Dir}
use Rattle.pcm_base.specs.declared.state.Dir.TheVariants as dir
use Rattle.pcm_base.specs.declared.state.Errno.{Errno}
use Rattle.pcm_base.specs.declared.state.Errno.TheVariants as errno
use Rattle.pcm_base.specs.declared.state.State.TheVariants as state
use Rattle.pcm_base.specs.model.Acts.{table}
use Rattle.pcm_base.specs.model.Events.{event, hands, opens, page, program}
use Rattle.pcm_base.specs.model.Frame.{Frame}
use Rattle.pcm_base.specs.model.Movement.{Movement, move, carried, carried_frames, taken_by, taken_bytes, frames_taken}
use Rattle.pcm_base.specs.model.PointerCalls.{sync_to}
use Rattle.pcm_base.specs.model.Program.{Answer, Ends, Makes, Program, fails, says, unless}
use Rattle.pcm_base.specs.model.Replay.{Part, Plays}
use Rattle.pcm_base.specs.model.Sound.{Sound, SoundAt}
use Rattle.pcm_base.specs.model.Standing.{put_at, standing}
use Rattle.pcm_base.specs.model.Stream.{Stream, zero_frame}
use Rattle.pcm_base.specs.model.Transfer.{frames_in, is_whole}
use Rattle.pcm_base.specs.model.Words.{is_closed, is_playback, when, ◌then◌}
use Rattle.pcm_laws.proofs.KeptByVotes.{Sound-after}
use Rattle.pcm_laws.proofs.Puts.{get_or-standing_at}
use Rattle.pcm_stream.specs.KeepingUp.{Goes, IsReached, KeepsAhead, Moment, NonePrepares, Own, Passes, Runs, Shared, StaysAhead, Takes, frame_at, frame_taken, is_prepare, writes}
use Rattle.pcm_stream.proofs.AheadLemmas.{Stays, like, moved-on, same, stays-after, stays-kept}
use Rattle.pcm_stream.proofs.AheadWrites.{Facts, Plays-wrote, event-wrote}
use Rattle.pcm_stream.proofs.IdleLemmas.{IsIdle, OrIdle, idle-after, idle-card, idle-own, renewed, renews}
use Rattle.pcm_stream.proofs.ReachedLemmas.{IsBorne, borne-on, reached}
use Rattle.pcm_stream.proofs.Walk.{Plays-kept, if-kept, is_plain, program-kept}

-- ---- calls whose answer tells what they did

abbrev Tells : (Answer → Stream → Type 0) → Program → Type 0
Tells Q (Ends a s) = Q a s
Tells Q (Makes a s f) = ⊥

Plays-tells : (Q : Answer → Stream → Type 0) (k : SubId) (p : Program) (ps : List Part) (b : Answer) (t : Stream) → Plays k p ps b t → Tells Q p → Q b t
Plays-tells Q k (Ends a s) [] b t h g = subst (λ (u : Stream). Q b u) (sym h.1) (subst (λ (x : Answer). Q x s) (sym h.0) g)
Plays-tells Q k (Ends a s) (q ∷ ps) b t h g = absurd h
Plays-tells Q k (Makes a s f) ps b t h g = absurd g

unless-tells : (Q : Answer → Stream → Type 0) (e : Option Errno) (s : Stream) (p : Program) → ((d : Errno) → Tells Q (fails d s)) → Tells Q p → Tells Q (unless e s p)
unless-tells Q (Some e) s p h g = h e
unless-tells Q None s p h g = g

if-tells : (Q : Answer → Stream → Type 0) (b : Bool) (p q : Program) → Tells Q p → Tells Q q → Tells Q (cond b p q)
if-tells Q true p q f g = f
if-tells Q false p q f g = g

-- ---- events

-- a sync that leaves the client ahead of the card
synced : (b p : ℕ) (z : Frame) (q : ℕ) (s : Stream) → s.at.hw ≤ (sync_to q s).at.appl → Stays b p z s → Stays b p z (sync_to q s)
synced b p z q s ahead h = moved-on b p z s (sync_to q s) (like s) (let k : s.at.hw ≤ s.at.hw = omega arith in k) (omega (arith, ahead, h.near)) h

-- a call that sets the stream up anew or takes it down
stays-renewed : (b p : ℕ) (z : Frame) (k : SubId) (e : Call) (c : ClientId) (linked : Bool) (io : List ℕ) (ps : List Part) (a : Answer) (s t : Stream) → renews e ≡ true
    → Plays k (program e c linked io s) ps a t → NonePrepares ps → Stays b p z s → OrIdle (Stays b p z) dir.Playback t
stays-renewed b p z k e c linked io ps a s t y h n r =
    Plays-kept (OrIdle (Stays b p z) dir.Playback) k (program e c linked io s) ps a t h n (renewed (Stays b p z) dir.Playback k e c linked io s y r.way r.fit r)

stays-own : (b p : ℕ) (z : Frame) (k : SubId) (e : Call) (c : ClientId) (linked : Bool) (io : List ℕ) (ps : List Part) (a : Answer) (s t : Stream) → Plays k (program e c linked io s) ps a t
    → NonePrepares ps → StaysAhead e a t → Sound s → Stays b p z s → OrIdle (Stays b p z) dir.Playback t
stays-own b p z k call.OpenSub c linked io ps a s t h n g sound r =
    let P : Stream → Type 0 = Stays b p z in
    let opened : Stream = record s { state = state.Opened } in
    inl (Plays-kept P k (program call.OpenSub c linked io s) ps a t h n
    (if-kept is_prepare P k (is_closed s.state && not (opens call.OpenSub)) (fails errno.Enxio s) (event call.OpenSub c linked io s) (λ _. r)
    (λ _. if-kept is_prepare P k (is_closed s.state) (says reply.Ok opened) (fails errno.Ebusy s) (λ _. same b p z s opened (like s) refl refl r) (λ _. r))))
stays-own b p z k call.CloseSub c linked io ps a s t h n g sound r = stays-renewed b p z k call.CloseSub c linked io ps a s t refl h n r
stays-own b p z k (call.HwParams w) c linked io ps a s t h n g sound r = stays-renewed b p z k (call.HwParams w) c linked io ps a s t refl h n r
stays-own b p z k call.HwFree c linked io ps a s t h n g sound r = stays-renewed b p z k call.HwFree c linked io ps a s t refl h n r
stays-own b p z k (call.SyncPtr q) c linked io ps a s t h n g sound r =
    let Q : Answer → Stream → Type 0 = λ x u. StaysAhead (call.SyncPtr q) x u → Stays b p z u in
    inl (Plays-tells Q k (program (call.SyncPtr q) c linked io s) ps a t h
    (if-tells Q (is_closed s.state && not (opens (call.SyncPtr q))) (fails errno.Enxio s) (event (call.SyncPtr q) c linked io s) (λ _. r)
    (unless-tells Q (table kind.SyncPtr s then when (nat_le s.setup.boundary q) errno.Einval) s (says (reply.Ptrs (page (sync_to q s))) (sync_to q s)) (λ d _. r)
    (λ f. synced b p z q s (f (page (sync_to q s)) refl) r)))
    g)
stays-own b p z k (call.Store o) c linked io ps a s t h n g sound r =
    let Q : Answer → Stream → Type 0 = λ x u. StaysAhead (call.Store o) x u → Stays b p z u in
    let count : ℕ = length io / s.setup.frame_bytes in
    inl (Plays-tells Q k (program (call.Store o) c linked io s) ps a t h
    (if-tells Q (is_closed s.state && not (opens (call.Store o))) (fails errno.Enxio s) (event (call.Store o) c linked io s) (λ _. r)
    (unless-tells Q (when (not (is_playback s.dir) || nat_eq s.mappings 0 || not (is_whole s io) || nat_lt s.setup.buffer (o + count)) errno.Einval) s
    (hands (reply.Frames count) (frames_in s io) (record s { puts = put_at o (frames_in s io) s.puts })) (λ d _. r)
    (λ f. absurd (f count refl))))
    g)
stays-own b p z k e c linked io ps a s t h n g sound r = by (is_plain e) refl
  where
    by : (x : Bool) → is_plain e ≡ x → OrIdle (Stays b p z) dir.Playback t
    by true q = inl (Plays-kept (Stays b p z) k (program e c linked io s) ps a t h n
        (program-kept is_prepare dir.Playback (Stays b p z) (stays-kept b p z (λ j x v o u i f y. Sound-after j x v o u i f y)) k e c linked io s q sound r))
    by false q = absurd (cc)

-- ---- runs

-- one moment
stays-on : (b p : ℕ) (z : Frame) (k : SubId) (m : Moment) (s t : Stream) → Goes k m s t → KeepsAhead m t → Sound s → OrIdle (Stays b p z) dir.Playback s → OrIdle (Stays b p z) dir.Playback t
stays-on b p z k (Own e c linked io ps a) s t h n sound (inl r) = stays-own b p z k e c linked io ps a s t h n.0 n.1 sound r
stays-on b p z k (Own e c linked io ps a) s t h n sound (inr r) = inr (idle-own dir.Playback k e c linked io ps a s t h n.0 sound r)
stays-on b p z k (Shared q) s t h n sound (inl r) =
    inl (subst (Stays b p z) (sym h.1.1) (stays-after b p z q.act q.vote q.outcome s n (Sound-after k q.act q.vote q.outcome s h.0 h.1.0 sound) r))
stays-on b p z k (Shared q) s t h n sound (inr r) = inr (subst (IsIdle dir.Playback) (sym h.1.1) (idle-after dir.Playback k q.act q.vote q.outcome s h.0 h.1.0 n r))

stays-runs : (b p : ℕ) (z : Frame) (k : SubId) (ms : List Moment) (s t : Stream) → Runs k KeepsAhead ms s t → IsBorne dir.Playback s → OrIdle (Stays b p z) dir.Playback s
    → IsBorne dir.Playback t × OrIdle (Stays b p z) dir.Playback t
stays-runs b p z k [] s t h borne r = (subst (IsBorne dir.Playback) (sym h) borne, subst (OrIdle (Stays b p z) dir.Playback) (sym h) r)
stays-runs b p z k (m ∷ ms) s t h borne r = stays-runs b p z k ms h.0 t h.3 (borne-on dir.Playback k m s h.0 h.1 borne) (stays-on b p z k m s h.0 h.1 h.2 borne.sound r)

-- ---- what a movement takes

abbrev by_tests : ℕ → Stream → Bool → Bool → Bool → Movement
by_tests n s stands far much =
    if stands then record { reply = reply.Idle; frames = []; stream = s } else if far then record { reply = reply.Late (s.setup.buffer - 1 - (s.at.card - s.at.hw)); frames = []; stream = s }
    else if much then record { reply = reply.Limit (taken_bytes n s); frames = []; stream = s } else record { reply = reply.Moved n; frames = carried_frames n s; stream = carried n s }

pub record HasMoved (n : ℕ) (s : Stream) : Type 0 where
  pub runs : s.card.runs ≡ true
  pub frames : (move n s).frames ≡ carried_frames n s

moves : (n : ℕ) (s : Stream) (r far much : Bool) → (by_tests n s (not r) far much).reply ≡ reply.Moved n → (r ≡ true) × ((by_tests n s (not r) far much).frames ≡ carried_frames n s)
moves n s false far much h = absurd (cc)
moves n s true true much h = absurd (cc)
moves n s true false true h = absurd (cc)
moves n s true false false h = (refl, refl)

carried-taken : (n : ℕ) (s : Stream) (d : Dir) → d ≡ dir.Playback → frames_taken d n s ≡ taken_by n s
carried-taken n s dir.Playback e = refl
carried-taken n s dir.Capture e = absurd (cc)

reported-below : (s : Stream) → s.card.runs ≡ true → Sound s → s.at.hw ≤ s.at.card
reported-below s runs sound = by s.setup.config sound
  where
    by : (o : Option Config) → SoundAt o s → s.at.hw ≤ s.at.card
    by (Some c) q = q.placed.reported
    by None q = absurd (let k : s.card.runs ≡ false = q.stands in cc)

-- what the card takes at a position that stays
stays-taken : (b p n : ℕ) (z : Frame) (t : Stream) → Sound t → Stays b p z t → t.card.runs ≡ true → (move n t).frames ≡ carried_frames n t → t.at.card ≤ p → p < t.at.card + n → frame_at p t.puts ≡ Some (frame_taken p n t)
stays-taken b p n z t sound stays runs frames low high =
    let taken : (move n t).frames ≡ taken_by n t = frames ∙ carried-taken n t t.dir stays.way in
    let there : t.at.card + (p - t.at.card) ≡ p = omega (arith, low) in
    let inside : p - t.at.card < n = omega (arith, low, high) in
    let at : t.at.hw ≤ p = omega (arith, low, reported-below t runs sound) in
    let seen : get_or (move n t).frames (p - t.at.card) [] ≡ standing t.puts b p z =
    ap (λ fs. get_or fs (p - t.at.card) []) taken
    ∙ get_or-standing_at t.puts t.setup.buffer t.at.card n (p - t.at.card) (zero_frame t) [] inside
    ∙ ap (λ q. standing t.puts t.setup.buffer q (zero_frame t)) there
    ∙ ap (λ m. standing t.puts m p (zero_frame t)) stays.buffer
    ∙ ap (λ f. standing t.puts b p f) stays.zero in
    stays.stands at ∙ ap Some (sym seen)

-- a stream that was not prepared since it was set up anew takes nothing
either-taken : (b p n : ℕ) (z : Frame) (t : Stream) → Sound t → OrIdle (Stays b p z) dir.Playback t → t.card.runs ≡ true → (move n t).frames ≡ carried_frames n t → t.at.card ≤ p → p < t.at.card + n
    → frame_at p t.puts ≡ Some (frame_taken p n t)
either-taken b p n z t sound (inl stays) runs frames low high = stays-taken b p n z t sound stays runs frames low high
either-taken b p n z t sound (inr idle) runs frames low high = absurd (let no : t.card.runs ≡ false = idle-card dir.Playback t sound idle in cc)

pub ahead-taken : (k : SubId) (e : Call) (c : ClientId) (linked : Bool) (io : List ℕ) (ps : List Part) (a : Answer) (ms : List Moment) (s w t : Stream) (p n : ℕ)
    → IsReached k dir.Playback s → writes e ≡ true → Goes k (Own e c linked io ps a) s w → Passes p a w
    → Runs k KeepsAhead ms w t
    → Takes p n t → p < t.at.appl
    → frame_at p t.puts ≡ Some (frame_taken p n t)
ahead-taken k e c linked io ps a ms s w t p n from y plays passes runs takes before =
    let b : ℕ = s.setup.buffer in
    let z : Frame = zero_frame s in
    let borne : IsBorne dir.Playback s = reached k dir.Playback s from in
    let facts : Facts b z s = record { way = borne.has.way; buffer = refl; zero = refl; fit = borne.has.fit } in
    let begun : Stays b p z w = Plays-wrote b p z k (program e c linked io s) ps a w plays (event-wrote b p z k e c linked io s y borne.sound facts) passes.0 passes.1 in
    let now = stays-runs b p z k ms w t runs (borne-on dir.Playback k (Own e c linked io ps a) s w plays borne) (inl begun) in
    let moved = moves n t t.card.runs (nat_le (t.at.hw + t.setup.buffer) (t.at.card + n)) (nat_lt 67108864 (taken_bytes n t)) takes.0 in
    either-taken b p n z t now.0.sound now.1 moved.0 moved.1 takes.1 takes.2
