-- Each event keeps each stream sound.
use Rattle.std.proofs.Common.{ℕ, zero, suc, ◌≡◌, ◌+◌, ◌-◌, ◌*◌, ◌/◌, ◌≤◌, ◌<◌, Bool, true, false, cond, not, ◌&&◌, ◌||◌, nat_eq, nat_le, nat_lt, List, [], ◌++◌, length, drop, min, set, if◌then◌else◌, refl, sym, ap, ◌∙◌, subst, arith}
use Rattle.std.proofs.lemmas.Bool.Decides.{nat_tests}
use Rattle.std.specs.declared.option.Option.{Option}
use Rattle.std.specs.declared.option.Option.TheVariants.{Some, None}
use Rattle.pcm_base.specs.Boundary.{boundary_of}
use Rattle.pcm_base.specs.declared.act.Act.{Act}
use Rattle.pcm_base.specs.declared.act.Act.TheVariants as act
use Rattle.pcm_base.specs.declared.act.Outcome.{Outcome}
use Rattle.pcm_base.specs.declared.act.Outcome.TheVariants as outcome
use Rattle.pcm_base.specs.declared.act.Vote.{Vote}
use Rattle.pcm_base.specs.declared.call.Call.{Call}
use Rattle.pcm_base.specs.declared.call.Call.TheVariants as call
use Rattle.pcm_base.specs.declared.call.CallKind.TheVariants as kind
use Rattle.pcm_base.specs.declared.config.Config.{Config}
use Rattle.pcm_base.specs.declared.config.SwParams.{SwParams}
use Rattle.pcm_base.specs.declared.ids.ClientId.{ClientId}
use Rattle.pcm_base.specs.declared.ids.SubId.{SubId}
use Rattle.pcm_base.specs.declared.reply.Reply.TheVariants as reply
use Rattle.pcm_base.specs.declared.state.Dir.{Dir}
use Rattle.pcm_base.specs.declared.state.Dir.TheVariants as dir
use Rattle.pcm_base.specs.declared.state.Errno.{Errno}
use Rattle.pcm_base.specs.declared.state.Errno.TheVariants as errno
use Rattle.pcm_base.specs.declared.state.State.{State}
use Rattle.pcm_base.specs.declared.state.State.TheVariants as state
use Rattle.pcm_base.specs.model.Acts.{after, stopped, table, stopped_in}
use Rattle.pcm_base.specs.model.Allowed.{accepts, buffer_of}
use Rattle.pcm_base.specs.model.Events.{closed, delay, event, forwarded, freed, hands, if_held, is_busy, is_mapped_access, opens, page, plan_set, program, rewound, set_mappings, set_setup, set_sw, setup_of, unplug_alone, unplugged}
use Rattle.pcm_base.specs.model.Frame.{Frame}
use Rattle.pcm_base.specs.model.Movement.{Movement, carried, carried_frames, given_by, move, taken_by, taken_bytes, carried_by}
use Rattle.pcm_base.specs.model.Permit.{permit}
use Rattle.pcm_base.specs.model.PointerCalls.{hw_avail, sync_to}
use Rattle.pcm_base.specs.model.Program.{act_alone, fails, going_on, making, says, unless, updated_or_epipe}
use Rattle.pcm_base.specs.model.Replay.{Fits}
use Rattle.pcm_base.specs.model.Software.{refuses_sw}
use Rattle.pcm_base.specs.model.Sound.{IsBare, IsConfigured, IsPlaced, KeepsSound, Sound, SoundAt, is_set_up, is_stop, may_be_set_up}
use Rattle.pcm_base.specs.model.Standing.{put_at, standing_at}
use Rattle.pcm_base.specs.model.Stream.{Setup, Stream, avail, head_of, is_bare, zero_frame}
use Rattle.pcm_base.specs.model.Transfer.{frames_in, is_whole}
use Rattle.pcm_base.specs.model.Update.{set_runs}
use Rattle.pcm_base.specs.model.Words.{is_closed, is_paused, is_playback, is_running, is_suspended, runs_in, when, ◌then◌}
use Rattle.pcm_laws.proofs.Sizes.{accepts-buffer, accepts-long, boundary_of-room}
use Rattle.pcm_laws.proofs.Tests.{not_le}
use Rattle.pcm_laws.proofs.KeptByMoves.{Sound-as, IsConfigured-carried}
use Rattle.pcm_laws.proofs.KeptByActs.{IsConfigured-motion, first_none, then_none}
use Rattle.pcm_laws.proofs.KeptByVotes.{Sound-after}
use Rattle.pcm_laws.proofs.KeptByPrograms.{IsConfigured-changed, Sound-back_by, Sound-on_by, Sound-plan, Sound-puts, Sound-sync_to, KeepsSound-drain, KeepsSound-go, KeepsSound-if, KeepsSound-act_alone, KeepsSound-read, KeepsSound-unless, KeepsSound-updated_or_epipe, KeepsSound-updating, KeepsSound-write}

sets_up_sw : (d : Dir) (t : State) → permit kind.SwParams t d ≡ None → is_set_up t ≡ true
sets_up_sw d state.Closed h = absurd (cc)
sets_up_sw d state.Opened h = absurd (cc)
sets_up_sw d state.Setup h = refl
sets_up_sw d state.Prepared h = refl
sets_up_sw d state.Running h = refl
sets_up_sw d state.Xrun h = refl
sets_up_sw d state.Draining h = refl
sets_up_sw d state.Paused h = refl
sets_up_sw d state.Suspended h = refl
sets_up_sw d state.Disconnected h = absurd (cc)

sets_up_map : (d : Dir) (t : State) → permit kind.Map t d ≡ None → is_set_up t ≡ true
sets_up_map d state.Closed h = absurd (cc)
sets_up_map d state.Opened h = absurd (cc)
sets_up_map d state.Setup h = refl
sets_up_map d state.Prepared h = refl
sets_up_map d state.Running h = refl
sets_up_map d state.Xrun h = refl
sets_up_map d state.Draining h = refl
sets_up_map d state.Paused h = refl
sets_up_map d state.Suspended h = refl
sets_up_map d state.Disconnected h = absurd (cc)

closed_unset : (t : State) → is_closed t ≡ true → may_be_set_up t ≡ false
closed_unset state.Closed h = refl
closed_unset state.Opened h = absurd (cc)
closed_unset state.Setup h = absurd (cc)
closed_unset state.Prepared h = absurd (cc)
closed_unset state.Running h = absurd (cc)
closed_unset state.Xrun h = absurd (cc)
closed_unset state.Draining h = absurd (cc)
closed_unset state.Paused h = absurd (cc)
closed_unset state.Suspended h = absurd (cc)
closed_unset state.Disconnected h = absurd (cc)

-- nothing is mapped, where a held stream is refused
held : (m : ℕ) (a b : Bool) (e : Errno) → when (a || nat_lt 0 m || b) e ≡ None → m ≡ 0
held zero a b e h = refl
held (suc m) true b e h = absurd (cc)
held (suc m) false b e h = absurd (let k : nat_lt 0 (suc m) ≡ true = grind (arith, nat_tests) in grind (arith, k, h))

unmapped : (m : ℕ) (e : Errno) (y : Option Errno) → (when (nat_lt 0 m) e then y) ≡ None → m ≡ 0
unmapped zero e y h = refl
unmapped (suc m) e y h = absurd (let k : nat_lt 0 (suc m) ≡ true = grind (arith, nat_tests) in let g : when true e ≡ None = ap (λ b. when b e) (sym k) ∙ first_none (when (nat_lt 0 (suc m)) e) y h in cc)

Sound-freed : (s : Stream) → s.mappings ≡ 0 → Sound (freed s)
Sound-freed s h = record { state = refl; setup = refl; at = refl; moved = refl; stands = refl; unmapped = h; taken = refl; to_give = refl; kept = refl }

Sound-closed : (s : Stream) → s.mappings ≡ 0 → Sound (closed s)
Sound-closed s h = record { state = refl; setup = refl; at = refl; moved = refl; stands = refl; unmapped = h; taken = refl; to_give = refl; kept = refl }

plain_sw : (p b l : ℕ) → 0 < p → 0 < l → (nat_eq p 0 || ((nat_le l 0 && not (nat_eq 0 0)) || (nat_lt 0 l && (nat_lt 0 0 || nat_lt b 0)))) ≡ false
plain_sw p b l g h =
    let e1 : nat_eq p 0 ≡ false = grind (arith, nat_tests, g) in
    let e2 : nat_le l 0 ≡ false = grind (arith, nat_tests, h) in
    let e3 : nat_lt b 0 ≡ false = grind (arith, nat_tests) in
    let e4 : nat_lt 0 l ≡ true = grind (arith, nat_tests, h) in
    ap (λ x. x || ((nat_le l 0 && not (nat_eq 0 0)) || (nat_lt 0 l && (nat_lt 0 0 || nat_lt b 0)))) e1
    ∙ (ap (λ x. (x && not (nat_eq 0 0)) || (nat_lt 0 l && (nat_lt 0 0 || nat_lt b 0))) e2
    ∙ (ap (λ x. x && (nat_lt 0 0 || nat_lt b 0)) e4 ∙ e3))

some_period : (p q : ℕ) → 4 ≤ p * q → 0 < p
some_period zero q h = absurd (omega (arith, h))
some_period (suc p) q h = omega arith

over : (d : Dir) (b l : ℕ) → 4 ≤ b → 2 * b ≤ l → (l ≤ head_of d b l) × (head_of d b l - l < l)
over dir.Playback b l p q = (omega arith, omega (arith, p, q))
over dir.Capture b l p q = (omega arith, omega (arith, p, q))

Sound-set_setup : (g : Config) (s : Stream) → accepts s.model s.long_max g ≡ true → Sound (set_setup (setup_of g s.long_max) state.Setup (boundary_of (buffer_of g) s.long_max) s)
Sound-set_setup g s h =
    let b : ℕ = buffer_of g in
    let l : ℕ = boundary_of (buffer_of g) s.long_max in
    let least : 4 ≤ buffer_of g = accepts-buffer s.model s.long_max g h in
    let room : 2 * (buffer_of g) ≤ boundary_of (buffer_of g) s.long_max = boundary_of-room b s.long_max (omega (arith, least)) (accepts-long s.model s.long_max g h) in
    let both : (l ≤ head_of s.dir b l) × (head_of s.dir b l - l < l) = over s.dir b l least room in
    record {
      shaped = record { allowed = h; frame_bytes = refl; buffer = refl; boundary = refl; sw = plain_sw g.period b l (some_period g.period g.periods least) (omega (arith, least, room)) };
      placed = record {
        reported = (let k : l ≤ l = omega arith in k);
        near = (let k : l < l + b = omega (arith, least) in k);
        origin = (let k : l ≤ l = omega arith in k);
        written = both.0;
        fewer = both.1;
        filled = (let k : l ≤ l + b = omega arith in k);
      };
      state = refl;
      running = stands s.dir;
      kept = refl;
    }
  where
    stands : (d : Dir) → false ≡ runs_in d state.Setup
    stands dir.Playback = refl
    stands dir.Capture = refl

clash : (s : Stream) → is_set_up s.state ≡ true → IsBare s → ⊥
clash s e h = let g : is_set_up s.state ≡ false = h.state in cc

Sound-set_sw : (w : SwParams) (s : Stream) → is_set_up s.state ≡ true → refuses_sw s.setup.buffer s.setup.boundary w ≡ false → Sound s → Sound (set_sw w s)
Sound-set_sw w s e f h = by s.setup.config h
  where
    by : (o : Option Config) → SoundAt o s → SoundAt o (set_sw w s)
    by None q = absurd (clash s e q)
    by (Some c) q =
        let p : IsPlaced s = q.placed in
        record {
          shaped = record { allowed = q.shaped.allowed; frame_bytes = q.shaped.frame_bytes; buffer = q.shaped.buffer; boundary = q.shaped.boundary; sw = f };
          placed = record { reported = p.reported; near = p.near; origin = p.origin; written = p.written; fewer = p.fewer; filled = p.filled };
          state = q.state;
          running = q.running;
          kept = q.kept;
        }

Sound-set_mappings : (n : ℕ) (s : Stream) → (IsBare s → n ≡ 0) → Sound s → Sound (set_mappings n s)
Sound-set_mappings n s f h = Sound-as s (set_mappings n s) refl (λ c q. IsConfigured-changed c s s.puts s.sleepers n s.card.plan s.card.to_give q)
    (λ q. record { state = q.state; setup = q.setup; at = q.at; moved = q.moved; stands = q.stands; unmapped = f q; taken = q.taken; to_give = q.to_give; kept = q.kept }) h

clash_bare : (s : Stream) → is_bare s ≡ false → IsBare s → ⊥
clash_bare s e h = let none : is_bare s ≡ true = ap (λ (q : Setup). elim q.config as (λ _. Bool) [ None ↦ true | Some c ↦ false ]) h.setup in cc

Sound-to_give : (gs : List Frame) (s : Stream) → is_bare s ≡ false → Sound s → Sound (record s { card = record s.card { to_give = gs } })
Sound-to_give gs s e h = Sound-as s (record s { card = record s.card { to_give = gs } }) refl (λ c q. IsConfigured-changed c s s.puts s.sleepers s.mappings s.card.plan gs q) (λ q. absurd (clash_bare s e q)) h

Sound-opened : (s : Stream) → is_closed s.state ≡ true → Sound s → Sound (record s { state = state.Opened })
Sound-opened s e h = Sound-as s (record s { state = state.Opened }) refl (λ c q. absurd (let g : may_be_set_up s.state ≡ true = q.state in let f : may_be_set_up s.state ≡ false = closed_unset s.state e in cc))
    (λ q. record { state = refl; setup = q.setup; at = q.at; moved = q.moved; stands = q.stands; unmapped = q.unmapped; taken = q.taken; to_give = q.to_give; kept = q.kept }) h

-- a card that is gone

unset_stands : (d : Dir) (t : State) → is_set_up t ≡ false → runs_in d t ≡ false
unset_stands dir.Playback state.Closed h = refl
unset_stands dir.Capture state.Closed h = refl
unset_stands dir.Playback state.Opened h = refl
unset_stands dir.Capture state.Opened h = refl
unset_stands dir.Playback state.Disconnected h = refl
unset_stands dir.Capture state.Disconnected h = refl
unset_stands d state.Setup h = absurd (cc)
unset_stands d state.Prepared h = absurd (cc)
unset_stands d state.Running h = absurd (cc)
unset_stands d state.Xrun h = absurd (cc)
unset_stands d state.Draining h = absurd (cc)
unset_stands d state.Paused h = absurd (cc)
unset_stands d state.Suspended h = absurd (cc)

Sound-runs : (s : Stream) → Sound s → s.card.runs ≡ runs_in s.dir s.state
Sound-runs s h = by s.setup.config h
  where
    by : (o : Option Config) → SoundAt o s → s.card.runs ≡ runs_in s.dir s.state
    by None q = q.stands ∙ sym (unset_stands s.dir s.state q.state)
    by (Some c) q = q.running

pub stands-stopped : (u : State) (s : Stream) → Sound s → (stopped u s).card.runs ≡ false
stands-stopped u s h = by s.state (Sound-runs s h)
  where
    by : (t : State) → s.card.runs ≡ runs_in s.dir t → (stopped_in t u s).card.runs ≡ false
    by state.Closed e = e ∙ unset_stands s.dir state.Closed refl
    by state.Opened e = e ∙ unset_stands s.dir state.Opened refl
    by state.Disconnected e = e ∙ unset_stands s.dir state.Disconnected refl
    by state.Setup e = refl
    by state.Prepared e = refl
    by state.Running e = refl
    by state.Xrun e = refl
    by state.Draining e = refl
    by state.Paused e = refl
    by state.Suspended e = refl

pub Sound-unplugged : (s : Stream) → s.card.runs ≡ false → Sound s → Sound (unplugged s)
Sound-unplugged s e h = Sound-as s (unplugged s) refl (λ c q. IsConfigured-motion c s state.Disconnected s.card.runs None refl (e ∙ sym (unset_stands s.dir state.Disconnected refl)) refl q)
    (λ q. record { state = refl; setup = q.setup; at = q.at; moved = q.moved; stands = q.stands; unmapped = q.unmapped; taken = q.taken; to_give = q.to_give; kept = refl }) h

KeepsSound-stopping : (k : SubId) (s : Stream) → Sound s → KeepsSound k (making (act.Stop state.Setup) s unplug_alone)
KeepsSound-stopping k s h = (h, refl, by)
  where
    by : (v : Vote) (o : Outcome) → Fits k s (act.Stop state.Setup) v o → KeepsSound k (going_on unplug_alone o (after (act.Stop state.Setup) v o s))
    by v outcome.Done q = Sound-unplugged (stopped state.Setup s) (stands-stopped state.Setup s h) (Sound-after k (act.Stop state.Setup) v outcome.Done s refl q h)
    by v (outcome.Refused j e) q = Sound-after k (act.Stop state.Setup) v (outcome.Refused j e) s refl q h
    by v (outcome.Failed j) q = Sound-after k (act.Stop state.Setup) v (outcome.Failed j) s refl q h

-- the card's movement

abbrev moves_by : ℕ → Stream → Bool → Bool → Bool → Movement
moves_by n s runs late many =
    cond (not runs) (record { reply = reply.Idle; frames = []; stream = s })
    (cond late (record { reply = reply.Late (s.setup.buffer - 1 - (s.at.card - s.at.hw)); frames = []; stream = s })
    (cond many (record { reply = reply.Limit (taken_bytes n s); frames = []; stream = s })
    (record { reply = reply.Moved n; frames = carried_frames n s; stream = carried n s })))

setup_carried : (n : ℕ) (s : Stream) (d : Dir) → (carried_by d n s).setup ≡ s.setup
setup_carried n s dir.Playback = refl
setup_carried n s dir.Capture = refl

setup_moved : (n : ℕ) (s : Stream) (a b c : Bool) → (moves_by n s a b c).stream.setup ≡ s.setup
setup_moved n s false b c = refl
setup_moved n s true true c = refl
setup_moved n s true false true = refl
setup_moved n s true false false = setup_carried n s s.dir

IsConfigured-moved : (c : Config) (n : ℕ) (s : Stream) (a b m : Bool) → nat_le (s.at.hw + s.setup.buffer) (s.at.card + n) ≡ b → IsConfigured c s → IsConfigured c (moves_by n s a b m).stream
IsConfigured-moved c n s false b m e h = h
IsConfigured-moved c n s true true m e h = h
IsConfigured-moved c n s true false true e h = h
IsConfigured-moved c n s true false false e h = IsConfigured-carried c n s (not_le (s.at.hw + s.setup.buffer) (s.at.card + n) e) h

pub Sound-move : (n : ℕ) (s : Stream) → Sound s → Sound (move n s).stream
Sound-move n s h =
    let late : Bool = nat_le (s.at.hw + s.setup.buffer) (s.at.card + n) in
    let many : Bool = nat_lt 67108864 (taken_bytes n s) in
    Sound-as s (move n s).stream (setup_moved n s s.card.runs late many) (λ c q. IsConfigured-moved c n s s.card.runs late many refl q)
    (λ q. subst (λ r. IsBare (moves_by n s r late many).stream) (sym q.stands) q) h

KeepsSound-act_unless : (k : SubId) (e : Option Errno) (a : Act) (s : Stream) → is_stop a ≡ true → Sound s → KeepsSound k (unless e s (act_alone a s))
KeepsSound-act_unless k e a s i h = KeepsSound-unless k e s (act_alone a s) h (λ _. KeepsSound-act_alone k a s i h)

no_refusal : (b : Bool) (e : Errno) → when b e ≡ None → b ≡ false
no_refusal true e h = absurd (cc)
no_refusal false e h = refl

left_of_two : (a b c : Bool) (e : Errno) → when (a || b || c) e ≡ None → a ≡ false
left_of_two true b c e h = absurd (cc)
left_of_two false b c e h = refl

pub KeepsSound-event : (k : SubId) (e : Call) (c : ClientId) (linked : Bool) (io : List ℕ) (s : Stream) → (opens e ≡ false → is_closed s.state ≡ false) → Sound s → KeepsSound k (event e c linked io s)
KeepsSound-event k call.OpenSub c l io s f h = KeepsSound-if k (is_closed s.state) (says reply.Ok (record s { state = state.Opened })) (fails errno.Ebusy s) (λ e. Sound-opened s e h) (λ _. h)
KeepsSound-event k call.CloseSub c l io s f h = KeepsSound-unless k (when (l || nat_lt 0 s.mappings || is_busy s) errno.Ebusy) s (says reply.Ok (closed s)) h (λ n. Sound-closed s (held s.mappings l (is_busy s) errno.Ebusy n))
KeepsSound-event k (call.HwParams g) c l io s f h = KeepsSound-unless k (table kind.HwParams s then if_held s) s (if accepts s.model s.long_max g then says reply.Ok (set_setup (setup_of g s.long_max) state.Setup (boundary_of (buffer_of g) s.long_max) s) else fails errno.Einval (freed s)) h (λ n. KeepsSound-if k (accepts s.model s.long_max g) (says reply.Ok (set_setup (setup_of g s.long_max) state.Setup (boundary_of (buffer_of g) s.long_max) s)) (fails errno.Einval (freed s)) (λ q. Sound-set_setup g s q) (λ _. Sound-freed s (unmapped s.mappings errno.Ebadfd (when (is_busy s) errno.Ebusy) (then_none (table kind.HwParams s) (if_held s) n))))
KeepsSound-event k call.HwFree c l io s f h = KeepsSound-unless k (table kind.HwFree s then if_held s) s (says reply.Ok (freed s)) h (λ n. Sound-freed s (unmapped s.mappings errno.Ebadfd (when (is_busy s) errno.Ebusy) (then_none (table kind.HwFree s) (if_held s) n)))
KeepsSound-event k (call.SwParams w) c l io s f h = KeepsSound-unless k (table kind.SwParams s then when (refuses_sw s.setup.buffer s.setup.boundary w) errno.Einval) s (says reply.Ok (set_sw w s)) h (λ n. Sound-set_sw w s (sets_up_sw s.dir s.state (first_none (table kind.SwParams s) _ n)) (no_refusal (refuses_sw s.setup.buffer s.setup.boundary w) errno.Einval (then_none (table kind.SwParams s) (when (refuses_sw s.setup.buffer s.setup.boundary w) errno.Einval) n)) h)
KeepsSound-event k call.Prepare c l io s f h = KeepsSound-act_alone k (act.Prepare (is_paused s.state || is_suspended s.state)) s refl h
KeepsSound-event k call.Start c l io s f h = KeepsSound-act_alone k act.Start s refl h
KeepsSound-event k call.DropNow c l io s f h = KeepsSound-act_unless k (table kind.DropNow s) (act.Stop state.Setup) s refl h
KeepsSound-event k (call.Drain m) c l io s f h = KeepsSound-drain k c m s h
KeepsSound-event k call.PausePush c l io s f h = KeepsSound-act_alone k act.Pause s refl h
KeepsSound-event k call.PauseRelease c l io s f h = KeepsSound-act_alone k act.Release s refl h
KeepsSound-event k call.Suspend c l io s f h = KeepsSound-act_alone k act.Suspend s refl h
KeepsSound-event k call.Resume c l io s f h = KeepsSound-act_alone k act.Resume s refl h
KeepsSound-event k call.Xrun c l io s f h = KeepsSound-unless k (table kind.Xrun s) s (if is_running s.state then act_alone (act.Stop state.Xrun) s else says reply.Ok s) h (λ _. KeepsSound-if k (is_running s.state) (act_alone (act.Stop state.Xrun) s) (says reply.Ok s) (λ _. KeepsSound-act_alone k (act.Stop state.Xrun) s refl h) (λ _. h))
KeepsSound-event k (call.Write w m) c l io s f h = KeepsSound-write k c w m io s h
KeepsSound-event k (call.Read w m n) c l io s f h = KeepsSound-read k c w m n s h
KeepsSound-event k (call.Rewind n) c l io s f h = KeepsSound-if k (nat_eq n 0) (says (reply.Frames 0) s) (unless (table kind.Rewind s) s (updated_or_epipe s (rewound n))) (λ _. h) (λ _. KeepsSound-unless k (table kind.Rewind s) s (updated_or_epipe s (rewound n)) h (λ _. KeepsSound-updated_or_epipe k s (rewound n) h (λ t g. Sound-back_by (min n (hw_avail t)) t (omega arith) g)))
KeepsSound-event k (call.Forward n) c l io s f h = KeepsSound-if k (nat_eq n 0) (says (reply.Frames 0) s) (unless (table kind.Forward s) s (updated_or_epipe s (forwarded n))) (λ _. h) (λ _. KeepsSound-unless k (table kind.Forward s) s (updated_or_epipe s (forwarded n)) h (λ _. KeepsSound-updated_or_epipe k s (forwarded n) h (λ t g. Sound-on_by (min n (avail t)) t (omega arith) g)))
KeepsSound-event k call.Hwsync c l io s f h = KeepsSound-unless k (table kind.Hwsync s) s (updated_or_epipe s (says reply.Ok)) h (λ _. KeepsSound-updated_or_epipe k s (says reply.Ok) h (λ t g. g))
KeepsSound-event k call.Delay c l io s f h = KeepsSound-unless k (table kind.Delay s) s (updated_or_epipe s (λ t. says (delay t) t)) h (λ _. KeepsSound-updated_or_epipe k s (λ t. says (delay t) t) h (λ t g. g))
KeepsSound-event k (call.SyncPtr p) c l io s f h = KeepsSound-unless k (table kind.SyncPtr s then when (nat_le s.setup.boundary p) errno.Einval) s (says (reply.Ptrs (page (sync_to p s))) (sync_to p s)) h (λ _. Sound-sync_to p s h)
KeepsSound-event k call.Status c l io s f h = KeepsSound-updating k s (λ u t. says (reply.Ptrs (page t)) t) h (λ u t g. g)
KeepsSound-event k call.PageNow c l io s f h = h
KeepsSound-event k call.Poll c l io s f h = h
KeepsSound-event k call.Map c l io s f h = KeepsSound-unless k (table kind.Map s then (when (not (is_mapped_access s.setup.config)) errno.Einval then when (nat_le 65535 s.mappings) errno.Ebusy)) s (says reply.Ok (set_mappings (s.mappings + 1) s)) h (λ n. Sound-set_mappings (s.mappings + 1) s (λ q. absurd (clash s (sets_up_map s.dir s.state (first_none (table kind.Map s) _ n)) q)) h)
KeepsSound-event k call.Unmap c l io s f h = KeepsSound-unless k (when (nat_eq s.mappings 0) errno.Einval) s (says reply.Ok (set_mappings (s.mappings - 1) s)) h (λ _. Sound-set_mappings (s.mappings - 1) s (λ q. let e : s.mappings ≡ 0 = q.unmapped in omega (arith, e)) h)
KeepsSound-event k (call.Store o) c l io s f h = let n : ℕ = length io / s.setup.frame_bytes in KeepsSound-unless k (when (not (is_playback s.dir) || nat_eq s.mappings 0 || not (is_whole s io) || nat_lt s.setup.buffer (o + n)) errno.Einval) s (hands (reply.Frames n) (frames_in s io) (record s { puts = put_at o (frames_in s io) s.puts })) h (λ _. Sound-puts (put_at o (frames_in s io) s.puts) s h)
KeepsSound-event k (call.Load o n) c l io s f h = KeepsSound-unless k (when (nat_eq s.mappings 0 || nat_lt s.setup.buffer (o + n)) errno.Einval) s (hands (reply.Frames n) (standing_at s.puts s.setup.buffer o n (zero_frame s)) s) h (λ _. h)
KeepsSound-event k (call.Link j) c l io s f h = h
KeepsSound-event k call.Unlink c l io s f h = KeepsSound-unless k (when (not l) errno.Ealready) s (says reply.Ok s) h (λ _. h)
KeepsSound-event k call.Go c l io s f h = KeepsSound-go k c io s h
KeepsSound-event k (call.MoveBy n) c l io s f h = Sound-move n s h
KeepsSound-event k call.Irq c l io s f h = KeepsSound-updating k s (λ u. says reply.Ok) h (λ u t g. g)
KeepsSound-event k (call.FailAt i) c l io s f h = KeepsSound-if k (nat_le 1 i && nat_le i 64) (says reply.Ok (plan_set i s)) (fails errno.Einval s) (λ _. Sound-plan (set s.card.plan (i - 1) true) s h) (λ _. h)
KeepsSound-event k call.Give c l io s f h = KeepsSound-unless k (when (is_bare s || is_playback s.dir || not (is_whole s io)) errno.Einval) s (hands reply.Ok (frames_in s io) (record s { card = record s.card { to_give = frames_in s io } })) h (λ n. Sound-to_give (frames_in s io) s (left_of_two (is_bare s) (is_playback s.dir) (not (is_whole s io)) errno.Einval n) h)
KeepsSound-event k call.Unplug c l io s f h = KeepsSound-unless k (table kind.Unplug s) s (if s.card.runs then making (act.Stop state.Setup) s unplug_alone else unplug_alone s) h (λ _. KeepsSound-if k s.card.runs (making (act.Stop state.Setup) s unplug_alone) (unplug_alone s) (λ _. KeepsSound-stopping k s h) (λ e. Sound-unplugged s e h))

pub KeepsSound-program : (k : SubId) (e : Call) (c : ClientId) (linked : Bool) (io : List ℕ) (s : Stream) → Sound s → KeepsSound k (program e c linked io s)
KeepsSound-program k e c l io s h = KeepsSound-if k (is_closed s.state && not (opens e)) (fails errno.Enxio s) (event e c l io s) (λ _. h) (λ q. KeepsSound-event k e c l io s (λ o. let g : is_closed s.state ≡ false = not_here (is_closed s.state) (opens e) o q in g) h)
  where
    not_here : (a b : Bool) → b ≡ false → (a && not b) ≡ false → a ≡ false
    not_here true true o q = absurd (cc)
    not_here true false o q = absurd (cc)
    not_here false b o q = refl
