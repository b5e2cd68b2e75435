-- A call in progress that is entered again: who has one, and what becomes of it.
use Rattle.std.proofs.Common.{◌≡◌, ◌≢◌, ℕ, zero, suc, ◌+◌, ◌*◌, Bool, true, false, cond, not, ◌&&◌, nat_eq, nat_lt, List, [], ◌∷◌, length, set, Option, Some, None, refl, sym, ap, ◌∙◌, subst}
use Rattle.std.proofs.Math.Path.{ap₂}
use Rattle.std.proofs.lemmas.List.{append-nil}
use Rattle.std.proofs.lemmas.List.Elements.{All-filter}
use Rattle.std.specs.List.{slice_get}
use Rattle.std.specs.Option.{is_some}
use Rattle.std.specs.Prelude.{IfSome}
use Rattle.pcm_base.specs.declared.act.Act.TheVariants as act
use Rattle.pcm_base.specs.declared.act.Outcome.{Outcome}
use Rattle.pcm_base.specs.declared.act.Outcome.TheVariants as outcome
use Rattle.pcm_base.specs.declared.call.Call.{Call}
use Rattle.pcm_base.specs.declared.call.Call.TheVariants as call
use Rattle.pcm_base.specs.declared.card.Card.{Ghosts}
use Rattle.pcm_base.specs.declared.config.Config.{Config}
use Rattle.pcm_base.specs.declared.ids.ClientId.{ClientId}
use Rattle.pcm_base.specs.declared.ids.SubId.{SubId}
use Rattle.pcm_base.specs.declared.reply.Page.{Page}
use Rattle.pcm_base.specs.declared.reply.Reply.{Reply}
use Rattle.pcm_base.specs.declared.reply.Reply.TheVariants as reply
use Rattle.pcm_base.specs.declared.sleeper.Sleeper.{Sleeper}
use Rattle.pcm_base.specs.declared.sleeper.Task.{Task}
use Rattle.pcm_base.specs.declared.sleeper.Task.TheVariants as task
use Rattle.pcm_base.specs.declared.sleeper.Xfer.{Xfer}
use Rattle.pcm_base.specs.declared.state.Dir.{Dir}
use Rattle.pcm_base.specs.declared.state.Dir.TheVariants as dir
use Rattle.pcm_base.specs.declared.state.Errno.{Errno}
use Rattle.pcm_base.specs.declared.state.Errno.TheVariants as errno
use Rattle.pcm_base.specs.declared.state.State.{State}
use Rattle.pcm_base.specs.declared.state.State.TheVariants as state
use Rattle.pcm_base.specs.declared.votes.Acted.{Acted}
use Rattle.pcm_base.specs.model.Acts.{members_after, subs}
use Rattle.pcm_base.specs.model.Events.{go, go_call, go_drain, go_on, go_task, go_transfer, go_transfer_in, left_by, length_of, others_than as others_waiting, page, waiting_of}
use Rattle.pcm_base.specs.model.Group.{mark, marked, put_stream, stream_of}
use Rattle.pcm_base.specs.model.Program.{Answer, Ends, Makes, Program, fails, says}
use Rattle.pcm_base.specs.model.Replay.{Distinct, going_length, is_member, task_layout}
use Rattle.pcm_base.specs.model.Sleep.{is_among}
use Rattle.pcm_base.specs.model.Sound.{Sound, SoundAt, is_set_up, may_be_set_up}
use Rattle.pcm_base.specs.model.Stream.{Stream, Waiting, Member as ModelMember, avail}
use Rattle.pcm_base.specs.model.Transfer.{fits}
use Rattle.pcm_base.specs.model.Words.{is_closed, is_disconnected, is_suspended}
use Rattle.pcm_laws.proofs.Marks.{put_stream-own}
use Rattle.sleepers.specs.Clients.{AreApart, has_client, is_of, others_than}
use Rattle.sleepers.specs.Marks.{AreMarks, marks_with, waiting}
use Rattle.pcm_stream.specs.declared.members.Member.{Member}
use Rattle.pcm_stream.specs.Members.{numbers_of}
use Rattle.pcm_stream.specs.MembersStand.{AllStandFor, CallsFit, IsMember, IsTransferOn, MemberStandsFor, TaskFits}
use Rattle.pcm_stream.proofs.MemberLemmas.{CallsFit-same}
use Rattle.group_trigger.specs.Votes.{IsActed}
use Rattle.pcm_group.specs.declared.go.Fate.{Fate}
use Rattle.pcm_group.specs.Bytes.{bytes_left}
use Rattle.pcm_group.specs.Ended.{IsEndedBy, RunsTo, error_of}
use Rattle.pcm_group.specs.Going.{comes_to, fate_in, waits_or_goes}
use Rattle.pcm_group.specs.Transfers.{AreBytesOf, IsTransferOf, bytes_with}
use Rattle.pcm_group.specs.Waiting.{calls_of, is_free, is_free_but, is_free_for}
use Rattle.pcm_group.specs.Built.{is_waiting_call}
use Rattle.pcm_group.proofs.AsleepLemmas.{StandsFor-sleepers, awake_marks, mark_absent, mark_stands}
use Rattle.pcm_group.proofs.BeginLemmas.{fits_config}
use Rattle.pcm_group.proofs.EndedLemmas.{else-is, then-is}
use Rattle.pcm_group.proofs.PlaceLemmas.{both_true, is_member-at, nat_eq-self, numbers-length, other_number, put_absent, put_stream-twice}
use Rattle.pcm_group.proofs.SizeLemmas.{AreBytesOf-at}
use Rattle.pcm_group.proofs.WakeLemmas.{avail-page, none_waits, state-page}

-- ---- what becomes of a transfer

pub transfer_fate : (c : ClientId) (x : Xfer) (wanted : ℕ) (io : List ℕ) (s : Stream) → go_transfer c x wanted io s ≡ comes_to c x io s (fate_in s.state s.dir (nat_lt (avail s) wanted))
transfer_fate c x wanted io s = by s.state s.dir
  where
    waits : (b : Bool) → cond b (says reply.Asleep s) (go_on c x io (left_by c s)) ≡ comes_to c x io s (waits_or_goes b)
    waits true = refl
    waits false = refl

    by : (t : State) (d : Dir) → go_transfer_in t d c x wanted io s ≡ comes_to c x io s (fate_in t d (nat_lt (avail s) wanted))
    by state.Prepared d = waits (nat_lt (avail s) wanted)
    by state.Running d = waits (nat_lt (avail s) wanted)
    by state.Paused d = waits (nat_lt (avail s) wanted)
    by state.Draining dir.Playback = refl
    by state.Draining dir.Capture = refl
    by state.Suspended d = refl
    by state.Xrun d = refl
    by state.Closed d = refl
    by state.Opened d = refl
    by state.Setup d = refl
    by state.Disconnected d = refl

-- too few frames are available, by what a client sees
fate_unset : (t : State) (d : Dir) (a b : Bool) → is_set_up t ≡ false → fate_in t d a ≡ fate_in t d b
fate_unset state.Closed d a b h = refl
fate_unset state.Opened d a b h = refl
fate_unset state.Disconnected d a b h = refl
fate_unset state.Setup d a b h = refl
fate_unset state.Suspended d a b h = refl
fate_unset state.Xrun d a b h = refl
fate_unset state.Prepared d a b h = absurd (let no : ⊥ = cc in no)
fate_unset state.Running d a b h = absurd (let no : ⊥ = cc in no)
fate_unset state.Paused d a b h = absurd (let no : ⊥ = cc in no)
fate_unset state.Draining d a b h = absurd (let no : ⊥ = cc in no)

pub fate_seen : (s : Stream) (p : Page) (wanted : ℕ) → Sound s → p ≡ page s → fate_in p.state s.dir (nat_lt p.avail wanted) ≡ fate_in s.state s.dir (nat_lt (avail s) wanted)
fate_seen s p wanted sound is = ap (λ (t : State). fate_in t s.dir (nat_lt p.avail wanted)) (ap (λ (q : Page). q.state) is ∙ state-page s) ∙ by s.setup.config refl sound
  where
    by : (o : Option Config) → s.setup.config ≡ o → SoundAt o s → fate_in s.state s.dir (nat_lt p.avail wanted) ≡ fate_in s.state s.dir (nat_lt (avail s) wanted)
    by None e h = fate_unset s.state s.dir (nat_lt p.avail wanted) (nat_lt (avail s) wanted) h.state
    by (Some c) e h = ap (λ (n : ℕ). fate_in s.state s.dir (nat_lt n wanted)) (ap (λ (q : Page). q.avail) is ∙ avail-page c s e)

-- ---- the call of a client

-- a call in progress fits its stream
pub fits_of : (s : Stream) (c : ClientId) (ps : List Waiting) → CallsFit s ps → IfSome (waiting_of c ps) (TaskFits s)
fits_of s c [] h = tt
fits_of s c (p ∷ ps) h = by (nat_eq p.client.0 c.0) (fits_of s c ps h.1)
  where
    by : (b : Bool) → IfSome (waiting_of c ps) (TaskFits s) → IfSome (cond b (Some p.task) (waiting_of c ps)) (TaskFits s)
    by true rest = h.0
    by false rest = rest

pub transfer_fits : (s : Stream) (x : Xfer) → IsTransferOn s x → IsTransferOf s x
transfer_fits s x h = record { writing = h.writing; layout = h.layout; bytes = h.bytes }

-- with its own bytes, with others, and where there is none
pub goes_own : (c : ClientId) (io : List ℕ) (s : Stream) (p : Task) → waiting_of c s.sleepers ≡ Some p → nat_eq (length io) (length_of p s) ≡ true → go c io s ≡ go_task c p io s
goes_own c io s p is size = ap (λ (o : Option Task). go_call o c io s) is ∙ ap (λ (b : Bool). cond b (go_task c p io s) (fails errno.Einval s)) size

pub goes_other : (c : ClientId) (io : List ℕ) (s : Stream) (p : Task) → waiting_of c s.sleepers ≡ Some p → nat_eq (length io) (length_of p s) ≡ false → go c io s ≡ fails errno.Einval s
goes_other c io s p is size = ap (λ (o : Option Task). go_call o c io s) is ∙ ap (λ (b : Bool). cond b (go_task c p io s) (fails errno.Einval s)) size

pub goes_none : (c : ClientId) (io : List ℕ) (s : Stream) → waiting_of c s.sleepers ≡ None → go c io s ≡ fails errno.Einval s
goes_none c io s is = ap (λ (o : Option Task). go_call o c io s) is

-- a transfer, by what it comes to
pub goes_to : (c : ClientId) (x : Xfer) (wanted : ℕ) (io : List ℕ) (s : Stream) (p q : Fate) → waiting_of c s.sleepers ≡ Some (task.Transfer x wanted) → nat_eq (length io) ((x.moved + x.rest) * s.setup.frame_bytes) ≡ true
    → go_transfer c x wanted io s ≡ comes_to c x io s p → p ≡ q → go c io s ≡ comes_to c x io s q
goes_to c x wanted io s p q is size comes same = goes_own c io s (task.Transfer x wanted) is size ∙ comes ∙ ap (comes_to c x io s) same

-- the test on its bytes
pub sized : (x : Xfer) (io : List ℕ) (s : Stream) (a b : Bool) → fits x.layout s.setup.config ≡ true → (is_some s.setup.config ≡ true → a ≡ nat_eq (length io) ((x.moved + x.rest) * s.setup.frame_bytes)) → a ≡ b
    → nat_eq (length io) ((x.moved + x.rest) * s.setup.frame_bytes) ≡ b
sized x io s a b fit test is = let has = fits_config x.layout s fit in sym (test (ap (λ (o : Option Config). is_some o) has.is)) ∙ is

-- a drain, after it was watched
pub goes_watched : (c : ClientId) (io : List ℕ) (s : Stream) → waiting_of c s.sleepers ≡ Some task.Drain → nat_eq (length io) 0 ≡ true → is_disconnected s.state ≡ false → go c io s ≡ Makes act.Watch s (go_drain c)
goes_watched c io s is size here = goes_own c io s task.Drain is size ∙ else-is (is_disconnected s.state) (fails errno.Ebadfd (left_by c s)) (Makes act.Watch s (go_drain c)) here

pub goes_gone : (c : ClientId) (io : List ℕ) (s : Stream) → waiting_of c s.sleepers ≡ Some task.Drain → nat_eq (length io) 0 ≡ true → is_disconnected s.state ≡ true → go c io s ≡ fails errno.Ebadfd (left_by c s)
goes_gone c io s is size gone = goes_own c io s task.Drain is size ∙ then-is (is_disconnected s.state) (fails errno.Ebadfd (left_by c s)) (Makes act.Watch s (go_drain c)) gone

pub drain_ends : (c : ClientId) (o : Outcome) (t : Stream) → error_of o ≡ None → go_drain c o t ≡ says (cond (is_suspended t.state) (reply.Err errno.Estrpipe) reply.Ok) (left_by c t)
drain_ends c outcome.Done t h = by (is_suspended t.state)
  where
    by : (b : Bool) → cond b (fails errno.Estrpipe (left_by c t)) (says reply.Ok (left_by c t)) ≡ says (cond b (reply.Err errno.Estrpipe) reply.Ok) (left_by c t)
    by true = refl
    by false = refl
drain_ends c (outcome.Refused j e) t h = absurd (let no : ⊥ = cc in no)
drain_ends c (outcome.Failed j) t h = absurd (let no : ⊥ = cc in no)

pub drain_waits : (c : ClientId) (o : Outcome) (t : Stream) (e : Errno) → error_of o ≡ Some e → go_drain c o t ≡ says reply.Asleep t
drain_waits c outcome.Done t e h = absurd (let no : ⊥ = cc in no)
drain_waits c (outcome.Refused j d) t e h = refl
drain_waits c (outcome.Failed j) t e h = refl

-- ---- who is free

pub free_left : {C : Type 0} {g : Ghosts C} (i : ℕ) (c : ClientId) (ms : List (Member C g)) (m : Member C g) (new : List Sleeper) → slice_get ms i ≡ Some m → is_free_but i c (calls_of ms) ≡ true → has_client c new ≡ false
    → is_free c (calls_of (set ms i (record m { sleepers = new }))) ≡ true
free_left i c [] m new at h gone = absurd (let no : ⊥ = cc in no)
free_left zero c (x ∷ ms) m new at h gone = ap₂ (λ a b. not a && b) gone h
free_left (suc i) c (x ∷ ms) m new at h gone =
    let p = both_true (has_client c x.sleepers) (is_free_but i c (calls_of ms)) h in
    ap₂ (λ a b. not a && b) p.0 (free_left i c ms m new at p.1 gone)

free_whole : {C : Type 0} {g : Ghosts C} (i : ℕ) (c : ClientId) (ms : List (Member C g)) (m : Member C g) → slice_get ms i ≡ Some m → is_free_but i c (calls_of ms) ≡ true → has_client c m.sleepers ≡ false → is_free c (calls_of ms) ≡ true
free_whole i c [] m at h none = absurd (let no : ⊥ = cc in no)
free_whole {C = C} {g = g} zero c (x ∷ ms) m at h none =
    let e : m ≡ x = cc in
    ap₂ (λ a b. not a && b) (subst (λ (y : Member C g). has_client c y.sleepers ≡ false) e none) h
free_whole (suc i) c (x ∷ ms) m at h none =
    let p = both_true (has_client c x.sleepers) (is_free_but i c (calls_of ms)) h in
    ap₂ (λ a b. not a && b) p.0 (free_whole i c ms m at p.1 none)

-- the member of the event has no call of the client
pub free_there : {C : Type 0} {g : Ghosts C} (e : Call) (i : ℕ) (c : ClientId) (ms : List (Member C g)) (m : Member C g) → slice_get ms i ≡ Some m → is_free_for e i c (calls_of ms) ≡ true → has_client c m.sleepers ≡ false → is_free c (calls_of ms) ≡ true
free_there call.Go i c ms m at h none = free_whole i c ms m at h none
free_there _ i c ms m at h none = h

-- the event is none that goes on
pub free_short : (e : Call) (i : ℕ) (c : ClientId) (ls : List (List Sleeper)) → is_waiting_call e ≡ false → is_free_for e i c ls ≡ true → is_free c ls ≡ true
free_short call.Go i c ls idle h = absurd (let no : ⊥ = cc in no)
free_short _ i c ls idle h = h

-- a CLOSED stream has no call in progress
closed_unset : (s : Stream) → Sound s → is_closed s.state ≡ true → s.setup.config ≡ None
closed_unset s h closed = by s.setup.config h
  where
    never : (t : State) → may_be_set_up t ≡ true → is_closed t ≡ true → ⊥
    never state.Closed a b = let no : ⊥ = cc in no
    never _ a b = let no : ⊥ = cc in no

    by : (o : Option Config) → SoundAt o s → o ≡ None
    by None q = refl
    by (Some c) q = absurd (never s.state q.state closed)

none_kept : (c : ClientId) (calls : List Sleeper) → waiting calls ≡ [] → has_client c calls ≡ false
none_kept c [] h = refl
none_kept c (x ∷ calls) h = absurd (let no : ⊥ = cc in no)

pub closed_free : {C : Type 0} {g : Ghosts C} (c : ClientId) (m : Member C g) (x : ModelMember) → MemberStandsFor m x → is_closed x.stream.state ≡ true → has_client c m.sleepers ≡ false
closed_free c m x h closed = none_kept c m.sleepers (h.member.calls ∙ none_waits x.stream x.stream.sleepers (closed_unset x.stream h.stream.sound closed) h.member.fit)

-- ---- a call that stays, asleep or awake

IsMember-kept : (sub : SubId) (calls new : List Sleeper) (x : ModelMember) (c : ClientId) (b : Bool) → waiting new ≡ waiting calls → AreApart new → ((marks : List ClientId) → AreMarks marks calls → AreMarks (marks_with c b marks) new) → IsMember sub calls x
    → IsMember sub new (record x { asleep = marks_with c b x.asleep })
IsMember-kept sub calls new x c b same apart marks h = record {
  number = h.number;
  apart = apart;
  calls = same ∙ h.calls;
  marks = marks x.asleep h.marks;
  fit = h.fit;
}

-- the mark by the answer
pub marks_by : (r : Reply) (c : ClientId) (b : Bool) (cs : List ClientId) → (b ≡ true → r ≡ reply.Asleep) → (b ≡ false → r ≢ reply.Asleep) → marked r c cs ≡ marks_with c b cs
marks_by r c true cs asleep awake = ap (λ (x : Reply). marked x c cs) (asleep refl)
marks_by r c false cs asleep awake = awake_marks r c cs (awake refl)

pub kept_stands : {C : Type 0} {g : Ghosts C} (ms : List (Member C g)) (i : ℕ) (m : Member C g) (new : List Sleeper) (c : ClientId) (b : Bool) (r : Reply) (k : SubId) (xs : List ModelMember)
    → AllStandFor ms xs → Distinct (subs xs) → slice_get (subs xs) i ≡ Some k → slice_get ms i ≡ Some m → waiting new ≡ waiting m.sleepers → AreApart new
    → ((marks : List ClientId) → AreMarks marks m.sleepers → AreMarks (marks_with c b marks) new) → ((cs : List ClientId) → marked r c cs ≡ marks_with c b cs)
    → AllStandFor (set ms i (record m { sleepers = new })) (mark k r c xs)
kept_stands [] i m new c b r k xs h d n at same apart marks by = absurd (let no : ⊥ = cc in no)
kept_stands (y ∷ ms) i m new c b r k [] h d n at same apart marks by = absurd h
kept_stands {C = C} {g = g} (y ∷ ms) zero m new c b r k (x ∷ xs) h d n at same apart marks by =
    let e : y ≡ m = cc in
    let f : x.sub ≡ k = cc in
    let here : nat_eq x.sub.0 k.0 ≡ true = ap (λ (j : SubId). nat_eq j.0 k.0) f ∙ nat_eq-self k.0 in
    let absent : is_member k (subs xs) ≡ false = ap (λ (j : SubId). is_member j (subs xs)) (sym f) ∙ d.0 in
    let held = subst (λ (z : Member C g). MemberStandsFor z x) e h.0 in
    let first : MemberStandsFor (record m { sleepers = new }) (record x { asleep = marks_with c b x.asleep }) =
    record { member = IsMember-kept m.sub m.sleepers new x c b same apart marks held.member; stream = held.stream } in (
      subst (λ (q : Bool). MemberStandsFor (record m { sleepers = new }) (record x { asleep = cond q (marked r c x.asleep) x.asleep })) (sym here)
          (subst (λ (l : List ClientId). MemberStandsFor (record m { sleepers = new }) (record x { asleep = l })) (sym (by x.asleep)) first),
      subst (λ (l : List ModelMember). AllStandFor ms l) (sym (mark_absent k r c xs absent)) h.1,
    )
kept_stands (y ∷ ms) (suc i) m new c b r k (x ∷ xs) h d n at same apart marks by =
    let other = other_number x.sub k (subs xs) d.0 (is_member-at (subs xs) i k n) in (
      subst (λ (q : Bool). MemberStandsFor y (record x { asleep = cond q (marked r c x.asleep) x.asleep })) (sym other) h.0,
      kept_stands ms i m new c b r k xs h.1 d.1 n at same apart marks by,
    )

pub IsEndedBy-kept : {C : Type 0} {g : Ghosts C} (c : ClientId) (tells : List Bool) (r : Reply) (k : SubId) (xs : List ModelMember) (acts : List Acted) (ns : List (Member C g)) → Distinct (subs xs) → AllStandFor ns (mark k r c xs)
    → IsEndedBy c tells (says r (stream_of k xs)) k xs acts acts r 0 0 ns
IsEndedBy-kept c tells r k xs acts ns distinct h = record {
  made = [];
  answer = record { reply = r; first = 0; frames = [] };
  left = xs;
  acts = sym (append-nil acts);
  runs = (refl, sym (put_stream-own k xs distinct));
  reply = refl;
  first = refl;
  moved = refl;
  stands = h;
}

-- ---- a call that is no more kept

left_fit : (s : Stream) (c : ClientId) (ps : List Waiting) → CallsFit s ps → CallsFit s (others_waiting c ps)
left_fit s c [] h = tt
left_fit s c (p ∷ ps) h = by (nat_eq p.client.0 c.0) (left_fit s c ps h.1)
  where
    by : (b : Bool) → CallsFit s (others_waiting c ps) → CallsFit s (cond b ps (p ∷ others_waiting c ps))
    by true rest = h.1
    by false rest = (h.0, rest)

IsMember-left : (sub : SubId) (calls new : List Sleeper) (x : ModelMember) (c : ClientId) → new ≡ others_than c calls → AreApart new → waiting new ≡ others_waiting c (waiting calls) → IsMember sub calls x
    → IsMember sub new (record x { stream = left_by c x.stream })
IsMember-left sub calls new x c is apart same h = record {
  number = h.number;
  apart = apart;
  calls = same ∙ ap (others_waiting c) h.calls;
  marks = subst (λ (l : List Sleeper). AreMarks x.asleep l) (sym is) (All-filter (λ y. not (is_of c y)) (λ y. is_among y.client x.asleep ≡ y.asleep) calls h.marks);
  fit = CallsFit-same x.stream (left_by c x.stream) (others_waiting c x.stream.sleepers) refl refl (left_fit x.stream c x.stream.sleepers h.fit);
}

pub left_stands : {C : Type 0} {g : Ghosts C} (ms : List (Member C g)) (i : ℕ) (m : Member C g) (new : List Sleeper) (c : ClientId) (k : SubId) (xs : List ModelMember)
    → AllStandFor ms xs → Distinct (subs xs) → slice_get (subs xs) i ≡ Some k → slice_get ms i ≡ Some m → new ≡ others_than c m.sleepers → AreApart new → waiting new ≡ others_waiting c (waiting m.sleepers)
    → AllStandFor (set ms i (record m { sleepers = new })) (put_stream k (left_by c (stream_of k xs)) xs)
left_stands [] i m new c k xs h d n at is apart same = absurd (let no : ⊥ = cc in no)
left_stands (y ∷ ms) i m new c k [] h d n at is apart same = absurd h
left_stands {C = C} {g = g} (y ∷ ms) zero m new c k (x ∷ xs) h d n at is apart same =
    let e : y ≡ m = cc in
    let f : x.sub ≡ k = cc in
    let here : nat_eq x.sub.0 k.0 ≡ true = ap (λ (j : SubId). nat_eq j.0 k.0) f ∙ nat_eq-self k.0 in
    let absent : is_member k (subs xs) ≡ false = ap (λ (j : SubId). is_member j (subs xs)) (sym f) ∙ d.0 in
    let held = subst (λ (z : Member C g). MemberStandsFor z x) e h.0 in
    let mine : stream_of k (x ∷ xs) ≡ x.stream = ap (λ (b : Bool). cond b x.stream (stream_of k xs)) here in
    let first : MemberStandsFor (record m { sleepers = new }) (record x { stream = left_by c x.stream }) = record {
      member = IsMember-left m.sub m.sleepers new x c is apart same held.member;
      stream = StandsFor-sleepers m.stream x.stream (others_waiting c x.stream.sleepers) held.stream;
    } in (
      subst (λ (s : Stream). MemberStandsFor (record m { sleepers = new }) (record x { stream = cond (nat_eq x.sub.0 k.0) (left_by c s) x.stream })) (sym mine)
          (subst (λ (b : Bool). MemberStandsFor (record m { sleepers = new }) (record x { stream = cond b (left_by c x.stream) x.stream })) (sym here) first),
      subst (λ (l : List ModelMember). AllStandFor ms l) (sym (put_absent k (left_by c (stream_of k (x ∷ xs))) xs absent)) h.1,
    )
left_stands (y ∷ ms) (suc i) m new c k (x ∷ xs) h d n at is apart same =
    let other = other_number x.sub k (subs xs) d.0 (is_member-at (subs xs) i k n) in
    let mine : stream_of k (x ∷ xs) ≡ stream_of k xs = ap (λ (b : Bool). cond b x.stream (stream_of k xs)) other in (
      subst (λ (b : Bool). MemberStandsFor y (record x { stream = cond b (left_by c (stream_of k (x ∷ xs))) x.stream })) (sym other) h.0,
      subst (λ (s : Stream). AllStandFor (set ms i (record m { sleepers = new })) (put_stream k (left_by c s) xs)) (sym mine) (left_stands ms i m new c k xs h.1 d.1 n at is apart same),
    )

-- an answer with which it ends
pub IsEndedBy-left : {C : Type 0} {g : Ghosts C} (c : ClientId) (tells : List Bool) (r : Reply) (t : Stream) (k : SubId) (xs : List ModelMember) (acts : List Acted) (ns : List (Member C g)) → r ≢ reply.Asleep → is_free c (calls_of ns) ≡ true → AllStandFor ns (put_stream k t xs)
    → IsEndedBy c tells (says r t) k xs acts acts r 0 0 ns
IsEndedBy-left c tells r t k xs acts ns awake free h = record {
  made = [];
  answer = record { reply = r; first = 0; frames = [] };
  left = put_stream k t xs;
  acts = sym (append-nil acts);
  runs = (refl, refl);
  reply = refl;
  first = refl;
  moved = refl;
  stands = mark_stands c k r ns (put_stream k t xs) awake free h;
}

-- a program runs on a group whose member it is with another stream as on the group itself
pub RunsTo-with : (tells : List Bool) (p : Program) (k : SubId) (t : Stream) (xs : List ModelMember) (ds : List Acted) (b : Answer) (ys : List ModelMember) → RunsTo tells p k xs ds b ys → RunsTo tells p k (put_stream k t xs) ds b ys
RunsTo-with tells (Ends a s) k t xs [] b ys h = (h.0, h.1 ∙ sym (put_stream-twice k s t xs))
RunsTo-with tells (Ends a s) k t xs (d ∷ ds) b ys h = absurd h
RunsTo-with tells (Makes a s f) k t xs [] b ys h = absurd h
RunsTo-with tells (Makes a s f) k t xs (d ∷ ds) b ys h =
    subst (λ (now : List ModelMember). IsActed tells a now d × RunsTo tells (f d.outcome (stream_of k (members_after d now))) k (members_after d now) ds b ys) (sym (put_stream-twice k s t xs)) h

-- ---- members of which one has other calls

set_at : {A : Type 0} (xs : List A) (i : ℕ) (x y : A) → slice_get xs i ≡ Some x → slice_get (set xs i y) i ≡ Some y
set_at [] i x y at = absurd (let no : ⊥ = cc in no)
set_at (z ∷ xs) zero x y at = refl
set_at (z ∷ xs) (suc i) x y at = set_at xs i x y at

pub AreBytesOf-left : {C : Type 0} {g : Ghosts C} (ms : List (Member C g)) (i : ℕ) (m : Member C g) (new : List Sleeper) (x : Xfer) (io : List ℕ) → slice_get ms i ≡ Some m → AreBytesOf ms i x io → AreBytesOf (set ms i (record m { sleepers = new })) i x io
AreBytesOf-left ms i m new x io at h =
    AreBytesOf-at (set ms i (record m { sleepers = new })) i (record m { sleepers = new }) x io (set_at ms i m (record m { sleepers = new }) at) (record { shape = h.shape m at; whole = h.whole m at; count = h.count m at })

pub length-numbers : {C : Type 0} {g : Ghosts C} (ms ns : List (Member C g)) → numbers_of ns ≡ numbers_of ms → length ns ≡ length ms
length-numbers ms ns e = sym (numbers-length ns) ∙ ap (λ (l : List SubId). length l) e ∙ numbers-length ms

-- ---- the bytes of a call that goes on

abbrev left_in : Option Task → Stream → Answer → List ℕ → List ℕ
left_in o s b io = cond (is_some (going_length o s)) (bytes_with false (task_layout o) b.first b.frames s io) io

pub transfer_left : (c : ClientId) (x : Xfer) (wanted : ℕ) (s : Stream) (b : Answer) (io : List ℕ) → waiting_of c s.sleepers ≡ Some (task.Transfer x wanted) → bytes_with x.writing x.layout b.first b.frames s io ≡ bytes_left call.Go c s b io
transfer_left c x wanted s b io is = by x.writing ∙ sym (ap (λ (o : Option Task). left_in o s b io) is)
  where
    by : (w : Bool) → bytes_with w x.layout b.first b.frames s io ≡ cond (is_some (cond w None (Some (length_of (task.Transfer x wanted) s)))) (bytes_with false x.layout b.first b.frames s io) io
    by true = refl
    by false = refl

pub drain_left : (c : ClientId) (s : Stream) (b : Answer) (io : List ℕ) → waiting_of c s.sleepers ≡ Some task.Drain → io ≡ bytes_left call.Go c s b io
drain_left c s b io is = sym (ap (λ (o : Option Task). left_in o s b io) is)

pub none_left : (c : ClientId) (s : Stream) (b : Answer) (io : List ℕ) → waiting_of c s.sleepers ≡ None → io ≡ bytes_left call.Go c s b io
none_left c s b io is = sym (ap (λ (o : Option Task). left_in o s b io) is)
