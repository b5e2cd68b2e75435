-- The marks after a step, and a call that falls asleep.
use Rattle.std.proofs.Common.{◌≡◌, ◌≢◌, ◌≤◌, ℕ, zero, suc, Bool, true, false, cond, not, ◌||◌, ◌&&◌, nat_eq, List, [], ◌∷◌, ◌++◌, set, Option, Some, None, Result, refl, sym, ap, ◌∙◌, subst, append_assoc, arith}
use Rattle.std.proofs.Math.Path.{ap₂}
use Rattle.std.proofs.lemmas.Bool.Decides.{nat_tests}
use Rattle.std.proofs.lemmas.List.{append-nil, map-append}
use Rattle.std.specs.List.{slice_get}
use Rattle.std.specs.Option.{is_some}
use Rattle.pcm_base.specs.declared.act.Act.{Act}
use Rattle.pcm_base.specs.declared.act.Outcome.{Outcome}
use Rattle.pcm_base.specs.declared.act.Outcome.TheVariants as outcome
use Rattle.pcm_base.specs.declared.act.Vote.{Vote}
use Rattle.pcm_base.specs.declared.call.CallKind.TheVariants as kind
use Rattle.pcm_base.specs.declared.call.Mode.{Mode}
use Rattle.pcm_base.specs.declared.call.Mode.TheVariants as mode
use Rattle.pcm_base.specs.declared.act.Act.TheVariants as act
use Rattle.pcm_base.specs.declared.card.Card.{Ghosts}
use Rattle.pcm_base.specs.declared.config.Config.{Config}
use Rattle.pcm_base.specs.declared.ids.ClientId.{ClientId}
use Rattle.pcm_base.specs.declared.ids.SubId.{SubId}
use Rattle.pcm_base.specs.declared.reply.Reply.{Reply}
use Rattle.pcm_base.specs.declared.reply.Reply.TheVariants as reply
use Rattle.pcm_base.specs.declared.sleeper.Sleeper.{Sleeper}
use Rattle.pcm_base.specs.declared.sleeper.Task.{Task}
use Rattle.pcm_base.specs.declared.sleeper.Task.TheVariants as task
use Rattle.pcm_base.specs.declared.state.Dir.{Dir}
use Rattle.pcm_base.specs.declared.state.Errno.{Errno}
use Rattle.pcm_base.specs.declared.state.Errno.TheVariants as errno
use Rattle.pcm_base.specs.declared.state.State.{State}
use Rattle.pcm_base.specs.declared.state.State.TheVariants as state
use Rattle.pcm_base.specs.declared.votes.Acted.{Acted}
use Rattle.pcm_base.specs.model.Acts.{after, after_all, members_after, subs, table}
use Rattle.pcm_base.specs.model.Events.{watch}
use Rattle.pcm_base.specs.model.Group.{mark, marked, put_stream, stream_of}
use Rattle.pcm_base.specs.model.Permit.{permit}
use Rattle.pcm_base.specs.model.Program.{Makes, Program, fails, going_on, making, says}
use Rattle.pcm_base.specs.model.Replay.{Distinct, is_member}
use Rattle.pcm_base.specs.model.Sleep.{without_client}
use Rattle.pcm_base.specs.model.Sound.{Sound, SoundAt, is_set_up}
use Rattle.pcm_base.specs.model.Stream.{Setup, Stream, Waiting, Member as ModelMember}
use Rattle.pcm_base.specs.model.Transfer.{sleeping}
use Rattle.pcm_base.specs.model.World.{nobody}
use Rattle.pcm_laws.proofs.KeptByPrograms.{Sound-sleepers}
use Rattle.pcm_laws.proofs.Leaves.{IsSameBesideActs-after}
use Rattle.sleepers.specs.Clients.{AreApart, has_client, is_of}
use Rattle.sleepers.specs.Marks.{AreMarks, waiting}
use Rattle.sleepers.proofs.ClientLemmas.{filter-none}
use Rattle.sleepers.proofs.MarkLemmas.{AreMarks-take}
use Rattle.pcm_stream.specs.declared.members.Member.{Member}
use Rattle.pcm_stream.specs.declared.substream.Substream.{Substream}
use Rattle.pcm_stream.specs.MembersStand.{AllStandFor, CallsFit, IsMember, MemberStandsFor, TaskFits}
use Rattle.pcm_stream.specs.StandsFor.{StandsFor}
use Rattle.pcm_stream.proofs.MemberLemmas.{CallsFit-same}
use Rattle.pcm_group.specs.Ended.{IsEnded, IsEndedBy, IsMade, error_of}
use Rattle.pcm_group.specs.Waiting.{calls_of, is_free}
use Rattle.pcm_group.proofs.EndedLemmas.{RunsTo-act, goes}
use Rattle.pcm_group.proofs.PlaceLemmas.{both_true, is_member-at, nat_eq-self, other_number, put_absent}

-- ---- the marks of a client that has no call

pub marks_without : (c : ClientId) (marks : List ClientId) (xs : List Sleeper) → has_client c xs ≡ false → AreMarks marks xs → AreMarks (without_client c marks) xs
marks_without c marks xs none h = subst (λ (l : List Sleeper). AreMarks (without_client c marks) l) (filter-none (is_of c) xs none) (AreMarks-take c marks xs h)

pub awake_marks : (r : Reply) (c : ClientId) (cs : List ClientId) → r ≢ reply.Asleep → marked r c cs ≡ without_client c cs
awake_marks reply.Ok c cs h = refl
awake_marks (reply.Frames n) c cs h = refl
awake_marks (reply.Moved n) c cs h = refl
awake_marks (reply.Delay n) c cs h = refl
awake_marks (reply.Ptrs p) c cs h = refl
awake_marks (reply.Poll p) c cs h = refl
awake_marks reply.Asleep c cs h = absurd (h refl)
awake_marks (reply.Err e) c cs h = refl
awake_marks (reply.Late n) c cs h = refl
awake_marks reply.Idle c cs h = refl
awake_marks (reply.Limit n) c cs h = refl
awake_marks (reply.Busy d) c cs h = refl
awake_marks reply.Memory c cs h = refl

either_marks : (b : Bool) (ms ns : List ClientId) (xs : List Sleeper) → AreMarks ms xs → AreMarks ns xs → AreMarks (cond b ms ns) xs
either_marks true ms ns xs h k = h
either_marks false ms ns xs h k = k

IsMember-marked : (sub : SubId) (calls : List Sleeper) (x : ModelMember) (marks : List ClientId) → AreMarks marks calls → IsMember sub calls x → IsMember sub calls (record x { asleep = marks })
IsMember-marked sub calls x marks are h = record { number = h.number; apart = h.apart; calls = h.calls; marks = are; fit = h.fit }

pub mark_stands : {C : Type 0} {g : Ghosts C} (c : ClientId) (k : SubId) (r : Reply) (ms : List (Member C g)) (xs : List ModelMember) → r ≢ reply.Asleep → is_free c (calls_of ms) ≡ true → AllStandFor ms xs → AllStandFor ms (mark k r c xs)
mark_stands c k r [] [] ne free h = tt
mark_stands c k r [] (x ∷ xs) ne free h = absurd h
mark_stands c k r (m ∷ ms) [] ne free h = absurd h
mark_stands c k r (m ∷ ms) (x ∷ xs) ne free h =
    let p = both_true (has_client c m.sleepers) (is_free c (calls_of ms)) free in
    let gone : AreMarks (marked r c x.asleep) m.sleepers = subst (λ (l : List ClientId). AreMarks l m.sleepers) (sym (awake_marks r c x.asleep ne)) (marks_without c x.asleep m.sleepers p.0 h.0.member.marks) in (
      record {
        member = IsMember-marked m.sub m.sleepers x (cond (nat_eq x.sub.0 k.0) (marked r c x.asleep) x.asleep) (either_marks (nat_eq x.sub.0 k.0) (marked r c x.asleep) x.asleep m.sleepers gone h.0.member.marks) h.0.member;
        stream = h.0.stream;
      },
      mark_stands c k r ms xs ne p.1 h.1,
    )

-- a step that leaves its call awake
pub IsEndedBy-of : {C : Type 0} {g : Ghosts C} (c : ClientId) (tells : List Bool) (p : Program) (k : SubId) (xs : List ModelMember) (old new : List Acted) (r : Reply) (f n : ℕ) (ms : List (Member C g))
    → r ≢ reply.Asleep → is_free c (calls_of ms) ≡ true → IsEnded tells p k xs old new r f n ms → IsEndedBy c tells p k xs old new r f n ms
IsEndedBy-of c tells p k xs old new r f n ms ne free h = record {
  made = h.made;
  answer = h.answer;
  left = h.left;
  acts = h.acts;
  runs = h.runs;
  reply = h.reply;
  first = h.first;
  moved = h.moved;
  stands = mark_stands c k r ms h.left ne free h.stands;
}

pub IsEndedBy-at : {C : Type 0} {g : Ghosts C} (c : ClientId) (tells : List Bool) (p q : Program) (k : SubId) (xs : List ModelMember) (old new : List Acted) (r : Reply) (f n : ℕ) (ms : List (Member C g)) → p ≡ q
    → IsEndedBy c tells q k xs old new r f n ms → IsEndedBy c tells p k xs old new r f n ms
IsEndedBy-at c tells p q k xs old new r f n ms e h = subst (λ (x : Program). IsEndedBy c tells x k xs old new r f n ms) (sym e) h

-- an act, and what follows it
pub IsEndedBy-then : {C : Type 0} {g : Ghosts C} (c : ClientId) (tells : List Bool) (a : Act) (f : Outcome → Stream → Program) (i : ℕ) (k : SubId) (xs : List ModelMember) (old mid new : List Acted) (e : Result (Unit {0}) Errno) (ns ms : List (Member C g)) (r : Reply) (u n : ℕ)
    → Distinct (subs xs) → (h : IsMade tells a i k xs old mid e ns)
    → IsEndedBy c tells (f h.acted.outcome (stream_of k (members_after h.acted xs))) k (members_after h.acted xs) mid new r u n ms → IsEndedBy c tells (Makes a (stream_of k xs) f) k xs old new r u n ms
IsEndedBy-then c tells a f i k xs old mid new e ns ms r u n distinct h after = record {
  made = h.acted ∷ after.made;
  answer = after.answer;
  left = after.left;
  acts = after.acts ∙ ap (λ (l : List Acted). l ++ after.made) h.acts ∙ append_assoc old (h.acted ∷ []) after.made;
  runs = RunsTo-act tells a f k xs h.acted after.made after.answer after.left distinct h.decided after.runs;
  reply = after.reply;
  first = after.first;
  moved = after.moved;
  stands = after.stands;
}

-- it is done
pub IsEndedBy-done : {C : Type 0} {g : Ghosts C} (c : ClientId) (tells : List Bool) (a : Act) (f : Stream → Program) (i : ℕ) (k : SubId) (xs : List ModelMember) (old mid new : List Acted) (e : Result (Unit {0}) Errno) (ns ms : List (Member C g)) (r : Reply) (u n : ℕ)
    → Distinct (subs xs) → (h : IsMade tells a i k xs old mid e ns) → error_of h.acted.outcome ≡ None
    → IsEndedBy c tells (f (stream_of k (members_after h.acted xs))) k (members_after h.acted xs) mid new r u n ms → IsEndedBy c tells (making a (stream_of k xs) f) k xs old new r u n ms
IsEndedBy-done c tells a f i k xs old mid new e ns ms r u n distinct h done after =
    IsEndedBy-then c tells a (going_on f) i k xs old mid new e ns ms r u n distinct h
    (IsEndedBy-at c tells (going_on f h.acted.outcome (stream_of k (members_after h.acted xs))) (f (stream_of k (members_after h.acted xs))) k (members_after h.acted xs) mid new r u n ms
    (goes f h.acted.outcome (stream_of k (members_after h.acted xs)) done) after)

-- ---- a client without a number has no call

below_sixteen : (c : ClientId) (xs : List Sleeper) → AreApart xs → 16 ≤ c.0 → has_client c xs ≡ false
below_sixteen c [] h le = refl
below_sixteen c (x ∷ xs) h le =
    let other : nat_eq x.client.0 c.0 ≡ false = grind (arith, nat_tests, h.0, le) in
    ap₂ (λ a b. a || b) other (below_sixteen c xs h.2 le)

pub nobody_free : {C : Type 0} {g : Ghosts C} (ms : List (Member C g)) (xs : List ModelMember) → AllStandFor ms xs → is_free nobody (calls_of ms) ≡ true
nobody_free [] xs h = refl
nobody_free (m ∷ ms) [] h = absurd h
nobody_free (m ∷ ms) (x ∷ xs) h = ap₂ (λ a b. not a && b) (below_sixteen nobody m.sleepers h.0.member.apart (omega arith)) (nobody_free ms xs h.1)

pub free_at : {C : Type 0} {g : Ghosts C} (c : ClientId) (ms : List (Member C g)) (i : ℕ) (m : Member C g) → slice_get ms i ≡ Some m → is_free c (calls_of ms) ≡ true → has_client c m.sleepers ≡ false
free_at c [] i m at h = absurd (let no : ⊥ = cc in no)
free_at {C = C} {g = g} c (x ∷ ms) zero m at h =
    let e : x ≡ m = cc in
    subst (λ (y : Member C g). has_client c y.sleepers ≡ false) e ((both_true (has_client c x.sleepers) (is_free c (calls_of ms)) h).0)
free_at c (x ∷ ms) (suc i) m at h = free_at c ms i m at ((both_true (has_client c x.sleepers) (is_free c (calls_of ms)) h).1)

-- ---- a call that falls asleep

-- the stream with the call among those in progress
pub StandsFor-sleepers : {C : Type 0} {g : Ghosts C} (sub : Substream C g) (s : Stream) (ps : List Waiting) → StandsFor sub s → StandsFor sub (record s { sleepers = ps })
StandsFor-sleepers sub s ps h = record {
  shows = record {
    dir = h.shows.dir;
    model = h.shows.model;
    long_max = h.shows.long_max;
    state = h.shows.state;
    kept = h.shows.kept;
    taken = h.shows.taken;
    to_give = h.shows.to_give;
    unset = h.shows.unset;
    runs_for = h.shows.runs_for;
    position = h.shows.position;
  };
  runs = h.runs;
  plan = h.plan;
  sound = Sound-sleepers ps s h.sound;
}

fit_last : (s : Stream) (ps : List Waiting) (p : Waiting) → TaskFits s p.task → CallsFit s ps → CallsFit s (ps ++ p ∷ [])
fit_last s [] p h fit = (h, tt)
fit_last s (q ∷ ps) p h fit = (fit.0, fit_last s ps p h fit.1)

IsMember-asleep : (sub : SubId) (calls new : List Sleeper) (x : ModelMember) (c : ClientId) (w : Task) → new ≡ calls ++ record { client = c; asleep = true; task = w } ∷ [] → AreApart new
    → ((marks : List ClientId) → AreMarks marks calls → AreMarks (c ∷ without_client c marks) new) → TaskFits x.stream w → IsMember sub calls x
    → IsMember sub new (record x { stream = sleeping (record { client = c; task = w }) x.stream; asleep = c ∷ without_client c x.asleep })
IsMember-asleep sub calls new x c w is apart marks fits h = record {
  number = h.number;
  apart = apart;
  calls = ap waiting is ∙ map-append (λ (y : Sleeper). let v : Waiting = record { client = y.client; task = y.task } in v) calls (record { client = c; asleep = true; task = w } ∷ [])
      ∙ ap (λ (l : List Waiting). l ++ record { client = c; task = w } ∷ []) h.calls;
  marks = marks x.asleep h.marks;
  fit = CallsFit-same x.stream (sleeping (record { client = c; task = w }) x.stream) (x.stream.sleepers ++ record { client = c; task = w } ∷ []) refl refl (fit_last x.stream x.stream.sleepers (record { client = c; task = w }) fits h.fit);
}

pub mark_absent : (k : SubId) (r : Reply) (c : ClientId) (xs : List ModelMember) → is_member k (subs xs) ≡ false → mark k r c xs ≡ xs
mark_absent k r c [] h = refl
mark_absent k r c (x ∷ xs) h = ap₂ (λ b l. record x { asleep = cond b (marked r c x.asleep) x.asleep } ∷ l) (no_left (nat_eq x.sub.0 k.0) (is_member k (subs xs)) h) (mark_absent k r c xs (no_right (nat_eq x.sub.0 k.0) (is_member k (subs xs)) h))
  where
    no_left : (a b : Bool) → (a || b) ≡ false → a ≡ false
    no_left true b h = h
    no_left false b h = refl

    no_right : (a b : Bool) → (a || b) ≡ false → b ≡ false
    no_right true b h = absurd (let no : ⊥ = cc in no)
    no_right false b h = h

pub asleep_stands : {C : Type 0} {g : Ghosts C} (ms : List (Member C g)) (i : ℕ) (m : Member C g) (new : List Sleeper) (c : ClientId) (w : Task) (k : SubId) (xs : List ModelMember)
    → AllStandFor ms xs → Distinct (subs xs) → slice_get (subs xs) i ≡ Some k → slice_get ms i ≡ Some m → new ≡ m.sleepers ++ record { client = c; asleep = true; task = w } ∷ [] → AreApart new
    → ((marks : List ClientId) → AreMarks marks m.sleepers → AreMarks (c ∷ without_client c marks) new) → TaskFits (stream_of k xs) w
    → AllStandFor (set ms i (record m { sleepers = new })) (mark k reply.Asleep c (put_stream k (sleeping (record { client = c; task = w }) (stream_of k xs)) xs))
asleep_stands [] i m new c w k xs h d n at is apart marks fits = absurd (let no : ⊥ = cc in no)
asleep_stands (y ∷ ms) i m new c w k [] h d n at is apart marks fits = absurd h
asleep_stands {C = C} {g = g} (y ∷ ms) zero m new c w k (x ∷ xs) h d n at is apart marks fits =
    let e : y ≡ m = cc in
    let f : x.sub ≡ k = cc in
    let p : Waiting = record { client = c; task = w } in
    let here : nat_eq x.sub.0 k.0 ≡ true = ap (λ (j : SubId). nat_eq j.0 k.0) f ∙ nat_eq-self k.0 in
    let absent : is_member k (subs xs) ≡ false = ap (λ (j : SubId). is_member j (subs xs)) (sym f) ∙ d.0 in
    let held = subst (λ (z : Member C g). MemberStandsFor z x) e h.0 in
    let mine : stream_of k (x ∷ xs) ≡ x.stream = ap (λ (b : Bool). cond b x.stream (stream_of k xs)) here in
    let first : MemberStandsFor (record m { sleepers = new }) (record x { stream = sleeping p x.stream; asleep = c ∷ without_client c x.asleep }) = record {
      member = IsMember-asleep m.sub m.sleepers new x c w is apart marks (subst (λ (s : Stream). TaskFits s w) mine fits) held.member;
      stream = StandsFor-sleepers m.stream x.stream (x.stream.sleepers ++ p ∷ []) held.stream;
    } in
    let rest : mark k reply.Asleep c (put_stream k (sleeping p (stream_of k (x ∷ xs))) xs) ≡ xs = ap (mark k reply.Asleep c) (put_absent k (sleeping p (stream_of k (x ∷ xs))) xs absent) ∙ mark_absent k reply.Asleep c xs absent in (
      subst (λ (s : Stream). MemberStandsFor (record m { sleepers = new }) (record x { stream = cond (nat_eq x.sub.0 k.0) (sleeping p s) x.stream; asleep = cond (nat_eq x.sub.0 k.0) (c ∷ without_client c x.asleep) x.asleep })) (sym mine)
          (subst (λ (b : Bool). MemberStandsFor (record m { sleepers = new }) (record x { stream = cond b (sleeping p x.stream) x.stream; asleep = cond b (c ∷ without_client c x.asleep) x.asleep })) (sym here) first),
      subst (λ (l : List ModelMember). AllStandFor ms l) (sym rest) h.1,
    )
asleep_stands (y ∷ ms) (suc i) m new c w k (x ∷ xs) h d n at is apart marks fits =
    let p : Waiting = record { client = c; task = w } in
    let other = other_number x.sub k (subs xs) d.0 (is_member-at (subs xs) i k n) in
    let mine : stream_of k (x ∷ xs) ≡ stream_of k xs = ap (λ (b : Bool). cond b x.stream (stream_of k xs)) other in
    let later = asleep_stands ms i m new c w k xs h.1 d.1 n at is apart marks (subst (λ (s : Stream). TaskFits s w) mine fits) in (
      subst (λ (b : Bool). MemberStandsFor y (record x { stream = cond b (sleeping p (stream_of k (x ∷ xs))) x.stream; asleep = cond b (c ∷ without_client c x.asleep) x.asleep })) (sym other) h.0,
      subst (λ (s : Stream). AllStandFor (set ms i (record m { sleepers = new })) (mark k reply.Asleep c (put_stream k (sleeping p s) xs))) (sym mine) later,
    )

-- ---- a drain

-- no act changes the set-up
pub setup_after_all : (a : Act) (o : Outcome) (vs : List Vote) (k : SubId) (xs : List ModelMember) → (stream_of k (after_all a o vs xs)).setup ≡ (stream_of k xs).setup
setup_after_all a o [] k xs = refl
setup_after_all a o (v ∷ vs) k [] = refl
setup_after_all a o (v ∷ vs) k (x ∷ xs) = by (nat_eq x.sub.0 k.0) (setup_after_all a o vs k xs)
  where
    by : (b : Bool) → (stream_of k (after_all a o vs xs)).setup ≡ (stream_of k xs).setup → (cond b (after a v o x.stream) (stream_of k (after_all a o vs xs))).setup ≡ (cond b x.stream (stream_of k xs)).setup
    by true rest = (IsSameBesideActs-after a v o x.stream).setup
    by false rest = rest

pub set_up_after : (d : Acted) (k : SubId) (xs : List ModelMember) → is_some (stream_of k xs).setup.config ≡ true → is_some (stream_of k (members_after d xs)).setup.config ≡ true
set_up_after d k xs h = ap (λ (u : Setup). is_some u.config) (setup_after_all d.act d.outcome d.votes k xs) ∙ h

drains_set_up : (t : State) (d : Dir) → permit kind.Drain t d ≡ None → is_set_up t ≡ true
drains_set_up state.Closed d h = absurd (let no : ⊥ = cc in no)
drains_set_up state.Opened d h = absurd (let no : ⊥ = cc in no)
drains_set_up state.Setup d h = refl
drains_set_up state.Prepared d h = refl
drains_set_up state.Running d h = refl
drains_set_up state.Xrun d h = refl
drains_set_up state.Draining d h = refl
drains_set_up state.Paused d h = refl
drains_set_up state.Suspended d h = refl
drains_set_up state.Disconnected d h = absurd (let no : ⊥ = cc in no)

pub set_up_to_drain : (s : Stream) → Sound s → table kind.Drain s ≡ None → is_some s.setup.config ≡ true
set_up_to_drain s h allowed = by s.setup.config h
  where
    by : (o : Option Config) → SoundAt o s → is_some o ≡ true
    by (Some c) q = refl
    by None q = let never : false ≡ true = sym q.state ∙ drains_set_up s.state s.dir allowed in absurd (let no : ⊥ = cc in no)

-- what follows the drain of a group
abbrev pub drained : ClientId → Mode → Stream → Program
drained c m t = elim m as (λ _. Program) [ mode.NonBlock ↦ fails errno.Eagain t | mode.Block ↦ Makes act.Watch t (watch c t) ]

pub watch_done : (c : ClientId) (s : Stream) (o : Outcome) (t : Stream) → error_of o ≡ None → watch c s o t ≡ says reply.Ok t
watch_done c s outcome.Done t h = refl
watch_done c s (outcome.Refused j e) t h = absurd (let no : ⊥ = cc in no)
watch_done c s (outcome.Failed j) t h = absurd (let no : ⊥ = cc in no)

pub watch_waits : (c : ClientId) (s : Stream) (o : Outcome) (t : Stream) (e : Errno) → error_of o ≡ Some e → watch c s o t ≡ says reply.Asleep (sleeping (record { client = c; task = task.Drain }) t)
watch_waits c s outcome.Done t e h = absurd (let no : ⊥ = cc in no)
watch_waits c s (outcome.Refused j d) t e h = refl
watch_waits c s (outcome.Failed j) t e h = refl

-- an answer that leaves the call asleep
pub IsEndedBy-asleep : {C : Type 0} {g : Ghosts C} (c : ClientId) (tells : List Bool) (t : Stream) (k : SubId) (xs : List ModelMember) (old : List Acted) (ms : List (Member C g))
    → AllStandFor ms (mark k reply.Asleep c (put_stream k t xs)) → IsEndedBy c tells (says reply.Asleep t) k xs old old reply.Asleep 0 0 ms
IsEndedBy-asleep c tells t k xs old ms h = record {
  made = [];
  answer = record { reply = reply.Asleep; first = 0; frames = [] };
  left = put_stream k t xs;
  acts = sym (append-nil old);
  runs = (refl, refl);
  reply = refl;
  first = refl;
  moved = refl;
  stands = h;
}
