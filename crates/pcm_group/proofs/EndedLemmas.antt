-- What programs of a group end with.
use Rattle.std.proofs.Common.{◌≡◌, ◌≢◌, ℕ, Bool, true, false, cond, List, [], ◌∷◌, ◌++◌, set, Option, Some, None, Result, Ok, Err, MatchResult, refl, sym, ap, ◌∙◌, subst, append_assoc}
use Rattle.std.proofs.lemmas.List.{append-nil}
use Rattle.std.specs.List.{slice_get}
use Rattle.pcm_base.specs.declared.act.Act.{Act}
use Rattle.pcm_base.specs.declared.act.Act.TheVariants as act
use Rattle.pcm_base.specs.declared.act.Outcome.{Outcome}
use Rattle.pcm_base.specs.declared.act.Outcome.TheVariants as outcome
use Rattle.pcm_base.specs.declared.act.Updated.{Updated}
use Rattle.pcm_base.specs.declared.act.Updated.TheVariants as updated
use Rattle.pcm_base.specs.declared.call.CallKind.{CallKind}
use Rattle.pcm_base.specs.declared.card.Card.{Ghosts}
use Rattle.pcm_base.specs.declared.ids.SubId.{SubId}
use Rattle.pcm_base.specs.declared.reply.Reply.{Reply}
use Rattle.pcm_base.specs.declared.reply.Reply.TheVariants as reply
use Rattle.pcm_base.specs.declared.state.Dir.{Dir}
use Rattle.pcm_base.specs.declared.state.Errno.{Errno}
use Rattle.pcm_base.specs.declared.state.Errno.TheVariants as errno
use Rattle.pcm_base.specs.declared.state.State.{State}
use Rattle.pcm_base.specs.declared.state.State.TheVariants as state
use Rattle.pcm_base.specs.declared.votes.Acted.{Acted}
use Rattle.pcm_base.specs.model.Acts.{members_after, subs, table}
use Rattle.pcm_base.specs.model.Group.{put_stream, stream_of}
use Rattle.pcm_base.specs.model.Permit.{permit}
use Rattle.pcm_base.specs.model.Program.{Answer, Ends, Makes, Program, act_alone, after_found, fails, going_on, making, or_epipe, says, unless, updated_or_epipe, updating}
use Rattle.pcm_base.specs.model.Replay.{Distinct}
use Rattle.pcm_base.specs.model.Stream.{Stream, Waiting, Member as ModelMember}
use Rattle.pcm_base.specs.model.Update.{Refreshed, found, moved_up, settled, update}
use Rattle.pcm_laws.proofs.Decomposition.{stream_of-put_stream_same}
use Rattle.pcm_laws.proofs.Marks.{put_stream-own}
use Rattle.pcm_stream.specs.declared.members.Member.{Member}
use Rattle.pcm_stream.specs.declared.substream.Substream.{Substream}
use Rattle.pcm_stream.specs.MembersStand.{AllStandFor, CallsFit}
use Rattle.pcm_stream.specs.StandsFor.{StandsFor, tells_plan}
use Rattle.group_trigger.specs.Votes.{IsActed, all_tell}
use Rattle.pcm_group.specs.Ended.{IsAt, IsEnded, IsMade, IsOwnEnd, IsUpdated, KeepsCalls, RunsTo, error_of}
use Rattle.pcm_stream.proofs.MemberLemmas.{CallsFit-same}
use Rattle.state_table.specs.Cases.{answer_of}
use Rattle.pcm_group.proofs.PlaceLemmas.{IsAt-by, IsThere, there, IsAt-put, is_member-at, put_stands, put_stream-twice, subs-members_after}

-- ---- the program is one, or another that is the same

pub IsEnded-at : {C : Type 0} {g : Ghosts C} (tells : List Bool) (p q : Program) (k : SubId) (xs : List ModelMember) (old new : List Acted) (r : Reply) (f n : ℕ) (ms : List (Member C g)) → p ≡ q
    → IsEnded tells q k xs old new r f n ms → IsEnded tells p k xs old new r f n ms
IsEnded-at tells p q k xs old new r f n ms e h = subst (λ (x : Program). IsEnded tells x k xs old new r f n ms) (sym e) h

pub IsOwnEnd-at : {C : Type 0} {g : Ghosts C} (s : Stream) (p q : Program) (r : Reply) (f n : ℕ) (sub : Substream C g) → p ≡ q → IsOwnEnd s q r f n sub → IsOwnEnd s p r f n sub
IsOwnEnd-at s p q r f n sub e h = subst (λ (x : Program). IsOwnEnd s x r f n sub) (sym e) h

pub allowed-is : (refusal : Option Errno) (s : Stream) (p : Program) → refusal ≡ None → unless refusal s p ≡ p
allowed-is refusal s p e = ap (λ (o : Option Errno). unless o s p) e

pub refused-is : (refusal : Option Errno) (s : Stream) (p : Program) (e : Errno) → refusal ≡ Some e → unless refusal s p ≡ fails e s
refused-is refusal s p e h = ap (λ (o : Option Errno). unless o s p) h

pub then-is : (b : Bool) (p q : Program) → b ≡ true → cond b p q ≡ p
then-is b p q h = ap (λ (x : Bool). cond x p q) h

pub else-is : (b : Bool) (p q : Program) → b ≡ false → cond b p q ≡ q
else-is b p q h = ap (λ (x : Bool). cond x p q) h

-- ---- calls that stay

pub keeps-itself : (s : Stream) → KeepsCalls s s
keeps-itself s = record { same = refl; fit = λ h. h }

-- ---- programs that make no act

pub IsEnded-own : {C : Type 0} {g : Ghosts C} (tells : List Bool) (p : Program) (k : SubId) (xs : List ModelMember) (old : List Acted) (r : Reply) (f n : ℕ) (ms : List (Member C g)) (i : ℕ) (m : Member C g) (t : Substream C g)
    → IsAt ms i k tells xs → slice_get ms i ≡ Some m → IsOwnEnd (stream_of k xs) p r f n t → IsEnded tells p k xs old old r f n (set ms i (record m { stream = t }))
IsEnded-own tells (Ends a s) k xs old r f n ms i m t at is h = record {
  made = [];
  answer = a;
  left = put_stream k s xs;
  acts = sym (append-nil old);
  runs = (refl, refl);
  reply = h.0;
  first = h.1;
  moved = h.2;
  stands = put_stands ms i m t k s xs at.stands at.distinct at.number is h.3 h.4;
}
IsEnded-own tells (Makes a s f') k xs old r f n ms i m t at is h = absurd h

-- an answer that leaves all as it was
pub IsEnded-says : {C : Type 0} {g : Ghosts C} (tells : List Bool) (k : SubId) (xs : List ModelMember) (old : List Acted) (r : Reply) (ms : List (Member C g)) (i : ℕ)
    → IsAt ms i k tells xs → IsEnded tells (says r (stream_of k xs)) k xs old old r 0 0 ms
IsEnded-says tells k xs old r ms i at = record {
  made = [];
  answer = record { reply = r; first = 0; frames = [] };
  left = xs;
  acts = sym (append-nil old);
  runs = (refl, sym (put_stream-own k xs at.distinct));
  reply = refl;
  first = refl;
  moved = refl;
  stands = at.stands;
}

-- a refusal, and one of its absence
pub IsEnded-refused : {C : Type 0} {g : Ghosts C} (tells : List Bool) (refusal : Option Errno) (p : Program) (e : Errno) (k : SubId) (xs : List ModelMember) (old : List Acted) (ms : List (Member C g)) (i : ℕ)
    → IsAt ms i k tells xs → refusal ≡ Some e → IsEnded tells (unless refusal (stream_of k xs) p) k xs old old (reply.Err e) 0 0 ms
IsEnded-refused tells refusal p e k xs old ms i at h =
    IsEnded-at tells (unless refusal (stream_of k xs) p) (fails e (stream_of k xs)) k xs old old (reply.Err e) 0 0 ms (refused-is refusal (stream_of k xs) p e h) (IsEnded-says tells k xs old (reply.Err e) ms i at)

pub IsEnded-allowed : {C : Type 0} {g : Ghosts C} (tells : List Bool) (refusal : Option Errno) (s : Stream) (p : Program) (k : SubId) (xs : List ModelMember) (old new : List Acted) (r : Reply) (f n : ℕ) (ms : List (Member C g))
    → refusal ≡ None → IsEnded tells p k xs old new r f n ms → IsEnded tells (unless refusal s p) k xs old new r f n ms
IsEnded-allowed tells refusal s p k xs old new r f n ms e h = IsEnded-at tells (unless refusal s p) p k xs old new r f n ms (allowed-is refusal s p e) h

-- ---- an act

-- the run of a program that makes an act of the member's own stream
pub RunsTo-act : (tells : List Bool) (a : Act) (f : Outcome → Stream → Program) (k : SubId) (xs : List ModelMember) (d : Acted) (ds : List Acted) (b : Answer) (ys : List ModelMember) → Distinct (subs xs)
    → IsActed tells a xs d → RunsTo tells (f d.outcome (stream_of k (members_after d xs))) k (members_after d xs) ds b ys → RunsTo tells (Makes a (stream_of k xs) f) k xs (d ∷ ds) b ys
RunsTo-act tells a f k xs d ds b ys distinct decided runs =
    subst (λ (now : List ModelMember). IsActed tells a now d × RunsTo tells (f d.outcome (stream_of k (members_after d now))) k (members_after d now) ds b ys) (sym (put_stream-own k xs distinct)) (decided, runs)

pub goes : (f : Stream → Program) (o : Outcome) (t : Stream) → error_of o ≡ None → going_on f o t ≡ f t
goes f outcome.Done t h = refl
goes f (outcome.Refused j e) t h = absurd (let no : ⊥ = cc in no)
goes f (outcome.Failed j) t h = absurd (let no : ⊥ = cc in no)

pub stops : (f : Stream → Program) (o : Outcome) (t : Stream) (e : Errno) → error_of o ≡ Some e → going_on f o t ≡ fails e t
stops f outcome.Done t e h = absurd (let no : ⊥ = cc in no)
stops f (outcome.Refused j e') t e h = let is : e' ≡ e = cc in ap (λ (x : Errno). fails x t) is
stops f (outcome.Failed j) t e h = let is : errno.Eio ≡ e = cc in ap (λ (x : Errno). fails x t) is

-- an act, and what follows it
pub IsEnded-then : {C : Type 0} {g : Ghosts C} (tells : List Bool) (a : Act) (f : Outcome → Stream → Program) (i : ℕ) (k : SubId) (xs : List ModelMember) (old mid new : List Acted) (e : Result (Unit {0}) Errno) (ns ms : List (Member C g)) (r : Reply) (u n : ℕ)
    → Distinct (subs xs) → (h : IsMade tells a i k xs old mid e ns)
    → IsEnded tells (f h.acted.outcome (stream_of k (members_after h.acted xs))) k (members_after h.acted xs) mid new r u n ms → IsEnded tells (Makes a (stream_of k xs) f) k xs old new r u n ms
IsEnded-then tells a f i k xs old mid new e ns ms r u n distinct h after = record {
  made = h.acted ∷ after.made;
  answer = after.answer;
  left = after.left;
  acts = after.acts ∙ ap (λ (l : List Acted). l ++ after.made) h.acts ∙ append_assoc old (h.acted ∷ []) after.made;
  runs = RunsTo-act tells a f k xs h.acted after.made after.answer after.left distinct h.decided after.runs;
  reply = after.reply;
  first = after.first;
  moved = after.moved;
  stands = after.stands;
}

-- it is done
pub IsEnded-done : {C : Type 0} {g : Ghosts C} (tells : List Bool) (a : Act) (f : Stream → Program) (i : ℕ) (k : SubId) (xs : List ModelMember) (old mid new : List Acted) (e : Result (Unit {0}) Errno) (ns ms : List (Member C g)) (r : Reply) (u n : ℕ)
    → Distinct (subs xs) → (h : IsMade tells a i k xs old mid e ns) → error_of h.acted.outcome ≡ None
    → IsEnded tells (f (stream_of k (members_after h.acted xs))) k (members_after h.acted xs) mid new r u n ms → IsEnded tells (making a (stream_of k xs) f) k xs old new r u n ms
IsEnded-done tells a f i k xs old mid new e ns ms r u n distinct h done after =
    IsEnded-then tells a (going_on f) i k xs old mid new e ns ms r u n distinct h
    (IsEnded-at tells (going_on f h.acted.outcome (stream_of k (members_after h.acted xs))) (f (stream_of k (members_after h.acted xs))) k (members_after h.acted xs) mid new r u n ms
    (goes f h.acted.outcome (stream_of k (members_after h.acted xs)) done) after)

-- it is not: its error is the answer
pub IsEnded-not_done : {C : Type 0} {g : Ghosts C} (tells : List Bool) (a : Act) (f : Stream → Program) (i : ℕ) (k : SubId) (xs : List ModelMember) (old new : List Acted) (e : Result (Unit {0}) Errno) (d : Errno) (ms : List (Member C g))
    → Distinct (subs xs) → (h : IsMade tells a i k xs old new e ms) → error_of h.acted.outcome ≡ Some d → IsEnded tells (making a (stream_of k xs) f) k xs old new (reply.Err d) 0 0 ms
IsEnded-not_done tells a f i k xs old new e d ms distinct h failed =
    IsEnded-then tells a (going_on f) i k xs old new new e ms ms (reply.Err d) 0 0 distinct h
    (IsEnded-at tells (going_on f h.acted.outcome (stream_of k (members_after h.acted xs))) (fails d (stream_of k (members_after h.acted xs))) k (members_after h.acted xs) new new (reply.Err d) 0 0 ms
    (stops f h.acted.outcome (stream_of k (members_after h.acted xs)) d failed) (IsEnded-says tells k (members_after h.acted xs) new (reply.Err d) ms i h.now))

-- an act alone
pub IsEnded-act : {C : Type 0} {g : Ghosts C} (tells : List Bool) (a : Act) (i : ℕ) (k : SubId) (xs : List ModelMember) (old new : List Acted) (e : Result (Unit {0}) Errno) (ms : List (Member C g)) (r : Reply)
    → Distinct (subs xs) → IsMade tells a i k xs old new e ms → MatchResult e (λ _. r ≡ reply.Ok) (λ d. r ≡ reply.Err d) → IsEnded tells (act_alone a (stream_of k xs)) k xs old new r 0 0 ms
IsEnded-act {C = C} {g = g} tells a i k xs old new (Ok u) ms r distinct h told =
    subst (λ (q : Reply). IsEnded tells (act_alone a (stream_of k xs)) k xs old new q 0 0 ms) (sym told)
    (IsEnded-done tells a (says reply.Ok) i k xs old new new (Ok u) ms ms reply.Ok 0 0 distinct h h.answer (IsEnded-says tells k (members_after h.acted xs) new reply.Ok ms i h.now))
IsEnded-act tells a i k xs old new (Err d) ms r distinct h told =
    subst (λ (q : Reply). IsEnded tells (act_alone a (stream_of k xs)) k xs old new q 0 0 ms) (sym told)
    (IsEnded-not_done tells a (says reply.Ok) i k xs old new (Err d) d ms distinct h h.answer)

-- what act makes of members is what the model makes of them
pub IsMade-by : {C : Type 0} {g : Ghosts C} (tells : List Bool) (a : Act) (i : ℕ) (k : SubId) (xs : List ModelMember) (old new : List Acted) (e : Result (Unit {0}) Errno) (ms ns : List (Member C g)) (d : Acted)
    → IsAt ms i k tells xs → new ≡ old ++ d ∷ [] → IsActed (all_tell ms) a xs d → AllStandFor ns (members_after d xs) → all_tell ns ≡ all_tell ms → MatchResult e (λ _. error_of d.outcome ≡ None) (λ x. error_of d.outcome ≡ Some x)
    → IsMade tells a i k xs old new e ns
IsMade-by tells a i k xs old new e ms ns d at acts decided stands told answer = record {
  acted = d;
  acts = acts;
  decided = subst (λ (l : List Bool). IsActed l a xs d) at.told decided;
  answer = answer;
  now = IsAt-by ms ns i k tells xs (members_after d xs) at stands (subs-members_after d xs) told;
}

-- ---- an update

pub keeps-same : (s t : Stream) → t.dir ≡ s.dir → t.setup ≡ s.setup → t.sleepers ≡ s.sleepers → KeepsCalls s t
keeps-same s t dir setup same = record {
  same = same;
  fit = λ h. subst (λ (ps : List Waiting). CallsFit t ps) (sym same) (CallsFit-same s t s.sleepers dir setup h);
}

settles : (u : Updated) (t : Stream) → KeepsCalls t (settled u t)
settles updated.Nothing t = keeps-itself t
settles updated.DrainDone t = keeps-same t (settled updated.DrainDone t) refl refl refl
settles updated.StopXrun t = keeps-itself t

pub keeps-through : (s t u : Stream) → KeepsCalls s t → KeepsCalls t u → KeepsCalls s u
keeps-through s t u h k = record { same = k.same ∙ h.same; fit = λ f. k.fit (h.fit f) }

updates_to : (b : Bool) (s : Stream) (u : Updated) (t : Stream) → KeepsCalls s t
    → KeepsCalls s (cond b (let r : Refreshed = record { found = u; stream = settled u t } in r) (record { found = updated.Nothing; stream = s })).stream
updates_to true s u t h = keeps-through s t (settled u t) h (settles u t)
updates_to false s u t h = keeps-itself s

pub keeps-update : (s : Stream) → KeepsCalls s (update s).stream
keeps-update s = updates_to s.card.runs s (found (moved_up s)) (moved_up s) (keeps-same s (moved_up s) refl refl refl)

-- a program runs on a group as on one whose member it is has another stream
pub RunsTo-put : (tells : List Bool) (p : Program) (k : SubId) (t : Stream) (xs : List ModelMember) (ds : List Acted) (b : Answer) (ys : List ModelMember) → RunsTo tells p k (put_stream k t xs) ds b ys → RunsTo tells p k xs ds b ys
RunsTo-put tells (Ends a s) k t xs [] b ys h = (h.0, h.1 ∙ put_stream-twice k s t xs)
RunsTo-put tells (Ends a s) k t xs (d ∷ ds) b ys h = absurd h
RunsTo-put tells (Makes a s f) k t xs [] b ys h = absurd h
RunsTo-put tells (Makes a s f) k t xs (d ∷ ds) b ys h =
    subst (λ (now : List ModelMember). IsActed tells a now d × RunsTo tells (f d.outcome (stream_of k (members_after d now))) k (members_after d now) ds b ys) (put_stream-twice k s t xs) h

unstopped : (f : Updated → Stream → Program) (u : Updated) (t : Stream) → u ≢ updated.StopXrun → after_found f u t ≡ f u t
unstopped f updated.Nothing t h = refl
unstopped f updated.DrainDone t h = refl
unstopped f updated.StopXrun t h = absurd (h refl)

-- an update that stops nothing
pub IsUpdated-unstopped : {C : Type 0} {g : Ghosts C} (tells : List Bool) (i : ℕ) (k : SubId) (xs : List ModelMember) (old : List Acted) (u : Updated) (ms : List (Member C g)) (m : Member C g) (t : Substream C g)
    → IsAt ms i k tells xs → slice_get ms i ≡ Some m → u ≡ (update (stream_of k xs)).found → u ≢ updated.StopXrun → StandsFor t (update (stream_of k xs)).stream → tells_plan t ≡ tells_plan m.stream
    → IsUpdated tells i k xs old old u (set ms i (record m { stream = t }))
IsUpdated-unstopped {C = C} {g = g} tells i k xs old u ms m t at is what quiet stands told =
    let s = stream_of k xs in
    let v = (update s).stream in
    let left = put_stream k v xs in
    let mine : stream_of k left ≡ v = stream_of-put_stream_same k v xs (is_member-at (subs xs) i k at.number) in
    record {
      made = [];
      left = left;
      acts = sym (append-nil old);
      what = what;
      now = IsAt-put ms i m t k tells v xs at is (keeps-update s) stands told;
      unstopped = λ _. mine;
      goes_on = λ f ds b ys h.
          subst (λ (p : Program). RunsTo tells p k xs ds b ys) (sym (unstopped f u v quiet) ∙ ap (λ (w : Updated). after_found f w v) what)
          (RunsTo-put tells (f u v) k v xs ds b ys (subst (λ (x : Stream). RunsTo tells (f u x) k left ds b ys) mine h));
    }

-- an update that stops the group
pub IsUpdated-stopped : {C : Type 0} {g : Ghosts C} (tells : List Bool) (i : ℕ) (k : SubId) (xs : List ModelMember) (old new : List Acted) (u : Updated) (e : Result (Unit {0}) Errno) (ms : List (Member C g))
    → u ≡ (update (stream_of k xs)).found → u ≡ updated.StopXrun → IsMade tells (act.Stop state.Xrun) i k (put_stream k (update (stream_of k xs)).stream xs) old new e ms
    → IsUpdated tells i k xs old new u ms
IsUpdated-stopped tells i k xs old new u e ms what stop h =
    let v = (update (stream_of k xs)).stream in
    let now = put_stream k v xs in
    record {
      made = h.acted ∷ [];
      left = members_after h.acted now;
      acts = h.acts;
      what = what;
      now = h.now;
      unstopped = λ ne. absurd (ne stop);
      goes_on = λ f ds b ys r.
          subst (λ (w : Updated). RunsTo tells (after_found f w v) k xs (h.acted ∷ ds) b ys) (sym stop ∙ what)
          (h.decided, subst (λ (w : Updated). RunsTo tells (f w (stream_of k (members_after h.acted now))) k (members_after h.acted now) ds b ys) stop r);
    }

-- what follows an update
pub IsEnded-updated : {C : Type 0} {g : Ghosts C} (tells : List Bool) (f : Updated → Stream → Program) (i : ℕ) (k : SubId) (xs : List ModelMember) (old mid new : List Acted) (u : Updated) (ns ms : List (Member C g)) (r : Reply) (v n : ℕ)
    → (h : IsUpdated tells i k xs old mid u ns) → IsEnded tells (f u (stream_of k h.left)) k h.left mid new r v n ms → IsEnded tells (updating (stream_of k xs) f) k xs old new r v n ms
IsEnded-updated tells f i k xs old mid new u ns ms r v n h after = record {
  made = h.made ++ after.made;
  answer = after.answer;
  left = after.left;
  acts = after.acts ∙ ap (λ (l : List Acted). l ++ after.made) h.acts ∙ append_assoc old h.made after.made;
  runs = h.goes_on f after.made after.answer after.left after.runs;
  reply = after.reply;
  first = after.first;
  moved = after.moved;
  stands = after.stands;
}

-- an update that finds nothing, and one that ends a drain or stops the group
pub IsEnded-reported : {C : Type 0} {g : Ghosts C} (tells : List Bool) (f : Stream → Program) (i : ℕ) (k : SubId) (xs : List ModelMember) (old mid new : List Acted) (u : Updated) (ns ms : List (Member C g)) (r : Reply) (v n : ℕ)
    → (h : IsUpdated tells i k xs old mid u ns) → u ≡ updated.Nothing → IsEnded tells (f (stream_of k h.left)) k h.left mid new r v n ms → IsEnded tells (updated_or_epipe (stream_of k xs) f) k xs old new r v n ms
IsEnded-reported tells f i k xs old mid new u ns ms r v n h none after =
    IsEnded-updated tells (or_epipe f) i k xs old mid new u ns ms r v n h
    (IsEnded-at tells (or_epipe f u (stream_of k h.left)) (f (stream_of k h.left)) k h.left mid new r v n ms (ap (λ (w : Updated). or_epipe f w (stream_of k h.left)) none) after)

epipe_by : (f : Stream → Program) (u : Updated) (t : Stream) → u ≢ updated.Nothing → or_epipe f u t ≡ fails errno.Epipe t
epipe_by f updated.Nothing t h = absurd (h refl)
epipe_by f updated.DrainDone t h = refl
epipe_by f updated.StopXrun t h = refl

pub IsEnded-epipe : {C : Type 0} {g : Ghosts C} (tells : List Bool) (f : Stream → Program) (i : ℕ) (k : SubId) (xs : List ModelMember) (old new : List Acted) (u : Updated) (ms : List (Member C g))
    → IsUpdated tells i k xs old new u ms → u ≢ updated.Nothing → IsEnded tells (updated_or_epipe (stream_of k xs) f) k xs old new (reply.Err errno.Epipe) 0 0 ms
IsEnded-epipe tells f i k xs old new u ms h some =
    IsEnded-updated tells (or_epipe f) i k xs old new new u ms ms (reply.Err errno.Epipe) 0 0 h
    (IsEnded-at tells (or_epipe f u (stream_of k h.left)) (fails errno.Epipe (stream_of k h.left)) k h.left new new (reply.Err errno.Epipe) 0 0 ms (epipe_by f u (stream_of k h.left) some)
    (IsEnded-says tells k h.left new (reply.Err errno.Epipe) ms i h.now))

-- ---- what the code knows of the member at the place

pub stands-there : {C : Type 0} {g : Ghosts C} (ms : List (Member C g)) (i : ℕ) (m : Member C g) (k : SubId) (tells : List Bool) (xs : List ModelMember) → IsAt ms i k tells xs → slice_get ms i ≡ Some m → StandsFor m.stream (stream_of k xs)
stands-there {C = C} {g = g} ms i m k tells xs h at =
    let r : IsThere m k xs = there ms i m k xs h.stands h.distinct h.number at in
    subst (λ (s : Stream). StandsFor m.stream s) r.stream r.stands.stream

-- what the error table says
table_by : (o : Option Errno) → MatchResult (answer_of o) (λ _. o ≡ None) (λ e. o ≡ Some e)
table_by None = refl
table_by (Some e) = refl

pub table_of : (k : CallKind) (s : Stream) (t : State) (d : Dir) (r : Result (Unit {0}) Errno) → r ≡ answer_of (permit k t d) → t ≡ s.state → d ≡ s.dir → MatchResult r (λ _. table k s ≡ None) (λ e. table k s ≡ Some e)
table_of k s t d r h e f =
    let is : r ≡ answer_of (table k s) = h ∙ ap (λ (x : State). answer_of (permit k x d)) e ∙ ap (λ (x : Dir). answer_of (permit k s.state x)) f in
    subst (λ (x : Result (Unit {0}) Errno). MatchResult x (λ _. table k s ≡ None) (λ e. table k s ≡ Some e)) (sym is) (table_by (table k s))

-- the answer by an equation
pub IsEnded-reply : {C : Type 0} {g : Ghosts C} (tells : List Bool) (p : Program) (k : SubId) (xs : List ModelMember) (old new : List Acted) (q r : Reply) (f n : ℕ) (ms : List (Member C g)) → q ≡ r → IsEnded tells p k xs old new r f n ms → IsEnded tells p k xs old new q f n ms
IsEnded-reply tells p k xs old new q r f n ms e h = subst (λ (x : Reply). IsEnded tells p k xs old new x f n ms) (sym e) h
