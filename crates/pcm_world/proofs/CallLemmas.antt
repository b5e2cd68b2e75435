-- Calls in progress of a world, and what a step leaves of them.
use Rattle.std.proofs.Common.{◌≡◌, ◌≢◌, ℕ, ◌+◌, ◌*◌, ◌/◌, ◌<◌, Bool, true, false, cond, ◌&&◌, nat_eq, List, [], ◌∷◌, length, take, Option, Some, None, refl, sym, ap, ◌∙◌, subst, arith}
use Rattle.std.specs.Prelude.{nat_lt}
use Rattle.std.proofs.lemmas.Bool.Decides.{nat_tests}
use Rattle.std.specs.List.{slice_get}
use Rattle.pcm_base.specs.declared.call.Layout.{Layout}
use Rattle.pcm_base.specs.declared.call.Layout.TheVariants as layout
use Rattle.pcm_base.specs.declared.config.Config.{Config}
use Rattle.pcm_base.specs.declared.ids.ClientId.{ClientId}
use Rattle.pcm_base.specs.declared.ids.SubId.{SubId}
use Rattle.pcm_base.specs.declared.reply.Reply.{Reply}
use Rattle.pcm_base.specs.declared.reply.Reply.TheVariants as reply
use Rattle.pcm_base.specs.declared.sleeper.Task.{Task}
use Rattle.pcm_base.specs.declared.sleeper.Task.TheVariants as task
use Rattle.pcm_base.specs.model.Events.{is_busy, waiting_of}
use Rattle.pcm_base.specs.model.Frame.{Frame, frames_of, planar_frames}
use Rattle.pcm_base.specs.model.Stream.{Member, Stream, Waiting}
use Rattle.pcm_base.specs.model.Transfer.{channels_of, frames_by}
use Rattle.pcm_base.specs.model.World.{InProgress, call_of, calls_after, without_call}
use Rattle.pcm_world.specs.declared.calls.Kept.{Kept}
use Rattle.pcm_world.specs.Calls.{AreKept, CallsAgree, CallsApart, IsCallOf, IsKept, IsWaitingFor, KeepsBytes, read_layout, stream_at, task_of}
use Rattle.pcm_world.specs.Waiting.{IsSameFrames}
use Rattle.pcm_world.proofs.EventWalk.{IsAwake}

-- ---- lists of calls

pub same_client : (d c : ClientId) → nat_eq d.0 c.0 ≡ true → d ≡ c
same_client d c h = let e : d.0 ≡ c.0 = grind (arith, nat_tests, h) in ap (λ (n : ℕ). let i : ClientId = record { 0 = n } in i) e

call-other : (c d : ClientId) (ps : List InProgress) → nat_eq d.0 c.0 ≡ false → call_of d (without_call c ps) ≡ call_of d ps
call-other c d [] n = refl
call-other c d (p ∷ ps) n = by (nat_eq p.client.0 c.0) refl (call-other c d ps n)
  where
    by : (b : Bool) → nat_eq p.client.0 c.0 ≡ b → call_of d (without_call c ps) ≡ call_of d ps → call_of d (cond b ps (p ∷ without_call c ps)) ≡ cond (nat_eq p.client.0 d.0) (Some p) (call_of d ps)
    by true e h = let not_d : nat_eq p.client.0 d.0 ≡ false = grind (arith, nat_tests, e, n) in sym (ap (λ (b : Bool). cond b (Some p) (call_of d ps)) not_d)
    by false e h = ap (λ (o : Option InProgress). cond (nat_eq p.client.0 d.0) (Some p) o) h

call-gone : (c : ClientId) (ps : List InProgress) → CallsApart ps → call_of c (without_call c ps) ≡ None
call-gone c [] h = refl
call-gone c (p ∷ ps) h = by (nat_eq p.client.0 c.0) refl (call-gone c ps h.2)
  where
    by : (b : Bool) → nat_eq p.client.0 c.0 ≡ b → call_of c (without_call c ps) ≡ None → call_of c (cond b ps (p ∷ without_call c ps)) ≡ None
    by true e r = ap (λ (d : ClientId). call_of d ps) (sym (same_client p.client c e)) ∙ h.1
    by false e r = ap (λ (b : Bool). cond b (Some p) (call_of c (without_call c ps))) e ∙ r

none-without : (c d : ClientId) (ps : List InProgress) → call_of d ps ≡ None → call_of d (without_call c ps) ≡ None
none-without c d [] h = refl
none-without c d (p ∷ ps) h = by (nat_eq p.client.0 c.0) (nat_eq p.client.0 d.0) refl h (none-without c d ps)
  where
    by : (b t : Bool) → nat_eq p.client.0 d.0 ≡ t → cond t (Some p) (call_of d ps) ≡ None → (call_of d ps ≡ None → call_of d (without_call c ps) ≡ None) → call_of d (cond b ps (p ∷ without_call c ps)) ≡ None
    by b true e q r = absurd (let no : ⊥ = cc in no)
    by true false e q r = q
    by false false e q r = ap (λ (t : Bool). cond t (Some p) (call_of d (without_call c ps))) e ∙ r q

apart-without : (c : ClientId) (ps : List InProgress) → CallsApart ps → CallsApart (without_call c ps)
apart-without c [] h = tt
apart-without c (p ∷ ps) h = by (nat_eq p.client.0 c.0) (apart-without c ps h.2)
  where
    by : (b : Bool) → CallsApart (without_call c ps) → CallsApart (cond b ps (p ∷ without_call c ps))
    by true r = h.2
    by false r = (h.0, none-without c p.client ps h.1, r)

call-own : (p : InProgress) (ps : List InProgress) → call_of p.client (p ∷ ps) ≡ Some p
call-own p ps = let e : nat_eq p.client.0 p.client.0 ≡ true = grind (arith, nat_tests) in ap (λ (b : Bool). cond b (Some p) (call_of p.client ps)) e

call-behind : (d : ClientId) (p : InProgress) (ps : List InProgress) → nat_eq d.0 p.client.0 ≡ false → call_of d (p ∷ ps) ≡ call_of d ps
call-behind d p ps n = let e : nat_eq p.client.0 d.0 ≡ false = grind (arith, nat_tests, n) in ap (λ (b : Bool). cond b (Some p) (call_of d ps)) e

pub client-of : (c : ClientId) (ps : List InProgress) (p : InProgress) → call_of c ps ≡ Some p → p.client ≡ c
client-of c [] p h = absurd (let no : ⊥ = cc in no)
client-of c (q ∷ ps) p h = by (nat_eq q.client.0 c.0) refl h (client-of c ps p)
  where
    by : (b : Bool) → nat_eq q.client.0 c.0 ≡ b → cond b (Some q) (call_of c ps) ≡ Some p → (call_of c ps ≡ Some p → p.client ≡ c) → p.client ≡ c
    by true e f r = let same : q ≡ p = cc in ap (λ (x : InProgress). x.client) (sym same) ∙ same_client q.client c e
    by false e f r = r f

pub client-below : (c : ClientId) (ps : List InProgress) (p : InProgress) → CallsApart ps → call_of c ps ≡ Some p → c.0 < 16
client-below c [] p a h = absurd (let no : ⊥ = cc in no)
client-below c (q ∷ ps) p a h = by (nat_eq q.client.0 c.0) refl h (client-below c ps p a.2)
  where
    by : (b : Bool) → nat_eq q.client.0 c.0 ≡ b → cond b (Some q) (call_of c ps) ≡ Some p → (call_of c ps ≡ Some p → c.0 < 16) → c.0 < 16
    by true e f r = subst (λ (d : ClientId). d.0 < 16) (same_client q.client c e) a.0
    by false e f r = r f

pub calls_after-awake : (r : Reply) (p : InProgress) (ps : List InProgress) → IsAwake r → calls_after r p ps ≡ without_call p.client ps
calls_after-awake reply.Ok p ps w = refl
calls_after-awake (reply.Frames m) p ps w = refl
calls_after-awake (reply.Moved m) p ps w = refl
calls_after-awake (reply.Delay m) p ps w = refl
calls_after-awake (reply.Ptrs q) p ps w = refl
calls_after-awake (reply.Poll q) p ps w = refl
calls_after-awake reply.Asleep p ps w = absurd w
calls_after-awake (reply.Err e) p ps w = refl
calls_after-awake (reply.Late m) p ps w = refl
calls_after-awake reply.Idle p ps w = refl
calls_after-awake (reply.Limit m) p ps w = refl
calls_after-awake (reply.Busy c) p ps w = refl
calls_after-awake reply.Memory p ps w = refl

-- ---- streams that are alike

-- the calls in progress on every stream but those of c on k stay, and a stream on which somebody waits keeps its frames
pub record IsLike (c : ClientId) (k : SubId) (xs ys : List (List Member)) : Type 0 where
  pub calls : (d : ClientId) (j : SubId) → (nat_eq d.0 c.0 && nat_eq j.0 k.0) ≡ false → waiting_of d (stream_at j ys).sleepers ≡ waiting_of d (stream_at j xs).sleepers
  pub frames : (j : SubId) → is_busy (stream_at j xs) ≡ true → IsSameFrames (stream_at j xs) (stream_at j ys)

pub busy-of : (c : ClientId) (s : Stream) → waiting_of c s.sleepers ≢ None → is_busy s ≡ true
busy-of c s h = by s.sleepers h
  where
    by : (ps : List Waiting) → waiting_of c ps ≢ None → nat_lt 0 (length ps) ≡ true
    by [] f = absurd (f refl)
    by (p ∷ ps) f = grind (arith, nat_tests)

pub waits-some : (o : Option Task) (s : Stream) (p : InProgress) → IsWaitingFor o s p → o ≢ None
waits-some None s p h e = h
waits-some (Some t) s p h e = let no : ⊥ = cc in no

not_both : (a b : Bool) → a ≡ false → (a && b) ≡ false
not_both a b e = ap (λ (x : Bool). x && b) e

frames-alike : (l : Layout) (s t : Stream) (io : List ℕ) → IsSameFrames s t → frames_by l t io ≡ frames_by l s io
frames-alike layout.Interleaved s t io h = ap (λ (n : ℕ). frames_of (length io / n) n io) h.frame_bytes
frames-alike layout.Planar s t io h =
    ap (λ (n : ℕ). planar_frames (length io / n) (channels_of t.setup.config) (n / channels_of t.setup.config) io) h.frame_bytes
    ∙ ap (λ (g : Option Config). planar_frames (length io / s.setup.frame_bytes) (channels_of g) (s.setup.frame_bytes / channels_of g) io) h.config

pub bytes-alike : (o : Option Layout) (s t : Stream) (bytes : List ℕ) (p : InProgress) → IsSameFrames s t → KeepsBytes o s bytes p → KeepsBytes o t bytes p
bytes-alike None s t bytes p h k = k
bytes-alike (Some l) s t bytes p h k = ap (λ (fs : List Frame). take (length p.frames) fs) (frames-alike l s t bytes h) ∙ k

task-alike : (o : Option Task) (s t : Stream) (p : InProgress) → IsSameFrames s t → IsWaitingFor o s p → IsWaitingFor o t p
task-alike None s t p h k = k
task-alike (Some (task.Transfer x v)) s t p h k = (k.0 ∙ ap (λ (n : ℕ). (x.moved + x.rest) * n) (sym h.frame_bytes), k.1)
task-alike (Some task.Drain) s t p h k = k

-- the task of a call stays
waits-by : (xs ys : List (List Member)) (p : InProgress) → task_of p ys ≡ task_of p xs → (is_busy (stream_at p.sub xs) ≡ true → IsSameFrames (stream_at p.sub xs) (stream_at p.sub ys))
    → IsWaitingFor (task_of p xs) (stream_at p.sub xs) p → IsWaitingFor (task_of p ys) (stream_at p.sub ys) p
waits-by xs ys p same frames h =
    let busy : is_busy (stream_at p.sub xs) ≡ true = busy-of p.client (stream_at p.sub xs) (waits-some (task_of p xs) (stream_at p.sub xs) p h) in
    subst (λ (o : Option Task). IsWaitingFor o (stream_at p.sub ys) p) (sym same) (task-alike (task_of p xs) (stream_at p.sub xs) (stream_at p.sub ys) p (frames busy) h)

kept-by : (xs ys : List (List Member)) (q : Kept) (d : ClientId) (p : InProgress) → task_of p ys ≡ task_of p xs → (is_busy (stream_at p.sub xs) ≡ true → IsSameFrames (stream_at p.sub xs) (stream_at p.sub ys))
    → IsWaitingFor (task_of p xs) (stream_at p.sub xs) p → IsKept xs q d p → IsKept ys q d p
kept-by xs ys q d p same frames w h =
    let busy : is_busy (stream_at p.sub xs) ≡ true = busy-of p.client (stream_at p.sub xs) (waits-some (task_of p xs) (stream_at p.sub xs) p w) in
    record {
      client = h.client;
      sub = h.sub;
      layout = h.layout ∙ ap read_layout (sym same);
      size = h.size;
      bytes = bytes-alike q.layout (stream_at p.sub xs) (stream_at p.sub ys) q.bytes.items p (frames busy) h.bytes;
    }

-- that of a call of another client
task-same : (c : ClientId) (k : SubId) (xs ys : List (List Member)) → IsLike c k xs ys → (p : InProgress) → nat_eq p.client.0 c.0 ≡ false → task_of p ys ≡ task_of p xs
task-same c k xs ys like p n = like.calls p.client p.sub (not_both (nat_eq p.client.0 c.0) (nat_eq p.sub.0 k.0) n)

waits-alike : (c : ClientId) (k : SubId) (xs ys : List (List Member)) → IsLike c k xs ys → (p : InProgress) → nat_eq p.client.0 c.0 ≡ false
    → IsWaitingFor (task_of p xs) (stream_at p.sub xs) p → IsWaitingFor (task_of p ys) (stream_at p.sub ys) p
waits-alike c k xs ys like p n h = waits-by xs ys p (task-same c k xs ys like p n) (like.frames p.sub) h

kept-alike : (c : ClientId) (k : SubId) (xs ys : List (List Member)) → IsLike c k xs ys → (q : Kept) (d : ClientId) (p : InProgress) → nat_eq p.client.0 c.0 ≡ false
    → IsWaitingFor (task_of p xs) (stream_at p.sub xs) p → IsKept xs q d p → IsKept ys q d p
kept-alike c k xs ys like q d p n w h = kept-by xs ys q d p (task-same c k xs ys like p n) (like.frames p.sub) w h

-- what stands in a client's place
pub call-alike : (c : ClientId) (k : SubId) (xs ys : List (List Member)) (like : IsLike c k xs ys) (ps : List InProgress) → CallsAgree xs ps → (d : ClientId) → nat_eq d.0 c.0 ≡ false
    → (o : Option (Option Kept)) → IsCallOf xs d o (call_of d ps) → IsCallOf ys d o (call_of d ps)
call-alike c k xs ys like ps a d n o h = by o (call_of d ps) refl h
  where
    by : (o : Option (Option Kept)) (q : Option InProgress) → call_of d ps ≡ q → IsCallOf xs d o q → IsCallOf ys d o q
    by (Some (Some q)) (Some p) e f =
        let not_c : nat_eq p.client.0 c.0 ≡ false = ap (λ (x : ClientId). nat_eq x.0 c.0) (client-of d ps p e) ∙ n in
        kept-alike c k xs ys like q d p not_c (a.waits d p e) f
    by (Some None) None e f = tt
    by None None e f = absurd f
    by None (Some p) e f = absurd f
    by (Some None) (Some p) e f = absurd f
    by (Some (Some q)) None e f = absurd f

-- ---- a step of client c on k

-- the caller waits nowhere else
abbrev pub IsNowhereElse : ClientId → SubId → List (List Member) → Type 0
IsNowhereElse c k xs = (j : SubId) → nat_eq j.0 k.0 ≡ false → waiting_of c (stream_at j xs).sleepers ≡ None

cases : (b : Bool) → (b ≡ true → ⊥) → b ≡ false
cases true f = absurd (f refl)
cases false f = refl

-- the caller waits no more
pub agree-awake : (c : ClientId) (k : SubId) (xs ys : List (List Member)) (ps : List InProgress) → IsLike c k xs ys → CallsAgree xs ps → IsNowhereElse c k xs → waiting_of c (stream_at k ys).sleepers ≡ None
    → CallsAgree ys (without_call c ps)
agree-awake c k xs ys ps like a else_ none = record {
  apart = apart-without c ps a.apart;
  waits = λ d p e. by_waits d p e (nat_eq d.0 c.0) refl;
  made = λ d j some. by_made d j some (nat_eq d.0 c.0) refl;
}
  where
    by_waits : (d : ClientId) (p : InProgress) → call_of d (without_call c ps) ≡ Some p → (b : Bool) → nat_eq d.0 c.0 ≡ b → IsWaitingFor (task_of p ys) (stream_at p.sub ys) p
    by_waits d p e true t = absurd (let q : call_of c (without_call c ps) ≡ Some p = ap (λ (x : ClientId). call_of x (without_call c ps)) (sym (same_client d c t)) ∙ e in let two : None ≡ Some p = sym (call-gone c ps a.apart) ∙ q in let no : ⊥ = cc in no)
    by_waits d p e false n =
        let was : call_of d ps ≡ Some p = sym (call-other c d ps n) ∙ e in
        let not_c : nat_eq p.client.0 c.0 ≡ false = ap (λ (x : ClientId). nat_eq x.0 c.0) (client-of d ps p was) ∙ n in
        waits-alike c k xs ys like p not_c (a.waits d p was)

    nowhere : (j : SubId) (b : Bool) → nat_eq j.0 k.0 ≡ b → waiting_of c (stream_at j ys).sleepers ≡ None
    nowhere j true e = ap (λ (i : SubId). waiting_of c (stream_at i ys).sleepers) (same_sub j k e) ∙ none
      where
        same_sub : (j k : SubId) → nat_eq j.0 k.0 ≡ true → j ≡ k
        same_sub j k h = let e : j.0 ≡ k.0 = grind (arith, nat_tests, h) in ap (λ (n : ℕ). let i : SubId = record { 0 = n } in i) e
    nowhere j false e = like.calls c j (both-false (nat_eq c.0 c.0) (nat_eq j.0 k.0) e) ∙ else_ j e
      where
        both-false : (a b : Bool) → b ≡ false → (a && b) ≡ false
        both-false true b h = h
        both-false false b h = refl

    by_made : (d : ClientId) (j : SubId) → waiting_of d (stream_at j ys).sleepers ≢ None → (b : Bool) → nat_eq d.0 c.0 ≡ b → (p : InProgress) × (call_of d (without_call c ps) ≡ Some p) × (p.sub.0 ≡ j.0)
    by_made d j some true t = absurd (some (ap (λ (x : ClientId). waiting_of x (stream_at j ys).sleepers) (same_client d c t) ∙ nowhere j (nat_eq j.0 k.0) refl))
    by_made d j some false n =
        let was : (p : InProgress) × (call_of d ps ≡ Some p) × (p.sub.0 ≡ j.0) = a.made d j (λ e. some (like.calls d j (not_both (nat_eq d.0 c.0) (nat_eq j.0 k.0) n) ∙ e)) in
        (was.0, call-other c d ps n ∙ was.1, was.2)

pub kept-awake : (c : ClientId) (k : SubId) (xs ys : List (List Member)) (ps : List InProgress) (calls now : List (Option Kept)) → IsLike c k xs ys → CallsAgree xs ps → AreKept calls xs ps
    → ((d : ClientId) → nat_eq d.0 c.0 ≡ false → slice_get now d.0 ≡ slice_get calls d.0) → (c.0 < 16 → slice_get now c.0 ≡ Some None) → AreKept now ys (without_call c ps)
kept-awake c k xs ys ps calls now like a h others own = λ d b. by d b (nat_eq d.0 c.0) refl
  where
    by : (d : ClientId) → d.0 < 16 → (t : Bool) → nat_eq d.0 c.0 ≡ t → IsCallOf ys d (slice_get now d.0) (call_of d (without_call c ps))
    by d b true t =
        subst (λ (x : ClientId). IsCallOf ys x (slice_get now x.0) (call_of x (without_call c ps))) (sym (same_client d c t))
        (subst (λ (o : Option (Option Kept)). IsCallOf ys c o (call_of c (without_call c ps))) (sym (own (subst (λ (x : ClientId). x.0 < 16) (same_client d c t) b)))
        (subst (λ (o : Option InProgress). IsCallOf ys c (Some None) o) (sym (call-gone c ps a.apart)) tt))
    by d b false n =
        subst (λ (o : Option InProgress). IsCallOf ys d (slice_get now d.0) o) (sym (call-other c d ps n))
        (subst (λ (o : Option (Option Kept)). IsCallOf ys d o (call_of d ps)) (sym (others d n)) (call-alike c k xs ys like ps a d n (slice_get calls d.0) (h d b)))

-- the caller sleeps, with the call p
pub agree-asleep : (k : SubId) (xs ys : List (List Member)) (ps : List InProgress) (p : InProgress) → p.sub ≡ k → p.client.0 < 16 → IsLike p.client k xs ys → CallsAgree xs ps → IsNowhereElse p.client k xs
    → IsWaitingFor (task_of p ys) (stream_at p.sub ys) p → CallsAgree ys (p ∷ without_call p.client ps)
agree-asleep k xs ys ps p there below like a else_ task = record {
  apart = (below, call-gone p.client ps a.apart, apart-without p.client ps a.apart);
  waits = λ d q e. by_waits d q e (nat_eq d.0 p.client.0) refl;
  made = λ d j some. by_made d j some (nat_eq d.0 p.client.0) refl;
}
  where
    c : ClientId
    c = p.client

    by_waits : (d : ClientId) (q : InProgress) → call_of d (p ∷ without_call p.client ps) ≡ Some q → (b : Bool) → nat_eq d.0 p.client.0 ≡ b → IsWaitingFor (task_of q ys) (stream_at q.sub ys) q
    by_waits d q e true t =
        let own : call_of p.client (p ∷ without_call p.client ps) ≡ Some q = ap (λ (x : ClientId). call_of x (p ∷ without_call p.client ps)) (sym (same_client d p.client t)) ∙ e in
        let two : Some p ≡ Some q = sym (call-own p (without_call p.client ps)) ∙ own in
        let same : p ≡ q = cc in
        subst (λ (x : InProgress). IsWaitingFor (task_of x ys) (stream_at x.sub ys) x) same task
    by_waits d q e false n =
        let was : call_of d ps ≡ Some q = sym (call-behind d p (without_call p.client ps) n ∙ call-other p.client d ps n) ∙ e in
        let not_c : nat_eq q.client.0 p.client.0 ≡ false = ap (λ (x : ClientId). nat_eq x.0 p.client.0) (client-of d ps q was) ∙ n in
        waits-alike p.client k xs ys like q not_c (a.waits d q was)

    at : (j : SubId) → waiting_of p.client (stream_at j ys).sleepers ≢ None → (b : Bool) → nat_eq j.0 k.0 ≡ b → p.sub.0 ≡ j.0
    at j some true e = ap (λ (i : SubId). i.0) there ∙ (let same : k.0 ≡ j.0 = grind (arith, nat_tests, e) in same)
    at j some false e = absurd (some (like.calls p.client j (both-false (nat_eq p.client.0 p.client.0) (nat_eq j.0 k.0) e) ∙ else_ j e))
      where
        both-false : (a b : Bool) → b ≡ false → (a && b) ≡ false
        both-false true b h = h
        both-false false b h = refl

    by_made : (d : ClientId) (j : SubId) → waiting_of d (stream_at j ys).sleepers ≢ None → (b : Bool) → nat_eq d.0 p.client.0 ≡ b → (q : InProgress) × (call_of d (p ∷ without_call p.client ps) ≡ Some q) × (q.sub.0 ≡ j.0)
    by_made d j some true t =
        let own : call_of d (p ∷ without_call p.client ps) ≡ Some p = ap (λ (x : ClientId). call_of x (p ∷ without_call p.client ps)) (same_client d p.client t) ∙ call-own p (without_call p.client ps) in
        (p, own, at j (λ e. some (ap (λ (x : ClientId). waiting_of x (stream_at j ys).sleepers) (same_client d p.client t) ∙ e)) (nat_eq j.0 k.0) refl)
    by_made d j some false n =
        let was : (q : InProgress) × (call_of d ps ≡ Some q) × (q.sub.0 ≡ j.0) = a.made d j (λ e. some (like.calls d j (not_both (nat_eq d.0 p.client.0) (nat_eq j.0 k.0) n) ∙ e)) in
        (was.0, call-behind d p (without_call p.client ps) n ∙ (call-other p.client d ps n ∙ was.1), was.2)

pub kept-asleep : (k : SubId) (xs ys : List (List Member)) (ps : List InProgress) (p : InProgress) (q : Kept) (calls now : List (Option Kept)) → IsLike p.client k xs ys → CallsAgree xs ps → AreKept calls xs ps
    → ((d : ClientId) → nat_eq d.0 p.client.0 ≡ false → slice_get now d.0 ≡ slice_get calls d.0) → slice_get now p.client.0 ≡ Some (Some q) → IsKept ys q p.client p → AreKept now ys (p ∷ without_call p.client ps)
kept-asleep k xs ys ps p q calls now like a h others own kept = λ d b. by d b (nat_eq d.0 p.client.0) refl
  where
    by : (d : ClientId) → d.0 < 16 → (t : Bool) → nat_eq d.0 p.client.0 ≡ t → IsCallOf ys d (slice_get now d.0) (call_of d (p ∷ without_call p.client ps))
    by d b true t =
        subst (λ (x : ClientId). IsCallOf ys x (slice_get now x.0) (call_of x (p ∷ without_call p.client ps))) (sym (same_client d p.client t))
        (subst (λ (o : Option (Option Kept)). IsCallOf ys p.client o (call_of p.client (p ∷ without_call p.client ps))) (sym own)
        (subst (λ (o : Option InProgress). IsCallOf ys p.client (Some (Some q)) o) (sym (call-own p (without_call p.client ps))) kept))
    by d b false n =
        subst (λ (o : Option InProgress). IsCallOf ys d (slice_get now d.0) o) (sym (call-behind d p (without_call p.client ps) n ∙ call-other p.client d ps n))
        (subst (λ (o : Option (Option Kept)). IsCallOf ys d o (call_of d ps)) (sym (others d n)) (call-alike p.client k xs ys like ps a d n (slice_get calls d.0) (h d b)))

-- ---- a change that no call in progress sees

pub record IsUnseen (xs ys : List (List Member)) : Type 0 where
  pub calls : (d : ClientId) (j : SubId) → waiting_of d (stream_at j ys).sleepers ≡ waiting_of d (stream_at j xs).sleepers
  pub frames : (j : SubId) → is_busy (stream_at j xs) ≡ true → IsSameFrames (stream_at j xs) (stream_at j ys)

pub unseen-same : (xs ys : List (List Member)) → ((j : SubId) → stream_at j ys ≡ stream_at j xs) → IsUnseen xs ys
unseen-same xs ys h = record {
  calls = λ d j. ap (λ (s : Stream). waiting_of d s.sleepers) (h j);
  frames = λ j b. record { config = ap (λ (s : Stream). s.setup.config) (h j); frame_bytes = ap (λ (s : Stream). s.setup.frame_bytes) (h j) };
}

pub agree-unseen : (xs ys : List (List Member)) (ps : List InProgress) → IsUnseen xs ys → CallsAgree xs ps → CallsAgree ys ps
agree-unseen xs ys ps h a = record {
  apart = a.apart;
  waits = λ d p e. waits-by xs ys p (h.calls p.client p.sub) (h.frames p.sub) (a.waits d p e);
  made = λ d j some. a.made d j (λ e. some (h.calls d j ∙ e));
}

pub kept-unseen : (xs ys : List (List Member)) (ps : List InProgress) (calls : List (Option Kept)) → IsUnseen xs ys → CallsAgree xs ps → AreKept calls xs ps → AreKept calls ys ps
kept-unseen xs ys ps calls h a kept = λ d b. by d (slice_get calls d.0) (call_of d ps) refl (kept d b)
  where
    by : (d : ClientId) (o : Option (Option Kept)) (q : Option InProgress) → call_of d ps ≡ q → IsCallOf xs d o q → IsCallOf ys d o q
    by d (Some (Some q)) (Some p) e f = kept-by xs ys q d p (h.calls p.client p.sub) (h.frames p.sub) (a.waits d p e) f
    by d (Some None) None e f = tt
    by d None None e f = absurd f
    by d None (Some p) e f = absurd f
    by d (Some None) (Some p) e f = absurd f
    by d (Some (Some q)) None e f = absurd f
