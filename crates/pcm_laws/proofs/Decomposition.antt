-- The step of a group is made of its members' own steps.
use Rattle.std.proofs.Common.{ℕ, zero, suc, ◌≡◌, ◌≢◌, ◌≤◌, Bool, true, false, cond, ◌||◌, nat_eq, List, [], ◌∷◌, length, replicate, refl, sym, ap, ◌∙◌, subst, arith}
use Rattle.std.proofs.lemmas.Bool.Decides.{nat_tests}
use Rattle.std.specs.declared.option.Option.{Option}
use Rattle.std.specs.declared.option.Option.TheVariants.{Some, None}
use Rattle.pcm_base.specs.declared.act.Act.{Act}
use Rattle.pcm_base.specs.declared.act.Outcome.{Outcome}
use Rattle.pcm_base.specs.declared.act.Outcome.TheVariants as outcome
use Rattle.pcm_base.specs.declared.act.Vote.{Vote}
use Rattle.pcm_base.specs.declared.act.Vote.TheVariants as vote
use Rattle.pcm_base.specs.declared.ids.SubId.{SubId}
use Rattle.pcm_base.specs.declared.state.Errno.{Errno}
use Rattle.pcm_base.specs.model.Acts.{acted, after, after_all, decide, is_refused, members_after, pre, refusing, subs, trips, trying, votes}
use Rattle.pcm_base.specs.model.Group.{Run, put_stream, run, stream_of}
use Rattle.pcm_base.specs.model.Program.{Ends, Makes, Program}
use Rattle.pcm_base.specs.model.Replay.{AtMost, Decided, Decomposes, Distinct, Fits, Joins, Plays, is_member, joined, part_of, parts_of, vote_of}
use Rattle.pcm_base.specs.model.Stream.{Member, Stream}

-- numbers

pub same : (j k : SubId) → nat_eq j.0 k.0 ≡ true → j ≡ k
same j k h = let e : j.0 ≡ k.0 = grind (arith, nat_tests, h) in ap (λ n. let i : SubId = record { 0 = n } in i) e

pub differs : (j k : SubId) → nat_eq j.0 k.0 ≡ false → j ≢ k
differs j k h e = let e' : j.0 ≡ k.0 = ap (λ i. i.0) e in grind (arith, nat_tests, h, e')

swapped : (j k : ℕ) → nat_eq j k ≡ false → nat_eq k j ≡ false
swapped j k h = grind (arith, nat_tests, h)

-- one of two

pub left_of : (a b : Bool) → (a || b) ≡ false → a ≡ false
left_of true b h = h
left_of false b h = refl

pub right_of : (a b : Bool) → (a || b) ≡ false → b ≡ false
right_of true b h = absurd (cc)
right_of false b h = h

pub rest_of : (a b : Bool) → a ≡ false → (a || b) ≡ true → b ≡ true
rest_of true b e h = absurd (cc)
rest_of false b e h = h

first_of_two : (a b : Bool) → a ≡ true → (a || b) ≡ true
first_of_two true b e = refl
first_of_two false b e = absurd (cc)

second_of_two : (a b : Bool) → b ≡ true → (a || b) ≡ true
second_of_two true b e = refl
second_of_two false b e = e

-- a member among others is no member of the rest

not_first : (i j : SubId) (js : List SubId) → is_member j js ≡ false → is_member i js ≡ true → i ≢ j
not_first i j js h m e = let m' : is_member j js ≡ true = subst (λ x. is_member x js ≡ true) e m in cc

-- the marks of an act leave the numbers

pub subs-put_stream : (k : SubId) (s : Stream) (ms : List Member) → subs (put_stream k s ms) ≡ subs ms
subs-put_stream k s [] = refl
subs-put_stream k s (m ∷ ms) = ap (λ l. m.sub ∷ l) (subs-put_stream k s ms)

pub subs-after_all : (a : Act) (o : Outcome) (vs : List Vote) (ms : List Member) → length vs ≡ length ms → subs (after_all a o vs ms) ≡ subs ms
subs-after_all a o [] ms e = refl
subs-after_all a o (v ∷ vs) [] e = refl
subs-after_all a o (v ∷ vs) (m ∷ ms) e = ap (λ l. m.sub ∷ l) (subs-after_all a o vs ms (omega (arith, e)))

put_pick : (b : Bool) (s t u : Stream) → (b ≡ false → u ≡ s) → cond b (cond b s t) u ≡ s
put_pick true s t u h = refl
put_pick false s t u h = h refl

pub stream_of-put_stream_same : (k : SubId) (s : Stream) (ms : List Member) → is_member k (subs ms) ≡ true → stream_of k (put_stream k s ms) ≡ s
stream_of-put_stream_same k s [] h = absurd (cc)
stream_of-put_stream_same k s (m ∷ ms) h = put_pick (nat_eq m.sub.0 k.0) s m.stream (stream_of k (put_stream k s ms)) (λ e. stream_of-put_stream_same k s ms (rest_of (nat_eq m.sub.0 k.0) (is_member k (subs ms)) e h))

other_pick : (a b : Bool) (s t u w : Stream) → (a ≡ true → b ≡ false) → u ≡ w → cond a (cond b s t) u ≡ cond a t w
other_pick true true s t u w n h = absurd (let e : true ≡ false = n refl in cc)
other_pick true false s t u w n h = refl
other_pick false b s t u w n h = h

apart : (i j k : ℕ) → nat_eq j k ≡ false → nat_eq i j ≡ true → nat_eq i k ≡ false
apart i j k h e = grind (arith, nat_tests, h, e)

pub stream_of-put_stream_other : (j k : SubId) (s : Stream) (ms : List Member) → nat_eq j.0 k.0 ≡ false → stream_of j (put_stream k s ms) ≡ stream_of j ms
stream_of-put_stream_other j k s [] h = refl
stream_of-put_stream_other j k s (m ∷ ms) h = other_pick (nat_eq m.sub.0 j.0) (nat_eq m.sub.0 k.0) s m.stream (stream_of j (put_stream k s ms)) (stream_of j ms) (apart m.sub.0 j.0 k.0 h) (stream_of-put_stream_other j k s ms h)

-- after an act each member is what its own vote makes it

after_pick : (b : Bool) (a : Act) (o : Outcome) (v w : Vote) (s t u : Stream) → (b ≡ false → u ≡ after a w o t) → cond b (after a v o s) u ≡ after a (cond b v w) o (cond b s t)
after_pick true a o v w s t u h = refl
after_pick false a o v w s t u h = h refl

pub stream_of-after_all : (a : Act) (o : Outcome) (k : SubId) (vs : List Vote) (ms : List Member) → length vs ≡ length ms → is_member k (subs ms) ≡ true
    → stream_of k (after_all a o vs ms) ≡ after a (vote_of k (subs ms) vs) o (stream_of k ms)
stream_of-after_all a o k vs [] e h = absurd (cc)
stream_of-after_all a o k [] (m ∷ ms) e h = absurd (omega (arith, e))
stream_of-after_all a o k (v ∷ vs) (m ∷ ms) e h =
    after_pick (nat_eq m.sub.0 k.0) a o v (vote_of k (subs ms) vs) m.stream (stream_of k ms) (stream_of k (after_all a o vs ms))
    (λ n. stream_of-after_all a o k vs ms (omega (arith, e)) (rest_of (nat_eq m.sub.0 k.0) (is_member k (subs ms)) n h))

-- one vote for each

length-replicate_votes : (n : ℕ) (v : Vote) → length (replicate n v) ≡ n
length-replicate_votes zero v = refl
length-replicate_votes (suc n) v = ap suc (length-replicate_votes n v)

pub length-subs : (ms : List Member) → length (subs ms) ≡ length ms
length-subs [] = refl
length-subs (m ∷ ms) = ap suc (length-subs ms)

refuse_cell : (n : ℕ) (vs : List Vote) (p : Option Errno) → length vs ≡ n → length (elim p as (λ _. List Vote) [ Some e ↦ vote.Refuse e ∷ replicate n vote.Unasked | None ↦ vote.Yes ∷ vs ]) ≡ suc n
refuse_cell n vs (Some e) h = ap suc (length-replicate_votes n vote.Unasked)
refuse_cell n vs None h = ap suc h

length-refusing : (a : Act) (ms : List Member) → length (refusing a ms) ≡ length ms
length-refusing a [] = refl
length-refusing a (m ∷ ms) = refuse_cell (length ms) (refusing a ms) (pre m.stream a) (length-refusing a ms)

try_cell : (n : ℕ) (vs : List Vote) (b : Bool) → length vs ≡ n → length (cond b (vote.Fail ∷ replicate n vote.Unasked) (vote.Yes ∷ vs)) ≡ suc n
try_cell n vs true h = ap suc (length-replicate_votes n vote.Unasked)
try_cell n vs false h = ap suc h

length-trying : (a : Act) (ms : List Member) → length (trying a ms) ≡ length ms
length-trying a [] = refl
length-trying a (m ∷ ms) = try_cell (length ms) (trying a ms) (trips m.stream a) (length-trying a ms)

pub length-votes : (a : Act) (ms : List Member) → length (votes a ms) ≡ length ms
length-votes a ms = by (is_refused a ms)
  where
    by : (b : Bool) → length (cond b (refusing a ms) (trying a ms)) ≡ length ms
    by true = length-refusing a ms
    by false = length-trying a ms

-- what an outcome says of a member that it does not name

abbrev Elsewhere : SubId → Outcome → Type 0
Elsewhere k outcome.Done = Unit {0}
Elsewhere k (outcome.Refused j e) = j ≢ k
Elsewhere k (outcome.Failed j) = j ≢ k

abbrev IsRefusal : Outcome → Type 0
IsRefusal (outcome.Refused j e) = Unit {0}
IsRefusal _ = ⊥

abbrev NoRefusal : Outcome → Type 0
NoRefusal (outcome.Refused j e) = ⊥
NoRefusal _ = Unit {0}

elsewhere : (k : SubId) (ks : List SubId) (vs : List Vote) → is_member k ks ≡ false → Elsewhere k (decide ks vs)
elsewhere k [] vs h = tt
elsewhere k (j ∷ ks) [] h = tt
elsewhere k (j ∷ ks) (vote.Yes ∷ vs) h = elsewhere k ks vs (right_of (nat_eq j.0 k.0) (is_member k ks) h)
elsewhere k (j ∷ ks) (vote.Refuse e ∷ vs) h = differs j k (left_of (nat_eq j.0 k.0) (is_member k ks) h)
elsewhere k (j ∷ ks) (vote.Fail ∷ vs) h = differs j k (left_of (nat_eq j.0 k.0) (is_member k ks) h)
elsewhere k (j ∷ ks) (vote.Unasked ∷ vs) h = tt

refusal_yes : (k : SubId) (s : Stream) (a : Act) (o : Outcome) → IsRefusal o → Elsewhere k o → pre s a ≡ None → Fits k s a vote.Yes o
refusal_yes k s a outcome.Done r l h = absurd r
refusal_yes k s a (outcome.Refused j e) r l h = (l, h)
refusal_yes k s a (outcome.Failed j) r l h = absurd r

trial_yes : (k : SubId) (s : Stream) (a : Act) (o : Outcome) → NoRefusal o → Elsewhere k o → pre s a ≡ None → trips s a ≡ false → Fits k s a vote.Yes o
trial_yes k s a outcome.Done r l h t = (h, t)
trial_yes k s a (outcome.Refused j e) r l h t = absurd r
trial_yes k s a (outcome.Failed j) r l h t = (l, h, t)

unasked_pick : (b : Bool) (v : Vote) → v ≡ vote.Unasked → cond b vote.Unasked v ≡ vote.Unasked
unasked_pick true v h = refl
unasked_pick false v h = h

unasked : (k : SubId) (ms : List Member) → vote_of k (subs ms) (replicate (length ms) vote.Unasked) ≡ vote.Unasked
unasked k [] = refl
unasked k (m ∷ ms) = unasked_pick (nat_eq m.sub.0 k.0) (vote_of k (subs ms) (replicate (length ms) vote.Unasked)) (unasked k ms)

-- a group that some member refuses

refusal_cell : (a : Act) (m : Member) (ms : List Member) (p : Option Errno) → (is_refused a ms ≡ true → IsRefusal (decide (subs ms) (refusing a ms)))
    → elim p as (λ _. Bool) [ Some e ↦ true | None ↦ is_refused a ms ] ≡ true
    → IsRefusal (decide (m.sub ∷ subs ms) (elim p as (λ _. List Vote) [ Some e ↦ vote.Refuse e ∷ replicate (length ms) vote.Unasked | None ↦ vote.Yes ∷ refusing a ms ]))
refusal_cell a m ms (Some e) f h = tt
refusal_cell a m ms None f h = f h

is_refusal : (a : Act) (ms : List Member) → is_refused a ms ≡ true → IsRefusal (decide (subs ms) (refusing a ms))
is_refusal a [] h = absurd (cc)
is_refusal a (m ∷ ms) h = refusal_cell a m ms (pre m.stream a) (is_refusal a ms) h

-- the first member's vote, and that of one behind it
refuse_fits : (k j : SubId) (s t : Stream) (a : Act) (ks : List SubId) (n : ℕ) (vs : List Vote) (p : Option Errno) (b : Bool)
    → pre s a ≡ p → nat_eq j.0 k.0 ≡ b → (b ≡ true → is_member k ks ≡ false)
    → vote_of k ks (replicate n vote.Unasked) ≡ vote.Unasked
    → (p ≡ None → IsRefusal (decide ks vs))
    → (b ≡ false → p ≡ None → Fits k t a (vote_of k ks vs) (decide ks vs))
    → Fits k (cond b s t) a (cond b (elim p as (λ _. Vote) [ Some e ↦ vote.Refuse e | None ↦ vote.Yes ]) (vote_of k ks (elim p as (λ _. List Vote) [ Some e ↦ replicate n vote.Unasked | None ↦ vs ])))
    (elim p as (λ _. Outcome) [ Some e ↦ outcome.Refused j e | None ↦ decide ks vs ])
refuse_fits k j s t a ks n vs (Some e) true hp hb d u r f = (same j k hb, refl, hp)
refuse_fits k j s t a ks n vs (Some e) false hp hb d u r f = subst (λ v. Fits k t a v (outcome.Refused j e)) (sym u) (differs j k hb)
refuse_fits k j s t a ks n vs None true hp hb d u r f = refusal_yes k s a (decide ks vs) (r refl) (elsewhere k ks vs (d refl)) hp
refuse_fits k j s t a ks n vs None false hp hb d u r f = f refl refl

pub own_number : (j k : SubId) (ks : List SubId) → is_member j ks ≡ false → nat_eq j.0 k.0 ≡ true → is_member k ks ≡ false
own_number j k ks h e = subst (λ x. is_member x ks ≡ false) (same j k e) h

refuse_head : (k j : SubId) (s t : Stream) (a : Act) (ks : List SubId) (n : ℕ) (vs : List Vote) (more : Bool) (p : Option Errno)
    → pre s a ≡ p → is_member j ks ≡ false
    → vote_of k ks (replicate n vote.Unasked) ≡ vote.Unasked
    → elim p as (λ _. Bool) [ Some e ↦ true | None ↦ more ] ≡ true
    → (more ≡ true → IsRefusal (decide ks vs))
    → (more ≡ true → nat_eq j.0 k.0 ≡ false → Fits k t a (vote_of k ks vs) (decide ks vs))
    → Fits k (cond (nat_eq j.0 k.0) s t) a
    (vote_of k (j ∷ ks) (elim p as (λ _. List Vote) [ Some e ↦ vote.Refuse e ∷ replicate n vote.Unasked | None ↦ vote.Yes ∷ vs ]))
    (decide (j ∷ ks) (elim p as (λ _. List Vote) [ Some e ↦ vote.Refuse e ∷ replicate n vote.Unasked | None ↦ vote.Yes ∷ vs ]))
refuse_head k j s t a ks n vs more (Some e) hp d u m r f = refuse_fits k j s t a ks n vs (Some e) (nat_eq j.0 k.0) hp refl (own_number j k ks d) u (λ q. absurd (cc)) (λ h q. absurd (cc))
refuse_head k j s t a ks n vs more None hp d u m r f = refuse_fits k j s t a ks n vs None (nat_eq j.0 k.0) hp refl (own_number j k ks d) u (λ _. r m) (λ h _. f m h)

Fits-refusing : (k : SubId) (a : Act) (ms : List Member) → Distinct (subs ms) → is_member k (subs ms) ≡ true → is_refused a ms ≡ true
    → Fits k (stream_of k ms) a (vote_of k (subs ms) (refusing a ms)) (decide (subs ms) (refusing a ms))
Fits-refusing k a [] d h r = absurd (cc)
Fits-refusing k a (m ∷ ms) d h r =
    refuse_head k m.sub m.stream (stream_of k ms) a (subs ms) (length ms) (refusing a ms) (is_refused a ms) (pre m.stream a) refl d.0 (unasked k ms) r
    (is_refusal a ms) (λ more n. Fits-refusing k a ms d.1 (rest_of (nat_eq m.sub.0 k.0) (is_member k (subs ms)) n h) more)

-- a group that none refuses

no_refusal_cell : (j : SubId) (ks : List SubId) (n : ℕ) (vs : List Vote) (b : Bool) → NoRefusal (decide ks vs)
    → NoRefusal (decide (j ∷ ks) (cond b (vote.Fail ∷ replicate n vote.Unasked) (vote.Yes ∷ vs)))
no_refusal_cell j ks n vs true h = tt
no_refusal_cell j ks n vs false h = h

no_refusal : (a : Act) (ms : List Member) → NoRefusal (decide (subs ms) (trying a ms))
no_refusal a [] = tt
no_refusal a (m ∷ ms) = no_refusal_cell m.sub (subs ms) (length ms) (trying a ms) (trips m.stream a) (no_refusal a ms)

allowed_here : (p : Option Errno) (b : Bool) → elim p as (λ _. Bool) [ Some e ↦ true | None ↦ b ] ≡ false → p ≡ None
allowed_here (Some e) b h = absurd (cc)
allowed_here None b h = refl

allowed_there : (p : Option Errno) (b : Bool) → elim p as (λ _. Bool) [ Some e ↦ true | None ↦ b ] ≡ false → b ≡ false
allowed_there (Some e) b h = absurd (cc)
allowed_there None b h = h

allowed_pick : (b : Bool) (s t : Stream) (a : Act) → pre s a ≡ None → (b ≡ false → pre t a ≡ None) → pre (cond b s t) a ≡ None
allowed_pick true s t a h f = h
allowed_pick false s t a h f = f refl

allowed : (k : SubId) (a : Act) (ms : List Member) → is_member k (subs ms) ≡ true → is_refused a ms ≡ false → pre (stream_of k ms) a ≡ None
allowed k a [] h r = absurd (cc)
allowed k a (m ∷ ms) h r = allowed_pick (nat_eq m.sub.0 k.0) m.stream (stream_of k ms) a (allowed_here (pre m.stream a) (is_refused a ms) r)
    (λ n. allowed k a ms (rest_of (nat_eq m.sub.0 k.0) (is_member k (subs ms)) n h) (allowed_there (pre m.stream a) (is_refused a ms) r))

try_fits : (k j : SubId) (s t : Stream) (a : Act) (ks : List SubId) (n : ℕ) (vs : List Vote) (q b : Bool)
    → trips s a ≡ q → nat_eq j.0 k.0 ≡ b → pre s a ≡ None → (b ≡ false → pre t a ≡ None) → (b ≡ true → is_member k ks ≡ false)
    → vote_of k ks (replicate n vote.Unasked) ≡ vote.Unasked
    → NoRefusal (decide ks vs)
    → (b ≡ false → Fits k t a (vote_of k ks vs) (decide ks vs))
    → Fits k (cond b s t) a (cond b (cond q vote.Fail vote.Yes) (vote_of k ks (cond q (replicate n vote.Unasked) vs))) (cond q (outcome.Failed j) (decide ks vs))
try_fits k j s t a ks n vs true true hq hb hs ht d u r f = (same j k hb, hs, hq)
try_fits k j s t a ks n vs true false hq hb hs ht d u r f = subst (λ v. Fits k t a v (outcome.Failed j)) (sym u) (differs j k hb, ht refl)
try_fits k j s t a ks n vs false true hq hb hs ht d u r f = trial_yes k s a (decide ks vs) r (elsewhere k ks vs (d refl)) hs hq
try_fits k j s t a ks n vs false false hq hb hs ht d u r f = f refl

try_head : (k j : SubId) (s t : Stream) (a : Act) (ks : List SubId) (n : ℕ) (vs : List Vote) (q : Bool)
    → trips s a ≡ q → pre s a ≡ None → (nat_eq j.0 k.0 ≡ false → pre t a ≡ None) → is_member j ks ≡ false
    → vote_of k ks (replicate n vote.Unasked) ≡ vote.Unasked
    → NoRefusal (decide ks vs)
    → (nat_eq j.0 k.0 ≡ false → Fits k t a (vote_of k ks vs) (decide ks vs))
    → Fits k (cond (nat_eq j.0 k.0) s t) a (vote_of k (j ∷ ks) (cond q (vote.Fail ∷ replicate n vote.Unasked) (vote.Yes ∷ vs))) (decide (j ∷ ks) (cond q (vote.Fail ∷ replicate n vote.Unasked) (vote.Yes ∷ vs)))
try_head k j s t a ks n vs true hq hs ht d u r f = try_fits k j s t a ks n vs true (nat_eq j.0 k.0) hq refl hs ht (own_number j k ks d) u r f
try_head k j s t a ks n vs false hq hs ht d u r f = try_fits k j s t a ks n vs false (nat_eq j.0 k.0) hq refl hs ht (own_number j k ks d) u r f

Fits-trying : (k : SubId) (a : Act) (ms : List Member) → Distinct (subs ms) → is_member k (subs ms) ≡ true → is_refused a ms ≡ false
    → Fits k (stream_of k ms) a (vote_of k (subs ms) (trying a ms)) (decide (subs ms) (trying a ms))
Fits-trying k a [] d h r = absurd (cc)
Fits-trying k a (m ∷ ms) d h r =
    try_head k m.sub m.stream (stream_of k ms) a (subs ms) (length ms) (trying a ms) (trips m.stream a) refl (allowed_here (pre m.stream a) (is_refused a ms) r)
    (λ n. allowed k a ms (rest_of (nat_eq m.sub.0 k.0) (is_member k (subs ms)) n h) (allowed_there (pre m.stream a) (is_refused a ms) r))
    d.0 (unasked k ms) (no_refusal a ms)
    (λ n. Fits-trying k a ms d.1 (rest_of (nat_eq m.sub.0 k.0) (is_member k (subs ms)) n h) (allowed_there (pre m.stream a) (is_refused a ms) r))

-- each member's vote fits
pub Fits-votes : (k : SubId) (a : Act) (ms : List Member) → Distinct (subs ms) → is_member k (subs ms) ≡ true
    → Fits k (stream_of k ms) a (vote_of k (subs ms) (votes a ms)) (decide (subs ms) (votes a ms))
Fits-votes k a ms d h = by (is_refused a ms) refl
  where
    by : (b : Bool) → is_refused a ms ≡ b → Fits k (stream_of k ms) a (vote_of k (subs ms) (cond b (refusing a ms) (trying a ms))) (decide (subs ms) (cond b (refusing a ms) (trying a ms)))
    by true r = Fits-refusing k a ms d h r
    by false r = Fits-trying k a ms d h r

-- one act

pub subs-members_after : (a : Act) (ms : List Member) → subs (members_after (acted a ms) ms) ≡ subs ms
subs-members_after a ms = subs-after_all a (decide (subs ms) (votes a ms)) (votes a ms) ms (length-votes a ms)

pub stream_of-members_after : (a : Act) (k : SubId) (ks : List SubId) (ms : List Member) → subs ms ≡ ks → is_member k ks ≡ true
    → stream_of k (members_after (acted a ms) ms) ≡ joined (part_of k ks (acted a ms)) (stream_of k ms)
stream_of-members_after a k ks ms e h =
    let here : is_member k (subs ms) ≡ true = ap (is_member k) e ∙ h in
    stream_of-after_all a (decide (subs ms) (votes a ms)) k (votes a ms) ms (length-votes a ms) here
    ∙ ap (λ l. after a (vote_of k l (votes a ms)) (decide (subs ms) (votes a ms)) (stream_of k ms)) e

Fits-acted : (a : Act) (k : SubId) (ks : List SubId) (ms : List Member) (s : Stream) → subs ms ≡ ks → Distinct ks → is_member k ks ≡ true → stream_of k ms ≡ s
    → Fits k s a (vote_of k ks (acted a ms).votes) (acted a ms).outcome
Fits-acted a k ks ms s e d h q =
    subst (λ l. Fits k s a (vote_of k l (votes a ms)) (decide (subs ms) (votes a ms))) e
    (subst (λ t. Fits k t a (vote_of k (subs ms) (votes a ms)) (decide (subs ms) (votes a ms))) q
    (Fits-votes k a ms (subst Distinct (sym e) d) (ap (is_member k) e ∙ h)))

-- whole runs: the members' numbers are ks

pub subs-run : (p : Program) (k : SubId) (ms : List Member) → subs (run p k ms).members ≡ subs ms
subs-run (Ends b s) k ms = subs-put_stream k s ms
subs-run (Makes a s f) k ms =
    let now : List Member = put_stream k s ms in
    let next : List Member = members_after (acted a now) now in
    subs-run (f (acted a now).outcome (stream_of k next)) k next ∙ (subs-members_after a now ∙ subs-put_stream k s ms)

pub Decided-run : (p : Program) (k : SubId) (ks : List SubId) (ms : List Member) → subs ms ≡ ks → Decided ks (run p k ms).acts
Decided-run (Ends b s) k ks ms e = tt
Decided-run (Makes a s f) k ks ms e =
    let now : List Member = put_stream k s ms in
    let next : List Member = members_after (acted a now) now in
    let e1 : subs now ≡ ks = subs-put_stream k s ms ∙ e in (
      length-votes a now ∙ (sym (length-subs now) ∙ ap length e1),
      ap (λ l. decide l (votes a now)) e1,
      Decided-run (f (acted a now).outcome (stream_of k next)) k ks next (subs-members_after a now ∙ e1),
    )

pub Plays-run : (p : Program) (k : SubId) (ks : List SubId) (ms : List Member) → subs ms ≡ ks → Distinct ks → is_member k ks ≡ true
    → Plays k p (parts_of k ks (run p k ms).acts) (run p k ms).answer (stream_of k (run p k ms).members)
Plays-run (Ends b s) k ks ms e d h = (refl, stream_of-put_stream_same k s ms (ap (is_member k) e ∙ h))
Plays-run (Makes a s f) k ks ms e d h =
    let now : List Member = put_stream k s ms in
    let next : List Member = members_after (acted a now) now in
    let e1 : subs now ≡ ks = subs-put_stream k s ms ∙ e in
    let q : stream_of k now ≡ s = stream_of-put_stream_same k s ms (ap (is_member k) e ∙ h) in
    let r : Run = run (f (acted a now).outcome (stream_of k next)) k next in
    let own : stream_of k next ≡ joined (part_of k ks (acted a now)) s = stream_of-members_after a k ks now e1 h ∙ ap (joined (part_of k ks (acted a now))) q in (
      refl,
      Fits-acted a k ks now s e1 d h q,
      subst (λ t. Plays k (f (acted a now).outcome t) (parts_of k ks r.acts) r.answer (stream_of k r.members)) own
          (Plays-run (f (acted a now).outcome (stream_of k next)) k ks next (subs-members_after a now ∙ e1) d h),
    )

pub Joins-run : (p : Program) (k j : SubId) (ks : List SubId) (ms : List Member) → subs ms ≡ ks → Distinct ks → is_member j ks ≡ true → nat_eq j.0 k.0 ≡ false
    → Joins j (stream_of j ms) (parts_of j ks (run p k ms).acts) (stream_of j (run p k ms).members)
Joins-run (Ends b s) k j ks ms e d h n = stream_of-put_stream_other j k s ms n
Joins-run (Makes a s f) k j ks ms e d h n =
    let now : List Member = put_stream k s ms in
    let next : List Member = members_after (acted a now) now in
    let e1 : subs now ≡ ks = subs-put_stream k s ms ∙ e in
    let q : stream_of j now ≡ stream_of j ms = stream_of-put_stream_other j k s ms n in
    let r : Run = run (f (acted a now).outcome (stream_of k next)) k next in
    let other : stream_of j next ≡ joined (part_of j ks (acted a now)) (stream_of j ms) = stream_of-members_after a j ks now e1 h ∙ ap (joined (part_of j ks (acted a now))) q in (
      Fits-acted a j ks now (stream_of j ms) e1 d h q,
      subst (λ t. Joins j t (parts_of j ks r.acts) (stream_of j r.members)) other
          (Joins-run (f (acted a now).outcome (stream_of k next)) k j ks next (subs-members_after a now ∙ e1) d h n),
    )

pub acts-run : (n : ℕ) (p : Program) (k : SubId) (ms : List Member) → AtMost n p → length (run p k ms).acts ≤ n
acts-run n (Ends b s) k ms h = omega arith
acts-run zero (Makes a s f) k ms h = absurd h
acts-run (suc n) (Makes a s f) k ms h =
    let now : List Member = put_stream k s ms in
    let next : List Member = members_after (acted a now) now in
    let more : length (run (f (acted a now).outcome (stream_of k next)) k next).acts ≤ n = acts-run n (f (acted a now).outcome (stream_of k next)) k next (h (acted a now).outcome (stream_of k next)) in
    omega (arith, more)

pub Decomposes-run : (p : Program) (k : SubId) (ms : List Member) → Distinct (subs ms) → is_member k (subs ms) ≡ true → Decomposes p k ms (run p k ms)
Decomposes-run p k ms d h = record {
  numbers = subs-run p k ms;
  decided = Decided-run p k (subs ms) ms refl;
  own = Plays-run p k (subs ms) ms refl d h;
  others = λ j n m. Joins-run p k j (subs ms) ms refl d m n;
  few = λ n b. acts-run n p k ms b;
}
