-- A transfer that is carried on over its group: the turns of one member, and the start of all.
use Rattle.std.proofs.Common.{◌≡◌, ◌≢◌, ℕ, ◌+◌, ◌*◌, ◌^◌, ◌%◌, ◌/◌, ◌<◌, Bool, true, false, cond, nat_eq, zero, suc, List, [], ◌∷◌, ◌++◌, length, replicate, set, drop, Option, Some, None, refl, sym, ap, ◌∙◌, subst, arith}
use Rattle.std.proofs.lemmas.Bool.Decides.{nat_tests}
use Rattle.std.specs.List.{slice_get}
use Rattle.std.specs.Prelude.{IsSome}
use Rattle.std.specs.Option.{ForSome}
use Rattle.pcm_base.specs.Shape.{AreFrames, count_of}
use Rattle.pcm_base.specs.declared.act.Act.{Act}
use Rattle.pcm_base.specs.declared.act.Act.TheVariants as act
use Rattle.pcm_base.specs.declared.act.Outcome.{Outcome}
use Rattle.pcm_base.specs.declared.act.Outcome.TheVariants as outcome
use Rattle.pcm_base.specs.declared.act.Vote.{Vote}
use Rattle.pcm_base.specs.declared.act.Vote.TheVariants as vote
use Rattle.pcm_base.specs.declared.call.Layout.{Layout}
use Rattle.pcm_base.specs.declared.call.Mode.TheVariants as mode
use Rattle.pcm_base.specs.declared.card.Card.{Ghosts}
use Rattle.pcm_base.specs.declared.config.Shape.{Shape}
use Rattle.pcm_base.specs.declared.ids.ClientId.{ClientId}
use Rattle.pcm_base.specs.declared.ids.SubId.{SubId}
use Rattle.pcm_base.specs.declared.reply.Reply.{Reply}
use Rattle.pcm_base.specs.declared.sleeper.Xfer.{Xfer}
use Rattle.pcm_base.specs.declared.state.Dir.{Dir}
use Rattle.pcm_base.specs.declared.state.Errno.{Errno}
use Rattle.pcm_base.specs.declared.state.Errno.TheVariants as errno
use Rattle.pcm_base.specs.declared.votes.Acted.{Acted}
use Rattle.pcm_base.specs.model.Acts.{after, after_all, decide, is_refused, members_after, pre, refusing, subs}
use Rattle.pcm_base.specs.model.Frame.{Frame}
use Rattle.pcm_base.specs.model.Group.{put_stream, stream_of}
use Rattle.pcm_base.specs.model.Program.{Answer, Program}
use Rattle.pcm_base.specs.model.Stream.{Setup, Stream, Member as ModelMember}
use Rattle.pcm_base.specs.model.Transfer.{after_start, fits, frames_or, tells as telling}
use Rattle.pcm_base.specs.model.Words.{is_playback, is_prepared}
use Rattle.pcm_laws.proofs.Decomposition.{stream_of-put_stream_same}
use Rattle.pcm_laws.proofs.Leaves.{IsSameBesideActs-after}
use Rattle.pcm_laws.proofs.Turns.{write_on-started}
use Rattle.pcm_stream.specs.declared.members.Member.{Member}
use Rattle.pcm_stream.specs.Members.{Fixed, all_fixed, fixed_of}
use Rattle.pcm_stream.specs.MembersStand.{IsTransferOn}
use Rattle.pcm_stream.specs.StandsFor.{StandsFor, shape_in}
use Rattle.group_trigger.specs.Votes.{IsActed, TriedBy, VotedBy}
use Rattle.xfer_loop.specs.Loop.{after_stuck}
use Rattle.xfer_loop.specs.declared.XferStep.{XferStep}
use Rattle.xfer_loop.specs.declared.XferStep.TheVariants as step
use Rattle.pcm_group.specs.Ended.{IsAt, IsEndedBy, KeepsCalls, RunsTo, error_of}
use Rattle.pcm_group.specs.Transfers.{AreBytesOf, IsHaltedAt, IsTransferOf, bytes_with, going, going_by, halted}
use Rattle.pcm_group.proofs.AsleepLemmas.{IsEndedBy-at, setup_after_all}
use Rattle.pcm_group.proofs.EndedLemmas.{RunsTo-put}
use Rattle.pcm_group.proofs.PlaceLemmas.{IsAt-put, is_member-at}
use Rattle.pcm_group.proofs.StopLemmas.{is_done}

-- ---- the member at a place

-- another member there, with the same number, calls and sizes
pub IsAt-turned : {C : Type 0} {g : Ghosts C} (ms : List (Member C g)) (i : ℕ) (m n : Member C g) (k : SubId) (tells : List Bool) (s : Stream) (xs : List ModelMember)
    → IsAt ms i k tells xs → slice_get ms i ≡ Some m → fixed_of n ≡ fixed_of m → KeepsCalls (stream_of k xs) s → StandsFor n.stream s → IsAt (set ms i n) i k tells (put_stream k s xs)
IsAt-turned {C = C} {g = g} ms i m n k tells s xs h at fixed keeps stands =
    let same : n ≡ record m { stream = n.stream } = λ j. record { sub = (fixed j).sub; stream = n.stream; sleepers = (fixed j).sleepers } in
    subst (λ (y : Member C g). IsAt (set ms i y) i k tells (put_stream k s xs)) (sym same) (IsAt-put ms i m n.stream k tells s xs h at keeps stands (ap (λ (f : Fixed). f.tells) fixed))

-- the member that what all keep is of
record HasFixed {C : Type 0} {g : Ghosts C} (ms : List (Member C g)) (i : ℕ) (f : Fixed) : Type 0 where
  pub member : Member C g
  pub at : slice_get ms i ≡ Some member
  pub is : fixed_of member ≡ f

fixed_at : {C : Type 0} {g : Ghosts C} (ms : List (Member C g)) (i : ℕ) (f : Fixed) → slice_get (all_fixed ms) i ≡ Some f → HasFixed ms i f
fixed_at [] i f h = absurd (let no : ⊥ = cc in no)
fixed_at (m ∷ ms) zero f h = let e : fixed_of m ≡ f = cc in record { member = m; at = refl; is = e }
fixed_at (m ∷ ms) (suc i) f h = let r = fixed_at ms i f h in record { member = r.member; at = r.at; is = r.is }

at_fixed : {C : Type 0} {g : Ghosts C} (ms : List (Member C g)) (i : ℕ) (m : Member C g) → slice_get ms i ≡ Some m → slice_get (all_fixed ms) i ≡ Some (fixed_of m)
at_fixed [] i m h = absurd (let no : ⊥ = cc in no)
at_fixed {C = C} {g = g} (x ∷ ms) zero m h = let e : x ≡ m = cc in ap (λ (y : Member C g). Some (fixed_of y)) e
at_fixed (x ∷ ms) (suc i) m h = at_fixed ms i m h

pub AreBytesOf-fixed : {C : Type 0} {g : Ghosts C} (ms ns : List (Member C g)) (place : ℕ) (x y : Xfer) (io now : List ℕ) → all_fixed ns ≡ all_fixed ms → y.moved + y.rest ≡ x.moved + x.rest → length now ≡ length io
    → AreBytesOf ms place x io → AreBytesOf ns place y now
AreBytesOf-fixed {C = C} {g = g} ms ns place x y io now fixed sum size h = record {
  shape = λ n at. let r = was n at in subst (λ (o : Option Shape). IsSome o) (ap (λ (f : Fixed). f.shape) r.is) (h.shape r.member r.at);
  whole = λ n at.
      let r = was n at in
      subst (λ (l : ℕ). ForSome (shape_in n.stream) (λ shape. l % shape.frame_bytes ≡ 0)) (sym size)
      (subst (λ (o : Option Shape). ForSome o (λ shape. AreFrames shape io)) (ap (λ (f : Fixed). f.shape) r.is) (h.whole r.member r.at));
  count = λ n at.
      let r = was n at in
      subst (λ (l : ℕ). ForSome (shape_in n.stream) (λ shape. l / shape.frame_bytes ≡ y.moved + y.rest)) (sym size)
      (subst (λ (l : ℕ). ForSome (shape_in n.stream) (λ shape. count_of shape io ≡ l)) (sym sum)
      (subst (λ (o : Option Shape). ForSome o (λ shape. count_of shape io ≡ x.moved + x.rest)) (ap (λ (f : Fixed). f.shape) r.is) (h.count r.member r.at)));
}
  where
    was : (n : Member C g) → slice_get ns place ≡ Some n → HasFixed ms place (fixed_of n)
    was n at = fixed_at ms place (fixed_of n) (sym (ap (λ (l : List Fixed). slice_get l place) fixed) ∙ at_fixed ns place n at)

fixed-length : {C : Type 0} {g : Ghosts C} (ms : List (Member C g)) → length (all_fixed ms) ≡ length ms
fixed-length [] = refl
fixed-length (m ∷ ms) = ap suc (fixed-length ms)

pub length-fixed : {C : Type 0} {g : Ghosts C} (ms ns : List (Member C g)) → all_fixed ns ≡ all_fixed ms → length ns ≡ length ms
length-fixed ms ns e = sym (fixed-length ns) ∙ ap (λ (l : List Fixed). length l) e ∙ fixed-length ms

-- ---- the transfer

pub IsTransferOf-same : (s t : Stream) (x z : Xfer) → t.dir ≡ s.dir → t.setup ≡ s.setup → z.writing ≡ x.writing → z.layout ≡ x.layout → z.moved + z.rest ≡ x.moved + x.rest → IsTransferOf s x → IsTransferOf t z
IsTransferOf-same s t x z dir setup writing layout sum h = record {
  writing = writing ∙ h.writing ∙ ap (λ (d : Dir). is_playback d) (sym dir);
  layout = ap (λ (w : Layout). fits w t.setup.config) layout ∙ ap (λ (c : Setup). fits x.layout c.config) setup ∙ h.layout;
  bytes = subst (λ (n : ℕ). n * t.setup.frame_bytes < 2 ^ 64) (sym sum) (subst (λ (n : ℕ). (x.moved + x.rest) * n < 2 ^ 64) (sym (ap (λ (c : Setup). c.frame_bytes) setup)) h.bytes);
}

pub IsTransferOn-of : (s : Stream) (x : Xfer) → IsTransferOf s x → x.mode ≡ mode.Block → x.rest ≢ 0 → IsTransferOn s x
IsTransferOn-of s x h mode rests = record { writing = h.writing; layout = h.layout; mode = mode; rest = omega (arith, rests); bytes = h.bytes }

-- ---- what acts leave of a member's stream

dir_after_all : (a : Act) (o : Outcome) (vs : List Vote) (k : SubId) (xs : List ModelMember) → (stream_of k (after_all a o vs xs)).dir ≡ (stream_of k xs).dir
dir_after_all a o [] k xs = refl
dir_after_all a o (v ∷ vs) k [] = refl
dir_after_all a o (v ∷ vs) k (x ∷ xs) = by (nat_eq x.sub.0 k.0) (dir_after_all a o vs k xs)
  where
    by : (b : Bool) → (stream_of k (after_all a o vs xs)).dir ≡ (stream_of k xs).dir → (cond b (after a v o x.stream) (stream_of k (after_all a o vs xs))).dir ≡ (cond b x.stream (stream_of k xs)).dir
    by true rest = (IsSameBesideActs-after a v o x.stream).dir
    by false rest = rest

pub dir_after : (d : Acted) (k : SubId) (xs : List ModelMember) → (stream_of k (members_after d xs)).dir ≡ (stream_of k xs).dir
dir_after d k xs = dir_after_all d.act d.outcome d.votes k xs

pub setup_after : (d : Acted) (k : SubId) (xs : List ModelMember) → (stream_of k (members_after d xs)).setup ≡ (stream_of k xs).setup
setup_after d k xs = setup_after_all d.act d.outcome d.votes k xs

-- ---- after a start that is done no stream is PREPARED

-- votes of which one refuses decide no Done
refused_not_done : (a : Act) (xs : List ModelMember) → is_refused a xs ≡ true → decide (subs xs) (refusing a xs) ≡ outcome.Done → ⊥
refused_not_done a [] h d = let no : ⊥ = cc in no
refused_not_done a (x ∷ xs) h d = by (pre x.stream a) (refused_not_done a xs) h d
  where
    by : (o : Option Errno) → (is_refused a xs ≡ true → decide (subs xs) (refusing a xs) ≡ outcome.Done → ⊥) → elim o as (λ _. Bool) [ Some e ↦ true | None ↦ is_refused a xs ] ≡ true
        → decide (subs (x ∷ xs)) (elim o as (λ _. List Vote) [ Some e ↦ vote.Refuse e ∷ replicate (length xs) vote.Unasked | None ↦ vote.Yes ∷ refusing a xs ]) ≡ outcome.Done → ⊥
    by (Some e) later h d = let no : ⊥ = cc in no
    by None later h d = later h d

tried_start : (tells : List Bool) (xs : List ModelMember) (vs : List Vote) (k : SubId) → TriedBy tells act.Start xs vs → decide (subs xs) vs ≡ outcome.Done → is_prepared (stream_of k (after_all act.Start outcome.Done vs xs)).state ≡ false
tried_start tells [] [] k t d = refl
tried_start tells [] (v ∷ vs) k t d = refl
tried_start [] (x ∷ xs) [] k t d = absurd t
tried_start [] (x ∷ xs) (v ∷ vs) k t d = absurd t
tried_start (b ∷ bs) (x ∷ xs) [] k t d = absurd t
tried_start (b ∷ bs) (x ∷ xs) (vote.Yes ∷ vs) k t d = by (nat_eq x.sub.0 k.0) (tried_start bs xs vs k t.1 d)
  where
    by : (c : Bool) → is_prepared (stream_of k (after_all act.Start outcome.Done vs xs)).state ≡ false → is_prepared (cond c (after act.Start vote.Yes outcome.Done x.stream) (stream_of k (after_all act.Start outcome.Done vs xs))).state ≡ false
    by true rest = refl
    by false rest = rest
tried_start (b ∷ bs) (x ∷ xs) (vote.Fail ∷ vs) k t d = absurd (let no : ⊥ = cc in no)
tried_start (b ∷ bs) (x ∷ xs) (vote.Refuse e ∷ vs) k t d = absurd t
tried_start (b ∷ bs) (x ∷ xs) (vote.Unasked ∷ vs) k t d = absurd t

pub started : (tells : List Bool) (xs : List ModelMember) (d : Acted) (k : SubId) → IsActed tells act.Start xs d → error_of d.outcome ≡ None → is_prepared (stream_of k (members_after d xs)).state ≡ false
started tells xs d k acted none =
    let done : d.outcome ≡ outcome.Done = is_done d.outcome none in
    subst (λ (a : Act). is_prepared (stream_of k (after_all a d.outcome d.votes xs)).state ≡ false) (sym acted.act)
    (subst (λ (o : Outcome). is_prepared (stream_of k (after_all act.Start o d.votes xs)).state ≡ false) (sym done)
    (by (is_refused act.Start xs) refl acted.votes (sym acted.outcome ∙ done)))
  where
    by : (b : Bool) → is_refused act.Start xs ≡ b → VotedBy b tells act.Start xs d.votes → decide (subs xs) d.votes ≡ outcome.Done → is_prepared (stream_of k (after_all act.Start outcome.Done d.votes xs)).state ≡ false
    by true e v q = absurd (refused_not_done act.Start xs e (sym (ap (λ (vs : List Vote). decide (subs xs) vs) v) ∙ q))
    by false e v q = tried_start tells xs d.votes k v q

-- ---- what follows a start

pub start_done : (c : ClientId) (x z : Xfer) (fs all : List Frame) (o : Outcome) (t : Stream) → error_of o ≡ None → is_prepared t.state ≡ false → z.writing ≡ true → after_start c x fs (drop z.moved all) o t ≡ going c x z fs all t
start_done c x z fs all o t none quiet writing =
    ap (λ (p : Outcome). after_start c x fs (drop z.moved all) p t) (is_done o none) ∙ sym (write_on-started c x fs (drop z.moved all) t quiet)
    ∙ sym (ap (λ (b : Bool). going_by b c x z fs all t) writing)

pub start_fails : (c : ClientId) (x : Xfer) (fs ws : List Frame) (o : Outcome) (t : Stream) (e : Errno) → error_of o ≡ Some e → after_start c x fs ws o t ≡ telling (frames_or (x.moved + length fs) e) x fs t
start_fails c x fs ws outcome.Done t e h = absurd (let no : ⊥ = cc in no)
start_fails c x fs ws (outcome.Refused j d) t e h = let is : d ≡ e = cc in ap (λ (q : Errno). telling (frames_or (x.moved + length fs) q) x fs t) is
start_fails c x fs ws (outcome.Failed j) t e h = let is : errno.Eio ≡ e = cc in ap (λ (q : Errno). telling (frames_or (x.moved + length fs) q) x fs t) is

-- ---- the step, by its turns

pub IsEndedBy-put : {C : Type 0} {g : Ghosts C} (c : ClientId) (tells : List Bool) (p : Program) (k : SubId) (t : Stream) (xs : List ModelMember) (old new : List Acted) (r : Reply) (f n : ℕ) (ms : List (Member C g))
    → IsEndedBy c tells p k (put_stream k t xs) old new r f n ms → IsEndedBy c tells p k xs old new r f n ms
IsEndedBy-put c tells p k t xs old new r f n ms h = record {
  made = h.made;
  answer = h.answer;
  left = h.left;
  acts = h.acts;
  runs = RunsTo-put tells p k t xs h.made h.answer h.left h.runs;
  reply = h.reply;
  first = h.first;
  moved = h.moved;
  stands = h.stands;
}

-- the stream that the turns leave is the member's
pub turned-stream : {C : Type 0} {g : Ghosts C} (c : ClientId) (x y z : Xfer) (fs all : List Frame) (i : ℕ) (k : SubId) (tells : List Bool) (xs : List ModelMember) (io now : List ℕ) (p : XferStep) (ms ns : List (Member C g)) → IsAt ms i k tells xs
    → (u : IsHaltedAt c x y z fs all i k tells xs io now p ns) → stream_of k (put_stream k u.halted.left xs) ≡ u.halted.left
turned-stream c x y z fs all i k tells xs io now p ms ns h u = stream_of-put_stream_same k u.halted.left xs (is_member-at (subs xs) i k h.number)

pub IsEndedBy-turned : {C : Type 0} {g : Ghosts C} (c : ClientId) (x y z : Xfer) (fs all : List Frame) (i : ℕ) (k : SubId) (tells : List Bool) (xs : List ModelMember) (io now : List ℕ) (p : XferStep) (ms ns os : List (Member C g)) (old new : List Acted) (r : Reply) (f n : ℕ)
    → IsAt ms i k tells xs → (u : IsHaltedAt c x y z fs all i k tells xs io now p ns)
    → IsEndedBy c tells (halted c x z (fs ++ u.halted.moved) all (stream_of k (put_stream k u.halted.left xs)) p) k (put_stream k u.halted.left xs) old new r f n os
    → IsEndedBy c tells (going c x y fs all (stream_of k xs)) k xs old new r f n os
IsEndedBy-turned c x y z fs all i k tells xs io now p ms ns os old new r f n h u e =
    let v = u.halted in
    IsEndedBy-at c tells (going c x y fs all (stream_of k xs)) (halted c x z (fs ++ v.moved) all v.left p) k xs old new r f n os v.goes_on
    (IsEndedBy-put c tells (halted c x z (fs ++ v.moved) all v.left p) k v.left xs old new r f n os
    (subst (λ (t : Stream). IsEndedBy c tells (halted c x z (fs ++ v.moved) all t p) k (put_stream k v.left xs) old new r f n os) (turned-stream c x y z fs all i k tells xs io now p ms ns h u) e))

pub halted_stuck : (c : ClientId) (x y : Xfer) (fs all : List Frame) (s : Stream) (p : XferStep) → p ≢ step.WantsStart → halted c x y fs all s p ≡ after_stuck c x y fs s p
halted_stuck c x y fs all s (step.Wait n) h = refl
halted_stuck c x y fs all s step.Drained h = refl
halted_stuck c x y fs all s (step.Refuse e) h = refl
halted_stuck c x y fs all s (step.Moved n) h = refl
halted_stuck c x y fs all s step.WantsStart h = absurd (h refl)

-- ---- the bytes, by the answer

-- the answer tells of these frames
pub record TellsOf (x : Xfer) (fs : List Frame) (b : Answer) : Type 0 where
  pub frames : b.frames ≡ fs
  pub first : b.first ≡ cond (nat_eq (length fs) 0) 0 x.moved

told : (tells : List Bool) (r : Reply) (x : Xfer) (fs : List Frame) (s : Stream) (k : SubId) (xs : List ModelMember) (ds : List Acted) (b : Answer) (ys : List ModelMember) → RunsTo tells (telling r x fs s) k xs ds b ys → TellsOf x fs b
told tells r x fs s k xs [] b ys h = record { frames = ap (λ (a : Answer). a.frames) h.0; first = ap (λ (a : Answer). a.first) h.0 }
told tells r x fs s k xs (d ∷ ds) b ys h = absurd h

pub stuck_tells : (tells : List Bool) (c : ClientId) (x y : Xfer) (fs : List Frame) (s : Stream) (p : XferStep) (k : SubId) (xs : List ModelMember) (ds : List Acted) (b : Answer) (ys : List ModelMember)
    → RunsTo tells (after_stuck c x y fs s p) k xs ds b ys → TellsOf x fs b
stuck_tells tells c x y fs s step.Drained k xs [] b ys h = absurd h
stuck_tells tells c x y fs s step.Drained k xs (d ∷ ds) b ys h = told tells _ x fs _ k _ ds b ys h.1
stuck_tells tells c x y fs s (step.Refuse e) k xs ds b ys h = told tells _ x fs s k xs ds b ys h
stuck_tells tells c x y fs s (step.Wait n) k xs ds b ys h = told tells _ x fs _ k xs ds b ys h
stuck_tells tells c x y fs s (step.Moved n) k xs ds b ys h = told tells _ x fs s k xs ds b ys h
stuck_tells tells c x y fs s step.WantsStart k xs ds b ys h = told tells _ x fs s k xs ds b ys h

-- where none was moved, the place of the first does not matter
first_alike : (b : Bool) (w : Layout) (m : ℕ) (fs : List Frame) (s : Stream) (io : List ℕ) → bytes_with b w (cond (nat_eq (length fs) 0) 0 m) fs s io ≡ bytes_with b w m fs s io
first_alike true w m fs s io = refl
first_alike false w m [] s io = refl
first_alike false w m (f ∷ fs) s io =
    let some : nat_eq (length (f ∷ fs)) 0 ≡ false = grind (arith, nat_tests) in
    ap (λ (b : Bool). bytes_with false w (cond b 0 m) (f ∷ fs) s io) some

pub bytes_told : (x : Xfer) (w : Bool) (l : Layout) (fs : List Frame) (b : Answer) (s : Stream) (io : List ℕ) → TellsOf x fs b → bytes_with w l x.moved fs s io ≡ bytes_with w l b.first b.frames s io
bytes_told x w l fs b s io h =
    sym (first_alike w l x.moved fs s io) ∙ ap (λ (n : ℕ). bytes_with w l n fs s io) (sym h.first) ∙ ap (λ (gs : List Frame). bytes_with w l b.first gs s io) (sym h.frames)
