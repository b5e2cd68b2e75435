-- What a rewind and a forward end with.
use Rattle.std.proofs.Common.{◌≡◌, ◌≢◌, ℕ, Bool, true, false, cond, nat_eq, List, set, None, Some, refl, arith}
use Rattle.std.proofs.lemmas.Bool.Decides.{nat_tests}
use Rattle.std.specs.List.{slice_get}
use Rattle.pcm_base.specs.declared.act.Updated.{Updated}
use Rattle.pcm_base.specs.declared.act.Updated.TheVariants as updated
use Rattle.pcm_base.specs.declared.call.CallKind.{CallKind}
use Rattle.pcm_base.specs.declared.call.CallKind.TheVariants as kind
use Rattle.pcm_base.specs.declared.card.Card.{Ghosts}
use Rattle.pcm_base.specs.declared.ids.SubId.{SubId}
use Rattle.pcm_base.specs.declared.reply.Reply.{Reply}
use Rattle.pcm_base.specs.declared.reply.Reply.TheVariants as reply
use Rattle.pcm_base.specs.declared.state.Dir.{Dir}
use Rattle.pcm_base.specs.declared.state.Errno.{Errno}
use Rattle.pcm_base.specs.declared.state.Errno.TheVariants as errno
use Rattle.pcm_base.specs.declared.state.State.{State}
use Rattle.pcm_base.specs.declared.state.State.TheVariants as state
use Rattle.pcm_base.specs.declared.votes.Acted.{Acted}
use Rattle.pcm_base.specs.model.Acts.{table}
use Rattle.pcm_base.specs.model.Group.{stream_of}
use Rattle.pcm_base.specs.model.Permit.{permit}
use Rattle.pcm_base.specs.model.Program.{Program, says, unless, updated_or_epipe}
use Rattle.pcm_base.specs.model.Sound.{is_set_up}
use Rattle.pcm_base.specs.model.Stream.{Stream, Member as ModelMember}
use Rattle.pcm_base.specs.model.Update.{Refreshed, found, moved_up, settled, update}
use Rattle.pcm_stream.specs.declared.members.Member.{Member}
use Rattle.pcm_stream.specs.declared.substream.Substream.{Substream}
use Rattle.pcm_group.specs.Ended.{IsAt, IsEnded, IsOwnEnd, IsUpdated}
use Rattle.pcm_group.proofs.EndedLemmas.{IsEnded-allowed, IsEnded-at, IsEnded-epipe, IsEnded-own, IsEnded-refused, IsEnded-reported, IsEnded-says, else-is, then-is}

-- ---- a stream that is asked for frames has a configuration, and an update leaves it one

pub rewinds_set_up : (t : State) (d : Dir) → permit kind.Rewind t d ≡ None → is_set_up t ≡ true
rewinds_set_up state.Closed d h = absurd (let no : ⊥ = cc in no)
rewinds_set_up state.Opened d h = absurd (let no : ⊥ = cc in no)
rewinds_set_up state.Disconnected d h = absurd (let no : ⊥ = cc in no)
rewinds_set_up _ d h = refl

pub forwards_set_up : (t : State) (d : Dir) → permit kind.Forward t d ≡ None → is_set_up t ≡ true
forwards_set_up state.Closed d h = absurd (let no : ⊥ = cc in no)
forwards_set_up state.Opened d h = absurd (let no : ⊥ = cc in no)
forwards_set_up state.Disconnected d h = absurd (let no : ⊥ = cc in no)
forwards_set_up _ d h = refl

settled_set_up : (u : Updated) (s : Stream) → is_set_up s.state ≡ true → is_set_up (settled u s).state ≡ true
settled_set_up updated.DrainDone s h = refl
settled_set_up updated.Nothing s h = h
settled_set_up updated.StopXrun s h = h

updated_by : (b : Bool) (s : Stream) → is_set_up s.state ≡ true
    → (let u : Refreshed = cond b (record { found = found (moved_up s); stream = settled (found (moved_up s)) (moved_up s) }) (record { found = updated.Nothing; stream = s }) in is_set_up u.stream.state ≡ true)
updated_by true s h = settled_set_up (found (moved_up s)) (moved_up s) h
updated_by false s h = h

pub updated_set_up : (s : Stream) → is_set_up s.state ≡ true → is_set_up (update s).stream.state ≡ true
updated_set_up s h = updated_by s.card.runs s h

-- ---- what was found

pub quiet : (u : Updated) → u ≡ updated.Nothing → u ≢ updated.StopXrun
quiet u h e = let no : ⊥ = cc in no

-- ---- the event: n frames are asked for, and f moves the pointer

abbrev pub asking : CallKind → ℕ → (Stream → Program) → Stream → Program
asking k n f s = cond (nat_eq n 0) (says (reply.Frames 0) s) (unless (table k s) s (updated_or_epipe s f))

some-asked : (k : CallKind) (n : ℕ) (f : Stream → Program) (s : Stream) → n ≢ 0 → asking k n f s ≡ unless (table k s) s (updated_or_epipe s f)
some-asked k n f s h =
    let test : nat_eq n 0 ≡ false = grind (arith, nat_tests, h) in
    else-is (nat_eq n 0) (says (reply.Frames 0) s) (unless (table k s) s (updated_or_epipe s f)) test

pub asks-none : {C : Type 0} {g : Ghosts C} (kd : CallKind) (n : ℕ) (f : Stream → Program) (tells : List Bool) (k : SubId) (xs : List ModelMember) (old : List Acted) (ms : List (Member C g)) (i : ℕ)
    → n ≡ 0 → IsAt ms i k tells xs → IsEnded tells (asking kd n f (stream_of k xs)) k xs old old (reply.Frames 0) 0 0 ms
asks-none kd n f tells k xs old ms i none at =
    let s = stream_of k xs in
    let test : nat_eq n 0 ≡ true = grind (arith, nat_tests, none) in
    IsEnded-at tells (asking kd n f s) (says (reply.Frames 0) s) k xs old old (reply.Frames 0) 0 0 ms (then-is (nat_eq n 0) (says (reply.Frames 0) s) (unless (table kd s) s (updated_or_epipe s f)) test)
    (IsEnded-says tells k xs old (reply.Frames 0) ms i at)

pub asks-refused : {C : Type 0} {g : Ghosts C} (kd : CallKind) (n : ℕ) (f : Stream → Program) (tells : List Bool) (e : Errno) (k : SubId) (xs : List ModelMember) (old : List Acted) (ms : List (Member C g)) (i : ℕ)
    → n ≢ 0 → table kd (stream_of k xs) ≡ Some e → IsAt ms i k tells xs → IsEnded tells (asking kd n f (stream_of k xs)) k xs old old (reply.Err e) 0 0 ms
asks-refused kd n f tells e k xs old ms i some refused at =
    let s = stream_of k xs in
    IsEnded-at tells (asking kd n f s) (unless (table kd s) s (updated_or_epipe s f)) k xs old old (reply.Err e) 0 0 ms (some-asked kd n f s some)
    (IsEnded-refused tells (table kd s) (updated_or_epipe s f) e k xs old ms i at refused)

pub asks-epipe : {C : Type 0} {g : Ghosts C} (kd : CallKind) (n : ℕ) (f : Stream → Program) (tells : List Bool) (i : ℕ) (k : SubId) (xs : List ModelMember) (old new : List Acted) (u : Updated) (ms : List (Member C g))
    → n ≢ 0 → table kd (stream_of k xs) ≡ None → IsUpdated tells i k xs old new u ms → u ≢ updated.Nothing
    → IsEnded tells (asking kd n f (stream_of k xs)) k xs old new (reply.Err errno.Epipe) 0 0 ms
asks-epipe kd n f tells i k xs old new u ms some allowed h found =
    let s = stream_of k xs in
    IsEnded-at tells (asking kd n f s) (unless (table kd s) s (updated_or_epipe s f)) k xs old new (reply.Err errno.Epipe) 0 0 ms (some-asked kd n f s some)
    (IsEnded-allowed tells (table kd s) s (updated_or_epipe s f) k xs old new (reply.Err errno.Epipe) 0 0 ms allowed (IsEnded-epipe tells f i k xs old new u ms h found))

pub asks-moved : {C : Type 0} {g : Ghosts C} (kd : CallKind) (n : ℕ) (f : Stream → Program) (tells : List Bool) (i : ℕ) (k : SubId) (xs : List ModelMember) (old new : List Acted) (u : Updated) (ns : List (Member C g)) (m : Member C g) (t : Substream C g) (r : Reply)
    → n ≢ 0 → table kd (stream_of k xs) ≡ None → (h : IsUpdated tells i k xs old new u ns) → u ≡ updated.Nothing → slice_get ns i ≡ Some m → IsOwnEnd (stream_of k h.left) (f (stream_of k h.left)) r 0 0 t
    → IsEnded tells (asking kd n f (stream_of k xs)) k xs old new r 0 0 (set ns i (record m { stream = t }))
asks-moved {C = C} {g = g} kd n f tells i k xs old new u ns m t r some allowed h none at own =
    let s = stream_of k xs in
    let ms : List (Member C g) = set ns i (record m { stream = t }) in
    IsEnded-at tells (asking kd n f s) (unless (table kd s) s (updated_or_epipe s f)) k xs old new r 0 0 ms (some-asked kd n f s some)
    (IsEnded-allowed tells (table kd s) s (updated_or_epipe s f) k xs old new r 0 0 ms allowed
    (IsEnded-reported tells f i k xs old new new u ns ms r 0 0 h none (IsEnded-own tells (f (stream_of k h.left)) k h.left new r 0 0 ns i m t h.now at own)))
