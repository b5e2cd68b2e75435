-- How a transfer begins: its update, and the start that a read asks for.
use Rattle.std.proofs.Common.{◌≡◌, ◌≢◌, ℕ, ◌+◌, ◌*◌, ◌/◌, ◌%◌, ◌^◌, ◌<◌, ◌≤◌, Bool, true, false, cond, not, ◌&&◌, nat_eq, nat_le, List, [], ◌∷◌, ◌++◌, length, drop, Option, Some, None, refl, sym, ap, ◌∙◌, subst, append_assoc, arith}
use Rattle.std.proofs.Math.Nat.{div-add-mod, div-mul-le_self, mul_comm, mul-le-mul}
use Rattle.std.proofs.lemmas.Bool.Decides.{nat_tests}
use Rattle.std.proofs.lemmas.List.{nil_from_length}
use Rattle.pcm_base.specs.declared.act.Updated.{Updated}
use Rattle.pcm_base.specs.declared.act.Updated.TheVariants as updated
use Rattle.pcm_base.specs.declared.call.Layout.{Layout}
use Rattle.pcm_base.specs.declared.call.Layout.TheVariants as layout
use Rattle.pcm_base.specs.declared.card.Card.{Ghosts}
use Rattle.pcm_base.specs.declared.config.Config.{Config}
use Rattle.pcm_base.specs.declared.ids.ClientId.{ClientId}
use Rattle.pcm_base.specs.declared.ids.SubId.{SubId}
use Rattle.pcm_base.specs.declared.reply.Reply.{Reply}
use Rattle.pcm_base.specs.declared.reply.Reply.TheVariants as reply
use Rattle.pcm_base.specs.declared.sleeper.Xfer.{Xfer}
use Rattle.pcm_base.specs.declared.votes.Acted.{Acted}
use Rattle.pcm_base.specs.model.Acts.{table}
use Rattle.pcm_base.specs.model.Frame.{Frame}
use Rattle.pcm_base.specs.model.Group.{stream_of}
use Rattle.pcm_base.specs.model.Program.{Answer, Ends, Makes, Program, or_epipe, says, unless, updated_or_epipe, updating}
use Rattle.pcm_base.specs.model.Replay.{bytes_by}
use Rattle.pcm_base.specs.model.Stream.{Stream, Member as ModelMember}
use Rattle.pcm_base.specs.model.Transfer.{fits, frames_by, read_on, write_on}
use Rattle.pcm_base.specs.model.Update.{Refreshed, found, moved_up, settled, update}
use Rattle.pcm_base.specs.model.Words.{is_prepared}
use Rattle.ring_memory.specs.Round.{over}
use Rattle.pcm_stream.specs.declared.members.Member.{Member}
use Rattle.xfer_loop.proofs.TurnLemmas.{HasConfig}
use Rattle.pcm_group.specs.Ended.{IsEndedBy, IsUpdated, RunsTo}
use Rattle.pcm_group.specs.Transfers.{IsFit, IsStartingRead, IsTransferOf, begun, bytes_with, entering, going, going_by, kind_by}
use Rattle.pcm_group.proofs.AsleepLemmas.{IsEndedBy-at}
use Rattle.pcm_group.proofs.EndedLemmas.{else-is, then-is}
use Rattle.pcm_group.proofs.TransferLemmas.{same_bytes, same_frames}

-- ---- a program and its acts have one answer

pub run_alike : (tells : List Bool) (p : Program) (k : SubId) (xs : List ModelMember) (ds : List Acted) (b c : Answer) (ys zs : List ModelMember) → RunsTo tells p k xs ds b ys → RunsTo tells p k xs ds c zs → b ≡ c
run_alike tells (Ends a s) k xs [] b c ys zs h j = h.0 ∙ sym j.0
run_alike tells (Ends a s) k xs (d ∷ ds) b c ys zs h j = absurd h
run_alike tells (Makes a s f) k xs [] b c ys zs h j = absurd h
run_alike tells (Makes a s f) k xs (d ∷ ds) b c ys zs h j = run_alike tells (f d.outcome _) k _ ds b c ys zs h.1 j.1

-- ---- the bytes of a call

-- by what is set up
pub bytes_with-same : (b : Bool) (w : Layout) (n : ℕ) (fs : List Frame) (s t : Stream) (io : List ℕ) → t.setup ≡ s.setup → bytes_with b w n fs t io ≡ bytes_with b w n fs s io
bytes_with-same true w n fs s t io e = refl
bytes_with-same false w n fs s t io e =
    ap (λ (l : List Frame). cond (nat_eq (length fs) 0) io (bytes_by w t (over n fs l))) (same_frames w s t io e) ∙ ap (λ (l : List ℕ). cond (nat_eq (length fs) 0) io l) (same_bytes w s t (over n fs (frames_by w s io)) e)

pub none_moved : (b : Bool) (w : Layout) (n : ℕ) (fs : List Frame) (s : Stream) (io : List ℕ) → length fs ≡ 0 → io ≡ bytes_with b w n fs s io
none_moved true w n fs s io e = refl
none_moved false w n fs s io e = sym (ap (λ (l : List Frame). bytes_with false w n l s io) (nil_from_length fs e))

-- a step that moved no frame leaves the bytes
pub quiet_bytes : {C : Type 0} {g : Ghosts C} (c : ClientId) (tells : List Bool) (p : Program) (k : SubId) (xs : List ModelMember) (old new : List Acted) (r : Reply) (f n : ℕ) (ms : List (Member C g)) (w : Bool) (l : Layout) (s : Stream) (io : List ℕ) (b : Answer) (ys : List ModelMember)
    → IsEndedBy c tells p k xs old new r f n ms → n ≡ 0 → old ≡ [] → RunsTo tells p k xs new b ys → io ≡ bytes_with w l b.first b.frames s io
quiet_bytes c tells p k xs old new r f n ms w l s io b ys h none begins runs =
    let acts : new ≡ h.made = h.acts ∙ ap (λ (ds : List Acted). ds ++ h.made) begins in
    let same : b ≡ h.answer = run_alike tells p k xs h.made b h.answer ys h.left (subst (λ (ds : List Acted). RunsTo tells p k xs ds b ys) acts runs) h.runs in
    none_moved w l b.first b.frames s io (ap (λ (a : Answer). length a.frames) same ∙ sym h.moved ∙ none)

-- ---- an update

pub IsEndedBy-updated : {C : Type 0} {g : Ghosts C} (c : ClientId) (tells : List Bool) (f : Updated → Stream → Program) (i : ℕ) (k : SubId) (xs : List ModelMember) (old mid new : List Acted) (u : Updated) (ns ms : List (Member C g)) (r : Reply) (v n : ℕ)
    → (h : IsUpdated tells i k xs old mid u ns) → IsEndedBy c tells (f u (stream_of k h.left)) k h.left mid new r v n ms → IsEndedBy c tells (updating (stream_of k xs) f) k xs old new r v n ms
IsEndedBy-updated c tells f i k xs old mid new u ns ms r v n h after = record {
  made = h.made ++ after.made;
  answer = after.answer;
  left = after.left;
  acts = after.acts ∙ ap (λ (l : List Acted). l ++ after.made) h.acts ∙ append_assoc old h.made after.made;
  runs = h.goes_on f after.made after.answer after.left after.runs;
  reply = after.reply;
  first = after.first;
  moved = after.moved;
  stands = after.stands;
}

pub IsEndedBy-reported : {C : Type 0} {g : Ghosts C} (c : ClientId) (tells : List Bool) (f : Stream → Program) (i : ℕ) (k : SubId) (xs : List ModelMember) (old mid new : List Acted) (u : Updated) (ns ms : List (Member C g)) (r : Reply) (v n : ℕ)
    → (h : IsUpdated tells i k xs old mid u ns) → u ≡ updated.Nothing → IsEndedBy c tells (f (stream_of k h.left)) k h.left mid new r v n ms → IsEndedBy c tells (updated_or_epipe (stream_of k xs) f) k xs old new r v n ms
IsEndedBy-reported c tells f i k xs old mid new u ns ms r v n h none after =
    IsEndedBy-updated c tells (or_epipe f) i k xs old mid new u ns ms r v n h
    (IsEndedBy-at c tells (or_epipe f u (stream_of k h.left)) (f (stream_of k h.left)) k h.left mid new r v n ms (ap (λ (w : Updated). or_epipe f w (stream_of k h.left)) none) after)

-- the run of a program that begins with an update which found nothing
pub RunsTo-reported : {C : Type 0} {g : Ghosts C} (tells : List Bool) (f : Stream → Program) (i : ℕ) (k : SubId) (xs : List ModelMember) (old mid : List Acted) (u : Updated) (ns : List (Member C g)) (ds : List Acted) (b : Answer) (ys : List ModelMember)
    → (h : IsUpdated tells i k xs old mid u ns) → u ≡ updated.Nothing → RunsTo tells (f (stream_of k h.left)) k h.left ds b ys → RunsTo tells (updated_or_epipe (stream_of k xs) f) k xs (h.made ++ ds) b ys
RunsTo-reported tells f i k xs old mid u ns ds b ys h none runs =
    h.goes_on (or_epipe f) ds b ys (subst (λ (w : Updated). RunsTo tells (or_epipe f w (stream_of k h.left)) k h.left ds b ys) (sym none) runs)

-- an update leaves what is set up
pub record KeepsSetup (s t : Stream) : Type 0 where
  pub dir : t.dir ≡ s.dir
  pub setup : t.setup ≡ s.setup

settles_setup : (u : Updated) (s t : Stream) → KeepsSetup s t → KeepsSetup s (settled u t)
settles_setup updated.Nothing s t h = h
settles_setup updated.DrainDone s t h = record { dir = h.dir; setup = h.setup }
settles_setup updated.StopXrun s t h = h

updates_setup : (b : Bool) (s : Stream) (u : Updated) (t : Stream) → KeepsSetup s t
    → KeepsSetup s (cond b (let r : Refreshed = record { found = u; stream = settled u t } in r) (record { found = updated.Nothing; stream = s })).stream
updates_setup true s u t h = settles_setup u s t h
updates_setup false s u t h = record { dir = refl; setup = refl }

pub keeps_setup : (s : Stream) → KeepsSetup s (update s).stream
keeps_setup s = updates_setup s.card.runs s (found (moved_up s)) (moved_up s) (record { dir = refl; setup = refl })

pub is_quiet : (u : Updated) → u ≡ updated.Nothing → u ≢ updated.StopXrun
is_quiet u h e = let no : ⊥ = cc in no

-- ---- what a transfer enters with

-- a layout fits a configuration only
pub fits_config : (w : Layout) (s : Stream) → fits w s.setup.config ≡ true → HasConfig s
fits_config w s h = by w s.setup.config refl h
  where
    by : (v : Layout) (o : Option Config) → s.setup.config ≡ o → fits v o ≡ true → HasConfig s
    by v (Some c) e k = record { config = c; is = e }
    by layout.Interleaved None e k = absurd (let no : ⊥ = cc in no)
    by layout.Planar None e k = absurd (let no : ⊥ = cc in no)

both : (a b : Bool) → (not a && b) ≡ true → (a ≡ false) × (b ≡ true)
both true b h = absurd (let no : ⊥ = cc in no)
both false b h = (refl, h)

pub starting : (x : Xfer) (s : Stream) → (not x.writing && (is_prepared s.state && nat_le s.setup.sw.start_threshold x.rest)) ≡ true → IsStartingRead x s
starting x s h = let p = both x.writing (is_prepared s.state && nat_le s.setup.sw.start_threshold x.rest) h in record { writing = p.0; starts = p.1 }

pub enters_on : (c : ClientId) (x : Xfer) (all : List Frame) (s : Stream) → x.moved ≡ 0 → (not x.writing && (is_prepared s.state && nat_le s.setup.sw.start_threshold x.rest)) ≡ false → entering x.writing c x all s ≡ going c x x [] all s
enters_on c x all s none quiet = by x.writing quiet
  where
    by : (b : Bool) → (not b && (is_prepared s.state && nat_le s.setup.sw.start_threshold x.rest)) ≡ false → entering b c x all s ≡ going_by b c x x [] all s
    by true h = sym (ap (λ (n : ℕ). write_on c x [] (drop n all) s) none)
    by false h = else-is (is_prepared s.state && nat_le s.setup.sw.start_threshold x.rest) _ (read_on c x [] x.rest s) h

pub begun_on : (w : Bool) (c : ClientId) (x : Xfer) (all : List Frame) (s : Stream) → x.rest ≢ 0 → begun w c x all s ≡ unless (table (kind_by w) s) s (updated_or_epipe s (entering w c x all))
begun_on w c x all s some =
    let test : nat_eq x.rest 0 ≡ false = grind (arith, nat_tests, some) in
    else-is (nat_eq x.rest 0) (says (reply.Frames 0) s) (unless (table (kind_by w) s) s (updated_or_epipe s (entering w c x all))) test

pub begun_none : (w : Bool) (c : ClientId) (x : Xfer) (all : List Frame) (s : Stream) → x.rest ≡ 0 → begun w c x all s ≡ says (reply.Frames 0) s
begun_none w c x all s none =
    let test : nat_eq x.rest 0 ≡ true = grind (arith, nat_tests, none) in
    then-is (nat_eq x.rest 0) (says (reply.Frames 0) s) (unless (table (kind_by w) s) s (updated_or_epipe s (entering w c x all))) test

-- ---- the sizes of a transfer's bytes

-- whole frames fit as their bytes do
pub write_fits : (s : Stream) (w : Layout) (x : Xfer) (size frame : ℕ) → IsFit s true w frame → x.writing ≡ true → x.layout ≡ w → x.moved ≡ 0 → x.rest ≡ size / frame → size < 2 ^ 64 → IsTransferOf s x
write_fits s w x size frame fit writing layout none rest few = record {
  writing = writing ∙ fit.way;
  layout = ap (λ (v : Layout). fits v s.setup.config) layout ∙ fit.layout;
  bytes = subst (λ (n : ℕ). n * s.setup.frame_bytes < 2 ^ 64) (sym sum) (subst (λ (n : ℕ). size / frame * n < 2 ^ 64) (sym fit.frame) (omega (arith, few, div-mul-le_self size frame)));
}
  where
    sum : x.moved + x.rest ≡ size / frame
    sum = omega (arith, none, rest)

pub read_fits : (s : Stream) (w : Layout) (x : Xfer) (frame : ℕ) → IsFit s false w frame → x.writing ≡ false → x.layout ≡ w → x.moved ≡ 0 → x.rest ≤ 1048576 → IsTransferOf s x
read_fits s w x frame fit writing layout none few = record {
  writing = writing ∙ fit.way;
  layout = ap (λ (v : Layout). fits v s.setup.config) layout ∙ fit.layout;
  bytes = subst (λ (n : ℕ). n * s.setup.frame_bytes < 2 ^ 64) (sym sum) (subst (λ (n : ℕ). x.rest * n < 2 ^ 64) (sym fit.frame) (small x.rest frame few fit.most));
}
  where
    sum : x.moved + x.rest ≡ x.rest
    sum = omega (arith, none)

    small : (a b : ℕ) → a ≤ 1048576 → b ≤ 32 → a * b < 2 ^ 64
    small a b le few = let most : a * b ≤ 1048576 * 32 = mul-le-mul le few in omega (arith, most)

pub all_whole : (size frame : ℕ) → size % frame ≡ 0 → size ≡ size / frame * frame
all_whole size frame none = omega (arith, none, div-add-mod size frame, mul_comm frame (size / frame))
