-- A step of a group: its acts, its members' parts, and that every member stays sound.
use Rattle.std.proofs.Common.{ℕ, ◌≡◌, ◌≤◌, Bool, true, false, nat_eq, nat_lt, List, length, refl, sym, ap, ◌∙◌, subst}
use Rattle.pcm_base.specs.declared.call.Call.{Call}
use Rattle.pcm_base.specs.declared.ids.ClientId.{ClientId}
use Rattle.pcm_base.specs.declared.ids.SubId.{SubId}
use Rattle.pcm_base.specs.model.Acts.{subs}
use Rattle.pcm_base.specs.model.Events.{program}
use Rattle.pcm_base.specs.model.Group.{Run, group_step, mark, run, run_event, stream_of}
use Rattle.pcm_base.specs.model.Program.{Program}
use Rattle.pcm_base.specs.model.Replay.{Decided, Decomposes, Distinct, IsLent, Joins, Plays, PlaysOwn, bytes_by, is_link, is_member, layout_of, parts_of, reading_length}
use Rattle.pcm_base.specs.model.Sleep.{group_drains}
use Rattle.pcm_laws.specs.Soundness.{AllSound, AllStop}
use Rattle.pcm_laws.proofs.KeptByReplays.{AllStop-parts_of, Joins-sound, Plays-sound}
use Rattle.pcm_base.specs.model.Sound.{Sound}
use Rattle.pcm_base.specs.model.Stream.{Member}
use Rattle.pcm_laws.proofs.KeptByEvents.{KeepsSound-program}
use Rattle.pcm_laws.proofs.Decomposition.{subs-run, Decomposes-run, same}
use Rattle.pcm_laws.proofs.ActCounts.{AtMost-program}
use Rattle.pcm_laws.proofs.Marks.{stream_of-group_step, subs-mark, subs-wake_members}

-- every member
pub Sound-group_step : (e : Call) (c : ClientId) (k : SubId) (io : List ℕ) (ms : List Member) → Distinct (subs ms) → is_member k (subs ms) ≡ true
    → ((j : SubId) → is_member j (subs ms) ≡ true → Sound (stream_of j ms))
    → (j : SubId) → is_member j (subs ms) ≡ true → Sound (stream_of j (group_step e c k io ms).members)
Sound-group_step e c k io ms d h g j m =
    let p : Program = program e c (nat_lt 1 (length ms)) io (stream_of k ms) in
    let r : Run = run p k ms in
    let law : Decomposes p k ms r = Decomposes-run p k ms d h in
    let own_sound : Sound (stream_of k r.members) × AllStop (parts_of k (subs ms) r.acts) = Plays-sound k p (parts_of k (subs ms) r.acts) r.answer (stream_of k r.members) law.own (KeepsSound-program k e c (nat_lt 1 (length ms)) io (stream_of k ms) (g k h)) in
    subst Sound (sym (stream_of-group_step e c k io j ms)) (by (nat_eq j.0 k.0) refl own_sound law)
  where
    by : (b : Bool) → nat_eq j.0 k.0 ≡ b
        → Sound (stream_of k (run_event e c k io ms).members) × AllStop (parts_of k (subs ms) (run_event e c k io ms).acts)
        → Decomposes (program e c (nat_lt 1 (length ms)) io (stream_of k ms)) k ms (run_event e c k io ms)
        → Sound (stream_of j (run_event e c k io ms).members)
    by true n s l = subst (λ i. Sound (stream_of i (run_event e c k io ms).members)) (sym (same j k n)) s.0
    by false n s l = Joins-sound j (stream_of j ms) (parts_of j (subs ms) (run_event e c k io ms).acts) (stream_of j (run_event e c k io ms).members) (l.others j n m) (AllStop-parts_of k j (subs ms) (run_event e c k io ms).acts s.1) (g j m)

-- at most three acts
pub acts-group_step : (e : Call) (c : ClientId) (k : SubId) (io : List ℕ) (ms : List Member) → Distinct (subs ms) → is_member k (subs ms) ≡ true → length (group_step e c k io ms).acts ≤ 3
acts-group_step e c k io ms d h =
    let p : Program = program e c (nat_lt 1 (length ms)) io (stream_of k ms) in
    (Decomposes-run p k ms d h).few 3 (AtMost-program e c (nat_lt 1 (length ms)) io (stream_of k ms))

-- the own step of the named member, as an entry of its log plays it
pub PlaysOwn-group_step : (e : Call) (c : ClientId) (k : SubId) (count : ℕ) (io : List ℕ) (ms : List Member) → Distinct (subs ms) → is_member k (subs ms) ≡ true
    → is_link e ≡ false → IsLent (reading_length e c (stream_of k ms)) count (length io)
    → PlaysOwn k e c (nat_lt 1 (length ms)) count (bytes_by (layout_of e c (stream_of k ms)) (stream_of k ms) (group_step e c k io ms).answer.frames)
    (parts_of k (subs ms) (group_step e c k io ms).acts) (group_step e c k io ms).answer.reply (stream_of k ms) (stream_of k (group_step e c k io ms).members)
PlaysOwn-group_step e c k count io ms d h alone fits =
    let p : Program = program e c (nat_lt 1 (length ms)) io (stream_of k ms) in
    let r : Run = run p k ms in
    record {
      io = io;
      answer = r.answer;
      handed = fits;
      no_link = alone;
      says = refl;
      moved = refl;
      plays = subst (λ t. Plays k p (parts_of k (subs ms) r.acts) r.answer t) (sym (stream_of-group_step e c k io k ms)) ((Decomposes-run p k ms d h).own);
    }

-- the numbers, and the votes of the acts
pub subs-group_step : (e : Call) (c : ClientId) (k : SubId) (io : List ℕ) (ms : List Member) → subs (group_step e c k io ms).members ≡ subs ms
subs-group_step e c k io ms =
    let r : Run = run_event e c k io ms in
    let now : List Member = mark k r.answer.reply c r.members in
    subs-wake_members (group_drains now) now ∙ (subs-mark k r.answer.reply c r.members ∙ subs-run (program e c (nat_lt 1 (length ms)) io (stream_of k ms)) k ms)

pub Decided-group_step : (e : Call) (c : ClientId) (k : SubId) (io : List ℕ) (ms : List Member) → Distinct (subs ms) → is_member k (subs ms) ≡ true → Decided (subs ms) (group_step e c k io ms).acts
Decided-group_step e c k io ms d h = (Decomposes-run (program e c (nat_lt 1 (length ms)) io (stream_of k ms)) k ms d h).decided

-- every other member
pub Joins-group_step : (e : Call) (c : ClientId) (k : SubId) (io : List ℕ) (ms : List Member) → Distinct (subs ms) → is_member k (subs ms) ≡ true
    → (j : SubId) → nat_eq j.0 k.0 ≡ false → is_member j (subs ms) ≡ true
    → Joins j (stream_of j ms) (parts_of j (subs ms) (group_step e c k io ms).acts) (stream_of j (group_step e c k io ms).members)
Joins-group_step e c k io ms d h j n m =
    let p : Program = program e c (nat_lt 1 (length ms)) io (stream_of k ms) in
    let r : Run = run p k ms in
    subst (λ t. Joins j (stream_of j ms) (parts_of j (subs ms) r.acts) t) (sym (stream_of-group_step e c k io j ms)) ((Decomposes-run p k ms d h).others j n m)

pub AllSound-group_step : (e : Call) (c : ClientId) (k : SubId) (io : List ℕ) (ms : List Member) → Distinct (subs ms) → is_member k (subs ms) ≡ true → AllSound ms → AllSound (group_step e c k io ms).members
AllSound-group_step e c k io ms d h g j m = Sound-group_step e c k io ms d h g j (ap (is_member j) (sym (subs-group_step e c k io ms)) ∙ m)
