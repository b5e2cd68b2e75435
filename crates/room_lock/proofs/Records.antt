-- What an event leaves in a room fits there.
use Rattle.std.proofs.Common.{◌≡◌, ◌≢◌, ◌≤◌, ◌<◌, ◌+◌, ℕ, zero, suc, Bool, true, false, cond, nat_eq, List, [], ◌∷◌, ◌++◌, length, length-set, map, slice_get, get_or, Some, refl, sym, ap, ◌∙◌, subst, arith}
use Rattle.std.specs.Prelude.{◌||◌}
use Rattle.std.proofs.lemmas.Bool.Decides.{nat_tests}
use Rattle.pcm_base.specs.declared.act.Vote.{Vote}
use Rattle.pcm_base.specs.declared.act.Vote.TheVariants as vote
use Rattle.pcm_base.specs.declared.call.Event.{Event}
use Rattle.pcm_base.specs.declared.ids.SubId.{SubId}
use Rattle.pcm_base.specs.declared.reply.Reply.{Reply}
use Rattle.pcm_base.specs.declared.state.State.{State}
use Rattle.pcm_base.specs.declared.votes.Acted.{Acted}
use Rattle.pcm_base.specs.model.Acts.{subs}
use Rattle.pcm_base.specs.model.Group.{stream_of}
use Rattle.pcm_base.specs.model.Replay.{Decided, Distinct, is_member, parts_of, vote_of}
use Rattle.pcm_base.specs.model.Stream.{Stream, Member, shown}
use Rattle.pcm_laws.specs.Steps.{OtherMembersJoin}
use Rattle.floor_rule.specs.declared.entry.Entry.TheVariants as entry
use Rattle.floor_rule.specs.declared.entry.EntryMark.{EntryMark}
use Rattle.floor_rule.specs.declared.entry.EntryMark.TheVariants as mark
use Rattle.floor_rule.specs.declared.entry.Joint.{Joint}
use Rattle.floor_rule.specs.declared.rule.Marked.{Marked}
use Rattle.room_book.specs.Laws.{TurnsKeep, own_entry, step_of}
use Rattle.room_book.specs.Logs.{client_of}
use Rattle.room_book.specs.Rooms.{RoomFits, acts_in, added, grown, joint_of, joints_of, log_of, shared_entries}
use Rattle.room_book.specs.declared.book.BookEntry.TheVariants.{Act}
use Rattle.room_parts.specs.Passes.{PassView}
use Rattle.room_parts.specs.Recs.{RecView, sub_of, subs_of}
use Rattle.room_lock.specs.Between.{EventActsFollow, MarksShow, marks_by, state_then}
use Rattle.room_lock.specs.Joints.{AllVoted, AreVotes, FewVoted, joint_at, joints_at, shared_at, state_after}
use Rattle.room_lock.specs.Recorded.{IsRecorded, called, own_of}
use Rattle.room_lock.specs.Shared.{shared_by}
use Rattle.room_lock.specs.Turning.{RecordsFit, bytes_in, logs_of}
use Rattle.room_lock.proofs.RecLemmas.{found, get_other, get_set, no_rec, some_one}

-- lists by their places

pub same_list : {A : Type 0} (xs ys : List A) → length xs ≡ length ys → ((i : ℕ) → i < length xs → slice_get xs i ≡ slice_get ys i) → xs ≡ ys
same_list [] [] size each = refl
same_list [] (y ∷ ys) size each = absurd (omega (arith, size))
same_list (x ∷ xs) [] size each = absurd (omega (arith, size))
same_list (x ∷ xs) (y ∷ ys) size each =
    let one : x ≡ y = some_one x y (each 0 (omega arith)) in
    let rest : xs ≡ ys = same_list xs ys (omega (arith, size)) (λ i lt. each (suc i) (omega (arith, lt))) in
    λ k. one k ∷ rest k

pub get_map : {A B : Type 0} (f : A → B) (xs : List A) (i : ℕ) (a : A) → slice_get xs i ≡ Some a → slice_get (map f xs) i ≡ Some (f a)
get_map f [] i a h = absurd (cc)
get_map f (x ∷ xs) zero a h = let e : x ≡ a = cc in ap (λ y. Some (f y)) e
get_map f (x ∷ xs) (suc i) a h = get_map f xs i a h

pub length_map : {A B : Type 0} (f : A → B) (xs : List A) → length (map f xs) ≡ length xs
length_map f [] = refl
length_map f (x ∷ xs) = ap suc (length_map f xs)

-- numbers

pub among : (js : List SubId) (i : ℕ) (x : SubId) → slice_get js i ≡ Some x → is_member x js ≡ true
among [] i x h = absurd (cc)
among (j ∷ js) zero x h =
    let e : j ≡ x = cc in
    let same : nat_eq j.0 j.0 ≡ true = grind (arith, nat_tests) in subst (λ (k : SubId). is_member k (j ∷ js) ≡ true) e (ap (λ b. b || is_member j js) same)
among (j ∷ js) (suc i) x h = by (nat_eq j.0 x.0) (among js i x h)
  where
    by : (b : Bool) → is_member x js ≡ true → (b || is_member x js) ≡ true
    by true e = refl
    by false e = e

-- one that comes later has another number
pub later : (j : SubId) (js : List SubId) (i : ℕ) (x : SubId) → is_member j js ≡ false → slice_get js i ≡ Some x → nat_eq j.0 x.0 ≡ false
later j js i x none h = by (nat_eq j.0 x.0) refl
  where
    by : (b : Bool) → nat_eq j.0 x.0 ≡ b → b ≡ false
    by true e =
        let same : j.0 ≡ x.0 = grind (arith, nat_tests, e) in
        let is : x ≡ j = ap (λ n. let k : SubId = record { 0 = n } in k) (sym same) in
        let yes : is_member j js ≡ true = subst (λ (k : SubId). is_member k js ≡ true) is (among js i x h) in absurd (cc)
    by false e = refl

other_way : (a b : ℕ) → nat_eq a b ≡ false → nat_eq b a ≡ false
other_way a b h = grind (arith, nat_tests, h)

differ_at : (js : List SubId) (i k : ℕ) (x y : SubId) → Distinct js → slice_get js i ≡ Some x → slice_get js k ≡ Some y → i ≢ k → nat_eq x.0 y.0 ≡ false
differ_at [] i k x y d h g ne = absurd (cc)
differ_at (j ∷ js) zero zero x y d h g ne = absurd (ne refl)
differ_at (j ∷ js) zero (suc k) x y d h g ne = let e : j ≡ x = cc in subst (λ (z : SubId). nat_eq z.0 y.0 ≡ false) e (later j js k y d.0 g)
differ_at (j ∷ js) (suc i) zero x y d h g ne = let e : j ≡ y = cc in subst (λ (z : SubId). nat_eq x.0 z.0 ≡ false) e (other_way j.0 x.0 (later j js i x d.0 h))
differ_at (j ∷ js) (suc i) (suc k) x y d h g ne = differ_at js i k x y d.1 h g (λ e. ne (ap suc e))

-- the number of a rec's substream, and the log of the member at a place

pub number_at : (ks : List SubId) (rs : List RecView) (own : ℕ) (r : RecView) (k : SubId) → subs_of rs ≡ ks → slice_get rs own ≡ Some r → sub_of r ≡ k → slice_get ks own ≡ Some k
number_at ks rs own r k h at is = ap (λ (l : List SubId). slice_get l own) (sym h) ∙ get_map sub_of rs own r at ∙ ap Some is

pub log_at_place : (js : List SubId) (ls : List (List Marked)) (i : ℕ) (j : SubId) (l : List Marked) → Distinct js → slice_get js i ≡ Some j → slice_get ls i ≡ Some l → log_of j js ls ≡ l
log_at_place [] ls i j l d a b = absurd (cc)
log_at_place (x ∷ js) [] i j l d a b = absurd (cc)
log_at_place (x ∷ js) (y ∷ ls) zero j l d a b =
    let e : x ≡ j = cc in
    let f : y ≡ l = cc in
    let number_is : x.0 ≡ j.0 = ap (λ (k : SubId). k.0) e in
    let test : nat_eq x.0 j.0 ≡ true = grind (arith, nat_tests, number_is) in
    ap (λ t. cond t y (log_of j js ls)) test ∙ f
log_at_place (x ∷ js) (y ∷ ls) (suc i) j l d a b = ap (λ t. cond t y (log_of j js ls)) (later x js i j d.0 a) ∙ log_at_place js ls i j l d.1 a b

-- votes by place

vote_at : (js : List SubId) (vs : List Vote) (i : ℕ) (x : SubId) → Distinct js → slice_get js i ≡ Some x → vote_of x js vs ≡ get_or vs i vote.Unasked
vote_at [] vs i x d h = absurd (cc)
vote_at (j ∷ js) [] zero x d h = refl
vote_at (j ∷ js) [] (suc i) x d h = refl
vote_at (j ∷ js) (v ∷ vs) zero x d h =
    let e : j ≡ x = cc in
    let same : nat_eq j.0 j.0 ≡ true = grind (arith, nat_tests) in
    subst (λ (k : SubId). vote_of k (j ∷ js) (v ∷ vs) ≡ v) e (ap (λ b. cond b v (vote_of j js vs)) same)
vote_at (j ∷ js) (v ∷ vs) (suc i) x d h = ap (λ b. cond b v (vote_of x js vs)) (later j js i x d.0 h) ∙ vote_at js vs i x d.1 h

joint_is : (js : List SubId) (i room n : ℕ) (x : SubId) (a : Acted) → Distinct js → slice_get js i ≡ Some x → joint_at i room n a ≡ joint_of x room n js a
joint_is js i room n x a d h = ap (λ (v : Vote). let j : Joint = record { act = a.act; room = room; serial = n; vote = v; outcome = a.outcome } in j) (sym (vote_at js a.votes i x d h))

pub joints_are : (js : List SubId) (i room n : ℕ) (x : SubId) (acts : List Acted) → Distinct js → slice_get js i ≡ Some x → joints_at i room n acts ≡ joints_of x room n js acts
joints_are js i room n x [] d h = refl
joints_are js i room n x (a ∷ acts) d h = ap (λ (z : Joint × List Joint). z.0 ∷ z.1) (λ k. (joint_is js i room n x a d h k, joints_are js i room (n + 1) x acts d h k))

state_is : (js : List SubId) (x : SubId) (acts : List Acted) (t : State) → state_after acts t ≡ state_then (parts_of x js acts) t
state_is js x [] t = refl
state_is js x (a ∷ acts) t = refl

shared_are : (js : List SubId) (i room n : ℕ) (x : SubId) (acts : List Acted) (t : State) (h : ℕ) (k : SubId) (at : ℕ) → Distinct js → slice_get js i ≡ Some x
    → shared_at i room n acts t h k at ≡ shared_entries (joints_of x room n js acts) (marks_by (parts_of x js acts) t h k at)
shared_are js i room n x [] t h k at d g = refl
shared_are js i room n x (a ∷ acts) t h k at d g =
    ap (λ (z : Joint × State × List Marked). (let m : Marked = record { entry = entry.Shared z.0; mark = mark.Caused z.1 h k at } in m) ∷ z.2)
    (λ j. (joint_is js i room n x a d g j, state_is js x acts t j, shared_are js i room (n + 1) x acts t h k at d g j))

-- the logs with what an event adds, by place

grown_at : (k : SubId) (own : Marked) (marks : SubId → List EntryMark) (room n : ℕ) (ks : List SubId) (acts : List Acted) (js : List SubId) (ls : List (List Marked)) (i : ℕ) (j : SubId) (l : List Marked)
    → slice_get js i ≡ Some j → slice_get ls i ≡ Some l → slice_get (grown k own marks room n ks acts js ls) i ≡ Some (l ++ added k own (marks j) (joints_of j room n ks acts) j)
grown_at k own marks room n ks acts [] ls i j l at there = absurd (cc)
grown_at k own marks room n ks acts (x ∷ js) [] i j l at there = absurd (cc)
grown_at k own marks room n ks acts (x ∷ js) (y ∷ ls) zero j l at there =
    let e : x ≡ j = cc in
    let f : y ≡ l = cc in
    ap (λ (z : SubId × List Marked). Some (z.1 ++ added k own (marks z.0) (joints_of z.0 room n ks acts) z.0)) (λ i. (e i, f i))
grown_at k own marks room n ks acts (x ∷ js) (y ∷ ls) (suc i) j l at there = grown_at k own marks room n ks acts js ls i j l at there

grown_length : (k : SubId) (own : Marked) (marks : SubId → List EntryMark) (room n : ℕ) (ks : List SubId) (acts : List Acted) (js : List SubId) (ls : List (List Marked)) → length js ≡ length ls → length (grown k own marks room n ks acts js ls) ≡ length ls
grown_length k own marks room n ks acts [] ls h = h
grown_length k own marks room n ks acts (x ∷ js) [] h = refl
grown_length k own marks room n ks acts (x ∷ js) (y ∷ ls) h = ap suc (grown_length k own marks room n ks acts js ls (omega (arith, h)))

-- the marks that the entries of each member have
abbrev marks_of : Event → List ℕ → List Member → ℕ → SubId → List EntryMark
marks_of e io xs at j =
    let s : Stream = stream_of j (step_of e io xs).members in
    marks_by (parts_of j (subs xs) (step_of e io xs).acts) s.state (shown s s.at.hw) e.sub at

-- what the rec at place i has gained is what the event adds to the log of its member
log_at : (ys : List Member) (own : ℕ) (e : Event) (count : ℕ) (bytes : List ℕ) (reply : Reply) (acts : List Acted) (number n : ℕ) (r : RecView) (old now : List RecView) (p q : PassView) (js : List SubId) (marks : SubId → List EntryMark) (m : Marked)
    → subs_of old ≡ js → Distinct js → slice_get old own ≡ Some r → sub_of r ≡ e.sub
    → called p.knows count (own_of ys e bytes (joints_at own number n acts) reply) (stream_of e.sub ys).state (shown (stream_of e.sub ys) (stream_of e.sub ys).at.hw) ≡ m
    → ((j : SubId) → marks j ≡ marks_by (parts_of j js acts) (stream_of j ys).state (shown (stream_of j ys) (stream_of j ys).at.hw) e.sub (length r.knows.log))
    → IsRecorded ys own e count bytes reply acts number n r old now p q
    → (i : ℕ) (r0 : RecView) → i < length old → slice_get old i ≡ Some r0
    → slice_get (logs_of now) i ≡ Some (r0.knows.log ++ added e.sub m (marks (sub_of r0)) (joints_of (sub_of r0) number n js acts) (sub_of r0))
log_at ys own e count bytes reply acts number n r old now p q js marks m subs_are apart at is own_is marks_are did i r0 lt at0 = by (nat_eq i own) refl
  where
    js_at : slice_get js i ≡ Some (sub_of r0)
    js_at = ap (λ (l : List SubId). slice_get l i) (sym subs_are) ∙ get_map sub_of old i r0 at0

    own_at : slice_get js own ≡ Some (sub_of r)
    own_at = ap (λ (l : List SubId). slice_get l own) (sym subs_are) ∙ get_map sub_of old own r at

    log_of_rec : RecView → List Marked
    log_of_rec s = s.knows.log

    by : (b : Bool) → nat_eq i own ≡ b → slice_get (logs_of now) i ≡ Some (r0.knows.log ++ added e.sub m (marks (sub_of r0)) (joints_of (sub_of r0) number n js acts) (sub_of r0))
    by true f =
        let here : i ≡ own = grind (arith, nat_tests, f) in
        let same : r ≡ r0 = some_one r r0 (sym at ∙ ap (slice_get old) (sym here) ∙ at0) in
        let first = did.first in
        let size : own < length old = subst (λ (k : ℕ). k < length old) here lt in
        let there : slice_get now i ≡ Some first.rec = ap (slice_get now) here ∙ did.own_same ∙ ap (λ (l : List RecView). slice_get l own) first.recs ∙ get_set old own first.rec size in
        let number_is : (sub_of r0).0 ≡ e.sub.0 = ap (λ (x : RecView). x.knows.sub) (sym same) ∙ ap (λ (k : SubId). k.0) is in
        let test : nat_eq (sub_of r0).0 e.sub.0 ≡ true = grind (arith, nat_tests, number_is) in
        get_map (λ (x : RecView). x.knows.log) now i first.rec there
        ∙ ap Some (first.joined.log
        ∙ ap (λ (z : RecView × Marked). z.0.knows.log ++ z.1 ∷ []) (λ k. (same k, own_is k))
        ∙ ap (λ b. r0.knows.log ++ cond b (m ∷ []) (shared_entries (joints_of (sub_of r0) number n js acts) (marks (sub_of r0)))) (sym test))
    by false f =
        let other : i ≢ own = grind (arith, nat_tests, f) in
        let first = did.first in
        let in_mid : slice_get (did.mid) i ≡ Some r0 = ap (λ (l : List RecView). slice_get l i) first.recs ∙ get_other old own i first.rec other ∙ at0 in
        let size : length did.mid ≡ length old = ap length first.recs ∙ length-set old own first.rec in
        let got = did.others i r0 (subst (λ (k : ℕ). i < k) (sym size) lt) other in_mid in
        let apart_is : nat_eq (sub_of r0).0 (sub_of r).0 ≡ false = differ_at js i own (sub_of r0) (sub_of r) apart js_at own_at other in
        let test : nat_eq (sub_of r0).0 e.sub.0 ≡ false = subst (λ (k : SubId). nat_eq (sub_of r0).0 k.0 ≡ false) is apart_is in
        let s : Stream = stream_of (sub_of r0) ys in
        let gain : shared_by ys number n acts (sub_of r) (length r.knows.log) i r0 ≡ shared_entries (joints_of (sub_of r0) number n js acts) (marks (sub_of r0)) =
        shared_are js i number n (sub_of r0) acts s.state (shown s s.at.hw) (sub_of r) (length r.knows.log) apart js_at
        ∙ ap (λ (k : SubId). shared_entries (joints_of (sub_of r0) number n js acts) (marks_by (parts_of (sub_of r0) js acts) s.state (shown s s.at.hw) k (length r.knows.log))) is
        ∙ ap (shared_entries (joints_of (sub_of r0) number n js acts)) (sym (marks_are (sub_of r0))) in
        get_map (λ (x : RecView). x.knows.log) now i got.0 got.1
        ∙ ap Some (got.2.log
        ∙ ap (λ (l : List Marked). r0.knows.log ++ l) gain
        ∙ ap (λ b. r0.knows.log ++ cond b (m ∷ []) (shared_entries (joints_of (sub_of r0) number n js acts) (marks (sub_of r0)))) (sym test))

pub logs_grown : (ys : List Member) (own : ℕ) (e : Event) (count : ℕ) (bytes : List ℕ) (reply : Reply) (acts : List Acted) (number n : ℕ) (r : RecView) (old now : List RecView) (p q : PassView) (js : List SubId) (marks : SubId → List EntryMark) (m : Marked)
    → subs_of old ≡ js → Distinct js → slice_get old own ≡ Some r → sub_of r ≡ e.sub
    → called p.knows count (own_of ys e bytes (joints_at own number n acts) reply) (stream_of e.sub ys).state (shown (stream_of e.sub ys) (stream_of e.sub ys).at.hw) ≡ m
    → ((j : SubId) → marks j ≡ marks_by (parts_of j js acts) (stream_of j ys).state (shown (stream_of j ys) (stream_of j ys).at.hw) e.sub (length r.knows.log))
    → IsRecorded ys own e count bytes reply acts number n r old now p q
    → logs_of now ≡ grown e.sub m marks number n js acts js (logs_of old)
logs_grown ys own e count bytes reply acts number n r old now p q js marks m subs_are apart at is own_is marks_are did =
    let mid_size : length did.mid ≡ length old = ap length did.first.recs ∙ length-set old own did.first.rec in
    let now_size : length now ≡ length old = did.size ∙ mid_size in
    let old_logs : length (logs_of old) ≡ length old = length_map (λ (x : RecView). x.knows.log) old in
    let now_logs : length (logs_of now) ≡ length now = length_map (λ (x : RecView). x.knows.log) now in
    let js_size : length js ≡ length old = ap length (sym subs_are) ∙ length_map sub_of old in
    let grown_size : length (grown e.sub m marks number n js acts js (logs_of old)) ≡ length (logs_of old) = grown_length e.sub m marks number n js acts js (logs_of old) (js_size ∙ sym old_logs) in
    same_list (logs_of now) (grown e.sub m marks number n js acts js (logs_of old)) (now_logs ∙ now_size ∙ sym old_logs ∙ sym grown_size)
    (λ i lt.
    let in_old : i < length old = omega (arith, lt, now_logs, now_size) in
    let r0 = get_or old i no_rec in
    let at0 = found old i in_old in
    let js_at : slice_get js i ≡ Some (sub_of r0) = ap (λ (l : List SubId). slice_get l i) (sym subs_are) ∙ get_map sub_of old i r0 at0 in
    log_at ys own e count bytes reply acts number n r old now p q js marks m subs_are apart at is own_is marks_are did i r0 in_old at0
    ∙ sym (grown_at e.sub m marks number n js acts js (logs_of old) i (sub_of r0) r0.knows.log js_at (get_map (λ (x : RecView). x.knows.log) old i r0 at0)))

pub records_fit : TurnsKeep → EventActsFollow → MarksShow → OtherMembersJoin → RecordsFit
records_fit keep follow show join origin number own count xs book e io r old now p q fits here at is no_link none_due handed asleep did =
    let c = client_of e.client in
    let d = step_of e io xs in
    let t : Stream = stream_of e.sub d.members in
    let m : EntryMark = mark.Called t.state (shown t t.at.hw) p.knows.number (length p.knows.calls) count in
    let apart : Distinct (subs xs) = fits.fits.apart in
    let js_own : slice_get (subs xs) own ≡ Some e.sub = ap (λ (l : List SubId). slice_get l own) (sym here) ∙ get_map sub_of old own r at ∙ ap Some is in
    let member : is_member e.sub (subs xs) ≡ true = among (subs xs) own e.sub js_own in
    let own_is : called p.knows count (own_of d.members e (bytes_in e io xs) (joints_at own number (acts_in book) d.acts) d.answer.reply) t.state (shown t t.at.hw) ≡ own_entry e io xs number book m =
    ap (λ (l : List Joint). called p.knows count (own_of d.members e (bytes_in e io xs) l d.answer.reply) t.state (shown t t.at.hw)) (joints_are (subs xs) own number (acts_in book) e.sub d.acts apart js_own) in
    let logs = logs_grown d.members own e count (bytes_in e io xs) d.answer.reply d.acts number (acts_in book) r old now p q (subs xs) (marks_of e io xs (length r.knows.log)) (own_entry e io xs number book m) here apart at is own_is (λ j. refl) did in
    subst (λ (ls : List (List Marked)). RoomFits origin number d.members ls (book ++ map Act d.acts)) (sym logs)
    (keep origin number xs (logs_of old) book e io m (marks_of e io xs (length r.knows.log)) fits member none_due no_link handed (refl, refl)
    (λ j ne there. show j (stream_of j xs) (parts_of j (subs xs) d.acts) (stream_of j d.members) e.sub (length r.knows.log) (follow e.call c e.sub io xs apart member j) (join e.call c e.sub io xs apart member j ne there)) asleep)

-- each member has voted in each act
pub are_votes : (js : List SubId) (acts : List Acted) → Decided js acts → AreVotes (length js) acts
are_votes js [] h = tt
are_votes js (a ∷ acts) h = (h.0, are_votes js acts h.2)

pub all_voted : (n : ℕ) (acts : List Acted) (i : ℕ) → AreVotes n acts → i < n → AllVoted i acts
all_voted n [] i h lt = tt
all_voted n (a ∷ acts) i h lt = (subst (λ (n : ℕ). i < n) (sym h.0) lt, all_voted n acts i h.1 lt)

pub few_voted : (n : ℕ) (acts : List Acted) → AreVotes n acts → n ≤ 16 → FewVoted acts
few_voted n [] h le = tt
few_voted n (a ∷ acts) h le = (subst (λ (n : ℕ). n ≤ 16) (sym h.0) le, few_voted n acts h.1 le)
