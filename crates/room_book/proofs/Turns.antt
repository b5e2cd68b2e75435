-- An event keeps what fits in a room.
use Rattle.std.proofs.Common.{◌≡◌, ◌⊎◌, inl, inr, ℕ, suc, ◌+◌, ◌≤◌, Bool, true, false, nat_eq, nat_lt, nat_le, List, [], ◌∷◌, ◌++◌, length, map, refl, sym, ap, ◌∙◌, subst, arith, append_assoc, append-nil}
use Rattle.std.specs.Prelude.{MatchBool, ◌||◌, if◌then◌else◌}
use Rattle.std.proofs.lemmas.Bool.Decides.{nat_tests}
use Rattle.pcm_base.specs.declared.call.Event.{Event}
use Rattle.pcm_base.specs.declared.ids.SubId.{SubId}
use Rattle.pcm_base.specs.declared.votes.Acted.{Acted}
use Rattle.pcm_base.specs.model.Acts.{subs}
use Rattle.pcm_base.specs.model.Group.{stream_of}
use Rattle.pcm_base.specs.model.Replay.{Decided, Distinct, Joins, Part, PlaysOwn, bytes_by, is_member, joined, layout_of, part_of, parts_of}
use Rattle.pcm_base.specs.model.Stream.{Stream, Member}
use Rattle.pcm_laws.specs.Steps.{NamedMemberPlaysOwn, OtherMembersJoin, StepsKeepNumbers, VotesDecideSteps}
use Rattle.floor_rule.specs.declared.entry.EntryMark.{EntryMark}
use Rattle.floor_rule.specs.declared.entry.Joint.{Joint}
use Rattle.floor_rule.specs.declared.rule.Marked.{Marked}
use Rattle.room_book.specs.declared.book.BookEntry.{BookEntry}
use Rattle.room_book.specs.declared.book.BookEntry.TheVariants.{In, Out, Act}
use Rattle.room_book.specs.Laws.{TurnsKeep, own_entry, step_of}
use Rattle.floor_rule.specs.Marks.{count_of}
use Rattle.room_book.specs.Logs.{AllIn, IsShown, PlaysLog, Replayed, client_of, due_own, nothing, part}
use Rattle.room_book.specs.Rooms.{EachFits, IsBook, IsOwnOrNone, LogFits, RightSize, ShowsEach, acts_in, added, grown, joint_of, joints_now, joints_of, shared_entries, since_in, standing, start, without}

abbrev play : Stream → ℕ → List Joint → Replayed
play s room got = record { stream = s; room = room; since = got; due = nothing }

pub same_sub : (j k : SubId) → nat_eq j.0 k.0 ≡ true → j ≡ k
same_sub j k h = let e : j.0 ≡ k.0 = grind (arith, nat_tests, h) in ap (λ n. let i : SubId = record { 0 = n } in i) e

pub plays_both : (j : SubId) (p : Replayed) (xs : List Marked) (q : Replayed) (ys : List Marked) (r : Replayed) → PlaysLog j p xs q → PlaysLog j q ys r → PlaysLog j p (xs ++ ys) r
plays_both j p [] q ys r e rest = subst (λ x. PlaysLog j x ys r) (sym e) rest
plays_both j p (x ∷ xs) q ys r h rest = (h.0, h.1, h.2, plays_both j h.0 xs q ys r h.3 rest)

-- the book

pub standing_both : (js : List SubId) (b c : List BookEntry) → standing js (b ++ c) ≡ standing (standing js b) c
standing_both js [] c = refl
standing_both js (In x ∷ b) c = standing_both (js ++ x ∷ []) b c
standing_both js (Out x ∷ b) c = standing_both (without x js) b c
standing_both js (Act a ∷ b) c = standing_both js b c

standing_acts : (js : List SubId) (acts : List Acted) → standing js (map Act acts) ≡ js
standing_acts js [] = refl
standing_acts js (a ∷ acts) = standing_acts js acts

pub book_both : (js : List SubId) (b c : List BookEntry) → IsBook js b → IsBook (standing js b) c → IsBook js (b ++ c)
book_both js [] c h rest = rest
book_both js (In x ∷ b) c h rest = book_both (js ++ x ∷ []) b c h rest
book_both js (Out x ∷ b) c h rest = book_both (without x js) b c h rest
book_both js (Act a ∷ b) c h rest = (h.0, book_both js b c h.1 rest)

book_acts : (js : List SubId) (acts : List Acted) → Decided js acts → IsBook js (map Act acts)
book_acts js [] h = tt
book_acts js (a ∷ acts) h = ((h.0, h.1), book_acts js acts h.2)

pub since_both : (x : SubId) (room : ℕ) (js : List SubId) (n : ℕ) (got : List Joint) (b c : List BookEntry) → since_in x room js n got (b ++ c) ≡ since_in x room (standing js b) (n + acts_in b) (since_in x room js n got b) c
since_both x room js n got [] c = ap (λ k. since_in x room js k got c) (omega arith)
since_both x room js n got (In y ∷ b) c = since_both x room (js ++ y ∷ []) n _ b c
since_both x room js n got (Out y ∷ b) c = since_both x room (without y js) n got b c
since_both x room js n got (Act a ∷ b) c =
    since_both x room js (n + 1) (got ++ joint_of x room n js a ∷ []) b c
    ∙ ap (λ k. since_in x room (standing js b) k (since_in x room js (n + 1) (got ++ joint_of x room n js a ∷ []) b) c) (omega arith)

since_acts : (x : SubId) (room : ℕ) (js : List SubId) (n : ℕ) (got : List Joint) (acts : List Acted) → since_in x room js n got (map Act acts) ≡ got ++ joints_of x room n js acts
since_acts x room js n got [] = sym (append-nil got)
since_acts x room js n got (a ∷ acts) = since_acts x room js (n + 1) (got ++ joint_of x room n js a ∷ []) acts ∙ append_assoc got (joint_of x room n js a ∷ []) (joints_of x room (n + 1) js acts)

joints_after : (x : SubId) (room : ℕ) (book : List BookEntry) (js : List SubId) (acts : List Acted) → standing [] book ≡ js → joints_now x room (book ++ map Act acts) ≡ joints_now x room book ++ joints_of x room (acts_in book) js acts
joints_after x room book js acts here =
    since_both x room [] 0 [] book (map Act acts)
    ∙ since_acts x room (standing [] book) (0 + acts_in book) (joints_now x room book) acts
    ∙ ap (λ (z : ℕ × List SubId). joints_now x room book ++ joints_of x room z.0 z.1 acts) (λ i. (let e : 0 + acts_in book ≡ acts_in book = omega arith in e i, here i))

-- joints

all_in : (x : SubId) (room n : ℕ) (js : List SubId) (acts : List Acted) → AllIn room (joints_of x room n js acts)
all_in x room n js [] = tt
all_in x room n js (a ∷ acts) = (refl, all_in x room (n + 1) js acts)

parts_are : (x : SubId) (room n : ℕ) (js : List SubId) (acts : List Acted) → map part (joints_of x room n js acts) ≡ parts_of x js acts
parts_are x room n js [] = refl
parts_are x room n js (a ∷ acts) = ap (λ l. part_of x js a ∷ l) (parts_are x room (n + 1) js acts)

shared_plays : (j : SubId) (s : Stream) (xs : List Joint) (marks : List EntryMark) (t : Stream) (room : ℕ) (got : List Joint) → AllIn room xs → Joins j s (map part xs) t → ShowsEach s (map part xs) marks
    → PlaysLog j (play s room got) (shared_entries xs marks) (play t room (got ++ xs))
shared_plays j s [] marks t room got here run shows = λ i. play (sym run i) room (sym (append-nil got) i)
shared_plays j s (x ∷ xs) [] t room got here run shows = absurd shows
shared_plays j s (x ∷ xs) (m ∷ ms) t room got here run shows =
    let p = play (joined (part x) s) room (got ++ x ∷ []) in (
      p,
      (run.0, here.0, refl, refl),
      shows.0,
      subst (λ l. PlaysLog j p (shared_entries xs ms) (play t room l)) (append_assoc got (x ∷ []) xs) (shared_plays j (joined (part x) s) xs ms t room (got ++ x ∷ []) here.1 run.1 shows.1),
    )

-- the size of the room says whether its group is linked
linked_is : (number : ℕ) (js : List SubId) → RightSize number js → 1 ≤ length js → nat_lt 1 (length js) ≡ nat_le 16 number
linked_is number js size some = by (nat_lt number 16) refl size
  where
    at_home : (is : List SubId) → IsOwnOrNone number is → length is ≤ 1
    at_home [] h = omega arith
    at_home (i ∷ []) h = omega arith
    at_home (i ∷ k ∷ is) h = absurd h

    by : (b : Bool) → nat_lt number 16 ≡ b → MatchBool b (IsOwnOrNone number js) ((length js ≡ 0) ⊎ (2 ≤ length js)) → nat_lt 1 (length js) ≡ nat_le 16 number
    by true e h = grind (arith, nat_tests, e, at_home js h, some)
    by false e (inl h) = absurd (omega (arith, h, some))
    by false e (inr h) = grind (arith, nat_tests, e, h)

some_member : (k : SubId) (js : List SubId) → is_member k js ≡ true → 1 ≤ length js
some_member k [] h = absurd (cc)
some_member k (j ∷ js) h = omega arith

subs_length : (ms : List Member) → length (subs ms) ≡ length ms
subs_length [] = refl
subs_length (m ∷ ms) = ap suc (subs_length ms)

-- what an event adds to the log of one member

-- the event, as all of its lemmas see it
record Turn (origin : SubId → Stream) (number : ℕ) (ms : List Member) (book : List BookEntry) (e : Event) (io : List ℕ) (m : EntryMark) (marks : SubId → List EntryMark) : Type 0 where
  here : standing [] book ≡ subs ms
  linked : nat_lt 1 (length ms) ≡ nat_le 16 number
  none_due : due_own e.call (step_of e io ms).answer.reply ≡ nothing
  shows : IsShown m (stream_of e.sub (step_of e io ms).members)
  own : PlaysOwn e.sub e.call (client_of e.client) (nat_lt 1 (length ms)) (count_of m) (bytes_by (layout_of e.call (client_of e.client) (stream_of e.sub ms)) (stream_of e.sub ms) (step_of e io ms).answer.frames) (parts_of e.sub (subs ms) (step_of e io ms).acts) (step_of e io ms).answer.reply (stream_of e.sub ms) (stream_of e.sub (step_of e io ms).members)
  others : (j : SubId) → nat_eq j.0 e.sub.0 ≡ false → is_member j (subs ms) ≡ true → Joins j (stream_of j ms) (parts_of j (subs ms) (step_of e io ms).acts) (stream_of j (step_of e io ms).members)
  each : (j : SubId) → nat_eq j.0 e.sub.0 ≡ false → is_member j (subs ms) ≡ true → ShowsEach (stream_of j ms) (parts_of j (subs ms) (step_of e io ms).acts) (marks j)

own_plays : (origin : SubId → Stream) (number : ℕ) (ms : List Member) (book : List BookEntry) (e : Event) (io : List ℕ) (m : EntryMark) (marks : SubId → List EntryMark) → Turn origin number ms book e io m marks
    → (got : List Joint) → PlaysLog e.sub (play (stream_of e.sub ms) number got) (own_entry e io ms number book m ∷ []) (play (stream_of e.sub (step_of e io ms).members) number (got ++ joints_of e.sub number (acts_in book) (subs ms) (step_of e io ms).acts))
own_plays origin number ms book e io m marks t got =
    let g = step_of e io ms in
    let s = stream_of e.sub ms in
    let now = stream_of e.sub g.members in
    let js = joints_of e.sub number (acts_in book) (subs ms) g.acts in
    let bytes = bytes_by (layout_of e.call (client_of e.client) s) s g.answer.frames in
    let plays : PlaysOwn e.sub e.call (client_of e.client) (nat_le 16 number) (count_of m) bytes (map part js) g.answer.reply s now =
    subst (λ (z : Bool × List Part). PlaysOwn e.sub e.call (client_of e.client) z.0 (count_of m) bytes z.1 g.answer.reply s now)
    (λ i. (t.linked i, sym (parts_are e.sub number (acts_in book) (subs ms) g.acts) i)) t.own in (
      play now number (got ++ js),
      record { own = refl; plays = plays; here = all_in e.sub number (acts_in book) (subs ms) g.acts; state_is = refl; none_due = refl; room = refl; since = refl; due = sym t.none_due },
      t.shows,
      refl,
    )

log_grows : (origin : SubId → Stream) (number : ℕ) (ms : List Member) (book : List BookEntry) (e : Event) (io : List ℕ) (m : EntryMark) (marks : SubId → List EntryMark) → Turn origin number ms book e io m marks
    → (j : SubId) (log : List Marked) → is_member j (subs ms) ≡ true → LogFits origin number book j log (stream_of j ms)
    → LogFits origin number (book ++ map Act (step_of e io ms).acts) j (log ++ added e.sub (own_entry e io ms number book m) (marks j) (joints_of j number (acts_in book) (subs ms) (step_of e io ms).acts) j) (stream_of j (step_of e io ms).members)
log_grows origin number ms book e io m marks t j log at fits =
    let g = step_of e io ms in
    let got = joints_now j number book in
    let js = joints_of j number (acts_in book) (subs ms) g.acts in
    let now = stream_of j g.members in
    let own = own_entry e io ms number book m in
    let more = added e.sub own (marks j) js j in
    subst (λ l. PlaysLog j (start origin j) (log ++ more) (play now number l)) (sym (joints_after j number book (subs ms) g.acts t.here))
    (plays_both j (start origin j) log (play (stream_of j ms) number got) more (play now number (got ++ js)) fits (by_test (nat_eq j.0 e.sub.0) refl))
  where
    by_test : (b : Bool) → nat_eq j.0 e.sub.0 ≡ b → PlaysLog j (play (stream_of j ms) number (joints_now j number book))
        (if b then own_entry e io ms number book m ∷ [] else shared_entries (joints_of j number (acts_in book) (subs ms) (step_of e io ms).acts) (marks j))
        (play (stream_of j (step_of e io ms).members) number (joints_now j number book ++ joints_of j number (acts_in book) (subs ms) (step_of e io ms).acts))
    by_test true is =
        subst (λ (k : SubId). PlaysLog k (play (stream_of k ms) number (joints_now j number book)) (own_entry e io ms number book m ∷ []) (play (stream_of k (step_of e io ms).members) number (joints_now j number book ++ joints_of k number (acts_in book) (subs ms) (step_of e io ms).acts)))
        (sym (same_sub j e.sub is)) (own_plays origin number ms book e io m marks t (joints_now j number book))
    by_test false is =
        let ps = sym (parts_are j number (acts_in book) (subs ms) (step_of e io ms).acts) in
        shared_plays j (stream_of j ms) (joints_of j number (acts_in book) (subs ms) (step_of e io ms).acts) (marks j) (stream_of j (step_of e io ms).members) number (joints_now j number book)
        (all_in j number (acts_in book) (subs ms) (step_of e io ms).acts)
        (subst (λ (l : List Part). Joins j (stream_of j ms) l (stream_of j (step_of e io ms).members)) ps (t.others j is at))
        (subst (λ (l : List Part). ShowsEach (stream_of j ms) l (marks j)) ps (t.each j is at))

pub first_is : (j : SubId) (js : List SubId) → is_member j (j ∷ js) ≡ true
first_is j js = let e : nat_eq j.0 j.0 ≡ true = grind (arith, nat_tests) in ap (λ b. b || is_member j js) e

pub rest_is : (j k : SubId) (js : List SubId) → is_member j js ≡ true → is_member j (k ∷ js) ≡ true
rest_is j k js h = by (nat_eq k.0 j.0)
  where
    by : (b : Bool) → (b || is_member j js) ≡ true
    by true = refl
    by false = h

each_grows : (origin : SubId → Stream) (number : ℕ) (ms : List Member) (book : List BookEntry) (e : Event) (io : List ℕ) (m : EntryMark) (marks : SubId → List EntryMark) → Turn origin number ms book e io m marks
    → (js : List SubId) (ls : List (List Marked)) → ((j : SubId) → is_member j js ≡ true → is_member j (subs ms) ≡ true) → EachFits origin number book ms js ls
    → EachFits origin number (book ++ map Act (step_of e io ms).acts) (step_of e io ms).members js (grown e.sub (own_entry e io ms number book m) marks number (acts_in book) (subs ms) (step_of e io ms).acts js ls)
each_grows origin number ms book e io m marks t [] [] all fits = tt
each_grows origin number ms book e io m marks t [] (l ∷ ls) all fits = absurd fits
each_grows origin number ms book e io m marks t (j ∷ js) [] all fits = absurd fits
each_grows origin number ms book e io m marks t (j ∷ js) (l ∷ ls) all fits = (
  log_grows origin number ms book e io m marks t j l (all j (first_is j js)) fits.0,
  each_grows origin number ms book e io m marks t js ls (λ i at. all i (rest_is i j js at)) fits.1,
)

pub turns_keep : NamedMemberPlaysOwn → OtherMembersJoin → VotesDecideSteps → StepsKeepNumbers → TurnsKeep
turns_keep own others decided numbers origin number ms logs book e io m marks h at none_due no_link handed shows each asleep =
    let c = client_of e.client in
    let k = e.sub in
    let g = step_of e io ms in
    let keep : subs g.members ≡ subs ms = numbers e.call c k io ms in
    let t : Turn origin number ms book e io m marks = record {
      here = sym h.fits.members;
      linked = subst (λ n. nat_lt 1 n ≡ nat_le 16 number) (subs_length ms) (linked_is number (subs ms) h.size (some_member k (subs ms) at));
      none_due = none_due;
      shows = shows;
      own = own e.call c k (count_of m) io ms h.fits.apart at no_link handed;
      others = others e.call c k io ms h.fits.apart at;
      each = each;
    } in
    record {
      fits = record {
        members = keep ∙ h.fits.members ∙ sym (standing_acts (standing [] book) g.acts) ∙ sym (standing_both [] book (map Act g.acts));
        apart = subst Distinct (sym keep) h.fits.apart;
        is_book = book_both [] book (map Act g.acts) h.fits.is_book (book_acts (standing [] book) g.acts (subst (λ js. Decided js g.acts) h.fits.members (decided e.call c k io ms h.fits.apart at)));
        each = subst (λ (js : List SubId). EachFits origin number (book ++ map Act g.acts) g.members js (grown k (own_entry e io ms number book m) marks number (acts_in book) (subs ms) g.acts (subs ms) logs)) (sym keep)
            (each_grows origin number ms book e io m marks t (subs ms) logs (λ j i. i) h.fits.each);
      };
      size = subst (RightSize number) (sym keep) h.size;
      asleep = asleep;
    }
