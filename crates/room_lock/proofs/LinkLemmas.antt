-- What fits in rooms when a link is told, and when members go out and come in.
use Rattle.std.proofs.Common.{◌≡◌, ◌≢◌, ◌⊎◌, ◌≤◌, ◌<◌, ◌+◌, ℕ, zero, suc, Bool, true, false, cond, nat_eq, nat_le, nat_lt, List, [], ◌∷◌, ◌++◌, length, map, slice_get, slice_set, Some, refl, sym, ap, ◌∙◌, subst, arith}
use Rattle.std.specs.Prelude.{◌||◌}
use Rattle.std.proofs.lemmas.Bool.Decides.{nat_tests}
use Rattle.std.proofs.lemmas.List.{map-append}
use Rattle.std.proofs.lemmas.Option.{slice_get_within}
use Rattle.pcm_base.specs.declared.ids.SubId.{SubId}
use Rattle.pcm_base.specs.declared.reply.Page.{Page}
use Rattle.pcm_base.specs.declared.reply.Reply.{Reply}
use Rattle.pcm_base.specs.declared.state.State.{State}
use Rattle.pcm_base.specs.model.Acts.{subs}
use Rattle.pcm_base.specs.model.Group.{stream_of}
use Rattle.pcm_base.specs.model.Replay.{Distinct, is_member}
use Rattle.pcm_base.specs.model.Sleep.{group_drains, wake, wake_members}
use Rattle.pcm_base.specs.model.Stream.{Member, Stream, shown}
use Rattle.pcm_base.specs.model.World.{without_member}
use Rattle.pcm_laws.specs.Waiting.{AllHaveDistinctClients, EachMayWait, WakeLeavesWaiting}
use Rattle.floor_rule.specs.declared.rule.Marked.{Marked}
use Rattle.floor_rule.specs.declared.rule.PassKnows.{PassKnows}
use Rattle.room_book.specs.Laws.{ComingIn, EntriesFollow, GoingOut, LogOfMember, OneLogChanges, SameStreamsFit, WakesKeep}
use Rattle.room_book.specs.Logs.{MayMove, PlaysLog, Replayed, due_link, is_ok, link_reply, nothing, to_group}
use Rattle.room_book.specs.Rooms.{BookFits, LogFits, RightSize, acts_in, joints_now, log_of, start, with_log, without_log}
use Rattle.room_book.specs.declared.book.BookEntry.{BookEntry}
use Rattle.room_book.specs.declared.book.BookEntry.TheVariants.{In, Out, Act}
use Rattle.room_parts.specs.Recs.{RecView, sub_of, subs_of}
use Rattle.room_parts.specs.declared.calling.Linked.{Linked}
use Rattle.room_lock.specs.declared.recording.Receipt.{Receipt}
use Rattle.room_lock.specs.InGroup.{IsPageIn}
use Rattle.room_lock.specs.InRoom.{AllPlaced, FitsIn}
use Rattle.room_lock.specs.Joined.{IsJoined}
use Rattle.room_lock.specs.Linked.{HasMoved, link_marked, moved_to}
use Rattle.room_lock.specs.Turning.{logs_of}
use Rattle.room_lock.proofs.NewLemmas.{none_right}
use Rattle.room_lock.proofs.RecLemmas.{get_other, get_set, some_one}
use Rattle.room_lock.proofs.Records.{among, get_map, later, length_map, log_at_place, number_at}
use Rattle.room_lock.proofs.SharedLemmas.{subs_set}

-- ---- a room without its size and its sleepers

pub record Standing (origin : SubId → Stream) (cards serial number : ℕ) (xs : List Member) (recs : List RecView) (book : List BookEntry) : Type 0 where
  pub recs_are : subs_of recs ≡ subs xs
  pub fits : BookFits origin number xs (logs_of recs) book
  pub placed : AllPlaced number cards recs
  pub acts : serial ≡ acts_in book

pub standing_of : (origin : SubId → Stream) (cards serial number : ℕ) (xs : List Member) (recs : List RecView) (book : List BookEntry) → FitsIn origin cards serial number xs recs book → Standing origin cards serial number xs recs book
standing_of origin cards serial number xs recs book h = record { recs_are = h.recs_are; fits = h.fits.fits; placed = h.placed; acts = h.acts }

pub room_fits : (origin : SubId → Stream) (cards serial number : ℕ) (xs : List Member) (recs : List RecView) (book : List BookEntry) → Standing origin cards serial number xs recs book → RightSize number (subs xs) → EachMayWait (group_drains xs) xs
    → FitsIn origin cards serial number xs recs book
room_fits origin cards serial number xs recs book h size asleep = record { recs_are = h.recs_are; fits = record { fits = h.fits; size = size; asleep = asleep }; placed = h.placed; acts = h.acts }

-- ---- lists by places

pub map_set_place : {A B : Type 0} (f : A → B) (xs : List A) (i : ℕ) (a : A) → map f (slice_set xs i a) ≡ slice_set (map f xs) i (f a)
map_set_place f [] i a = refl
map_set_place f (x ∷ xs) zero a = refl
map_set_place f (x ∷ xs) (suc i) a = ap (λ l. f x ∷ l) (map_set_place f xs i a)

with_log_none : (k : SubId) (log : List Marked) (js : List SubId) (ls : List (List Marked)) → is_member k js ≡ false → with_log k log js ls ≡ ls
with_log_none k log [] ls none = refl
with_log_none k log (j ∷ js) [] none = refl
with_log_none k log (j ∷ js) (l ∷ ls) none = by (nat_eq j.0 k.0) none (with_log_none k log js ls)
  where
    by : (b : Bool) → (b || is_member k js) ≡ false → (is_member k js ≡ false → with_log k log js ls ≡ ls) → cond b log l ∷ with_log k log js ls ≡ l ∷ ls
    by true e rest = absurd (let no : ⊥ = cc in no)
    by false e rest = ap (λ (ms : List (List Marked)). l ∷ ms) (rest e)

pub with_log_at : (js : List SubId) (ls : List (List Marked)) (i : ℕ) (k : SubId) (log : List Marked) → Distinct js → slice_get js i ≡ Some k → length js ≡ length ls → with_log k log js ls ≡ slice_set ls i log
with_log_at [] ls i k log d at size = absurd (cc)
with_log_at (j ∷ js) [] i k log d at size = absurd (omega (arith, size))
with_log_at (j ∷ js) (l ∷ ls) zero k log d at size =
    let e : j ≡ k = cc in
    let n : j.0 ≡ k.0 = ap (λ (x : SubId). x.0) e in
    let test : nat_eq j.0 k.0 ≡ true = grind (arith, nat_tests, n) in
    let none : is_member k js ≡ false = subst (λ (x : SubId). is_member x js ≡ false) e d.0 in
    ap (λ (z : Bool × List (List Marked)). cond z.0 log l ∷ z.1) (λ m. (test m, with_log_none k log js ls none m))
with_log_at (j ∷ js) (l ∷ ls) (suc i) k log d at size =
    ap (λ (z : Bool × List (List Marked)). cond z.0 log l ∷ z.1) (λ m. (later j js i k d.0 at m, with_log_at js ls i k log d.1 at (omega (arith, size)) m))

-- one more at the end
pub placed_more : (number cards : ℕ) (rs : List RecView) (s : RecView) → AllPlaced number cards rs → s.knows.place ≡ number → s.knows.sub < cards → AllPlaced number cards (rs ++ s ∷ [])
placed_more number cards [] s h place low zero r at = (let e : s ≡ r = cc in subst (λ (x : RecView). (x.knows.place ≡ number) × (x.knows.sub < cards)) e (place, low))
placed_more number cards [] s h place low (suc i) r at = absurd (let no : ⊥ = cc in no)
placed_more number cards (x ∷ rs) s h place low zero r at = h 0 r at
placed_more number cards (x ∷ rs) s h place low (suc i) r at = placed_more number cards rs s (λ j t. h (suc j) t) place low i r at

placed_set : (number cards : ℕ) (rs : List RecView) (i : ℕ) (r s : RecView) → AllPlaced number cards rs → slice_get rs i ≡ Some r → s.knows.place ≡ r.knows.place → s.knows.sub ≡ r.knows.sub → AllPlaced number cards (slice_set rs i s)
placed_set number cards rs i r s h at place sub k t there = by (nat_eq k i) refl
  where
    by : (b : Bool) → nat_eq k i ≡ b → (t.knows.place ≡ number) × (t.knows.sub < cards)
    by true e =
        let is : k ≡ i = grind (arith, nat_tests, e) in
        let same : s ≡ t = some_one s t (sym (get_set rs i s (slice_get_within rs i r at)) ∙ ap (slice_get (slice_set rs i s)) (sym is) ∙ there) in
        let was = h i r at in
        subst (λ (x : RecView). (x.knows.place ≡ number) × (x.knows.sub < cards)) same (place ∙ was.0, subst (λ (n : ℕ). n < cards) (sym sub) was.1)
    by false e =
        let other : k ≢ i = grind (arith, nat_tests, e) in
        h k t (sym (get_other rs i k s other) ∙ there)

pub acts_in_line : (book : List BookEntry) (x : SubId) → acts_in (book ++ In x ∷ []) ≡ acts_in book
acts_in_line [] x = refl
acts_in_line (In y ∷ book) x = acts_in_line book x
acts_in_line (Out y ∷ book) x = acts_in_line book x
acts_in_line (Act a ∷ book) x = ap (λ n. n + 1) (acts_in_line book x)

pub acts_out_line : (book : List BookEntry) (x : SubId) → acts_in (book ++ Out x ∷ []) ≡ acts_in book
acts_out_line [] x = refl
acts_out_line (In y ∷ book) x = acts_out_line book x
acts_out_line (Out y ∷ book) x = acts_out_line book x
acts_out_line (Act a ∷ book) x = ap (λ n. n + 1) (acts_out_line book x)

pub subs_more : (ms : List Member) (m : Member) → subs (ms ++ m ∷ []) ≡ subs ms ++ m.sub ∷ []
subs_more [] m = refl
subs_more (x ∷ ms) m = ap (λ l. x.sub ∷ l) (subs_more ms m)

-- ---- a link is told

-- What a link tells of the member x, whose stream this is, in the room of this number.
pub record LinkOn (x : SubId) (s : Stream) (number : ℕ) (l : Linked) : Type 0 where
  pub names : (l.first.0 ≡ x.0) ⊎ (l.second.0 ≡ x.0)
  pub reply_is : l.reply ≡ link_reply l.first.0 l.second.0 l.first_state l.second_state l.second_linked
  pub first_is : l.first.0 ≡ x.0 → l.first_state ≡ s.state
  pub second_is : l.second.0 ≡ x.0 → (l.second_state ≡ s.state) × (l.second_linked ≡ nat_le 16 number)

-- its log goes on with the link's entry
pub link_played : EntriesFollow → (origin : SubId → Stream) (number : ℕ) (book : List BookEntry) (x : SubId) (log : List Marked) (s : Stream) (l : Linked) (p : PassKnows) → LogFits origin number book x log s → LinkOn x s number l
    → PlaysLog x (start origin x) (log ++ link_marked l s.state (shown s s.at.hw) p ∷ []) (record { stream = s; room = number; since = joints_now x number book; due = due_link l.reply number })
link_played follow origin number book x log s l p fits on =
    let q : Replayed = record { stream = s; room = number; since = joints_now x number book; due = nothing } in
    let r : Replayed = record { stream = s; room = number; since = joints_now x number book; due = due_link l.reply number } in
    follow x (start origin x) log q (link_marked l s.state (shown s s.at.hw) p) r fits
    (record { names = on.names; reply_is = on.reply_is; first_is = on.first_is; second_is = on.second_is; none_due = refl; after = refl }) (refl, refl)

-- none follows a refusal, nor a link in a group's room

pub none_due : (r : Reply) (n : ℕ) → is_ok r ≡ false → due_link r n ≡ nothing
none_due r n h = ap (λ b. cond b (cond (nat_lt n 16) to_group nothing) nothing) h

pub none_due_in_group : (r : Reply) (n : ℕ) → 16 ≤ n → due_link r n ≡ nothing
none_due_in_group r n high =
    let test : nat_lt n 16 ≡ false = grind (arith, nat_tests, high) in by (is_ok r) (nat_lt n 16) test
  where
    by : (b t : Bool) → t ≡ false → cond b (cond t to_group nothing) nothing ≡ nothing
    by true t e = ap (λ (x : Bool). cond x to_group nothing) e
    by false t e = refl

-- the log of the rec at a place fits
pub log_before : LogOfMember → (origin : SubId → Stream) (cards serial number : ℕ) (xs : List Member) (recs : List RecView) (book : List BookEntry) (i : ℕ) (r : RecView) → Standing origin cards serial number xs recs book → slice_get recs i ≡ Some r
    → LogFits origin number book (sub_of r) r.knows.log (stream_of (sub_of r) xs)
log_before of_member origin cards serial number xs recs book i r stand at =
    let k : SubId = sub_of r in
    let number_is : slice_get (subs xs) i ≡ Some k = number_at (subs xs) recs i r k stand.recs_are at refl in
    let log_is : log_of k (subs xs) (logs_of recs) ≡ r.knows.log = log_at_place (subs xs) (logs_of recs) i k r.knows.log stand.fits.apart number_is (get_map (λ (x : RecView). x.knows.log) recs i r at) in
    subst (λ (z : List Marked). LogFits origin number book k z (stream_of k xs)) log_is (of_member origin number xs (logs_of recs) book k stand.fits (among (subs xs) i k number_is))

-- the room is as it was, but that the log of the rec r at a place goes on in s, and still fits
pub log_stays : OneLogChanges → (origin : SubId → Stream) (cards serial number : ℕ) (xs : List Member) (recs : List RecView) (book : List BookEntry) (i : ℕ) (r s : RecView) (more : List Marked) → Standing origin cards serial number xs recs book → slice_get recs i ≡ Some r → IsJoined r s more
    → LogFits origin number book (sub_of r) s.knows.log (stream_of (sub_of r) xs) → Standing origin cards serial number xs (slice_set recs i s) book
log_stays change origin cards serial number xs recs book i r s more stand at joined now =
    let k : SubId = sub_of r in
    let number_is : slice_get (subs xs) i ≡ Some k = number_at (subs xs) recs i r k stand.recs_are at refl in
    let sizes : length (subs xs) ≡ length (logs_of recs) = sym (ap length stand.recs_are) ∙ length_map sub_of recs ∙ sym (length_map (λ (x : RecView). x.knows.log) recs) in
    let logs_are : with_log k s.knows.log (subs xs) (logs_of recs) ≡ logs_of (slice_set recs i s) =
    with_log_at (subs xs) (logs_of recs) i k s.knows.log stand.fits.apart number_is sizes ∙ sym (map_set_place (λ (x : RecView). x.knows.log) recs i s) in
    record {
      recs_are = subs_set recs i r s at joined.sub ∙ stand.recs_are;
      fits = subst (λ (ls : List (List Marked)). BookFits origin number xs ls book) logs_are (change origin number xs (logs_of recs) book k s.knows.log stand.fits now);
      placed = placed_set number cards recs i r s stand.placed at joined.place joined.sub;
      acts = stand.acts;
    }

-- a link after which no move must follow leaves the room as it was, but for the entry of the rec r at a place, which is now s
pub link_stays : EntriesFollow → LogOfMember → OneLogChanges → (origin : SubId → Stream) (cards serial number : ℕ) (xs : List Member) (recs : List RecView) (book : List BookEntry) (i : ℕ) (r s : RecView) (l : Linked) (st : State) (h : ℕ) (p : PassKnows)
    → Standing origin cards serial number xs recs book → slice_get recs i ≡ Some r → IsJoined r s (link_marked l st h p ∷ []) → LinkOn (sub_of r) (stream_of (sub_of r) xs) number l
    → st ≡ (stream_of (sub_of r) xs).state → h ≡ shown (stream_of (sub_of r) xs) (stream_of (sub_of r) xs).at.hw → due_link l.reply number ≡ nothing
    → Standing origin cards serial number xs (slice_set recs i s) book
link_stays follow of_member change origin cards serial number xs recs book i r s l st h p stand at joined on st_is h_is no_move =
    let k : SubId = sub_of r in
    let t : Stream = stream_of k xs in
    let was : LogFits origin number book k r.knows.log t = log_before of_member origin cards serial number xs recs book i r stand at in
    let played = link_played follow origin number book k r.knows.log t l p was on in
    let new_log : r.knows.log ++ link_marked l t.state (shown t t.at.hw) p ∷ [] ≡ s.knows.log = ap (λ (z : State × ℕ). r.knows.log ++ link_marked l z.0 z.1 p ∷ []) (λ j. (sym st_is j, sym h_is j)) ∙ sym joined.log in
    let now : LogFits origin number book k s.knows.log t =
    subst (λ (z : List Marked). LogFits origin number book k z t) new_log
    (subst (λ d. PlaysLog k (start origin k) (r.knows.log ++ link_marked l t.state (shown t t.at.hw) p ∷ []) (record { stream = t; room = number; since = joints_now k number book; due = d })) no_move played) in
    log_stays change origin cards serial number xs recs book i r s (link_marked l st h p ∷ []) stand at joined now

-- ---- members that go out and come in

-- the only member has gone out
pub gone_out : GoingOut → (origin : SubId → Stream) (cards serial number : ℕ) (xs : List Member) (r : RecView) (book : List BookEntry) → Standing origin cards serial number xs (r ∷ []) book → Standing origin cards serial number [] [] (book ++ Out (sub_of r) ∷ [])
gone_out out origin cards serial number [] r book stand = absurd (let e = stand.recs_are in let no : ⊥ = cc in no)
gone_out out origin cards serial number (x ∷ y ∷ xs) r book stand = absurd (let e = stand.recs_are in let no : ⊥ = cc in no)
gone_out out origin cards serial number (m ∷ []) r book stand =
    let is : sub_of r ≡ m.sub = (let e = stand.recs_are in cc) in
    let same : nat_eq m.sub.0 m.sub.0 ≡ true = grind (arith, nat_tests) in
    let yes : is_member m.sub (subs (m ∷ [])) ≡ true = ap (λ (b : Bool). b || false) same in
    let went : BookFits origin number (without_member m.sub (m ∷ [])) (without_log m.sub (subs (m ∷ [])) (logs_of (r ∷ []))) (book ++ Out m.sub ∷ []) = out origin number (m ∷ []) (logs_of (r ∷ [])) book m.sub stand.fits yes in
    let nobody : without_member m.sub (m ∷ []) ≡ [] = ap (λ (b : Bool). cond b [] (m ∷ [])) same in
    let fits : BookFits origin number [] [] (book ++ Out m.sub ∷ []) = record { members = sym (ap subs nobody) ∙ went.members; apart = tt; is_book = went.is_book; each = tt } in
    record {
      recs_are = refl;
      fits = subst (λ (k : SubId). BookFits origin number [] [] (book ++ Out k ∷ [])) (sym is) fits;
      placed = λ i s at. absurd (let no : ⊥ = cc in no);
      acts = stand.acts ∙ sym (acts_out_line book (sub_of r));
    }

pub nobody_left : GoingOut → (origin : SubId → Stream) (cards serial number : ℕ) (xs : List Member) (r : RecView) (book : List BookEntry) → Standing origin cards serial number xs (r ∷ []) book → FitsIn origin cards serial number [] [] (book ++ Out (sub_of r) ∷ [])
nobody_left out origin cards serial number xs r book stand = room_fits origin cards serial number [] [] (book ++ Out (sub_of r) ∷ []) (gone_out out origin cards serial number xs r book stand) (none_right number) tt

-- a member has come in, and the wake check is made
pub come_in : ComingIn → SameStreamsFit → WakesKeep → (origin : SubId → Stream) (cards serial number : ℕ) (xs : List Member) (recs : List RecView) (book : List BookEntry) (m : Member) (r s : RecView) (q : Replayed) (p : Page) (cause : Receipt)
    → Standing origin cards serial number xs recs book → sub_of r ≡ m.sub → is_member m.sub (subs xs) ≡ false → PlaysLog m.sub (start origin m.sub) r.knows.log q → q.stream ≡ m.stream → MayMove m.sub.0 q.due q.room number
    → IsPageIn p m.stream → HasMoved r s number p cause → r.knows.sub < cards → Standing origin cards serial number (wake (xs ++ m ∷ [])) (recs ++ s ∷ []) (book ++ In m.sub ∷ [])
come_in coming same keep origin cards serial number xs recs book m r s q p cause stand is none plays stream may page moved low =
    let zs : List Member = xs ++ m ∷ [] in
    let came = coming origin number xs (logs_of recs) book m r.knows.log q (moved_to number p cause).mark stand.fits none plays stream may (page.state, page.hw) in
    let logs_are : logs_of recs ++ (r.knows.log ++ moved_to number p cause ∷ []) ∷ [] ≡ logs_of (recs ++ s ∷ []) =
    ap (λ (l : List Marked). logs_of recs ++ l ∷ []) (sym moved.log) ∙ sym (map-append (λ (x : RecView). x.knows.log) recs (s ∷ [])) in
    let kept = keep zs in
    let fits = subst (λ (ls : List (List Marked)). BookFits origin number zs ls (book ++ In m.sub ∷ [])) logs_are came in
    let sub_is : sub_of s ≡ m.sub = ap (λ (n : ℕ). let k : SubId = record { 0 = n } in k) moved.sub ∙ is in
    record {
      recs_are = map-append sub_of recs (s ∷ []) ∙ ap (λ (z : List SubId × SubId). z.0 ++ z.1 ∷ []) (λ i. (stand.recs_are i, sub_is i)) ∙ sym (subs_more xs m) ∙ sym kept.0;
      fits = same origin number zs (wake zs) (logs_of (recs ++ s ∷ [])) (book ++ In m.sub ∷ []) kept.0 kept.1 fits;
      placed = placed_more number cards recs s stand.placed moved.place (subst (λ (n : ℕ). n < cards) (sym moved.sub) low);
      acts = stand.acts ∙ sym (acts_in_line book m.sub);
    }

-- a wake check alone
pub wake_standing : SameStreamsFit → WakesKeep → (origin : SubId → Stream) (cards serial number : ℕ) (xs : List Member) (recs : List RecView) (book : List BookEntry) → Standing origin cards serial number xs recs book → Standing origin cards serial number (wake xs) recs book
wake_standing same keep origin cards serial number xs recs book stand =
    let kept = keep xs in
    record {
      recs_are = stand.recs_are ∙ sym kept.0;
      fits = same origin number xs (wake xs) (logs_of recs) book kept.0 kept.1 stand.fits;
      placed = stand.placed;
      acts = stand.acts;
    }

-- after a wake check who is left asleep may wait
distinct_before : (g : Bool) (xs : List Member) → AllHaveDistinctClients (wake_members g xs) → AllHaveDistinctClients xs
distinct_before g [] h = tt
distinct_before g (x ∷ xs) h = (h.0, distinct_before g xs h.1)

pub asleep_wait : WakeLeavesWaiting → (xs : List Member) → AllHaveDistinctClients (wake xs) → EachMayWait (group_drains (wake xs)) (wake xs)
asleep_wait law xs h = law xs (distinct_before (group_drains xs) xs h)
