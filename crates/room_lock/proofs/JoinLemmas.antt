-- A lone substream joins the group of another room: what fits there.
use Rattle.std.proofs.Common.{◌≡◌, ◌⊎◌, inr, ◌≤◌, ◌<◌, ℕ, Bool, true, false, nat_eq, nat_le, nat_lt, List, [], ◌∷◌, ◌++◌, length, slice_get, Some, length-append, refl, sym, ap, ◌∙◌, subst, arith}
use Rattle.std.specs.Prelude.{MatchBool, not}
use Rattle.std.proofs.lemmas.Bool.Decides.{nat_tests}
use Rattle.std.proofs.lemmas.Option.{slice_get_within}
use Rattle.pcm_base.specs.declared.call.CallKind.TheVariants as kind
use Rattle.pcm_base.specs.declared.ids.SubId.{SubId}
use Rattle.pcm_base.specs.declared.reply.Page.{Page}
use Rattle.pcm_base.specs.declared.state.Dir.TheVariants as dir
use Rattle.pcm_base.specs.declared.state.Errno.{Errno}
use Rattle.pcm_base.specs.declared.state.Errno.TheVariants as errno
use Rattle.std.specs.declared.option.Option.{Option}
use Rattle.std.specs.declared.option.Option.TheVariants.{None}
use Rattle.pcm_base.specs.declared.state.State.{State}
use Rattle.pcm_base.specs.model.Acts.{subs}
use Rattle.pcm_base.specs.model.Group.{stream_of}
use Rattle.pcm_base.specs.model.Permit.{permit}
use Rattle.pcm_base.specs.model.Replay.{is_member}
use Rattle.pcm_base.specs.model.Sleep.{group_drains, sleepers_that, wake}
use Rattle.pcm_base.specs.model.Stream.{Member, Stream}
use Rattle.pcm_base.specs.model.Words.{when, ◌then◌, is_closed, same_state}
use Rattle.pcm_laws.specs.Waiting.{AllHaveDistinctClients, WakeLeavesWaiting}
use Rattle.floor_rule.specs.declared.rule.PassKnows.{PassKnows}
use Rattle.room_book.specs.Laws.{ComingIn, EntriesFollow, LogOfMember, OneLogChanges, SameStreamsFit, WakesKeep}
use Rattle.room_book.specs.Logs.{answered, is_ok, link_reply}
use Rattle.room_book.specs.Rooms.{IsOwnOrNone, LogFits, RightSize}
use Rattle.room_book.specs.declared.book.BookEntry.{BookEntry}
use Rattle.room_book.specs.declared.book.BookEntry.TheVariants.{In}
use Rattle.room_parts.specs.Recs.{RecView, sub_of}
use Rattle.room_parts.specs.declared.calling.Linked.{Linked}
use Rattle.room_lock.specs.declared.recording.Receipt.{Receipt}
use Rattle.room_lock.specs.InGroup.{IsPageIn}
use Rattle.room_lock.specs.InRoom.{FitsIn}
use Rattle.room_lock.specs.Linked.{IsToldAt}
use Rattle.room_lock.proofs.LinkLemmas.{LinkOn, Standing, asleep_wait, come_in, none_due_in_group, room_fits, standing_of, subs_more, wake_standing}
use Rattle.room_lock.proofs.MeetLemmas.{Leaves, moves_on, only_stream}
use Rattle.room_lock.proofs.Records.{number_at}
use Rattle.room_lock.proofs.ToldLemmas.{told_stays}

-- a link of one that is in a group is refused

some_refusal : (o : Option Errno) → is_ok (answered (o then when true errno.Ealready)) ≡ false
some_refusal (Some e) = refl
some_refusal None = refl

pub then_refused : (o p : Option Errno) → is_ok (answered p) ≡ false → is_ok (answered (o then p)) ≡ false
then_refused (Some e) p h = refl
then_refused None p h = h

pub linked_refused : (first second : ℕ) (s t : State) → is_ok (link_reply first second s t true) ≡ false
linked_refused first second s t =
    let last = some_refusal (when (not (same_state t s)) errno.Ebadfd) in
    let table = then_refused (permit kind.Link s dir.Playback) (when (not (same_state t s)) errno.Ebadfd then when true errno.Ealready) last in
    let same = then_refused (when (nat_eq second first) errno.Einval) (permit kind.Link s dir.Playback then (when (not (same_state t s)) errno.Ebadfd then when true errno.Ealready)) table in
    let closed = then_refused (when (is_closed t) errno.Enxio) (when (nat_eq second first) errno.Einval then (permit kind.Link s dir.Playback then (when (not (same_state t s)) errno.Ebadfd then when true errno.Ealready))) same in
    then_refused (when (is_closed s) errno.Enxio) (when (is_closed t) errno.Enxio then (when (nat_eq second first) errno.Einval then (permit kind.Link s dir.Playback then (when (not (same_state t s)) errno.Ebadfd then when true errno.Ealready)))) closed

-- so the second of a link that was answered Ok stands alone
pub linked_alone : (l : Linked) (number : ℕ) → l.reply ≡ link_reply l.first.0 l.second.0 l.first_state l.second_state (nat_le 16 number) → is_ok l.reply ≡ true → number < 16
linked_alone l number is ok = by (nat_le 16 number) refl
  where
    by : (b : Bool) → nat_le 16 number ≡ b → number < 16
    by true e =
        let no : is_ok l.reply ≡ false = ap is_ok (is ∙ ap (link_reply l.first.0 l.second.0 l.first_state l.second_state) e) ∙ linked_refused l.first.0 l.second.0 l.first_state l.second_state in absurd (cc)
    by false e = grind (arith, nat_tests, e)

-- one more in a group's room
pub more_fit : (number : ℕ) (js : List SubId) (j : SubId) → 16 ≤ number → 0 < length js → RightSize number (js ++ j ∷ [])
more_fit number js j high some =
    let test : nat_lt number 16 ≡ false = grind (arith, nat_tests, high) in
    let size = length-append js (j ∷ []) in
    subst (λ (b : Bool). MatchBool b (IsOwnOrNone number (js ++ j ∷ [])) ((length (js ++ j ∷ []) ≡ 0) ⊎ (2 ≤ length (js ++ j ∷ [])))) (sym test) (inr (omega (arith, size, some)))

pub join_fits : EntriesFollow → LogOfMember → OneLogChanges → ComingIn → SameStreamsFit → WakesKeep → WakeLeavesWaiting → (origin : SubId → Stream) (cards s1 n1 s2 n2 : ℕ) (xs ys : List Member) (b1 b2 : List BookEntry) (rs now : List RecView) (i : ℕ) (k : SubId) (q1 q2 q3 : RecView) (l : Linked) (one two : Page) (p : PassKnows) (cause : Receipt)
    → FitsIn origin cards s1 n1 xs rs b1 → IsToldAt i k l one xs rs now p → LinkOn k (stream_of k xs) n1 l → Leaves origin cards s2 n2 n1 ys b2 q1 q2 q3 l two.state two p cause → is_ok l.reply ≡ true → 16 ≤ n1 → is_member (sub_of q1) (subs xs) ≡ false
    → AllHaveDistinctClients (wake (wake xs ++ wake ys)) → FitsIn origin cards s1 n1 (wake (wake xs ++ wake ys)) (now ++ q3 ∷ []) (b1 ++ In (sub_of q1) ∷ [])
join_fits follow of_member change coming same keep law origin cards s1 n1 s2 n2 xs [] b1 b2 rs now i k q1 q2 q3 l one two p cause a t on b ok high none clients = absurd (let e = b.fits.recs_are in let no : ⊥ = cc in no)
join_fits follow of_member change coming same keep law origin cards s1 n1 s2 n2 xs (y ∷ z ∷ ys) b1 b2 rs now i k q1 q2 q3 l one two p cause a t on b ok high none clients = absurd (let e = b.fits.recs_are in let no : ⊥ = cc in no)
join_fits follow of_member change coming same keep law origin cards s1 n1 s2 n2 xs (y ∷ []) b1 b2 rs now i k q1 q2 q3 l one two p cause a t on b ok high none clients =
    let is : sub_of q1 ≡ y.sub = (let e = b.fits.recs_are in cc) in
    let stream : stream_of (sub_of q1) (y ∷ []) ≡ y.stream = only_stream (sub_of q1) y is in
    let on' : LinkOn y.sub y.stream n2 l = subst (λ (w : SubId × Stream). LinkOn w.0 w.1 n2 l) (λ m. (is m, stream m)) b.on in
    let shows : IsPageIn two y.stream = subst (λ (w : Stream). IsPageIn two w) stream b.shows in
    let fit : LogFits origin n2 b2 y.sub q1.knows.log y.stream = subst (λ (w : Stream). LogFits origin n2 b2 y.sub q1.knows.log w) (only_stream y.sub y refl) b.fits.fits.fits.each.0 in
    let go = moves_on follow origin n2 n1 b2 y q1 q2 l two.state two.hw p fit b.joined on' shows.state shows.hw ok b.low high in
    let sub2 : sub_of q2 ≡ y.sub = ap (λ (n : ℕ). let x : SubId = record { 0 = n } in x) b.joined.sub ∙ is in
    let low : q2.knows.sub < cards = subst (λ (n : ℕ). n < cards) (sym b.joined.sub) (b.fits.placed 0 q1 refl).1 in
    let told : Standing origin cards s1 n1 xs now b1 = told_stays i k l one xs rs now p t follow of_member change origin cards s1 n1 b1 (standing_of origin cards s1 n1 xs rs b1 a) on (none_due_in_group l.reply n1 high) in
    let woken : Standing origin cards s1 n1 (wake xs) now b1 = wake_standing same keep origin cards s1 n1 xs now b1 told in
    let subs_kept : subs (wake xs) ≡ subs xs = (keep xs).0 in
    let new : is_member y.sub (subs (wake xs)) ≡ false = ap (λ (w : SubId × List SubId). is_member w.0 w.1) (λ m. (sym is m, subs_kept m)) ∙ none in
    let v : Member = record y { asleep = sleepers_that true (group_drains (y ∷ [])) y.stream y.asleep y.stream.sleepers } in
    let came : Standing origin cards s1 n1 (wake (wake xs ++ v ∷ [])) (now ++ q3 ∷ []) (b1 ++ In y.sub ∷ []) =
    come_in coming same keep origin cards s1 n1 (wake xs) now b1 v q2 q3 go.0 two cause woken sub2 new go.1 go.2 go.3 shows b.moved low in
    let number_is : slice_get (subs xs) i ≡ Some k = number_at (subs xs) rs i t.before k a.recs_are t.at t.sub in
    let some : 0 < length (subs xs) = (let lt = slice_get_within (subs xs) i k number_is in omega (arith, lt)) in
    let subs_are : subs (wake (wake xs ++ v ∷ [])) ≡ subs xs ++ y.sub ∷ [] = (keep (wake xs ++ v ∷ [])).0 ∙ subs_more (wake xs) v ∙ ap (λ (w : List SubId). w ++ y.sub ∷ []) subs_kept in
    let size : RightSize n1 (subs (wake (wake xs ++ v ∷ []))) = subst (RightSize n1) (sym subs_are) (more_fit n1 (subs xs) y.sub high some) in
    subst (λ (w : SubId). FitsIn origin cards s1 n1 (wake (wake xs ++ wake (y ∷ []))) (now ++ q3 ∷ []) (b1 ++ In w ∷ [])) (sym is)
    (room_fits origin cards s1 n1 (wake (wake xs ++ v ∷ [])) (now ++ q3 ∷ []) (b1 ++ In y.sub ∷ []) came size (asleep_wait law (wake xs ++ v ∷ []) clients))
