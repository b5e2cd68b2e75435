-- Two that stand alone are linked: what fits in the three rooms.
use Rattle.std.proofs.Common.{◌≡◌, ◌≢◌, ◌⊎◌, inr, ◌≤◌, ◌<◌, ℕ, Bool, true, false, cond, nat_eq, nat_lt, List, [], ◌∷◌, ◌++◌, length, append_assoc, refl, sym, ap, ◌∙◌, subst, arith}
use Rattle.std.specs.Prelude.{◌||◌, MatchBool}
use Rattle.std.proofs.lemmas.Bool.Decides.{nat_tests}
use Rattle.pcm_base.specs.declared.ids.SubId.{SubId}
use Rattle.pcm_base.specs.declared.reply.Page.{Page}
use Rattle.pcm_base.specs.declared.reply.Reply.{Reply}
use Rattle.pcm_base.specs.declared.state.State.{State}
use Rattle.pcm_base.specs.model.Group.{stream_of}
use Rattle.pcm_base.specs.model.Replay.{is_member}
use Rattle.pcm_base.specs.model.Sleep.{group_drains, sleepers_that, wake}
use Rattle.pcm_base.specs.model.Stream.{Member, Stream, shown}
use Rattle.pcm_laws.specs.Waiting.{AllHaveDistinctClients, WakeLeavesWaiting}
use Rattle.floor_rule.specs.declared.rule.Marked.{Marked}
use Rattle.floor_rule.specs.declared.rule.PassKnows.{PassKnows}
use Rattle.room_book.specs.Laws.{ComingIn, EntriesFollow, LogOfMember, OneLogChanges, SameStreamsFit, WakesKeep}
use Rattle.room_book.specs.Logs.{Due, MayMove, PlaysLog, Replayed, due_link, is_ok, nothing, to_group}
use Rattle.room_book.specs.Rooms.{IsOwnOrNone, LogFits, RightSize, joints_now, start}
use Rattle.room_book.specs.declared.book.BookEntry.{BookEntry}
use Rattle.room_book.specs.declared.book.BookEntry.TheVariants.{In}
use Rattle.room_parts.specs.Recs.{RecView, sub_of}
use Rattle.room_parts.specs.declared.calling.Linked.{Linked}
use Rattle.room_lock.specs.declared.recording.Receipt.{Receipt}
use Rattle.room_lock.specs.InGroup.{IsPageIn}
use Rattle.room_lock.specs.InRoom.{FitsIn}
use Rattle.room_lock.specs.Joined.{IsJoined}
use Rattle.room_lock.specs.Linked.{HasMoved, link_marked}
use Rattle.room_lock.proofs.LinkLemmas.{LinkOn, Standing, asleep_wait, come_in, link_played, link_stays, none_due, room_fits, standing_of}

-- the link was refused: the room of one is as it was, but for the entry
pub lone_told : EntriesFollow → LogOfMember → OneLogChanges → (origin : SubId → Stream) (cards serial number : ℕ) (xs : List Member) (book : List BookEntry) (r s : RecView) (l : Linked) (st : State) (h : ℕ) (p : PassKnows)
    → FitsIn origin cards serial number xs (r ∷ []) book → IsJoined r s (link_marked l st h p ∷ []) → LinkOn (sub_of r) (stream_of (sub_of r) xs) number l
    → st ≡ (stream_of (sub_of r) xs).state → h ≡ shown (stream_of (sub_of r) xs) (stream_of (sub_of r) xs).at.hw → is_ok l.reply ≡ false → FitsIn origin cards serial number xs (s ∷ []) book
lone_told follow of_member change origin cards serial number xs book r s l st h p fits joined on st_is h_is not_ok =
    room_fits origin cards serial number xs (s ∷ []) book
    (link_stays follow of_member change origin cards serial number xs (r ∷ []) book 0 r s l st h p (standing_of origin cards serial number xs (r ∷ []) book fits) refl joined on st_is h_is (none_due l.reply number not_ok)) fits.fits.size fits.fits.asleep

-- ---- the log of one that moves

pub only_stream : (k : SubId) (m : Member) → k ≡ m.sub → stream_of k (m ∷ []) ≡ m.stream
only_stream k m e =
    let n : m.sub.0 ≡ k.0 = ap (λ (x : SubId). x.0) (sym e) in
    let test : nat_eq m.sub.0 k.0 ≡ true = grind (arith, nat_tests, n) in
    ap (λ (b : Bool). cond b m.stream (stream_of k [])) test

due_group : (r : Reply) (n : ℕ) → is_ok r ≡ true → n < 16 → due_link r n ≡ to_group
due_group r n ok low =
    let test : nat_lt n 16 ≡ true = grind (arith, nat_tests, low) in
    ap (λ (z : Bool × Bool). cond z.0 (cond z.1 to_group nothing) nothing) (λ i. (ok i, test i))

-- The log of a member that stands alone, with the link that was answered Ok, leads to its stream, and may go on with a move to a group's room.
abbrev pub Moves : (SubId → Stream) → SubId → List Marked → ℕ → Stream → Type 0
Moves origin k log to s = (q : Replayed) × PlaysLog k (start origin k) log q × (q.stream ≡ s) × MayMove k.0 q.due q.room to

pub moves_on : EntriesFollow → (origin : SubId → Stream) (number to : ℕ) (book : List BookEntry) (m : Member) (r s : RecView) (l : Linked) (st : State) (h : ℕ) (p : PassKnows) → LogFits origin number book m.sub r.knows.log m.stream
    → IsJoined r s (link_marked l st h p ∷ []) → LinkOn m.sub m.stream number l → st ≡ m.stream.state → h ≡ shown m.stream m.stream.at.hw → is_ok l.reply ≡ true → number < 16 → 16 ≤ to → Moves origin m.sub s.knows.log to m.stream
moves_on follow origin number to book m r s l st h p fits joined on st_is h_is ok low high =
    let t : Stream = m.stream in
    let q : Replayed = record { stream = t; room = number; since = joints_now m.sub number book; due = due_link l.reply number } in
    let played = link_played follow origin number book m.sub r.knows.log t l p fits on in
    let log_is : r.knows.log ++ link_marked l t.state (shown t t.at.hw) p ∷ [] ≡ s.knows.log = ap (λ (z : State × ℕ). r.knows.log ++ link_marked l z.0 z.1 p ∷ []) (λ j. (sym st_is j, sym h_is j)) ∙ sym joined.log in
    (q, subst (λ (z : List Marked). PlaysLog m.sub (start origin m.sub) z q) log_is played, refl, subst (λ (d : Due). MayMove m.sub.0 d number to) (sym (due_group l.reply number ok low)) high)

two_fit : (number : ℕ) (j k : SubId) → 16 ≤ number → RightSize number (j ∷ k ∷ [])
two_fit number j k high =
    let test : nat_lt number 16 ≡ false = grind (arith, nat_tests, high) in
    subst (λ (b : Bool). MatchBool b (IsOwnOrNone number (j ∷ k ∷ [])) ((length (j ∷ k ∷ []) ≡ 0) ⊎ (2 ≤ length (j ∷ k ∷ [])))) (sym test) (inr (omega arith))

one_apart : (j k : SubId) → j.0 ≢ k.0 → is_member k (j ∷ []) ≡ false
one_apart j k ne = let test : nat_eq j.0 k.0 ≡ false = grind (arith, nat_tests, ne) in ap (λ (b : Bool). b || false) test

-- What is known of one that moves: it stands alone, the link is told in its log, and its rec is then in the other room.
pub record Leaves (origin : SubId → Stream) (cards serial number to : ℕ) (xs : List Member) (book : List BookEntry) (r s t : RecView) (l : Linked) (st : State) (page : Page) (p : PassKnows) (cause : Receipt) : Type 0 where
  pub fits : FitsIn origin cards serial number xs (r ∷ []) book
  pub joined : IsJoined r s (link_marked l st page.hw p ∷ [])
  pub on : LinkOn (sub_of r) (stream_of (sub_of r) xs) number l
  pub shows : IsPageIn page (stream_of (sub_of r) xs)
  pub state : st ≡ page.state
  pub moved : HasMoved s t to page cause
  pub low : number < 16

pub meet_fits : EntriesFollow → ComingIn → SameStreamsFit → WakesKeep → WakeLeavesWaiting → (origin : SubId → Stream) (cards s1 n1 s2 n2 s3 n3 : ℕ) (xs ys : List Member) (b1 b2 b3 : List BookEntry) (r1 r2 r3 q1 q2 q3 : RecView) (l : Linked) (st1 st2 : State) (one two : Page) (p : PassKnows) (cause : Receipt)
    → Leaves origin cards s1 n1 n3 xs b1 r1 r2 r3 l st1 one p cause → Leaves origin cards s2 n2 n3 ys b2 q1 q2 q3 l st2 two p cause → FitsIn origin cards s3 n3 [] [] b3 → is_ok l.reply ≡ true → 16 ≤ n3 → r1.knows.sub ≢ q1.knows.sub
    → AllHaveDistinctClients (wake (wake xs ++ wake ys)) → FitsIn origin cards s3 n3 (wake (wake xs ++ wake ys)) (r3 ∷ q3 ∷ []) (b3 ++ In (sub_of r1) ∷ In (sub_of q1) ∷ [])
meet_fits follow coming same keep law origin cards s1 n1 s2 n2 s3 n3 [] ys b1 b2 b3 r1 r2 r3 q1 q2 q3 l st1 st2 one two p cause a b c ok high ne clients = absurd (let e = a.fits.recs_are in let no : ⊥ = cc in no)
meet_fits follow coming same keep law origin cards s1 n1 s2 n2 s3 n3 (m ∷ n ∷ xs) ys b1 b2 b3 r1 r2 r3 q1 q2 q3 l st1 st2 one two p cause a b c ok high ne clients = absurd (let e = a.fits.recs_are in let no : ⊥ = cc in no)
meet_fits follow coming same keep law origin cards s1 n1 s2 n2 s3 n3 (m ∷ []) [] b1 b2 b3 r1 r2 r3 q1 q2 q3 l st1 st2 one two p cause a b c ok high ne clients = absurd (let e = b.fits.recs_are in let no : ⊥ = cc in no)
meet_fits follow coming same keep law origin cards s1 n1 s2 n2 s3 n3 (m ∷ []) (y ∷ z ∷ ys) b1 b2 b3 r1 r2 r3 q1 q2 q3 l st1 st2 one two p cause a b c ok high ne clients = absurd (let e = b.fits.recs_are in let no : ⊥ = cc in no)
meet_fits follow coming same keep law origin cards s1 n1 s2 n2 s3 n3 (m ∷ []) (y ∷ []) b1 b2 b3 r1 r2 r3 q1 q2 q3 l st1 st2 one two p cause a b c ok high ne clients =
    let is : sub_of r1 ≡ m.sub = (let e = a.fits.recs_are in cc) in
    let is' : sub_of q1 ≡ y.sub = (let e = b.fits.recs_are in cc) in
    let stream : stream_of (sub_of r1) (m ∷ []) ≡ m.stream = only_stream (sub_of r1) m is in
    let stream' : stream_of (sub_of q1) (y ∷ []) ≡ y.stream = only_stream (sub_of q1) y is' in
    let on : LinkOn m.sub m.stream n1 l = subst (λ (w : SubId × Stream). LinkOn w.0 w.1 n1 l) (λ i. (is i, stream i)) a.on in
    let on' : LinkOn y.sub y.stream n2 l = subst (λ (w : SubId × Stream). LinkOn w.0 w.1 n2 l) (λ i. (is' i, stream' i)) b.on in
    let shows : IsPageIn one m.stream = subst (λ (w : Stream). IsPageIn one w) stream a.shows in
    let shows' : IsPageIn two y.stream = subst (λ (w : Stream). IsPageIn two w) stream' b.shows in
    let fit : LogFits origin n1 b1 m.sub r1.knows.log m.stream = subst (λ (w : Stream). LogFits origin n1 b1 m.sub r1.knows.log w) (only_stream m.sub m refl) a.fits.fits.fits.each.0 in
    let fit' : LogFits origin n2 b2 y.sub q1.knows.log y.stream = subst (λ (w : Stream). LogFits origin n2 b2 y.sub q1.knows.log w) (only_stream y.sub y refl) b.fits.fits.fits.each.0 in
    let go = moves_on follow origin n1 n3 b1 m r1 r2 l st1 one.hw p fit a.joined on (a.state ∙ shows.state) shows.hw ok a.low high in
    let go' = moves_on follow origin n2 n3 b2 y q1 q2 l st2 two.hw p fit' b.joined on' (b.state ∙ shows'.state) shows'.hw ok b.low high in
    let sub2 : sub_of r2 ≡ m.sub = ap (λ (n : ℕ). let k : SubId = record { 0 = n } in k) a.joined.sub ∙ is in
    let sub2' : sub_of q2 ≡ y.sub = ap (λ (n : ℕ). let k : SubId = record { 0 = n } in k) b.joined.sub ∙ is' in
    let low : r2.knows.sub < cards = subst (λ (n : ℕ). n < cards) (sym a.joined.sub) (a.fits.placed 0 r1 refl).1 in
    let low' : q2.knows.sub < cards = subst (λ (n : ℕ). n < cards) (sym b.joined.sub) (b.fits.placed 0 q1 refl).1 in
    let apart : m.sub.0 ≢ y.sub.0 = (λ e. ne (ap (λ (k : SubId). k.0) is ∙ e ∙ sym (ap (λ (k : SubId). k.0) is'))) in
    let first : Standing origin cards s3 n3 (wake (m ∷ [])) (r3 ∷ []) (b3 ++ In m.sub ∷ []) =
    come_in coming same keep origin cards s3 n3 [] [] b3 m r2 r3 go.0 one cause (standing_of origin cards s3 n3 [] [] b3 c) sub2 refl go.1 go.2 go.3 shows a.moved low in
    let v : Member = record y { asleep = sleepers_that true (group_drains (y ∷ [])) y.stream y.asleep y.stream.sleepers } in
    let second : Standing origin cards s3 n3 (wake (wake (m ∷ []) ++ v ∷ [])) (r3 ∷ q3 ∷ []) ((b3 ++ In m.sub ∷ []) ++ In y.sub ∷ []) =
    come_in coming same keep origin cards s3 n3 (wake (m ∷ [])) (r3 ∷ []) (b3 ++ In m.sub ∷ []) v q2 q3 go'.0 two cause first sub2' (one_apart m.sub y.sub apart) go'.1 go'.2 go'.3 shows' b.moved low' in
    let book_is : (b3 ++ In m.sub ∷ []) ++ In y.sub ∷ [] ≡ b3 ++ In (sub_of r1) ∷ In (sub_of q1) ∷ [] = append_assoc b3 (In m.sub ∷ []) (In y.sub ∷ []) ∙ ap (λ (w : SubId × SubId). b3 ++ In w.0 ∷ In w.1 ∷ []) (λ i. (sym is i, sym is' i)) in
    subst (λ (book : List BookEntry). FitsIn origin cards s3 n3 (wake (wake (m ∷ []) ++ wake (y ∷ []))) (r3 ∷ q3 ∷ []) book) book_is
    (room_fits origin cards s3 n3 (wake (wake (m ∷ []) ++ v ∷ [])) (r3 ∷ q3 ∷ []) ((b3 ++ In m.sub ∷ []) ++ In y.sub ∷ []) second (two_fit n3 m.sub y.sub high) (asleep_wait law (wake (m ∷ []) ++ v ∷ []) clients))
