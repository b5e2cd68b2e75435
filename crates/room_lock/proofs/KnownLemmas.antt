-- Rooms whose recs know what others do: what holds of the one holds of the other.
use Rattle.std.proofs.Common.{◌≡◌, inl, inr, ◌≤◌, ℕ, Bool, true, false, List, [], ◌∷◌, ◌++◌, length, slice_get, Some, refl, sym, ap, ◌∙◌, subst, arith}
use Rattle.std.specs.Prelude.{MatchBool}
use Rattle.std.proofs.lemmas.Option.{slice_get_within}
use Rattle.card_emul.specs.declared.any_card.AnyCard.{AnyCard}
use Rattle.card_emul.specs.contracts.any_card.AnyCardCard.TheImpl.{ghosts}
use Rattle.pcm_base.specs.declared.call.Event.{Event}
use Rattle.pcm_base.specs.declared.config.CardModel.{CardModel}
use Rattle.pcm_base.specs.declared.ids.SubId.{SubId}
use Rattle.pcm_base.specs.declared.reply.Reply.{Reply}
use Rattle.pcm_base.specs.declared.state.Dir.{Dir}
use Rattle.pcm_base.specs.model.Group.{stream_of}
use Rattle.pcm_base.specs.model.Stream.{Member as ModelMember, Stream}
use Rattle.pcm_stream.specs.MembersStand.{AllStandFor}
use Rattle.pcm_stream.specs.declared.members.Member.{Member}
use Rattle.floor_rule.specs.declared.rule.Marked.{Marked}
use Rattle.floor_rule.specs.declared.rule.PassKnows.{PassKnows}
use Rattle.room_book.specs.Logs.{is_ok}
use Rattle.room_book.specs.Rooms.{log_of, with_log}
use Rattle.room_book.specs.declared.book.BookEntry.{BookEntry}
use Rattle.room_book.specs.declared.book.BookEntry.TheVariants.{In, Out}
use Rattle.room_parts.specs.Passes.{PassView}
use Rattle.room_parts.specs.Recs.{RecView}
use Rattle.room_parts.specs.declared.calling.Linked.{Linked}
use Rattle.room_lock.specs.declared.answer.Answer.{Answer}
use Rattle.room_lock.specs.Answers.{OnDone, OnFull, OnMemory, log_in}
use Rattle.room_lock.specs.InRoom.{FitsIn, InRoom, IsIn, RoomView}
use Rattle.room_lock.specs.Joining.{HasJoined, IsJoining, StayApart, logs_linked}
use Rattle.room_lock.specs.Known.{Knows as HasKnown}
use Rattle.room_lock.specs.Met.{HaveMet, IsMeeting, StayAlone, with_link, with_move}
use Rattle.room_lock.specs.Ready.{ShortTo, knows_of}
use Rattle.room_lock.specs.Refused.{AreRefused, IsRefused}
use Rattle.room_lock.specs.Staying.{IsLinkRefused, IsUnlinkRefused, unlink_marked, unlink_reply}
use Rattle.room_lock.proofs.RoomLemmas.{full_of, memory_of, on_all}
use Rattle.room_lock.proofs.TurnLemmas.{on_done}
use Rattle.room_lock.specs.Recorded.{AllHaveRoom}
use Rattle.room_lock.proofs.ReadyLemmas.{fits_known, known_at, logs_known, subs_known}

-- the room that is known to fit
pub room_in : (origin : SubId → Stream) (cards serial : ℕ) (v : RoomView) (xs : List ModelMember) → IsIn origin cards serial v xs → InRoom origin cards serial v
room_in origin cards serial v xs h = record { streams = xs; stand = h.stand; fits_in = h.fits_in }

pub in_room : (origin : SubId → Stream) (cards serial : ℕ) (v : RoomView) (h : InRoom origin cards serial v) → IsIn origin cards serial v h.streams
in_room origin cards serial v h = record { stand = h.stand; fits_in = h.fits_in }

-- What a room has that knows what v does.
pub record Knows (s s' : ℕ) (v v' : RoomView) : Type 0 where
  pub serial : s' ≡ s
  pub number : v'.number ≡ v.number
  pub members : v'.members ≡ v.members
  pub recs : knows_of v'.recs ≡ knows_of v.recs
  pub book : v'.book ≡ v.book

pub in_known : (origin : SubId → Stream) (cards s s' : ℕ) (v v' : RoomView) (xs : List ModelMember) → Knows s s' v v' → IsIn origin cards s v xs → IsIn origin cards s' v' xs
in_known origin cards s s' v v' xs k h = record {
  stand = subst (λ (ms : List (Member AnyCard ghosts)). AllStandFor ms xs) (sym k.members) h.stand;
  fits_in = subst (λ (z : ℕ × ℕ × List BookEntry). FitsIn origin cards z.0 z.1 xs v'.recs z.2) (λ i. (sym k.serial i, sym k.number i, sym k.book i)) (fits_known origin cards s v.number xs v.recs v'.recs v.book k.recs h.fits_in);
}

pub log_in_known : (j : SubId) (rs ts : List RecView) → knows_of ts ≡ knows_of rs → log_in j ts ≡ log_in j rs
log_in_known j rs ts h = ap (λ (z : List SubId × List (List Marked)). log_of j z.0 z.1) (λ i. (subs_known rs ts h i, logs_known rs ts h i))

-- room for three entries more
pub room_known : (rs ts : List RecView) → knows_of ts ≡ knows_of rs → ShortTo (length rs) rs → ((i : ℕ) (r : RecView) → slice_get ts i ≡ Some r → 3 ≤ r.spare) → AllHaveRoom ts
room_known rs ts h short spare i r at =
    let old = known_at rs ts i r h at in
    let few = short i old.0 (slice_get_within rs i old.0 old.1) old.1 in
    let size = ap (λ k. length k.log) old.2 in
    (spare i r at, omega (arith, few, size))

-- the meeting of two whose rooms know what v and w do
pub meeting_known : (s1 s1' s2 s2' : ℕ) (l : Linked) (p : PassKnows) (v v2 v' w w2 w' u u2 u' : RoomView) (xs ys : List ModelMember) (reply : Reply) (mask : ℕ) → Knows s1 s1' v v2 → Knows s2 s2' w w2 → u2 ≡ u
    → IsMeeting l p v2 v' w2 w' u2 u' xs ys reply mask → IsMeeting l p v v' w w' u u' xs ys reply mask
meeting_known s1 s1' s2 s2' l p v v2 v' w w2 w' u u2 u' xs ys reply mask kv kw same h = record {
  reply_is = h.reply_is;
  rooms = by (is_ok reply) h.rooms;
  woken = h.woken;
}
  where
    first : log_in l.first v2.recs ≡ log_in l.first v.recs
    first = log_in_known l.first v.recs v2.recs kv.recs

    second : log_in l.second w2.recs ≡ log_in l.second w.recs
    second = log_in_known l.second w.recs w2.recs kw.recs

    by : (b : Bool) → MatchBool b (HaveMet l p v2 v' w2 w' u2 u' (stream_of l.first xs) (stream_of l.second ys)) (StayAlone l p v2 v' w2 w' u2 u' (stream_of l.first xs) (stream_of l.second ys))
        → MatchBool b (HaveMet l p v v' w w' u u' (stream_of l.first xs) (stream_of l.second ys)) (StayAlone l p v v' w w' u u' (stream_of l.first xs) (stream_of l.second ys))
    by true m = record {
      logs = m.logs ∙ ap (λ (z : List Marked × List Marked × ℕ). with_move z.0 l (stream_of l.first xs) p z.2 (length z.0) ∷ with_move z.1 l (stream_of l.second ys) p z.2 (length z.0) ∷ []) (λ i. (first i, second i, (same i).number));
      first_book = m.first_book ∙ ap (λ (b : List BookEntry). b ++ Out l.first ∷ []) kv.book;
      second_book = m.second_book ∙ ap (λ (b : List BookEntry). b ++ Out l.second ∷ []) kw.book;
      group_book = m.group_book ∙ ap (λ (r : RoomView). r.book ++ In l.first ∷ In l.second ∷ []) same;
    }
    by false m = record {
      first_log = m.first_log ∙ ap (λ (z : List Marked). with_link z l (stream_of l.first xs) p ∷ []) first;
      second_log = m.second_log ∙ ap (λ (z : List Marked). with_link z l (stream_of l.second ys) p ∷ []) second;
      books = (m.books.0 ∙ kv.book, m.books.1 ∙ kw.book);
      same = m.same ∙ same;
    }

-- recs that know nothing
pub none_known : (rs ts : List RecView) → knows_of ts ≡ knows_of rs → rs ≡ [] → ts ≡ []
none_known [] [] h e = refl
none_known (r ∷ rs) [] h e = refl
none_known [] (t ∷ ts) h e = absurd (let no : ⊥ = cc in no)
none_known (r ∷ rs) (t ∷ ts) h e = absurd (let no : ⊥ = cc in no)

-- the same of a link of members of two rooms

pub logs_linked_known : (k : SubId) (l : Linked) (xs : List ModelMember) (p : PassKnows) (rs ts : List RecView) → knows_of ts ≡ knows_of rs → logs_linked k l xs p ts ≡ logs_linked k l xs p rs
logs_linked_known k l xs p rs ts h =
    ap (λ (z : List Marked × List SubId × List (List Marked)). with_log k (with_link z.0 l (stream_of k xs) p) z.1 z.2) (λ i. (log_in_known k rs ts h i, subs_known rs ts h i, logs_known rs ts h i))

pub joining_known : (s1 s1' s2 s2' : ℕ) (l : Linked) (p : PassKnows) (v v2 v' w w2 w' : RoomView) (xs ys : List ModelMember) (reply : Reply) (mask : ℕ) → Knows s1 s1' v v2 → Knows s2 s2' w w2
    → IsJoining l p v2 v' w2 w' xs ys reply mask → IsJoining l p v v' w w' xs ys reply mask
joining_known s1 s1' s2 s2' l p v v2 v' w w2 w' xs ys reply mask kv kw h = record {
  reply_is = h.reply_is;
  rooms = by (is_ok reply) h.rooms;
  woken = h.woken;
}
  where
    by : (b : Bool) → MatchBool b (HasJoined l p v2 v' w2 w' xs ys) (StayApart l p v2 v' w2 w' xs ys) → MatchBool b (HasJoined l p v v' w w' xs ys) (StayApart l p v v' w w' xs ys)
    by true m = record {
      logs = m.logs
          ∙ ap (λ (z : List (List Marked) × List Marked × ℕ × List Marked). z.0 ++ with_move z.1 l (stream_of l.second ys) p z.2 (length z.3) ∷ [])
          (λ i. (logs_linked_known l.first l xs p v.recs v2.recs kv.recs i, log_in_known l.second w.recs w2.recs kw.recs i, kv.number i, log_in_known l.first v.recs v2.recs kv.recs i));
      first_book = m.first_book ∙ ap (λ (b : List BookEntry). b ++ In l.second ∷ []) kv.book;
      second_book = m.second_book ∙ ap (λ (b : List BookEntry). b ++ Out l.second ∷ []) kw.book;
    }
    by false m = record {
      first_logs = m.first_logs ∙ logs_linked_known l.first l xs p v.recs v2.recs kv.recs;
      second_logs = m.second_logs ∙ logs_linked_known l.second l ys p w.recs w2.recs kw.recs;
      books = (m.books.0 ∙ kv.book, m.books.1 ∙ kw.book);
    }

-- ---- whose pass it is

abbrev SameCaller : PassView → PassView → Type 0
SameCaller p q = (q.caller ≡ p.caller) × (q.knows.number ≡ p.knows.number)

both_refused_by : (old now old2 now2 : List RecView) (p q : PassView) (sub : SubId) (count : ℕ) → AreRefused old now old2 now2 p q sub count → SameCaller p q
both_refused_by old now old2 now2 p q sub count h = elim h [ inl x ↦ (x.1.calls.3, x.1.calls.0) | inr x ↦ (x.1.1.calls.3, x.1.1.calls.0) ]

pub caller_of_two : (a : Answer) (cs : List (CardModel × Dir)) (long_max : ℕ) (e : Event) (count : ℕ) (p q : PassView) (old now old2 now2 : List RecView) (A B : Type 0) → OnDone a (λ reply receipt woken. HasKnown cs long_max e count reply receipt p q) → OnFull a (λ sub count. AreRefused old now old2 now2 p q sub count)
    → OnMemory a (A × B × (q ≡ p)) → (q.caller ≡ p.caller) × (q.knows.number ≡ p.knows.number)
caller_of_two a cs long_max e count p q old now old2 now2 A B done full memory =
    on_all a (SameCaller p q)
    (on_done a (λ reply receipt woken. HasKnown cs long_max e count reply receipt p q) (λ reply receipt woken. SameCaller p q) (λ reply receipt woken k. (k.same.0, k.same.1)) done)
    (full_of a (λ sub count. AreRefused old now old2 now2 p q sub count) (λ sub count. SameCaller p q) (λ sub count h. both_refused_by old now old2 now2 p q sub count h) full)
    (memory_of a (A × B × (q ≡ p)) (SameCaller p q) (λ m. (ap (λ (x : PassView). x.caller) m.2, ap (λ (x : PassView). x.knows.number) m.2)) memory)

pub caller_of_one : (a : Answer) (cs : List (CardModel × Dir)) (long_max : ℕ) (e : Event) (count : ℕ) (p q : PassView) (old now : List RecView) (A B : Type 0) → OnDone a (λ reply receipt woken. HasKnown cs long_max e count reply receipt p q) → OnFull a (λ sub count. (k : ℕ) × IsRefused k old now p q sub count)
    → OnMemory a (A × B × (q ≡ p)) → (q.caller ≡ p.caller) × (q.knows.number ≡ p.knows.number)
caller_of_one a cs long_max e count p q old now A B done full memory =
    on_all a (SameCaller p q)
    (on_done a (λ reply receipt woken. HasKnown cs long_max e count reply receipt p q) (λ reply receipt woken. SameCaller p q) (λ reply receipt woken k. (k.same.0, k.same.1)) done)
    (full_of a (λ sub count. (k : ℕ) × IsRefused k old now p q sub count) (λ sub count. SameCaller p q) (λ sub count h. (h.1.calls.3, h.1.calls.0)) full)
    (memory_of a (A × B × (q ≡ p)) (SameCaller p q) (λ m. (ap (λ (x : PassView). x.caller) m.2, ap (λ (x : PassView). x.knows.number) m.2)) memory)

-- ---- calls that move nobody

pub link_refused_known : (s s' : ℕ) (l : Linked) (p : PassKnows) (v v2 v' : RoomView) (xs : List ModelMember) (reply : Reply) (mask : ℕ) → Knows s s' v v2 → IsLinkRefused l p v2 v' xs reply mask → IsLinkRefused l p v v' xs reply mask
link_refused_known s s' l p v v2 v' xs reply mask k h = record {
  reply_is = h.reply_is;
  logs = h.logs ∙ logs_linked_known l.first l xs p v.recs v2.recs k.recs;
  book = h.book ∙ k.book;
  woken = h.woken;
}

pub unlink_refused_known : (s s' : ℕ) (e : Event) (p : PassKnows) (v v2 v' : RoomView) (xs : List ModelMember) (reply : Reply) (mask : ℕ) → Knows s s' v v2 → IsUnlinkRefused e p v2 v' xs reply mask → IsUnlinkRefused e p v v' xs reply mask
unlink_refused_known s s' e p v v2 v' xs reply mask k h = record {
  reply_is = h.reply_is ∙ ap (λ (n : ℕ). unlink_reply (stream_of e.sub xs).state n) k.number;
  logs = h.logs ∙ ap (λ (l : List Marked). (l ++ unlink_marked e reply (stream_of e.sub xs) p ∷ []) ∷ []) (log_in_known e.sub v.recs v2.recs k.recs);
  book = h.book ∙ k.book;
  woken = h.woken;
}
