-- The step of a room's group, and what it moved.
use Rattle.std.proofs.Common.{◌≡◌, ◌≢◌, ℕ, zero, suc, ◌+◌, ◌/◌, ◌%◌, ◌<◌, ◌≤◌, Bool, true, false, cond, nat_eq, List, [], ◌∷◌, ◌++◌, length, take, drop, slice_get, refl, sym, ap, subst, ◌∙◌, arith}
use Rattle.std.specs.Prelude.{IfSome}
use Rattle.std.specs.declared.option.Option.{Option}
use Rattle.std.specs.declared.option.Option.TheVariants.{Some, None}
use Rattle.card_emul.specs.declared.any_card.AnyCard.{AnyCard}
use Rattle.card_emul.specs.contracts.any_card.AnyCardCard.TheImpl.{ghosts}
use Rattle.pcm_base.specs.declared.call.Call.{Call}
use Rattle.pcm_base.specs.declared.call.Call.TheVariants as call
use Rattle.pcm_base.specs.declared.call.Event.{Event}
use Rattle.pcm_base.specs.declared.call.Layout.{Layout}
use Rattle.pcm_base.specs.declared.config.Shape.{Shape}
use Rattle.pcm_base.specs.declared.ids.ClientId.{ClientId}
use Rattle.pcm_base.specs.declared.ids.SubId.{SubId}
use Rattle.pcm_base.specs.declared.reply.Reply.{Reply}
use Rattle.pcm_base.specs.declared.sleeper.Task.{Task}
use Rattle.pcm_base.specs.model.Acts.{subs}
use Rattle.pcm_base.specs.model.Events.{waiting_of}
use Rattle.pcm_base.specs.model.Frame.{bytes_of}
use Rattle.pcm_base.specs.model.Group.{stream_of}
use Rattle.pcm_base.specs.model.Movement.{move}
use Rattle.pcm_base.specs.model.Replay.{Distinct, IsLent, is_member, layout_of, reading_length}
use Rattle.pcm_base.specs.model.Stream.{Stream, Waiting, Member as ModelMember}
use Rattle.pcm_laws.specs.Steps.{MarksLeaveStreams}
use Rattle.pcm_stream.specs.declared.members.Member.{Member}
use Rattle.pcm_stream.specs.Members.{numbers_of}
use Rattle.pcm_stream.specs.MembersStand.{AllStandFor, CallsFit, TaskFits}
use Rattle.pcm_group.specs.Turn.{frames_moved}
use Rattle.pcm_group.specs.declared.turn.Turn.{Turn}
use Rattle.room_book.specs.Laws.{step_of}
use Rattle.room_book.specs.Logs.{client_of}
use Rattle.room_parts.specs.Recs.{RecView, sub_of, subs_of}
use Rattle.room_lock.specs.GroupStep.{IsGroupStep}
use Rattle.room_lock.specs.Shaped.{HasShape}
use Rattle.room_lock.specs.Told.{is_movement, is_transfer, told_bytes}
use Rattle.room_lock.specs.Turning.{bytes_in}
use Rattle.room_lock.proofs.HandedWalk.{step_hands, step_sizes}
use Rattle.room_lock.proofs.MakeLemmas.{tail_is, tail_most, within_is}
use Rattle.room_lock.proofs.MemberLemmas.{stands_at}
use Rattle.room_lock.proofs.MovedWalk.{step_moves}
use Rattle.room_lock.proofs.Records.{length_map}
use Rattle.room_lock.proofs.TransferLemmas.{told_is}

-- ---- places

pub place_in : (ms : List (Member AnyCard ghosts)) (rs : List RecView) (own : ℕ) → subs_of rs ≡ numbers_of ms → own < length rs → own < length ms
place_in ms rs own h lt =
    let a = length_map sub_of rs in
    let b = length_map (λ (m : Member AnyCard ghosts). m.sub) ms in
    let e = ap length h in
    omega (arith, a, b, e, lt)

pub if_some : {A : Type 0} (o : Option A) (P : A → Type 0) → ((a : A) → o ≡ Some a → P a) → IfSome o P
if_some None P h = tt
if_some (Some a) P h = h a refl

pub one_member : (ms : List (Member AnyCard ghosts)) (i : ℕ) → i < length ms → (m : Member AnyCard ghosts) × (slice_get ms i ≡ Some m)
one_member [] i lt = absurd (let no : ⊥ = omega (arith, lt) in no)
one_member (m ∷ ms) zero lt = (m, refl)
one_member (m ∷ ms) (suc i) lt = one_member ms i (omega (arith, lt))

-- ---- calls in progress fit their stream

calls-fit : (s : Stream) (c : ClientId) (ps : List Waiting) (t : Task) → CallsFit s ps → waiting_of c ps ≡ Some t → TaskFits s t
calls-fit s c [] t h e = absurd (let no : ⊥ = cc in no)
calls-fit s c (p ∷ ps) t h e = by (nat_eq p.client.0 c.0) e (calls-fit s c ps t h.1)
  where
    by : (b : Bool) → cond b (Some p.task) (waiting_of c ps) ≡ Some t → (waiting_of c ps ≡ Some t → TaskFits s t) → TaskFits s t
    by true f r = (let is : p.task ≡ t = cc in subst (TaskFits s) is h.0)
    by false f r = r f

pub task_fits : (ms : List (Member AnyCard ghosts)) (xs : List ModelMember) (own : ℕ) (k : SubId) (c : ClientId) → Distinct (numbers_of ms) → AllStandFor ms xs → own < length ms → slice_get (numbers_of ms) own ≡ Some k
    → (t : Task) → waiting_of c (stream_of k xs).sleepers ≡ Some t → TaskFits (stream_of k xs) t
task_fits ms xs own k c d st lt is t e =
    let m = one_member ms own lt in
    let at = stands_at ms xs own m.0 k d st m.1 is in
    subst (λ (s : Stream). TaskFits s t) at.stream (calls-fit at.one.stream c at.one.stream.sleepers t at.stands.member.fit (ap (λ (s : Stream). waiting_of c s.sleepers) at.stream ∙ e))

-- ---- what the step moved

moved_transfer : (e : Call) (n : ℕ) → is_transfer e ≡ true → frames_moved e n ≡ n
moved_transfer (call.MoveBy k) n h = absurd (let no : ⊥ = cc in no)
moved_transfer call.Give n h = absurd (let no : ⊥ = cc in no)
moved_transfer _ n h = refl

pub fits_bytes : (e : Event) (xs : List ModelMember) (o : Option Shape) (count : ℕ) (io out : List ℕ) (turn : Turn) (ms : List (Member AnyCard ghosts)) → IsGroupStep e io out xs turn ms → HasShape (stream_of e.sub xs) o
    → IsLent (reading_length e.call (client_of e.client) (stream_of e.sub xs)) count (length io) → is_transfer e.call ≡ true → turn.moved ≢ 0 → (h : Shape) → o ≡ Some h
    → (length out % h.frame_bytes ≡ 0) × (turn.first + turn.moved ≤ length out / h.frame_bytes)
fits_bytes e xs o count io out turn ms made sh lent t ne h is =
    let c = client_of e.client in
    let s : Stream = stream_of e.sub xs in
    let a = (step_of e io xs).answer in
    let moved : turn.moved ≡ length a.frames = made.turn_is.moved ∙ moved_transfer e.call (length a.frames) t in
    let some : length a.frames ≢ 0 = (λ z. ne (moved ∙ z)) in
    let two = within_is e.call c s h count io a (sh.sized h is) (step_moves e.call c e.sub io xs) (step_sizes e.call c e.sub io xs) lent t some in
    let size = made.left.size in
    let first = made.turn_is.first in
    let same : length io / h.frame_bytes ≡ length out / h.frame_bytes = ap (λ (n : ℕ). n / h.frame_bytes) (sym size) in
    let b = two.1 in
    (ap (λ (n : ℕ). n % h.frame_bytes) size ∙ two.0, omega (arith, b, first, moved, same))

pub bytes_made : (e : Event) (xs : List ModelMember) (l : Layout) (o : Option Shape) (count : ℕ) (io out tail : List ℕ) (turn : Turn) (ms : List (Member AnyCard ghosts)) → IsGroupStep e io out xs turn ms → HasShape (stream_of e.sub xs) o
    → l ≡ layout_of e.call (client_of e.client) (stream_of e.sub xs) → IsLent (reading_length e.call (client_of e.client) (stream_of e.sub xs)) count (length io)
    → ((t : Task) → waiting_of (client_of e.client) (stream_of e.sub xs).sleepers ≡ Some t → TaskFits (stream_of e.sub xs) t) → (is_movement e.call ≡ true → tail ≡ bytes_of (step_of e io xs).answer.frames)
    → told_bytes e.call l o turn.reply turn.first turn.moved out tail ≡ bytes_in e io xs
bytes_made e xs l o count io out tail turn ms made sh lay lent fit ta =
    let c = client_of e.client in
    let s : Stream = stream_of e.sub xs in
    let a = (step_of e io xs).answer in
    ap (λ (z : Layout × Reply × ℕ × ℕ). told_bytes e.call z.0 o z.1 z.2 z.3 out tail) (λ i. (lay i, made.turn_is.reply i, made.turn_is.first i, made.turn_is.moved i))
    ∙ told_is e.call c s o count io out tail a sh (step_moves e.call c e.sub io xs) (step_sizes e.call c e.sub io xs) (step_hands e.call c e.sub io xs) lent fit made.left ta

-- what the card has taken, by what it had taken before and has now
pub tail_made : MarksLeaveStreams → (e : Event) (io : List ℕ) (xs : List ModelMember) (taken most : ℕ) (now : List ℕ) → is_member e.sub (subs xs) ≡ true → taken ≡ length (bytes_of (stream_of e.sub xs).card.taken)
    → now ≡ bytes_of (stream_of e.sub (step_of e io xs).members).card.taken → ((n : ℕ) → e.call ≡ call.MoveBy n → length (bytes_of (move n (stream_of e.sub xs)).frames) ≤ most)
    → is_movement e.call ≡ true → (drop taken now ≡ bytes_of (step_of e io xs).answer.frames) × (length (drop taken now) ≤ most)
tail_made law e io xs taken most now there before after room t =
    let is = tail_is law e.call (client_of e.client) e.sub io xs taken now there before after t in
    let few = tail_most law e.call (client_of e.client) e.sub io xs most there room t in
    let size = ap length is in
    (is, omega (arith, few, size))

pub take-front : (n : ℕ) (xs ys : List ℕ) → length xs ≡ n → take n (xs ++ ys) ≡ xs
take-front zero [] ys e = refl
take-front zero (x ∷ xs) ys e = absurd (let no : ⊥ = omega (arith, e) in no)
take-front (suc n) [] ys e = absurd (let no : ⊥ = omega (arith, e) in no)
take-front (suc n) (x ∷ xs) ys e = ap (λ (zs : List ℕ). x ∷ zs) (take-front n xs ys (omega (arith, e)))

pub drop-front : (n : ℕ) (xs ys : List ℕ) → length xs ≡ n → drop n (xs ++ ys) ≡ ys
drop-front zero [] ys e = refl
drop-front zero (x ∷ xs) ys e = absurd (let no : ⊥ = omega (arith, e) in no)
drop-front (suc n) [] ys e = absurd (let no : ⊥ = omega (arith, e) in no)
drop-front (suc n) (x ∷ xs) ys e = drop-front n xs ys (omega (arith, e))
