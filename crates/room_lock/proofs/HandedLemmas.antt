-- The own entry of an event plays from what its log came to before, its event being lent the bytes that its step was.
use Rattle.std.proofs.Common.{◌≡◌, ◌⊎◌, inl, inr, ℕ, suc, ◌+◌, ◌≤◌, Bool, true, false, nat_lt, nat_le, List, [], ◌∷◌, ◌++◌, length, map, refl, sym, ap, ◌∙◌, subst, arith}
use Rattle.std.specs.Prelude.{MatchBool}
use Rattle.std.proofs.lemmas.Bool.Decides.{nat_tests}
use Rattle.pcm_base.specs.declared.call.Event.{Event}
use Rattle.pcm_base.specs.declared.ids.SubId.{SubId}
use Rattle.pcm_base.specs.declared.votes.Acted.{Acted}
use Rattle.pcm_base.specs.model.Acts.{subs}
use Rattle.pcm_base.specs.model.Events.{program}
use Rattle.pcm_base.specs.model.Group.{stream_of}
use Rattle.pcm_base.specs.model.Replay.{Distinct, IsLent, Part, Plays, PlaysOwn, is_link, is_member, part_of, parts_of, reading_length}
use Rattle.pcm_base.specs.model.Stream.{Member, Stream}
use Rattle.pcm_laws.specs.Steps.{MarksLeaveStreams, RunsDecompose}
use Rattle.floor_rule.specs.declared.entry.Joint.{Joint}
use Rattle.room_book.specs.Laws.{step_of}
use Rattle.room_book.specs.Logs.{AllIn, OwnStep, Replayed, client_of, due_own, nothing, part}
use Rattle.room_book.specs.Rooms.{IsOwnOrNone, RightSize, joints_of}
use Rattle.room_lock.specs.Turning.{bytes_in}

-- ---- its joints

all_here : (x : SubId) (room n : ℕ) (js : List SubId) (acts : List Acted) → AllIn room (joints_of x room n js acts)
all_here x room n js [] = tt
all_here x room n js (a ∷ acts) = (refl, all_here x room (n + 1) js acts)

parts_are : (x : SubId) (room n : ℕ) (js : List SubId) (acts : List Acted) → map part (joints_of x room n js acts) ≡ parts_of x js acts
parts_are x room n js [] = refl
parts_are x room n js (a ∷ acts) = ap (λ (l : List Part). part_of x js a ∷ l) (parts_are x room (n + 1) js acts)

-- ---- the size of the room says whether its group is linked

linked_by_size : (number : ℕ) (js : List SubId) → RightSize number js → 1 ≤ length js → nat_lt 1 (length js) ≡ nat_le 16 number
linked_by_size number js size some = by (nat_lt number 16) refl size
  where
    at_home : (is : List SubId) → IsOwnOrNone number is → length is ≤ 1
    at_home [] h = omega arith
    at_home (i ∷ []) h = omega arith
    at_home (i ∷ k ∷ is) h = absurd h

    by : (b : Bool) → nat_lt number 16 ≡ b → MatchBool b (IsOwnOrNone number js) ((length js ≡ 0) ⊎ (2 ≤ length js)) → nat_lt 1 (length js) ≡ nat_le 16 number
    by true f h = let few = at_home js h in grind (arith, nat_tests, f, few, some)
    by false f (inl h) = absurd (omega (arith, h, some))
    by false f (inr h) = grind (arith, nat_tests, f, h)

some_member : (k : SubId) (js : List SubId) → is_member k js ≡ true → 1 ≤ length js
some_member k [] h = absurd (cc)
some_member k (j ∷ js) h = omega arith

subs_length : (xs : List Member) → length (subs xs) ≡ length xs
subs_length [] = refl
subs_length (x ∷ xs) = ap suc (subs_length xs)

-- ---- the step

-- what the log of the event's substream comes to before it
abbrev pub now_at : Event → List Member → ℕ → List Joint → Replayed
now_at e xs number got = record { stream = stream_of e.sub xs; room = number; since = got; due = nothing }

abbrev pub then_at : Event → List ℕ → List Member → ℕ → List Joint → Replayed
then_at e io xs number got = record { stream = stream_of e.sub (step_of e io xs).members; room = number; since = got; due = nothing }

module _ (runs : RunsDecompose) (marks : MarksLeaveStreams) (number count : ℕ) (e : Event) (io : List ℕ) (xs : List Member) (apart : Distinct (subs xs)) (member : is_member e.sub (subs xs) ≡ true) (size : RightSize number (subs xs))
    (no_link : is_link e.call ≡ false) (lent : IsLent (reading_length e.call (client_of e.client) (stream_of e.sub xs)) count (length io)) (n : ℕ) (joints : List Joint) (joints_is : joints ≡ joints_of e.sub number n (subs xs) (step_of e io xs).acts) where
  linked : nat_lt 1 (length xs) ≡ nat_le 16 number
  linked = subst (λ (k : ℕ). nat_lt 1 k ≡ nat_le 16 number) (subs_length xs) (linked_by_size number (subs xs) size (some_member e.sub (subs xs) member))

  parts : parts_of e.sub (subs xs) (step_of e io xs).acts ≡ map part joints
  parts = sym (parts_are e.sub number n (subs xs) (step_of e io xs).acts) ∙ ap (map part) (sym joints_is)

  own_plays : (own : PlaysOwn e.sub e.call (client_of e.client) (nat_le 16 number) count (bytes_in e io xs) (map part joints) (step_of e io xs).answer.reply (stream_of e.sub xs) (stream_of e.sub (step_of e io xs).members)) × (own.io ≡ io)
  own_plays =
      let c = client_of e.client in
      let s : Stream = stream_of e.sub xs in (
        record {
          io = io;
          answer = (step_of e io xs).answer;
          handed = lent;
          no_link = no_link;
          plays = subst (λ (z : (Bool × List Part) × Stream). Plays e.sub (program e.call c z.0.0 io s) z.0.1 (step_of e io xs).answer z.1)
              (λ i. ((linked i, parts i), sym (marks e.call c e.sub io xs e.sub) i)) (runs (program e.call c (nat_lt 1 (length xs)) io s) e.sub xs apart member).own;
          says = refl;
          moved = refl;
        },
        refl,
      )

  pub own_step : (got : List Joint) → due_own e.call (step_of e io xs).answer.reply ≡ nothing
      → (step : OwnStep e.sub (now_at e xs number got) e (bytes_in e io xs) joints (step_of e io xs).answer.reply (stream_of e.sub (step_of e io xs).members).state count (then_at e io xs number (got ++ joints))) × (step.plays.io ≡ io)
  own_step got none_due = (
    record {
      own = refl;
      plays = own_plays.0;
      here = subst (AllIn number) (sym joints_is) (all_here e.sub number n (subs xs) (step_of e io xs).acts);
      state_is = refl;
      none_due = refl;
      room = refl;
      since = refl;
      due = sym none_due;
    },
    own_plays.1,
  )
