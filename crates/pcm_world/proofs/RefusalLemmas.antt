-- Links that are refused, and what is known where none is.
use Rattle.std.proofs.Common.{◌≡◌, inl, inr, Bool, true, false, cond, not, nat_eq, List, [], ◌∷◌, length, Option, Some, None, Ok, Err, refl, sym, ap, ◌∙◌, arith}
use Rattle.std.specs.Prelude.{nat_lt}
use Rattle.std.proofs.lemmas.Bool.Decides.{nat_tests}
use Rattle.pcm_base.specs.declared.card.Card.{Ghosts}
use Rattle.pcm_base.specs.declared.call.CallKind.TheVariants as kind
use Rattle.pcm_base.specs.declared.ids.SubId.{SubId}
use Rattle.pcm_base.specs.declared.reply.Reply.TheVariants as reply
use Rattle.pcm_base.specs.declared.state.Errno.{Errno}
use Rattle.pcm_base.specs.declared.state.Errno.TheVariants as errno
use Rattle.pcm_base.specs.model.Acts.{table}
use Rattle.pcm_base.specs.model.Group.{stream_of}
use Rattle.pcm_base.specs.model.Replay.{is_member}
use Rattle.pcm_base.specs.model.Stream.{Member as ModelMember}
use Rattle.pcm_base.specs.model.Words.{is_closed, same_state, when, ◌then◌}
use Rattle.pcm_base.specs.model.World.{Told, World, group_of, holds, is_linked, link, link_refusal, state_in, stays, stream_in}
use Rattle.state_table.specs.Cases.{answer_of}
use Rattle.pcm_stream.specs.Members.{numbers_of}
use Rattle.pcm_group.specs.declared.group.Group.{Group}
use Rattle.pcm_group.specs.Inside.{members_in}
use Rattle.pcm_world.specs.Answered.{link_event}
use Rattle.pcm_world.specs.Groups.{GroupsStand, numbers_at, numbers_in}
use Rattle.pcm_world.proofs.GroupLemmas.{holds_as, lengths}
use Rattle.pcm_world.proofs.LinkLemmas.{numbers-length}
use Rattle.pcm_world.proofs.WorldLemmas.{undeclared_or_held}

pub refused-by : (o : Option Errno) (e : Errno) → answer_of o ≡ Err e → o ≡ Some e
refused-by None e h = absurd (let no : ⊥ = cc in no)
refused-by (Some d) e h = let same : d ≡ e = cc in ap Some same

pub granted-by : (o : Option Errno) (u : Unit {0}) → answer_of o ≡ Ok u → o ≡ None
granted-by None u h = refl
granted-by (Some d) u h = absurd (let no : ⊥ = cc in no)

pub link-refused : (k j : SubId) (w : World) (e : Errno) → link_refusal k j w ≡ Some e → link_event k j w ≡ stays (reply.Err e) (Some (state_in k w)) w
link-refused k j w e h = ap (λ (o : Option Errno). elim o as (λ _. Told) [ Some r ↦ stays (reply.Err r) (Some (state_in k w)) w | None ↦ link k j w ]) h

pub link-granted : (k j : SubId) (w : World) → link_refusal k j w ≡ None → link_event k j w ≡ link k j w
link-granted k j w h = ap (λ (o : Option Errno). elim o as (λ _. Told) [ Some r ↦ stays (reply.Err r) (Some (state_in k w)) w | None ↦ link k j w ]) h

pub record IsGranted (k j : SubId) (w : World) : Type 0 where
  pub open_now : is_closed (state_in j w) ≡ false
  pub other : nat_eq j.0 k.0 ≡ false
  pub alone : is_linked j w ≡ false

pub is-granted : (k j : SubId) (w : World) → link_refusal k j w ≡ None → IsGranted k j w
is-granted k j w h = by (is_closed (state_in j w)) (nat_eq j.0 k.0) (table kind.Link (stream_in k w)) (same_state (state_in j w) (state_in k w)) (is_linked j w) refl refl refl h
  where
    by : (a b : Bool) (t : Option Errno) (d e : Bool) → is_closed (state_in j w) ≡ a → nat_eq j.0 k.0 ≡ b → is_linked j w ≡ e
        → (when a errno.Enxio then (when b errno.Einval then (t then (when (not d) errno.Ebadfd then when e errno.Ealready)))) ≡ None → IsGranted k j w
    by true b t d e p q r f = absurd (let no : ⊥ = cc in no)
    by false true t d e p q r f = absurd (let no : ⊥ = cc in no)
    by false false (Some x) d e p q r f = absurd (let no : ⊥ = cc in no)
    by false false None false e p q r f = absurd (let no : ⊥ = cc in no)
    by false false None true true p q r f = absurd (let no : ⊥ = cc in no)
    by false false None true false p q r f = record { open_now = p; other = q; alone = r }

-- an open substream is declared
pub open-held : (k : SubId) (xs : List (List ModelMember)) → is_closed (stream_of k (group_of k xs)).state ≡ false → holds k (group_of k xs) ≡ true
open-held k xs h = elim (undeclared_or_held k xs) [
  | inr held ↦ held
  | inl none ↦ absurd (let closed : is_closed (stream_of k (group_of k xs)).state ≡ true = ap (λ (l : List ModelMember). is_closed (stream_of k l).state) none in let two : true ≡ false = sym closed ∙ h in let no : ⊥ = cc in no)
]

-- the numbers of its group
pub record AreNumbersOf {C : Type 0} {g : Ghosts C} (k : SubId) (gs : List (Group C g)) (xs : List (List ModelMember)) : Type 0 where
  pub held : is_member k (numbers_at k (numbers_in gs)) ≡ holds k (group_of k xs)
  pub count : length (numbers_at k (numbers_in gs)) ≡ length (group_of k xs)

pub numbers-of : {C : Type 0} {g : Ghosts C} (k : SubId) (gs : List (Group C g)) (xs : List (List ModelMember)) → GroupsStand gs xs → AreNumbersOf k gs xs
numbers-of k [] [] h = record { held = refl; count = refl }
numbers-of k [] (ms ∷ xs) h = absurd h
numbers-of k (y ∷ gs) [] h = absurd h
numbers-of {C = C} {g = g} k (y ∷ gs) (ms ∷ xs) h = by (is_member k (numbers_of (members_in y))) refl (numbers-of k gs xs h.1)
  where
    held : holds k ms ≡ is_member k (numbers_of (members_in y))
    held = holds_as k (members_in y) ms h.0

    by : (b : Bool) → is_member k (numbers_of (members_in y)) ≡ b → AreNumbersOf k gs xs → AreNumbersOf k (y ∷ gs) (ms ∷ xs)
    by true t r = record {
      held = ap (λ (b : Bool). is_member k (cond b (numbers_of (members_in y)) (numbers_at k (numbers_in gs)))) t ∙ sym held ∙ sym (ap (λ (b : Bool). holds k (cond b ms (group_of k xs))) (held ∙ t));
      count = ap (λ (b : Bool). length (cond b (numbers_of (members_in y)) (numbers_at k (numbers_in gs)))) t ∙ numbers-length (members_in y) ∙ lengths (members_in y) ms h.0 ∙ sym (ap (λ (b : Bool). length (cond b ms (group_of k xs))) (held ∙ t));
    }
    by false t r = record {
      held = ap (λ (b : Bool). is_member k (cond b (numbers_of (members_in y)) (numbers_at k (numbers_in gs)))) t ∙ r.held ∙ sym (ap (λ (b : Bool). holds k (cond b ms (group_of k xs))) (held ∙ t));
      count = ap (λ (b : Bool). length (cond b (numbers_of (members_in y)) (numbers_at k (numbers_in gs)))) t ∙ r.count ∙ sym (ap (λ (b : Bool). length (cond b ms (group_of k xs))) (held ∙ t));
    }

-- one that is held and not linked stands alone
pub only-one : (k : SubId) (ms : List ModelMember) → holds k ms ≡ true → nat_lt 1 (length ms) ≡ false → length ms ≡ 1
only-one k [] h l = absurd (let no : ⊥ = cc in no)
only-one k (m ∷ ms) h l = grind (arith, nat_tests, l)
