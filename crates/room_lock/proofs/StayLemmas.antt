-- A link of a member to itself, or to no card of the floor.
use Rattle.std.proofs.Common.{◌≡◌, inl, ℕ, Bool, true, false, cond, nat_eq, nat_le, refl, ap, arith}
use Rattle.std.specs.Prelude.{◌&&◌, not}
use Rattle.std.proofs.lemmas.Bool.Decides.{nat_tests}
use Rattle.std.specs.declared.option.Option.{Option}
use Rattle.pcm_base.specs.declared.call.CallKind.TheVariants as kind
use Rattle.pcm_base.specs.declared.ids.ClientId.{ClientId}
use Rattle.pcm_base.specs.declared.ids.SubId.{SubId}
use Rattle.pcm_base.specs.declared.state.Dir.TheVariants as dir
use Rattle.pcm_base.specs.declared.state.Errno.{Errno}
use Rattle.pcm_base.specs.declared.state.Errno.TheVariants as errno
use Rattle.pcm_base.specs.declared.state.State.{State}
use Rattle.pcm_base.specs.declared.state.State.TheVariants as state
use Rattle.pcm_base.specs.model.Permit.{permit}
use Rattle.pcm_base.specs.model.Stream.{Stream}
use Rattle.pcm_base.specs.model.Words.{when, ◌then◌, is_closed, same_state}
use Rattle.room_book.specs.Logs.{answered, is_ok, link_reply}
use Rattle.room_lock.specs.Staying.{lone_link}
use Rattle.room_lock.proofs.JoinLemmas.{then_refused}
use Rattle.room_lock.proofs.LinkLemmas.{LinkOn}

first_refused : (b : Bool) (e : Errno) (rest : Option Errno) → b ≡ true → is_ok (answered (when b e then rest)) ≡ false
first_refused true e rest h = refl
first_refused false e rest h = absurd (let no : ⊥ = cc in no)

self_refused : (first second : ℕ) (s t : State) (linked : Bool) → nat_eq second first ≡ true → is_ok (link_reply first second s t linked) ≡ false
self_refused first second s t linked h =
    let rest = permit kind.Link s dir.Playback then (when (not (same_state t s)) errno.Ebadfd then when linked errno.Ealready) in
    let same = first_refused (nat_eq second first) errno.Einval rest h in
    then_refused (when (is_closed s) errno.Enxio) (when (is_closed t) errno.Enxio then (when (nat_eq second first) errno.Einval then rest))
    (then_refused (when (is_closed t) errno.Enxio) (when (nat_eq second first) errno.Einval then rest) same)

closed_refused : (first second : ℕ) (s : State) (linked : Bool) → is_ok (link_reply first second s state.Closed linked) ≡ false
closed_refused first second s linked =
    let rest = when (nat_eq second first) errno.Einval then (permit kind.Link s dir.Playback then (when (not (same_state state.Closed s)) errno.Ebadfd then when linked errno.Ealready)) in
    then_refused (when (is_closed s) errno.Enxio) (when true errno.Enxio then rest) refl

pub lone_refused : (c : ClientId) (k j : SubId) (s : State) (number : ℕ) → is_ok (lone_link c k j s number).reply ≡ false
lone_refused c k j s number = by (nat_eq j.0 k.0) refl
  where
    by : (b : Bool) → nat_eq j.0 k.0 ≡ b → is_ok (link_reply k.0 j.0 s (cond b s state.Closed) (b && nat_le 16 number)) ≡ false
    by true e = self_refused k.0 j.0 s s (nat_le 16 number) e
    by false e = closed_refused k.0 j.0 s false

pub on_lone : (c : ClientId) (k j : SubId) (s : Stream) (number : ℕ) → LinkOn k s number (lone_link c k j s.state number)
on_lone c k j s number = record {
  names = inl refl;
  reply_is = refl;
  first_is = λ e. refl;
  second_is = λ e.
      let test : nat_eq j.0 k.0 ≡ true = grind (arith, nat_tests, e) in
      (ap (λ (b : Bool). cond b s.state state.Closed) test, ap (λ (b : Bool). b && nat_le 16 number) test);
}
