use Rattle.std.proofs.Common.{◌≡◌, ◌≤◌, ◌<◌, Option, Some, None, refl, sym, ap, ◌∙◌, subst, arith}
use Rattle.std.specs.Option.{is_some}
use Rattle.pcm_base.specs.declared.call.Call.TheVariants as call
use Rattle.pcm_base.specs.declared.call.Event.{Event}
use Rattle.pcm_base.specs.declared.ids.ClientId.{ClientId}
use Rattle.pcm_base.specs.declared.reply.Reply.TheVariants as reply
use Rattle.pcm_base.specs.declared.reply.Told.{Told as Shown}
use Rattle.pcm_base.specs.declared.state.Errno.TheVariants as errno
use Rattle.pcm_base.specs.declared.state.State.{State}
use Rattle.pcm_base.specs.model.World.{InProgress, Told, begun, call_of, in_group, named, state_in, step}
use Rattle.pcm_group.specs.Turn.{caller, caller_of}
use Rattle.pcm_world.specs.Answered.{IsAnswered}
use Rattle.pcm_world.specs.Calls.{IsCallOf, IsKept}
use Rattle.pcm_world.proofs.GoLemmas.{IsGoing, going-held, going-open}
use Rattle.pcm_world.proofs.NamedLemmas.{answered-still, by-begins, by-busy, by-going, by-idle, called-none, called-some, event-of, go-not, named-chosen, own-place, step-client}
use Rattle.pcm_world.proofs.world.World.answer.Goals as goal

pub returns-in-Go-clause-answered : goal.returns-in-Go-clause-answered
returns-in-Go-clause-answered c = λ w is told.
    let e = c.args.event.now in
    let d = c.in-Some.client in
    let below : d.0 < 16 = let a : d.0 ≤ 15 = c.requires.client d c.in-Some.is in omega (arith, a) in
    let here : IsCallOf w.groups d (Some c.index-self-client.result) (call_of d w.calls) = own-place w.groups d c.args.self.now.calls c.index-self-client.result _ (call_of d w.calls) c.index-self-client.is (is.kept d below) in
    let s = called-some w.groups d c.index-self-client.result (call_of d w.calls) here (ap is_some c.index-self-client.is ∙ sym c.is_some-called.ensures ∙ c.if-called.true) in
    let p : InProgress = s.0 in
    let own : call_of p.client w.calls ≡ Some p = ap (λ (x : ClientId). call_of x w.calls) s.3.client ∙ s.2 in
    let kept : IsKept w.groups s.1 p.client p = subst (λ (x : ClientId). IsKept w.groups s.1 x p) (sym s.3.client) s.3 in
    let going : IsGoing c.args.self.now.long_max c.args.self.now.groups.items.items c.args.self.now.calls w p s.1 = record { world = is; numbers = c.args.self.now.groups.numbered; called = own; kept = kept } in
    let held = going-held c.args.self.now.long_max c.args.self.now.groups.items.items c.args.self.now.calls w p s.1 going in
    let opened = going-open c.args.self.now.long_max c.args.self.now.groups.items.items c.args.self.now.calls w p s.1 going in
    let same : step w e c.args.bytes.now ≡ in_group call.Go p w = step-client w e c.args.bytes.now d c.in-Some.is ∙ by-going d e.sub e.call c.args.bytes.now w p s.2 c.in-Go.is ∙ named-chosen call.Go p w held opened in
    subst (λ (t : Told). IsAnswered c.args.self.now c.go_on.new.self e w t c.go_on.result) (sym same)
    (subst (λ (x : Event). IsAnswered c.args.self.now c.go_on.new.self x w (in_group call.Go p w) c.go_on.result) (event-of e d c.in-Some.is c.in-Go.is)
    (c.go_on.ensures.answered w e.sub p is s.2 told))

pub returns-in-Go-2-clause-answered : goal.returns-in-Go-2-clause-answered
returns-in-Go-2-clause-answered c = λ w is told.
    let e = c.args.event.now in
    let d = c.in-Some.client in
    let below : d.0 < 16 = let a : d.0 ≤ 15 = c.requires.client d c.in-Some.is in omega (arith, a) in
    let here : IsCallOf w.groups d (Some c.index-self-client.result) (call_of d w.calls) = own-place w.groups d c.args.self.now.calls c.index-self-client.result _ (call_of d w.calls) c.index-self-client.is (is.kept d below) in
    let none : call_of d w.calls ≡ None = called-none w.groups d c.index-self-client.result (call_of d w.calls) here (ap is_some c.index-self-client.is ∙ sym c.is_some-called.ensures ∙ c.if-called.false) in
    answered-still c.args.self.now e w (reply.Err errno.Einval) None (step w e c.args.bytes.now) c.told.result is
    (step-client w e c.args.bytes.now d c.in-Some.is ∙ by-idle d e.sub e.call c.args.bytes.now w none c.in-Go.is) refl c.told.ensures

pub returns-in_default-call : goal.returns-in_default-call
returns-in_default-call c = record {
  answered = λ w is told.
      let e = c.args.event.now in
      let d = c.in-Some.client in
      let below : d.0 < 16 = let a : d.0 ≤ 15 = c.requires.client d c.in-Some.is in omega (arith, a) in
      let here : IsCallOf w.groups d (Some c.index-self-client.result) (call_of d w.calls) = own-place w.groups d c.args.self.now.calls c.index-self-client.result _ (call_of d w.calls) c.index-self-client.is (is.kept d below) in
      let s = called-some w.groups d c.index-self-client.result (call_of d w.calls) here (ap is_some c.index-self-client.is ∙ sym c.is_some-called.ensures ∙ c.if-called-2.true) in
      answered-still c.args.self.now e w (reply.Busy d) (Some (state_in e.sub w)) (step w e c.args.bytes.now) c.told-in_default-call.result is
      (step-client w e c.args.bytes.now d c.in-Some.is ∙ by-busy d e.sub e.call c.args.bytes.now w s.0 s.2 (go-not e.call c.in_default-call.not-Go)) refl
      (c.told-in_default-call.ensures ∙ ap (λ (x : State). let r : Shown = record { reply = reply.Busy d; state = Some x; woken = 0 } in r) (c.state.ensures w.groups is.groups));
  memory = λ w is told. is;
  unread = λ d told. refl;
  taken = refl;
}

pub returns-in_default-2 : goal.returns-in_default-2
returns-in_default-2 c = record {
  answered = λ w is told.
      let e = c.args.event.now in
      let d = c.in-Some.client in
      let below : d.0 < 16 = let a : d.0 ≤ 15 = c.requires.client d c.in-Some.is in omega (arith, a) in
      let here : IsCallOf w.groups d (Some c.index-self-client.result) (call_of d w.calls) = own-place w.groups d c.args.self.now.calls c.index-self-client.result _ (call_of d w.calls) c.index-self-client.is (is.kept d below) in
      let none : call_of d w.calls ≡ None = called-none w.groups d c.index-self-client.result (call_of d w.calls) here (ap is_some c.index-self-client.is ∙ sym c.is_some-called.ensures ∙ c.if-called-2.false) in
      let same : step w e c.args.bytes.now ≡ named e.call (begun (caller e) e.sub c.args.bytes.now) w =
      step-client w e c.args.bytes.now d c.in-Some.is ∙ by-begins d e.sub e.call c.args.bytes.now w none (go-not e.call c.in_default-call.not-Go)
      ∙ ap (λ (x : Option ClientId). named e.call (begun (caller_of x) e.sub c.args.bytes.now) w) (sym c.in-Some.is) in
      subst (λ (t : Told). IsAnswered c.args.self.now c.named-in_default-2.new.self e w t c.named-in_default-2.result) (sym same) (c.named-in_default-2.ensures.answered w is told);
  memory = c.named-in_default-2.ensures.memory;
  unread = c.named-in_default-2.ensures.unread;
  taken = c.named-in_default-2.ensures.taken;
}
