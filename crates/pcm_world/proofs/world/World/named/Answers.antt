use Rattle.std.proofs.Common.{Some, ◌≡◌, inl, inr, true, false, not, ◌&&◌, refl, sym, ap, ◌∙◌, subst}
use Rattle.std.proofs.Math.Logic.{∥∥₁_map}
use Rattle.std.specs.Option.{is_some}
use Rattle.pcm_base.specs.declared.reply.Reply.TheVariants as reply
use Rattle.pcm_base.specs.declared.state.Errno.TheVariants as errno
use Rattle.pcm_base.specs.declared.state.State.TheVariants as state
use Rattle.pcm_base.specs.declared.call.Call.{Call}
use Rattle.pcm_base.specs.model.Events.{opens}
use Rattle.pcm_base.specs.model.Words.{is_closed}
use Rattle.pcm_base.specs.model.World.{Told, begun, chosen, group_of, holds, named, state_in, in_group}
use Rattle.pcm_group.specs.Turn.{caller}
use Rattle.pcm_world.specs.Answered.{IsAnswered, link_event, unlink_event}
use Rattle.pcm_world.proofs.GroupLemmas.{group_none}
use Rattle.pcm_world.proofs.NamedLemmas.{answered-regrouped, answered-still, group-call, link-leaves, memory-or-not, named-chosen, named-shut, open-open, open-opens, opens-not, shut-closed, shut-undeclared, unlink-leaves, world-regrouped}
use Rattle.pcm_world.proofs.WorldLemmas.{held_if}
use Rattle.pcm_world.proofs.world.World.named.Goals.{else-is_closed-via-then-is_closed+else-not-matches, in-OpenSub, in_default-matches, else-is_closed-via-else-is_closed}
use Rattle.pcm_world.proofs.world.World.named.Goals as goal

pub returns-in_default-clause-answered : goal.returns-in_default-clause-answered
returns-in_default-clause-answered c = λ w is told.
    let k = c.args.event.now.sub in
    let e = c.args.event.now.call in
    let p = begun (caller c.args.event.now) k c.args.bytes.now in
    let none = group_none c.args.self.now.groups.items.items w.groups 0 k is.groups (sym c.find.ensures ∙ c.in_default.is) in
    answered-still c.args.self.now c.args.event.now w (reply.Err errno.Enxio) (Some state.Closed) (named e p w) c.no_such.result is (named-shut e p w (shut-undeclared e k w none)) refl c.no_such.ensures

pub returns-then-not-matches-clause-answered : goal.returns-then-not-matches-clause-answered
returns-then-not-matches-clause-answered c = λ w is told.
    let k = c.args.event.now.sub in
    let e = c.args.event.now.call in
    let p = begun (caller c.args.event.now) k c.args.bytes.now in
    let shut : is_closed (state_in k w) ≡ true = ap is_closed (sym (c.state.ensures w.groups is.groups)) ∙ sym c.is_closed.ensures ∙ c.if-is_closed.true in
    let not_opened : opens e ≡ false = elim c.match-matches.branch [
      | in-OpenSub v ↦ absurd (let a = v.matches-is in let b = c.if-not-matches.true in let no : ⊥ = cc in no)
      | in_default-matches v ↦ opens-not e v.in_default-matches.not-OpenSub
    ] in
    answered-still c.args.self.now c.args.event.now w (reply.Err errno.Enxio) (Some state.Closed) (named e p w) c.no_such-then-not-matches.result is
    (named-shut e p w (shut-closed (holds k (group_of k w.groups)) (is_closed (state_in k w)) (opens e) shut not_opened)) refl c.no_such-then-not-matches.ensures

pub link-requires-clause-stands : goal.link-requires-clause-stands
link-requires-clause-stands c = ∥∥₁_map c.args.self.now.stands (λ w. (w.0.groups, w.1.groups))

pub link-requires-clause-declared : goal.link-requires-clause-declared
link-requires-clause-declared c = λ xs h. held_if c.args.self.now.groups.items.items xs 0 c.args.event.now.sub h (ap is_some (sym c.find.ensures ∙ c.in-Some.is))

pub invariant_of-self : goal.invariant_of-self
invariant_of-self c = record {
  long = c.args.self.now.long;
  stands = ∥∥₁_map c.args.self.now.stands (λ w.
      let t = link_event c.args.event.now.sub c.in-Link.second w.0 in (
        t.world,
        world-regrouped c.args.self.now.long_max c.args.self.now.groups.items.items c.link.new.groups.items.items c.args.self.now.calls w.0 t w.1 (link-leaves c.args.event.now.sub c.in-Link.second w.0)
            (c.link.ensures.stands w.0 w.1.groups) (c.link.ensures.streams w.0 w.1.groups),
      ));
}

pub unlink-requires-clause-stands : goal.unlink-requires-clause-stands
unlink-requires-clause-stands c = ∥∥₁_map c.args.self.now.stands (λ w. (w.0.groups, w.1.groups))

pub unlink-requires-clause-declared : goal.unlink-requires-clause-declared
unlink-requires-clause-declared c = λ xs h. held_if c.args.self.now.groups.items.items xs 0 c.args.event.now.sub h (ap is_some (sym c.find.ensures ∙ c.in-Some.is))

pub invariant_of-self-in-Unlink : goal.invariant_of-self-in-Unlink
invariant_of-self-in-Unlink c = record {
  long = c.args.self.now.long;
  stands = ∥∥₁_map c.args.self.now.stands (λ w. elim (memory-or-not c.unlink.result.reply) [
    | inl e ↦ (w.0, rw (c.unlink.ensures.memory e) w.1)
    | inr some ↦
        let t = unlink_event c.args.event.now.sub w.0 in (
          t.world,
          world-regrouped c.args.self.now.long_max c.args.self.now.groups.items.items c.unlink.new.groups.items.items c.args.self.now.calls w.0 t w.1 (unlink-leaves c.args.event.now.sub w.0)
              (c.unlink.ensures.stands w.0 w.1.groups some) (c.unlink.ensures.streams w.0 w.1.groups some),
        )
  ]);
}

pub returns-in-Link-clause-answered : goal.returns-in-Link-clause-answered
returns-in-Link-clause-answered c = λ w is told.
    let k = c.args.event.now.sub in
    let e = c.args.event.now.call in
    let p = begun (caller c.args.event.now) k c.args.bytes.now in
    let t = link_event k c.in-Link.second w in
    let held : holds k (group_of k w.groups) ≡ true = held_if c.args.self.now.groups.items.items w.groups 0 k is.groups (ap is_some (sym c.find.ensures ∙ c.in-Some.is)) in
    let opened : (is_closed (state_in k w) && not (opens e)) ≡ false = elim c.else-is_closed.branch [
      | else-is_closed-via-then-is_closed+else-not-matches v ↦ elim v.match-matches.branch [
        | in-OpenSub x ↦ open-opens (is_closed (state_in k w)) e (ap opens x.in-OpenSub.is)
        | in_default-matches x ↦ absurd (let a = x.matches-is in let b = v.if-not-matches.false in let no : ⊥ = cc in no)
      ]
      | else-is_closed-via-else-is_closed v ↦ open-open (is_closed (state_in k w)) e (ap is_closed (sym (c.state.ensures w.groups is.groups)) ∙ sym c.is_closed.ensures ∙ v.if-is_closed.false)
    ] in
    let same : named e p w ≡ t = named-chosen e p w held opened ∙ ap (λ (x : Call). chosen x p w) c.in-Link.is in
    answered-regrouped c.args.self.now _ c.args.event.now w t (named e p w) c.link.result same (c.link.ensures.told w is.groups) (link-leaves k c.in-Link.second w)
    (world-regrouped c.args.self.now.long_max c.args.self.now.groups.items.items c.link.new.groups.items.items c.args.self.now.calls w t is (link-leaves k c.in-Link.second w)
    (c.link.ensures.stands w is.groups) (c.link.ensures.streams w is.groups))
    (λ d. refl)

pub returns-in-Unlink-clause-answered : goal.returns-in-Unlink-clause-answered
returns-in-Unlink-clause-answered c = λ w is told.
    let k = c.args.event.now.sub in
    let e = c.args.event.now.call in
    let p = begun (caller c.args.event.now) k c.args.bytes.now in
    let t = unlink_event k w in
    let held : holds k (group_of k w.groups) ≡ true = held_if c.args.self.now.groups.items.items w.groups 0 k is.groups (ap is_some (sym c.find.ensures ∙ c.in-Some.is)) in
    let opened : (is_closed (state_in k w) && not (opens e)) ≡ false = elim c.else-is_closed.branch [
      | else-is_closed-via-then-is_closed+else-not-matches v ↦ elim v.match-matches.branch [
        | in-OpenSub x ↦ open-opens (is_closed (state_in k w)) e (ap opens x.in-OpenSub.is)
        | in_default-matches x ↦ absurd (let a = x.matches-is in let b = v.if-not-matches.false in let no : ⊥ = cc in no)
      ]
      | else-is_closed-via-else-is_closed v ↦ open-open (is_closed (state_in k w)) e (ap is_closed (sym (c.state.ensures w.groups is.groups)) ∙ sym c.is_closed.ensures ∙ v.if-is_closed.false)
    ] in
    let same : named e p w ≡ t = named-chosen e p w held opened ∙ ap (λ (x : Call). chosen x p w) c.in-Unlink.is in
    answered-regrouped c.args.self.now _ c.args.event.now w t (named e p w) c.unlink.result same (c.unlink.ensures.told w is.groups told) (unlink-leaves k w)
    (world-regrouped c.args.self.now.long_max c.args.self.now.groups.items.items c.unlink.new.groups.items.items c.args.self.now.calls w t is (unlink-leaves k w)
    (c.unlink.ensures.stands w is.groups told) (c.unlink.ensures.streams w is.groups told))
    (λ d. refl)

pub returns-in_default-call : goal.returns-in_default-call
returns-in_default-call c = record {
  answered = λ w is told.
      let k = c.args.event.now.sub in
      let e = c.args.event.now.call in
      let p = begun (caller c.args.event.now) k c.args.bytes.now in
      let held : holds k (group_of k w.groups) ≡ true = held_if c.args.self.now.groups.items.items w.groups 0 k is.groups (ap is_some (sym c.find.ensures ∙ c.in-Some.is)) in
      let opened : (is_closed (state_in k w) && not (opens e)) ≡ false = elim c.else-is_closed.branch [
        | else-is_closed-via-then-is_closed+else-not-matches v ↦ elim v.match-matches.branch [
          | in-OpenSub x ↦ open-opens (is_closed (state_in k w)) e (ap opens x.in-OpenSub.is)
          | in_default-matches x ↦ absurd (let a = x.matches-is in let b = v.if-not-matches.false in let no : ⊥ = cc in no)
        ]
        | else-is_closed-via-else-is_closed v ↦ open-open (is_closed (state_in k w)) e (ap is_closed (sym (c.state.ensures w.groups is.groups)) ∙ sym c.is_closed.ensures ∙ v.if-is_closed.false)
      ] in
      let same : named e p w ≡ in_group e p w = named-chosen e p w held opened ∙ group-call e p w c.in_default-call.not-Link c.in_default-call.not-Unlink in
      subst (λ (t : Told). IsAnswered c.args.self.now c.begin.new.self c.args.event.now w t c.begin.result) (sym same) (c.begin.ensures.answered w is told);
  memory = c.begin.ensures.memory;
  unread = c.begin.ensures.unread;
  taken = c.begin.ensures.taken;
}
