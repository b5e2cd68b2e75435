use Rattle.std.proofs.Common.{◌≡◌, ◌∷◌, ◌++◌, [], ◌+◌, ◌<◌, length, length-append, sym, ap, refl, ◌∙◌, subst}
use Rattle.std.specs.declared.option.Option.TheVariants.{None as Nowhere}
use Rattle.pcm_base.specs.declared.call.Event.{Event}
use Rattle.floor_rule.specs.declared.entry.EntryMark.TheVariants.{Called}
use Rattle.floor_rule.specs.declared.rule.Made.{Made}
use Rattle.floor_rule.specs.declared.rule.Marked.{Marked}
use Rattle.floor_rule.specs.declared.rule.PassKnows.{PassKnows}
use Rattle.floor_rule.specs.declared.rule.RecKnows.{RecKnows}
use Rattle.floor_rule.specs.Lists.{Stands}
use Rattle.room_parts.specs.Links.{link_event}
use Rattle.room_parts.specs.Passes.{IsBy, IsLinked, busy_after}
use Rattle.room_parts.specs.Recs.{entries_of}
use Rattle.room_parts.proofs.Backing.{entered_after, entries_push}
use Rattle.room_parts.proofs.Calls.{own_mark, stands_called}
use Rattle.room_parts.proofs.Seen.{remembers_receipt}
use Rattle.room_parts.proofs.calling.link_on.Goals as goal

pub invariant_of-first : goal.invariant_of-first
invariant_of-first g c =
    let r : RecKnows = c.first.inside.seat.knows in
    let p : PassKnows = c.pass.inside.seat.knows in
    let e : Marked = record { entry = c.entry-entry.result; mark = Called c.args.link.now.first_state c.args.first_hw p.number (length p.calls) 0 } in
    let did = c.link_call.ensures in (
      did.tables.0 ∙ c.requires.table,
      c.push_reserved.ensures.items ∙ ap (λ l. l ++ c.entry-entry.result ∷ []) c.first.invariant.1 ∙ sym (entries_push r.log e) ∙ sym (ap entries_of did.first),
      subst (λ k. k < length g.N.FloorName.cards) (sym did.same.0) c.first.invariant.2,
      entered_after (length g.N.FloorName.cards) r c.link_call.new.first.knows e did.same.0 did.first did.first_held c.first.invariant.3 did.first_backed tt,
    )

pub invariant_of-second : goal.invariant_of-second
invariant_of-second g c =
    let r : RecKnows = c.second.inside.seat.knows in
    let p : PassKnows = c.pass.inside.seat.knows in
    let e : Marked = record { entry = c.entry-entry.result; mark = Called c.args.link.now.second_state c.args.second_hw p.number (length p.calls) 0 } in
    let did = c.link_call.ensures in
    let again : c.entry.result ≡ c.entry-entry.result = c.entry.ensures ∙ sym c.entry-entry.ensures in (
      did.tables.1 ∙ c.requires.table,
      c.push_reserved-2.ensures.items ∙ ap (λ l. l ++ c.entry.result ∷ []) c.second.invariant.1 ∙ ap (λ x. entries_of r.log ++ x ∷ []) again ∙ sym (entries_push r.log e) ∙ sym (ap entries_of did.second),
      subst (λ k. k < length g.N.FloorName.cards) (sym did.same.1) c.second.invariant.2,
      entered_after (length g.N.FloorName.cards) r c.link_call.new.second.knows e did.same.1 did.second did.second_held c.second.invariant.3 did.second_backed tt,
    )

pub invariant_of-pass : goal.invariant_of-pass
invariant_of-pass g c =
    let r : RecKnows = c.first.inside.seat.knows in
    let q : RecKnows = c.second.inside.seat.knows in
    let p : PassKnows = c.pass.inside.seat.knows in
    let now : PassKnows = c.link_call.new.pass.knows in
    let n = length g.N.FloorName.cards in
    let e : Marked = record { entry = c.entry-entry.result; mark = Called c.args.link.now.first_state c.args.first_hw p.number (length p.calls) 0 } in
    let f : Marked = record { entry = c.entry-entry.result; mark = Called c.args.link.now.second_state c.args.second_hw p.number (length p.calls) 0 } in
    let made : Made = record { event = c.event-event.result; count = 0 } in
    let did = c.link_call.ensures in
    let sub : c.sub.result.0 ≡ r.sub = c.sub.ensures ∙ did.same.0 in
    let count : c.count.result ≡ length r.log + 1 = c.count.ensures ∙ ap length did.first ∙ length-append r.log (e ∷ []) in
    let table = remembers_receipt c.pass.inside.seen c.raise.new.seen p now (r.sub, length r.log) c.sub.result.0 c.count.result sub count c.pass.invariant.2 c.raise.ensures.within c.raise.ensures.raised did.same.5 did.receipt c.pass.invariant.3 in
    let second : c.args.link.now.second.0 ≡ q.sub = c.requires.names.1 ∙ sym (ap (λ v. v.knows.sub) c.second.view_is) in
    let there : Stands now.held.logs c.args.link.now.second.0 (length q.log) f = subst (λ j. Stands now.held.logs j (length q.log) f) (sym second) did.second_stands in
    let linked : IsLinked n now.held.logs p.number (length p.calls) (link_event c.args.link.now).call = λ lt. (length q.log, f, there, own_mark p.number (length p.calls) (length p.calls) 0 c.args.second_hw c.args.link.now.second_state refl) in
    let idle : Nowhere ≡ busy_after c.entry-entry.result = ap busy_after (sym c.entry-entry.ensures) in (
      did.tables.2 ∙ c.requires.table,
      stands_called n c.pass.inside.caller c.pass.inside.busy Nowhere p now made (r.sub, length r.log) e did.same.4 did.calls did.receipt did.pass_held.logs
          (subst (λ (v : Event). IsBy c.pass.inside.caller v) (sym c.event-event.ensures) (subst (λ v. IsBy v (link_event c.args.link.now)) (sym (ap (λ v. v.caller) c.pass.view_is)) c.requires.by))
          did.first_stands (own_mark p.number (length p.calls) (length p.calls) 0 c.args.first_hw c.args.link.now.first_state refl) idle
          (subst (λ (v : Event). IsLinked n now.held.logs p.number (length p.calls) v.call) (sym c.event-event.ensures) linked)
          (ap (λ v. v.knows.sub) c.first.view_is ∙ sym c.requires.names.0 ∙ ap (λ (v : Event). v.sub.0) (sym c.event-event.ensures)) c.first.invariant.2 c.pass.invariant.1,
      table.0,
      table.1,
    )
