use Rattle.std.proofs.Common.{◌≡◌, ◌∷◌, ◌++◌, [], ◌+◌, ◌<◌, length, length-append, sym, ap, refl, ◌∙◌, subst}
use Rattle.floor_rule.specs.declared.entry.EntryMark.TheVariants.{Called}
use Rattle.floor_rule.specs.declared.rule.Made.{Made}
use Rattle.floor_rule.specs.declared.rule.Marked.{Marked}
use Rattle.floor_rule.specs.declared.rule.PassKnows.{PassKnows}
use Rattle.floor_rule.specs.declared.rule.RecKnows.{RecKnows}
use Rattle.room_parts.specs.Passes.{IsAlone, IsBy}
use Rattle.room_parts.specs.Recs.{entries_of}
use Rattle.room_parts.proofs.Backing.{entered_after, entries_push}
use Rattle.room_parts.proofs.Calls.{alone_linked, own_mark, stands_called}
use Rattle.room_parts.proofs.Seen.{remembers_receipt}
use Rattle.room_parts.proofs.calling.call_on.Goals as goal

pub invariant_of-rec : goal.invariant_of-rec
invariant_of-rec g c =
    let r : RecKnows = c.rec.inside.seat.knows in
    let p : PassKnows = c.pass.inside.seat.knows in
    let e : Marked = record { entry = c.args.entry; mark = Called c.args.state c.args.hw p.number (length p.calls) c.args.count } in
    let did = c.own_call.ensures in (
      did.tables.0 ∙ c.requires.table,
      c.push_reserved.ensures.items ∙ ap (λ l. l ++ c.args.entry ∷ []) c.rec.invariant.1 ∙ sym (entries_push r.log e) ∙ sym (ap entries_of did.log),
      subst (λ k. k < length g.N.FloorName.cards) (sym did.same.0) c.rec.invariant.2,
      entered_after (length g.N.FloorName.cards) r c.own_call.new.rec.knows e did.same.0 did.log did.held.0 c.rec.invariant.3 did.backed tt,
    )

pub invariant_of-pass : goal.invariant_of-pass
invariant_of-pass g c =
    let r : RecKnows = c.rec.inside.seat.knows in
    let p : PassKnows = c.pass.inside.seat.knows in
    let now : PassKnows = c.own_call.new.pass.knows in
    let e : Marked = record { entry = c.args.entry; mark = Called c.args.state c.args.hw p.number (length p.calls) c.args.count } in
    let made : Made = record { event = c.args.event.now; count = c.args.count } in
    let did = c.own_call.ensures in
    let sub : c.sub.result.0 ≡ r.sub = c.sub.ensures ∙ did.same.0 in
    let count : c.count.result ≡ length r.log + 1 = c.count.ensures ∙ ap length did.log ∙ length-append r.log (e ∷ []) in
    let table = remembers_receipt c.pass.inside.seen c.raise.new.seen p now (r.sub, length r.log) c.sub.result.0 c.count.result sub count c.pass.invariant.2 c.raise.ensures.within c.raise.ensures.raised did.same.3 did.receipt c.pass.invariant.3 in
    let is = own_mark p.number (length p.calls) (length p.calls) c.args.count c.args.hw c.args.state refl in (
      did.tables.1 ∙ c.requires.table,
      stands_called (length g.N.FloorName.cards) c.pass.inside.caller c.pass.inside.busy c.busy_on-pass-inside.result p now made (r.sub, length r.log) e did.same.2 did.calls did.receipt did.held.1.logs
          (subst (λ v. IsBy v c.args.event.now) (sym (ap (λ v. v.caller) c.pass.view_is)) c.requires.by) did.stands is c.busy_on-pass-inside.ensures
          (alone_linked (length g.N.FloorName.cards) now.held.logs p.number (length p.calls) r.sub (length r.log) e c.args.event.now.call (subst (λ j. IsAlone (length g.N.FloorName.cards) j c.args.event.now.call) (sym (ap (λ v. v.knows.sub) c.rec.view_is)) c.requires.alone) did.stands is)
          (ap (λ v. v.knows.sub) c.rec.view_is ∙ sym c.requires.sub) c.rec.invariant.2 c.pass.invariant.1,
      table.0,
      table.1,
    )
