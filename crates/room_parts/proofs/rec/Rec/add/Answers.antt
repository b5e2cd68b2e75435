use Rattle.std.proofs.Common.{◌∷◌, ◌++◌, [], sym, ap, ◌∙◌, subst}
use Rattle.floor_rule.specs.declared.rule.Marked.{Marked}
use Rattle.floor_rule.specs.declared.rule.RecKnows.{RecKnows}
use Rattle.floor_rule.specs.Steps.{MayEnter}
use Rattle.room_parts.proofs.Backing.{entered, entries_push}
use Rattle.room_parts.proofs.rec.Rec.add.Goals as goal

pub invariant_of-self : goal.invariant_of-self
invariant_of-self g c =
    let e : Marked = record { entry = c.args.entry; mark = c.args.mark.now } in
    let r : RecKnows = c.self.inside.seat.knows in
    let may : MayEnter r e = subst (λ (x : RecKnows). MayEnter x e) (sym (ap (λ v. v.knows) c.self.view_is)) c.requires.backed in
    rw (c.publish.ensures) (c.self.invariant.0, c.push_reserved.ensures.items ∙ ap (λ l. l ++ c.args.entry ∷ []) c.self.invariant.1 ∙ sym (entries_push r.log e), c.self.invariant.2, entered _ r e c.self.invariant.3 may c.requires.card)
