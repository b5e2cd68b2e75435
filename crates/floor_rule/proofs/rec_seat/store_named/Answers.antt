use Rattle.std.proofs.Common.{◌≡◌, ◌<◌, ◌^◌, ◌+◌, true, sym, subst, length}
use Rattle.floor_rule.specs.declared.rule.Marked.{Marked}
use Rattle.floor_rule.specs.Marks.{is_new, shown_of}
use Rattle.floor_rule.specs.Pages.{page_word}
use Rattle.floor_rule.specs.Steps.{MayEnter}
use Rattle.floor_rule.specs.Views.{rec_of}
use Rattle.floor_rule.proofs.RecSteps.{publishes_as}
use Rattle.floor_rule.proofs.rec_seat.store_named.Goals as goal

pub store-requires : goal.store-requires
store-requires g c =
    let r = rec_of c.args.seat.now.me.0 in
    let back = sym c.requires.named in (
      c.requires.table,
      c.requires.card,
      publishes_as _ _ _ _ r g.E.EntryName.entry _ _ c.requires.rec.0 c.requires.rec.1 c.requires.room
          (subst (λ (e : Marked). (shown_of e.mark).hw < 2 ^ 36) back c.requires.low)
          (subst (λ (e : Marked). is_new e.mark r.log ≡ true) back c.requires.new)
          (subst (MayEnter r) back c.requires.backed)
          (subst (λ (e : Marked). c.args.new ≡ page_word (length r.log + 1) (shown_of e.mark)) back c.requires.word),
    )
