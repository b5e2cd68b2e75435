use Rattle.std.proofs.Common.{refl, sym, ◌∙◌}
use Rattle.std.specs.declared.option.Option.TheVariants.{Some}
use Rattle.live_floor.specs.Links.{link_from}
use Rattle.live_floor.proofs.LinkFacts.{same_full, same_link}
use Rattle.live_floor.proofs.floor.Floor.link.Goals.{then-one-two, else-one-two}
use Rattle.live_floor.proofs.floor.Floor.link.Goals as goal

pub returns-then-first-second-clause-link : goal.returns-then-first-second-clause-link
returns-then-first-second-clause-link g c =
    same_link g.N.FloorName.cards g.N.FloorName.long_max c.link_event-event.result (link_from c.args.pass.now.caller c.args.first c.args.second) c.lock-found.new.pass c.args.pass.now (Some c.refuse_in.result) c.refuse_in.result refl c.link_event-event.ensures.event c.lock-found.ensures.same
    c.refuse_in.ensures.link

pub returns-then-first-second-clause-full : goal.returns-then-first-second-clause-full
returns-then-first-second-clause-full g c =
    same_full g.N.FloorName.cards g.N.FloorName.long_max c.link_event-event.result (link_from c.args.pass.now.caller c.args.first c.args.second) c.lock-found.new.pass c.args.pass.now (Some c.refuse_in.result) c.refuse_in.result refl c.link_event-event.ensures.event c.lock-found.ensures.same
    c.refuse_in.new.pass c.refuse_in.new.pass refl c.refuse_in.ensures.full

pub returns-in-Some-answer-clause-link : goal.returns-in-Some-answer-clause-link
returns-in-Some-answer-clause-link g c =
    let event = c.link_event-event in
    let same = c.place-two.ensures.same ∙ c.place-one.ensures.same ∙ c.loop.invariant.2 in
    elim c.if-one-two.branch [
      | then-one-two w ↦ same_link g.N.FloorName.cards g.N.FloorName.long_max event.result (link_from c.args.pass.now.caller c.args.first c.args.second) c.place-two.new.self c.args.pass.now w.link_inside-answer.result c.in-Some-answer.answer (sym w.answer-is ∙ c.in-Some-answer.is) event.ensures.event same
          w.link_inside-answer.ensures.link
      | else-one-two w ↦ same_link g.N.FloorName.cards g.N.FloorName.long_max event.result (link_from c.args.pass.now.caller c.args.first c.args.second) c.place-two.new.self c.args.pass.now w.link_apart-answer.result c.in-Some-answer.answer (sym w.answer-is ∙ c.in-Some-answer.is) event.ensures.event same
          w.link_apart-answer.ensures.link
    ]

pub returns-in-Some-answer-clause-full : goal.returns-in-Some-answer-clause-full
returns-in-Some-answer-clause-full g c =
    let event = c.link_event-event in
    let same = c.place-two.ensures.same ∙ c.place-one.ensures.same ∙ c.loop.invariant.2 in
    elim c.if-one-two.branch [
      | then-one-two w ↦ same_full g.N.FloorName.cards g.N.FloorName.long_max event.result (link_from c.args.pass.now.caller c.args.first c.args.second) c.place-two.new.self c.args.pass.now w.link_inside-answer.result c.in-Some-answer.answer (sym w.answer-is ∙ c.in-Some-answer.is) event.ensures.event same
          w.link_inside-answer.new.pass c.if-one-two.pass (sym w.pass-is) w.link_inside-answer.ensures.full
      | else-one-two w ↦ same_full g.N.FloorName.cards g.N.FloorName.long_max event.result (link_from c.args.pass.now.caller c.args.first c.args.second) c.place-two.new.self c.args.pass.now w.link_apart-answer.result c.in-Some-answer.answer (sym w.answer-is ∙ c.in-Some-answer.is) event.ensures.event same
          w.link_apart-answer.new.pass c.if-one-two.pass (sym w.pass-is) w.link_apart-answer.ensures.full
    ]
