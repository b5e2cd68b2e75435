use Rattle.std.proofs.Common.{◌≡◌, ◌==◌, ap, ◌∙◌, ℕ, arith, length}
use Rattle.live_plan.proofs.DraftLemmas.{of_beat, of_card, of_event, of_feed, of_save, of_threads}
use Rattle.live_plan.proofs.draft.Draft.fault_of.Goals as goal

pub returns-in-Card : goal.returns-in-Card
returns-in-Card c = λ said stands.
    let draft = c.args.self.now in
    let cards : c.len-cards.result ≡ length draft.plan.cards.items = omega (arith, c.len-cards.ensures, draft.plan.cards.ok.0) in
    let first : c.is_empty.result ≡ (length draft.plan.setup.items == 0) = c.is_empty.ensures ∙ ap (λ (n : ℕ). n == 0) (omega (arith, draft.plan.setup.ok.0)) in
    of_card draft said c.args.line.now c.args.bytes.now c.in-Card.sub c.in-Card.field-1 c.in-Card.field-2 c.is_empty.result c.len-cards.result c.card.result stands c.in-Card.is first cards c.card.ensures

pub returns-in-Event : goal.returns-in-Event
returns-in-Event c = λ said stands.
    let draft = c.args.self.now in
    let cards : c.len-cards.result ≡ length draft.plan.cards.items = omega (arith, c.len-cards.ensures, draft.plan.cards.ok.0) in
    of_event draft said c.args.line.now c.args.bytes.now c.in-Event.field-1 c.in-Event.event c.len-cards.result c.event.result stands c.in-Event.is cards c.event.ensures

pub returns-in-Feed : goal.returns-in-Feed
returns-in-Feed c = λ said stands.
    let draft = c.args.self.now in
    let cards : c.len-cards.result ≡ length draft.plan.cards.items = omega (arith, c.len-cards.ensures, draft.plan.cards.ok.0) in
    of_feed draft said c.args.line.now c.args.bytes.now c.in-Feed.field-1 c.in-Feed.sub c.is_setup.result c.len-cards.result c.on_sub.result stands c.in-Feed.is c.is_setup.ensures cards c.on_sub.ensures

pub returns-in-Beat : goal.returns-in-Beat
returns-in-Beat c = λ said stands.
    let draft = c.args.self.now in
    let cards : c.len-cards.result ≡ length draft.plan.cards.items = omega (arith, c.len-cards.ensures, draft.plan.cards.ok.0) in
    of_beat draft said c.args.line.now c.args.bytes.now c.in-Beat.sub c.in-Beat.field-1 c.in-Beat.field-2 c.len-cards.result c.deref.result.now c.beat.result stands c.in-Beat.is cards c.deref.ensures.value c.beat.ensures

pub returns-in-Save : goal.returns-in-Save
returns-in-Save c = λ said stands.
    let draft = c.args.self.now in
    let cards : c.len-cards.result ≡ length draft.plan.cards.items = omega (arith, c.len-cards.ensures, draft.plan.cards.ok.0) in
    of_save draft said c.args.line.now c.args.bytes.now c.in-Save.field-1 c.in-Save.sub c.is_end.result c.len-cards.result c.on_sub-in-Save.result stands c.in-Save.is c.is_end.ensures cards c.on_sub-in-Save.ensures

pub returns-in-Threads : goal.returns-in-Threads
returns-in-Threads c = λ said stands.
    let draft = c.args.self.now in
    let cards : c.len-cards.result ≡ length draft.plan.cards.items = omega (arith, c.len-cards.ensures, draft.plan.cards.ok.0) in
    of_threads draft said c.args.line.now c.args.bytes.now c.len-cards.result c.threads.result stands c.in-Threads.is cards c.threads.ensures
