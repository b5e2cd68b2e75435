use Rattle.std.proofs.Common.{◌≡◌, ◌+◌, ◌%◌, ◌<◌, sym, ap, ◌∙◌, arith}
use Rattle.hw_update.proofs.BaseLemmas.{Goes, goes, based_below, whole_at, moved_is, moved_from_slots, distance_of, shown_at, card_at}
use Rattle.hw_update.proofs.advance.Goals as goal

pub frames_between-moved-requires-clause-old : goal.frames_between-moved-requires-clause-old
frames_between-moved-requires-clause-old c = omega (arith, based_below c.args.shape.now c.args.ptr.now c.requires.sound c.requires.based)

pub frames_between-moved-requires-clause-new : goal.frames_between-moved-requires-clause-new
frames_between-moved-requires-clause-new c =
    let g = goes c.args.shape.now c.args.ptr.now c.args.position c.base_at-base.result c.requires.sound c.requires.position c.requires.based c.base_at-base.ensures.same c.base_at-base.ensures.next in
    omega (arith, g.reached)

-- where the card went
reached : (c : goal.After-frames_between-moved) → Goes c.args.shape.now.buffer c.args.shape.now.boundary c.args.ptr.now.hw c.args.position c.base_at-base.result
reached c = goes c.args.shape.now c.args.ptr.now c.args.position c.base_at-base.result c.requires.sound c.requires.position c.requires.based c.base_at-base.ensures.same c.base_at-base.ensures.next

-- and how far
far : (c : goal.After-frames_between-moved) → c.frames_between-moved.result ≡ (reached c).distance
far c =
    let s = c.args.shape.now in
    let low : c.args.ptr.now.hw < s.boundary = omega (arith, based_below s c.args.ptr.now c.requires.sound c.requires.based) in
    moved_is s.buffer s.boundary c.args.ptr.now.hw c.args.position c.base_at-base.result c.frames_between-moved.result (reached c) (omega arith) low c.frames_between-moved.ensures

pub returns-clause-based : goal.returns-clause-based
returns-clause-based c = record { whole = (reached c).whole; below = (reached c).below; low = omega arith; high = omega arith }

pub returns-clause-moved : goal.returns-clause-moved
returns-clause-moved c = far c ∙ moved_from_slots _ _ _ _ _ (reached c)

pub returns-clause-hw : goal.returns-clause-hw
returns-clause-hw c = (reached c).reached ∙ ap (λ n. (c.args.ptr.now.hw + n) % c.args.shape.now.boundary) (sym (far c))

pub returns-clause-card : goal.returns-clause-card
returns-clause-card c = card_at _ _ _ _ _ (reached c) c.requires.position

pub returns-clause-distance : goal.returns-clause-distance
returns-clause-distance c = λ h k low high hw slot.
    far c ∙ distance_of _ _ _ _ _ h k (reached c) (whole_at c.args.shape.now c.requires.sound) hw slot low high

pub returns-clause-shown : goal.returns-clause-shown
returns-clause-shown c = λ h k low high hw slot.
    shown_at _ _ _ _ _ h k (reached c) hw low (distance_of _ _ _ _ _ h k (reached c) (whole_at c.args.shape.now c.requires.sound) hw slot low high)
