use Rattle.std.proofs.Common.{◌≡◌, ◌+◌, ◌-◌, ◌%◌, ◌<◌, ℕ, ◌∙◌, ap, arith}
use Rattle.pcm_stream.proofs.SlotLemmas.{gone-below, gone-above, gone-slots, slot-shown_ptr}
use Rattle.pcm_stream.proofs.runtime.Runtime.unreported.Goals as goal

pub returns-then-position-slot-clause-model : goal.returns-then-position-slot-clause-model
returns-then-position-slot-clause-model c s at h placed =
    let r = c.args.self.now in
    let b : ℕ = r.shape.buffer in
    let near : s.at.card < s.at.hw + b = omega (arith, placed.near, h.setup.buffer) in
    let slot : r.ptr.hw - r.ptr.base ≡ s.at.hw % b = slot-shown_ptr r.shape r.ptr r.sound r.based s.at.hw h.pointers.hw in
    let way : (c.args.position + b - (r.ptr.hw - r.ptr.base)) % b ≡ s.at.card - s.at.hw =
    ap (λ n. (n + b - (r.ptr.hw - r.ptr.base)) % b) at ∙ gone-slots b s.at.card s.at.hw (r.ptr.hw - r.ptr.base) placed.reported near slot in
    gone-below b c.args.position (r.ptr.hw - r.ptr.base) (s.at.card - s.at.hw) way (omega arith) (omega (arith, r.based.low, r.based.high))

pub returns-else-position-slot-clause-model : goal.returns-else-position-slot-clause-model
returns-else-position-slot-clause-model c s at h placed =
    let r = c.args.self.now in
    let b : ℕ = r.shape.buffer in
    let near : s.at.card < s.at.hw + b = omega (arith, placed.near, h.setup.buffer) in
    let slot : r.ptr.hw - r.ptr.base ≡ s.at.hw % b = slot-shown_ptr r.shape r.ptr r.sound r.based s.at.hw h.pointers.hw in
    let way : (c.args.position + b - (r.ptr.hw - r.ptr.base)) % b ≡ s.at.card - s.at.hw =
    ap (λ n. (n + b - (r.ptr.hw - r.ptr.base)) % b) at ∙ gone-slots b s.at.card s.at.hw (r.ptr.hw - r.ptr.base) placed.reported near slot in
    gone-above b c.args.position (r.ptr.hw - r.ptr.base) (s.at.card - s.at.hw) way (omega arith) c.requires
