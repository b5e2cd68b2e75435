use Rattle.std.proofs.Common.{◌≡◌, ◌*◌, ◌<◌, true, length, subst, sym, ap, ◌∙◌, rules}
use Rattle.ring_memory.specs.Ring.{RingFacts}
use Rattle.ring_memory.proofs.AreaLemmas.{area_size, area_fits}
use Rattle.ring_memory.proofs.RingLemmas.{area_stands}
use Rattle.ring_memory.proofs.SlotLemmas.{piece, cut_piece}
use Rattle.ring_memory.proofs.ring.Ring.area.Goals as goal

pub slice_bounds-result-end : goal.slice_bounds-result-end
slice_bounds-result-end c =
    let s = c.self.inside.sizes in
    let channel : c.args.channel < s.channels = subst (λ (r : RingFacts). c.args.channel < r.channels) (sym c.self.view_is) c.requires.channel in
    let all = area_size s s.buffer _ c.self.invariant.sizes (ap length c.deref.ensures.value ∙ c.self.invariant.memory) in
    let fits = area_fits s.channels (s.buffer * s.sample_bytes) _ c.args.channel all channel in
    search (rules, fits)

pub returns : goal.returns
returns c = λ puts st.
    let s = c.self.inside.sizes in
    let bytes = c.self.inside.bytes.items in
    let channel : c.args.channel < s.channels = subst (λ (r : RingFacts). c.args.channel < r.channels) (sym c.self.view_is) c.requires.channel in
    let by_channel : c.self.inside.planar ≡ true = ap (λ (r : RingFacts). r.planar) c.self.view_is ∙ c.requires.areas in
    cut_piece (s.buffer * s.sample_bytes) c.args.channel c.deref.result.now
    ∙ (ap (piece (s.buffer * s.sample_bytes) c.args.channel) c.deref.ensures.value
    ∙ area_stands s c.self.inside.planar bytes c.args.self.now c.self.view_is c.self.invariant.sizes c.self.invariant.memory by_channel c.args.channel channel puts st)
