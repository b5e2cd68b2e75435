use Rattle.std.proofs.Common.{◌≡◌, true, false, nat_lt, sym, ◌∙◌, refl, ap}
use Rattle.pcm_base.specs.declared.state.State.TheVariants as state
use Rattle.pcm_base.specs.model.Sound.{is_set_up}
use Rattle.pcm_base.specs.model.Stream.{avail}
use Rattle.pcm_stream.proofs.ActsLemmas.{Shows-into, drain-empty, drain-reads}
use Rattle.pcm_stream.proofs.substream.Substream.post_drain_capture.Goals as goal

pub returns-then-has_frames-clause-shows : goal.returns-then-has_frames-clause-shows
returns-then-has_frames-clause-shows g c s way h sound =
    let at : s.state ≡ state.Running = sym h.state ∙ c.in-Running.is in
    let some : nat_lt 0 (avail s) ≡ true = sym (c.has_frames.ensures s h sound (ap is_set_up at)) ∙ c.if-has_frames.true in
    Shows-into c.args.self.now _ s _ state.Draining false (record { dir = refl; long_max = refl; runtime = refl; model = refl; taken = refl; to_give = refl; position = refl }) refl refl (drain-reads s way at some) h

pub returns-else-has_frames-clause-shows : goal.returns-else-has_frames-clause-shows
returns-else-has_frames-clause-shows g c s way h sound =
    let at : s.state ≡ state.Running = sym h.state ∙ c.in-Running.is in
    let none : nat_lt 0 (avail s) ≡ false = sym (c.has_frames.ensures s h sound (ap is_set_up at)) ∙ c.if-has_frames.false in
    Shows-into c.args.self.now _ s _ state.Setup false (record { dir = refl; long_max = refl; runtime = refl; model = refl; taken = refl; to_give = refl; position = refl }) refl refl (drain-empty s way at none) h
