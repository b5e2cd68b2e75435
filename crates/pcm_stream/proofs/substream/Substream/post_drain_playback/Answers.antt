use Rattle.std.proofs.Common.{◌≡◌, true, false, nat_lt, sym, ◌∙◌, refl, subst}
use Rattle.pcm_base.specs.declared.state.State.TheVariants as state
use Rattle.pcm_base.specs.model.Stream.{Stream, avail}
use Rattle.pcm_stream.specs.StandsFor.{Shows}
use Rattle.pcm_stream.proofs.ActsLemmas.{Shows-into, Shows-turned, Sound-placed, drain-ends, drain-runs_on, drain-starts, drain-xrun, draining, placed-turned}
use Rattle.pcm_stream.proofs.substream.Substream.post_drain_playback.Goals as goal

pub returns-then-has_data-clause-shows : goal.returns-then-has_data-clause-shows
returns-then-has_data-clause-shows g c s way h sound =
    let at : s.state ≡ state.Prepared = sym h.state ∙ c.in-Prepared.is in
    let some : nat_lt (avail s) s.setup.buffer ≡ true = sym (c.has_data.ensures s h sound) ∙ c.if-has_data.true in
    subst (λ (x : Stream). Shows {C = g.row.C.Denot} {g = g.C.Card} c.put_silence.new.self x) (drain-starts s way at some)
    (c.put_silence.ensures.shows (draining s)
    (Shows-turned c.args.self.now _ s state.Draining s.kept true s.card.plan (record { dir = refl; long_max = refl; runtime = refl; model = refl; taken = refl; to_give = refl; position = refl }) refl h.kept h)
    (placed-turned s state.Draining s.kept true s.card.plan (Sound-placed s sound)))

pub returns-else-has_data-clause-shows : goal.returns-else-has_data-clause-shows
returns-else-has_data-clause-shows g c s way h sound =
    let at : s.state ≡ state.Prepared = sym h.state ∙ c.in-Prepared.is in
    let none : nat_lt (avail s) s.setup.buffer ≡ false = sym (c.has_data.ensures s h sound) ∙ c.if-has_data.false in
    Shows-into c.args.self.now _ s _ state.Setup s.card.runs (record { dir = refl; long_max = refl; runtime = refl; model = refl; taken = refl; to_give = refl; position = refl }) refl refl (drain-ends s way at none) h

pub returns-in-Running-clause-shows : goal.returns-in-Running-clause-shows
returns-in-Running-clause-shows g c s way h sound =
    Shows-into c.args.self.now _ s _ state.Draining s.card.runs (record { dir = refl; long_max = refl; runtime = refl; model = refl; taken = refl; to_give = refl; position = refl }) refl refl
    (drain-runs_on s way (sym h.state ∙ c.in-Running.is)) h

pub returns-in-Xrun-clause-shows : goal.returns-in-Xrun-clause-shows
returns-in-Xrun-clause-shows g c s way h sound =
    Shows-into c.args.self.now _ s _ state.Setup s.card.runs (record { dir = refl; long_max = refl; runtime = refl; model = refl; taken = refl; to_give = refl; position = refl }) refl refl
    (drain-xrun s way (sym h.state ∙ c.in-Xrun.is)) h
