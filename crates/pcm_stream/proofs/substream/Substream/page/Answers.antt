use Rattle.std.proofs.Common.{sym, ◌∙◌}
use Rattle.pcm_base.specs.model.Stream.{avail, shown}
use Rattle.pcm_stream.proofs.StreamLemmas.{configured, page-configured, same_page, shown-as}
use Rattle.pcm_stream.proofs.substream.Substream.page.Goals as goal

pub returns-in-Some-clause-page : goal.returns-in-Some-clause-page
returns-in-Some-clause-page g c s h =
    let runs = h.shows.runs_for c.in-Some.runtime c.in-Some.is in
    let placed = (configured c.in-Some.runtime.config s runs.setup.config h.sound).placed in
    same_page c.args.self.now.state s.state c.in-Some.runtime.ptr.hw (shown s s.at.hw) c.in-Some.runtime.appl (shown s s.at.appl) c.avail.result (avail s)
    h.shows.state
    (shown-as s c.in-Some.runtime.ptr.hw s.at.hw c.in-Some.runtime.shape.boundary runs.setup.boundary runs.pointers.hw)
    (shown-as s c.in-Some.runtime.appl s.at.appl c.in-Some.runtime.shape.boundary runs.setup.boundary runs.pointers.appl)
    (c.avail.ensures.model s (sym h.shows.dir) runs placed)
    ∙ sym (page-configured c.in-Some.runtime.config s runs.setup.config)
