use Rattle.std.proofs.Common.{false, true, refl, ap}
use Rattle.std.specs.declared.option.Option.TheVariants.{Some}
use Rattle.pcm_base.specs.declared.act.Act.TheVariants as act
use Rattle.pcm_base.specs.declared.state.State.TheVariants as state
use Rattle.pcm_base.specs.model.Acts.{asked, consulted}
use Rattle.pcm_base.specs.model.Stream.{Stream}
use Rattle.pcm_laws.proofs.KeptByVotes.{Sound-asked}
use Rattle.pcm_stream.specs.StandsFor.{Shows}
use Rattle.pcm_stream.proofs.ActsLemmas.{Shows-asked, Shows-turned, Sound-placed, placed-turned, posted, turned}
use Rattle.pcm_stream.proofs.substream.Substream.post_act.Goals as goal

pub returns-in-Start-clause-done : goal.returns-in-Start-clause-done
returns-in-Start-clause-done g c s h =
    let t : Stream = consulted s in
    let shows : Shows {C = g.row.C.Denot} {g = g.C.Card} c.args.self.now t = Shows-asked act.Start c.args.self.now s h.shows in
    posted c.args.act act.Start c.args.self.now c.put_silence.new.self s c.in-Start.is c.requires.stop h
    (ap (λ f. f.runs) c.put_silence.ensures.keeps.card) (ap (λ f. f.plan) c.put_silence.ensures.keeps.card)
    (c.put_silence.ensures.shows (turned t state.Running t.kept true t.card.plan)
    (Shows-turned c.args.self.now _ t state.Running t.kept true t.card.plan
    (record { dir = refl; long_max = refl; runtime = refl; model = refl; taken = refl; to_give = refl; position = refl }) refl shows.kept shows)
    (placed-turned t state.Running t.kept true t.card.plan (Sound-placed t (Sound-asked act.Start s h.sound))))

pub returns-in-Prepare-clause-done : goal.returns-in-Prepare-clause-done
returns-in-Prepare-clause-done g c s h =
    posted c.args.act (act.Prepare c.in-Prepare.stop_first) c.args.self.now c.post_prepare.new.self s c.in-Prepare.is c.requires.stop h
    c.post_prepare.ensures.runs c.post_prepare.ensures.plan (c.post_prepare.ensures.shows s h.shows)

pub returns-in-Pause-clause-done : goal.returns-in-Pause-clause-done
returns-in-Pause-clause-done g c s h =
    let t : Stream = consulted s in
    let shows : Shows {C = g.row.C.Denot} {g = g.C.Card} c.args.self.now t = Shows-asked act.Pause c.args.self.now s h.shows in
    posted c.args.act act.Pause c.args.self.now _ s c.in-Pause.is c.requires.stop h refl refl
    (Shows-turned c.args.self.now _ t state.Paused t.kept false t.card.plan
    (record { dir = refl; long_max = refl; runtime = refl; model = refl; taken = refl; to_give = refl; position = refl }) refl shows.kept shows)

pub returns-in-Release-clause-done : goal.returns-in-Release-clause-done
returns-in-Release-clause-done g c s h =
    let t : Stream = consulted s in
    let shows : Shows {C = g.row.C.Denot} {g = g.C.Card} c.args.self.now t = Shows-asked act.Release c.args.self.now s h.shows in
    posted c.args.act act.Release c.args.self.now _ s c.in-Release.is c.requires.stop h refl refl
    (Shows-turned c.args.self.now _ t state.Running t.kept true t.card.plan
    (record { dir = refl; long_max = refl; runtime = refl; model = refl; taken = refl; to_give = refl; position = refl }) refl shows.kept shows)

pub returns-in-Suspend-clause-done : goal.returns-in-Suspend-clause-done
returns-in-Suspend-clause-done g c s h =
    posted c.args.act act.Suspend c.args.self.now _ s c.in-Suspend.is c.requires.stop h refl refl
    (Shows-turned c.args.self.now _ s state.Suspended (Some s.state) false s.card.plan
    (record { dir = refl; long_max = refl; runtime = refl; model = refl; taken = refl; to_give = refl; position = refl }) refl (ap Some h.shows.state) h.shows)

pub returns-in-Resume-clause-done : goal.returns-in-Resume-clause-done
returns-in-Resume-clause-done g c s h =
    posted c.args.act act.Resume c.args.self.now c.post_resume.new.self s c.in-Resume.is c.requires.stop h
    (ap (λ f. f.runs) c.post_resume.ensures.keeps.card) (ap (λ f. f.plan) c.post_resume.ensures.keeps.card)
    (c.post_resume.ensures.shows (asked s act.Resume) (Shows-asked act.Resume c.args.self.now s h.shows))

pub returns-in-Drain-clause-done : goal.returns-in-Drain-clause-done
returns-in-Drain-clause-done g c s h =
    posted c.args.act act.Drain c.args.self.now c.post_drain.new.self s c.in-Drain.is c.requires.stop h
    (ap (λ f. f.runs) c.post_drain.ensures.keeps.card) (ap (λ f. f.plan) c.post_drain.ensures.keeps.card)
    (c.post_drain.ensures.shows (asked s act.Drain) (Shows-asked act.Drain c.args.self.now s h.shows) (Sound-asked act.Drain s h.sound))

pub returns-in-Stop-clause-done : goal.returns-in-Stop-clause-done
returns-in-Stop-clause-done g c s h =
    posted c.args.act (act.Stop c.in-Stop.state) c.args.self.now c.post_stop.new.self s c.in-Stop.is c.requires.stop h (ap (λ f. f.runs) c.post_stop.ensures.keeps.card) (ap (λ f. f.plan) c.post_stop.ensures.keeps.card)
    (c.post_stop.ensures.shows s h.shows)
