use Rattle.wav_file.specs.Recordings.{recording}
use Rattle.pcm_top.proofs.FeedLemmas.{fed-next}
use Rattle.pcm_top.proofs.feed.loaded_line.Goals as goal

pub returns-clause-ok : goal.returns-clause-ok
returns-clause-ok g c s none is =
    fed-next c.args.number c.args.sub c.args.name.now s (recording c.in_ok-wav.wav) c.args.session.now c.feed.new.world (g.F.Shelf.files c.args.shelf.now) (g.F.Shelf.files c.load.new.shelf) c.in_ok-told.told c.push_told.new.text none is
    c.in_ok-wav.ensures.found c.load.ensures.stay (c.in_ok-told.ensures.told s.world is.keeps.world) (c.in_ok-told.ensures.world s.world is.keeps.world) c.in_ok-push_told.ensures.ok
