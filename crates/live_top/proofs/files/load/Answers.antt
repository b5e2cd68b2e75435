use Rattle.live_top.proofs.Loading.{load_ends, load_found}
use Rattle.live_top.proofs.files.load.Goals as goal

pub returns-in-Ok-Some-clause-found : goal.returns-in-Ok-Some-clause-found
returns-in-Ok-Some-clause-found g c =
    load_found c.wav_of.result (g.F.Shelf.files c.args.shelf.now) c.args.name.now c.in-Ok-Some.bytes.items c.deref.result.now c.deref.ensures.value (rw c.in-Ok-Some.field-0-is at c.in-Ok-Some.ensures.found) c.wav_of.ensures.few c.wav_of.ensures.found

pub returns-in-Ok-Some-clause-ended : goal.returns-in-Ok-Some-clause-ended
returns-in-Ok-Some-clause-ended g c =
    load_ends c.wav_of.result (g.F.Shelf.files c.args.shelf.now) c.args.name.now c.in-Ok-Some.bytes.items c.deref.result.now c.deref.ensures.value (rw c.in-Ok-Some.field-0-is at c.in-Ok-Some.ensures.found) c.wav_of.ensures.ended
