use Rattle.pcm_laws.proofs.KeptByMoves.{Sound-update}
use Rattle.pcm_laws.proofs.KeptByPrograms.{Sound-back_by, Sound-on_by, Sound-sync_to, Sound-put_next}
use Rattle.pcm_laws.proofs.KeptByEvents.{Sound-move, Sound-unplugged, stands-stopped}
use Rattle.pcm_laws.proofs.sound.changes.Goals as goal

pub returns-clause-update : goal.returns-clause-update
returns-clause-update c = Sound-update

pub returns-clause-movement : goal.returns-clause-movement
returns-clause-movement c = Sound-move

pub returns-clause-rewind : goal.returns-clause-rewind
returns-clause-rewind c = Sound-back_by

pub returns-clause-forward : goal.returns-clause-forward
returns-clause-forward c = Sound-on_by

pub returns-clause-sync : goal.returns-clause-sync
returns-clause-sync c = Sound-sync_to

pub returns-clause-put : goal.returns-clause-put
returns-clause-put c = Sound-put_next

pub returns-clause-stop : goal.returns-clause-stop
returns-clause-stop c = stands-stopped

pub returns-clause-unplug : goal.returns-clause-unplug
returns-clause-unplug c = Sound-unplugged
