use Rattle.pcm_laws.proofs.KeptByReplays.{Joins-sound, PlaysOwn-sound}
use Rattle.pcm_laws.proofs.sound.replays.Goals as goal

pub returns-clause-own : goal.returns-clause-own
returns-clause-own c = PlaysOwn-sound

pub returns-clause-joints : goal.returns-clause-joints
returns-clause-joints c = Joins-sound
