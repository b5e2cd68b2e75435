use Rattle.pcm_laws.proofs.ShownPointers.{avail-shown, avail-shown_playback, avail-shown_capture, unreported-shown, slot-shown, shown-sync_to}
use Rattle.pcm_laws.proofs.pointer.streams.Goals as goal

pub returns-clause-avail : goal.returns-clause-avail
returns-clause-avail c = avail-shown

pub returns-clause-playback : goal.returns-clause-playback
returns-clause-playback c = avail-shown_playback

pub returns-clause-capture : goal.returns-clause-capture
returns-clause-capture c = avail-shown_capture

pub returns-clause-unreported : goal.returns-clause-unreported
returns-clause-unreported c = unreported-shown

pub returns-clause-slot : goal.returns-clause-slot
returns-clause-slot c = slot-shown

pub returns-clause-sync : goal.returns-clause-sync
returns-clause-sync c = shown-sync_to
