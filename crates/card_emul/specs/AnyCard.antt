-- What an emulated card shows, however it is wired. This project's own.
use Rattle.card_emul.specs.declared.any_card.Wiring.{Wiring}
use Rattle.card_emul.specs.declared.any_card.Wiring.TheVariants.{Direct, Indirect}
use Rattle.card_emul.specs.EmulatedCard.{EmulatedCard}
use Rattle.indirect_card.specs.IndirectCard.{inner_of}

-- the channel that the frames reach
abbrev pub channel_in : Wiring → EmulatedCard
channel_in (Direct c) = c
channel_in (Indirect c) = inner_of c
