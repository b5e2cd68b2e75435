use Rattle.card_emul.proofs.channel.ChannelCard.give_into.Goals as goal

pub advanced_by-self-inside-requires-clause-sound :
    goal.advanced_by-self-inside-requires-clause-sound
advanced_by-self-inside-requires-clause-sound c = c.self.invariant.shape _ c.unwrap-shape.ensures
