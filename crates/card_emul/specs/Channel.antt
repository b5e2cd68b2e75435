-- What holds of the fields of every channel of a card.
use Rattle.std.specs.Prelude.{◌≡◌, ◌<◌}
use Rattle.std.specs.Option.{ForSome, ForNone}
use Rattle.pcm_base.specs.CardFacts.{HasChannels}
use Rattle.pcm_base.specs.Shape.{IsSoundShape}
use Rattle.card_emul.specs.declared.channel.Channel.TheInside.{Inside}

pub record IsSoundChannel (c : Inside) : Type 0 where
  pub shape : ForSome c.shape (λ s. IsSoundShape s)
  pub below : ForSome c.shape (λ s. c.position < s.buffer)
  pub before : ForNone c.shape (c.position ≡ 0)
  pub channels : HasChannels c.model
