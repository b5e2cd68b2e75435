-- What contracts see of an indirect card: the card behind it, and its hardware buffer. This project's own.
use Rattle.std.specs.Prelude.{ℕ}
use Rattle.pcm_base.specs.declared.card.Card.{Ghosts}
use Rattle.pcm_base.specs.CardFacts.{CardFacts}
use Rattle.indirect_card.specs.declared.card.IndirectCard.{IndirectCard}
use Rattle.indirect_card.specs.Hardware.{Hardware}

-- the card that the frames pass on to, or come from
abbrev pub inner_of : {C : Type 0} {g : Ghosts C} → IndirectCard C g → C
inner_of {C} {g} c = c.inner

-- the buffer that they pass through
abbrev pub hardware_of : {C : Type 0} {g : Ghosts C} → IndirectCard C g → Hardware
hardware_of {C} {g} c = c.buffer

-- the facts of an indirect card, its room and its count of faults are those of the inner card
abbrev pub facts_of : {C : Type 0} {g : Ghosts C} → IndirectCard C g → CardFacts
facts_of {C} {g} c = g.facts c.inner

abbrev pub room_of : {C : Type 0} {g : Ghosts C} → IndirectCard C g → ℕ
room_of {C} {g} c = g.room c.inner

abbrev pub faults_of : {C : Type 0} {g : Ghosts C} → IndirectCard C g → ℕ
faults_of {C} {g} c = g.faults c.inner
