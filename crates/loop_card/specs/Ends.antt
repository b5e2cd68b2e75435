-- What contracts see of the ends of a cable: what each end did, and what it knows. This project's own.
use Rattle.std.specs.Prelude.{ℕ, List}
use Rattle.rtrb.specs.Ring as ring
use Rattle.loop_card.specs.declared.ends.CableIn.{CableIn}
use Rattle.loop_card.specs.declared.ends.CableOut.{CableOut}

-- every byte that was pushed so far, and every byte that was pulled, the oldest first
abbrev pub pushed : CableIn → List ℕ
pushed i = ring.sent i.producer

abbrev pub pulled : CableOut → List ℕ
pulled o = ring.received o.consumer

-- how many slots the one end knows to be free, and the bytes that the other has seen and not yet pulled
abbrev pub known_free : CableIn → ℕ
known_free i = ring.known_free i.producer

abbrev pub known_bytes : CableOut → List ℕ
known_bytes o = ring.known_items o.consumer

-- how many bytes the cable holds
abbrev pub capacity_of : CableIn → ℕ
capacity_of i = ring.producer_capacity i.producer

-- the two ends of one cable
abbrev pub AreOfOneSplit : CableIn → CableOut → Type 0
AreOfOneSplit i o = ring.IsPair i.producer o.consumer

-- the same end of the same cable, whatever went through it
abbrev pub IsSameIn : CableIn → CableIn → Type 0
IsSameIn i j = ring.SameProducer i.producer j.producer

abbrev pub IsSameOut : CableOut → CableOut → Type 0
IsSameOut i j = ring.SameConsumer i.consumer j.consumer
