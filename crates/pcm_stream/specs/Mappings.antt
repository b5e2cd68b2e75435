-- How often the buffer of a substream is mapped.
use Rattle.std.specs.Prelude.{ℕ}
use Rattle.std.specs.declared.option.Option.TheVariants.{Some, None}
use Rattle.pcm_base.specs.declared.card.Card.{Ghosts}
use Rattle.pcm_stream.specs.declared.substream.Substream.{Substream}

-- the mappings of a substream, none without a configuration
abbrev pub mappings_in : {C : Type 0} {g : Ghosts C} → Substream C g → ℕ
mappings_in {C} {g} sub = elim sub.runtime [ None ↦ 0 | Some r ↦ r.mappings ]
