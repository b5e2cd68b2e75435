-- What a clause sees of the words and of the seats. This project's own.
use Rattle.std.specs.Prelude.{◌≡◌, ℕ, []}
use Rattle.atomic_table.specs.Seated.{TableId}
use Rattle.atomic_table.specs.Table.{Me}
use Rattle.floor_rule.specs.declared.rule.Lists.{Lists}
use Rattle.floor_rule.specs.declared.rule.MakerKnows.{MakerKnows}
use Rattle.floor_rule.specs.declared.rule.PassKnows.{PassKnows}
use Rattle.floor_rule.specs.declared.rule.RecKnows.{RecKnows}
use Rattle.floor_rule.specs.declared.rule.View.{View}
use Rattle.floor_rule.specs.declared.rule.View.TheVariants.{Maker, Rec, Pass, Note}
use Rattle.floor_rule.specs.Views.{maker_of, note_of, pass_of, rec_of}

-- which table, and for how many substreams it has words
pub record Words : Type 0 where
  pub table : TableId
  pub cards : ℕ

-- of which table a seat is, and what it knows
pub record MakerSees : Type 0 where
  pub table : TableId
  pub knows : MakerKnows

pub record RecSees : Type 0 where
  pub table : TableId
  pub knows : RecKnows

pub record PassSees : Type 0 where
  pub table : TableId
  pub knows : PassKnows

pub record NoteSees : Type 0 where
  pub table : TableId
  pub lists : Lists

-- the seat has a view of this kind, and holds no slot

abbrev pub IsMaker : Me (Unit {0}) View → Type 0
IsMaker me = me ≡ (Maker (maker_of me.0), [])

abbrev pub IsRec : Me (Unit {0}) View → Type 0
IsRec me = me ≡ (Rec (rec_of me.0), [])

abbrev pub IsPass : Me (Unit {0}) View → Type 0
IsPass me = me ≡ (Pass (pass_of me.0), [])

abbrev pub IsNote : Me (Unit {0}) View → Type 0
IsNote me = me ≡ (Note (note_of me.0), [])
