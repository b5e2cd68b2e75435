-- The rule: what the words hold, and that each seat knows a part of one whole. This project's own.
use Rattle.std.specs.Prelude.{◌≡◌, ◌≢◌, ◌⊎◌, ℕ, ◌+◌, ◌<◌, ◌≤◌, List, [], ◌∷◌, length, get_or}
use mathlib.Core.Option.{some}
use lib.ListN.{get_elem?}
use Rattle.atomic_table.specs.Table.{State}
use Rattle.floor_rule.specs.declared.rule.Lists.{Lists}
use Rattle.floor_rule.specs.declared.rule.Made.{Made}
use Rattle.floor_rule.specs.declared.rule.MakerKnows.{MakerKnows}
use Rattle.floor_rule.specs.declared.rule.Marked.{Marked}
use Rattle.floor_rule.specs.declared.rule.PassKnows.{PassKnows}
use Rattle.floor_rule.specs.declared.rule.RecKnows.{RecKnows}
use Rattle.floor_rule.specs.declared.rule.View.{View}
use Rattle.floor_rule.specs.declared.rule.View.TheVariants.{Maker, Rec, Pass, Note, Spent}
use Rattle.floor_rule.specs.Causes.{AllBacked, AllReceived}
use Rattle.floor_rule.specs.Lists.{AllBegin}
use Rattle.floor_rule.specs.Marks.{IsOnce}
use Rattle.floor_rule.specs.Pages.{pack_at, AllLow, AllRead}

abbrev pub first_view : ℕ → View
first_view cards = Maker (record { recs = 0; passes = 0; roll = [] })

-- The whole, of which each seat knows a part: the marked log and the place of each substream, the calls of each pass, and which seat is the maker's, that of each rec and that of each pass.
pub record Whole : Type 0 where
  pub logs : ℕ → List Marked
  pub places : ℕ → ℕ
  pub calls : ℕ → List Made
  pub recs : ℕ
  pub passes : ℕ
  pub maker : ℕ
  pub rec_seats : ℕ → ℕ
  pub pass_seats : ℕ → ℕ

-- what a seat was told is a beginning of the whole
pub record Holds (f : ℕ → List Marked) (c : ℕ → List Made) (l : Lists) : Type 0 where
  pub logs : AllBegin f l.logs
  pub calls : AllBegin c l.calls
  pub reads : AllRead f l.reads

-- the recs that a seat has taken in are its own, and each is there once
abbrev pub AllAt : ℕ → (ℕ → ℕ) → ℕ → List ℕ → Type 0
AllAt recs seats id [] = Unit {0}
AllAt recs seats id (j ∷ js) = (j < recs) × (id ≡ seats j) × AllAt recs seats id js

abbrev pub IsNone : ℕ → List ℕ → Type 0
IsNone j [] = Unit {0}
IsNone j (i ∷ is) = (i ≢ j) × IsNone j is

abbrev pub Distinct : List ℕ → Type 0
Distinct [] = Unit {0}
Distinct (j ∷ js) = IsNone j js × Distinct js

abbrev pub Among : ℕ → List ℕ → Type 0
Among j [] = ⊥
Among j (i ∷ is) = (i ≡ j) ⊎ Among j is

pub record MakerFits (some_recs some_passes maker : ℕ) (seats : ℕ → ℕ) (id : ℕ) (m : MakerKnows) : Type 0 where
  pub seat : id ≡ maker
  pub recs : m.recs ≡ some_recs
  pub passes : m.passes ≡ some_passes
  pub roll : AllAt some_recs seats id m.roll
  pub apart : Distinct m.roll

pub record RecFits (logs : ℕ → List Marked) (places : ℕ → ℕ) (calls : ℕ → List Made) (recs : ℕ) (seats : ℕ → ℕ) (id : ℕ) (r : RecKnows) : Type 0 where
  pub made : r.sub < recs
  pub seat : id ≡ seats r.sub
  pub log : r.log ≡ logs r.sub
  pub place : r.place ≡ places r.sub
  pub held : Holds logs calls r.held

-- the calls up to the receipts' count have their entries, and one call at most has no receipt
pub record PassFits (logs : ℕ → List Marked) (c : ℕ → List Made) (passes : ℕ) (seats : ℕ → ℕ) (id : ℕ) (p : PassKnows) : Type 0 where
  pub made : p.number < passes
  pub seat : id ≡ seats p.number
  pub calls : p.calls ≡ c p.number
  pub received : AllReceived logs p.number 0 p.receipts
  pub few : length p.receipts ≤ length p.calls
  pub one : length p.calls ≤ length p.receipts + 1
  pub reads : AllRead logs p.reads
  pub held : Holds logs c p.held

abbrev pub Fits : Whole → ℕ → View → Type 0
Fits w id (Maker m) = MakerFits w.recs w.passes w.maker w.rec_seats id m
Fits w id (Rec r) = RecFits w.logs w.places w.calls w.recs w.rec_seats id r
Fits w id (Pass p) = PassFits w.logs w.calls w.passes w.pass_seats id p
Fits w id (Note l) = Holds w.logs w.calls l
Fits w id Spent = Unit {0}

-- who has a seat
pub data Owner : Type 0 where
  the_maker : Owner
  the_rec : ℕ → Owner
  the_pass : ℕ → Owner

abbrev pub Exists : ℕ → ℕ → Owner → Type 0
Exists recs passes the_maker = Unit {0}
Exists recs passes (the_rec j) = j < recs
Exists recs passes (the_pass n) = n < passes

abbrev pub seat_of : ℕ → (ℕ → ℕ) → (ℕ → ℕ) → Owner → ℕ
seat_of maker recs passes the_maker = maker
seat_of maker recs passes (the_rec j) = recs j
seat_of maker recs passes (the_pass n) = passes n

abbrev pub IsMakerView : View → Type 0
IsMakerView (Maker m) = Unit {0}
IsMakerView _ = ⊥

-- it is the view of rec j; the maker has those of the recs that it has taken in
abbrev pub IsRecView : ℕ → View → Type 0
IsRecView j (Maker m) = Among j m.roll
IsRecView j (Rec r) = r.sub ≡ j
IsRecView j _ = ⊥

abbrev pub IsPassView : ℕ → View → Type 0
IsPassView n (Pass p) = p.number ≡ n
IsPassView n _ = ⊥

abbrev pub Owns : Owner → View → Type 0
Owns the_maker v = IsMakerView v
Owns (the_rec j) v = IsRecView j v
Owns (the_pass n) v = IsPassView n v

abbrev pub There : List View → ℕ → Owner → Type 0
There views id o = (v : View) × (get_elem? views id ≡ some v) × Owns o v

-- the words of one substream, and the bounds of its log and place; both are those of the beginning where it has no rec yet
pub record CardWords (cards : ℕ) (words : List ℕ) (logs : ℕ → List Marked) (places : ℕ → ℕ) (recs : ℕ) (j : ℕ) : Type 0 where
  pub page : get_or words j 0 ≡ pack_at (logs j) (length (logs j))
  pub place : get_or words (cards + j) 0 ≡ places j
  pub below : places j < 32
  pub low : AllLow (logs j)
  pub short : length (logs j) ≤ 16777215
  pub fresh : recs ≤ j → (logs j ≡ []) × (places j ≡ j)

-- What the words hold of the whole, that each entry comes from a call or an entry and no call has two in one log, and that every view fits. A pass that is not made has no calls, and a number that no card has no log, so that each cause stands in the log of a card.
pub record KeptBy (cards : ℕ) (s : State (Unit {0}) View) (w : Whole) : Type 0 where
  pub count : length s.words ≡ cards + cards
  pub recs : w.recs ≤ cards
  pub words : (j : ℕ) → j < cards → CardWords cards s.words w.logs w.places w.recs j
  pub backed : (j : ℕ) → AllBacked w.logs w.calls j (w.logs j)
  pub once : (j : ℕ) → IsOnce [] (w.logs j)
  pub quiet : (n : ℕ) → w.passes ≤ n → w.calls n ≡ []
  pub beyond : (j : ℕ) → cards ≤ j → w.logs j ≡ []
  pub views : (id : ℕ) (v : View) → get_elem? s.views id ≡ some v → Fits w id v
  pub there : (o : Owner) → Exists w.recs w.passes o → There s.views (seat_of w.maker w.rec_seats w.pass_seats o) o

-- the rule of a table of so many substreams
abbrev pub Kept : ℕ → State (Unit {0}) View → Type 0
Kept cards s = (cards ≤ 16) × ((w : Whole) × KeptBy cards s w)
