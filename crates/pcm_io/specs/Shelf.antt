-- The files of a shelf, and what its calls make of them. This project's own.
use Rattle.std.specs.Prelude.{◌≡◌, ◌≢◌, ◌≤◌, ℕ, List, take, ⊤, IsErrOf, OnOk, Result}
use Rattle.std.specs.declared.option.Option.{Option}
use Rattle.std.specs.declared.option.Option.TheVariants.{Some, None}
use Rattle.std.specs.Ordering.{nat_cmp}
use Rattle.std.specs.Cmp.Lexicographic.{slice_cmp}
use Rattle.std.specs.FinMap.{FinMap, get, insert}
use Rattle.pcm_base.specs.Causes.{Rose}
use Rattle.pcm_io.specs.declared.reading.ReadEnd.{ReadEnd}
use Rattle.pcm_io.specs.declared.reading.ReadEnd.TheVariants as read
use Rattle.pcm_io.specs.declared.shelf.ShelfError.{ShelfError}
use Rattle.pcm_io.specs.declared.shelf.ShelfError.TheVariants.{Failed, Memory}
use Rattle.pcm_io.specs.declared.shelf.TheConstants.{LOAD_LIMIT}

-- why a shelf fails where a reading of a file does
abbrev pub shelf_error_of : ReadEnd → ShelfError
shelf_error_of read.Failed = Failed
shelf_error_of read.Memory = Memory

-- bytes by name
abbrev pub Files : Type 0
Files = FinMap (slice_cmp nat_cmp) (List ℕ)

-- what a load gives of a file: as many bytes as the limit, or all
unfoldable pub first_bytes : List ℕ → List ℕ
first_bytes bytes = take LOAD_LIMIT bytes

-- told files stay
abbrev pub Stay : Option Files → Option Files → Type 0
Stay None new = ⊤
Stay (Some old) None = ⊥
Stay (Some old) (Some new) = new ≡ old

-- told files have these bytes under the name, and the others stay
abbrev pub Stores : Option Files → Option Files → List ℕ → List ℕ → Type 0
Stores None new name bytes = ⊤
Stores (Some old) None name bytes = ⊥
Stores (Some old) (Some new) name bytes = new ≡ insert old name bytes

-- told files stay under every other name
abbrev pub OthersStay : Option Files → Option Files → List ℕ → Type 0
OthersStay None new name = ⊤
OthersStay (Some old) None name = ⊥
OthersStay (Some old) (Some new) name = (other : List ℕ) → other ≢ name → get new other ≡ get old other

-- the count has not fallen; at Failed it rose; at any other answer it is as before
pub record HasShelfCause {T : Type 0} (before now : ℕ) (result : Result T ShelfError) : Type 0 where
  pub later : before ≤ now
  pub failed : IsErrOf result Failed → Rose before now
  pub memory : IsErrOf result Memory → now ≡ before
  pub kept : OnOk result (now ≡ before)
