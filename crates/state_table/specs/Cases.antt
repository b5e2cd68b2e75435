-- The answer in a row of the error table.
use Rattle.std.specs.Prelude.{ℕ, List, slice_index_or, Result, Ok, Err}
use Rattle.std.specs.declared.option.Option.{Option}
use Rattle.std.specs.declared.option.Option.TheVariants.{Some, None}
use Rattle.pcm_base.specs.declared.state.Dir.{Dir}
use Rattle.pcm_base.specs.declared.state.Errno.{Errno}
use Rattle.pcm_base.specs.declared.state.State.{State}
use Rattle.pcm_base.specs.model.Permit.{cells}

-- Ok where the cell allows the call, else its error
abbrev pub answer_of : Option Errno → Result (Unit {0}) Errno
answer_of None = Ok tt
answer_of (Some errno) = Err errno

-- the cell of a state and a direction, in a row with a cell for each column
abbrev pub cell_in : List (Option Errno) → State → Dir → Option Errno
cell_in row s d =
    let column : ℕ → Option Errno = λ n. slice_index_or row n None in
    cells d s (column 0) (column 1) (column 2) (column 3) (column 4) (column 5) (column 6) (column 7) (column 8) (column 9)
