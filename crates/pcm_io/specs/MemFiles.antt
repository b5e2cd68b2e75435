-- What contracts see of a shelf in memory. This project's own.
use Rattle.std.specs.Prelude.{ℕ, List, map, refl}
use Rattle.std.specs.Coded.{Coded, code_by, coded×, coded_list, coded_ℕ}
use Rattle.std.specs.FinMap.{code, from_entries}
use Rattle.pcm_io.specs.Shelf.{Files}
use Rattle.pcm_io.specs.declared.mem_shelf.File.{File}

-- the files, the numbers of the calls that fail, the calls and the faults so far
pub record ShelfState : Type 0 where
  pub files : Files
  pub failing : List ℕ
  pub calls : ℕ
  pub faults : ℕ

-- a state is told apart as the tuple of its fields
abbrev pub shelf_code : Coded ShelfState
shelf_code =
    code_by (Files × (List ℕ × (ℕ × ℕ))) (coded× (code (coded_list coded_ℕ) (coded_list coded_ℕ)) (coded× (coded_list coded_ℕ) (coded× coded_ℕ coded_ℕ)))
    (λ s. (s.files, (s.failing, (s.calls, s.faults)))) (λ p. record { files = p.0; failing = p.1.0; calls = p.1.1.0; faults = p.1.1.1 }) (λ _. refl)

-- the names with their bytes
abbrev pub entries_of : List File → List (List ℕ × List ℕ)
entries_of files = map (λ f. (f.name.items, f.bytes.items)) files

-- the bytes by name, those of the first file of each name
abbrev pub files_in : List File → Files
files_in files = from_entries (entries_of files)
