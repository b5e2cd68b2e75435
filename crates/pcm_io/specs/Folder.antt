-- The folder of a shelf of files. This project's own.
use Rattle.std.specs.Prelude.{ℕ, List}
use Rattle.pcm_io.specs.declared.folder.FolderShelf.{FolderShelf}

-- the path of the folder
abbrev pub folder_of : {F : Type 0} → FolderShelf F → List ℕ
folder_of s = s.folder.now
