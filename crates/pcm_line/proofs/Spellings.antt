-- The spelling by cases is the one that the grammar gives.
use Rattle.std.proofs.Common.{◌≡◌, ℕ, List, refl, sym, ◌∙◌, ap}
use Rattle.pcm_line.specs.declared.line.Line.{Line}
use Rattle.pcm_line.specs.declared.keyword.Keyword.{Keyword}
use Rattle.pcm_line.specs.declared.keyword.Keyword.TheVariants as keyword
use Rattle.std.specs.Prelude.{Ok}
use Rattle.pcm_line.specs.Keywords.{text_of}
use Rattle.pcm_line.specs.Pieces.{joined}
use Rattle.pcm_line.specs.Forms.{Values, form_of}
use Rattle.pcm_line.specs.Grammar.{spellings, IsLine}
use Rattle.pcm_line.specs.Reading.{read_bytes}
use Rattle.pcm_line.specs.Spelling.{spelling}
use Rattle.pcm_line.proofs.GrammarLaws.{line-again}

spelling-means : (k : Keyword) (v : Values (form_of k).kinds) → spelling ((form_of k).means v) ≡ joined (text_of k) (spellings (form_of k).kinds v)
spelling-means keyword.Writei v = refl
spelling-means keyword.Move v = refl
spelling-means keyword.Irq v = refl
spelling-means keyword.Status v = refl
spelling-means keyword.Readi v = refl
spelling-means keyword.Writen v = refl
spelling-means keyword.Readn v = refl
spelling-means keyword.Store v = refl
spelling-means keyword.Load v = refl
spelling-means keyword.Rewind v = refl
spelling-means keyword.Forward v = refl
spelling-means keyword.Sync v = refl
spelling-means keyword.Hwsync v = refl
spelling-means keyword.Delay v = refl
spelling-means keyword.Page v = refl
spelling-means keyword.Poll v = refl
spelling-means keyword.Prepare v = refl
spelling-means keyword.Start v = refl
spelling-means keyword.Drop v = refl
spelling-means keyword.Drain v = refl
spelling-means keyword.Xrun v = refl
spelling-means keyword.Pause v = refl
spelling-means keyword.Release v = refl
spelling-means keyword.Suspend v = refl
spelling-means keyword.Resume v = refl
spelling-means keyword.Go v = refl
spelling-means keyword.Link v = refl
spelling-means keyword.Unlink v = refl
spelling-means keyword.Mmap v = refl
spelling-means keyword.Munmap v = refl
spelling-means keyword.Open v = refl
spelling-means keyword.Close v = refl
spelling-means keyword.Hw v = refl
spelling-means keyword.Hwfree v = refl
spelling-means keyword.Sw v = refl
spelling-means keyword.Long v = refl
spelling-means keyword.Card v = refl
spelling-means keyword.Fail v = refl
spelling-means keyword.Unplug v = refl
spelling-means keyword.Give v = refl
spelling-means keyword.Feed v = refl
spelling-means keyword.Save v = refl
spelling-means keyword.Space v = refl
spelling-means keyword.Beat v = refl
spelling-means keyword.Threads v = refl
spelling-means keyword.Join v = refl
spelling-means keyword.Version v = refl
spelling-means keyword.Carry v = refl
spelling-means keyword.Wire v = refl

pub is-spelling : (bytes : List ℕ) (line : Line) → IsLine bytes line → bytes ≡ spelling line
is-spelling bytes line is = is.spelling ∙ sym (spelling-means is.keyword is.values) ∙ ap spelling (sym is.means)

pub one-spelling : (a b : List ℕ) (line : Line) → IsLine a line → IsLine b line → a ≡ b
one-spelling a b line p q = is-spelling a line p ∙ sym (is-spelling b line q)

pub one-meaning : (bytes : List ℕ) (a b : Line) → IsLine bytes a → IsLine bytes b → a ≡ b
one-meaning bytes a b p q =
    let first : read_bytes bytes ≡ Ok a = line-again bytes a p in
    let second : read_bytes bytes ≡ Ok b = line-again bytes b q in
    cc
