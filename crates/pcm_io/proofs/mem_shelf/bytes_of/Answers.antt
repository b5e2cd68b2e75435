use Rattle.std.proofs.Common.{ℕ, List, sym, ◌∙◌, Some, ap}
use Rattle.pcm_io.specs.declared.mem_shelf.File.{File}
use Rattle.pcm_io.proofs.Files.{position-stands, position-none, find-stands, get-files_in}
use Rattle.pcm_io.proofs.mem_shelf.bytes_of.Goals as goal

pub returns-in-Some : goal.returns-in-Some
returns-in-Some c =
    let place = position-stands c.args.name.now c.args.files.now c.in-Some.at (sym c.in-Some.ensures) in
    let found = find-stands c.args.name.now c.args.files.now c.in-Some.at c.index-files-at.result place (sym c.index-files-at.is) in
    sym (get-files_in c.args.files.now c.args.name.now ∙ found
    ∙ ap (λ (f : File). Some f.bytes.items) c.index-files-at.is ∙ ap (λ (l : List ℕ). Some l) (sym c.as_slice.ensures.value))

pub returns-in-None : goal.returns-in-None
returns-in-None c =
    sym (get-files_in c.args.files.now c.args.name.now ∙ position-none c.args.name.now c.args.files.now (sym c.in-None.ensures))
