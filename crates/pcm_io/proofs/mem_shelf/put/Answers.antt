use Rattle.std.proofs.Common.{rules, ◌≡◌, None, refl, sym, ◌∙◌, ap}
use Rattle.std.specs.List.{position}
use Rattle.std.specs.Str.{bytes_eq}
use Rattle.std.specs.FinMap.{insert}
use Rattle.pcm_io.specs.MemFiles.{files_in}
use Rattle.pcm_io.proofs.Files.{position-stands, files_in-set, files_in-push}
use Rattle.pcm_io.proofs.mem_shelf.put.Goals as goal

-- the bytes in place of the old ones
pub returns-in-Some-clause-ok : goal.returns-in-Some-clause-ok
returns-in-Some-clause-ok c =
    let files = c.args.files.now.items in
    let was = c.index_mut.result.now in
    let place = position-stands c.args.name.now files c.in-Some.at (search rules) in
    let copied : c.in_ok-bytes.bytes.items ≡ c.args.bytes.now = search rules in
    files_in-set c.args.name.now files c.in-Some.at was (record { name = was.name; bytes = c.in_ok-bytes.bytes }) place (sym c.index_mut.ensures.value) refl
    ∙ ap (insert (files_in files) c.args.name.now) copied

-- a file of a new name
pub returns-clause-ok : goal.returns-clause-ok
returns-clause-ok c =
    let files = c.args.files.now.items in
    let copied : c.in_ok-bytes.bytes.items ≡ c.args.bytes.now = search rules in
    let named : c.in_ok-name.name.items ≡ c.args.name.now = search rules in
    let none : position (λ f. bytes_eq c.args.name.now f.name.items) files ≡ None = search rules in
    ap files_in c.in_ok-push.ensures.items
    ∙ files_in-push c.args.name.now files (record { name = c.in_ok-name.name; bytes = c.in_ok-bytes.bytes }) named none
    ∙ ap (insert (files_in files) c.args.name.now) copied
