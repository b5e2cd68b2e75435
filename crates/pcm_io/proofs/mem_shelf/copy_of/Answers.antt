use Rattle.std.proofs.Common.{rules, ◌≡◌, ℕ, List, Some, take, sym, ◌∙◌, ap}
use Rattle.std.specs.FinMap.{get}
use Rattle.pcm_io.specs.Shelf.{first_bytes}
use Rattle.pcm_io.specs.declared.shelf.TheConstants.{LOAD_LIMIT}
use Rattle.pcm_io.specs.MemFiles.{files_in}
use Rattle.pcm_io.proofs.Taken.{take_min}
use Rattle.pcm_io.proofs.mem_shelf.copy_of.Goals as goal

pub returns-clause-found : goal.returns-clause-found
unfolding first_bytes
returns-clause-found c =
    let bytes = c.in-Some.bytes.now in
    let found : get (files_in c.args.files.now) c.args.name.now ≡ Some bytes = sym c.in-Some.ensures in
    let copied : c.in_ok-copy.copy.items ≡ take c.min.result bytes = search rules in
    rw found (ap (λ (l : List ℕ). Some l) (copied ∙ (rw c.min.ensures (take_min LOAD_LIMIT bytes))))
