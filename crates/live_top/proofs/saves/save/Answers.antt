use Rattle.std.proofs.Common.{List, ℕ, subst}
use Rattle.pcm_io.specs.Shelf.{Stores}
use Rattle.live_top.specs.Files.{file_of}
use Rattle.live_top.proofs.Saving.{store_one}
use Rattle.live_top.proofs.saves.save.Goals as goal

pub returns-in-Ok-clause-saved : goal.returns-in-Ok-clause-saved
returns-in-Ok-clause-saved g c s stands =
    let F = g.F.Shelf in
    store_one c.args.name.now c.in-Ok-Some.file.items (file_of s) (F.files c.args.shelf.now) (F.files c.store.new.self) (rw c.in-Ok-Some.field-0-is at (c.in-Ok-Some.ensures s stands))
    (subst (λ (l : List ℕ). Stores (F.files c.args.shelf.now) (F.files c.store.new.self) c.args.name.now l) c.deref.ensures.value c.in-Ok.ensures.stored)
