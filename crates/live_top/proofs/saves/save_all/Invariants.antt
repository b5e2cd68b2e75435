use Rattle.std.proofs.Common.{◌≡◌, ℕ, List, take}
use Rattle.pcm_base.specs.model.Stream.{Stream}
use Rattle.pcm_io.specs.Shelf.{Stay}
use Rattle.floor_rule.specs.declared.entry.Entry.{Entry}
use Rattle.live_top.specs.Ends.{AreOf}
use Rattle.live_top.specs.Files.{saved}
use Rattle.live_top.proofs.saves.save_all.Given as goal

-- the files are those that the saves before leave
abbrev pub invariant-saves : goal.invariant-saves
invariant-saves g l =
    let F = g.F.Shelf in
    record {
      files : (logs : ℕ → List Entry) (streams : ℕ → Stream) → AreOf logs streams l.all
          → Stay (saved streams (take l.line-index l.plan.saves.items) (F.files l.fn.shelf)) (F.files l.shelf);
      kept : F.faults l.shelf ≡ F.faults l.fn.shelf;
    }
