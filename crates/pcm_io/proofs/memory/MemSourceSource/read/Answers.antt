use Rattle.std.proofs.Common.{◌≡◌, ◌+◌, ◌-◌, arith, length, take, drop, ◌≤◌, length-drop, ◌∙◌}
use Rattle.std.proofs.lemmas.List.{drop_all, length-take, take_all}
use Rattle.pcm_io.proofs.Taken.{front_taken}
use Rattle.pcm_io.proofs.memory.MemSourceSource.read.Goals as goal

pub returns-clause-bytes : goal.returns-clause-bytes
returns-clause-bytes c =
    let at = c.self.inside.at in
    let bytes = c.self.inside.bytes.items in
    let n = c.min-count.result in
    let size = length-drop at bytes in
    let same = c.deref-2.ensures.value in
    let long = c.deref-2.ensures.len in
    let sliced = length-take (length c.deref-2.result.now - at) (drop at c.deref-2.result.now) in
    let sliced_from = length-drop at c.deref-2.result.now in
    let ok = c.self.inside.bytes.ok.0 in
    let fits : n ≤ length (drop at bytes) = omega arith in
    let rest = take_all (length c.deref-2.result.now - at) (drop at c.deref-2.result.now) (omega arith) in
    let put : c.copy_from_slice.new.self ≡ take n (drop at bytes) = c.copy_from_slice.ensures.after ∙ (rw (rest, same)) in
    (rw (← c.self.view_is) (front_taken n at bytes c.copy_from_slice.new.self _ put fits), λ zero some. drop_all (at + n) bytes (omega arith))
