use Rattle.std.proofs.Common.{◌<◌, length, length-set, refl, ◌∙◌, arith}
use Rattle.std.proofs.lemmas.Option.{slice_get_read}
use Rattle.room_lock.proofs.ReadyLemmas.{knows_set, spare_on}
use Rattle.room_lock.proofs.ready.reserve_all.Goals as goal

pub returns-in_err-reserve-clause-same : goal.returns-in_err-reserve-clause-same
returns-in_err-reserve-clause-same g c =
    let cur = c.loop-i.recs.items in
    let size = c.loop-i.invariant.size in
    let at = slice_get_read cur (length cur) c.loop-i.i c.index_mut.result.now refl (omega (arith, size, c.len-i-end.ensures, c.loop-i-test.true)) c.index_mut.ensures.value in
    knows_set cur c.loop-i.i c.index_mut.result.now c.reserve.new.self at c.reserve.ensures.same ∙ c.loop-i.invariant.same

pub loop-i-preserved : goal.loop-i-preserved
loop-i-preserved g c =
    let cur = c.loop-i.recs.items in
    let size = c.loop-i.invariant.size in
    let lt : c.loop-i.i < length cur = omega (arith, size, c.len-i-end.ensures, c.loop-i-test.true) in
    let at = slice_get_read cur (length cur) c.loop-i.i c.index_mut.result.now refl lt c.index_mut.ensures.value in
    record {
      same = knows_set cur c.loop-i.i c.index_mut.result.now c.reserve.new.self at c.reserve.ensures.same ∙ c.loop-i.invariant.same;
      spare = spare_on cur c.loop-i.i c.reserve.new.self lt c.in_ok-reserve.ensures.room c.loop-i.invariant.spare;
      size = length-set cur c.loop-i.i c.reserve.new.self ∙ size;
    }
