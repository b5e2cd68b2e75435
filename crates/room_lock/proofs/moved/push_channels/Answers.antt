use Rattle.std.proofs.Common.{◌<◌, ◌++◌, ℕ, List, length, ap, sym, ◌∙◌, append_assoc, drop, length-append, length-drop, length-take, ◌-◌, arith}
use Rattle.ring_memory.specs.Round.{part}
use Rattle.room_lock.specs.Moved.{parts}
use Rattle.room_lock.proofs.PartLemmas.{one-less, parts-step}
use Rattle.room_lock.proofs.moved.push_channels.Goals as goal

pub push_piece-requires-clause-within : goal.push_piece-requires-clause-within
push_piece-requires-clause-within c =
    let e = one-less c.channels.left c.args.area (omega (arith, c.channels-test.true)) in
    let a = c.channels.invariant.areas in
    let w = c.requires.within in
    omega (arith, e, a, w)

pub push_piece-requires-clause-room : goal.push_piece-requires-clause-room
push_piece-requires-clause-room c =
    let e = one-less c.channels.left c.args.size (omega (arith, c.channels-test.true)) in
    let a = c.channels.invariant.room in
    omega (arith, e, a)

pub behind-rest-requires : goal.behind-rest-requires
behind-rest-requires c =
    let e = one-less c.channels.left c.args.area (omega (arith, c.channels-test.true)) in
    let a = c.channels.invariant.areas in
    omega (arith, e, a)

pub channels-preserved : goal.channels-preserved
channels-preserved c =
    let left : ℕ = c.channels.left in
    let some : 0 < left = omega (arith, c.channels-test.true) in
    let rest : List ℕ = c.channels.rest.now in
    let a : ℕ = c.args.area in
    let f : ℕ = c.args.from in
    let n : ℕ = c.args.size in
    let step = parts-step left a f n rest some in
    let areas = one-less left a some in
    let sizes = one-less left n some in
    let e = c.channels.invariant.areas in
    let r = c.channels.invariant.room in
    let size = ap length c.behind-rest.ensures ∙ length-drop a rest in
    let pushed = ap length c.push_piece.ensures.items ∙ length-append c.channels.bytes.items (part f n rest) in
    let taken = length-take n (drop f rest) in
    let same = c.push_piece.ensures.room in
    record {
      items = ap (λ (l : List ℕ). l ++ parts (left - 1) a f n c.behind-rest.result.now) c.push_piece.ensures.items
          ∙ append_assoc c.channels.bytes.items (part f n rest) (parts (left - 1) a f n c.behind-rest.result.now)
          ∙ ap (λ (l : List ℕ). c.channels.bytes.items ++ (part f n rest ++ parts (left - 1) a f n l)) c.behind-rest.ensures
          ∙ sym (ap (λ (l : List ℕ). c.channels.bytes.items ++ l) step) ∙ c.channels.invariant.items;
      areas = omega (arith, areas, e, size);
      room = omega (arith, sizes, r, pushed, taken, same, c.push_piece.new.bytes.ok.0, c.channels.bytes.ok.0);
    }
