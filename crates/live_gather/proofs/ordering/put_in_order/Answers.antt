use Rattle.std.proofs.Common.{◌<◌, ◌≡◌, length, ◌∙◌, arith}
use Rattle.live_gather.proofs.OrderLemmas.{all_swapped, among_swapped, order_swapped}
use Rattle.live_gather.proofs.ordering.put_in_order.Goals as goal

pub loop-number-preserved : goal.loop-number-preserved
loop-number-preserved c =
    let inv = c.loop-number.invariant in
    let xs = c.loop-number.all.items in
    let ys = c.swap.new.self.items in
    let size = inv.size in
    let first : c.loop-number.number < length xs = omega (arith, size, c.len-number-end.ensures, c.args.all.now.ok.0, c.loop-number-test.true) in
    let count : length ys ≡ length xs = omega (arith, c.swap.ensures.len, c.swap.new.self.ok.0, c.loop-number.all.ok.0) in
    let s = c.swap.ensures.by_index in
    let place = c.place_of-place.ensures in
    record {
      size = count ∙ size;
      whole = all_swapped xs ys c.loop-number.number c.place_of-place.result s count first place.within (length c.args.all.now.items) inv.whole;
      order = order_swapped xs ys c.loop-number.number c.place_of-place.result s count first place.within inv.order place.place;
      among = among_swapped xs ys c.loop-number.number c.place_of-place.result s count first place.within c.args.all.now.items inv.among;
    }
