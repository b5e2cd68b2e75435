use Rattle.std.proofs.Common.{◌≡◌, ◌+◌, ◌-◌, length, replicate, take, drop, ap, ◌∙◌, length-take, length-drop, length-append, arith}
use Rattle.std.proofs.lemmas.List.{length-replicate}
use borrow.Rule.Slice.PartMut.{put_mid}
use Rattle.ring_memory.proofs.RoundLemmas.{filled_round}
use Rattle.ring_memory.proofs.round.fill_round.Goals as goal

pub returns : goal.returns
returns c =
    let ring = c.args.ring.now in
    let near = c.min-near.result in
    let wide : length (take (c.args.start + near - c.args.start) (drop c.args.start ring)) ≡ near = simp (length-take, length-drop) (omega arith) in
    let x : c.fill.new.self ≡ replicate near c.args.value = c.fill.ensures.after (λ y h. h) ∙ ap (λ n. replicate n c.args.value) wide in
    let known : length c.fill.new.self ≡ near = ap length x ∙ length-replicate near c.args.value in
    let front : length (take (c.args.count - near) (put_mid c.args.start (c.args.start + near - c.args.start) ring c.fill.new.self)) ≡ c.args.count - near =
    simp (length-take, length-append, length-drop) (omega arith) in
    let y : c.fill-2.new.self ≡ replicate (c.args.count - near) c.args.value = c.fill-2.ensures.after (λ y h. h) ∙ ap (λ n. replicate n c.args.value) front in
    filled_round c.args.start c.args.count near c.args.value ring c.fill.new.self c.fill-2.new.self c.min-near.ensures x y
