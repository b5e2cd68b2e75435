use Rattle.std.proofs.Common.{◌≡◌, ◌*◌, ◌/◌, ◌%◌, ◌<◌, ℕ, List, length, ◌∙◌, ap, arith}
use Rattle.std.proofs.Math.Nat.{mul-mod_left, mul-div_cancel}
use Rattle.pcm_base.specs.model.Frame.{bytes_of}
use Rattle.ring_memory.specs.Ring.{stood_at}
use Rattle.ring_memory.specs.Round.{over}
use Rattle.pcm_stream.proofs.PartLemmas.{part-size, put_mid-over}
use Rattle.pcm_stream.proofs.substream.buffer.get_part.Goals as goal

pub get-requires-clause-whole : goal.get-requires-clause-whole
get-requires-clause-whole c =
    let w : ℕ = c.args.frame_bytes in
    ap (λ n. n % c.args.ring.now.frame_bytes) (part-size c.args.first c.args.count w c.args.io.now c.requires.within)
    ∙ ap (λ n. c.args.count * w % n) c.requires.sized ∙ mul-mod_left c.args.count w

pub returns : goal.returns
returns c puts p h slot =
    let w : ℕ = c.args.frame_bytes in
    let io : List ℕ = c.args.io.now in
    let new : List ℕ = c.get.new.out in
    let part = part-size c.args.first c.args.count w io c.requires.within in
    let size : length new ≡ c.args.count * w = c.get.auto.out ∙ part in
    let some : 0 < w = omega (arith, c.requires.frame) in
    let count : c.args.count * w / c.args.ring.now.frame_bytes ≡ c.args.count = ap (λ n. c.args.count * w / n) c.requires.sized ∙ mul-div_cancel c.args.count some in
    put_mid-over (c.args.first * w) (c.args.count * w) io new size
    ∙ ap (λ (ys : List ℕ). over (c.args.first * w) ys io) (c.get.ensures puts p h slot
    ∙ ap (λ n. bytes_of (stood_at c.args.ring.now puts p (n / c.args.ring.now.frame_bytes))) part ∙ ap (λ n. bytes_of (stood_at c.args.ring.now puts p n)) count)
