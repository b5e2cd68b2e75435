use Rattle.std.proofs.Common.{◌≡◌, ◌+◌, ℕ, List, length, drop, ap, ◌∙◌, arith}
use Rattle.std.proofs.lemmas.List.{drop_all}
use Rattle.live_plan.specs.Lines.{piece_at}
use Rattle.live_plan.proofs.PlaceLemmas.{piece_none, piece_other, piece_space}
use Rattle.live_plan.proofs.place.piece_at.Goals as goal
use Rattle.live_plan.proofs.place.piece_at.Goals.{then-byte-eq32, else-byte-eq32}

pub loop-at-preserved : goal.loop-at-preserved
loop-at-preserved c =
    let bytes : List ℕ = c.args.bytes.now in
    let i : ℕ = c.loop-at.at in
    let was = c.loop-at.invariant in
    elim c.if-byte-eq32.branch [
      | then-byte-eq32 w ↦
          let e = piece_space bytes i c.loop-at.left c.loop-at-test.true w.if-byte-eq32.true c.if-left-eq0.false in
          ap (λ (k : ℕ). i + 1 + piece_at (drop (i + 1) bytes) k) w.left-is ∙ omega (arith, e, was)
      | else-byte-eq32 w ↦
          let e = piece_other bytes i c.loop-at.left c.loop-at-test.true w.if-byte-eq32.false c.if-left-eq0.false in
          ap (λ (k : ℕ). i + 1 + piece_at (drop (i + 1) bytes) k) w.left-is ∙ omega (arith, e, was)
    ]

pub returns : goal.returns
returns c =
    let bytes : List ℕ = c.args.bytes.now in
    let i : ℕ = c.loop-at.at in
    let was = c.loop-at.invariant in
    let ended : i ≡ length bytes = omega arith in
    let none : piece_at (drop i bytes) c.loop-at.left ≡ 0 = ap (λ (l : List ℕ). piece_at l c.loop-at.left) (drop_all i bytes (omega (arith, ended))) ∙ piece_none c.loop-at.left in
    omega (arith, was, none, ended)
