use Rattle.std.proofs.Common.{ℕ, ◌≡◌, ◌≤◌, ◌+◌, ◌-◌, ◌*◌, true, List, [], length, take, drop, min, replicate, refl, sym, ap, ◌∙◌, subst, rules}
use Rattle.pcm_base.specs.declared.config.Config.{Config}
use Rattle.pcm_base.specs.declared.state.State.TheVariants.{Running}
use Rattle.pcm_base.specs.model.Allowed.{frame_bytes_of}
use Rattle.pcm_base.specs.model.Frame.{Frame, bytes_of}
use Rattle.pcm_base.specs.model.Movement.{padded}
use Rattle.pcm_base.specs.model.Stream.{Stream}
use Rattle.pcm_group.specs.Inside.{members_in}
use Rattle.play_record.specs.Devices.{HasMoved, IsAt}
use Rattle.play_record.specs.Stages.{IsSized, lone, records}
use Rattle.play_record.proofs.Counts.{reached, written-next}
use Rattle.play_record.proofs.Recorded.{IsTurn, all-put, none-put, none_of, put-length, turn-fits, turn-is, turn-length, turn-put, turns-end}
use Rattle.play_record.proofs.recording.record_all.Goals as goal

pub loop-number-init : goal.loop-number-init
loop-number-init g c = (
  refl,
  c.requires.length,
  λ h given sized period wide at.
      let none : 0 ≡ min 0 c.args.frames = none_of c.args.frames in
      (subst (λ x. IsAt c.args.sub (records h given Running true 0 x 0) (members_in c.args.group.now)) none at, none-put c.args.frames c.args.frame c.args.out.now given (replicate c.args.frame 0)),
)

pub slice_bounds-piece-end : goal.slice_bounds-piece-end
slice_bounds-piece-end g c =
    let i : ℕ = c.loop-number.number in
    let turn : IsTurn i c.args.frames c.min-count.result = turn-is i c.args.frames c.min-count.result c.div_ceil-number-end.result c.loop-number-test.true c.div_ceil-number-end.ensures c.min-count.ensures in
    let fits : i * 256 * c.args.frame + c.min-count.result * c.args.frame ≤ length c.loop-number.out =
    subst (λ x. i * 256 * c.args.frame + c.min-count.result * c.args.frame ≤ x) (sym c.loop-number.invariant.1) (turn-fits i c.args.frames c.min-count.result c.args.frame turn) in
    search (rules, fits)

pub record_piece-requires-clause-device : goal.record_piece-requires-clause-device
record_piece-requires-clause-device g c =
    let h : Config = c.requires.device.0 in
    let given : List Frame = c.requires.device.1 in
    let i : ℕ = c.loop-number.number in
    let n : ℕ = c.args.frames in
    let e : ℕ = c.min-count.result in
    let f : ℕ = c.args.frame in
    let turn : IsTurn i n e = turn-is i n e c.div_ceil-number-end.result c.loop-number-test.true c.div_ceil-number-end.ensures c.min-count.ensures in
    let size = turn-length (i * 256 * f) (e * f) (n * f) c.loop-number.out (turn-fits i n e f turn) c.loop-number.invariant.1 in
    let at = (c.loop-number.invariant.2 h given c.requires.device.2 c.requires.device.3 c.requires.device.4 c.requires.device.5).0 in (
      h,
      given,
      i * 256,
      c.requires.device.2,
      c.requires.device.3,
      size ∙ ap (λ x. e * x) c.requires.device.4,
      subst (λ x. IsAt c.args.sub (records h given Running true (i * 256) x (i * 256)) (members_in c.loop-number.group)) turn.done at,
    )

pub loop-number-preserved : goal.loop-number-preserved
loop-number-preserved g c =
    let i : ℕ = c.loop-number.number in
    let n : ℕ = c.args.frames in
    let e : ℕ = c.min-count.result in
    let f : ℕ = c.args.frame in
    let turn : IsTurn i n e = turn-is i n e c.div_ceil-number-end.result c.loop-number-test.true c.div_ceil-number-end.ensures c.min-count.ensures in
    let size = turn-length (i * 256 * f) (e * f) (n * f) c.loop-number.out (turn-fits i n e f turn) c.loop-number.invariant.1 in (
      c.record_piece.ensures.numbers ∙ c.loop-number.invariant.0,
      put-length (i * 256 * f) (i * 256 * f + e * f - i * 256 * f) (n * f) c.loop-number.out c.record_piece.new.piece c.loop-number.invariant.1 c.record_piece.auto.piece,
      λ h given sized period wide at.
          let was = c.loop-number.invariant.2 h given sized period wide at in
          let here : IsAt c.args.sub (records h given Running true (i * 256) (i * 256) (i * 256)) (members_in c.loop-number.group) =
          subst (λ x. IsAt c.args.sub (records h given Running true (i * 256) x (i * 256)) (members_in c.loop-number.group)) turn.done was.0 in
          let now = c.in_ok-record_piece.ensures.ok h given (i * 256) sized period (size ∙ ap (λ x. e * x) wide) here in
          let there : IsAt c.args.sub (records h given Running true ((i + 1) * 256) (i * 256 + e) ((i + 1) * 256)) (members_in c.record_piece.new.group) =
          subst (λ x. IsAt c.args.sub (records h given Running true x (i * 256 + e) x) (members_in c.record_piece.new.group)) (written-next i 256) now.0 in
          let bytes : c.record_piece.new.piece ≡ bytes_of (padded e (drop (i * 256) given) (replicate f 0)) =
          subst (λ x. c.record_piece.new.piece ≡ bytes_of (padded e (drop (i * 256) given) (replicate x 0))) (sym wide) now.1 in (
            subst (λ x. IsAt c.args.sub (records h given Running true ((i + 1) * 256) x ((i + 1) * 256)) (members_in c.record_piece.new.group)) (sym turn.next) there,
            turn-put i n e f c.loop-number.out c.record_piece.new.piece given (replicate f 0) turn c.loop-number.invariant.1 (c.record_piece.auto.piece ∙ size) was.1 bytes,
          ),
    )

pub returns-clause-ok : goal.returns-clause-ok
returns-clause-ok g c =
    let i : ℕ = c.loop-number.number in
    let n : ℕ = c.args.frames in
    let same : i ≡ c.div_ceil-number-end.result = reached i c.div_ceil-number-end.result c.loop-number.auto.number-end c.loop-number-test.false in
    let end : n ≤ i * 256 = subst (λ x. n ≤ x * 256) (sym same) (turns-end n c.div_ceil-number-end.result c.div_ceil-number-end.ensures) in
    λ h given sized period wide at.
    let was = c.loop-number.invariant.2 h given sized period wide at in (
      record { member = lone c.args.sub (records h given Running true (i * 256) (min (i * 256) n) (i * 256)); stands = was.0.stands; moved = end },
      all-put (i * 256) n c.args.frame c.loop-number.out given (replicate c.args.frame 0) end c.loop-number.invariant.1 was.1,
    )

pub returns-clause-numbers : goal.returns-clause-numbers
returns-clause-numbers g c = c.loop-number.invariant.0

pub returns-in_err-record_piece-clause-numbers : goal.returns-in_err-record_piece-clause-numbers
returns-in_err-record_piece-clause-numbers g c = c.record_piece.ensures.numbers ∙ c.loop-number.invariant.0
