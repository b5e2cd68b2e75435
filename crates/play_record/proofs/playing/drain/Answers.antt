use Rattle.std.proofs.Common.{ℕ, ◌≡◌, ◌-◌, ◌+◌, ◌*◌, ◌<◌, ◌≤◌, true, false, List, [], refl, sym, ap, ◌∙◌, subst, arith}
use Rattle.pcm_base.specs.declared.config.Config.{Config}
use Rattle.pcm_base.specs.declared.reply.Reply.TheVariants as reply
use Rattle.pcm_base.specs.declared.state.Errno.TheVariants.{Eagain}
use Rattle.pcm_base.specs.declared.state.State.TheVariants.{Draining, Running, Setup}
use Rattle.pcm_base.specs.Boundary.{boundary_of}
use Rattle.pcm_base.specs.model.Allowed.{buffer_of, frame_bytes_of, shape_of}
use Rattle.pcm_base.specs.model.Stream.{Stream}
use Rattle.pcm_group.specs.Inside.{members_in}
use Rattle.play_record.specs.Devices.{IsAt}
use Rattle.play_record.specs.Stages.{IsSized, long_max, plays}
use Rattle.play_record.specs.Steps.{CanMoveOn, moved_on}
use Rattle.play_record.proofs.Counts.{Ends, ends_or, less_than, reached}
use Rattle.play_record.proofs.PlayEvents.{RingLaws, goes-drain, plain}
use Rattle.play_record.proofs.Plays.{drain-last, drain-more, sizes-of}
use Rattle.play_record.proofs.playing.drain.Goals as goal

-- the card can move on whether the period is the last or not
can_drain : (laws : RingLaws) (h : Config) (sized : IsSized h) (bytes : List ℕ) (i count : ℕ) → Ends i count → count ≤ i + h.periods → count * h.period * frame_bytes_of h ≤ 67108864
    → CanMoveOn h.period (plays h bytes Draining true (i * h.period) (count * h.period) (i * h.period))
can_drain laws h sized bytes i count (Ends.More less) near most = (drain-more laws h sized bytes i count less near most).0
can_drain laws h sized bytes i count (Ends.Last is) near most = (drain-last laws h sized bytes i count is most).0

pub loop-played-init : goal.loop-played-init
loop-played-init g c = (
  c.step.ensures.numbers,
  λ h bytes sized shape most at.
      let n = h.period in
      let count = c.args.count in
      let p = h.periods in
      let first = c.saturating_sub-played.result in
      let laws : RingLaws = record { puts_split = c.puts.ensures.split; runs_shown = c.runs.ensures.shown; runs_split = c.runs.ensures.split; runs_counted = c.runs.ensures.counted } in
      let periods : c.args.shape.now.periods ≡ p = ap (λ s. s.periods) shape in
      let e : first ≡ count - p = omega (arith, c.saturating_sub-played.ensures, periods) in
      let s = plays h bytes Running true ((count - p) * n) (count * n) ((count - p) * n) in
      let t = plays h bytes Draining true ((count - p) * n) (count * n) ((count - p) * n) in
      let there : IsAt c.args.sub t (members_in c.step.new.group) =
      (c.step.ensures.goes s t (plain (reply.Err Eagain)) at
      (goes-drain laws h (frame_bytes_of h) (buffer_of h) (boundary_of (buffer_of h) long_max) (sizes-of h sized) bytes (record { 0 = 0 }) [] ((count - p) * n) (count * n) ((count - p) * n)) refl
      (λ w. absurd (let wants : false ≡ true = c.step.ensures.wants w in cc))).1 in (
        λ less. subst (λ i. IsAt c.args.sub (plays h bytes Draining true (i * n) (count * n) (i * n)) (members_in c.step.new.group)) (sym e) there,
        λ same. absurd (omega (arith, e, same, c.requires.some, sized.two)),
      ),
)

pub move_on-requires : goal.move_on-requires
move_on-requires g c =
    let h = c.requires.device.0 in
    let bytes = c.requires.device.1 in
    let sized = c.requires.device.2 in
    let shape = c.requires.device.3 in
    let most = c.requires.device.4 in
    let count = c.args.count in
    let i = c.loop-played._played in
    let n = h.period in
    let laws : RingLaws = record { puts_split = c.puts.ensures.split; runs_shown = c.runs.ensures.shown; runs_split = c.runs.ensures.split; runs_counted = c.runs.ensures.counted } in
    let periods : c.args.shape.now.periods ≡ h.periods = ap (λ s. s.periods) shape in
    let period : c.args.shape.now.period ≡ n = ap (λ s. s.period) shape in
    let less : i < count = c.loop-played-test.true in
    let near : count ≤ i + h.periods = omega (arith, c.loop-played.auto._played, c.saturating_sub-played.ensures, periods) in
    let s = plays h bytes Draining true (i * n) (count * n) (i * n) in (
      s,
      (c.loop-played.invariant.1 h bytes sized shape most c.requires.device.5).0 less,
      subst (λ x. CanMoveOn x s) (sym period) (can_drain laws h sized bytes i count (ends_or i count less) near most),
    )

pub returns-in_err-move_on-clause-numbers : goal.returns-in_err-move_on-clause-numbers
returns-in_err-move_on-clause-numbers g c = c.move_on.ensures.numbers ∙ c.loop-played.invariant.0

pub loop-played-preserved : goal.loop-played-preserved
loop-played-preserved g c = (
  c.move_on.ensures.numbers ∙ c.loop-played.invariant.0,
  λ h bytes sized shape most at.
      let count = c.args.count in
      let i = c.loop-played._played in
      let n = h.period in
      let laws : RingLaws = record { puts_split = c.puts.ensures.split; runs_shown = c.runs.ensures.shown; runs_split = c.runs.ensures.split; runs_counted = c.runs.ensures.counted } in
      let periods : c.args.shape.now.periods ≡ h.periods = ap (λ s. s.periods) shape in
      let period : c.args.shape.now.period ≡ n = ap (λ s. s.period) shape in
      let less : i < count = c.loop-played-test.true in
      let near : count ≤ i + h.periods = omega (arith, c.loop-played.auto._played, c.saturating_sub-played.ensures, periods) in
      let s : Stream = plays h bytes Draining true (i * n) (count * n) (i * n) in
      let here : IsAt c.args.sub s (members_in c.loop-played.group) = (c.loop-played.invariant.1 h bytes sized shape most at).0 less in
      let can : CanMoveOn n s = can_drain laws h sized bytes i count (ends_or i count less) near most in
      let there : IsAt c.args.sub (moved_on n s) (members_in c.move_on.new.group) =
      subst (λ x. IsAt c.args.sub (moved_on x s) (members_in c.move_on.new.group)) period (c.in_ok-move_on.ensures.ok s here (subst (λ x. CanMoveOn x s) (sym period) can)) in (
        λ more. subst (λ t. IsAt c.args.sub t (members_in c.move_on.new.group)) (drain-more laws h sized bytes i count more near most).1 there,
        λ last. subst (λ t. IsAt c.args.sub t (members_in c.move_on.new.group)) (drain-last laws h sized bytes i count last most).1 there,
      ),
)

pub returns-clause-ok : goal.returns-clause-ok
returns-clause-ok g c =
    let same : c.loop-played._played ≡ c.args.count = reached c.loop-played._played c.args.count (c.loop-played.auto._played-end (less_than c.saturating_sub-played.result c.args.count c.args.shape.now.periods c.saturating_sub-played.ensures)) c.loop-played-test.false in
    λ h bytes sized shape most at. (c.loop-played.invariant.1 h bytes sized shape most at).1 same

pub returns-clause-numbers : goal.returns-clause-numbers
returns-clause-numbers g c = c.loop-played.invariant.0
