use Rattle.std.proofs.Common.{◌≡◌, ℕ, Bool, true, false, not, cond, nat_le, nat_lt, [], ◌++◌, drop, length, Result, Err, refl, ap, ◌∙◌, ◌+◌}
use Rattle.std.specs.Option.{ForSome}
use Rattle.std.specs.declared.option.Option.TheVariants.{Some, None}
use Rattle.pcm_base.specs.declared.card.Card.{Ghosts}
use Rattle.pcm_base.specs.declared.call.Call.TheVariants as call
use Rattle.pcm_base.specs.declared.ids.ClientId.{ClientId}
use Rattle.pcm_base.specs.declared.reply.Reply.{Reply}
use Rattle.pcm_base.specs.declared.state.Dir.{Dir}
use Rattle.pcm_base.specs.declared.state.Dir.TheVariants as dir
use Rattle.pcm_base.specs.model.Events.{event}
use Rattle.pcm_base.specs.model.Movement.{Movement, carried_by, given_by, move, taken_by, taken_bytes}
use Rattle.pcm_base.specs.model.Standing.{put_at}
use Rattle.pcm_base.specs.model.Stream.{Stream}
use Rattle.pcm_stream.specs.declared.substream.DmaRefusal.{DmaRefusal}
use Rattle.pcm_stream.specs.declared.substream.DmaRefusal.TheVariants as refusal
use Rattle.pcm_stream.specs.declared.substream.Substream.{Substream}
use Rattle.pcm_stream.specs.StandsFor.{StandsFor, dma_reply}
use Rattle.pcm_group.specs.Ended.{IsOwnEnd, KeepsCalls}
use Rattle.pcm_group.proofs.EndedLemmas.{keeps-itself, keeps-same}
use Rattle.pcm_group.proofs.own.move_by.Goals as goal

-- a movement keeps the calls in progress
carries : (n : ℕ) (s : Stream) (d : Dir) → KeepsCalls s (carried_by d n s)
carries n s dir.Playback = keeps-same s (record s { card = record s.card { taken = s.card.taken ++ taken_by n s }; at = record s.at { card = s.at.card + n }; moved = s.moved + n }) refl refl refl
carries n s dir.Capture = keeps-same s (record s { card = record s.card { to_give = drop n s.card.to_give }; puts = put_at s.at.card (given_by n s) s.puts; at = record s.at { card = s.at.card + n }; moved = s.moved + n }) refl refl refl

one_of : (b : Bool) (s : Stream) (m n : Movement) → KeepsCalls s m.stream → KeepsCalls s n.stream → KeepsCalls s (cond b m n).stream
one_of true s m n h k = h
one_of false s m n h k = k

keeps-move : (n : ℕ) (s : Stream) → KeepsCalls s (move n s).stream
keeps-move n s =
    one_of (not s.card.runs) s _ _ (keeps-itself s)
    (one_of (nat_le (s.at.hw + s.setup.buffer) (s.at.card + n)) s _ _ (keeps-itself s)
    (one_of (nat_lt 67108864 (taken_bytes n s)) s _ _ (keeps-itself s) (carries n s s.dir)))

-- memory was found, where there is an answer
answered : (r : Result ℕ DmaRefusal) (q : Reply) → dma_reply r ≡ Some q → r ≡ Err refusal.Memory → ⊥
answered r q told e = let none : dma_reply r ≡ None = ap dma_reply e in cc

moves_as : {C : Type 0} {g : Ghosts C} (c : ClientId) (linked : Bool) (n : ℕ) (s : Stream) (r : Result ℕ DmaRefusal) (q : Reply) (sub : Substream C g) → dma_reply r ≡ Some q
    → ForSome (dma_reply r) (λ reply. reply ≡ (move n s).reply) → ((r ≡ Err refusal.Memory → ⊥) → StandsFor sub (move n s).stream) → IsOwnEnd s (event (call.MoveBy n) c linked [] s) q 0 (length (move n s).frames) sub
moves_as c linked n s r q sub told reply moved = (reply q told, refl, refl, keeps-move n s, moved (answered r q told))

pub returns-in-Ok-clause-done : goal.returns-in-Ok-clause-done
returns-in-Ok-clause-done g c client linked s h n = moves_as client linked c.args.n s c.dma.result _ _ (ap dma_reply c.in-Ok.is) (c.dma.ensures.reply s h) (c.dma.ensures.moved s h)

pub returns-in-Err-Idle-clause-done : goal.returns-in-Err-Idle-clause-done
returns-in-Err-Idle-clause-done g c client linked s h n =
    moves_as client linked c.args.n s c.dma.result _ _ (ap dma_reply (c.in-Err-Idle.is ∙ ap Err c.in-Err-Idle.field-0-is)) (c.dma.ensures.reply s h) (c.dma.ensures.moved s h)

pub returns-in-Err-Late-clause-done : goal.returns-in-Err-Late-clause-done
returns-in-Err-Late-clause-done g c client linked s h n =
    moves_as client linked c.args.n s c.dma.result _ _ (ap dma_reply (c.in-Err-Late.is ∙ ap Err c.in-Err-Late.field-0-is)) (c.dma.ensures.reply s h) (c.dma.ensures.moved s h)

pub returns-in-Err-Limit-clause-done : goal.returns-in-Err-Limit-clause-done
returns-in-Err-Limit-clause-done g c client linked s h n =
    moves_as client linked c.args.n s c.dma.result _ _ (ap dma_reply (c.in-Err-Limit.is ∙ ap Err c.in-Err-Limit.field-0-is)) (c.dma.ensures.reply s h) (c.dma.ensures.moved s h)
