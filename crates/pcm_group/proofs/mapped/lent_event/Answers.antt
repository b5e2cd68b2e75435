use Rattle.std.proofs.Common.{◌≡◌, ℕ, Bool, true, false, List, refl, sym, ap, ◌∙◌, subst}
use Rattle.pcm_base.specs.declared.call.Call.{Call}
use Rattle.pcm_base.specs.declared.call.Call.TheVariants as call
use Rattle.pcm_base.specs.declared.card.Card.{Ghosts}
use Rattle.pcm_base.specs.declared.ids.ClientId.{ClientId}
use Rattle.pcm_base.specs.declared.reply.Reply.{Reply}
use Rattle.pcm_base.specs.model.Events.{event}
use Rattle.pcm_base.specs.model.Stream.{Stream}
use Rattle.pcm_stream.specs.declared.substream.Substream.{Substream}
use Rattle.pcm_group.specs.Carried.{IsOwnCarried}
use Rattle.pcm_group.specs.Ended.{IsOwnEnd}
use Rattle.pcm_group.specs.Bytes.{HasLength}
use Rattle.pcm_group.specs.Lent.{Loads, frames_given, is_reading}
use Rattle.pcm_group.specs.Turn.{may_want_memory}
use Rattle.pcm_group.proofs.mapped.lent_event.Goals as goal

-- the event of this call
at_call : {C : Type 0} {g : Ghosts C} (e d : Call) (c : ClientId) (linked : Bool) (io : List ℕ) (s : Stream) (r : Reply) (f n : ℕ) (sub : Substream C g) → e ≡ d
    → IsOwnCarried d s (event d c linked io s) r f n sub → IsOwnCarried e s (event e c linked io s) r f n sub
at_call e d c linked io s r f n sub same h = subst (λ (x : Call). IsOwnCarried x s (event x c linked io s) r f n sub) (sym same) h

leaves_at : (e d : Call) (s : Stream) (r : Reply) (io out : List ℕ) → e ≡ d → Loads d s r io out → Loads e s r io out
leaves_at e d s r io out same h = subst (λ (x : Call). Loads x s r io out) (sym same) h

pub returns-in-Store-clause-done : goal.returns-in-Store-clause-done
returns-in-Store-clause-done g c client linked s h long n =
    let d = call.Store c.in-Store.offset in
    at_call c.args.call d client linked c.args.io.now s c.store.result.reply c.store.result.first c.store.result.moved c.store.new.stream c.in-Store.is
    (record { frames = c.store.result.moved; moved = refl; ends = c.store.ensures.done client linked s h })

pub returns-in-Store-clause-loaded : goal.returns-in-Store-clause-loaded
returns-in-Store-clause-loaded g c s h = leaves_at c.args.call (call.Store c.in-Store.offset) s c.store.result.reply c.args.io.now c.args.io.now c.in-Store.is tt

pub returns-in-Store-clause-memory : goal.returns-in-Store-clause-memory
returns-in-Store-clause-memory g c s h e = absurd (c.store.ensures.told e)

pub returns-in-Store-clause-wants : goal.returns-in-Store-clause-wants
returns-in-Store-clause-wants g c e = absurd (c.store.ensures.told e)

pub returns-in-Store-clause-idle : goal.returns-in-Store-clause-idle
returns-in-Store-clause-idle g c e = absurd (c.store.ensures.told e)

pub returns-in-Load-clause-done : goal.returns-in-Load-clause-done
returns-in-Load-clause-done g c client linked s h long n =
    let d = call.Load c.in-Load.offset c.in-Load.count in
    at_call c.args.call d client linked c.args.io.now s c.load.result.reply c.load.result.first c.load.result.moved c.args.stream.now c.in-Load.is
    (record { frames = c.load.result.moved; moved = refl; ends = c.load.ensures.done client linked c.args.io.now s h (subst (λ (e : Call). HasLength e c.args.io.now s) c.in-Load.is long) })

pub returns-in-Load-clause-loaded : goal.returns-in-Load-clause-loaded
returns-in-Load-clause-loaded g c s h =
    leaves_at c.args.call (call.Load c.in-Load.offset c.in-Load.count) s c.load.result.reply c.args.io.now c.load.new.io c.in-Load.is (c.load.ensures.loaded s h)

pub returns-in-Load-clause-bytes : goal.returns-in-Load-clause-bytes
returns-in-Load-clause-bytes g c b = let never : true ≡ false = sym (ap is_reading c.in-Load.is) ∙ b in cc

pub returns-in-Load-clause-memory : goal.returns-in-Load-clause-memory
returns-in-Load-clause-memory g c s h e = absurd (c.load.ensures.told e)

pub returns-in-Load-clause-wants : goal.returns-in-Load-clause-wants
returns-in-Load-clause-wants g c e = absurd (c.load.ensures.told e)

pub returns-in-Load-clause-idle : goal.returns-in-Load-clause-idle
returns-in-Load-clause-idle g c e = absurd (c.load.ensures.told e)

pub returns-in-Give-clause-done : goal.returns-in-Give-clause-done
returns-in-Give-clause-done g c client linked s h long n =
    let io = c.args.io.now in
    let r = c.said.result in
    let frames = frames_given c.give.result s io in
    let given = c.give.ensures.done client linked s h (λ e. n (c.said.ensures.reply ∙ e)) in
    at_call c.args.call call.Give client linked io s r.reply r.first r.moved c.give.new.stream c.in-Give.is
    (record {
      frames = frames;
      moved = c.said.ensures.moved;
      ends = subst (λ (x : Reply). IsOwnEnd s (event call.Give client linked io s) x r.first frames c.give.new.stream) (sym c.said.ensures.reply)
          (subst (λ (x : ℕ). IsOwnEnd s (event call.Give client linked io s) c.give.result x frames c.give.new.stream) (sym c.said.ensures.first) given);
    })

pub returns-in-Give-clause-loaded : goal.returns-in-Give-clause-loaded
returns-in-Give-clause-loaded g c s h = leaves_at c.args.call call.Give s c.said.result.reply c.args.io.now c.args.io.now c.in-Give.is tt

pub returns-in-Give-clause-memory : goal.returns-in-Give-clause-memory
returns-in-Give-clause-memory g c s h e = c.give.ensures.memory s h (sym c.said.ensures.reply ∙ e)

pub returns-in-Give-clause-wants : goal.returns-in-Give-clause-wants
returns-in-Give-clause-wants g c e = ap may_want_memory c.in-Give.is

pub returns-in-Give-clause-idle : goal.returns-in-Give-clause-idle
returns-in-Give-clause-idle g c e = (c.said.ensures.first, c.said.ensures.moved)

pub returns-in-Give-clause-awake : goal.returns-in-Give-clause-awake
returns-in-Give-clause-awake g c e = c.give.ensures.awake (sym c.said.ensures.reply ∙ e)
