use Rattle.std.proofs.Common.{◌≡◌, Bool, true, false, [], Option, None, Some, Result, Err, IfErr, refl, sym, ap, subst, ◌∙◌}
use Rattle.pcm_base.specs.declared.card.Card.{Ghosts}
use Rattle.pcm_base.specs.declared.call.Call.TheVariants as call
use Rattle.pcm_base.specs.declared.call.CallKind.TheVariants as kind
use Rattle.pcm_base.specs.declared.config.Config.{Config}
use Rattle.pcm_base.specs.declared.ids.ClientId.{ClientId}
use Rattle.pcm_base.specs.declared.reply.Reply.TheVariants as reply
use Rattle.pcm_base.specs.declared.state.Errno.{Errno}
use Rattle.pcm_base.specs.declared.state.Errno.TheVariants as errno
use Rattle.pcm_base.specs.model.Acts.{table}
use Rattle.pcm_base.specs.model.Allowed.{accepts}
use Rattle.pcm_base.specs.model.Events.{event, freed, if_held, is_busy}
use Rattle.pcm_base.specs.model.Program.{fails, says}
use Rattle.pcm_base.specs.model.Stream.{Stream}
use Rattle.pcm_base.specs.model.Words.{◌then◌}
use Rattle.pcm_stream.specs.declared.substream.HwRefusal.{HwRefusal}
use Rattle.pcm_stream.specs.declared.substream.HwRefusal.TheVariants as refusal
use Rattle.pcm_stream.specs.declared.substream.Substream.{Substream}
use Rattle.pcm_stream.specs.SetUp.{configured_by, hw_refusal}
use Rattle.pcm_stream.specs.StandsFor.{StandsFor}
use Rattle.pcm_group.specs.Ended.{IsOwnEnd}
use Rattle.pcm_group.proofs.EndedLemmas.{IsOwnEnd-at, allowed-is, else-is, keeps-itself, refused-is}
use Rattle.pcm_group.proofs.OwnLemmas.{Own-says, change_free, held-is, keeps-none}
use Rattle.pcm_group.proofs.own.hw_params.Goals as goal

-- What hw_params promises of its result r, where it leaves sub.
record Refuses {C : Type 0} {g : Ghosts C} (config : Config) (b : Bool) (s : Stream) (r : Result (Unit {0}) HwRefusal) (sub : Substream C g) : Type 0 where
  refused : (d : Errno) → hw_refusal b s ≡ Some d → (r ≡ Err (refusal.Errno d)) × StandsFor sub s
  einval : hw_refusal b s ≡ None → accepts s.model s.long_max config ≡ false → (r ≡ Err (refusal.Errno errno.Einval)) × StandsFor sub (freed s)
  granted : hw_refusal b s ≡ None → accepts s.model s.long_max config ≡ true → IfErr r (λ e. e ≡ refusal.Memory)

refused_by : {C : Type 0} {g : Ghosts C} (c : ClientId) (linked : Bool) (config : Config) (b : Bool) (s : Stream) (r : Result (Unit {0}) HwRefusal) (e : Errno) (sub : Substream C g) → b ≡ is_busy s
    → r ≡ Err (refusal.Errno e) → Refuses config b s r sub → (o : Option Errno) (a : Bool) → hw_refusal b s ≡ o → accepts s.model s.long_max config ≡ a
    → IsOwnEnd s (event (call.HwParams config) c linked [] s) (reply.Err e) 0 0 sub
refused_by c linked config b s r e sub busy is h (Some d) a o k =
    let same : e ≡ d = (let h0 : r ≡ Err (refusal.Errno d) = (h.refused d o).0 in cc) in
    IsOwnEnd-at s (event (call.HwParams config) c linked [] s) (fails d s) (reply.Err e) 0 0 sub
    (refused-is (table kind.HwParams s then if_held s) s _ d (held-is kind.HwParams s b busy ∙ o))
    (Own-says s s (reply.Err d) (reply.Err e) sub (ap reply.Err same) (keeps-itself s) (h.refused d o).1)
refused_by c linked config b s r e sub busy is h None false o k =
    let same : e ≡ errno.Einval = (let h0 : r ≡ Err (refusal.Errno errno.Einval) = (h.einval o k).0 in cc) in
    IsOwnEnd-at s (event (call.HwParams config) c linked [] s) (fails errno.Einval (freed s)) (reply.Err e) 0 0 sub
    (allowed-is (table kind.HwParams s then if_held s) s _ (held-is kind.HwParams s b busy ∙ o)
    ∙ else-is (accepts s.model s.long_max config) (says reply.Ok (configured_by config s)) (fails errno.Einval (freed s)) k)
    (Own-says s (freed s) (reply.Err errno.Einval) (reply.Err e) sub (ap reply.Err same) (keeps-none s (freed s) refl (sym busy ∙ change_free kind.HwParams b s o)) (h.einval o k).1)
refused_by c linked config b s r e sub busy is h None true o k =
    let memory : refusal.Errno e ≡ refusal.Memory = subst (λ (x : Result (Unit {0}) HwRefusal). IfErr x (λ y. y ≡ refusal.Memory)) is (h.granted o k) in cc

pub returns-in-Err-Errno-clause-done : goal.returns-in-Err-Errno-clause-done
returns-in-Err-Errno-clause-done g c client linked s h busy n =
    refused_by client linked c.args.config.now c.args.busy s c.hw_params.result c.in-Err-Errno.e c.hw_params.new.self busy (c.in-Err-Errno.is ∙ ap Err c.in-Err-Errno.field-0-is)
    (record { refused = c.hw_params.ensures.refused s h; einval = c.hw_params.ensures.einval s h; granted = c.hw_params.ensures.granted s h })
    (hw_refusal c.args.busy s) (accepts s.model s.long_max c.args.config.now) refl refl
