use Rattle.std.proofs.Common.{refl, sym, ◌∙◌, subst}
use Rattle.std.specs.declared.option.Option.{Option}
use Rattle.pcm_base.specs.declared.call.CallKind.TheVariants as kind
use Rattle.pcm_base.specs.declared.reply.Reply.TheVariants as reply
use Rattle.pcm_base.specs.declared.state.Errno.{Errno}
use Rattle.pcm_base.specs.model.Events.{freed}
use Rattle.pcm_base.specs.model.Program.{says, unless}
use Rattle.pcm_stream.specs.SetUp.{free_refusal}
use Rattle.pcm_group.specs.Ended.{IsOwnEnd}
use Rattle.pcm_group.proofs.OwnLemmas.{Own-unless, change_free, held-is, keeps-none}
use Rattle.pcm_group.proofs.own.hw_free.Goals as goal

pub returns-clause-done : goal.returns-clause-done
returns-clause-done g c client linked s h busy =
    subst (λ (o : Option Errno). IsOwnEnd s (unless o s (says reply.Ok (freed s))) c.answer.result 0 0 c.hw_free.new.self) (sym (held-is kind.HwFree s c.args.busy busy))
    (Own-unless (free_refusal c.args.busy s) s (freed s) c.hw_free.result c.answer.result c.hw_free.new.self
    (λ none. keeps-none s (freed s) refl (sym busy ∙ change_free kind.HwFree c.args.busy s none))
    (c.hw_free.ensures.ok s h) (c.hw_free.ensures.refused s h) c.answer.ensures.done)
