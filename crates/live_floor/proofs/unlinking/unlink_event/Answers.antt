use Rattle.std.proofs.Common.{sym, subst}
use Rattle.pcm_base.specs.declared.call.Call.TheVariants.{Unlink}
use Rattle.room_parts.specs.Passes.{IsBy}
use Rattle.live_floor.proofs.UnlinkFacts.{by_client}
use Rattle.live_floor.proofs.unlinking.unlink_event.Goals as goal

pub returns-clause-by : goal.returns-clause-by
returns-clause-by g c =
    subst (λ o. IsBy c.args.pass.now.caller (record { client = o; sub = c.args.sub; call = Unlink })) (sym c.client.ensures) (by_client c.args.pass.now.caller c.args.sub c.requires.client)
