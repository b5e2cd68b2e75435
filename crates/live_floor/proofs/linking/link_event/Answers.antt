use Rattle.std.proofs.Common.{sym, subst}
use Rattle.pcm_base.specs.declared.call.Call.TheVariants.{Link}
use Rattle.room_parts.specs.Passes.{IsBy}
use Rattle.live_floor.proofs.LinkFacts.{by_client}
use Rattle.live_floor.proofs.linking.link_event.Goals as goal

pub returns-clause-by : goal.returns-clause-by
returns-clause-by g c =
    subst (λ o. IsBy c.args.pass.now.caller (record { client = o; sub = c.args.first; call = Link c.args.second })) (sym c.client.ensures) (by_client c.args.pass.now.caller c.args.first c.args.second c.requires.client)
