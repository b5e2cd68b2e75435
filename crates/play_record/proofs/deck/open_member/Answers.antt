use Rattle.std.proofs.Common.{◌≡◌, List, [], ◌∷◌, Bool, true, false, refl, ap, sym, subst, rules}
use Rattle.std.specs.Prelude.{Result, Ok, Err, IfErr, OnOk}
use Rattle.pcm_base.specs.declared.config.CardModel.{CardModel}
use Rattle.pcm_base.specs.declared.ids.SubId.{SubId}
use Rattle.pcm_base.specs.declared.sleeper.Sleeper.{Sleeper}
use Rattle.pcm_base.specs.declared.state.Errno.TheVariants.{Ebusy}
use Rattle.pcm_base.specs.model.Stream.{fresh, Stream}
use Rattle.pcm_stream.specs.MembersStand.{IsMember}
use Rattle.pcm_stream.specs.StandsFor.{StandsFor}
use Rattle.card_emul.specs.Limits.{duplex}
use Rattle.play_record.specs.Stages.{lone, long_max, opened_with}
use Rattle.play_record.proofs.deck.open_member.Goals as goal

-- a substream that no client has opened is not busy
succeeded : {A E : Type 0} (P R : Type 0) (Q : E → Type 0) (r : Result A E) → OnOk r ((true ≡ true) × P) → IfErr r (λ e. Q e × (true ≡ false) × R) → P
succeeded P R Q (Ok a) h g = h.1
succeeded P R Q (Err e) h g = absurd (cc)

pub returns-clause-stands : goal.returns-clause-stands
returns-clause-stands c =
    let k : SubId = record { 0 = 0 } in
    let alone : IsMember k [] (lone k (opened_with c.args.dir [])) = search rules in
    let model : c.new-card.result.model ≡ duplex = ap (λ f. f.model) c.new-card.ensures.facts in
    let fresh_one : StandsFor c.new-stream.result (fresh duplex c.args.dir long_max) = subst (λ m. StandsFor c.new-stream.result (fresh m c.args.dir long_max)) model c.new-stream.ensures.fresh in
    record {
      member = subst (λ l. IsMember k l (lone k (opened_with c.args.dir []))) (sym c.new.ensures) alone;
      stream = succeeded _ _ (λ e. e ≡ Ebusy) c.open_sub.result (c.open_sub.ensures.ok (fresh duplex c.args.dir long_max) fresh_one) (c.open_sub.ensures.busy (fresh duplex c.args.dir long_max) fresh_one);
    }
