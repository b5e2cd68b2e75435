use Rattle.std.proofs.Common.{◌≡◌, ◌<◌, ℕ, List, length, slice_get, slice_index_or, ap, ◌∙◌, arith}
use Rattle.std.proofs.lemmas.Option.{slice_get-get_or}
use Rattle.pcm_base.specs.declared.config.CardModel.{CardModel}
use Rattle.pcm_base.specs.declared.config.Model.TheVariants.{Basic}
use Rattle.pcm_base.specs.declared.state.Dir.{Dir}
use Rattle.pcm_base.specs.declared.state.Dir.TheVariants.{Playback}
use Rattle.floor_rule.specs.declared.rule.RecKnows.{RecKnows}
use Rattle.floor_rule.specs.Seats.{MakerSees, RecSees}
use Rattle.live_floor.proofs.Growing.{card_at}
use Rattle.live_floor.proofs.opening.lone_rooms.Goals as goal

pub alone-requires-clause-card : goal.alone-requires-clause-card
alone-requires-clause-card g c =
    let cs = c.args.cards.now in
    let i = c.loop-i.i in
    let lt : i < length cs = omega (arith, c.loop-i-test.true) in
    let sub_is : c.new-rec.result.knows.sub ≡ i =
    ap (λ (k : RecKnows). k.sub) c.new-rec.ensures ∙ ap (λ (s : RecSees). s.knows.sub) c.add_rec.ensures.seat ∙ ap (λ (m : MakerSees). m.knows.recs) c.loop-i.invariant.maker in
    ap (λ (n : ℕ). slice_get g.N.FloorName.cards n) sub_is
    ∙ ap (λ (ds : List (CardModel × Dir)). slice_get ds i) c.requires.cards
    ∙ card_at cs i (slice_index_or cs i (Basic, Playback)) (slice_get-get_or cs i (Basic, Playback) lt)
