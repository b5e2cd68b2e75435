use Rattle.std.proofs.Common.{◌≡◌, ◌<◌, ℕ, zero, suc, List, [], ◌∷◌, inl, inr, refl, sym, ap, ◌∙◌, subst, arith}
use Rattle.card_emul.specs.Limits.{basic}
use Rattle.card_emul.specs.declared.any_card.AnyCard.{AnyCard}
use Rattle.card_emul.specs.contracts.any_card.AnyCardCard.TheImpl.{ghosts}
use Rattle.pcm_base.specs.declared.config.CardModel.{CardModel}
use Rattle.pcm_base.specs.declared.state.Dir.{Dir}
use Rattle.pcm_base.specs.declared.state.Dir.TheVariants.{Playback}
use Rattle.pcm_base.specs.declared.state.State.TheVariants.{Closed}
use Rattle.pcm_base.specs.model.Stream.{fresh}
use Rattle.pcm_stream.specs.StandsFor.{StandsFor}
use Rattle.pcm_stream.specs.declared.substream.Substream.{Substream}
use Rattle.floor_rule.specs.declared.entry.EntryMark.TheVariants.{Called}
use Rattle.floor_rule.specs.declared.rule.Marked.{Marked}
use Rattle.room_book.specs.Logs.{IsShown, LinkStep, Replayed}
use Rattle.room_book.specs.Rooms.{fresh_streams, start}
use Rattle.room_parts.specs.Links.{link_entry}
use Rattle.live_gather.specs.Pieces.{HasPlayed}
use Rattle.live_gather.specs.declared.tests.TheConstants.{LINK}
use Rattle.live_gather.proofs.tests.piece.Goals as goal

abbrev two : List (CardModel × Dir)
two = (basic, Playback) ∷ (basic, Playback) ∷ []

-- the refused link leaves each of the two as it was
played : (j n k : ℕ) → j < 2 → (s : Substream AnyCard ghosts) → StandsFor s (fresh basic Playback 2147483647) → HasPlayed two 2147483647 (j, record { entry = link_entry LINK; mark = Called Closed 0 n k 0 } ∷ []) s
played zero n k lt s st = record {
  replayed = start (fresh_streams two 2147483647) (record { 0 = 0 });
  plays = (start (fresh_streams two 2147483647) (record { 0 = 0 }), record { names = inl refl; reply_is = refl; first_is = λ e. refl; second_is = λ e. absurd (omega (arith, e)); none_due = refl; after = refl }, (refl, refl), refl);
  settled = refl;
  stands = st;
}
played (suc zero) n k lt s st = record {
  replayed = start (fresh_streams two 2147483647) (record { 0 = 1 });
  plays = (start (fresh_streams two 2147483647) (record { 0 = 1 }), record { names = inr refl; reply_is = refl; first_is = λ e. absurd (omega (arith, e)); second_is = λ e. (refl, refl); none_due = refl; after = refl }, (refl, refl), refl);
  settled = refl;
  stands = st;
}
played (suc (suc j)) n k lt s st = absurd (omega (arith, lt))

pub new-requires-2 : goal.new-requires-2
new-requires-2 g c =
    let log = c.requires.log in
    let st = subst (λ (m : CardModel). StandsFor c.new-stream.result (fresh m Playback 2147483647)) (ap (λ f. f.model) c.new-card.ensures.facts) c.new-stream.ensures.fresh in
    let here = played c.args.rec.knows.sub log.0 log.1 c.requires.card c.new-stream.result st in
    record {
      plays = subst (λ (z : (List (CardModel × Dir) × ℕ) × List Marked). HasPlayed z.0.0 z.0.1 (c.args.rec.knows.sub, z.1) c.new-stream.result) (λ i. ((sym c.requires.cards.0 i, sym c.requires.cards.1 i), sym log.2 i)) here;
    }
