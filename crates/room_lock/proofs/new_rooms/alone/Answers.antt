use Rattle.std.proofs.Common.{◌≡◌, ℕ, List, [], ◌∷◌, ◌++◌, length, slice_get, Some, refl, sym, ap, ◌∙◌, subst}
use Rattle.card_emul.specs.Limits.{limits_of}
use Rattle.pcm_base.specs.CardFacts.{CardFacts}
use Rattle.pcm_base.specs.declared.config.CardModel.{CardModel}
use Rattle.pcm_base.specs.declared.ids.SubId.{SubId}
use Rattle.pcm_base.specs.model.Stream.{Member as ModelMember, fresh}
use Rattle.pcm_group.specs.Inside.{members_in}
use Rattle.pcm_stream.specs.MembersStand.{AllStandFor}
use Rattle.pcm_stream.specs.StandsFor.{StandsFor}
use Rattle.room_book.specs.Rooms.{fresh_streams}
use Rattle.room_book.specs.declared.book.BookEntry.{BookEntry}
use Rattle.room_book.specs.declared.book.BookEntry.TheVariants.{In}
use Rattle.room_parts.specs.Recs.{RecView}
use Rattle.room_lock.specs.InRoom.{FitsIn}
use Rattle.room_lock.proofs.NewLemmas.{alone_fits, alone_stands, one_stands}
use Rattle.room_lock.proofs.new_rooms.alone.Goals as goal

pub returns-clause-stands : goal.returns-clause-stands
returns-clause-stands g c =
    let model = limits_of c.args.card.0 in
    let dir = c.args.card.1 in
    let stream = subst (λ (m : CardModel). StandsFor c.new-3.result (fresh m dir c.args.long_max)) (ap (λ (f : CardFacts). f.model) c.new-2.ensures.facts) c.new-3.ensures.fresh in
    let x : ModelMember = record { sub = c.sub-sub.result; stream = fresh model dir c.args.long_max; asleep = [] } in
    let stands = one_stands _ _ _ x c.add.ensures c.in_ok-members.ensures (alone_stands c.sub-sub.result c.new-3.result c.new-4.result (fresh model dir c.args.long_max) stream refl c.new-4.ensures) in
    subst (λ (n : ℕ). AllStandFor (members_in c.of-group.result.0) (record { sub = record { 0 = n }; stream = fresh model dir c.args.long_max; asleep = [] } ∷ [])) c.sub-sub.ensures.sub (c.of-group.ensures.stands (x ∷ []) stands)

pub returns-clause-fits : goal.returns-clause-fits
returns-clause-fits g c =
    let cs = g.N.FloorName.cards in
    let long_max = g.N.FloorName.long_max in
    let model = limits_of c.args.card.0 in
    let dir = c.args.card.1 in
    let k : SubId = c.sub-sub.result in
    let stream = subst (λ (m : CardModel). StandsFor c.new-3.result (fresh m dir c.args.long_max)) (ap (λ (f : CardFacts). f.model) c.new-2.ensures.facts) c.new-3.ensures.fresh in
    let x : ModelMember = record { sub = k; stream = fresh model dir c.args.long_max; asleep = [] } in
    let stands = one_stands _ _ _ x c.add.ensures c.in_ok-members.ensures (alone_stands k c.new-3.result c.new-4.result (fresh model dir c.args.long_max) stream refl c.new-4.ensures) in
    let card : slice_get cs k.0 ≡ Some (model, dir) = ap (λ (n : ℕ). slice_get cs n) c.sub-sub.ensures.sub ∙ c.requires.card in
    let fits : FitsIn (fresh_streams cs long_max) (length cs) 0 k.0 (record { sub = k; stream = fresh model dir long_max; asleep = [] } ∷ []) (c.args.rec ∷ []) (In k ∷ []) =
    alone_fits cs long_max k model dir c.args.rec card c.sub-sub.ensures.card c.requires.cards (sym c.sub-sub.ensures.sub) c.requires.new.0 c.requires.new.1 in
    let recs : c.push_reserved.new.self.items ≡ c.args.rec ∷ [] = c.push_reserved.ensures.items ∙ ap (λ (l : List RecView). l ++ c.args.rec ∷ []) c.in_ok-recs.ensures.items in
    let book : c.push.new.self.items ≡ In k ∷ [] = c.in_ok-push.ensures.items ∙ ap (λ (l : List BookEntry). l ++ In k ∷ []) c.new-book.ensures.items in
    record {
      streams = x ∷ [];
      stand = c.of-group.ensures.stands (x ∷ []) stands;
      fits_in = subst (λ (z : ℕ × ℕ × List RecView × List BookEntry). FitsIn (fresh_streams cs long_max) (length cs) 0 z.0 (record { sub = k; stream = fresh model dir z.1; asleep = [] } ∷ []) z.2 z.3) (λ i. (sym c.from.ensures i, c.requires.long.0 i, sym recs i, sym book i)) fits;
    }
