use Rattle.std.proofs.Common.{List, [], length, sym, subst}
use Rattle.card_emul.specs.declared.any_card.AnyCard.{AnyCard}
use Rattle.card_emul.specs.contracts.any_card.AnyCardCard.TheImpl.{ghosts}
use Rattle.pcm_stream.specs.MembersStand.{AllStandFor}
use Rattle.pcm_stream.specs.declared.members.Member.{Member}
use Rattle.room_book.specs.Rooms.{fresh_streams}
use Rattle.room_book.specs.declared.book.BookEntry.{BookEntry}
use Rattle.room_parts.specs.Recs.{RecView}
use Rattle.room_lock.specs.InRoom.{FitsIn}
use Rattle.room_lock.proofs.NewLemmas.{empty_fits}
use Rattle.room_lock.proofs.new_rooms.empty.Goals as goal

pub returns-clause-fits : goal.returns-clause-fits
returns-clause-fits g c =
    let origin = fresh_streams g.N.FloorName.cards g.N.FloorName.long_max in
    let cards = length g.N.FloorName.cards in
    record {
      streams = [];
      stand = c.of-group.ensures.stands [] (subst (λ (l : List (Member AnyCard ghosts)). AllStandFor l []) (sym c.in_ok-new.ensures) tt);
      fits_in = subst (λ (z : List RecView × List BookEntry). FitsIn origin cards 0 c.args.number [] z.0 z.1) (λ i. (sym c.in_ok-with_capacity.ensures.items i, sym c.new-2.ensures.items i)) (empty_fits origin cards c.args.number);
    }
