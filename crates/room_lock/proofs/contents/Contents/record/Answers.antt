use Rattle.std.proofs.Common.{◌≡◌, ◌≤◌, ◌+◌, ◌++◌, ℕ, List, length, map, get_or, sym, ap, ◌∙◌, subst, arith}
use Rattle.pcm_base.specs.declared.votes.Acted.{Acted}
use Rattle.pcm_base.specs.model.Acts.{subs}
use Rattle.card_emul.specs.declared.any_card.AnyCard.{AnyCard}
use Rattle.card_emul.specs.contracts.any_card.AnyCardCard.TheImpl.{ghosts}
use Rattle.pcm_stream.specs.declared.members.Member.{Member}
use Rattle.pcm_stream.specs.MembersStand.{AllStandFor}
use Rattle.pcm_group.specs.Inside.{members_in}
use Rattle.room_book.specs.Laws.{step_of}
use Rattle.room_book.specs.Logs.{client_of}
use Rattle.room_book.specs.Rooms.{RoomFits, acts_in, fresh_streams}
use Rattle.room_book.specs.declared.book.BookEntry.{BookEntry}
use Rattle.room_book.specs.declared.book.BookEntry.TheVariants.{Act}
use Rattle.room_lock.specs.Joints.{AreVotes}
use Rattle.room_lock.specs.Recorded.{IsRecorded}
use Rattle.room_parts.specs.Recs.{sub_of}
use Rattle.room_lock.specs.Turning.{logs_of}
use Rattle.room_lock.proofs.AfterTurn.{acts_both, acts_few, no_link, none_due, own_is_member, placed_recorded, subs_recorded}
use Rattle.room_lock.proofs.MemberLemmas.{numbers_are}
use Rattle.room_lock.proofs.RecLemmas.{found, no_rec}
use Rattle.room_lock.proofs.Records.{are_votes, length_map}
use Rattle.room_lock.proofs.contents.Contents.record.Goals as goal

pub record_turn-receipt-requires-clause-few : goal.record_turn-receipt-requires-clause-few
record_turn-receipt-requires-clause-few g c =
    let told = c.requires.made in
    let e = c.args.event.now in
    let d = step_of e told.1 told.0 in
    let rs = c.args.self.now.recs.items in
    let r = get_or rs c.args.own no_rec in
    let at = found rs c.args.own c.requires.own in
    let member = own_is_member rs told.0 c.args.own r e.sub told.2.recs_are at (c.requires.sub r at) in
    let few : length d.acts ≤ 3 = c.steps.ensures.few e.call (client_of e.client) e.sub told.1 told.0 told.2.fits.fits.apart member in
    let same : length c.as_slice-acts.result.now ≡ length d.acts = ap length (c.as_slice-acts.ensures ∙ told.3.acts) in
    omega (arith, few, same)

pub record_turn-receipt-requires-clause-voted : goal.record_turn-receipt-requires-clause-voted
record_turn-receipt-requires-clause-voted g c =
    let told = c.requires.made in
    let xs = told.0 in
    let e = c.args.event.now in
    let rs = c.args.self.now.recs.items in
    let d = step_of e told.1 xs in
    let r = get_or rs c.args.own no_rec in
    let at = found rs c.args.own c.requires.own in
    let here = told.2.recs_are in
    let member = own_is_member rs xs c.args.own r e.sub here at (c.requires.sub r at) in
    let size : length (subs xs) ≡ length rs = ap length (sym here) ∙ length_map sub_of rs in
    subst (λ (z : ℕ × List Acted). AreVotes z.0 z.1) (λ j. (size j, sym (c.as_slice-acts.ensures ∙ told.3.acts) j))
    (are_votes (subs xs) d.acts (c.steps.ensures.decided e.call (client_of e.client) e.sub told.1 xs told.2.fits.fits.apart member))

pub record_turn-receipt-requires-clause-lines : goal.record_turn-receipt-requires-clause-lines
record_turn-receipt-requires-clause-lines g c =
    let told = c.requires.made in
    let e = c.args.event.now in
    let d = step_of e told.1 told.0 in
    let rs = c.args.self.now.recs.items in
    let r = get_or rs c.args.own no_rec in
    let at = found rs c.args.own c.requires.own in
    let member = own_is_member rs told.0 c.args.own r e.sub told.2.recs_are at (c.requires.sub r at) in
    let few : length d.acts ≤ 3 = c.steps.ensures.few e.call (client_of e.client) e.sub told.1 told.0 told.2.fits.fits.apart member in
    let same : length c.as_slice-acts.result.now ≡ length d.acts = ap length (c.as_slice-acts.ensures ∙ told.3.acts) in
    let lines = c.requires.lines in
    omega (arith, few, same, lines)

pub record_turn-receipt-requires-clause-serials : goal.record_turn-receipt-requires-clause-serials
record_turn-receipt-requires-clause-serials g c =
    let told = c.requires.made in
    let e = c.args.event.now in
    let d = step_of e told.1 told.0 in
    let rs = c.args.self.now.recs.items in
    let r = get_or rs c.args.own no_rec in
    let at = found rs c.args.own c.requires.own in
    let member = own_is_member rs told.0 c.args.own r e.sub told.2.recs_are at (c.requires.sub r at) in
    let few : length d.acts ≤ 3 = c.steps.ensures.few e.call (client_of e.client) e.sub told.1 told.0 told.2.fits.fits.apart member in
    let same : length c.as_slice-acts.result.now ≡ length d.acts = ap length (c.as_slice-acts.ensures ∙ told.3.acts) in
    let count = told.2.acts in
    let many = acts_few c.args.self.now.book.items in
    omega (arith, few, same, count, many, c.args.self.now.book.ok.0, c.args.self.now.book.small)

pub overflow_add-self : goal.overflow_add-self
overflow_add-self g c =
    let told = c.requires.made in
    let e = c.args.event.now in
    let d = step_of e told.1 told.0 in
    let rs = c.args.self.now.recs.items in
    let r = get_or rs c.args.own no_rec in
    let at = found rs c.args.own c.requires.own in
    let member = own_is_member rs told.0 c.args.own r e.sub told.2.recs_are at (c.requires.sub r at) in
    let few : length d.acts ≤ 3 = c.steps.ensures.few e.call (client_of e.client) e.sub told.1 told.0 told.2.fits.fits.apart member in
    let same : length c.as_slice-acts.result.now ≡ length d.acts = ap length (c.as_slice-acts.ensures ∙ told.3.acts) in
    let count = told.2.acts in
    let many = acts_few c.args.self.now.book.items in
    omega (arith, few, same, count, many, c.args.self.now.book.ok.0, c.args.self.now.book.small)

pub returns-clause-fits : goal.returns-clause-fits
returns-clause-fits g c = λ xs io room made stands.
    let e = c.args.event.now in
    let old = c.args.self.now.recs.items in
    let now = c.record_turn-receipt.new.recs.items in
    let book = c.args.self.now.book.items in
    let own = c.args.own in
    let number = c.args.self.now.number in
    let d = step_of e io xs in
    let acts : c.as_slice-acts.result.now ≡ d.acts = c.as_slice-acts.ensures ∙ made.turn_is.acts in
    let r = get_or old own no_rec in
    let at = found old own c.requires.own in
    let is = c.requires.sub r at in
    let rec0 = c.record_turn-receipt.ensures.recorded r at d.members (subst (λ (ms : List (Member AnyCard ghosts)). AllStandFor ms d.members) (sym c.members-members.ensures.members) stands) in
    let rec1 = subst (λ (z : List ℕ × List Acted × ℕ). IsRecorded d.members own e c.args.count z.0 d.answer.reply z.1 number z.2 r old now c.args.pass.now c.record_turn-receipt.new.pass)
    (λ j. (made.bytes j, acts j, room.acts j)) (subst (λ x. IsRecorded d.members own e c.args.count c.args.bytes x c.as_slice-acts.result.now number c.args.self.now.serial r old now c.args.pass.now c.record_turn-receipt.new.pass) made.turn_is.reply rec0) in
    let book_is : c.record_turn-receipt.new.book.items ≡ book ++ map Act d.acts = c.record_turn-receipt.ensures.book ∙ ap (λ (l : List Acted). book ++ map Act l) acts in
    let fits = c.records.ensures (fresh_streams g.N.FloorName.cards g.N.FloorName.long_max) number own c.args.count xs book e io r old now c.args.pass.now c.record_turn-receipt.new.pass room.fits room.recs_are at is (no_link e.call c.requires.call) (none_due e.call d.answer.reply c.requires.call) made.lent made.asleep rec1 in
    let same_numbers : subs xs ≡ subs d.members = sym room.recs_are ∙ c.requires.members ∙ sym (numbers_are (members_in c.args.self.now.group) d.members stands) in
    record {
      recs_are = subs_recorded d.members own e c.args.count _ d.answer.reply d.acts number _ r old now c.args.pass.now c.record_turn-receipt.new.pass at rec1 ∙ room.recs_are ∙ same_numbers;
      fits = subst (λ (b : List BookEntry). RoomFits (fresh_streams g.N.FloorName.cards g.N.FloorName.long_max) number d.members (logs_of now) b) (sym book_is) fits;
      placed = placed_recorded number _ d.members own e c.args.count _ d.answer.reply d.acts number _ r old now c.args.pass.now c.record_turn-receipt.new.pass at rec1 room.placed;
      acts = ap (λ (k : ℕ). k + length c.as_slice-acts.result.now) room.acts ∙ ap (λ (l : List Acted). acts_in book + length l) acts ∙ sym (acts_both book d.acts) ∙ ap acts_in (sym book_is);
    }
