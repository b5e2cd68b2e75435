use Rattle.std.proofs.Common.{◌≡◌, ◌<◌, ℕ, ◌++◌, length, length-set, slice_get, slice_set, get_or, Some, refl, sym, ◌∙◌, subst, arith}
use Rattle.room_parts.specs.Recs.{RecView}
use Rattle.room_lock.specs.Linked.{IsLinkRecorded}
use Rattle.room_lock.proofs.PairLemmas.{front_at, front_then_seam, listed, seam_at, seam_then_front}
use Rattle.room_lock.proofs.RecLemmas.{some_one}
use Rattle.room_lock.proofs.within.record_both.Goals as goal

pub link_on-requires-clause-spare : goal.link_on-requires-clause-spare
link_on-requires-clause-spare g c =
    let cut = c.split_at_mut-front.ensures in
    let front = c.split_at_mut-front.result.0.now in
    let back = c.split_at_mut-front.result.1.now in
    let one = (c.requires.room.0 _ (front_at c.args.recs.now front back c.args.other c.args.own c.index-front-own.result cut.value cut.front_len c.if-own-other.true)).0 in
    let two = (c.requires.room.1 _ (seam_at c.args.recs.now front back c.args.other c.index-back-0.result cut.value cut.front_len c.requires.places.1)).0 in
    (omega (arith, one), omega (arith, two))

pub link_on-requires-clause-room : goal.link_on-requires-clause-room
link_on-requires-clause-room g c =
    let cut = c.split_at_mut-front.ensures in
    let front = c.split_at_mut-front.result.0.now in
    let back = c.split_at_mut-front.result.1.now in
    let one = (c.requires.room.0 _ (front_at c.args.recs.now front back c.args.other c.args.own c.index-front-own.result cut.value cut.front_len c.if-own-other.true)).1 in
    let two = (c.requires.room.1 _ (seam_at c.args.recs.now front back c.args.other c.index-back-0.result cut.value cut.front_len c.requires.places.1)).1 in
    (omega (arith, one), omega (arith, two), c.requires.calls)

pub link_on-requires-clause-names : goal.link_on-requires-clause-names
link_on-requires-clause-names g c =
    let cut = c.split_at_mut-front.ensures in
    let front = c.split_at_mut-front.result.0.now in
    let back = c.split_at_mut-front.result.1.now in (
      (c.requires.first _ (front_at c.args.recs.now front back c.args.other c.args.own c.index-front-own.result cut.value cut.front_len c.if-own-other.true)).1,
      c.requires.second _ (seam_at c.args.recs.now front back c.args.other c.index-back-0.result cut.value cut.front_len c.requires.places.1),
    )

pub link_on-requires-else-own-other-clause-card : goal.link_on-requires-else-own-other-clause-card
link_on-requires-else-own-other-clause-card g c =
    let cut = c.split_at_mut-front-else-own-other.ensures in
    let front = c.split_at_mut-front-else-own-other.result.0.now in
    let back = c.split_at_mut-front-else-own-other.result.1.now in
    let low = (c.requires.first _ (seam_at c.args.recs.now front back c.args.own c.index-back-0-else-own-other.result cut.value cut.front_len c.requires.places.0)).0 in
    let cards = c.requires.words.1 in omega (arith, low, cards)

pub link_on-requires-else-own-other-clause-spare : goal.link_on-requires-else-own-other-clause-spare
link_on-requires-else-own-other-clause-spare g c =
    let cut = c.split_at_mut-front-else-own-other.ensures in
    let front = c.split_at_mut-front-else-own-other.result.0.now in
    let back = c.split_at_mut-front-else-own-other.result.1.now in
    let not_less = c.if-own-other.false in
    let apart = c.requires.places.2 in
    let less : c.args.other < c.args.own = omega (arith, not_less, apart) in
    let one = (c.requires.room.0 _ (seam_at c.args.recs.now front back c.args.own c.index-back-0-else-own-other.result cut.value cut.front_len c.requires.places.0)).0 in
    let two = (c.requires.room.1 _ (front_at c.args.recs.now front back c.args.own c.args.other c.index-front-other.result cut.value cut.front_len less)).0 in
    (omega (arith, one), omega (arith, two))

pub link_on-requires-else-own-other-clause-room : goal.link_on-requires-else-own-other-clause-room
link_on-requires-else-own-other-clause-room g c =
    let cut = c.split_at_mut-front-else-own-other.ensures in
    let front = c.split_at_mut-front-else-own-other.result.0.now in
    let back = c.split_at_mut-front-else-own-other.result.1.now in
    let not_less = c.if-own-other.false in
    let apart = c.requires.places.2 in
    let less : c.args.other < c.args.own = omega (arith, not_less, apart) in
    let one = (c.requires.room.0 _ (seam_at c.args.recs.now front back c.args.own c.index-back-0-else-own-other.result cut.value cut.front_len c.requires.places.0)).1 in
    let two = (c.requires.room.1 _ (front_at c.args.recs.now front back c.args.own c.args.other c.index-front-other.result cut.value cut.front_len less)).1 in
    (omega (arith, one), omega (arith, two), c.requires.calls)

pub link_on-requires-else-own-other-clause-names : goal.link_on-requires-else-own-other-clause-names
link_on-requires-else-own-other-clause-names g c =
    let cut = c.split_at_mut-front-else-own-other.ensures in
    let front = c.split_at_mut-front-else-own-other.result.0.now in
    let back = c.split_at_mut-front-else-own-other.result.1.now in
    let not_less = c.if-own-other.false in
    let apart = c.requires.places.2 in
    let less : c.args.other < c.args.own = omega (arith, not_less, apart) in (
      (c.requires.first _ (seam_at c.args.recs.now front back c.args.own c.index-back-0-else-own-other.result cut.value cut.front_len c.requires.places.0)).1,
      c.requires.second _ (front_at c.args.recs.now front back c.args.own c.args.other c.index-front-other.result cut.value cut.front_len less),
    )

pub returns-then-own-other-clause-recorded : goal.returns-then-own-other-clause-recorded
returns-then-own-other-clause-recorded g c =
    let cut = c.split_at_mut-front.ensures in
    let front = c.split_at_mut-front.result.0.now in
    let back = c.split_at_mut-front.result.1.now in
    let rs = c.args.recs.now in
    let own = c.args.own in
    let other = c.args.other in
    let r0 = get_or front own c.index-front-own.result in
    let q0 = get_or back 0 c.index-back-0.result in
    let here : slice_get rs own ≡ Some r0 = front_at rs front back other own c.index-front-own.result cut.value cut.front_len c.if-own-other.true in
    let there : slice_get rs other ≡ Some q0 = seam_at rs front back other c.index-back-0.result cut.value cut.front_len c.requires.places.1 in
    let did = c.link_on.ensures in
    let first = c.link_on.new.first in
    let second = c.link_on.new.second in
    let now = slice_set front own first ++ slice_set back 0 second in
    let mid = slice_set rs own first in
    let told : IsLinkRecorded own other c.args.link.now c.args.first.now c.args.second.now r0 q0 rs mid mid now c.args.pass.now c.link_on.new.pass = record {
      first = first;
      second = second;
      recs = refl;
      others = front_then_seam rs front back other own first second cut.value cut.front_len c.if-own-other.true;
      joined = record { log = did.first; sub = did.same.0; place = did.same.2; spare = did.spare.0 };
      joined_other = record { log = did.second; sub = did.same.1; place = did.same.3; spare = did.spare.1 };
      called_by = record {
        number = did.same_pass.0;
        caller = did.same_pass.2;
        reads = did.same_pass.1;
        calls = did.calls;
        receipts = did.receipt;
        busy = did.busy;
        list = did.first_list;
        onward = did.first_onward;
        held = did.pass_held;
      };
    } in
    λ r q at at'. (
      mid,
      subst (λ (z : RecView × RecView). IsLinkRecorded own other c.args.link.now c.args.first.now c.args.second.now z.0 z.1 rs mid mid now c.args.pass.now c.link_on.new.pass)
          (λ i. (some_one r0 r (sym here ∙ at) i, some_one q0 q (sym there ∙ at') i)) told,
    )

pub returns-then-own-other-clause-list : goal.returns-then-own-other-clause-list
returns-then-own-other-clause-list g c =
    let cut = c.split_at_mut-front.ensures in
    let front = c.split_at_mut-front.result.0.now in
    let back = c.split_at_mut-front.result.1.now in
    let rs = c.args.recs.now in
    let own = c.args.own in
    let other = c.args.other in
    let did = c.link_on.ensures in
    let first = c.link_on.new.first in
    let second = c.link_on.new.second in
    let lt : other < length (slice_set rs own first) = subst (λ (n : ℕ). other < n) (sym (length-set rs own first)) c.requires.places.1 in
    listed (slice_set rs own first) (slice_set front own first ++ slice_set back 0 second) other (get_or back 0 c.index-back-0.result) second c.link_on.new.pass.knows.held.logs
    (front_then_seam rs front back other own first second cut.value cut.front_len c.if-own-other.true) lt did.same.1 did.second_list

pub returns-else-own-other-clause-recorded : goal.returns-else-own-other-clause-recorded
returns-else-own-other-clause-recorded g c =
    let cut = c.split_at_mut-front-else-own-other.ensures in
    let front = c.split_at_mut-front-else-own-other.result.0.now in
    let back = c.split_at_mut-front-else-own-other.result.1.now in
    let rs = c.args.recs.now in
    let own = c.args.own in
    let other = c.args.other in
    let not_less = c.if-own-other.false in
    let apart = c.requires.places.2 in
    let less : other < own = omega (arith, not_less, apart) in
    let r0 = get_or back 0 c.index-back-0-else-own-other.result in
    let q0 = get_or front other c.index-front-other.result in
    let here : slice_get rs own ≡ Some r0 = seam_at rs front back own c.index-back-0-else-own-other.result cut.value cut.front_len c.requires.places.0 in
    let there : slice_get rs other ≡ Some q0 = front_at rs front back own other c.index-front-other.result cut.value cut.front_len less in
    let did = c.link_on-else-own-other.ensures in
    let first = c.link_on-else-own-other.new.first in
    let second = c.link_on-else-own-other.new.second in
    let now = slice_set front other second ++ slice_set back 0 first in
    let mid = slice_set rs own first in
    let told : IsLinkRecorded own other c.args.link.now c.args.first.now c.args.second.now r0 q0 rs mid mid now c.args.pass.now c.link_on-else-own-other.new.pass = record {
      first = first;
      second = second;
      recs = refl;
      others = seam_then_front rs front back own other first second cut.value cut.front_len less;
      joined = record { log = did.first; sub = did.same.0; place = did.same.2; spare = did.spare.0 };
      joined_other = record { log = did.second; sub = did.same.1; place = did.same.3; spare = did.spare.1 };
      called_by = record {
        number = did.same_pass.0;
        caller = did.same_pass.2;
        reads = did.same_pass.1;
        calls = did.calls;
        receipts = did.receipt;
        busy = did.busy;
        list = did.first_list;
        onward = did.first_onward;
        held = did.pass_held;
      };
    } in
    λ r q at at'. (
      mid,
      subst (λ (z : RecView × RecView). IsLinkRecorded own other c.args.link.now c.args.first.now c.args.second.now z.0 z.1 rs mid mid now c.args.pass.now c.link_on-else-own-other.new.pass)
          (λ i. (some_one r0 r (sym here ∙ at) i, some_one q0 q (sym there ∙ at') i)) told,
    )

pub returns-else-own-other-clause-list : goal.returns-else-own-other-clause-list
returns-else-own-other-clause-list g c =
    let cut = c.split_at_mut-front-else-own-other.ensures in
    let front = c.split_at_mut-front-else-own-other.result.0.now in
    let back = c.split_at_mut-front-else-own-other.result.1.now in
    let rs = c.args.recs.now in
    let own = c.args.own in
    let other = c.args.other in
    let not_less = c.if-own-other.false in
    let apart = c.requires.places.2 in
    let less : other < own = omega (arith, not_less, apart) in
    let did = c.link_on-else-own-other.ensures in
    let first = c.link_on-else-own-other.new.first in
    let second = c.link_on-else-own-other.new.second in
    let lt : other < length (slice_set rs own first) = subst (λ (n : ℕ). other < n) (sym (length-set rs own first)) c.requires.places.1 in
    listed (slice_set rs own first) (slice_set front other second ++ slice_set back 0 first) other (get_or front other c.index-front-other.result) second c.link_on-else-own-other.new.pass.knows.held.logs
    (seam_then_front rs front back own other first second cut.value cut.front_len less) lt did.same.1 did.second_list
