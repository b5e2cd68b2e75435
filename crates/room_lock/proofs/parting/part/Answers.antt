use Rattle.std.proofs.Common.{◌≡◌, ◌<◌, ℕ, List, [], ◌∷◌, ◌++◌, length, slice_get, Some, append_assoc, sym, ap, ◌∙◌, subst, arith}
use Rattle.std.specs.List.{remove}
use Rattle.std.specs.Int.RustNames.{bit_or}
use Rattle.card_emul.specs.declared.any_card.AnyCard.{AnyCard}
use Rattle.card_emul.specs.contracts.any_card.AnyCardCard.TheImpl.{ghosts}
use Rattle.floor_rule.specs.Seats.{NoteSees}
use Rattle.pcm_base.specs.declared.ids.SubId.{SubId}
use Rattle.pcm_base.specs.model.Sleep.{mask_of, wake, woken}
use Rattle.pcm_base.specs.model.World.{only_member, without_member}
use Rattle.pcm_group.specs.Inside.{members_in}
use Rattle.pcm_group.specs.declared.group.Group.{Group}
use Rattle.pcm_stream.specs.Members.{members_of, numbers_of}
use Rattle.pcm_stream.specs.MembersStand.{AllStandFor}
use Rattle.pcm_stream.specs.declared.members.Member.{Member}
use Rattle.pcm_stream.specs.declared.members.Members.{Members}
use Rattle.room_book.specs.declared.book.BookEntry.{BookEntry}
use Rattle.room_book.specs.declared.book.BookEntry.TheVariants.{In, Out}
use Rattle.room_parts.specs.Recs.{RecView, sub_of, subs_of}
use Rattle.room_lock.specs.Joined.{HasRoom}
use Rattle.room_lock.specs.Linked.{HasMoved}
use Rattle.room_lock.proofs.MaskLemmas.{mask_of-append}
use Rattle.room_lock.proofs.LeavingLemmas.{length_remove}
use Rattle.room_lock.proofs.PartingLemmas.{pair_of}
use Rattle.room_lock.proofs.RecLemmas.{some_one}
use Rattle.room_lock.proofs.Records.{length_map}
use Rattle.room_lock.proofs.TellingLemmas.{head_same, noted}
use Rattle.room_lock.proofs.parting.part.Goals as goal

pub last_out-last-requires-clause-one : goal.last_out-last-requires-clause-one
last_out-last-requires-clause-one g c =
    let rs = c.args.room.now.recs.items in
    let i = c.args.place in
    let told = c.tell-news.ensures.same in
    let told2 = c.tell-copy.ensures.same in
    let checked = c.check-here.ensures.same.0 in
    let kept : c.check-here.new.self.recs.items ≡ rs = cc in
    let two = c.requires.two in
    let lt = c.requires.place in
    let less = length_remove rs i (omega (arith, two, lt)) in
    let size = ap length (c.take_out-one.ensures.recs ∙ ap (λ (l : List RecView). remove l i) kept) in
    omega (arith, less, size, two)

pub come_in-gone-requires-clause-table : goal.come_in-gone-requires-clause-table
come_in-gone-requires-clause-table g c =
    let rs = c.args.room.now.recs.items in
    let two = pair_of rs c.args.place c.requires.two c.requires.place in
    (c.requires.table, ap (λ (n : NoteSees). n.table) (c.tell-news.ensures.note two.here two.here_at))

pub come_in-gone-requires-clause-card : goal.come_in-gone-requires-clause-card
come_in-gone-requires-clause-card g c =
    let rs = c.args.room.now.recs.items in
    let two = pair_of rs c.args.place c.requires.two c.requires.place in
    subst (λ (k : SubId). k.0 < length g.N.FloorName.cards) (c.requires.sub two.here two.here_at) (c.requires.cause two.here two.here_at).0

pub come_in-gone-requires-clause-sub : goal.come_in-gone-requires-clause-sub
come_in-gone-requires-clause-sub g c =
    let rs = c.args.room.now.recs.items in
    let i = c.args.place in
    let told = c.tell-news.ensures.same in
    let told2 = c.tell-copy.ensures.same in
    let checked = c.check-here.ensures.same.0 in
    let kept : c.check-here.new.self.recs.items ≡ rs = cc in
    let at : slice_get rs i ≡ Some c.take_out-one.result.one.rec = ap (λ (l : List RecView). slice_get l i) (sym kept) ∙ c.take_out-one.ensures.rec in
    c.take_out-one.ensures.number ∙ ap (λ (k : SubId). k ∷ []) (sym (c.requires.sub c.take_out-one.result.one.rec at))

pub come_in-gone-requires-clause-rec : goal.come_in-gone-requires-clause-rec
come_in-gone-requires-clause-rec g c =
    let rs = c.args.room.now.recs.items in
    let i = c.args.place in
    let told = c.tell-news.ensures.same in
    let told2 = c.tell-copy.ensures.same in
    let checked = c.check-here.ensures.same.0 in
    let kept : c.check-here.new.self.recs.items ≡ rs = cc in
    let at : slice_get rs i ≡ Some c.take_out-one.result.one.rec = ap (λ (l : List RecView). slice_get l i) (sym kept) ∙ c.take_out-one.ensures.rec in
    c.requires.room.0 c.take_out-one.result.one.rec at

pub come_in-gone-requires-clause-cause : goal.come_in-gone-requires-clause-cause
come_in-gone-requires-clause-cause g c =
    let rs = c.args.room.now.recs.items in
    let two = pair_of rs c.args.place c.requires.two c.requires.place in
    let note = c.tell-news.ensures.note two.here two.here_at in
    let m = (c.requires.cause two.here two.here_at).1 in
    (m.0, noted c.tell-news.result two.here c.args.cause.sub.0 c.args.cause.index m.0 (ap (λ (n : NoteSees). n.lists) note) (ap (λ (k : SubId). k.0) (c.requires.sub two.here two.here_at)) m.1, m.2)

pub come_in-alone-requires-clause-table : goal.come_in-alone-requires-clause-table
come_in-alone-requires-clause-table g c =
    let rs = c.args.room.now.recs.items in
    let two = pair_of rs c.args.place c.requires.two c.requires.place in
    (c.requires.table, ap (λ (n : NoteSees). n.table) (c.tell-copy.ensures.note two.here (ap (λ (l : List RecView). slice_get l c.args.place) c.tell-news.ensures.same ∙ two.here_at)))

pub come_in-alone-requires-clause-card : goal.come_in-alone-requires-clause-card
come_in-alone-requires-clause-card g c =
    let rs = c.args.room.now.recs.items in
    let two = pair_of rs c.args.place c.requires.two c.requires.place in
    subst (λ (k : SubId). k.0 < length g.N.FloorName.cards) (c.requires.sub two.here two.here_at) (c.requires.cause two.here two.here_at).0

pub come_in-alone-requires-clause-one : goal.come_in-alone-requires-clause-one
come_in-alone-requires-clause-one g c =
    let numbers : numbers_of (members_of c.last_out-last.result.members) ≡ sub_of c.last_out-last.result.rec ∷ [] = ap (λ (ms : Members AnyCard ghosts). numbers_of (members_of ms)) c.last_out-last.ensures.members ∙ c.take_out-one.ensures.others ∙ ap subs_of c.last_out-last.ensures.rec in
    let size = length_map (λ (m : Member AnyCard ghosts). m.sub) (members_of c.last_out-last.result.members) in
    let one = ap length numbers in
    omega (arith, size, one)

pub come_in-alone-requires-clause-sub : goal.come_in-alone-requires-clause-sub
come_in-alone-requires-clause-sub g c =
    let numbers : numbers_of (members_of c.last_out-last.result.members) ≡ sub_of c.last_out-last.result.rec ∷ [] = ap (λ (ms : Members AnyCard ghosts). numbers_of (members_of ms)) c.last_out-last.ensures.members ∙ c.take_out-one.ensures.others ∙ ap subs_of c.last_out-last.ensures.rec in
    numbers

pub come_in-alone-requires-clause-rec : goal.come_in-alone-requires-clause-rec
come_in-alone-requires-clause-rec g c =
    let rs = c.args.room.now.recs.items in
    let i = c.args.place in
    let told = c.tell-news.ensures.same in
    let told2 = c.tell-copy.ensures.same in
    let checked = c.check-here.ensures.same.0 in
    let kept : c.check-here.new.self.recs.items ≡ rs = cc in
    let two = pair_of rs i c.requires.two c.requires.place in
    let left = c.take_out-one.ensures.recs ∙ ap (λ (l : List RecView). remove l i) kept ∙ two.rest in
    let last_is = head_same c.take_out-one.new.self.recs.items c.last_out-last.result.rec two.there c.last_out-last.ensures.rec left in
    subst (HasRoom 1) (sym last_is) (c.requires.room.1 two.there two.there_at)

pub come_in-alone-requires-clause-cause : goal.come_in-alone-requires-clause-cause
come_in-alone-requires-clause-cause g c =
    let rs = c.args.room.now.recs.items in
    let two = pair_of rs c.args.place c.requires.two c.requires.place in
    let note = c.tell-copy.ensures.note two.here (ap (λ (l : List RecView). slice_get l c.args.place) c.tell-news.ensures.same ∙ two.here_at) in
    let m = (c.requires.cause two.here two.here_at).1 in
    (m.0, noted c.tell-copy.result two.here c.args.cause.sub.0 c.args.cause.index m.0 (ap (λ (n : NoteSees). n.lists) note) (ap (λ (k : SubId). k.0) (c.requires.sub two.here two.here_at)) m.1, m.3)

pub returns-clause-recs : goal.returns-clause-recs
returns-clause-recs g c = λ r q r_at q_at.
    let rs = c.args.room.now.recs.items in
    let i = c.args.place in
    let told = c.tell-news.ensures.same in
    let told2 = c.tell-copy.ensures.same in
    let checked = c.check-here.ensures.same.0 in
    let kept : c.check-here.new.self.recs.items ≡ rs = cc in
    let two = pair_of rs i c.requires.two c.requires.place in
    let left = c.take_out-one.ensures.recs ∙ ap (λ (l : List RecView). remove l i) kept ∙ two.rest in
    let last_is = head_same c.take_out-one.new.self.recs.items c.last_out-last.result.rec two.there c.last_out-last.ensures.rec left in
    let at : slice_get rs i ≡ Some c.take_out-one.result.one.rec = ap (λ (l : List RecView). slice_get l i) (sym kept) ∙ c.take_out-one.ensures.rec in
    let one_is = some_one c.take_out-one.result.one.rec r (sym at ∙ r_at) in
    let other_is = last_is ∙ some_one two.there q (sym two.there_at ∙ q_at) in
    let gone = c.come_in-gone.ensures.rec in
    let alone = c.come_in-alone.ensures.rec in (
      gone.0,
      alone.0,
      gone.1,
      alone.1,
      subst (λ (x : RecView). HasMoved x gone.0 c.args.own.now.number c.args.page.now c.args.cause) one_is gone.2,
      subst (λ (x : RecView). HasMoved x alone.0 c.args.other.now.number c.args.left.now c.args.cause) other_is alone.2,
    )

pub returns-clause-books : goal.returns-clause-books
returns-clause-books g c = λ q q_at.
    let rs = c.args.room.now.recs.items in
    let i = c.args.place in
    let told = c.tell-news.ensures.same in
    let told2 = c.tell-copy.ensures.same in
    let checked = c.check-here.ensures.same.0 in
    let kept : c.check-here.new.self.recs.items ≡ rs = cc in
    let two = pair_of rs i c.requires.two c.requires.place in
    let left = c.take_out-one.ensures.recs ∙ ap (λ (l : List RecView). remove l i) kept ∙ two.rest in
    let last_is = head_same c.take_out-one.new.self.recs.items c.last_out-last.result.rec two.there c.last_out-last.ensures.rec left in
    let at : slice_get rs i ≡ Some c.take_out-one.result.one.rec = ap (λ (l : List RecView). slice_get l i) (sym kept) ∙ c.take_out-one.ensures.rec in
    let other_is = ap sub_of (last_is ∙ some_one two.there q (sym two.there_at ∙ q_at)) in
    let k = c.args.cause.sub in
    let book = c.args.room.now.book.items in
    let same = c.check-here.ensures.same.1 in
    let taken = c.take_out-one.ensures.book in
    let out : c.take_out-one.new.self.book.items ≡ book ++ Out k ∷ [] = cc in (
      c.last_out-last.ensures.book ∙ ap (λ (z : List BookEntry × SubId). z.0 ++ Out z.1 ∷ []) (λ n. (out n, other_is n)) ∙ append_assoc book (Out k ∷ []) (Out (sub_of q) ∷ []),
      c.come_in-gone.ensures.book ∙ ap (λ (x : SubId). c.args.own.now.book.items ++ In x ∷ []) (c.requires.sub c.take_out-one.result.one.rec at),
      c.come_in-alone.ensures.book ∙ ap (λ (x : SubId). c.args.other.now.book.items ++ In x ∷ []) other_is,
    )

pub returns-clause-gone : goal.returns-clause-gone
returns-clause-gone g c = (c.last_out-last.ensures.none, ap (λ (x : Group AnyCard ghosts). members_in x) (c.last_out-last.ensures.same.0 ∙ c.take_out-one.ensures.group) ∙ c.requires.spares.0)

pub returns-clause-stands : goal.returns-clause-stands
returns-clause-stands g c = λ xs st.
    let k = c.args.cause.sub in
    let before = c.check-here.ensures.stands xs st in
    let none : AllStandFor (members_in c.args.own.now.group) [] = subst (λ (l : List (Member AnyCard ghosts)). AllStandFor l []) (sym c.requires.empty.0) tt in
    let none2 : AllStandFor (members_in c.args.other.now.group) [] = subst (λ (l : List (Member AnyCard ghosts)). AllStandFor l []) (sym c.requires.empty.1) tt in
    let rest = subst (λ (ms : Members AnyCard ghosts). AllStandFor (members_of ms) (without_member k (wake xs))) (sym c.last_out-last.ensures.members) (c.take_out-one.ensures.rest (wake xs) before) in (
      c.come_in-gone.ensures.stands [] (only_member k (wake xs)) none (c.take_out-one.ensures.one (wake xs) before),
      c.come_in-alone.ensures.stands [] (without_member k (wake xs)) none2 rest,
    )

pub returns-clause-woken : goal.returns-clause-woken
returns-clause-woken g c = λ xs st.
    let k = c.args.cause.sub in
    let before = c.check-here.ensures.stands xs st in
    let none : AllStandFor (members_in c.args.own.now.group) [] = subst (λ (l : List (Member AnyCard ghosts)). AllStandFor l []) (sym c.requires.empty.0) tt in
    let none2 : AllStandFor (members_in c.args.other.now.group) [] = subst (λ (l : List (Member AnyCard ghosts)). AllStandFor l []) (sym c.requires.empty.1) tt in
    let rest = subst (λ (ms : Members AnyCard ghosts). AllStandFor (members_of ms) (without_member k (wake xs))) (sym c.last_out-last.ensures.members) (c.take_out-one.ensures.rest (wake xs) before) in
    let a = c.check-here.ensures.woken xs st in
    let b = c.come_in-gone.ensures.woken [] (only_member k (wake xs)) none (c.take_out-one.ensures.one (wake xs) before) in
    let d = c.come_in-alone.ensures.woken [] (without_member k (wake xs)) none2 rest in
    ap (λ (z : ℕ × ℕ × ℕ). bit_or (bit_or z.0 z.1) z.2) (λ i. (a i, b i, d i))
    ∙ ap (λ (n : ℕ). bit_or n (mask_of (woken (without_member k (wake xs))))) (sym (mask_of-append (woken xs) (woken (only_member k (wake xs)))))
    ∙ sym (mask_of-append (woken xs ++ woken (only_member k (wake xs))) (woken (without_member k (wake xs))))
