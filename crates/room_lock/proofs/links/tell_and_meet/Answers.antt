use Rattle.std.proofs.Common.{◌≡◌, ◌<◌, ℕ, Bool, true, false, cond, List, [], ◌∷◌, ◌++◌, length, slice_get, Some, refl, sym, ap, ◌∙◌, subst, arith}
use Rattle.card_emul.specs.declared.any_card.AnyCard.{AnyCard}
use Rattle.card_emul.specs.contracts.any_card.AnyCardCard.TheImpl.{ghosts}
use Rattle.floor_rule.specs.declared.rule.Marked.{Marked}
use Rattle.pcm_base.specs.declared.ids.SubId.{SubId}
use Rattle.pcm_base.specs.model.Acts.{subs}
use Rattle.pcm_base.specs.model.Group.{stream_of}
use Rattle.pcm_base.specs.model.Sleep.{wake}
use Rattle.pcm_base.specs.model.Stream.{Member as ModelMember}
use Rattle.pcm_group.specs.Inside.{members_in}
use Rattle.pcm_stream.specs.Members.{numbers_of}
use Rattle.pcm_stream.specs.MembersStand.{AllStandFor}
use Rattle.pcm_stream.specs.declared.members.Member.{Member}
use Rattle.room_book.specs.Logs.{is_ok}
use Rattle.room_book.specs.Rooms.{fresh_streams}
use Rattle.room_book.specs.declared.book.BookEntry.TheVariants.{In, Out}
use Rattle.room_parts.specs.Recs.{RecView, sub_of}
use Rattle.room_parts.specs.declared.calling.Linked.{Linked}
use Rattle.room_lock.specs.declared.recording.Receipt.{Receipt}
use Rattle.room_lock.specs.InGroup.{IsPageIn}
use Rattle.room_lock.specs.InRoom.{FitsIn, IsIn, RoomView}
use Rattle.room_lock.specs.Inside.{view_of}
use Rattle.room_lock.specs.Linked.{link_marked, link_of}
use Rattle.room_lock.proofs.MemberLemmas.{all_distinct, numbers_are}
use Rattle.room_lock.proofs.RecLemmas.{room_left}
use Rattle.room_lock.proofs.SharedLemmas.{get_last}
use Rattle.room_lock.proofs.TellingLemmas.{Alone, Telling, alone_rec, first_is, gone_fits, gone_fits2, link_known, link_moves, log_in_alone, met_fits, met_meeting, no_recs_of, no_streams, now2_is, now_is, refused_meeting, same_first, stay_fits, stay_fits2, telling}
use Rattle.room_lock.proofs.links.tell_and_meet.Goals as goal

pub count_at-index-requires-clause-own : goal.count_at-index-requires-clause-own
count_at-index-requires-clause-own g c =
    let subs1 = c.requires.first.fits_in.recs_are ∙ numbers_are (members_in c.args.first.now.group) c.requires.first.streams c.requires.first.stand ∙ c.requires.here.0 in
    let subs2 = c.requires.second.fits_in.recs_are ∙ numbers_are (members_in c.args.second.now.group) c.requires.second.streams c.requires.second.stand ∙ c.requires.here.1 in
    let here : Alone c.args.first.now.recs.items c.args.sub = alone_rec c.args.first.now.recs.items c.args.sub subs1 in
    let there : Alone c.args.second.now.recs.items c.args.other = alone_rec c.args.second.now.recs.items c.args.other subs2 in
    let a = ap length here.recs in
    let b = ap length there.recs in
    omega (arith, a)

pub count_at-index-requires-clause-room : goal.count_at-index-requires-clause-room
count_at-index-requires-clause-room g c = λ r at. c.requires.room.0 0 r at

pub record_link-requires-clause-places : goal.record_link-requires-clause-places
record_link-requires-clause-places g c =
    let subs1 = c.requires.first.fits_in.recs_are ∙ numbers_are (members_in c.args.first.now.group) c.requires.first.streams c.requires.first.stand ∙ c.requires.here.0 in
    let subs2 = c.requires.second.fits_in.recs_are ∙ numbers_are (members_in c.args.second.now.group) c.requires.second.streams c.requires.second.stand ∙ c.requires.here.1 in
    let here : Alone c.args.first.now.recs.items c.args.sub = alone_rec c.args.first.now.recs.items c.args.sub subs1 in
    let there : Alone c.args.second.now.recs.items c.args.other = alone_rec c.args.second.now.recs.items c.args.other subs2 in
    let a = ap length here.recs in
    let b = ap length there.recs in
    (omega (arith, a), omega (arith, b))

pub record_link-requires-clause-card : goal.record_link-requires-clause-card
record_link-requires-clause-card g c = λ r at.
    let subs1 = c.requires.first.fits_in.recs_are ∙ numbers_are (members_in c.args.first.now.group) c.requires.first.streams c.requires.first.stand ∙ c.requires.here.0 in
    let subs2 = c.requires.second.fits_in.recs_are ∙ numbers_are (members_in c.args.second.now.group) c.requires.second.streams c.requires.second.stand ∙ c.requires.here.1 in
    let here : Alone c.args.first.now.recs.items c.args.sub = alone_rec c.args.first.now.recs.items c.args.sub subs1 in
    let there : Alone c.args.second.now.recs.items c.args.other = alone_rec c.args.second.now.recs.items c.args.other subs2 in
    let a = ap length here.recs in
    let b = ap length there.recs in
    let same : here.rec ≡ r = same_first c.args.first.now.recs.items c.args.sub here r at in
    let first : c.linked-link.result.first.0 ≡ c.args.sub.0 = ap (λ (l : Linked). l.first.0) c.linked-link.ensures in
    ((c.requires.first.fits_in.placed 0 r at).1, first ∙ sym (ap (λ (x : SubId). x.0) here.sub) ∙ ap (λ (x : RecView). x.knows.sub) same)

pub record_link-requires-clause-second : goal.record_link-requires-clause-second
record_link-requires-clause-second g c = λ r at.
    let subs1 = c.requires.first.fits_in.recs_are ∙ numbers_are (members_in c.args.first.now.group) c.requires.first.streams c.requires.first.stand ∙ c.requires.here.0 in
    let subs2 = c.requires.second.fits_in.recs_are ∙ numbers_are (members_in c.args.second.now.group) c.requires.second.streams c.requires.second.stand ∙ c.requires.here.1 in
    let here : Alone c.args.first.now.recs.items c.args.sub = alone_rec c.args.first.now.recs.items c.args.sub subs1 in
    let there : Alone c.args.second.now.recs.items c.args.other = alone_rec c.args.second.now.recs.items c.args.other subs2 in
    let a = ap length here.recs in
    let b = ap length there.recs in
    let same : there.rec ≡ r = same_first c.args.second.now.recs.items c.args.other there r at in
    let second : c.linked-link.result.second.0 ≡ c.args.other.0 = ap (λ (l : Linked). l.second.0) c.linked-link.ensures in
    second ∙ sym (ap (λ (x : SubId). x.0) there.sub) ∙ ap (λ (x : RecView). x.knows.sub) same

pub record_link-requires-clause-room : goal.record_link-requires-clause-room
record_link-requires-clause-room g c = (λ r at. c.requires.room.0 0 r at, λ r at. c.requires.room.1 0 r at)

pub returns-then-not-is_ok-clause-met : goal.returns-then-not-is_ok-clause-met
returns-then-not-is_ok-clause-met g c = λ xs ys in1 in2.
    let cs = g.N.FloorName.cards in
    let long_max = g.N.FloorName.long_max in
    let v = view_of c.args.first.now in
    let w = view_of c.args.second.now in
    let k = c.args.sub in
    let j = c.args.other in
    let one = c.page_at-one.result in
    let two = c.page_at-two.result in
    let p = c.args.pass.now in
    let p' = c.record_link.new.pass in
    let now = c.record_link.new.recs.items in
    let now2 = c.record_link.new.others.items in
    let s1 = c.args.first.now.serial in
    let s2 = c.args.second.now.serial in
    let shows : (m : SubId) (zs : List ModelMember) → slice_get (numbers_of v.members) 0 ≡ Some m → AllStandFor v.members zs → IsPageIn one (stream_of m zs) =
    subst (λ (ms : List (Member AnyCard ghosts)). (m : SubId) (zs : List ModelMember) → slice_get (numbers_of ms) 0 ≡ Some m → AllStandFor ms zs → IsPageIn one (stream_of m zs)) c.members.ensures.members c.page_at-one.ensures.shows in
    let shows2 : (m : SubId) (zs : List ModelMember) → slice_get (numbers_of w.members) 0 ≡ Some m → AllStandFor w.members zs → IsPageIn two (stream_of m zs) =
    subst (λ (ms : List (Member AnyCard ghosts)). (m : SubId) (zs : List ModelMember) → slice_get (numbers_of ms) 0 ≡ Some m → AllStandFor ms zs → IsPageIn two (stream_of m zs)) c.members-2.ensures.members c.page_at-two.ensures.shows in
    let t : Telling cs long_max s1 s2 xs ys v w now now2 c.args.client k j one two p p' =
    telling cs long_max s1 s2 xs ys v w now now2 c.args.client k j one two p p' c.linked-link.result in1 in2 c.requires.here.0 c.requires.here.1 c.record_link.ensures.recorded c.linked-link.ensures shows shows2 c.requires.apart c.requires.lone.0 c.requires.lone.1 in
    let reply_is : c.linked-link.result.reply ≡ (link_of c.args.client k j one.state two.state false).reply = ap (λ (l : Linked). l.reply) c.linked-link.ensures in
    let not_ok : is_ok c.linked-link.result.reply ≡ false = sym c.is_ok.ensures ∙ c.if-not-is_ok.true in
    let link_not : is_ok (link_of c.args.client k j one.state two.state false).reply ≡ false = ap is_ok (sym reply_is) ∙ not_ok in
    let v' : RoomView = record v { recs = now } in
    let w' : RoomView = record w { recs = now2 } in
    refused_meeting cs long_max s1 s2 xs ys v w now now2 c.args.client k j one two p p' t v' w' (view_of c.args.group.now) c.linked-link.result.reply refl refl refl refl reply_is not_ok

pub returns-then-not-is_ok-clause-members : goal.returns-then-not-is_ok-clause-members
returns-then-not-is_ok-clause-members g c = λ xs ys in1 in2.
    let cs = g.N.FloorName.cards in
    let long_max = g.N.FloorName.long_max in
    let v = view_of c.args.first.now in
    let w = view_of c.args.second.now in
    let k = c.args.sub in
    let j = c.args.other in
    let one = c.page_at-one.result in
    let two = c.page_at-two.result in
    let p = c.args.pass.now in
    let p' = c.record_link.new.pass in
    let now = c.record_link.new.recs.items in
    let now2 = c.record_link.new.others.items in
    let s1 = c.args.first.now.serial in
    let s2 = c.args.second.now.serial in
    let shows : (m : SubId) (zs : List ModelMember) → slice_get (numbers_of v.members) 0 ≡ Some m → AllStandFor v.members zs → IsPageIn one (stream_of m zs) =
    subst (λ (ms : List (Member AnyCard ghosts)). (m : SubId) (zs : List ModelMember) → slice_get (numbers_of ms) 0 ≡ Some m → AllStandFor ms zs → IsPageIn one (stream_of m zs)) c.members.ensures.members c.page_at-one.ensures.shows in
    let shows2 : (m : SubId) (zs : List ModelMember) → slice_get (numbers_of w.members) 0 ≡ Some m → AllStandFor w.members zs → IsPageIn two (stream_of m zs) =
    subst (λ (ms : List (Member AnyCard ghosts)). (m : SubId) (zs : List ModelMember) → slice_get (numbers_of ms) 0 ≡ Some m → AllStandFor ms zs → IsPageIn two (stream_of m zs)) c.members-2.ensures.members c.page_at-two.ensures.shows in
    let t : Telling cs long_max s1 s2 xs ys v w now now2 c.args.client k j one two p p' =
    telling cs long_max s1 s2 xs ys v w now now2 c.args.client k j one two p p' c.linked-link.result in1 in2 c.requires.here.0 c.requires.here.1 c.record_link.ensures.recorded c.linked-link.ensures shows shows2 c.requires.apart c.requires.lone.0 c.requires.lone.1 in
    let reply_is : c.linked-link.result.reply ≡ (link_of c.args.client k j one.state two.state false).reply = ap (λ (l : Linked). l.reply) c.linked-link.ensures in
    let not_ok : is_ok c.linked-link.result.reply ≡ false = sym c.is_ok.ensures ∙ c.if-not-is_ok.true in
    let link_not : is_ok (link_of c.args.client k j one.state two.state false).reply ≡ false = ap is_ok (sym reply_is) ∙ not_ok in
    let origin = fresh_streams cs long_max in
    let laws = c.moves.ensures in
    let v' : RoomView = record v { recs = now } in
    let w' : RoomView = record w { recs = now2 } in
    let u = view_of c.args.group.now in
    let none : AllStandFor u.members [] = subst (λ (l : List (Member AnyCard ghosts)). AllStandFor l []) (sym c.requires.empty) tt in
    let nobody : c.requires.group.streams ≡ [] = no_streams c.requires.group.streams (numbers_are u.members c.requires.group.streams c.requires.group.stand ∙ ap (λ (l : List (Member AnyCard ghosts)). numbers_of l) c.requires.empty) in
    let empty : FitsIn origin (length cs) c.args.group.now.serial u.number [] u.recs u.book = subst (λ (zs : List ModelMember). FitsIn origin (length cs) c.args.group.now.serial u.number zs u.recs u.book) nobody c.requires.group.fits_in in
    let a : IsIn origin (length cs) s1 v' xs = record { stand = in1.stand; fits_in = stay_fits cs long_max s1 s2 xs ys v w now now2 c.args.client k j one two p p' t laws.entries laws.log laws.change link_not } in
    let b : IsIn origin (length cs) s2 w' ys = record { stand = in2.stand; fits_in = stay_fits2 cs long_max s1 s2 xs ys v w now now2 c.args.client k j one two p p' t laws.entries laws.log laws.change link_not } in
    let d : IsIn origin (length cs) c.args.group.now.serial u [] = record { stand = none; fits_in = empty } in (
      subst (λ (zs : List ModelMember). IsIn origin (length cs) s1 v' zs) (sym (ap (λ (t : Bool). cond t [] xs) not_ok)) a,
      subst (λ (zs : List ModelMember). IsIn origin (length cs) s2 w' zs) (sym (ap (λ (t : Bool). cond t [] ys) not_ok)) b,
      subst (λ (zs : List ModelMember). IsIn origin (length cs) c.args.group.now.serial u zs) (sym (ap (λ (t : Bool). cond t (wake (wake xs ++ wake ys)) []) not_ok)) d,
    )

pub returns-then-not-is_ok-clause-pass : goal.returns-then-not-is_ok-clause-pass
returns-then-not-is_ok-clause-pass g c =
    let cs = g.N.FloorName.cards in
    let long_max = g.N.FloorName.long_max in
    let v = view_of c.args.first.now in
    let w = view_of c.args.second.now in
    let k = c.args.sub in
    let j = c.args.other in
    let one = c.page_at-one.result in
    let two = c.page_at-two.result in
    let p = c.args.pass.now in
    let p' = c.record_link.new.pass in
    let now = c.record_link.new.recs.items in
    let now2 = c.record_link.new.others.items in
    let s1 = c.args.first.now.serial in
    let s2 = c.args.second.now.serial in
    let shows : (m : SubId) (zs : List ModelMember) → slice_get (numbers_of v.members) 0 ≡ Some m → AllStandFor v.members zs → IsPageIn one (stream_of m zs) =
    subst (λ (ms : List (Member AnyCard ghosts)). (m : SubId) (zs : List ModelMember) → slice_get (numbers_of ms) 0 ≡ Some m → AllStandFor ms zs → IsPageIn one (stream_of m zs)) c.members.ensures.members c.page_at-one.ensures.shows in
    let shows2 : (m : SubId) (zs : List ModelMember) → slice_get (numbers_of w.members) 0 ≡ Some m → AllStandFor w.members zs → IsPageIn two (stream_of m zs) =
    subst (λ (ms : List (Member AnyCard ghosts)). (m : SubId) (zs : List ModelMember) → slice_get (numbers_of ms) 0 ≡ Some m → AllStandFor ms zs → IsPageIn two (stream_of m zs)) c.members-2.ensures.members c.page_at-two.ensures.shows in
    let xs = c.requires.first.streams in
    let ys = c.requires.second.streams in
    let in1 : IsIn (fresh_streams cs long_max) (length cs) s1 v xs = record { stand = c.requires.first.stand; fits_in = c.requires.first.fits_in } in
    let in2 : IsIn (fresh_streams cs long_max) (length cs) s2 w ys = record { stand = c.requires.second.stand; fits_in = c.requires.second.fits_in } in
    let t : Telling cs long_max s1 s2 xs ys v w now now2 c.args.client k j one two p p' =
    telling cs long_max s1 s2 xs ys v w now now2 c.args.client k j one two p p' c.linked-link.result in1 in2 c.requires.here.0 c.requires.here.1 c.record_link.ensures.recorded c.linked-link.ensures shows shows2 c.requires.apart c.requires.lone.0 c.requires.lone.1 in
    let reply_is : c.linked-link.result.reply ≡ (link_of c.args.client k j one.state two.state false).reply = ap (λ (l : Linked). l.reply) c.linked-link.ensures in
    let index : c.count_at-index.result ≡ length t.here.rec.knows.log = c.count_at-index.ensures t.here.rec (first_is v.recs k t.here) in
    link_known cs long_max s1 s2 xs ys v w now now2 c.args.client k j one two p p' t c.moves.ensures.entries c.moves.ensures.log c.linked-link.result.reply (record { sub = k; index = c.count_at-index.result }) reply_is refl index

pub returns-then-not-is_ok-clause-receipt : goal.returns-then-not-is_ok-clause-receipt
returns-then-not-is_ok-clause-receipt g c =
    let cs = g.N.FloorName.cards in
    let long_max = g.N.FloorName.long_max in
    let v = view_of c.args.first.now in
    let w = view_of c.args.second.now in
    let k = c.args.sub in
    let j = c.args.other in
    let one = c.page_at-one.result in
    let two = c.page_at-two.result in
    let p = c.args.pass.now in
    let p' = c.record_link.new.pass in
    let now = c.record_link.new.recs.items in
    let now2 = c.record_link.new.others.items in
    let s1 = c.args.first.now.serial in
    let s2 = c.args.second.now.serial in
    let shows : (m : SubId) (zs : List ModelMember) → slice_get (numbers_of v.members) 0 ≡ Some m → AllStandFor v.members zs → IsPageIn one (stream_of m zs) =
    subst (λ (ms : List (Member AnyCard ghosts)). (m : SubId) (zs : List ModelMember) → slice_get (numbers_of ms) 0 ≡ Some m → AllStandFor ms zs → IsPageIn one (stream_of m zs)) c.members.ensures.members c.page_at-one.ensures.shows in
    let shows2 : (m : SubId) (zs : List ModelMember) → slice_get (numbers_of w.members) 0 ≡ Some m → AllStandFor w.members zs → IsPageIn two (stream_of m zs) =
    subst (λ (ms : List (Member AnyCard ghosts)). (m : SubId) (zs : List ModelMember) → slice_get (numbers_of ms) 0 ≡ Some m → AllStandFor ms zs → IsPageIn two (stream_of m zs)) c.members-2.ensures.members c.page_at-two.ensures.shows in
    let xs = c.requires.first.streams in
    let ys = c.requires.second.streams in
    let in1 : IsIn (fresh_streams cs long_max) (length cs) s1 v xs = record { stand = c.requires.first.stand; fits_in = c.requires.first.fits_in } in
    let in2 : IsIn (fresh_streams cs long_max) (length cs) s2 w ys = record { stand = c.requires.second.stand; fits_in = c.requires.second.fits_in } in
    let t : Telling cs long_max s1 s2 xs ys v w now now2 c.args.client k j one two p p' =
    telling cs long_max s1 s2 xs ys v w now now2 c.args.client k j one two p p' c.linked-link.result in1 in2 c.requires.here.0 c.requires.here.1 c.record_link.ensures.recorded c.linked-link.ensures shows shows2 c.requires.apart c.requires.lone.0 c.requires.lone.1 in
    let index : c.count_at-index.result ≡ length t.here.rec.knows.log = c.count_at-index.ensures t.here.rec (first_is v.recs k t.here) in
    (refl, index ∙ ap length (sym (log_in_alone v.recs k t.here)))

pub meet-woken-requires-clause-first : goal.meet-woken-requires-clause-first
meet-woken-requires-clause-first g c =
    let cs = g.N.FloorName.cards in
    let long_max = g.N.FloorName.long_max in
    let v = view_of c.args.first.now in
    let w = view_of c.args.second.now in
    let k = c.args.sub in
    let j = c.args.other in
    let one = c.page_at-one.result in
    let two = c.page_at-two.result in
    let p = c.args.pass.now in
    let p' = c.record_link.new.pass in
    let now = c.record_link.new.recs.items in
    let now2 = c.record_link.new.others.items in
    let s1 = c.args.first.now.serial in
    let s2 = c.args.second.now.serial in
    let shows : (m : SubId) (zs : List ModelMember) → slice_get (numbers_of v.members) 0 ≡ Some m → AllStandFor v.members zs → IsPageIn one (stream_of m zs) =
    subst (λ (ms : List (Member AnyCard ghosts)). (m : SubId) (zs : List ModelMember) → slice_get (numbers_of ms) 0 ≡ Some m → AllStandFor ms zs → IsPageIn one (stream_of m zs)) c.members.ensures.members c.page_at-one.ensures.shows in
    let shows2 : (m : SubId) (zs : List ModelMember) → slice_get (numbers_of w.members) 0 ≡ Some m → AllStandFor w.members zs → IsPageIn two (stream_of m zs) =
    subst (λ (ms : List (Member AnyCard ghosts)). (m : SubId) (zs : List ModelMember) → slice_get (numbers_of ms) 0 ≡ Some m → AllStandFor ms zs → IsPageIn two (stream_of m zs)) c.members-2.ensures.members c.page_at-two.ensures.shows in
    let xs = c.requires.first.streams in
    let ys = c.requires.second.streams in
    let in1 : IsIn (fresh_streams cs long_max) (length cs) s1 v xs = record { stand = c.requires.first.stand; fits_in = c.requires.first.fits_in } in
    let in2 : IsIn (fresh_streams cs long_max) (length cs) s2 w ys = record { stand = c.requires.second.stand; fits_in = c.requires.second.fits_in } in
    let t : Telling cs long_max s1 s2 xs ys v w now now2 c.args.client k j one two p p' =
    telling cs long_max s1 s2 xs ys v w now now2 c.args.client k j one two p p' c.linked-link.result in1 in2 c.requires.here.0 c.requires.here.1 c.record_link.ensures.recorded c.linked-link.ensures shows shows2 c.requires.apart c.requires.lone.0 c.requires.lone.1 in
    let reply_is : c.linked-link.result.reply ≡ (link_of c.args.client k j one.state two.state false).reply = ap (λ (l : Linked). l.reply) c.linked-link.ensures in
    let ok : is_ok c.linked-link.result.reply ≡ true = sym c.is_ok.ensures ∙ c.if-not-is_ok.false in
    let link_ok : is_ok (link_of c.args.client k j one.state two.state false).reply ≡ true = ap is_ok (sym reply_is) ∙ ok in
    let index : c.count_at-index.result ≡ length t.here.rec.knows.log = c.count_at-index.ensures t.here.rec (first_is v.recs k t.here) in
    let r = t.here.rec in
    let s = t.recorded.first in
    let l = link_of c.args.client k j one.state two.state false in
    let m : Marked = link_marked l one.state one.hw p.knows in
    let sub_is : sub_of s ≡ k = ap (λ (n : ℕ). let x : SubId = record { 0 = n } in x) t.recorded.joined.sub ∙ t.here.sub in
    let at = first_is v.recs k t.here in
    let size : length (m ∷ []) ≡ 1 = refl in (
      s,
      now_is cs long_max s1 s2 xs ys v w now now2 c.args.client k j one two p p' t,
      c.requires.here.0 ∙ ap (λ (x : SubId). x ∷ []) (sym sub_is),
      room_left r s (m ∷ []) 1 t.recorded.joined refl (omega arith) (c.requires.room.0 0 r at),
      ap (λ (x : SubId). x.0) sub_is,
      subst (λ (n : ℕ). n < length cs) (sym t.recorded.joined.sub) (c.requires.first.fits_in.placed 0 r at).1,
      (m, ap (λ (z : List Marked × ℕ). slice_get z.0 z.1) (λ i. (t.recorded.joined.log i, index i)) ∙ get_last r.knows.log m, link_moves l one.state one.hw p.knows c.args.group.now.number link_ok),
    )

pub meet-woken-requires-clause-second : goal.meet-woken-requires-clause-second
meet-woken-requires-clause-second g c =
    let cs = g.N.FloorName.cards in
    let long_max = g.N.FloorName.long_max in
    let v = view_of c.args.first.now in
    let w = view_of c.args.second.now in
    let k = c.args.sub in
    let j = c.args.other in
    let one = c.page_at-one.result in
    let two = c.page_at-two.result in
    let p = c.args.pass.now in
    let p' = c.record_link.new.pass in
    let now = c.record_link.new.recs.items in
    let now2 = c.record_link.new.others.items in
    let s1 = c.args.first.now.serial in
    let s2 = c.args.second.now.serial in
    let shows : (m : SubId) (zs : List ModelMember) → slice_get (numbers_of v.members) 0 ≡ Some m → AllStandFor v.members zs → IsPageIn one (stream_of m zs) =
    subst (λ (ms : List (Member AnyCard ghosts)). (m : SubId) (zs : List ModelMember) → slice_get (numbers_of ms) 0 ≡ Some m → AllStandFor ms zs → IsPageIn one (stream_of m zs)) c.members.ensures.members c.page_at-one.ensures.shows in
    let shows2 : (m : SubId) (zs : List ModelMember) → slice_get (numbers_of w.members) 0 ≡ Some m → AllStandFor w.members zs → IsPageIn two (stream_of m zs) =
    subst (λ (ms : List (Member AnyCard ghosts)). (m : SubId) (zs : List ModelMember) → slice_get (numbers_of ms) 0 ≡ Some m → AllStandFor ms zs → IsPageIn two (stream_of m zs)) c.members-2.ensures.members c.page_at-two.ensures.shows in
    let xs = c.requires.first.streams in
    let ys = c.requires.second.streams in
    let in1 : IsIn (fresh_streams cs long_max) (length cs) s1 v xs = record { stand = c.requires.first.stand; fits_in = c.requires.first.fits_in } in
    let in2 : IsIn (fresh_streams cs long_max) (length cs) s2 w ys = record { stand = c.requires.second.stand; fits_in = c.requires.second.fits_in } in
    let t : Telling cs long_max s1 s2 xs ys v w now now2 c.args.client k j one two p p' =
    telling cs long_max s1 s2 xs ys v w now now2 c.args.client k j one two p p' c.linked-link.result in1 in2 c.requires.here.0 c.requires.here.1 c.record_link.ensures.recorded c.linked-link.ensures shows shows2 c.requires.apart c.requires.lone.0 c.requires.lone.1 in
    let q = t.there.rec in
    let s = t.recorded.second in
    let l = link_of c.args.client k j one.state two.state false in
    let m : Marked = link_marked l two.state two.hw p.knows in
    let sub_is : sub_of s ≡ j = ap (λ (n : ℕ). let x : SubId = record { 0 = n } in x) t.recorded.joined_other.sub ∙ t.there.sub in (
      s,
      now2_is cs long_max s1 s2 xs ys v w now now2 c.args.client k j one two p p' t,
      c.requires.here.1 ∙ ap (λ (x : SubId). x ∷ []) (sym sub_is),
      room_left q s (m ∷ []) 1 t.recorded.joined_other refl (omega arith) (c.requires.room.1 0 q (first_is w.recs j t.there)),
      λ e. c.requires.apart (sym e ∙ ap (λ (x : SubId). x.0) sub_is),
    )

pub returns-clause-met : goal.returns-clause-met
returns-clause-met g c = λ xs ys in1 in2.
    let cs = g.N.FloorName.cards in
    let long_max = g.N.FloorName.long_max in
    let v = view_of c.args.first.now in
    let w = view_of c.args.second.now in
    let k = c.args.sub in
    let j = c.args.other in
    let one = c.page_at-one.result in
    let two = c.page_at-two.result in
    let p = c.args.pass.now in
    let p' = c.record_link.new.pass in
    let now = c.record_link.new.recs.items in
    let now2 = c.record_link.new.others.items in
    let s1 = c.args.first.now.serial in
    let s2 = c.args.second.now.serial in
    let shows : (m : SubId) (zs : List ModelMember) → slice_get (numbers_of v.members) 0 ≡ Some m → AllStandFor v.members zs → IsPageIn one (stream_of m zs) =
    subst (λ (ms : List (Member AnyCard ghosts)). (m : SubId) (zs : List ModelMember) → slice_get (numbers_of ms) 0 ≡ Some m → AllStandFor ms zs → IsPageIn one (stream_of m zs)) c.members.ensures.members c.page_at-one.ensures.shows in
    let shows2 : (m : SubId) (zs : List ModelMember) → slice_get (numbers_of w.members) 0 ≡ Some m → AllStandFor w.members zs → IsPageIn two (stream_of m zs) =
    subst (λ (ms : List (Member AnyCard ghosts)). (m : SubId) (zs : List ModelMember) → slice_get (numbers_of ms) 0 ≡ Some m → AllStandFor ms zs → IsPageIn two (stream_of m zs)) c.members-2.ensures.members c.page_at-two.ensures.shows in
    let t : Telling cs long_max s1 s2 xs ys v w now now2 c.args.client k j one two p p' =
    telling cs long_max s1 s2 xs ys v w now now2 c.args.client k j one two p p' c.linked-link.result in1 in2 c.requires.here.0 c.requires.here.1 c.record_link.ensures.recorded c.linked-link.ensures shows shows2 c.requires.apart c.requires.lone.0 c.requires.lone.1 in
    let reply_is : c.linked-link.result.reply ≡ (link_of c.args.client k j one.state two.state false).reply = ap (λ (l : Linked). l.reply) c.linked-link.ensures in
    let ok : is_ok c.linked-link.result.reply ≡ true = sym c.is_ok.ensures ∙ c.if-not-is_ok.false in
    let link_ok : is_ok (link_of c.args.client k j one.state two.state false).reply ≡ true = ap is_ok (sym reply_is) ∙ ok in
    let index : c.count_at-index.result ≡ length t.here.rec.knows.log = c.count_at-index.ensures t.here.rec (first_is v.recs k t.here) in
    let u = view_of c.args.group.now in
    let cause : Receipt = record { sub = k; index = c.count_at-index.result } in
    let came = c.meet-woken.ensures.recs t.recorded.first t.recorded.second (now_is cs long_max s1 s2 xs ys v w now now2 c.args.client k j one two p p' t) (now2_is cs long_max s1 s2 xs ys v w now now2 c.args.client k j one two p p' t) in
    let books = c.meet-woken.ensures.books t.recorded.first t.recorded.second (now_is cs long_max s1 s2 xs ys v w now now2 c.args.client k j one two p p' t) (now2_is cs long_max s1 s2 xs ys v w now now2 c.args.client k j one two p p' t) in
    let sub_is : sub_of t.recorded.first ≡ k = ap (λ (n : ℕ). let x : SubId = record { 0 = n } in x) t.recorded.joined.sub ∙ t.here.sub in
    let sub2_is : sub_of t.recorded.second ≡ j = ap (λ (n : ℕ). let x : SubId = record { 0 = n } in x) t.recorded.joined_other.sub ∙ t.there.sub in
    let book = books.0 ∙ ap (λ (x : SubId). v.book ++ Out x ∷ []) sub_is in
    let book2 = books.1 ∙ ap (λ (x : SubId). w.book ++ Out x ∷ []) sub2_is in
    let book3 = books.2 ∙ ap (λ (z : SubId × SubId). u.book ++ In z.0 ∷ In z.1 ∷ []) (λ i. (sub_is i, sub2_is i)) in
    met_meeting cs long_max s1 s2 xs ys v w now now2 c.args.client k j one two p p' t (view_of c.meet-woken.new.first) (view_of c.meet-woken.new.second) u (view_of c.meet-woken.new.group) c.linked-link.result.reply c.meet-woken.result came.0 came.1 cause reply_is ok refl index came.2 came.3 came.4 book book2 book3 (c.meet-woken.ensures.woken xs ys in1.stand in2.stand)

pub returns-clause-members : goal.returns-clause-members
returns-clause-members g c = λ xs ys in1 in2.
    let cs = g.N.FloorName.cards in
    let long_max = g.N.FloorName.long_max in
    let v = view_of c.args.first.now in
    let w = view_of c.args.second.now in
    let k = c.args.sub in
    let j = c.args.other in
    let one = c.page_at-one.result in
    let two = c.page_at-two.result in
    let p = c.args.pass.now in
    let p' = c.record_link.new.pass in
    let now = c.record_link.new.recs.items in
    let now2 = c.record_link.new.others.items in
    let s1 = c.args.first.now.serial in
    let s2 = c.args.second.now.serial in
    let shows : (m : SubId) (zs : List ModelMember) → slice_get (numbers_of v.members) 0 ≡ Some m → AllStandFor v.members zs → IsPageIn one (stream_of m zs) =
    subst (λ (ms : List (Member AnyCard ghosts)). (m : SubId) (zs : List ModelMember) → slice_get (numbers_of ms) 0 ≡ Some m → AllStandFor ms zs → IsPageIn one (stream_of m zs)) c.members.ensures.members c.page_at-one.ensures.shows in
    let shows2 : (m : SubId) (zs : List ModelMember) → slice_get (numbers_of w.members) 0 ≡ Some m → AllStandFor w.members zs → IsPageIn two (stream_of m zs) =
    subst (λ (ms : List (Member AnyCard ghosts)). (m : SubId) (zs : List ModelMember) → slice_get (numbers_of ms) 0 ≡ Some m → AllStandFor ms zs → IsPageIn two (stream_of m zs)) c.members-2.ensures.members c.page_at-two.ensures.shows in
    let t : Telling cs long_max s1 s2 xs ys v w now now2 c.args.client k j one two p p' =
    telling cs long_max s1 s2 xs ys v w now now2 c.args.client k j one two p p' c.linked-link.result in1 in2 c.requires.here.0 c.requires.here.1 c.record_link.ensures.recorded c.linked-link.ensures shows shows2 c.requires.apart c.requires.lone.0 c.requires.lone.1 in
    let reply_is : c.linked-link.result.reply ≡ (link_of c.args.client k j one.state two.state false).reply = ap (λ (l : Linked). l.reply) c.linked-link.ensures in
    let ok : is_ok c.linked-link.result.reply ≡ true = sym c.is_ok.ensures ∙ c.if-not-is_ok.false in
    let link_ok : is_ok (link_of c.args.client k j one.state two.state false).reply ≡ true = ap is_ok (sym reply_is) ∙ ok in
    let u = view_of c.args.group.now in
    let cause : Receipt = record { sub = k; index = c.count_at-index.result } in
    let came = c.meet-woken.ensures.recs t.recorded.first t.recorded.second (now_is cs long_max s1 s2 xs ys v w now now2 c.args.client k j one two p p' t) (now2_is cs long_max s1 s2 xs ys v w now now2 c.args.client k j one two p p' t) in
    let books = c.meet-woken.ensures.books t.recorded.first t.recorded.second (now_is cs long_max s1 s2 xs ys v w now now2 c.args.client k j one two p p' t) (now2_is cs long_max s1 s2 xs ys v w now now2 c.args.client k j one two p p' t) in
    let sub_is : sub_of t.recorded.first ≡ k = ap (λ (n : ℕ). let x : SubId = record { 0 = n } in x) t.recorded.joined.sub ∙ t.here.sub in
    let sub2_is : sub_of t.recorded.second ≡ j = ap (λ (n : ℕ). let x : SubId = record { 0 = n } in x) t.recorded.joined_other.sub ∙ t.there.sub in
    let book = books.0 ∙ ap (λ (x : SubId). v.book ++ Out x ∷ []) sub_is in
    let book2 = books.1 ∙ ap (λ (x : SubId). w.book ++ Out x ∷ []) sub2_is in
    let book3 = books.2 ∙ ap (λ (z : SubId × SubId). u.book ++ In z.0 ∷ In z.1 ∷ []) (λ i. (sub_is i, sub2_is i)) in
    let origin = fresh_streams cs long_max in
    let laws = c.moves.ensures in
    let v' = view_of c.meet-woken.new.first in
    let w' = view_of c.meet-woken.new.second in
    let u' = view_of c.meet-woken.new.group in
    let gone = c.meet-woken.ensures.gone in
    let numbers = c.meet-woken.ensures.numbers in
    let serials = c.meet-woken.ensures.serials in
    let stands = c.meet-woken.ensures.stands xs ys in1.stand in2.stand in
    let nobody : c.requires.group.streams ≡ [] = no_streams c.requires.group.streams (numbers_are u.members c.requires.group.streams c.requires.group.stand ∙ ap (λ (l : List (Member AnyCard ghosts)). numbers_of l) c.requires.empty) in
    let no_recs : u.recs ≡ [] = no_recs_of u.recs (c.requires.group.fits_in.recs_are ∙ ap subs nobody) in
    let empty : FitsIn origin (length cs) c.args.group.now.serial u.number [] [] u.book = subst (λ (z : List ModelMember × List RecView). FitsIn origin (length cs) c.args.group.now.serial u.number z.0 z.1 u.book) (λ i. (nobody i, no_recs i)) c.requires.group.fits_in in
    let a : IsIn origin (length cs) c.meet-woken.new.first.serial v' [] = record {
      stand = subst (λ (l : List (Member AnyCard ghosts)). AllStandFor l []) (sym gone.1) tt;
      fits_in = subst (λ (z : ℕ × ℕ × List RecView). FitsIn origin (length cs) z.0 z.1 [] z.2 v'.book) (λ i. (sym serials.0 i, sym numbers.0 i, sym gone.0 i)) (gone_fits cs long_max s1 s2 xs ys v w now now2 c.args.client k j one two p p' t laws.going v'.book book);
    } in
    let b : IsIn origin (length cs) c.meet-woken.new.second.serial w' [] = record {
      stand = subst (λ (l : List (Member AnyCard ghosts)). AllStandFor l []) (sym gone.3) tt;
      fits_in = subst (λ (z : ℕ × ℕ × List RecView). FitsIn origin (length cs) z.0 z.1 [] z.2 w'.book) (λ i. (sym serials.1 i, sym numbers.1 i, sym gone.2 i)) (gone_fits2 cs long_max s1 s2 xs ys v w now now2 c.args.client k j one two p p' t laws.going w'.book book2);
    } in
    let d : IsIn origin (length cs) c.meet-woken.new.group.serial u' (wake (wake xs ++ wake ys)) = record {
      stand = stands;
      fits_in = subst (λ (z : ℕ × ℕ). FitsIn origin (length cs) z.0 z.1 (wake (wake xs ++ wake ys)) u'.recs u'.book) (λ i. (sym serials.2 i, sym numbers.2 i))
          (met_fits cs long_max s1 s2 xs ys v w now now2 c.args.client k j one two p p' t laws.entries laws.coming laws.streams c.links.ensures.wakes c.steps.ensures.wake c.args.group.now.serial u u' came.0 came.1 cause empty link_ok c.requires.there.0 came.2 came.3 came.4 book3 (all_distinct u'.members (wake (wake xs ++ wake ys)) stands));
    } in (
      subst (λ (zs : List ModelMember). IsIn origin (length cs) c.meet-woken.new.first.serial v' zs) (sym (ap (λ (t : Bool). cond t [] xs) ok)) a,
      subst (λ (zs : List ModelMember). IsIn origin (length cs) c.meet-woken.new.second.serial w' zs) (sym (ap (λ (t : Bool). cond t [] ys) ok)) b,
      subst (λ (zs : List ModelMember). IsIn origin (length cs) c.meet-woken.new.group.serial u' zs) (sym (ap (λ (t : Bool). cond t (wake (wake xs ++ wake ys)) []) ok)) d,
    )

pub returns-clause-pass : goal.returns-clause-pass
returns-clause-pass g c =
    let cs = g.N.FloorName.cards in
    let long_max = g.N.FloorName.long_max in
    let v = view_of c.args.first.now in
    let w = view_of c.args.second.now in
    let k = c.args.sub in
    let j = c.args.other in
    let one = c.page_at-one.result in
    let two = c.page_at-two.result in
    let p = c.args.pass.now in
    let p' = c.record_link.new.pass in
    let now = c.record_link.new.recs.items in
    let now2 = c.record_link.new.others.items in
    let s1 = c.args.first.now.serial in
    let s2 = c.args.second.now.serial in
    let shows : (m : SubId) (zs : List ModelMember) → slice_get (numbers_of v.members) 0 ≡ Some m → AllStandFor v.members zs → IsPageIn one (stream_of m zs) =
    subst (λ (ms : List (Member AnyCard ghosts)). (m : SubId) (zs : List ModelMember) → slice_get (numbers_of ms) 0 ≡ Some m → AllStandFor ms zs → IsPageIn one (stream_of m zs)) c.members.ensures.members c.page_at-one.ensures.shows in
    let shows2 : (m : SubId) (zs : List ModelMember) → slice_get (numbers_of w.members) 0 ≡ Some m → AllStandFor w.members zs → IsPageIn two (stream_of m zs) =
    subst (λ (ms : List (Member AnyCard ghosts)). (m : SubId) (zs : List ModelMember) → slice_get (numbers_of ms) 0 ≡ Some m → AllStandFor ms zs → IsPageIn two (stream_of m zs)) c.members-2.ensures.members c.page_at-two.ensures.shows in
    let xs = c.requires.first.streams in
    let ys = c.requires.second.streams in
    let in1 : IsIn (fresh_streams cs long_max) (length cs) s1 v xs = record { stand = c.requires.first.stand; fits_in = c.requires.first.fits_in } in
    let in2 : IsIn (fresh_streams cs long_max) (length cs) s2 w ys = record { stand = c.requires.second.stand; fits_in = c.requires.second.fits_in } in
    let t : Telling cs long_max s1 s2 xs ys v w now now2 c.args.client k j one two p p' =
    telling cs long_max s1 s2 xs ys v w now now2 c.args.client k j one two p p' c.linked-link.result in1 in2 c.requires.here.0 c.requires.here.1 c.record_link.ensures.recorded c.linked-link.ensures shows shows2 c.requires.apart c.requires.lone.0 c.requires.lone.1 in
    let reply_is : c.linked-link.result.reply ≡ (link_of c.args.client k j one.state two.state false).reply = ap (λ (l : Linked). l.reply) c.linked-link.ensures in
    let index : c.count_at-index.result ≡ length t.here.rec.knows.log = c.count_at-index.ensures t.here.rec (first_is v.recs k t.here) in
    link_known cs long_max s1 s2 xs ys v w now now2 c.args.client k j one two p p' t c.moves.ensures.entries c.moves.ensures.log c.linked-link.result.reply (record { sub = k; index = c.count_at-index.result }) reply_is refl index

pub returns-clause-receipt : goal.returns-clause-receipt
returns-clause-receipt g c =
    let cs = g.N.FloorName.cards in
    let long_max = g.N.FloorName.long_max in
    let v = view_of c.args.first.now in
    let w = view_of c.args.second.now in
    let k = c.args.sub in
    let j = c.args.other in
    let one = c.page_at-one.result in
    let two = c.page_at-two.result in
    let p = c.args.pass.now in
    let p' = c.record_link.new.pass in
    let now = c.record_link.new.recs.items in
    let now2 = c.record_link.new.others.items in
    let s1 = c.args.first.now.serial in
    let s2 = c.args.second.now.serial in
    let shows : (m : SubId) (zs : List ModelMember) → slice_get (numbers_of v.members) 0 ≡ Some m → AllStandFor v.members zs → IsPageIn one (stream_of m zs) =
    subst (λ (ms : List (Member AnyCard ghosts)). (m : SubId) (zs : List ModelMember) → slice_get (numbers_of ms) 0 ≡ Some m → AllStandFor ms zs → IsPageIn one (stream_of m zs)) c.members.ensures.members c.page_at-one.ensures.shows in
    let shows2 : (m : SubId) (zs : List ModelMember) → slice_get (numbers_of w.members) 0 ≡ Some m → AllStandFor w.members zs → IsPageIn two (stream_of m zs) =
    subst (λ (ms : List (Member AnyCard ghosts)). (m : SubId) (zs : List ModelMember) → slice_get (numbers_of ms) 0 ≡ Some m → AllStandFor ms zs → IsPageIn two (stream_of m zs)) c.members-2.ensures.members c.page_at-two.ensures.shows in
    let xs = c.requires.first.streams in
    let ys = c.requires.second.streams in
    let in1 : IsIn (fresh_streams cs long_max) (length cs) s1 v xs = record { stand = c.requires.first.stand; fits_in = c.requires.first.fits_in } in
    let in2 : IsIn (fresh_streams cs long_max) (length cs) s2 w ys = record { stand = c.requires.second.stand; fits_in = c.requires.second.fits_in } in
    let t : Telling cs long_max s1 s2 xs ys v w now now2 c.args.client k j one two p p' =
    telling cs long_max s1 s2 xs ys v w now now2 c.args.client k j one two p p' c.linked-link.result in1 in2 c.requires.here.0 c.requires.here.1 c.record_link.ensures.recorded c.linked-link.ensures shows shows2 c.requires.apart c.requires.lone.0 c.requires.lone.1 in
    let index : c.count_at-index.result ≡ length t.here.rec.knows.log = c.count_at-index.ensures t.here.rec (first_is v.recs k t.here) in
    (refl, index ∙ ap length (sym (log_in_alone v.recs k t.here)))
