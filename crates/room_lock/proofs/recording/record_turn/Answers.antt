use Rattle.std.proofs.Common.{◌≡◌, ◌<◌, ℕ, List, length, length-set, slice_get, get_or, Some, sym, ap, ◌∙◌, subst, arith}
use Rattle.pcm_base.specs.declared.ids.SubId.{SubId}
use Rattle.pcm_base.specs.declared.state.State.{State}
use Rattle.pcm_base.specs.model.Group.{stream_of}
use Rattle.pcm_base.specs.model.Stream.{Stream}
use Rattle.floor_rule.specs.declared.entry.Entry.{Entry}
use Rattle.floor_rule.specs.declared.entry.Entry.TheVariants as entry
use Rattle.floor_rule.specs.declared.entry.Joint.{Joint}
use Rattle.floor_rule.specs.declared.rule.Marked.{Marked}
use Rattle.room_parts.specs.Recs.{RecView, sub_of, subs_of}
use Rattle.room_lock.specs.Joined.{HasOwn}
use Rattle.card_emul.specs.declared.any_card.AnyCard.{AnyCard}
use Rattle.card_emul.specs.contracts.any_card.AnyCardCard.TheImpl.{ghosts}
use Rattle.pcm_stream.specs.declared.members.Member.{Member}
use Rattle.pcm_stream.specs.Members.{members_of, numbers_of}
use Rattle.room_lock.proofs.Records.{all_voted, few_voted, get_map, length_map}
use Rattle.room_lock.specs.Joints.{AreVotes, joints_at}
use Rattle.room_lock.specs.Recorded.{IsOwnRecorded, called}
use Rattle.room_lock.specs.Shared.{SharedTo, shared_by}
use Rattle.room_lock.proofs.RecLemmas.{found, get_other, get_set, no_rec, some_one}
use Rattle.room_lock.proofs.SharedLemmas.{get_last, subs_set}
use Rattle.room_lock.proofs.recording.record_turn.Goals as goal

pub count_at-place-requires-clause-room : goal.count_at-place-requires-clause-room
count_at-place-requires-clause-room g c = λ a at. c.requires.room c.args.own a at

pub page_at-page-requires-clause-place : goal.page_at-page-requires-clause-place
page_at-page-requires-clause-place g c =
    let many = ap length c.requires.members in
    let subs_ = length_map sub_of c.args.recs.now.items in
    let numbers = length_map (λ (m : Member AnyCard ghosts). m.sub) (members_of c.args.members.now) in
    omega (arith, many, subs_, numbers, c.requires.own)

pub joints-requires-clause-voted : goal.joints-requires-clause-voted
joints-requires-clause-voted g c = all_voted (length c.args.recs.now.items) c.args.acts.now c.args.own c.requires.voted c.requires.own

pub note_acts-requires-clause-voted : goal.note_acts-requires-clause-voted
note_acts-requires-clause-voted g c = few_voted (length c.args.recs.now.items) c.args.acts.now c.requires.voted c.requires.members_few

pub record_own-requires-clause-room : goal.record_own-requires-clause-room
record_own-requires-clause-room g c = λ a at. c.requires.room c.args.own a at

pub share_all-requires-clause-own : goal.share_all-requires-clause-own
share_all-requires-clause-own g c =
    let xs = c.args.recs.now.items in
    let did = c.record_own.ensures.recorded (get_or xs c.args.own no_rec) (found xs c.args.own c.requires.own) in
    let size : length c.record_own.new.recs.items ≡ length xs = ap length did.recs ∙ length-set xs c.args.own did.rec in
    subst (λ (n : ℕ). c.args.own < n) (sym size) c.requires.own

pub share_all-requires-clause-members : goal.share_all-requires-clause-members
share_all-requires-clause-members g c =
    let xs = c.args.recs.now.items in
    let r = get_or xs c.args.own no_rec in
    let at = found xs c.args.own c.requires.own in
    let did = c.record_own.ensures.recorded r at in
    ap subs_of did.recs ∙ subs_set xs c.args.own r did.rec at did.joined.sub ∙ c.requires.members

pub share_all-requires-clause-room : goal.share_all-requires-clause-room
share_all-requires-clause-room g c = λ i q ne there.
    let xs = c.args.recs.now.items in
    let did = c.record_own.ensures.recorded (get_or xs c.args.own no_rec) (found xs c.args.own c.requires.own) in
    c.requires.room i q (sym (ap (λ (l : List RecView). slice_get l i) did.recs ∙ get_other xs c.args.own i did.rec ne) ∙ there)

pub share_all-requires-clause-voted : goal.share_all-requires-clause-voted
share_all-requires-clause-voted g c =
    let xs = c.args.recs.now.items in
    let did = c.record_own.ensures.recorded (get_or xs c.args.own no_rec) (found xs c.args.own c.requires.own) in
    let size : length c.record_own.new.recs.items ≡ length xs = ap length did.recs ∙ length-set xs c.args.own did.rec in
    subst (λ (n : ℕ). AreVotes n c.args.acts.now) (sym size) c.requires.voted

pub share_all-requires-clause-own_entry : goal.share_all-requires-clause-own_entry
share_all-requires-clause-own_entry g c = λ a there.
    let xs = c.args.recs.now.items in
    let r = get_or xs c.args.own no_rec in
    let at = found xs c.args.own c.requires.own in
    let did = c.record_own.ensures.recorded r at in
    let e : Entry = entry.Own c.args.event.now c.args.bytes c.joints.result c.args.reply c.page_at-page.result.state in
    let m : Marked = called c.args.pass.now.knows c.args.count e c.page_at-page.result.state c.page_at-page.result.hw in
    let same = some_one did.rec a (sym (ap (λ (l : List RecView). slice_get l c.args.own) did.recs ∙ get_set xs c.args.own did.rec c.requires.own) ∙ there) in
    let stands : slice_get did.rec.knows.log c.count_at-place.result ≡ Some m = ap (λ (z : List Marked × ℕ). slice_get z.0 z.1) (λ j. (did.joined.log j, c.count_at-place.ensures r at j)) ∙ get_last r.knows.log m in
    subst (HasOwn c.args.event.now.sub.0 c.count_at-place.result (joints_at c.args.own c.args.number c.args.serial c.args.acts.now)) same
    (did.joined.sub ∙ ap (λ (k : SubId). k.0) (c.requires.sub r at).1, (m, stands, c.joints.ensures))

pub returns-clause-recorded : goal.returns-clause-recorded
returns-clause-recorded g c = λ r at xs st.
    let rs = c.args.recs.now.items in
    let ev = c.args.event.now in
    let s : Stream = stream_of ev.sub xs in
    let numbers : slice_get (numbers_of (members_of c.args.members.now)) c.args.own ≡ Some ev.sub =
    ap (λ (l : List SubId). slice_get l c.args.own) (sym c.requires.members) ∙ get_map sub_of rs c.args.own r at ∙ ap Some (c.requires.sub r at).1 in
    let page = c.page_at-page.ensures.shows ev.sub xs numbers st in
    let did = c.record_own.ensures.recorded r at in
    record {
      mid = c.record_own.new.recs.items;
      first = subst (λ (z : List Joint × State × ℕ). IsOwnRecorded c.args.own ev c.args.count (entry.Own ev c.args.bytes z.0 c.args.reply z.1) z.1 z.2 r rs c.record_own.new.recs.items c.args.pass.now c.record_own.new.pass)
          (λ j. (c.joints.ensures j, page.state j, page.hw j)) did;
      others = subst (λ (z : SubId × ℕ). SharedTo (length c.record_own.new.recs.items) c.args.own (shared_by xs c.args.number c.args.serial c.args.acts.now z.0 z.1) c.record_own.new.recs.items c.share_all.new.recs.items)
          (λ j. (sym (c.requires.sub r at).1 j, c.count_at-place.ensures r at j)) (c.share_all.ensures.shared xs st);
      own_same = c.share_all.ensures.same;
      size = c.share_all.ensures.size;
    }

pub share_all-requires-clause-card : goal.share_all-requires-clause-card
share_all-requires-clause-card g c =
    let rs = c.args.recs.now.items in
    let own = c.requires.sub (get_or rs c.args.own no_rec) (found rs c.args.own c.requires.own) in
    let same : (get_or rs c.args.own no_rec).knows.sub ≡ c.args.event.now.sub.0 = ap (λ (k : SubId). k.0) own.1 in
    let low = own.0 in
    omega (arith, low, same)
