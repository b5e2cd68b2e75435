-- What an event leaves in a room, from what its contents tell.
use Rattle.std.proofs.Common.{◌≡◌, ◌≤◌, ◌<◌, ℕ, Bool, true, nat_eq, List, [], ◌∷◌, ◌++◌, length, take, drop, map, slice_get, get_or, Some, refl, sym, ap, ◌∙◌, subst, arith}
use Rattle.std.specs.Prelude.{◌&&◌}
use Rattle.std.proofs.lemmas.Bool.Decides.{nat_tests}
use Rattle.std.proofs.lemmas.List.{length-take-le, take_all}
use Rattle.std.proofs.Math.Seq.{take-append_seam}
use Rattle.std.specs.declared.option.Option.{Option}
use Rattle.std.specs.declared.option.Option.TheVariants.{None}
use mathlib.Core.List.{IsPrefix}
use Rattle.pcm_base.specs.declared.call.Event.{Event}
use Rattle.pcm_base.specs.declared.config.CardModel.{CardModel}
use Rattle.pcm_base.specs.declared.ids.SubId.{SubId}
use Rattle.pcm_base.specs.declared.reply.Reply.{Reply}
use Rattle.pcm_base.specs.declared.state.Dir.{Dir}
use Rattle.pcm_base.specs.model.Acts.{subs}
use Rattle.pcm_base.specs.model.Frame.{bytes_of}
use Rattle.pcm_base.specs.model.Group.{GroupStep, stream_of}
use Rattle.pcm_base.specs.model.Program.{Answer}
use Rattle.pcm_base.specs.model.Replay.{Distinct, IsLent, is_member, parts_of, reading_length}
use Rattle.pcm_base.specs.model.Sleep.{mask_of}
use Rattle.pcm_base.specs.model.Stream.{Member, Stream, shown}
use Rattle.pcm_group.specs.Turn.{is_group_call}
use Rattle.pcm_laws.specs.Steps.{MarksLeaveStreams, RunsDecompose}
use Rattle.pcm_stream.specs.Members.{numbers_of}
use Rattle.pcm_stream.specs.MembersStand.{AllStandFor}
use Rattle.floor_rule.specs.Lists.{longest}
use Rattle.floor_rule.specs.declared.entry.EntryMark.{EntryMark}
use Rattle.floor_rule.specs.declared.entry.EntryMark.TheVariants as mark
use Rattle.floor_rule.specs.declared.entry.Joint.{Joint}
use Rattle.floor_rule.specs.declared.rule.Marked.{Marked}
use Rattle.floor_rule.specs.declared.rule.PassKnows.{PassKnows}
use Rattle.room_book.specs.Laws.{LogOfMember, own_entry, step_of}
use Rattle.room_book.specs.Logs.{PlaysLog, Replayed, client_of, nothing}
use Rattle.room_book.specs.Rooms.{LogFits, acts_in, fresh_streams, grown, joints_now, joints_of, log_of, start}
use Rattle.room_book.specs.declared.book.BookEntry.{BookEntry}
use Rattle.room_book.specs.declared.book.BookEntry.TheVariants.{Act}
use Rattle.room_parts.specs.Passes.{PassView, asleep_on}
use Rattle.room_parts.specs.Recs.{RecView, sub_of, subs_of}
use Rattle.room_lock.specs.declared.recording.Receipt.{Receipt}
use Rattle.room_lock.specs.Answers.{front, lent_of, log_in, logs_after, turn_of}
use Rattle.room_lock.specs.Between.{marks_by}
use Rattle.room_lock.specs.Handed.{IsHanded}
use Rattle.room_lock.specs.InRoom.{FitsIn, RoomView}
use Rattle.room_lock.specs.Joints.{joints_at}
use Rattle.room_lock.specs.Known.{Knows, told_log}
use Rattle.room_lock.specs.Parts.{AreLeft, EntryHasMoved}
use Rattle.room_lock.specs.Recorded.{IsRecorded, called, own_of}
use Rattle.room_lock.specs.Shaped.{IsLeft}
use Rattle.room_lock.specs.Turned.{HasTurned}
use Rattle.room_lock.specs.Turning.{bytes_in, logs_of}
use Rattle.room_lock.proofs.AfterTurn.{no_link, none_due}
use Rattle.room_lock.proofs.HandedLemmas.{now_at, own_step, then_at}
use Rattle.room_lock.proofs.HandedWalk.{step_hands, step_sizes}
use Rattle.room_lock.proofs.Making.{place_in, task_fits}
use Rattle.room_lock.proofs.MemberLemmas.{numbers_are}
use Rattle.room_lock.proofs.MovedWalk.{step_moves}
use Rattle.room_lock.proofs.ReadyLemmas.{logs_known, subs_known}
use Rattle.room_lock.proofs.RecLemmas.{found, get_set, no_rec}
use Rattle.room_lock.proofs.Records.{among, get_map, joints_are, log_at_place, logs_grown, number_at}
use Rattle.room_lock.proofs.SharedLemmas.{get_last}
use Rattle.room_lock.proofs.TransferLemmas.{told_is}

-- ---- the bytes that are lent

pub lent_front : (o : Option ℕ) (io : List ℕ) (n : ℕ) → IsLent o (length io) n → take n io ≡ front o io
lent_front None io n h = take_all n io (omega (arith, h))
lent_front (Some k) io n h = ap (λ (m : ℕ). take m io) h.0

pub lent_within : (o : Option ℕ) (count n : ℕ) → IsLent o count n → n ≤ count
lent_within None count n h = omega (arith, h)
lent_within (Some k) count n h = let a = h.0 in let b = h.1 in omega (arith, a, b)

pub both_same : (a b : ℕ) → (nat_eq a a && nat_eq b b) ≡ true
both_same a b =
    let f : nat_eq a a ≡ true = grind (arith, nat_tests) in
    let g : nat_eq b b ≡ true = grind (arith, nat_tests) in
    ap (λ (t : Bool). t && nat_eq b b) f ∙ g

-- ---- the logs with what an event adds that was lent these bytes

abbrev mark_by : Event → List ℕ → ℕ → List Member → PassKnows → EntryMark
mark_by e l count xs p =
    let s : Stream = stream_of e.sub (step_of e l xs).members in
    mark.Called s.state (shown s s.at.hw) p.number (length p.calls) count

abbrev marks_at : Event → List ℕ → List Member → ℕ → SubId → List EntryMark
marks_at e l xs n j =
    let s : Stream = stream_of j (step_of e l xs).members in
    marks_by (parts_of j (subs xs) (step_of e l xs).acts) s.state (shown s s.at.hw) e.sub n

abbrev logs_by : Event → List ℕ → ℕ → List Member → ℕ → List BookEntry → PassKnows → List (List Marked) → List (List Marked)
logs_by e l count xs number book p logs =
    grown e.sub (own_entry e l xs number book (mark_by e l count xs p)) (marks_at e l xs (length (log_of e.sub (subs xs) logs))) number (acts_in book) (subs xs) (step_of e l xs).acts (subs xs) logs

module _ (cs : List (CardModel × Dir)) (long_max : ℕ) (e : Event) (io now : List ℕ) (xs : List Member) (v w : RoomView) (p q : PassView) (reply : Reply) (receipt : Receipt) (woken : ℕ)
    (room : FitsIn (fresh_streams cs long_max) (length cs) (acts_in v.book) v.number xs v.recs v.book) (did : HasTurned e io now xs v w p q reply receipt woken) where
  -- the bytes that the step was lent
  abbrev lent : List ℕ
  lent = take did.lent io

  pub lent_same : take did.lent io ≡ lent_of e xs io
  lent_same = lent_front (reading_length e.call (client_of e.client) (stream_of e.sub xs)) io did.lent did.lent_is

  lent_size : length (take did.lent io) ≡ did.lent
  lent_size = length-take-le did.lent io (lent_within (reading_length e.call (client_of e.client) (stream_of e.sub xs)) (length io) did.lent did.lent_is)

  pub reply_turned : reply ≡ (turn_of e io xs).answer.reply
  reply_turned = did.turned.reply_is ∙ ap (λ (l : List ℕ). (step_of e l xs).answer.reply) lent_same

  pub woken_turned : woken ≡ mask_of (turn_of e io xs).woken
  woken_turned = did.turned.woken_is ∙ ap (λ (l : List ℕ). mask_of (step_of e l xs).woken) lent_same

  pub book_turned : w.book ≡ v.book ++ map Act (turn_of e io xs).acts
  book_turned = did.turned.stepped.book ∙ ap (λ (l : List ℕ). v.book ++ map Act (step_of e l xs).acts) lent_same

  pub members_turned : AllStandFor w.members (turn_of e io xs).members
  members_turned = subst (λ (l : List ℕ). AllStandFor w.members (step_of e l xs).members) lent_same did.turned.members

  -- the rec of the event's substream
  abbrev own : RecView
  own = get_or did.ready did.place no_rec

  own_at : slice_get did.ready did.place ≡ Some (get_or did.ready did.place no_rec)
  own_at = found did.ready did.place did.here

  own_is : sub_of (get_or did.ready did.place no_rec) ≡ e.sub
  own_is = did.own (get_or did.ready did.place no_rec) own_at

  recorded : IsRecorded (step_of e (take did.lent io) xs).members did.place e (length io) (bytes_in e (take did.lent io) xs) (step_of e (take did.lent io) xs).answer.reply (step_of e (take did.lent io) xs).acts v.number (acts_in v.book) (get_or did.ready did.place no_rec) did.ready w.recs p q
  recorded = did.turned.stepped.recorded (get_or did.ready did.place no_rec) own_at

  ready_subs : subs_of did.ready ≡ subs xs
  ready_subs = subs_known v.recs did.ready did.known ∙ room.recs_are

  ready_logs : logs_of did.ready ≡ logs_of v.recs
  ready_logs = logs_known v.recs did.ready did.known

  own_number : slice_get (subs xs) did.place ≡ Some e.sub
  own_number = number_at (subs xs) did.ready did.place own e.sub ready_subs own_at own_is

  -- its log, before and after
  own_log : (get_or did.ready did.place no_rec).knows.log ≡ log_of e.sub (subs xs) (logs_of did.ready)
  own_log = sym (log_at_place (subs xs) (logs_of did.ready) did.place e.sub own.knows.log room.fits.fits.apart own_number (get_map (λ (r : RecView). r.knows.log) did.ready did.place own own_at))

  pub logs_turned : logs_of w.recs ≡ logs_after e io xs v.number v.book p.knows (logs_of v.recs)
  logs_turned =
      let d : GroupStep = step_of e lent xs in
      let own_entry_is : called p.knows (length io) (own_of d.members e (bytes_in e lent xs) (joints_at did.place v.number (acts_in v.book) d.acts) d.answer.reply) (stream_of e.sub d.members).state (shown (stream_of e.sub d.members) (stream_of e.sub d.members).at.hw)
      ≡ own_entry e lent xs v.number v.book (mark_by e lent (length io) xs p.knows) =
      ap (λ (l : List Joint). called p.knows (length io) (own_of d.members e (bytes_in e lent xs) l d.answer.reply) (stream_of e.sub d.members).state (shown (stream_of e.sub d.members) (stream_of e.sub d.members).at.hw))
      (joints_are (subs xs) did.place v.number (acts_in v.book) e.sub d.acts room.fits.fits.apart own_number) in
      let grown_is : logs_of w.recs ≡ logs_by e lent (length io) xs v.number v.book p.knows (logs_of did.ready) =
      logs_grown d.members did.place e (length io) (bytes_in e lent xs) d.answer.reply d.acts v.number (acts_in v.book) own did.ready w.recs p q (subs xs) (marks_at e lent xs (length (log_of e.sub (subs xs) (logs_of did.ready))))
      (own_entry e lent xs v.number v.book (mark_by e lent (length io) xs p.knows)) ready_subs room.fits.fits.apart own_at own_is own_entry_is
      (λ j. ap (λ (l : List Marked). marks_at e lent xs (length l) j) (sym own_log)) recorded in
      grown_is ∙ ap (λ (z : List ℕ × List (List Marked)). logs_by e z.0 (length io) xs v.number v.book p.knows z.1) (λ i. (lent_same i, ready_logs i))

  pub receipt_turned : (receipt.sub ≡ e.sub) × (receipt.index ≡ length (log_in e.sub v.recs))
  receipt_turned =
      let r = did.turned.stepped.receipt_is own own_at in
      let old_log : own.knows.log ≡ log_in e.sub v.recs = own_log ∙ ap (λ (z : List SubId × List (List Marked)). log_of e.sub z.0 z.1) (λ i. (sym room.recs_are i, ready_logs i)) in
      (r.0 ∙ own_is, r.1 ∙ ap length old_log)

  -- the rec of the substream afterwards
  new_at : slice_get w.recs did.place ≡ Some recorded.first.rec
  new_at = recorded.own_same ∙ ap (λ (l : List RecView). slice_get l did.place) recorded.first.recs ∙ get_set did.ready did.place recorded.first.rec did.here

  pub pass_turned : LogOfMember → FitsIn (fresh_streams cs long_max) (length cs) (acts_in w.book) w.number (turn_of e io xs).members w.recs w.book → Knows cs long_max e (length io) reply receipt p q
  pass_turned law fits =
      let origin : SubId → Stream = fresh_streams cs long_max in
      let ms : List Member = (turn_of e io xs).members in
      let cb = recorded.first.called_by in
      let r = did.turned.stepped.receipt_is own own_at in
      let is : sub_of recorded.first.rec ≡ e.sub = ap (λ (n : ℕ). let k : SubId = record { 0 = n } in k) recorded.first.joined.sub ∙ own_is in
      let number_is : slice_get (subs ms) did.place ≡ Some e.sub = number_at (subs ms) w.recs did.place recorded.first.rec e.sub fits.recs_are new_at is in
      let new_log : log_of e.sub (subs ms) (logs_of w.recs) ≡ recorded.first.rec.knows.log = log_at_place (subs ms) (logs_of w.recs) did.place e.sub recorded.first.rec.knows.log fits.fits.fits.apart number_is
      (get_map (λ (x : RecView). x.knows.log) w.recs did.place recorded.first.rec new_at) in
      let sub_is : receipt.sub.0 ≡ own.knows.sub = ap (λ (k : SubId). k.0) r.0 in
      let told : told_log receipt q.knows ≡ recorded.first.rec.knows.log = ap (λ (n : ℕ). longest n q.knows.held.logs) sub_is ∙ cb.list in
      let fit : LogFits origin w.number w.book e.sub (log_of e.sub (subs ms) (logs_of w.recs)) (stream_of e.sub ms) = law origin w.number ms (logs_of w.recs) w.book e.sub fits.fits.fits (among (subs ms) did.place e.sub number_is) in
      let end : Replayed = record { stream = stream_of e.sub ms; room = w.number; since = joints_now e.sub w.number w.book; due = nothing } in
      let entry : Marked = called p.knows (length io) (own_of (step_of e lent xs).members e (bytes_in e lent xs) (joints_at did.place v.number (acts_in v.book) (step_of e lent xs).acts) (step_of e lent xs).answer.reply)
      (stream_of e.sub (step_of e lent xs).members).state (shown (stream_of e.sub (step_of e lent xs).members) (stream_of e.sub (step_of e lent xs).members).at.hw) in
      let there : slice_get (told_log receipt q.knows) receipt.index ≡ Some entry =
      ap (λ (z : List Marked × ℕ). slice_get z.0 z.1) (λ i. ((told ∙ recorded.first.joined.log) i, r.1 i)) ∙ get_last own.knows.log entry in
      record {
        same = (cb.caller, cb.number, cb.reads);
        busy = cb.busy ∙ ap (asleep_on e.sub) (sym did.turned.reply_is);
        calls = cb.calls;
        receipts = cb.receipts ∙ ap (λ (z : ℕ × ℕ). p.knows.receipts ++ (z.0, z.1) ∷ []) (λ i. (sym sub_is i, sym r.1 i));
        plays = (end, subst (λ (z : SubId × List Marked). PlaysLog z.0 (start origin z.0) z.1 end) (λ i. (sym (r.0 ∙ own_is) i, (new_log ∙ sym told) i)) fit);
        onward = subst (λ (n : ℕ). IsPrefix (longest n p.knows.held.logs) (longest n q.knows.held.logs)) (sym sub_is) cb.onward;
        held = cb.held;
        has = record {
          entry = entry;
          at = there;
          tells = (refl, sym did.turned.reply_is);
          call = both_same p.knows.number (length p.knows.calls);
          count_is = refl;
        };
      }

  -- the pass's list of the log is that of the member
  pub told_turned : FitsIn (fresh_streams cs long_max) (length cs) (acts_in w.book) w.number (turn_of e io xs).members w.recs w.book → told_log receipt q.knows ≡ log_in e.sub w.recs
  told_turned fits =
      let ms : List Member = (turn_of e io xs).members in
      let cb = recorded.first.called_by in
      let r = did.turned.stepped.receipt_is own own_at in
      let is : sub_of recorded.first.rec ≡ e.sub = ap (λ (n : ℕ). let k : SubId = record { 0 = n } in k) recorded.first.joined.sub ∙ own_is in
      let number_is : slice_get (subs ms) did.place ≡ Some e.sub = number_at (subs ms) w.recs did.place recorded.first.rec e.sub fits.recs_are new_at is in
      let new_log : log_of e.sub (subs ms) (logs_of w.recs) ≡ recorded.first.rec.knows.log = log_at_place (subs ms) (logs_of w.recs) did.place e.sub recorded.first.rec.knows.log fits.fits.fits.apart number_is
      (get_map (λ (x : RecView). x.knows.log) w.recs did.place recorded.first.rec new_at) in
      let sub_is : receipt.sub.0 ≡ own.knows.sub = ap (λ (k : SubId). k.0) r.0 in
      ap (λ (n : ℕ). longest n q.knows.held.logs) sub_is ∙ cb.list ∙ sym new_log ∙ ap (λ (ks : List SubId). log_of e.sub ks (logs_of w.recs)) (sym fits.recs_are)

  -- ---- bytes

  -- the own entry plays from the log before, its event being lent the front of the bytes
  pub handed_turned : RunsDecompose → MarksLeaveStreams → LogOfMember → is_group_call e.call ≡ true → IsHanded cs long_max e.sub (told_log receipt q.knows) receipt.index io
  handed_turned runs marks law is_call =
      let origin : SubId → Stream = fresh_streams cs long_max in
      let d : GroupStep = step_of e lent xs in
      let o : Option ℕ = reading_length e.call (client_of e.client) (stream_of e.sub xs) in
      let got : List Joint = joints_now e.sub v.number v.book in
      let joints : List Joint = joints_at did.place v.number (acts_in v.book) d.acts in
      let joints_is : joints ≡ joints_of e.sub v.number (acts_in v.book) (subs xs) d.acts = joints_are (subs xs) did.place v.number (acts_in v.book) e.sub d.acts room.fits.fits.apart own_number in
      let cb = recorded.first.called_by in
      let r = did.turned.stepped.receipt_is own own_at in
      let entry : Marked = called p.knows (length io) (own_of d.members e (bytes_in e lent xs) joints d.answer.reply) (stream_of e.sub d.members).state (shown (stream_of e.sub d.members) (stream_of e.sub d.members).at.hw) in
      let told : told_log receipt q.knows ≡ own.knows.log ++ entry ∷ [] = ap (λ (k : SubId). longest k.0 q.knows.held.logs) r.0 ∙ cb.list ∙ recorded.first.joined.log in
      let log_is : take receipt.index (told_log receipt q.knows) ≡ log_of e.sub (subs xs) (logs_of v.recs) =
      ap (λ (z : ℕ × List Marked). take z.0 z.1) (λ i. (r.1 i, told i)) ∙ take-append_seam own.knows.log (entry ∷ []) ∙ own_log ∙ ap (λ (ls : List (List Marked)). log_of e.sub (subs xs) ls) ready_logs in
      let member : is_member e.sub (subs xs) ≡ true = among (subs xs) did.place e.sub own_number in
      let fit : LogFits origin v.number v.book e.sub (log_of e.sub (subs xs) (logs_of v.recs)) (stream_of e.sub xs) = law origin v.number xs (logs_of v.recs) v.book e.sub room.fits.fits member in
      let lent_is : IsLent o (length io) (length lent) = subst (λ (n : ℕ). IsLent o (length io) n) (sym lent_size) did.lent_is in
      let step = own_step runs marks v.number (length io) e lent xs room.fits.fits.apart member room.fits.size (no_link e.call is_call) lent_is (acts_in v.book) joints joints_is got (none_due e.call d.answer.reply is_call) in
      record {
        event = e;
        bytes = bytes_in e lent xs;
        joints = joints;
        reply = d.answer.reply;
        state = (stream_of e.sub d.members).state;
        mark = mark_by e lent (length io) xs p.knows;
        at = ap (λ (z : List Marked × ℕ). slice_get z.0 z.1) (λ i. (told i, r.1 i)) ∙ get_last own.knows.log entry;
        before = now_at e xs v.number got;
        after = then_at e lent xs v.number (got ++ joints);
        plays = subst (λ (l : List Marked). PlaysLog e.sub (start origin e.sub) l (now_at e xs v.number got)) (sym log_is) fit;
        step = step.0;
        lent = step.1 ∙ lent_same;
      }

  pub left_turned : length now ≡ length io → AreLeft e io now xs
  left_turned size =
      let o : Option ℕ = reading_length e.call (client_of e.client) (stream_of e.sub xs) in
      let now_same : take did.lent now ≡ lent_of e xs now = lent_front o now did.lent (subst (λ (n : ℕ). IsLent o n did.lent) (sym size) did.lent_is) in
      let n_is : did.lent ≡ length (lent_of e xs io) = sym lent_size ∙ ap length lent_same in
      record {
        front = subst (λ (z : List ℕ × List ℕ). IsLeft e.call (client_of e.client) (stream_of e.sub xs) (step_of e z.0 xs).answer z.0 z.1) (λ i. (lent_same i, now_same i)) did.turned.left;
        rest = subst (λ (n : ℕ). drop n now ≡ drop n io) n_is did.turned.rest;
      }

  pub moved_turned : length now ≡ length io → AllStandFor v.members xs → EntryHasMoved e io now xs
  moved_turned size st shape sh =
      let c = client_of e.client in
      let s : Stream = stream_of e.sub xs in
      let o : Option ℕ = reading_length e.call c s in
      let l : List ℕ = lent_of e xs io in
      let a : Answer = (step_of e l xs).answer in
      let numbers : subs_of did.ready ≡ numbers_of v.members = ready_subs ∙ numbers_are v.members xs st in
      let d : Distinct (numbers_of v.members) = subst (λ (ks : List SubId). Distinct ks) (numbers_are v.members xs st) room.fits.fits.apart in
      let lt : did.place < length v.members = place_in v.members did.ready did.place numbers did.here in
      let number_is : slice_get (numbers_of v.members) did.place ≡ Some e.sub = number_at (numbers_of v.members) did.ready did.place own e.sub numbers own_at own_is in
      let count_is : did.lent ≡ length l = sym lent_size ∙ ap length lent_same in
      let lent_is : IsLent o (length io) (length l) = subst (λ (n : ℕ). IsLent o (length io) n) count_is did.lent_is in
      sym (told_is e.call c s shape (length io) l (lent_of e xs now) (bytes_of a.frames) a sh (step_moves e.call c e.sub l xs) (step_sizes e.call c e.sub l xs) (step_hands e.call c e.sub l xs) lent_is
      (task_fits v.members xs did.place e.sub c d st lt number_is) (left_turned size).front (λ t. refl))
