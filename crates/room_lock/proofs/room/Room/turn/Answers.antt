use Rattle.std.proofs.Common.{◌≡◌, ℕ, List, length, sym, ap, subst, arith}
use Rattle.pcm_base.specs.model.Stream.{Member}
use Rattle.room_book.specs.Rooms.{fresh_streams}
use Rattle.room_parts.specs.Passes.{PassView}
use Rattle.room_lock.specs.Answers.{OnFull, log_in, turn_of}
use Rattle.room_lock.specs.Handed.{IsHanded}
use Rattle.room_lock.specs.Ready.{IsFull}
use Rattle.room_lock.specs.Refused.{IsRefused}
use Rattle.room_lock.specs.InRoom.{FitsIn, RoomView}
use Rattle.room_lock.specs.Inside.{view_of}
use Rattle.room_lock.specs.Known.{Knows, told_log}
use Rattle.room_lock.proofs.DoneLemmas.{book_turned, handed_turned, left_turned, logs_turned, members_turned, moved_turned, pass_turned, receipt_turned, reply_turned, told_turned, woken_turned}
use Rattle.room_lock.proofs.RoomLemmas.{acts_fit, done_of, fit_of, full_of, memory_of, on_all, on_both, room_of}
use Rattle.room_lock.proofs.TurnLemmas.{on_done}
use Rattle.room_lock.proofs.room.Room.turn.Goals as goal

pub returns-clause-reply : goal.returns-clause-reply
returns-clause-reply g c = λ xs room.
    let cs = g.N.FloorName.cards in
    let long_max = g.N.FloorName.long_max in
    let e = c.args.event.now in
    let v = c.args.self.now in
    let w = view_of c.turn.new.self in
    let did = done_of cs long_max c.turn.result e c.args.io.now c.turn.new.io c.self.inside.inside.serial (view_of c.self.inside.inside) v w c.args.pass.now c.turn.new.pass c.self.view_is c.self.invariant.fits_in.acts c.turn.ensures.done xs room in
    on_done c.turn.result _ _ (λ reply receipt woken d. reply_turned cs long_max e c.args.io.now c.turn.new.io xs v w c.args.pass.now c.turn.new.pass reply receipt woken room.fits_in d) did

pub returns-clause-woken : goal.returns-clause-woken
returns-clause-woken g c = λ xs room.
    let cs = g.N.FloorName.cards in
    let long_max = g.N.FloorName.long_max in
    let e = c.args.event.now in
    let v = c.args.self.now in
    let w = view_of c.turn.new.self in
    let did = done_of cs long_max c.turn.result e c.args.io.now c.turn.new.io c.self.inside.inside.serial (view_of c.self.inside.inside) v w c.args.pass.now c.turn.new.pass c.self.view_is c.self.invariant.fits_in.acts c.turn.ensures.done xs room in
    on_done c.turn.result _ _ (λ reply receipt woken d. woken_turned cs long_max e c.args.io.now c.turn.new.io xs v w c.args.pass.now c.turn.new.pass reply receipt woken room.fits_in d) did

pub returns-clause-book : goal.returns-clause-book
returns-clause-book g c = λ xs room.
    let cs = g.N.FloorName.cards in
    let long_max = g.N.FloorName.long_max in
    let e = c.args.event.now in
    let v = c.args.self.now in
    let w = view_of c.turn.new.self in
    let did = done_of cs long_max c.turn.result e c.args.io.now c.turn.new.io c.self.inside.inside.serial (view_of c.self.inside.inside) v w c.args.pass.now c.turn.new.pass c.self.view_is c.self.invariant.fits_in.acts c.turn.ensures.done xs room in
    on_done c.turn.result _ _ (λ reply receipt woken d. book_turned cs long_max e c.args.io.now c.turn.new.io xs v w c.args.pass.now c.turn.new.pass reply receipt woken room.fits_in d) did

pub returns-clause-logs : goal.returns-clause-logs
returns-clause-logs g c = λ xs room.
    let cs = g.N.FloorName.cards in
    let long_max = g.N.FloorName.long_max in
    let e = c.args.event.now in
    let v = c.args.self.now in
    let w = view_of c.turn.new.self in
    let did = done_of cs long_max c.turn.result e c.args.io.now c.turn.new.io c.self.inside.inside.serial (view_of c.self.inside.inside) v w c.args.pass.now c.turn.new.pass c.self.view_is c.self.invariant.fits_in.acts c.turn.ensures.done xs room in
    on_done c.turn.result _ _ (λ reply receipt woken d. logs_turned cs long_max e c.args.io.now c.turn.new.io xs v w c.args.pass.now c.turn.new.pass reply receipt woken room.fits_in d) did

pub returns-clause-bytes : goal.returns-clause-bytes
returns-clause-bytes g c = λ xs room.
    let cs = g.N.FloorName.cards in
    let long_max = g.N.FloorName.long_max in
    let e = c.args.event.now in
    let v = c.args.self.now in
    let w = view_of c.turn.new.self in
    let did = done_of cs long_max c.turn.result e c.args.io.now c.turn.new.io c.self.inside.inside.serial (view_of c.self.inside.inside) v w c.args.pass.now c.turn.new.pass c.self.view_is c.self.invariant.fits_in.acts c.turn.ensures.done xs room in
    let size : length c.turn.new.io ≡ length c.args.io.now = omega arith in
    on_done c.turn.result _ _ (λ reply receipt woken d. left_turned cs long_max e c.args.io.now c.turn.new.io xs v w c.args.pass.now c.turn.new.pass reply receipt woken room.fits_in d size) did

pub returns-clause-moved : goal.returns-clause-moved
returns-clause-moved g c = λ xs room.
    let cs = g.N.FloorName.cards in
    let long_max = g.N.FloorName.long_max in
    let e = c.args.event.now in
    let v = c.args.self.now in
    let w = view_of c.turn.new.self in
    let did = done_of cs long_max c.turn.result e c.args.io.now c.turn.new.io c.self.inside.inside.serial (view_of c.self.inside.inside) v w c.args.pass.now c.turn.new.pass c.self.view_is c.self.invariant.fits_in.acts c.turn.ensures.done xs room in
    let size : length c.turn.new.io ≡ length c.args.io.now = omega arith in
    on_done c.turn.result _ _ (λ reply receipt woken d. moved_turned cs long_max e c.args.io.now c.turn.new.io xs v w c.args.pass.now c.turn.new.pass reply receipt woken room.fits_in d size room.stand) did

pub returns-clause-room : goal.returns-clause-room
returns-clause-room g c = λ xs room.
    let cs = g.N.FloorName.cards in
    let long_max = g.N.FloorName.long_max in
    let e = c.args.event.now in
    let v = c.args.self.now in
    let w = view_of c.turn.new.self in
    let did = done_of cs long_max c.turn.result e c.args.io.now c.turn.new.io c.self.inside.inside.serial (view_of c.self.inside.inside) v w c.args.pass.now c.turn.new.pass c.self.view_is c.self.invariant.fits_in.acts c.turn.ensures.done xs room in
    let origin = fresh_streams cs long_max in
    let P : List Member → Type 0 = λ ys. FitsIn origin (length cs) c.turn.new.self.serial w.number (turn_of e c.args.io.now ys).members w.recs w.book in
    let fit = fit_of cs long_max c.turn.result c.self.inside.inside.serial (view_of c.self.inside.inside) v P c.self.view_is c.self.invariant.fits_in.acts c.turn.ensures.fit xs room in
    on_both c.turn.result _ _ _
    (λ reply receipt woken d f. record {
      stand = members_turned cs long_max e c.args.io.now c.turn.new.io xs v w c.args.pass.now c.turn.new.pass reply receipt woken room.fits_in d;
      fits_in = acts_fit origin (length cs) c.turn.new.self.serial w.number (turn_of e c.args.io.now xs).members w.recs w.book f;
    }) did fit

pub returns-clause-receipt : goal.returns-clause-receipt
returns-clause-receipt g c =
    let cs = g.N.FloorName.cards in
    let long_max = g.N.FloorName.long_max in
    let e = c.args.event.now in
    let v = c.args.self.now in
    let w = view_of c.turn.new.self in
    let xs = c.self.invariant.streams in
    let room = room_of (fresh_streams cs long_max) (length cs) c.self.inside.inside.serial (view_of c.self.inside.inside) v c.self.invariant c.self.view_is in
    let did = done_of cs long_max c.turn.result e c.args.io.now c.turn.new.io c.self.inside.inside.serial (view_of c.self.inside.inside) v w c.args.pass.now c.turn.new.pass c.self.view_is c.self.invariant.fits_in.acts c.turn.ensures.done xs room in
    on_done c.turn.result _ _ (λ reply receipt woken d. receipt_turned cs long_max e c.args.io.now c.turn.new.io xs v w c.args.pass.now c.turn.new.pass reply receipt woken room.fits_in d) did

pub returns-clause-pass : goal.returns-clause-pass
returns-clause-pass g c =
    let cs = g.N.FloorName.cards in
    let long_max = g.N.FloorName.long_max in
    let e = c.args.event.now in
    let v = c.args.self.now in
    let w = view_of c.turn.new.self in
    let xs = c.self.invariant.streams in
    let room = room_of (fresh_streams cs long_max) (length cs) c.self.inside.inside.serial (view_of c.self.inside.inside) v c.self.invariant c.self.view_is in
    let did = done_of cs long_max c.turn.result e c.args.io.now c.turn.new.io c.self.inside.inside.serial (view_of c.self.inside.inside) v w c.args.pass.now c.turn.new.pass c.self.view_is c.self.invariant.fits_in.acts c.turn.ensures.done xs room in
    let origin = fresh_streams cs long_max in
    let P : List Member → Type 0 = λ ys. FitsIn origin (length cs) c.turn.new.self.serial w.number (turn_of e c.args.io.now ys).members w.recs w.book in
    let fit = fit_of cs long_max c.turn.result c.self.inside.inside.serial (view_of c.self.inside.inside) v P c.self.view_is c.self.invariant.fits_in.acts c.turn.ensures.fit xs room in
    on_both c.turn.result _ _ _
    (λ reply receipt woken d f. pass_turned cs long_max e c.args.io.now c.turn.new.io xs v w c.args.pass.now c.turn.new.pass reply receipt woken room.fits_in d c.moves.ensures.log (acts_fit origin (length cs) c.turn.new.self.serial w.number (turn_of e c.args.io.now xs).members w.recs w.book f)) did fit

pub returns-clause-told : goal.returns-clause-told
returns-clause-told g c =
    let cs = g.N.FloorName.cards in
    let long_max = g.N.FloorName.long_max in
    let e = c.args.event.now in
    let v = c.args.self.now in
    let w = view_of c.turn.new.self in
    let xs = c.self.invariant.streams in
    let room = room_of (fresh_streams cs long_max) (length cs) c.self.inside.inside.serial (view_of c.self.inside.inside) v c.self.invariant c.self.view_is in
    let did = done_of cs long_max c.turn.result e c.args.io.now c.turn.new.io c.self.inside.inside.serial (view_of c.self.inside.inside) v w c.args.pass.now c.turn.new.pass c.self.view_is c.self.invariant.fits_in.acts c.turn.ensures.done xs room in
    let origin = fresh_streams cs long_max in
    let P : List Member → Type 0 = λ ys. FitsIn origin (length cs) c.turn.new.self.serial w.number (turn_of e c.args.io.now ys).members w.recs w.book in
    let fit = fit_of cs long_max c.turn.result c.self.inside.inside.serial (view_of c.self.inside.inside) v P c.self.view_is c.self.invariant.fits_in.acts c.turn.ensures.fit xs room in
    on_both c.turn.result _ _ (λ reply receipt woken. told_log receipt c.turn.new.pass.knows ≡ log_in e.sub w.recs)
    (λ reply receipt woken d f. told_turned cs long_max e c.args.io.now c.turn.new.io xs v w c.args.pass.now c.turn.new.pass reply receipt woken room.fits_in d (acts_fit origin (length cs) c.turn.new.self.serial w.number (turn_of e c.args.io.now xs).members w.recs w.book f)) did fit

pub returns-clause-handed : goal.returns-clause-handed
returns-clause-handed g c =
    let cs = g.N.FloorName.cards in
    let long_max = g.N.FloorName.long_max in
    let e = c.args.event.now in
    let v = c.args.self.now in
    let w = view_of c.turn.new.self in
    let xs = c.self.invariant.streams in
    let room = room_of (fresh_streams cs long_max) (length cs) c.self.inside.inside.serial (view_of c.self.inside.inside) v c.self.invariant c.self.view_is in
    let did = done_of cs long_max c.turn.result e c.args.io.now c.turn.new.io c.self.inside.inside.serial (view_of c.self.inside.inside) v w c.args.pass.now c.turn.new.pass c.self.view_is c.self.invariant.fits_in.acts c.turn.ensures.done xs room in
    on_done c.turn.result _ (λ reply receipt woken. IsHanded cs long_max e.sub (told_log receipt c.turn.new.pass.knows) receipt.index c.args.io.now)
    (λ reply receipt woken d. handed_turned cs long_max e c.args.io.now c.turn.new.io xs v w c.args.pass.now c.turn.new.pass reply receipt woken room.fits_in d c.runs.ensures c.marks.ensures.streams c.moves.ensures.log c.requires.call) did

pub returns-clause-caller : goal.returns-clause-caller
returns-clause-caller g c =
    let cs = g.N.FloorName.cards in
    let long_max = g.N.FloorName.long_max in
    let e = c.args.event.now in
    let v = c.args.self.now in
    let w = view_of c.turn.new.self in
    let xs = c.self.invariant.streams in
    let room = room_of (fresh_streams cs long_max) (length cs) c.self.inside.inside.serial (view_of c.self.inside.inside) v c.self.invariant c.self.view_is in
    let did = done_of cs long_max c.turn.result e c.args.io.now c.turn.new.io c.self.inside.inside.serial (view_of c.self.inside.inside) v w c.args.pass.now c.turn.new.pass c.self.view_is c.self.invariant.fits_in.acts c.turn.ensures.done xs room in
    let origin = fresh_streams cs long_max in
    let P : List Member → Type 0 = λ ys. FitsIn origin (length cs) c.turn.new.self.serial w.number (turn_of e c.args.io.now ys).members w.recs w.book in
    let fit = fit_of cs long_max c.turn.result c.self.inside.inside.serial (view_of c.self.inside.inside) v P c.self.view_is c.self.invariant.fits_in.acts c.turn.ensures.fit xs room in
    let known = on_both c.turn.result _ _ (λ reply receipt woken. Knows cs long_max e (length c.args.io.now) reply receipt c.args.pass.now c.turn.new.pass)
    (λ reply receipt woken d f. pass_turned cs long_max e c.args.io.now c.turn.new.io xs v w c.args.pass.now c.turn.new.pass reply receipt woken room.fits_in d c.moves.ensures.log (acts_fit origin (length cs) c.turn.new.self.serial w.number (turn_of e c.args.io.now xs).members w.recs w.book f)) did fit in
    on_all c.turn.result _
    (on_done c.turn.result _ _ (λ reply receipt woken k. (k.same.0, k.same.1)) known)
    (full_of c.turn.result _ _ (λ sub count r. (r.1.calls.3, r.1.calls.0)) c.turn.ensures.refused)
    (memory_of c.turn.result _ _ (λ m. (ap (λ (z : PassView). z.caller) m.2, ap (λ (z : PassView). z.knows.number) m.2)) c.turn.ensures.memory)

pub returns-clause-refused : goal.returns-clause-refused
returns-clause-refused g c =
    subst (λ (v : RoomView). OnFull c.turn.result (λ sub count. (k : ℕ) × IsRefused k v.recs c.turn.new.self.recs.items c.args.pass.now c.turn.new.pass sub count)) c.self.view_is c.turn.ensures.refused

pub returns-clause-full : goal.returns-clause-full
returns-clause-full g c = λ k is. c.turn.ensures.full k (subst (λ (v : RoomView). IsFull k v.recs) (sym c.self.view_is) is)
