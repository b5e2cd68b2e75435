use Rattle.std.proofs.Common.{◌≡◌, subst}
use Rattle.pcm_base.specs.declared.ids.ClientId.{ClientId}
use Rattle.pcm_base.specs.declared.reply.Reply.{Reply}
use Rattle.pcm_base.specs.model.Group.{group_step, stream_of}
use Rattle.pcm_stream.specs.MembersStand.{AllStandFor}
use Rattle.pcm_group.specs.Bytes.{bytes_left}
use Rattle.pcm_group.specs.Inside.{members_in}
use Rattle.pcm_group.specs.Lent.{Loads}
use Rattle.pcm_group.specs.Stepped.{IsTurn}
use Rattle.room_book.specs.Logs.{client_of}
use Rattle.room_lock.proofs.FreeLemmas.{caller_is}
use Rattle.room_lock.proofs.MakeLemmas.{has_length}
use Rattle.room_lock.proofs.TellLemmas.{tells}
use Rattle.room_lock.proofs.stepping.step.Goals as goal

pub step-requires-clause-length : goal.step-requires-clause-length
step-requires-clause-length c = λ xs st. (let h = c.requires.lent xs st in has_length c.args.event.now.call (client_of c.args.event.now.client) (stream_of c.args.event.now.sub xs) h.0 c.args.io.now h.1)

pub returns-clause-made : goal.returns-clause-made
returns-clause-made c = λ xs st told.
    let e = c.args.event.now in
    let io = c.args.io.now in
    let all = tells (members_in c.args.group.now) in
    let did = c.step.ensures in
    let who = caller_is e.client in
    let turn = subst (λ (d : ClientId). IsTurn e.call (group_step e.call d e.sub io xs) c.step.result) who (did.turn xs st all told) in
    record {
      turn_is = turn;
      members = subst (λ (d : ClientId). AllStandFor (members_in c.step.new.self) (group_step e.call d e.sub io xs).members) who (did.stands xs st all told);
      left = record {
        left = λ n. subst (λ (d : ClientId). c.step.new.io ≡ bytes_left e.call d (stream_of e.sub xs) (group_step e.call d e.sub io xs).answer io) who (did.transferred xs st all told n);
        loads = subst (λ (r : Reply). Loads e.call (stream_of e.sub xs) r io c.step.new.io) turn.reply (did.loaded xs st);
        same = did.bytes;
        size = c.step.auto.io;
      };
    }
