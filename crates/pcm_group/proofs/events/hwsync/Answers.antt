use Rattle.std.proofs.Common.{◌≡◌, ◌≢◌, ◌⊎◌, inl, inr}
use Rattle.pcm_base.specs.declared.act.Updated.{Updated}
use Rattle.pcm_base.specs.declared.act.Updated.TheVariants as updated
use Rattle.pcm_base.specs.declared.call.CallKind.TheVariants as kind
use Rattle.pcm_base.specs.declared.reply.Reply.TheVariants as reply
use Rattle.pcm_base.specs.declared.state.Errno.TheVariants as errno
use Rattle.pcm_base.specs.model.Acts.{table}
use Rattle.pcm_base.specs.model.Group.{stream_of}
use Rattle.pcm_base.specs.model.Program.{says, updated_or_epipe}
use Rattle.pcm_stream.specs.Members.{members_of}
use Rattle.pcm_group.proofs.EndedLemmas.{IsEnded-allowed, IsEnded-epipe, IsEnded-refused, IsEnded-reported, IsEnded-says}
use Rattle.pcm_group.proofs.FaultLemmas.{KeepsCards-same}
use Rattle.pcm_stream.specs.Members.{members_of}
use Rattle.pcm_group.proofs.events.hwsync.Goals as goal

some : (u : Updated) → (u ≡ updated.DrainDone) ⊎ (u ≡ updated.StopXrun) → u ≢ updated.Nothing
some u (inl h) e = let no : ⊥ = cc in no
some u (inr h) e = let no : ⊥ = cc in no

pub returns-in-Err-clause-done : goal.returns-in-Err-clause-done
returns-in-Err-clause-done g c = λ client linked k tells xs h.
    IsEnded-refused tells (table kind.Hwsync (stream_of k xs)) _ c.in-Err.e k xs c.args.acts.now (members_of c.args.members.now) c.args.place h (c.in-Err.ensures k tells xs h)

pub returns-in-Nothing-clause-done : goal.returns-in-Nothing-clause-done
returns-in-Nothing-clause-done g c = λ client linked k tells xs h.
    let u = c.refresh.ensures.updated k tells xs h in
    let ms = members_of c.refresh.new.members in
    IsEnded-allowed tells (table kind.Hwsync (stream_of k xs)) (stream_of k xs) (updated_or_epipe (stream_of k xs) (says reply.Ok)) k xs c.args.acts.now c.refresh.new.acts reply.Ok 0 0 ms (c.in_default.ensures k tells xs h)
    (IsEnded-reported tells (says reply.Ok) c.args.place k xs c.args.acts.now c.refresh.new.acts c.refresh.new.acts c.refresh.result ms ms reply.Ok 0 0 u c.in-Nothing.is
    (IsEnded-says tells k u.left c.refresh.new.acts reply.Ok ms c.args.place u.now))

pub returns-in-DrainDone : goal.returns-in-DrainDone
returns-in-DrainDone g c = record {
  done = λ client linked k tells xs h.
      let u = c.refresh.ensures.updated k tells xs h in
      let ms = members_of c.refresh.new.members in
      IsEnded-allowed tells (table kind.Hwsync (stream_of k xs)) (stream_of k xs) (updated_or_epipe (stream_of k xs) (says reply.Ok)) k xs c.args.acts.now c.refresh.new.acts (reply.Err errno.Epipe) 0 0 ms (c.in_default.ensures k tells xs h)
      (IsEnded-epipe tells (says reply.Ok) c.args.place k xs c.args.acts.now c.refresh.new.acts c.refresh.result ms u (some c.refresh.result c.in-DrainDone.is));
  told = λ e. (let no : ⊥ = cc in no);
  awake = λ e. (let no : ⊥ = cc in no);
  fixed = c.refresh.ensures.fixed;
  cards = c.refresh.ensures.cards;
}

pub returns-in-Err-clause-cards : goal.returns-in-Err-clause-cards
returns-in-Err-clause-cards g c = KeepsCards-same c.args.acts.now (members_of c.args.members.now)
